-- *The copier*: it copies the rows of the range chunk by chunk, in order of the clustered key. It asks where the chunk ends; it
-- begins a transaction, takes the share lock on the whole chunk and gets its keys; it copies one row for each key; and it
-- commits. (gh-ost, "Iterating the table"; the exact steps are this project's rule.)
use Rattle.std.specs.Prelude.{ℕ, ◌+◌, ◌==◌, Bool, true, false, if◌then◌else◌, List, [], length, unwrap_or, Option, Some, None}
use Rattle.std.specs.List.{slice_get}
use Rattle.std.specs.Ordering.{is_eq}
use Rattle.base_values.specs.declared.value.Value.{Value}
use Rattle.base_values.specs.declared.span.Bound.{Bound}
use Rattle.base_values.specs.declared.span.Bound.TheVariants.{Open, Closed}
use Rattle.base_values.specs.KeyOrder.{compare_keys}
use Rattle.base_values.specs.declared.row_conversion.map.MapColumn.{MapColumn}
use Rattle.server_model.specs.declared.request.Request.{Request}
use Rattle.server_model.specs.declared.request.Request.TheVariants as requests
use Rattle.server_model.specs.declared.answer.Answer.{Answer}
use Rattle.server_model.specs.declared.answer.Answer.TheVariants as answers
use Rattle.server_model.specs.declared.entry.Entry.{Entry}
use Rattle.server_model.specs.Entries.{answer_at}
use Rattle.tool_program.specs.declared.chunk_copier.copier.Chunk.{Chunk}
use Rattle.tool_program.specs.declared.chunk_copier.copier.CopyRange.{CopyRange}
use Rattle.tool_program.specs.declared.chunk_copier.copier.CopyStep.{CopyStep}
use Rattle.tool_program.specs.declared.chunk_copier.copier.CopyStep.TheVariants.{Choosing, Spanning, Copying, Committing}
use Rattle.tool_program.specs.declared.chunk_copier.copier.Copier.{Copier}
use Rattle.server_model.specs.declared.outcome.Progress.{Progress}
use Rattle.server_model.specs.declared.outcome.Progress.TheVariants.{Going, TaskDone, TaskFailed, Unfit}
use Rattle.base_values.specs.ToolNames.{ghost_name}
use Rattle.server_model.specs.EarlierAnswers.{keys_in, end_in}

abbrev pub is_empty_range : Option CopyRange → Bool
is_empty_range None = true
is_empty_range (Some range) = false

-- a copier at its start
abbrev pub new_copier : List ℕ → List MapColumn → Option CopyRange → ℕ → Copier
new_copier table map range size =
    record { table = table; map = map; range = range; size = size; number = 1; following = None; is_copied = is_empty_range range; step = Choosing }

-- next it asks where a chunk ends
abbrev pub is_choosing : CopyStep → Bool
is_choosing Choosing = true
is_choosing step = false

abbrev pub starts : Copier → Bool
starts copier = is_choosing copier.step

-- the chunk begins after the end of the one before, or where the copy begins
abbrev pub low_end : List Entry → CopyRange → Option ℕ → Bound
low_end journal range None = range.low
low_end journal range (Some reported) = Open (end_in (answer_at journal reported))

-- the copy of the row of this key
abbrev pub copies : Copier → Option (List Value) → Option Request
copies copier None = None
copies copier (Some key) = Some (requests.CopyRow copier.table (ghost_name copier.table) copier.map key)

-- the key of the row that is copied next
abbrev pub key_at : List Entry → CopyStep → Option (List Value)
key_at journal (Copying chunk copied) = slice_get (keys_in (answer_at journal chunk.reported)) copied
key_at journal step = None

abbrev pub call_at : List Entry → Copier → CopyRange → CopyStep → Option Request
call_at journal copier range Choosing = Some (requests.ChunkEnd copier.table (low_end journal range copier.following) range.top copier.size)
call_at journal copier range (Spanning reported size) =
    Some (requests.BeginSpan copier.table (record { low = low_end journal range copier.following; high = Closed (end_in (answer_at journal reported)) }) size)
call_at journal copier range (Copying chunk copied) = copies copier (key_at journal (Copying chunk copied))
call_at journal copier range (Committing chunk) = Some requests.Commit

abbrev pub call_in : List Entry → Copier → Option CopyRange → Option Request
call_in journal copier None = None
call_in journal copier (Some range) = call_at journal copier range copier.step

-- *Next*: the copier's next call; none where the range is copied.
unfoldable pub next : List Entry → Copier → Option Request
next journal copier = if copier.is_copied then None else call_in journal copier copier.range

-- a chunk of these keys: its first row is copied, or it is committed where it has none
abbrev pub begun : Chunk → CopyStep
begun chunk = if chunk.keys == 0 then Committing chunk else Copying chunk 0

-- after the copy of this many keys
abbrev pub after_copies : Chunk → ℕ → CopyStep
after_copies chunk copied = if copied == chunk.keys then Committing chunk else Copying chunk copied

abbrev pub is_top : Option CopyRange → List Value → Bool
is_top None key = true
is_top (Some range) key = is_eq (compare_keys key range.top)

-- after the chunk's commit: after its end, unless that is the greatest key
abbrev pub committed : Copier → Chunk → Copier
committed copier chunk = record copier { number = copier.number + 1; following = Some chunk.reported; is_copied = chunk.is_last; step = Choosing }

-- after an answer other than a loss and a time-out
abbrev pub after_answer : ℕ → Copier → CopyStep → Answer → Copier
after_answer turn copier Choosing (answers.End end) = record copier { step = Spanning turn copier.size }
after_answer turn copier (Spanning reported size) (answers.Keys keys end) =
    record copier { step = begun (record { reported = turn; keys = length keys; is_last = is_top copier.range end }) }
after_answer turn copier (Copying chunk copied) (answers.Ok count) = record copier { step = after_copies chunk (copied + 1) }
after_answer turn copier (Committing chunk) (answers.Ok count) = committed copier chunk
after_answer turn copier step answer = copier

-- *Took*: the copier after an answer in this turn. A chunk whose session was lost or whose wait timed out begins again.
unfoldable pub took : ℕ → Copier → Answer → Copier
took turn copier answers.Lost = record copier { step = Choosing }
took turn copier (answers.TimedOut waited) = record copier { step = Choosing }
took turn copier answer = after_answer turn copier copier.step answer

abbrev pub progress_at : CopyStep → Answer → Progress
progress_at step answers.Lost = TaskFailed
progress_at step (answers.TimedOut waited) = TaskFailed
progress_at (Copying chunk copied) (answers.Refused number (Some place)) = Unfit place number
progress_at (Committing chunk) (answers.Ok count) = TaskDone
progress_at step answer = Going

-- what the answer means for the copy
unfoldable pub progress : Copier → Answer → Progress
progress copier answer = progress_at copier.step answer

-- a chunk holds at most this many rows from the next one on
abbrev pub resized : ℕ → Copier → Copier
resized size copier = record copier { size = size }

-- the clustered key of the row that didn't fit
abbrev pub unfit_key : List Entry → Copier → List Value
unfit_key journal copier = unwrap_or (key_at journal copier.step) []
