-- Where the copier is, read off its record and the journal, and what it knows of the journal.
use Rattle.std.specs.Prelude.{◌≡◌, ◌<◌, ℕ, if◌then◌else◌, List, length, Option, Some, None}
use Rattle.base_values.specs.declared.span.Bound.TheVariants.{Closed}
use Rattle.base_values.specs.declared.span.Span.{Span}
use Rattle.server_model.specs.declared.answer.Answer.{Answer}
use Rattle.server_model.specs.declared.answer.Answer.TheVariants as answers
use Rattle.server_model.specs.declared.entry.Entry.{Entry}
use Rattle.server_model.specs.Entries.{answer_at}
use Rattle.server_model.specs.EarlierAnswers.{end_in, keys_in}
use Rattle.server_model.specs.States.{State}
use Rattle.tool_program.specs.declared.chunk_copier.copier.Chunk.{Chunk}
use Rattle.tool_program.specs.declared.chunk_copier.copier.Copier.{Copier}
use Rattle.tool_program.specs.declared.chunk_copier.copier.CopyRange.{CopyRange}
use Rattle.tool_program.specs.declared.chunk_copier.copier.CopyStep.{CopyStep}
use Rattle.tool_program.specs.declared.chunk_copier.copier.CopyStep.TheVariants.{Choosing, Spanning, Copying, Committing}
use Rattle.tool_program.specs.ChunkCopier.Copiers.{is_top, low_end}
use Rattle.proof_journals.specs.Holdings.{face_of, stored}
use Rattle.proof_journals.specs.Ghost.Rows.Moments.{Row}
use Rattle.proof_journals.specs.Ghost.ToolTurns.{ApplyPlan, ToolMoment}
use Rattle.proof_journals.specs.Ghost.Tool.{CopyState}
use Rattle.proof_journals.specs.Ghost.Tool.CopyState.{Waiting, Taking}

-- what is left of the range
abbrev pub left_of : List Entry → Copier → CopyRange → Span
left_of journal copier range = record { low = low_end journal range copier.following; high = Closed range.top }

-- in a chunk, with this many keys copied
abbrev pub taking_of : List Entry → Copier → CopyRange → Chunk → ℕ → CopyState
taking_of journal copier range chunk copied = Taking (low_end journal range copier.following) (end_in (answer_at journal chunk.reported)) range.top (keys_in (answer_at journal chunk.reported)) copied

abbrev pub state_at_step : List Entry → Copier → CopyRange → CopyStep → CopyState
state_at_step journal copier range Choosing = Waiting (Some (left_of journal copier range))
state_at_step journal copier range (Spanning reported size) = Waiting (Some (left_of journal copier range))
state_at_step journal copier range (Copying chunk copied) = taking_of journal copier range chunk copied
state_at_step journal copier range (Committing chunk) = taking_of journal copier range chunk (length (keys_in (answer_at journal chunk.reported)))

abbrev pub state_in : List Entry → Copier → Option CopyRange → CopyState
state_in journal copier None = Waiting None
state_in journal copier (Some range) = state_at_step journal copier range copier.step

-- *Where the copier is*
abbrev pub copy_state : List Entry → Copier → CopyState
copy_state journal copier = if copier.is_copied then Waiting None else state_in journal copier copier.range

-- *The moment*: what the server has, and where the copier and the applier are
abbrev pub moment_of : State → CopyState → ApplyPlan → ℕ → ToolMoment
moment_of state copy plan position = record { stored = stored state; hold = λ n. (face_of state.sessions n).hold; copy = copy; plan = plan; position = position }

-- an earlier turn was answered
pub record IsAnsweredAt (journal : List Entry) (turn : ℕ) : Type 0 where
  pub answer : Answer
  pub is : answer_at journal turn ≡ Some answer

-- the end of the chunk before was read in an earlier turn
abbrev pub AfterReported : List Entry → Option ℕ → Type 0
AfterReported journal None = Unit {0}
AfterReported journal (Some reported) = IsAnsweredAt journal reported

-- the chunk's keys and its end were read, and it has this many keys
pub record IsChunkReported (journal : List Entry) (range : Option CopyRange) (chunk : Chunk) : Type 0 where
  pub keys : List Row
  pub end : Row
  pub reported : answer_at journal chunk.reported ≡ Some (answers.Keys keys end)
  pub counted : chunk.keys ≡ length keys
  pub last : chunk.is_last ≡ is_top range end

abbrev pub StepKnows : List Entry → Option CopyRange → CopyStep → Type 0
StepKnows journal range Choosing = Unit {0}
StepKnows journal range (Spanning reported size) = IsAnsweredAt journal reported × (0 < size)
StepKnows journal range (Copying chunk copied) = IsChunkReported journal range chunk × (copied < chunk.keys)
StepKnows journal range (Committing chunk) = IsChunkReported journal range chunk

-- *What the copier knows*: the turns that it keeps were answered as it says
pub record CopierKnows (journal : List Entry) (copier : Copier) : Type 0 where
  pub following : AfterReported journal copier.following
  pub step : StepKnows journal copier.range copier.step
  pub sized : 0 < copier.size
