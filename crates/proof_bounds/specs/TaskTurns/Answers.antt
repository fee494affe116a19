-- What the copier and the applier may be answered, so that a try of a chunk or of a batch goes on.
use Rattle.std.specs.Prelude.{◌≡◌, ◌≤◌, ◌+◌, ℕ, List, [], ◌∷◌, length, drop, count_by, Option, Some, None}
use Rattle.std.specs.List.{slice_get, sum_by}
use Rattle.base_values.specs.ToolNames.{log_name}
use Rattle.base_values.specs.declared.event.RowEvent.{RowEvent}
use Rattle.base_values.specs.declared.mysql_errors.TheConstants.{ER_DUP_ENTRY}
use Rattle.server_model.specs.States.{is_of}
use Rattle.server_model.specs.declared.answer.Answer.{Answer}
use Rattle.server_model.specs.declared.answer.Answer.TheVariants as answers
use Rattle.tool_program.specs.declared.chunk_copier.copier.CopyStep.{CopyStep}
use Rattle.tool_program.specs.declared.chunk_copier.copier.CopyStep.TheVariants.{Choosing, Spanning, Copying, Committing}
use Rattle.tool_program.specs.declared.event_applier.applier.ApplyStep.{ApplyStep}
use Rattle.tool_program.specs.declared.event_applier.applier.ApplyStep.TheVariants as applying
use Rattle.tool_program.specs.declared.event_applier.applier.Part.{Part}
use Rattle.tool_program.specs.declared.event_applier.applier.Part.TheVariants.{Whole}
use Rattle.tool_program.specs.EventApplier.Appliers.{Doing, Putting, Removing, Changing}

-- CHUNKS

-- What a turn of the copier's may be answered at its step, where the session isn't lost and no wait times out: the calls are
-- done, but the span's keys and a row's copy may wait, and a row may be refused because it doesn't fit. A span gives at most so
-- many keys.
abbrev pub ChunkAnswer : ℕ → CopyStep → Answer → Type 0
ChunkAnswer most Choosing (answers.End end) = Unit {0}
ChunkAnswer most (Spanning reported size) (answers.Keys found end) = length found ≤ most
ChunkAnswer most (Spanning reported size) (answers.Waits one) = Unit {0}
ChunkAnswer most (Copying chunk copied) (answers.Ok count) = Unit {0}
ChunkAnswer most (Copying chunk copied) (answers.Waits one) = Unit {0}
ChunkAnswer most (Copying chunk copied) (answers.Refused number (Some place)) = Unit {0}
ChunkAnswer most (Committing chunk) (answers.Ok count) = Unit {0}
ChunkAnswer most step answers.Lost = Unit {0}
ChunkAnswer most step (answers.TimedOut waited) = Unit {0}
ChunkAnswer most step answer = ⊥

-- BATCHES

-- how many events of the migrated table and of the changelog are at this position of the log or after it
abbrev pub left_at : List ℕ → List RowEvent → ℕ → ℕ
left_at table log position = count_by (is_of (table ∷ log_name table ∷ [])) (drop position log)

-- a batch from the one position to the other has one of them at least
pub record Passes (table : List ℕ) (log : List RowEvent) (position next : ℕ) : Type 0 where
  pub within : next ≤ length log
  pub fewer : left_at table log next + 1 ≤ left_at table log position

-- the statements of one planned for a change at most: an UPDATE that is refused goes on as DELETE and REPLACE
abbrev pub doing_turns : Doing → ℕ
doing_turns (Putting row) = 1
doing_turns (Removing row) = 1
doing_turns (Changing before after) = 3

-- ... and of all that are planned
abbrev pub doings_turns : List Doing → ℕ
doings_turns doings = sum_by doing_turns doings

-- what is planned is an UPDATE
abbrev pub IsChange : Option Doing → Type 0
IsChange (Some (Changing before after)) = Unit {0}
IsChange doing = ⊥

-- without a value that doesn't fit only a whole UPDATE is refused, because of another row's key
abbrev pub IsClash : Part → Option Doing → ℕ → Type 0
IsClash Whole doing number = (number ≡ ER_DUP_ENTRY) × IsChange doing
IsClash part doing number = ⊥

-- What a turn of the applier's may be answered at its step, where the session isn't lost and no wait times out: the log is read
-- up to a later position, and so many statements are planned at most; the calls are done, but a statement may wait, or be
-- refused because of a value that doesn't fit, or as an UPDATE because of another row's key.
abbrev pub BatchAnswer : ℕ → List ℕ → List RowEvent → ℕ → (List RowEvent → List Doing) → List Doing → ApplyStep → Answer → Type 0
BatchAnswer most table log position plans doings applying.Reading (answers.Events events next) = Passes table log position next × (doings_turns (plans events) ≤ most)
BatchAnswer most table log position plans doings (applying.Beginning batch) (answers.Ok count) = Unit {0}
BatchAnswer most table log position plans doings (applying.Applying batch done part) (answers.Ok count) = Unit {0}
BatchAnswer most table log position plans doings (applying.Applying batch done part) (answers.Waits one) = Unit {0}
BatchAnswer most table log position plans doings (applying.Applying batch done part) (answers.Refused number (Some place)) = Unit {0}
BatchAnswer most table log position plans doings (applying.Applying batch done part) (answers.Refused number None) = IsClash part (slice_get doings done) number
BatchAnswer most table log position plans doings (applying.Committing batch) (answers.Ok count) = Unit {0}
BatchAnswer most table log position plans doings step answers.Lost = Unit {0}
BatchAnswer most table log position plans doings step (answers.TimedOut waited) = Unit {0}
BatchAnswer most table log position plans doings step answer = ⊥
