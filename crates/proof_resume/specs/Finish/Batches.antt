-- *An applier spends six turns on an event at most*: it reads, begins, applies, and commits.
use Rattle.std.specs.Prelude.{◌≡◌, ℕ, ◌+◌, ◌*◌, ◌≤◌, ◌<◌, List, length, take, Option, Some, None}
use Rattle.std.specs.List.{slice_get}
use Rattle.base_values.specs.declared.event.RowEvent.{RowEvent}
use Rattle.server_model.specs.declared.answer.Answer.{Answer}
use Rattle.server_model.specs.declared.answer.Answer.TheVariants as answers
use Rattle.server_model.specs.declared.outcome.Progress.{Progress}
use Rattle.server_model.specs.declared.outcome.Progress.TheVariants.{Unfit}
use Rattle.tool_program.specs.declared.event_applier.applier.Applier.{Applier}
use Rattle.tool_program.specs.declared.event_applier.applier.ApplyStep.{ApplyStep}
use Rattle.tool_program.specs.declared.event_applier.applier.ApplyStep.TheVariants as batches
use Rattle.tool_program.specs.declared.event_applier.applier.Part.{Part}
use Rattle.tool_program.specs.declared.event_applier.applier.Part.TheVariants.{Whole, Removal, Return}
use Rattle.tool_program.specs.EventApplier.Appliers.{Doing, planned}
use Rattle.tool_program.specs.EventApplier.Appliers as appliers
use Rattle.proof_journals.proofs.Sentry.Draining.{IsRead}
use Rattle.proof_bounds.specs.TaskTurns.Answers.{doings_turns, left_at, IsChange, IsClash}

-- the parts of an UPDATE before this one
abbrev pub parts_before : Part → ℕ
parts_before Whole = 0
parts_before Removal = 1
parts_before Return = 2

-- only an UPDATE goes in parts
abbrev pub GoesInParts : Part → Option Doing → Type 0
GoesInParts Whole doing = Unit {0}
GoesInParts part doing = IsChange doing

-- *So many turns are left* at most, until nothing of the table and of its changelog is unread: six for each event, and what the batch that
-- was read still takes
abbrev pub TurnsLeft : List ℕ → List RowEvent → ℕ → ℕ → List Doing → ApplyStep → Type 0
TurnsLeft table log turns position doings batches.Reading = 6 * left_at table log position ≤ turns
TurnsLeft table log turns position doings (batches.Beginning batch) = (2 + doings_turns doings + 6 * left_at table log batch.next ≤ turns) × (batch.statements ≡ length doings) × (0 < batch.statements)
TurnsLeft table log turns position doings (batches.Applying batch done part) =
    (1 + doings_turns doings + 6 * left_at table log batch.next ≤ turns + (doings_turns (take done doings) + parts_before part)) × (batch.statements ≡ length doings) × (done < batch.statements) × GoesInParts part (slice_get doings done)
TurnsLeft table log turns position doings (batches.Committing batch) = 1 + 6 * left_at table log batch.next ≤ turns

-- an answer that lets the applier go on: it reads some event, and no statement is refused but by a column that a value doesn't fit, or an
-- UPDATE by another row's key
abbrev pub LetsGoOn : List ℕ → List RowEvent → (List RowEvent → List Doing) → ℕ → List Doing → ApplyStep → Answer → Type 0
LetsGoOn table log plans position doings batches.Reading (answers.Events events next) = (1 ≤ length events) × (length events + left_at table log next ≤ left_at table log position) × (doings_turns (plans events) ≤ 3 * length events)
LetsGoOn table log plans position doings (batches.Beginning batch) (answers.Ok count) = Unit {0}
LetsGoOn table log plans position doings (batches.Applying batch done part) (answers.Ok count) = Unit {0}
LetsGoOn table log plans position doings (batches.Applying batch done part) (answers.Refused number (Some place)) = Unit {0}
LetsGoOn table log plans position doings (batches.Applying batch done part) (answers.Refused number None) = IsClash part (slice_get doings done) number
LetsGoOn table log plans position doings (batches.Committing batch) (answers.Ok count) = Unit {0}
LetsGoOn table log plans position doings step answer = ⊥

-- what is planned after an answer
abbrev pub planned_after : Applier → Answer → List Doing → List Doing
planned_after applier (answers.Events events next) doings = planned applier events
planned_after applier answer doings = doings

-- after an answer: a row doesn't fit, or fewer turns are left
abbrev pub LeavesTurns : List ℕ → List RowEvent → ℕ → List Doing → Applier → Progress → Type 0
LeavesTurns table log turns doings after (Unfit place number) = Unit {0}
LeavesTurns table log turns doings after progress = TurnsLeft table log turns after.position doings after.step

-- *Each turn of an applier leaves one turn fewer.*
abbrev pub ApplierTurnsAreFew : Type 0
ApplierTurnsAreFew =
    (table : List ℕ) (log : List RowEvent) (turn turns : ℕ) (applier : Applier) (doings : List Doing) (answer : Answer) → TurnsLeft table log (turns + 1) applier.position doings applier.step → LetsGoOn table log (planned applier) applier.position doings applier.step answer
    → LeavesTurns table log turns (planned_after applier answer doings) (appliers.took turn applier answer) (appliers.progress applier answer)

-- *A read lets the applier go on*, where it has some event of the table or of its changelog and all of them up to the next position.
abbrev pub ReadsLetGoOn : Type 0
ReadsLetGoOn = (table : List ℕ) (log : List RowEvent) (position next : ℕ) (events : List RowEvent) (applier : Applier) (doings : List Doing) → 1 ≤ length events → IsRead table log position events next → LetsGoOn table log (planned applier) position doings batches.Reading (answers.Events events next)
