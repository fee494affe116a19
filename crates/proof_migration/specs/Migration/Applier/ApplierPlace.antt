-- Where the applier is, read off its record and the journal, and what it knows of the journal.
use Rattle.std.specs.Prelude.{◌≡◌, ◌<◌, ℕ, Bool, true, List, [], ◌∷◌, drop, length, Some}
use Rattle.std.specs.List.{AllByRecursion}
use Rattle.base_values.specs.declared.gho_schema.schema.Column.{Column}
use Rattle.base_values.specs.GhoSchema.Tables.{IsRow}
use Rattle.base_values.specs.declared.event.Change.{Change}
use Rattle.base_values.specs.declared.event.Change.TheVariants.{Write, Update, Delete}
use Rattle.base_values.specs.declared.event.RowEvent.{RowEvent}
use Rattle.server_model.specs.declared.answer.Answer.TheVariants as answers
use Rattle.server_model.specs.declared.entry.Entry.{Entry}
use Rattle.server_model.specs.Entries.{answer_at}
use Rattle.server_model.specs.EarlierAnswers.{events_in}
use Rattle.tool_program.specs.declared.event_applier.applier.Applier.{Applier}
use Rattle.tool_program.specs.declared.event_applier.applier.ApplyStep.{ApplyStep}
use Rattle.tool_program.specs.declared.event_applier.applier.ApplyStep.TheVariants.{Reading, Beginning, Applying, Committing}
use Rattle.tool_program.specs.declared.event_applier.applier.Batch.{Batch}
use Rattle.tool_program.specs.declared.event_applier.applier.Part.{Part}
use Rattle.tool_program.specs.declared.event_applier.applier.Part.TheVariants.{Whole, Return}
use Rattle.tool_program.specs.EventApplier.Appliers.{Doing}
use Rattle.tool_program.specs.EventApplier.Appliers.Doing.{Changing}
use Rattle.proof_journals.specs.Ghost.Rows.Moments.{Row}
use Rattle.proof_journals.specs.Ghost.Rows.Timelines.{Migration}
use Rattle.proof_journals.specs.Ghost.Doings.{planned}
use Rattle.proof_journals.specs.Ghost.OwnChanges.{own_changes}
use Rattle.proof_journals.specs.Ghost.ToolTurns.{ApplyPlan}
use Rattle.proof_journals.specs.Ghost.ToolTurns.ApplyPlan.{Resting, Planned, Returning}

-- what is left to do of a batch, after this many of its statements
abbrev pub todo_of : Migration → List Entry → Batch → ℕ → List Doing
todo_of m journal batch done = drop done (planned m (own_changes m.name (events_in (answer_at journal batch.read))))

-- after the DELETE of a refused UPDATE its REPLACE comes first
abbrev pub plan_in : Part → ℕ → List Doing → ApplyPlan
plan_in Return next (Changing before after ∷ rest) = Returning next before after rest
plan_in part next todo = Planned next todo

abbrev pub plan_at : Migration → List Entry → ApplyStep → ApplyPlan
plan_at m journal Reading = Resting
plan_at m journal (Beginning batch) = Planned batch.next (todo_of m journal batch 0)
plan_at m journal (Applying batch done part) = plan_in part batch.next (todo_of m journal batch done)
plan_at m journal (Committing batch) = Planned batch.next []

-- *What the applier has to do*
abbrev pub apply_plan : Migration → List Entry → Applier → ApplyPlan
apply_plan m journal applier = plan_at m journal applier.step

-- a change of rows of these columns
abbrev pub ChangesRows : List Column → Change → Type 0
ChangesRows columns (Write row) = IsRow columns row
ChangesRows columns (Update before after) = IsRow columns before × IsRow columns after
ChangesRows columns (Delete row) = IsRow columns row

-- the batch's events were read, they are of rows of the table, and this many statements are planned for them
pub record IsBatchReported (m : Migration) (journal : List Entry) (batch : Batch) : Type 0 where
  pub events : List RowEvent
  pub reported : answer_at journal batch.read ≡ Some (answers.Events events batch.next)
  pub counted : batch.statements ≡ length (planned m (own_changes m.name events))
  pub rows : AllByRecursion (ChangesRows m.schema.columns) (own_changes m.name events)

-- an UPDATE comes first
pub record IsUpdate (todo : List Doing) : Type 0 where
  pub old : Row
  pub new : Row
  pub rest : List Doing
  pub is : todo ≡ Changing old new ∷ rest

-- what goes in parts is an UPDATE
abbrev pub PartKnows : Part → List Doing → Type 0
PartKnows Whole todo = Unit {0}
PartKnows part todo = IsUpdate todo

abbrev pub StepKnows : Migration → List Entry → ApplyStep → Type 0
StepKnows m journal Reading = Unit {0}
StepKnows m journal (Beginning batch) = IsBatchReported m journal batch × (0 < batch.statements)
StepKnows m journal (Applying batch done part) = IsBatchReported m journal batch × (done < batch.statements) × PartKnows part (todo_of m journal batch done)
StepKnows m journal (Committing batch) = Unit {0}

-- *What the applier knows*: the turn that it keeps was answered as it says
pub record ApplierKnows (m : Migration) (journal : List Entry) (applier : Applier) : Type 0 where
  pub step : StepKnows m journal applier.step
  pub sized : 0 < applier.batch

-- between its statements its session is in a transaction
abbrev pub StepIsBusy : ApplyStep → Bool → Type 0
StepIsBusy (Applying batch done part) busy = busy ≡ true
StepIsBusy step busy = Unit {0}
