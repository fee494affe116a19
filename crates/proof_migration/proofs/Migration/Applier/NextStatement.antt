-- Which statement of its batch the applier does next.
use Rattle.std.proofs.Common.{◌≡◌, ◌<◌, ℕ, ◌+◌, List, ◌∷◌, ◌++◌, drop, Option, Some, sym, ap, ◌∙◌, subst}
use Rattle.std.specs.List.{slice_get}
use Rattle.base_values.proofs.SchemaRules.Lists.{All-at}
use Rattle.base_script.specs.declared.statement.Statement.{Statement}
use Rattle.server_model.specs.declared.answer.Answer.{Answer}
use Rattle.server_model.specs.declared.entry.Entry.{Entry}
use Rattle.server_model.specs.declared.request.Request.TheVariants as requests
use Rattle.server_model.specs.EarlierAnswers.{events_in}
use Rattle.server_model.specs.Entries.{answer_at}
use Rattle.tool_program.specs.declared.event_applier.applier.Applier.{Applier}
use Rattle.tool_program.specs.declared.event_applier.applier.ApplyStep.TheVariants.{Applying}
use Rattle.tool_program.specs.declared.event_applier.applier.Batch.{Batch}
use Rattle.tool_program.specs.declared.event_applier.applier.Part.{Part}
use Rattle.tool_program.specs.EventApplier.Appliers as appliers
use Rattle.tool_program.specs.EventApplier.Appliers.{Doing, doing_at, doing_in, in_part, statement_result}
use Rattle.proof_journals.specs.Ghost.Doings.{planned}
use Rattle.proof_journals.specs.Ghost.OwnChanges.{own_changes}
use Rattle.proof_journals.specs.Ghost.Rows.Timelines.{Migration}
use Rattle.proof_migration.specs.Migration.Applier.ApplierPlace.{ApplierKnows, IsBatchReported, PartKnows, StepKnows}
use Rattle.proof_migration.specs.Migration.Applier.FoundColumns.{FindsRows}
use Rattle.proof_migration.proofs.Migration.Applier.Knowing.{next_at, same_reported}
use Rattle.proof_migration.proofs.Migration.Applier.Planning.{DoesRows, NextDoing, next_doing, planned_alike, planned_rows}
use Rattle.proof_migration.proofs.Migration.Applier.Statements.{said, said_is}

-- *The next statement*: it does, in this part, what is planned next for the batch's events
pub record NextStatement (m : Migration) (journal : List Entry) (applier : Applier) (batch : Batch) (count : ℕ) (part : Part) : Type 0 where
  pub reported : IsBatchReported m journal batch
  pub doing : Doing
  pub planned_so : slice_get (appliers.planned applier (events_in (answer_at journal batch.read))) count ≡ Some doing
  pub rows : DoesRows m.schema.columns doing
  pub knows : PartKnows part (doing ∷ drop (count + 1) (planned m (own_changes m.name reported.events)))
  pub does : doing_at journal applier applier.step ≡ Some (in_part part doing)
  pub asks : appliers.next journal applier ≡ requests.Do (said m.new m.columns (in_part part doing))
  pub stays : (more : List Entry) → doing_at (journal ++ more) applier applier.step ≡ doing_at journal applier applier.step

module _ (m : Migration) (finds : FindsRows m) (journal : List Entry) (applier : Applier) (table : applier.table ≡ m.name) (schema : applier.new_schema ≡ m.new) (columns : applier.map ≡ m.columns) (knows : ApplierKnows m journal applier) (batch : Batch) (count : ℕ) (part : Part) (here : applier.step ≡ Applying batch count part) where
  at_step : StepKnows m journal (Applying batch count part)
  at_step = subst (StepKnows m journal) here knows.step

  reported : IsBatchReported m journal batch
  reported = at_step.0

  abbrev all_doings : List Doing
  all_doings = planned m (own_changes m.name reported.events)

  next_one : NextDoing all_doings count
  next_one = next_doing all_doings count (subst (λ (n : ℕ). count < n) reported.counted at_step.1)

  code_plan : appliers.planned applier (events_in (answer_at journal batch.read)) ≡ all_doings
  code_plan = ap (λ (a : Option Answer). appliers.planned applier (events_in a)) reported.reported ∙ planned_alike m applier reported.events finds table schema columns reported.rows

  doing_here : doing_at journal applier (Applying batch count part) ≡ Some (in_part part next_one.doing)
  doing_here = ap (λ (l : List Doing). doing_in part (slice_get l count)) code_plan ∙ ap (doing_in part) next_one.there

  pub next_statement : NextStatement m journal applier batch count part
  next_statement = record {
    reported = reported;
    doing = next_one.doing;
    planned_so = ap (λ (l : List Doing). slice_get l count) code_plan ∙ next_one.there;
    rows = All-at (DoesRows m.schema.columns) all_doings count next_one.doing (planned_rows m (own_changes m.name reported.events) reported.rows) next_one.there;
    knows = subst (PartKnows part) (ap (λ (a : Option Answer). drop count (planned m (own_changes m.name (events_in a)))) reported.reported ∙ next_one.is) at_step.2;
    does = ap (doing_at journal applier) here ∙ doing_here;
    asks = next_at journal applier (Applying batch count part) here ∙ ap (statement_result applier) doing_here ∙ ap (λ (s : Statement). requests.Do s) (said_is m applier (in_part part next_one.doing) schema columns);
    stays = λ more. ap (doing_at (journal ++ more) applier) here ∙ ap (λ (a : Option Answer). doing_in part (slice_get (appliers.planned applier (events_in a)) count)) (same_reported m journal more batch reported)
        ∙ sym (ap (doing_at journal applier) here);
  }
