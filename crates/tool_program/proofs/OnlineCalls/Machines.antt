-- The machines' tables are the plan's, and so is whether the cut-over has a counter to carry, whatever they take.
use Rattle.std.proofs.Common.{◌≡◌, ℕ, ◌==◌, Bool, true, false, List, refl, ap, ◌∙◌}
use Rattle.std.specs.Prelude.{if◌then◌else◌}
use Rattle.base_values.specs.declared.gho_schema.schema.Schema.{Schema}
use Rattle.server_model.specs.declared.answer.Answer.{Answer}
use Rattle.server_model.specs.declared.answer.Answer.TheVariants as answers
use Rattle.plan_data.specs.PlanData.{PlanData, has_counter}
use Rattle.base_values.specs.ToolNames.{ghost_name}
use Rattle.tool_program.specs.declared.chunk_copier.copier.Copier.{Copier}
use Rattle.tool_program.specs.declared.chunk_copier.copier.CopyStep.{CopyStep}
use Rattle.tool_program.specs.declared.chunk_copier.copier.CopyStep.TheVariants as copying
use Rattle.tool_program.specs.ChunkCopier.Copiers as copiers
use Rattle.tool_program.specs.declared.event_applier.applier.Applier.{Applier}
use Rattle.tool_program.specs.declared.event_applier.applier.ApplyStep.{ApplyStep}
use Rattle.tool_program.specs.declared.event_applier.applier.ApplyStep.TheVariants as applying
use Rattle.tool_program.specs.declared.event_applier.applier.Batch.{Batch}
use Rattle.tool_program.specs.EventApplier.Appliers as appliers
use Rattle.tool_program.specs.declared.cutover_core.cutover.CutOver.{CutOver}
use Rattle.tool_program.specs.declared.cutover_core.cutover.Role.{Role}
use Rattle.tool_program.specs.declared.cutover_core.cutover.Role.TheVariants.{Inspector, Locker, Renamer}
use Rattle.tool_program.specs.CutoverCore.CutOvers as cutovers
use Rattle.tool_program.specs.Tools.{Work, ToolPhase, SettingUp, Migrating, moment}
use Rattle.tool_program.proofs.OnlineCalls.Keeping.{Keeps, always}

pub record IsNamed (plan : PlanData) (work : Work) : Type 0 where
  pub copier : work.copier.table ≡ plan.table
  pub applier : work.applier.table ≡ plan.table
  pub into : work.applier.new_schema.name ≡ ghost_name plan.table
  pub cutover : work.cutover.table ≡ plan.table
  pub counter : work.cutover.has_counter ≡ has_counter plan

abbrev pub ToolPhaseIsNamed : PlanData → ToolPhase → Type 0
ToolPhaseIsNamed plan (SettingUp setup tries) = Unit {0}
ToolPhaseIsNamed plan (Migrating work) = IsNamed plan work

copier_after : (turn : ℕ) (copier : Copier) (step : CopyStep) (answer : Answer) → (copiers.after_answer turn copier step answer).table ≡ copier.table
copier_after turn copier copying.Choosing (answers.End end) = refl
copier_after turn copier (copying.Spanning reported size) (answers.Keys keys end) = refl
copier_after turn copier (copying.Copying chunk copied) (answers.Ok count) = refl
copier_after turn copier (copying.Committing chunk) (answers.Ok count) = refl
copier_after turn copier step answer = refl

copier_took : (turn : ℕ) (copier : Copier) (answer : Answer) → (copiers.took turn copier answer).table ≡ copier.table
unfolding copiers.took
copier_took turn copier answers.Lost = refl
copier_took turn copier (answers.TimedOut waited) = refl
copier_took turn copier answer = copier_after turn copier copier.step answer

-- the applier's table and the schema that it applies to
abbrev Same : Applier → Applier → Type 0
Same before after = (after.table ≡ before.table) × (after.new_schema ≡ before.new_schema)

read_same : (applier : Applier) (batch : Batch) → Same applier (appliers.read_batch applier batch)
read_same applier batch = by (batch.statements == 0)
  where
    by : (none : Bool) → Same applier (if none then appliers.moved applier batch else record applier { step = applying.Beginning batch })
    by true = (refl, refl)
    by false = (refl, refl)

applier_after : (turn : ℕ) (applier : Applier) (step : ApplyStep) (answer : Answer) → Same applier (appliers.after_answer turn applier step answer)
applier_after turn applier applying.Reading (answers.Events events next) = read_same applier (appliers.batch_of turn applier events next)
applier_after turn applier (applying.Beginning batch) (answers.Ok count) = (refl, refl)
applier_after turn applier (applying.Applying batch done part) (answers.Ok count) = (refl, refl)
applier_after turn applier (applying.Applying batch done part) (answers.Refused number column) = (refl, refl)
applier_after turn applier (applying.Committing batch) (answers.Ok count) = (refl, refl)
applier_after turn applier step answer = (refl, refl)

applier_took : (turn : ℕ) (applier : Applier) (answer : Answer) → Same applier (appliers.took turn applier answer)
unfolding appliers.took
applier_took turn applier answers.Lost = (refl, refl)
applier_took turn applier (answers.TimedOut waited) = (refl, refl)
applier_took turn applier answer = applier_after turn applier applier.step answer

cutover_took : (role : Role) (cutover : CutOver) (answer : Answer) → (cutovers.took role cutover answer).table ≡ cutover.table
unfolding cutovers.took
cutover_took Inspector cutover answer = refl
cutover_took Locker cutover answer = refl
cutover_took Renamer cutover answer = refl

counter_took : (role : Role) (cutover : CutOver) (answer : Answer) → (cutovers.took role cutover answer).has_counter ≡ cutover.has_counter
unfolding cutovers.took
counter_took Inspector cutover answer = refl
counter_took Locker cutover answer = refl
counter_took Renamer cutover answer = refl

drained_counter : (hint : ℕ) (cutover : CutOver) → (cutovers.applier_turn hint cutover).has_counter ≡ cutover.has_counter
unfolding cutovers.applier_turn
drained_counter hint cutover = refl

reverted_counter : (cutover : CutOver) → (cutovers.reverted cutover).has_counter ≡ cutover.has_counter
unfolding cutovers.reverted
reverted_counter cutover = refl

drained_table : (hint : ℕ) (cutover : CutOver) → (cutovers.applier_turn hint cutover).table ≡ cutover.table
unfolding cutovers.applier_turn
drained_table hint cutover = refl

reverted_table : (cutover : CutOver) → (cutovers.reverted cutover).table ≡ cutover.table
unfolding cutovers.reverted
reverted_table cutover = refl

stops : (plan : PlanData) (tool_phase : ToolPhase) → ToolPhaseIsNamed plan tool_phase → ToolPhaseIsNamed plan (Rattle.tool_program.specs.Tools.stopped tool_phase)
stops plan (SettingUp setup tries) at = tt
stops plan (Migrating work) at = record { copier = at.copier; applier = at.applier; into = at.into; cutover = reverted_table work.cutover ∙ at.cutover; counter = reverted_counter work.cutover ∙ at.counter }

named_keeps : (plan : PlanData) → Keeps plan (ToolPhaseIsNamed plan)
named_keeps plan = record {
  stops = stops plan;
  sets = λ setup tries. tt;
  begins = λ size position range. record { copier = refl; applier = refl; into = refl; cutover = refl; counter = refl };
  copies = λ turn answer work tries at. record { copier = copier_took turn work.copier answer ∙ at.copier; applier = at.applier; into = at.into; cutover = at.cutover; counter = at.counter };
  applies = λ turn answer work tries at.
      record { copier = at.copier; applier = (applier_took turn work.applier answer).0 ∙ at.applier; into = ap (λ (schema : Schema). schema.name) (applier_took turn work.applier answer).1 ∙ at.into; cutover = at.cutover; counter = at.counter };
  cuts = λ role answer work tries at. record { copier = at.copier; applier = at.applier; into = at.into; cutover = cutover_took role work.cutover answer ∙ at.cutover; counter = counter_took role work.cutover answer ∙ at.counter };
  drained = λ work tries at. record { copier = at.copier; applier = at.applier; into = at.into; cutover = drained_table work.applier.hint work.cutover ∙ at.cutover; counter = drained_counter work.applier.hint work.cutover ∙ at.counter };
  resized = λ size work at. record { copier = at.copier; applier = at.applier; into = at.into; cutover = at.cutover; counter = at.counter };
}

-- behind every journal the machines' tables are the plan's
pub named : (plan : PlanData) (journal : List Rattle.server_model.specs.declared.entry.Entry.Entry) → ToolPhaseIsNamed plan (moment plan journal).tool.tool_phase
named plan journal = always plan (ToolPhaseIsNamed plan) (named_keeps plan) journal
