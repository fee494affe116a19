-- What the inspector waits with, from one phase of the cut-over to the next.
use Rattle.std.proofs.Common.{◌≡◌, ℕ, Bool, true, false, cond, Option, Some, None, refl, sym, ◌∙◌, subst}
use Rattle.base_values.specs.ToolNames.{ghost_name}
use Rattle.server_model.specs.declared.answer.Answer.{Answer}
use Rattle.server_model.specs.declared.answer.Answer.TheVariants as answers
use Rattle.server_model.specs.declared.request.Request.{Request}
use Rattle.server_model.specs.declared.request.Request.TheVariants as requests
use Rattle.plan_data.specs.PlanData.{PlanData}
use Rattle.tool_program.specs.declared.cutover_core.cutover.Clearing.TheVariants.{Looking}
use Rattle.tool_program.specs.declared.cutover_core.cutover.CutOver.{CutOver}
use Rattle.tool_program.specs.declared.cutover_core.cutover.Drain.TheVariants.{Turns, Passed}
use Rattle.tool_program.specs.declared.cutover_core.cutover.Phase.{Phase}
use Rattle.tool_program.specs.declared.cutover_core.cutover.Phase.TheVariants.{Attempting, Ending}
use Rattle.tool_program.specs.declared.cutover_core.cutover.Stage.TheVariants.{SettingCounter}
use Rattle.tool_program.specs.CutoverCore.CutOvers.{is_bad, ended, failed, drained, inspector_phase, locker_phase}
use Rattle.tool_program.specs.Tools.{ToolPhase, SettingUp, Migrating}
use Rattle.proof_journals.proofs.Machine.CuttingOver.{drain_cases}
use Rattle.proof_migration.specs.InspectorWaits.{SetsCounter, IsSettingCounter}

-- where it waits, so it does, and no RENAME waits meanwhile
abbrev pub WaitsWith : PlanData → Option Request → Phase → Bool → Type 0
WaitsWith plan waits phase renames = (request : Request) → waits ≡ Some request → SetsCounter plan phase request × (renames ≡ false)

abbrev pub WaitsFor : PlanData → Option Request → ToolPhase → Type 0
WaitsFor plan waits (SettingUp setup tries) = (request : Request) → waits ≡ Some request → ⊥
WaitsFor plan waits (Migrating work) = WaitsWith plan waits work.cutover.phase work.cutover.renamer_waits

-- nothing waits
pub none_waits : (waits : Option Request) → ((request : Request) → waits ≡ Some request → ⊥) → waits ≡ None
none_waits None never = refl
none_waits (Some request) never = absurd (never request refl)

pub none_for : (plan : PlanData) (waits : Option Request) (tool_phase : ToolPhase) → waits ≡ None → WaitsFor plan waits tool_phase
none_for plan waits (SettingUp setup tries) none = λ request some. no request (sym none ∙ some) where
  no : (request : Request) → None ≡ Some request → ⊥
  no request same = cc
none_for plan waits (Migrating work) none = λ request some. absurd (no request (sym none ∙ some)) where
  no : (request : Request) → None ≡ Some request → ⊥
  no request same = cc

-- what holds of each request that sets the counter
pub setting_is : (plan : PlanData) (P : Request → Type 0) → ((number : ℕ) → P (requests.SetCounter (ghost_name plan.table) number)) → (tool_phase : ToolPhase) (request : Request) → IsSettingCounter plan tool_phase request → P request
setting_is plan P each (SettingUp setup tries) request sets = absurd sets
setting_is plan P each (Migrating work) request sets = by work.cutover.phase sets where
  by : (phase : Phase) → SetsCounter plan phase request → P request
  by (Attempting (SettingCounter number drain)) sets = subst P (sym sets) (each number)
  by (Ending Looking) sets = subst P (sym sets.1) (each sets.0)
  by phase sets = absurd sets

-- FROM PHASE TO PHASE

pub sets_ended : (plan : PlanData) (phase : Phase) (request : Request) → SetsCounter plan phase request → SetsCounter plan (ended phase) request
sets_ended plan (Attempting (SettingCounter number drain)) request is = (number, is)
sets_ended plan (Ending Looking) request is = is
sets_ended plan phase request is = absurd is

pub sets_failed : (plan : PlanData) (phase : Phase) (request : Request) → SetsCounter plan phase request → SetsCounter plan (failed phase) request
sets_failed plan (Attempting (SettingCounter number drain)) request is = (number, is)
sets_failed plan (Ending Looking) request is = is
sets_failed plan phase request is = absurd is

pub sets_drained : (plan : PlanData) (cutover : CutOver) (hint : ℕ) (phase : Phase) (request : Request) → SetsCounter plan phase request → SetsCounter plan (drained cutover hint phase) request
sets_drained plan cutover hint (Attempting (SettingCounter number (Turns turns))) request is =
    drain_cases (λ (p : Phase). SetsCounter plan p request) cutover hint turns (SettingCounter number (Turns turns)) (λ same. is) (number, is) is
sets_drained plan cutover hint (Attempting (SettingCounter number Passed)) request is = is
sets_drained plan cutover hint (Ending Looking) request is = is
sets_drained plan cutover hint phase request is = absurd is

pub sets_locked : (plan : PlanData) (phase : Phase) (answer : Answer) (request : Request) → SetsCounter plan phase request → SetsCounter plan (locker_phase phase answer) request
sets_locked plan (Attempting (SettingCounter number drain)) answer request is = by (is_bad answer) where
  by : (b : Bool) → SetsCounter plan (cond b (Ending Looking) (Attempting (SettingCounter number drain))) request
  by true = (number, is)
  by false = is
sets_locked plan (Ending Looking) answer request is = is
sets_locked plan phase answer request is = absurd is

-- the inspector's request goes on to wait
pub sets_waits : (plan : PlanData) (cutover : CutOver) (phase : Phase) (other : ℕ) (request : Request) → SetsCounter plan phase request → SetsCounter plan (inspector_phase cutover phase (answers.Waits other)) request
sets_waits plan cutover (Attempting (SettingCounter number drain)) other request is = is
sets_waits plan cutover (Ending Looking) other request is = is
sets_waits plan cutover phase other request is = absurd is
