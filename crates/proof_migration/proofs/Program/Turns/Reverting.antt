-- What is reverted stays so.
use Rattle.std.proofs.Common.{◌≡◌, ◌+◌, Bool, true, false, cond, List, [], ◌∷◌, ◌++◌, refl, sym, ap, ◌∙◌, append_assoc, append-nil}
use Rattle.std.proofs.lemmas.Bool.{true≢false}
use Rattle.base_script.specs.declared.actor.Actor.{Actor}
use Rattle.base_script.specs.declared.actor.Actor.TheVariants.{Insp, Copy, Apply, Lock, Ren}
use Rattle.base_script.specs.declared.operator.OperatorWord.{OperatorWord}
use Rattle.base_script.specs.declared.operator.OperatorWord.TheVariants.{Panic}
use Rattle.server_model.specs.declared.answer.Answer.{Answer}
use Rattle.server_model.specs.declared.answer.Answer.TheVariants as answers
use Rattle.server_model.specs.declared.entry.Asked.{Asked}
use Rattle.server_model.specs.declared.entry.Asked.TheVariants.{Command, Cut}
use Rattle.server_model.specs.declared.entry.Entry.{Entry}
use Rattle.server_model.specs.States.{State, has_work}
use Rattle.plan_data.specs.PlanData.{PlanData}
use Rattle.tool_program.specs.declared.cutover_core.cutover.Role.{Role}
use Rattle.tool_program.specs.declared.cutover_core.cutover.Role.TheVariants.{Inspector, Locker, Renamer}
use Rattle.tool_program.specs.CutoverCore.CutOvers as cutovers
use Rattle.tool_program.specs.Operators.{commanded}
use Rattle.tool_program.specs.Tools.{Work, ToolPhase, SettingUp, Migrating, Panicked, Tool, Moment, stopped, is_reverting, setup_took, copy_took, apply_took, cutover_took, is_failure, actor_took, turn_counts, command_took, asked_took, took, moment}
use Rattle.proof_journals.proofs.Sentry.Inductions.{moment_more}
use Rattle.proof_journals.proofs.Machine.Lifting.{attempt_keeps, drains_keeps, reverts_keeps}

abbrev On : Bool → ToolPhase → Type 0
On b tool_phase = b ≡ true

on_back : (b : Bool) (tool_phase : ToolPhase) → On b tool_phase → On true (stopped tool_phase)
on_back b tool_phase at = refl

held_on : (tool other : Tool) → is_reverting tool.reason ≡ true → is_reverting (cond (is_reverting tool.reason) tool other).reason ≡ true
held_on tool other on = ap (λ (b : Bool). is_reverting (cond b tool other).reason) on ∙ on

role_on : (plan : PlanData) (role : Role) (answer : Answer) (work : Work) (tool : Tool) → is_reverting tool.reason ≡ true → is_reverting (cutover_took plan role answer work tool).reason ≡ true
role_on plan role answer work tool on = attempt_keeps On on_back plan (is_failure work.cutover.phase (cutovers.took role work.cutover answer).phase) work (cutovers.took role work.cutover answer) tool (λ tries. on)

actor_on : (plan : PlanData) (actor : Actor) (answer : Answer) (tool_phase : ToolPhase) (tool : Tool) → is_reverting tool.reason ≡ true → is_reverting (actor_took plan actor answer tool_phase tool).reason ≡ true
actor_on plan Insp answer (SettingUp setup tries) tool on = held_on tool (setup_took plan setup tries answer tool) on
actor_on plan Insp answer (Migrating work) tool on = role_on plan Inspector answer work tool on
actor_on plan Copy answer (Migrating work) tool on = held_on tool (copy_took plan answer work tool) on
actor_on plan Apply answer (Migrating work) tool on = held_on tool (apply_took plan answer work tool) on
actor_on plan Lock answer (Migrating work) tool on = role_on plan Locker answer work tool on
actor_on plan Ren answer (Migrating work) tool on = role_on plan Renamer answer work tool on
actor_on plan actor answer tool_phase tool on = on

counts_on : (plan : PlanData) (actor : Actor) (tool : Tool) → is_reverting tool.reason ≡ true → is_reverting (turn_counts plan actor tool).reason ≡ true
counts_on plan Apply tool on = drains_keeps On on_back plan tool.tool_phase tool refl (λ b work tries at. at) on
counts_on plan actor tool on = on

command_on : (word : OperatorWord) (tool : Tool) → is_reverting tool.reason ≡ true → is_reverting (command_took word tool).reason ≡ true
command_on Panic tool on = reverts_keeps On on_back (Panicked tool.turns) (record tool { operator = commanded Panic tool.operator; tool_phase = tool.tool_phase }) on
command_on word tool on = on

asked_on : (plan : PlanData) (state : State) (entry : Entry) (asked : Asked) (tool : Tool) → is_reverting tool.reason ≡ true → is_reverting (asked_took plan state entry asked tool).reason ≡ true
asked_on plan state entry (Command word) tool on = command_on word tool on
asked_on plan state entry Cut tool on = by (has_work state entry.session) where
  by : (b : Bool) → is_reverting (cond b (actor_took plan entry.actor answers.Lost tool.tool_phase tool) tool).reason ≡ true
  by true = actor_on plan entry.actor answers.Lost tool.tool_phase tool on
  by false = on
asked_on plan state entry asked tool on = counts_on plan entry.actor (actor_took plan entry.actor entry.answer tool.tool_phase tool) (actor_on plan entry.actor entry.answer tool.tool_phase tool on)

-- *A revert stays*
pub reverting_more : (plan : PlanData) (journal : List Entry) (entry : Entry) → is_reverting (moment plan journal).tool.reason ≡ true → is_reverting (moment plan (journal ++ entry ∷ [])).tool.reason ≡ true
unfolding took
reverting_more plan journal entry on =
    ap (λ (m : Moment). is_reverting m.tool.reason) (moment_more plan journal entry) ∙ asked_on plan (moment plan journal).server entry entry.asked (record (moment plan journal).tool { turns = (moment plan journal).tool.turns + 1 }) on

all_on : (plan : PlanData) (journal rest : List Entry) → is_reverting (moment plan journal).tool.reason ≡ true → is_reverting (moment plan (journal ++ rest)).tool.reason ≡ true
all_on plan journal [] on = ap (λ (j : List Entry). is_reverting (moment plan j).tool.reason) (append-nil journal) ∙ on
all_on plan journal (entry ∷ rest) on =
    ap (λ (j : List Entry). is_reverting (moment plan j).tool.reason) (sym (append_assoc journal (entry ∷ []) rest)) ∙ all_on plan (journal ++ entry ∷ []) rest (reverting_more plan journal entry on)

-- where nothing is reverted, nothing was before
pub going_front : (plan : PlanData) (journal rest : List Entry) → is_reverting (moment plan (journal ++ rest)).tool.reason ≡ false → is_reverting (moment plan journal).tool.reason ≡ false
going_front plan journal rest off = by (is_reverting (moment plan journal).tool.reason) refl where
  by : (b : Bool) → is_reverting (moment plan journal).tool.reason ≡ b → b ≡ false
  by true on = absurd (true≢false (sym (all_on plan journal rest on) ∙ off))
  by false is = refl
