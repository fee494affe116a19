-- What a machine's answer leaves of its course and of the reverting, the whole tool's turn leaves.
use Rattle.std.proofs.Common.{◌≡◌, ℕ, ◌==◌, Bool, true, false, cond, List, [], ◌∷◌, ◌++◌, length, Option, Some, None, refl, sym, subst}
use Rattle.server_model.specs.declared.outcome.Task.{Task}
use Rattle.server_model.specs.declared.outcome.Task.TheVariants as tasks
use Rattle.server_model.specs.declared.outcome.Progress.{Progress}
use Rattle.server_model.specs.declared.outcome.Progress.TheVariants.{Going, TaskDone, TaskFailed, Unfit}
use Rattle.plan_data.specs.PlanData.{PlanData}
use Rattle.tool_program.specs.declared.chunk_copier.copier.Copier.{Copier}
use Rattle.tool_program.specs.declared.event_applier.applier.Applier.{Applier}
use Rattle.tool_program.specs.declared.cutover_core.cutover.CutOver.{CutOver}
use Rattle.tool_program.specs.CutoverCore.CutOvers.{applier_turn}
use Rattle.tool_program.specs.Tools.{Work, ToolPhase, SettingUp, Migrating, Reason, CopyUnfit, ApplyUnfit, Spent, Tool, first_reason, stopped, is_renamed, reverts, spends, is_reverting, is_failure, working, copy_after, apply_after, attempt_after, drains}

pub first_some : (old : Option Reason) (reason : Reason) → is_reverting (first_reason old reason) ≡ true
first_some None reason = refl
first_some (Some first) reason = refl

module _ (P : Bool → ToolPhase → Type 0) (back : (b : Bool) (tool_phase : ToolPhase) → P b tool_phase → P true (stopped tool_phase)) where
  pub reverts_keeps : (reason : Reason) (tool : Tool) → P (is_reverting tool.reason) tool.tool_phase → P (is_reverting (reverts reason tool).reason) (reverts reason tool).tool_phase
  reverts_keeps reason tool at = by (is_renamed tool.tool_phase) where
    by : (b : Bool) → P (is_reverting (cond b tool (record tool { reason = first_reason tool.reason reason; tool_phase = stopped tool.tool_phase })).reason) (cond b tool (record tool { reason = first_reason tool.reason reason; tool_phase = stopped tool.tool_phase })).tool_phase
    by true = at
    by false = subst (λ (r : Bool). P r (stopped tool.tool_phase)) (sym (first_some tool.reason reason)) (back (is_reverting tool.reason) tool.tool_phase at)

  pub spends_keeps : (plan : PlanData) (task : Task) (tries : List ℕ) (tool : Tool) → P (is_reverting tool.reason) tool.tool_phase → P (is_reverting (spends plan task tries tool).reason) (spends plan task tries tool).tool_phase
  spends_keeps plan task tries tool at = by (length tries == plan.options.default_retries) where
    by : (b : Bool) → P (is_reverting (cond b (reverts (Spent task tries) tool) tool).reason) (cond b (reverts (Spent task tries) tool) tool).tool_phase
    by true = reverts_keeps (Spent task tries) tool at
    by false = at

  -- the cut-over's answer
  pub attempt_keeps : (plan : PlanData) (fails : Bool) (work : Work) (cutover : CutOver) (tool : Tool) → ((tries : List ℕ) → P (is_reverting tool.reason) (Migrating (record work { cutover = cutover; attempt_tries = tries })))
      → P (is_reverting (attempt_after plan fails work cutover tool).reason) (attempt_after plan fails work cutover tool).tool_phase
  attempt_keeps plan true work cutover tool now =
      spends_keeps plan tasks.CutOver (work.attempt_tries ++ tool.turns ∷ []) (working (record work { cutover = cutover; attempt_tries = work.attempt_tries ++ tool.turns ∷ [] }) tool) (now (work.attempt_tries ++ tool.turns ∷ []))
  attempt_keeps plan false work cutover tool now = now work.attempt_tries

  -- the copier's: where the row doesn't fit, all is as it was
  pub copy_keeps : (plan : PlanData) (work : Work) (progress : Progress) (copier : Copier) (tool : Tool) → ((place number : ℕ) → progress ≡ Unfit place number → P (is_reverting tool.reason) tool.tool_phase)
      → ((tries : List ℕ) → P (is_reverting tool.reason) (Migrating (record work { copier = copier; chunk_tries = tries }))) → P (is_reverting (copy_after plan work progress copier tool).reason) (copy_after plan work progress copier tool).tool_phase
  copy_keeps plan work Going copier tool unfit now = now work.chunk_tries
  copy_keeps plan work TaskDone copier tool unfit now = now []
  copy_keeps plan work TaskFailed copier tool unfit now =
      spends_keeps plan (tasks.Chunk copier.number) (work.chunk_tries ++ tool.turns ∷ []) (working (record work { copier = copier; chunk_tries = work.chunk_tries ++ tool.turns ∷ [] }) tool) (now (work.chunk_tries ++ tool.turns ∷ []))
  copy_keeps plan work (Unfit place number) copier tool unfit now = reverts_keeps (CopyUnfit tool.turns place number) tool (unfit place number refl)

  -- the applier's
  pub apply_keeps : (plan : PlanData) (work : Work) (progress : Progress) (applier : Applier) (tool : Tool) → ((place number : ℕ) → progress ≡ Unfit place number → P (is_reverting tool.reason) tool.tool_phase)
      → ((tries : List ℕ) → P (is_reverting tool.reason) (Migrating (record work { applier = applier; batch_tries = tries }))) → P (is_reverting (apply_after plan work progress applier tool).reason) (apply_after plan work progress applier tool).tool_phase
  apply_keeps plan work Going applier tool unfit now = now work.batch_tries
  apply_keeps plan work TaskDone applier tool unfit now = now []
  apply_keeps plan work TaskFailed applier tool unfit now =
      spends_keeps plan (tasks.Batch applier.position) (work.batch_tries ++ tool.turns ∷ []) (working (record work { applier = applier; batch_tries = work.batch_tries ++ tool.turns ∷ [] }) tool) (now (work.batch_tries ++ tool.turns ∷ []))
  apply_keeps plan work (Unfit place number) applier tool unfit now = reverts_keeps (ApplyUnfit tool.turns place number) tool (unfit place number refl)

  -- the applier's turn, as the drain counts it
  pub drains_keeps : (plan : PlanData) (tool_phase : ToolPhase) (tool : Tool) → tool.tool_phase ≡ tool_phase → ((b : Bool) (work : Work) (tries : List ℕ) → P b (Migrating work) → P b (Migrating (record work { cutover = applier_turn work.applier.hint work.cutover; attempt_tries = tries })))
      → P (is_reverting tool.reason) tool.tool_phase → P (is_reverting (drains plan tool_phase tool).reason) (drains plan tool_phase tool).tool_phase
  drains_keeps plan (SettingUp setup tries) tool is then at = at
  drains_keeps plan (Migrating work) tool is then at =
      attempt_keeps plan (is_failure work.cutover.phase (applier_turn work.applier.hint work.cutover).phase) work (applier_turn work.applier.hint work.cutover) tool (λ tries. then (is_reverting tool.reason) work tries (subst (P (is_reverting tool.reason)) is at))
