-- From the machines to the tool: what a course keeps when it is stopped, every turn keeps.
use Rattle.std.proofs.Common.{ℕ, nat_eq, Bool, true, false, cond, List, [], ◌∷◌, ◌++◌, length}
use Rattle.server_model.specs.declared.outcome.Task.TheVariants as causes
use Rattle.server_model.specs.declared.outcome.Task.{Task}
use Rattle.server_model.specs.declared.outcome.Progress.{Progress}
use Rattle.server_model.specs.declared.outcome.Progress.TheVariants.{Going, TaskDone, TaskFailed, Unfit}
use Rattle.plan_data.specs.PlanData.{PlanData}
use Rattle.tool_program.specs.declared.chunk_copier.copier.Copier.{Copier}
use Rattle.tool_program.specs.declared.event_applier.applier.Applier.{Applier}
use Rattle.tool_program.specs.declared.cutover_core.cutover.CutOver.{CutOver}
use Rattle.tool_program.specs.Tools.{Work, ToolPhase, Reason, Tool, first_reason, stopped, is_renamed, reverts, spends, working, copy_after, apply_after, attempt_after}
use Rattle.tool_program.specs.Tools.ToolPhase.{Migrating}
use Rattle.tool_program.specs.Tools.Reason.{CopyUnfit, ApplyUnfit, Spent}

module _ (P : ToolPhase → Type 0) (stops : (tool_phase : ToolPhase) → P tool_phase → P (stopped tool_phase)) where
  pub reverts_keeps : (reason : Reason) (tool : Tool) → P tool.tool_phase → P (reverts reason tool).tool_phase
  reverts_keeps reason tool at = by (is_renamed tool.tool_phase)
    where
      by : (b : Bool) → P (cond b tool (record tool { reason = first_reason tool.reason reason; tool_phase = stopped tool.tool_phase })).tool_phase
      by true = at
      by false = stops tool.tool_phase at

  pub spends_keeps : (plan : PlanData) (task : Task) (tries : List ℕ) (tool : Tool) → P tool.tool_phase → P (spends plan task tries tool).tool_phase
  spends_keeps plan task tries tool at = by (nat_eq (length tries) plan.options.default_retries)
    where
      by : (b : Bool) → P (cond b (reverts (Spent task tries) tool) tool).tool_phase
      by true = reverts_keeps (Spent task tries) tool at
      by false = at

  -- the cut-over's answer: what the new cut-over keeps, with whatever tries are counted
  pub attempt_keeps : (plan : PlanData) (b : Bool) (work : Work) (cutover : CutOver) (tool : Tool) → ((tries : List ℕ) → P (Migrating (record work { cutover = cutover; attempt_tries = tries }))) → P (attempt_after plan b work cutover tool).tool_phase
  attempt_keeps plan true work cutover tool now =
      spends_keeps plan causes.CutOver (work.attempt_tries ++ tool.turns ∷ []) (working (record work { cutover = cutover; attempt_tries = work.attempt_tries ++ tool.turns ∷ [] }) tool) (now (work.attempt_tries ++ tool.turns ∷ []))
  attempt_keeps plan false work cutover tool now = now work.attempt_tries

  -- the copier's answer
  pub copy_keeps : (plan : PlanData) (work : Work) (progress : Progress) (copier : Copier) (tool : Tool) → P tool.tool_phase → ((tries : List ℕ) → P (Migrating (record work { copier = copier; chunk_tries = tries }))) → P (copy_after plan work progress copier tool).tool_phase
  copy_keeps plan work Going copier tool at now = now work.chunk_tries
  copy_keeps plan work TaskDone copier tool at now = now []
  copy_keeps plan work TaskFailed copier tool at now =
      spends_keeps plan (causes.Chunk copier.number) (work.chunk_tries ++ tool.turns ∷ []) (working (record work { copier = copier; chunk_tries = work.chunk_tries ++ tool.turns ∷ [] }) tool) (now (work.chunk_tries ++ tool.turns ∷ []))
  copy_keeps plan work (Unfit place number) copier tool at now = reverts_keeps (CopyUnfit tool.turns place number) tool at

  -- the applier's answer
  pub apply_keeps : (plan : PlanData) (work : Work) (progress : Progress) (applier : Applier) (tool : Tool) → P tool.tool_phase → ((tries : List ℕ) → P (Migrating (record work { applier = applier; batch_tries = tries }))) → P (apply_after plan work progress applier tool).tool_phase
  apply_keeps plan work Going applier tool at now = now work.batch_tries
  apply_keeps plan work TaskDone applier tool at now = now []
  apply_keeps plan work TaskFailed applier tool at now =
      spends_keeps plan (causes.Batch applier.position) (work.batch_tries ++ tool.turns ∷ []) (working (record work { applier = applier; batch_tries = work.batch_tries ++ tool.turns ∷ [] }) tool) (now (work.batch_tries ++ tool.turns ∷ []))
  apply_keeps plan work (Unfit place number) applier tool at now = reverts_keeps (ApplyUnfit tool.turns place number) tool at
