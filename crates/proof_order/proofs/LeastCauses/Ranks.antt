-- Which causes one turn may give, where nothing was reverted before it.
use Rattle.std.proofs.Common.{◌≡◌, ◌≤◌, ℕ, ◌==◌, Bool, true, false, cond, List, [], ◌∷◌, ◌++◌, length, Option, Some, None, refl, sym, ap, ◌∙◌, inl, inr, arith}
use Rattle.std.proofs.lemmas.Bool.{false≢true}
use Rattle.base_script.specs.declared.actor.Actor.TheVariants.{Insp, Copy, Apply}
use Rattle.base_script.specs.declared.operator.OperatorWord.TheVariants.{Panic}
use Rattle.server_model.specs.declared.answer.Answer.{Answer}
use Rattle.server_model.specs.declared.entry.Entry.{Entry}
use Rattle.server_model.specs.declared.outcome.Progress.{Progress}
use Rattle.server_model.specs.declared.outcome.Progress.TheVariants.{Going, TaskDone, TaskFailed, Unfit}
use Rattle.server_model.specs.declared.outcome.Task.{Task}
use Rattle.server_model.specs.declared.outcome.Task.TheVariants as tasks
use Rattle.plan_data.specs.PlanData.{PlanData}
use Rattle.tool_program.specs.declared.chunk_copier.copier.Copier.{Copier}
use Rattle.tool_program.specs.declared.event_applier.applier.Applier.{Applier}
use Rattle.tool_program.specs.ChunkCopier.Copiers as copiers
use Rattle.tool_program.specs.EventApplier.Appliers as appliers
use Rattle.tool_program.specs.CutoverCore.CutOvers.{is_bad}
use Rattle.tool_program.specs.Operators.{commanded}
use Rattle.tool_program.specs.Setups.{Setup, Listing, setup_after}
use Rattle.tool_program.specs.Tools.{Work, ToolPhase, SettingUp, Migrating, Reason, CopyUnfit, ApplyUnfit, Spent, Panicked, Tool, first_reason, stopped, is_renamed, reverts, spends, is_reverting, working, copy_after, copy_took, apply_after, apply_took, tool_phase_of, setup_took, actor_took, turn_counts, command_took}
use Rattle.tool_program.specs.Verdicts.{cause_of}
use Rattle.proof_migration.proofs.Attempt.Verdicts.Reasons.{chunk_fails, batch_fails}
use Rattle.proof_order.specs.LeastCauses.{rank}
use Rattle.proof_order.proofs.Grounds.{Follows, counts_holds}

-- the place of the cause that a ground gives
abbrev pub rank_of : Reason → ℕ
rank_of (CopyUnfit turn place number) = 0
rank_of (ApplyUnfit turn place number) = 0
rank_of (Panicked turn) = 0
rank_of (Spent tasks.CutOver turns) = 2
rank_of (Spent task turns) = 1

pub cause_rank : (plan : PlanData) (journal : List Entry) (tool : Tool) (reason : Reason) → rank (cause_of plan journal tool reason) ≡ rank_of reason
cause_rank plan journal tool (CopyUnfit turn place number) = refl
cause_rank plan journal tool (ApplyUnfit turn place number) = refl
cause_rank plan journal tool (Panicked turn) = refl
cause_rank plan journal tool (Spent tasks.CutOver turns) = refl
cause_rank plan journal tool (Spent tasks.Setup turns) = refl
cause_rank plan journal tool (Spent (tasks.Chunk number) turns) = refl
cause_rank plan journal tool (Spent (tasks.Batch position) turns) = refl

-- no ground, or one of this place at most
abbrev pub AtMost : ℕ → Option Reason → Type 0
AtMost most None = Unit {0}
AtMost most (Some reason) = rank_of reason ≤ most

module _ (most : ℕ) where
  first_most : (old : Option Reason) (reason : Reason) → AtMost most old → rank_of reason ≤ most → AtMost most (first_reason old reason)
  first_most None reason was is = is
  first_most (Some first) reason was is = was

  reverts_most : (reason : Reason) (tool : Tool) → AtMost most tool.reason → rank_of reason ≤ most → AtMost most (reverts reason tool).reason
  reverts_most reason tool was is = by (is_renamed tool.tool_phase) where
    by : (b : Bool) → AtMost most (cond b tool (record tool { reason = first_reason tool.reason reason; tool_phase = stopped tool.tool_phase })).reason
    by true = was
    by false = first_most tool.reason reason was is

  module _ (plan : PlanData) where
    spends_most : (task : Task) (tries : List ℕ) (tool : Tool) → AtMost most tool.reason → rank_of (Spent task tries) ≤ most → AtMost most (spends plan task tries tool).reason
    spends_most task tries tool was is = by (length tries == plan.options.default_retries) where
      by : (b : Bool) → AtMost most (cond b (reverts (Spent task tries) tool) tool).reason
      by true = reverts_most (Spent task tries) tool was is
      by false = was

    unless_most : (tool after : Tool) (b : Bool) → AtMost most tool.reason → AtMost most after.reason → AtMost most (cond b tool after).reason
    unless_most tool after true was is = was
    unless_most tool after false was is = is

    copy_most : (work : Work) (progress : Progress) (copier : Copier) (tool : Tool) → AtMost most tool.reason → (progress ≡ TaskFailed → 1 ≤ most) → AtMost most (copy_after plan work progress copier tool).reason
    copy_most work Going copier tool was fails = was
    copy_most work TaskDone copier tool was fails = was
    copy_most work TaskFailed copier tool was fails = spends_most (tasks.Chunk copier.number) (work.chunk_tries ++ tool.turns ∷ []) (working (record work { copier = copier; chunk_tries = work.chunk_tries ++ tool.turns ∷ [] }) tool) was (fails refl)
    copy_most work (Unfit place number) copier tool was fails = reverts_most (CopyUnfit tool.turns place number) tool was (omega arith)

    apply_most : (work : Work) (progress : Progress) (applier : Applier) (tool : Tool) → AtMost most tool.reason → (progress ≡ TaskFailed → 1 ≤ most) → AtMost most (apply_after plan work progress applier tool).reason
    apply_most work Going applier tool was fails = was
    apply_most work TaskDone applier tool was fails = was
    apply_most work TaskFailed applier tool was fails = spends_most (tasks.Batch applier.position) (work.batch_tries ++ tool.turns ∷ []) (working (record work { applier = applier; batch_tries = work.batch_tries ++ tool.turns ∷ [] }) tool) was (fails refl)
    apply_most work (Unfit place number) applier tool was fails = reverts_most (ApplyUnfit tool.turns place number) tool was (omega arith)

    setup_most : (setup : Setup) (tries : List ℕ) (answer : Answer) (tool : Tool) → AtMost most tool.reason → 1 ≤ most → AtMost most (setup_took plan setup tries answer tool).reason
    setup_most setup tries answer tool was some = by (is_bad answer) where
      by : (b : Bool)
          → AtMost most (cond b (spends plan tasks.Setup (tries ++ tool.turns ∷ []) (record tool { tool_phase = SettingUp Listing (tries ++ tool.turns ∷ []) })) (record tool { tool_phase = tool_phase_of plan tool.operator.size (setup_after plan.table setup answer) tries })).reason
      by true = spends_most tasks.Setup (tries ++ tool.turns ∷ []) (record tool { tool_phase = SettingUp Listing (tries ++ tool.turns ∷ []) }) was some
      by false = was

    -- the setup's, the copier's and the applier's answers: a task is spent by a loss or a time-out alone
    pub setup_answer : (setup : Setup) (tries : List ℕ) (answer : Answer) (tool : Tool) → AtMost most tool.reason → 1 ≤ most → AtMost most (actor_took plan Insp answer (SettingUp setup tries) tool).reason
    setup_answer setup tries answer tool was some = unless_most tool (setup_took plan setup tries answer tool) (is_reverting tool.reason) was (setup_most setup tries answer tool was some)

    pub copy_answer : (answer : Answer) (tool_phase : ToolPhase) (tool : Tool) → AtMost most tool.reason → (is_bad answer ≡ true → 1 ≤ most) → AtMost most (actor_took plan Copy answer tool_phase tool).reason
    copy_answer answer (SettingUp setup tries) tool was fails = was
    copy_answer answer (Migrating work) tool was fails =
        unless_most tool (copy_took plan answer work tool) (is_reverting tool.reason) was (copy_most work (copiers.progress work.copier answer) (copiers.took tool.turns work.copier answer) tool was (λ failed. fails (chunk_fails work.copier answer failed)))

    pub apply_answer : (answer : Answer) (tool_phase : ToolPhase) (tool : Tool) → AtMost most tool.reason → (is_bad answer ≡ true → 1 ≤ most) → AtMost most (actor_took plan Apply answer tool_phase tool).reason
    apply_answer answer (SettingUp setup tries) tool was fails = was
    apply_answer answer (Migrating work) tool was fails =
        unless_most tool (apply_took plan answer work tool) (is_reverting tool.reason) was (apply_most work (appliers.progress work.applier answer) (appliers.took tool.turns work.applier answer) tool was (λ failed. fails (batch_fails work.applier answer failed)))

  pub panic_most : (tool : Tool) → AtMost most tool.reason → AtMost most (command_took Panic tool).reason
  panic_most tool was = reverts_most (Panicked tool.turns) (record tool { operator = commanded Panic tool.operator; tool_phase = tool.tool_phase }) was (omega arith)

-- a ground that the applier's answer gave stays, though its turn counts for the drain
pub drain_stays : (plan : PlanData) (tool : Tool) → is_reverting tool.reason ≡ true → (turn_counts plan Apply tool).reason ≡ tool.reason
drain_stays plan tool on = by (counts_holds plan tool.reason Apply tool (inl refl)) where
  by : Follows tool.turns tool.reason (turn_counts plan Apply tool).reason → (turn_counts plan Apply tool).reason ≡ tool.reason
  by (inl same) = same
  by (inr none) = absurd (false≢true (sym (ap is_reverting none.0) ∙ on))
