-- A failed try of a task is counted in its turn, where nothing is reverted after that.
use Rattle.std.proofs.Common.{◌≡◌, ◌≤◌, ◌<◌, ℕ, ◌+◌, ◌==◌, Bool, true, false, cond, List, [], ◌∷◌, ◌++◌, length, Option, Some, None, refl, sym, ap, ◌∙◌, subst, arith}
use Rattle.std.specs.Prelude.{nat_le}
use Rattle.std.proofs.lemmas.Bool.{true≢false, false≢true}
use Rattle.std.proofs.lemmas.Bool.Decides.{nat_tests}
use Rattle.std.proofs.lemmas.List.{length_push}
use Rattle.std.proofs.lemmas.Option.{none-some, same_Some}
use Rattle.base_script.specs.declared.actor.Actor.TheVariants.{Insp, Copy, Apply}
use Rattle.server_model.specs.declared.answer.Answer.{Answer}
use Rattle.server_model.specs.declared.answer.Answer.TheVariants as answers
use Rattle.server_model.specs.declared.outcome.Progress.{Progress}
use Rattle.server_model.specs.declared.outcome.Progress.TheVariants.{Going, TaskDone, TaskFailed, Unfit}
use Rattle.server_model.specs.declared.outcome.Task.{Task}
use Rattle.server_model.specs.declared.outcome.Task.TheVariants as tasks
use Rattle.plan_data.specs.PlanData.{PlanData}
use Rattle.tool_program.specs.declared.chunk_copier.copier.Copier.{Copier}
use Rattle.tool_program.specs.declared.event_applier.applier.Applier.{Applier}
use Rattle.tool_program.specs.declared.cutover_core.cutover.CutOver.{CutOver}
use Rattle.tool_program.specs.declared.cutover_core.cutover.Phase.{Phase}
use Rattle.tool_program.specs.declared.cutover_core.cutover.Phase.TheVariants.{Resting, Attempting, Ending, Finishing, Finished}
use Rattle.tool_program.specs.declared.cutover_core.cutover.Drain.{Drain}
use Rattle.tool_program.specs.declared.cutover_core.cutover.Drain.TheVariants.{Turns, Passed}
use Rattle.tool_program.specs.declared.cutover_core.cutover.Stage.{Stage}
use Rattle.tool_program.specs.declared.cutover_core.cutover.Clearing.TheVariants.{Looking}
use Rattle.tool_program.specs.declared.cutover_core.cutover.Role.{Role}
use Rattle.tool_program.specs.declared.cutover_core.cutover.Role.TheVariants.{Inspector, Locker, Renamer}
use Rattle.tool_program.specs.ChunkCopier.Copiers as copiers
use Rattle.tool_program.specs.EventApplier.Appliers as appliers
use Rattle.tool_program.specs.CutoverCore.CutOvers as cutovers
use Rattle.tool_program.specs.CutoverCore.CutOvers.{is_bad, locker_phase, inspector_phase, renamer_phase}
use Rattle.tool_program.specs.Failures.{turns_of, turns_in, has_passed}
use Rattle.tool_program.specs.Setups.{Setup, Listing, setup_after}
use Rattle.tool_program.specs.Tools.{Work, ToolPhase, SettingUp, Migrating, Spent, Tool, first_reason, stopped, is_renamed, reverts, spends, is_reverting, copy_took, apply_after, apply_took, attempt_after, is_failure, cutover_took, drains, tool_phase_of, setup_took, actor_took}
use Rattle.proof_migration.proofs.Attempt.Verdicts.Reasons.{chunk_stays, batch_stays}
use Rattle.proof_order.proofs.LeastCauses.RisingTurns.{in_last}
use Rattle.proof_order.proofs.LeastCauses.CountedTries.{HasTry, tries_of, never_none, copied, applied, calm_attempt, calm_copy, calm_apply, calm_setup}

-- a loss and a time-out are a failed try of a chunk, and of a batch
bad_copy : (copier : Copier) (answer : Answer) → is_bad answer ≡ true → copiers.progress copier answer ≡ TaskFailed
unfolding copiers.progress
bad_copy copier answers.Lost bad = refl
bad_copy copier (answers.TimedOut waited) bad = refl
bad_copy copier answer bad = absurd (false≢true bad)

pub bad_apply : (applier : Applier) (answer : Answer) → is_bad answer ≡ true → appliers.progress applier answer ≡ TaskFailed
unfolding appliers.progress
bad_apply applier answers.Lost bad = refl
bad_apply applier (answers.TimedOut waited) bad = refl
bad_apply applier answer bad = absurd (false≢true bad)

pub not_done : (progress : Progress) → progress ≡ TaskFailed → progress ≡ TaskDone → ⊥
not_done progress failed done = let both : TaskFailed ≡ TaskDone = sym failed ∙ done in cc

-- one of the three lost its session, or its wait timed out: in an attempt, or the locker as it begins one
abbrev pub MayFail : Role → Phase → Type 0
MayFail Locker Resting = Unit {0}
MayFail role (Attempting stage) = Unit {0}
MayFail role phase = ⊥

bad_inspector : (cutover : CutOver) (phase : Phase) (answer : Answer) → MayFail Inspector phase → is_bad answer ≡ true → is_failure phase (inspector_phase cutover phase answer) ≡ true
bad_inspector cutover (Attempting stage) answer may bad = ap (λ (b : Bool). is_failure (Attempting stage) (cond b (Ending Looking) (Attempting (cutovers.inspector_stage cutover.has_counter stage answer)))) bad
bad_inspector cutover Resting answer may bad = absurd may
bad_inspector cutover (Ending clearing) answer may bad = absurd may
bad_inspector cutover (Finishing clearing) answer may bad = absurd may
bad_inspector cutover Finished answer may bad = absurd may

bad_locker : (phase : Phase) (answer : Answer) → MayFail Locker phase → is_bad answer ≡ true → is_failure phase (locker_phase phase answer) ≡ true
bad_locker (Attempting stage) answer may bad = ap (λ (b : Bool). is_failure (Attempting stage) (cond b (Ending Looking) (Attempting (cutovers.locker_stage stage answer)))) bad
bad_locker Resting answers.Lost may bad = refl
bad_locker Resting (answers.TimedOut waited) may bad = refl
bad_locker Resting answer may bad = absurd (false≢true bad)
bad_locker (Ending clearing) answer may bad = absurd may
bad_locker (Finishing clearing) answer may bad = absurd may
bad_locker Finished answer may bad = absurd may

bad_renamer : (phase : Phase) (answer : Answer) → MayFail Renamer phase → is_bad answer ≡ true → is_failure phase (renamer_phase phase answer) ≡ true
bad_renamer (Attempting stage) answers.Lost may bad = refl
bad_renamer (Attempting stage) (answers.TimedOut waited) may bad = refl
bad_renamer (Attempting stage) answer may bad = absurd (false≢true bad)
bad_renamer Resting answer may bad = absurd may
bad_renamer (Ending clearing) answer may bad = absurd may
bad_renamer (Finishing clearing) answer may bad = absurd may
bad_renamer Finished answer may bad = absurd may

bad_role : (role : Role) (cutover : CutOver) (answer : Answer) → MayFail role cutover.phase → is_bad answer ≡ true → is_failure cutover.phase (cutovers.took role cutover answer).phase ≡ true
unfolding cutovers.took
bad_role Inspector cutover answer may bad = bad_inspector cutover cutover.phase answer may bad
bad_role Locker cutover answer may bad = bad_locker cutover.phase answer may bad
bad_role Renamer cutover answer may bad = bad_renamer cutover.phase answer may bad

module _ (plan : PlanData) where
  -- what is said of a tool, where nothing is reverted
  going : (P : Tool → Type 0) (tool after : Tool) → tool.reason ≡ None → (cond (is_reverting tool.reason) tool after).reason ≡ None → (after.reason ≡ None → P after) → P (cond (is_reverting tool.reason) tool after)
  going P tool after before calm is = by (is_reverting tool.reason) (ap is_reverting before) calm where
    by : (b : Bool) → b ≡ false → (cond b tool after).reason ≡ None → P (cond b tool after)
    by true off calm = absurd (true≢false off)
    by false off calm = is calm

  -- THE SETUP

  pub failed_setup : (answer : Answer) (setup : Setup) (tries : List ℕ) (tool : Tool) → tool.reason ≡ None → is_bad answer ≡ true → (actor_took plan Insp answer (SettingUp setup tries) tool).reason ≡ None
      → HasTry tasks.Setup tool.turns (actor_took plan Insp answer (SettingUp setup tries) tool).tool_phase
  failed_setup answer setup tries tool before bad calm = going (λ t. HasTry tasks.Setup tool.turns t.tool_phase) tool (setup_took plan setup tries answer tool) before calm (by (is_bad answer) bad) where
    again : Tool
    again = spends plan tasks.Setup (tries ++ tool.turns ∷ []) (record tool { tool_phase = SettingUp Listing (tries ++ tool.turns ∷ []) })

    by : (b : Bool) → b ≡ true → (cond b again (record tool { tool_phase = tool_phase_of plan tool.operator.size (setup_after plan.table setup answer) tries })).reason ≡ None
        → HasTry tasks.Setup tool.turns (cond b again (record tool { tool_phase = tool_phase_of plan tool.operator.size (setup_after plan.table setup answer) tries })).tool_phase
    by true is still = subst (λ (t : Tool). HasTry tasks.Setup tool.turns t.tool_phase) (sym (calm_setup plan tries tool still)) (tt, in_last tool.turns tries)
    by false is still = absurd (false≢true is)

  -- A CHUNK

  pub failed_chunk : (number : ℕ) (answer : Answer) (work : Work) (tool : Tool) → tool.reason ≡ None → work.copier.number ≡ number → is_bad answer ≡ true → (actor_took plan Copy answer (Migrating work) tool).reason ≡ None
      → HasTry (tasks.Chunk number) tool.turns (actor_took plan Copy answer (Migrating work) tool).tool_phase
  failed_chunk number answer work tool before at bad calm = going (λ t. HasTry (tasks.Chunk number) tool.turns t.tool_phase) tool (copy_took plan answer work tool) before calm tried where
    copier : Copier
    copier = copiers.took tool.turns work.copier answer

    failed : copiers.progress work.copier answer ≡ TaskFailed
    failed = bad_copy work.copier answer bad

    stays : copier.number ≡ work.copier.number
    stays = chunk_stays tool.turns work.copier answer (not_done (copiers.progress work.copier answer) failed)

    counted : HasTry (tasks.Chunk number) tool.turns (copied plan work TaskFailed copier tool).tool_phase
    counted = (stays ∙ at, in_last tool.turns work.chunk_tries)

    tried : (copy_took plan answer work tool).reason ≡ None → HasTry (tasks.Chunk number) tool.turns (copy_took plan answer work tool).tool_phase
    tried still =
        subst (λ (t : Tool). HasTry (tasks.Chunk number) tool.turns t.tool_phase) (sym (calm_copy plan work (copiers.progress work.copier answer) copier tool still))
        (subst (λ (p : Progress). HasTry (tasks.Chunk number) tool.turns (copied plan work p copier tool).tool_phase) (sym failed) counted)

  -- A BATCH

  pub failed_batch : (position : ℕ) (answer : Answer) (work : Work) (tool : Tool) → tool.reason ≡ None → work.applier.position ≡ position → is_bad answer ≡ true → (actor_took plan Apply answer (Migrating work) tool).reason ≡ None
      → HasTry (tasks.Batch position) tool.turns (actor_took plan Apply answer (Migrating work) tool).tool_phase
  failed_batch position answer work tool before at bad calm = going (λ t. HasTry (tasks.Batch position) tool.turns t.tool_phase) tool (apply_took plan answer work tool) before calm tried where
    applier : Applier
    applier = appliers.took tool.turns work.applier answer

    failed : appliers.progress work.applier answer ≡ TaskFailed
    failed = bad_apply work.applier answer bad

    stays : applier.position ≡ work.applier.position
    stays = batch_stays tool.turns work.applier answer (not_done (appliers.progress work.applier answer) failed)

    counted : HasTry (tasks.Batch position) tool.turns (applied plan work TaskFailed applier tool).tool_phase
    counted = (stays ∙ at, in_last tool.turns work.batch_tries)

    tried : (apply_took plan answer work tool).reason ≡ None → HasTry (tasks.Batch position) tool.turns (apply_took plan answer work tool).tool_phase
    tried still =
        subst (λ (t : Tool). HasTry (tasks.Batch position) tool.turns t.tool_phase) (sym (calm_apply plan work (appliers.progress work.applier answer) applier tool still))
        (subst (λ (p : Progress). HasTry (tasks.Batch position) tool.turns (applied plan work p applier tool).tool_phase) (sym failed) counted)

  -- with the last try that the plan allows all is reverted, until the RENAME is known to be done
  unspent_fewer : (task : Task) (tries : List ℕ) (tool : Tool) → is_renamed tool.tool_phase ≡ false → (spends plan task tries tool).reason ≡ None → (length tries == plan.options.default_retries) ≡ false
  unspent_fewer task tries tool off calm = by (length tries == plan.options.default_retries) calm where
    reverted : (b : Bool) → b ≡ false → (cond b tool (record tool { reason = first_reason tool.reason (Spent task tries); tool_phase = stopped tool.tool_phase })).reason ≡ None → ⊥
    reverted true is calm = true≢false is
    reverted false is calm = never_none tool.reason (Spent task tries) calm

    by : (b : Bool) → (cond b (reverts (Spent task tries) tool) tool).reason ≡ None → b ≡ false
    by true calm = absurd (reverted (is_renamed tool.tool_phase) off calm)
    by false calm = refl

  pub failed_fewer : (position : ℕ) (answer : Answer) (work : Work) (tool : Tool) → tool.reason ≡ None → is_bad answer ≡ true → is_renamed (Migrating work) ≡ false → length work.batch_tries < plan.options.default_retries → (actor_took plan Apply answer (Migrating work) tool).reason ≡ None
      → length (tries_of (tasks.Batch position) (actor_took plan Apply answer (Migrating work) tool).tool_phase) < plan.options.default_retries
  failed_fewer position answer work tool before bad off fewer calm = going (λ t. length (tries_of (tasks.Batch position) t.tool_phase) < plan.options.default_retries) tool (apply_took plan answer work tool) before calm tried where
    applier : Applier
    applier = appliers.took tool.turns work.applier answer

    failed : appliers.progress work.applier answer ≡ TaskFailed
    failed = bad_apply work.applier answer bad

    same : apply_took plan answer work tool ≡ apply_after plan work TaskFailed applier tool
    same = ap (λ (p : Progress). apply_after plan work p applier tool) failed

    spent : (apply_after plan work TaskFailed applier tool).reason ≡ None → length (tries_of (tasks.Batch position) (apply_after plan work TaskFailed applier tool).tool_phase) < plan.options.default_retries
    spent still =
        subst (λ (t : Tool). length (tries_of (tasks.Batch position) t.tool_phase) < plan.options.default_retries) (sym (calm_apply plan work TaskFailed applier tool still))
        (below (length (work.batch_tries ++ tool.turns ∷ [])) plan.options.default_retries (let long = length_push work.batch_tries tool.turns in omega (arith, long, fewer))
        (unspent_fewer (tasks.Batch applier.position) (work.batch_tries ++ tool.turns ∷ []) (record tool { tool_phase = Migrating (record work { applier = applier; batch_tries = work.batch_tries ++ tool.turns ∷ [] }) }) off still)) where
          below : (a b : ℕ) → a ≤ b → (a == b) ≡ false → a < b
          below a b less differ = grind (arith, nat_tests, less, differ)

    tried : (apply_took plan answer work tool).reason ≡ None → length (tries_of (tasks.Batch position) (apply_took plan answer work tool).tool_phase) < plan.options.default_retries
    tried still = subst (λ (t : Tool). length (tries_of (tasks.Batch position) t.tool_phase) < plan.options.default_retries) (sym same) (spent (sym (ap (λ (t : Tool). t.reason) same) ∙ still))

  -- the drain after it leaves the batch's tries
  pub drained_batch : (position turn : ℕ) (tool_phase : ToolPhase) (tool : Tool) → tool.tool_phase ≡ tool_phase → (drains plan tool_phase tool).reason ≡ None → HasTry (tasks.Batch position) turn tool_phase → HasTry (tasks.Batch position) turn (drains plan tool_phase tool).tool_phase
  drained_batch position turn (SettingUp setup tries) tool at calm has = absurd has.0
  drained_batch position turn (Migrating work) tool at calm has =
      subst (λ (t : Tool). HasTry (tasks.Batch position) turn t.tool_phase)
      (sym (calm_attempt plan (is_failure work.cutover.phase (cutovers.applier_turn work.applier.hint work.cutover).phase) work (cutovers.applier_turn work.applier.hint work.cutover) tool calm)) has

  -- AN ATTEMPT

  attempt_tried : (fails : Bool) (work : Work) (cutover : CutOver) (tool : Tool) → fails ≡ true → (attempt_after plan fails work cutover tool).reason ≡ None → HasTry tasks.CutOver tool.turns (attempt_after plan fails work cutover tool).tool_phase
  attempt_tried true work cutover tool fails calm = subst (λ (t : Tool). HasTry tasks.CutOver tool.turns t.tool_phase) (sym (calm_attempt plan true work cutover tool calm)) (tt, in_last tool.turns work.attempt_tries)
  attempt_tried false work cutover tool fails calm = absurd (false≢true fails)

  pub failed_role : (role : Role) (answer : Answer) (work : Work) (tool : Tool) → MayFail role work.cutover.phase → is_bad answer ≡ true → (cutover_took plan role answer work tool).reason ≡ None
      → HasTry tasks.CutOver tool.turns (cutover_took plan role answer work tool).tool_phase
  failed_role role answer work tool may bad calm =
      attempt_tried (is_failure work.cutover.phase (cutovers.took role work.cutover answer).phase) work (cutovers.took role work.cutover answer) tool (bad_role role work.cutover answer may bad) calm

  -- THE DRAIN

  -- the applier's answer leaves the cut-over as it is
  record SameCutOver (work : Work) (turns : ℕ) (tool : Tool) : Type 0 where
    next : Work
    at : tool.tool_phase ≡ Migrating next
    same : next.cutover ≡ work.cutover
    turn : tool.turns ≡ turns

  applied_same : (work : Work) (progress : Progress) (applier : Applier) (tool : Tool) → tool.tool_phase ≡ Migrating work → SameCutOver work tool.turns (applied plan work progress applier tool)
  applied_same work Going applier tool at = record { next = record work { applier = applier }; at = refl; same = refl; turn = refl }
  applied_same work TaskDone applier tool at = record { next = record work { applier = applier; batch_tries = [] }; at = refl; same = refl; turn = refl }
  applied_same work TaskFailed applier tool at = record { next = record work { applier = applier; batch_tries = work.batch_tries ++ tool.turns ∷ [] }; at = refl; same = refl; turn = refl }
  applied_same work (Unfit place number) applier tool at = record { next = work; at = at; same = refl; turn = refl }

  apply_same : (answer : Answer) (work : Work) (tool : Tool) → tool.reason ≡ None → tool.tool_phase ≡ Migrating work → (actor_took plan Apply answer (Migrating work) tool).reason ≡ None → SameCutOver work tool.turns (actor_took plan Apply answer (Migrating work) tool)
  apply_same answer work tool before at calm =
      going (SameCutOver work tool.turns) tool (apply_took plan answer work tool) before calm
      (λ still. subst (SameCutOver work tool.turns) (sym (calm_apply plan work (appliers.progress work.applier answer) (appliers.took tool.turns work.applier answer) tool still))
      (applied_same work (appliers.progress work.applier answer) (appliers.took tool.turns work.applier answer) tool at))

  turned_attempts : (hint : ℕ) (cutover : CutOver) → (cutovers.applier_turn hint cutover).attempts ≡ cutover.attempts
  unfolding cutovers.applier_turn
  turned_attempts hint cutover = refl

  last_drain : (hint turns : ℕ) (cutover : CutOver) → turns_in cutover.phase ≡ Some turns → turns + 1 ≡ cutover.drain_limit → (hint == cutover.attempts) ≡ false → is_failure cutover.phase (cutovers.applier_turn hint cutover).phase ≡ true
  unfolding cutovers.applier_turn
  last_drain hint turns cutover at last behind = by cutover.phase at where
    reached : (limit turns : ℕ) → turns ≡ limit → nat_le limit turns ≡ true
    reached limit turns same = grind (arith, nat_tests, same)

    staged : (stage : Stage) (drain : Option Drain) → turns_of drain ≡ Some turns → is_failure (Attempting stage) (cutovers.drains_to cutover hint stage drain) ≡ true
    staged stage (Some (Turns count)) same =
        ap (λ (b : Bool). is_failure (Attempting stage) (cond b (Attempting (cutovers.with_drain stage Passed)) (cond (nat_le cutover.drain_limit (count + 1)) (Ending Looking) (Attempting (cutovers.with_drain stage (Turns (count + 1))))))) behind
        ∙ ap (λ (b : Bool). is_failure (Attempting stage) (cond b (Ending Looking) (Attempting (cutovers.with_drain stage (Turns (count + 1)))))) (reached cutover.drain_limit (count + 1) (ap (λ (n : ℕ). n + 1) (same_Some count turns same) ∙ last))
    staged stage (Some Passed) same = absurd (none-some turns same)
    staged stage None same = absurd (none-some turns same)

    by : (phase : Phase) → turns_in phase ≡ Some turns → is_failure phase (cutovers.drained cutover hint phase) ≡ true
    by (Attempting stage) at = staged stage (cutovers.drain_of stage) at
    by Resting at = absurd (none-some turns at)
    by (Ending clearing) at = absurd (none-some turns at)
    by (Finishing clearing) at = absurd (none-some turns at)
    by Finished at = absurd (none-some turns at)

  -- the drain's last turn, after which the hint row isn't passed
  drain_tried : (tool_phase : ToolPhase) (tool : Tool) (work : Work) (turns : ℕ) → tool_phase ≡ Migrating work → turns_in work.cutover.phase ≡ Some turns → turns + 1 ≡ work.cutover.drain_limit → has_passed (drains plan tool_phase tool).tool_phase ≡ false
      → (drains plan tool_phase tool).reason ≡ None → HasTry tasks.CutOver tool.turns (drains plan tool_phase tool).tool_phase
  drain_tried (SettingUp setup tries) tool work turns at phase last behind calm = absurd (let no : SettingUp setup tries ≡ Migrating work = at in cc)
  drain_tried (Migrating next) tool work turns at phase last behind calm = attempt_tried fails next turned tool (last_drain next.applier.hint turns next.cutover (ap (λ (w : Work). turns_in w.cutover.phase) same ∙ phase) (last ∙ ap (λ (w : Work). w.cutover.drain_limit) (sym same)) unpassed) calm where
    same : next ≡ work
    same = let one : Migrating next ≡ Migrating work = at in cc

    turned : CutOver
    turned = cutovers.applier_turn next.applier.hint next.cutover

    fails : Bool
    fails = is_failure next.cutover.phase turned.phase

    unpassed : (next.applier.hint == next.cutover.attempts) ≡ false
    unpassed = ap (λ (n : ℕ). next.applier.hint == n) (sym (turned_attempts next.applier.hint next.cutover)) ∙ sym (ap (λ (t : Tool). has_passed t.tool_phase) (calm_attempt plan fails next turned tool calm)) ∙ behind

  pub failed_drain : (answer : Answer) (work : Work) (turns : ℕ) (tool : Tool) → tool.reason ≡ None → tool.tool_phase ≡ Migrating work → (actor_took plan Apply answer (Migrating work) tool).reason ≡ None
      → turns_in work.cutover.phase ≡ Some turns → turns + 1 ≡ work.cutover.drain_limit
      → has_passed (drains plan (actor_took plan Apply answer (Migrating work) tool).tool_phase (actor_took plan Apply answer (Migrating work) tool)).tool_phase ≡ false
      → (drains plan (actor_took plan Apply answer (Migrating work) tool).tool_phase (actor_took plan Apply answer (Migrating work) tool)).reason ≡ None
      → HasTry tasks.CutOver tool.turns (drains plan (actor_took plan Apply answer (Migrating work) tool).tool_phase (actor_took plan Apply answer (Migrating work) tool)).tool_phase
  failed_drain answer work turns tool before at calm phase last behind still =
      let taken : Tool = actor_took plan Apply answer (Migrating work) tool in
      let same : SameCutOver work tool.turns taken = apply_same answer work tool before at calm in
      subst (λ (n : ℕ). HasTry tasks.CutOver n (drains plan taken.tool_phase taken).tool_phase) same.turn
      (drain_tried taken.tool_phase taken same.next turns same.at (ap (λ (c : CutOver). turns_in c.phase) same.same ∙ phase) (last ∙ ap (λ (c : CutOver). c.drain_limit) (sym same.same)) behind still)
