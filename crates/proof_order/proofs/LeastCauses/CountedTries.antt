-- Which tries of a task the tool has counted, and what one turn leaves of that where nothing is reverted.
use Rattle.std.proofs.Common.{◌≡◌, ◌⊎◌, ◌<◌, ℕ, ◌+◌, ◌==◌, Bool, true, false, cond, List, [], ◌∷◌, ◌++◌, length, Option, Some, None, refl, sym, ap, ◌∙◌, subst, inl, inr, arith}
use Rattle.base_script.specs.declared.actor.Actor.{Actor}
use Rattle.base_script.specs.declared.actor.Actor.TheVariants.{Op, Insp, Copy, Apply, Lock, Ren, Client}
use Rattle.base_script.specs.declared.operator.OperatorWord.{OperatorWord}
use Rattle.base_script.specs.declared.operator.OperatorWord.TheVariants.{Throttle, NoThrottle, ChunkSize, Unpostpone, Panic, Wait}
use Rattle.server_model.specs.declared.answer.Answer.{Answer}
use Rattle.server_model.specs.declared.answer.Answer.TheVariants as answers
use Rattle.server_model.specs.declared.entry.Asked.{Asked}
use Rattle.server_model.specs.declared.entry.Asked.TheVariants.{Call, Poll, Command, Cut}
use Rattle.server_model.specs.declared.entry.Entry.{Entry}
use Rattle.server_model.specs.declared.outcome.Progress.{Progress}
use Rattle.server_model.specs.declared.outcome.Progress.TheVariants.{Going, TaskDone, TaskFailed, Unfit}
use Rattle.server_model.specs.declared.outcome.Task.{Task}
use Rattle.server_model.specs.declared.outcome.Task.TheVariants as tasks
use Rattle.server_model.specs.Entries.{is_command, is_cut}
use Rattle.server_model.specs.States.{State, has_work}
use Rattle.plan_data.specs.PlanData.{PlanData}
use Rattle.tool_program.specs.declared.chunk_copier.copier.Copier.{Copier}
use Rattle.tool_program.specs.declared.chunk_copier.copier.CopyStep.{CopyStep}
use Rattle.tool_program.specs.declared.chunk_copier.copier.CopyStep.TheVariants as copying
use Rattle.tool_program.specs.declared.event_applier.applier.Applier.{Applier}
use Rattle.tool_program.specs.declared.cutover_core.cutover.CutOver.{CutOver}
use Rattle.tool_program.specs.declared.cutover_core.cutover.Role.TheVariants.{Inspector, Locker, Renamer}
use Rattle.tool_program.specs.ChunkCopier.Copiers as copiers
use Rattle.tool_program.specs.EventApplier.Appliers as appliers
use Rattle.tool_program.specs.CutoverCore.CutOvers as cutovers
use Rattle.tool_program.specs.CutoverCore.CutOvers.{is_bad}
use Rattle.tool_program.specs.Operators.{commanded}
use Rattle.tool_program.specs.Setups.{Setup, Listing, Clearing, MakingLog, MakingGhost, Marking, Reaching, Ready, setup_after}
use Rattle.tool_program.specs.Tools.{Work, ToolPhase, SettingUp, Migrating, Reason, CopyUnfit, ApplyUnfit, Spent, Panicked, Tool, first_reason, stopped, is_renamed, reverts, spends, is_reverting, working, copy_after, copy_took, apply_after, apply_took, attempt_after, is_failure, drains, tool_phase_of, setup_took, actor_took, turn_counts, resizes, command_took, asked_took}
use Rattle.proof_migration.proofs.Attempt.Verdicts.Reasons.{chunk_stays, batch_stays}
use Rattle.proof_order.proofs.LeastCauses.RisingTurns.{IsIn, in_front}

-- WHAT IS COUNTED

-- the turns at which the task at hand of this kind failed so far
abbrev pub tries_of : Task → ToolPhase → List ℕ
tries_of tasks.Setup (SettingUp setup tries) = tries
tries_of (tasks.Chunk number) (Migrating work) = work.chunk_tries
tries_of (tasks.Batch position) (Migrating work) = work.batch_tries
tries_of tasks.CutOver (Migrating work) = work.attempt_tries
tries_of task tool_phase = []

-- the task isn't over
abbrev pub IsAtHand : Task → ToolPhase → Type 0
IsAtHand tasks.Setup (SettingUp setup tries) = Unit {0}
IsAtHand (tasks.Chunk number) (Migrating work) = work.copier.number ≡ number
IsAtHand (tasks.Batch position) (Migrating work) = work.applier.position ≡ position
IsAtHand tasks.CutOver (Migrating work) = Unit {0}
IsAtHand task tool_phase = ⊥

-- it is
abbrev pub IsOver : Task → ToolPhase → Type 0
IsOver tasks.Setup (Migrating work) = Unit {0}
IsOver (tasks.Chunk number) (Migrating work) = number < work.copier.number
IsOver (tasks.Batch position) (Migrating work) = position < work.applier.position
IsOver task tool_phase = ⊥

-- the try of the task at hand is counted
abbrev pub HasTry : Task → ℕ → ToolPhase → Type 0
HasTry task turn tool_phase = IsAtHand task tool_phase × IsIn turn (tries_of task tool_phase)

-- ... or its task is over
abbrev pub IsCounted : Task → ℕ → ToolPhase → Type 0
IsCounted task turn tool_phase = HasTry task turn tool_phase ⊎ IsOver task tool_phase

-- what is over isn't at hand
pub not_over : (task : Task) (tool_phase : ToolPhase) → IsAtHand task tool_phase → IsOver task tool_phase → ⊥
not_over tasks.Setup (SettingUp setup tries) hand over = over
not_over tasks.Setup (Migrating work) hand over = hand
not_over (tasks.Chunk number) (SettingUp setup tries) hand over = over
not_over (tasks.Chunk number) (Migrating work) hand over = omega (arith, hand, over)
not_over (tasks.Batch position) (SettingUp setup tries) hand over = over
not_over (tasks.Batch position) (Migrating work) hand over = omega (arith, hand, over)
not_over tasks.CutOver (SettingUp setup tries) hand over = over
not_over tasks.CutOver (Migrating work) hand over = over

-- all that is counted stays so
abbrev pub Grows : ToolPhase → ToolPhase → Type 0
Grows before after = (task : Task) (turn : ℕ) → IsCounted task turn before → IsCounted task turn after

-- all tries of the one list are in the other
abbrev pub HasAll : List ℕ → List ℕ → Type 0
HasAll tries more = (turn : ℕ) → IsIn turn tries → IsIn turn more

-- WHERE NOTHING IS REVERTED

-- with the turn, where it is a failed try
abbrev pub with_try : Bool → List ℕ → ℕ → List ℕ
with_try true tries turn = tries ++ turn ∷ []
with_try false tries turn = tries

with_all : (fails : Bool) (tries : List ℕ) (turn : ℕ) → HasAll tries (with_try fails tries turn)
with_all true tries turn = λ one is. in_front one tries (turn ∷ []) is
with_all false tries turn = λ one is. is

pub never_none : (old : Option Reason) (reason : Reason) → first_reason old reason ≡ None → ⊥
never_none None reason calm = cc
never_none (Some first) reason calm = cc

unreverted : (reason : Reason) (tool : Tool) → (reverts reason tool).reason ≡ None → reverts reason tool ≡ tool
unreverted reason tool calm = by (is_renamed tool.tool_phase) calm where
  by : (b : Bool) → (cond b tool (record tool { reason = first_reason tool.reason reason; tool_phase = stopped tool.tool_phase })).reason ≡ None → cond b tool (record tool { reason = first_reason tool.reason reason; tool_phase = stopped tool.tool_phase }) ≡ tool
  by true calm = refl
  by false calm = absurd (never_none tool.reason reason calm)

module _ (plan : PlanData) where
  unspent : (task : Task) (tries : List ℕ) (tool : Tool) → (spends plan task tries tool).reason ≡ None → spends plan task tries tool ≡ tool
  unspent task tries tool calm = by (length tries == plan.options.default_retries) calm where
    by : (b : Bool) → (cond b (reverts (Spent task tries) tool) tool).reason ≡ None → cond b (reverts (Spent task tries) tool) tool ≡ tool
    by true calm = unreverted (Spent task tries) tool calm
    by false calm = refl

  -- the attempt, after a turn of one of the three or of the applier
  pub calm_attempt : (fails : Bool) (work : Work) (cutover : CutOver) (tool : Tool) → (attempt_after plan fails work cutover tool).reason ≡ None
      → attempt_after plan fails work cutover tool ≡ working (record work { cutover = cutover; attempt_tries = with_try fails work.attempt_tries tool.turns }) tool
  calm_attempt true work cutover tool calm = unspent tasks.CutOver (work.attempt_tries ++ tool.turns ∷ []) (working (record work { cutover = cutover; attempt_tries = work.attempt_tries ++ tool.turns ∷ [] }) tool) calm
  calm_attempt false work cutover tool calm = refl

  -- the copier after its answer
  abbrev pub copied : Work → Progress → Copier → Tool → Tool
  copied work Going copier tool = working (record work { copier = copier }) tool
  copied work TaskDone copier tool = working (record work { copier = copier; chunk_tries = [] }) tool
  copied work TaskFailed copier tool = working (record work { copier = copier; chunk_tries = work.chunk_tries ++ tool.turns ∷ [] }) tool
  copied work (Unfit place number) copier tool = tool

  pub calm_copy : (work : Work) (progress : Progress) (copier : Copier) (tool : Tool) → (copy_after plan work progress copier tool).reason ≡ None → copy_after plan work progress copier tool ≡ copied work progress copier tool
  calm_copy work Going copier tool calm = refl
  calm_copy work TaskDone copier tool calm = refl
  calm_copy work TaskFailed copier tool calm = unspent (tasks.Chunk copier.number) (work.chunk_tries ++ tool.turns ∷ []) (working (record work { copier = copier; chunk_tries = work.chunk_tries ++ tool.turns ∷ [] }) tool) calm
  calm_copy work (Unfit place number) copier tool calm = unreverted (CopyUnfit tool.turns place number) tool calm

  -- the applier after its answer
  abbrev pub applied : Work → Progress → Applier → Tool → Tool
  applied work Going applier tool = working (record work { applier = applier }) tool
  applied work TaskDone applier tool = working (record work { applier = applier; batch_tries = [] }) tool
  applied work TaskFailed applier tool = working (record work { applier = applier; batch_tries = work.batch_tries ++ tool.turns ∷ [] }) tool
  applied work (Unfit place number) applier tool = tool

  pub calm_apply : (work : Work) (progress : Progress) (applier : Applier) (tool : Tool) → (apply_after plan work progress applier tool).reason ≡ None → apply_after plan work progress applier tool ≡ applied work progress applier tool
  calm_apply work Going applier tool calm = refl
  calm_apply work TaskDone applier tool calm = refl
  calm_apply work TaskFailed applier tool calm = unspent (tasks.Batch applier.position) (work.batch_tries ++ tool.turns ∷ []) (working (record work { applier = applier; batch_tries = work.batch_tries ++ tool.turns ∷ [] }) tool) calm
  calm_apply work (Unfit place number) applier tool calm = unreverted (ApplyUnfit tool.turns place number) tool calm

  -- the setup after a try that failed
  pub calm_setup : (tries : List ℕ) (tool : Tool) → (spends plan tasks.Setup (tries ++ tool.turns ∷ []) (record tool { tool_phase = SettingUp Listing (tries ++ tool.turns ∷ []) })).reason ≡ None
      → spends plan tasks.Setup (tries ++ tool.turns ∷ []) (record tool { tool_phase = SettingUp Listing (tries ++ tool.turns ∷ []) }) ≡ record tool { tool_phase = SettingUp Listing (tries ++ tool.turns ∷ []) }
  calm_setup tries tool calm = unspent tasks.Setup (tries ++ tool.turns ∷ []) (record tool { tool_phase = SettingUp Listing (tries ++ tool.turns ∷ []) }) calm

-- WHAT GROWS

-- with another cut-over
cut_grows : (work : Work) (cutover : CutOver) (tries : List ℕ) → HasAll work.attempt_tries tries → Grows (Migrating work) (Migrating (record work { cutover = cutover; attempt_tries = tries }))
cut_grows work cutover tries more tasks.Setup turn is = inr tt
cut_grows work cutover tries more (tasks.Chunk number) turn is = is
cut_grows work cutover tries more (tasks.Batch position) turn is = is
cut_grows work cutover tries more tasks.CutOver turn (inl is) = inl (tt, more turn is.1)
cut_grows work cutover tries more tasks.CutOver turn (inr over) = absurd over

-- with another copier: at the same chunk, or at a later one
chunk_grows : (work : Work) (copier : Copier) (tries : List ℕ) → ((copier.number ≡ work.copier.number) × HasAll work.chunk_tries tries) ⊎ (work.copier.number < copier.number) → Grows (Migrating work) (Migrating (record work { copier = copier; chunk_tries = tries }))
chunk_grows work copier tries at tasks.Setup turn is = inr tt
chunk_grows work copier tries at (tasks.Batch position) turn is = is
chunk_grows work copier tries at tasks.CutOver turn is = is
chunk_grows work copier tries (inl same) (tasks.Chunk number) turn (inl is) = inl (same.0 ∙ is.0, same.1 turn is.1)
chunk_grows work copier tries (inl same) (tasks.Chunk number) turn (inr over) = inr (let at : copier.number ≡ work.copier.number = same.0 in omega (arith, at, over))
chunk_grows work copier tries (inr later) (tasks.Chunk number) turn (inl is) = inr (let at : work.copier.number ≡ number = is.0 in omega (arith, at, later))
chunk_grows work copier tries (inr later) (tasks.Chunk number) turn (inr over) = inr (omega (arith, later, over))

-- with another applier: at the same position, or at a later one
batch_grows : (work : Work) (applier : Applier) (tries : List ℕ) → ((applier.position ≡ work.applier.position) × HasAll work.batch_tries tries) ⊎ (work.applier.position < applier.position) → Grows (Migrating work) (Migrating (record work { applier = applier; batch_tries = tries }))
batch_grows work applier tries at tasks.Setup turn is = inr tt
batch_grows work applier tries at (tasks.Chunk number) turn is = is
batch_grows work applier tries at tasks.CutOver turn is = is
batch_grows work applier tries (inl same) (tasks.Batch position) turn (inl is) = inl (same.0 ∙ is.0, same.1 turn is.1)
batch_grows work applier tries (inl same) (tasks.Batch position) turn (inr over) = inr (let at : applier.position ≡ work.applier.position = same.0 in omega (arith, at, over))
batch_grows work applier tries (inr later) (tasks.Batch position) turn (inl is) = inr (let at : work.applier.position ≡ position = is.0 in omega (arith, at, later))
batch_grows work applier tries (inr later) (tasks.Batch position) turn (inr over) = inr (omega (arith, later, over))

-- the setup goes on, or is over
setup_grows : (setup next : Setup) (tries more : List ℕ) → HasAll tries more → Grows (SettingUp setup tries) (SettingUp next more)
setup_grows setup next tries more all tasks.Setup turn (inl is) = inl (tt, all turn is.1)
setup_grows setup next tries more all tasks.Setup turn (inr over) = absurd over
setup_grows setup next tries more all (tasks.Chunk number) turn (inl is) = absurd is.0
setup_grows setup next tries more all (tasks.Chunk number) turn (inr over) = absurd over
setup_grows setup next tries more all (tasks.Batch position) turn (inl is) = absurd is.0
setup_grows setup next tries more all (tasks.Batch position) turn (inr over) = absurd over
setup_grows setup next tries more all tasks.CutOver turn (inl is) = absurd is.0
setup_grows setup next tries more all tasks.CutOver turn (inr over) = absurd over

setup_ends : (setup : Setup) (tries : List ℕ) (work : Work) → Grows (SettingUp setup tries) (Migrating work)
setup_ends setup tries work tasks.Setup turn is = inr tt
setup_ends setup tries work (tasks.Chunk number) turn (inl is) = absurd is.0
setup_ends setup tries work (tasks.Chunk number) turn (inr over) = absurd over
setup_ends setup tries work (tasks.Batch position) turn (inl is) = absurd is.0
setup_ends setup tries work (tasks.Batch position) turn (inr over) = absurd over
setup_ends setup tries work tasks.CutOver turn (inl is) = absurd is.0
setup_ends setup tries work tasks.CutOver turn (inr over) = absurd over

-- ONE TURN

-- a chunk that is done has the next number
chunk_done : (turn : ℕ) (copier : Copier) (answer : Answer) → copiers.progress copier answer ≡ TaskDone → (copiers.took turn copier answer).number ≡ copier.number + 1
unfolding copiers.took copiers.progress
chunk_done turn copier answers.Lost is = absurd cc
chunk_done turn copier (answers.TimedOut waited) is = absurd cc
chunk_done turn copier answer is = by copier.step answer is where
  by : (step : CopyStep) (answer : Answer) → copiers.progress_at step answer ≡ TaskDone → (copiers.after_answer turn copier step answer).number ≡ copier.number + 1
  by step answers.Lost is = absurd cc
  by step (answers.TimedOut waited) is = absurd cc
  by copying.Choosing answer is = absurd cc
  by (copying.Spanning reported size) answer is = absurd cc
  by (copying.Copying chunk done) (answers.Refused number (Some place)) is = absurd cc
  by (copying.Copying chunk done) answer is = absurd cc
  by (copying.Committing chunk) (answers.Ok count) is = refl
  by (copying.Committing chunk) answer is = absurd cc

-- where the applier's batch is done its position rises
abbrev pub Rises : Answer → Tool → Work → Type 0
Rises answer tool work = appliers.progress work.applier answer ≡ TaskDone → work.applier.position < (appliers.took tool.turns work.applier answer).position

module _ (plan : PlanData) where
  attempt_grows : (fails : Bool) (work : Work) (cutover : CutOver) (tool : Tool) → (attempt_after plan fails work cutover tool).reason ≡ None → Grows (Migrating work) (attempt_after plan fails work cutover tool).tool_phase
  attempt_grows fails work cutover tool calm =
      subst (λ (t : Tool). Grows (Migrating work) t.tool_phase) (sym (calm_attempt plan fails work cutover tool calm)) (cut_grows work cutover (with_try fails work.attempt_tries tool.turns) (with_all fails work.attempt_tries tool.turns))

  copy_grows : (answer : Answer) (work : Work) (tool : Tool) → tool.tool_phase ≡ Migrating work → (copy_took plan answer work tool).reason ≡ None → Grows (Migrating work) (copy_took plan answer work tool).tool_phase
  copy_grows answer work tool at calm =
      subst (λ (t : Tool). Grows (Migrating work) t.tool_phase) (sym (calm_copy plan work (copiers.progress work.copier answer) copier tool calm)) (by (copiers.progress work.copier answer) refl) where
        copier : Copier
        copier = copiers.took tool.turns work.copier answer

        by : (progress : Progress) → copiers.progress work.copier answer ≡ progress → Grows (Migrating work) (copied plan work progress copier tool).tool_phase
        by Going is = chunk_grows work copier work.chunk_tries (inl (chunk_stays tool.turns work.copier answer (λ done. absurd (let both : Going ≡ TaskDone = sym is ∙ done in cc)), λ one among. among))
        by TaskDone is = chunk_grows work copier [] (inr (let next = chunk_done tool.turns work.copier answer is in omega (arith, next)))
        by TaskFailed is =
            chunk_grows work copier (work.chunk_tries ++ tool.turns ∷ []) (inl (chunk_stays tool.turns work.copier answer (λ done. absurd (let both : TaskFailed ≡ TaskDone = sym is ∙ done in cc)), with_all true work.chunk_tries tool.turns))
        by (Unfit place number) is = subst (Grows (Migrating work)) (sym at) (λ task turn counted. counted)

  apply_grows : (answer : Answer) (work : Work) (tool : Tool) → tool.tool_phase ≡ Migrating work → Rises answer tool work → (apply_took plan answer work tool).reason ≡ None → Grows (Migrating work) (apply_took plan answer work tool).tool_phase
  apply_grows answer work tool at rises calm =
      subst (λ (t : Tool). Grows (Migrating work) t.tool_phase) (sym (calm_apply plan work (appliers.progress work.applier answer) applier tool calm)) (by (appliers.progress work.applier answer) refl) where
        applier : Applier
        applier = appliers.took tool.turns work.applier answer

        by : (progress : Progress) → appliers.progress work.applier answer ≡ progress → Grows (Migrating work) (applied plan work progress applier tool).tool_phase
        by Going is = batch_grows work applier work.batch_tries (inl (batch_stays tool.turns work.applier answer (λ done. absurd (let both : Going ≡ TaskDone = sym is ∙ done in cc)), λ one among. among))
        by TaskDone is = batch_grows work applier [] (inr (rises is))
        by TaskFailed is =
            batch_grows work applier (work.batch_tries ++ tool.turns ∷ []) (inl (batch_stays tool.turns work.applier answer (λ done. absurd (let both : TaskFailed ≡ TaskDone = sym is ∙ done in cc)), with_all true work.batch_tries tool.turns))
        by (Unfit place number) is = subst (Grows (Migrating work)) (sym at) (λ task turn counted. counted)

  setup_took_grows : (answer : Answer) (setup : Setup) (tries : List ℕ) (tool : Tool) → (setup_took plan setup tries answer tool).reason ≡ None → Grows (SettingUp setup tries) (setup_took plan setup tries answer tool).tool_phase
  setup_took_grows answer setup tries tool calm = by (is_bad answer) calm where
    again : Tool
    again = spends plan tasks.Setup (tries ++ tool.turns ∷ []) (record tool { tool_phase = SettingUp Listing (tries ++ tool.turns ∷ []) })

    goes : (next : Setup) → Grows (SettingUp setup tries) (tool_phase_of plan tool.operator.size next tries)
    goes Listing = setup_grows setup Listing tries tries (λ one is. is)
    goes (Clearing left) = setup_grows setup (Clearing left) tries tries (λ one is. is)
    goes MakingLog = setup_grows setup MakingLog tries tries (λ one is. is)
    goes MakingGhost = setup_grows setup MakingGhost tries tries (λ one is. is)
    goes Marking = setup_grows setup Marking tries tries (λ one is. is)
    goes (Reaching position) = setup_grows setup (Reaching position) tries tries (λ one is. is)
    goes (Ready position range) = setup_ends setup tries (Rattle.tool_program.specs.Tools.new_work plan tool.operator.size position range)

    by : (b : Bool) → (cond b again (record tool { tool_phase = tool_phase_of plan tool.operator.size (setup_after plan.table setup answer) tries })).reason ≡ None
        → Grows (SettingUp setup tries) (cond b again (record tool { tool_phase = tool_phase_of plan tool.operator.size (setup_after plan.table setup answer) tries })).tool_phase
    by true calm = subst (λ (t : Tool). Grows (SettingUp setup tries) t.tool_phase) (sym (calm_setup plan tries tool calm)) (setup_grows setup Listing tries (tries ++ tool.turns ∷ []) (with_all true tries tool.turns))
    by false calm = goes (setup_after plan.table setup answer)

  unless_grows : (tool after : Tool) (tool_phase : ToolPhase) → tool.tool_phase ≡ tool_phase → (b : Bool) → (cond b tool after).reason ≡ None → (after.reason ≡ None → Grows tool_phase after.tool_phase) → Grows tool_phase (cond b tool after).tool_phase
  unless_grows tool after tool_phase at true calm grows = subst (Grows tool_phase) (sym at) (λ task turn counted. counted)
  unless_grows tool after tool_phase at false calm grows = grows calm

  -- the position rises where the actor is the applier
  abbrev pub ActorRises : Actor → Answer → Tool → ToolPhase → Type 0
  ActorRises actor answer tool tool_phase = (work : Work) → actor ≡ Apply → tool_phase ≡ Migrating work → Rises answer tool work

  pub actor_grows : (actor : Actor) (answer : Answer) (tool_phase : ToolPhase) (tool : Tool) → tool.tool_phase ≡ tool_phase → ActorRises actor answer tool tool_phase → (actor_took plan actor answer tool_phase tool).reason ≡ None → Grows tool_phase (actor_took plan actor answer tool_phase tool).tool_phase
  actor_grows Insp answer (SettingUp setup tries) tool at rises calm = unless_grows tool (setup_took plan setup tries answer tool) (SettingUp setup tries) at (is_reverting tool.reason) calm (λ still. setup_took_grows answer setup tries tool still)
  actor_grows Insp answer (Migrating work) tool at rises calm = attempt_grows (is_failure work.cutover.phase (cutovers.took Inspector work.cutover answer).phase) work (cutovers.took Inspector work.cutover answer) tool calm
  actor_grows Copy answer (Migrating work) tool at rises calm = unless_grows tool (copy_took plan answer work tool) (Migrating work) at (is_reverting tool.reason) calm (λ still. copy_grows answer work tool at still)
  actor_grows Apply answer (Migrating work) tool at rises calm = unless_grows tool (apply_took plan answer work tool) (Migrating work) at (is_reverting tool.reason) calm (λ still. apply_grows answer work tool at (rises work refl refl) still)
  actor_grows Lock answer (Migrating work) tool at rises calm = attempt_grows (is_failure work.cutover.phase (cutovers.took Locker work.cutover answer).phase) work (cutovers.took Locker work.cutover answer) tool calm
  actor_grows Ren answer (Migrating work) tool at rises calm = attempt_grows (is_failure work.cutover.phase (cutovers.took Renamer work.cutover answer).phase) work (cutovers.took Renamer work.cutover answer) tool calm
  actor_grows actor answer tool_phase tool at rises calm = subst (Grows tool_phase) (sym at) (λ task turn counted. counted)

  -- the drain counts a failed attempt alone
  pub drains_grow : (tool_phase : ToolPhase) (tool : Tool) → tool.tool_phase ≡ tool_phase → (drains plan tool_phase tool).reason ≡ None → Grows tool_phase (drains plan tool_phase tool).tool_phase
  drains_grow (SettingUp setup tries) tool at calm = subst (Grows (SettingUp setup tries)) (sym at) (λ task turn counted. counted)
  drains_grow (Migrating work) tool at calm = attempt_grows (is_failure work.cutover.phase (cutovers.applier_turn work.applier.hint work.cutover).phase) work (cutovers.applier_turn work.applier.hint work.cutover) tool calm

  -- nothing was reverted before the drain
  pub drains_calm : (tool_phase : ToolPhase) (tool : Tool) → (drains plan tool_phase tool).reason ≡ None → tool.reason ≡ None
  drains_calm (SettingUp setup tries) tool calm = calm
  drains_calm (Migrating work) tool calm =
      sym (ap (λ (t : Tool). t.reason) (calm_attempt plan (is_failure work.cutover.phase (cutovers.applier_turn work.applier.hint work.cutover).phase) work (cutovers.applier_turn work.applier.hint work.cutover) tool calm)) ∙ calm

  heard_grows : (actor : Actor) (answer : Answer) (tool : Tool) → ActorRises actor answer tool tool.tool_phase → (turn_counts plan actor (actor_took plan actor answer tool.tool_phase tool)).reason ≡ None → Grows tool.tool_phase (turn_counts plan actor (actor_took plan actor answer tool.tool_phase tool)).tool_phase
  heard_grows Apply answer tool rises calm =
      let taken : Tool = actor_took plan Apply answer tool.tool_phase tool in
      let first = actor_grows Apply answer tool.tool_phase tool refl rises (drains_calm taken.tool_phase taken calm) in
      let then = drains_grow taken.tool_phase taken refl calm in
      λ task turn counted. then task turn (first task turn counted)
  heard_grows Op answer tool rises calm = actor_grows Op answer tool.tool_phase tool refl rises calm
  heard_grows Insp answer tool rises calm = actor_grows Insp answer tool.tool_phase tool refl rises calm
  heard_grows Copy answer tool rises calm = actor_grows Copy answer tool.tool_phase tool refl rises calm
  heard_grows Lock answer tool rises calm = actor_grows Lock answer tool.tool_phase tool refl rises calm
  heard_grows Ren answer tool rises calm = actor_grows Ren answer tool.tool_phase tool refl rises calm
  heard_grows (Client c) answer tool rises calm = actor_grows (Client c) answer tool.tool_phase tool refl rises calm

  resize_grows : (size : ℕ) (tool_phase : ToolPhase) → Grows tool_phase (resizes (ChunkSize size) tool_phase)
  resize_grows size (SettingUp setup tries) = λ task turn counted. counted
  resize_grows size (Migrating work) = chunk_grows work (copiers.resized size work.copier) work.chunk_tries (inl (refl, λ one is. is))

  command_grows : (word : OperatorWord) (tool : Tool) → (command_took word tool).reason ≡ None → Grows tool.tool_phase (command_took word tool).tool_phase
  command_grows Panic tool calm =
      let taken : Tool = record tool { operator = commanded Panic tool.operator; tool_phase = tool.tool_phase } in
      subst (λ (t : Tool). Grows tool.tool_phase t.tool_phase) (sym (unreverted (Panicked tool.turns) taken calm)) (λ task turn counted. counted)
  command_grows (ChunkSize size) tool calm = resize_grows size tool.tool_phase
  command_grows Throttle tool calm = λ task turn counted. counted
  command_grows NoThrottle tool calm = λ task turn counted. counted
  command_grows Unpostpone tool calm = λ task turn counted. counted
  command_grows Wait tool calm = λ task turn counted. counted

  -- *One turn*: where nothing is reverted after it, all that was counted is
  pub asked_grows : (state : State) (entry : Entry) (asked : Asked) (tool : Tool) → (is_command asked ≡ false → is_cut asked ≡ false → ActorRises entry.actor entry.answer tool tool.tool_phase) → (asked_took plan state entry asked tool).reason ≡ None → Grows tool.tool_phase (asked_took plan state entry asked tool).tool_phase
  unfolding appliers.progress
  asked_grows state entry (Command word) tool rises calm = command_grows word tool calm
  asked_grows state entry Cut tool rises calm = by (has_work state entry.session) calm where
    unlost : ActorRises entry.actor answers.Lost tool tool.tool_phase
    unlost work who at done = absurd (let no : TaskFailed ≡ TaskDone = done in cc)

    by : (b : Bool) → (cond b (actor_took plan entry.actor answers.Lost tool.tool_phase tool) tool).reason ≡ None → Grows tool.tool_phase (cond b (actor_took plan entry.actor answers.Lost tool.tool_phase tool) tool).tool_phase
    by true calm = actor_grows entry.actor answers.Lost tool.tool_phase tool refl unlost calm
    by false calm = λ task turn counted. counted
  asked_grows state entry (Call request) tool rises calm = heard_grows entry.actor entry.answer tool (rises refl refl) calm
  asked_grows state entry Poll tool rises calm = heard_grows entry.actor entry.answer tool (rises refl refl) calm
