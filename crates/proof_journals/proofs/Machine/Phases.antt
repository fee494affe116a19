-- Until the RENAME is answered the cut-over's phase says that it isn't done, and an attempt's end drops another table than
-- the new one.
use Rattle.std.proofs.Common.{◌≡◌, ℕ, Bool, true, false, cond, not, List, [], ◌∷◌, ◌++◌, refl, sym, subst, Some, Option}
use Rattle.std.proofs.lemmas.Bool.{true≢false, false≢true}
use Rattle.base_script.specs.declared.actor.Actor.{Actor}
use Rattle.base_script.specs.declared.actor.Actor.TheVariants.{Op, Insp, Copy, Apply, Lock, Ren, Client}
use Rattle.base_script.specs.declared.operator.OperatorWord.{OperatorWord}
use Rattle.base_script.specs.declared.operator.OperatorWord.TheVariants.{Throttle, NoThrottle, ChunkSize, Unpostpone, Panic, Wait}
use Rattle.server_model.specs.declared.answer.Answer.{Answer}
use Rattle.server_model.specs.declared.answer.Answer.TheVariants as answers
use Rattle.server_model.specs.declared.listing.TableName.{TableName}
use Rattle.server_model.specs.declared.outcome.Task.TheVariants as tasks
use Rattle.plan_data.specs.PlanData.{PlanData}
use Rattle.base_values.specs.ToolNames.{ghost_name}
use Rattle.tool_program.specs.ChunkCopier.Copiers as copiers
use Rattle.tool_program.specs.EventApplier.Appliers as appliers
use Rattle.tool_program.specs.declared.cutover_core.cutover.Clearing.TheVariants.{Looking, Drops}
use Rattle.tool_program.specs.declared.cutover_core.cutover.CutOver.{CutOver}
use Rattle.tool_program.specs.declared.cutover_core.cutover.Phase.{Phase}
use Rattle.tool_program.specs.declared.cutover_core.cutover.Phase.TheVariants.{Resting, Attempting, Ending, Finishing, Finished}
use Rattle.tool_program.specs.declared.cutover_core.cutover.Role.TheVariants.{Inspector, Locker, Renamer}
use Rattle.tool_program.specs.declared.cutover_core.cutover.Stage.TheVariants.{Drained, Unlocking, Exchanging}
use Rattle.tool_program.specs.declared.cutover_core.cutover.Drain.TheVariants.{Turns}
use Rattle.tool_program.specs.CutoverCore.Attempts.{has_name, has_sentry}
use Rattle.tool_program.specs.CutoverCore.CutOvers as cuts
use Rattle.tool_program.specs.CutoverCore.CutOvers.{is_bad, is_done, begun, locker_phase, locker_stage, renamer_phase, waits_phase, failed, inspector_phase, inspector_stage, finishing, left_at_end, sentry_alone, drained, ended, applier_turn, reverted, drain_of, drains_to}
use Rattle.tool_program.specs.Operators.{commanded}
use Rattle.tool_program.specs.Setups.{Setup, Listing, Clearing, MakingLog, MakingGhost, Marking, Reaching, Ready, setup_after}
use Rattle.tool_program.specs.Tools.{Work, ToolPhase, SettingUp, Migrating, Panicked, Tool, stopped, spends, is_reverting, is_failure, tool_phase_of, copy_took, apply_took, actor_took, turn_counts, resizes, command_took}
use Rattle.tool_program.specs.declared.cutover_core.cutover.Drain.{Drain}
use Rattle.proof_journals.proofs.Machine.Lifting.{reverts_keeps, spends_keeps, attempt_keeps, copy_keeps, apply_keeps, drains_keeps}
use Rattle.proof_journals.proofs.Machine.CuttingOver.{drain_cases}

-- what an attempt's end drops isn't the new table
abbrev pub DropsOther : Phase → Type 0
DropsOther (Ending (Drops left)) = left.new_table ≡ false
DropsOther phase = Unit {0}

pub record IsUndone (phase : Phase) : Type 0 where
  pub undone : is_done phase ≡ false
  pub other : DropsOther phase

undone_ended : (phase : Phase) → IsUndone phase → IsUndone (ended phase)
undone_ended Resting is = is
undone_ended (Attempting Unlocking) is = is
undone_ended (Attempting Exchanging) is = is
undone_ended (Attempting stage) is = record { undone = refl; other = tt }
undone_ended (Ending clearing) is = is
undone_ended (Finishing clearing) is = is
undone_ended Finished is = is

undone_drained : (cutover : CutOver) (hint : ℕ) (phase : Phase) → IsUndone phase → IsUndone (drained cutover hint phase)
undone_drained cutover hint (Attempting stage) is = by (drain_of stage) where
  by : (drain : Option Drain) → IsUndone (drains_to cutover hint stage drain)
  by (Some (Turns turns)) = drain_cases IsUndone cutover hint turns stage (λ same. record { undone = refl; other = tt }) (record { undone = refl; other = tt }) (record { undone = refl; other = tt })
  by drain = record { undone = refl; other = tt }
undone_drained cutover hint Resting is = is
undone_drained cutover hint (Ending clearing) is = is
undone_drained cutover hint (Finishing clearing) is = is
undone_drained cutover hint Finished is = is

undone_locker : (phase : Phase) (answer : Answer) → IsUndone phase → IsUndone (locker_phase phase answer)
undone_locker Resting (answers.Ok count) is = record { undone = refl; other = tt }
undone_locker Resting (answers.Waits by) is = record { undone = refl; other = tt }
undone_locker Resting answer is = record { undone = refl; other = tt }
undone_locker (Attempting stage) answer is = by (is_bad answer) where
  by : (b : Bool) → IsUndone (cond b (Ending Looking) (Attempting (locker_stage stage answer)))
  by true = record { undone = refl; other = tt }
  by false = record { undone = refl; other = tt }
undone_locker (Ending clearing) answer is = is
undone_locker (Finishing clearing) answer is = is
undone_locker Finished answer is = is

undone_failed : (phase : Phase) → IsUndone phase → IsUndone (failed phase)
undone_failed (Attempting stage) is = record { undone = refl; other = tt }
undone_failed Resting is = is
undone_failed (Ending clearing) is = is
undone_failed (Finishing clearing) is = is
undone_failed Finished is = is

undone_waits : (phase : Phase) → IsUndone phase → IsUndone (waits_phase phase)
undone_waits (Attempting Drained) is = record { undone = refl; other = tt }
undone_waits (Attempting stage) is = is
undone_waits Resting is = is
undone_waits (Ending clearing) is = is
undone_waits (Finishing clearing) is = is
undone_waits Finished is = is

undone_renamer : (phase : Phase) (answer : Answer) → ((count : ℕ) → answer ≡ answers.Ok count → ⊥) → IsUndone phase → IsUndone (renamer_phase phase answer)
undone_renamer phase (answers.Ok count) none is = absurd (none count refl)
undone_renamer phase (answers.Waits by) none is = undone_waits phase is
undone_renamer phase answers.Lost none is = undone_failed phase is
undone_renamer phase (answers.TimedOut waited) none is = undone_failed phase is
undone_renamer phase answer none is = is

-- the inspector sees the new table, wherever it lists the tables
abbrev pub SeesGhost : CutOver → Answer → Type 0
SeesGhost cutover answer = (tables : List TableName) → answer ≡ answers.Tables tables → has_name (ghost_name cutover.table) tables ≡ true

undone_seen : (cutover : CutOver) (tables : List TableName) → has_name (ghost_name cutover.table) tables ≡ true → IsUndone (cuts.seen cutover tables)
undone_seen cutover tables stands = by (has_name (ghost_name cutover.table) tables) (has_sentry cutover.table tables) stands where
  by : (a b : Bool) → a ≡ true → IsUndone (cond (not a) (finishing (left_at_end cutover tables)) (cond b (Ending (Drops sentry_alone)) Resting))
  by true true is = record { undone = refl; other = refl }
  by true false is = record { undone = refl; other = tt }
  by false b is = absurd (false≢true is)

undone_inspector : (cutover : CutOver) (phase : Phase) (answer : Answer) → SeesGhost cutover answer → IsUndone phase → IsUndone (inspector_phase cutover phase answer)
undone_inspector cutover (Attempting stage) answer sees is = by (is_bad answer) where
  by : (b : Bool) → IsUndone (cond b (Ending Looking) (Attempting (inspector_stage cutover.has_counter stage answer)))
  by true = record { undone = refl; other = tt }
  by false = record { undone = refl; other = tt }
undone_inspector cutover (Ending Looking) answers.Lost sees is = record { undone = refl; other = tt }
undone_inspector cutover (Ending Looking) (answers.TimedOut waited) sees is = record { undone = refl; other = tt }
undone_inspector cutover (Ending Looking) (answers.Tables tables) sees is = undone_seen cutover tables (sees tables refl)
undone_inspector cutover (Ending Looking) answer sees is = is
undone_inspector cutover (Ending (Drops left)) answers.Lost sees is = record { undone = refl; other = tt }
undone_inspector cutover (Ending (Drops left)) (answers.TimedOut waited) sees is = record { undone = refl; other = tt }
undone_inspector cutover (Ending (Drops left)) (answers.Ok count) sees is = record { undone = refl; other = tt }
undone_inspector cutover (Ending (Drops left)) answer sees is = is
undone_inspector cutover (Finishing clearing) answer sees is = absurd (true≢false is.undone)
undone_inspector cutover Finished answer sees is = absurd (true≢false is.undone)
undone_inspector cutover Resting answer sees is = is

-- THE TOOL

abbrev pub ToolPhaseUndone : ToolPhase → Type 0
ToolPhaseUndone (SettingUp setup tries) = Unit {0}
ToolPhaseUndone (Migrating work) = IsUndone work.cutover.phase

abbrev Undone : Bool → ToolPhase → Type 0
Undone b tool_phase = ToolPhaseUndone tool_phase

undone_back : (b : Bool) (tool_phase : ToolPhase) → Undone b tool_phase → Undone true (stopped tool_phase)
unfolding reverted
undone_back b (SettingUp setup tries) is = tt
undone_back b (Migrating work) is = undone_ended work.cutover.phase is

undone_drain : (b : Bool) (work : Work) (tries : List ℕ) → Undone b (Migrating work) → Undone b (Migrating (record work { cutover = applier_turn work.applier.hint work.cutover; attempt_tries = tries }))
unfolding applier_turn
undone_drain b work tries is = undone_drained work.cutover work.applier.hint work.cutover.phase is

undone_tool_phase : (plan : PlanData) (size : ℕ) (setup : Setup) (tries : List ℕ) → ToolPhaseUndone (tool_phase_of plan size setup tries)
undone_tool_phase plan size (Ready position range) tries = record { undone = refl; other = tt }
undone_tool_phase plan size Listing tries = tt
undone_tool_phase plan size (Clearing left) tries = tt
undone_tool_phase plan size MakingLog tries = tt
undone_tool_phase plan size MakingGhost tries = tt
undone_tool_phase plan size Marking tries = tt
undone_tool_phase plan size (Reaching position) tries = tt

-- what the answers that end it must not be
abbrev pub EndsNot : Actor → ToolPhase → Answer → Type 0
EndsNot Ren (Migrating work) answer = (count : ℕ) → answer ≡ answers.Ok count → ⊥
EndsNot Insp (Migrating work) answer = SeesGhost work.cutover answer
EndsNot actor tool_phase answer = Unit {0}

pub lost_ends : (actor : Actor) (tool_phase : ToolPhase) → EndsNot actor tool_phase answers.Lost
lost_ends Ren (Migrating work) = λ count same. cc
lost_ends Ren (SettingUp setup tries) = tt
lost_ends Insp (Migrating work) = λ tables same. absurd cc
lost_ends Insp (SettingUp setup tries) = tt
lost_ends Op tool_phase = tt
lost_ends Copy tool_phase = tt
lost_ends Apply tool_phase = tt
lost_ends Lock tool_phase = tt
lost_ends (Client c) tool_phase = tt

pub undone_took : (plan : PlanData) (actor : Actor) (answer : Answer) (tool_phase : ToolPhase) (tool : Tool) → tool.tool_phase ≡ tool_phase → EndsNot actor tool_phase answer → ToolPhaseUndone tool_phase → ToolPhaseUndone (actor_took plan actor answer tool_phase tool).tool_phase
unfolding cuts.took
undone_took plan Insp answer (SettingUp setup tries) tool same ends is = by (is_reverting tool.reason) (is_bad answer) where
  by : (a b : Bool)
      → ToolPhaseUndone (cond a tool (cond b (spends plan tasks.Setup (tries ++ tool.turns ∷ []) (record tool { tool_phase = SettingUp Listing (tries ++ tool.turns ∷ []) })) (record tool { tool_phase = tool_phase_of plan tool.operator.size (setup_after plan.table setup answer) tries }))).tool_phase
  by true b = subst ToolPhaseUndone (sym same) tt
  by false true = spends_keeps Undone undone_back plan tasks.Setup (tries ++ tool.turns ∷ []) (record tool { tool_phase = SettingUp Listing (tries ++ tool.turns ∷ []) }) tt
  by false false = undone_tool_phase plan tool.operator.size (setup_after plan.table setup answer) tries
undone_took plan Insp answer (Migrating work) tool same ends is =
    attempt_keeps Undone undone_back plan (is_failure work.cutover.phase (cuts.took Inspector work.cutover answer).phase) work (cuts.took Inspector work.cutover answer) tool (λ tries. undone_inspector work.cutover work.cutover.phase answer ends is)
undone_took plan Copy answer (Migrating work) tool same ends is = by (is_reverting tool.reason) where
  by : (b : Bool) → ToolPhaseUndone (cond b tool (copy_took plan answer work tool)).tool_phase
  by true = subst ToolPhaseUndone (sym same) is
  by false = copy_keeps Undone undone_back plan work (copiers.progress work.copier answer) (copiers.took tool.turns work.copier answer) tool (λ place number unfit. subst ToolPhaseUndone (sym same) is) (λ tries. is)
undone_took plan Apply answer (Migrating work) tool same ends is = by (is_reverting tool.reason) where
  by : (b : Bool) → ToolPhaseUndone (cond b tool (apply_took plan answer work tool)).tool_phase
  by true = subst ToolPhaseUndone (sym same) is
  by false = apply_keeps Undone undone_back plan work (appliers.progress work.applier answer) (appliers.took tool.turns work.applier answer) tool (λ place number unfit. subst ToolPhaseUndone (sym same) is) (λ tries. is)
undone_took plan Lock answer (Migrating work) tool same ends is =
    attempt_keeps Undone undone_back plan (is_failure work.cutover.phase (cuts.took Locker work.cutover answer).phase) work (cuts.took Locker work.cutover answer) tool (λ tries. undone_locker work.cutover.phase answer is)
undone_took plan Ren answer (Migrating work) tool same ends is =
    attempt_keeps Undone undone_back plan (is_failure work.cutover.phase (cuts.took Renamer work.cutover answer).phase) work (cuts.took Renamer work.cutover answer) tool (λ tries. undone_renamer work.cutover.phase answer ends is)
undone_took plan actor answer (SettingUp setup tries) tool same ends is = subst ToolPhaseUndone (sym same) is
undone_took plan actor answer (Migrating work) tool same ends is = subst ToolPhaseUndone (sym same) is

pub undone_counts : (plan : PlanData) (actor : Actor) (tool : Tool) → ToolPhaseUndone tool.tool_phase → ToolPhaseUndone (turn_counts plan actor tool).tool_phase
undone_counts plan Apply tool is = drains_keeps Undone undone_back plan tool.tool_phase tool refl undone_drain is
undone_counts plan Op tool is = is
undone_counts plan Insp tool is = is
undone_counts plan Copy tool is = is
undone_counts plan Lock tool is = is
undone_counts plan Ren tool is = is
undone_counts plan (Client c) tool is = is

undone_resized : (size : ℕ) (tool_phase : ToolPhase) → ToolPhaseUndone tool_phase → ToolPhaseUndone (resizes (ChunkSize size) tool_phase)
undone_resized size (SettingUp setup tries) is = tt
undone_resized size (Migrating work) is = is

pub undone_commanded : (word : OperatorWord) (tool : Tool) → ToolPhaseUndone tool.tool_phase → ToolPhaseUndone (command_took word tool).tool_phase
undone_commanded Panic tool is = reverts_keeps Undone undone_back (Panicked tool.turns) (record tool { operator = commanded Panic tool.operator; tool_phase = tool.tool_phase }) is
undone_commanded (ChunkSize size) tool is = undone_resized size tool.tool_phase is
undone_commanded Throttle tool is = is
undone_commanded NoThrottle tool is = is
undone_commanded Unpostpone tool is = is
undone_commanded Wait tool is = is
