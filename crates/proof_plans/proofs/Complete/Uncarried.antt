-- Where the migrated table has no counter, no attempt carries one.
use Rattle.std.proofs.Common.{◌≡◌, ℕ, Bool, true, false, cond, not, List, refl, sym, subst}
use Rattle.std.proofs.lemmas.Bool.{true≢false}
use Rattle.server_model.specs.declared.answer.Answer.{Answer}
use Rattle.server_model.specs.declared.answer.Answer.TheVariants as answers
use Rattle.server_model.specs.declared.entry.Entry.{Entry}
use Rattle.server_model.specs.declared.listing.TableName.{TableName}
use Rattle.base_values.specs.ToolNames.{ghost_name}
use Rattle.plan_data.specs.PlanData.{PlanData, has_counter}
use Rattle.tool_program.specs.declared.cutover_core.cutover.Clearing.{Clearing as Cleared}
use Rattle.tool_program.specs.declared.cutover_core.cutover.Clearing.TheVariants.{Looking, Drops}
use Rattle.tool_program.specs.declared.cutover_core.cutover.CutOver.{CutOver}
use Rattle.tool_program.specs.declared.cutover_core.cutover.Leftovers.{Leftovers}
use Rattle.tool_program.specs.declared.cutover_core.cutover.Phase.{Phase}
use Rattle.tool_program.specs.declared.cutover_core.cutover.Phase.TheVariants.{Resting, Attempting, Ending, Finishing, Finished}
use Rattle.tool_program.specs.declared.cutover_core.cutover.Role.{Role}
use Rattle.tool_program.specs.declared.cutover_core.cutover.Role.TheVariants.{Inspector, Locker, Renamer}
use Rattle.tool_program.specs.declared.cutover_core.cutover.Stage.{Stage}
use Rattle.tool_program.specs.declared.cutover_core.cutover.Stage.TheVariants.{Guarding, Locking, Hinting, ReadingCounter, SettingCounter, Draining, Drained, Showing, Dropping, Unlocking, Exchanging}
use Rattle.tool_program.specs.CutoverCore.Attempts.{is_clear, has_name, has_sentry, without_first}
use Rattle.tool_program.specs.CutoverCore.CutOvers as cutovers
use Rattle.tool_program.specs.CutoverCore.CutOvers.{is_bad, ended, failed, waits_phase, drained, inspector_phase, locker_phase, renamer_phase, locker_stage, inspector_stage}
use Rattle.tool_program.specs.Tools.{Work, ToolPhase, SettingUp, Migrating, stopped, moment}
use Rattle.tool_program.proofs.OnlineCalls.Keeping.{Keeps, always}
use Rattle.proof_journals.proofs.Machine.CuttingOver.{drain_cases}

-- the counter is asked for, or set
abbrev pub is_carrying : Phase → Bool
is_carrying (Attempting (ReadingCounter drain)) = true
is_carrying (Attempting (SettingCounter number drain)) = true
is_carrying phase = false

abbrev NoneCarried : CutOver → Type 0
NoneCarried cutover = (cutover.has_counter ≡ false) × (is_carrying cutover.phase ≡ false)

abbrev Uncarried : ToolPhase → Type 0
Uncarried (SettingUp setup tries) = Unit {0}
Uncarried (Migrating work) = NoneCarried work.cutover

ended_off : (phase : Phase) → is_carrying (ended phase) ≡ false
ended_off (Attempting Unlocking) = refl
ended_off (Attempting Exchanging) = refl
ended_off (Attempting stage) = refl
ended_off Resting = refl
ended_off (Ending cleared) = refl
ended_off (Finishing cleared) = refl
ended_off Finished = refl

drained_off : (cutover : CutOver) (hint : ℕ) (phase : Phase) → is_carrying phase ≡ false → is_carrying (drained cutover hint phase) ≡ false
drained_off cutover hint (Attempting (ReadingCounter drain)) off = absurd (true≢false off)
drained_off cutover hint (Attempting (SettingCounter number drain)) off = absurd (true≢false off)
drained_off cutover hint (Attempting (Draining turns)) off = drain_cases (λ (p : Phase). is_carrying p ≡ false) cutover hint turns (Draining turns) (λ same. refl) refl refl
drained_off cutover hint (Attempting stage) off = refl
drained_off cutover hint Resting off = refl
drained_off cutover hint (Ending cleared) off = refl
drained_off cutover hint (Finishing cleared) off = refl
drained_off cutover hint Finished off = refl

ends_off : (b : Bool) (next : Stage) → is_carrying (Attempting next) ≡ false → is_carrying (cond b (Ending Looking) (Attempting next)) ≡ false
ends_off true next off = refl
ends_off false next off = off

locked_off : (phase : Phase) (answer : Answer) → is_carrying phase ≡ false → is_carrying (locker_phase phase answer) ≡ false
locked_off Resting answer off = begun answer where
  begun : (answer : Answer) → is_carrying (cutovers.begun answer) ≡ false
  begun (answers.Ok count) = refl
  begun (answers.Waits by) = refl
  begun answer = refl
locked_off (Attempting stage) answer off = ends_off (is_bad answer) (locker_stage stage answer) (staged stage answer off) where
  staged : (stage : Stage) (answer : Answer) → is_carrying (Attempting stage) ≡ false → is_carrying (Attempting (locker_stage stage answer)) ≡ false
  staged Guarding (answers.Ok count) off = refl
  staged Locking (answers.Ok count) off = refl
  staged Dropping (answers.Ok count) off = refl
  staged Unlocking (answers.Ok count) off = refl
  staged stage answer off = off
locked_off (Ending cleared) answer off = refl
locked_off (Finishing cleared) answer off = refl
locked_off Finished answer off = refl

failed_off : (phase : Phase) → is_carrying phase ≡ false → is_carrying (failed phase) ≡ false
failed_off (Attempting stage) off = refl
failed_off Resting off = refl
failed_off (Ending cleared) off = refl
failed_off (Finishing cleared) off = refl
failed_off Finished off = refl

waits_off : (phase : Phase) → is_carrying phase ≡ false → is_carrying (waits_phase phase) ≡ false
waits_off (Attempting Drained) off = refl
waits_off (Attempting stage) off = off
waits_off Resting off = refl
waits_off (Ending cleared) off = refl
waits_off (Finishing cleared) off = refl
waits_off Finished off = refl

renamed_off : (phase : Phase) (answer : Answer) → is_carrying phase ≡ false → is_carrying (renamer_phase phase answer) ≡ false
renamed_off phase (answers.Ok count) off = refl
renamed_off phase (answers.Waits by) off = waits_off phase off
renamed_off phase answers.Lost off = failed_off phase off
renamed_off phase (answers.TimedOut waited) off = failed_off phase off
renamed_off phase answer off = off

finishing_off : (left : Leftovers) → is_carrying (cutovers.finishing left) ≡ false
finishing_off left = by (is_clear left) where
  by : (b : Bool) → is_carrying (cond b Finished (Finishing (Drops left))) ≡ false
  by true = refl
  by false = refl

seen_off : (cutover : CutOver) (tables : List TableName) → is_carrying (cutovers.seen cutover tables) ≡ false
seen_off cutover tables = by (not (has_name (ghost_name cutover.table) tables)) (has_sentry cutover.table tables) where
  by : (a b : Bool) → is_carrying (cond a (cutovers.finishing (cutovers.left_at_end cutover tables)) (cond b (Ending (Drops cutovers.sentry_alone)) Resting)) ≡ false
  by true b = finishing_off (cutovers.left_at_end cutover tables)
  by false true = refl
  by false false = refl

ending_off : (cutover : CutOver) (cleared : Cleared) (answer : Answer) → is_carrying (cutovers.ending_after cutover cleared answer) ≡ false
ending_off cutover cleared answers.Lost = refl
ending_off cutover cleared (answers.TimedOut waited) = refl
ending_off cutover Looking (answers.Tables tables) = seen_off cutover tables
ending_off cutover (Drops left) (answers.Ok count) = refl
ending_off cutover Looking answer = refl
ending_off cutover (Drops left) answer = refl

finished_off : (cutover : CutOver) (cleared : Cleared) (answer : Answer) → is_carrying (cutovers.finishing_after cutover cleared answer) ≡ false
finished_off cutover cleared answers.Lost = refl
finished_off cutover cleared (answers.TimedOut waited) = refl
finished_off cutover Looking (answers.Tables tables) = finishing_off (cutovers.left_at_end cutover tables)
finished_off cutover (Drops left) (answers.Ok count) = finishing_off (without_first left)
finished_off cutover Looking answer = refl
finished_off cutover (Drops left) answer = refl

inspected_off : (cutover : CutOver) → cutover.has_counter ≡ false → (phase : Phase) (answer : Answer) → is_carrying phase ≡ false → is_carrying (inspector_phase cutover phase answer) ≡ false
inspected_off cutover none (Attempting stage) answer off = ends_off (is_bad answer) (inspector_stage cutover.has_counter stage answer) (subst (λ (b : Bool). is_carrying (Attempting (inspector_stage b stage answer)) ≡ false) (sym none) (staged stage answer off)) where
  shown : (b : Bool) → is_carrying (Attempting (cond b Dropping Showing)) ≡ false
  shown true = refl
  shown false = refl

  staged : (stage : Stage) (answer : Answer) → is_carrying (Attempting stage) ≡ false → is_carrying (Attempting (inspector_stage false stage answer)) ≡ false
  staged Hinting (answers.Ok count) off = refl
  staged (ReadingCounter drain) answer off = absurd (true≢false off)
  staged (SettingCounter number drain) answer off = absurd (true≢false off)
  staged Showing (answers.Waiting waiters) off = shown (cutovers.shows_wait waiters)
  staged stage answer off = off
inspected_off cutover none (Ending cleared) answer off = ending_off cutover cleared answer
inspected_off cutover none (Finishing cleared) answer off = finished_off cutover cleared answer
inspected_off cutover none Resting answer off = refl
inspected_off cutover none Finished answer off = refl

took_off : (role : Role) (cutover : CutOver) (answer : Answer) → NoneCarried cutover → NoneCarried (cutovers.took role cutover answer)
unfolding cutovers.took
took_off Inspector cutover answer at = (at.0, inspected_off cutover at.0 cutover.phase answer at.1)
took_off Locker cutover answer at = (at.0, locked_off cutover.phase answer at.1)
took_off Renamer cutover answer at = (at.0, renamed_off cutover.phase answer at.1)

turned_off : (hint : ℕ) (cutover : CutOver) → NoneCarried cutover → NoneCarried (cutovers.applier_turn hint cutover)
unfolding cutovers.applier_turn
turned_off hint cutover at = (at.0, drained_off cutover hint cutover.phase at.1)

stops : (tool_phase : ToolPhase) → Uncarried tool_phase → Uncarried (stopped tool_phase)
unfolding cutovers.reverted
stops (SettingUp setup tries) at = tt
stops (Migrating work) at = (at.0, ended_off work.cutover.phase)

keeps : (plan : PlanData) → has_counter plan ≡ false → Keeps plan Uncarried
keeps plan none = record {
  stops = stops;
  sets = λ setup tries. tt;
  begins = λ size position range. (none, refl);
  copies = λ turn answer work tries at. at;
  applies = λ turn answer work tries at. at;
  cuts = λ role answer work tries at. took_off role work.cutover answer at;
  drained = λ work tries at. turned_off work.applier.hint work.cutover at;
  resized = λ size work at. at;
}

-- *After every journal*
pub none_carried : (plan : PlanData) → has_counter plan ≡ false → (journal : List Entry) (work : Work) → (moment plan journal).tool.tool_phase ≡ Migrating work → is_carrying work.cutover.phase ≡ false
none_carried plan none journal work eq = (subst Uncarried eq (always plan Uncarried (keeps plan none) journal)).1
