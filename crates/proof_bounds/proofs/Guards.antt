-- The sentry's CREATE is answered at once: while no attempt is under way nobody but the locker has its name.
use Rattle.std.proofs.Common.{◌≡◌, ℕ, ◌+◌, Bool, true, false, cond, not, ◌||◌, List, [], ◌∷◌, ◌++◌, Option, Some, None, refl, sym, ap, ◌∙◌, subst}
use Rattle.std.specs.Str.{bytes_eq}
use Rattle.std.proofs.lemmas.Bool.{true≢false, or_right}
use Rattle.base_script.specs.declared.actor.Actor.{Actor}
use Rattle.base_script.specs.declared.actor.Actor.TheVariants.{Op, Insp, Copy, Apply, Lock, Ren, Client}
use Rattle.base_script.specs.declared.actor.Side.{Side}
use Rattle.base_values.specs.ToolNames.{log_name, old_name}
use Rattle.server_model.specs.declared.answer.Answer.{Answer}
use Rattle.server_model.specs.declared.answer.Answer.TheVariants as answers
use Rattle.server_model.specs.declared.entry.Asked.TheVariants.{Call}
use Rattle.server_model.specs.declared.entry.Entry.{Entry}
use Rattle.server_model.specs.declared.request.Request.{Request}
use Rattle.server_model.specs.declared.request.Request.TheVariants as requests
use Rattle.server_model.specs.Entries.{same_actor, is_command}
use Rattle.plan_data.specs.PlanData.{PlanData}
use Rattle.tool_changelog.specs.ToolTables.{sentry_schema}
use Rattle.tool_program.specs.JournalWords.Journals.{state_at}
use Rattle.tool_program.specs.declared.cutover_core.cutover.Clearing.{Clearing as Cleared}
use Rattle.tool_program.specs.declared.cutover_core.cutover.Clearing.TheVariants.{Looking, Drops}
use Rattle.tool_program.specs.declared.cutover_core.cutover.CutOver.{CutOver}
use Rattle.tool_program.specs.declared.cutover_core.cutover.Hold.{Hold}
use Rattle.tool_program.specs.declared.cutover_core.cutover.Hold.TheVariants.{Nothing, WaitsToGuard, WaitsToLock, Locks}
use Rattle.tool_program.specs.declared.cutover_core.cutover.Leftovers.{Leftovers}
use Rattle.tool_program.specs.declared.cutover_core.cutover.Phase.{Phase}
use Rattle.tool_program.specs.declared.cutover_core.cutover.Phase.TheVariants.{Resting, Attempting, Ending, Finishing, Finished}
use Rattle.tool_program.specs.declared.cutover_core.cutover.Role.TheVariants.{Inspector, Locker, Renamer}
use Rattle.tool_program.specs.declared.cutover_core.cutover.Stage.{Stage}
use Rattle.tool_program.specs.declared.cutover_core.cutover.Stage.TheVariants.{Guarding, Locking, Hinting, ReadingCounter, SettingCounter, Draining, Drained, Showing, Dropping, Unlocking, Exchanging}
use Rattle.tool_program.specs.declared.cutover_core.cutover.Drain.{Drain}
use Rattle.tool_program.specs.declared.cutover_core.cutover.Drain.TheVariants.{Turns, Passed}
use Rattle.tool_program.specs.CutoverCore.Attempts.{has_name, has_sentry, is_clear, without_first}
use Rattle.tool_program.specs.CutoverCore.CutOvers as cutovers
use Rattle.tool_program.specs.CutoverCore.CutOvers.{is_bad, begun, ended, failed, waits_phase, finishing, left_at_end, sentry_alone, drain_of, drained, drains_to, with_drain, inspector_phase, locker_phase, renamer_phase, hold_after, hold_of_guard, hold_of_lock, applier_turn, reverted}
use Rattle.tool_program.specs.Programs.{given}
use Rattle.tool_program.specs.Setups.{Setup, Listing, Clearing, MakingLog, MakingGhost, Marking, Reaching, Ready, setup_after}
use Rattle.tool_program.specs.Tools.{Work, ToolPhase, SettingUp, Migrating, Tool, Moment, stopped, is_reverting, tool_phase_of, moment}
use Rattle.tool_program.proofs.OnlineCalls.Machines.{ToolPhaseIsNamed, named}
use Rattle.server_model.proofs.LockedRows.Tests.{same_bytes}
use Rattle.proof_journals.specs.Machine.Machines.{ToolPhaseStands, WorkStands, PhaseHolds, held, renaming}
use Rattle.proof_journals.specs.Machine.Runnable.{IsRunnable}
use Rattle.proof_journals.specs.Machine.Standings.{Standing, standing_in, standing_of, IsAbout, is_called, is_polled}
use Rattle.proof_journals.specs.Run.Kept.{IsKept}
use Rattle.proof_journals.proofs.Machine.CuttingOver.{LockerAsks, drain_cases}
use Rattle.proof_journals.proofs.Machine.Journals.{IsRun, IsTogether, Asking, asking, lock_about}
use Rattle.proof_journals.proofs.Machine.Seated.{IsServed, own_missed}
use Rattle.proof_journals.proofs.Waiting.{IsDone}
use Rattle.proof_migration.proofs.Attempt.Stages.{StandsAt}
use Rattle.proof_migration.proofs.Attempt.Standing.{ToolPhaseAt}
use Rattle.proof_migration.proofs.Program.Turns.Follows.{kept_front, kept_run}
use Rattle.proof_migration.proofs.ToolPhase.Owners.{together_owned}
use Rattle.proof_migration.proofs.ToolPhase.ToolPhaseTurns.{Kept, UnfitKeeps, CopyKeeps, ApplyKeeps, SetupKeeps, AnswerKeeps, ResizeKeeps, turn_kept, gives_asked}
use Rattle.proof_migration.specs.InspectorWaits.{SetsCounter}
use Rattle.proof_bounds.specs.Guards.{IsMade, IsGuarded, WaitsForNoSentry, HasSentryAtOnce, SentriesAreMadeAtOnce}
use Rattle.proof_migration.proofs.HeldNames.FreeNames.{IsAway, away_forbidden, away_free, free_name, at_once}
use Rattle.proof_migration.proofs.KeptJournals.{each_kept}
use Rattle.proof_migration.proofs.ToolPhase.Marked.{old_is_tool}
use Rattle.proof_bounds.proofs.Going.{IsGoing, all_going, insp_free, insp_rests}
use Rattle.proof_bounds.proofs.Inspecting.{WaitsFor}

-- PHASES

abbrev pub ToolPhaseGuarded : ToolPhase → Type 0
ToolPhaseGuarded (SettingUp setup tries) = Unit {0}
ToolPhaseGuarded (Migrating work) = HasSentryAtOnce work

ended_made : (phase : Phase) → IsGuarded phase → IsGuarded (ended phase)
ended_made (Attempting Unlocking) made = tt
ended_made (Attempting Exchanging) made = tt
ended_made (Attempting stage) made = tt
ended_made Resting made = tt
ended_made (Ending clearing) made = tt
ended_made (Finishing clearing) made = tt
ended_made Finished made = tt

drain_made : (stage : Stage) (drain : Drain) → IsMade stage → IsMade (with_drain stage drain)
drain_made (ReadingCounter before) drain made = tt
drain_made (SettingCounter number before) drain made = tt
drain_made (Draining turns) (Turns more) made = tt
drain_made (Draining turns) Passed made = tt
drain_made stage drain made = made

drained_made : (cutover : CutOver) (hint : ℕ) (phase : Phase) → IsGuarded phase → IsGuarded (drained cutover hint phase)
drained_made cutover hint (Attempting stage) made = by (drain_of stage) where
  by : (drain : Option Drain) → IsGuarded (drains_to cutover hint stage drain)
  by (Some (Turns turns)) = drain_cases IsGuarded cutover hint turns stage (λ same. drain_made stage Passed made) tt (drain_made stage (Turns (turns + 1)) made)
  by drain = made
drained_made cutover hint Resting made = tt
drained_made cutover hint (Ending clearing) made = tt
drained_made cutover hint (Finishing clearing) made = tt
drained_made cutover hint Finished made = tt

ends_or : (b : Bool) (next : Stage) → IsMade next → IsGuarded (cond b (Ending Looking) (Attempting next))
ends_or true next made = tt
ends_or false next made = made

inspector_made : (counter : Bool) (stage : Stage) (answer : Answer) → IsMade stage → IsMade (cutovers.inspector_stage counter stage answer)
inspector_made counter Hinting (answers.Ok count) made = by counter where
  by : (b : Bool) → IsMade (cutovers.hinted b)
  by true = tt
  by false = tt
inspector_made counter (ReadingCounter drain) (answers.At number) made = tt
inspector_made counter (SettingCounter number (Turns turns)) (answers.Ok count) made = tt
inspector_made counter (SettingCounter number Passed) (answers.Ok count) made = tt
inspector_made counter Showing (answers.Waiting waiters) made = by (cutovers.shows_wait waiters) where
  by : (b : Bool) → IsMade (cond b Dropping Showing)
  by true = tt
  by false = tt
inspector_made counter stage answer made = made

finishing_made : (left : Leftovers) → IsGuarded (finishing left)
finishing_made left = by (is_clear left) where
  by : (b : Bool) → IsGuarded (cond b Finished (Finishing (Drops left)))
  by true = tt
  by false = tt

ending_made : (cutover : CutOver) (cleared : Cleared) (answer : Answer) → IsGuarded (cutovers.ending_after cutover cleared answer)
ending_made cutover cleared answers.Lost = tt
ending_made cutover cleared (answers.TimedOut waited) = tt
ending_made cutover Looking (answers.Tables tables) = by (not (has_name (Rattle.base_values.specs.ToolNames.ghost_name cutover.table) tables)) (has_sentry cutover.table tables) where
  by : (a b : Bool) → IsGuarded (cond a (finishing (left_at_end cutover tables)) (cond b (Ending (Drops sentry_alone)) Resting))
  by true b = finishing_made (left_at_end cutover tables)
  by false true = tt
  by false false = tt
ending_made cutover Looking answer = tt
ending_made cutover (Drops left) (answers.Ok count) = tt
ending_made cutover (Drops left) answer = tt

finished_made : (cutover : CutOver) (cleared : Cleared) (answer : Answer) → IsGuarded (cutovers.finishing_after cutover cleared answer)
finished_made cutover cleared answers.Lost = tt
finished_made cutover cleared (answers.TimedOut waited) = tt
finished_made cutover Looking (answers.Tables tables) = finishing_made (left_at_end cutover tables)
finished_made cutover Looking answer = tt
finished_made cutover (Drops left) (answers.Ok count) = finishing_made (without_first left)
finished_made cutover (Drops left) answer = tt

inspected_made : (cutover : CutOver) (phase : Phase) (answer : Answer) → IsGuarded phase → IsGuarded (inspector_phase cutover phase answer)
inspected_made cutover Resting answer made = tt
inspected_made cutover (Attempting stage) answer made = ends_or (is_bad answer) (cutovers.inspector_stage cutover.has_counter stage answer) (inspector_made cutover.has_counter stage answer made)
inspected_made cutover (Ending cleared) answer made = ending_made cutover cleared answer
inspected_made cutover (Finishing cleared) answer made = finished_made cutover cleared answer
inspected_made cutover Finished answer made = tt

failed_made : (phase : Phase) → IsGuarded phase → IsGuarded (failed phase)
failed_made (Attempting stage) made = tt
failed_made Resting made = tt
failed_made (Ending clearing) made = tt
failed_made (Finishing clearing) made = tt
failed_made Finished made = tt

waits_made : (phase : Phase) → IsGuarded phase → IsGuarded (waits_phase phase)
waits_made (Attempting Drained) made = tt
waits_made (Attempting stage) made = made
waits_made Resting made = tt
waits_made (Ending clearing) made = tt
waits_made (Finishing clearing) made = tt
waits_made Finished made = tt

renamed_made : (phase : Phase) (answer : Answer) → IsGuarded phase → IsGuarded (renamer_phase phase answer)
renamed_made phase (answers.Ok count) made = tt
renamed_made phase (answers.Waits by) made = waits_made phase made
renamed_made phase answers.Lost made = failed_made phase made
renamed_made phase (answers.TimedOut waited) made = failed_made phase made
renamed_made phase answer made = made

locker_made : (stage : Stage) (answer : Answer) → IsMade stage → IsMade (cutovers.locker_stage stage answer)
locker_made Guarding answer made = absurd made
locker_made Locking (answers.Ok count) made = tt
locker_made Dropping (answers.Ok count) made = tt
locker_made Unlocking (answers.Ok count) made = tt
locker_made stage answer made = made

begun_made : (answer : Answer) → ((by : ℕ) → answer ≡ answers.Waits by → ⊥) → IsGuarded (begun answer)
begun_made (answers.Ok count) prompt = tt
begun_made (answers.Waits by) prompt = absurd (prompt by refl)
begun_made answer prompt = tt

guard_none : (answer : Answer) → ((by : ℕ) → answer ≡ answers.Waits by → ⊥) → WaitsForNoSentry (hold_of_guard answer)
guard_none (answers.Waits by) prompt = absurd (prompt by refl)
guard_none answer prompt = tt

lock_none : (answer : Answer) → WaitsForNoSentry (hold_of_lock answer)
lock_none (answers.Waits by) = tt
lock_none (answers.Ok count) = tt
lock_none answer = tt

under_none : (phase : Phase) (answer : Answer) → WaitsForNoSentry (cutovers.hold_under phase answer)
under_none (Attempting Dropping) answer = by (is_bad answer) where
  by : (b : Bool) → WaitsForNoSentry (cond b Nothing Locks)
  by true = tt
  by false = tt
under_none (Attempting stage) answer = tt
under_none Resting answer = tt
under_none (Ending clearing) answer = tt
under_none (Finishing clearing) answer = tt
under_none Finished answer = tt

locked_made : (phase : Phase) (answer : Answer) → ((by : ℕ) → phase ≡ Resting → answer ≡ answers.Waits by → ⊥) → IsGuarded phase → IsGuarded (locker_phase phase answer)
locked_made Resting answer prompt made = begun_made answer (λ by waits. prompt by refl waits)
locked_made (Attempting stage) answer prompt made = ends_or (is_bad answer) (cutovers.locker_stage stage answer) (locker_made stage answer made)
locked_made (Ending cleared) answer prompt made = tt
locked_made (Finishing cleared) answer prompt made = tt
locked_made Finished answer prompt made = tt

-- the locker's hold, by what it asks
hold_none : (table : List ℕ) (hold : Hold) (phase : Phase) (request : Request) (answer : Answer) → LockerAsks table hold phase request → WaitsForNoSentry hold → ((by : ℕ) → phase ≡ Resting → answer ≡ answers.Waits by → ⊥) → WaitsForNoSentry (hold_after hold phase answer)
hold_none table Nothing Resting request answer asks none prompt = guard_none answer (λ by waits. prompt by refl waits)
hold_none table Nothing (Attempting Locking) request answer asks none prompt = lock_none answer
hold_none table Nothing phase request answer asks none prompt = absurd asks
hold_none table WaitsToGuard phase request answer asks none prompt = absurd none
hold_none table WaitsToLock phase request answer asks none prompt = lock_none answer
hold_none table Locks phase request answer asks none prompt = under_none phase answer

lost_none : (hold : Hold) (phase : Phase) → WaitsForNoSentry hold → WaitsForNoSentry (hold_after hold phase answers.Lost)
lost_none Nothing (Attempting Locking) none = tt
lost_none Nothing (Attempting stage) none = tt
lost_none Nothing Resting none = tt
lost_none Nothing (Ending clearing) none = tt
lost_none Nothing (Finishing clearing) none = tt
lost_none Nothing Finished none = tt
lost_none WaitsToGuard phase none = absurd none
lost_none WaitsToLock phase none = tt
lost_none Locks phase none = under_none phase answers.Lost

lost_prompt : (phase : Phase) (by : ℕ) → phase ≡ Resting → answers.Lost ≡ answers.Waits by → ⊥
lost_prompt phase by resting same = cc

-- ONE TURN

module _ (plan : PlanData) (runs : IsRunnable plan) (journal : List Entry) (entry : Entry) (kept : IsKept plan journal) (run : IsRun plan journal entry) (is : IsGoing plan journal) (fits : ToolPhaseGuarded (moment plan journal).tool.tool_phase) where
  abbrev now : Moment
  now = moment plan journal

  abbrev tool : Tool
  tool = record now.tool { turns = now.tool.turns + 1 }

  abbrev has : Actor → Standing
  has = standing_of plan journal

  abbrev New : Kept
  New = λ b tool_phase. ToolPhaseGuarded tool_phase

  together : IsTogether plan journal
  together = is.standing.tabled.all.tool

  served : IsServed plan journal entry
  served = record { answered = run.answered; seated = record { session = run.followed.session } }

  same_fits : (tool_phase : ToolPhase) → now.tool.tool_phase ≡ tool_phase → ToolPhaseGuarded tool_phase
  same_fits tool_phase eq = subst ToolPhaseGuarded eq fits

  back : (b : Bool) (tool_phase : ToolPhase) → New b tool_phase → New true (stopped tool_phase)
  unfolding reverted
  back b (SettingUp setup tries) one = tt
  back b (Migrating work) one = record { phase = ended_made work.cutover.phase one.phase; hold = one.hold }

  drain : (b : Bool) (work : Work) (tries : List ℕ) → New b (Migrating work) → New b (Migrating (record work { cutover = applier_turn work.applier.hint work.cutover; attempt_tries = tries }))
  unfolding applier_turn
  drain b work tries one = record { phase = drained_made work.cutover work.applier.hint work.cutover.phase one.phase; hold = one.hold }

  -- the sentry's CREATE
  module _ (work : Work) (eq : now.tool.tool_phase ≡ Migrating work) (same : entry.actor ≡ Lock) (resting : work.cutover.phase ≡ Resting) where
    stands : WorkStands journal (is_reverting now.tool.reason) has work
    stands = subst (ToolPhaseStands journal has (is_reverting now.tool.reason)) eq together.stands

    at : StandsAt plan (state_at plan journal).tables (has Insp).waits work.cutover.phase work.cutover.hold work.cutover.renamer_waits work.cutover.is_asked
    at = subst (ToolPhaseAt plan (state_at plan journal).tables (has Insp).waits) eq is.standing.tool_phase

    renamer_off : work.cutover.renamer_waits ≡ false
    renamer_off = subst (λ (p : Phase). Rattle.proof_migration.proofs.Attempt.Stages.RenamerAt p work.cutover.renamer_waits) resting at.renamer

    old_forbidden : (bytes_eq (old_name plan.table) (log_name plan.table) || bytes_eq (old_name plan.table) (old_name plan.table)) ≡ true
    old_forbidden = or_right (bytes_eq (old_name plan.table) (log_name plan.table)) (bytes_eq (old_name plan.table) (old_name plan.table)) (same_bytes (old_name plan.table))

    -- the inspector waits with nothing while no attempt is under way
    insp_never : (request : Request) → (has Insp).waits ≡ Some request → ⊥
    insp_never request some = subst (λ (p : Phase). SetsCounter plan p request) resting (subst (WaitsFor plan (has Insp).waits) eq is.waits request some).0

    away : (a : Actor) → same_actor a Lock ≡ false → IsAway plan journal is.names a (old_name plan.table)
    away (Client c) differ = away_forbidden plan journal is.names (Client c) (old_name plan.table) (old_is_tool plan.table)
    away Op differ = away_free plan journal is.names Op (old_name plan.table) (ap (standing_in (state_at plan journal)) (together_owned plan journal kept.faithful kept.follows).owned.operator)
    away Insp differ = away_free plan journal is.names Insp (old_name plan.table) (insp_free plan runs journal entry kept run is (insp_rests plan runs journal entry kept run is insp_never))
    away Copy differ = away_forbidden plan journal is.names Copy (old_name plan.table) old_forbidden
    away Apply differ = away_forbidden plan journal is.names Apply (old_name plan.table) old_forbidden
    away Lock differ = absurd (true≢false differ)
    away Ren differ = away_free plan journal is.names Ren (old_name plan.table) (stands.renamer ∙ ap (renaming work.cutover.table) renamer_off)

    own_table : work.cutover.table ≡ plan.table
    own_table = (subst (ToolPhaseIsNamed plan) eq (named plan journal)).cutover

    nothing : work.cutover.hold ≡ Nothing
    nothing = subst (λ (p : Phase). PhaseHolds p work.cutover.hold) resting stands.phase

    no_wait : (answer by : _) → IsDone answer → answer ≡ answers.Waits by → ⊥
    no_wait answer by done waits = subst IsDone waits done

    create_done : entry.asked ≡ Call (requests.Create (sentry_schema plan.table)) → entry.side ≡ None → IsDone entry.answer
    unfolding sentry_schema
    create_done asks no_side =
        at_once plan runs journal entry kept run is.names Lock same (ap is_command asks) (requests.Create (sentry_schema plan.table)) asks no_side
        (free_name plan runs journal entry kept run is.names Lock same (ap is_command asks) (old_name plan.table) away, tt)

    lost_waits : (side : Side) (by : ℕ) → entry.side ≡ Some side → entry.answer ≡ answers.Waits by → ⊥
    lost_waits side by some waits = no (sym (own_missed plan journal entry together.known served side some) ∙ waits) where
      no : answers.Lost ≡ answers.Waits by → ⊥
      no both = cc

    prompt : (request : Request) → IsAbout request (has Lock) entry.asked → LockerAsks work.cutover.table work.cutover.hold work.cutover.phase request → (by : ℕ) → entry.answer ≡ answers.Waits by → ⊥
    prompt request about asks by waits = at_side entry.side refl about where
      is_create : request ≡ requests.Create (sentry_schema plan.table)
      is_create =
          subst (λ (p : Phase). LockerAsks work.cutover.table Nothing p request) resting (subst (λ (h : Hold). LockerAsks work.cutover.table h work.cutover.phase request) nothing asks)
          ∙ ap (λ (t : List ℕ). requests.Create (sentry_schema t)) own_table

      idle : (has Lock).waits ≡ None
      idle = ap (λ (s : Standing). s.waits) (stands.locker ∙ ap (held work.cutover.table) nothing)

      no_poll : None ≡ Some request → ⊥
      no_poll both = cc

      at_side : (side : Option Side) → entry.side ≡ side → IsAbout request (has Lock) entry.asked → ⊥
      at_side None no_side (is_called called none) = no_wait entry.answer by (create_done (called ∙ ap Call is_create) no_side) waits
      at_side None no_side (is_polled polled some) = no_poll (sym idle ∙ some)
      at_side (Some side) some about = lost_waits side by some waits

  module _ (work : Work) (eq : now.tool.tool_phase ≡ Migrating work) where
    abbrev one : HasSentryAtOnce work
    one = same_fits (Migrating work) eq

    insp_turn : (answer : Answer) (tries : List ℕ) → New (is_reverting now.tool.reason) (Migrating (record work { cutover = cutovers.took Inspector work.cutover answer; attempt_tries = tries }))
    unfolding cutovers.took
    insp_turn answer tries = record { phase = inspected_made work.cutover work.cutover.phase answer one.phase; hold = one.hold }

    ren_turn : (answer : Answer) (tries : List ℕ) → New (is_reverting now.tool.reason) (Migrating (record work { cutover = cutovers.took Renamer work.cutover answer; attempt_tries = tries }))
    unfolding cutovers.took
    ren_turn answer tries = record { phase = renamed_made work.cutover.phase answer one.phase; hold = one.hold }

    lock_turn : entry.actor ≡ Lock → Asking plan journal Lock entry.asked → (tries : List ℕ) → New (is_reverting now.tool.reason) (Migrating (record work { cutover = cutovers.took Locker work.cutover entry.answer; attempt_tries = tries }))
    unfolding cutovers.took
    lock_turn same asks tries =
        lock_about plan journal entry together run work eq (subst (ToolPhaseStands journal has (is_reverting now.tool.reason)) eq together.stands) asks
        (New (is_reverting now.tool.reason) (Migrating (record work { cutover = cutovers.took Locker work.cutover entry.answer; attempt_tries = tries })))
        (λ request about kind. record {
          phase = locked_made work.cutover.phase entry.answer (λ by resting waits. prompt work eq same resting request about kind by waits) one.phase;
          hold = hold_none work.cutover.table work.cutover.hold work.cutover.phase request entry.answer kind one.hold (λ by resting waits. prompt work eq same resting request about kind by waits);
        })

    lock_lost : (tries : List ℕ) → New (is_reverting now.tool.reason) (Migrating (record work { cutover = cutovers.took Locker work.cutover answers.Lost; attempt_tries = tries }))
    unfolding cutovers.took
    lock_lost tries = record { phase = locked_made work.cutover.phase answers.Lost (λ by resting waits. lost_prompt work.cutover.phase by resting waits) one.phase; hold = lost_none work.cutover.hold work.cutover.phase one.hold }

  unfit_so : (work : Work) → New false (Migrating work) → UnfitKeeps New work
  unfit_so work one = record { renamed = λ renamed. one; reverts = back false (Migrating work) one }

  copy_so : (answer : Answer) (work : Work) → New false (Migrating work) → CopyKeeps New answer tool work
  copy_so answer work one = record { reverting = λ reverting. one; unfit = λ going place number unfit. unfit_so work one; took = λ going fits tries. record { phase = one.phase; hold = one.hold } }

  apply_so : (answer : Answer) (work : Work) → New false (Migrating work) → ApplyKeeps New answer tool work
  apply_so answer work one = record { reverting = λ reverting. one; unfit = λ going place number unfit. unfit_so work one; took = λ going fits tries. record { phase = one.phase; hold = one.hold } }

  begins : (size : ℕ) (tries : List ℕ) (setup : Setup) → New false (tool_phase_of plan size setup tries)
  begins size tries (Ready position range) = record { phase = tt; hold = tt }
  begins size tries Listing = tt
  begins size tries (Clearing left) = tt
  begins size tries MakingLog = tt
  begins size tries MakingGhost = tt
  begins size tries Marking = tt
  begins size tries (Reaching position) = tt

  setup_so : (answer : Answer) (setup : Setup) (tries : List ℕ) → SetupKeeps plan New answer tool setup tries
  setup_so answer setup tries = record { reverting = λ reverting. tt; again = λ going bad more. tt; goes = λ going good. begins tool.operator.size tries (setup_after plan.table setup answer) }

  heard_so : (actor : Actor) → entry.actor ≡ actor → given plan journal actor ≡ Some entry.asked → (tool_phase : ToolPhase) → now.tool.tool_phase ≡ tool_phase → AnswerKeeps plan New entry.answer tool actor tool_phase
  unfolding given
  heard_so Insp same gives (SettingUp setup tries) eq = setup_so entry.answer setup tries
  heard_so Insp same gives (Migrating work) eq = insp_turn work eq entry.answer
  heard_so Copy same gives (SettingUp setup tries) eq = tt
  heard_so Copy same gives (Migrating work) eq = copy_so entry.answer work (same_fits (Migrating work) eq)
  heard_so Apply same gives (SettingUp setup tries) eq = tt
  heard_so Apply same gives (Migrating work) eq = apply_so entry.answer work (same_fits (Migrating work) eq)
  heard_so Lock same gives (SettingUp setup tries) eq = tt
  heard_so Lock same gives (Migrating work) eq = lock_turn work eq same (asking plan journal Lock entry.asked together.server gives)
  heard_so Ren same gives (SettingUp setup tries) eq = tt
  heard_so Ren same gives (Migrating work) eq = ren_turn work eq entry.answer
  heard_so Op same gives (SettingUp setup tries) eq = tt
  heard_so Op same gives (Migrating work) eq = same_fits (Migrating work) eq
  heard_so (Client c) same gives (SettingUp setup tries) eq = tt
  heard_so (Client c) same gives (Migrating work) eq = same_fits (Migrating work) eq

  lost_so : (actor : Actor) (tool_phase : ToolPhase) → now.tool.tool_phase ≡ tool_phase → AnswerKeeps plan New answers.Lost tool actor tool_phase
  lost_so Insp (SettingUp setup tries) eq = setup_so answers.Lost setup tries
  lost_so Insp (Migrating work) eq = insp_turn work eq answers.Lost
  lost_so Copy (SettingUp setup tries) eq = tt
  lost_so Copy (Migrating work) eq = copy_so answers.Lost work (same_fits (Migrating work) eq)
  lost_so Apply (SettingUp setup tries) eq = tt
  lost_so Apply (Migrating work) eq = apply_so answers.Lost work (same_fits (Migrating work) eq)
  lost_so Lock (SettingUp setup tries) eq = tt
  lost_so Lock (Migrating work) eq = lock_lost work eq
  lost_so Ren (SettingUp setup tries) eq = tt
  lost_so Ren (Migrating work) eq = ren_turn work eq answers.Lost
  lost_so Op (SettingUp setup tries) eq = tt
  lost_so Op (Migrating work) eq = same_fits (Migrating work) eq
  lost_so (Client c) (SettingUp setup tries) eq = tt
  lost_so (Client c) (Migrating work) eq = same_fits (Migrating work) eq

  resize_so : (size : ℕ) (tool_phase : ToolPhase) → now.tool.tool_phase ≡ tool_phase → ResizeKeeps New tool size tool_phase
  resize_so size (SettingUp setup tries) eq = tt
  resize_so size (Migrating work) eq = let one = same_fits (Migrating work) eq in record { phase = one.phase; hold = one.hold }

  guarded_more : ToolPhaseGuarded (moment plan (journal ++ entry ∷ [])).tool.tool_phase
  guarded_more =
      turn_kept plan New back journal entry drain
      (record {
        commanded = λ word asks unsized. same_fits now.tool.tool_phase refl;
        resized = λ size asks. resize_so size now.tool.tool_phase refl;
        idle = λ asks none. same_fits now.tool.tool_phase refl;
        lost = λ asks worked. lost_so entry.actor now.tool.tool_phase refl;
        heard = λ called commanded. heard_so entry.actor refl (gives_asked plan journal entry entry.asked run.followed.given refl called) now.tool.tool_phase refl;
      })

guarded_begins : (plan : PlanData) → ToolPhaseGuarded (moment plan []).tool.tool_phase
unfolding moment
guarded_begins plan = tt

-- *Sentries are made at once*
pub sentries_made : SentriesAreMadeAtOnce
sentries_made plan journal work runs serial kept eq =
    subst ToolPhaseGuarded eq
    (each_kept plan (λ before. ToolPhaseGuarded (moment plan before).tool.tool_phase)
    (λ before entry one fits. guarded_more plan runs before entry (kept_front plan before (entry ∷ []) one) (kept_run plan before entry one) (all_going plan before runs serial (kept_front plan before (entry ∷ []) one)) fits) journal kept (guarded_begins plan))
