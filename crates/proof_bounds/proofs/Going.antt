-- The setup goes on, and so does what is done after the RENAME: the inspector waits with the request alone that sets the new table's
-- counter, and each of its other calls is done; and while no attempt stands it writes rows of notes alone.
use Rattle.std.proofs.Common.{◌≡◌, ◌≢◌, ◌≤◌, ◌<◌, ℕ, ◌+◌, ◌==◌, Bool, true, false, cond, not, ◌&&◌, ◌||◌, List, [], ◌∷◌, ◌++◌, Option, Some, None, refl, sym, ap, ◌∙◌, subst, inl, inr, arith}
use Rattle.std.specs.Prelude.{is_some}
use Rattle.std.specs.List.{AllByRecursion, list_any}
use Rattle.std.specs.Str.{bytes_eq}
use Rattle.std.proofs.lemmas.Bool.{true≢false, false≢true, or_left, or_right, both_ways}
use Rattle.std.proofs.lemmas.Bool.Decides.{nat_tests}
use Rattle.std.proofs.lemmas.Option.{none-some, same_Some}
use Rattle.base_script.specs.declared.actor.Actor.{Actor}
use Rattle.base_script.specs.declared.actor.Actor.TheVariants.{Op, Insp, Copy, Apply, Lock, Ren, Client}
use Rattle.base_script.specs.declared.actor.Side.{Side}
use Rattle.base_script.specs.declared.operator.OperatorWord.{OperatorWord}
use Rattle.base_script.specs.declared.operator.OperatorWord.TheVariants.{ChunkSize}
use Rattle.base_values.specs.ToolNames.{ghost_name, log_name, old_name, is_tool_name}
use Rattle.server_locks.specs.MetadataLocks.Grants.{HeldName, holds, blocker_of_name, blocker_of_names}
use Rattle.table_store.specs.Databases.{Database, has_table}
use Rattle.server_model.specs.Along.{Along}
use Rattle.server_model.specs.declared.answer.Answer.{Answer}
use Rattle.server_model.specs.declared.answer.Answer.TheVariants as answers
use Rattle.server_model.specs.declared.answer.KeyRange.{KeyRange}
use Rattle.server_model.specs.declared.entry.Asked.TheVariants.{Call, Poll, Command, Cut}
use Rattle.server_model.specs.declared.entry.Entry.{Entry}
use Rattle.server_model.specs.declared.listing.TableName.{TableName}
use Rattle.server_model.specs.declared.request.Request.{Request}
use Rattle.server_model.specs.declared.request.Request.TheVariants as requests
use Rattle.server_model.specs.declared.session.Session.{Session}
use Rattle.server_model.specs.declared.session.Waiting.{Waiting}
use Rattle.server_model.specs.Answers.{ok}
use Rattle.server_model.specs.Entries.{same_actor, is_client, is_command, is_cut}
use Rattle.server_model.specs.Listings.{tables_shown}
use Rattle.server_model.specs.PlainServer.{serves}
use Rattle.server_model.specs.States.{State, has_work, waiters, waiting_of, names_in}
use Rattle.plan_data.specs.PlanData.{PlanData, old_schema}
use Rattle.tool_changelog.specs.ToolTables.{log_schema}
use Rattle.tool_program.specs.JournalWords.Journals.{may_lose, opens, state_at}
use Rattle.tool_program.specs.JournalWords.Sessions.{live_session}
use Rattle.tool_program.specs.declared.cutover_core.cutover.Clearing.{Clearing as Cleared}
use Rattle.tool_program.specs.declared.cutover_core.cutover.Clearing.TheVariants.{Looking, Drops}
use Rattle.tool_program.specs.declared.cutover_core.cutover.CutOver.{CutOver}
use Rattle.tool_program.specs.declared.cutover_core.cutover.Hold.{Hold}
use Rattle.tool_program.specs.declared.cutover_core.cutover.Hold.TheVariants.{Nothing, WaitsToGuard, WaitsToLock, Locks}
use Rattle.tool_program.specs.declared.cutover_core.cutover.Leftovers.{Leftovers}
use Rattle.tool_program.specs.declared.cutover_core.cutover.Phase.{Phase}
use Rattle.tool_program.specs.declared.cutover_core.cutover.Phase.TheVariants.{Resting, Attempting, Ending, Finishing, Finished}
use Rattle.tool_program.specs.declared.cutover_core.cutover.Role.TheVariants.{Inspector, Locker, Renamer}
use Rattle.tool_program.specs.declared.cutover_core.cutover.Stage.TheVariants.{Locking, Hinting, ReadingCounter, SettingCounter, Drained, Showing, Dropping, Unlocking, Exchanging}
use Rattle.tool_program.specs.declared.cutover_core.cutover.Stage.{Stage}
use Rattle.tool_program.specs.declared.cutover_core.cutover.Drain.{Drain}
use Rattle.tool_program.specs.declared.cutover_core.cutover.Drain.TheVariants.{Turns}
use Rattle.tool_program.specs.CutoverCore.Attempts as attempts
use Rattle.tool_program.specs.CutoverCore.Attempts.{exchange, clears, first_name, without_first, has_name, has_sentry, is_clear, is_free}
use Rattle.tool_program.specs.CutoverCore.CutOvers as cutovers
use Rattle.tool_program.specs.CutoverCore.CutOvers.{is_bad, is_done, is_resting, is_wait, begun, failed, waits_phase, finishing, left_at_end, sentry_alone, seen, inspector_phase, locker_phase, renamer_phase, hold_after, hold_of_guard, hold_of_lock, applier_turn, drain_of, drained, drains_to, ended, reverted}
use Rattle.tool_program.specs.Programs.{tool_call, tool_asks, given}
use Rattle.tool_program.specs.Setups.{Setup, Listing, Clearing, MakingLog, MakingGhost, Marking, Reaching, Ready, clearing, listed, setup_call, setup_after}
use Rattle.tool_program.specs.Tools.{Work, ToolPhase, SettingUp, Migrating, Tool, Moment, stopped, is_reverting, tool_phase_of, moment}
use Rattle.tool_program.proofs.OnlineCalls.Machines.{ToolPhaseIsNamed, named}
use Rattle.server_model.proofs.LockedRows.Tests.{same_bytes, turned_bytes}
use Rattle.proof_journals.specs.Holdings.{face_in, face_of}
use Rattle.proof_journals.specs.Machine.Machines.{ToolPhaseStands, WorkStands, SetupStands, PhaseHolds, both_names, held, renaming}
use Rattle.proof_journals.specs.Machine.MigrationTables.{SetupTables, ToolPhaseTables}
use Rattle.proof_journals.specs.Machine.Runnable.{IsRunnable}
use Rattle.proof_journals.specs.Machine.Standings.{Standing, free, standing_in, standing_of, answered, serves_to, IsAbout, is_called, is_polled}
use Rattle.proof_journals.specs.Plans.{IsSerialPlan}
use Rattle.proof_journals.specs.Run.Kept.{IsKept}
use Rattle.proof_journals.specs.ServerTurns.Others.{held_at}
use Rattle.proof_journals.specs.Turns.{request_of, about}
use Rattle.proof_journals.proofs.Actors.{same_actor_is, others_differ, Placed, Commands, GoesOn, Begins, placed}
use Rattle.proof_journals.proofs.Journals.{opened_waits}
use Rattle.proof_journals.proofs.Machine.Asking.{some_request}
use Rattle.proof_journals.proofs.Machine.CuttingOver.{LockerAsks, drain_cases, lost_nothing}
use Rattle.proof_journals.proofs.Machine.Fitting.{IsPrompt}
use Rattle.proof_journals.proofs.Machine.Inspecting.{IsNote, Inspects, inspects, notes_so, cuts_so}
use Rattle.proof_journals.proofs.Machine.Journals.{IsRun, IsTogether, Asking, calls_so, polls_so, asking, never_commands, lock_about, ren_about}
use Rattle.proof_journals.proofs.Machine.Marks.{ghost_not_log, ghost_not_old, old_not_log}
use Rattle.proof_journals.proofs.Machine.Schemas.{keeps_table, schema_stays}
use Rattle.proof_journals.proofs.Machine.Seated.{IsKnown, IsServed, others_stand, own_stands, own_given, own_heard, own_lost, own_missed, own_session, own_waiting}
use Rattle.proof_journals.proofs.Machine.Tabling.{may_define, free_idle, quiet_stay, Following, waits_on, rests, following}
use Rattle.proof_journals.proofs.Sentry.Holding.{granted_each, granted_alone, weaker}
use Rattle.proof_journals.proofs.ServerTurns.Alone.{held_opened}
use Rattle.proof_journals.proofs.Waiting.{IsDone}
use Rattle.proof_migration.proofs.Attempt.Blocking.{locked_holds, unlocked_holds}
use Rattle.proof_migration.proofs.Attempt.InspectorAnswers.{listed_is}
use Rattle.proof_migration.proofs.Attempt.Leaving.{AllStay, DropLeaves, has_is, none_has, drop_left}
use Rattle.proof_migration.proofs.Attempt.LockerAnswers.{heard_leaves}
use Rattle.proof_migration.proofs.Attempt.RenamerAnswers.{AsksAt}
use Rattle.proof_migration.proofs.Attempt.Stages.{RenamerAt, LeftAt, StandsAt}
use Rattle.proof_migration.proofs.Attempt.Standing.{ToolPhaseAt, IsStanding, standing_more, standing_along, quiet_stays, rest, listed as listed_so, about_own, asks_at, renamer_unlocked, no_asking, cut_stay, none_some}
use Rattle.proof_migration.proofs.Program.LockerTurns.Quiet.{names_granted}
use Rattle.proof_migration.proofs.Program.Turns.Follows.{kept_front, kept_run}
use Rattle.proof_migration.proofs.ToolPhase.Chunks.Onlines.{all_untouched}
use Rattle.proof_migration.proofs.ToolPhase.Chunks.Sparing.{IsSpared}
use Rattle.proof_migration.proofs.ToolPhase.Chunks.Uncopied.{is_uncopied}
use Rattle.proof_migration.proofs.ToolPhase.Owners.{together_owned}
use Rattle.proof_migration.proofs.ToolPhase.ToolPhaseTurns.{Kept, UnfitKeeps, CopyKeeps, ApplyKeeps, SetupKeeps, AnswerKeeps, ResizeKeeps, turn_kept, gives_asked}
use Rattle.proof_migration.proofs.ToolPhase.Unaltered.Away.{log_is_tool, ghost_is_tool}
use Rattle.proof_bounds.specs.Clearings.{phase_left, ClearingGoes}
use Rattle.proof_bounds.specs.Notes.{is_note, replaces}
use Rattle.proof_bounds.specs.Setups.{names_left, setup_left, SetupGoes}
use Rattle.proof_migration.specs.InspectorWaits.{SetsCounter, IsSettingCounter, InspectorsWaitToSet}
use Rattle.proof_migration.proofs.HeldNames.Changelog.{log_at_once, log_away}
use Rattle.proof_migration.proofs.HeldNames.FreeNames.{IsAway, away_forbidden, away_free, free_name, at_once, drops_ok, creates_ok, ends_ok}
use Rattle.proof_bounds.proofs.Inspecting.{WaitsFor, none_waits, none_for, sets_ended, sets_failed, sets_drained, sets_locked, sets_waits}
use Rattle.proof_migration.proofs.HeldNames.Holders.{IsHeldWell, held_well_more, held_well_begins}
use Rattle.proof_bounds.proofs.Leftovers.{IsLeft, SetupFits, has_stays, setup_stay, clearing_fits, first_is_tool, first_exists, listed_fewer, dropped_fewer, IsLeftAtEnd, ClearingFits, PhaseFits, RestsOrLocks, WorkFits, phase_stay, work_stay, undone_fits, ends_with, lists_end, end_is_old, end_exists, end_fewer, end_listed}
use Rattle.proof_migration.proofs.HeldNames.Unblocked.{IsFreeName}
use Rattle.proof_migration.proofs.KeptJournals.{along_of, each_kept}
use Rattle.proof_migration.proofs.ToolPhase.Marked.{old_is_tool}

-- WHAT IS SO AFTER EVERY KEPT JOURNAL

abbrev pub ToolPhaseFits : PlanData → Database → ToolPhase → Type 0
ToolPhaseFits plan tables (SettingUp setup tries) = SetupFits plan tables setup
ToolPhaseFits plan tables (Migrating work) = WorkFits plan tables work.cutover.phase work.cutover.hold work.cutover.renamer_waits

-- the inspector waits to set the counter alone, and what its next calls ask for can be done
pub record IsGoing (plan : PlanData) (journal : List Entry) : Type 0 where
  pub standing : IsStanding plan journal
  pub names : IsHeldWell plan journal
  pub waits : WaitsFor plan (standing_of plan journal Insp).waits (moment plan journal).tool.tool_phase
  pub fits : ToolPhaseFits plan (state_at plan journal).tables (moment plan journal).tool.tool_phase

-- PHASES

-- the new table's counter is set next, or waits to be
abbrev pub is_setting : Phase → Bool
is_setting (Attempting (SettingCounter number drain)) = true
is_setting phase = false

begun_undone : (answer : Answer) → is_done (begun answer) ≡ false
begun_undone (answers.Ok count) = refl
begun_undone (answers.Waits by) = refl
begun_undone answer = refl

locker_undone : (phase : Phase) (answer : Answer) → is_done phase ≡ false → is_done (locker_phase phase answer) ≡ false
locker_undone Resting answer undone = begun_undone answer
locker_undone (Attempting stage) answer undone = by (is_bad answer) where
  by : (b : Bool) → is_done (cond b (Ending Looking) (Attempting (cutovers.locker_stage stage answer))) ≡ false
  by true = refl
  by false = refl
locker_undone (Ending clearing) answer undone = refl
locker_undone (Finishing clearing) answer undone = undone
locker_undone Finished answer undone = undone

failed_undone : (phase : Phase) → is_done phase ≡ false → is_done (failed phase) ≡ false
failed_undone (Attempting stage) undone = refl
failed_undone Resting undone = undone
failed_undone (Ending clearing) undone = undone
failed_undone (Finishing clearing) undone = undone
failed_undone Finished undone = undone

waits_undone : (phase : Phase) → is_done phase ≡ false → is_done (waits_phase phase) ≡ false
waits_undone (Attempting Drained) undone = refl
waits_undone (Attempting stage) undone = undone
waits_undone Resting undone = undone
waits_undone (Ending clearing) undone = undone
waits_undone (Finishing clearing) undone = undone
waits_undone Finished undone = undone

under_rests : (phase : Phase) (answer : Answer) → RestsOrLocks (cutovers.hold_under phase answer)
under_rests (Attempting Dropping) answer = by (is_bad answer) where
  by : (b : Bool) → RestsOrLocks (cond b Nothing Locks)
  by true = tt
  by false = tt
under_rests (Attempting stage) answer = tt
under_rests Resting answer = tt
under_rests (Ending clearing) answer = tt
under_rests (Finishing clearing) answer = tt
under_rests Finished answer = tt

ended_undone : (phase : Phase) → is_done (ended phase) ≡ is_done phase
ended_undone (Attempting Unlocking) = refl
ended_undone (Attempting Exchanging) = refl
ended_undone (Attempting stage) = refl
ended_undone Resting = refl
ended_undone (Ending clearing) = refl
ended_undone (Finishing clearing) = refl
ended_undone Finished = refl

drained_undone : (cutover : CutOver) (hint : ℕ) (stage : Stage) → is_done (drained cutover hint (Attempting stage)) ≡ false
drained_undone cutover hint stage = by (drain_of stage) where
  by : (drain : Option Drain) → is_done (drains_to cutover hint stage drain) ≡ false
  by (Some (Turns turns)) = drain_cases (λ (p : Phase). is_done p ≡ false) cutover hint turns stage (λ same. refl) refl refl
  by drain = refl

module _ (plan : PlanData) (tables : Database) (hold : Hold) (renames : Bool) where
  ended_fits : (phase : Phase) → WorkFits plan tables phase hold renames → WorkFits plan tables (ended phase) hold renames
  ended_fits (Attempting stage) fits = undone_fits plan tables (ended (Attempting stage)) hold renames (ended_undone (Attempting stage)) fits.back
  ended_fits Resting fits = fits
  ended_fits (Ending clearing) fits = fits
  ended_fits (Finishing clearing) fits = fits
  ended_fits Finished fits = fits

  drained_fits : (cutover : CutOver) (hint : ℕ) (phase : Phase) → WorkFits plan tables phase hold renames → WorkFits plan tables (drained cutover hint phase) hold renames
  drained_fits cutover hint (Attempting stage) fits = undone_fits plan tables (drained cutover hint (Attempting stage)) hold renames (drained_undone cutover hint stage) fits.back
  drained_fits cutover hint Resting fits = fits
  drained_fits cutover hint (Ending clearing) fits = fits
  drained_fits cutover hint (Finishing clearing) fits = fits
  drained_fits cutover hint Finished fits = fits

not_lost : (answer : Answer) → answer ≡ ok → answer ≡ answers.Lost → ⊥
not_lost answer done lost = no (sym done ∙ lost) where
  no : ok ≡ answers.Lost → ⊥
  no same = cc

-- ONE TURN

module _ (plan : PlanData) (runs : IsRunnable plan) (journal : List Entry) (entry : Entry) (kept : IsKept plan journal) (run : IsRun plan journal entry) (is : IsGoing plan journal) where
  abbrev now : Moment
  now = moment plan journal

  abbrev tool : Tool
  tool = record now.tool { turns = now.tool.turns + 1 }

  abbrev more : List Entry
  more = journal ++ entry ∷ []

  abbrev has : Actor → Standing
  has = standing_of plan journal

  abbrev now_has : Actor → Standing
  now_has = standing_of plan more

  abbrev before : Database
  before = (state_at plan journal).tables

  abbrev after : Database
  after = (state_at plan more).tables

  abbrev New : Kept
  New = λ b tool_phase. ToolPhaseFits plan after tool_phase

  served : IsServed plan journal entry
  served = record { answered = run.answered; seated = record { session = run.followed.session } }

  together : IsTogether plan journal
  together = is.standing.tabled.all.tool

  known : IsKnown plan journal
  known = together.known

  setup_has : (setup : Setup) (tries : List ℕ) → now.tool.tool_phase ≡ SettingUp setup tries → SetupStands has
  setup_has setup tries eq = subst (ToolPhaseStands journal has (is_reverting now.tool.reason)) eq together.stands

  work_has : (work : Work) → now.tool.tool_phase ≡ Migrating work → WorkStands journal (is_reverting now.tool.reason) has work
  work_has work eq = subst (ToolPhaseStands journal has (is_reverting now.tool.reason)) eq together.stands

  setup_fits : (setup : Setup) (tries : List ℕ) → now.tool.tool_phase ≡ SettingUp setup tries → SetupFits plan before setup
  setup_fits setup tries eq = subst (ToolPhaseFits plan before) eq is.fits

  work_fits : (work : Work) → now.tool.tool_phase ≡ Migrating work → WorkFits plan before work.cutover.phase work.cutover.hold work.cutover.renamer_waits
  work_fits work eq = subst (ToolPhaseFits plan before) eq is.fits

  work_at : (work : Work) → now.tool.tool_phase ≡ Migrating work → StandsAt plan before (has Insp).waits work.cutover.phase work.cutover.hold work.cutover.renamer_waits work.cutover.is_asked
  work_at work eq = subst (ToolPhaseAt plan before (has Insp).waits) eq is.standing.tool_phase

  own_table : (work : Work) → now.tool.tool_phase ≡ Migrating work → work.cutover.table ≡ plan.table
  own_table work eq = (subst (ToolPhaseIsNamed plan) eq (named plan journal)).cutover

  still : (tool_phase : ToolPhase) → now.tool.tool_phase ≡ tool_phase → AllStay before after → ToolPhaseFits plan after tool_phase
  still (SettingUp setup tries) eq stay = setup_stay plan before after stay setup (setup_fits setup tries eq)
  still (Migrating work) eq stay = work_stay plan before after stay work.cutover.phase work.cutover.hold work.cutover.renamer_waits (work_fits work eq)

  back : (b : Bool) (tool_phase : ToolPhase) → New b tool_phase → New true (stopped tool_phase)
  unfolding reverted
  back b (SettingUp setup tries) fits = fits
  back b (Migrating work) fits = ended_fits plan after work.cutover.hold work.cutover.renamer_waits work.cutover.phase fits

  drain : (b : Bool) (work : Work) (tries : List ℕ) → New b (Migrating work) → New b (Migrating (record work { cutover = applier_turn work.applier.hint work.cutover; attempt_tries = tries }))
  unfolding applier_turn
  drain b work tries fits = drained_fits plan after work.cutover.hold work.cutover.renamer_waits work.cutover work.applier.hint work.cutover.phase fits

  -- THE INSPECTOR'S SESSION

  insp_stands : (tool_phase : ToolPhase) → now.tool.tool_phase ≡ tool_phase → ((has Insp).busy ≡ false) × ((has Insp).locked ≡ [])
  insp_stands (SettingUp setup tries) eq = ((setup_has setup tries eq).inspector.busy, (setup_has setup tries eq).inspector.locked)
  insp_stands (Migrating work) eq = ((work_has work eq).inspector.busy, (work_has work eq).inspector.locked)

  pub insp_free : (has Insp).waits ≡ None → has Insp ≡ free
  insp_free idle = same (has Insp) (insp_stands now.tool.tool_phase refl).0 (insp_stands now.tool.tool_phase refl).1 idle where
    same : (one : Standing) → one.busy ≡ false → one.locked ≡ [] → one.waits ≡ None → one ≡ free
    same one busy locked waits = λ i. record { busy = busy i; locked = locked i; waits = waits i }

  pub insp_rests : ((request : Request) → (has Insp).waits ≡ Some request → ⊥) → (has Insp).waits ≡ None
  insp_rests never = none_waits (has Insp).waits never

  pub insp_unlocked : entry.actor ≡ Insp → (has entry.actor).locked ≡ []
  insp_unlocked same = ap (λ (a : Actor). (has a).locked) same ∙ (insp_stands now.tool.tool_phase refl).1

  -- what it waits with, in each phase
  pub insp_waits : (tool_phase : ToolPhase) → now.tool.tool_phase ≡ tool_phase → WaitsFor plan (has Insp).waits tool_phase
  insp_waits tool_phase eq = subst (WaitsFor plan (has Insp).waits) eq is.waits

  pub setup_rests : (setup : Setup) (tries : List ℕ) → now.tool.tool_phase ≡ SettingUp setup tries → (request : Request) → (has Insp).waits ≡ Some request → ⊥
  setup_rests setup tries eq = insp_waits (SettingUp setup tries) eq

  -- it calls, where it can't wait
  insp_calls : (P : Type 0) → ((request : Request) → (has Insp).waits ≡ Some request → ⊥) → Asking plan journal Insp entry.asked → ((request : Request) → entry.asked ≡ Call request → tool_call plan now.server journal now.tool now.tool.tool_phase Insp ≡ Some request → P) → P
  insp_calls P never (calls_so request asks idle call) then = then request asks call
  insp_calls P never (polls_so request asks some) then = absurd (never request some)

  pub insp_given : entry.actor ≡ Insp → (entry.asked ≡ Cut → ⊥) → tool_asks plan journal (moment plan journal) Insp ≡ Some entry.asked
  unfolding given
  insp_given same uncut = subst (λ (a : Actor). given plan journal a ≡ Some entry.asked) same (gives_asked plan journal entry entry.asked run.followed.given refl uncut)

  pub insp_asking : entry.actor ≡ Insp → (entry.asked ≡ Cut → ⊥) → Asking plan journal Insp entry.asked
  insp_asking same uncut = asking plan journal Insp entry.asked together.server (insp_given same uncut)

  -- where it calls, nothing waits
  pub insp_idle : entry.actor ≡ Insp → (request : Request) → entry.asked ≡ Call request → (has Insp).waits ≡ None
  insp_idle same request asks = by (insp_asking same (λ cut. no (sym asks ∙ cut))) where
    no : Call request ≡ Cut → ⊥
    no both = cc

    no_poll : Poll ≡ Call request → ⊥
    no_poll both = cc

    by : Asking plan journal Insp entry.asked → (has Insp).waits ≡ None
    by (calls_so other called idle call) = idle
    by (polls_so other polled some) = absurd (no_poll (sym polled ∙ asks))

  insp_about : entry.actor ≡ Insp → (request : Request) → entry.asked ≡ Call request → IsAbout request (has entry.actor) entry.asked
  insp_about same request asks = about_own plan journal entry is.standing run Insp request same (is_called asks (insp_idle same request asks))

  -- polled at an attempt's end, the request that sets the counter lists no tables
  pub polled_ends : (cutover : CutOver) (number : ℕ) (request : Request) → IsAbout request (has entry.actor) entry.asked → request ≡ requests.SetCounter (ghost_name plan.table) number → cutovers.ending_after cutover Looking entry.answer ≡ Ending Looking
  polled_ends cutover number request about sets = at_side entry.side refl where
    by : (answer : Answer) → serves_to (requests.SetCounter (ghost_name plan.table) number) answer ≡ true → cutovers.ending_after cutover Looking answer ≡ Ending Looking
    by (answers.Tables listing) serves = absurd (false≢true serves)
    by answers.Lost serves = refl
    by (answers.TimedOut waited) serves = refl
    by answer serves = refl

    at_side : (side : Option Side) → entry.side ≡ side → cutovers.ending_after cutover Looking entry.answer ≡ Ending Looking
    at_side None none = by entry.answer (subst (λ (r : Request). serves_to r entry.answer ≡ true) sets (own_heard plan journal entry known served request about none))
    at_side (Some side) some = ap (λ (a : Answer). cutovers.ending_after cutover Looking a) (own_missed plan journal entry known served side some)

  operator_free : has Op ≡ free
  operator_free = ap (standing_in (state_at plan journal)) (together_owned plan journal kept.faithful kept.follows).owned.operator

  -- THE SETUP

  module _ (setup : Setup) (tries : List ℕ) (eq : now.tool.tool_phase ≡ SettingUp setup tries) (same : entry.actor ≡ Insp) where
    setup_away : (name : List ℕ) → is_tool_name plan.table name ≡ true → (a : Actor) → same_actor a Insp ≡ false → IsAway plan journal is.names a name
    setup_away name tool_name (Client c) differ = away_forbidden plan journal is.names (Client c) name tool_name
    setup_away name tool_name Op differ = away_free plan journal is.names Op name operator_free
    setup_away name tool_name Insp differ = absurd (true≢false differ)
    setup_away name tool_name Copy differ = away_free plan journal is.names Copy name (setup_has setup tries eq).copier
    setup_away name tool_name Apply differ = away_free plan journal is.names Apply name (setup_has setup tries eq).applier
    setup_away name tool_name Lock differ = away_free plan journal is.names Lock name (setup_has setup tries eq).locker
    setup_away name tool_name Ren differ = away_free plan journal is.names Ren name (setup_has setup tries eq).renamer

    setup_free : (called : is_command entry.asked ≡ false) (name : List ℕ) → is_tool_name plan.table name ≡ true → IsFreeName (opens entry (state_at plan journal)) entry.session name
    setup_free called name tool_name = free_name plan runs journal entry kept run is.names Insp same called name (setup_away name tool_name)

    -- what each call is answered, where its session isn't lost
    abbrev SetupAnswer : Setup → Answer → Type 0
    SetupAnswer Listing answer = (tables : List TableName) × (answer ≡ answers.Tables tables) × (tables ≡ tables_shown before)
    SetupAnswer (Clearing left) answer = answer ≡ ok
    SetupAnswer MakingLog answer = answer ≡ ok
    SetupAnswer MakingGhost answer = answer ≡ ok
    SetupAnswer Marking answer = (position : ℕ) × (answer ≡ answers.At position)
    SetupAnswer (Reaching position) answer = (range : Option KeyRange) × (answer ≡ answers.Ends range)
    SetupAnswer (Ready position range) answer = ⊥

    heard_fits : (request : Request) → entry.asked ≡ Call request → entry.side ≡ None → serves_to request entry.answer ≡ true
    heard_fits request asks no_side = own_heard plan journal entry known served request (insp_about same request asks) no_side

    -- the call, and what it is answered
    setup_answer : (one : Setup) → setup ≡ one → (request : Request) → entry.asked ≡ Call request → setup_call plan one ≡ Some request → entry.side ≡ None → SetupAnswer one entry.answer
    unfolding log_schema
    setup_answer Listing at request asks call no_side = some_request (λ (r : Request). entry.asked ≡ Call r → SetupAnswer Listing entry.answer) requests.ShowTables request call (λ asks. by asks entry.answer refl (heard_fits requests.ShowTables asks no_side)) asks where
      by : entry.asked ≡ Call requests.ShowTables → (answer : Answer) → entry.answer ≡ answer → serves_to requests.ShowTables answer ≡ true → SetupAnswer Listing entry.answer
      by asks (answers.Tables tables) lists fits = (tables, lists, listed_so plan journal entry is.standing run requests.ShowTables (insp_about same requests.ShowTables asks) tables lists)
      by asks answer lists fits = absurd cc
    setup_answer (Clearing left) at request asks call no_side =
        some_request (λ (r : Request). entry.asked ≡ Call r → SetupAnswer (Clearing left) entry.answer) (requests.Drop (first_name plan.table left)) request call
        (λ asks. drops_ok plan runs journal entry kept run is.names Insp same (ap is_command asks) (first_name plan.table left) asks no_side (insp_unlocked same) (setup_free (ap is_command asks) (first_name plan.table left) (first_is_tool plan.table left))
        (first_exists plan before left (subst (SetupFits plan before) at (setup_fits setup tries eq)))) asks
    setup_answer MakingLog at request asks call no_side =
        some_request (λ (r : Request). entry.asked ≡ Call r → SetupAnswer MakingLog entry.answer) (requests.Create (log_schema plan.table)) request call
        (λ asks. creates_ok plan runs journal entry kept run is.names Insp same (ap is_command asks) (log_schema plan.table) asks no_side (insp_unlocked same) (setup_free (ap is_command asks) (log_name plan.table) (log_is_tool plan.table))
        (subst (SetupFits plan before) at (setup_fits setup tries eq)).0) asks
    setup_answer MakingGhost at request asks call no_side =
        some_request (λ (r : Request). entry.asked ≡ Call r → SetupAnswer MakingGhost entry.answer) _ request call
        (λ asks. creates_ok plan runs journal entry kept run is.names Insp same (ap is_command asks) _ asks no_side (insp_unlocked same) (setup_free (ap is_command asks) (ghost_name plan.table) (ghost_is_tool plan.table))
        (subst (SetupFits plan before) at (setup_fits setup tries eq))) asks
    setup_answer Marking at request asks call no_side = some_request (λ (r : Request). entry.asked ≡ Call r → SetupAnswer Marking entry.answer) requests.LogEnd request call (λ asks. by entry.answer refl (heard_fits requests.LogEnd asks no_side)) asks where
      by : (answer : Answer) → entry.answer ≡ answer → serves_to requests.LogEnd answer ≡ true → SetupAnswer Marking entry.answer
      by (answers.At position) marks fits = (position, marks)
      by answer marks fits = absurd cc
    setup_answer (Reaching position) at request asks call no_side =
        some_request (λ (r : Request). entry.asked ≡ Call r → SetupAnswer (Reaching position) entry.answer) (requests.Ends plan.table) request call
        (λ asks. ends_ok plan runs journal entry kept run is.names Insp same (ap is_command asks) plan.table (old_schema plan) asks no_side (insp_unlocked same) spared tables.old) asks where
          tables : SetupTables plan before has setup
          tables = subst (ToolPhaseTables plan before has) eq is.standing.tabled.tables

          spared : IsSpared plan.table (state_at plan journal)
          spared = (all_untouched plan journal runs.fitting runs.stands kept.faithful kept.follows).spared (ap is_uncopied eq)
    setup_answer (Ready position range) at request asks call no_side = absurd cc

    -- so fewer turns are left
    setup_fewer : (one : Setup) → setup ≡ one → SetupAnswer one entry.answer → setup_left (setup_after plan.table one entry.answer) < setup_left one
    setup_fewer Listing at answer = subst (λ (a : Answer). setup_left (setup_after plan.table Listing a) < 8) (sym answer.1) (listed_fewer (listed plan.table answer.0))
    setup_fewer (Clearing left) at answer = subst (λ (a : Answer). setup_left (setup_after plan.table (Clearing left) a) < setup_left (Clearing left)) (sym answer) (dropped_fewer left (subst (SetupFits plan before) at (setup_fits setup tries eq)).some)
    setup_fewer MakingLog at answer = subst (λ (a : Answer). setup_left (setup_after plan.table MakingLog a) < 4) (sym answer) (omega arith)
    setup_fewer MakingGhost at answer = subst (λ (a : Answer). setup_left (setup_after plan.table MakingGhost a) < 3) (sym answer) (omega arith)
    setup_fewer Marking at answer = subst (λ (a : Answer). setup_left (setup_after plan.table Marking a) < 2) (sym answer.1) (omega arith)
    setup_fewer (Reaching position) at answer = subst (λ (a : Answer). setup_left (setup_after plan.table (Reaching position) a) < 1) (sym answer.1) (omega arith)
    setup_fewer (Ready position range) at answer = absurd answer

    stays : (name : List ℕ) (request : Request) → entry.asked ≡ Call request → keeps_table name request ≡ true → has_table name after ≡ has_table name before
    stays name request asks keeps = has_is name after ∙ ap is_some (schema_stays plan journal entry served (own_waiting plan journal entry known served) name request (insp_about same request asks) keeps) ∙ sym (has_is name before)

    gone : (name : List ℕ) → entry.asked ≡ Call (requests.Drop name) → entry.answer ≡ ok → has_table name after ≡ false
    gone name asks done =
        none_has name after
        (subst (λ (a : Answer). DropLeaves name before a after) done (heard_leaves (DropLeaves name before) before after entry.answer (not_lost entry.answer done) (drop_left plan journal entry known served name (insp_about same (requests.Drop name) asks))))

    -- what exists after a drop of the first
    dropped_first : (left : Leftovers) → entry.asked ≡ Call (requests.Drop (first_name plan.table left)) → entry.answer ≡ ok → IsLeft plan before left
        → (has_table (log_name plan.table) after ≡ (without_first left).log) × (has_table (ghost_name plan.table) after ≡ (without_first left).new_table) × (has_table (old_name plan.table) after ≡ (without_first left).old)
    dropped_first left asks done fits = by left.log left.new_table fits.log fits.ghost fits.old asks where
      log_not_old : bytes_eq (log_name plan.table) (old_name plan.table) ≡ false
      log_not_old = turned_bytes (old_name plan.table) (log_name plan.table) (old_not_log plan.table)

      by : (a b : Bool) → has_table (log_name plan.table) before ≡ a → has_table (ghost_name plan.table) before ≡ b → has_table (old_name plan.table) before ≡ left.old
          → entry.asked ≡ Call (requests.Drop (cond a (log_name plan.table) (cond b (ghost_name plan.table) (old_name plan.table))))
          → (has_table (log_name plan.table) after ≡ (cond {A = Leftovers} a (record { log = false; new_table = b; old = left.old }) (cond {A = Leftovers} b (record { log = a; new_table = false; old = left.old }) (record { log = a; new_table = b; old = false }))).log)
          × (has_table (ghost_name plan.table) after ≡ (cond {A = Leftovers} a (record { log = false; new_table = b; old = left.old }) (cond {A = Leftovers} b (record { log = a; new_table = false; old = left.old }) (record { log = a; new_table = b; old = false }))).new_table)
          × (has_table (old_name plan.table) after ≡ (cond {A = Leftovers} a (record { log = false; new_table = b; old = left.old }) (cond {A = Leftovers} b (record { log = a; new_table = false; old = left.old }) (record { log = a; new_table = b; old = false }))).old)
      by true b log ghost old asks =
          (gone (log_name plan.table) asks done, stays (ghost_name plan.table) (requests.Drop (log_name plan.table)) asks (ap not (ghost_not_log plan.table)) ∙ ghost, stays (old_name plan.table) (requests.Drop (log_name plan.table)) asks (ap not (old_not_log plan.table)) ∙ old)
      by false true log ghost old asks = (
        stays (log_name plan.table) (requests.Drop (ghost_name plan.table)) asks (ap not (turned_bytes (ghost_name plan.table) (log_name plan.table) (ghost_not_log plan.table))) ∙ log,
        gone (ghost_name plan.table) asks done,
        stays (old_name plan.table) (requests.Drop (ghost_name plan.table)) asks (ap not (turned_bytes (ghost_name plan.table) (old_name plan.table) (ghost_not_old plan.table))) ∙ old,
      )
      by false false log ghost old asks =
          (stays (log_name plan.table) (requests.Drop (old_name plan.table)) asks (ap not log_not_old) ∙ log, stays (ghost_name plan.table) (requests.Drop (old_name plan.table)) asks (ap not (ghost_not_old plan.table)) ∙ ghost, gone (old_name plan.table) asks done)

    -- what exists in the next step
    abbrev Next : Setup → Type 0
    Next one = (size : ℕ) → ToolPhaseFits plan after (tool_phase_of plan size one tries)

    cleared_next : (left : Leftovers) → SetupFits plan after (clearing left) → Next (clearing left)
    cleared_next left fits size = by (is_clear left) fits where
      by : (b : Bool) → SetupFits plan after (cond b MakingLog (Clearing left)) → ToolPhaseFits plan after (tool_phase_of plan size (cond b MakingLog (Clearing left)) tries)
      by true fits = fits
      by false fits = fits

    setup_next : (one : Setup) → setup ≡ one → (request : Request) → entry.asked ≡ Call request → setup_call plan one ≡ Some request → SetupAnswer one entry.answer → Next (setup_after plan.table one entry.answer)
    unfolding log_schema
    setup_next Listing at request asks call answer =
        subst (λ (a : Answer). Next (setup_after plan.table Listing a)) (sym answer.1)
        (cleared_next (listed plan.table answer.0)
        (clearing_fits plan after (listed plan.table answer.0) (lists (log_name plan.table)) (lists (ghost_name plan.table)) (lists (old_name plan.table)))) where
          stay : AllStay before after
          stay = some_request (λ (r : Request). entry.asked ≡ Call r → AllStay before after) requests.ShowTables request call (λ asks. quiet_stays plan journal entry is.standing run requests.ShowTables (insp_about same requests.ShowTables asks) refl) asks

          lists : (name : List ℕ) → has_table name after ≡ has_name name answer.0
          lists name = has_stays before after stay name ∙ has_is name before ∙ sym (listed_is name before) ∙ ap (has_name name) (sym answer.2)
    setup_next (Clearing left) at request asks call answer =
        subst (λ (a : Answer). Next (setup_after plan.table (Clearing left) a)) (sym answer)
        (cleared_next (without_first left)
        (some_request (λ (r : Request). entry.asked ≡ Call r → SetupFits plan after (clearing (without_first left))) (requests.Drop (first_name plan.table left)) request call
        (λ asks. let exist = dropped_first left asks answer (subst (SetupFits plan before) at (setup_fits setup tries eq)) in clearing_fits plan after (without_first left) exist.0 exist.1 exist.2) asks))
    setup_next MakingLog at request asks call answer =
        subst (λ (a : Answer). Next (setup_after plan.table MakingLog a)) (sym answer)
        (λ size. some_request (λ (r : Request). entry.asked ≡ Call r → has_table (ghost_name plan.table) after ≡ false) (requests.Create (log_schema plan.table)) request call
        (λ asks. stays (ghost_name plan.table) (requests.Create (log_schema plan.table)) asks (ap not (turned_bytes (ghost_name plan.table) (log_name plan.table) (ghost_not_log plan.table))) ∙ (subst (SetupFits plan before) at (setup_fits setup tries eq)).1) asks)
    setup_next MakingGhost at request asks call answer = subst (λ (a : Answer). Next (setup_after plan.table MakingGhost a)) (sym answer) (λ size. tt)
    setup_next Marking at request asks call answer = subst (λ (a : Answer). Next (setup_after plan.table Marking a)) (sym answer.1) (λ size. tt)
    setup_next (Reaching position) at request asks call answer = subst (λ (a : Answer). Next (setup_after plan.table (Reaching position) a)) (sym answer.1) (λ size. undone_fits plan after Resting Nothing false refl (λ on. tt))
    setup_next (Ready position range) at request asks call answer = absurd answer

    -- its call, while nothing is reverted
    setup_called : (P : Type 0) → Asking plan journal Insp entry.asked → ((request : Request) → entry.asked ≡ Call request → is_reverting now.tool.reason ≡ false → setup_call plan setup ≡ Some request → P) → P
    setup_called P asks then = insp_calls P (setup_rests setup tries eq) asks (λ request called call. by (is_reverting now.tool.reason) refl request called (ap (λ (c : ToolPhase). tool_call plan now.server journal now.tool c Insp) (sym eq) ∙ call)) where
      by : (b : Bool) → is_reverting now.tool.reason ≡ b → (request : Request) → entry.asked ≡ Call request → cond b None (setup_call plan setup) ≡ Some request → P
      by true reverting request called call = absurd cc
      by false going request called call = then request called going call

    heard_side : is_bad entry.answer ≡ false → entry.side ≡ None
    heard_side good = by entry.side refl where
      by : (side : Option Side) → entry.side ≡ side → entry.side ≡ None
      by None at = at
      by (Some side) at = absurd (true≢false (sym (ap is_bad (own_missed plan journal entry known served side at)) ∙ good))

    setup_turn : Asking plan journal Insp entry.asked → SetupKeeps plan New entry.answer tool setup tries
    setup_turn asks = setup_called (SetupKeeps plan New entry.answer tool setup tries) asks (λ request called going call. record {
      reverting = λ reverting. absurd (true≢false (sym reverting ∙ going));
      again = λ onward bad some. tt;
      goes = λ onward good. setup_next setup refl request called call (setup_answer setup refl request called call (heard_side good)) tool.operator.size;
    })

  -- AFTER THE SETUP

  module _ (work : Work) (eq : now.tool.tool_phase ≡ Migrating work) where
    stands : WorkStands journal (is_reverting now.tool.reason) has work
    stands = work_has work eq

    fits : WorkFits plan before work.cutover.phase work.cutover.hold work.cutover.renamer_waits
    fits = work_fits work eq

    at : StandsAt plan before (has Insp).waits work.cutover.phase work.cutover.hold work.cutover.renamer_waits work.cutover.is_asked
    at = work_at work eq

    locker_free : work.cutover.hold ≡ Nothing → has Lock ≡ free
    locker_free nothing = stands.locker ∙ ap (held work.cutover.table) nothing

    renamer_free : work.cutover.renamer_waits ≡ false → has Ren ≡ free
    renamer_free off = stands.renamer ∙ ap (renaming work.cutover.table) off

    old_forbidden : (bytes_eq (old_name plan.table) (log_name plan.table) || bytes_eq (old_name plan.table) (old_name plan.table)) ≡ true
    old_forbidden = or_right (bytes_eq (old_name plan.table) (log_name plan.table)) (bytes_eq (old_name plan.table) (old_name plan.table)) (same_bytes (old_name plan.table))

    -- nobody has the old table's name, where the locker and the renamer have nothing
    old_away : work.cutover.hold ≡ Nothing → work.cutover.renamer_waits ≡ false → (a : Actor) → same_actor a Insp ≡ false → IsAway plan journal is.names a (old_name plan.table)
    old_away nothing off (Client c) differ = away_forbidden plan journal is.names (Client c) (old_name plan.table) (old_is_tool plan.table)
    old_away nothing off Op differ = away_free plan journal is.names Op (old_name plan.table) operator_free
    old_away nothing off Insp differ = absurd (true≢false differ)
    old_away nothing off Copy differ = away_forbidden plan journal is.names Copy (old_name plan.table) old_forbidden
    old_away nothing off Apply differ = away_forbidden plan journal is.names Apply (old_name plan.table) old_forbidden
    old_away nothing off Lock differ = away_free plan journal is.names Lock (old_name plan.table) (locker_free nothing)
    old_away nothing off Ren differ = away_free plan journal is.names Ren (old_name plan.table) (renamer_free off)

    free_parts : (hold : Hold) (renames : Bool) → is_free hold renames ≡ true → (hold ≡ Nothing) × (renames ≡ false)
    free_parts Nothing false frees = (refl, refl)
    free_parts Nothing true frees = absurd (false≢true frees)
    free_parts hold renames frees = absurd (false≢true frees)

    module _ (same : entry.actor ≡ Insp) where
      log_free : (called : is_command entry.asked ≡ false) → IsFreeName (opens entry (state_at plan journal)) entry.session (log_name plan.table)
      log_free called = free_name plan runs journal entry kept run is.names Insp same called (log_name plan.table) (log_away plan runs journal entry kept run is.names)

      old_free : work.cutover.hold ≡ Nothing → work.cutover.renamer_waits ≡ false → (called : is_command entry.asked ≡ false) → IsFreeName (opens entry (state_at plan journal)) entry.session (old_name plan.table)
      old_free nothing off called = free_name plan runs journal entry kept run is.names Insp same called (old_name plan.table) (old_away nothing off)

      done_if : (request : Request) → entry.asked ≡ Call request → entry.side ≡ None → AllByRecursion (IsFreeName (opens entry (state_at plan journal)) entry.session) (names_in request) → IsDone entry.answer
      done_if request asks no_side all = at_once plan runs journal entry kept run is.names Insp same (ap is_command asks) request asks no_side all

      -- a drop at an attempt's end, and one after the RENAME
      drop_done : (left : Leftovers) → left.new_table ≡ false → work.cutover.hold ≡ Nothing → work.cutover.renamer_waits ≡ false → (called : is_command entry.asked ≡ false) → IsFreeName (opens entry (state_at plan journal)) entry.session (first_name plan.table left)
      drop_done left ghost nothing off called = end_is_old plan left ghost (IsFreeName (opens entry (state_at plan journal)) entry.session) (log_free called) (old_free nothing off called)

      own_first : (left : Leftovers) → first_name work.cutover.table left ≡ first_name plan.table left
      own_first left = ap (λ (t : List ℕ). first_name t left) (own_table work eq)

      -- each call is answered at once
      clears_done : (nothing : work.cutover.hold ≡ Nothing) (off : work.cutover.renamer_waits ≡ false) (cleared : Cleared) → ((left : Leftovers) → cleared ≡ Drops left → left.new_table ≡ false) → (request : Request) → entry.asked ≡ Call request → entry.side ≡ None → clears work.cutover.table cleared ≡ Some request → IsDone entry.answer
      clears_done nothing off Looking ghost request asks no_side call = some_request (λ (r : Request). entry.asked ≡ Call r → IsDone entry.answer) requests.ShowTables request call (λ asks. done_if requests.ShowTables asks no_side tt) asks
      clears_done nothing off (Drops left) ghost request asks no_side call =
          some_request (λ (r : Request). entry.asked ≡ Call r → IsDone entry.answer) (requests.Drop (first_name work.cutover.table left)) request call
          (λ asks. done_if (requests.Drop (first_name work.cutover.table left)) asks no_side
          (subst (IsFreeName (opens entry (state_at plan journal)) entry.session) (sym (own_first left)) (drop_done left (ghost left refl) nothing off (ap is_command asks)), tt)) asks

      finishing_ghost : (cleared : Cleared) → ClearingFits plan before cleared → (left : Leftovers) → cleared ≡ Drops left → left.new_table ≡ false
      finishing_ghost cleared fits left drops = (subst (ClearingFits plan before) drops fits).ghost

      ending_ghost : (cleared : Cleared) → LeftAt (Ending cleared) → (left : Leftovers) → cleared ≡ Drops left → left.new_table ≡ false
      ending_ghost cleared alone left drops = ap (λ (l : Leftovers). l.new_table) (subst (λ (c : Cleared). LeftAt (Ending c)) drops alone)

      -- each call but the one that sets the counter
      insp_done : (phase : Phase) → work.cutover.phase ≡ phase → is_setting phase ≡ false → (request : Request) → entry.asked ≡ Call request → entry.side ≡ None → attempts.inspector_call work.cutover phase ≡ Some request → IsDone entry.answer
      insp_done (Attempting Hinting) in_phase unset request asks no_side call =
          some_request (λ (r : Request). entry.asked ≡ Call r → IsDone entry.answer) (attempts.writes_hint work.cutover.table work.cutover.attempts) request call
          (λ asks. done_if (attempts.writes_hint work.cutover.table work.cutover.attempts) asks no_side
          (subst (λ (t : List ℕ). IsFreeName (opens entry (state_at plan journal)) entry.session (log_name t)) (sym (own_table work eq)) (log_free (ap is_command asks)), tt)) asks
      insp_done (Attempting (ReadingCounter drain)) in_phase unset request asks no_side call =
          some_request (λ (r : Request). entry.asked ≡ Call r → IsDone entry.answer) (requests.ShowCounter work.cutover.table) request call (λ asks. done_if (requests.ShowCounter work.cutover.table) asks no_side tt) asks
      insp_done (Attempting (SettingCounter number drain)) in_phase unset request asks no_side call = absurd (true≢false unset)
      insp_done (Attempting Showing) in_phase unset request asks no_side call = some_request (λ (r : Request). entry.asked ≡ Call r → IsDone entry.answer) requests.ShowWaiting request call (λ asks. done_if requests.ShowWaiting asks no_side tt) asks
      insp_done (Attempting stage) in_phase unset request asks no_side call = absurd cc
      insp_done (Ending cleared) in_phase unset request asks no_side call = by (is_free work.cutover.hold work.cutover.renamer_waits) refl call where
        by : (b : Bool) → is_free work.cutover.hold work.cutover.renamer_waits ≡ b → cond b (clears work.cutover.table cleared) None ≡ Some request → IsDone entry.answer
        by true frees call =
            let parts = free_parts work.cutover.hold work.cutover.renamer_waits frees in clears_done parts.0 parts.1 cleared (ending_ghost cleared (subst LeftAt in_phase at.left)) request asks no_side call
        by false held call = absurd cc
      insp_done (Finishing cleared) in_phase unset request asks no_side call =
          let parts = fits.done (ap is_done in_phase) in clears_done parts.0 parts.1 cleared (finishing_ghost cleared (subst (PhaseFits plan before) in_phase fits.left)) request asks no_side call
      insp_done Finished in_phase unset request asks no_side call = absurd cc
      insp_done Resting in_phase unset request asks no_side call = absurd cc

      -- a note's row is written at once
      note_done : (request : Request) → IsNote plan.table request → entry.asked ≡ Call request → entry.side ≡ None → IsDone entry.answer
      note_done request note asks no_side = log_at_once plan runs journal entry kept run is.names same request (ap names_in note.is) asks no_side

      -- it writes a note's row, or asks what the cut-over asks of it
      insp_next : (request : Request) → tool_call plan now.server journal now.tool now.tool.tool_phase Insp ≡ Some request → Inspects plan journal now.tool work request
      insp_next request call = inspects plan journal now.tool work request (ap (λ (c : ToolPhase). tool_call plan now.server journal now.tool c Insp) (sym eq) ∙ call)

      -- after the RENAME each drop is done, or the session is lost in it
      drops_so : (left : Leftovers) → work.cutover.phase ≡ Finishing (Drops left) → (request : Request) → entry.asked ≡ Call request → attempts.inspector_call work.cutover (Finishing (Drops left)) ≡ Some request
          → (entry.asked ≡ Call (requests.Drop (first_name plan.table left))) × ((entry.side ≡ None → entry.answer ≡ ok))
      drops_so left in_phase request asks call =
          some_request (λ (r : Request). entry.asked ≡ Call r → (entry.asked ≡ Call (requests.Drop (first_name plan.table left))) × (entry.side ≡ None → entry.answer ≡ ok)) (requests.Drop (first_name work.cutover.table left)) request call
          (λ asks. let one : entry.asked ≡ Call (requests.Drop (first_name plan.table left)) = asks ∙ ap (λ (n : List ℕ). Call (requests.Drop n)) (own_first left) in (
            one,
            λ no_side. drops_ok plan runs journal entry kept run is.names Insp same (ap is_command one) (first_name plan.table left) one no_side (insp_unlocked same)
                (let parts = fits.done (ap is_done in_phase) in drop_done left left_fits.ghost parts.0 parts.1 (ap is_command one)) (end_exists plan before left left_fits),
          )) asks where
            left_fits : IsLeftAtEnd plan before left
            left_fits = subst (PhaseFits plan before) in_phase fits.left

      -- WHAT THE CUT-OVER BECOMES

      abbrev Becomes : Phase → Type 0
      Becomes phase = WorkFits plan after phase work.cutover.hold work.cutover.renamer_waits

      undone : (phase : Phase) → is_done phase ≡ false → Becomes phase
      undone phase off = undone_fits plan after phase work.cutover.hold work.cutover.renamer_waits off fits.back

      attempt_becomes : (b : Bool) (stage : _) → Becomes (cond b (Ending Looking) (Attempting stage))
      attempt_becomes true stage = undone (Ending Looking) refl
      attempt_becomes false stage = undone (Attempting stage) refl

      seen_becomes : (listing : List TableName) → AllStay before after → listing ≡ tables_shown before → work.cutover.hold ≡ Nothing → work.cutover.renamer_waits ≡ false → Becomes (seen work.cutover listing)
      seen_becomes listing stay lists nothing off = by (not (has_name (ghost_name work.cutover.table) listing)) (has_sentry work.cutover.table listing) where
        by : (a b : Bool) → Becomes (cond a (finishing (left_at_end work.cutover listing)) (cond b (Ending (Drops sentry_alone)) Resting))
        by true b = lists_end plan before after work.cutover listing work.cutover.hold work.cutover.renamer_waits (own_table work eq) stay lists nothing off
        by false true = undone (Ending (Drops sentry_alone)) refl
        by false false = undone Resting refl

      -- it looks at the tables
      looks : (cleared : Cleared) (request : Request) → cleared ≡ Looking → entry.asked ≡ Call request → clears work.cutover.table cleared ≡ Some request → (P : Type 0) → (entry.asked ≡ Call requests.ShowTables → AllStay before after → ((listing : List TableName) → entry.answer ≡ answers.Tables listing → listing ≡ tables_shown before) → P) → P
      looks cleared request looking asks call P then =
          some_request (λ (r : Request). entry.asked ≡ Call r → P) requests.ShowTables request (ap (clears work.cutover.table) (sym looking) ∙ call)
          (λ asks. then asks (quiet_stays plan journal entry is.standing run requests.ShowTables (insp_about same requests.ShowTables asks) refl) (λ listing lists. listed_so plan journal entry is.standing run requests.ShowTables (insp_about same requests.ShowTables asks) listing lists)) asks

      ending_becomes : (cleared : Cleared) (request : Request) → entry.asked ≡ Call request → work.cutover.hold ≡ Nothing → work.cutover.renamer_waits ≡ false → clears work.cutover.table cleared ≡ Some request → (answer : Answer) → entry.answer ≡ answer → Becomes (cutovers.ending_after work.cutover cleared answer)
      ending_becomes cleared request asks nothing off call answers.Lost heard = undone (Ending Looking) refl
      ending_becomes cleared request asks nothing off call (answers.TimedOut waited) heard = undone (Ending Looking) refl
      ending_becomes Looking request asks nothing off call (answers.Tables listing) heard =
          looks Looking request refl asks call (Becomes (seen work.cutover listing)) (λ called stay lists. seen_becomes listing stay (lists listing heard) nothing off)
      ending_becomes Looking request asks nothing off call answer heard = undone (Ending Looking) refl
      ending_becomes (Drops left) request asks nothing off call (answers.Ok count) heard = undone Resting refl
      ending_becomes (Drops left) request asks nothing off call answer heard = undone (Ending (Drops left)) refl

      done_still : is_done work.cutover.phase ≡ true → (cleared : Cleared) → ClearingFits plan after cleared → Becomes (Finishing cleared)
      done_still done cleared left = record { done = λ on. fits.done done; back = fits.back; left = left }

      finish_looking : is_done work.cutover.phase ≡ true → (request : Request) → entry.asked ≡ Call request → clears work.cutover.table Looking ≡ Some request → (answer : Answer) → entry.answer ≡ answer → Becomes (cutovers.finishing_after work.cutover Looking answer)
      finish_looking done request asks call answers.Lost heard = done_still done Looking tt
      finish_looking done request asks call (answers.TimedOut waited) heard = done_still done Looking tt
      finish_looking done request asks call (answers.Tables listing) heard =
          let parts = fits.done done in
          looks Looking request refl asks call (Becomes (finishing (left_at_end work.cutover listing)))
          (λ called stay lists. lists_end plan before after work.cutover listing work.cutover.hold work.cutover.renamer_waits (own_table work eq) stay (lists listing heard) parts.0 parts.1)
      finish_looking done request asks call answer heard = done_still done Looking tt

      -- a drop that is done
      kept_name : (name other : List ℕ) → entry.asked ≡ Call (requests.Drop other) → bytes_eq name other ≡ false → has_table name after ≡ has_table name before
      kept_name name other asks differ =
          has_is name after ∙ ap is_some (schema_stays plan journal entry served (own_waiting plan journal entry known served) name (requests.Drop other) (insp_about same (requests.Drop other) asks) (ap not differ)) ∙ sym (has_is name before)

      dropped_end : (left : Leftovers) → is_done work.cutover.phase ≡ true → IsLeftAtEnd plan before left → entry.asked ≡ Call (requests.Drop (first_name plan.table left)) → Becomes (finishing (without_first left))
      dropped_end left done left_fits asks = by left.log left.new_table left.old left_fits.log left_fits.ghost left_fits.old asks where
        parts : (work.cutover.hold ≡ Nothing) × (work.cutover.renamer_waits ≡ false)
        parts = fits.done done

        by : (a b c : Bool) → (a ≡ true → has_table (log_name plan.table) before ≡ true) → b ≡ false → (c ≡ true → has_table (old_name plan.table) before ≡ true)
            → entry.asked ≡ Call (requests.Drop (cond a (log_name plan.table) (cond b (ghost_name plan.table) (old_name plan.table))))
            → Becomes (finishing (cond {A = Leftovers} a (record { log = false; new_table = b; old = c }) (cond {A = Leftovers} b (record { log = a; new_table = false; old = c }) (record { log = a; new_table = b; old = false }))))
        by true b c log ghost old asks =
            ends_with plan after (record { log = false; new_table = b; old = c }) work.cutover.hold work.cutover.renamer_waits parts.0 parts.1 (λ on. absurd (false≢true on)) ghost (λ on. kept_name (old_name plan.table) (log_name plan.table) asks (old_not_log plan.table) ∙ old on)
        by false true c log ghost old asks = absurd (true≢false ghost)
        by false false c log ghost old asks =
            ends_with plan after (record { log = false; new_table = false; old = false }) work.cutover.hold work.cutover.renamer_waits parts.0 parts.1 (λ on. absurd (false≢true on)) refl (λ on. absurd (false≢true on))

      finish_drops : (left : Leftovers) → work.cutover.phase ≡ Finishing (Drops left) → (request : Request) → entry.asked ≡ Call request → clears work.cutover.table (Drops left) ≡ Some request → Becomes (cutovers.finishing_after work.cutover (Drops left) entry.answer)
      finish_drops left in_phase request asks call = by entry.side refl where
        drops : (entry.asked ≡ Call (requests.Drop (first_name plan.table left))) × ((entry.side ≡ None → entry.answer ≡ ok))
        drops = drops_so left in_phase request asks call

        by : (side : Option Side) → entry.side ≡ side → Becomes (cutovers.finishing_after work.cutover (Drops left) entry.answer)
        by None no_side = subst (λ (a : Answer). Becomes (cutovers.finishing_after work.cutover (Drops left) a)) (sym (drops.1 no_side)) (dropped_end left (ap is_done in_phase) (subst (PhaseFits plan before) in_phase fits.left) drops.0)
        by (Some side) at_side = subst (λ (a : Answer). Becomes (cutovers.finishing_after work.cutover (Drops left) a)) (sym (own_missed plan journal entry known served side at_side)) (done_still (ap is_done in_phase) Looking tt)

      insp_becomes : (phase : Phase) → work.cutover.phase ≡ phase → (request : Request) → entry.asked ≡ Call request → attempts.inspector_call work.cutover phase ≡ Some request → Becomes (inspector_phase work.cutover phase entry.answer)
      insp_becomes Resting in_phase request asks call = absurd cc
      insp_becomes (Attempting stage) in_phase request asks call = attempt_becomes (is_bad entry.answer) (cutovers.inspector_stage work.cutover.has_counter stage entry.answer)
      insp_becomes (Ending cleared) in_phase request asks call = by (is_free work.cutover.hold work.cutover.renamer_waits) refl call where
        by : (b : Bool) → is_free work.cutover.hold work.cutover.renamer_waits ≡ b → cond b (clears work.cutover.table cleared) None ≡ Some request → Becomes (cutovers.ending_after work.cutover cleared entry.answer)
        by true frees call = let parts = free_parts work.cutover.hold work.cutover.renamer_waits frees in ending_becomes cleared request asks parts.0 parts.1 call entry.answer refl
        by false held call = absurd cc
      insp_becomes (Finishing Looking) in_phase request asks call = finish_looking (ap is_done in_phase) request asks call entry.answer refl
      insp_becomes (Finishing (Drops left)) in_phase request asks call = finish_drops left in_phase request asks call
      insp_becomes Finished in_phase request asks call = absurd cc

      -- the request that sets the counter is polled
      polled_becomes : (phase : Phase) (request : Request) → IsAbout request (has entry.actor) entry.asked → SetsCounter plan phase request → Becomes (inspector_phase work.cutover phase entry.answer)
      polled_becomes (Attempting (SettingCounter number drain)) request about sets = attempt_becomes (is_bad entry.answer) (cutovers.inspector_stage work.cutover.has_counter (SettingCounter number drain) entry.answer)
      polled_becomes (Ending Looking) request about sets = subst Becomes (sym (polled_ends work.cutover sets.0 request about sets.1)) (undone (Ending Looking) refl)
      polled_becomes phase request about sets = absurd sets

      insp_turn : Asking plan journal Insp entry.asked → (tries : List ℕ) → New (is_reverting now.tool.reason) (Migrating (record work { cutover = cutovers.took Inspector work.cutover entry.answer; attempt_tries = tries }))
      unfolding cutovers.took attempts.next
      insp_turn (calls_so request called idle call) tries = by (insp_next request call) where
        by : Inspects plan journal now.tool work request → Becomes (inspector_phase work.cutover work.cutover.phase entry.answer)
        by (cuts_so off next) = insp_becomes work.cutover.phase refl request called next
        by (notes_so note resting going next) = subst (λ (p : Phase). Becomes (inspector_phase work.cutover p entry.answer)) (sym resting) (undone Resting refl)
      insp_turn (polls_so request polled some) tries =
          polled_becomes work.cutover.phase request (about_own plan journal entry is.standing run Insp request same (is_polled polled some)) (insp_waits (Migrating work) eq request some).0

      -- *Its session is lost* between calls, while it waits
      insp_lost : AllStay before after → (tries : List ℕ) → New (is_reverting now.tool.reason) (Migrating (record work { cutover = cutovers.took Inspector work.cutover answers.Lost; attempt_tries = tries }))
      unfolding cutovers.took
      insp_lost stay tries = by work.cutover.phase refl where
        by : (one : Phase) → work.cutover.phase ≡ one → Becomes (inspector_phase work.cutover one answers.Lost)
        by Resting at_phase = undone Resting refl
        by (Attempting stage) at_phase = undone (Ending Looking) refl
        by (Ending cleared) at_phase = undone (Ending Looking) refl
        by (Finishing cleared) at_phase = done_still (ap is_done at_phase) Looking tt
        by Finished at_phase = work_stay plan before after stay Finished work.cutover.hold work.cutover.renamer_waits (subst (λ (p : Phase). WorkFits plan before p work.cutover.hold work.cutover.renamer_waits) at_phase fits)

    -- THE LOCKER

    lock_fits : (request : Request) → LockerAsks work.cutover.table work.cutover.hold work.cutover.phase request → (answer : Answer) → WorkFits plan after (locker_phase work.cutover.phase answer) (hold_after work.cutover.hold work.cutover.phase answer) work.cutover.renamer_waits
    lock_fits request asks answer = by work.cutover.hold work.cutover.phase asks fits.done fits.back at.renamer where
      no_guard : WaitsToGuard ≡ Nothing → ⊥
      no_guard same = cc

      no_lock : WaitsToLock ≡ Nothing → ⊥
      no_lock same = cc

      never_done : (phase : Phase) → (is_done phase ≡ true → ⊥) → is_done phase ≡ false
      never_done phase never = one (is_done phase) refl where
        one : (b : Bool) → is_done phase ≡ b → is_done phase ≡ false
        one true done = absurd (never done)
        one false off = off

      by : (hold : Hold) (phase : Phase) → LockerAsks work.cutover.table hold phase request → (is_done phase ≡ true → (hold ≡ Nothing) × (work.cutover.renamer_waits ≡ false)) → (work.cutover.renamer_waits ≡ true → RestsOrLocks hold) → RenamerAt phase work.cutover.renamer_waits
          → WorkFits plan after (locker_phase phase answer) (hold_after hold phase answer) work.cutover.renamer_waits
      by Nothing Resting asks done back renamer = undone_fits plan after (begun answer) (hold_of_guard answer) work.cutover.renamer_waits (begun_undone answer) (λ on. absurd (both_ways work.cutover.renamer_waits renamer on))
      by Nothing (Attempting Locking) asks done back renamer =
          undone_fits plan after (locker_phase (Attempting Locking) answer) (hold_of_lock answer) work.cutover.renamer_waits (locker_undone (Attempting Locking) answer refl) (λ on. absurd (both_ways work.cutover.renamer_waits renamer on))
      by Nothing phase asks done back renamer = absurd asks
      by WaitsToGuard phase asks done back renamer =
          undone_fits plan after (locker_phase phase answer) (hold_of_guard answer) work.cutover.renamer_waits (locker_undone phase answer (never_done phase (λ on. no_guard (done on).0))) (λ on. absurd (back on))
      by WaitsToLock phase asks done back renamer =
          undone_fits plan after (locker_phase phase answer) (hold_of_lock answer) work.cutover.renamer_waits (locker_undone phase answer (never_done phase (λ on. no_lock (done on).0))) (λ on. absurd (back on))
      by Locks (Attempting Dropping) asks done back renamer = undone_fits plan after (locker_phase (Attempting Dropping) answer) (cutovers.hold_under (Attempting Dropping) answer) work.cutover.renamer_waits (locker_undone (Attempting Dropping) answer refl) (λ on. under_rests (Attempting Dropping) answer)
      by Locks (Attempting Unlocking) asks done back renamer = undone_fits plan after (locker_phase (Attempting Unlocking) answer) (cutovers.hold_under (Attempting Unlocking) answer) work.cutover.renamer_waits (locker_undone (Attempting Unlocking) answer refl) (λ on. under_rests (Attempting Unlocking) answer)
      by Locks (Ending cleared) asks done back renamer = undone_fits plan after (Ending cleared) (cutovers.hold_under (Ending cleared) answer) work.cutover.renamer_waits refl (λ on. under_rests (Ending cleared) answer)
      by Locks phase asks done back renamer = absurd asks

    lock_turn : Asking plan journal Lock entry.asked → (tries : List ℕ) → New (is_reverting now.tool.reason) (Migrating (record work { cutover = cutovers.took Locker work.cutover entry.answer; attempt_tries = tries }))
    unfolding cutovers.took
    lock_turn asks tries =
        lock_about plan journal entry together run work eq stands asks (WorkFits plan after (locker_phase work.cutover.phase entry.answer) (hold_after work.cutover.hold work.cutover.phase entry.answer) work.cutover.renamer_waits)
        (λ request about kind. lock_fits request kind entry.answer)

    lock_lost : AllStay before after → (tries : List ℕ) → New (is_reverting now.tool.reason) (Migrating (record work { cutover = cutovers.took Locker work.cutover answers.Lost; attempt_tries = tries }))
    unfolding cutovers.took
    lock_lost stay tries = record { done = λ done. (lost_nothing work.cutover.hold work.cutover.phase, (fits.done (was work.cutover.phase done)).1); back = λ on. rw (lost_nothing work.cutover.hold work.cutover.phase) tt; left = left_so work.cutover.phase fits.left } where
      was : (phase : Phase) → is_done (locker_phase phase answers.Lost) ≡ true → is_done phase ≡ true
      was Resting done = absurd (false≢true done)
      was (Attempting stage) done = absurd (false≢true done)
      was (Ending cleared) done = done
      was (Finishing cleared) done = done
      was Finished done = done

      left_so : (phase : Phase) → PhaseFits plan before phase → PhaseFits plan after (locker_phase phase answers.Lost)
      left_so Resting left = tt
      left_so (Attempting stage) left = tt
      left_so (Ending cleared) left = tt
      left_so (Finishing cleared) left = phase_stay plan before after stay (Finishing cleared) left
      left_so Finished left = tt

    -- THE RENAMER

    ren_undone : AsksAt work.cutover.phase work.cutover.renamer_waits → is_done work.cutover.phase ≡ false
    ren_undone (inl drained_so) = ap is_done drained_so
    ren_undone (inr on) = one (is_done work.cutover.phase) refl where
      one : (b : Bool) → is_done work.cutover.phase ≡ b → is_done work.cutover.phase ≡ false
      one true done = absurd (true≢false (sym on ∙ (fits.done done).1))
      one false off = off

    ren_rests : AsksAt work.cutover.phase work.cutover.renamer_waits → RestsOrLocks work.cutover.hold
    ren_rests (inl drained_so) = subst RestsOrLocks (sym (subst (λ (p : Phase). PhaseHolds p work.cutover.hold) drained_so stands.phase)) tt
    ren_rests (inr on) = fits.back on

    -- where it is done nobody has locked the table
    ren_fits : AsksAt work.cutover.phase work.cutover.renamer_waits → (answer : Answer) → ((count : ℕ) → answer ≡ answers.Ok count → work.cutover.hold ≡ Locks → ⊥) → WorkFits plan after (renamer_phase work.cutover.phase answer) work.cutover.hold (is_wait answer)
    ren_fits asks (answers.Ok count) never = record { done = λ done. (nothing work.cutover.hold (ren_rests asks) (never count refl), refl); back = λ on. absurd (false≢true on); left = tt } where
      nothing : (hold : Hold) → RestsOrLocks hold → (hold ≡ Locks → ⊥) → hold ≡ Nothing
      nothing Nothing rests_so off = refl
      nothing Locks rests_so off = absurd (off refl)
      nothing WaitsToGuard rests_so off = absurd rests_so
      nothing WaitsToLock rests_so off = absurd rests_so
    ren_fits asks (answers.Waits by) never = undone_fits plan after (waits_phase work.cutover.phase) work.cutover.hold true (waits_undone work.cutover.phase (ren_undone asks)) (λ on. ren_rests asks)
    ren_fits asks answers.Lost never = undone_fits plan after (failed work.cutover.phase) work.cutover.hold false (failed_undone work.cutover.phase (ren_undone asks)) (λ on. absurd (false≢true on))
    ren_fits asks (answers.TimedOut waited) never = undone_fits plan after (failed work.cutover.phase) work.cutover.hold false (failed_undone work.cutover.phase (ren_undone asks)) (λ on. absurd (false≢true on))
    ren_fits asks answer never = undone_fits plan after work.cutover.phase work.cutover.hold false (ren_undone asks) (λ on. absurd (false≢true on))

    module _ (same : entry.actor ≡ Ren) where
      abbrev open_now : State
      open_now = opens entry (state_at plan journal)

      held_now : held_at open_now ≡ held_at (state_at plan journal)
      held_now = held_opened (is_command entry.asked) (not (is_client entry.actor)) entry.session (state_at plan journal)

      about_here : IsAbout (exchange plan.table) (has entry.actor) entry.asked → about open_now entry.session entry.asked ≡ Some (exchange plan.table)
      about_here (is_called asks none) = ap (about open_now entry.session) asks
      about_here (is_polled asks some) =
          ap (about open_now entry.session) asks ∙ ap (λ (w : List Waiting). request_of (waiting_of entry.session w)) (opened_waits (is_command entry.asked) (not (is_client entry.actor)) entry.session (state_at plan journal))
          ∙ own_waiting plan journal entry known served (ap is_command asks) ∙ some

      about_uncut : IsAbout (exchange plan.table) (has entry.actor) entry.asked → entry.asked ≡ Cut → ⊥
      about_uncut (is_called asks none) cut = no (sym asks ∙ cut) where
        no : Call (exchange plan.table) ≡ Cut → ⊥
        no both = cc
      about_uncut (is_polled asks some) cut = no (sym asks ∙ cut) where
        no : Poll ≡ Cut → ⊥
        no both = cc

      about_called : IsAbout (exchange plan.table) (has entry.actor) entry.asked → is_command entry.asked ≡ false
      about_called (is_called asks none) = ap is_command asks
      about_called (is_polled asks some) = ap is_command asks

      own_unlocked : is_command entry.asked ≡ false → (face_of (state_at plan journal).sessions entry.session).locked ≡ []
      own_unlocked called = by (placed journal entry served.seated) where
        by : Placed journal entry → (face_of (state_at plan journal).sessions entry.session).locked ≡ []
        by (Commands command zero) = absurd (true≢false (sym command ∙ called))
        by (GoesOn calls live) = ap (λ (o : Option ℕ). (standing_in (state_at plan journal) o).locked) (sym live) ∙ ap (λ (a : Actor). (has a).locked) same ∙ renamer_unlocked plan journal entry is.standing run work eq
        by (Begins calls uncut live above) = ap (λ (o : Option Session). (face_in o).locked) (known.fresh entry.session above)

      -- while the locker has locked the table the RENAME isn't done
      locked_never : IsAbout (exchange plan.table) (has entry.actor) entry.asked → (count : ℕ) → entry.answer ≡ answers.Ok count → work.cutover.hold ≡ Locks → ⊥
      locked_never about_it count done locks = at_live (live_session journal Lock) refl where
        no_side : entry.side ≡ None
        no_side = by entry.side refl where
          by : (side : Option Side) → entry.side ≡ side → entry.side ≡ None
          by None none = none
          by (Some side) some = absurd (no (sym (own_missed plan journal entry known served side some) ∙ done)) where
            no : answers.Lost ≡ answers.Ok count → ⊥
            no both = cc

        prompt : IsPrompt (serves open_now entry.session entry.asked).answer
        prompt = subst IsPrompt (sym (own_given plan journal entry known served no_side ∙ done)) tt

        alone : blocker_of_name (held_at (state_at plan journal)) (waiters open_now.waiting) entry.session plan.table true ≡ None
        alone =
            granted_each (held_at (state_at plan journal)) (waiters open_now.waiting) entry.session true _ plan.table
            (subst (λ (h : List HeldName). blocker_of_names h (waiters open_now.waiting) entry.session true (names_in (exchange plan.table)) ≡ None) held_now
            (names_granted open_now entry.session entry.asked (exchange plan.table) (about_here about_it) (about_uncut about_it) prompt))

        lacks : holds (held_at (state_at plan journal)) entry.session plan.table true ≡ false
        lacks = unlocked_holds entry.session (state_at plan journal).sessions plan.table is.standing.both.living.apart (own_unlocked (about_called about_it))

        locked_both : (has Lock).locked ≡ both_names plan.table
        locked_both = ap (λ (s : Standing). s.locked) (stands.locker ∙ ap (held work.cutover.table) locks) ∙ ap both_names (own_table work eq)

        at_live : (live : Option ℕ) → live_session journal Lock ≡ live → ⊥
        at_live None none = no (sym (ap (λ (o : Option ℕ). (standing_in (state_at plan journal) o).locked) none) ∙ locked_both) where
          no : [] ≡ both_names plan.table → ⊥
          no both = cc
        at_live (Some l) lives =
            true≢false (sym (weaker (held_at (state_at plan journal)) l plan.table (locked_holds l (state_at plan journal).sessions plan.table among))
            ∙ granted_alone (held_at (state_at plan journal)) (waiters open_now.waiting) entry.session l plan.table apart lacks alone) where
              among : list_any (bytes_eq plan.table) (face_of (state_at plan journal).sessions l).locked ≡ true
              among =
                  ap (list_any (bytes_eq plan.table)) (ap (λ (o : Option ℕ). (standing_in (state_at plan journal) o).locked) (sym lives) ∙ locked_both)
                  ∙ or_left (bytes_eq plan.table plan.table) _ (same_bytes plan.table)

              differ : (l == entry.session) ≡ false
              differ = others_differ journal entry known.sessions (placed journal entry served.seated) Lock l (ap (λ (a : Actor). same_actor a Lock) same) lives

              itself : (n : ℕ) → (n == n) ≡ true
              itself n = grind (arith, nat_tests)

              apart : l ≢ entry.session
              apart one = true≢false (sym (itself entry.session) ∙ ap (λ (n : ℕ). n == entry.session) (sym one) ∙ differ)

      ren_turn : Asking plan journal Ren entry.asked → (tries : List ℕ) → New (is_reverting now.tool.reason) (Migrating (record work { cutover = cutovers.took Renamer work.cutover entry.answer; attempt_tries = tries }))
      unfolding cutovers.took
      ren_turn asks tries =
          ren_about plan journal entry together run work eq stands asks (WorkFits plan after (renamer_phase work.cutover.phase entry.answer) work.cutover.hold (is_wait entry.answer))
          (λ request about_it kind. ren_fits (asks_at plan journal entry is.standing run work eq asks) entry.answer
          (λ count done locks. locked_never (about_own plan journal entry is.standing run Ren (exchange plan.table) same (subst (λ (r : Request). IsAbout r (has Ren) entry.asked) (kind ∙ ap exchange (own_table work eq)) about_it)) count done locks))

    ren_lost : AllStay before after → (tries : List ℕ) → New (is_reverting now.tool.reason) (Migrating (record work { cutover = cutovers.took Renamer work.cutover answers.Lost; attempt_tries = tries }))
    unfolding cutovers.took
    ren_lost stay tries = record { done = λ done. ((fits.done (was work.cutover.phase done)).0, refl); back = λ on. absurd (false≢true on); left = left_so work.cutover.phase fits.left } where
      was : (phase : Phase) → is_done (failed phase) ≡ true → is_done phase ≡ true
      was Resting done = absurd (false≢true done)
      was (Attempting stage) done = absurd (false≢true done)
      was (Ending cleared) done = done
      was (Finishing cleared) done = done
      was Finished done = done

      left_so : (phase : Phase) → PhaseFits plan before phase → PhaseFits plan after (failed phase)
      left_so Resting left = tt
      left_so (Attempting stage) left = tt
      left_so (Ending cleared) left = tt
      left_so (Finishing cleared) left = phase_stay plan before after stay (Finishing cleared) left
      left_so Finished left = tt

  -- EVERY ACTOR

  unfit_so : (work : Work) → New false (Migrating work) → UnfitKeeps New work
  unfit_so work one = record { renamed = λ renamed. one; reverts = back false (Migrating work) one }

  copy_so : (answer : Answer) (work : Work) → New false (Migrating work) → CopyKeeps New answer tool work
  copy_so answer work one = record { reverting = λ reverting. one; unfit = λ going place number unfit. unfit_so work one; took = λ going fits tries. one }

  apply_so : (answer : Answer) (work : Work) → New false (Migrating work) → ApplyKeeps New answer tool work
  apply_so answer work one = record { reverting = λ reverting. one; unfit = λ going place number unfit. unfit_so work one; took = λ going fits tries. one }

  quiet_so : (actor : Actor) → entry.actor ≡ actor → may_define actor ≡ false → given plan journal actor ≡ Some entry.asked → (entry.asked ≡ Cut → ⊥) → ((word : OperatorWord) → entry.asked ≡ Command word → ⊥) → (tool_phase : ToolPhase) → now.tool.tool_phase ≡ tool_phase → ToolPhaseFits plan after tool_phase
  quiet_so actor same none gives called commanded tool_phase eq = still tool_phase eq (quiet_stay plan journal entry is.standing.tabled.all is.standing.tabled.quiet run actor same none gives called commanded)

  none_asked : (actor : Actor) (tool_phase : ToolPhase) → now.tool.tool_phase ≡ tool_phase → has actor ≡ free → ((request : Request) → tool_call plan now.server journal now.tool tool_phase actor ≡ Some request → ⊥) → Asking plan journal actor entry.asked → ⊥
  none_asked actor tool_phase eq none no_call asks = no_asking plan journal entry is.standing run actor none (λ request call. no_call request (ap (λ (c : ToolPhase). tool_call plan now.server journal now.tool c actor) (sym eq) ∙ call)) asks

  heard_so : (actor : Actor) → entry.actor ≡ actor → given plan journal actor ≡ Some entry.asked → (entry.asked ≡ Cut → ⊥) → ((word : OperatorWord) → entry.asked ≡ Command word → ⊥) → (tool_phase : ToolPhase) → now.tool.tool_phase ≡ tool_phase → AnswerKeeps plan New entry.answer tool actor tool_phase
  unfolding given
  heard_so Insp same gives called commanded (SettingUp setup tries) eq = setup_turn setup tries eq same (asking plan journal Insp entry.asked together.server gives)
  heard_so Insp same gives called commanded (Migrating work) eq = insp_turn work eq same (asking plan journal Insp entry.asked together.server gives)
  heard_so Copy same gives called commanded (SettingUp setup tries) eq = quiet_so Copy same refl gives called commanded (SettingUp setup tries) eq
  heard_so Copy same gives called commanded (Migrating work) eq = copy_so entry.answer work (quiet_so Copy same refl gives called commanded (Migrating work) eq)
  heard_so Apply same gives called commanded (SettingUp setup tries) eq = quiet_so Apply same refl gives called commanded (SettingUp setup tries) eq
  heard_so Apply same gives called commanded (Migrating work) eq = apply_so entry.answer work (quiet_so Apply same refl gives called commanded (Migrating work) eq)
  heard_so Lock same gives called commanded (SettingUp setup tries) eq =
      absurd (none_asked Lock (SettingUp setup tries) eq (setup_has setup tries eq).locker (λ request call. none-some request call) (asking plan journal Lock entry.asked together.server gives))
  heard_so Lock same gives called commanded (Migrating work) eq = lock_turn work eq (asking plan journal Lock entry.asked together.server gives)
  heard_so Ren same gives called commanded (SettingUp setup tries) eq =
      absurd (none_asked Ren (SettingUp setup tries) eq (setup_has setup tries eq).renamer (λ request call. none-some request call) (asking plan journal Ren entry.asked together.server gives))
  heard_so Ren same gives called commanded (Migrating work) eq = ren_turn work eq same (asking plan journal Ren entry.asked together.server gives)
  heard_so Op same gives called commanded (SettingUp setup tries) eq = quiet_so Op same refl gives called commanded (SettingUp setup tries) eq
  heard_so Op same gives called commanded (Migrating work) eq = quiet_so Op same refl gives called commanded (Migrating work) eq
  heard_so (Client c) same gives called commanded (SettingUp setup tries) eq = quiet_so (Client c) same refl gives called commanded (SettingUp setup tries) eq
  heard_so (Client c) same gives called commanded (Migrating work) eq = quiet_so (Client c) same refl gives called commanded (Migrating work) eq

  cut_so : entry.asked ≡ Cut → (tool_phase : ToolPhase) → now.tool.tool_phase ≡ tool_phase → ToolPhaseFits plan after tool_phase
  cut_so cut tool_phase eq = still tool_phase eq (cut_stay plan journal entry is.standing run cut)

  -- where the inspector waits with nothing its session has no work
  insp_unworked : {A : Type 0} → entry.asked ≡ Cut → has_work now.server entry.session ≡ true → entry.actor ≡ Insp → (has Insp).waits ≡ None → A
  insp_unworked cut worked same idle =
      absurd (true≢false (sym worked ∙ ap (λ (s : State). has_work s entry.session) together.server
      ∙ free_idle (state_at plan journal) entry.session (ap (standing_in (state_at plan journal)) (sym (own_session plan journal entry known served (ap is_cut cut))) ∙ ap has same ∙ insp_free idle)))

  lost_so : entry.asked ≡ Cut → has_work now.server entry.session ≡ true → (actor : Actor) → entry.actor ≡ actor → (tool_phase : ToolPhase) → now.tool.tool_phase ≡ tool_phase → AnswerKeeps plan New answers.Lost tool actor tool_phase
  lost_so cut worked Insp same (SettingUp setup tries) eq = insp_unworked cut worked same (insp_rests (setup_rests setup tries eq))
  lost_so cut worked Insp same (Migrating work) eq = insp_lost work eq same (cut_stay plan journal entry is.standing run cut)
  lost_so cut worked Copy same (SettingUp setup tries) eq = cut_so cut (SettingUp setup tries) eq
  lost_so cut worked Copy same (Migrating work) eq = copy_so answers.Lost work (cut_so cut (Migrating work) eq)
  lost_so cut worked Apply same (SettingUp setup tries) eq = cut_so cut (SettingUp setup tries) eq
  lost_so cut worked Apply same (Migrating work) eq = apply_so answers.Lost work (cut_so cut (Migrating work) eq)
  lost_so cut worked Lock same (SettingUp setup tries) eq = cut_so cut (SettingUp setup tries) eq
  lost_so cut worked Lock same (Migrating work) eq = lock_lost work eq (cut_stay plan journal entry is.standing run cut)
  lost_so cut worked Ren same (SettingUp setup tries) eq = cut_so cut (SettingUp setup tries) eq
  lost_so cut worked Ren same (Migrating work) eq = ren_lost work eq (cut_stay plan journal entry is.standing run cut)
  lost_so cut worked Op same (SettingUp setup tries) eq = cut_so cut (SettingUp setup tries) eq
  lost_so cut worked Op same (Migrating work) eq = cut_so cut (Migrating work) eq
  lost_so cut worked (Client c) same (SettingUp setup tries) eq = cut_so cut (SettingUp setup tries) eq
  lost_so cut worked (Client c) same (Migrating work) eq = cut_so cut (Migrating work) eq

  command_so : (word : OperatorWord) → entry.asked ≡ Command word → (tool_phase : ToolPhase) → now.tool.tool_phase ≡ tool_phase → ToolPhaseFits plan after tool_phase
  command_so word asks tool_phase eq = still tool_phase eq (rest plan journal entry is.standing run (ap may_lose asks))

  resize_so : (size : ℕ) → entry.asked ≡ Command (ChunkSize size) → (tool_phase : ToolPhase) → now.tool.tool_phase ≡ tool_phase → ResizeKeeps New tool size tool_phase
  resize_so size asks (SettingUp setup tries) eq = command_so _ asks (SettingUp setup tries) eq
  resize_so size asks (Migrating work) eq = command_so _ asks (Migrating work) eq

  fits_more : ToolPhaseFits plan after (moment plan more).tool.tool_phase
  fits_more =
      turn_kept plan New back journal entry drain
      (record {
        commanded = λ word asks unsized. command_so word asks now.tool.tool_phase refl;
        resized = λ size asks. resize_so size asks now.tool.tool_phase refl;
        idle = λ asks none. cut_so asks now.tool.tool_phase refl;
        lost = λ asks worked. lost_so asks worked entry.actor refl now.tool.tool_phase refl;
        heard = λ called commanded. heard_so entry.actor refl (gives_asked plan journal entry entry.asked run.followed.given refl called) called commanded now.tool.tool_phase refl;
      })

  -- WHEN THE INSPECTOR WAITS

  uncut_so : is_cut entry.asked ≡ false → entry.asked ≡ Cut → ⊥
  uncut_so uncut cut = true≢false (sym (ap is_cut cut) ∙ uncut)

  abbrev pub Waits : Kept
  Waits = λ b tool_phase. WaitsFor plan (now_has Insp).waits tool_phase

  pub waits_back : (b : Bool) (tool_phase : ToolPhase) → Waits b tool_phase → Waits true (stopped tool_phase)
  unfolding reverted
  waits_back b (SettingUp setup tries) one = one
  waits_back b (Migrating work) one = λ request some. (sets_ended plan work.cutover.phase request (one request some).0, (one request some).1)

  pub waits_drain : (b : Bool) (work : Work) (tries : List ℕ) → Waits b (Migrating work) → Waits b (Migrating (record work { cutover = applier_turn work.applier.hint work.cutover; attempt_tries = tries }))
  unfolding applier_turn
  waits_drain b work tries one = λ request some. (sets_drained plan work.cutover work.applier.hint work.cutover.phase request (one request some).0, (one request some).1)

  -- in others' turns it waits as before
  pub differ_waits : same_actor entry.actor Insp ≡ false → (tool_phase : ToolPhase) → now.tool.tool_phase ≡ tool_phase → WaitsFor plan (now_has Insp).waits tool_phase
  differ_waits differ tool_phase eq = subst (λ (s : Standing). WaitsFor plan s.waits tool_phase) (sym (others_stand plan journal entry known served Insp differ)) (insp_waits tool_phase eq)

  pub beside_waits : (a : Actor) → entry.actor ≡ a → same_actor a Insp ≡ false → (tool_phase : ToolPhase) → now.tool.tool_phase ≡ tool_phase → WaitsFor plan (now_has Insp).waits tool_phase
  beside_waits a same differ tool_phase eq = differ_waits (ap (λ (x : Actor). same_actor x Insp) same ∙ differ) tool_phase eq

  waits_unfit : (work : Work) → Waits false (Migrating work) → UnfitKeeps Waits work
  waits_unfit work one = record { renamed = λ renamed. one; reverts = waits_back false (Migrating work) one }

  waits_copied : (answer : Answer) (work : Work) → Waits false (Migrating work) → CopyKeeps Waits answer tool work
  waits_copied answer work one = record { reverting = λ reverting. one; unfit = λ going place number unfit. waits_unfit work one; took = λ going fits tries. one }

  waits_applied : (answer : Answer) (work : Work) → Waits false (Migrating work) → ApplyKeeps Waits answer tool work
  waits_applied answer work one = record { reverting = λ reverting. one; unfit = λ going place number unfit. waits_unfit work one; took = λ going fits tries. one }

  -- the locker's turn, and the renamer's
  pub waits_locked : (work : Work) → entry.actor ≡ Lock → now.tool.tool_phase ≡ Migrating work → (answer : Answer) (tries : List ℕ) → Waits false (Migrating (record work { cutover = cutovers.took Locker work.cutover answer; attempt_tries = tries }))
  unfolding cutovers.took
  waits_locked work same eq answer tries = λ request some. let one = beside_waits Lock same refl (Migrating work) eq request some in (sets_locked plan work.cutover.phase answer request one.0, one.1)

  pub waits_renamed : (work : Work) → entry.actor ≡ Ren → now.tool.tool_phase ≡ Migrating work → Asking plan journal Ren entry.asked → (tries : List ℕ) → Waits false (Migrating (record work { cutover = cutovers.took Renamer work.cutover entry.answer; attempt_tries = tries }))
  waits_renamed work same eq asks tries = λ request some. absurd (never request (beside_waits Ren same refl (Migrating work) eq request some) (asks_at plan journal entry is.standing run work eq asks)) where
    never : (request : Request) → SetsCounter plan work.cutover.phase request × (work.cutover.renamer_waits ≡ false) → AsksAt work.cutover.phase work.cutover.renamer_waits → ⊥
    never request one (inl drained_so) = subst (λ (p : Phase). SetsCounter plan p request) drained_so one.0
    never request one (inr on) = true≢false (sym on ∙ one.1)

  pub waits_unrenamed : (work : Work) → entry.actor ≡ Ren → now.tool.tool_phase ≡ Migrating work → (tries : List ℕ) → Waits false (Migrating (record work { cutover = cutovers.took Renamer work.cutover answers.Lost; attempt_tries = tries }))
  unfolding cutovers.took
  waits_unrenamed work same eq tries = λ request some. let one = beside_waits Ren same refl (Migrating work) eq request some in (sets_failed plan work.cutover.phase request one.0, refl)

  -- its own: what is done at once doesn't wait
  done_rests : entry.actor ≡ Insp → (request : Request) → entry.asked ≡ Call request → (entry.side ≡ None → IsDone entry.answer) → (now_has Insp).waits ≡ None
  done_rests same request asks done_so =
      ap (λ (a : Actor). (now_has a).waits) (sym same) ∙ ap (λ (s : Standing). s.waits) (own_stands plan journal entry known served request (insp_about same request asks)) ∙ at_side entry.side refl where
        after_done : Following request entry.answer (has entry.actor) → IsDone entry.answer → (answered request entry.answer (has entry.actor)).waits ≡ None
        after_done (rests none) done = none
        after_done (waits_on other waits) done = absurd (subst IsDone waits done)

        at_side : (side : Option Side) → entry.side ≡ side → (answered request entry.answer (has entry.actor)).waits ≡ None
        at_side None no_side = after_done (following request entry.answer (has entry.actor)) (done_so no_side)
        at_side (Some side) some = ap (λ (a : Answer). (answered request a (has entry.actor)).waits) (own_missed plan journal entry known served side some)

  pub setup_idle : (setup : Setup) (tries : List ℕ) → now.tool.tool_phase ≡ SettingUp setup tries → entry.actor ≡ Insp → Asking plan journal Insp entry.asked → (now_has Insp).waits ≡ None
  setup_idle setup tries eq same asks =
      setup_called setup tries eq same ((now_has Insp).waits ≡ None) asks
      (λ request called going call. done_rests same request called (λ no_side. setup_done setup refl (setup_answer setup tries eq same setup refl request called call no_side))) where
        setup_done : (one : Setup) → setup ≡ one → SetupAnswer setup tries eq same one entry.answer → IsDone entry.answer
        setup_done Listing here answer = subst IsDone (sym answer.1) tt
        setup_done (Clearing left) here answer = subst IsDone (sym answer) tt
        setup_done MakingLog here answer = subst IsDone (sym answer) tt
        setup_done MakingGhost here answer = subst IsDone (sym answer) tt
        setup_done Marking here answer = subst IsDone (sym answer.1) tt
        setup_done (Reaching position) here answer = subst IsDone (sym answer.1) tt
        setup_done (Ready position range) here answer = absurd answer

  setup_waits : (answer : Answer) (setup : Setup) (tries : List ℕ) → (now_has Insp).waits ≡ None → SetupKeeps plan Waits answer tool setup tries
  setup_waits answer setup tries idle = record {
    reverting = λ reverting. none_for plan (now_has Insp).waits (SettingUp setup tries) idle;
    again = λ going bad some. none_for plan (now_has Insp).waits (SettingUp Listing some) idle;
    goes = λ going good. none_for plan (now_has Insp).waits (tool_phase_of plan tool.operator.size (setup_after plan.table setup answer) tries) idle;
  }

  -- the request that waits is the one that it has asked
  pub waited_is : entry.actor ≡ Insp → (request : Request) → IsAbout request (has entry.actor) entry.asked → (waiting : Request) → (now_has Insp).waits ≡ Some waiting → (other : ℕ) × ((entry.answer ≡ answers.Waits other) × (request ≡ waiting))
  waited_is same request about waiting some = by (following request entry.answer (has entry.actor)) where
    now_waits : (answered request entry.answer (has entry.actor)).waits ≡ Some waiting
    now_waits = sym (ap (λ (s : Standing). s.waits) (own_stands plan journal entry known served request about)) ∙ ap (λ (a : Actor). (now_has a).waits) same ∙ some

    by : Following request entry.answer (has entry.actor) → (other : ℕ) × ((entry.answer ≡ answers.Waits other) × (request ≡ waiting))
    by (rests none) = none_some waiting (answered request entry.answer (has entry.actor)).waits none now_waits
    by (waits_on other waits) = (other, (waits, same_Some request waiting (sym (ap (λ (a : Answer). (answered request a (has entry.actor)).waits) waits) ∙ now_waits)))

  module _ (work : Work) (eq : now.tool.tool_phase ≡ Migrating work) (same : entry.actor ≡ Insp) where
    heard_wait : (other : ℕ) → entry.answer ≡ answers.Waits other → entry.side ≡ None
    heard_wait other waits = by entry.side refl where
      no : answers.Lost ≡ answers.Waits other → ⊥
      no both = cc

      by : (side : Option Side) → entry.side ≡ side → entry.side ≡ None
      by None none = none
      by (Some side) some = absurd (no (sym (own_missed plan journal entry known served side some) ∙ waits))

    -- of what it calls, the one that sets the counter may wait
    called_sets : (phase : Phase) → work.cutover.phase ≡ phase → (request : Request) → entry.asked ≡ Call request → attempts.inspector_call work.cutover phase ≡ Some request → (other : ℕ) → entry.answer ≡ answers.Waits other → SetsCounter plan phase request × (work.cutover.renamer_waits ≡ false)
    called_sets (Attempting (SettingCounter number drain)) in_phase request asks call other waits = (
      some_request (λ (r : Request). r ≡ requests.SetCounter (ghost_name plan.table) number) (requests.SetCounter (ghost_name work.cutover.table) number) request call (ap (λ (t : List ℕ). requests.SetCounter (ghost_name t) number) (own_table work eq)),
      subst (λ (p : Phase). RenamerAt p work.cutover.renamer_waits) in_phase (work_at work eq).renamer,
    )
    called_sets phase in_phase request asks call other waits = absurd (subst IsDone waits (insp_done work eq same phase in_phase refl request asks (heard_wait other waits) call))

    asked_sets : (request : Request) → entry.asked ≡ Call request → Inspects plan journal now.tool work request → (other : ℕ) → entry.answer ≡ answers.Waits other → SetsCounter plan work.cutover.phase request × (work.cutover.renamer_waits ≡ false)
    unfolding attempts.next
    asked_sets request asks (cuts_so off next) other waits = called_sets work.cutover.phase refl request asks next other waits
    asked_sets request asks (notes_so note resting going next) other waits = absurd (subst IsDone waits (note_done work eq same request note asks (heard_wait other waits)))

    -- whatever else it calls has an answer
    pub called_idle : is_setting work.cutover.phase ≡ false → (request : Request) → entry.asked ≡ Call request → Inspects plan journal now.tool work request → (now_has Insp).waits ≡ None
    unfolding attempts.next
    called_idle unset request asks (cuts_so off next) = done_rests same request asks (λ no_side. insp_done work eq same work.cutover.phase refl unset request asks no_side next)
    called_idle unset request asks (notes_so note resting going next) = done_rests same request asks (λ no_side. note_done work eq same request note asks no_side)

    goes_on : (request : Request) → SetsCounter plan work.cutover.phase request × (work.cutover.renamer_waits ≡ false) → (other : ℕ) → entry.answer ≡ answers.Waits other → (waiting : Request) → request ≡ waiting
        → SetsCounter plan (inspector_phase work.cutover work.cutover.phase entry.answer) waiting × (work.cutover.renamer_waits ≡ false)
    goes_on request one other waits waiting is_it = (
      subst (λ (a : Answer). SetsCounter plan (inspector_phase work.cutover work.cutover.phase a) waiting) (sym waits) (subst (λ (r : Request). SetsCounter plan (inspector_phase work.cutover work.cutover.phase (answers.Waits other)) r) is_it (sets_waits plan work.cutover work.cutover.phase other request one.0)),
      one.1,
    )

    pub inspected_waits : Asking plan journal Insp entry.asked → (tries : List ℕ) → Waits false (Migrating (record work { cutover = cutovers.took Inspector work.cutover entry.answer; attempt_tries = tries }))
    unfolding cutovers.took
    inspected_waits (calls_so request called idle call) tries = λ waiting some.
        let was = waited_is same request (insp_about same request called) waiting some in
        goes_on request (asked_sets request called (insp_next work eq same request call) was.0 was.1.0) was.0 was.1.0 waiting was.1.1
    inspected_waits (polls_so request polled waited) tries = λ waiting some.
        let was = waited_is same request (about_own plan journal entry is.standing run Insp request same (is_polled polled waited)) waiting some in
        goes_on request (insp_waits (Migrating work) eq request waited) was.0 was.1.0 waiting was.1.1

  waits_heard : (actor : Actor) → entry.actor ≡ actor → given plan journal actor ≡ Some entry.asked → (tool_phase : ToolPhase) → now.tool.tool_phase ≡ tool_phase → AnswerKeeps plan Waits entry.answer tool actor tool_phase
  unfolding given
  waits_heard Insp same gives (SettingUp setup tries) eq = setup_waits entry.answer setup tries (setup_idle setup tries eq same (asking plan journal Insp entry.asked together.server gives))
  waits_heard Insp same gives (Migrating work) eq = inspected_waits work eq same (asking plan journal Insp entry.asked together.server gives)
  waits_heard Copy same gives (SettingUp setup tries) eq = beside_waits Copy same refl (SettingUp setup tries) eq
  waits_heard Copy same gives (Migrating work) eq = waits_copied entry.answer work (beside_waits Copy same refl (Migrating work) eq)
  waits_heard Apply same gives (SettingUp setup tries) eq = beside_waits Apply same refl (SettingUp setup tries) eq
  waits_heard Apply same gives (Migrating work) eq = waits_applied entry.answer work (beside_waits Apply same refl (Migrating work) eq)
  waits_heard Lock same gives (SettingUp setup tries) eq = beside_waits Lock same refl (SettingUp setup tries) eq
  waits_heard Lock same gives (Migrating work) eq = waits_locked work same eq entry.answer
  waits_heard Ren same gives (SettingUp setup tries) eq = beside_waits Ren same refl (SettingUp setup tries) eq
  waits_heard Ren same gives (Migrating work) eq = waits_renamed work same eq (asking plan journal Ren entry.asked together.server gives)
  waits_heard Op same gives (SettingUp setup tries) eq = beside_waits Op same refl (SettingUp setup tries) eq
  waits_heard Op same gives (Migrating work) eq = beside_waits Op same refl (Migrating work) eq
  waits_heard (Client c) same gives (SettingUp setup tries) eq = beside_waits (Client c) same refl (SettingUp setup tries) eq
  waits_heard (Client c) same gives (Migrating work) eq = beside_waits (Client c) same refl (Migrating work) eq

  -- a loss between calls
  pub gone_waits : entry.asked ≡ Cut → entry.actor ≡ Insp → (now_has Insp).waits ≡ None
  gone_waits cut same = ap (λ (a : Actor). (now_has a).waits) (sym same) ∙ ap (λ (s : Standing). s.waits) (own_lost plan journal entry known served cut)

  waits_lost : entry.asked ≡ Cut → (actor : Actor) → entry.actor ≡ actor → (tool_phase : ToolPhase) → now.tool.tool_phase ≡ tool_phase → AnswerKeeps plan Waits answers.Lost tool actor tool_phase
  waits_lost cut Insp same (SettingUp setup tries) eq = setup_waits answers.Lost setup tries (gone_waits cut same)
  waits_lost cut Insp same (Migrating work) eq = λ tries. none_for plan (now_has Insp).waits (Migrating (record work { cutover = cutovers.took Inspector work.cutover answers.Lost; attempt_tries = tries })) (gone_waits cut same)
  waits_lost cut Copy same (SettingUp setup tries) eq = beside_waits Copy same refl (SettingUp setup tries) eq
  waits_lost cut Copy same (Migrating work) eq = waits_copied answers.Lost work (beside_waits Copy same refl (Migrating work) eq)
  waits_lost cut Apply same (SettingUp setup tries) eq = beside_waits Apply same refl (SettingUp setup tries) eq
  waits_lost cut Apply same (Migrating work) eq = waits_applied answers.Lost work (beside_waits Apply same refl (Migrating work) eq)
  waits_lost cut Lock same (SettingUp setup tries) eq = beside_waits Lock same refl (SettingUp setup tries) eq
  waits_lost cut Lock same (Migrating work) eq = waits_locked work same eq answers.Lost
  waits_lost cut Ren same (SettingUp setup tries) eq = beside_waits Ren same refl (SettingUp setup tries) eq
  waits_lost cut Ren same (Migrating work) eq = waits_unrenamed work same eq
  waits_lost cut Op same (SettingUp setup tries) eq = beside_waits Op same refl (SettingUp setup tries) eq
  waits_lost cut Op same (Migrating work) eq = beside_waits Op same refl (Migrating work) eq
  waits_lost cut (Client c) same (SettingUp setup tries) eq = beside_waits (Client c) same refl (SettingUp setup tries) eq
  waits_lost cut (Client c) same (Migrating work) eq = beside_waits (Client c) same refl (Migrating work) eq

  waits_cut : entry.asked ≡ Cut → (tool_phase : ToolPhase) → now.tool.tool_phase ≡ tool_phase → WaitsFor plan (now_has Insp).waits tool_phase
  waits_cut cut tool_phase eq = by (same_actor entry.actor Insp) refl where
    by : (b : Bool) → same_actor entry.actor Insp ≡ b → WaitsFor plan (now_has Insp).waits tool_phase
    by false differ = differ_waits differ tool_phase eq
    by true same = none_for plan (now_has Insp).waits tool_phase (gone_waits cut (same_actor_is entry.actor Insp same))

  -- the operator's commands
  waits_commanded : (word : OperatorWord) → entry.asked ≡ Command word → (tool_phase : ToolPhase) → now.tool.tool_phase ≡ tool_phase → WaitsFor plan (now_has Insp).waits tool_phase
  waits_commanded word asks tool_phase eq = by (same_actor entry.actor Insp) refl where
    no : Command word ≡ Cut → ⊥
    no both = cc

    by : (b : Bool) → same_actor entry.actor Insp ≡ b → WaitsFor plan (now_has Insp).waits tool_phase
    by false differ = differ_waits differ tool_phase eq
    by true same = absurd (never_commands plan journal Insp word (insp_given (same_actor_is entry.actor Insp same) (λ cut. no (sym asks ∙ cut)) ∙ ap Some asks))

  waits_resized : (size : ℕ) → entry.asked ≡ Command (ChunkSize size) → (tool_phase : ToolPhase) → now.tool.tool_phase ≡ tool_phase → ResizeKeeps Waits tool size tool_phase
  waits_resized size asks (SettingUp setup tries) eq = waits_commanded (ChunkSize size) asks (SettingUp setup tries) eq
  waits_resized size asks (Migrating work) eq = waits_commanded (ChunkSize size) asks (Migrating work) eq

  waits_more : WaitsFor plan (now_has Insp).waits (moment plan more).tool.tool_phase
  waits_more =
      turn_kept plan Waits waits_back journal entry waits_drain
      (record {
        commanded = λ word asks unsized. waits_commanded word asks now.tool.tool_phase refl;
        resized = λ size asks. waits_resized size asks now.tool.tool_phase refl;
        idle = λ asks none. waits_cut asks now.tool.tool_phase refl;
        lost = λ asks worked. waits_lost asks entry.actor refl now.tool.tool_phase refl;
        heard = λ called commanded. waits_heard entry.actor refl (gives_asked plan journal entry entry.asked run.followed.given refl called) now.tool.tool_phase refl;
      })

  going_more : IsSerialPlan plan → IsGoing plan more
  going_more serial = record {
    standing = standing_more plan journal entry is.standing run;
    names = held_well_more plan runs serial journal entry kept run is.names;
    waits = waits_more;
    fits = fits_more;
  }

  -- SO THEY GO ON

  setup_some : (setup : Setup) (request : Request) → setup_call plan setup ≡ Some request → 1 ≤ setup_left setup
  setup_some Listing request call = omega arith
  setup_some (Clearing left) request call = omega arith
  setup_some MakingLog request call = omega arith
  setup_some MakingGhost request call = omega arith
  setup_some Marking request call = omega arith
  setup_some (Reaching position) request call = omega arith
  setup_some (Ready position range) request call = absurd cc

  setup_goes : SetupGoes plan journal entry
  setup_goes = record {
    on = λ setup tries eq same called uncut no_side.
        setup_called setup tries eq same (setup_left (setup_after plan.table setup entry.answer) < setup_left setup) (insp_asking same (uncut_so uncut))
        (λ request asks going call. setup_fewer setup tries eq same setup refl (setup_answer setup tries eq same setup refl request asks call no_side));
    lost = λ setup tries eq same called uncut. setup_called setup tries eq same (1 ≤ setup_left setup) (insp_asking same (uncut_so uncut)) (λ request asks going call. setup_some setup request call);
    going = λ setup tries eq same called uncut. setup_called setup tries eq same (is_reverting now.tool.reason ≡ false) (insp_asking same (uncut_so uncut)) (λ request asks going call. going);
  }

  -- behind the RENAME a heard turn of the inspector's leaves fewer
  finish_fewer : (work : Work) (eq : now.tool.tool_phase ≡ Migrating work) (same : entry.actor ≡ Insp) → entry.side ≡ None → (request : Request) → entry.asked ≡ Call request → (phase : Phase) → work.cutover.phase ≡ phase → is_done phase ≡ true → attempts.inspector_call work.cutover phase ≡ Some request
      → phase_left (inspector_phase work.cutover phase entry.answer) < phase_left phase
  finish_fewer work eq same no_side request asks (Finishing Looking) in_phase done call =
      some_request (λ (r : Request). entry.asked ≡ Call r → phase_left (cutovers.finishing_after work.cutover Looking entry.answer) < 3) requests.ShowTables request call
      (λ called. by entry.answer (own_heard plan journal entry known served requests.ShowTables (insp_about same requests.ShowTables called) no_side)) asks where
        by : (answer : Answer) → serves_to requests.ShowTables answer ≡ true → phase_left (cutovers.finishing_after work.cutover Looking answer) < 3
        by (answers.Tables tables) listed_well = end_listed work.cutover tables
        by answer listed_well = absurd cc
  finish_fewer work eq same no_side request asks (Finishing (Drops left)) in_phase done call =
      subst (λ (a : Answer). phase_left (cutovers.finishing_after work.cutover (Drops left) a) < names_left left) (sym ((drops_so work eq same left in_phase request asks call).1 no_side))
      (end_fewer left (subst (PhaseFits plan before) in_phase (work_fits work eq).left).some)
  finish_fewer work eq same no_side request asks Finished in_phase done call = absurd cc
  finish_fewer work eq same no_side request asks Resting in_phase done call = absurd (false≢true done)
  finish_fewer work eq same no_side request asks (Attempting stage) in_phase done call = absurd (false≢true done)
  finish_fewer work eq same no_side request asks (Ending cleared) in_phase done call = absurd (false≢true done)

  finish_next : (work : Work) (eq : now.tool.tool_phase ≡ Migrating work) (same : entry.actor ≡ Insp) → entry.side ≡ None → (request : Request) → entry.asked ≡ Call request → is_done work.cutover.phase ≡ true → Inspects plan journal now.tool work request
      → phase_left (inspector_phase work.cutover work.cutover.phase entry.answer) < phase_left work.cutover.phase
  unfolding attempts.next
  finish_next work eq same no_side request asks done (cuts_so off next) = finish_fewer work eq same no_side request asks work.cutover.phase refl done next
  finish_next work eq same no_side request asks done (notes_so note resting going next) = absurd (false≢true (sym (ap is_done resting) ∙ done))

  -- at rest it writes a note's row
  resting_notes : (work : Work) (request : Request) → work.cutover.phase ≡ Resting → entry.actor ≡ Insp → entry.asked ≡ Call request → Inspects plan journal now.tool work request → is_note entry ≡ true
  resting_notes work request resting same asks (cuts_so off next) = absurd (true≢false (sym (ap is_resting resting) ∙ off))
  resting_notes work request resting same asks (notes_so note here onward next) = ap (λ (a : Actor). same_actor a Insp && replaces entry.asked) same ∙ ap replaces (asks ∙ ap Call note.is)

  -- it waits with nothing after the RENAME, nor while no attempt is under way
  done_never : (work : Work) → now.tool.tool_phase ≡ Migrating work → is_done work.cutover.phase ≡ true → (request : Request) → (has Insp).waits ≡ Some request → ⊥
  done_never work eq done request some = by work.cutover.phase done (insp_waits (Migrating work) eq request some).0 where
    by : (phase : Phase) → is_done phase ≡ true → SetsCounter plan phase request → ⊥
    by (Attempting stage) done sets = false≢true done
    by (Ending cleared) done sets = false≢true done
    by Resting done sets = sets
    by (Finishing cleared) done sets = sets
    by Finished done sets = sets

  resting_never : (work : Work) → now.tool.tool_phase ≡ Migrating work → work.cutover.phase ≡ Resting → (request : Request) → (has Insp).waits ≡ Some request → ⊥
  resting_never work eq resting request some = subst (λ (p : Phase). SetsCounter plan p request) resting (insp_waits (Migrating work) eq request some).0

  ren_asking : entry.actor ≡ Ren → (entry.asked ≡ Cut → ⊥) → Asking plan journal Ren entry.asked
  unfolding given
  ren_asking same uncut = asking plan journal Ren entry.asked together.server (subst (λ (a : Actor). given plan journal a ≡ Some entry.asked) same (gives_asked plan journal entry entry.asked run.followed.given refl uncut))

  clearing_goes : ClearingGoes plan journal entry
  unfolding cutovers.took
  clearing_goes = record {
    on = λ work eq done same called uncut no_side.
        insp_calls (phase_left (inspector_phase work.cutover work.cutover.phase entry.answer) < phase_left work.cutover.phase) (done_never work eq done) (insp_asking same (uncut_so uncut))
        (λ request asks call. finish_next work eq same no_side request asks done (insp_next work eq same request call));
    renamed = λ work eq done same called uncut. true≢false (sym done ∙ ren_undone work eq (asks_at plan journal entry is.standing run work eq (ren_asking same (uncut_so uncut))));
    rests = λ work eq resting same called uncut. insp_calls (is_note entry ≡ true) (resting_never work eq resting) (insp_asking same (uncut_so uncut)) (λ request asks call. resting_notes work request resting same asks (insp_next work eq same request call));
  }

going_begins : (plan : PlanData) → IsRunnable plan → IsGoing plan []
unfolding live_session moment
going_begins plan runs = record { standing = standing_along plan [] runs.fitting runs.stands tt; names = held_well_begins plan runs; waits = none_for plan None (moment plan []).tool.tool_phase refl; fits = tt }

pub all_going : (plan : PlanData) (journal : List Entry) → IsRunnable plan → IsSerialPlan plan → IsKept plan journal → IsGoing plan journal
all_going plan journal runs serial kept =
    each_kept plan (IsGoing plan) (λ before entry one is. going_more plan runs before entry (kept_front plan before (entry ∷ []) one) (kept_run plan before entry one) is serial) journal kept (going_begins plan runs)

-- *The setup goes on*, along every kept journal
pub setups_go : (plan : PlanData) (journal : List Entry) → IsRunnable plan → IsSerialPlan plan → IsKept plan journal → Along (SetupGoes plan) [] journal
setups_go plan journal runs serial kept =
    along_of plan (SetupGoes plan)
    (λ before entry one. setup_goes plan runs before entry (kept_front plan before (entry ∷ []) one) (kept_run plan before entry one) (all_going plan before runs serial (kept_front plan before (entry ∷ []) one))) [] journal kept

-- *What is done after the RENAME goes on*, likewise
pub clearings_go : (plan : PlanData) (journal : List Entry) → IsRunnable plan → IsSerialPlan plan → IsKept plan journal → Along (ClearingGoes plan) [] journal
clearings_go plan journal runs serial kept =
    along_of plan (ClearingGoes plan)
    (λ before entry one. clearing_goes plan runs before entry (kept_front plan before (entry ∷ []) one) (kept_run plan before entry one) (all_going plan before runs serial (kept_front plan before (entry ∷ []) one))) [] journal kept

-- *Inspectors wait to set a counter*
pub waits_to_set : InspectorsWaitToSet
waits_to_set plan journal request runs serial kept some = by (moment plan journal).tool.tool_phase (all_going plan journal runs serial kept).waits where
  by : (tool_phase : ToolPhase) → WaitsFor plan (standing_of plan journal Insp).waits tool_phase → IsSettingCounter plan tool_phase request
  by (SettingUp setup tries) waits = waits request some
  by (Migrating work) waits = (waits request some).0
