-- The attempts' turns: each attempt that is begun pays for those that it may take, and each turn leaves fewer.
use Rattle.std.proofs.Common.{◌≡◌, ◌≤◌, ℕ, ◌+◌, ◌*◌, Bool, true, false, cond, not, List, [], ◌∷◌, ◌++◌, Option, Some, None, refl, sym, ap, ◌∙◌, subst, ◌⊎◌, inl, inr, arith}
use Rattle.std.specs.Prelude.{is_some}
use Rattle.std.proofs.lemmas.Bool.{true≢false, false≢true}
use Rattle.std.proofs.lemmas.Option.{none-some}
use Rattle.base_script.specs.declared.actor.Actor.{Actor}
use Rattle.base_script.specs.declared.actor.Actor.TheVariants.{Op, Insp, Copy, Apply, Lock, Ren, Client}
use Rattle.base_script.specs.declared.actor.Side.{Side}
use Rattle.base_script.specs.declared.operator.OperatorWord.{OperatorWord}
use Rattle.base_script.specs.declared.operator.OperatorWord.TheVariants.{ChunkSize}
use Rattle.base_values.specs.ToolNames.{ghost_name}
use Rattle.server_model.specs.declared.answer.Answer.{Answer}
use Rattle.server_model.specs.declared.answer.Answer.TheVariants as answers
use Rattle.server_model.specs.declared.entry.Asked.{Asked}
use Rattle.server_model.specs.declared.entry.Asked.TheVariants.{Call, Poll, Command, Cut}
use Rattle.server_model.specs.declared.entry.Entry.{Entry}
use Rattle.server_model.specs.declared.listing.TableName.{TableName}
use Rattle.server_model.specs.declared.request.Request.{Request}
use Rattle.server_model.specs.declared.request.Request.TheVariants as requests
use Rattle.server_model.specs.Entries.{same_actor, is_command, is_cut}
use Rattle.server_model.specs.PlainServer.{serves}
use Rattle.server_model.specs.States.{State, has_work}
use Rattle.plan_data.specs.PlanData.{PlanData, has_counter}
use Rattle.tool_program.specs.JournalWords.Bounds.{measures}
use Rattle.tool_program.specs.JournalWords.Journals.{opens, state_at}
use Rattle.tool_program.specs.JournalWords.Sessions.{live_session, session_left}
use Rattle.tool_program.specs.declared.cutover_core.cutover.Clearing.{Clearing as Cleared}
use Rattle.tool_program.specs.declared.cutover_core.cutover.Clearing.TheVariants.{Looking, Drops}
use Rattle.tool_program.specs.declared.cutover_core.cutover.CutOver.{CutOver}
use Rattle.tool_program.specs.declared.cutover_core.cutover.Hold.{Hold}
use Rattle.tool_program.specs.declared.cutover_core.cutover.Hold.TheVariants.{Nothing, WaitsToGuard, WaitsToLock, Locks}
use Rattle.tool_program.specs.declared.cutover_core.cutover.Leftovers.{Leftovers}
use Rattle.tool_program.specs.declared.cutover_core.cutover.Phase.{Phase}
use Rattle.tool_program.specs.declared.cutover_core.cutover.Phase.TheVariants.{Resting, Attempting, Ending, Finishing, Finished}
use Rattle.tool_program.specs.declared.cutover_core.cutover.Role.TheVariants.{Inspector, Locker, Renamer}
use Rattle.tool_program.specs.declared.cutover_core.cutover.Stage.{Stage}
use Rattle.tool_program.specs.declared.cutover_core.cutover.Stage.TheVariants.{Hinting, ReadingCounter, SettingCounter, Showing}
use Rattle.tool_program.specs.declared.cutover_core.cutover.Drain.{Drain}
use Rattle.tool_program.specs.CutoverCore.Attempts as attempts
use Rattle.tool_program.specs.CutoverCore.Attempts.{clears, has_name, has_sentry, is_clear, is_free, without_first}
use Rattle.tool_program.specs.CutoverCore.CutOvers as cutovers
use Rattle.tool_program.specs.CutoverCore.CutOvers.{is_done, is_wait, applier_turn, reverted, attempts_after, hold_after, locker_phase, renamer_phase, failed, inspector_phase, finishing, left_at_end, sentry_alone, seen, finishing_after}
use Rattle.tool_program.specs.Programs.{tool_call, given, IsGiven}
use Rattle.tool_program.specs.Setups.{Setup, Listing, Clearing, MakingLog, MakingGhost, Marking, Reaching, Ready, setup_after}
use Rattle.tool_program.proofs.OnlineCalls.Machines.{ToolPhaseIsNamed, named}
use Rattle.tool_program.specs.Tools.{Work, ToolPhase, SettingUp, Migrating, Tool, Moment, stopped, is_reverting, tool_phase_of, moment}
use Rattle.proof_journals.specs.Plans.{IsSerialPlan}
use Rattle.proof_journals.specs.Run.Kept.{IsKept}
use Rattle.proof_journals.specs.Machine.Machines.{ToolPhaseStands, WorkStands, SetupStands, held, renaming}
use Rattle.proof_journals.specs.Machine.Runnable.{IsRunnable}
use Rattle.proof_journals.specs.Machine.Standings.{Standing, free, standing_in, standing_of, serves_to, IsAbout, is_called, is_polled}
use Rattle.proof_journals.proofs.Actors.{live_more, same_actor_is}
use Rattle.proof_journals.proofs.Machine.Asking.{some_request, idle_stands}
use Rattle.proof_journals.proofs.Machine.Inspecting.{Inspects, inspects, notes_so, cuts_so}
use Rattle.proof_journals.proofs.Machine.Journals.{IsRun, IsTogether, Asking, calls_so, polls_so, asking, lock_about}
use Rattle.proof_journals.proofs.Machine.Seated.{IsKnown, IsServed, others_stand, own_heard, own_given, own_missed, own_session}
use Rattle.proof_journals.proofs.Machine.Tabling.{free_idle}
use Rattle.proof_migration.proofs.Attempt.RenamerAnswers.{AsksAt}
use Rattle.proof_migration.proofs.Attempt.Stages.{StandsAt}
use Rattle.proof_migration.proofs.Attempt.Standing.{ToolPhaseAt, about_own, asks_at, no_asking, none_some}
use Rattle.proof_migration.proofs.Program.Turns.Follows.{kept_front, kept_run}
use Rattle.proof_migration.proofs.ToolPhase.Owners.{commands_operator}
use Rattle.proof_migration.proofs.ToolPhase.ToolPhaseTurns.{Kept, UnfitKeeps, CopyKeeps, ApplyKeeps, SetupKeeps, AnswerKeeps, ResizeKeeps, turn_kept, gives_asked}
use Rattle.proof_bounds.specs.Guards.{HasSentryAtOnce}
use Rattle.proof_migration.specs.InspectorWaits.{SetsCounter}
use Rattle.proof_migration.proofs.KeptJournals.{each_kept}
use Rattle.proof_bounds.specs.Laws.{MayWait}
use Rattle.proof_bounds.specs.Parts.{Part, OfClearing, OfChunks, OfBatches, OfAttempts, rolls_back, work_part, is_again, ending_part, phase_part, part_by, part_of, same_part, turns_of_part}
use Rattle.proof_bounds.specs.Terms.{term_of}
use Rattle.proof_bounds.proofs.Attempts.{attempts_few}
use Rattle.proof_bounds.proofs.Counting.{count_yes, count_no, count_none}
use Rattle.proof_bounds.proofs.Going.{IsGoing, ToolPhaseFits, is_setting, all_going, insp_free, insp_rests, insp_waits, insp_idle, setup_rests, setup_idle, waits_back, waits_drain, beside_waits, differ_waits, waits_locked, waits_renamed, waits_unrenamed, waited_is, polled_ends, called_idle, inspected_waits, gone_waits}
use Rattle.proof_bounds.proofs.Inspecting.{WaitsWith, WaitsFor, none_waits, none_for}
use Rattle.proof_bounds.proofs.Guards.{sentries_made}
use Rattle.proof_bounds.proofs.Leftovers.{WorkFits}
use Rattle.proof_bounds.proofs.Waits.{IsCounted, counted_more, counted_begins, waited_by, idle_waited, waits_on, waits_end, waits_cut, waits_short, others_wait}
use Rattle.proof_bounds.specs.AttemptTurns.Attempts.{IsAt, IsOk, ShowsWait, TurnGoes, AttemptTurnsAreFew}
use Rattle.proof_bounds.proofs.AttemptTurns.Calls.{attempts_go}
use Rattle.proof_bounds.proofs.AttemptTurns.Potentials.{hold_left, rename_left, clear_left, attempt_left, stage_ends, whole_left, begun_left, waits_after, hold_waits, rename_waits, inspect_left, all_left, stage_left, WaitsIn, ends_all, drains_all, unseated_left, locker_pays, renamer_pays, waits_all, sets_pays, polls_pay, inspector_gone, locked_inspects, locker_gone, renamer_gone}

-- WHOSE TURN IT IS

work_off : (part : Part) → same_part OfAttempts part ≡ false → (asked : Asked) → same_part OfAttempts (work_part part asked) ≡ false
work_off part other asked = by (rolls_back asked) where
  by : (b : Bool) → same_part OfAttempts (cond b OfClearing part) ≡ false
  by true = refl
  by false = other

-- an actor that takes no part in attempts
abbrev IsBeside : Actor → Type 0
IsBeside Insp = ⊥
IsBeside Lock = ⊥
IsBeside Ren = ⊥
IsBeside actor = Unit {0}

beside_part : (tool_phase : ToolPhase) (live : Option ℕ) (side : Option Side) (actor : Actor) (asked : Asked) → IsBeside actor → same_part OfAttempts (part_by tool_phase live side actor asked) ≡ false
beside_part tool_phase live side actor (Command word) beside = refl
beside_part tool_phase live side actor Cut beside = refl
beside_part tool_phase live side Op (Call request) beside = refl
beside_part tool_phase live side (Client c) (Call request) beside = refl
beside_part tool_phase live side Copy (Call request) beside = work_off OfChunks refl (Call request)
beside_part tool_phase live side Apply (Call request) beside = work_off OfBatches refl (Call request)
beside_part tool_phase live side Insp (Call request) beside = absurd beside
beside_part tool_phase live side Lock (Call request) beside = absurd beside
beside_part tool_phase live side Ren (Call request) beside = absurd beside
beside_part tool_phase live side Op Poll beside = refl
beside_part tool_phase live side (Client c) Poll beside = refl
beside_part tool_phase live side Copy Poll beside = refl
beside_part tool_phase live side Apply Poll beside = refl
beside_part tool_phase live side Insp Poll beside = absurd beside
beside_part tool_phase live side Lock Poll beside = absurd beside
beside_part tool_phase live side Ren Poll beside = absurd beside

-- the inspector's call at an attempt's end: where its session is lost before it, or in it, it isn't the attempt's
again_part : (live : Option ℕ) (side : Option Side) (request : Request) → is_again live side ≡ true → same_part OfAttempts (ending_part live side (Call request)) ≡ false
again_part live side request again = ap (λ (b : Bool). same_part OfAttempts (cond b OfClearing OfAttempts)) again

-- WHAT THE PHASES LEAVE

finishing_left : (w : ℕ) (counter live : Bool) (hold : Hold) (renames : Bool) (left : Leftovers) → attempt_left w counter live hold renames (finishing left) ≡ 0
finishing_left w counter live hold renames left = by (is_clear left) where
  by : (b : Bool) → attempt_left w counter live hold renames (cond b Finished (Finishing (Drops left))) ≡ 0
  by true = refl
  by false = refl

finished_left : (w : ℕ) (counter live : Bool) (hold : Hold) (renames : Bool) (cutover : CutOver) (cleared : Cleared) (answer : Answer) → attempt_left w counter live hold renames (finishing_after cutover cleared answer) ≡ 0
finished_left w counter live hold renames cutover cleared answers.Lost = refl
finished_left w counter live hold renames cutover cleared (answers.TimedOut waited) = refl
finished_left w counter live hold renames cutover Looking (answers.Tables tables) = finishing_left w counter live hold renames (left_at_end cutover tables)
finished_left w counter live hold renames cutover Looking answer = refl
finished_left w counter live hold renames cutover (Drops left) (answers.Ok count) = finishing_left w counter live hold renames (without_first left)
finished_left w counter live hold renames cutover (Drops left) answer = refl

seen_left : (w : ℕ) (counter live : Bool) (hold : Hold) (renames : Bool) (cutover : CutOver) (tables : List TableName) → attempt_left w counter live hold renames (seen cutover tables) ≤ hold_left w hold + rename_left w renames + 1
seen_left w counter live hold renames cutover tables = by (not (has_name (ghost_name cutover.table) tables)) (has_sentry cutover.table tables) where
  by : (a b : Bool) → attempt_left w counter live hold renames (cond a (finishing (left_at_end cutover tables)) (cond b (Ending (Drops sentry_alone)) Resting)) ≤ hold_left w hold + rename_left w renames + 1
  by true b = let none = finishing_left w counter live hold renames (left_at_end cutover tables) in omega (arith, none)
  by false true = omega arith
  by false false = omega arith

one_times : (a k : ℕ) → (a + 1) * k ≡ a * k + k
one_times a k = omega arith

no_more : (n : ℕ) → n ≡ n + 0
no_more n = omega arith

begun_times : (w : ℕ) (counter : Bool) (attempts : ℕ) (phase : Phase) → attempts_after phase attempts * whole_left w counter ≡ attempts * whole_left w counter + begun_left w counter phase
begun_times w counter attempts Resting = one_times attempts (whole_left w counter)
begun_times w counter attempts (Attempting stage) = no_more (attempts * whole_left w counter)
begun_times w counter attempts (Ending cleared) = no_more (attempts * whole_left w counter)
begun_times w counter attempts (Finishing cleared) = no_more (attempts * whole_left w counter)
begun_times w counter attempts Finished = no_more (attempts * whole_left w counter)

-- THE INEQUALITY

-- so many turns of attempts are taken, and so long the locker, the renamer and the inspector have waited
abbrev Paid : PlanData → ℕ → Bool → Bool → ℕ → ToolPhase → Type 0
Paid plan turns live inspects waited (SettingUp setup tries) = turns ≤ waited
Paid plan turns live inspects waited (Migrating work) =
    turns + all_left plan.options.tool_wait (has_counter plan) live work.cutover.hold work.cutover.renamer_waits inspects work.cutover.phase ≤ work.cutover.attempts * whole_left plan.options.tool_wait (has_counter plan) + waited

abbrev turns_at : PlanData → List Entry → ℕ
turns_at plan journal = turns_of_part OfAttempts plan journal

abbrev live_at : List Entry → Bool
live_at journal = is_some (live_session journal Insp)

abbrev waited_at : PlanData → List Entry → ℕ
waited_at plan journal = waited_by plan journal Lock + waited_by plan journal Ren + waited_by plan journal Insp

abbrev inspects_at : PlanData → List Entry → Bool
inspects_at plan journal = is_some (standing_of plan journal Insp).waits

record IsPaid (plan : PlanData) (journal : List Entry) : Type 0 where
  counted : IsCounted plan journal
  paid : Paid plan (turns_at plan journal) (live_at journal) (inspects_at plan journal) (waited_at plan journal) (moment plan journal).tool.tool_phase

unseated_paid : (plan : PlanData) (turns : ℕ) (live inspects : Bool) (waited : ℕ) (tool_phase : ToolPhase) → Paid plan turns live inspects waited tool_phase → Paid plan turns false inspects waited tool_phase
unseated_paid plan turns live inspects waited (SettingUp setup tries) paid = paid
unseated_paid plan turns live inspects waited (Migrating work) paid = let less = unseated_left plan.options.tool_wait (has_counter plan) live work.cutover.hold work.cutover.renamer_waits work.cutover.phase in omega (arith, less, paid)

-- where the inspector waits, the attempt sets the counter, or has failed meanwhile
waits_in : (plan : PlanData) (waits : Option Request) (phase : Phase) (renames : Bool) → WaitsWith plan waits phase renames → is_some waits ≡ true → WaitsIn phase
waits_in plan None phase renames waits on = absurd (false≢true on)
waits_in plan (Some request) phase renames waits on = in_phase phase (waits request refl).0 where
  in_phase : (phase : Phase) → SetsCounter plan phase request → WaitsIn phase
  in_phase (Attempting (SettingCounter number drain)) sets = tt
  in_phase (Ending Looking) sets = tt
  in_phase phase sets = absurd sets

off_inspects : (w : ℕ) (inspects : Bool) (phase : Phase) → inspects ≡ false → inspect_left w inspects phase ≡ 0
off_inspects w inspects phase off = ap (λ (b : Bool). inspect_left w b phase) off

rest_inspects : (w : ℕ) (inspects : Bool) → inspect_left w inspects Resting ≡ 0
rest_inspects w true = refl
rest_inspects w false = refl

-- WHO WAITS

module _ (plan : PlanData) (journal : List Entry) (counted : IsCounted plan journal) (going : IsGoing plan journal) where
  idle : (a : Actor) → (standing_of plan journal a).waits ≡ None → waited_by plan journal a ≤ 0
  idle a none = let zero_waited = idle_waited (state_at plan journal) (live_session journal a) none in omega (arith, zero_waited)

  module _ (work : Work) (eq : (moment plan journal).tool.tool_phase ≡ Migrating work) where
    work_stands : WorkStands journal (is_reverting (moment plan journal).tool.reason) (standing_of plan journal) work
    work_stands = subst (ToolPhaseStands journal (standing_of plan journal) (is_reverting (moment plan journal).tool.reason)) eq going.standing.tabled.all.tool.stands

    work_at : StandsAt plan (state_at plan journal).tables (standing_of plan journal Insp).waits work.cutover.phase work.cutover.hold work.cutover.renamer_waits work.cutover.is_asked
    work_at = subst (ToolPhaseAt plan (state_at plan journal).tables (standing_of plan journal Insp).waits) eq going.standing.tool_phase

    work_fits : WorkFits plan (state_at plan journal).tables work.cutover.phase work.cutover.hold work.cutover.renamer_waits
    work_fits = subst (ToolPhaseFits plan (state_at plan journal).tables) eq going.fits

    hold_done : is_done work.cutover.phase ≡ true → work.cutover.hold ≡ Nothing
    hold_done done = (work_fits.done done).0

    renames_done : is_done work.cutover.phase ≡ true → work.cutover.renamer_waits ≡ false
    renames_done done = (work_fits.done done).1

    lock_waits : waited_by plan journal Lock ≤ hold_waits plan.options.tool_wait work.cutover.hold
    lock_waits = by work.cutover.hold refl where
      by : (one : Hold) → work.cutover.hold ≡ one → waited_by plan journal Lock ≤ hold_waits plan.options.tool_wait one
      by Nothing is_so = idle Lock (ap (λ (s : Standing). s.waits) (work_stands.locker ∙ ap (held work.cutover.table) is_so))
      by Locks is_so = idle Lock (ap (λ (s : Standing). s.waits) (work_stands.locker ∙ ap (held work.cutover.table) is_so))
      by WaitsToGuard is_so = waits_short plan journal counted.few Lock
      by WaitsToLock is_so = waits_short plan journal counted.few Lock

    ren_waits : waited_by plan journal Ren ≤ rename_waits plan.options.tool_wait work.cutover.renamer_waits
    ren_waits = by work.cutover.renamer_waits refl where
      by : (one : Bool) → work.cutover.renamer_waits ≡ one → waited_by plan journal Ren ≤ rename_waits plan.options.tool_wait one
      by true is_so = waits_short plan journal counted.few Ren
      by false is_so = idle Ren (ap (λ (s : Standing). s.waits) (work_stands.renamer ∙ ap (renaming work.cutover.table) is_so))

    inspects_in : inspects_at plan journal ≡ true → WaitsIn work.cutover.phase
    inspects_in = waits_in plan (standing_of plan journal Insp).waits work.cutover.phase work.cutover.renamer_waits (subst (WaitsFor plan (standing_of plan journal Insp).waits) eq going.waits)

  insp_short : waited_by plan journal Insp ≤ plan.options.tool_wait
  insp_short = waits_short plan journal counted.few Insp

  insp_waited_most : waited_by plan journal Insp ≤ rename_waits plan.options.tool_wait (inspects_at plan journal)
  insp_waited_most = by (standing_of plan journal Insp).waits refl where
    by : (waits : Option Request) → (standing_of plan journal Insp).waits ≡ waits → waited_by plan journal Insp ≤ rename_waits plan.options.tool_wait (is_some waits)
    by None none = idle Insp none
    by (Some request) some = insp_short

-- ONE TURN

module _ (plan : PlanData) (may : MayWait plan) (runs : IsRunnable plan) (journal : List Entry) (entry : Entry) (kept : IsKept plan journal) (run : IsRun plan journal entry) (going : IsGoing plan journal) (guarded : (work : Work) → (moment plan journal).tool.tool_phase ≡ Migrating work → HasSentryAtOnce work) (goes : TurnGoes plan journal entry) (is : IsPaid plan journal) where
  abbrev now : Moment
  now = moment plan journal

  abbrev tool : Tool
  tool = record now.tool { turns = now.tool.turns + 1 }

  abbrev more : List Entry
  more = journal ++ entry ∷ []

  abbrev has : Actor → Standing
  has = standing_of plan journal

  abbrev w : ℕ
  w = plan.options.tool_wait

  abbrev c : Bool
  c = has_counter plan

  -- what is paid, and when the inspector waits
  abbrev New : Kept
  New = λ b tool_phase. WaitsFor plan (standing_of plan more Insp).waits tool_phase × Paid plan (turns_at plan more) (live_at more) (inspects_at plan more) (waited_at plan more) tool_phase

  together : IsTogether plan journal
  together = going.standing.tabled.all.tool

  known : IsKnown plan journal
  known = together.known

  served : IsServed plan journal entry
  served = record { answered = run.answered; seated = record { session = run.followed.session } }

  setup_has : (setup : Setup) (tries : List ℕ) → now.tool.tool_phase ≡ SettingUp setup tries → SetupStands has
  setup_has setup tries eq = subst (ToolPhaseStands journal has (is_reverting now.tool.reason)) eq together.stands

  was_paid : (tool_phase : ToolPhase) → now.tool.tool_phase ≡ tool_phase → Paid plan (turns_at plan journal) (live_at journal) (inspects_at plan journal) (waited_at plan journal) tool_phase
  was_paid tool_phase eq = subst (Paid plan (turns_at plan journal) (live_at journal) (inspects_at plan journal) (waited_at plan journal)) eq is.paid

  -- COUNTS

  one_more : turns_at plan more ≤ turns_at plan journal + 1
  one_more = by (same_part OfAttempts (part_of plan journal entry)) refl where
    by : (b : Bool) → same_part OfAttempts (part_of plan journal entry) ≡ b → turns_at plan more ≤ turns_at plan journal + 1
    by true own = let count = count_yes OfAttempts plan journal entry own in omega (arith, count)
    by false other = let count = count_no OfAttempts plan journal entry other in omega (arith, count)

  none_more : same_part OfAttempts (part_by now.tool.tool_phase (live_session journal entry.actor) entry.side entry.actor entry.asked) ≡ false → turns_at plan more ≡ turns_at plan journal
  unfolding part_of
  none_more other = count_no OfAttempts plan journal entry other

  beside_same : IsBeside entry.actor → turns_at plan more ≡ turns_at plan journal
  beside_same beside = none_more (beside_part now.tool.tool_phase (live_session journal entry.actor) entry.side entry.actor entry.asked beside)

  cut_same : entry.asked ≡ Cut → turns_at plan more ≡ turns_at plan journal
  cut_same cut = none_more (ap (λ (a : Asked). same_part OfAttempts (part_by now.tool.tool_phase (live_session journal entry.actor) entry.side entry.actor a)) cut)

  waits_there : (a : Actor) → same_actor entry.actor a ≡ false → waited_by plan more a ≡ waited_by plan journal a
  waits_there a differ = others_wait plan may journal entry is.counted.together is.counted.clients is.counted.both.living run is.counted.few a differ

  own_waits : is_command entry.asked ≡ false → is_cut entry.asked ≡ false → waited_by plan more entry.actor ≡ waits_after entry.answer (waited_by plan journal entry.actor)
  own_waits called uncut = by entry.answer refl where
    by : (answer : Answer) → entry.answer ≡ answer → waited_by plan more entry.actor ≡ waits_after answer (waited_by plan journal entry.actor)
    by (answers.Waits one) same = (waits_on plan may journal entry is.counted.together is.counted.clients is.counted.both.living run is.counted.few one called uncut same).counts
    by answer same = waits_end plan may journal entry is.counted.together is.counted.clients is.counted.both.living run is.counted.few called uncut (λ one waits. let bad : answer ≡ answers.Waits one = sym same ∙ waits in cc)

  cut_waits : entry.asked ≡ Cut → waited_by plan more entry.actor ≡ 0
  cut_waits cut = waits_cut plan may journal entry is.counted.together is.counted.clients is.counted.both.living run is.counted.few cut

  live_there : same_actor entry.actor Insp ≡ false → live_at more ≡ live_at journal
  live_there differ = ap is_some (live_more journal entry Insp ∙ ap (λ (b : Bool). cond b (session_left entry.asked entry.answer entry.session) (live_session journal Insp)) differ)

  inspects_there : same_actor entry.actor Insp ≡ false → inspects_at plan more ≡ inspects_at plan journal
  inspects_there differ = ap (λ (s : Standing). is_some s.waits) (others_stand plan journal entry known served Insp differ)

  -- WHAT STAYS

  on : turns_at plan more ≡ turns_at plan journal → live_at more ≡ live_at journal → inspects_at plan more ≡ inspects_at plan journal → waited_at plan more ≡ waited_at plan journal → (tool_phase : ToolPhase) → now.tool.tool_phase ≡ tool_phase
      → Paid plan (turns_at plan more) (live_at more) (inspects_at plan more) (waited_at plan more) tool_phase
  on turns live inspects waited tool_phase eq = rw (turns, live, inspects, waited) (was_paid tool_phase eq)

  all_there : same_actor entry.actor Lock ≡ false → same_actor entry.actor Ren ≡ false → same_actor entry.actor Insp ≡ false → waited_at plan more ≡ waited_at plan journal
  all_there lock ren insp =
      let a = waits_there Lock lock in
      let b = waits_there Ren ren in
      let d = waits_there Insp insp in
      sums (waited_by plan more Lock) (waited_by plan more Ren) (waited_by plan more Insp) (waited_by plan journal Lock) (waited_by plan journal Ren) (waited_by plan journal Insp) a b d where
        sums : (a b d x y z : ℕ) → a ≡ x → b ≡ y → d ≡ z → a + b + d ≡ x + y + z
        sums a b d x y z one two three = omega (arith, one, two, three)

  beside_insp : (actor : Actor) → IsBeside actor → same_actor actor Insp ≡ false
  beside_insp Op beside = refl
  beside_insp Copy beside = refl
  beside_insp Apply beside = refl
  beside_insp (Client c) beside = refl
  beside_insp Insp beside = absurd beside
  beside_insp Lock beside = absurd beside
  beside_insp Ren beside = absurd beside

  beside_lock : (actor : Actor) → IsBeside actor → same_actor actor Lock ≡ false
  beside_lock Op beside = refl
  beside_lock Copy beside = refl
  beside_lock Apply beside = refl
  beside_lock (Client c) beside = refl
  beside_lock Insp beside = absurd beside
  beside_lock Lock beside = absurd beside
  beside_lock Ren beside = absurd beside

  beside_ren : (actor : Actor) → IsBeside actor → same_actor actor Ren ≡ false
  beside_ren Op beside = refl
  beside_ren Copy beside = refl
  beside_ren Apply beside = refl
  beside_ren (Client c) beside = refl
  beside_ren Insp beside = absurd beside
  beside_ren Lock beside = absurd beside
  beside_ren Ren beside = absurd beside

  beside_on : (actor : Actor) → entry.actor ≡ actor → IsBeside actor → (tool_phase : ToolPhase) → now.tool.tool_phase ≡ tool_phase → New false tool_phase
  beside_on actor same beside tool_phase eq =
      let apart : same_actor entry.actor Insp ≡ false = ap (λ (a : Actor). same_actor a Insp) same ∙ beside_insp actor beside in (
        beside_waits plan runs journal entry kept run going actor same (beside_insp actor beside) tool_phase eq,
        on (beside_same (subst IsBeside (sym same) beside)) (live_there apart) (inspects_there apart)
            (all_there (ap (λ (a : Actor). same_actor a Lock) same ∙ beside_lock actor beside) (ap (λ (a : Actor). same_actor a Ren) same ∙ beside_ren actor beside) apart) tool_phase eq,
      )

  -- in a phase that the turn has come to
  now_in : (phase : Phase) (renames : Bool) → WaitsWith plan (standing_of plan more Insp).waits phase renames → inspects_at plan more ≡ true → WaitsIn phase
  now_in phase renames waits = waits_in plan (standing_of plan more Insp).waits phase renames waits

  back : (b : Bool) (tool_phase : ToolPhase) → New b tool_phase → New true (stopped tool_phase)
  unfolding reverted
  back b (SettingUp setup tries) paid = paid
  back b (Migrating work) paid =
      let less = ends_all w c (live_at more) work.cutover.hold work.cutover.renamer_waits (inspects_at plan more) work.cutover.phase (now_in work.cutover.phase work.cutover.renamer_waits paid.0) in
      let old = paid.1 in (waits_back plan runs journal entry kept run going b (Migrating work) paid.0, omega (arith, less, old))

  drain : (b : Bool) (work : Work) (tries : List ℕ) → New b (Migrating work) → New b (Migrating (record work { cutover = applier_turn work.applier.hint work.cutover; attempt_tries = tries }))
  unfolding applier_turn
  drain b work tries paid =
      let less = drains_all w c (live_at more) work.cutover.hold work.cutover.renamer_waits (inspects_at plan more) work.cutover work.applier.hint work.cutover.phase (now_in work.cutover.phase work.cutover.renamer_waits paid.0) in
      let old = paid.1 in (waits_drain plan runs journal entry kept run going b work tries paid.0, omega (arith, less, old))

  -- a loss between calls is a loss
  lost_cut : entry.asked ≡ Cut → entry.answer ≡ answers.Lost
  lost_cut cut = by entry.side refl where
    by : (side : Option Side) → entry.side ≡ side → entry.answer ≡ answers.Lost
    by None none = sym (own_given plan journal entry known served none) ∙ ap (λ (a : Asked). (serves (opens entry (state_at plan journal)) entry.session a).answer) cut
    by (Some side) some = own_missed plan journal entry known served side some

  -- AFTER THE SETUP

  module _ (work : Work) (eq : now.tool.tool_phase ≡ Migrating work) where
    abbrev hold : Hold
    hold = work.cutover.hold

    abbrev renames : Bool
    renames = work.cutover.renamer_waits

    abbrev phase : Phase
    phase = work.cutover.phase

    stands : WorkStands journal (is_reverting now.tool.reason) has work
    stands = work_stands plan journal is.counted going work eq

    at : StandsAt plan (state_at plan journal).tables (has Insp).waits phase hold renames work.cutover.is_asked
    at = work_at plan journal is.counted going work eq

    old_paid : turns_at plan journal + all_left w c (live_at journal) hold renames (inspects_at plan journal) phase ≤ work.cutover.attempts * whole_left w c + waited_at plan journal
    old_paid = was_paid (Migrating work) eq

    inspects_so : inspects_at plan journal ≡ true → WaitsIn phase
    inspects_so = inspects_in plan journal is.counted going work eq

    lock_most : waited_by plan journal Lock ≤ hold_waits w hold
    lock_most = lock_waits plan journal is.counted going work eq

    ren_most : waited_by plan journal Ren ≤ rename_waits w renames
    ren_most = ren_waits plan journal is.counted going work eq

    -- THE LOCKER

    lock_join : (t s x n y m b a k l r i l' r' i' : ℕ) → s ≤ t + 1 → 1 + x + l ≤ y + b + l' → n ≤ m → t + (y + m) ≤ a + (l + r + i) → k ≡ a + b → r' ≡ r → i' ≡ i → s + (x + n) ≤ k + (l' + r' + i')
    lock_join t s x n y m b a k l r i l' r' i' one pays inspects old times same too = omega (arith, one, pays, inspects, old, times, same, too)

    lock_turn : entry.actor ≡ Lock → is_command entry.asked ≡ false → is_cut entry.asked ≡ false → Asking plan journal Lock entry.asked → (tries : List ℕ) → New (is_reverting now.tool.reason) (Migrating (record work { cutover = cutovers.took Locker work.cutover entry.answer; attempt_tries = tries }))
    unfolding cutovers.took
    lock_turn same called uncut asks tries =
        lock_about plan journal entry together run work eq stands asks (New (is_reverting now.tool.reason) (Migrating (record work { cutover = cutovers.locker_took work.cutover entry.answer; attempt_tries = tries })))
        (λ request about kind.
        let apart : same_actor entry.actor Insp ≡ false = ap (λ (a : Actor). same_actor a Insp) same in
        let pays = locker_pays w c (live_at journal) renames work.cutover.table request (waited_by plan journal Lock) hold phase entry.answer stands.phase at.renamer (guarded work eq).hold (hold_done plan journal is.counted going work eq) kind lock_most (λ locking. (goes work eq called uncut).locks locking same) (λ dropping. (goes work eq called uncut).drops dropping same) in
        let inspects = locked_inspects w c (live_at journal) hold renames (inspects_at plan journal) work.cutover.table request phase entry.answer stands.phase inspects_so kind in
        let waits : waited_by plan more Lock ≡ waits_after entry.answer (waited_by plan journal Lock) = ap (waited_by plan more) (sym same) ∙ own_waits called uncut ∙ ap (λ (a : Actor). waits_after entry.answer (waited_by plan journal a)) same in (
          waits_locked plan runs journal entry kept run going work same eq entry.answer tries,
          rw (live_there apart, inspects_there apart, waits)
              (lock_join (turns_at plan journal) (turns_at plan more) (attempt_left w c (live_at journal) (hold_after hold phase entry.answer) renames (locker_phase phase entry.answer)) (inspect_left w (inspects_at plan journal) (locker_phase phase entry.answer)) (attempt_left w c (live_at journal) hold renames phase)
              (inspect_left w (inspects_at plan journal) phase) (begun_left w c phase) (work.cutover.attempts * whole_left w c) (attempts_after phase work.cutover.attempts * whole_left w c) (waited_by plan journal Lock) (waited_by plan journal Ren) (waited_by plan journal Insp) (waits_after entry.answer (waited_by plan journal Lock))
              (waited_by plan more Ren) (waited_by plan more Insp) one_more pays inspects old_paid (begun_times w c work.cutover.attempts phase) (waits_there Ren (ap (λ (a : Actor). same_actor a Ren) same)) (waits_there Insp apart)),
        ))

    lost_join : (t s x y b a k l r i l' r' i' : ℕ) → s ≡ t → x + l ≤ y + b → t + y ≤ a + (l + r + i) → k ≡ a + b → l' ≡ 0 → r' ≡ r → i' ≡ i → s + x ≤ k + (l' + r' + i')
    lost_join t s x y b a k l r i l' r' i' none pays old times over same too = omega (arith, none, pays, old, times, over, same, too)

    lock_lost : entry.actor ≡ Lock → entry.asked ≡ Cut → (tries : List ℕ) → New (is_reverting now.tool.reason) (Migrating (record work { cutover = cutovers.took Locker work.cutover answers.Lost; attempt_tries = tries }))
    unfolding cutovers.took
    lock_lost same cut tries =
        let apart : same_actor entry.actor Insp ≡ false = ap (λ (a : Actor). same_actor a Insp) same in
        let pays = locker_gone w c (live_at journal) hold renames (inspects_at plan journal) work.cutover.table phase (waited_by plan journal Lock) stands.phase (guarded work eq).hold (hold_done plan journal is.counted going work eq) lock_most inspects_so in
        let over : waited_by plan more Lock ≡ 0 = ap (waited_by plan more) (sym same) ∙ cut_waits cut in (
          waits_locked plan runs journal entry kept run going work same eq answers.Lost tries,
          rw (live_there apart, inspects_there apart)
              (lost_join (turns_at plan journal) (turns_at plan more) (attempt_left w c (live_at journal) (hold_after hold phase answers.Lost) renames (locker_phase phase answers.Lost) + inspect_left w (inspects_at plan journal) (locker_phase phase answers.Lost)) (all_left w c (live_at journal) hold renames (inspects_at plan journal) phase)
              (begun_left w c phase) (work.cutover.attempts * whole_left w c) (attempts_after phase work.cutover.attempts * whole_left w c) (waited_by plan journal Lock) (waited_by plan journal Ren) (waited_by plan journal Insp) (waited_by plan more Lock) (waited_by plan more Ren) (waited_by plan more Insp)
              (cut_same cut) pays old_paid (begun_times w c work.cutover.attempts phase) over (waits_there Ren (ap (λ (a : Actor). same_actor a Ren) same)) (waits_there Insp apart)),
        )

    -- THE RENAMER

    -- the inspector doesn't wait meanwhile
    ren_inspects : Asking plan journal Ren entry.asked → inspects_at plan journal ≡ false
    ren_inspects asks = by (has Insp).waits refl where
      never : (request : Request) → SetsCounter plan phase request × (renames ≡ false) → AsksAt phase renames → ⊥
      never request one (inl drained_so) = subst (λ (p : Phase). SetsCounter plan p request) drained_so one.0
      never request one (inr on) = true≢false (sym on ∙ one.1)

      by : (waits : Option Request) → (has Insp).waits ≡ waits → is_some waits ≡ false
      by None none = refl
      by (Some request) some = absurd (never request (insp_waits plan runs journal entry kept run going (Migrating work) eq request some) (asks_at plan journal entry going.standing run work eq asks))

    ren_join : (t s x n y m a l r i l' r' i' : ℕ) → s ≤ t + 1 → 1 + x + r ≤ y + r' → n ≡ 0 → t + (y + m) ≤ a + (l + r + i) → l' ≡ l → i' ≡ i → s + (x + n) ≤ a + (l' + r' + i')
    ren_join t s x n y m a l r i l' r' i' one pays none old same too = omega (arith, one, pays, none, old, same, too)

    ren_turn : entry.actor ≡ Ren → is_command entry.asked ≡ false → is_cut entry.asked ≡ false → Asking plan journal Ren entry.asked → (tries : List ℕ) → New (is_reverting now.tool.reason) (Migrating (record work { cutover = cutovers.took Renamer work.cutover entry.answer; attempt_tries = tries }))
    unfolding cutovers.took
    ren_turn same called uncut asks tries =
        let apart : same_actor entry.actor Insp ≡ false = ap (λ (a : Actor). same_actor a Insp) same in
        let pays = renamer_pays w c (live_at journal) hold (waited_by plan journal Ren) renames phase entry.answer at.renamer (asks_at plan journal entry going.standing run work eq asks) (renames_done plan journal is.counted going work eq) ren_most (λ drained. (goes work eq called uncut).renames drained same) in
        let waits : waited_by plan more Ren ≡ waits_after entry.answer (waited_by plan journal Ren) = ap (waited_by plan more) (sym same) ∙ own_waits called uncut ∙ ap (λ (a : Actor). waits_after entry.answer (waited_by plan journal a)) same in (
          waits_renamed plan runs journal entry kept run going work same eq asks tries,
          rw (live_there apart, inspects_there apart, waits)
              (ren_join (turns_at plan journal) (turns_at plan more) (attempt_left w c (live_at journal) hold (is_wait entry.answer) (renamer_phase phase entry.answer)) (inspect_left w (inspects_at plan journal) (renamer_phase phase entry.answer)) (attempt_left w c (live_at journal) hold renames phase)
              (inspect_left w (inspects_at plan journal) phase) (work.cutover.attempts * whole_left w c) (waited_by plan journal Lock) (waited_by plan journal Ren) (waited_by plan journal Insp) (waited_by plan more Lock) (waits_after entry.answer (waited_by plan journal Ren)) (waited_by plan more Insp)
              one_more pays (off_inspects w (inspects_at plan journal) (renamer_phase phase entry.answer) (ren_inspects asks)) old_paid (waits_there Lock (ap (λ (a : Actor). same_actor a Lock) same)) (waits_there Insp apart)),
        )

    gone_join : (t s x y a l r i l' r' i' : ℕ) → s ≡ t → x + r ≤ y → t + y ≤ a + (l + r + i) → l' ≡ l → r' ≡ 0 → i' ≡ i → s + x ≤ a + (l' + r' + i')
    gone_join t s x y a l r i l' r' i' none pays old same over too = omega (arith, none, pays, old, same, over, too)

    ren_lost : entry.actor ≡ Ren → entry.asked ≡ Cut → (tries : List ℕ) → New (is_reverting now.tool.reason) (Migrating (record work { cutover = cutovers.took Renamer work.cutover answers.Lost; attempt_tries = tries }))
    unfolding cutovers.took
    ren_lost same cut tries =
        let apart : same_actor entry.actor Insp ≡ false = ap (λ (a : Actor). same_actor a Insp) same in
        let pays = renamer_gone w c (live_at journal) hold renames (inspects_at plan journal) phase (waited_by plan journal Ren) at.renamer (renames_done plan journal is.counted going work eq) ren_most inspects_so in
        let over : waited_by plan more Ren ≡ 0 = ap (waited_by plan more) (sym same) ∙ cut_waits cut in (
          waits_unrenamed plan runs journal entry kept run going work same eq tries,
          rw (live_there apart, inspects_there apart)
              (gone_join (turns_at plan journal) (turns_at plan more) (attempt_left w c (live_at journal) hold false (failed phase) + inspect_left w (inspects_at plan journal) (failed phase)) (all_left w c (live_at journal) hold renames (inspects_at plan journal) phase) (work.cutover.attempts * whole_left w c)
              (waited_by plan journal Lock) (waited_by plan journal Ren) (waited_by plan journal Insp) (waited_by plan more Lock) (waited_by plan more Ren) (waited_by plan more Insp) (cut_same cut) pays old_paid (waits_there Lock (ap (λ (a : Actor). same_actor a Lock) same)) over (waits_there Insp apart)),
        )

    -- THE INSPECTOR

    module _ (same : entry.actor ≡ Insp) where
      abbrev Pays : Phase → Phase → Type 0
      Pays before after = turns_at plan more + attempt_left w c (live_at more) hold renames after ≤ turns_at plan journal + attempt_left w c (live_at journal) hold renames before

      -- what is heard, or the session is lost in the turn
      heard_or : (P : Answer → Type 0) → (entry.side ≡ None → P entry.answer) → ((side : Side) → entry.side ≡ Some side → P answers.Lost) → P entry.answer
      heard_or P heard lost = by entry.side refl where
        by : (side : Option Side) → entry.side ≡ side → P entry.answer
        by None none = heard none
        by (Some side) some = subst P (sym (own_missed plan journal entry known served side some)) (lost side some)

      part_here : (request : Request) → entry.asked ≡ Call request → part_by now.tool.tool_phase (live_session journal entry.actor) entry.side entry.actor entry.asked ≡ phase_part (live_session journal Insp) entry.side (Call request) phase
      part_here request asks =
          ap (λ (a : Asked). part_by now.tool.tool_phase (live_session journal entry.actor) entry.side entry.actor a) asks
          ∙ ap (λ (a : Actor). part_by now.tool.tool_phase (live_session journal a) entry.side a (Call request)) same ∙ ap (λ (c : ToolPhase). part_by c (live_session journal Insp) entry.side Insp (Call request)) eq

      none_here : (request : Request) → entry.asked ≡ Call request → same_part OfAttempts (phase_part (live_session journal Insp) entry.side (Call request) phase) ≡ false → turns_at plan more ≡ turns_at plan journal
      none_here request asks other = none_more (ap (same_part OfAttempts) (part_here request asks) ∙ other)

      -- in an attempt
      stage_ends_here : (stage : Stage) → Pays (Attempting stage) (Ending Looking)
      stage_ends_here stage = let one = one_more in let ends = stage_ends w c (live_at more) hold renames stage in omega (arith, one, ends)

      -- the cut-over carries a counter where the plan's table has one
      own_counter : work.cutover.has_counter ≡ c
      own_counter = (subst (ToolPhaseIsNamed plan) eq (named plan journal)).counter

      hints_in : (b : Bool) → turns_at plan more + attempt_left w b (live_at more) hold renames (Attempting (cutovers.hinted b)) ≤ turns_at plan journal + attempt_left w b (live_at journal) hold renames (Attempting Hinting)
      hints_in true = let one = one_more in omega (arith, one)
      hints_in false = let one = one_more in omega (arith, one)

      hints : (answer : Answer) → IsOk answer → Pays (Attempting Hinting) (inspector_phase work.cutover (Attempting Hinting) answer)
      hints (answers.Ok count) done = subst (λ (b : Bool). Pays (Attempting Hinting) (Attempting (cutovers.hinted b))) (sym own_counter) (hints_in c)
      hints answer done = absurd done

      reads : (drain : Drain) (answer : Answer) → IsAt answer → Pays (Attempting (ReadingCounter drain)) (inspector_phase work.cutover (Attempting (ReadingCounter drain)) answer)
      reads drain (answers.At number) done = let one = one_more in omega (arith, one)
      reads drain answer done = absurd done

      shows : (answer : Answer) → ShowsWait answer → Pays (Attempting Showing) (inspector_phase work.cutover (Attempting Showing) answer)
      shows (answers.Waiting waiters) done = let one = one_more in rw done (omega (arith, one))
      shows answer done = absurd done

      -- at its end
      lost_live : (request : Request) → entry.asked ≡ Call request → (side : Side) → entry.side ≡ Some side → live_at more ≡ false
      lost_live request asks side some =
          ap is_some (live_more journal entry Insp ∙ ap (λ (a : Actor). cond (same_actor a Insp) (session_left entry.asked entry.answer entry.session) (live_session journal Insp)) same ∙ ap (λ (a : Asked). session_left a entry.answer entry.session) asks
          ∙ ap (λ (a : Answer). session_left (Call request) a entry.session) (own_missed plan journal entry known served side some))

      again_or : (live : Option ℕ) (side : Side) → is_again live (Some side) ≡ true
      again_or None side = refl
      again_or (Some n) side = refl

      lost_turns : (request : Request) → entry.asked ≡ Call request → (cleared : Cleared) → phase ≡ Ending cleared → (side : Side) → entry.side ≡ Some side → turns_at plan more ≡ turns_at plan journal
      lost_turns request asks cleared at_end side some =
          none_here request asks (ap (λ (p : Phase). same_part OfAttempts (phase_part (live_session journal Insp) entry.side (Call request) p)) at_end
          ∙ again_part (live_session journal Insp) entry.side request (ap (is_again (live_session journal Insp)) some ∙ again_or (live_session journal Insp) side))

      some_clear : (live : Bool) (cleared : Cleared) → 1 ≤ clear_left live cleared
      some_clear true Looking = omega arith
      some_clear false Looking = omega arith
      some_clear true (Drops left) = omega arith
      some_clear false (Drops left) = omega arith

      lost_ends : (request : Request) → entry.asked ≡ Call request → (cleared : Cleared) → phase ≡ Ending cleared → (side : Side) → entry.side ≡ Some side → Pays (Ending cleared) (Ending Looking)
      lost_ends request asks cleared at_end side some = rw (lost_live request asks side some) (let none = lost_turns request asks cleared at_end side some in let least = some_clear (live_at journal) cleared in omega (arith, none, least))

      look_turns : (request : Request) → entry.asked ≡ Call request → phase ≡ Ending Looking → entry.side ≡ None → turns_at plan more + 1 ≤ turns_at plan journal + clear_left (live_at journal) Looking
      look_turns request asks at_end none = by (live_session journal Insp) refl where
        by : (live : Option ℕ) → live_session journal Insp ≡ live → turns_at plan more + 1 ≤ turns_at plan journal + clear_left (is_some live) Looking
        by (Some n) lives = let one = one_more in omega (arith, one)
        by None gone =
            let same_turns = none_here request asks (ap (λ (p : Phase). same_part OfAttempts (phase_part (live_session journal Insp) entry.side (Call request) p)) at_end
            ∙ again_part (live_session journal Insp) entry.side request (ap (λ (l : Option ℕ). is_again l entry.side) gone)) in
            omega (arith, same_turns)

      looks : (request : Request) → entry.asked ≡ Call request → phase ≡ Ending Looking → entry.side ≡ None → (answer : Answer) → serves_to requests.ShowTables answer ≡ true → Pays (Ending Looking) (cutovers.ending_after work.cutover Looking answer)
      looks request asks at_end none (answers.Tables tables) fits_so =
          let least = look_turns request asks at_end none in let most = seen_left w c (live_at more) hold renames work.cutover tables in omega (arith, least, most)
      looks request asks at_end none answer fits_so = absurd cc

      drops : (left : Leftovers) (answer : Answer) → IsOk answer → Pays (Ending (Drops left)) (cutovers.ending_after work.cutover (Drops left) answer)
      drops left (answers.Ok count) done = let one = one_more in omega (arith, one)
      drops left answer done = absurd done

      insp_pays : is_command entry.asked ≡ false → is_cut entry.asked ≡ false → (one : Phase) → phase ≡ one → (request : Request) → entry.asked ≡ Call request → IsAbout request (has entry.actor) entry.asked → is_setting one ≡ false → attempts.inspector_call work.cutover one ≡ Some request → Pays one (inspector_phase work.cutover one entry.answer)
      insp_pays called uncut Resting at_phase request asks about unset call = absurd cc
      insp_pays called uncut Finished at_phase request asks about unset call = absurd cc
      insp_pays called uncut (Attempting Hinting) at_phase request asks about unset call =
          heard_or (λ (a : Answer). Pays (Attempting Hinting) (inspector_phase work.cutover (Attempting Hinting) a)) (λ none. hints entry.answer ((goes work eq called uncut).hints at_phase same none)) (λ side some. stage_ends_here Hinting)
      insp_pays called uncut (Attempting (ReadingCounter drain)) at_phase request asks about unset call =
          heard_or (λ (a : Answer). Pays (Attempting (ReadingCounter drain)) (inspector_phase work.cutover (Attempting (ReadingCounter drain)) a)) (λ none. reads drain entry.answer ((goes work eq called uncut).reads drain at_phase same none)) (λ side some. stage_ends_here (ReadingCounter drain))
      insp_pays called uncut (Attempting (SettingCounter number drain)) at_phase request asks about unset call = absurd (true≢false unset)
      insp_pays called uncut (Attempting Showing) at_phase request asks about unset call =
          heard_or (λ (a : Answer). Pays (Attempting Showing) (inspector_phase work.cutover (Attempting Showing) a)) (λ none. shows entry.answer ((goes work eq called uncut).shows at_phase same none)) (λ side some. stage_ends_here Showing)
      insp_pays called uncut (Attempting stage) at_phase request asks about unset call = absurd cc
      insp_pays called uncut (Ending Looking) at_phase request asks about unset call =
          heard_or (λ (a : Answer). Pays (Ending Looking) (cutovers.ending_after work.cutover Looking a))
          (λ none. looks request asks at_phase none entry.answer (subst (λ (r : Request). serves_to r entry.answer ≡ true) is_show (own_heard plan journal entry known served request about none))) (λ side some. lost_ends request asks Looking at_phase side some) where
            is_show : request ≡ requests.ShowTables
            is_show = by (is_free hold renames) call where
              by : (b : Bool) → cond b (clears work.cutover.table Looking) None ≡ Some request → request ≡ requests.ShowTables
              by true called_so = some_request (λ (r : Request). r ≡ requests.ShowTables) requests.ShowTables request called_so refl
              by false called_so = absurd cc
      insp_pays called uncut (Ending (Drops left)) at_phase request asks about unset call =
          heard_or (λ (a : Answer). Pays (Ending (Drops left)) (cutovers.ending_after work.cutover (Drops left) a)) (λ none. drops left entry.answer ((goes work eq called uncut).clears left at_phase same none))
          (λ side some. lost_ends request asks (Drops left) at_phase side some)
      insp_pays called uncut (Finishing cleared) at_phase request asks about unset call =
          let none = none_here request asks (ap (λ (p : Phase). same_part OfAttempts (phase_part (live_session journal Insp) entry.side (Call request) p)) at_phase) in
          let over = finished_left w c (live_at more) hold renames work.cutover cleared entry.answer in
          omega (arith, none, over)

      -- a note's row is no attempt's
      asked_pays : is_command entry.asked ≡ false → is_cut entry.asked ≡ false → is_setting phase ≡ false → (request : Request) → entry.asked ≡ Call request → IsAbout request (has entry.actor) entry.asked → Inspects plan journal now.tool work request → Pays phase (inspector_phase work.cutover phase entry.answer)
      unfolding attempts.next
      asked_pays called uncut unset request asks about (cuts_so off next) = insp_pays called uncut phase refl request asks about unset next
      asked_pays called uncut unset request asks about (notes_so note resting onward next) =
          subst (λ (p : Phase). Pays p (inspector_phase work.cutover p entry.answer)) (sym resting)
          (let none = none_here request asks (ap (λ (p : Phase). same_part OfAttempts (phase_part (live_session journal Insp) entry.side (Call request) p)) resting) in omega (arith, none))

      -- the locker and the renamer wait as before
      lock_there : waited_by plan more Lock ≡ waited_by plan journal Lock
      lock_there = waits_there Lock (ap (λ (a : Actor). same_actor a Lock) same)

      ren_there : waited_by plan more Ren ≡ waited_by plan journal Ren
      ren_there = waits_there Ren (ap (λ (a : Actor). same_actor a Ren) same)

      own_waited : is_command entry.asked ≡ false → is_cut entry.asked ≡ false → waited_by plan more Insp ≡ waits_after entry.answer (waited_by plan journal Insp)
      own_waited called uncut = ap (waited_by plan more) (sym same) ∙ own_waits called uncut ∙ ap (λ (a : Actor). waits_after entry.answer (waited_by plan journal a)) same

      abbrev Next : Phase → Type 0
      Next next = turns_at plan more + all_left w c (live_at more) hold renames (inspects_at plan more) next ≤ work.cutover.attempts * whole_left w c + waited_at plan more

      insp_join : (t s x n y m a l r i l' r' i' : ℕ) → s + x ≤ t + y → n ≡ 0 → t + (y + m) ≤ a + (l + r + i) → i ≤ 0 → l' ≡ l → r' ≡ r → s + (x + n) ≤ a + (l' + r' + i')
      insp_join t s x n y m a l r i l' r' i' pays none old idle lock ren = omega (arith, pays, none, old, idle, lock, ren)

      -- a call that has an answer
      other_calls : is_command entry.asked ≡ false → is_cut entry.asked ≡ false → is_setting phase ≡ false → (request : Request) → entry.asked ≡ Call request → Inspects plan journal now.tool work request → Next (inspector_phase work.cutover phase entry.answer)
      other_calls called uncut unset request asks call =
          insp_join (turns_at plan journal) (turns_at plan more) (attempt_left w c (live_at more) hold renames (inspector_phase work.cutover phase entry.answer)) (inspect_left w (inspects_at plan more) (inspector_phase work.cutover phase entry.answer)) (attempt_left w c (live_at journal) hold renames phase)
          (inspect_left w (inspects_at plan journal) phase) (work.cutover.attempts * whole_left w c) (waited_by plan journal Lock) (waited_by plan journal Ren) (waited_by plan journal Insp) (waited_by plan more Lock) (waited_by plan more Ren) (waited_by plan more Insp)
          (asked_pays called uncut unset request asks (about_own plan journal entry going.standing run Insp request same (is_called asks idle_now)) call)
          (off_inspects w (inspects_at plan more) (inspector_phase work.cutover phase entry.answer) (ap is_some (called_idle plan runs journal entry kept run going work eq same unset request asks call)))
          old_paid (idle plan journal is.counted going Insp idle_now) lock_there ren_there where
            idle_now : (has Insp).waits ≡ None
            idle_now = insp_idle plan runs journal entry kept run going same request asks

      set_join : (t s x y m a l r i l' r' i' : ℕ) → s ≤ t + 1 → 1 + x + i ≤ y + i' → t + (y + m) ≤ a + (l + r + i) → l' ≡ l → r' ≡ r → s + x ≤ a + (l' + r' + i')
      set_join t s x y m a l r i l' r' i' one pays old lock ren = omega (arith, one, pays, old, lock, ren)

      poll_join : (t s x y m z a l r i l' r' i' : ℕ) → s ≤ t + 1 → 1 + x + i ≤ y + z + i' → z ≤ m → t + (y + m) ≤ a + (l + r + i) → l' ≡ l → r' ≡ r → s + x ≤ a + (l' + r' + i')
      poll_join t s x y m z a l r i l' r' i' one pays less old lock ren = omega (arith, one, pays, less, old, lock, ren)

      -- the counter is set, or waits to be
      sets_on : is_command entry.asked ≡ false → is_cut entry.asked ≡ false → (number : ℕ) (drain : Drain) → phase ≡ Attempting (SettingCounter number drain) → Next (inspector_phase work.cutover phase entry.answer)
      sets_on called uncut number drain at_phase =
          subst (λ (p : Phase). Next (inspector_phase work.cutover p entry.answer)) (sym at_phase)
          (rw (own_waited called uncut)
          (set_join (turns_at plan journal) (turns_at plan more) (all_left w c (live_at more) hold renames (inspects_at plan more) (inspector_phase work.cutover (Attempting (SettingCounter number drain)) entry.answer)) (stage_left w c hold renames (SettingCounter number drain)) (inspect_left w (inspects_at plan journal) (Attempting (SettingCounter number drain)))
          (work.cutover.attempts * whole_left w c) (waited_by plan journal Lock) (waited_by plan journal Ren) (waited_by plan journal Insp) (waited_by plan more Lock) (waited_by plan more Ren) (waits_after entry.answer (waited_by plan journal Insp))
          one_more pays (subst (λ (p : Phase). turns_at plan journal + all_left w c (live_at journal) hold renames (inspects_at plan journal) p ≤ work.cutover.attempts * whole_left w c + waited_at plan journal) at_phase old_paid) lock_there ren_there)) where
            pays : 1 + all_left w c (live_at more) hold renames (inspects_at plan more) (inspector_phase work.cutover (Attempting (SettingCounter number drain)) entry.answer) + waited_by plan journal Insp
                ≤ stage_left w c hold renames (SettingCounter number drain) + waits_after entry.answer (waited_by plan journal Insp)
            pays =
                let one = sets_pays w c (live_at journal) hold renames (live_at more) (inspects_at plan more) work.cutover number drain entry.answer (waited_by plan journal Insp) (insp_short plan journal is.counted going) ((goes work eq called uncut).sets number drain at_phase same) in
                split (attempt_left w c (live_at more) hold renames (inspector_phase work.cutover (Attempting (SettingCounter number drain)) entry.answer)) (inspect_left w (inspects_at plan more) (inspector_phase work.cutover (Attempting (SettingCounter number drain)) entry.answer)) (waited_by plan journal Insp)
                (stage_left w c hold renames (SettingCounter number drain) + waits_after entry.answer (waited_by plan journal Insp)) one where
                  split : (x n i k : ℕ) → 1 + x + n + i ≤ k → 1 + (x + n) + i ≤ k
                  split x n i k less = omega (arith, less)

      -- the request that waits is polled at the attempt's end
      ends_on : is_command entry.asked ≡ false → is_cut entry.asked ≡ false → (request : Request) → entry.asked ≡ Poll → (has Insp).waits ≡ Some request → (number : ℕ) → request ≡ requests.SetCounter (ghost_name plan.table) number → phase ≡ Ending Looking → Next (inspector_phase work.cutover phase entry.answer)
      ends_on called uncut request polled some number sets at_phase =
          subst (λ (p : Phase). Next (inspector_phase work.cutover p entry.answer)) (sym at_phase)
          (rw (own_waited called uncut)
          (poll_join (turns_at plan journal) (turns_at plan more) (all_left w c (live_at more) hold renames (inspects_at plan more) (inspector_phase work.cutover (Ending Looking) entry.answer)) (attempt_left w c (live_at journal) hold renames (Ending Looking)) (inspect_left w (inspects_at plan journal) (Ending Looking)) (1 + w)
          (work.cutover.attempts * whole_left w c) (waited_by plan journal Lock) (waited_by plan journal Ren) (waited_by plan journal Insp) (waited_by plan more Lock) (waited_by plan more Ren) (waits_after entry.answer (waited_by plan journal Insp))
          one_more pays inspects (subst (λ (p : Phase). turns_at plan journal + all_left w c (live_at journal) hold renames (inspects_at plan journal) p ≤ work.cutover.attempts * whole_left w c + waited_at plan journal) at_phase old_paid) lock_there ren_there)) where
            about : IsAbout request (has entry.actor) entry.asked
            about = about_own plan journal entry going.standing run Insp request same (is_polled polled some)

            inspects : 1 + w ≤ inspect_left w (inspects_at plan journal) (Ending Looking)
            inspects = subst (λ (o : Option Request). 1 + w ≤ inspect_left w (is_some o) (Ending Looking)) (sym some) (omega arith)

            lives : live_at journal ≡ true
            lives = by (live_session journal Insp) refl where
              by : (live : Option ℕ) → live_session journal Insp ≡ live → is_some live ≡ true
              by (Some n) there = refl
              by None gone = none_some request (standing_in (state_at plan journal) None).waits refl (ap (λ (o : Option ℕ). (standing_in (state_at plan journal) o).waits) (sym gone) ∙ some)

            waits_or : (answer : Answer) → ((other : ℕ) → answer ≡ answers.Waits other → ⊥) ⊎ ((other : ℕ) × (answer ≡ answers.Waits other))
            waits_or (answers.Waits other) = inr (other, refl)
            waits_or answer = inl (λ other same_one. let no : answer ≡ answers.Waits other = same_one in cc)

            rests : ((other : ℕ) → entry.answer ≡ answers.Waits other → ⊥) → inspects_at plan more ≡ false
            rests never = ap is_some (none_waits (standing_of plan more Insp).waits (λ waiting is_waiting. let was = waited_is plan runs journal entry kept run going same request about waiting is_waiting in never was.0 was.1.0))

            pays : 1 + all_left w c (live_at more) hold renames (inspects_at plan more) (cutovers.ending_after work.cutover Looking entry.answer) + waited_by plan journal Insp
                ≤ attempt_left w c (live_at journal) hold renames (Ending Looking) + (1 + w) + waits_after entry.answer (waited_by plan journal Insp)
            pays =
                let one = polls_pay w c (live_at journal) hold renames (live_at more) (inspects_at plan more) entry.answer (waited_by plan journal Insp) (insp_short plan journal is.counted going) (waits_or entry.answer) rests in
                rw (polled_ends plan runs journal entry kept run going work.cutover number request about sets, lives)
                (split (attempt_left w c (live_at more) hold renames (Ending Looking)) (inspect_left w (inspects_at plan more) (Ending Looking)) (waited_by plan journal Insp) (attempt_left w c true hold renames (Ending Looking) + (1 + w) + waits_after entry.answer (waited_by plan journal Insp)) one) where
                  split : (x n i k : ℕ) → 1 + x + n + i ≤ k → 1 + (x + n) + i ≤ k
                  split x n i k less = omega (arith, less)

      -- by the phase
      called_on : is_command entry.asked ≡ false → is_cut entry.asked ≡ false → (one : Phase) → phase ≡ one → (request : Request) → entry.asked ≡ Call request → Inspects plan journal now.tool work request → Next (inspector_phase work.cutover phase entry.answer)
      called_on called uncut (Attempting (SettingCounter number drain)) at_phase request asks call = sets_on called uncut number drain at_phase
      called_on called uncut one at_phase request asks call = other_calls called uncut (ap is_setting at_phase) request asks call

      polled_on : is_command entry.asked ≡ false → is_cut entry.asked ≡ false → (one : Phase) → phase ≡ one → (request : Request) → entry.asked ≡ Poll → (has Insp).waits ≡ Some request → SetsCounter plan one request → Next (inspector_phase work.cutover phase entry.answer)
      polled_on called uncut (Attempting (SettingCounter number drain)) at_phase request polled some sets = sets_on called uncut number drain at_phase
      polled_on called uncut (Ending Looking) at_phase request polled some sets =
          ends_on called uncut request polled some sets.0 sets.1 at_phase
      polled_on called uncut one at_phase request polled some sets = absurd sets

      insp_turn : is_command entry.asked ≡ false → is_cut entry.asked ≡ false → Asking plan journal Insp entry.asked → (tries : List ℕ) → New (is_reverting now.tool.reason) (Migrating (record work { cutover = cutovers.took Inspector work.cutover entry.answer; attempt_tries = tries }))
      unfolding cutovers.took
      insp_turn called uncut (polls_so request asks some) tries =
          (inspected_waits plan runs journal entry kept run going work eq same (polls_so request asks some) tries, polled_on called uncut phase refl request asks some (insp_waits plan runs journal entry kept run going (Migrating work) eq request some).0)
      insp_turn called uncut (calls_so request asks idle_so call) tries =
          (inspected_waits plan runs journal entry kept run going work eq same (calls_so request asks idle_so call) tries, called_on called uncut phase refl request asks (inspects plan journal now.tool work request (ap (λ (p : ToolPhase). tool_call plan now.server journal now.tool p Insp) (sym eq) ∙ call)))

      lost_over : (t s x y a l r i l' r' i' : ℕ) → s ≡ t → x + i ≤ y → t + y ≤ a + (l + r + i) → l' ≡ l → r' ≡ r → s + (x + 0) ≤ a + (l' + r' + i')
      lost_over t s x y a l r i l' r' i' none pays old lock ren = omega (arith, none, pays, old, lock, ren)

      -- *Its session is lost* between calls, while it waits
      insp_lost : entry.asked ≡ Cut → inspects_at plan journal ≡ true → (tries : List ℕ) → New (is_reverting now.tool.reason) (Migrating (record work { cutover = cutovers.took Inspector work.cutover answers.Lost; attempt_tries = tries }))
      unfolding cutovers.took
      insp_lost cut on tries = (none_for plan (standing_of plan more Insp).waits (Migrating (record work { cutover = cutovers.took Inspector work.cutover answers.Lost; attempt_tries = tries })) gone, paid) where
        gone : (standing_of plan more Insp).waits ≡ None
        gone = gone_waits plan runs journal entry kept run going cut same

        unseated : live_at more ≡ false
        unseated =
            ap is_some (live_more journal entry Insp ∙ ap (λ (a : Actor). cond (same_actor a Insp) (session_left entry.asked entry.answer entry.session) (live_session journal Insp)) same ∙ ap (λ (a : Asked). session_left a entry.answer entry.session) cut
            ∙ ap (λ (a : Answer). session_left Cut a entry.session) (lost_cut cut))

        waits_so : WaitsIn phase
        waits_so = inspects_so on

        phase_is : (one : Phase) → WaitsIn one → inspector_phase work.cutover one answers.Lost ≡ Ending Looking
        phase_is (Attempting (SettingCounter number drain)) waits = refl
        phase_is (Ending Looking) waits = refl
        phase_is one waits = absurd waits

        pays : attempt_left w c false hold renames (Ending Looking) + waited_by plan journal Insp ≤ all_left w c (live_at journal) hold renames (inspects_at plan journal) phase
        pays = subst (λ (b : Bool). attempt_left w c false hold renames (Ending Looking) + waited_by plan journal Insp ≤ all_left w c (live_at journal) hold renames b phase) (sym on) (inspector_gone w c (live_at journal) hold renames phase (waited_by plan journal Insp) waits_so (insp_short plan journal is.counted going))

        paid : Next (inspector_phase work.cutover phase answers.Lost)
        paid =
            rw (phase_is phase waits_so, unseated, ap is_some gone)
            (lost_over (turns_at plan journal) (turns_at plan more) (attempt_left w c false hold renames (Ending Looking)) (all_left w c (live_at journal) hold renames (inspects_at plan journal) phase) (work.cutover.attempts * whole_left w c) (waited_by plan journal Lock) (waited_by plan journal Ren) (waited_by plan journal Insp)
            (waited_by plan more Lock) (waited_by plan more Ren) (waited_by plan more Insp) (cut_same cut) pays old_paid lock_there ren_there)

  -- THE SETUP

  setup_turns : entry.actor ≡ Insp → (setup : Setup) (tries : List ℕ) → now.tool.tool_phase ≡ SettingUp setup tries → turns_at plan more ≡ turns_at plan journal
  setup_turns same setup tries eq =
      none_more (ap (λ (a : Actor). same_part OfAttempts (part_by now.tool.tool_phase (live_session journal a) entry.side a entry.asked)) same ∙ ap (λ (c : ToolPhase). same_part OfAttempts (part_by c (live_session journal Insp) entry.side Insp entry.asked)) eq ∙ by entry.asked) where
        by : (asked : Asked) → same_part OfAttempts (part_by (SettingUp setup tries) (live_session journal Insp) entry.side Insp asked) ≡ false
        by (Call request) = refl
        by Poll = refl
        by Cut = refl
        by (Command word) = refl

  module _ (same : entry.actor ≡ Insp) (setup : Setup) (tries : List ℕ) (eq : now.tool.tool_phase ≡ SettingUp setup tries) (idle_now : (standing_of plan more Insp).waits ≡ None) where
    abbrev has_now : Option Request
    has_now = (standing_of plan more Insp).waits

    setup_join : (t s l r i l' r' i' : ℕ) → s ≡ t → t ≤ l + r + i → i ≤ 0 → l' ≡ l → r' ≡ r → s ≤ l' + r' + i'
    setup_join t s l r i l' r' i' none old rests lock ren = omega (arith, none, old, rests, lock, ren)

    paid : turns_at plan more ≤ waited_at plan more
    paid =
        setup_join (turns_at plan journal) (turns_at plan more) (waited_by plan journal Lock) (waited_by plan journal Ren) (waited_by plan journal Insp) (waited_by plan more Lock) (waited_by plan more Ren) (waited_by plan more Insp)
        (setup_turns same setup tries eq) (was_paid (SettingUp setup tries) eq) (idle plan journal is.counted going Insp (insp_rests plan runs journal entry kept run going (setup_rests plan runs journal entry kept run going setup tries eq)))
        (waits_there Lock (ap (λ (a : Actor). same_actor a Lock) same)) (waits_there Ren (ap (λ (a : Actor). same_actor a Ren) same))

    begins : (size : ℕ) (one : Setup) → New false (tool_phase_of plan size one tries)
    begins size (Ready position range) =
        (none_for plan has_now (tool_phase_of plan size (Ready position range) tries) idle_now, (let a = paid in let b = rest_inspects w (inspects_at plan more) in omega (arith, a, b)))
    begins size Listing = (none_for plan has_now (SettingUp Listing tries) idle_now, paid)
    begins size (Clearing left) = (none_for plan has_now (SettingUp (Clearing left) tries) idle_now, paid)
    begins size MakingLog = (none_for plan has_now (SettingUp MakingLog tries) idle_now, paid)
    begins size MakingGhost = (none_for plan has_now (SettingUp MakingGhost tries) idle_now, paid)
    begins size Marking = (none_for plan has_now (SettingUp Marking tries) idle_now, paid)
    begins size (Reaching position) = (none_for plan has_now (SettingUp (Reaching position) tries) idle_now, paid)

    setup_turn : (answer : Answer) → SetupKeeps plan New answer tool setup tries
    setup_turn answer = record {
      reverting = λ reverting. (none_for plan has_now (SettingUp setup tries) idle_now, paid);
      again = λ onward bad some. (none_for plan has_now (SettingUp Listing some) idle_now, paid);
      goes = λ onward good. begins tool.operator.size (setup_after plan.table setup answer);
    }

  -- EVERY ACTOR

  unfit_so : (work : Work) → New false (Migrating work) → UnfitKeeps New work
  unfit_so work one = record { renamed = λ renamed. one; reverts = back false (Migrating work) one }

  copy_so : (answer : Answer) (work : Work) → New false (Migrating work) → CopyKeeps New answer tool work
  copy_so answer work one = record { reverting = λ reverting. one; unfit = λ onward place number unfit. unfit_so work one; took = λ onward fits tries. one }

  apply_so : (answer : Answer) (work : Work) → New false (Migrating work) → ApplyKeeps New answer tool work
  apply_so answer work one = record { reverting = λ reverting. one; unfit = λ onward place number unfit. unfit_so work one; took = λ onward fits tries. one }

  none_asked : (actor : Actor) (tool_phase : ToolPhase) → now.tool.tool_phase ≡ tool_phase → has actor ≡ free → ((request : Request) → tool_call plan now.server journal now.tool tool_phase actor ≡ Some request → ⊥) → Asking plan journal actor entry.asked → ⊥
  none_asked actor tool_phase eq none no_call asks = no_asking plan journal entry going.standing run actor none (λ request call. no_call request (ap (λ (c : ToolPhase). tool_call plan now.server journal now.tool c actor) (sym eq) ∙ call)) asks

  heard_so : is_command entry.asked ≡ false → is_cut entry.asked ≡ false → (actor : Actor) → entry.actor ≡ actor → given plan journal actor ≡ Some entry.asked → (tool_phase : ToolPhase) → now.tool.tool_phase ≡ tool_phase → AnswerKeeps plan New entry.answer tool actor tool_phase
  unfolding given
  heard_so called uncut Insp same gives (SettingUp setup tries) eq = setup_turn same setup tries eq (setup_idle plan runs journal entry kept run going setup tries eq same (asking plan journal Insp entry.asked together.server gives)) entry.answer
  heard_so called uncut Insp same gives (Migrating work) eq = insp_turn work eq same called uncut (asking plan journal Insp entry.asked together.server gives)
  heard_so called uncut Copy same gives (SettingUp setup tries) eq = beside_on Copy same tt (SettingUp setup tries) eq
  heard_so called uncut Copy same gives (Migrating work) eq = copy_so entry.answer work (beside_on Copy same tt (Migrating work) eq)
  heard_so called uncut Apply same gives (SettingUp setup tries) eq = beside_on Apply same tt (SettingUp setup tries) eq
  heard_so called uncut Apply same gives (Migrating work) eq = apply_so entry.answer work (beside_on Apply same tt (Migrating work) eq)
  heard_so called uncut Lock same gives (SettingUp setup tries) eq = absurd (none_asked Lock (SettingUp setup tries) eq (setup_has setup tries eq).locker (λ request call. none-some request call) (asking plan journal Lock entry.asked together.server gives))
  heard_so called uncut Lock same gives (Migrating work) eq = lock_turn work eq same called uncut (asking plan journal Lock entry.asked together.server gives)
  heard_so called uncut Ren same gives (SettingUp setup tries) eq = absurd (none_asked Ren (SettingUp setup tries) eq (setup_has setup tries eq).renamer (λ request call. none-some request call) (asking plan journal Ren entry.asked together.server gives))
  heard_so called uncut Ren same gives (Migrating work) eq = ren_turn work eq same called uncut (asking plan journal Ren entry.asked together.server gives)
  heard_so called uncut Op same gives (SettingUp setup tries) eq = beside_on Op same tt (SettingUp setup tries) eq
  heard_so called uncut Op same gives (Migrating work) eq = beside_on Op same tt (Migrating work) eq
  heard_so called uncut (Client c) same gives (SettingUp setup tries) eq = beside_on (Client c) same tt (SettingUp setup tries) eq
  heard_so called uncut (Client c) same gives (Migrating work) eq = beside_on (Client c) same tt (Migrating work) eq

  -- A LOSS BETWEEN CALLS

  free_worked : entry.asked ≡ Cut → has_work now.server entry.session ≡ true → has entry.actor ≡ free → ⊥
  free_worked cut worked none =
      true≢false (sym worked ∙ ap (λ (s : State). has_work s entry.session) together.server
      ∙ free_idle (state_at plan journal) entry.session (ap (standing_in (state_at plan journal)) (sym (own_session plan journal entry known served (ap is_cut cut))) ∙ none))

  -- who had nothing hasn't waited
  idle_waits : entry.asked ≡ Cut → has_work now.server entry.session ≡ false → (a : Actor) → waited_by plan more a ≡ waited_by plan journal a
  idle_waits cut idle a = by (same_actor entry.actor a) refl where
    had : has entry.actor ≡ free
    had = ap (standing_in (state_at plan journal)) (own_session plan journal entry known served (ap is_cut cut)) ∙ idle_stands (state_at plan journal) entry.session (ap (λ (s : State). has_work s entry.session) (sym together.server) ∙ idle)

    by : (b : Bool) → same_actor entry.actor a ≡ b → waited_by plan more a ≡ waited_by plan journal a
    by false differ = waits_there a differ
    by true same =
        subst (λ (b : Actor). waited_by plan more b ≡ waited_by plan journal b) (same_actor_is entry.actor a same)
        (cut_waits cut ∙ sym (idle_waited (state_at plan journal) (live_session journal entry.actor) (ap (λ (s : Standing). s.waits) had)))

  idle_so : entry.asked ≡ Cut → has_work now.server entry.session ≡ false → New false now.tool.tool_phase
  idle_so cut idle = by (same_actor entry.actor Insp) refl where
    waited : waited_at plan more ≡ waited_at plan journal
    waited =
        let a = idle_waits cut idle Lock in
        let b = idle_waits cut idle Ren in
        let d = idle_waits cut idle Insp in
        sums (waited_by plan more Lock) (waited_by plan more Ren) (waited_by plan more Insp) (waited_by plan journal Lock) (waited_by plan journal Ren) (waited_by plan journal Insp) a b d where
          sums : (a b d x y z : ℕ) → a ≡ x → b ≡ y → d ≡ z → a + b + d ≡ x + y + z
          sums a b d x y z one two three = omega (arith, one, two, three)

    unseated : same_actor entry.actor Insp ≡ true → live_at more ≡ false
    unseated same =
        ap is_some (live_more journal entry Insp ∙ ap (λ (b : Bool). cond b (session_left entry.asked entry.answer entry.session) (live_session journal Insp)) same ∙ ap (λ (a : Asked). session_left a entry.answer entry.session) cut
        ∙ ap (λ (a : Answer). session_left Cut a entry.session) (lost_cut cut))

    -- the inspector's session had nothing
    had_none : entry.actor ≡ Insp → (has Insp).waits ≡ None
    had_none same =
        ap (λ (a : Actor). (has a).waits) (sym same)
        ∙ ap (λ (s : Standing). s.waits) (ap (standing_in (state_at plan journal)) (own_session plan journal entry known served (ap is_cut cut)) ∙ idle_stands (state_at plan journal) entry.session (ap (λ (s : State). has_work s entry.session) (sym together.server) ∙ idle))

    by : (b : Bool) → same_actor entry.actor Insp ≡ b → New false now.tool.tool_phase
    by false differ = (differ_waits plan runs journal entry kept run going differ now.tool.tool_phase refl, on (cut_same cut) (live_there differ) (inspects_there differ) waited now.tool.tool_phase refl)
    by true same =
        let one : entry.actor ≡ Insp = same_actor_is entry.actor Insp same in
        let gone = gone_waits plan runs journal entry kept run going cut one in (
          none_for plan (standing_of plan more Insp).waits now.tool.tool_phase gone,
          rw (cut_same cut, unseated same, ap is_some gone ∙ sym (ap is_some (had_none one)), waited) (unseated_paid plan (turns_at plan journal) (live_at journal) (inspects_at plan journal) (waited_at plan journal) now.tool.tool_phase is.paid),
        )

  lost_so : entry.asked ≡ Cut → has_work now.server entry.session ≡ true → (actor : Actor) → entry.actor ≡ actor → (tool_phase : ToolPhase) → now.tool.tool_phase ≡ tool_phase → AnswerKeeps plan New answers.Lost tool actor tool_phase
  lost_so cut worked Insp same (SettingUp setup tries) eq =
      absurd (free_worked cut worked (ap has same ∙ insp_free plan runs journal entry kept run going (insp_rests plan runs journal entry kept run going (setup_rests plan runs journal entry kept run going setup tries eq))))
  lost_so cut worked Insp same (Migrating work) eq = by (has Insp).waits refl where
    by : (waits : Option Request) → (has Insp).waits ≡ waits → AnswerKeeps plan New answers.Lost tool Insp (Migrating work)
    by None none = absurd (free_worked cut worked (ap has same ∙ insp_free plan runs journal entry kept run going none))
    by (Some request) some = insp_lost work eq same cut (ap is_some some)
  lost_so cut worked Copy same (SettingUp setup tries) eq = beside_on Copy same tt (SettingUp setup tries) eq
  lost_so cut worked Copy same (Migrating work) eq = copy_so answers.Lost work (beside_on Copy same tt (Migrating work) eq)
  lost_so cut worked Apply same (SettingUp setup tries) eq = beside_on Apply same tt (SettingUp setup tries) eq
  lost_so cut worked Apply same (Migrating work) eq = apply_so answers.Lost work (beside_on Apply same tt (Migrating work) eq)
  lost_so cut worked Lock same (SettingUp setup tries) eq = absurd (free_worked cut worked (ap has same ∙ (setup_has setup tries eq).locker))
  lost_so cut worked Lock same (Migrating work) eq = lock_lost work eq same cut
  lost_so cut worked Ren same (SettingUp setup tries) eq = absurd (free_worked cut worked (ap has same ∙ (setup_has setup tries eq).renamer))
  lost_so cut worked Ren same (Migrating work) eq = ren_lost work eq same cut
  lost_so cut worked Op same (SettingUp setup tries) eq = beside_on Op same tt (SettingUp setup tries) eq
  lost_so cut worked Op same (Migrating work) eq = beside_on Op same tt (Migrating work) eq
  lost_so cut worked (Client c) same (SettingUp setup tries) eq = beside_on (Client c) same tt (SettingUp setup tries) eq
  lost_so cut worked (Client c) same (Migrating work) eq = beside_on (Client c) same tt (Migrating work) eq

  -- COMMANDS

  command_so : (word : OperatorWord) → entry.asked ≡ Command word → (tool_phase : ToolPhase) → now.tool.tool_phase ≡ tool_phase → New false tool_phase
  command_so word asks = beside_on Op (commands_operator plan journal entry.actor word (subst (IsGiven plan journal entry) asks run.followed.given)) tt

  resize_so : (size : ℕ) → entry.asked ≡ Command (ChunkSize size) → (tool_phase : ToolPhase) → now.tool.tool_phase ≡ tool_phase → ResizeKeeps New tool size tool_phase
  resize_so size asks (SettingUp setup tries) eq = command_so _ asks (SettingUp setup tries) eq
  resize_so size asks (Migrating work) eq = command_so _ asks (Migrating work) eq

  uncut_of : (entry.asked ≡ Cut → ⊥) → is_cut entry.asked ≡ false
  uncut_of called = by entry.asked called where
    by : (asked : Asked) → (asked ≡ Cut → ⊥) → is_cut asked ≡ false
    by Cut called = absurd (called refl)
    by (Call request) called = refl
    by Poll called = refl
    by (Command word) called = refl

  called_of : ((word : OperatorWord) → entry.asked ≡ Command word → ⊥) → is_command entry.asked ≡ false
  called_of commanded = by entry.asked commanded where
    by : (asked : Asked) → ((word : OperatorWord) → asked ≡ Command word → ⊥) → is_command asked ≡ false
    by (Command word) commanded = absurd (commanded word refl)
    by (Call request) commanded = refl
    by Poll commanded = refl
    by Cut commanded = refl

  both_more : WaitsFor plan (standing_of plan more Insp).waits (moment plan more).tool.tool_phase × Paid plan (turns_at plan more) (live_at more) (inspects_at plan more) (waited_at plan more) (moment plan more).tool.tool_phase
  both_more =
      turn_kept plan New back journal entry drain
      (record {
        commanded = λ word asks unsized. command_so word asks now.tool.tool_phase refl;
        resized = λ size asks. resize_so size asks now.tool.tool_phase refl;
        idle = λ asks none. idle_so asks none;
        lost = λ asks worked. lost_so asks worked entry.actor refl now.tool.tool_phase refl;
        heard = λ called commanded. heard_so (called_of commanded) (uncut_of called) entry.actor refl (gives_asked plan journal entry entry.asked run.followed.given refl called) now.tool.tool_phase refl;
      })

  paid_more : Paid plan (turns_at plan more) (live_at more) (inspects_at plan more) (waited_at plan more) (moment plan more).tool.tool_phase
  paid_more = both_more.1

-- EVERY JOURNAL

paid_begins : (plan : PlanData) → IsRunnable plan → IsPaid plan []
unfolding moment live_session
paid_begins plan runs = record { counted = counted_begins plan runs.fitting.scripts; paid = let none = count_none OfAttempts plan in omega (arith, none) }

all_paid : (plan : PlanData) (journal : List Entry) → MayWait plan → IsRunnable plan → IsSerialPlan plan → IsKept plan journal → ((before : List Entry) (entry : Entry) → IsKept plan (before ++ entry ∷ []) → TurnGoes plan before entry) → IsPaid plan journal
all_paid plan journal may runs serial kept goes =
    each_kept plan (IsPaid plan)
    (λ before entry one is.
    let front : IsKept plan before = kept_front plan before (entry ∷ []) one in
    let run : IsRun plan before entry = kept_run plan before entry one in
    record {
      counted = counted_more plan may before entry run is.counted;
      paid = paid_more plan may runs before entry front run (all_going plan before runs serial front) (λ work eq. sentries_made plan before work runs serial front eq) (goes before entry one) is;
    }) journal kept (paid_begins plan runs)

-- *The attempts' turns are few*
pub attempt_turns_few : AttemptTurnsAreFew
unfolding term_of measures
attempt_turns_few plan journal may tries runs serial kept = by (moment plan journal).tool.tool_phase refl is.paid where
  is : IsPaid plan journal
  is = all_paid plan journal may runs serial kept (λ before entry one. attempts_go plan before entry tries runs serial one)

  going : IsGoing plan journal
  going = all_going plan journal runs serial kept

  setup_stands : (setup : Setup) (tries : List ℕ) → (moment plan journal).tool.tool_phase ≡ SettingUp setup tries → SetupStands (standing_of plan journal)
  setup_stands setup tries eq = subst (ToolPhaseStands journal (standing_of plan journal) (is_reverting (moment plan journal).tool.reason)) eq going.standing.tabled.all.tool.stands

  times : (a b k : ℕ) → a ≤ b → a * k ≤ b * k
  times a b k less = grind (arith, less)

  join : (t y a k l r i h n m : ℕ) → t + y ≤ a + (l + r + i) → a ≤ k → l ≤ h → r ≤ n → i ≤ m → h + n + m ≤ y → t ≤ k
  join t y a k l r i h n m paid most lock ren insp left = omega (arith, paid, most, lock, ren, insp, left)

  -- the bound's words for the same
  whole_is : (w : ℕ) (b : Bool) → whole_left w b ≡ (2 + cond b 1 0) * w + 10 + 2 * cond b 1 0
  whole_is w true = omega arith
  whole_is w false = omega arith

  bounded : turns_at plan journal ≤ plan.options.default_retries * whole_left plan.options.tool_wait (has_counter plan) → turns_at plan journal ≤ plan.options.default_retries * ((2 + cond (has_counter plan) 1 0) * plan.options.tool_wait + 10 + 2 * cond (has_counter plan) 1 0)
  bounded less = subst (λ (n : ℕ). turns_at plan journal ≤ plan.options.default_retries * n) (whole_is plan.options.tool_wait (has_counter plan)) less

  by : (tool_phase : ToolPhase) → (moment plan journal).tool.tool_phase ≡ tool_phase → Paid plan (turns_at plan journal) (live_at journal) (inspects_at plan journal) (waited_at plan journal) tool_phase → turns_at plan journal ≤ plan.options.default_retries * ((2 + cond (has_counter plan) 1 0) * plan.options.tool_wait + 10 + 2 * cond (has_counter plan) 1 0)
  by (SettingUp setup tries) eq paid =
      let stands = setup_stands setup tries eq in
      let lock = idle plan journal is.counted going Lock (ap (λ (s : Standing). s.waits) stands.locker) in
      let ren = idle plan journal is.counted going Ren (ap (λ (s : Standing). s.waits) stands.renamer) in
      let insp = idle plan journal is.counted going Insp (none_waits (standing_of plan journal Insp).waits (subst (WaitsFor plan (standing_of plan journal Insp).waits) eq going.waits)) in
      bounded (none_of (turns_at plan journal) (waited_by plan journal Lock) (waited_by plan journal Ren) (waited_by plan journal Insp) (plan.options.default_retries * whole_left plan.options.tool_wait (has_counter plan)) paid lock ren insp) where
        none_of : (t l r i k : ℕ) → t ≤ l + r + i → l ≤ 0 → r ≤ 0 → i ≤ 0 → t ≤ k
        none_of t l r i k paid lock ren insp = omega (arith, paid, lock, ren, insp)
  by (Migrating work) eq paid =
      let most = times work.cutover.attempts plan.options.default_retries (whole_left plan.options.tool_wait (has_counter plan)) (attempts_few plan journal work tries.some kept.faithful kept.follows eq) in
      bounded (join (turns_at plan journal) (all_left plan.options.tool_wait (has_counter plan) (live_at journal) work.cutover.hold work.cutover.renamer_waits (inspects_at plan journal) work.cutover.phase) (work.cutover.attempts * whole_left plan.options.tool_wait (has_counter plan)) (plan.options.default_retries * whole_left plan.options.tool_wait (has_counter plan))
      (waited_by plan journal Lock) (waited_by plan journal Ren) (waited_by plan journal Insp) (hold_waits plan.options.tool_wait work.cutover.hold) (rename_waits plan.options.tool_wait work.cutover.renamer_waits) (rename_waits plan.options.tool_wait (inspects_at plan journal))
      paid most (lock_waits plan journal is.counted going work eq) (ren_waits plan journal is.counted going work eq) (insp_waited_most plan journal is.counted going)
      (waits_all plan.options.tool_wait (has_counter plan) (live_at journal) work.cutover.hold work.cutover.renamer_waits (inspects_at plan journal) work.cutover.phase (work_stands plan journal is.counted going work eq).phase (work_at plan journal is.counted going work eq).renamer (sentries_made plan journal work runs serial kept eq).hold (hold_done plan journal is.counted going work eq) (renames_done plan journal is.counted going work eq) (inspects_in plan journal is.counted going work eq)))
