-- What the journal tells of the cut-over goes with the tool's course, through each turn.
use Rattle.std.proofs.Common.{◌≡◌, ◌⊎◌, ℕ, ◌+◌, ◌<◌, ◌==◌, Bool, true, false, cond, List, [], ◌∷◌, ◌++◌, Option, Some, None, refl, sym, ap, ◌∙◌, subst, inl, inr, arith}
use Rattle.std.specs.List.{list_any}
use Rattle.std.specs.Str.{bytes_eq}
use Rattle.std.proofs.Math.Bool.{or-true}
use Rattle.std.proofs.lemmas.Bool.{true≢false, false≢true}
use Rattle.std.proofs.lemmas.Option.{none-some}
use Rattle.base_script.specs.declared.actor.Actor.{Actor}
use Rattle.base_script.specs.declared.actor.Actor.TheVariants.{Op, Insp, Copy, Apply, Lock, Ren, Client}
use Rattle.base_script.specs.declared.actor.Side.{Side}
use Rattle.base_script.specs.declared.operator.OperatorWord.{OperatorWord}
use Rattle.base_script.specs.declared.operator.OperatorWord.TheVariants.{ChunkSize}
use Rattle.base_values.specs.ToolNames.{old_name}
use Rattle.server_model.specs.declared.answer.Answer.{Answer}
use Rattle.server_model.specs.declared.answer.Answer.TheVariants as answers
use Rattle.server_model.specs.declared.entry.Asked.{Asked}
use Rattle.server_model.specs.declared.entry.Asked.TheVariants.{Call, Poll, Command, Cut}
use Rattle.server_model.specs.declared.entry.Entry.{Entry}
use Rattle.server_model.specs.declared.listing.ShownWaiter.{ShownWaiter}
use Rattle.server_model.specs.declared.request.Request.{Request}
use Rattle.server_model.specs.declared.request.Request.TheVariants as requests
use Rattle.server_model.specs.declared.session.Waiting.{Waiting}
use Rattle.server_model.specs.Entries.{same_actor, is_client, is_command, is_cut}
use Rattle.server_model.specs.Listings.{waits_shown}
use Rattle.server_model.specs.PlainServer.{serves}
use Rattle.server_model.specs.States.{State, has_work, waiting_of}
use Rattle.server_model.proofs.LockedRows.Tests.{same_bytes}
use Rattle.plan_data.specs.PlanData.{PlanData}
use Rattle.tool_program.specs.JournalWords.Journals.{opens, state_at}
use Rattle.tool_program.specs.JournalWords.Sessions.{live_session, session_left}
use Rattle.tool_program.specs.EventApplier.Appliers as appliers
use Rattle.tool_program.specs.declared.cutover_core.cutover.CutOver.{CutOver}
use Rattle.tool_program.specs.declared.cutover_core.cutover.Hold.{Hold}
use Rattle.tool_program.specs.declared.cutover_core.cutover.Hold.TheVariants.{Nothing, WaitsToGuard, WaitsToLock, Locks}
use Rattle.tool_program.specs.declared.cutover_core.cutover.Phase.{Phase}
use Rattle.tool_program.specs.declared.cutover_core.cutover.Phase.TheVariants.{Resting, Attempting, Ending, Finishing, Finished}
use Rattle.tool_program.specs.declared.cutover_core.cutover.Role.TheVariants.{Inspector, Locker, Renamer}
use Rattle.tool_program.specs.declared.cutover_core.cutover.Stage.TheVariants.{Drained, Showing}
use Rattle.tool_program.specs.CutoverCore.Attempts as attempts
use Rattle.tool_program.specs.CutoverCore.Attempts.{exchange}
use Rattle.tool_program.specs.CutoverCore.CutOvers as cutovers
use Rattle.tool_program.specs.CutoverCore.CutOvers.{applier_turn, is_wait, reverted}
use Rattle.tool_program.specs.Programs.{given, IsGiven, tool_call, apply_call, rolls_back, in_transaction}
use Rattle.tool_program.specs.Setups.{Setup, Listing, Clearing, MakingLog, MakingGhost, Marking, Reaching, Ready, setup_after}
use Rattle.tool_program.specs.Tools.{Work, ToolPhase, SettingUp, Migrating, Tool, Moment, stopped, is_reverting, tool_phase_of, moment}
use Rattle.tool_program.proofs.OnlineCalls.Machines.{ToolPhaseIsNamed, named}
use Rattle.proof_journals.specs.Turns.{request_of}
use Rattle.proof_journals.specs.Machine.Machines.{ToolPhaseStands, WorkStands, SetupStands, applier_asks, both_names, held, renaming}
use Rattle.proof_journals.specs.Machine.Standings.{Standing, free, standing_in, standing_of, answers_to, IsAbout, is_called, is_polled}
use Rattle.proof_journals.proofs.Actors.{Placed, Commands, GoesOn, Begins, live_more, placed, same_actor_itself}
use Rattle.proof_journals.proofs.Journals.{opened_waits}
use Rattle.proof_journals.proofs.Machine.Asking.{idle_stands, some_request}
use Rattle.proof_journals.proofs.Machine.CuttingOver.{LockerAsks}
use Rattle.proof_journals.proofs.Machine.Fitting.{IsPrompt}
use Rattle.proof_journals.proofs.Machine.Inspecting.{inspects_or}
use Rattle.proof_journals.proofs.Machine.Journals.{IsRun, IsTogether, Asking, calls_so, polls_so, asking, lock_about, apply_about}
use Rattle.proof_journals.proofs.Machine.Seated.{IsKnown, IsServed, own_fits, own_given, own_missed, own_prompt, own_session}
use Rattle.proof_journals.proofs.Machine.Tabling.{back_quiet, free_idle}
use Rattle.proof_migration.proofs.Attempt.Stages.{RenamerAt, StandsAt}
use Rattle.proof_migration.specs.InspectorWaits.{IsSettingCounter}
use Rattle.proof_migration.proofs.Attempt.Standing.{IsStanding, ToolPhaseAt, no_asking, none_some}
use Rattle.proof_migration.proofs.ToolPhase.Owners.{commands_operator}
use Rattle.proof_migration.proofs.ToolPhase.ToolPhaseTurns.{Kept, UnfitKeeps, CopyKeeps, ApplyKeeps, SetupKeeps, AnswerKeeps, ResizeKeeps, turn_kept, gives_asked}
use Rattle.proof_migration.proofs.Program.Holds.Live.{nothing_held, nothing_waits}
use Rattle.proof_order.specs.CutOverOrder.{waits_so, has_session, hints_after, Hints}
use Rattle.proof_order.proofs.Words.{Words, words, words_after, words_more, words_begin}
use Rattle.proof_order.proofs.Phases.{PhaseOrder, passes_more, ended_order, drained_order}
use Rattle.proof_order.proofs.Hints.{AppliedAt, AsksSo, calls_it, polls_it, took_applied, unfit_same, passed_more}
use Rattle.proof_order.proofs.Needs.{NeedsNames, needs_more}
use Rattle.proof_order.proofs.Waits.{ShownBy, show_called, shows_session}
use Rattle.proof_order.proofs.Roles.{OrderedAt, LockerAnswered, lost_holds, ended_done, drained_done, locker_order, locker_lost_order, renamer_calls, renamer_polls, renamer_lost_order, renaming_off, inspector_order, noted_order, polled_order, inspector_lost_order}

-- WHAT IS SO

-- while the setup goes on no attempt was begun
pub record SetupOrdered (so_far : Words) : Type 0 where
  pub begun : so_far.begun ≡ 0
  pub locker : LockerAnswered so_far.call so_far.answer Nothing
  pub renamer : waits_so so_far.renamer ≡ false
  pub renaming : so_far.renaming ≡ false
  pub last : so_far.hints.last ≡ 0

abbrev pub ToolPhaseOrdered : PlanData → Words → Option ℕ → ToolPhase → Type 0
ToolPhaseOrdered plan so_far live (SettingUp setup tries) = SetupOrdered so_far
ToolPhaseOrdered plan so_far live (Migrating work) =
    OrderedAt plan so_far live work.cutover.attempts work.cutover.hold work.cutover.renamer_waits work.cutover.is_asked work.cutover.drops_old work.cutover.phase work.applier

pub record IsOrdered (plan : PlanData) (journal : List Entry) : Type 0 where
  pub needs : NeedsNames plan journal
  pub tool_phase : ToolPhaseOrdered plan (words plan journal) (live_session journal Ren) (moment plan journal).tool.tool_phase

-- SMALL FACTS

renaming_waits : (table : List ℕ) (waits : Bool) (request : Request) → (renaming table waits).waits ≡ Some request → waits ≡ true
renaming_waits table true request is = refl
renaming_waits table false request is = absurd cc

-- a wait leaves the session live
wait_left : (asked : Asked) (answer : Answer) (session : ℕ) → is_command asked ≡ false → is_wait answer ≡ true → session_left asked answer session ≡ Some session
wait_left (Command word) answer session called waits = absurd (true≢false called)
wait_left (Call request) (answers.Waits by) session called waits = refl
wait_left Poll (answers.Waits by) session called waits = refl
wait_left Cut (answers.Waits by) session called waits = refl
wait_left asked answer session called waits = absurd (false≢true waits)

renamer_next : (cutover : CutOver) (phase : Phase) (request : Request) → attempts.renamer_call cutover phase ≡ Some request → (phase ≡ Attempting Drained) × (request ≡ exchange cutover.table)
renamer_next cutover (Attempting Drained) request is = (refl, some_request (λ r. r ≡ exchange cutover.table) (exchange cutover.table) request is refl)
renamer_next cutover (Attempting stage) request is = absurd cc
renamer_next cutover Resting request is = absurd cc
renamer_next cutover (Ending clearing) request is = absurd cc
renamer_next cutover (Finishing clearing) request is = absurd cc
renamer_next cutover Finished request is = absurd cc

-- ONE TURN

module _ (plan : PlanData) (journal : List Entry) (entry : Entry) (run : IsRun plan journal entry) (standing : IsStanding plan journal) (waits_so : (request : Request) → (standing_of plan journal Insp).waits ≡ Some request → IsSettingCounter plan (moment plan journal).tool.tool_phase request) (is : IsOrdered plan journal) where
  abbrev now : Moment
  now = moment plan journal

  abbrev tool : Tool
  tool = record now.tool { turns = now.tool.turns + 1 }

  abbrev more : List Entry
  more = journal ++ entry ∷ []

  abbrev has : Actor → Standing
  has = standing_of plan journal

  abbrev so_far : Words
  so_far = words plan journal

  abbrev live : Option ℕ
  live = live_session journal Ren

  abbrev now_live : Option ℕ
  now_live = live_session more Ren

  abbrev New : Kept
  New = λ b tool_phase. ToolPhaseOrdered plan (words plan more) now_live tool_phase

  together : IsTogether plan journal
  together = standing.tabled.all.tool

  known : IsKnown plan journal
  known = together.known

  served : IsServed plan journal entry
  served = record { answered = run.answered; seated = record { session = run.followed.session } }

  work_has : (work : Work) → now.tool.tool_phase ≡ Migrating work → WorkStands journal (is_reverting now.tool.reason) has work
  work_has work eq = subst (ToolPhaseStands journal has (is_reverting now.tool.reason)) eq together.stands

  setup_has : (setup : Setup) (tries : List ℕ) → now.tool.tool_phase ≡ SettingUp setup tries → SetupStands has
  setup_has setup tries eq = subst (ToolPhaseStands journal has (is_reverting now.tool.reason)) eq together.stands

  old_at : (tool_phase : ToolPhase) → now.tool.tool_phase ≡ tool_phase → ToolPhaseOrdered plan so_far live tool_phase
  old_at tool_phase eq = subst (ToolPhaseOrdered plan so_far live) eq is.tool_phase

  work_at : (work : Work) → now.tool.tool_phase ≡ Migrating work → StandsAt plan (state_at plan journal).tables (has Insp).waits work.cutover.phase work.cutover.hold work.cutover.renamer_waits work.cutover.is_asked
  work_at work eq = subst (ToolPhaseAt plan (state_at plan journal).tables (has Insp).waits) eq standing.tool_phase

  own_table : (work : Work) → now.tool.tool_phase ≡ Migrating work → work.cutover.table ≡ plan.table
  own_table work eq = (subst (ToolPhaseIsNamed plan) eq (named plan journal)).cutover

  applier_table : (work : Work) → now.tool.tool_phase ≡ Migrating work → work.applier.table ≡ plan.table
  applier_table work eq = (subst (ToolPhaseIsNamed plan) eq (named plan journal)).applier

  -- WHAT IS TOLD BEHIND IT

  words_by : (actor : Actor) (asked : Asked) (answer : Answer) → entry.actor ≡ actor → entry.asked ≡ asked → entry.answer ≡ answer → words plan more ≡ words_after plan actor entry.session asked answer so_far
  words_by actor asked answer who asks replies =
      words_more plan journal entry ∙ ap (λ (a : Actor). words_after plan a entry.session entry.asked entry.answer so_far) who ∙ ap (λ (a : Asked). words_after plan actor entry.session a entry.answer so_far) asks
      ∙ ap (λ (a : Answer). words_after plan actor entry.session asked a so_far) replies

  live_other : (actor : Actor) → entry.actor ≡ actor → same_actor actor Ren ≡ false → now_live ≡ live
  live_other actor who differ = live_more journal entry Ren ∙ ap (λ (b : Bool). cond b (session_left entry.asked entry.answer entry.session) live) (ap (λ (a : Actor). same_actor a Ren) who ∙ differ)

  live_own : entry.actor ≡ Ren → is_command entry.asked ≡ false → is_wait entry.answer ≡ true → now_live ≡ Some entry.session
  live_own who called waits =
      live_more journal entry Ren ∙ ap (λ (b : Bool). cond b (session_left entry.asked entry.answer entry.session) live) (ap (λ (a : Actor). same_actor a Ren) who ∙ same_actor_itself Ren)
      ∙ wait_left entry.asked entry.answer entry.session called waits

  -- a turn of another actor's than the renamer's leaves this
  leaves : (actor : Actor) (asked : Asked) (answer : Answer) → entry.actor ≡ actor → entry.asked ≡ asked → entry.answer ≡ answer → same_actor actor Ren ≡ false → (tool_phase : ToolPhase)
      → ToolPhaseOrdered plan (words_after plan actor entry.session asked answer so_far) live tool_phase → ToolPhaseOrdered plan (words plan more) now_live tool_phase
  leaves actor asked answer who asks replies differ tool_phase at =
      subst (λ (w : Words). ToolPhaseOrdered plan w now_live tool_phase) (sym (words_by actor asked answer who asks replies)) (subst (λ (l : Option ℕ). ToolPhaseOrdered plan (words_after plan actor entry.session asked answer so_far) l tool_phase) (sym (live_other actor who differ)) at)

  renamer_leaves : (asked : Asked) (answer : Answer) → entry.actor ≡ Ren → entry.asked ≡ asked → entry.answer ≡ answer → (tool_phase : ToolPhase) → ToolPhaseOrdered plan (words_after plan Ren entry.session asked answer so_far) now_live tool_phase → ToolPhaseOrdered plan (words plan more) now_live tool_phase
  renamer_leaves asked answer who asks replies tool_phase at = subst (λ (w : Words). ToolPhaseOrdered plan w now_live tool_phase) (sym (words_by Ren asked answer who asks replies)) at

  -- WHAT NO ANSWER CHANGES

  back : (b : Bool) (tool_phase : ToolPhase) → New b tool_phase → New true (stopped tool_phase)
  unfolding reverted
  back b (SettingUp setup tries) at = at
  back b (Migrating work) at = record {
    begun = at.begun;
    locker = at.locker;
    renamer = at.renamer;
    session = at.session;
    phase_is = ended_order plan (words plan more).shown.shown (words plan more).hints.passed (words plan more).renaming (words plan more).listed work.cutover.attempts work.cutover.is_asked work.cutover.phase at.phase_is;
    applied = at.applied;
    may_drop = at.may_drop;
    done = ended_done work.cutover.phase work.cutover.hold work.cutover.renamer_waits (words plan more).renamed at.done;
  }

  -- the hint row of the attempt was passed
  passed : (hint attempt : ℕ) (all : List ℕ) → (hint ≡ 0) ⊎ (list_any (λ one. one == hint) all ≡ true) → 0 < attempt → hint ≡ attempt → list_any (λ one. one == attempt) all ≡ true
  passed hint attempt all (inl none) some same = absurd (omega (arith, none, some, same))
  passed hint attempt all (inr among) some same = subst (λ (n : ℕ). list_any (λ one. one == n) all ≡ true) same among

  drain : (b : Bool) (work : Work) (tries : List ℕ) → New b (Migrating work) → New b (Migrating (record work { cutover = applier_turn work.applier.hint work.cutover; attempt_tries = tries }))
  unfolding applier_turn
  drain b work tries at = record {
    begun = at.begun;
    locker = at.locker;
    renamer = at.renamer;
    session = at.session;
    phase_is = drained_order plan (words plan more).shown.shown (words plan more).hints.passed (words plan more).renaming (words plan more).listed work.cutover.attempts work.cutover.is_asked work.cutover work.applier.hint work.cutover.phase refl
        (passed work.applier.hint work.cutover.attempts (words plan more).hints.passed at.applied.among) at.phase_is;
    applied = at.applied;
    may_drop = at.may_drop;
    done = drained_done work.cutover work.applier.hint work.cutover.phase work.cutover.hold work.cutover.renamer_waits (words plan more).renamed at.done;
  }

  unfit_at : (work : Work) → New false (Migrating work) → UnfitKeeps New work
  unfit_at work at = record { renamed = λ renamed. at; reverts = back false (Migrating work) at }

  -- THE COPIER, CLIENTS AND THE OPERATOR

  copier_still : (asked : Asked) (answer : Answer) → entry.actor ≡ Copy → entry.asked ≡ asked → entry.answer ≡ answer → (tool_phase : ToolPhase) → now.tool.tool_phase ≡ tool_phase → New false tool_phase
  copier_still asked answer who asks replies tool_phase eq = leaves Copy asked answer who asks replies refl tool_phase (old_at tool_phase eq)

  client_still : (c : ℕ) (asked : Asked) (answer : Answer) → entry.actor ≡ Client c → entry.asked ≡ asked → entry.answer ≡ answer → (tool_phase : ToolPhase) → now.tool.tool_phase ≡ tool_phase → New false tool_phase
  client_still c asked answer who asks replies tool_phase eq = leaves (Client c) asked answer who asks replies refl tool_phase (old_at tool_phase eq)

  operator_still : (asked : Asked) (answer : Answer) → entry.actor ≡ Op → entry.asked ≡ asked → entry.answer ≡ answer → (tool_phase : ToolPhase) → now.tool.tool_phase ≡ tool_phase → New false tool_phase
  operator_still asked answer who asks replies tool_phase eq = leaves Op asked answer who asks replies refl tool_phase (old_at tool_phase eq)

  copy_at : (answer : Answer) (work : Work) → New false (Migrating work) → CopyKeeps New answer tool work
  copy_at answer work at = record { reverting = λ reverting. at; unfit = λ going place number unfit. unfit_at work at; took = λ going fits tries. at }

  -- THE SETUP

  begins : (size : ℕ) (setup : Setup) (tries : List ℕ) → SetupOrdered (words plan more) → New false (tool_phase_of plan size setup tries)
  begins size (Ready position range) tries at = record {
    begun = at.begun;
    locker = at.locker;
    renamer = at.renamer;
    session = λ on. absurd (false≢true on);
    phase_is = record { counted = tt; passes = tt; shows = tt; holds = λ on. absurd (true≢false (sym on ∙ at.renaming)); drops = tt };
    applied = record { last = at.last; among = inl refl; step = tt };
    may_drop = refl;
    done = tt;
  }
  begins size Listing tries at = at
  begins size (Clearing left) tries at = at
  begins size MakingLog tries at = at
  begins size MakingGhost tries at = at
  begins size Marking tries at = at
  begins size (Reaching position) tries at = at

  setup_still : (asked : Asked) (answer : Answer) (setup : Setup) (tries : List ℕ) → now.tool.tool_phase ≡ SettingUp setup tries → entry.actor ≡ Insp → entry.asked ≡ asked → entry.answer ≡ answer → SetupOrdered (words plan more)
  setup_still asked answer setup tries eq who asks replies =
      let old : SetupOrdered so_far = old_at (SettingUp setup tries) eq in
      leaves Insp asked answer who asks replies refl (SettingUp setup tries)
      (record { begun = old.begun; locker = old.locker; renamer = old.renamer; renaming = renaming_off plan asked answer so_far.renaming old.renaming; last = old.last })

  setup_turn : (answer : Answer) (setup : Setup) (tries : List ℕ) → now.tool.tool_phase ≡ SettingUp setup tries → entry.actor ≡ Insp → entry.answer ≡ answer → SetupKeeps plan New answer tool setup tries
  setup_turn answer setup tries eq who replies =
      let at : SetupOrdered (words plan more) = setup_still entry.asked answer setup tries eq who refl replies in
      record { reverting = λ reverting. at; again = λ going bad more_tries. at; goes = λ going good. begins tool.operator.size (setup_after plan.table setup answer) tries at }

  -- THE APPLIER

  apply_still : (asked : Asked) (answer : Answer) (work : Work) → now.tool.tool_phase ≡ Migrating work → entry.actor ≡ Apply → entry.asked ≡ asked → entry.answer ≡ answer → hints_after plan Apply asked answer so_far.hints ≡ so_far.hints → New false (Migrating work)
  apply_still asked answer work eq who asks replies same =
      let old : ToolPhaseOrdered plan so_far live (Migrating work) = old_at (Migrating work) eq in
      leaves Apply asked answer who asks replies refl (Migrating work)
      (record {
        begun = old.begun;
        locker = old.locker;
        renamer = old.renamer;
        session = old.session;
        phase_is = subst (λ (h : Hints). PhaseOrder plan so_far.shown.shown h.passed so_far.renaming so_far.listed work.cutover.attempts work.cutover.is_asked work.cutover.phase) (sym same) old.phase_is;
        applied = subst (λ (h : Hints). AppliedAt h work.applier) (sym same) old.applied;
        may_drop = old.may_drop;
        done = old.done;
      })

  apply_takes : (request : Request) (asked : Asked) (work : Work) → now.tool.tool_phase ≡ Migrating work → entry.actor ≡ Apply → entry.asked ≡ asked → AsksSo request asked → applier_asks work.applier.step request ≡ true → (tries : List ℕ)
      → New false (Migrating (record work { applier = appliers.took tool.turns work.applier entry.answer; batch_tries = tries }))
  apply_takes request asked work eq who asks so kind tries =
      let old : ToolPhaseOrdered plan so_far live (Migrating work) = old_at (Migrating work) eq in
      leaves Apply asked entry.answer who asks refl refl (Migrating (record work { applier = appliers.took tool.turns work.applier entry.answer; batch_tries = tries }))
      (record {
        begun = old.begun;
        locker = old.locker;
        renamer = old.renamer;
        session = old.session;
        phase_is = record {
          counted = old.phase_is.counted;
          passes = passes_more work.cutover.phase work.cutover.attempts so_far.hints.passed (hints_after plan Apply asked entry.answer so_far.hints).passed
              (passed_more plan work.applier (applier_table work eq) so_far.hints (λ one. one == work.cutover.attempts) asked entry.answer) old.phase_is.passes;
          shows = old.phase_is.shows;
          holds = old.phase_is.holds;
          drops = old.phase_is.drops;
        };
        applied = took_applied plan work.applier (applier_table work eq) so_far.hints tool.turns request asked entry.answer so kind old.applied;
        may_drop = old.may_drop;
        done = old.done;
      })

  -- in a revert it rolls back, or polls
  apply_reverts : (work : Work) → now.tool.tool_phase ≡ Migrating work → entry.actor ≡ Apply → is_reverting now.tool.reason ≡ true → Asking plan journal Apply entry.asked → New false (Migrating work)
  apply_reverts work eq who reverting (polls_so request asks some) = apply_still Poll entry.answer work eq who asks refl refl
  apply_reverts work eq who reverting (calls_so request asks none call) =
      apply_still (Call requests.Rollback) entry.answer work eq who (asks ∙ ap Call rollback) refl refl where
        rolled : rolls_back now.server (live_session journal Apply) ≡ Some request
        rolled =
            ap (λ (b : Bool). cond b (rolls_back now.server (live_session journal Apply)) (apply_call plan now.server journal now.tool work)) (sym reverting) ∙ ap (λ (c : ToolPhase). tool_call plan now.server journal now.tool c Apply) (sym eq) ∙ call

        rollback : request ≡ requests.Rollback
        rollback = back_quiet (in_transaction now.server (live_session journal Apply)) request rolled

  apply_turn : (work : Work) → now.tool.tool_phase ≡ Migrating work → entry.actor ≡ Apply → Asking plan journal Apply entry.asked → ApplyKeeps New entry.answer tool work
  apply_turn work eq who asks = record {
    reverting = λ reverting. apply_reverts work eq who reverting asks;
    unfit = λ going place number unfit. unfit_at work (apply_still entry.asked entry.answer work eq who refl refl (unfit_same plan work.applier (applier_table work eq) so_far.hints entry.asked entry.answer place number unfit));
    took = λ going fits tries. takes asks going tries;
  } where
    takes : Asking plan journal Apply entry.asked → is_reverting tool.reason ≡ false → (tries : List ℕ) → New false (Migrating (record work { applier = appliers.took tool.turns work.applier entry.answer; batch_tries = tries }))
    takes asks going tries =
        apply_about plan journal entry together run work eq (work_has work eq) going asks (New false (Migrating (record work { applier = appliers.took tool.turns work.applier entry.answer; batch_tries = tries })))
        (λ request about kind. by request about kind) where
          by : (request : Request) → IsAbout request (has Apply) entry.asked → applier_asks work.applier.step request ≡ true → New false (Migrating (record work { applier = appliers.took tool.turns work.applier entry.answer; batch_tries = tries }))
          by request (is_called called none) kind = apply_takes request entry.asked work eq who refl (calls_it called) kind tries
          by request (is_polled polled some) kind = apply_takes request entry.asked work eq who refl (polls_it polled (is.needs request some)) kind tries

  apply_lost : (work : Work) → now.tool.tool_phase ≡ Migrating work → entry.actor ≡ Apply → entry.asked ≡ Cut → entry.answer ≡ answers.Lost → ApplyKeeps New answers.Lost tool work
  unfolding appliers.took appliers.progress
  apply_lost work eq who asks replies =
      let at : New false (Migrating work) = apply_still Cut answers.Lost work eq who asks replies refl in
      record {
        reverting = λ reverting. at;
        unfit = λ going place number unfit. absurd cc;
        took = λ going fits tries. record { begun = at.begun; locker = at.locker; renamer = at.renamer; session = at.session; phase_is = at.phase_is; applied = record { last = at.applied.last; among = at.applied.among; step = tt }; may_drop = at.may_drop; done = at.done };
      }

  -- THE LOCKER

  old_among : (table : List ℕ) → list_any (bytes_eq (old_name table)) (both_names table) ≡ true
  old_among table = rw (same_bytes (old_name table)) (or-true (bytes_eq (old_name table) table))

  about_own : (actor : Actor) (request : Request) → entry.actor ≡ actor → IsAbout request (has actor) entry.asked → IsAbout request (has entry.actor) entry.asked
  about_own actor request who about = subst (λ (a : Actor). IsAbout request (has a) entry.asked) (sym who) about

  fits : (actor : Actor) (request : Request) → entry.actor ≡ actor → IsAbout request (has actor) entry.asked → answers_to request entry.answer ≡ true
  fits actor request who about = own_fits plan journal entry known served request (about_own actor request who about)

  drop_held : (table : List ℕ) (hold : Hold) (phase : Phase) → LockerAsks table hold phase (requests.Drop (old_name table)) → hold ≡ Locks
  drop_held table Locks phase asks = refl
  drop_held table Nothing Resting asks = absurd (let no : requests.Drop (old_name table) ≡ requests.Create _ = asks in cc)
  drop_held table Nothing (Attempting Rattle.tool_program.specs.declared.cutover_core.cutover.Stage.TheVariants.Locking) asks = absurd (let no : requests.Drop (old_name table) ≡ requests.LockTables _ = asks in cc)
  drop_held table Nothing phase asks = absurd asks
  drop_held table WaitsToGuard phase asks = absurd (let no : requests.Drop (old_name table) ≡ requests.Create _ = asks in cc)
  drop_held table WaitsToLock phase asks = absurd (let no : requests.Drop (old_name table) ≡ requests.LockTables _ = asks in cc)

  prompt : (work : Work) (request : Request) → entry.actor ≡ Lock → WorkStands journal (is_reverting now.tool.reason) has work → IsAbout request (has Lock) entry.asked → LockerAsks work.cutover.table work.cutover.hold work.cutover.phase request → request ≡ requests.Drop (old_name work.cutover.table) → IsPrompt entry.answer
  prompt work request who at about asks drops = by about where
    locks : work.cutover.hold ≡ Locks
    locks = drop_held work.cutover.table work.cutover.hold work.cutover.phase (subst (LockerAsks work.cutover.table work.cutover.hold work.cutover.phase) drops asks)

    has_lock : has Lock ≡ held work.cutover.table Locks
    has_lock = at.locker ∙ ap (held work.cutover.table) locks

    by : IsAbout request (has Lock) entry.asked → IsPrompt entry.answer
    by (is_called called none) =
        own_prompt plan journal entry known served (old_name work.cutover.table) (called ∙ ap Call drops)
        (ap (λ (a : Actor). list_any (bytes_eq (old_name work.cutover.table)) (has a).locked) who ∙ ap (λ (s : Standing). list_any (bytes_eq (old_name work.cutover.table)) s.locked) has_lock ∙ old_among work.cutover.table)
    by (is_polled polled some) = none_some request (has Lock).waits (ap (λ (s : Standing). s.waits) has_lock) some

  locker_turn : (work : Work) → now.tool.tool_phase ≡ Migrating work → entry.actor ≡ Lock → Asking plan journal Lock entry.asked → (tries : List ℕ) → New (is_reverting tool.reason) (Migrating (record work { cutover = cutovers.took Locker work.cutover entry.answer; attempt_tries = tries }))
  unfolding cutovers.took
  locker_turn work eq who asks tries =
      let at : WorkStands journal (is_reverting now.tool.reason) has work = work_has work eq in
      lock_about plan journal entry together run work eq at asks (New (is_reverting tool.reason) (Migrating (record work { cutover = cutovers.took Locker work.cutover entry.answer; attempt_tries = tries })))
      (λ request about kind. leaves Lock entry.asked entry.answer who refl refl refl (Migrating (record work { cutover = cutovers.took Locker work.cutover entry.answer; attempt_tries = tries }))
      (locker_order plan so_far live work.cutover.attempts work.cutover.renamer_waits work.cutover.is_asked work.cutover.drops_old work.applier entry.session entry.answer work.cutover.table work.cutover.hold work.cutover.phase request entry.asked
      (subst (λ (s : Standing). IsAbout request s entry.asked) at.locker about) kind at.phase (fits Lock request who about) (λ drops. prompt work request who at about kind drops)
      (λ rests. subst (λ (p : Phase). RenamerAt p work.cutover.renamer_waits) rests (work_at work eq).renamer) (old_at (Migrating work) eq)))

  -- who has work isn't free
  worked_free : {A : Type 0} → entry.asked ≡ Cut → has_work now.server entry.session ≡ true → has entry.actor ≡ free → A
  worked_free cut worked none =
      absurd (true≢false (sym worked ∙ ap (λ (s : State). has_work s entry.session) together.server ∙ free_idle (state_at plan journal) entry.session (ap (standing_in (state_at plan journal)) (sym (own_session plan journal entry known served (ap is_cut cut))) ∙ none)))

  locker_lost : (work : Work) → now.tool.tool_phase ≡ Migrating work → entry.actor ≡ Lock → entry.asked ≡ Cut → entry.answer ≡ answers.Lost → has_work now.server entry.session ≡ true → (tries : List ℕ)
      → New (is_reverting tool.reason) (Migrating (record work { cutover = cutovers.took Locker work.cutover answers.Lost; attempt_tries = tries }))
  unfolding cutovers.took
  locker_lost work eq who cut replies worked tries =
      leaves Lock Cut answers.Lost who cut replies refl (Migrating (record work { cutover = cutovers.took Locker work.cutover answers.Lost; attempt_tries = tries }))
      (locker_lost_order plan so_far live work.cutover.attempts work.cutover.hold work.cutover.renamer_waits work.cutover.is_asked work.cutover.drops_old work.cutover.phase work.applier entry.session begun (old_at (Migrating work) eq)) where
        begun : work.cutover.phase ≡ Resting → ⊥
        begun rests =
            worked_free cut worked
            (ap has who ∙ (work_has work eq).locker ∙ ap (held work.cutover.table) (subst (λ (p : Phase). Rattle.proof_journals.specs.Machine.Machines.PhaseHolds p work.cutover.hold) rests (work_has work eq).phase))

  -- THE RENAMER

  renamer_turn : (work : Work) → now.tool.tool_phase ≡ Migrating work → entry.actor ≡ Ren → Asking plan journal Ren entry.asked → (tries : List ℕ) → New (is_reverting tool.reason) (Migrating (record work { cutover = cutovers.took Renamer work.cutover entry.answer; attempt_tries = tries }))
  unfolding cutovers.took attempts.next
  renamer_turn work eq who (calls_so request asks none call) tries =
      let next = renamer_next work.cutover work.cutover.phase request (ap (λ (c : ToolPhase). tool_call plan now.server journal now.tool c Ren) (sym eq) ∙ call) in
      renamer_leaves (Call (exchange work.cutover.table)) entry.answer who (asks ∙ ap Call next.1) refl (Migrating (record work { cutover = cutovers.took Renamer work.cutover entry.answer; attempt_tries = tries }))
      (subst (λ (p : Phase). OrderedAt plan (words_after plan Ren entry.session (Call (exchange work.cutover.table)) entry.answer so_far) now_live work.cutover.attempts work.cutover.hold (is_wait entry.answer) true work.cutover.drops_old (cutovers.renamer_phase p entry.answer) work.applier) (sym next.0)
      (renamer_calls plan so_far live now_live work.cutover.attempts work.cutover.hold work.cutover.is_asked work.cutover.drops_old work.applier entry.session entry.answer work.cutover.renamer_waits work.cutover.table (live_own who (ap is_command asks))
      (subst (λ (p : Phase). OrderedAt plan so_far live work.cutover.attempts work.cutover.hold work.cutover.renamer_waits work.cutover.is_asked work.cutover.drops_old p work.applier) next.0 (old_at (Migrating work) eq))))
  renamer_turn work eq who (polls_so request asks some) tries =
      let waits : work.cutover.renamer_waits ≡ true = renaming_waits work.cutover.table work.cutover.renamer_waits request (ap (λ (s : Standing). s.waits) (sym (work_has work eq).renamer) ∙ some) in
      renamer_leaves Poll entry.answer who asks refl (Migrating (record work { cutover = cutovers.took Renamer work.cutover entry.answer; attempt_tries = tries }))
      (renamer_polls plan so_far live now_live work.cutover.attempts work.cutover.hold work.cutover.is_asked work.cutover.drops_old work.applier entry.session entry.answer work.cutover.phase (λ on. live_own who (ap is_command asks) on ∙ sym (goes_on waits))
      (subst (λ (w : Bool). OrderedAt plan so_far live work.cutover.attempts work.cutover.hold w work.cutover.is_asked work.cutover.drops_old work.cutover.phase work.applier) waits (old_at (Migrating work) eq))) where
        goes_on : work.cutover.renamer_waits ≡ true → live ≡ Some entry.session
        goes_on waits = by (placed journal entry served.seated) where
          lives : live ≡ Some so_far.shown.session
          lives = (old_at (Migrating work) eq).session waits

          by : Placed journal entry → live ≡ Some entry.session
          by (Commands command zero) = absurd (true≢false (sym command ∙ ap is_command asks))
          by (GoesOn called here) = ap (live_session journal) (sym who) ∙ here
          by (Begins called uncut gone above) = absurd (no (sym (ap (live_session journal) (sym who) ∙ gone) ∙ lives)) where
            no : None ≡ Some so_far.shown.session → ⊥
            no same = cc

  renamer_lost : (work : Work) → now.tool.tool_phase ≡ Migrating work → entry.actor ≡ Ren → entry.asked ≡ Cut → entry.answer ≡ answers.Lost → (tries : List ℕ) → New (is_reverting tool.reason) (Migrating (record work { cutover = cutovers.took Renamer work.cutover answers.Lost; attempt_tries = tries }))
  unfolding cutovers.took
  renamer_lost work eq who cut replies tries =
      renamer_leaves Cut answers.Lost who cut replies (Migrating (record work { cutover = cutovers.took Renamer work.cutover answers.Lost; attempt_tries = tries }))
      (renamer_lost_order plan so_far live now_live work.cutover.attempts work.cutover.hold work.cutover.renamer_waits work.cutover.is_asked work.cutover.drops_old work.cutover.phase work.applier entry.session (old_at (Migrating work) eq))

  -- THE INSPECTOR

  -- the list of waits has the RENAME
  shows : (work : Work) → now.tool.tool_phase ≡ Migrating work → work.cutover.phase ≡ Attempting Showing → entry.actor ≡ Insp → entry.asked ≡ Call requests.ShowWaiting → (waiters : List ShownWaiter) → entry.answer ≡ answers.Waiting waiters → has_session so_far.shown.session waiters ≡ true
  shows work eq showing who asks waiters replies = at_side entry.side refl where
    open_now : State
    open_now = opens entry (state_at plan journal)

    waits : work.cutover.renamer_waits ≡ true
    waits = subst (λ (p : Phase). RenamerAt p work.cutover.renamer_waits) showing (work_at work eq).renamer

    lives : live ≡ Some so_far.shown.session
    lives = (old_at (Migrating work) eq).session waits

    renames : (has Ren).waits ≡ Some (exchange work.cutover.table)
    renames = ap (λ (s : Standing). s.waits) ((work_has work eq).renamer ∙ ap (renaming work.cutover.table) waits)

    waits_there : request_of (waiting_of so_far.shown.session open_now.waiting) ≡ Some (exchange work.cutover.table)
    waits_there =
        ap (λ (w : List Waiting). request_of (waiting_of so_far.shown.session w)) (opened_waits (is_command entry.asked) (Rattle.std.proofs.Common.not (is_client entry.actor)) entry.session (state_at plan journal))
        ∙ ap (λ (l : Option ℕ). (standing_in (state_at plan journal) l).waits) (sym lives) ∙ renames

    shown : entry.side ≡ None → waiters ≡ waits_shown open_now
    shown no_side =
        subst (λ (a : Answer). ShownBy open_now a) (ap (λ (a : Asked). (serves open_now entry.session a).answer) (sym asks) ∙ own_given plan journal entry known served no_side ∙ replies) (show_called open_now entry.session)

    at_side : (side : Option Side) → entry.side ≡ side → has_session so_far.shown.session waiters ≡ true
    at_side None no_side = ap (has_session so_far.shown.session) (shown no_side) ∙ shows_session open_now so_far.shown.session (exchange work.cutover.table) refl waits_there
    at_side (Some side) some = absurd (no (sym (own_missed plan journal entry known served side some) ∙ replies)) where
      no : answers.Lost ≡ answers.Waiting waiters → ⊥
      no same = cc

  inspector_turn : (work : Work) → now.tool.tool_phase ≡ Migrating work → entry.actor ≡ Insp → Asking plan journal Insp entry.asked → (tries : List ℕ) → New (is_reverting tool.reason) (Migrating (record work { cutover = cutovers.took Inspector work.cutover entry.answer; attempt_tries = tries }))
  unfolding cutovers.took attempts.next
  inspector_turn work eq who (polls_so request asks some) tries =
      leaves Insp Poll entry.answer who asks refl refl (Migrating (record work { cutover = cutovers.took Inspector work.cutover entry.answer; attempt_tries = tries }))
      (polled_order plan work.cutover (own_table work eq) so_far live work.applier entry.session entry.answer work.cutover.phase request (subst (λ (c : ToolPhase). IsSettingCounter plan c request) eq (waits_so request some)) (fits Insp request who (is_polled asks some)) (old_at (Migrating work) eq))
  inspector_turn work eq who (calls_so request asks none call) tries =
      leaves Insp (Call request) entry.answer who asks refl refl (Migrating (record work { cutover = cutovers.took Inspector work.cutover entry.answer; attempt_tries = tries }))
      (inspects_or plan journal now.tool work request
      (OrderedAt plan (words_after plan Insp entry.session (Call request) entry.answer so_far) live work.cutover.attempts work.cutover.hold work.cutover.renamer_waits work.cutover.is_asked work.cutover.drops_old (cutovers.inspector_phase work.cutover work.cutover.phase entry.answer) work.applier)
      (ap (λ (c : ToolPhase). tool_call plan now.server journal now.tool c Insp) (sym eq) ∙ call)
      (λ note resting. noted_order plan work.cutover (own_table work eq) so_far live work.applier entry.session entry.answer work.cutover.phase request resting (old_at (Migrating work) eq))
      (λ next. inspector_order plan work.cutover (own_table work eq) so_far live work.applier entry.session entry.answer work.cutover.phase request next (fits Insp request who (is_called asks none))
      (λ showing is_show waiters replies. shows work eq showing who (asks ∙ ap Call is_show) waiters replies) (old_at (Migrating work) eq)))

  inspector_lost : (work : Work) → now.tool.tool_phase ≡ Migrating work → entry.actor ≡ Insp → entry.asked ≡ Cut → entry.answer ≡ answers.Lost → (tries : List ℕ) → New (is_reverting tool.reason) (Migrating (record work { cutover = cutovers.took Inspector work.cutover answers.Lost; attempt_tries = tries }))
  unfolding cutovers.took
  inspector_lost work eq who cut replies tries =
      leaves Insp Cut answers.Lost who cut replies refl (Migrating (record work { cutover = cutovers.took Inspector work.cutover answers.Lost; attempt_tries = tries })) (inspector_lost_order plan work.cutover so_far live work.applier entry.session (old_at (Migrating work) eq))

  -- A LOSS BETWEEN CALLS

  lost_answer : entry.asked ≡ Cut → entry.answer ≡ answers.Lost
  lost_answer cut = by entry.side refl where
    by : (side : Option Side) → entry.side ≡ side → entry.answer ≡ answers.Lost
    by (Some side) some = own_missed plan journal entry known served side some
    by None none = sym (own_given plan journal entry known served none) ∙ ap (λ (a : Asked). (serves (opens entry (state_at plan journal)) entry.session a).answer) cut

  -- while the setup goes on
  setup_lost : (actor : Actor) → entry.actor ≡ actor → entry.asked ≡ Cut → (setup : Setup) (tries : List ℕ) → now.tool.tool_phase ≡ SettingUp setup tries → New false (SettingUp setup tries)
  setup_lost Insp who cut setup tries eq = setup_still Cut answers.Lost setup tries eq who cut (lost_answer cut)
  setup_lost Copy who cut setup tries eq = copier_still Cut answers.Lost who cut (lost_answer cut) (SettingUp setup tries) eq
  setup_lost Apply who cut setup tries eq = leaves Apply Cut answers.Lost who cut (lost_answer cut) refl (SettingUp setup tries) (old_at (SettingUp setup tries) eq)
  setup_lost Lock who cut setup tries eq =
      let old : SetupOrdered so_far = old_at (SettingUp setup tries) eq in
      leaves Lock Cut answers.Lost who cut (lost_answer cut) refl (SettingUp setup tries) (record { begun = old.begun; locker = (lost_holds so_far.call, refl); renamer = old.renamer; renaming = old.renaming; last = old.last })
  setup_lost Ren who cut setup tries eq =
      let old : SetupOrdered so_far = old_at (SettingUp setup tries) eq in
      renamer_leaves Cut answers.Lost who cut (lost_answer cut) (SettingUp setup tries) (record { begun = old.begun; locker = old.locker; renamer = refl; renaming = old.renaming; last = old.last })
  setup_lost Op who cut setup tries eq = operator_still Cut answers.Lost who cut (lost_answer cut) (SettingUp setup tries) eq
  setup_lost (Client c) who cut setup tries eq = client_still c Cut answers.Lost who cut (lost_answer cut) (SettingUp setup tries) eq

  -- where the session had no work
  idle_had : entry.asked ≡ Cut → has_work now.server entry.session ≡ false → has entry.actor ≡ free
  idle_had cut none =
      ap (standing_in (state_at plan journal)) (own_session plan journal entry known served (ap is_cut cut)) ∙ idle_stands (state_at plan journal) entry.session (ap (λ (s : State). has_work s entry.session) (sym together.server) ∙ none)

  idle_at : entry.asked ≡ Cut → has_work now.server entry.session ≡ false → (actor : Actor) → entry.actor ≡ actor → (tool_phase : ToolPhase) → now.tool.tool_phase ≡ tool_phase → New false tool_phase
  idle_at cut none actor who (SettingUp setup tries) eq = setup_lost actor who cut setup tries eq
  idle_at cut none Insp who (Migrating work) eq = leaves Insp Cut answers.Lost who cut (lost_answer cut) refl (Migrating work) (old_at (Migrating work) eq)
  idle_at cut none Copy who (Migrating work) eq = copier_still Cut answers.Lost who cut (lost_answer cut) (Migrating work) eq
  idle_at cut none Apply who (Migrating work) eq = apply_still Cut answers.Lost work eq who cut (lost_answer cut) refl
  idle_at cut none Lock who (Migrating work) eq =
      let old : ToolPhaseOrdered plan so_far live (Migrating work) = old_at (Migrating work) eq in
      let nothing : work.cutover.hold ≡ Nothing = nothing_held work.cutover.table work.cutover.hold (sym (work_has work eq).locker ∙ ap has (sym who) ∙ idle_had cut none) in
      leaves Lock Cut answers.Lost who cut (lost_answer cut) refl (Migrating work)
      (record { begun = old.begun; locker = subst (LockerAnswered so_far.call (Some answers.Lost)) (sym nothing) (lost_holds so_far.call, refl); renamer = old.renamer; session = old.session; phase_is = old.phase_is; applied = old.applied; may_drop = old.may_drop; done = old.done })
  idle_at cut none Ren who (Migrating work) eq =
      let old : ToolPhaseOrdered plan so_far live (Migrating work) = old_at (Migrating work) eq in
      let off : work.cutover.renamer_waits ≡ false = nothing_waits work.cutover.table work.cutover.renamer_waits (sym (work_has work eq).renamer ∙ ap has (sym who) ∙ idle_had cut none) in
      renamer_leaves Cut answers.Lost who cut (lost_answer cut) (Migrating work)
      (record { begun = old.begun; locker = old.locker; renamer = sym off; session = λ on. absurd (true≢false (sym on ∙ off)); phase_is = old.phase_is; applied = old.applied; may_drop = old.may_drop; done = old.done })
  idle_at cut none Op who (Migrating work) eq = operator_still Cut answers.Lost who cut (lost_answer cut) (Migrating work) eq
  idle_at cut none (Client c) who (Migrating work) eq = client_still c Cut answers.Lost who cut (lost_answer cut) (Migrating work) eq

  setup_never : entry.asked ≡ Cut → (setup : Setup) (tries : List ℕ) → now.tool.tool_phase ≡ SettingUp setup tries → entry.actor ≡ Insp → SetupKeeps plan New answers.Lost tool setup tries
  setup_never cut setup tries eq who = setup_turn answers.Lost setup tries eq who (lost_answer cut)

  lost_at : entry.asked ≡ Cut → has_work now.server entry.session ≡ true → (actor : Actor) → entry.actor ≡ actor → (tool_phase : ToolPhase) → now.tool.tool_phase ≡ tool_phase → AnswerKeeps plan New answers.Lost tool actor tool_phase
  lost_at cut worked Insp who (SettingUp setup tries) eq = setup_never cut setup tries eq who
  lost_at cut worked Insp who (Migrating work) eq = inspector_lost work eq who cut (lost_answer cut)
  lost_at cut worked Copy who (SettingUp setup tries) eq = setup_lost Copy who cut setup tries eq
  lost_at cut worked Copy who (Migrating work) eq = copy_at answers.Lost work (copier_still Cut answers.Lost who cut (lost_answer cut) (Migrating work) eq)
  lost_at cut worked Apply who (SettingUp setup tries) eq = setup_lost Apply who cut setup tries eq
  lost_at cut worked Apply who (Migrating work) eq = apply_lost work eq who cut (lost_answer cut)
  lost_at cut worked Lock who (SettingUp setup tries) eq = setup_lost Lock who cut setup tries eq
  lost_at cut worked Lock who (Migrating work) eq = locker_lost work eq who cut (lost_answer cut) worked
  lost_at cut worked Ren who (SettingUp setup tries) eq = setup_lost Ren who cut setup tries eq
  lost_at cut worked Ren who (Migrating work) eq = renamer_lost work eq who cut (lost_answer cut)
  lost_at cut worked Op who (SettingUp setup tries) eq = setup_lost Op who cut setup tries eq
  lost_at cut worked Op who (Migrating work) eq = operator_still Cut answers.Lost who cut (lost_answer cut) (Migrating work) eq
  lost_at cut worked (Client c) who (SettingUp setup tries) eq = setup_lost (Client c) who cut setup tries eq
  lost_at cut worked (Client c) who (Migrating work) eq = client_still c Cut answers.Lost who cut (lost_answer cut) (Migrating work) eq

  -- A CALL OR A POLL

  setup_none : (actor : Actor) → has actor ≡ free → (setup : Setup) (tries : List ℕ) → now.tool.tool_phase ≡ SettingUp setup tries → ((request : Request) → tool_call plan now.server journal now.tool (SettingUp setup tries) actor ≡ None) → Asking plan journal actor entry.asked → ⊥
  setup_none actor rests setup tries eq none asks =
      no_asking plan journal entry standing run actor rests (λ request call. none-some request (sym (none request) ∙ ap (λ (c : ToolPhase). tool_call plan now.server journal now.tool c actor) (sym eq) ∙ call)) asks

  heard_at : (actor : Actor) → entry.actor ≡ actor → given plan journal actor ≡ Some entry.asked → (tool_phase : ToolPhase) → now.tool.tool_phase ≡ tool_phase → AnswerKeeps plan New entry.answer tool actor tool_phase
  unfolding given
  heard_at Insp who gives (SettingUp setup tries) eq = setup_turn entry.answer setup tries eq who refl
  heard_at Insp who gives (Migrating work) eq = inspector_turn work eq who (asking plan journal Insp entry.asked together.server gives)
  heard_at Copy who gives (SettingUp setup tries) eq = copier_still entry.asked entry.answer who refl refl (SettingUp setup tries) eq
  heard_at Copy who gives (Migrating work) eq = copy_at entry.answer work (copier_still entry.asked entry.answer who refl refl (Migrating work) eq)
  heard_at Apply who gives (SettingUp setup tries) eq = absurd (setup_none Apply (setup_has setup tries eq).applier setup tries eq (λ request. refl) (asking plan journal Apply entry.asked together.server gives))
  heard_at Apply who gives (Migrating work) eq = apply_turn work eq who (asking plan journal Apply entry.asked together.server gives)
  heard_at Lock who gives (SettingUp setup tries) eq = absurd (setup_none Lock (setup_has setup tries eq).locker setup tries eq (λ request. refl) (asking plan journal Lock entry.asked together.server gives))
  heard_at Lock who gives (Migrating work) eq = locker_turn work eq who (asking plan journal Lock entry.asked together.server gives)
  heard_at Ren who gives (SettingUp setup tries) eq = absurd (setup_none Ren (setup_has setup tries eq).renamer setup tries eq (λ request. refl) (asking plan journal Ren entry.asked together.server gives))
  heard_at Ren who gives (Migrating work) eq = renamer_turn work eq who (asking plan journal Ren entry.asked together.server gives)
  heard_at Op who gives (SettingUp setup tries) eq = operator_still entry.asked entry.answer who refl refl (SettingUp setup tries) eq
  heard_at Op who gives (Migrating work) eq = operator_still entry.asked entry.answer who refl refl (Migrating work) eq
  heard_at (Client c) who gives (SettingUp setup tries) eq = client_still c entry.asked entry.answer who refl refl (SettingUp setup tries) eq
  heard_at (Client c) who gives (Migrating work) eq = client_still c entry.asked entry.answer who refl refl (Migrating work) eq

  -- A COMMAND

  commands : (word : OperatorWord) → entry.asked ≡ Command word → entry.actor ≡ Op
  commands word asks = commands_operator plan journal entry.actor word (subst (IsGiven plan journal entry) asks run.followed.given)

  command_still : (word : OperatorWord) → entry.asked ≡ Command word → (tool_phase : ToolPhase) → now.tool.tool_phase ≡ tool_phase → New false tool_phase
  command_still word asks tool_phase eq = operator_still entry.asked entry.answer (commands word asks) refl refl tool_phase eq

  resize_at : (size : ℕ) → entry.asked ≡ Command (ChunkSize size) → (tool_phase : ToolPhase) → now.tool.tool_phase ≡ tool_phase → ResizeKeeps New tool size tool_phase
  resize_at size asks (SettingUp setup tries) eq = command_still (ChunkSize size) asks (SettingUp setup tries) eq
  resize_at size asks (Migrating work) eq = command_still (ChunkSize size) asks (Migrating work) eq

  -- *One turn more*
  pub ordered_more : IsOrdered plan more
  ordered_more = record {
    needs = needs_more plan journal entry together run is.needs;
    tool_phase =
        turn_kept plan New back journal entry drain
        (record {
          commanded = λ word asks unsized. command_still word asks now.tool.tool_phase refl;
          resized = λ size asks. resize_at size asks now.tool.tool_phase refl;
          idle = λ asks none. idle_at asks none entry.actor refl now.tool.tool_phase refl;
          lost = λ asks worked. lost_at asks worked entry.actor refl now.tool.tool_phase refl;
          heard = λ called commanded. heard_at entry.actor refl (gives_asked plan journal entry entry.asked run.followed.given refl called) now.tool.tool_phase refl;
        });
  }

-- *At the start*
pub ordered_begins : (plan : PlanData) → IsOrdered plan []
unfolding moment live_session
ordered_begins plan = record {
  needs = λ request some. absurd cc;
  tool_phase = subst (λ (w : Words). SetupOrdered w) (sym (words_begin plan)) (record { begun = refl; locker = (refl, refl); renamer = refl; renaming = refl; last = refl });
}
