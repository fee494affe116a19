-- Each call of an attempt goes on.
use Rattle.std.proofs.Common.{◌≡◌, ℕ, false, List, [], ◌∷◌, ◌++◌, Some, None, refl, sym, ap, ◌∙◌, subst}
use Rattle.std.proofs.lemmas.Bool.{true≢false}
use Rattle.base_script.specs.declared.actor.Actor.{Actor}
use Rattle.base_script.specs.declared.actor.Actor.TheVariants.{Insp, Lock, Ren}
use Rattle.server_model.specs.declared.entry.Asked.TheVariants.{Call}
use Rattle.server_model.specs.declared.entry.Entry.{Entry}
use Rattle.server_model.specs.declared.request.Request.{Request}
use Rattle.server_model.specs.declared.request.Request.TheVariants as requests
use Rattle.server_model.specs.Entries.{is_command, is_cut}
use Rattle.base_values.specs.ToolNames.{ghost_name}
use Rattle.plan_data.specs.PlanData.{PlanData}
use Rattle.tool_program.specs.JournalWords.Journals.{state_at}
use Rattle.tool_program.specs.declared.cutover_core.cutover.Hold.TheVariants.{Locks}
use Rattle.tool_program.specs.declared.cutover_core.cutover.Phase.{Phase}
use Rattle.tool_program.specs.declared.cutover_core.cutover.Clearing.TheVariants.{Drops}
use Rattle.tool_program.specs.declared.cutover_core.cutover.Phase.TheVariants.{Attempting, Ending}
use Rattle.tool_program.specs.declared.cutover_core.cutover.Drain.{Drain}
use Rattle.tool_program.specs.declared.cutover_core.cutover.Stage.TheVariants.{Hinting, ReadingCounter, SettingCounter, Drained, Showing}
use Rattle.tool_program.specs.CutoverCore.Attempts as attempts
use Rattle.tool_program.specs.CutoverCore.CutOvers.{is_resting}
use Rattle.tool_program.specs.CutoverCore.Attempts.{exchange, writes_hint}
use Rattle.tool_program.specs.Programs.{tool_call, given}
use Rattle.tool_program.specs.Tools.{Work, ToolPhase, Migrating, Moment, is_reverting, moment}
use Rattle.tool_program.proofs.OnlineCalls.Machines.{ToolPhaseIsNamed, named}
use Rattle.proof_journals.specs.Plans.{IsSerialPlan}
use Rattle.proof_journals.specs.Run.Kept.{IsKept}
use Rattle.proof_journals.specs.Machine.Machines.{ToolPhaseStands, WorkStands, PhaseHolds, both_names, held, renaming}
use Rattle.proof_journals.specs.Machine.Runnable.{IsRunnable}
use Rattle.proof_journals.specs.Machine.Standings.{Standing, standing_of, IsAbout, is_called, is_polled}
use Rattle.proof_journals.proofs.Machine.Asking.{some_request}
use Rattle.proof_journals.proofs.Machine.Inspecting.{Inspects, inspects, notes_so, cuts_so}
use Rattle.proof_journals.proofs.Machine.Journals.{IsRun, IsTogether, Asking, calls_so, polls_so, asking, ren_about}
use Rattle.proof_migration.proofs.Attempt.Stages.{RenamerAt, StandsAt}
use Rattle.proof_migration.proofs.Attempt.Standing.{ToolPhaseAt, about_own, renamer_unlocked, none_some}
use Rattle.proof_migration.proofs.Program.Turns.Follows.{kept_front, kept_run}
use Rattle.proof_migration.proofs.ToolPhase.ToolPhaseTurns.{gives_asked}
use Rattle.proof_migration.specs.InspectorWaits.{SetsCounter}
use Rattle.proof_bounds.specs.Guards.{HasSentryAtOnce}
use Rattle.proof_bounds.proofs.Going.{IsGoing, all_going, insp_waits, insp_idle}
use Rattle.proof_bounds.proofs.Guards.{sentries_made}
use Rattle.proof_bounds.specs.AttemptTurns.Attempts.{IsAt, IsNotRefused, IsOk, ShowsWait, AttemptGoes, MayTry, AttemptsGoOn}
use Rattle.proof_bounds.proofs.AttemptTurns.Blocked.{rename_goes, listing_shows}
use Rattle.proof_bounds.proofs.AttemptTurns.Changelogs.{hint_goes}
use Rattle.proof_bounds.proofs.AttemptTurns.Sentries.{ToolPhaseSentry, all_sentried, locks_go, drops_go, clears_ok, reads_go, sets_go}

module _ (plan : PlanData) (runs : IsRunnable plan) (serial : IsSerialPlan plan) (journal : List Entry) (entry : Entry) (tries : MayTry plan) (kept_more : IsKept plan (journal ++ entry ∷ [])) where
  abbrev now : Moment
  now = moment plan journal

  abbrev has : Actor → Standing
  has = standing_of plan journal

  kept : IsKept plan journal
  kept = kept_front plan journal (entry ∷ []) kept_more

  run : IsRun plan journal entry
  run = kept_run plan journal entry kept_more

  going : IsGoing plan journal
  going = all_going plan journal runs serial kept

  together : IsTogether plan journal
  together = going.standing.tabled.all.tool

  guarded : (work : Work) → now.tool.tool_phase ≡ Migrating work → HasSentryAtOnce work
  guarded work eq = sentries_made plan journal work runs serial kept eq

  sentry : ToolPhaseSentry plan (state_at plan journal).tables now.tool.tool_phase
  sentry = all_sentried plan journal runs serial kept

  module _ (work : Work) (eq : now.tool.tool_phase ≡ Migrating work) (called : is_command entry.asked ≡ false) (uncut : is_cut entry.asked ≡ false) where
    abbrev phase : Phase
    phase = work.cutover.phase

    stands : WorkStands journal (is_reverting now.tool.reason) has work
    stands = subst (ToolPhaseStands journal has (is_reverting now.tool.reason)) eq together.stands

    at : StandsAt plan (state_at plan journal).tables (has Insp).waits phase work.cutover.hold work.cutover.renamer_waits work.cutover.is_asked
    at = subst (ToolPhaseAt plan (state_at plan journal).tables (has Insp).waits) eq going.standing.tool_phase

    own_table : work.cutover.table ≡ plan.table
    own_table = (subst (ToolPhaseIsNamed plan) eq (named plan journal)).cutover

    gives : given plan journal entry.actor ≡ Some entry.asked
    gives = gives_asked plan journal entry entry.asked run.followed.given refl (λ cut. true≢false (sym (ap is_cut cut) ∙ uncut))

    lock_asking : entry.actor ≡ Lock → Asking plan journal Lock entry.asked
    unfolding given
    lock_asking same = asking plan journal Lock entry.asked together.server (subst (λ (a : Actor). given plan journal a ≡ Some entry.asked) same gives)

    ren_asking : entry.actor ≡ Ren → Asking plan journal Ren entry.asked
    unfolding given
    ren_asking same = asking plan journal Ren entry.asked together.server (subst (λ (a : Actor). given plan journal a ≡ Some entry.asked) same gives)

    insp_asking : entry.actor ≡ Insp → Asking plan journal Insp entry.asked
    unfolding given
    insp_asking same = asking plan journal Insp entry.asked together.server (subst (λ (a : Actor). given plan journal a ≡ Some entry.asked) same gives)

    -- the locker has locked both names
    locked : work.cutover.hold ≡ Locks → (has Lock).locked ≡ both_names plan.table
    locked locks = ap (λ (s : Standing). s.locked) (stands.locker ∙ ap (held work.cutover.table) locks) ∙ ap both_names own_table

    -- what the inspector waits with, in this phase
    insp_waits_in : (one : Phase) → phase ≡ one → (request : Request) → (has Insp).waits ≡ Some request → SetsCounter plan one request
    insp_waits_in one at_phase request some = subst (λ (p : Phase). SetsCounter plan p request) at_phase (insp_waits plan runs journal entry kept run going (Migrating work) eq request some).0

    -- while an attempt stands the inspector writes no note, and asks what the cut-over asks of it
    insp_next : is_resting phase ≡ false → (request : Request) → tool_call plan now.server journal now.tool now.tool.tool_phase Insp ≡ Some request → attempts.inspector_call work.cutover phase ≡ Some request
    unfolding attempts.next
    insp_next busy request call = by (inspects plan journal now.tool work request (ap (λ (c : ToolPhase). tool_call plan now.server journal now.tool c Insp) (sym eq) ∙ call)) where
      by : Inspects plan journal now.tool work request → attempts.inspector_call work.cutover phase ≡ Some request
      by (cuts_so off next) = next
      by (notes_so note resting onward next) = absurd (true≢false (sym (ap is_resting resting) ∙ busy))

    -- the inspector calls, where it doesn't wait
    insp_calls : (P : Type 0) → is_resting phase ≡ false → ((request : Request) → (has Insp).waits ≡ Some request → ⊥) → entry.actor ≡ Insp → ((request : Request) → entry.asked ≡ Call request → attempts.inspector_call work.cutover phase ≡ Some request → P) → P
    insp_calls P busy never same then = by (insp_asking same) where
      by : Asking plan journal Insp entry.asked → P
      by (polls_so request asks some) = absurd (never request some)
      by (calls_so request asks idle call) = then request asks (insp_next busy request call)

    renames : phase ≡ Attempting Drained → entry.actor ≡ Ren → IsNotRefused entry.answer
    renames drained same =
        ren_about plan journal entry together run work eq stands (ren_asking same) (IsNotRefused entry.answer)
        (λ request about kind. by (subst (λ (r : Request). IsAbout r (has Ren) entry.asked) (kind ∙ ap exchange own_table) about)) where
          by : IsAbout (exchange plan.table) (has Ren) entry.asked → IsNotRefused entry.answer
          by (is_polled asks some) = none_some (exchange plan.table) (has Ren).waits (ap (λ (s : Standing). s.waits) (stands.renamer ∙ ap (renaming work.cutover.table) (subst (λ (p : Phase). RenamerAt p work.cutover.renamer_waits) drained at.renamer))) some
          by (is_called asks idle) = rename_goes plan journal entry kept run going (locked (subst (λ (p : Phase). PhaseHolds p work.cutover.hold) drained stands.phase)) same asks (renamer_unlocked plan journal entry going.standing run work eq)

    shows : phase ≡ Attempting Showing → entry.actor ≡ Insp → entry.side ≡ None → ShowsWait entry.answer
    shows showing same none = insp_calls (ShowsWait entry.answer) (ap is_resting showing) (insp_waits_in (Attempting Showing) showing) same (λ request asks call. by request asks (subst (λ (p : Phase). attempts.inspector_call work.cutover p ≡ Some request) showing call)) where
      waits : (has Ren).waits ≡ Some (exchange plan.table)
      waits = ap (λ (s : Standing). s.waits) (stands.renamer ∙ ap (renaming work.cutover.table) (subst (λ (p : Phase). RenamerAt p work.cutover.renamer_waits) showing at.renamer)) ∙ ap (λ (t : List ℕ). Some (exchange t)) own_table

      by : (request : Request) → entry.asked ≡ Call request → Some requests.ShowWaiting ≡ Some request → ShowsWait entry.answer
      by request asks call =
          some_request (λ (r : Request). entry.asked ≡ Call r → ShowsWait entry.answer) requests.ShowWaiting request call
          (λ asks_it. listing_shows plan journal entry kept run going (locked (subst (λ (p : Phase). PhaseHolds p work.cutover.hold) showing stands.phase)) waits (renamer_unlocked plan journal entry going.standing run work eq)
          (about_own plan journal entry going.standing run Insp requests.ShowWaiting same (is_called asks_it (insp_idle plan runs journal entry kept run going same requests.ShowWaiting asks_it))) asks_it none) asks

    hints : phase ≡ Attempting Hinting → entry.actor ≡ Insp → entry.side ≡ None → IsOk entry.answer
    hints hinting same none = insp_calls (IsOk entry.answer) (ap is_resting hinting) (insp_waits_in (Attempting Hinting) hinting) same (λ request asks call. by request asks (subst (λ (p : Phase). attempts.inspector_call work.cutover p ≡ Some request) hinting call)) where
      by : (request : Request) → entry.asked ≡ Call request → Some (writes_hint work.cutover.table work.cutover.attempts) ≡ Some request → IsOk entry.answer
      by request asks call =
          some_request (λ (r : Request). entry.asked ≡ Call r → IsOk entry.answer) (writes_hint work.cutover.table work.cutover.attempts) request call
          (λ asks_it. hint_goes plan journal entry work runs serial tries kept_more eq hinting same (asks_it ∙ ap (λ (t : List ℕ). Call (writes_hint t work.cutover.attempts)) own_table) none) asks

    reads : (drain : Drain) → phase ≡ Attempting (ReadingCounter drain) → entry.actor ≡ Insp → entry.side ≡ None → IsAt entry.answer
    reads drain reading same none = insp_calls (IsAt entry.answer) (ap is_resting reading) (insp_waits_in (Attempting (ReadingCounter drain)) reading) same (λ request asks call. by request asks (subst (λ (p : Phase). attempts.inspector_call work.cutover p ≡ Some request) reading call)) where
      by : (request : Request) → entry.asked ≡ Call request → Some (requests.ShowCounter work.cutover.table) ≡ Some request → IsAt entry.answer
      by request asks call =
          some_request (λ (r : Request). entry.asked ≡ Call r → IsAt entry.answer) (requests.ShowCounter work.cutover.table) request call
          (λ asks_it. reads_go plan runs journal entry kept run going guarded sentry work eq called drain reading same (asks_it ∙ ap (λ (t : List ℕ). Call (requests.ShowCounter t)) own_table) none) asks

    sets : (number : ℕ) (drain : Drain) → phase ≡ Attempting (SettingCounter number drain) → entry.actor ≡ Insp → IsNotRefused entry.answer
    sets number drain setting same = by (insp_asking same) where
      goes : (request : Request) → request ≡ requests.SetCounter (ghost_name plan.table) number → IsAbout request (has Insp) entry.asked → IsNotRefused entry.answer
      goes request is_it about =
          sets_go plan runs journal entry kept run going guarded sentry work eq called number drain setting same
          (about_own plan journal entry going.standing run Insp (requests.SetCounter (ghost_name plan.table) number) same (subst (λ (r : Request). IsAbout r (has Insp) entry.asked) is_it about))

      called_it : (request : Request) → attempts.inspector_call work.cutover phase ≡ Some request → request ≡ requests.SetCounter (ghost_name plan.table) number
      called_it request call =
          some_request (λ (r : Request). r ≡ requests.SetCounter (ghost_name plan.table) number) (requests.SetCounter (ghost_name work.cutover.table) number) request (subst (λ (p : Phase). attempts.inspector_call work.cutover p ≡ Some request) setting call)
          (ap (λ (t : List ℕ). requests.SetCounter (ghost_name t) number) own_table)

      by : Asking plan journal Insp entry.asked → IsNotRefused entry.answer
      by (polls_so request asks some) = goes request (insp_waits_in (Attempting (SettingCounter number drain)) setting request some) (is_polled asks some)
      by (calls_so request asks idle call) = goes request (called_it request (insp_next (ap is_resting setting) request call)) (is_called asks idle)

    goes_on : AttemptGoes work entry
    goes_on = record {
      locks = λ locking same. locks_go plan runs journal entry kept run going guarded sentry work eq called locking same (lock_asking same);
      hints = hints;
      reads = reads;
      sets = sets;
      renames = renames;
      shows = shows;
      drops = λ dropping same. drops_go plan runs journal entry kept run going guarded sentry work eq called dropping same (lock_asking same);
      clears = λ left ending same none.
          insp_calls (IsOk entry.answer) (ap is_resting ending) (insp_waits_in (Ending (Drops left)) ending) same
          (λ request asks call. subst IsOk (sym (clears_ok plan runs journal entry kept run going guarded sentry work eq same request asks left ending (subst (λ (p : Phase). attempts.inspector_call work.cutover p ≡ Some request) ending call) none)) tt);
    }

-- *Attempts go on*
pub attempts_go : AttemptsGoOn
attempts_go plan before entry tries runs serial kept work eq called uncut = goes_on plan runs serial before entry tries kept work eq called uncut
