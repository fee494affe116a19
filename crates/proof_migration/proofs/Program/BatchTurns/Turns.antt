-- The copier's and the applier's turns are such turns as the sentry relation asks.
use Rattle.std.proofs.Common.{◌≡◌, ◌+◌, ℕ, Bool, true, false, List, [], ◌∷◌, ◌++◌, Option, Some, None, refl, sym, ap, ◌∙◌, subst}
use Rattle.std.proofs.lemmas.Bool.{false≢true, true≢false}
use Rattle.base_values.specs.declared.event.RowEvent.{RowEvent}
use Rattle.base_script.specs.declared.actor.Actor.{Actor}
use Rattle.base_script.specs.declared.actor.Actor.TheVariants.{Op, Insp, Copy, Apply, Lock, Ren}
use Rattle.base_script.specs.declared.operator.OperatorWord.{OperatorWord}
use Rattle.server_model.specs.declared.answer.Answer.{Answer}
use Rattle.server_model.specs.declared.answer.Answer.TheVariants as answers
use Rattle.server_model.specs.declared.entry.Asked.{Asked}
use Rattle.server_model.specs.declared.entry.Asked.TheVariants.{Call, Poll, Command, Cut}
use Rattle.server_model.specs.declared.entry.Entry.{Entry}
use Rattle.server_model.specs.declared.request.Request.{Request}
use Rattle.server_model.specs.Entries.{is_command, same_actor}
use Rattle.server_model.specs.States.{State, has_work}
use Rattle.plan_data.specs.PlanData.{PlanData}
use Rattle.tool_program.specs.EventApplier.Appliers.{events_of}
use Rattle.tool_program.specs.JournalWords.Journals.{opens, state_at}
use Rattle.tool_program.specs.JournalWords.Sessions.{live_session}
use Rattle.tool_program.specs.Programs.{IsGiven, apply_call, given, in_transaction, rolls_back, tool_call}
use Rattle.tool_program.specs.Tools.{ToolPhase, Migrating, SettingUp, Work, is_reverting, moment}
use Rattle.tool_program.proofs.OnlineCalls.Machines.{ToolPhaseIsNamed, named}
use Rattle.proof_journals.specs.Plans.{IsSerialPlan, limits_of, scene_of}
use Rattle.proof_journals.specs.Turns.{about}
use Rattle.proof_journals.proofs.PlanJournals.{plan_runs_are_scene_runs}
use Rattle.proof_journals.specs.ServerTurns.Others.{EntriesAreTurns, TurnOf, asks_names, takes_names}
use Rattle.proof_journals.specs.Run.Kept.{IsKept}
use Rattle.proof_journals.specs.Machine.Runnable.{IsRunnable}
use Rattle.proof_journals.specs.Machine.Standings.{IsAbout, answers_to, is_called, is_polled, standing_of}
use Rattle.proof_journals.proofs.Machine.Calling.{reverting_or}
use Rattle.proof_journals.proofs.Machine.Journals.{Asking, IsRun, IsTogether, all_together, asking, calls_so, polls_so}
use Rattle.proof_journals.proofs.Machine.Seated.{IsServed, own_fits}
use Rattle.proof_journals.proofs.Machine.Tabling.{back_quiet}
use Rattle.proof_migration.proofs.ToolPhase.ToolPhaseTurns.{gives_asked}
use Rattle.proof_migration.proofs.ToolPhase.Owners.{commands_operator}
use Rattle.proof_journals.specs.Sentry.Sentries.{IsDrained, scene}
use Rattle.proof_journals.specs.Sentry.TurnResults.{ApplierTurn, AskedTurn, CopierTurn, ToolPhaseTurn, IsTurned, OtherTurn, WorkTurn, last_session, reported_if}
use Rattle.proof_journals.proofs.Sentry.Applying.{has_turned}
use Rattle.proof_journals.proofs.Sentry.Calling.{other_says}
use Rattle.proof_journals.proofs.Sentry.Draining.{Knows, knows_later}
use Rattle.proof_journals.proofs.Sentry.Knowing.{Reads}
use Rattle.proof_migration.proofs.Program.Holds.ActorStates.{kept_differs}
use Rattle.proof_migration.specs.ToolPhase.Unaltered.{IsUnaltered}
use Rattle.proof_migration.proofs.ToolPhase.Unaltered.Away.{IsKnownAsked, unaltered_front}
use Rattle.proof_migration.proofs.ToolPhase.Unaltered.Runs.{unaltered_runs}
use Rattle.proof_migration.proofs.Program.Turns.Asked.{waits_with}
use Rattle.proof_migration.proofs.Program.Turns.Follows.{kept_front, kept_run}
use Rattle.proof_migration.proofs.Program.Hints.Asked.{others_left}
use Rattle.proof_migration.proofs.Program.Hints.Courses.{applier_reads, names_read}
use Rattle.proof_migration.proofs.Program.Hints.Known.{hints_go}
use Rattle.proof_migration.proofs.Program.Hints.Logging.{LogsAway}
use Rattle.proof_migration.proofs.Program.Hints.Phases.{HintsStand, IsAhead}
use Rattle.proof_migration.proofs.Program.Hints.States.{ToolPhaseAhead, ToolPhaseHints, HintsGo}
use Rattle.proof_migration.specs.Program.BatchTurns.{AppliersAreTurned, CopiersAreTurned}
use Rattle.proof_migration.proofs.Program.BatchTurns.Drained.{none_reported}
use Rattle.proof_migration.proofs.Program.BatchTurns.Resting.{ToolPhaseRests, FreeAt, IsResting, all_rest, copied_stays, given_free}

module _ (entries_are_turns : EntriesAreTurns) (plan : PlanData) (journal : List Entry) (entry : Entry) (runs : IsRunnable plan) (serial : IsSerialPlan plan) (kept : IsKept plan (journal ++ entry ∷ [])) (off : IsUnaltered plan (journal ++ entry ∷ [])) where
  abbrev more : List Entry
  more = journal ++ entry ∷ []

  abbrev before : State
  before = state_at plan journal

  abbrev after : State
  after = state_at plan more

  abbrev locker : ℕ
  locker = last_session journal Lock

  abbrev renamer : ℕ
  renamer = last_session journal Ren

  front : IsKept plan journal
  front = kept_front plan journal (entry ∷ []) kept

  front_off : IsUnaltered plan journal
  front_off = unaltered_front plan journal (entry ∷ []) off

  run : IsRun plan journal entry
  run = kept_run plan journal entry kept

  resting : IsResting plan journal
  resting = all_rest plan journal runs front.faithful front.follows

  known : IsKnownAsked plan journal
  known = resting.known

  together : IsTogether plan journal
  together = known.marking.tabled.all.tool

  then_together : IsTogether plan more
  then_together = all_together plan more kept.faithful kept.follows

  served : IsServed plan journal entry
  served = record { answered = run.answered; seated = record { session = run.followed.session } }

  -- ANOTHER SESSION'S TURN

  asked_free : (request : Request) → about (opens entry before) entry.session entry.asked ≡ Some request → FreeAt entry.actor request
  asked_free request is = by entry.asked refl run.followed.given is where
    waited : is_command entry.asked ≡ false → about (opens entry before) entry.session Poll ≡ Some request → FreeAt entry.actor request
    waited called is = resting.free entry.actor request (waits_with plan serial runs.fitting journal entry known run off called request is)

    by : (asked : Asked) → entry.asked ≡ asked → IsGiven plan journal entry asked → about (opens entry before) entry.session asked ≡ Some request → FreeAt entry.actor request
    by (Call called) asks gives is = let one : called ≡ request = cc in subst (FreeAt entry.actor) one (given_free plan journal together entry.actor called gives)
    by Poll asks gives is = waited (ap is_command asks) is
    by Cut asks gives is = waited (ap is_command asks) is
    by (Command word) asks gives is = absurd cc

  about_free : ((request : Request) → FreeAt entry.actor request → takes_names request ≡ false) → asks_names (about (opens entry before) entry.session entry.asked) ≡ false
  about_free of = by (about (opens entry before) entry.session entry.asked) refl where
    by : (asks : Option Request) → about (opens entry before) entry.session entry.asked ≡ asks → asks_names asks ≡ false
    by None is = refl
    by (Some request) is = of request (asked_free request is)

  turn_free : ((request : Request) → FreeAt entry.actor request → takes_names request ≡ false) → TurnOf false entry.session before after
  turn_free of =
      subst (λ (b : Bool). TurnOf b entry.session before after) (about_free of) (entries_are_turns (limits_of plan) (scene_of plan journal) journal entry (plan_runs_are_scene_runs plan journal (unaltered_runs plan journal runs serial front front_off)))

  -- the operator alone commands
  uncommanded : (entry.actor ≡ Op → ⊥) → (word : OperatorWord) → IsGiven plan journal entry (Command word) → ⊥
  uncommanded other word gives = other (commands_operator plan journal entry.actor word gives)

  called : (entry.actor ≡ Op → ⊥) → is_command entry.asked ≡ false
  called other = by entry.asked refl run.followed.given where
    by : (asked : Asked) → entry.asked ≡ asked → IsGiven plan journal entry asked → is_command entry.asked ≡ false
    by (Call request) asks gives = ap is_command asks
    by Poll asks gives = ap is_command asks
    by Cut asks gives = ap is_command asks
    by (Command word) asks gives = absurd (uncommanded other word gives)

  others : (entry.actor ≡ Op → ⊥) → same_actor entry.actor Lock ≡ false → same_actor entry.actor Ren ≡ false → ((request : Request) → FreeAt entry.actor request → takes_names request ≡ false) → OtherTurn plan before after locker renamer entry.session
  others other lock ren of =
      other_says plan before after locker renamer entry.session (kept_differs plan journal entry kept (called other) Lock lock) (kept_differs plan journal entry kept (called other) Ren ren) (turn_free of)

  -- a whole turn, by what is told
  turned_by : (entry.actor ≡ Op → ⊥)
      → ((work : Work) → (moment plan journal).tool.tool_phase ≡ Migrating work → (turns : ℕ) (answer : Option Answer) → ((a : Answer) → answer ≡ Some a → (a ≡ answers.Lost → ⊥) → (a ≡ entry.answer) × (entry.asked ≡ Cut → ⊥)) → WorkTurn plan before after locker renamer work turns entry entry.actor answer)
      → IsTurned plan journal entry
  turned_by other works = record { turn = by (moment plan journal).tool.tool_phase refl } where
    heard : (entry.asked ≡ Cut → ⊥) → (a : Answer) → Some entry.answer ≡ Some a → (a ≡ answers.Lost → ⊥) → (a ≡ entry.answer) × (entry.asked ≡ Cut → ⊥)
    heard uncut a same unlost = let one : entry.answer ≡ a = cc in (sym one, uncut)

    lost : (b : Bool) (a : Answer) → reported_if b ≡ Some a → (a ≡ answers.Lost → ⊥) → (a ≡ entry.answer) × (entry.asked ≡ Cut → ⊥)
    lost true a same unlost = absurd (unlost (let one : answers.Lost ≡ a = cc in sym one))
    lost false a same unlost = absurd cc

    asks_so : (work : Work) → (moment plan journal).tool.tool_phase ≡ Migrating work → (turns : ℕ) (asked : Asked) → entry.asked ≡ asked → IsGiven plan journal entry asked → AskedTurn plan before after locker renamer work turns entry asked
    asks_so work tool_phase turns (Command word) asks gives = absurd (uncommanded other word gives)
    asks_so work tool_phase turns (Call request) asks gives = works work tool_phase turns (Some entry.answer) (heard (λ cut. no (sym asks ∙ cut))) where
      no : Call request ≡ Cut → ⊥
      no both = cc
    asks_so work tool_phase turns Poll asks gives = works work tool_phase turns (Some entry.answer) (heard (λ cut. no (sym asks ∙ cut))) where
      no : Poll ≡ Cut → ⊥
      no both = cc
    asks_so work tool_phase turns Cut asks gives = works work tool_phase turns (reported_if (has_work before entry.session)) (lost (has_work before entry.session))

    by : (tool_phase : ToolPhase) → (moment plan journal).tool.tool_phase ≡ tool_phase → ToolPhaseTurn plan (moment plan journal).server (moment plan more).server locker renamer tool_phase ((moment plan journal).tool.turns + 1) entry
    by (SettingUp setup tries) tool_phase = tt
    by (Migrating work) tool_phase =
        subst (λ (s : State). AskedTurn plan s (moment plan more).server locker renamer work ((moment plan journal).tool.turns + 1) entry entry.asked) (sym together.server)
        (subst (λ (s : State). AskedTurn plan before s locker renamer work ((moment plan journal).tool.turns + 1) entry entry.asked) (sym then_together.server) (asks_so work tool_phase ((moment plan journal).tool.turns + 1) entry.asked refl run.followed.given))

  -- THE COPIER'S

  no_operator : (actor : Actor) → same_actor actor Op ≡ false → entry.actor ≡ actor → entry.actor ≡ Op → ⊥
  no_operator actor other same operator = true≢false (sym (ap (λ (a : Actor). same_actor a Op) (sym same ∙ operator)) ∙ other)

  copier : entry.actor ≡ Copy → IsTurned plan journal entry
  copier same = turned_by (no_operator Copy refl same) works where
    apart : OtherTurn plan before after locker renamer entry.session
    apart =
        others (no_operator Copy refl same) (ap (λ (a : Actor). same_actor a Lock) same) (ap (λ (a : Actor). same_actor a Ren) same)
        (λ request free. subst (λ (a : Actor). FreeAt a request) same free)

    copies : (work : Work) → (moment plan journal).tool.tool_phase ≡ Migrating work → (turns : ℕ) (answer : Option Answer) → CopierTurn plan after work turns answer
    copies work tool_phase turns None = tt
    copies work tool_phase turns (Some answer) = λ copied. copied_stays turns work.copier answer (subst ToolPhaseRests tool_phase resting.rests) copied

    works : (work : Work) → (moment plan journal).tool.tool_phase ≡ Migrating work → (turns : ℕ) (answer : Option Answer) → ((a : Answer) → answer ≡ Some a → (a ≡ answers.Lost → ⊥) → (a ≡ entry.answer) × (entry.asked ≡ Cut → ⊥)) → WorkTurn plan before after locker renamer work turns entry entry.actor answer
    works work tool_phase turns answer statement_result = subst (λ (a : Actor). WorkTurn plan before after locker renamer work turns entry a answer) (sym same) (apart, copies work tool_phase turns answer)

  -- THE APPLIER'S

  module _ (same : entry.actor ≡ Apply) where
    hints : HintsGo plan journal
    hints = hints_go plan journal runs serial front front_off

    logs : LogsAway plan.table before after
    logs = (others_left plan runs serial journal entry kept off hints.none (ap (λ (a : Actor). same_actor a Insp) same)).logs

    gave : (entry.asked ≡ Cut → ⊥) → given plan journal Apply ≡ Some entry.asked
    gave uncut = subst (λ (a : Actor). given plan journal a ≡ Some entry.asked) same (gives_asked plan journal entry entry.asked run.followed.given refl uncut)

    module _ (work : Work) (tool_phase : (moment plan journal).tool.tool_phase ≡ Migrating work) where
      stands : HintsStand plan.table before.log (standing_of plan journal Insp).waits work.applier work.cutover.attempts work.cutover.phase
      stands = subst (ToolPhaseHints plan.table before.log (standing_of plan journal Insp).waits) tool_phase hints.tool_phase

      ahead : IsAhead work.applier.hint work.cutover.attempts work.cutover.phase
      ahead = subst ToolPhaseAhead tool_phase hints.ahead

      own : work.applier.table ≡ plan.table
      own = (subst (ToolPhaseIsNamed plan) tool_phase (named plan journal)).applier

      knows : Knows plan.table after.log work.applier
      knows = subst (λ (l : List RowEvent). Knows plan.table l work.applier) (sym logs.log) (knows_later plan.table before.log logs.events work.applier stands.knows)

      -- where all is reverted it reads nothing
      back_reads : (entry.asked ≡ Cut → ⊥) → is_reverting (moment plan journal).tool.reason ≡ true → Reads plan.table after.log work.applier entry.answer
      unfolding given
      back_reads uncut back = by entry.answer refl where
        fits : (request : Request) → IsAbout request (standing_of plan journal Apply) entry.asked → answers_to request entry.answer ≡ true
        fits request is = own_fits plan journal entry together.known served request (subst (λ (a : Actor). IsAbout request (standing_of plan journal a) entry.asked) (sym same) is)

        none : (events : List RowEvent) (next : ℕ) → entry.answer ≡ answers.Events events next → Asking plan journal Apply entry.asked → ⊥
        none events next is (polls_so request asks waits) = names_read request events next (hints.names request waits) (ap (answers_to request) (sym is) ∙ fits request (is_polled asks waits))
        none events next is (calls_so request asks idle call) =
            reverting_or ⊥ (is_reverting (moment plan journal).tool.reason) (rolls_back (moment plan journal).server (live_session journal Apply)) (apply_call plan (moment plan journal).server journal (moment plan journal).tool work) request
            (ap (λ (c : ToolPhase). tool_call plan (moment plan journal).server journal (moment plan journal).tool c Apply) (sym tool_phase) ∙ call)
            (λ reverting rolls. false≢true (ap (λ (r : Request). answers_to r (answers.Events events next)) (sym (back_quiet (in_transaction (moment plan journal).server (live_session journal Apply)) request rolls)) ∙ ap (answers_to request) (sym is) ∙ fits request (is_called asks idle)))
            (λ going calls. true≢false (sym back ∙ going))

        by : (answer : Answer) → entry.answer ≡ answer → Reads plan.table after.log work.applier answer
        by (answers.Events events next) is = absurd (none events next is (asking plan journal Apply entry.asked together.server (gave uncut)))
        by answer is = tt

      reads : (entry.asked ≡ Cut → ⊥) → Reads plan.table after.log work.applier entry.answer
      reads uncut = by (is_reverting (moment plan journal).tool.reason) refl where
        by : (b : Bool) → is_reverting (moment plan journal).tool.reason ≡ b → Reads plan.table after.log work.applier entry.answer
        by true back = back_reads uncut back
        by false going = applier_reads plan runs serial journal entry kept off hints work tool_phase same uncut going

      -- what was told, a loss aside
      reported_reads : (answer : Answer) → ((answer ≡ answers.Lost → ⊥) → (answer ≡ entry.answer) × (entry.asked ≡ Cut → ⊥)) → Reads plan.table after.log work.applier answer
      reported_reads answers.Lost statement_result = tt
      reported_reads (answers.Events events next) statement_result = let all = statement_result (λ lost. cc) in subst (Reads plan.table after.log work.applier) (sym all.0) (reads all.1)
      reported_reads answer statement_result = tt

      none_read : (answer : Answer) → Reads plan.table after.log work.applier answer → (events : List RowEvent) (next : ℕ) → answer ≡ answers.Events events next → IsDrained plan.table after.log work.copier work.applier → events_of plan.table events ≡ []
      none_read answer reads events next is drained = none_reported plan.table after.log work.applier.position next events (subst (Reads plan.table after.log work.applier) is reads) drained.applied

      applies : (turns : ℕ) (answer : Option Answer) → ((a : Answer) → answer ≡ Some a → (a ≡ answers.Lost → ⊥) → (a ≡ entry.answer) × (entry.asked ≡ Cut → ⊥)) → ApplierTurn plan after work turns answer
      applies turns None statement_result = tt
      applies turns (Some answer) statement_result = (
        has_turned plan.table (scene after) turns work.copier work.applier answer work.cutover.attempts work.cutover.phase own knows (reported_reads answer (statement_result answer refl)) ahead (none_read answer (reported_reads answer (statement_result answer refl))),
        record { knows = knows.hint; within = knows.within; idle = λ draining is. absurd (ahead draining is); stays = λ drained. drained },
      )

    applier : IsTurned plan journal entry
    applier = turned_by (no_operator Apply refl same) works where
      apart : OtherTurn plan before after locker renamer entry.session
      apart =
          others (no_operator Apply refl same) (ap (λ (a : Actor). same_actor a Lock) same) (ap (λ (a : Actor). same_actor a Ren) same)
          (λ request free. subst (λ (a : Actor). FreeAt a request) same free)

      works : (work : Work) → (moment plan journal).tool.tool_phase ≡ Migrating work → (turns : ℕ) (answer : Option Answer) → ((a : Answer) → answer ≡ Some a → (a ≡ answers.Lost → ⊥) → (a ≡ entry.answer) × (entry.asked ≡ Cut → ⊥)) → WorkTurn plan before after locker renamer work turns entry entry.actor answer
      works work tool_phase turns answer statement_result = subst (λ (a : Actor). WorkTurn plan before after locker renamer work turns entry a answer) (sym same) (apart, applies work tool_phase turns answer statement_result)

-- *Copiers are turned*
pub copiers_turned : EntriesAreTurns → CopiersAreTurned
copiers_turned entries plan journal entry same runs serial kept off = copier entries plan journal entry runs serial kept off same

-- *Appliers are turned*
pub appliers_turned : EntriesAreTurns → AppliersAreTurned
appliers_turned entries plan journal entry same runs serial kept off = applier entries plan journal entry runs serial kept off same
