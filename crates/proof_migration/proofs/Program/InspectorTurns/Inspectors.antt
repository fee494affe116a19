-- A turn of the inspector's is such a turn as the sentry relation asks.
use Rattle.proof_migration.proofs.ToolServes.{tool_serves}
use Rattle.server_model.specs.PlainServer.{recounted, counters_left}
use Rattle.std.proofs.Common.{◌≡◌, ◌≢◌, ◌<◌, ◌+◌, ℕ, Bool, true, false, not, cond, List, [], ◌∷◌, ◌++◌, take, Option, Some, None, refl, sym, ap, ◌∙◌, subst}
use Rattle.std.proofs.Math.Nat.{ne_of_lt}
use Rattle.std.proofs.lemmas.Bool.{true≢false}
use Rattle.std.proofs.lemmas.Option.{same_Some}
use Rattle.table_store.specs.Databases.{has_table}
use Rattle.base_values.specs.declared.event.RowEvent.{RowEvent}
use Rattle.base_script.specs.declared.actor.Actor.{Actor}
use Rattle.base_script.specs.declared.actor.Actor.TheVariants.{Insp, Lock, Ren}
use Rattle.base_script.specs.declared.operator.OperatorWord.{OperatorWord}
use Rattle.server_model.specs.Entries.{is_client, is_command, is_cut, same_actor}
use Rattle.server_model.specs.States.{State, has_work, waiting_of}
use Rattle.server_model.specs.declared.answer.Answer.{Answer}
use Rattle.server_model.specs.declared.answer.Answer.TheVariants as answers
use Rattle.server_model.specs.declared.entry.Asked.{Asked}
use Rattle.server_model.specs.declared.entry.Asked.TheVariants.{Call, Poll, Command, Cut}
use Rattle.server_model.specs.declared.entry.Entry.{Entry}
use Rattle.server_model.specs.declared.listing.TableName.{TableName}
use Rattle.server_model.specs.declared.request.Request.{Request}
use Rattle.server_model.specs.declared.request.Request.TheVariants as requests
use Rattle.plan_data.specs.PlanData.{PlanData}
use Rattle.base_values.specs.ToolNames.{log_name, old_name}
use Rattle.tool_changelog.specs.ToolTables.{log_schema}
use Rattle.tool_program.specs.CutoverCore.Attempts as cutovers
use Rattle.tool_program.specs.CutoverCore.Attempts.{clears, is_free, writes_hint}
use Rattle.tool_program.specs.declared.cutover_core.cutover.Clearing.TheVariants.{Drops, Looking}
use Rattle.tool_program.specs.declared.cutover_core.cutover.CutOver.{CutOver}
use Rattle.tool_program.specs.declared.cutover_core.cutover.Hold.{Hold}
use Rattle.tool_program.specs.declared.cutover_core.cutover.Hold.TheVariants.{Locks, Nothing, WaitsToGuard, WaitsToLock}
use Rattle.tool_changelog.specs.Hints.{last_hint}
use Rattle.tool_program.specs.declared.cutover_core.cutover.Phase.{Phase}
use Rattle.tool_program.specs.declared.cutover_core.cutover.Phase.TheVariants.{Attempting, Ending, Finished, Finishing, Resting}
use Rattle.tool_program.specs.declared.cutover_core.cutover.Stage.TheVariants.{Hinting, Showing, ReadingCounter, SettingCounter}
use Rattle.tool_program.specs.JournalWords.Journals.{opens, state_at}
use Rattle.tool_program.specs.Programs.{IsGiven, given, tool_call}
use Rattle.tool_program.specs.Tools.{ToolPhase, Migrating, SettingUp, Work, is_reverting, moment}
use Rattle.tool_program.proofs.OnlineCalls.Machines.{ToolPhaseIsNamed, named}
use Rattle.proof_journals.specs.Plans.{IsSerialPlan}
use Rattle.proof_journals.specs.Turns.{about, request_of}
use Rattle.proof_journals.proofs.Machine.Inspecting.{inspects_or}
use Rattle.proof_journals.proofs.Journals.{opened_waits}
use Rattle.proof_journals.specs.ServerTurns.Others.{EntriesAreTurns, TurnOf, asks_names, held_at, takes_names}
use Rattle.proof_journals.specs.Run.Kept.{IsKept}
use Rattle.proof_journals.specs.Machine.Machines.{WorkStands, inspector_waits}
use Rattle.proof_journals.specs.Machine.Runnable.{IsRunnable}
use Rattle.proof_journals.specs.Machine.Standings.{IsAbout, Standing, answers_to, free, is_called, is_polled, standing_of}
use Rattle.proof_journals.specs.Machine.MigrationTables.{schema_of}
use Rattle.proof_journals.proofs.Machine.Asking.{waits_asks as waits_kind}
use Rattle.proof_journals.proofs.Machine.Journals.{Asking, IsRun, IsTogether, all_together, asking, calls_so, never_commands, polls_so}
use Rattle.proof_journals.proofs.Machine.Seated.{own_fits, own_waiting}
use Rattle.proof_journals.specs.Sentry.Sentries.{InspectorMay, InspectorTurns, InspectorWrites, OthersTurn, Rests, WritesHint, scene}
use Rattle.proof_journals.specs.Sentry.TurnResults.{Apart, AskedTurn, ToolPhaseTurn, InspectorSays, InspectorTurn, IsTurned, WorkTurn, last_session, reported_if}
use Rattle.proof_journals.proofs.Sentry.Serving.{others_turn, waits_on}
use Rattle.proof_migration.specs.ToolPhase.Unaltered.{IsUnaltered}
use Rattle.proof_migration.proofs.ToolPhase.Unaltered.Away.{unaltered_front}
use Rattle.proof_migration.specs.Program.Hints.{HintsAreKnown, IsBegun, is_unhinted}
use Rattle.proof_migration.proofs.Program.Turns.Asked.{about_called, gave}
use Rattle.proof_migration.proofs.Program.Turns.Follows.{kept_front, kept_run}
use Rattle.proof_migration.proofs.Program.Holds.Live.{work_stands}
use Rattle.proof_migration.proofs.Program.Holds.ActorStates.{kept_differs}
use Rattle.proof_migration.proofs.Program.LockerTurns.Entries as entries
use Rattle.proof_migration.specs.Program.InspectorTurns.{InspectorsAreTurned}
use Rattle.proof_migration.proofs.Program.InspectorTurns.Fitting.{AsksAt, WaitsAt, waits_asks}
use Rattle.proof_migration.proofs.Program.InspectorTurns.Hints.{Hinted, IsBare, hinted}
use Rattle.proof_migration.proofs.Program.InspectorTurns.Keeping.{ToolPhaseFits, WorkFits, all_fit, insp_asks}

-- while an attempt may succeed, and where its end is looked at, it asks nothing that makes or drops a table
abbrev IsShared : Request → Phase → Type 0
IsShared request (Attempting stage) = takes_names request ≡ false
IsShared request (Ending Looking) = takes_names request ≡ false
IsShared request phase = Unit {0}

asks_shared : (request : Request) (table : List ℕ) (attempt : ℕ) (phase : Phase) → AsksAt request table attempt phase → IsShared request phase
asks_shared request table attempt (Attempting Hinting) at = ap takes_names at
asks_shared request table attempt (Attempting Showing) at = ap takes_names at
asks_shared request table attempt (Attempting (ReadingCounter drain)) at = ap takes_names at
asks_shared request table attempt (Attempting (SettingCounter number drain)) at = ap takes_names at
asks_shared request table attempt (Attempting stage) at = absurd at
asks_shared request table attempt (Ending Looking) at = at
asks_shared request table attempt (Ending (Drops left)) at = tt
asks_shared request table attempt Resting at = tt
asks_shared request table attempt (Finishing clearing) at = tt
asks_shared request table attempt Finished at = tt

-- the listing at an attempt's end is called where the locker has nothing and no RENAME waits
pub free_so : (hold : Hold) (waits : Bool) → is_free hold waits ≡ true → (hold ≡ Nothing) × (waits ≡ false)
free_so Nothing false is = (refl, refl)
free_so Nothing true is = absurd (true≢false (sym is))
free_so WaitsToGuard waits is = absurd (true≢false (sym is))
free_so WaitsToLock waits is = absurd (true≢false (sym is))
free_so Locks waits is = absurd (true≢false (sym is))

called_may : (cutover : CutOver) (phase : Phase) (request : Request) (answer : Answer) → cutovers.inspector_call cutover phase ≡ Some request → InspectorMay phase cutover.hold cutover.renamer_waits answer
called_may cutover (Ending Looking) request (answers.Tables tables) is = by (is_free cutover.hold cutover.renamer_waits) refl is where
  by : (b : Bool) → is_free cutover.hold cutover.renamer_waits ≡ b → cond b (clears cutover.table Looking) None ≡ Some request → (cutover.hold ≡ Nothing) × (cutover.renamer_waits ≡ false)
  by true free is = free_so cutover.hold cutover.renamer_waits free
  by false busy is = absurd cc
called_may cutover (Ending Looking) request answer is = tt
called_may cutover (Ending (Drops left)) request answer is = tt
called_may cutover (Attempting stage) request answer is = tt
called_may cutover Resting request answer is = tt
called_may cutover (Finishing clearing) request answer is = tt
called_may cutover Finished request answer is = tt

no_listing : (request : Request) (tables : List TableName) → inspector_waits request ≡ true → answers_to request (answers.Tables tables) ≡ true → ⊥
no_listing (requests.Do statement) tables kind fits = cc
no_listing (requests.Ends table) tables kind fits = cc
no_listing (requests.Create schema) tables kind fits = cc
no_listing (requests.Drop name) tables kind fits = cc
no_listing (requests.SetCounter table least) tables kind fits = cc
no_listing request tables kind fits = cc

polled_may : (phase : Phase) (hold : Hold) (waits : Bool) (request : Request) (answer : Answer) → inspector_waits request ≡ true → answers_to request answer ≡ true → InspectorMay phase hold waits answer
polled_may (Ending Looking) hold waits request (answers.Tables tables) kind fits = absurd (no_listing request tables kind fits)
polled_may (Ending Looking) hold waits request answer kind fits = tt
polled_may (Ending (Drops left)) hold waits request answer kind fits = tt
polled_may (Attempting stage) hold waits request answer kind fits = tt
polled_may Resting hold waits request answer kind fits = tt
polled_may (Finishing clearing) hold waits request answer kind fits = tt
polled_may Finished hold waits request answer kind fits = tt

lost_may : (phase : Phase) (hold : Hold) (waits : Bool) → InspectorMay phase hold waits answers.Lost
lost_may (Ending Looking) hold waits = tt
lost_may (Ending (Drops left)) hold waits = tt
lost_may (Attempting stage) hold waits = tt
lost_may Resting hold waits = tt
lost_may (Finishing clearing) hold waits = tt
lost_may Finished hold waits = tt

lost_writes : (t : List ℕ) (attempt : ℕ) (phase : Phase) (before after : State) → InspectorWrites t attempt phase answers.Lost (scene before) (scene after)
lost_writes t attempt (Attempting Hinting) before after = tt
lost_writes t attempt (Attempting stage) before after = tt
lost_writes t attempt Resting before after = tt
lost_writes t attempt (Ending clearing) before after = tt
lost_writes t attempt (Finishing clearing) before after = tt
lost_writes t attempt Finished before after = tt

-- where the hint row of an attempt comes next, none of that attempt is in the log yet
abbrev IsUnhinted : PlanData → List Entry → Type 0
IsUnhinted plan journal =
    (work : Work) → (moment plan journal).tool.tool_phase ≡ Migrating work → work.cutover.phase ≡ Attempting Hinting → (count : ℕ) → last_hint plan.table 0 (take count (state_at plan journal).log) ≢ work.cutover.attempts

none_hinted : HintsAreKnown → (plan : PlanData) (journal : List Entry) → IsRunnable plan → IsSerialPlan plan → IsKept plan journal → IsUnaltered plan journal → IsUnhinted plan journal
none_hinted hints_are_known plan journal runs serial kept off work tool_phase hints count =
    let less : last_hint plan.table 0 (take count (state_at plan journal).log) < work.cutover.attempts =
    subst (λ (phase : Phase). IsBegun (is_unhinted phase) work.cutover.attempts (last_hint plan.table 0 (take count (state_at plan journal).log))) hints ((hints_are_known plan journal work runs serial kept off tool_phase).begun count) in
    ne_of_lt less

module _ (entries_are_turns : EntriesAreTurns) (plan : PlanData) (journal : List Entry) (entry : Entry) (inspects : entry.actor ≡ Insp) (runs : IsRunnable plan) (serial : IsSerialPlan plan) (kept : IsKept plan (journal ++ entry ∷ [])) (off : IsUnaltered plan (journal ++ entry ∷ [])) (unhinted : IsUnhinted plan journal) where
  abbrev before : State
  before = state_at plan journal

  abbrev after : State
  after = state_at plan (journal ++ entry ∷ [])

  abbrev now : State
  now = opens entry before

  abbrev has : Actor → Standing
  has = standing_of plan journal

  abbrev locker : ℕ
  locker = last_session journal Lock

  abbrev renamer : ℕ
  renamer = last_session journal Ren

  run : IsRun plan journal entry
  run = kept_run plan journal entry kept

  together : IsTogether plan journal
  together = entries.together entries_are_turns plan journal entry runs serial kept off

  then_together : IsTogether plan (journal ++ entry ∷ [])
  then_together = all_together plan (journal ++ entry ∷ []) kept.faithful kept.follows

  never : (word : OperatorWord) → IsGiven plan journal entry (Command word) → ⊥
  unfolding given
  never word gives = never_commands plan journal Insp word (subst (λ (a : Actor). given plan journal a ≡ Some (Command word)) inspects gives)

  called : is_command entry.asked ≡ false
  called = by entry.asked run.followed.given where
    by : (asked : Asked) → IsGiven plan journal entry asked → is_command asked ≡ false
    by (Call request) gives = refl
    by Poll gives = refl
    by Cut gives = refl
    by (Command word) gives = absurd (never word gives)

  apart : Apart locker renamer entry.session
  apart = record {
    locks = kept_differs plan journal entry kept called Lock (ap (λ (a : Actor). same_actor a Lock) inspects);
    renames = kept_differs plan journal entry kept called Ren (ap (λ (a : Actor). same_actor a Ren) inspects);
  }

  turn : TurnOf (asks_names (about now entry.session entry.asked)) entry.session before after
  turn = entries.turn entries_are_turns plan journal entry runs serial kept off

  shared_turn : asks_names (about now entry.session entry.asked) ≡ false → OthersTurn plan.table renamer entry.session (scene before) (scene after)
  shared_turn shared = others_turn plan.table renamer entry.session before after apart.renames (subst (λ (takes : Bool). TurnOf takes entry.session before after) shared turn)

  module _ (work : Work) (tool_phase : (moment plan journal).tool.tool_phase ≡ Migrating work) where
    stands : WorkStands journal (is_reverting (moment plan journal).tool.reason) has work
    stands = work_stands plan journal work together tool_phase

    own_table : work.cutover.table ≡ plan.table
    own_table = (subst (ToolPhaseIsNamed plan) tool_phase (named plan journal)).cutover

    fits_now : WorkFits plan before.tables (has Insp).waits work
    fits_now = subst (ToolPhaseFits plan before.tables (has Insp).waits) tool_phase (all_fit plan journal runs serial (kept_front plan journal (entry ∷ []) kept) (unaltered_front plan journal (entry ∷ []) off))

    busy : (has entry.actor).busy ≡ false
    busy = ap (λ (a : Actor). (has a).busy) inspects ∙ stands.inspector.busy

    locked : (has entry.actor).locked ≡ []
    locked = ap (λ (a : Actor). (has a).locked) inspects ∙ stands.inspector.locked

    -- the turn, by the phase
    turns_so : (phase : Phase) → ((request : Request) → about now entry.session entry.asked ≡ Some request → IsShared request phase) → InspectorTurns plan.table renamer entry.session phase (scene before) (scene after)
    turns_so phase shared = by (about now entry.session entry.asked) refl phase shared where
      none : about now entry.session entry.asked ≡ None → OthersTurn plan.table renamer entry.session (scene before) (scene after)
      none is = shared_turn (ap asks_names is)

      one : (request : Request) → about now entry.session entry.asked ≡ Some request → takes_names request ≡ false → OthersTurn plan.table renamer entry.session (scene before) (scene after)
      one request is off = shared_turn (ap asks_names is ∙ off)

      by : (asks : Option Request) → about now entry.session entry.asked ≡ asks → (phase : Phase) → ((request : Request) → about now entry.session entry.asked ≡ Some request → IsShared request phase) → InspectorTurns plan.table renamer entry.session phase (scene before) (scene after)
      by None is (Attempting stage) shared = none is
      by None is (Ending Looking) shared = none is
      by (Some request) is (Attempting stage) shared = one request is (shared request is)
      by (Some request) is (Ending Looking) shared = one request is (shared request is)
      by asks is (Ending (Drops left)) shared = tt
      by asks is Resting shared = tt
      by asks is (Finishing clearing) shared = tt
      by asks is Finished shared = tt

    -- A CALL OR A POLL

    module _ (request : Request) (is_about : IsAbout request (has Insp) entry.asked) (asks : AsksAt request work.cutover.table work.cutover.attempts work.cutover.phase) where
      about_here : about now entry.session entry.asked ≡ Some request
      about_here = about_called plan serial runs.fitting journal entry (entries.known entries_are_turns plan journal entry runs serial kept off) run off Insp request inspects is_about

      about_one : (other : Request) → about now entry.session entry.asked ≡ Some other → IsShared other work.cutover.phase
      about_one other is = let same : request ≡ other = same_Some request other (sym about_here ∙ is) in subst (λ (r : Request). IsShared r work.cutover.phase) same (asks_shared request work.cutover.table work.cutover.attempts work.cutover.phase asks)

      uncut : entry.asked ≡ Cut → ⊥
      uncut cut = by is_about where
        no_call : Call request ≡ Cut → ⊥
        no_call same = cc

        no_poll : Poll ≡ Cut → ⊥
        no_poll same = cc

        by : IsAbout request (has Insp) entry.asked → ⊥
        by (is_called asks none) = no_call (sym asks ∙ cut)
        by (is_polled asks some) = no_poll (sym asks ∙ cut)

      -- the session has nothing but its request
      bare : IsBare now entry.session
      bare = record {
        tool = tool_serves plan journal entry (kept_front plan journal (entry ∷ []) kept) together run called (ap is_client inspects);
        names = entries.nameless entries_are_turns plan journal entry runs serial kept off called busy locked;
        busy = entries.idle_now entries_are_turns plan journal entry runs serial kept off called busy;
        writes = entries.writeless entries_are_turns plan journal entry runs serial kept off called busy;
      }

      log_stands : schema_of (log_name plan.table) now.tables ≡ Some (log_schema plan.table)
      log_stands = ap (schema_of (log_name plan.table)) (entries.tables_now entries_are_turns plan journal entry runs serial kept off) ∙ fits_now.log

      heard : (count : ℕ) → entry.answer ≡ answers.Ok count → entry.side ≡ None
      heard count is = entries.heard_side entries_are_turns plan journal entry runs serial kept off (λ lost. no (sym lost ∙ is)) where
        no : answers.Lost ≡ answers.Ok count → ⊥
        no same = cc

      -- the hint row
      writes_row : work.cutover.phase ≡ Attempting Hinting → (count : ℕ) → entry.answer ≡ answers.Ok count → WritesHint plan.table work.cutover.attempts (scene before) (scene after)
      writes_row hints count is =
          let asked_row : request ≡ writes_hint plan.table work.cutover.attempts = subst (AsksAt request work.cutover.table work.cutover.attempts) hints asks ∙ ap (λ (t : List ℕ). writes_hint t work.cutover.attempts) own_table in
          let done : Hinted plan.table work.cutover.attempts now (entries.served entries_are_turns plan journal entry runs serial kept off).after = hinted plan.table work.cutover.attempts now entry.session bare log_stands entry.asked (about_here ∙ ap Some asked_row) uncut count
          (entries.given_heard entries_are_turns plan journal entry runs serial kept off (heard count is) ∙ is) in
          let left : after ≡ recounted (counters_left None now entry.session entry.asked) (entries.served entries_are_turns plan journal entry runs serial kept off).after = entries.after_is entries_are_turns plan journal entry runs serial kept off None (heard count is) in
          record {
            earlier = unhinted work tool_phase hints;
            tables = (shared_turn (ap asks_names (about_here ∙ ap Some asked_row))).old_stays;
            held = ap held_at left ∙ done.held ∙ entries.held_now entries_are_turns plan journal entry runs serial kept off;
            log = ap (λ (s : State). s.log) left ∙ done.log ∙ ap (λ (log : List RowEvent). log ++ Rattle.proof_migration.proofs.Program.InspectorTurns.Hints.hint_event plan.table work.cutover.attempts ∷ []) (entries.log_now entries_are_turns plan journal entry runs serial kept off);
          }

      writes_so : (phase : Phase) → work.cutover.phase ≡ phase → (answer : Answer) → entry.answer ≡ answer → InspectorWrites plan.table work.cutover.attempts phase answer (scene before) (scene after)
      writes_so (Attempting Hinting) at (answers.Ok count) is = writes_row at count is
      writes_so (Attempting Hinting) at answer is = tt
      writes_so (Attempting stage) at answer is = tt
      writes_so Resting at answer is = tt
      writes_so (Ending clearing) at answer is = tt
      writes_so (Finishing clearing) at answer is = tt
      writes_so Finished at answer is = tt

    may_so : Asking plan journal Insp entry.asked → InspectorMay work.cutover.phase work.cutover.hold work.cutover.renamer_waits entry.answer
    unfolding cutovers.next
    may_so (calls_so request asks idle call) =
        inspects_or plan journal (moment plan journal).tool work request (InspectorMay work.cutover.phase work.cutover.hold work.cutover.renamer_waits entry.answer)
        (ap (λ (c : ToolPhase). tool_call plan (moment plan journal).server journal (moment plan journal).tool c Insp) (sym tool_phase) ∙ call)
        (λ note resting. subst (λ (p : Phase). InspectorMay p work.cutover.hold work.cutover.renamer_waits entry.answer) (sym resting) tt) (λ next. called_may work.cutover work.cutover.phase request entry.answer next)
    may_so (polls_so request asks some) =
        polled_may work.cutover.phase work.cutover.hold work.cutover.renamer_waits request entry.answer (waits_kind inspector_waits (has Insp).waits request stands.inspector.waits some)
        (own_fits plan journal entry together.known (entries.seated entries_are_turns plan journal entry runs serial kept off) request (subst (λ (a : Actor). IsAbout request (has a) entry.asked) (sym inspects) (is_polled asks some)))

    statement_result : given plan journal Insp ≡ Some entry.asked → InspectorSays plan before after locker renamer work entry.answer entry.session
    unfolding given
    statement_result gives =
        let asks : Asking plan journal Insp entry.asked = asking plan journal Insp entry.asked together.server gives in
        insp_asks plan journal entry serial runs (entries.known entries_are_turns plan journal entry runs serial kept off) run off (all_fit plan journal runs serial (kept_front plan journal (entry ∷ []) kept) (unaltered_front plan journal (entry ∷ []) off)) (kept_front plan journal (entry ∷ []) kept) work tool_phase asks
        (InspectorSays plan before after locker renamer work entry.answer entry.session)
        (λ request is_about kind. record { apart = apart; turn = turns_so work.cutover.phase (about_one request is_about kind); writes = writes_so request is_about kind work.cutover.phase refl entry.answer refl; may = may_so asks })

    -- A LOSS BETWEEN CALLS

    module _ (cut : entry.asked ≡ Cut) where
      waiting_here : (request : Request) → about now entry.session entry.asked ≡ Some request → (has Insp).waits ≡ Some request
      waiting_here request is =
          ap (λ (a : Actor). (has a).waits) (sym inspects) ∙ sym (own_waiting plan journal entry together.known (entries.seated entries_are_turns plan journal entry runs serial kept off) called)
          ∙ ap (λ w. request_of (waiting_of entry.session w)) (sym (opened_waits (is_command entry.asked) (not (is_client entry.actor)) entry.session before)) ∙ ap (about now entry.session) (sym cut) ∙ is

      worked : InspectorSays plan before after locker renamer work answers.Lost entry.session
      worked = record {
        apart = apart;
        turn = turns_so work.cutover.phase (λ request is. asks_shared request work.cutover.table work.cutover.attempts work.cutover.phase (waits_asks request work.cutover.table work.cutover.attempts work.cutover.phase (subst (λ (w : Option Request). WaitsAt w work.cutover.table work.cutover.attempts work.cutover.phase) (waiting_here request is) fits_now.waits)));
        writes = lost_writes plan.table work.cutover.attempts work.cutover.phase before after;
        may = lost_may work.cutover.phase work.cutover.hold work.cutover.renamer_waits;
      }

      idle : Rests plan.table renamer (scene before) (scene after)
      idle = record {
        tables = ap (has_table (old_name plan.table)) (entries.cut_tables entries_are_turns plan journal entry runs serial kept off cut);
        held = entries.cut_held entries_are_turns plan journal entry runs serial kept off cut busy locked;
        log = entries.cut_log entries_are_turns plan journal entry runs serial kept off cut;
        waits = waits_on plan.table renamer entry.session before after turn apart.renames;
      }

      lost : InspectorTurn plan before after locker renamer work (reported_if (has_work before entry.session)) entry.session
      lost = by (has_work before entry.session) where
        by : (b : Bool) → InspectorTurn plan before after locker renamer work (reported_if b) entry.session
        by true = worked
        by false = idle

    -- EACH TURN

    asked_turn : (turns : ℕ) (asked : Asked) → entry.asked ≡ asked → IsGiven plan journal entry asked → AskedTurn plan before after locker renamer work turns entry asked
    asked_turn turns asked asks gives = by asked asks gives where
      by_insp : (answer : Option Answer) → InspectorTurn plan before after locker renamer work answer entry.session → WorkTurn plan before after locker renamer work turns entry entry.actor answer
      by_insp answer is = subst (λ (a : Actor). WorkTurn plan before after locker renamer work turns entry a answer) (sym inspects) is

      said : is_cut entry.asked ≡ false → InspectorSays plan before after locker renamer work entry.answer entry.session
      said uncut = statement_result (gave plan serial runs.fitting journal entry (entries.known entries_are_turns plan journal entry runs serial kept off) run off Insp inspects uncut)

      by : (asked : Asked) → entry.asked ≡ asked → IsGiven plan journal entry asked → AskedTurn plan before after locker renamer work turns entry asked
      by (Command word) asks gives = absurd (never word gives)
      by (Call request) asks gives = by_insp (Some entry.answer) (said (ap is_cut asks))
      by Poll asks gives = by_insp (Some entry.answer) (said (ap is_cut asks))
      by Cut asks gives = by_insp (reported_if (has_work before entry.session)) (lost asks)

  turned : IsTurned plan journal entry
  turned = record { turn = by (moment plan journal).tool.tool_phase refl } where
    by : (tool_phase : ToolPhase) → (moment plan journal).tool.tool_phase ≡ tool_phase → ToolPhaseTurn plan (moment plan journal).server (moment plan (journal ++ entry ∷ [])).server locker renamer tool_phase ((moment plan journal).tool.turns + 1) entry
    by (SettingUp setup tries) tool_phase = tt
    by (Migrating work) tool_phase =
        subst (λ (s : State). AskedTurn plan s (moment plan (journal ++ entry ∷ [])).server locker renamer work ((moment plan journal).tool.turns + 1) entry entry.asked) (sym together.server)
        (subst (λ (s : State). AskedTurn plan before s locker renamer work ((moment plan journal).tool.turns + 1) entry entry.asked) (sym then_together.server) (asked_turn work tool_phase ((moment plan journal).tool.turns + 1) entry.asked refl run.followed.given))

-- *Inspectors are turned*
pub inspectors_turned : EntriesAreTurns → HintsAreKnown → InspectorsAreTurned
inspectors_turned entries_are_turns hints_are_known plan journal entry inspects runs serial kept off =
    turned entries_are_turns plan journal entry inspects runs serial kept off (none_hinted hints_are_known plan journal runs serial (kept_front plan journal (entry ∷ []) kept) (unaltered_front plan journal (entry ∷ []) off))
