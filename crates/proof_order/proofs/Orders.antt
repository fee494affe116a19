-- Each call of the tool's comes in the order of the cut-over.
use Rattle.std.proofs.Common.{◌≡◌, ◌⊎◌, ℕ, ◌==◌, Bool, true, false, cond, not, ◌&&◌, ◌||◌, List, [], ◌∷◌, ◌++◌, Option, Some, None, refl, sym, ap, ◌∙◌, subst, inl, inr}
use Rattle.std.specs.Prelude.{nat_lt}
use Rattle.std.specs.List.{list_any, slice_get}
use Rattle.std.specs.Str.{bytes_eq}
use Rattle.std.proofs.lemmas.Bool.{true≢false, false≢true}
use Rattle.base_script.specs.declared.actor.Actor.{Actor}
use Rattle.base_script.specs.declared.actor.Actor.TheVariants.{Op, Insp, Copy, Apply, Lock, Ren, Client}
use Rattle.base_script.specs.declared.operator.OperatorWord.{OperatorWord}
use Rattle.base_values.specs.ToolNames.{ghost_name, log_name, old_name}
use Rattle.server_model.specs.Along.{Along, Along-keeps}
use Rattle.server_model.specs.Entries.{request_in}
use Rattle.server_model.specs.declared.entry.Asked.{Asked}
use Rattle.server_model.specs.declared.entry.Asked.TheVariants.{Call, Poll, Command, Cut}
use Rattle.server_model.specs.declared.entry.Entry.{Entry}
use Rattle.server_model.specs.declared.request.Request.{Request}
use Rattle.server_model.specs.declared.request.Request.TheVariants as requests
use Rattle.server_model.proofs.LockedRows.Tests.{same_bytes}
use Rattle.plan_data.specs.PlanData.{PlanData, has_counter}
use Rattle.tool_changelog.specs.Hints.{hint_row}
use Rattle.tool_program.specs.JournalWords.Journals.{state_at}
use Rattle.tool_program.specs.JournalWords.KeptPlans.{words_of}
use Rattle.tool_program.specs.JournalWords.Sessions.{live_session}
use Rattle.tool_program.specs.declared.chunk_copier.copier.CopyStep.{CopyStep}
use Rattle.tool_program.specs.declared.chunk_copier.copier.CopyStep.TheVariants as copying
use Rattle.tool_program.specs.declared.event_applier.applier.ApplyStep.{ApplyStep}
use Rattle.tool_program.specs.declared.event_applier.applier.ApplyStep.TheVariants.{Reading, Beginning, Applying, Committing}
use Rattle.tool_program.specs.declared.cutover_core.cutover.Clearing.TheVariants.{Looking, Drops}
use Rattle.tool_program.specs.declared.cutover_core.cutover.Hold.{Hold}
use Rattle.tool_program.specs.declared.cutover_core.cutover.Hold.TheVariants.{Nothing, WaitsToGuard, WaitsToLock, Locks}
use Rattle.tool_program.specs.declared.cutover_core.cutover.Phase.{Phase}
use Rattle.tool_program.specs.declared.cutover_core.cutover.Phase.TheVariants.{Resting, Attempting, Ending, Finishing, Finished}
use Rattle.tool_program.specs.declared.cutover_core.cutover.Stage.TheVariants.{Locking, Hinting, ReadingCounter, SettingCounter, Drained, Showing, Dropping, Unlocking}
use Rattle.tool_program.specs.ChunkCopier.Copiers as copiers
use Rattle.tool_program.specs.EventApplier.Appliers as appliers
use Rattle.tool_program.specs.CutoverCore.Attempts as attempts
use Rattle.tool_program.specs.CutoverCore.Attempts.{exchange, first_name, is_free, has_sentry, writes_hint, clears, inspector_call}
use Rattle.tool_program.specs.CutoverCore.CutOvers.{is_done, stands}
use Rattle.tool_program.specs.Operators.{is_throttled}
use Rattle.tool_program.specs.Programs as programs
use Rattle.tool_program.specs.Programs.{given, IsGiven, tool_call, apply_call, copy_call, rolls_back, in_transaction, may_read, unread_in}
use Rattle.tool_program.specs.Setups.{Setup, Listing, Clearing, MakingLog, MakingGhost, Marking, Reaching, Ready, setup_call}
use Rattle.tool_program.specs.Tools.{Work, ToolPhase, SettingUp, Migrating, Moment, is_reverting, moment}
use Rattle.tool_program.proofs.OnlineCalls.Machines.{ToolPhaseIsNamed, named}
use Rattle.proof_journals.specs.Plans.{IsSerialPlan}
use Rattle.proof_journals.specs.Run.Kept.{IsKept}
use Rattle.proof_journals.specs.Machine.Machines.{ToolPhaseStands, WorkStands, PhaseHolds, copier_asks, applier_asks, held}
use Rattle.proof_journals.specs.Machine.Runnable.{IsRunnable}
use Rattle.proof_journals.specs.Machine.Standings.{Standing, standing_of, IsAbout, is_called, is_polled}
use Rattle.proof_journals.proofs.Machine.Asking.{some_request, unless_called, copier_next}
use Rattle.proof_journals.proofs.Machine.Calling.{reverting_or}
use Rattle.proof_journals.proofs.Machine.CuttingOver.{LockerAsks}
use Rattle.proof_journals.proofs.Machine.Inspecting.{IsNote, inspects_or}
use Rattle.proof_journals.proofs.Machine.Journals.{IsRun, IsTogether, Asking, calls_so, polls_so, asking, lock_about, apply_about}
use Rattle.proof_journals.proofs.Machine.Tabling.{back_quiet}
use Rattle.proof_migration.specs.InspectorWaits.{InspectorsWaitToSet}
use Rattle.proof_migration.proofs.Attempt.Stages.{RenamerAt, StandsAt}
use Rattle.proof_migration.proofs.Attempt.Standing.{ToolPhaseAt, IsStanding, all_standing}
use Rattle.proof_migration.proofs.Program.Turns.Follows.{kept_front, kept_run}
use Rattle.proof_migration.proofs.Program.InspectorTurns.Inspectors.{free_so}
use Rattle.proof_order.specs.CutOverOrder.{holds_so, waits_so, last_call, last_answer, last_reply, shown_so, is_carried, is_locked, is_at_rest, attempts_begun, rename_shown, is_renamed, tables_listed, is_renaming, hints_applied, IsOrderedCall, IsOrderedTurn, KeepsOrder}
use Rattle.proof_order.specs.Laws.{KeptJournalsKeepOrder}
use Rattle.proof_order.proofs.Words.{Words, words}
use Rattle.proof_order.proofs.Phases.{PassedAt, ShownAt, DropsAt, is_held, and_both, first_order}
use Rattle.proof_order.proofs.Roles.{LockerAnswered, DoneAt}
use Rattle.proof_order.proofs.Counters.{CountsAt, ToolPhaseCounts, IsCounting, counting_more, counting_begins}
use Rattle.proof_order.proofs.Turns.{ToolPhaseOrdered, SetupOrdered, IsOrdered, ordered_more, ordered_begins}

-- LEMMAS OF BOOLEANS

second_or : (a b c d : Bool) → b ≡ true → (a || b || c || d) ≡ true
second_or true b c d is = refl
second_or false true c d is = refl
second_or false false c d is = absurd (false≢true is)

third_or : (a b c d : Bool) → c ≡ true → (a || b || c || d) ≡ true
third_or a b true d is = by a b where
  by : (a b : Bool) → (a || b || true || d) ≡ true
  by true b = refl
  by false true = refl
  by false false = refl
third_or a b false d is = absurd (false≢true is)

fourth_or : (a b c d : Bool) → d ≡ true → (a || b || c || d) ≡ true
fourth_or true b c d is = refl
fourth_or false true c d is = refl
fourth_or false false true d is = refl
fourth_or false false false d is = is

first_or : (a b c d : Bool) → a ≡ false → (not a || b || c || d) ≡ true
first_or true b c d is = absurd (true≢false is)
first_or false b c d is = refl

or_second : (a b : Bool) → b ≡ true → (a || b) ≡ true
or_second true b is = refl
or_second false b is = is

three_off : (a b c : Bool) → a ≡ false → b ≡ false → c ≡ false → (not a && not b && not c) ≡ true
three_off true b c one two three = absurd (true≢false one)
three_off false true c one two three = absurd (true≢false two)
three_off false false true one two three = absurd (true≢false three)
three_off false false false one two three = refl

not_true : (b : Bool) → (b ≡ true → ⊥) → not b ≡ true
not_true true off = absurd (off refl)
not_true false off = refl

zero_is : (n : ℕ) → n ≡ 0 → (n == 0) ≡ true
zero_is n is = ap (λ (m : ℕ). m == 0) is

-- A CALL THAT NOTHING IS ASKED OF

module _ (plan : PlanData) (journal : List Entry) where
  abbrev Ordered : Actor → Request → Type 0
  Ordered actor request = IsOrderedCall plan journal actor request

  copier_calls : (step : CopyStep) (request : Request) → copier_asks step request ≡ true → Ordered Copy request
  copier_calls copying.Choosing (requests.ChunkEnd table low top size) kind = record { drops = refl; renames = refl; reads = refl; clears = refl; hints = tt; counts = refl }
  copier_calls (copying.Spanning reported most) (requests.BeginSpan table span size) kind = record { drops = refl; renames = refl; reads = refl; clears = refl; hints = tt; counts = refl }
  copier_calls (copying.Copying chunk copied) (requests.CopyRow from into columns key) kind = record { drops = refl; renames = refl; reads = refl; clears = refl; hints = tt; counts = refl }
  copier_calls (copying.Committing chunk) requests.Commit kind = record { drops = refl; renames = refl; reads = refl; clears = refl; hints = tt; counts = refl }
  copier_calls step request kind = absurd (false≢true kind)

  -- the applier reads where no RENAME is under way
  applier_calls : (step : ApplyStep) (request : Request) → (appliers.is_reading step ≡ true → is_renaming plan journal ≡ true → ⊥) → applier_asks step request ≡ true → Ordered Apply request
  applier_calls Reading (requests.ReadLog position limit tables) off kind = record { drops = refl; renames = refl; reads = not_true (is_renaming plan journal) (off refl); clears = refl; hints = tt; counts = refl }
  applier_calls (Beginning batch) requests.Begin off kind = record { drops = refl; renames = refl; reads = refl; clears = refl; hints = tt; counts = refl }
  applier_calls (Applying batch done part) (requests.Do statement) off kind = record { drops = refl; renames = refl; reads = refl; clears = refl; hints = tt; counts = refl }
  applier_calls (Committing batch) requests.Commit off kind = record { drops = refl; renames = refl; reads = refl; clears = refl; hints = tt; counts = refl }
  applier_calls step request off kind = absurd (false≢true kind)

  rolls_copier : (request : Request) → request ≡ requests.Rollback → Ordered Copy request
  rolls_copier request is = subst (Ordered Copy) (sym is) (record { drops = refl; renames = refl; reads = refl; clears = refl; hints = tt; counts = refl })

  rolls_applier : (request : Request) → request ≡ requests.Rollback → Ordered Apply request
  rolls_applier request is = subst (Ordered Apply) (sym is) (record { drops = refl; renames = refl; reads = refl; clears = refl; hints = tt; counts = refl })

  rest_is : holds_so (last_call Lock journal) (last_answer Lock journal) ≡ false → waits_so (last_answer Lock journal) ≡ false → waits_so (last_answer Ren journal) ≡ false → is_at_rest journal ≡ true
  rest_is one two three = three_off (holds_so (last_call Lock journal) (last_answer Lock journal)) (waits_so (last_answer Lock journal)) (waits_so (last_answer Ren journal)) one two three

  -- the setup
  setup_calls : (setup : Setup) (request : Request) → SetupOrdered (words plan journal) → setup_call plan setup ≡ Some request → Ordered Insp request
  setup_calls setup request at call = by setup call where
    rests : (is_renamed journal || is_at_rest journal) ≡ true
    rests = or_second (is_renamed journal) (is_at_rest journal) (rest_is at.locker.0 at.locker.1 at.renamer)

    by : (setup : Setup) → setup_call plan setup ≡ Some request → Ordered Insp request
    by Listing call = some_request (Ordered Insp) requests.ShowTables request call (record { drops = refl; renames = refl; reads = refl; clears = rests; hints = tt; counts = refl })
    by (Clearing left) call =
        some_request (Ordered Insp) (requests.Drop (first_name plan.table left)) request call
        (record {
          drops = second_or (not (bytes_eq (first_name plan.table left) (old_name plan.table))) (attempts_begun journal == 0) plan.options.ok_to_drop_table (has_sentry plan.table (tables_listed journal)) (zero_is (attempts_begun journal) at.begun);
          renames = refl;
          reads = refl;
          clears = rests;
          hints = tt;
          counts = refl;
        })
    by MakingLog call = some_request (Ordered Insp) _ request call (record { drops = refl; renames = refl; reads = refl; clears = refl; hints = tt; counts = refl })
    by MakingGhost call = some_request (Ordered Insp) _ request call (record { drops = refl; renames = refl; reads = refl; clears = refl; hints = tt; counts = refl })
    by Marking call = some_request (Ordered Insp) _ request call (record { drops = refl; renames = refl; reads = refl; clears = refl; hints = tt; counts = refl })
    by (Reaching position) call = some_request (Ordered Insp) _ request call (record { drops = refl; renames = refl; reads = refl; clears = refl; hints = tt; counts = refl })
    by (Ready position range) call = absurd cc

-- ONE TURN

module _ (plan : PlanData) (journal : List Entry) (entry : Entry) (run : IsRun plan journal entry) (standing : IsStanding plan journal) (counting : IsCounting plan journal) (is : IsOrdered plan journal) where
  abbrev now : Moment
  now = moment plan journal

  abbrev so_far : Words
  so_far = words plan journal

  abbrev has : Actor → Standing
  has = standing_of plan journal

  together : IsTogether plan journal
  together = standing.tabled.all.tool

  abbrev Turn : Actor → Type 0
  Turn actor = IsOrderedTurn plan journal actor (request_in entry.asked)

  work_has : (work : Work) → now.tool.tool_phase ≡ Migrating work → WorkStands journal (is_reverting now.tool.reason) has work
  work_has work eq = subst (ToolPhaseStands journal has (is_reverting now.tool.reason)) eq together.stands

  old_at : (tool_phase : ToolPhase) → now.tool.tool_phase ≡ tool_phase → ToolPhaseOrdered plan so_far (live_session journal Ren) tool_phase
  old_at tool_phase eq = subst (ToolPhaseOrdered plan so_far (live_session journal Ren)) eq is.tool_phase

  own_table : (work : Work) → now.tool.tool_phase ≡ Migrating work → work.cutover.table ≡ plan.table
  own_table work eq = (subst (ToolPhaseIsNamed plan) eq (named plan journal)).cutover

  locked : (work : Work) → now.tool.tool_phase ≡ Migrating work → work.cutover.hold ≡ Locks → is_locked journal ≡ true
  locked work eq holds = subst (LockerAnswered so_far.call so_far.answer) holds (old_at (Migrating work) eq).locker

  -- what the phase says of the counter
  abbrev Counts : Phase → Type 0
  Counts phase = CountsAt plan (has Insp).waits (last_call Insp journal) (last_reply Insp journal) phase

  counts_at : (tool_phase : ToolPhase) → now.tool.tool_phase ≡ tool_phase → ToolPhaseCounts plan (has Insp).waits (last_call Insp journal) (last_reply Insp journal) tool_phase
  counts_at tool_phase eq = subst (ToolPhaseCounts plan (has Insp).waits (last_call Insp journal) (last_reply Insp journal)) eq counting

  call_of : (actor : Actor) (request : Request) (tool_phase : ToolPhase) → now.tool.tool_phase ≡ tool_phase → tool_call plan now.server journal now.tool now.tool.tool_phase actor ≡ Some request → tool_call plan now.server journal now.tool tool_phase actor ≡ Some request
  call_of actor request tool_phase eq call = ap (λ (c : ToolPhase). tool_call plan now.server journal now.tool c actor) (sym eq) ∙ call

  -- THE COPIER

  copier_call : (request : Request) (tool_phase : ToolPhase) → tool_call plan now.server journal now.tool tool_phase Copy ≡ Some request → IsOrderedCall plan journal Copy request
  copier_call request (SettingUp setup tries) call = absurd cc
  copier_call request (Migrating work) call =
      reverting_or (IsOrderedCall plan journal Copy request) (is_reverting now.tool.reason) (rolls_back now.server (live_session journal Copy)) (copy_call plan now.server journal now.tool work) request call
      (λ reverting back. rolls_copier plan journal request (back_quiet (in_transaction now.server (live_session journal Copy)) request back))
      (λ going asks. copier_calls plan journal work.copier.step request
      (copier_next journal work.copier request (unless_called (copiers.starts work.copier && is_throttled plan now.server now.tool.operator) (copiers.next journal work.copier) request asks)))

  -- THE APPLIER

  -- the applier's call, where it reads
  may_read_so : (work : Work) (request : Request) → apply_call plan now.server journal now.tool work ≡ Some request → appliers.is_reading work.applier.step ≡ true → (is_done work.cutover.phase ≡ false) × (may_read plan now.server now.tool work ≡ true)
  may_read_so work request call reads = by (is_done work.cutover.phase) (appliers.is_reading work.applier.step) (may_read plan now.server now.tool work) reads call where
    by : (a b c : Bool) → b ≡ true → cond a None (cond (b && not c) None (Some (appliers.next journal work.applier))) ≡ Some request → (a ≡ false) × (c ≡ true)
    by true b c reads call = absurd cc
    by false true true reads call = (refl, refl)
    by false true false reads call = absurd cc
    by false false c reads call = absurd (false≢true reads)

  unheld : (work : Work) → may_read plan now.server now.tool work ≡ true → is_done work.cutover.phase ≡ false → is_held work.cutover.phase work.cutover.is_asked ≡ true → ⊥
  unheld work may undone held = by (nat_lt 0 (unread_in now.server work)) (is_done work.cutover.phase) (stands work.cutover.phase) work.cutover.is_asked may undone held where
    by : (unread done under asked : Bool) → (unread && not (cond under asked (is_throttled plan now.server now.tool.operator))) ≡ true → done ≡ false → (done || (under && asked)) ≡ true → ⊥
    by true false true true may undone held = false≢true may
    by true false true false may undone held = false≢true held
    by true false false asked may undone held = false≢true held
    by true true under asked may undone held = true≢false undone
    by false done under asked may undone held = false≢true may

  applier_call : (request : Request) (tool_phase : ToolPhase) → now.tool.tool_phase ≡ tool_phase → entry.asked ≡ Call request → Asking plan journal Apply entry.asked → tool_call plan now.server journal now.tool tool_phase Apply ≡ Some request → IsOrderedCall plan journal Apply request
  applier_call request (SettingUp setup tries) eq asked asks call = absurd cc
  applier_call request (Migrating work) eq asked asks call =
      reverting_or (IsOrderedCall plan journal Apply request) (is_reverting now.tool.reason) (rolls_back now.server (live_session journal Apply)) (apply_call plan now.server journal now.tool work) request call
      (λ reverting back. rolls_applier plan journal request (back_quiet (in_transaction now.server (live_session journal Apply)) request back))
      (λ going calls. apply_about plan journal entry together run work eq (work_has work eq) going asks (IsOrderedCall plan journal Apply request) (λ other about kind. by other about kind calls)) where
        off : apply_call plan now.server journal now.tool work ≡ Some request → appliers.is_reading work.applier.step ≡ true → is_renaming plan journal ≡ true → ⊥
        off calls reads on = let may = may_read_so work request calls reads in unheld work may.1 may.0 ((old_at (Migrating work) eq).phase_is.holds on)

        by : (other : Request) → IsAbout other (has Apply) entry.asked → applier_asks work.applier.step other ≡ true → apply_call plan now.server journal now.tool work ≡ Some request → IsOrderedCall plan journal Apply request
        by other (is_called called none) kind calls = let same : other ≡ request = called_one (sym called ∙ asked) in applier_calls plan journal work.applier.step request (off calls) (subst (λ (r : Request). applier_asks work.applier.step r ≡ true) same kind) where
          called_one : Call other ≡ Call request → other ≡ request
          called_one both = let one : other ≡ request = cc in one
        by other (is_polled polled some) kind calls = absurd (no (sym polled ∙ asked)) where
          no : Poll ≡ Call request → ⊥
          no both = cc

  -- THE LOCKER

  locker_call : (work : Work) → now.tool.tool_phase ≡ Migrating work → (hold : Hold) (phase : Phase) → work.cutover.hold ≡ hold → work.cutover.phase ≡ phase → (request : Request) → LockerAsks work.cutover.table hold phase request → IsOrderedCall plan journal Lock request
  locker_call work eq Nothing Resting holds at request kind = subst (IsOrderedCall plan journal Lock) (sym kind) (record { drops = refl; renames = refl; reads = refl; clears = refl; hints = tt; counts = refl })
  locker_call work eq Nothing (Attempting Locking) holds at request kind = subst (IsOrderedCall plan journal Lock) (sym kind) (record { drops = refl; renames = refl; reads = refl; clears = refl; hints = tt; counts = refl })
  locker_call work eq Nothing phase holds at request kind = absurd kind
  locker_call work eq WaitsToGuard phase holds at request kind = subst (IsOrderedCall plan journal Lock) (sym kind) (record { drops = refl; renames = refl; reads = refl; clears = refl; hints = tt; counts = refl })
  locker_call work eq WaitsToLock phase holds at request kind = subst (IsOrderedCall plan journal Lock) (sym kind) (record { drops = refl; renames = refl; reads = refl; clears = refl; hints = tt; counts = refl })
  locker_call work eq Locks (Attempting Dropping) holds at request kind =
      subst (IsOrderedCall plan journal Lock) (sym kind)
      (record {
        drops = and_both (bytes_eq (old_name work.cutover.table) (old_name plan.table) && (rename_shown journal).shown) (is_locked journal)
            (and_both (bytes_eq (old_name work.cutover.table) (old_name plan.table)) (rename_shown journal).shown (ap (λ (t : List ℕ). bytes_eq (old_name t) (old_name plan.table)) (own_table work eq) ∙ same_bytes (old_name plan.table))
            (subst (λ (p : Phase). ShownAt p so_far.shown.shown) at (old_at (Migrating work) eq).phase_is.shows))
            (locked work eq holds);
        renames = refl;
        reads = refl;
        clears = refl;
        hints = tt;
        counts = refl;
      })
  locker_call work eq Locks (Attempting Unlocking) holds at request kind = subst (IsOrderedCall plan journal Lock) (sym kind) (record { drops = refl; renames = refl; reads = refl; clears = refl; hints = tt; counts = refl })
  locker_call work eq Locks (Ending clearing) holds at request kind = subst (IsOrderedCall plan journal Lock) (sym kind) (record { drops = refl; renames = refl; reads = refl; clears = refl; hints = tt; counts = refl })
  locker_call work eq Locks phase holds at request kind = absurd kind

  locker_turn : (tool_phase : ToolPhase) → now.tool.tool_phase ≡ tool_phase → Asking plan journal Lock entry.asked → Turn Lock
  locker_turn (SettingUp setup tries) eq (polls_so request asks some) = subst (λ (a : Asked). IsOrderedTurn plan journal Lock (request_in a)) (sym asks) tt
  locker_turn (SettingUp setup tries) eq (calls_so request asks none call) = absurd (no (call_of Lock request (SettingUp setup tries) eq call)) where
    no : None ≡ Some request → ⊥
    no same = cc
  locker_turn (Migrating work) eq asks =
      lock_about plan journal entry together run work eq (work_has work eq) asks (Turn Lock) (λ request about kind. by request about kind) where
        by : (request : Request) → IsAbout request (has Lock) entry.asked → LockerAsks work.cutover.table work.cutover.hold work.cutover.phase request → Turn Lock
        by request (is_called called none) kind = subst (λ (a : Asked). IsOrderedTurn plan journal Lock (request_in a)) (sym called) (locker_call work eq work.cutover.hold work.cutover.phase refl refl request kind)
        by request (is_polled polled some) kind = subst (λ (a : Asked). IsOrderedTurn plan journal Lock (request_in a)) (sym polled) tt

  -- THE RENAMER

  renamer_call : (request : Request) (tool_phase : ToolPhase) → now.tool.tool_phase ≡ tool_phase → tool_call plan now.server journal now.tool tool_phase Ren ≡ Some request → IsOrderedCall plan journal Ren request
  unfolding attempts.next
  renamer_call request (SettingUp setup tries) eq call = absurd cc
  renamer_call request (Migrating work) eq call = by work.cutover.phase refl call where
    by : (phase : Phase) → work.cutover.phase ≡ phase → attempts.renamer_call work.cutover phase ≡ Some request → IsOrderedCall plan journal Ren request
    by (Attempting Drained) at call =
        let old : ToolPhaseOrdered plan so_far (live_session journal Ren) (Migrating work) = old_at (Migrating work) eq in
        let passes : list_any (λ one. one == work.cutover.attempts) so_far.hints.passed ≡ true = subst (λ (p : Phase). PassedAt p work.cutover.attempts so_far.hints.passed) at old.phase_is.passes in
        some_request (IsOrderedCall plan journal Ren) (exchange work.cutover.table) request call
        (record {
          drops = refl;
          renames =
              and_both (list_any (λ attempt. attempt == attempts_begun journal) (hints_applied plan journal).passed && is_locked journal) (not (has_counter plan) || is_carried plan journal)
              (and_both (list_any (λ attempt. attempt == attempts_begun journal) (hints_applied plan journal).passed) (is_locked journal) (subst (λ (n : ℕ). list_any (λ one. one == n) so_far.hints.passed ≡ true) (sym old.begun) passes)
              (locked work eq (subst (λ (p : Phase). PhaseHolds p work.cutover.hold) at (work_has work eq).phase))) (subst Counts at (counts_at (Migrating work) eq));
          reads = refl;
          clears = refl;
          hints = tt;
          counts = refl;
        })
    by (Attempting stage) at call = absurd cc
    by Resting at call = absurd cc
    by (Ending clearing) at call = absurd cc
    by (Finishing clearing) at call = absurd cc
    by Finished at call = absurd cc

  -- THE INSPECTOR

  rests_so : (work : Work) → now.tool.tool_phase ≡ Migrating work → work.cutover.hold ≡ Nothing → work.cutover.renamer_waits ≡ false → is_at_rest journal ≡ true
  rests_so work eq nothing off =
      let old : ToolPhaseOrdered plan so_far (live_session journal Ren) (Migrating work) = old_at (Migrating work) eq in
      let locker : LockerAnswered so_far.call so_far.answer Nothing = subst (LockerAnswered so_far.call so_far.answer) nothing old.locker in
      rest_is plan journal locker.0 locker.1 (old.renamer ∙ off)

  done_so : (work : Work) → now.tool.tool_phase ≡ Migrating work → (is_renamed journal ≡ true) ⊎ ((work.cutover.hold ≡ Nothing) × (work.cutover.renamer_waits ≡ false)) → (is_renamed journal || is_at_rest journal) ≡ true
  done_so work eq (inl renamed) = Rattle.std.proofs.lemmas.Bool.or_left (is_renamed journal) (is_at_rest journal) renamed
  done_so work eq (inr none) = or_second (is_renamed journal) (is_at_rest journal) (rests_so work eq none.0 none.1)

  inspector_calls : (work : Work) → now.tool.tool_phase ≡ Migrating work → (has Insp).waits ≡ None → (phase : Phase) → work.cutover.phase ≡ phase → (request : Request) → inspector_call work.cutover phase ≡ Some request → IsOrderedCall plan journal Insp request
  inspector_calls work eq idle (Attempting Hinting) at request call =
      some_request (IsOrderedCall plan journal Insp) (writes_hint work.cutover.table work.cutover.attempts) request call
      (record {
        drops = refl;
        renames = refl;
        reads = refl;
        clears = refl;
        hints = record {
          log = ap log_name (own_table work eq);
          hint = ap hint_row (sym (old_at (Migrating work) eq).begun);
          locked = locked work eq (subst (λ (p : Phase). PhaseHolds p work.cutover.hold) at (work_has work eq).phase);
        };
        counts = refl;
      })
  inspector_calls work eq idle (Attempting (ReadingCounter drain)) at request call =
      some_request (IsOrderedCall plan journal Insp) (requests.ShowCounter work.cutover.table) request call
      (record {
        drops = refl;
        renames = refl;
        reads = refl;
        clears = refl;
        hints = tt;
        counts = and_both (bytes_eq work.cutover.table plan.table) (is_locked journal) (ap (λ (t : List ℕ). bytes_eq t plan.table) (own_table work eq) ∙ same_bytes plan.table) (locked work eq (subst (λ (p : Phase). PhaseHolds p work.cutover.hold) at (work_has work eq).phase));
      })
  inspector_calls work eq idle (Attempting (SettingCounter number drain)) at request call =
      some_request (IsOrderedCall plan journal Insp) (requests.SetCounter (ghost_name work.cutover.table) number) request call
      (record {
        drops = refl;
        renames = refl;
        reads = refl;
        clears = refl;
        hints = tt;
        counts =
            and_both (bytes_eq (ghost_name work.cutover.table) (ghost_name plan.table) && shown_so plan.table number (last_call Insp journal) (last_reply Insp journal)) (is_locked journal)
            (and_both (bytes_eq (ghost_name work.cutover.table) (ghost_name plan.table)) (shown_so plan.table number (last_call Insp journal) (last_reply Insp journal)) (ap (λ (t : List ℕ). bytes_eq (ghost_name t) (ghost_name plan.table)) (own_table work eq) ∙ same_bytes (ghost_name plan.table))
            ((subst Counts at (counts_at (Migrating work) eq)).shown idle)) (locked work eq (subst (λ (p : Phase). PhaseHolds p work.cutover.hold) at (work_has work eq).phase));
      })
  inspector_calls work eq idle (Attempting Showing) at request call = some_request (IsOrderedCall plan journal Insp) requests.ShowWaiting request call (record { drops = refl; renames = refl; reads = refl; clears = refl; hints = tt; counts = refl })
  inspector_calls work eq idle (Attempting stage) at request call = absurd cc
  inspector_calls work eq idle (Ending Looking) at request call = by (is_free work.cutover.hold work.cutover.renamer_waits) refl call where
    by : (b : Bool) → is_free work.cutover.hold work.cutover.renamer_waits ≡ b → cond b (clears work.cutover.table Looking) None ≡ Some request → IsOrderedCall plan journal Insp request
    by true free call =
        let both = free_so work.cutover.hold work.cutover.renamer_waits free in
        some_request (IsOrderedCall plan journal Insp) requests.ShowTables request call
        (record { drops = refl; renames = refl; reads = refl; clears = or_second (is_renamed journal) (is_at_rest journal) (rests_so work eq both.0 both.1); hints = tt; counts = refl })
    by false held call = absurd cc
  inspector_calls work eq idle (Ending (Drops left)) at request call = by (is_free work.cutover.hold work.cutover.renamer_waits) refl call where
    sentry : has_sentry plan.table (tables_listed journal) ≡ true
    sentry = subst (λ (p : Phase). DropsAt plan p so_far.listed) at (old_at (Migrating work) eq).phase_is.drops

    by : (b : Bool) → is_free work.cutover.hold work.cutover.renamer_waits ≡ b → cond b (clears work.cutover.table (Drops left)) None ≡ Some request → IsOrderedCall plan journal Insp request
    by true free call =
        let both = free_so work.cutover.hold work.cutover.renamer_waits free in
        some_request (IsOrderedCall plan journal Insp) (requests.Drop (first_name work.cutover.table left)) request call
        (record {
          drops = fourth_or (not (bytes_eq (first_name work.cutover.table left) (old_name plan.table))) (attempts_begun journal == 0) plan.options.ok_to_drop_table (has_sentry plan.table (tables_listed journal)) sentry;
          renames = refl;
          reads = refl;
          clears = or_second (is_renamed journal) (is_at_rest journal) (rests_so work eq both.0 both.1);
          hints = tt;
          counts = refl;
        })
    by false held call = absurd cc
  inspector_calls work eq idle (Finishing Looking) at request call =
      some_request (IsOrderedCall plan journal Insp) requests.ShowTables request call
      (record { drops = refl; renames = refl; reads = refl; clears = done_so work eq (subst (λ (p : Phase). DoneAt p work.cutover.hold work.cutover.renamer_waits so_far.renamed) at (old_at (Migrating work) eq).done); hints = tt; counts = refl })
  inspector_calls work eq idle (Finishing (Drops left)) at request call =
      some_request (IsOrderedCall plan journal Insp) (requests.Drop (first_name work.cutover.table left)) request call
      (record {
        drops = by (first_order work.cutover.table left left_so.0);
        renames = refl;
        reads = refl;
        clears = done_so work eq (subst (λ (p : Phase). DoneAt p work.cutover.hold work.cutover.renamer_waits so_far.renamed) at (old_at (Migrating work) eq).done);
        hints = tt;
        counts = refl;
      }) where
        left_so : DropsAt plan (Finishing (Drops left)) so_far.listed
        left_so = subst (λ (p : Phase). DropsAt plan p so_far.listed) at (old_at (Migrating work) eq).phase_is.drops

        by : (bytes_eq (first_name work.cutover.table left) (old_name work.cutover.table) ≡ false) ⊎ (left.old ≡ true)
            → (not (bytes_eq (first_name work.cutover.table left) (old_name plan.table)) || (attempts_begun journal == 0) || plan.options.ok_to_drop_table || has_sentry plan.table (tables_listed journal)) ≡ true
        by (inl other) =
            first_or (bytes_eq (first_name work.cutover.table left) (old_name plan.table)) (attempts_begun journal == 0) plan.options.ok_to_drop_table (has_sentry plan.table (tables_listed journal))
            (ap (λ (t : List ℕ). bytes_eq (first_name work.cutover.table left) (old_name t)) (sym (own_table work eq)) ∙ other)
        by (inr old) =
            third_or (not (bytes_eq (first_name work.cutover.table left) (old_name plan.table))) (attempts_begun journal == 0) plan.options.ok_to_drop_table (has_sentry plan.table (tables_listed journal)) (left_so.1 old)
  inspector_calls work eq idle Resting at request call = absurd cc
  inspector_calls work eq idle Finished at request call = absurd cc

  work_at : (work : Work) → now.tool.tool_phase ≡ Migrating work → StandsAt plan (state_at plan journal).tables (has Insp).waits work.cutover.phase work.cutover.hold work.cutover.renamer_waits work.cutover.is_asked
  work_at work eq = subst (ToolPhaseAt plan (state_at plan journal).tables (has Insp).waits) eq standing.tool_phase

  -- a note's row comes while no attempt stands
  note_calls : (work : Work) → now.tool.tool_phase ≡ Migrating work → work.cutover.phase ≡ Resting → (request : Request) → IsNote plan.table request → IsOrderedCall plan journal Insp request
  note_calls work eq resting request note =
      subst (IsOrderedCall plan journal Insp) (sym note.is)
      (record {
        drops = refl;
        renames = refl;
        reads = refl;
        clears = refl;
        hints = record { log = refl; rests = rests_so work eq (subst (λ (p : Phase). PhaseHolds p work.cutover.hold) resting (work_has work eq).phase) (subst (λ (p : Phase). RenamerAt p work.cutover.renamer_waits) resting (work_at work eq).renamer) };
        counts = refl;
      })

  inspector_so : (request : Request) → (has Insp).waits ≡ None → (tool_phase : ToolPhase) → now.tool.tool_phase ≡ tool_phase → tool_call plan now.server journal now.tool tool_phase Insp ≡ Some request → IsOrderedCall plan journal Insp request
  unfolding attempts.next
  inspector_so request idle (SettingUp setup tries) eq call = setup_calls plan journal setup request (old_at (SettingUp setup tries) eq) (unless_called (is_reverting now.tool.reason) (setup_call plan setup) request call)
  inspector_so request idle (Migrating work) eq call =
      inspects_or plan journal now.tool work request (IsOrderedCall plan journal Insp request) call (λ note resting. note_calls work eq resting request note) (λ next. inspector_calls work eq idle work.cutover.phase refl request next)

  -- EVERY ACTOR

  from_calls : (actor : Actor) → IsOrderedTurn plan journal actor None → ((request : Request) → entry.asked ≡ Call request → tool_call plan now.server journal now.tool now.tool.tool_phase actor ≡ Some request → IsOrderedTurn plan journal actor (Some request)) → Asking plan journal actor entry.asked → Turn actor
  from_calls actor none each (calls_so request asks idle call) = subst (λ (a : Asked). IsOrderedTurn plan journal actor (request_in a)) (sym asks) (each request asks call)
  from_calls actor none each (polls_so request asks some) = subst (λ (a : Asked). IsOrderedTurn plan journal actor (request_in a)) (sym asks) none

  given_turn : (actor : Actor) → given plan journal actor ≡ Some entry.asked → Turn actor
  unfolding given
  given_turn Insp gives = by (asking plan journal Insp entry.asked together.server gives) where
    by : Asking plan journal Insp entry.asked → Turn Insp
    by (calls_so request asks idle call) = subst (λ (a : Asked). IsOrderedTurn plan journal Insp (request_in a)) (sym asks) (inspector_so request idle now.tool.tool_phase refl call)
    by (polls_so request asks some) = subst (λ (a : Asked). IsOrderedTurn plan journal Insp (request_in a)) (sym asks) tt
  given_turn Copy gives = from_calls Copy tt (λ request asks call. copier_call request now.tool.tool_phase call) (asking plan journal Copy entry.asked together.server gives)
  given_turn Apply gives =
      let asks_so : Asking plan journal Apply entry.asked = asking plan journal Apply entry.asked together.server gives in from_calls Apply tt (λ request asks call. applier_call request now.tool.tool_phase refl asks asks_so call) asks_so
  given_turn Lock gives = locker_turn now.tool.tool_phase refl (asking plan journal Lock entry.asked together.server gives)
  given_turn Ren gives = from_calls Ren tt (λ request asks call. renamer_call request now.tool.tool_phase refl call) (asking plan journal Ren entry.asked together.server gives)
  given_turn Op gives = by (slice_get (words_of plan) (moment plan journal).tool.operator.taken) entry.asked gives where
    by : (word : Option OperatorWord) (asked : Asked) → programs.commands word ≡ Some asked → IsOrderedTurn plan journal Op (request_in asked)
    by None asked gives = absurd cc
    by (Some word) (Command other) gives = tt
    by (Some word) (Call request) gives = absurd cc
    by (Some word) Poll gives = tt
    by (Some word) Cut gives = tt
  given_turn (Client c) gives = tt

  uncalled : (actor : Actor) → IsOrderedTurn plan journal actor None
  uncalled Op = tt
  uncalled Insp = tt
  uncalled Copy = tt
  uncalled Apply = tt
  uncalled Lock = tt
  uncalled Ren = tt
  uncalled (Client c) = tt

  -- *One turn*
  pub ordered_turn : IsOrderedTurn plan journal entry.actor (request_in entry.asked)
  ordered_turn = by entry.asked refl run.followed.given where
    by : (asked : Asked) → entry.asked ≡ asked → IsGiven plan journal entry asked → Turn entry.actor
    by Cut asks gives = subst (λ (a : Asked). IsOrderedTurn plan journal entry.actor (request_in a)) (sym asks) (uncalled entry.actor)
    by (Call request) asks gives = given_turn entry.actor (gives ∙ ap Some (sym asks))
    by Poll asks gives = given_turn entry.actor (gives ∙ ap Some (sym asks))
    by (Command word) asks gives = given_turn entry.actor (gives ∙ ap Some (sym asks))

-- WHOLE JOURNALS

-- (`proof_bounds` shows with which request the inspector may wait)
module _ (waits : InspectorsWaitToSet) (plan : PlanData) (runs : IsRunnable plan) (serial : IsSerialPlan plan) where
  standing_at : (journal : List Entry) → IsKept plan journal → IsStanding plan journal
  standing_at journal kept = all_standing plan journal runs.fitting runs.stands kept.faithful kept.follows

  -- a kept journal, as it comes
  fronts : (before entries : List Entry) → IsKept plan (before ++ entries) → Along (λ front entry. IsKept plan (front ++ entry ∷ [])) before entries
  fronts before [] kept = tt
  fronts before (first ∷ entries) kept =
      let later : IsKept plan ((before ++ first ∷ []) ++ entries) = subst (IsKept plan) (sym (Rattle.std.proofs.Common.append_assoc before (first ∷ []) entries)) kept in
      (kept_front plan (before ++ first ∷ []) entries later, fronts (before ++ first ∷ []) entries later)

  -- what is so_far after a kept journal
  record IsCountedOrdered (journal : List Entry) : Type 0 where
    counting : IsCounting plan journal
    ordered : IsOrdered plan journal

  more : (front : List Entry) (entry : Entry) → IsKept plan (front ++ entry ∷ []) → IsCountedOrdered front → IsCountedOrdered (front ++ entry ∷ [])
  more front entry kept is =
      let front_kept : IsKept plan front = kept_front plan front (entry ∷ []) kept in
      record {
        counting = counting_more plan front entry (kept_run plan front entry kept) (standing_at front front_kept) (λ request some. waits plan front request runs serial front_kept some) is.counting;
        ordered = ordered_more plan front entry (kept_run plan front entry kept) (standing_at front front_kept) (λ request some. waits plan front request runs serial front_kept some) is.ordered;
      }

  all_known : (journal : List Entry) → IsKept plan journal → IsCountedOrdered journal
  all_known journal kept = Along-keeps (λ front entry. IsKept plan (front ++ entry ∷ [])) IsCountedOrdered more [] journal (fronts [] journal kept) (record { counting = counting_begins plan; ordered = ordered_begins plan })

  turn_at : (front : List Entry) (entry : Entry) → IsKept plan (front ++ entry ∷ []) → IsOrderedTurn plan front entry.actor (request_in entry.asked)
  turn_at front entry kept =
      let front_kept : IsKept plan front = kept_front plan front (entry ∷ []) kept in
      let known = all_known front front_kept in
      ordered_turn plan front entry (kept_run plan front entry kept) (standing_at front front_kept) known.counting known.ordered

  along : (before entries : List Entry) → Along (λ front entry. IsKept plan (front ++ entry ∷ [])) before entries → Along (λ front entry. IsOrderedTurn plan front entry.actor (request_in entry.asked)) before entries
  along before [] kept = tt
  along before (first ∷ entries) kept = (turn_at before first kept.0, along (before ++ first ∷ []) entries kept.1)

  keeps : (journal : List Entry) → IsKept plan journal → KeepsOrder plan journal
  unfolding KeepsOrder
  keeps journal kept = along [] journal (fronts [] journal kept)

-- *Kept journals keep the order of the cut-over*
pub orders_kept : InspectorsWaitToSet → KeptJournalsKeepOrder
orders_kept waits plan journal runs serial kept = keeps waits plan runs serial journal kept
