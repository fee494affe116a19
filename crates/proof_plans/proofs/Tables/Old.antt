-- Behind the RENAME nobody makes or writes a table of the old one's name, so what stands there is the table of just before it.
use Rattle.std.proofs.Common.{◌≡◌, ℕ, Bool, true, false, cond, List, [], ◌∷◌, ◌++◌, Option, Some, None, Ok, Err, refl, sym, ap, ◌∙◌, subst, append_assoc, append-nil}
use Rattle.std.specs.List.{list_any}
use Rattle.std.specs.Option.{option_map}
use Rattle.std.proofs.lemmas.Bool.{true≢false, false≢true, or_left, or_right}
use Rattle.table_store.specs.Databases.{Database, TableRows, find_table, has_table, name_table, rename_tables, with_name}
use Rattle.table_store.specs.declared.renames.NotRenamed.TheVariants as reasons
use Rattle.table_store.specs.declared.renames.Pair.{Pair}
use Rattle.base_script.specs.declared.actor.Actor.{Actor}
use Rattle.base_script.specs.declared.actor.Actor.TheVariants.{Op, Insp, Copy, Apply, Lock, Ren, Client}
use Rattle.server_model.specs.Entries.{is_client, same_actor}
use Rattle.server_model.specs.declared.answer.Answer.{Answer}
use Rattle.server_model.specs.declared.answer.Answer.TheVariants as answers
use Rattle.server_model.specs.declared.entry.Asked.{Asked}
use Rattle.server_model.specs.declared.entry.Asked.TheVariants.{Call, Poll, Command, Cut}
use Rattle.server_model.specs.declared.entry.Entry.{Entry}
use Rattle.server_model.specs.declared.request.Request.{Request}
use Rattle.server_model.specs.declared.request.Request.TheVariants as requests
use Rattle.plan_data.specs.PlanData.{PlanData}
use Rattle.base_values.specs.ToolNames.{ghost_name, old_name}
use Rattle.tool_program.specs.CutoverCore.Attempts as attempts
use Rattle.tool_program.specs.CutoverCore.Attempts.{exchange, renamer_call}
use Rattle.tool_program.specs.declared.cutover_core.cutover.Clearing.TheVariants.{Drops, Looking}
use Rattle.tool_program.specs.declared.cutover_core.cutover.Hold.{Hold}
use Rattle.tool_program.specs.declared.cutover_core.cutover.Hold.TheVariants.{Locks, Nothing, WaitsToGuard, WaitsToLock}
use Rattle.tool_program.specs.declared.cutover_core.cutover.Phase.{Phase}
use Rattle.tool_program.specs.declared.cutover_core.cutover.Phase.TheVariants.{Attempting, Ending, Finished, Finishing, Resting}
use Rattle.tool_program.specs.declared.cutover_core.cutover.Role.TheVariants.{Renamer}
use Rattle.tool_program.specs.declared.cutover_core.cutover.Stage.TheVariants.{ReadingCounter, SettingCounter, Draining, Drained, Dropping, Exchanging, Guarding, Hinting, Locking, Showing, Unlocking}
use Rattle.tool_program.specs.JournalWords.Histories as histories
use Rattle.tool_program.specs.JournalWords.Histories.{Alter, alters, entry_adds, history, is_alter, answer_in}
use Rattle.tool_program.specs.JournalWords.Journals.{may_lose, state_at}
use Rattle.tool_program.specs.Programs.{IsGiven, given, tool_call}
use Rattle.tool_program.specs.Tools.{ToolPhase, Migrating, SettingUp, Work, is_reverting, moment}
use Rattle.tool_program.proofs.OnlineCalls.Naming.{not_old}
use Rattle.server_model.proofs.LockedRows.Tests.{turned_bytes}
use Rattle.proof_journals.specs.Plans.{IsSerialPlan}
use Rattle.proof_journals.specs.ServerTurns.Others.{DefinitionsAreDone, ExclusiveIsAlone}
use Rattle.proof_journals.proofs.Actors.{same_actor_is}
use Rattle.proof_journals.proofs.Moves.{renamed_new, renamed_other}
use Rattle.proof_journals.proofs.Ghost.Turns.{along_next}
use Rattle.proof_journals.specs.Run.Kept.{IsKept}
use Rattle.proof_journals.specs.Sentry.Sentries.{Fits}
use Rattle.proof_journals.specs.Sentry.TurnResults.{ToolPhaseHolds, IsGuarded, last_session}
use Rattle.proof_journals.proofs.Sentry.Inductions.{all_guarded}
use Rattle.proof_journals.proofs.Sentry.Serving.{exchanged}
use Rattle.proof_journals.specs.Machine.Machines as machines
use Rattle.proof_journals.specs.Machine.Machines.{ToolPhaseStands, PhaseHolds, WorkStands, held}
use Rattle.proof_journals.specs.Machine.Runnable.{IsRunnable}
use Rattle.proof_journals.specs.Machine.Standings.{IsAbout, Standing, answered, free, is_called, is_polled, standing_of}
use Rattle.proof_journals.proofs.Machine.Inspecting.{inspects_or}
use Rattle.proof_journals.proofs.Machine.CuttingOver.{LockerAsks}
use Rattle.proof_journals.proofs.Machine.Journals.{Asking, IsRun, IsTogether, asking, calls_so, has_now, lock_about, never_commands, polls_so, ren_about}
use Rattle.proof_journals.proofs.Machine.Marks.{ghost_not_old, history_more}
use Rattle.proof_journals.proofs.Machine.Schemas.{is_quiet}
use Rattle.proof_journals.proofs.Machine.Seated.{IsServed, others_stand, own_lost}
use Rattle.proof_journals.proofs.Machine.Tabling.{Following, following, may_define, rests, waits_on}
use Rattle.proof_migration.specs.ToolPhase.Unaltered.{IsUnaltered}
use Rattle.proof_migration.specs.ToolPhase.Waits.{WaitsAreReported}
use Rattle.proof_migration.proofs.ToolPhase.ToolPhaseTurns.{gives_asked}
use Rattle.proof_migration.proofs.ToolPhase.Unaltered.Asking.{AskedAs, ToolCall, exchange_takes}
use Rattle.proof_migration.proofs.ToolPhase.Unaltered.Away.{IsKnownAsked, all_asked, as_tool, tool_adds}
use Rattle.proof_migration.specs.Attempt.Renamed.{ToolPhaseRenamed, IsRenamedAt}
use Rattle.proof_migration.proofs.Attempt.Renamed.Seen.{all_seen}
use Rattle.proof_migration.proofs.Program.Turns.Follows.{kept_front, kept_run}
use Rattle.proof_migration.specs.Once.{RenamesComeOnce}
use Rattle.proof_migration.specs.CutOver.{IsRename, JournalsAreTurned}
use Rattle.proof_migration.proofs.Once.Renames.{Renaming, exchanges, renamed_past, renaming}
use Rattle.proof_migration.proofs.Once.Past.{ToolPhasePast, IsPast, NoMake, call_makes, goes_past, makes, ren_asks, reported_renamed}
use Rattle.proof_migration.proofs.CutOver.Renames.{Found, renames_found}
use Rattle.proof_plans.specs.ReadPlans.Laws.{ReadPlansAreRunnable, ReadPlansAreSerial}
use Rattle.proof_plans.specs.Laws.{AcceptedRunsKeepTheOldTable}
use Rattle.proof_plans.specs.Tables.{IsAsItWas, KeepsOldTable}
use Rattle.proof_plans.proofs.Tables.Turns.{IsUnwritten, Left, TurnAbout, all_unwritten, asks_so, left_gone, left_renamed, left_so, rests_left, rests_so, turn_about, turn_left, writes_no_old}

-- THE EXCHANGE

-- the table has the old table's name behind it
exchange_moves : (t : List ℕ) (tables after : Database) (was : TableRows) → rename_tables (exchanged t) tables ≡ Ok after → find_table t tables ≡ Some was → find_table (old_name t) after ≡ Some (name_table (old_name t) was)
unfolding rename_tables
exchange_moves t tables after was is found = by (has_table (old_name t) tables) (has_table t tables) (has_table t moved) (has_table (ghost_name t) moved) refl is where
  moved : Database
  moved = with_name t (old_name t) tables

  by : (a b c d : Bool) → has_table (old_name t) tables ≡ a → cond a (Err reasons.Exists) (cond b (cond c (Err reasons.Exists) (cond d (Ok (with_name (ghost_name t) t moved)) (Err reasons.Missing))) (Err reasons.Missing)) ≡ Ok after → find_table (old_name t) after ≡ Some (name_table (old_name t) was)
  by true b c d none is = absurd cc
  by false false c d none is = absurd cc
  by false true true d none is = absurd cc
  by false true false false none is = absurd cc
  by false true false true none is =
      let same : with_name (ghost_name t) t moved ≡ after = cc in
      ap (find_table (old_name t)) (sym same) ∙ renamed_other (ghost_name t) t (old_name t) moved (turned_bytes (ghost_name t) (old_name t) (ghost_not_old t)) (turned_bytes t (old_name t) (not_old t)) ∙ renamed_new t (old_name t) tables none ∙ ap (option_map (name_table (old_name t))) found

-- WHAT THE LOCKER WAITS WITH

-- while the RENAME waits the locker waits to make no table
waiting_rests : (table : List ℕ) (phase : Phase) (hold : Hold) → Fits phase hold true → NoMake (held table hold).waits
waiting_rests table phase hold fits = by phase hold fits where
  is : (one other : Hold) → one ≡ other → NoMake (held table other).waits → NoMake (held table one).waits
  is one other same none = subst (λ (h : Hold). NoMake (held table h).waits) (sym same) none

  by : (phase : Phase) (hold : Hold) → Fits phase hold true → NoMake (held table hold).waits
  by Resting hold fits = absurd (true≢false fits.1)
  by (Attempting Guarding) hold fits = absurd (true≢false fits.1)
  by (Attempting Locking) hold fits = absurd (true≢false fits.1)
  by (Attempting Hinting) hold fits = absurd (true≢false fits.1)
  by (Attempting (ReadingCounter drain)) hold fits = absurd (true≢false fits.1)
  by (Attempting (SettingCounter number drain)) hold fits = absurd (true≢false fits.1)
  by (Attempting (Draining turns)) hold fits = absurd (true≢false fits.1)
  by (Attempting Drained) hold fits = absurd (true≢false fits.1)
  by (Attempting Showing) hold fits = is hold Locks fits.0 tt
  by (Attempting Dropping) hold fits = is hold Locks fits.0 tt
  by (Attempting Unlocking) hold fits = is hold Locks fits.0 tt
  by (Attempting Exchanging) hold fits = is hold Nothing fits tt
  by (Ending Looking) Nothing fits = tt
  by (Ending Looking) Locks fits = tt
  by (Ending Looking) WaitsToLock fits = refl
  by (Ending Looking) WaitsToGuard fits = absurd (true≢false fits)
  by (Ending (Drops left)) hold fits = absurd (true≢false fits.1)
  by (Finishing clearing) hold fits = absurd (true≢false fits)
  by Finished hold fits = absurd (true≢false fits)

-- where the RENAME is called the locker has its locks
called_rests : (work : Work) (request : Request) → attempts.next Renamer work.cutover ≡ Some request → PhaseHolds work.cutover.phase work.cutover.hold → NoMake (held work.cutover.table work.cutover.hold).waits
unfolding attempts.next
called_rests work request = by work.cutover.phase where
  by : (phase : Phase) → renamer_call work.cutover phase ≡ Some request → PhaseHolds phase work.cutover.hold → NoMake (held work.cutover.table work.cutover.hold).waits
  by (Attempting Drained) is holds = subst (λ (h : Hold). NoMake (held work.cutover.table h).waits) (sym holds) tt
  by phase is holds = absurd cc

-- behind the RENAME it asks for no table to be made
locker_unmade : (plan : PlanData) (tables : Database) (table : List ℕ) (hold : Hold) (phase : Phase) (request : Request) → IsRenamedAt plan tables phase → NoMake (held table hold).waits → LockerAsks table hold phase request → makes request ≡ false
locker_unmade plan tables table hold phase request = by hold phase where
  by : (hold : Hold) (phase : Phase) → IsRenamedAt plan tables phase → NoMake (held table hold).waits → LockerAsks table hold phase request → makes request ≡ false
  by Nothing Resting at none asks = absurd at
  by Nothing (Attempting stage) at none asks = absurd at
  by Nothing (Ending clearing) at none asks = absurd asks
  by Nothing (Finishing clearing) at none asks = absurd asks
  by Nothing Finished at none asks = absurd asks
  by WaitsToGuard phase at none asks = absurd (true≢false none)
  by WaitsToLock phase at none asks = ap makes asks
  by Locks Resting at none asks = absurd asks
  by Locks (Attempting stage) at none asks = absurd at
  by Locks (Ending clearing) at none asks = ap makes asks
  by Locks (Finishing clearing) at none asks = absurd asks
  by Locks Finished at none asks = absurd asks

quiet_unmade : (request : Request) → is_quiet request ≡ true → makes request ≡ false
quiet_unmade (requests.Create schema) quiet = absurd (false≢true quiet)
quiet_unmade request quiet = refl

-- BEHIND THE RENAME

-- no table is made, and the one that stands under the old table's name is the one that was
pub record IsPassed (plan : PlanData) (was : TableRows) (journal : List Entry) : Type 0 where
  pub past : IsPast plan journal
  pub altered : list_any is_alter (history plan journal) ≡ true
  pub locker : NoMake (standing_of plan journal Lock).waits
  pub inspector : NoMake (standing_of plan journal Insp).waits
  pub table : IsAsItWas plan.table was (find_table (old_name plan.table) (state_at plan journal).tables)

module _ (definitions_are_done : DefinitionsAreDone) (plan : PlanData) (runs : IsRunnable plan) (serial : IsSerialPlan plan) where
  abbrev Old : List ℕ
  Old = old_name plan.table

  -- what the inspector waits with behind the RENAME
  inspector_of : (journal : List Entry) → IsPast plan journal → NoMake (standing_of plan journal Insp).waits
  inspector_of journal past = by (moment plan journal).tool.tool_phase past where
    by : (tool_phase : ToolPhase) → ToolPhasePast plan (state_at plan journal).tables (standing_of plan journal Insp).waits tool_phase → NoMake (standing_of plan journal Insp).waits
    by (SettingUp setup tries) at = absurd at
    by (Migrating work) at = at.1

  module _ (was : TableRows) (journal : List Entry) (entry : Entry) (kept : IsKept plan (journal ++ entry ∷ [])) (passed : IsPassed plan was journal) where
    abbrev more : List Entry
    more = journal ++ entry ∷ []

    abbrev has : Actor → Standing
    has = standing_of plan journal

    abbrev now_has : Actor → Standing
    now_has = standing_of plan more

    before : IsKept plan journal
    before = kept_front plan journal (entry ∷ []) kept

    unwritten : IsUnwritten plan serial journal
    unwritten = all_unwritten plan serial journal runs before.faithful before.follows

    known : IsKnownAsked plan journal
    known = unwritten.known

    run : IsRun plan journal entry
    run = kept_run plan journal entry kept

    together : IsTogether plan journal
    together = known.marking.tabled.all.tool

    served : IsServed plan journal entry
    served = record { answered = run.answered; seated = record { session = run.followed.session } }

    renamed : ToolPhaseRenamed plan (state_at plan journal).tables (moment plan journal).tool.tool_phase
    renamed = all_seen plan journal runs serial before.faithful before.follows passed.altered

    record Working : Type 0 where
      work : Work
      tool_phase : (moment plan journal).tool.tool_phase ≡ Migrating work
      at : IsRenamedAt plan (state_at plan journal).tables work.cutover.phase
      stands : WorkStands journal (is_reverting (moment plan journal).tool.reason) has work

    working : Working
    working = by (moment plan journal).tool.tool_phase refl renamed together.stands where
      by : (tool_phase : ToolPhase) → (moment plan journal).tool.tool_phase ≡ tool_phase → ToolPhaseRenamed plan (state_at plan journal).tables tool_phase → ToolPhaseStands journal has (is_reverting (moment plan journal).tool.reason) tool_phase → Working
      by (SettingUp setup tries) tool_phase at stands = absurd at
      by (Migrating work) tool_phase at stands = record { work = work; tool_phase = tool_phase; at = at; stands = stands }

    -- NO TABLE IS MADE

    abbrev Asks : Request → Type 0
    Asks request = IsAbout request (has entry.actor) entry.asked

    gives : (actor : Actor) → entry.actor ≡ actor → may_lose entry.asked ≡ true → given plan journal actor ≡ Some entry.asked
    gives actor same calls = subst (λ (a : Actor). given plan journal a ≡ Some entry.asked) same (gives_asked plan journal entry entry.asked run.followed.given refl (λ cut. true≢false (sym calls ∙ ap may_lose cut)))

    -- what the locker asks, and waits with behind it
    record IsUnmade (actor : Actor) : Type 0 where
      request : Request
      is_about : IsAbout request (has actor) entry.asked
      unmade : makes request ≡ false

    lock_unmade : entry.actor ≡ Lock → may_lose entry.asked ≡ true → IsUnmade Lock
    unfolding given
    lock_unmade same calls =
        lock_about plan journal entry together run working.work working.tool_phase working.stands (asking plan journal Lock entry.asked together.server (gives Lock same calls)) (IsUnmade Lock)
        (λ request is_about kind. record {
          request = request;
          is_about = is_about;
          unmade = locker_unmade plan (state_at plan journal).tables working.work.cutover.table working.work.cutover.hold working.work.cutover.phase request working.at (subst (λ (s : Standing). NoMake s.waits) working.stands.locker passed.locker) kind;
        })

    insp_unmade : entry.actor ≡ Insp → may_lose entry.asked ≡ true → IsUnmade Insp
    unfolding given attempts.next
    insp_unmade same calls = by (asking plan journal Insp entry.asked together.server (gives Insp same calls)) where
      by : Asking plan journal Insp entry.asked → IsUnmade Insp
      by (calls_so request asks idle call) = record {
        request = request;
        is_about = is_called asks idle;
        unmade =
            inspects_or plan journal (moment plan journal).tool working.work request (makes request ≡ false) (ap (λ (c : ToolPhase). tool_call plan (moment plan journal).server journal (moment plan journal).tool c Insp) (sym working.tool_phase) ∙ call)
            (λ note resting. ap makes note.is) (λ next. call_makes working.work.cutover working.work.cutover.phase request next);
      }
      by (polls_so request asks some) = record { request = request; is_about = is_polled asks some; unmade = subst NoMake some passed.inspector }

    ren_unmade : entry.actor ≡ Ren → may_lose entry.asked ≡ true → IsUnmade Ren
    unfolding given
    ren_unmade same calls =
        ren_about plan journal entry together run working.work working.tool_phase working.stands (asking plan journal Ren entry.asked together.server (gives Ren same calls)) (IsUnmade Ren)
        (λ request is_about kind. record { request = request; is_about = is_about; unmade = ap makes kind })

    -- an actor's turn
    own : (actor : Actor) → entry.actor ≡ actor → IsUnmade actor → IsUnmade entry.actor
    own actor same one = subst IsUnmade (sym same) one

    quiet_turn : (request : Request) → Asks request → is_quiet request ≡ true → IsUnmade entry.actor
    quiet_turn request is_about quiet = record { request = request; is_about = is_about; unmade = quiet_unmade request quiet }

    turn_unmade : may_lose entry.asked ≡ true → IsUnmade entry.actor
    turn_unmade calls = by (turn_about plan journal entry known run) where
      actor_so : (request : Request) → Asks request → (actor : Actor) → entry.actor ≡ actor → (may_define actor ≡ false → is_quiet request ≡ true) → IsUnmade entry.actor
      actor_so request is_about Op same quiet = quiet_turn request is_about (quiet refl)
      actor_so request is_about Copy same quiet = quiet_turn request is_about (quiet refl)
      actor_so request is_about Apply same quiet = quiet_turn request is_about (quiet refl)
      actor_so request is_about (Client c) same quiet = quiet_turn request is_about (quiet refl)
      actor_so request is_about Insp same quiet = own Insp same (insp_unmade same calls)
      actor_so request is_about Lock same quiet = own Lock same (lock_unmade same calls)
      actor_so request is_about Ren same quiet = own Ren same (ren_unmade same calls)

      by : TurnAbout plan journal entry → IsUnmade entry.actor
      by (asks_so request is_about about asks quiet) = actor_so request is_about entry.actor refl quiet
      by (rests_so is) = absurd (true≢false (sym calls ∙ is))

    -- WHAT THE LOCKER WAITS WITH

    locker_called : entry.actor ≡ Lock → may_lose entry.asked ≡ true → NoMake (now_has Lock).waits
    locker_called same calls = by (following turn.request entry.answer (has Lock)) where
      turn : IsUnmade Lock
      turn = lock_unmade same calls

      waits_now : (now_has Lock).waits ≡ (answered turn.request entry.answer (has Lock)).waits
      waits_now = ap (λ (s : Standing). s.waits) (has_now plan journal entry together run Lock turn.request same turn.is_about)

      by : Following turn.request entry.answer (has Lock) → NoMake (now_has Lock).waits
      by (rests none) = subst NoMake (sym (waits_now ∙ none)) tt
      by (waits_on one is) = subst NoMake (sym (waits_now ∙ ap (λ (a : Answer). (answered turn.request a (has Lock)).waits) is)) turn.unmade

    locker_own : entry.actor ≡ Lock → (asked : Asked) → entry.asked ≡ asked → NoMake (now_has Lock).waits
    unfolding given
    locker_own same Cut asks = subst (λ (s : Standing). NoMake s.waits) (sym (subst (λ (a : Actor). now_has a ≡ free) same (own_lost plan journal entry together.known served asks))) tt
    locker_own same (Command word) asks = absurd (never_commands plan journal Lock word (subst (λ (a : Actor). given plan journal a ≡ Some (Command word)) same (subst (IsGiven plan journal entry) asks run.followed.given)))
    locker_own same (Call request) asks = locker_called same (ap may_lose asks)
    locker_own same Poll asks = locker_called same (ap may_lose asks)

    locker_more : NoMake (now_has Lock).waits
    locker_more = by (same_actor entry.actor Lock) refl where
      by : (b : Bool) → same_actor entry.actor Lock ≡ b → NoMake (now_has Lock).waits
      by false other = subst (λ (s : Standing). NoMake s.waits) (sym (others_stand plan journal entry together.known served Lock other)) passed.locker
      by true same = locker_own (same_actor_is entry.actor Lock same) entry.asked refl

    -- THE TABLE

    -- the RENAME isn't done again
    never_renamed : (request : Request) → histories.about journal entry ≡ Some request → AskedAs plan entry.actor request → (pairs : List Pair) (count : ℕ) → request ≡ requests.Rename pairs → answer_in entry.asked entry.side entry.answer entry.missed ≡ Some (answers.Ok count) → ⊥
    never_renamed request about asks pairs count is reported = by entry.actor refl (subst (AskedAs plan entry.actor) is asks) where
      as_asked : is_client entry.actor ≡ false → ToolCall plan (requests.Rename pairs) entry.actor → ⊥
      as_asked tool call = (goes_past definitions_are_done plan journal entry serial runs known run passed.past).unaltered
          (ap (list_any is_alter) (tool_adds plan serial journal entry runs.fitting known run tool entry.actor tool) ∙ ap (λ (r : Option Request). list_any is_alter (alters plan r (answer_in entry.asked entry.side entry.answer entry.missed))) (about ∙ ap Some is)
          ∙ ap (λ (t : Option Answer). list_any is_alter (alters plan (Some (requests.Rename pairs)) t)) reported ∙ ap (λ (b : Bool). list_any is_alter (cond b (Alter ∷ []) [])) (exchange_takes plan.table pairs call.1))

      by : (actor : Actor) → entry.actor ≡ actor → AskedAs plan entry.actor (requests.Rename pairs) → ⊥
      by (Client c) same asked = subst (λ (a : Actor). AskedAs plan a (requests.Rename pairs)) same asked
      by Op same asked = as_asked (ap is_client same) (as_tool plan entry.actor (requests.Rename pairs) (ap is_client same) asked)
      by Insp same asked = as_asked (ap is_client same) (as_tool plan entry.actor (requests.Rename pairs) (ap is_client same) asked)
      by Copy same asked = as_asked (ap is_client same) (as_tool plan entry.actor (requests.Rename pairs) (ap is_client same) asked)
      by Apply same asked = as_asked (ap is_client same) (as_tool plan entry.actor (requests.Rename pairs) (ap is_client same) asked)
      by Lock same asked = as_asked (ap is_client same) (as_tool plan entry.actor (requests.Rename pairs) (ap is_client same) asked)
      by Ren same asked = as_asked (ap is_client same) (as_tool plan entry.actor (requests.Rename pairs) (ap is_client same) asked)

    abbrev After : Type 0
    After = IsAsItWas plan.table was (find_table Old (state_at plan more).tables)

    same_table : find_table Old (state_at plan more).tables ≡ find_table Old (state_at plan journal).tables → After
    same_table same = subst (IsAsItWas plan.table was) (sym same) passed.table

    -- one of its actor's requests is the other
    one_request : (request other : Request) → Asks request → Asks other → request ≡ other
    one_request request other (is_called asks none) (is_called other_asks other_none) = let same : Call request ≡ Call other = sym asks ∙ other_asks in cc
    one_request request other (is_polled asks some) (is_polled other_asks other_some) = let same : Some request ≡ Some other = sym some ∙ other_some in cc
    one_request request other (is_called asks none) (is_polled other_asks other_some) = absurd (no (sym none ∙ other_some)) where
      no : None ≡ Some other → ⊥
      no same = cc
    one_request request other (is_polled asks some) (is_called other_asks other_none) = absurd (no (sym other_none ∙ some)) where
      no : None ≡ Some request → ⊥
      no same = cc

    table_more : After
    table_more = by (turn_about plan journal entry known run) where
      left : (request : Request) → histories.about journal entry ≡ Some request → AskedAs plan entry.actor request → Left plan journal entry Old request → After
      left request about asks (left_so same) = same_table same
      left request about asks (left_gone none) = subst (IsAsItWas plan.table was) (sym none) tt
      left request about asks (left_renamed pairs count is reported) = absurd (never_renamed request about asks pairs count is reported)

      calls_so_far : (request : Request) → Asks request → may_lose entry.asked ≡ true
      calls_so_far request (is_called asks none) = ap may_lose asks
      calls_so_far request (is_polled asks some) = ap may_lose asks

      by : TurnAbout plan journal entry → After
      by (rests_so is) = same_table (rests_left plan journal entry known run Old unwritten.unwritten is)
      by (asks_so request is_about about asks quiet) =
          let turn : IsUnmade entry.actor = turn_unmade (calls_so_far request is_about) in
          left request about asks (turn_left plan journal entry known run Old unwritten.unwritten request is_about (writes_no_old plan serial entry.actor request asks) (ap makes (one_request request turn.request is_about turn.is_about) ∙ turn.unmade))

    -- *One turn more*
    passed_more : IsPassed plan was more
    passed_more = let past : IsPast plan more = (goes_past definitions_are_done plan journal entry serial runs known run passed.past).past in
        record {
          past = past;
          altered = history_more plan journal entry ∙ or_left (list_any is_alter (history plan journal)) (list_any is_alter (entry_adds plan journal entry)) passed.altered;
          locker = locker_more;
          inspector = inspector_of more past;
          table = table_more;
        }

  passed_along : (was : TableRows) (some journal : List Entry) → IsKept plan (some ++ journal) → IsPassed plan was some → IsPassed plan was (some ++ journal)
  passed_along was some [] kept passed = subst (IsPassed plan was) (sym (append-nil some)) passed
  passed_along was some (entry ∷ journal) kept passed =
      let same : (some ++ entry ∷ []) ++ journal ≡ some ++ entry ∷ journal = append_assoc some (entry ∷ []) journal in
      let later : IsKept plan ((some ++ entry ∷ []) ++ journal) = subst (IsKept plan) (sym same) kept in
      subst (IsPassed plan was) same (passed_along was (some ++ entry ∷ []) journal later (passed_more was some entry (kept_front plan (some ++ entry ∷ []) journal later) passed))

-- RIGHT BEHIND THE RENAME

pub record RenameLaws : Type 0 where
  pub alone : ExclusiveIsAlone
  pub done : DefinitionsAreDone
  pub reported : WaitsAreReported
  pub turned : JournalsAreTurned

module _ (laws : RenameLaws) (plan : PlanData) (runs : IsRunnable plan) (serial : IsSerialPlan plan) (journal : List Entry) (entry : Entry) (rename : IsRename plan journal entry) where
  before_it : IsKept plan journal
  before_it = kept_front plan journal (entry ∷ []) rename.kept

  known_before : IsKnownAsked plan journal
  known_before = all_asked plan journal runs before_it.faithful before_it.follows

  run_here : IsRun plan journal entry
  run_here = kept_run plan journal entry rename.kept

  together_before : IsTogether plan journal
  together_before = known_before.marking.tabled.all.tool

  served_here : IsServed plan journal entry
  served_here = record { answered = run_here.answered; seated = record { session = run_here.followed.session } }

  pub finds : Found plan journal entry
  finds = renames_found laws.alone laws.done laws.reported laws.turned plan journal entry runs serial rename

  pub renaming_here : Renaming laws.done plan journal entry runs serial rename.kept rename.unaltered rename.alters
  renaming_here = renaming laws.done plan journal entry runs serial rename.kept rename.unaltered rename.alters

  pub renamer : entry.actor ≡ Ren
  renamer = (exchanges laws.done plan journal entry runs serial rename.kept rename.unaltered rename.alters).0

  pub is_about : IsAbout (exchange plan.table) (standing_of plan journal entry.actor) entry.asked
  is_about = ren_asks laws.done plan journal entry serial runs known_before run_here finds.work finds.tool_phase finds.asks renamer

  -- *Its tables are those that the exchange makes*
  pub tables_renamed : rename_tables (exchanged plan.table) (state_at plan journal).tables ≡ Ok (state_at plan (journal ++ entry ∷ [])).tables
  tables_renamed = reported_renamed laws.done plan journal entry serial runs known_before run_here finds.work finds.tool_phase is_about renaming_here.count renaming_here.is_reported

  stands_before : WorkStands journal (is_reverting (moment plan journal).tool.reason) (standing_of plan journal) finds.work
  stands_before = subst (ToolPhaseStands journal (standing_of plan journal) (is_reverting (moment plan journal).tool.reason)) finds.tool_phase together_before.stands

  -- the locker waits to make no table
  guarded : IsGuarded plan journal
  guarded = all_guarded plan journal (laws.turned plan journal runs serial before_it rename.unaltered)

  fits_with : (b : Bool) → finds.work.cutover.renamer_waits ≡ b → machines.renaming finds.work.cutover.table b ≡ standing_of plan journal Ren → (request : Request) → (standing_of plan journal Ren).waits ≡ Some request → Fits finds.work.cutover.phase finds.work.cutover.hold true
  fits_with true waits is request some = subst (Fits finds.work.cutover.phase finds.work.cutover.hold) waits (subst (ToolPhaseHolds plan (moment plan journal).server (last_session journal Lock) (last_session journal Ren)) finds.tool_phase guarded.tool_phase).fits
  fits_with false waits is request some = absurd (no (ap (λ (s : Standing). s.waits) is ∙ some)) where
    no : None ≡ Some request → ⊥
    no same = cc

  locker_rests : Asking plan journal Ren entry.asked → NoMake (held finds.work.cutover.table finds.work.cutover.hold).waits
  locker_rests (calls_so request asks idle call) =
      called_rests finds.work request (ap (λ (c : ToolPhase). tool_call plan (moment plan journal).server journal (moment plan journal).tool c Ren) (sym finds.tool_phase) ∙ call) stands_before.phase
  locker_rests (polls_so request asks some) =
      waiting_rests finds.work.cutover.table finds.work.cutover.phase finds.work.cutover.hold
      (fits_with finds.work.cutover.renamer_waits refl (sym stands_before.renamer) request some)

  locker_after : NoMake (standing_of plan (journal ++ entry ∷ []) Lock).waits
  locker_after =
      subst (λ (s : Standing). NoMake s.waits) (sym (others_stand plan journal entry together_before.known served_here Lock (ap (λ (a : Actor). same_actor a Lock) renamer)))
      (subst (λ (s : Standing). NoMake s.waits) (sym stands_before.locker) (locker_rests finds.asks))

  module _ (was : TableRows) (stood : find_table plan.table (state_at plan journal).tables ≡ Some was) where
    becomes : find_table (old_name plan.table) (state_at plan (journal ++ entry ∷ [])).tables ≡ Some (name_table (old_name plan.table) was)
    becomes =
        exchange_moves plan.table (state_at plan journal).tables (state_at plan (journal ++ entry ∷ [])).tables was tables_renamed stood

    -- *It is so there*
    passed_here : IsPassed plan was (journal ++ entry ∷ [])
    passed_here = let past : IsPast plan (journal ++ entry ∷ []) = renamed_past laws.done plan journal entry runs serial rename.kept rename.unaltered rename.alters in
        record {
          past = past;
          altered = history_more plan journal entry ∙ or_right (list_any is_alter (history plan journal)) (list_any is_alter (entry_adds plan journal entry)) rename.alters;
          locker = locker_after;
          inspector = inspector_of laws.done plan runs serial (journal ++ entry ∷ []) past;
          table = subst (IsAsItWas plan.table was) (sym becomes) refl;
        }

-- WHOLE JOURNALS

keeps_old : RenameLaws → RenamesComeOnce → (plan : PlanData) → IsRunnable plan → IsSerialPlan plan → (journal : List Entry) → IsKept plan journal → KeepsOldTable plan journal
keeps_old laws once plan runs serial journal kept before entry more rest was is alters stood =
    let same : (before ++ entry ∷ []) ++ more ≡ before ++ entry ∷ more = append_assoc before (entry ∷ []) more in
    let later : IsKept plan (before ++ entry ∷ more) = kept_front plan (before ++ entry ∷ more) rest (subst (IsKept plan) is kept) in
    let whole : IsKept plan ((before ++ entry ∷ []) ++ more) = subst (IsKept plan) (sym same) later in
    let renamed : IsKept plan (before ++ entry ∷ []) = kept_front plan (before ++ entry ∷ []) more whole in
    let first : IsUnaltered plan before = along_next (λ some one. list_any is_alter (entry_adds plan some one) ≡ true → IsUnaltered plan some) [] before entry [] (once plan (before ++ entry ∷ []) runs serial renamed) alters in
    let rename : IsRename plan before entry = record { kept = renamed; unaltered = first; alters = alters } in
    record {
      becomes = becomes laws plan runs serial before entry rename was stood;
      stays = subst (λ (j : List Entry). IsAsItWas plan.table was (find_table (old_name plan.table) (state_at plan j).tables)) same
          (passed_along laws.done plan runs serial was (before ++ entry ∷ []) more whole (passed_here laws plan runs serial before entry rename was stood)).table;
    }

-- *Accepted runs keep the old table*
pub runs_keep_old : RenameLaws → RenamesComeOnce → ReadPlansAreRunnable → ReadPlansAreSerial → AcceptedRunsKeepTheOldTable
runs_keep_old laws once runnable serial plan journal was kept = keeps_old laws once plan (runnable plan was) (serial was.bytes plan was.is) journal kept
