-- The counter is carried: in each turn until the RENAME is done, what is known of the two counters stays so.
use Rattle.std.proofs.Common.{◌≡◌, ◌≢◌, ◌⊎◌, ℕ, ◌+◌, Bool, true, false, not, ◌||◌, List, [], ◌∷◌, ◌++◌, Option, Some, None, refl, sym, ap, ◌∙◌, subst, inl, inr, arith}
use Rattle.std.specs.Prelude.{unwrap_or}
use Rattle.std.specs.Str.{bytes_eq}
use Rattle.std.proofs.lemmas.Bool.{true≢false, false≢true}
use Rattle.std.proofs.lemmas.Option.{none-some}
use Rattle.base_values.specs.ToolNames.{ghost_name, old_name}
use Rattle.base_script.specs.declared.actor.Actor.{Actor}
use Rattle.base_script.specs.declared.actor.Actor.TheVariants.{Op, Insp, Copy, Apply, Lock, Ren, Client}
use Rattle.base_script.specs.declared.actor.Side.{Side}
use Rattle.base_script.specs.declared.actor.Side.TheVariants.{Before, After}
use Rattle.base_script.specs.declared.operator.OperatorWord.{OperatorWord}
use Rattle.base_script.specs.declared.operator.OperatorWord.TheVariants.{ChunkSize}
use Rattle.base_script.specs.declared.statement.Statement.{Statement}
use Rattle.table_store.specs.Databases.{Database, TableRows, find_table, has_table}
use Rattle.table_store.specs.declared.renames.Pair.{Pair}
use Rattle.server_locks.specs.MetadataLocks.Grants.{blocker_of_name}
use Rattle.server_locks.specs.MetadataLocks.Grants as grants
use Rattle.server_model.specs.declared.answer.Answer.{Answer}
use Rattle.server_model.specs.declared.answer.Answer.TheVariants as answers
use Rattle.server_model.specs.declared.counter.Counter.{Counter}
use Rattle.server_model.specs.declared.entry.Asked.{Asked}
use Rattle.server_model.specs.declared.entry.Asked.TheVariants.{Call, Poll, Command, Cut}
use Rattle.server_model.specs.declared.entry.Entry.{Entry}
use Rattle.server_model.specs.declared.listing.TableName.{TableName}
use Rattle.server_model.specs.declared.request.Request.{Request}
use Rattle.server_model.specs.declared.request.Request.TheVariants as requests
use Rattle.server_model.specs.declared.session.Waiting.{Waiting}
use Rattle.server_model.specs.Counting.{counted}
use Rattle.server_model.specs.Effects.{effect_unless, is_outside, of_table}
use Rattle.server_model.specs.Entries.{is_client, is_command}
use Rattle.server_model.specs.LockedRows.Counters.{NoLess}
use Rattle.server_model.specs.PlainServer.{asks_for, counters_left, did, does, done, leaves, serves}
use Rattle.server_model.specs.States.{State, counters_from, has_work, is_in_transaction, names_held, next_of, session_of, view, waiters}
use Rattle.plan_data.specs.PlanData.{PlanData, has_counter}
use Rattle.tool_program.specs.CutoverCore.Attempts as attempts
use Rattle.tool_program.specs.CutoverCore.CutOvers as cutovers
use Rattle.tool_program.specs.CutoverCore.CutOvers.{applier_turn, reverted}
use Rattle.tool_program.specs.declared.cutover_core.cutover.Clearing.{Clearing}
use Rattle.tool_program.specs.declared.cutover_core.cutover.Clearing.TheVariants.{Looking, Drops}
use Rattle.tool_program.specs.declared.cutover_core.cutover.Drain.{Drain}
use Rattle.tool_program.specs.declared.cutover_core.cutover.Drain.TheVariants.{Turns, Passed}
use Rattle.tool_program.specs.declared.cutover_core.cutover.Hold.{Hold}
use Rattle.tool_program.specs.declared.cutover_core.cutover.Hold.TheVariants.{Nothing, WaitsToGuard, WaitsToLock, Locks}
use Rattle.tool_program.specs.declared.cutover_core.cutover.Phase.{Phase}
use Rattle.tool_program.specs.declared.cutover_core.cutover.Phase.TheVariants.{Resting, Attempting, Ending, Finishing, Finished}
use Rattle.tool_program.specs.declared.cutover_core.cutover.Role.TheVariants.{Inspector, Locker, Renamer}
use Rattle.tool_program.specs.declared.cutover_core.cutover.Stage.{Stage}
use Rattle.tool_program.specs.declared.cutover_core.cutover.Stage.TheVariants.{Guarding, Locking, Hinting, ReadingCounter, SettingCounter, Draining, Drained, Showing, Dropping, Unlocking, Exchanging}
use Rattle.tool_program.specs.JournalWords.Draws.{asked_in}
use Rattle.tool_program.specs.JournalWords.Journals.{may_lose, opens, state_at}
use Rattle.tool_program.specs.Programs.{given, tool_call}
use Rattle.tool_program.specs.Setups.{Setup, Listing, MakingLog, MakingGhost, Marking, Reaching, Ready, setup_after}
use Rattle.tool_program.specs.Setups.{Clearing as Clears}
use Rattle.tool_program.specs.Tools.{Work, ToolPhase, SettingUp, Migrating, Tool, Moment, stopped, is_reverting, tool_phase_of, moment}
use Rattle.tool_program.proofs.OnlineCalls.Machines.{ToolPhaseIsNamed, named}
use Rattle.proof_journals.specs.Machine.Machines.{ToolPhaseStands, WorkStands}
use Rattle.proof_journals.specs.Machine.Runnable.{IsRunnable}
use Rattle.proof_journals.specs.Machine.Standings.{Standing, IsAbout, is_called, is_polled, standing_of}
use Rattle.proof_journals.specs.Plans.{IsSerialPlan}
use Rattle.proof_journals.specs.Rising.{LeavesName}
use Rattle.proof_journals.specs.Run.Kept.{IsKept}
use Rattle.proof_journals.specs.Sentry.Sentries.{AfterFailure, AfterUnlock, Fits, Guards, HasSentry, InspectorMay, InspectorTurns, IsAlone, IsLocked, LockerServes, MayAnswer, MayExchange, OthersTurn, RenamerServes, RenameWaits, WhereItWaits, scene}
use Rattle.proof_journals.specs.Sentry.TurnResults.{Apart, AskedTurn, Holds, IsGuarded, IsTurned, LockerTurn, RenamerTurn, InspectorTurn, ToolPhaseHolds, ToolPhaseTurn, WorkTurn, last_session, reported_if}
use Rattle.proof_journals.proofs.Journals.{opened_waits}
use Rattle.proof_journals.proofs.Machine.Inspecting.{inspects_or}
use Rattle.proof_journals.proofs.Machine.Journals.{Asking, IsRun, IsTogether, asking, calls_so, lock_about, polls_so, ren_about}
use Rattle.proof_journals.proofs.Machine.Marks.{KeepsGhost, Unmarked, inspector_keeps, locker_keeps}
use Rattle.proof_journals.proofs.Machine.Schemas.{is_quiet, keeps_table, quiet_keeps}
use Rattle.proof_journals.proofs.Machine.Seated.{IsServed, own_given, own_missed, state_more}
use Rattle.proof_journals.proofs.Machine.Tabling.{may_define}
use Rattle.proof_journals.proofs.Rising.{opened_counters, turn_falls}
use Rattle.proof_journals.proofs.Sentry.Holding.{refused_shared, waits_after}
use Rattle.proof_journals.proofs.ServerTurns.Alone.{held_opened}
use Rattle.proof_migration.specs.ToolPhase.Unaltered.{IsUnaltered}
use Rattle.proof_migration.proofs.Attempt.Stages.{RenamerAt}
use Rattle.proof_migration.proofs.Attempt.Standing.{ToolPhaseAt, all_standing}
use Rattle.proof_migration.proofs.Program.InspectorTurns.Fitting.{AsksAt}
use Rattle.proof_migration.proofs.Program.InspectorTurns.Keeping.{all_fit, insp_asks}
use Rattle.proof_migration.proofs.Program.Turns.Follows.{kept_front, kept_run, unmarked_now}
use Rattle.proof_migration.proofs.ToolPhase.ToolPhaseTurns.{Kept, UnfitKeeps, SetupKeeps, AnswerKeeps, ResizeKeeps, turn_kept, gives_asked}
use Rattle.proof_migration.proofs.ToolPhase.Unaltered.Asking.{AskedAs}
use Rattle.proof_migration.proofs.ToolPhase.Unaltered.Away.{IsKnownAsked, all_asked, unaltered_entry, unaltered_front}
use Rattle.proof_plans.proofs.Tables.Turns.{TurnAbout, asks_so, rests_so, turn_about}
use Rattle.server_model.proofs.LockedRows.Tests.{turned_bytes}
use Rattle.law_draws.specs.LockedCounters.{LeavesCounter}
use Rattle.law_draws.proofs.Carried.{CarriedAt, IsNoLess, NoMore, ToolPhaseCarried, drained_carried, ended_carried, inspector_carried, locker_carried, more_on, renamer_carried}
use Rattle.law_draws.proofs.ColumnValues.{raised_to}
use Rattle.law_draws.proofs.LockedCounters.{other_stays, refused_counters_stay, unasked_stays}
use Rattle.law_draws.proofs.Migrated.{IsRenaming, SparesOrRenames, about_asks, all_fine, asked_fine, none_asks, undone}
use Rattle.law_draws.proofs.NewTable.{HasCounter}
use Rattle.law_draws.proofs.Renames.{Undone, rename_counts}
use Rattle.law_draws.proofs.Served.{served_so}

-- WHAT THE SERVER SAYS

-- SHOW of a counter says the counter
abbrev Shows : List ℕ → Database → List Counter → Answer → Database → Type 0
Shows table tables counters (answers.At number) after = number ≡ unwrap_or (next_of table counters) 0
Shows table tables counters answer after = Unit {0}

shown_done : (table : List ℕ) (number : ℕ) (state : State) → Shows table state.tables state.counters (done state number (requests.ShowCounter table)).answer (done state number (requests.ShowCounter table)).after.tables
unfolding did
shown_done table number state = by (is_outside (session_of number state.sessions) (requests.ShowCounter table)) where
  found : (o : Option TableRows) → Shows table state.tables state.counters (of_table o (λ t. answers.At (unwrap_or (next_of table state.counters) 0))) state.tables
  found None = tt
  found (Some t) = refl

  by : (b : Bool) → Shows table state.tables state.counters (does (effect_unless b (is_in_transaction (session_of number state.sessions)) (view number state) state (requests.ShowCounter table)) state number).answer (does (effect_unless b (is_in_transaction (session_of number state.sessions)) (view number state) state (requests.ShowCounter table)) state number).after.tables
  by true = tt
  by false = found (find_table table state.tables)

shown_is : (table : List ℕ) (number : ℕ) (state : State) (asked : Asked) (shown : ℕ) → asks_for state number asked ≡ Some (requests.ShowCounter table) → (serves state number asked).answer ≡ answers.At shown → shown ≡ unwrap_or (next_of table state.counters) 0
shown_is table number state asked shown asks is =
    subst (λ (a : Answer). Shows table state.tables state.counters a (serves state number asked).after.tables) is
    (served_so (Shows table) number (requests.ShowCounter table) (record { waits = λ tables counters by. tt; timed = λ tables counters waited. tt; each = shown_done table number }) state asked asks)

-- a request that leaves what stands under a name leaves the name
keeps_leaves : (name : List ℕ) (request : Request) → keeps_table name request ≡ true → LeavesName name (Some request)
keeps_leaves name (requests.Create schema) keeps = by (bytes_eq schema.name name) refl keeps where
  by : (b : Bool) → bytes_eq schema.name name ≡ b → not b ≡ true → (bytes_eq name schema.name || false) ≡ false
  by true named is = absurd (false≢true is)
  by false off is = rw (turned_bytes schema.name name off) refl
keeps_leaves name (requests.Drop dropped) keeps = by (bytes_eq name dropped) refl keeps where
  by : (b : Bool) → bytes_eq name dropped ≡ b → not b ≡ true → (b || false) ≡ false
  by true named is = absurd (false≢true is)
  by false off is = refl
keeps_leaves name (requests.Rename pairs) keeps = absurd (false≢true keeps)
keeps_leaves name request keeps = tt

-- *Carried*, behind a journal
abbrev pub IsCarried : PlanData → List Entry → Type 0
IsCarried plan journal = ToolPhaseCarried plan (state_at plan journal) (moment plan journal).tool.tool_phase

-- both tables have counters
pub record HasBoth (plan : PlanData) (state : State) : Type 0 where
  pub old : HasCounter plan.table state.counters
  pub new : HasCounter (ghost_name plan.table) state.counters

-- the locker holds the table, or nobody but it does and the RENAME waits for it
data Shut (table : List ℕ) (state : State) (locker renamer : ℕ) : Type 0 where
  locked_so : IsLocked table (names_held state.sessions) locker → Shut table state locker renamer
  waited_so : IsAlone table (names_held state.sessions) locker → RenameWaits table (scene state) renamer → Shut table state locker renamer

module _ (plan : PlanData) (serial : IsSerialPlan plan) (runs : IsRunnable plan) (journal : List Entry) (entry : Entry) (kept : IsKept plan (journal ++ entry ∷ [])) (off : IsUnaltered plan (journal ++ entry ∷ [])) (guarded : IsGuarded plan journal) (turned : IsTurned plan journal entry) (carries : has_counter plan ≡ true) (carried : IsCarried plan journal)
    (has_both : (work : Work) → (moment plan journal).tool.tool_phase ≡ Migrating work → HasBoth plan (state_at plan journal)) where
  abbrev now : Moment
  now = moment plan journal

  abbrev tool : Tool
  tool = record now.tool { turns = now.tool.turns + 1 }

  abbrev more : List Entry
  more = journal ++ entry ∷ []

  abbrev has : Actor → Standing
  has = standing_of plan journal

  abbrev state : State
  state = state_at plan journal

  abbrev after : State
  after = state_at plan more

  abbrev open_now : State
  open_now = opens entry state

  abbrev t : List ℕ
  t = plan.table

  abbrev gho : List ℕ
  gho = ghost_name plan.table

  abbrev l : ℕ
  l = last_session journal Lock

  abbrev r : ℕ
  r = last_session journal Ren

  abbrev New : Kept
  New = λ b tool_phase. ToolPhaseCarried plan after tool_phase

  before : IsKept plan journal
  before = kept_front plan journal (entry ∷ []) kept

  off_before : IsUnaltered plan journal
  off_before = unaltered_front plan journal (entry ∷ []) off

  run : IsRun plan journal entry
  run = kept_run plan journal entry kept

  known : IsKnownAsked plan journal
  known = all_asked plan journal runs before.faithful before.follows

  then_known : IsKnownAsked plan more
  then_known = all_asked plan more runs kept.faithful kept.follows

  together : IsTogether plan journal
  together = known.marking.tabled.all.tool

  served : IsServed plan journal entry
  served = record { answered = run.answered; seated = record { session = run.followed.session } }

  -- WHAT THE TURN IS ABOUT

  about_so : (request : Request) → IsAbout request (has entry.actor) entry.asked → asked_in state entry ≡ Some request
  about_so request about = about_asks plan journal entry known run request about

  none_asked : may_lose entry.asked ≡ false → asked_in state entry ≡ None
  none_asked rests = none_asks plan journal entry rests

  not_done : (pairs : List Pair) → asked_in state entry ≡ Some (requests.Rename pairs) → Undone entry.side (serves open_now entry.session entry.asked).answer
  not_done = undone plan serial runs journal entry known run (unaltered_entry plan journal entry off)

  -- COUNTERS

  counters_after : (name : List ℕ) → next_of name after.counters ≡ next_of name (counters_left entry.side open_now entry.session entry.asked)
  counters_after name = ap (λ (s : State). next_of name s.counters) (state_more plan journal entry)

  opened : (name : List ℕ) → next_of name open_now.counters ≡ next_of name state.counters
  opened name = ap (next_of name) (opened_counters (is_command entry.asked) (not (is_client entry.actor)) entry.session state)

  renaming_same : (name : List ℕ) → IsRenaming (asked_in state entry) → next_of name after.counters ≡ next_of name state.counters
  renaming_same name it = by (asked_in state entry) refl it where
    by : (asks : Option Request) → asked_in state entry ≡ asks → IsRenaming asks → next_of name after.counters ≡ next_of name state.counters
    by (Some (requests.Rename pairs)) asks it = counters_after name ∙ ap (next_of name) (rename_counts entry.side open_now entry.session entry.asked pairs asks (not_done pairs asks)) ∙ opened name
    by asks is_asks it = absurd it

  -- the migrated table's stays, where no statement on it is granted
  old_stays : ((statement : Statement) → asked_in state entry ≡ Some (requests.Do statement) → blocker_of_name (names_held open_now.sessions) (waiters open_now.waiting) entry.session t false ≡ None → ⊥) → next_of t after.counters ≡ next_of t state.counters
  old_stays refused = by (asked_fine plan journal entry run.followed (all_fine plan journal before)) where
    counted_same : (request : Request) → asked_in state entry ≡ Some request → (answer : Answer) → next_of t (counted open_now entry.session (Some request) answer) ≡ next_of t open_now.counters → next_of t (counted open_now entry.session (asked_in state entry) answer) ≡ next_of t open_now.counters
    counted_same request asks answer same = ap (λ (o : Option Request). next_of t (counted open_now entry.session o answer)) asks ∙ same

    left_same : ((answer : Answer) → next_of t (counted open_now entry.session (asked_in state entry) answer) ≡ next_of t open_now.counters) → (side : Option Side) → next_of t (counters_left side open_now entry.session entry.asked) ≡ next_of t open_now.counters
    left_same same None = same (serves open_now entry.session entry.asked).answer
    left_same same (Some Before) = refl
    left_same same (Some After) = same (serves open_now entry.session entry.asked).answer

    spared : (asks : Option Request) → asked_in state entry ≡ asks → LeavesCounter t asks → next_of t (counters_left entry.side open_now entry.session entry.asked) ≡ next_of t open_now.counters
    spared (Some (requests.Do statement)) asks leaves = refused_counters_stay t entry.side open_now entry.session entry.asked (refused statement asks) (subst (LeavesCounter t) (sym asks) leaves)
    spared (Some request) asks leaves = left_same (λ answer. counted_same request asks answer (other_stays t open_now entry.session request answer leaves (λ statement same. absurd cc))) entry.side
    spared None asks leaves = left_same (λ answer. ap (λ (o : Option Request). next_of t (counted open_now entry.session o answer)) asks ∙ unasked_stays t open_now entry.session answer) entry.side

    by : SparesOrRenames plan (asked_in state entry) → next_of t after.counters ≡ next_of t state.counters
    by (inl spares) = counters_after t ∙ spared (asked_in state entry) refl spares.counter ∙ opened t
    by (inr it) = renaming_same t it

  module _ (work : Work) (eq : now.tool.tool_phase ≡ Migrating work) where
    abbrev waits : Bool
    waits = work.cutover.renamer_waits

    abbrev phase : Phase
    phase = work.cutover.phase

    stands : WorkStands journal (is_reverting now.tool.reason) has work
    stands = subst (ToolPhaseStands journal has (is_reverting now.tool.reason)) eq together.stands

    own_table : work.cutover.table ≡ plan.table
    own_table = (subst (ToolPhaseIsNamed plan) eq (named plan journal)).cutover

    own_counter : work.cutover.has_counter ≡ has_counter plan
    own_counter = (subst (ToolPhaseIsNamed plan) eq (named plan journal)).counter

    unmarked : Unmarked plan journal work
    unmarked = unmarked_now plan journal work known off_before eq

    both : HasBoth plan state
    both = has_both work eq

    holds : Holds plan state l r work
    holds = subst (λ (s : State). Holds plan s l r work) together.server (subst (ToolPhaseHolds plan now.server l r) eq guarded.tool_phase)

    was : CarriedAt plan state waits phase
    was = subst (ToolPhaseCarried plan state) eq carried

    asked : AskedTurn plan state after l r work (now.tool.turns + 1) entry entry.asked
    asked =
        subst (λ (s : State). AskedTurn plan state s l r work (now.tool.turns + 1) entry entry.asked) then_known.marking.tabled.all.tool.server
        (subst (λ (s : State). AskedTurn plan s (moment plan more).server l r work (now.tool.turns + 1) entry entry.asked) together.server
        (subst (λ (c : ToolPhase). ToolPhaseTurn plan now.server (moment plan more).server l r c (now.tool.turns + 1) entry) eq turned.turn))

    -- THE NEW TABLE'S COUNTER DOESN'T FALL

    abbrev LeavesIt : Type 0
    LeavesIt = LeavesName gho (asked_in state entry) ⊎ IsRenaming (asked_in state entry)

    keeps_it : (request : Request) → asked_in state entry ≡ Some request → keeps_table gho request ≡ true → LeavesIt
    keeps_it request asks keeps = inl (subst (LeavesName gho) (sym asks) (keeps_leaves gho request keeps))

    renames_it : (request : Request) → asked_in state entry ≡ Some request → request ≡ attempts.exchange work.cutover.table → LeavesIt
    renames_it request asks is = inr (subst IsRenaming (sym (asks ∙ ap (λ (q : Request). Some q) is)) tt)

    own : (actor : Actor) (request : Request) → entry.actor ≡ actor → IsAbout request (has actor) entry.asked → asked_in state entry ≡ Some request
    own actor request who about = about_so request (subst (λ (a : Actor). IsAbout request (has a) entry.asked) (sym who) about)

    gives : (actor : Actor) → entry.actor ≡ actor → may_lose entry.asked ≡ true → given plan journal actor ≡ Some entry.asked
    gives actor who calls = subst (λ (a : Actor). given plan journal a ≡ Some entry.asked) who (gives_asked plan journal entry entry.asked run.followed.given refl (λ cut. true≢false (sym calls ∙ ap may_lose cut)))

    insp_leaves : entry.actor ≡ Insp → may_lose entry.asked ≡ true → LeavesIt
    unfolding given
    insp_leaves who calls = by (asking plan journal Insp entry.asked together.server (gives Insp who calls)) where
      by : Asking plan journal Insp entry.asked → LeavesIt
      by (calls_so request asks idle call) =
          keeps_it request (own Insp request who (is_called asks idle))
          (inspects_or plan journal now.tool work request (keeps_table gho request ≡ true) (ap (λ (c : ToolPhase). tool_call plan now.server journal now.tool c Insp) (sym eq) ∙ call) (λ note resting. ap (keeps_table gho) note.is)
          (λ next. subst (λ (n : List ℕ). KeepsGhost n request) own_table (inspector_keeps work.cutover request next unmarked.undone)))
      by (polls_so request asks some) = keeps_it request (own Insp request who (is_polled asks some)) (unmarked.waits request some)

    lock_leaves : entry.actor ≡ Lock → may_lose entry.asked ≡ true → LeavesIt
    unfolding given
    lock_leaves who calls =
        lock_about plan journal entry together run work eq stands (asking plan journal Lock entry.asked together.server (gives Lock who calls)) LeavesIt
        (λ request about kind. keeps_it request (own Lock request who about) (subst (λ (n : List ℕ). KeepsGhost n request) own_table (locker_keeps work.cutover.table work.cutover.hold phase request kind)))

    ren_leaves : entry.actor ≡ Ren → may_lose entry.asked ≡ true → LeavesIt
    unfolding given
    ren_leaves who calls =
        ren_about plan journal entry together run work eq stands (asking plan journal Ren entry.asked together.server (gives Ren who calls)) LeavesIt
        (λ request about kind. renames_it request (own Ren request who about) kind)

    leaves_it : LeavesIt
    leaves_it = by (turn_about plan journal entry known run) where
      about_calls : (request : Request) → IsAbout request (has entry.actor) entry.asked → may_lose entry.asked ≡ true
      about_calls request (is_called same none) = ap may_lose same
      about_calls request (is_polled same some) = ap may_lose same

      actor_so : (request : Request) → IsAbout request (has entry.actor) entry.asked → (actor : Actor) → entry.actor ≡ actor → (may_define actor ≡ false → is_quiet request ≡ true) → LeavesIt
      actor_so request about Op who quiet = keeps_it request (about_so request about) (quiet_keeps gho request (quiet refl))
      actor_so request about Copy who quiet = keeps_it request (about_so request about) (quiet_keeps gho request (quiet refl))
      actor_so request about Apply who quiet = keeps_it request (about_so request about) (quiet_keeps gho request (quiet refl))
      actor_so request about (Client c) who quiet = keeps_it request (about_so request about) (quiet_keeps gho request (quiet refl))
      actor_so request about Insp who quiet = insp_leaves who (about_calls request about)
      actor_so request about Lock who quiet = lock_leaves who (about_calls request about)
      actor_so request about Ren who quiet = ren_leaves who (about_calls request about)

      by : TurnAbout plan journal entry → LeavesIt
      by (asks_so request about requested asks quiet) = actor_so request about entry.actor refl quiet
      by (rests_so rests) = inl (subst (LeavesName gho) (sym (none_asked rests)) tt)

    no_less : (o : Option ℕ) → NoLess o o
    no_less None = refl
    no_less (Some n) = omega arith

    ghost_grows : NoLess (next_of gho state.counters) (next_of gho after.counters)
    ghost_grows = by leaves_it where
      by : LeavesIt → NoLess (next_of gho state.counters) (next_of gho after.counters)
      by (inl leaves) = subst (λ (o : Option ℕ). NoLess o (next_of gho after.counters)) (opened gho) (subst (NoLess (next_of gho open_now.counters)) (sym (counters_after gho)) (turn_falls entry.side open_now entry.session entry.asked gho leaves))
      by (inr it) = subst (NoLess (next_of gho state.counters)) (sym (renaming_same gho it)) (no_less (next_of gho state.counters))

    -- THE OLD ONE'S STAYS WHILE THE TABLE IS SHUT

    refused : Shut t state l r → Apart l r entry.session → blocker_of_name (names_held open_now.sessions) (waiters open_now.waiting) entry.session t false ≡ None → ⊥
    refused shut apart free = by shut (
        subst (λ (h : List grants.HeldName). blocker_of_name h (waiters state.waiting) entry.session t false ≡ None) (held_opened (is_command entry.asked) (not (is_client entry.actor)) entry.session state)
        (subst (λ (w : List Waiting). blocker_of_name (names_held open_now.sessions) (waiters w) entry.session t false ≡ None) (opened_waits (is_command entry.asked) (not (is_client entry.actor)) entry.session state) free)
        ) where
          turned_apart : entry.session ≢ l
          turned_apart same = apart.locks (sym same)

          by : Shut t state l r → blocker_of_name (names_held state.sessions) (waiters state.waiting) entry.session t false ≡ None → ⊥
          by (locked_so locked) = refused_shared (names_held state.sessions) (waiters state.waiting) entry.session l t apart.locks locked.own
          by (waited_so alone waiting) = waits_after (names_held state.sessions) (waiters state.waiting) entry.session r t apart.renames (alone entry.session turned_apart) waiting

    -- a statement is another actor's
    statement_apart : (statement : Statement) → asked_in state entry ≡ Some (requests.Do statement) → Apart l r entry.session
    statement_apart statement asks = by (turn_about plan journal entry known run) where
      turn : (asks : Asked) → may_lose asks ≡ true → AskedTurn plan state after l r work (now.tool.turns + 1) entry asks → WorkTurn plan state after l r work (now.tool.turns + 1) entry entry.actor (Some entry.answer)
      turn (Call request) calls at = at
      turn Poll calls at = at
      turn (Command word) calls at = absurd (false≢true calls)
      turn Cut calls at = absurd (false≢true calls)

      at_actor : (actor : Actor) → AskedAs plan actor (requests.Do statement) → WorkTurn plan state after l r work (now.tool.turns + 1) entry actor (Some entry.answer) → Apart l r entry.session
      at_actor Lock asked at = absurd asked
      at_actor Ren asked at = absurd asked
      at_actor Insp asked at = at.apart
      at_actor Copy asked at = at.0.0
      at_actor Apply asked at = at.0.0
      at_actor Op asked at = at.0
      at_actor (Client c) asked at = at.0

      calls_of : (request : Request) → IsAbout request (has entry.actor) entry.asked → may_lose entry.asked ≡ true
      calls_of request (is_called same none) = ap may_lose same
      calls_of request (is_polled same some) = ap may_lose same

      by : TurnAbout plan journal entry → Apart l r entry.session
      by (asks_so request about requested asked_as quiet) =
          let both_are : Some request ≡ Some (requests.Do statement) = sym (about_so request about) ∙ asks in
          let one : request ≡ requests.Do statement = cc in
          at_actor entry.actor (subst (AskedAs plan entry.actor) one asked_as) (turn entry.asked (calls_of request about) asked)
      by (rests_so rests) = absurd (none-some (requests.Do statement) (sym (none_asked rests) ∙ asks))

    frozen : Shut t state l r → next_of t after.counters ≡ next_of t state.counters
    frozen shut = old_stays (λ statement asks. refused shut (statement_apart statement asks))

    less_on : Shut t state l r → IsNoLess plan state → IsNoLess plan after
    less_on shut less has_one = more_on (next_of t state.counters) (next_of gho state.counters) (next_of t after.counters) (next_of gho after.counters) (frozen shut) ghost_grows (less has_one)

    -- THE PHASE STAYS

    abbrev SentryStays : Type 0
    SentryStays = (clearing : Clearing) → phase ≡ Ending clearing → waits ≡ true → HasSentry t (scene state) → HasSentry t (scene after)

    stays_at : (at : Phase) (w : Bool) → work.cutover.renamer_waits ≡ w → RenamerAt at w → Guards t (scene state) work.copier work.applier work.cutover l r at → ((clearing : Clearing) → at ≡ Ending clearing → w ≡ true → HasSentry t (scene state) → HasSentry t (scene after)) → CarriedAt plan state w at → CarriedAt plan after w at
    stays_at (Attempting Guarding) w same waits_at guards sentry is = is
    stays_at (Attempting Locking) w same waits_at guards sentry is = is
    stays_at (Attempting Hinting) w same waits_at guards sentry is = is
    stays_at (Attempting (ReadingCounter drain)) w same waits_at guards sentry is = is
    stays_at (Attempting (SettingCounter number (Turns turns))) w same waits_at guards sentry is = (is.0, frozen (locked_so guards.locked) ∙ is.1)
    stays_at (Attempting (SettingCounter number Passed)) w same waits_at guards sentry is = (is.0, frozen (locked_so guards.locked) ∙ is.1)
    stays_at (Attempting (Draining turns)) w same waits_at guards sentry is = less_on (locked_so guards.locked) is
    stays_at (Attempting Drained) w same waits_at guards sentry is = less_on (locked_so guards.locked) is
    stays_at (Attempting Showing) w same waits_at guards sentry is = less_on (locked_so guards.locked) is
    stays_at (Attempting Dropping) w same waits_at guards sentry is = less_on (locked_so guards.locked) is
    stays_at (Attempting Unlocking) w same waits_at guards sentry is = less_on (locked_so guards.locked) is
    stays_at (Attempting Exchanging) w same waits_at guards sentry is = by work.cutover.renamer_waits (same ∙ waits_at) guards where
      by : (b : Bool) → b ≡ true → WhereItWaits b (AfterUnlock t (scene state) work.copier work.applier l r) → IsNoLess plan after
      by true on guards = less_on (waited_so guards.may.alone guards.waits) is
      by false on guards = absurd (false≢true on)
    stays_at (Ending clearing) w same waits_at guards sentry is = λ on. by work.cutover.renamer_waits (same ∙ on) guards.rename on where
      each : AfterFailure t (scene state) work.copier work.applier l r → w ≡ true → HasSentry t (scene state) ⊎ IsNoLess plan state → HasSentry t (scene state) ⊎ MayExchange t (scene state) work.copier work.applier l → HasSentry t (scene after) ⊎ IsNoLess plan after
      each failure on claim (inl there) = inl (sentry clearing refl on there)
      each failure on (inl there) (inr may) = inl (sentry clearing refl on there)
      each failure on (inr less) (inr may) = inr (less_on (waited_so may.alone failure.waits) less)

      by : (b : Bool) → b ≡ true → WhereItWaits b (AfterFailure t (scene state) work.copier work.applier l r) → w ≡ true → HasSentry t (scene after) ⊎ IsNoLess plan after
      by true it failure on = each failure on (is on) failure.guarded
      by false it failure on = absurd (false≢true it)
    stays_at Resting w same waits_at guards sentry is = tt
    stays_at (Finishing clearing) w same waits_at guards sentry is = tt
    stays_at Finished w same waits_at guards sentry is = tt

    renamer_at : RenamerAt phase waits
    renamer_at = (subst (ToolPhaseAt plan state.tables (has Insp).waits) eq (all_standing plan journal runs.fitting runs.stands before.faithful before.follows).tool_phase).renamer

    stays : SentryStays → CarriedAt plan after waits phase
    stays sentry = stays_at phase waits refl renamer_at holds.guards sentry was

    same_sentry : has_table (old_name t) after.tables ≡ has_table (old_name t) state.tables → SentryStays
    same_sentry same clearing at on there = same ∙ there

    -- while the RENAME waits, an attempt that ends drops nothing yet
    looking : (clearing : Clearing) → phase ≡ Ending clearing → waits ≡ true → phase ≡ Ending Looking
    looking Looking at on = at
    looking (Drops left) at on = absurd (true≢false (sym on ∙ (subst (λ (p : Phase). Fits p work.cutover.hold waits) at holds.fits).1))

    -- WHAT EACH ACTOR'S TURN LEAVES

    others_stay : OthersTurn t r entry.session (scene state) (scene after) → CarriedAt plan after waits phase
    others_stay turn = stays (same_sentry turn.old_stays)

    -- the locker
    lock_sentry : (answer : Answer) → LockerTurn plan state after l r work (Some answer) entry.session → SentryStays
    lock_sentry answer turn clearing at on there = by work.cutover.hold refl (subst (λ (p : Phase). LockerServes t entry.session r p work.cutover.hold answer (scene state) (scene after)) (looking clearing at on) turn.serves) where
      fits : Fits (Ending Looking) work.cutover.hold waits
      fits = subst (λ (p : Phase). Fits p work.cutover.hold waits) (looking clearing at on) holds.fits

      by : (hold : Hold) → work.cutover.hold ≡ hold → LockerServes t entry.session r (Ending Looking) work.cutover.hold answer (scene state) (scene after) → HasSentry t (scene after)
      by Nothing is serves = (subst (λ (h : Hold). LockerServes t entry.session r (Ending Looking) h answer (scene state) (scene after)) is serves).tables ∙ there
      by Locks is serves = (subst (λ (h : Hold). LockerServes t entry.session r (Ending Looking) h answer (scene state) (scene after)) is serves).tables ∙ there
      by WaitsToGuard is serves = absurd (true≢false (sym on ∙ subst (λ (h : Hold). Fits (Ending Looking) h waits) is fits))
      by WaitsToLock is serves = absurd (true≢false (sym on ∙ subst (λ (h : Hold). Fits (Ending Looking) h waits) is fits))

    resting_waits : phase ≡ Resting → waits ≡ false
    resting_waits at = (subst (λ (p : Phase). Fits p work.cutover.hold waits) at holds.fits).1

    lock_turn : (answer : Answer) → LockerTurn plan state after l r work (Some answer) entry.session → (tries : List ℕ) → New false (Migrating (record work { cutover = cutovers.took Locker work.cutover answer; attempt_tries = tries }))
    unfolding cutovers.took
    lock_turn answer turn tries = locker_carried plan after answer waits phase resting_waits (stays (lock_sentry answer turn))

    -- the renamer
    ren_turn : (answer : Answer) → RenamerTurn plan state after l r work (Some answer) entry.session → (tries : List ℕ) → New false (Migrating (record work { cutover = cutovers.took Renamer work.cutover answer; attempt_tries = tries }))
    unfolding cutovers.took
    ren_turn answer turn tries = by answer refl where
      Goes : Answer → Type 0
      Goes said = CarriedAt plan after (cutovers.is_wait said) (cutovers.renamer_phase phase said)

      -- where its RENAME waits the sentry stays; else nothing is said of it
      waits_on : (said : Answer) → answer ≡ said → SentryStays → Goes said
      waits_on said is sentry = renamer_carried plan after said waits phase (subst (λ (a : Answer). (a ≡ answers.Lost) ⊎ MayAnswer phase waits) is turn.may) (stays sentry)

      failed : (at : Phase) → CarriedAt plan after false (cutovers.failed at)
      failed (Attempting stage) = λ on. absurd (false≢true on)
      failed (Ending clearing) = λ on. absurd (false≢true on)
      failed Resting = tt
      failed (Finishing clearing) = tt
      failed Finished = tt

      -- in an attempt the sentry isn't asked for
      in_attempt : (stage : Stage) → phase ≡ Attempting stage → SentryStays
      in_attempt stage at clearing ends on there = absurd (let no : Attempting stage ≡ Ending clearing = sym at ∙ ends in cc)

      rests : (said : Answer) → answer ≡ said → (at : Phase) → phase ≡ at → ((clearing : Clearing) → at ≡ Ending clearing → Goes said) → Goes said
      rests said is (Attempting stage) at ends = waits_on said is (in_attempt stage at)
      rests said is (Ending clearing) at ends = ends clearing refl
      rests said is Resting at ends = waits_on said is (λ clearing other on there. absurd (let no : Resting ≡ Ending clearing = sym at ∙ other in cc))
      rests said is (Finishing clearing) at ends = waits_on said is (λ one other on there. absurd (let no : Finishing clearing ≡ Ending one = sym at ∙ other in cc))
      rests said is Finished at ends = waits_on said is (λ clearing other on there. absurd (let no : Finished ≡ Ending clearing = sym at ∙ other in cc))

      refuses : (said : Answer) → answer ≡ said → cutovers.is_wait said ≡ false → cutovers.renamer_phase phase said ≡ phase → Goes said
      refuses said is still same = rests said is phase refl (λ clearing at. subst (CarriedAt plan after (cutovers.is_wait said)) (sym (same ∙ at)) (λ on. absurd (false≢true (sym still ∙ on))))

      by : (said : Answer) → answer ≡ said → Goes said
      by (answers.Ok count) is = tt
      by (answers.Waits other) is = waits_on (answers.Waits other) is (same_sentry (subst (λ (a : Answer). RenamerServes t entry.session phase a (scene state) (scene after)) is turn.serves).rests.tables)
      by answers.Lost is = failed phase
      by (answers.TimedOut waited) is = failed phase
      by said is = refuses said is refl refl

    -- the inspector
    insp_sentry : (answer : Answer) → InspectorTurn plan state after l r work (Some answer) entry.session → SentryStays
    insp_sentry answer turn clearing at on there =
        (subst (λ (p : Phase). InspectorTurns t r entry.session p (scene state) (scene after)) (looking clearing at on) turn.turn).old_stays ∙ there

    insp_lists : (answer : Answer) → InspectorTurn plan state after l r work (Some answer) entry.session → (clearing : Clearing) (tables : List TableName) → phase ≡ Ending clearing → answer ≡ answers.Tables tables → waits ≡ false
    insp_lists answer turn clearing tables at is = by waits refl where
      by : (b : Bool) → waits ≡ b → b ≡ false
      by false w = refl
      by true w =
          sym w ∙ (subst (λ (a : Answer). InspectorMay (Ending Looking) work.cutover.hold waits a) is (subst (λ (p : Phase). InspectorMay p work.cutover.hold waits answer) (looking clearing at w) turn.may)).1

    -- what it asks in these phases
    asks_at : entry.actor ≡ Insp → may_lose entry.asked ≡ true → (P : Type 0) → ((request : Request) → asked_in state entry ≡ Some request → AsksAt request work.cutover.table work.cutover.attempts phase → P) → P
    unfolding given
    asks_at who calls P then =
        insp_asks plan journal entry serial runs known run off (all_fit plan journal runs serial before off_before) before work eq (asking plan journal Insp entry.asked together.server (gives Insp who calls)) P (λ request about kind. then request (own Insp request who about) kind)

    not_lost : (answer : Answer) → (answer ≡ answers.Lost → ⊥) → entry.answer ≡ answer → entry.side ≡ None
    not_lost answer never is = by entry.side refl where
      by : (side : Option Side) → entry.side ≡ side → side ≡ None
      by None at = refl
      by (Some side) at = absurd (never (sym is ∙ own_missed plan journal entry together.known served side at))

    said : (answer : Answer) → (answer ≡ answers.Lost → ⊥) → entry.answer ≡ answer → (serves open_now entry.session entry.asked).answer ≡ answer
    said answer never is = own_given plan journal entry together.known served (not_lost answer never is) ∙ is

    guards_at : (at : Phase) → phase ≡ at → Guards t (scene state) work.copier work.applier work.cutover l r at
    guards_at at is = subst (Guards t (scene state) work.copier work.applier work.cutover l r) is holds.guards

    shut_reading : (drain : Drain) → phase ≡ Attempting (ReadingCounter drain) → Shut t state l r
    shut_reading (Turns turns) at = locked_so (guards_at (Attempting (ReadingCounter (Turns turns))) at).locked
    shut_reading Passed at = locked_so (guards_at (Attempting (ReadingCounter Passed)) at).locked

    shut_setting : (number : ℕ) (drain : Drain) → phase ≡ Attempting (SettingCounter number drain) → Shut t state l r
    shut_setting number (Turns turns) at = locked_so (guards_at (Attempting (SettingCounter number (Turns turns))) at).locked
    shut_setting number Passed at = locked_so (guards_at (Attempting (SettingCounter number Passed)) at).locked

    insp_shows : entry.actor ≡ Insp → may_lose entry.asked ≡ true → (drain : Drain) (number : ℕ) → phase ≡ Attempting (ReadingCounter drain) → entry.answer ≡ answers.At number → next_of t after.counters ≡ Some number
    insp_shows who calls drain number at is =
        asks_at who calls (next_of t after.counters ≡ Some number) (λ request asks kind. by request asks (subst (AsksAt request work.cutover.table work.cutover.attempts) at kind)) where
          lost : answers.At number ≡ answers.Lost → ⊥
          lost same = cc

          by : (request : Request) → asked_in state entry ≡ Some request → request ≡ requests.ShowCounter work.cutover.table → next_of t after.counters ≡ Some number
          by request asks same =
              let is_shown = shown_is t entry.session open_now entry.asked number (asks ∙ ap (λ (q : Request). Some q) same ∙ ap (λ (n : List ℕ). Some (requests.ShowCounter n)) own_table) (said (answers.At number) lost is) in
              let old = both.old in
              frozen (shut_reading drain at) ∙ old.1 ∙ ap Some (sym (is_shown ∙ ap (λ (o : Option ℕ). unwrap_or o 0) (opened t ∙ old.1)))

    insp_sets : entry.actor ≡ Insp → may_lose entry.asked ≡ true → (number : ℕ) (drain : Drain) (count : ℕ) → phase ≡ Attempting (SettingCounter number drain) → entry.answer ≡ answers.Ok count → IsNoLess plan after
    unfolding counted
    insp_sets who calls number drain count at is has_one =
        asks_at who calls (NoMore (next_of t after.counters) (next_of gho after.counters)) (λ request asks kind. by request asks (subst (AsksAt request work.cutover.table work.cutover.attempts) at kind)) where
          lost : answers.Ok count ≡ answers.Lost → ⊥
          lost same = cc

          shown : next_of t after.counters ≡ Some number
          shown = frozen (shut_setting number drain at) ∙ (subst (CarriedAt plan state waits) at was).1

          by : (request : Request) → asked_in state entry ≡ Some request → request ≡ requests.SetCounter (ghost_name work.cutover.table) number → NoMore (next_of t after.counters) (next_of gho after.counters)
          by request asks same = at_new (next_of gho after.counters) refl where
            asks_it : asked_in state entry ≡ Some (requests.SetCounter gho number)
            asks_it = asks ∙ ap (λ (q : Request). Some q) same ∙ ap (λ (n : List ℕ). Some (requests.SetCounter (ghost_name n) number)) own_table

            set : next_of gho after.counters ≡ next_of gho (counters_from gho number open_now.counters)
            set =
                counters_after gho ∙ ap (λ (side : Option Side). next_of gho (counters_left side open_now entry.session entry.asked)) (not_lost (answers.Ok count) lost is)
                ∙ ap (λ (a : Answer). next_of gho (counted open_now entry.session (asked_in state entry) a)) (said (answers.Ok count) lost is) ∙ ap (λ (o : Option Request). next_of gho (counted open_now entry.session o (answers.Ok count))) asks_it

            at_new : (new : Option ℕ) → next_of gho after.counters ≡ new → NoMore (next_of t after.counters) (next_of gho after.counters)
            at_new None none = absurd (subst (NoLess (Some both.new.0)) none (subst (λ (o : Option ℕ). NoLess o (next_of gho after.counters)) both.new.1 ghost_grows))
            at_new (Some m) some =
                let least = raised_to gho number open_now.counters m (sym set ∙ some) in
                subst (λ (o : Option ℕ). NoMore o (next_of gho after.counters)) (sym shown) (subst (NoMore (Some number)) (sym some) least)

    insp_turn : (answer : Answer) → InspectorTurn plan state after l r work (Some answer) entry.session → ((answer ≡ answers.Lost → ⊥) → (entry.actor ≡ Insp) × (may_lose entry.asked ≡ true) × (entry.answer ≡ answer)) → (tries : List ℕ) → New false (Migrating (record work { cutover = cutovers.took Inspector work.cutover answer; attempt_tries = tries }))
    unfolding cutovers.took
    insp_turn answer turn heard tries = inspector_carried plan after work.cutover waits phase answer own_counter (record {
      shows = λ drain number at is. let own_turn = heard (λ lost. no_at number (sym is ∙ lost)) in insp_shows own_turn.0 own_turn.1 drain number at (own_turn.2 ∙ is);
      sets = λ number drain count at is. let own_turn = heard (λ lost. no_ok count (sym is ∙ lost)) in insp_sets own_turn.0 own_turn.1 number drain count at (own_turn.2 ∙ is);
      lists = λ clearing tables at is. insp_lists answer turn clearing tables at is;
    }) (stays (insp_sentry answer turn)) where
      no_at : (number : ℕ) → answers.At number ≡ answers.Lost → ⊥
      no_at number same = cc

      no_ok : (count : ℕ) → answers.Ok count ≡ answers.Lost → ⊥
      no_ok count same = cc

  -- WHOLE TURNS

  abbrev Says : Option Answer → Type 0
  Says reported = (work : Work) → now.tool.tool_phase ≡ Migrating work → WorkTurn plan state after l r work (now.tool.turns + 1) entry entry.actor reported

  at_actor : (actor : Actor) (work : Work) (reported : Option Answer) → entry.actor ≡ actor → WorkTurn plan state after l r work (now.tool.turns + 1) entry entry.actor reported → WorkTurn plan state after l r work (now.tool.turns + 1) entry actor reported
  at_actor actor work reported who turn = subst (λ (a : Actor). WorkTurn plan state after l r work (now.tool.turns + 1) entry a reported) who turn

  back : (b : Bool) (tool_phase : ToolPhase) → New b tool_phase → New true (stopped tool_phase)
  unfolding reverted
  back b (SettingUp setup tries) is = tt
  back b (Migrating work) is = ended_carried plan after work.cutover.renamer_waits work.cutover.phase is

  drain : (b : Bool) (work : Work) (tries : List ℕ) → New b (Migrating work) → New b (Migrating (record work { cutover = applier_turn work.applier.hint work.cutover; attempt_tries = tries }))
  unfolding applier_turn
  drain b work tries is = drained_carried plan after work.cutover work.applier.hint work.cutover.renamer_waits work.cutover.phase is

  unfit_at : (work : Work) → New false (Migrating work) → UnfitKeeps New work
  unfit_at work at = record { renamed = λ renamed. at; reverts = back false (Migrating work) at }

  begins : (size : ℕ) (setup : Setup) (tries : List ℕ) → New false (tool_phase_of plan size setup tries)
  begins size (Ready position range) tries = tt
  begins size Listing tries = tt
  begins size (Clears left) tries = tt
  begins size MakingLog tries = tt
  begins size MakingGhost tries = tt
  begins size Marking tries = tt
  begins size (Reaching position) tries = tt

  setup_turn : (answer : Answer) (setup : Setup) (tries : List ℕ) → SetupKeeps plan New answer tool setup tries
  setup_turn answer setup tries = record { reverting = λ reverting. tt; again = λ going bad more_tries. tt; goes = λ going good. begins tool.operator.size (setup_after plan.table setup answer) tries }

  -- an actor is answered
  answered : (answer : Answer) → ((answer ≡ answers.Lost → ⊥) → (may_lose entry.asked ≡ true) × (entry.answer ≡ answer)) → Says (Some answer) → (actor : Actor) → entry.actor ≡ actor → (tool_phase : ToolPhase) → now.tool.tool_phase ≡ tool_phase → AnswerKeeps plan New answer tool actor tool_phase
  answered answer heard says Insp who (SettingUp setup tries) eq = setup_turn answer setup tries
  answered answer heard says Insp who (Migrating work) eq = insp_turn work eq answer (at_actor Insp work (Some answer) who (says work eq)) (λ never. (who, (heard never).0, (heard never).1))
  answered answer heard says Lock who (SettingUp setup tries) eq = tt
  answered answer heard says Lock who (Migrating work) eq = lock_turn work eq answer (at_actor Lock work (Some answer) who (says work eq))
  answered answer heard says Ren who (SettingUp setup tries) eq = tt
  answered answer heard says Ren who (Migrating work) eq = ren_turn work eq answer (at_actor Ren work (Some answer) who (says work eq))
  answered answer heard says Copy who (SettingUp setup tries) eq = tt
  answered answer heard says Copy who (Migrating work) eq =
      let at : CarriedAt plan after work.cutover.renamer_waits work.cutover.phase = others_stay work eq (at_actor Copy work (Some answer) who (says work eq)).0.1 in
      record { reverting = λ reverting. at; unfit = λ going place number unfit. unfit_at work at; took = λ going fits tries. at }
  answered answer heard says Apply who (SettingUp setup tries) eq = tt
  answered answer heard says Apply who (Migrating work) eq =
      let at : CarriedAt plan after work.cutover.renamer_waits work.cutover.phase = others_stay work eq (at_actor Apply work (Some answer) who (says work eq)).0.1 in
      record { reverting = λ reverting. at; unfit = λ going place number unfit. unfit_at work at; took = λ going fits tries. at }
  answered answer heard says Op who (SettingUp setup tries) eq = tt
  answered answer heard says Op who (Migrating work) eq = others_stay work eq (at_actor Op work (Some answer) who (says work eq)).1
  answered answer heard says (Client c) who (SettingUp setup tries) eq = tt
  answered answer heard says (Client c) who (Migrating work) eq = others_stay work eq (at_actor (Client c) work (Some answer) who (says work eq)).1

  -- a session that had nothing is lost
  idle_at : (actor : Actor) → entry.actor ≡ actor → Says None → (tool_phase : ToolPhase) → now.tool.tool_phase ≡ tool_phase → New false tool_phase
  idle_at actor who says (SettingUp setup tries) eq = tt
  idle_at Insp who says (Migrating work) eq = stays work eq (same_sentry work eq (at_actor Insp work None who (says work eq)).tables)
  idle_at Lock who says (Migrating work) eq = stays work eq (same_sentry work eq (at_actor Lock work None who (says work eq)).rests.tables)
  idle_at Ren who says (Migrating work) eq = stays work eq (same_sentry work eq (at_actor Ren work None who (says work eq)).rests.tables)
  idle_at Copy who says (Migrating work) eq = others_stay work eq (at_actor Copy work None who (says work eq)).0.1
  idle_at Apply who says (Migrating work) eq = others_stay work eq (at_actor Apply work None who (says work eq)).0.1
  idle_at Op who says (Migrating work) eq = others_stay work eq (at_actor Op work None who (says work eq)).1
  idle_at (Client c) who says (Migrating work) eq = others_stay work eq (at_actor (Client c) work None who (says work eq)).1

  -- the operator commands
  commanded : (word : OperatorWord) → entry.asked ≡ Command word → (tool_phase : ToolPhase) → now.tool.tool_phase ≡ tool_phase → New false tool_phase
  commanded word asks (SettingUp setup tries) eq = tt
  commanded word asks (Migrating work) eq =
      let same : after ≡ state = subst (AskedTurn plan state after l r work (now.tool.turns + 1) entry) asks (asked work eq) in
      stays work eq (same_sentry work eq (ap (λ (s : State). has_table (old_name plan.table) s.tables) same))

  resized : (size : ℕ) → entry.asked ≡ Command (ChunkSize size) → (tool_phase : ToolPhase) → now.tool.tool_phase ≡ tool_phase → ResizeKeeps New tool size tool_phase
  resized size asks (SettingUp setup tries) eq = tt
  resized size asks (Migrating work) eq = commanded (ChunkSize size) asks (Migrating work) eq

  heard_says : (asks : Asked) → entry.asked ≡ asks → (asks ≡ Cut → ⊥) → ((word : OperatorWord) → asks ≡ Command word → ⊥) → Says (Some entry.answer)
  heard_says (Call request) asks uncut uncommanded work eq = subst (AskedTurn plan state after l r work (now.tool.turns + 1) entry) asks (asked work eq)
  heard_says Poll asks uncut uncommanded work eq = subst (AskedTurn plan state after l r work (now.tool.turns + 1) entry) asks (asked work eq)
  heard_says Cut asks uncut uncommanded work eq = absurd (uncut refl)
  heard_says (Command word) asks uncut uncommanded work eq = absurd (uncommanded word refl)

  heard_calls : (asks : Asked) → (asks ≡ Cut → ⊥) → ((word : OperatorWord) → asks ≡ Command word → ⊥) → may_lose asks ≡ true
  heard_calls (Call request) uncut uncommanded = refl
  heard_calls Poll uncut uncommanded = refl
  heard_calls Cut uncut uncommanded = absurd (uncut refl)
  heard_calls (Command word) uncut uncommanded = absurd (uncommanded word refl)

  cut_says : (b : Bool) → has_work now.server entry.session ≡ b → entry.asked ≡ Cut → Says (reported_if b)
  cut_says b works asks work eq =
      subst (λ (o : Bool). WorkTurn plan state after l r work (now.tool.turns + 1) entry entry.actor (reported_if o)) (ap (λ (s : State). has_work s entry.session) (sym together.server) ∙ works)
      (subst (AskedTurn plan state after l r work (now.tool.turns + 1) entry) asks (asked work eq))

  -- *One turn*
  pub carried_more : IsCarried plan more
  carried_more =
      turn_kept plan New back journal entry drain
      (record {
        commanded = λ word asks unsized. commanded word asks now.tool.tool_phase refl;
        resized = λ size asks. resized size asks now.tool.tool_phase refl;
        idle = λ asks none. idle_at entry.actor refl (cut_says false none asks) now.tool.tool_phase refl;
        lost = λ asks works. answered answers.Lost (λ never. absurd (never refl)) (cut_says true works asks) entry.actor refl now.tool.tool_phase refl;
        heard = λ uncut uncommanded. answered entry.answer (λ never. (heard_calls entry.asked uncut uncommanded, refl)) (heard_says entry.asked refl uncut uncommanded) entry.actor refl now.tool.tool_phase refl;
      })

pub carried_begins : (plan : PlanData) → IsCarried plan []
unfolding moment
carried_begins plan = tt
