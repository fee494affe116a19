-- A turn of the locker's is such a turn as the sentry relation asks.
use Rattle.std.proofs.Common.{◌≡◌, ◌≢◌, ◌⊎◌, ◌+◌, ℕ, Bool, true, false, List, [], ◌∷◌, ◌++◌, Option, Some, None, refl, sym, ap, ◌∙◌, subst, inl, inr}
use Rattle.std.specs.List.{list_any}
use Rattle.std.specs.Str.{bytes_eq}
use Rattle.std.proofs.Math.Bool.{or-true}
use Rattle.std.proofs.lemmas.Bool.{true≢false}
use Rattle.table_store.specs.Databases.{has_table}
use Rattle.base_script.specs.declared.actor.Actor.{Actor}
use Rattle.base_script.specs.declared.actor.Actor.TheVariants.{Lock, Ren}
use Rattle.base_script.specs.declared.operator.OperatorWord.{OperatorWord}
use Rattle.server_model.specs.Entries.{is_command, is_cut, same_actor}
use Rattle.server_model.specs.States.{State, has_work}
use Rattle.server_model.specs.declared.answer.Answer.{Answer}
use Rattle.server_model.specs.declared.answer.Answer.TheVariants as answers
use Rattle.server_model.specs.declared.entry.Asked.{Asked}
use Rattle.server_model.specs.declared.entry.Asked.TheVariants.{Call, Poll, Command, Cut}
use Rattle.server_model.specs.declared.entry.Entry.{Entry}
use Rattle.server_model.specs.declared.request.Request.{Request}
use Rattle.server_model.specs.declared.request.Request.TheVariants as requests
use Rattle.plan_data.specs.PlanData.{PlanData}
use Rattle.base_values.specs.ToolNames.{old_name}
use Rattle.tool_changelog.specs.ToolTables.{sentry_schema}
use Rattle.tool_program.specs.declared.cutover_core.cutover.Clearing.TheVariants.{Drops, Looking}
use Rattle.tool_program.specs.declared.cutover_core.cutover.Hold.{Hold}
use Rattle.tool_program.specs.declared.cutover_core.cutover.Hold.TheVariants.{Locks, Nothing, WaitsToGuard, WaitsToLock}
use Rattle.tool_program.specs.declared.cutover_core.cutover.Phase.{Phase}
use Rattle.tool_program.specs.declared.cutover_core.cutover.Phase.TheVariants.{Attempting, Ending, Finished, Finishing, Resting}
use Rattle.tool_program.specs.declared.cutover_core.cutover.Stage.TheVariants.{Drained, ReadingCounter, SettingCounter, Draining, Dropping, Exchanging, Guarding, Hinting, Locking, Showing, Unlocking}
use Rattle.tool_program.specs.JournalWords.Journals.{state_at}
use Rattle.tool_program.specs.JournalWords.Sessions.{live_session}
use Rattle.tool_program.specs.Programs.{IsGiven, given}
use Rattle.tool_program.specs.Tools.{ToolPhase, Migrating, SettingUp, Work, is_reverting, moment}
use Rattle.tool_program.proofs.OnlineCalls.Machines.{ToolPhaseIsNamed, named}
use Rattle.server_model.proofs.LockedRows.Tests.{same_bytes}
use Rattle.proof_journals.specs.Plans.{IsSerialPlan}
use Rattle.proof_journals.specs.ServerTurns.Others.{DefinitionsAreDone, EntriesAreTurns, ExclusiveIsAlone, LocksAreTaken}
use Rattle.proof_journals.specs.Run.Kept.{IsKept}
use Rattle.proof_journals.specs.Machine.Machines.{PhaseHolds, WorkStands, both_names, held}
use Rattle.proof_journals.specs.Machine.Runnable.{IsRunnable}
use Rattle.proof_journals.specs.Machine.Standings.{IsAbout, Standing, free, is_called, is_polled, standing_in, standing_of}
use Rattle.proof_journals.proofs.Machine.Asking.{idle_stands}
use Rattle.proof_journals.proofs.Machine.CuttingOver.{LockerAsks}
use Rattle.proof_journals.proofs.Machine.Fitting.{IsPrompt}
use Rattle.proof_journals.proofs.Machine.Journals.{Asking, IsRun, IsTogether, all_together, asking, calls_so, lock_about, never_commands, polls_so}
use Rattle.proof_journals.proofs.Machine.Seated.{own_fits, own_prompt, own_session}
use Rattle.proof_journals.proofs.Machine.Tabling.{free_idle}
use Rattle.proof_journals.specs.Sentry.Sentries.{LockerMay, LockerServes, OnlyFreesLock, scene}
use Rattle.proof_journals.specs.Sentry.TurnResults.{AskedTurn, ToolPhaseTurn, IsIdle, IsLockerFree, IsTurned, LockerSays, LockerTurn, WorkTurn, last_session, reported_if}
use Rattle.proof_journals.specs.Sentry.Turns.{CallLeaves, LockLeaves}
use Rattle.proof_journals.proofs.Sentry.Calling.{locker_given, locker_serves}
use Rattle.proof_journals.proofs.Sentry.Serving.{only_frees, takes_lock, waits_on}
use Rattle.proof_migration.specs.ToolPhase.Unaltered.{IsUnaltered}
use Rattle.proof_migration.proofs.Program.Turns.Asked.{gave}
use Rattle.proof_migration.proofs.Program.Turns.Follows.{kept_run}
use Rattle.proof_migration.proofs.Program.Holds.Live.{lockers_go_on, work_stands}
use Rattle.proof_migration.proofs.Program.Holds.ActorStates.{kept_differs}
use Rattle.proof_migration.specs.Program.LockerTurns.{LockersAreTurned}
use Rattle.proof_migration.proofs.Program.LockerTurns.Entries as entries
use Rattle.proof_migration.proofs.Program.LockerTurns.Quiet.{is_rowless}

-- WHAT THE SERVER LEAVES, BY WHAT THE LOCKER HAS

guards_serve : (t : List ℕ) (l r : ℕ) (hold : Hold) (answer : Answer) (before after : State) → CallLeaves l (requests.Create (sentry_schema t)) answer before after → LockerServes t l r (Attempting Guarding) hold answer (scene before) (scene after)
unfolding sentry_schema
guards_serve t l r hold (answers.Ok count) before after left = left
guards_serve t l r hold answer before after left = tt

late_serve : (t : List ℕ) (l r : ℕ) (answer : Answer) (before after : State) → LockLeaves (both_names t) l answer before after → LockerServes t l r (Ending Looking) WaitsToLock answer (scene before) (scene after)
late_serve t l r (answers.Ok count) before after left = (takes_lock t l before after left.taken (λ other apart. left.alone.alone_after other t apart (rw (same_bytes t) refl)) left.defines).locked
late_serve t l r answer before after left = tt

abbrev Steps : List ℕ → ℕ → ℕ → Hold → Phase → Answer → State → State → Type 0
Steps t l r hold phase answer before after = LockerMay phase hold answer × LockerServes t l r phase hold answer (scene before) (scene after)

steps : (t : List ℕ) (l r : ℕ) (hold : Hold) (phase : Phase) (request : Request) (answer : Answer) (before after : State) → r ≢ l → PhaseHolds phase hold → LockerAsks t hold phase request → CallLeaves l request answer before after → Steps t l r hold phase answer before after
steps t l r Nothing Resting request answer before after apart at asks left = locker_serves t l r Resting Nothing request answer before after apart asks left
steps t l r Nothing (Attempting Locking) request answer before after apart at asks left = locker_serves t l r (Attempting Locking) Nothing request answer before after apart asks left
steps t l r Nothing phase request answer before after apart at asks left = absurd asks
steps t l r WaitsToGuard (Attempting Guarding) request answer before after apart at asks left = (tt, guards_serve t l r WaitsToGuard answer before after (subst (λ (q : Request). CallLeaves l q answer before after) asks left))
steps t l r WaitsToGuard (Ending clearing) request answer before after apart at asks left = (tt, tt)
steps t l r WaitsToGuard (Finishing clearing) request answer before after apart at asks left = (tt, tt)
steps t l r WaitsToGuard Finished request answer before after apart at asks left = (tt, tt)
steps t l r WaitsToGuard Resting request answer before after apart at asks left = absurd (let no : WaitsToGuard ≡ Nothing = at in cc)
steps t l r WaitsToGuard (Attempting Locking) request answer before after apart (inl at) asks left = absurd cc
steps t l r WaitsToGuard (Attempting Locking) request answer before after apart (inr at) asks left = absurd cc
steps t l r WaitsToGuard (Attempting Hinting) request answer before after apart at asks left = absurd (let no : WaitsToGuard ≡ Locks = at in cc)
steps t l r WaitsToGuard (Attempting (Draining turns)) request answer before after apart at asks left = absurd (let no : WaitsToGuard ≡ Locks = at in cc)
steps t l r WaitsToGuard (Attempting (ReadingCounter drain)) request answer before after apart at asks left = absurd (let no : WaitsToGuard ≡ Locks = at in cc)
steps t l r WaitsToGuard (Attempting (SettingCounter number drain)) request answer before after apart at asks left = absurd (let no : WaitsToGuard ≡ Locks = at in cc)
steps t l r WaitsToGuard (Attempting Drained) request answer before after apart at asks left = absurd (let no : WaitsToGuard ≡ Locks = at in cc)
steps t l r WaitsToGuard (Attempting Showing) request answer before after apart at asks left = absurd (let no : WaitsToGuard ≡ Locks = at in cc)
steps t l r WaitsToGuard (Attempting Dropping) request answer before after apart at asks left = absurd (let no : WaitsToGuard ≡ Locks = at in cc)
steps t l r WaitsToGuard (Attempting Unlocking) request answer before after apart at asks left = absurd (let no : WaitsToGuard ≡ Locks = at in cc)
steps t l r WaitsToGuard (Attempting Exchanging) request answer before after apart at asks left = absurd (let no : WaitsToGuard ≡ Nothing = at in cc)
steps t l r WaitsToLock (Attempting Locking) request answer before after apart at asks left = locker_serves t l r (Attempting Locking) WaitsToLock request answer before after apart asks left
steps t l r WaitsToLock (Ending Looking) request answer before after apart at asks left = (tt, late_serve t l r answer before after (subst (λ (q : Request). CallLeaves l q answer before after) asks left))
steps t l r WaitsToLock (Ending (Drops dropped)) request answer before after apart at asks left = absurd (let no : WaitsToLock ≡ Nothing = at in cc)
steps t l r WaitsToLock (Finishing clearing) request answer before after apart at asks left = (tt, tt)
steps t l r WaitsToLock Finished request answer before after apart at asks left = (tt, tt)
steps t l r WaitsToLock Resting request answer before after apart at asks left = absurd (let no : WaitsToLock ≡ Nothing = at in cc)
steps t l r WaitsToLock (Attempting Guarding) request answer before after apart (inl at) asks left = absurd cc
steps t l r WaitsToLock (Attempting Guarding) request answer before after apart (inr at) asks left = absurd cc
steps t l r WaitsToLock (Attempting Hinting) request answer before after apart at asks left = absurd (let no : WaitsToLock ≡ Locks = at in cc)
steps t l r WaitsToLock (Attempting (Draining turns)) request answer before after apart at asks left = absurd (let no : WaitsToLock ≡ Locks = at in cc)
steps t l r WaitsToLock (Attempting (ReadingCounter drain)) request answer before after apart at asks left = absurd (let no : WaitsToLock ≡ Locks = at in cc)
steps t l r WaitsToLock (Attempting (SettingCounter number drain)) request answer before after apart at asks left = absurd (let no : WaitsToLock ≡ Locks = at in cc)
steps t l r WaitsToLock (Attempting Drained) request answer before after apart at asks left = absurd (let no : WaitsToLock ≡ Locks = at in cc)
steps t l r WaitsToLock (Attempting Showing) request answer before after apart at asks left = absurd (let no : WaitsToLock ≡ Locks = at in cc)
steps t l r WaitsToLock (Attempting Dropping) request answer before after apart at asks left = absurd (let no : WaitsToLock ≡ Locks = at in cc)
steps t l r WaitsToLock (Attempting Unlocking) request answer before after apart at asks left = absurd (let no : WaitsToLock ≡ Locks = at in cc)
steps t l r WaitsToLock (Attempting Exchanging) request answer before after apart at asks left = absurd (let no : WaitsToLock ≡ Nothing = at in cc)
steps t l r Locks (Attempting Dropping) request answer before after apart at asks left = locker_serves t l r (Attempting Dropping) Locks request answer before after apart asks left
steps t l r Locks (Attempting Unlocking) request answer before after apart at asks left = locker_serves t l r (Attempting Unlocking) Locks request answer before after apart asks left
steps t l r Locks (Ending clearing) request answer before after apart at asks left = locker_serves t l r (Ending clearing) Locks request answer before after apart (refl, asks) left
steps t l r Locks phase request answer before after apart at asks left = absurd asks

-- the loss of its session between calls
lost_may : (phase : Phase) (hold : Hold) → LockerMay phase hold answers.Lost
lost_may Resting hold = tt
lost_may (Attempting Guarding) hold = tt
lost_may (Attempting Locking) hold = tt
lost_may (Attempting Hinting) hold = refl
lost_may (Attempting (Draining turns)) hold = refl
lost_may (Attempting (ReadingCounter drain)) hold = refl
lost_may (Attempting (SettingCounter number drain)) hold = refl
lost_may (Attempting Drained) hold = refl
lost_may (Attempting Showing) hold = refl
lost_may (Attempting Dropping) hold = tt
lost_may (Attempting Unlocking) hold = tt
lost_may (Attempting Exchanging) hold = refl
lost_may (Ending clearing) Nothing = refl
lost_may (Ending clearing) WaitsToGuard = tt
lost_may (Ending clearing) WaitsToLock = tt
lost_may (Ending clearing) Locks = tt
lost_may (Finishing clearing) hold = tt
lost_may Finished hold = tt

lost_serves : (t : List ℕ) (l r : ℕ) (phase : Phase) (hold : Hold) (before after : State) → OnlyFreesLock t l r (scene before) (scene after) → LockerServes t l r phase hold answers.Lost (scene before) (scene after)
lost_serves t l r Resting hold before after only = tt
lost_serves t l r (Attempting Guarding) hold before after only = tt
lost_serves t l r (Attempting Locking) hold before after only = tt
lost_serves t l r (Attempting Dropping) hold before after only = only.frees
lost_serves t l r (Attempting Hinting) hold before after only = only
lost_serves t l r (Attempting (Draining turns)) hold before after only = only
lost_serves t l r (Attempting (ReadingCounter drain)) hold before after only = only
lost_serves t l r (Attempting (SettingCounter number drain)) hold before after only = only
lost_serves t l r (Attempting Drained) hold before after only = only
lost_serves t l r (Attempting Showing) hold before after only = only
lost_serves t l r (Attempting Unlocking) hold before after only = only
lost_serves t l r (Attempting Exchanging) hold before after only = only
lost_serves t l r (Ending clearing) Nothing before after only = only
lost_serves t l r (Ending clearing) WaitsToGuard before after only = tt
lost_serves t l r (Ending clearing) WaitsToLock before after only = tt
lost_serves t l r (Ending clearing) Locks before after only = only
lost_serves t l r (Finishing clearing) hold before after only = tt
lost_serves t l r Finished hold before after only = tt

-- what it asks commits no row
asks_rowless : (t : List ℕ) (hold : Hold) (phase : Phase) (request : Request) → LockerAsks t hold phase request → is_rowless request ≡ true
asks_rowless t Nothing Resting request asks = ap is_rowless asks
asks_rowless t Nothing (Attempting Locking) request asks = ap is_rowless asks
asks_rowless t Nothing phase request asks = absurd asks
asks_rowless t WaitsToGuard phase request asks = ap is_rowless asks
asks_rowless t WaitsToLock phase request asks = ap is_rowless asks
asks_rowless t Locks (Attempting Dropping) request asks = ap is_rowless asks
asks_rowless t Locks (Attempting Unlocking) request asks = ap is_rowless asks
asks_rowless t Locks (Ending clearing) request asks = ap is_rowless asks
asks_rowless t Locks phase request asks = absurd asks

-- it drops the sentry alone, and what it drops it has locked
record DropsLocked (t : List ℕ) (hold : Hold) (name : List ℕ) : Type 0 where
  locks : hold ≡ Locks
  old : name ≡ old_name t

drops_locked : (t : List ℕ) (hold : Hold) (phase : Phase) (name : List ℕ) → LockerAsks t hold phase (requests.Drop name) → DropsLocked t hold name
drops_locked t Nothing Resting name asks = absurd (let no : requests.Drop name ≡ requests.Create (sentry_schema t) = asks in cc)
drops_locked t Nothing (Attempting Locking) name asks = absurd (let no : requests.Drop name ≡ requests.LockTables (both_names t) = asks in cc)
drops_locked t Nothing phase name asks = absurd asks
drops_locked t WaitsToGuard phase name asks = absurd (let no : requests.Drop name ≡ requests.Create (sentry_schema t) = asks in cc)
drops_locked t WaitsToLock phase name asks = absurd (let no : requests.Drop name ≡ requests.LockTables (both_names t) = asks in cc)
drops_locked t Locks (Attempting Dropping) name asks = let same : requests.Drop name ≡ requests.Drop (old_name t) = asks in record { locks = refl; old = cc }
drops_locked t Locks (Attempting Unlocking) name asks = absurd (let no : requests.Drop name ≡ requests.Unlock = asks in cc)
drops_locked t Locks (Ending clearing) name asks = absurd (let no : requests.Drop name ≡ requests.Unlock = asks in cc)
drops_locked t Locks phase name asks = absurd asks

module _ (entries_are_turns : EntriesAreTurns) (definitions_are_done : DefinitionsAreDone) (exclusive_is_alone : ExclusiveIsAlone) (locks_are_taken : LocksAreTaken) (plan : PlanData) (journal : List Entry) (entry : Entry) (locks : entry.actor ≡ Lock) (runs : IsRunnable plan) (serial : IsSerialPlan plan) (kept : IsKept plan (journal ++ entry ∷ [])) (off : IsUnaltered plan (journal ++ entry ∷ [])) where
  abbrev before : State
  before = state_at plan journal

  abbrev after : State
  after = state_at plan (journal ++ entry ∷ [])

  abbrev has : Actor → Standing
  has = standing_of plan journal

  abbrev own : ℕ
  own = last_session journal Lock

  abbrev renamer : ℕ
  renamer = last_session journal Ren

  run : IsRun plan journal entry
  run = kept_run plan journal entry kept

  together : IsTogether plan journal
  together = entries.together entries_are_turns plan journal entry runs serial kept off

  then_together : IsTogether plan (journal ++ entry ∷ [])
  then_together = all_together plan (journal ++ entry ∷ []) kept.faithful kept.follows

  never : (word : OperatorWord) → IsGiven plan journal entry (Command word) → ⊥
  unfolding given
  never word gives = never_commands plan journal Lock word (subst (λ (a : Actor). given plan journal a ≡ Some (Command word)) locks gives)

  called : is_command entry.asked ≡ false
  called = by entry.asked run.followed.given where
    by : (asked : Asked) → IsGiven plan journal entry asked → is_command asked ≡ false
    by (Call request) gives = refl
    by Poll gives = refl
    by Cut gives = refl
    by (Command word) gives = absurd (never word gives)

  apart : renamer ≢ entry.session
  apart = kept_differs plan journal entry kept called Ren (ap (λ (a : Actor). same_actor a Ren) locks)

  module _ (work : Work) (tool_phase : (moment plan journal).tool.tool_phase ≡ Migrating work) where
    stands : WorkStands journal (is_reverting (moment plan journal).tool.reason) has work
    stands = work_stands plan journal work together tool_phase

    own_table : work.cutover.table ≡ plan.table
    own_table = (subst (ToolPhaseIsNamed plan) tool_phase (named plan journal)).cutover

    same : (entry.session ≡ own) ⊎ IsLockerFree work.cutover.phase
    same = lockers_go_on plan journal entry work kept tool_phase locks called

    -- A CALL OR A POLL

    abbrev Asks : Request → Type 0
    Asks request = LockerAsks work.cutover.table work.cutover.hold work.cutover.phase request

    prompt : (request : Request) → IsAbout request (has Lock) entry.asked → Asks request → (name : List ℕ) → request ≡ requests.Drop name → IsPrompt entry.answer
    prompt request is_about asks name drops = by is_about where
      is : DropsLocked work.cutover.table work.cutover.hold name
      is = drops_locked work.cutover.table work.cutover.hold work.cutover.phase name (subst Asks drops asks)

      has_lock : has Lock ≡ held work.cutover.table Locks
      has_lock = stands.locker ∙ ap (held work.cutover.table) is.locks

      among : list_any (bytes_eq name) (both_names work.cutover.table) ≡ true
      among = ap (λ (n : List ℕ). list_any (bytes_eq n) (both_names work.cutover.table)) is.old ∙ rw (same_bytes (old_name work.cutover.table)) (or-true (bytes_eq (old_name work.cutover.table) work.cutover.table))

      by : IsAbout request (has Lock) entry.asked → IsPrompt entry.answer
      by (is_called asks idle) =
          own_prompt plan journal entry together.known (entries.seated entries_are_turns plan journal entry runs serial kept off) name (asks ∙ ap Call drops)
          (ap (λ (a : Actor). list_any (bytes_eq name) (has a).locked) locks ∙ ap (λ (s : Standing). list_any (bytes_eq name) s.locked) has_lock ∙ among)
      by (is_polled asks some) = absurd (no (sym (ap (λ (s : Standing). s.waits) has_lock) ∙ some)) where
        no : None ≡ Some request → ⊥
        no same = cc

    steps_now : (request : Request) → IsAbout request (has Lock) entry.asked → Asks request → Steps plan.table entry.session renamer work.cutover.hold work.cutover.phase entry.answer before after
    steps_now request is_about asks =
        steps plan.table entry.session renamer work.cutover.hold work.cutover.phase request entry.answer before after apart stands.phase (subst (λ (t : List ℕ). LockerAsks t work.cutover.hold work.cutover.phase request) own_table asks)
        (entries.call_leaves entries_are_turns plan journal entry runs serial kept off Lock locks request is_about (asks_rowless work.cutover.table work.cutover.hold work.cutover.phase request asks) definitions_are_done exclusive_is_alone locks_are_taken
        (own_fits plan journal entry together.known (entries.seated entries_are_turns plan journal entry runs serial kept off) request (subst (λ (a : Actor). IsAbout request (has a) entry.asked) (sym locks) is_about)) (prompt request is_about asks))

    resting_free : work.cutover.phase ≡ Resting → has Lock ≡ free
    resting_free rests = stands.locker ∙ ap (held work.cutover.table) (subst (λ (p : Phase). PhaseHolds p work.cutover.hold) rests stands.phase)

    copied : given plan journal Lock ≡ Some entry.asked → Asking plan journal Lock entry.asked → work.cutover.phase ≡ Resting → work.copier.is_copied ≡ true
    copied gives (calls_so request asks idle call) = (locker_given plan journal work request tool_phase (gives ∙ ap Some asks)).1
    copied gives (polls_so request asks some) = λ rests. absurd (no (sym (ap (λ (s : Standing). s.waits) (resting_free rests)) ∙ some)) where
      no : None ≡ Some request → ⊥
      no same = cc

    statement_result : given plan journal Lock ≡ Some entry.asked → LockerSays plan before after own renamer work entry.answer entry.session
    unfolding given
    statement_result gives =
        let asks : Asking plan journal Lock entry.asked = asking plan journal Lock entry.asked together.server gives in
        let both : Steps plan.table entry.session renamer work.cutover.hold work.cutover.phase entry.answer before after =
        lock_about plan journal entry together run work tool_phase stands asks (Steps plan.table entry.session renamer work.cutover.hold work.cutover.phase entry.answer before after) steps_now in
        record { same = same; copied = copied gives asks; may = both.0; serves = both.1 }

    -- A LOSS BETWEEN CALLS

    module _ (cut : entry.asked ≡ Cut) where
      live : live_session journal Lock ≡ Some entry.session
      live = ap (live_session journal) (sym locks) ∙ own_session plan journal entry together.known (entries.seated entries_are_turns plan journal entry runs serial kept off) (ap is_cut cut)

      log_stays : after.log ≡ before.log
      log_stays = entries.cut_log entries_are_turns plan journal entry runs serial kept off cut

      tables_stay : (name : List ℕ) → has_table name after.tables ≡ has_table name before.tables
      tables_stay name = ap (has_table name) (entries.cut_tables entries_are_turns plan journal entry runs serial kept off cut)

      worked : has_work before entry.session ≡ true → LockerSays plan before after own renamer work answers.Lost entry.session
      worked works = record {
        same = same;
        copied = λ rests. absurd (true≢false (sym works ∙ free_idle before entry.session (sym (ap (standing_in before) live) ∙ resting_free rests)));
        may = lost_may work.cutover.phase work.cutover.hold;
        serves = lost_serves plan.table entry.session renamer work.cutover.phase work.cutover.hold before after (only_frees plan.table entry.session renamer before after apart (entries.turn entries_are_turns plan journal entry runs serial kept off) log_stays tables_stay);
      }

      idle : has_work before entry.session ≡ false → IsIdle plan before after renamer ((entry.session ≡ own) ⊎ IsLockerFree work.cutover.phase)
      idle rests = record {
        rests = record {
          tables = tables_stay (old_name plan.table);
          held = entries.cut_held entries_are_turns plan journal entry runs serial kept off cut (ap (λ (s : Standing). s.busy) nothing) (ap (λ (s : Standing). s.locked) nothing);
          log = log_stays;
          waits = waits_on plan.table renamer entry.session before after (entries.turn entries_are_turns plan journal entry runs serial kept off) apart;
        };
        is = same;
      } where
        nothing : has entry.actor ≡ free
        nothing = ap has locks ∙ ap (standing_in before) live ∙ idle_stands before entry.session rests

      lost : LockerTurn plan before after own renamer work (reported_if (has_work before entry.session)) entry.session
      lost = by (has_work before entry.session) refl where
        by : (b : Bool) → has_work before entry.session ≡ b → LockerTurn plan before after own renamer work (reported_if b) entry.session
        by true works = worked works
        by false rests = idle rests

    -- EACH TURN

    asked_turn : (turns : ℕ) (asked : Asked) → entry.asked ≡ asked → IsGiven plan journal entry asked → AskedTurn plan before after own renamer work turns entry asked
    asked_turn turns asked asks gives = by asked asks gives where
      by_lock : (answer : Option Answer) → LockerTurn plan before after own renamer work answer entry.session → WorkTurn plan before after own renamer work turns entry entry.actor answer
      by_lock answer is = subst (λ (a : Actor). WorkTurn plan before after own renamer work turns entry a answer) (sym locks) is

      by : (asked : Asked) → entry.asked ≡ asked → IsGiven plan journal entry asked → AskedTurn plan before after own renamer work turns entry asked
      by (Command word) asks gives = absurd (never word gives)
      by (Call request) asks gives = by_lock (Some entry.answer) (statement_result (gave plan serial runs.fitting journal entry (entries.known entries_are_turns plan journal entry runs serial kept off) run off Lock locks (ap is_cut asks)))
      by Poll asks gives = by_lock (Some entry.answer) (statement_result (gave plan serial runs.fitting journal entry (entries.known entries_are_turns plan journal entry runs serial kept off) run off Lock locks (ap is_cut asks)))
      by Cut asks gives = by_lock (reported_if (has_work before entry.session)) (lost asks)

  turned : IsTurned plan journal entry
  turned = record { turn = by (moment plan journal).tool.tool_phase refl } where
    by : (tool_phase : ToolPhase) → (moment plan journal).tool.tool_phase ≡ tool_phase → ToolPhaseTurn plan (moment plan journal).server (moment plan (journal ++ entry ∷ [])).server own renamer tool_phase ((moment plan journal).tool.turns + 1) entry
    by (SettingUp setup tries) tool_phase = tt
    by (Migrating work) tool_phase =
        subst (λ (s : State). AskedTurn plan s (moment plan (journal ++ entry ∷ [])).server own renamer work ((moment plan journal).tool.turns + 1) entry entry.asked) (sym together.server)
        (subst (λ (s : State). AskedTurn plan before s own renamer work ((moment plan journal).tool.turns + 1) entry entry.asked) (sym then_together.server) (asked_turn work tool_phase ((moment plan journal).tool.turns + 1) entry.asked refl run.followed.given))

-- *Lockers are turned*
pub lockers_turned : EntriesAreTurns → DefinitionsAreDone → ExclusiveIsAlone → LocksAreTaken → LockersAreTurned
lockers_turned entries_are_turns definitions_are_done exclusive_is_alone locks_are_taken plan journal entry locks runs serial kept off = turned entries_are_turns definitions_are_done exclusive_is_alone locks_are_taken plan journal entry locks runs serial kept off
