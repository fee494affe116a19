-- The new tool's copier and its applier write rows of the new table alone: the migrated table stays as it is, and so do its events and the
-- changelog's.
use Rattle.std.proofs.Common.{◌≡◌, ℕ, ◌+◌, Bool, true, false, ◌||◌, not, List, [], ◌∷◌, ◌++◌, cond, Option, Some, None, refl, sym, ap, ◌∙◌, subst, append-nil, arith}
use Rattle.std.specs.Prelude.{count_by}
use Rattle.std.specs.Str.{bytes_eq}
use Rattle.std.proofs.lemmas.List.Sums.{sum_by-cons}
use Rattle.base_values.specs.ToolNames.{ghost_name, log_name}
use Rattle.base_values.specs.declared.event.Change.{Change}
use Rattle.base_values.specs.declared.event.RowEvent.{RowEvent}
use Rattle.base_script.specs.declared.actor.Actor.{Actor}
use Rattle.base_script.specs.declared.actor.Actor.TheVariants.{Copy, Apply}
use Rattle.table_store.specs.Databases.{Database, TableRows, find_table}
use Rattle.server_model.specs.Blockers.{need_within}
use Rattle.server_model.specs.Drawing.{filled}
use Rattle.server_model.specs.Effects.{Effect, Rests, Grows, Writes, Forgets, Moves, Locks, Unlocks, begins, effect, effect_unless, effect_within, is_outside, result_effect}
use Rattle.server_model.specs.Entries.{is_client, is_command, same_actor}
use Rattle.server_model.specs.Operations.{after_events, copy_operation, events_of, operation_result, statement_result}
use Rattle.server_model.specs.PlainServer.{did, does, done}
use Rattle.server_model.specs.States.{State, is_in_transaction, is_of, is_of_tool, session_of, view, writes_of}
use Rattle.server_model.specs.declared.entry.Asked.TheVariants.{Call}
use Rattle.server_model.specs.declared.entry.Entry.{Entry}
use Rattle.server_model.specs.declared.need.Need.{Need}
use Rattle.server_model.specs.declared.request.Request.{Request}
use Rattle.server_model.specs.declared.request.Request.TheVariants as requests
use Rattle.server_model.specs.declared.work.StatementResult.{StatementResult}
use Rattle.server_model.proofs.Filling.{filled_case}
use Rattle.server_model.proofs.LockedRows.Tests.{turned, turned_bytes}
use Rattle.plan_data.specs.PlanData.{PlanData}
use Rattle.tool_program.specs.JournalWords.Journals.{opens, state_at, IsAnswered}
use Rattle.tool_program.specs.JournalWords.Sessions.{live_session, IsSeated}
use Rattle.tool_program.specs.declared.chunk_copier.copier.Copier.{Copier}
use Rattle.tool_program.specs.declared.event_applier.applier.Applier.{Applier}
use Rattle.tool_program.proofs.OnlineCalls.Naming.{not_ghost}
use Rattle.proof_journals.specs.Ghost.HeldKeys.{Clustered}
use Rattle.proof_journals.specs.Ghost.Invariant.{NotOf}
use Rattle.proof_journals.specs.Ghost.Rows.Moments.{Row}
use Rattle.proof_journals.specs.Ghost.Rows.Timelines.{Migration}
use Rattle.proof_journals.specs.Holdings.{Face}
use Rattle.proof_journals.specs.Machine.Standings.{MayTake}
use Rattle.proof_journals.specs.Plans.{limits_of, scene_of}
use Rattle.proof_journals.specs.Scenes.{Stored}
use Rattle.proof_journals.proofs.Actors.{placed, Placed}
use Rattle.proof_journals.proofs.Faces.{faces_opened, writes_face}
use Rattle.proof_journals.proofs.Ghost.Keeping.{found_besides}
use Rattle.proof_journals.proofs.Ghost.Running.{any_kept}
use Rattle.proof_journals.proofs.Journals.{stored_opened}
use Rattle.proof_journals.proofs.Machine.Marks.{ghost_not_log}
use Rattle.proof_journals.proofs.Machine.Seated.{IsKnown}
use Rattle.proof_migration.specs.Migration.Machines.{hold_at, MigrationStands}
use Rattle.proof_migration.specs.Program.Turns.Goes.{IsOf, machines_of, StandsFor}
use Rattle.proof_migration.proofs.Program.Turns.ActorStates.{actor_state_apart, actor_state_before, actor_state_own, some_actor_states, SomeActorStates}
use Rattle.proof_migration.proofs.Program.Turns.Others.{ghost_named}
use Rattle.proof_bounds.specs.TaskTurns.Answers.{left_at}
use Rattle.proof_bounds.proofs.TaskTurns.Logs.{grows_least, grows_most}
use Rattle.proof_resume.proofs.Finish.Holders.{IsHeldBy}
use Rattle.proof_resume.proofs.Finish.Owners.{Owners}
use Rattle.proof_resume.proofs.Finish.Prompt.{after_is}

-- EVENTS OF THE NEW TABLE

own_apart : (t : List ℕ) → bytes_eq (ghost_name t) t ≡ false
own_apart t = turned_bytes t (ghost_name t) (not_ghost t)

none_counted : (t : List ℕ) (changes : List Change) → count_by (is_of (t ∷ log_name t ∷ [])) (events_of (ghost_name t) changes) ≡ 0
none_counted t [] = refl
none_counted t (change ∷ changes) =
    sum_by-cons (λ (e : RowEvent). cond (is_of (t ∷ log_name t ∷ []) e) 1 0) (record { table = ghost_name t; change = change }) (events_of (ghost_name t) changes)
    ∙ ap (λ (b : Bool). cond b 1 0 + count_by (is_of (t ∷ log_name t ∷ [])) (events_of (ghost_name t) changes)) none
    ∙ none_more (count_by (is_of (t ∷ log_name t ∷ [])) (events_of (ghost_name t) changes)) (none_counted t changes) where
      none : is_of (t ∷ log_name t ∷ []) (record { table = ghost_name t; change = change }) ≡ false
      none = ap (λ (b : Bool). b || (bytes_eq (ghost_name t) (log_name t) || false)) (own_apart t) ∙ ap (λ (b : Bool). b || false) (ghost_not_log t)

      none_more : (n : ℕ) → n ≡ 0 → 0 + n ≡ 0
      none_more n is = omega (arith, is)

none_own : (t : List ℕ) (changes : List Change) → NotOf t (events_of (ghost_name t) changes)
none_own t [] = tt
none_own t (change ∷ changes) = (own_apart t, none_own t changes)

-- *The new table alone*: the log has these events more, all of the new table, and the tables are those with them
pub record WritesNew (t : List ℕ) (before after : State) : Type 0 where
  pub changes : List Change
  pub log : after.log ≡ before.log ++ events_of (ghost_name t) changes
  pub tables : after.tables ≡ after_events before.tables (events_of (ghost_name t) changes)

still : (t : List ℕ) (before after : State) → after.log ≡ before.log → after.tables ≡ before.tables → WritesNew t before after
unfolding after_events
still t before after log tables = record { changes = []; log = log ∙ sym (append-nil before.log); tables = tables }

-- the migrated table stays
pub table_stays : (t : List ℕ) (before after : State) → WritesNew t before after → find_table t after.tables ≡ find_table t before.tables
table_stays t before after is = ap (find_table t) is.tables ∙ found_besides t (events_of (ghost_name t) is.changes) before.tables (none_own t is.changes)

-- and as many events are left from each position on
pub left_stays : (t : List ℕ) (before after : State) → WritesNew t before after → (position : ℕ) → left_at t after.log position ≡ left_at t before.log position
left_stays t before after is position =
    ap (λ (log : List RowEvent). left_at t log position) is.log
    ∙ (let most = grows_most t before.log (events_of (ghost_name t) is.changes) position in
    let least = grows_least t before.log (events_of (ghost_name t) is.changes) position in
    let none : count_by (is_of (t ∷ log_name t ∷ [])) (events_of (ghost_name t) is.changes) ≡ 0 = none_counted t is.changes in omega (arith, most, least, none))

-- WHAT A REQUEST WRITES

-- an effect that commits at most what the session has written
abbrev CommitsOwn : Effect → Type 0
CommitsOwn (Writes answer events) = events ≡ []
CommitsOwn (Moves answer tables) = ⊥
CommitsOwn effect = Unit {0}

-- a call of the copier's or the applier's, by whether its session is in a transaction
abbrev pub OwnAsks : Bool → Request → Type 0
OwnAsks busy requests.Begin = Unit {0}
OwnAsks busy requests.Commit = Unit {0}
OwnAsks busy (requests.Do statement) = busy ≡ true
OwnAsks busy (requests.ChunkEnd table low top size) = Unit {0}
OwnAsks busy (requests.BeginSpan table span size) = Unit {0}
OwnAsks busy (requests.CopyRow from into map key) = busy ≡ true
OwnAsks busy (requests.ReadLog position limit tables) = Unit {0}
OwnAsks busy request = ⊥

kept_open : (busy : Bool) (need : Need) (result : StatementResult) → busy ≡ true → CommitsOwn (result_effect busy need result)
kept_open true need result is = tt
kept_open false need result is = absurd cc

begins_open : (found : Option TableRows) (request : Request) (span : _) (size : ℕ) (need : Need) → CommitsOwn (begins found span size need)
begins_open None request span size need = tt
begins_open (Some table) request span size need = tt

within_own : (busy : Bool) (seen : Database) (state : State) (request : Request) → OwnAsks busy request → CommitsOwn (effect_within busy seen state request)
within_own busy seen state requests.Begin asks = tt
within_own busy seen state requests.Commit asks = refl
within_own busy seen state (requests.Do statement) asks = kept_open busy (need_within seen (requests.Do statement)) (statement_result seen statement) asks
within_own busy seen state (requests.ChunkEnd table low top size) asks = tt
within_own busy seen state (requests.BeginSpan table span size) asks = begins_open (find_table table state.tables) (requests.BeginSpan table span size) span size (need_within seen (requests.BeginSpan table span size))
within_own busy seen state (requests.CopyRow from into map key) asks = kept_open busy (need_within seen (requests.CopyRow from into map key)) (operation_result seen (copy_operation seen from into map key)) asks
within_own busy seen state (requests.ReadLog position limit tables) asks = tt
within_own busy seen state request asks = absurd asks

unless_own : (outside busy : Bool) (seen : Database) (state : State) (request : Request) → OwnAsks busy request → CommitsOwn (effect_unless outside busy seen state request)
unless_own true busy seen state request asks = tt
unless_own false busy seen state request asks = within_own busy seen state request asks

does_own : (t : List ℕ) (one : Effect) (state : State) (number : ℕ) (changes : List Change) → writes_of (session_of number state.sessions) ≡ events_of (ghost_name t) changes → CommitsOwn one → WritesNew t state (does one state number).after
does_own t (Rests answer) state number changes own is = still t state state refl refl
does_own t (Grows answer need events) state number changes own is = still t state _ refl refl
does_own t (Writes answer events) state number changes own is = record { changes = changes; log = ap (λ (e : List RowEvent). state.log ++ e) all; tables = ap (after_events state.tables) all } where
  all : writes_of (session_of number state.sessions) ++ events ≡ events_of (ghost_name t) changes
  all = ap (λ (e : List RowEvent). writes_of (session_of number state.sessions) ++ e) is ∙ append-nil (writes_of (session_of number state.sessions)) ∙ own
does_own t (Forgets answer) state number changes own is = still t state _ refl refl
does_own t (Moves answer tables) state number changes own is = absurd is
does_own t (Locks answer names) state number changes own is = still t state _ refl refl
does_own t (Unlocks answer) state number changes own is = still t state _ refl refl

-- *What a call of theirs writes* are rows of the new table
done_own : (t : List ℕ) (state : State) (number : ℕ) (request : Request) (changes : List Change) → writes_of (session_of number state.sessions) ≡ events_of (ghost_name t) changes → OwnAsks (is_in_transaction (session_of number state.sessions)) request → WritesNew t state (done state number request).after
unfolding did
done_own t state number request changes own asks =
    does_own t (effect state number (filled state number request)) state number changes own
    (unless_own (is_outside (session_of number state.sessions) (filled state number request)) (is_in_transaction (session_of number state.sessions)) (view number state) state (filled state number request)
    (filled_case (λ asked full. OwnAsks (is_in_transaction (session_of number state.sessions)) asked → OwnAsks (is_in_transaction (session_of number state.sessions)) full) (λ asked is. is) (λ statement n is. is) (is_of_tool (session_of number state.sessions)) state.tables state.counters request asks))

-- A TURN OF THEIRS

module _ (plan : PlanData) (m : Migration) (at : Clustered m.schema) (rows : List Row) (of : IsOf plan m) (journal : List Entry) (entry : Entry) (in_own : IsSeated journal entry) (unlost : entry.side ≡ None) (answered : IsAnswered (state_at plan journal) entry) (owners : Owners plan journal) (known : IsKnown plan journal)
    (known_more : IsKnown plan (journal ++ entry ∷ [])) (copier : Copier) (applier : Applier) (stands : StandsFor plan m at rows journal copier applier) (request : Request) (called : entry.asked ≡ Call request) (held : IsHeldBy (Some entry.session) (state_at plan journal)) where
  abbrev more : List Entry
  more = journal ++ entry ∷ []

  abbrev now : State
  now = state_at plan journal

  abbrev n : ℕ
  n = entry.session

  abbrev open_now : State
  open_now = opens entry now

  where_placed : Placed journal entry
  where_placed = placed journal entry in_own

  pub some_sessions : SomeActorStates more
  some_sessions = some_actor_states more known_more.sessions

  own_state : (actor : Actor) → entry.actor ≡ actor → MayTake journal n (live_session journal actor)
  own_state actor is = subst (λ (a : Actor). MayTake journal n (live_session journal a)) is (actor_state_own plan journal entry known where_placed (ap is_command called))

  -- the machines, the turn's in its session
  pub copies_here : entry.actor ≡ Copy → MigrationStands m at rows (limits_of plan) (scene_of plan []) journal (machines_of copier n applier some_sessions.applier)
  copies_here is = stands n some_sessions.applier (record {
    copy = own_state Copy is;
    apply = actor_state_before plan journal entry known where_placed Apply some_sessions.applier (ap (λ (a : Actor). same_actor a Apply) is) some_sessions.actor_states.apply;
    two = turned some_sessions.applier n (actor_state_apart plan journal entry known where_placed Apply some_sessions.applier (ap (λ (a : Actor). same_actor a Apply) is) some_sessions.actor_states.apply);
  })

  pub applies_here : entry.actor ≡ Apply → MigrationStands m at rows (limits_of plan) (scene_of plan []) journal (machines_of copier some_sessions.copier applier n)
  applies_here is = stands some_sessions.copier n (record {
    copy = actor_state_before plan journal entry known where_placed Copy some_sessions.copier (ap (λ (a : Actor). same_actor a Copy) is) some_sessions.actor_states.copy;
    apply = own_state Apply is;
    two = actor_state_apart plan journal entry known where_placed Copy some_sessions.copier (ap (λ (a : Actor). same_actor a Copy) is) some_sessions.actor_states.copy;
  })

  -- what its session has written
  abbrev Wrote : Type 0
  Wrote = (changes : List Change) × ((hold_at now n).writes ≡ events_of m.new.name changes)

  copier_wrote : entry.actor ≡ Copy → Wrote
  copier_wrote is = any_kept Wrote m at rows n some_sessions.applier _ (λ apply kept. (kept.ghost.chunk, kept.tool.kept.chunk)) (copies_here is).tool.stands

  applier_wrote : entry.actor ≡ Apply → Wrote
  applier_wrote is = any_kept Wrote m at rows some_sessions.copier n _ (λ apply kept. (kept.ghost.batch, kept.tool.kept.batch)) (applies_here is).tool.stands

  opened_writes : writes_of (session_of n open_now.sessions) ≡ (hold_at now n).writes
  opened_writes = writes_face (session_of n open_now.sessions) ∙ ap (λ (f : Face). f.hold.writes) (faces_opened (is_command entry.asked) (not (is_client entry.actor)) n n now)

  -- the state behind the turn
  writes_so : Wrote → OwnAsks (is_in_transaction (session_of n open_now.sessions)) request → WritesNew plan.table now (state_at plan more)
  writes_so wrote asks =
      let own : WritesNew plan.table open_now (done open_now n request).after = done_own plan.table open_now n request wrote.0 (opened_writes ∙ wrote.1 ∙ ap (λ (name : List ℕ). events_of name wrote.0) (ghost_named plan m of)) asks in
      let after = after_is plan journal entry in_own.session unlost answered owners request called held in
      let opened = stored_opened (is_command entry.asked) (not (is_client entry.actor)) n now in
      record {
        changes = own.changes;
        log = ap (λ (s : State). s.log) after ∙ own.log ∙ ap (λ (s : Stored). s.log ++ events_of (ghost_name plan.table) own.changes) opened;
        tables = ap (λ (s : State). s.tables) after ∙ own.tables ∙ ap (λ (s : Stored). after_events s.tables (events_of (ghost_name plan.table) own.changes)) opened;
      }

  pub copier_writes : entry.actor ≡ Copy → OwnAsks (is_in_transaction (session_of n open_now.sessions)) request → WritesNew plan.table now (state_at plan more)
  copier_writes is asks = writes_so (copier_wrote is) asks

  pub applier_writes : entry.actor ≡ Apply → OwnAsks (is_in_transaction (session_of n open_now.sessions)) request → WritesNew plan.table now (state_at plan more)
  applier_writes is asks = writes_so (applier_wrote is) asks
