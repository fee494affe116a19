-- What a turn of a session does to names that are held, to requests that wait, to the log and to the tables that stand.
use Rattle.server_model.specs.declared.counter.Counter.{Counter}
use Rattle.server_model.specs.PlainServer.{recounted}
use Rattle.server_model.specs.Drawing.{filled, filled_for}
use Rattle.server_model.proofs.Filling.{filled_case}
use Rattle.server_model.specs.States.{is_of_tool}
use Rattle.std.proofs.Common.{◌≡◌, ◌⊎◌, ℕ, ◌+◌, Bool, true, false, not, ◌&&◌, ◌||◌, List, [], ◌∷◌, ◌++◌, map, filter, cond, Option, Some, None, Result, Ok, Err, refl, sym, ap, ◌∙◌, subst, inl, inr, arith}
use Rattle.std.specs.Prelude.{◌==◌}
use Rattle.std.proofs.Math.Bool.{or-true}
use Rattle.std.proofs.lemmas.Bool.{false≢true}
use Rattle.std.proofs.lemmas.Bool.Decides.{nat_tests}
use Rattle.std.proofs.lemmas.List.{append-nil}
use Rattle.std.proofs.lemmas.List.Folds.{list_any-append}
use Rattle.std.specs.List.{AllByRecursion, list_any, flat_map}
use Rattle.std.specs.Str.{bytes_eq}
use Rattle.base_values.specs.declared.event.RowEvent.{RowEvent}
use Rattle.base_values.specs.declared.event.Change.{Change}
use Rattle.server_locks.specs.declared.metadata_locks.request.Waiter.{Waiter}
use Rattle.server_locks.specs.MetadataLocks.Grants as grants
use Rattle.server_locks.specs.MetadataLocks.Grants.{holds, has_name, blocker_of_name, blocker_of_names}
use Rattle.server_locks.specs.RowLocks.Grants.{blocker_of_set}
use Rattle.table_store.specs.Databases.{TableRows, Database, find_table, has_table, with_change, rename_tables, without_table}
use Rattle.table_store.specs.declared.renames.NotRenamed.{NotRenamed}
use Rattle.base_script.specs.declared.actor.Side.{Side}
use Rattle.base_script.specs.declared.actor.Side.TheVariants.{Before, After}
use Rattle.server_model.specs.declared.session.Session.{Session}
use Rattle.server_model.specs.declared.session.HeldName.{HeldName}
use Rattle.server_model.specs.LockedRows.Databases.{EventsCovered}
use Rattle.server_model.specs.Operations.{Operation, table_of, operation_of, statement_result, operation_result, result_in, events_of, after_events, change_table, copy_operation}
use Rattle.server_model.specs.StatementResults.{tells}
use Rattle.proof_journals.specs.Turns.{scene_state, about, request_of}
use Rattle.server_model.specs.declared.entry.Asked.{Asked}
use Rattle.server_model.specs.declared.entry.Asked.TheVariants.{Call, Poll, Cut, Command}
use Rattle.server_model.specs.declared.entry.Entry.{Entry}
use Rattle.server_model.specs.Entries.{is_command, is_client}
use Rattle.proof_journals.specs.Holdings.{face_of, IsHeld, Face, face_in}
use Rattle.proof_journals.specs.ServerTurns.Others.{asks_names, held_at, waiters_at, waits_on, is_waiting_on, IsGrantedName, MayWrite, TurnOf, EntriesAreTurns, takes_names}
use Rattle.proof_journals.proofs.Faces.{faces_opened, changed_there, gone_there}
use Rattle.proof_journals.proofs.Names.{Among2, as_held, as_needed, held_with, held_less, held_joined, some_among, both_among, at_number, Holding, holding_of}
use Rattle.std.specs.Option.{is_some}
use Rattle.table_store.specs.declared.renames.Pair.{Pair}
use Rattle.table_store.proofs.ChangedTables.{found_where}
use Rattle.server_model.specs.declared.answer.Answer.{Answer}
use Rattle.server_model.proofs.LockedRows.Finding.{found_after, change_if}
use Rattle.proof_journals.proofs.Moves.{after_other, drop_moves, rename_moves}
use Rattle.server_model.specs.declared.session.Limits.{Limits}
use Rattle.proof_journals.specs.Scenes.{Scene}
use Rattle.server_locks.specs.declared.row_locks.lock.Lock.{Lock}
use Rattle.proof_journals.proofs.Journals.{state_more, journal_holds, JournalHolds, done_waits}
use Rattle.server_model.specs.declared.request.Request.TheVariants.{BeginSpan, ChunkEnd, CopyRow, Create, Drop, Ends, LockTables, LogEnd, ReadLog, Rename, SetCounter, ShowCounter, ShowTables, ShowWaiting, Unlock}
use Rattle.server_model.specs.declared.request.Request.{Request}
use Rattle.std.specs.Prelude.{is_some}
use Rattle.server_model.specs.States.{connected, State, is_exclusive, is_in_transaction, locks_held, names_held, names_in, new_session, opened, pair_names, polls_of, session_of, view, waiting_of, waits_for, with_session, writes_of}
use Rattle.server_model.specs.declared.request.Request.TheVariants as requests
use Rattle.server_model.specs.Effects.{Locks, Unlocks, all_exist, begins, created, effect_unless, defined, dropped, is_outside, locks_if, nothing_needed, renamed_or, result_effect}
use Rattle.server_model.specs.PlainServer.{at_rest, called_unless, calls, commits, counting, does, done, did, exclusive, forgets, goes_on, holding, is_over, leaves, locking, loses, polled_of, polled_over, polled_unless, polls, serves, shared, unlocking, without_waiting}
use Rattle.server_model.specs.Answers.{ok}
use Rattle.server_model.specs.declared.need.Need.{Need}
use Rattle.server_model.specs.Blockers.{need, need_within, blocker}
use Rattle.server_model.specs.declared.session.Waiting.{Waiting}
use Rattle.tool_program.specs.JournalWords.Journals.{after_entry, opens, opens_if}
use Rattle.server_model.proofs.LockedRows.Tests.{same_number, same_bytes, are_same, turned_bytes, nor_left}
use Rattle.server_locks.proofs.LeastSession.Sessions.{none_of}

-- WHAT OTHERS HOLD

not_own : (holder number other : ℕ) (held : List HeldName) (name : List ℕ) (asked : Bool) → (holder == other) ≡ false → holds (as_held holder held) other name asked ≡ false
unfolding holds
not_own holder number other [] name asked differ = refl
not_own holder number other (h ∷ held) name asked differ = rw differ (not_own holder number other held name asked differ)

pub holds_parts : (a b : List grants.HeldName) (other : ℕ) (name : List ℕ) (asked : Bool) → holds (a ++ b) other name asked ≡ (holds a other name asked || holds b other name asked)
unfolding holds
holds_parts a b other name asked = list_any-append (λ (one : grants.HeldName). (one.session == other) && grants.is_on one name asked) a b

others_with : (number other : ℕ) (change : Session → Session) (sessions : List Session) (name : List ℕ) (asked : Bool) → ((s : Session) → (change s).number ≡ s.number) → (other == number) ≡ false → holds (names_held (with_session number change sessions)) other name asked ≡ holds (names_held sessions) other name asked
unfolding with_session
others_with number other change [] name asked keeps differ = refl
others_with number other change (first ∷ sessions) name asked keeps differ = at (first.number == number) refl (others_with number other change sessions name asked keeps differ) where
  at : (b : Bool) → (first.number == number) ≡ b → holds (names_held (with_session number change sessions)) other name asked ≡ holds (names_held sessions) other name asked
      → holds (names_held (cond b (change first ∷ sessions) (first ∷ with_session number change sessions))) other name asked ≡ holds (names_held (first ∷ sessions)) other name asked
  at true here rest =
      let off : (first.number == other) ≡ false = grind (arith, nat_tests) in
      let changed : ((change first).number == other) ≡ false = ap (λ (m : ℕ). m == other) (keeps first) ∙ off in
      holds_parts (as_held (change first).number (change first).names) (names_held sessions) other name asked
      ∙ ap (λ (b : Bool). b || holds (names_held sessions) other name asked) (not_own (change first).number number other (change first).names name asked changed ∙ sym (not_own first.number number other first.names name asked off))
      ∙ sym (holds_parts (as_held first.number first.names) (names_held sessions) other name asked)
  at false here rest =
      holds_parts (as_held first.number first.names) (names_held (with_session number change sessions)) other name asked
      ∙ ap (λ (b : Bool). holds (as_held first.number first.names) other name asked || b) rest
      ∙ sym (holds_parts (as_held first.number first.names) (names_held sessions) other name asked)

others_less : (number other : ℕ) (sessions : List Session) (name : List ℕ) (asked : Bool) → (other == number) ≡ false → holds (names_held (filter (λ session. not (session.number == number)) sessions)) other name asked ≡ holds (names_held sessions) other name asked
others_less number other [] name asked differ = refl
others_less number other (first ∷ sessions) name asked differ = at (first.number == number) refl (others_less number other sessions name asked differ) where
  at : (b : Bool) → (first.number == number) ≡ b → holds (names_held (filter (λ session. not (session.number == number)) sessions)) other name asked ≡ holds (names_held sessions) other name asked
      → holds (names_held (cond (not b) (first ∷ filter (λ session. not (session.number == number)) sessions) (filter (λ session. not (session.number == number)) sessions))) other name asked ≡ holds (names_held (first ∷ sessions)) other name asked
  at true here rest =
      let off : (first.number == other) ≡ false = grind (arith, nat_tests) in
      rest ∙ sym (holds_parts (as_held first.number first.names) (names_held sessions) other name asked ∙ ap (λ (b : Bool). b || holds (names_held sessions) other name asked) (not_own first.number number other first.names name asked off))
  at false here rest =
      holds_parts (as_held first.number first.names) (names_held (filter (λ session. not (session.number == number)) sessions)) other name asked
      ∙ ap (λ (b : Bool). holds (as_held first.number first.names) other name asked || b) rest
      ∙ sym (holds_parts (as_held first.number first.names) (names_held sessions) other name asked)

-- WHAT THE SESSION COMES TO HOLD

-- a held name of the session
pub record Held (held : List grants.HeldName) (number : ℕ) (name : List ℕ) : Type 0 where
  pub one : grants.HeldName
  pub is : IsHeld one held
  pub own : (one.session == number) ≡ true
  pub same : bytes_eq one.name name ≡ true

pub held_from : (held : List grants.HeldName) (number : ℕ) (name : List ℕ) → holds held number name false ≡ true → Held held number name
unfolding holds
held_from [] number name is = absurd (false≢true is)
held_from (h ∷ held) number name is = at (h.session == number) (bytes_eq h.name name) refl refl is (held_from held number name) where
  deeper : Held held number name → Held (h ∷ held) number name
  deeper there = record { one = there.one; is = inr there.is; own = there.own; same = there.same }

  at : (a b : Bool) → (h.session == number) ≡ a → bytes_eq h.name name ≡ b → ((a && (b && (h.exclusive || true))) || holds held number name false) ≡ true → (holds held number name false ≡ true → Held held number name) → Held (h ∷ held) number name
  at true true one two is rest = record { one = h; is = inl refl; own = one; same = two }
  at true false one two is rest = deeper (rest is)
  at false b one two is rest = deeper (rest is)

pub holds_from : (held : List grants.HeldName) (number : ℕ) (name : List ℕ) (one : grants.HeldName) → IsHeld one held → (one.session == number) ≡ true → bytes_eq one.name name ≡ true → holds held number name false ≡ true
unfolding holds
holds_from [] number name one is own same = absurd is
holds_from (h ∷ held) number name one (inl eq) own same =
    let a : (h.session == number) ≡ true = ap (λ (x : grants.HeldName). x.session == number) (sym eq) ∙ own in
    let b : bytes_eq h.name name ≡ true = ap (λ (x : grants.HeldName). bytes_eq x.name name) (sym eq) ∙ same in
    rw (a, b, or-true h.exclusive) refl
holds_from (h ∷ held) number name one (inr more) own same = rw (holds_from held number name one more own same) (or-true ((h.session == number) && (bytes_eq h.name name && (h.exclusive || true))))

name_granted : (held : List grants.HeldName) (waiters : List Waiter) (number : ℕ) (asked : Bool) (names : List (List ℕ)) (one : grants.HeldName) → blocker_of_names held waiters number asked names ≡ None → IsHeld one (as_held number (as_needed asked names)) → blocker_of_name held waiters number one.name asked ≡ None
unfolding blocker_of_names
name_granted held waiters number asked [] one none is = absurd (empty asked is) where
  empty : (b : Bool) → IsHeld one (as_held number (as_needed b [])) → ⊥
  empty true p = p
  empty false p = p
name_granted held waiters number asked (name ∷ names) one none is = by asked is (none_of (blocker_of_name held waiters number name asked) (blocker_of_names held waiters number asked names) none) (name_granted held waiters number asked names one) where
  by : (b : Bool) → IsHeld one (as_held number (as_needed b (name ∷ names))) → (blocker_of_name held waiters number name b ≡ None) × (blocker_of_names held waiters number b names ≡ None) → (blocker_of_names held waiters number b names ≡ None → IsHeld one (as_held number (as_needed b names)) → blocker_of_name held waiters number one.name b ≡ None) → blocker_of_name held waiters number one.name b ≡ None
  by true (inl same) both rest = subst (λ (x : grants.HeldName). blocker_of_name held waiters number x.name true ≡ None) (sym same) both.0
  by true (inr more) both rest = rest both.1 more
  by false (inl same) both rest = subst (λ (x : grants.HeldName). blocker_of_name held waiters number x.name false ≡ None) (sym same) both.0
  by false (inr more) both rest = rest both.1 more

-- what a turn adds to the names that are held was granted
pub record More (takes : Bool) (before : State) (number : ℕ) (after : List Session) : Type 0 where
  pub asked : Bool
  pub so : asked ≡ true → takes ≡ true
  pub names : List (List ℕ)
  pub free : blocker_of_names (held_at before) (waiters_at before) number asked names ≡ None
  pub among : Among2 (names_held after) (held_at before) (as_held number (as_needed asked names))

granted_more : (takes : Bool) (before : State) (number : ℕ) (after : List Session) → More takes before number after → (name : List ℕ) → holds (held_at before) number name false ≡ false → holds (names_held after) number name false ≡ true → (asked : Bool) × (asked ≡ true → takes ≡ true) × IsGrantedName before number name asked
granted_more takes before number after more name lacked has = at (held_from (names_held after) number name has) where
  by : (there : Held (names_held after) number name) → IsHeld there.one (held_at before) ⊎ IsHeld there.one (as_held number (as_needed more.asked more.names)) → (asked : Bool) × (asked ≡ true → takes ≡ true) × IsGrantedName before number name asked
  by there (inl old) = absurd (false≢true (sym lacked ∙ holds_from (held_at before) number name there.one old there.own there.same))
  by there (inr new) = (more.asked, more.so, subst (λ (m : List ℕ). IsGrantedName before number m more.asked) (are_same there.one.name name there.same) (name_granted (held_at before) (waiters_at before) number more.asked more.names there.one more.free new))

  at : Held (names_held after) number name → (asked : Bool) × (asked ≡ true → takes ≡ true) × IsGrantedName before number name asked
  at there = by there (more.among there.one there.is)

no_names : (takes : Bool) (before : State) (number : ℕ) (after : List Session) → ((one : grants.HeldName) → IsHeld one (names_held after) → IsHeld one (held_at before)) → More takes before number after
unfolding blocker_of_names
no_names takes before number after fewer = record { asked = false; so = λ is. absurd (false≢true is); names = []; free = refl; among = λ one is. inl (fewer one is) }

-- of each deed
same_names : (number : ℕ) (change : Session → Session) (sessions : List Session) → ((s : Session) → (one : grants.HeldName) → IsHeld one (as_held (change s).number (change s).names) → IsHeld one (as_held s.number s.names)) → (one : grants.HeldName) → IsHeld one (names_held (with_session number change sessions)) → IsHeld one (names_held sessions)
same_names number change sessions fewer one is = at (held_with number change sessions [] (λ s here x held. inl (fewer s x held)) one is) where
  at : IsHeld one (names_held sessions) ⊎ ⊥ → IsHeld one (names_held sessions)
  at (inl old) = old
  at (inr none) = absurd none

pub rests_names : (number : ℕ) (sessions : List Session) (one : grants.HeldName) → IsHeld one (names_held (with_session number at_rest sessions)) → IsHeld one (names_held sessions)
rests_names number sessions one is = same_names number at_rest sessions (λ s x held. some_among s.number (λ (h : HeldName). h.exclusive) s.names x held) one is

unlocks_names : (number : ℕ) (sessions : List Session) (one : grants.HeldName) → IsHeld one (names_held (with_session number unlocking sessions)) → IsHeld one (names_held sessions)
unlocks_names number sessions one is = same_names number unlocking sessions (λ s x held. some_among s.number (λ (h : HeldName). not h.exclusive) s.names x held) one is

goes_names : (number : ℕ) (need : Need) (events : List RowEvent) (sessions : List Session) → Among2 (names_held (with_session number (holding need events) sessions)) (names_held sessions) (as_held number (map shared need.names))
goes_names number need events sessions = held_with number (holding need events) sessions (map shared need.names) (λ s here one held. at s here one (both_among s.number s.names (map shared need.names) one held)) where
  at : (s : Session) → (s.number == number) ≡ true → (one : grants.HeldName) → IsHeld one (as_held s.number s.names) ⊎ IsHeld one (as_held s.number (map shared need.names)) → IsHeld one (as_held s.number s.names) ⊎ IsHeld one (as_held number (map shared need.names))
  at s here one (inl old) = inl old
  at s here one (inr new) = inr (at_number number s (map shared need.names) one here new)

locks_names : (number : ℕ) (names : List (List ℕ)) (sessions : List Session) → Among2 (names_held (with_session number (locking names) sessions)) (names_held sessions) (as_held number (map exclusive names))
locks_names number names sessions = held_with number (locking names) sessions (map exclusive names) (λ s here one held. at s here one (both_among s.number s.names (map exclusive names) one held)) where
  at : (s : Session) → (s.number == number) ≡ true → (one : grants.HeldName) → IsHeld one (as_held s.number s.names) ⊎ IsHeld one (as_held s.number (map exclusive names)) → IsHeld one (as_held s.number s.names) ⊎ IsHeld one (as_held number (map exclusive names))
  at s here one (inl old) = inl old
  at s here one (inr new) = inr (at_number number s (map exclusive names) one here new)

-- THE TABLES THAT STAND

pub some_changed : (b : Bool) (change : Change) (found : Option TableRows) → is_some (change_if b change found) ≡ is_some found
some_changed true change None = refl
some_changed true change (Some table) = refl
some_changed false change None = refl
some_changed false change (Some table) = refl

stands_after : (name : List ℕ) (events : List RowEvent) (tables : Database) → has_table name (after_events tables events) ≡ has_table name tables
unfolding after_events
stands_after name [] tables = refl
stands_after name (event ∷ events) tables =
    stands_after name events (with_change event.table (change_table event.change) tables)
    ∙ sym (found_where name (with_change event.table (change_table event.change) tables)) ∙ ap is_some (found_after event.table name event.change tables) ∙ some_changed (bytes_eq event.table name) event.change (find_table name tables) ∙ found_where name tables

name_in_granted : (held : List grants.HeldName) (waiters : List Waiter) (number : ℕ) (asked : Bool) (names : List (List ℕ)) (name : List ℕ) → blocker_of_names held waiters number asked names ≡ None → list_any (bytes_eq name) names ≡ true → blocker_of_name held waiters number name asked ≡ None
unfolding blocker_of_names
name_in_granted held waiters number asked [] name none is = absurd (false≢true is)
name_in_granted held waiters number asked (first ∷ names) name none is =
    at (bytes_eq name first) refl is (none_of (blocker_of_name held waiters number first asked) (blocker_of_names held waiters number asked names) none) (name_in_granted held waiters number asked names name) where
      at : (b : Bool) → bytes_eq name first ≡ b → (b || list_any (bytes_eq name) names) ≡ true → (blocker_of_name held waiters number first asked ≡ None) × (blocker_of_names held waiters number asked names ≡ None) → (blocker_of_names held waiters number asked names ≡ None → list_any (bytes_eq name) names ≡ true → blocker_of_name held waiters number name asked ≡ None)
          → blocker_of_name held waiters number name asked ≡ None
      at true same is both rest = subst (λ (m : List ℕ). blocker_of_name held waiters number m asked ≡ None) (sym (are_same name first same)) both.0
      at false off is both rest = rest both.1 is

-- WHAT A DEED DOES

pub record Does (takes : Bool) (before : State) (number : ℕ) (after : State) : Type 0 where
  pub faces : (n : ℕ) → (n == number) ≡ false → face_of after.sessions n ≡ face_of before.sessions n
  pub more : More takes before number after.sessions
  pub others : (other : ℕ) (name : List ℕ) (asked : Bool) → (other == number) ≡ false → holds (names_held after.sessions) other name asked ≡ holds (held_at before) other name asked
  pub events : List RowEvent
  pub log : after.log ≡ before.log ++ events
  pub written : AllByRecursion (λ event. MayWrite before number event.table) events
  pub tables : (name : List ℕ) → (has_table name after.tables ≡ has_table name before.tables) ⊎ ((takes ≡ true) × IsGrantedName before number name true)

abbrev pub at_wait : State → List Waiting → State
at_wait before w = record before { waiting = w }

does_nothing : (takes : Bool) (before : State) (w : List Waiting) (number : ℕ) → Does takes before number (at_wait before w)
does_nothing takes before w number = record { faces = λ n differ. refl; more = no_names takes before number before.sessions (λ one is. is); others = λ other name asked differ. refl; events = []; log = sym (append-nil before.log); written = tt; tables = λ name. inl refl }

does_grows : (takes : Bool) (before : State) (w : List Waiting) (number : ℕ) (need : Need) (events : List RowEvent) → blocker_of_names (held_at before) (waiters_at before) number false need.names ≡ None → Does takes before number (goes_on number need events (at_wait before w))
does_grows takes before w number need events free = record {
  faces = λ n differ. ap face_in (changed_there number n (holding need events) before.sessions (λ s. refl) differ);
  more = record { asked = false; so = λ is. absurd (false≢true is); names = need.names; free = free; among = goes_names number need events before.sessions };
  others = λ other name asked differ. others_with number other (holding need events) before.sessions name asked (λ s. refl) differ;
  events = [];
  log = sym (append-nil before.log);
  written = tt;
  tables = λ name. inl refl;
}

does_commits : (takes : Bool) (before : State) (w : List Waiting) (number : ℕ) (events : List RowEvent) → AllByRecursion (λ event. MayWrite before number event.table) (writes_of (session_of number before.sessions) ++ events) → Does takes before number (commits number events (at_wait before w))
does_commits takes before w number events written = record {
  faces = λ n differ. ap face_in (changed_there number n at_rest before.sessions (λ s. refl) differ);
  more = no_names takes before number (with_session number at_rest before.sessions) (rests_names number before.sessions);
  others = λ other name asked differ. others_with number other at_rest before.sessions name asked (λ s. refl) differ;
  events = writes_of (session_of number before.sessions) ++ events;
  log = refl;
  written = written;
  tables = λ name. inl (stands_after name (writes_of (session_of number before.sessions) ++ events) before.tables);
}

does_forgets : (takes : Bool) (before : State) (w : List Waiting) (number : ℕ) → Does takes before number (forgets number (at_wait before w))
does_forgets takes before w number = record {
  faces = λ n differ. ap face_in (changed_there number n at_rest before.sessions (λ s. refl) differ);
  more = no_names takes before number (with_session number at_rest before.sessions) (rests_names number before.sessions);
  others = λ other name asked differ. others_with number other at_rest before.sessions name asked (λ s. refl) differ;
  events = [];
  log = sym (append-nil before.log);
  written = tt;
  tables = λ name. inl refl;
}

does_counts : (takes : Bool) (before : State) (w : List Waiting) (number count : ℕ) → Does takes before number (record (at_wait before w) { sessions = with_session number (counting count) before.sessions })
does_counts takes before w number count = record {
  faces = λ n differ. ap face_in (changed_there number n (counting count) before.sessions (λ s. refl) differ);
  more = no_names takes before number (with_session number (counting count) before.sessions) (same_names number (counting count) before.sessions (λ s x held. held));
  others = λ other name asked differ. others_with number other (counting count) before.sessions name asked (λ s. refl) differ;
  events = [];
  log = sym (append-nil before.log);
  written = tt;
  tables = λ name. inl refl;
}

does_locks : (before : State) (w : List Waiting) (number : ℕ) (names : List (List ℕ)) (given : Answer) → blocker_of_names (held_at before) (waiters_at before) number true names ≡ None → Does true before number (does (Locks given names) (at_wait before w) number).after
does_locks before w number names given free = record {
  faces = λ n differ. ap face_in (changed_there number n (locking names) before.sessions (λ s. refl) differ);
  more = record { asked = true; so = λ is. refl; names = names; free = free; among = locks_names number names before.sessions };
  others = λ other name asked differ. others_with number other (locking names) before.sessions name asked (λ s. refl) differ;
  events = [];
  log = sym (append-nil before.log);
  written = tt;
  tables = λ name. inl refl;
}

does_unlocks : (takes : Bool) (before : State) (w : List Waiting) (number : ℕ) (given : Answer) → Does takes before number (does (Unlocks given) (at_wait before w) number).after
does_unlocks takes before w number given = record {
  faces = λ n differ. ap face_in (changed_there number n unlocking before.sessions (λ s. refl) differ);
  more = no_names takes before number (with_session number unlocking before.sessions) (unlocks_names number before.sessions);
  others = λ other name asked differ. others_with number other unlocking before.sessions name asked (λ s. refl) differ;
  events = [];
  log = sym (append-nil before.log);
  written = tt;
  tables = λ name. inl refl;
}

none_refused : (before : State) (number : ℕ) (asked : Bool) → blocker_of_names (held_at before) (waiters_at before) number asked [] ≡ None
unfolding blocker_of_names
none_refused before number asked = refl

does_moves : (before : State) (w : List Waiting) (number : ℕ) (names : List (List ℕ)) (tables : Database) → blocker_of_names (held_at before) (waiters_at before) number true names ≡ None → ((name : List ℕ) → list_any (bytes_eq name) names ≡ false → find_table name tables ≡ find_table name before.tables) → Does true before number (record (at_wait before w) { tables = tables })
does_moves before w number names tables free same = record {
  faces = λ n differ. refl;
  more = no_names true before number before.sessions (λ one is. is);
  others = λ other name asked differ. refl;
  events = [];
  log = sym (append-nil before.log);
  written = tt;
  tables = λ name. at name (list_any (bytes_eq name) names) refl;
} where
  at : (name : List ℕ) (b : Bool) → list_any (bytes_eq name) names ≡ b → (has_table name tables ≡ has_table name before.tables) ⊎ ((true ≡ true) × IsGrantedName before number name true)
  at name true is = inr (refl, name_in_granted (held_at before) (waiters_at before) number true names name free is)
  at name false is = inl (sym (found_where name tables) ∙ ap is_some (same name is) ∙ found_where name before.tables)

-- events of one table
said_each : (P : List ℕ → Type 0) (table : List ℕ) (changes : List Change) → P table → AllByRecursion (λ event. P event.table) (events_of table changes)
said_each P table [] is = tt
said_each P table (change ∷ changes) is = (is, said_each P table changes is)

said_in_each : (P : List ℕ → Type 0) (task : Operation) (found : Option TableRows) → P task.table → AllByRecursion (λ event. P event.table) (result_in task found).events
said_in_each P task None is = tt
said_in_each P task (Some table) is = said_each P task.table (tells table.schema table.rows (task.work table.schema)).changes is

said_all : (P : List ℕ → Type 0) (tables : Database) (task : Operation) → P task.table → AllByRecursion (λ event. P event.table) (operation_result tables task).events
unfolding operation_result
said_all P tables task is = said_in_each P task (find_table task.table tables) is

all_both : (P : RowEvent → Type 0) (a b : List RowEvent) → AllByRecursion P a → AllByRecursion P b → AllByRecursion P (a ++ b)
all_both P [] b one two = two
all_both P (x ∷ a) b one two = (one.0, all_both P a b one.1 two)

-- what a session wrote is of tables that it holds
abbrev pub OwnWrites : State → ℕ → Type 0
OwnWrites before number = AllByRecursion (λ event. MayWrite before number event.table) (writes_of (session_of number before.sessions))

defined_does : (before : State) (w : List Waiting) (number : ℕ) (names : List (List ℕ)) (tables : Result Database ℕ) → blocker_of_names (held_at before) (waiters_at before) number true names ≡ None
    → ((after : Database) → tables ≡ Ok after → (name : List ℕ) → list_any (bytes_eq name) names ≡ false → find_table name after ≡ find_table name before.tables) → Does true before number (does (defined tables) (at_wait before w) number).after
defined_does before w number names (Ok tables) free same = does_moves before w number names tables free (same tables refl)
defined_does before w number names (Err refusal) free same = does_nothing true before w number

pub created_same : (stands : Bool) (schema : _) (tables after : Database) → created stands schema tables ≡ Ok after → (name : List ℕ) → list_any (bytes_eq name) (schema.name ∷ []) ≡ false → find_table name after ≡ find_table name tables
created_same true schema tables after is name off = absurd (cc)
created_same false schema tables after is name off = let same : tables ++ record { schema = schema; rows = [] } ∷ [] ≡ after = cc in ap (find_table name) (sym same) ∙ after_other name tables (record { schema = schema; rows = [] }) (turned_bytes name schema.name (nor_left (bytes_eq name schema.name) false off))

pub dropped_same : (stands : Bool) (dropped_name : List ℕ) (tables after : Database) → dropped stands dropped_name tables ≡ Ok after → (name : List ℕ) → list_any (bytes_eq name) (dropped_name ∷ []) ≡ false → find_table name after ≡ find_table name tables
dropped_same false dropped_name tables after is name off = absurd (cc)
dropped_same true dropped_name tables after is name off = let same : without_table dropped_name tables ≡ after = cc in ap (find_table name) (sym same) ∙ (drop_moves dropped_name tables).others name off

pub renamed_same : (pairs : List Pair) (tables : Database) (renamed : Result Database NotRenamed) → rename_tables pairs tables ≡ renamed → (after : Database) → renamed_or renamed ≡ Ok after → (name : List ℕ) → list_any (bytes_eq name) (pair_names pairs) ≡ false → find_table name after ≡ find_table name tables
renamed_same pairs tables (Err reason) result after is name off = absurd (cc)
renamed_same pairs tables (Ok renamed) result after is name off = let same : renamed ≡ after = cc in ap (find_table name) (sym same) ∙ (rename_moves pairs tables renamed result).others name off

effect_does : (before : State) (w : List Waiting) (number : ℕ) (outside busy : Bool) (seen : Database) (request : Request) → OwnWrites before number → blocker_of_names (held_at before) (waiters_at before) number (need_within seen request).exclusive (need_within seen request).names ≡ None
    → Does (takes_names request) before number (does (effect_unless outside busy seen (at_wait before w) request) (at_wait before w) number).after
effect_does before w number true busy seen request own free = does_nothing (takes_names request) before w number
effect_does before w number false busy seen requests.Begin own free = does_grows false before w number nothing_needed [] (none_refused before number false)
effect_does before w number false busy seen requests.Commit own free = does_commits false before w number [] (all_both (λ event. MayWrite before number event.table) (writes_of (session_of number before.sessions)) [] own tt)
effect_does before w number false busy seen requests.Rollback own free = does_forgets false before w number
effect_does before w number false busy seen (requests.Do statement) own free = at busy where
  one : IsGrantedName before number (table_of statement) false
  one = name_in_granted (held_at before) (waiters_at before) number false (table_of statement ∷ []) (table_of statement) free (rw (same_bytes (table_of statement)) refl)

  at : (b : Bool) → Does false before number (does (result_effect b (need_within seen (requests.Do statement)) (statement_result seen statement)) (at_wait before w) number).after
  at true = does_grows false before w number (need_within seen (requests.Do statement)) (statement_result seen statement).events free
  at false = does_commits false before w number (statement_result seen statement).events (all_both (λ event. MayWrite before number event.table) (writes_of (session_of number before.sessions)) (statement_result seen statement).events own (said_all (λ name. MayWrite before number name) seen (operation_of statement) (inr one)))
effect_does before w number false busy seen (LockTables names) own free = at (all_exist names before.tables) where
  at : (b : Bool) → Does true before number (does (locks_if b names) (at_wait before w) number).after
  at true = does_locks before w number names ok free
  at false = does_nothing true before w number
effect_does before w number false busy seen Unlock own free = does_unlocks false before w number ok
effect_does before w number false busy seen (Create schema) own free = defined_does before w number (schema.name ∷ []) (created (has_table schema.name before.tables) schema before.tables) free (created_same (has_table schema.name before.tables) schema before.tables)
effect_does before w number false busy seen (Drop name) own free = defined_does before w number (name ∷ []) (dropped (has_table name before.tables) name before.tables) free (dropped_same (has_table name before.tables) name before.tables)
effect_does before w number false busy seen (Rename pairs) own free = defined_does before w number (pair_names pairs) (renamed_or (rename_tables pairs before.tables)) free (renamed_same pairs before.tables (rename_tables pairs before.tables) refl)
effect_does before w number false busy seen ShowTables own free = does_nothing false before w number
effect_does before w number false busy seen ShowWaiting own free = does_nothing false before w number
effect_does before w number false busy seen (ShowCounter table) own free = does_nothing false before w number
effect_does before w number false busy seen (SetCounter table least) own free = does_nothing false before w number
effect_does before w number false busy seen LogEnd own free = does_nothing false before w number
effect_does before w number false busy seen (ReadLog position limit names) own free = does_nothing false before w number
effect_does before w number false busy seen (Ends table) own free = does_nothing false before w number
effect_does before w number false busy seen (ChunkEnd table low top size) own free = does_nothing false before w number
effect_does before w number false busy seen (BeginSpan table span size) own free = at (find_table table before.tables) where
  at : (found : Option TableRows) → Does false before number (does (begins found span size (need_within seen (BeginSpan table span size))) (at_wait before w) number).after
  at None = does_nothing false before w number
  at (Some t) = does_grows false before w number (need_within seen (BeginSpan table span size)) [] free
effect_does before w number false busy seen (CopyRow from into columns key) own free = at busy where
  one : IsGrantedName before number into false
  one = name_in_granted (held_at before) (waiters_at before) number false (from ∷ into ∷ []) into free (rw (same_bytes into) (or-true (bytes_eq into from)))

  at : (b : Bool) → Does false before number (does (result_effect b (need_within seen (CopyRow from into columns key)) (operation_result seen (copy_operation seen from into columns key))) (at_wait before w) number).after
  at true = does_grows false before w number (need_within seen (CopyRow from into columns key)) (operation_result seen (copy_operation seen from into columns key)).events free
  at false = does_commits false before w number (operation_result seen (copy_operation seen from into columns key)).events
      (all_both (λ event. MayWrite before number event.table) (writes_of (session_of number before.sessions)) (operation_result seen (copy_operation seen from into columns key)).events own (said_all (λ name. MayWrite before number name) seen (copy_operation seen from into columns key) (inr one)))

filled_takes : (tool : Bool) (tables : Database) (counters : List Counter) (request : Request) → takes_names (filled_for tool tables counters request) ≡ takes_names request
filled_takes = filled_case (λ asked full. takes_names full ≡ takes_names asked) (λ r. refl) (λ statement n. refl)

done_does : (before : State) (w : List Waiting) (number : ℕ) (request : Request) → OwnWrites before number → blocker before number (need before number request) ≡ None → Does (takes_names request) before number (done (at_wait before w) number request).after
unfolding did
done_does before w number request own free =
    subst (λ (takes : Bool). Does takes before number (done (at_wait before w) number request).after) (filled_takes (is_of_tool (session_of number before.sessions)) before.tables before.counters request)
    (effect_does before w number (is_outside (session_of number before.sessions) (filled before number request)) (is_in_transaction (session_of number before.sessions)) (view number before) (filled before number request) own
    (none_of (blocker_of_names (held_at before) (waiters_at before) number (need before number request).exclusive (need before number request).names) (blocker_of_set (locks_held before.sessions) number (need before number request).locks) free).0)

-- where the session is lost afterwards
lost_does : (takes : Bool) (before after : State) (number : ℕ) → Does takes before number after → Does takes before number (loses number after)
unfolding loses
lost_does takes before after number does' = record {
  faces = λ n differ. ap face_in (gone_there number n after.sessions differ) ∙ does'.faces n differ;
  more = record { asked = does'.more.asked; so = does'.more.so; names = does'.more.names; free = does'.more.free; among = λ one is. does'.more.among one (held_less (λ session. not (session.number == number)) after.sessions one is) };
  others = λ other name asked differ. others_less number other after.sessions name asked differ ∙ does'.others other name asked differ;
  events = does'.events;
  log = does'.log;
  written = does'.written;
  tables = does'.tables;
}

-- each turn
served_does : (before : State) (number : ℕ) (asked : Asked) → OwnWrites before number → Does (asks_names (about before number asked)) before number (serves before number asked).after
unfolding calls polls
served_does before number (Call request) own = at (blocker before number (need before number request)) refl where
  at : (by : Option ℕ) → blocker before number (need before number request) ≡ by → Does (takes_names request) before number (called_unless by before number request).after
  at None is = done_does before before.waiting number request own is
  at (Some by) is = does_counts (takes_names request) before (before.waiting ++ record { session = number; request = request } ∷ []) number 0
served_does before number Poll own = at (waiting_of number before.waiting) where
  over : (takes b : Bool) (by : ℕ) → Does takes before number (polled_over b by before number).after
  over takes true by = does_forgets takes before (without_waiting number before).waiting number
  over takes false by = does_counts takes before before.waiting number (polls_of (session_of number before.sessions) + 1)

  each : (waiting : Waiting) (by : Option ℕ) → blocker before number (need before number waiting.request) ≡ by → Does (takes_names waiting.request) before number (polled_unless by before number waiting.request).after
  each waiting None is = done_does before (without_waiting number before).waiting number waiting.request own is
  each waiting (Some by) is = over (takes_names waiting.request) (is_over before number) by

  at : (waiting : Option Waiting) → Does (asks_names (request_of waiting)) before number (polled_of waiting before number).after
  at None = does_nothing false before before.waiting number
  at (Some waiting) = each waiting (blocker before number (need before number waiting.request)) refl
served_does before number (Command word) own = does_nothing false before before.waiting number
served_does before number Cut own = let takes : Bool = asks_names (about before number Cut) in lost_does takes before before number (does_nothing takes before before.waiting number)

turn_does : (side : Option Side) (before : State) (number : ℕ) (asked : Asked) → OwnWrites before number → Does (asks_names (about before number asked)) before number (leaves side before number asked)
turn_does None before number asked own = served_does before number asked own
turn_does (Some Before) before number asked own = let takes : Bool = asks_names (about before number asked) in lost_does takes before before number (does_nothing takes before before.waiting number)
turn_does (Some After) before number asked own = lost_does (asks_names (about before number asked)) before (serves before number asked).after number (served_does before number asked own)

-- REQUESTS OF OTHERS THAT WAIT

off_own : (name : List ℕ) (other : ℕ) (one : Waiting) (rest : List Waiter) → (one.session == other) ≡ false → is_waiting_on name other (waits_for one ++ rest) ≡ is_waiting_on name other rest
off_own name other one rest off = at (is_exclusive one.request) where
  at : (b : Bool) → is_waiting_on name other (cond b (record { session = one.session; names = names_in one.request } ∷ []) [] ++ rest) ≡ is_waiting_on name other rest
  at true = rw off refl
  at false = refl

waits_parts : (name : List ℕ) (other : ℕ) (a b : List Waiter) → is_waiting_on name other (a ++ b) ≡ (is_waiting_on name other a || is_waiting_on name other b)
waits_parts name other a b = list_any-append (waits_on name other) a b

waits_less : (name : List ℕ) (number other : ℕ) (waiting : List Waiting) → (other == number) ≡ false → is_waiting_on name other (flat_map waits_for (filter (λ one. not (one.session == number)) waiting)) ≡ is_waiting_on name other (flat_map waits_for waiting)
waits_less name number other [] differ = refl
waits_less name number other (one ∷ waiting) differ = at (one.session == number) refl (waits_less name number other waiting differ) where
  at : (b : Bool) → (one.session == number) ≡ b → is_waiting_on name other (flat_map waits_for (filter (λ one. not (one.session == number)) waiting)) ≡ is_waiting_on name other (flat_map waits_for waiting)
      → is_waiting_on name other (flat_map waits_for (cond (not b) (one ∷ filter (λ one. not (one.session == number)) waiting) (filter (λ one. not (one.session == number)) waiting))) ≡ is_waiting_on name other (flat_map waits_for (one ∷ waiting))
  at true here rest = let off : (one.session == other) ≡ false = grind (arith, nat_tests) in rest ∙ sym (off_own name other one (flat_map waits_for waiting) off)
  at false here rest =
      waits_parts name other (waits_for one) (flat_map waits_for (filter (λ one. not (one.session == number)) waiting)) ∙ ap (λ (b : Bool). is_waiting_on name other (waits_for one) || b) rest ∙ sym (waits_parts name other (waits_for one) (flat_map waits_for waiting))

waits_more : (name : List ℕ) (number other : ℕ) (request : Request) (waiting : List Waiting) → (other == number) ≡ false → is_waiting_on name other (flat_map waits_for (waiting ++ record { session = number; request = request } ∷ [])) ≡ is_waiting_on name other (flat_map waits_for waiting)
waits_more name number other request [] differ = let off : (number == other) ≡ false = grind (arith, nat_tests) in off_own name other (record { session = number; request = request }) [] off
waits_more name number other request (one ∷ waiting) differ =
    waits_parts name other (waits_for one) (flat_map waits_for (waiting ++ record { session = number; request = request } ∷ [])) ∙ ap (λ (b : Bool). is_waiting_on name other (waits_for one) || b) (waits_more name number other request waiting differ) ∙ sym (waits_parts name other (waits_for one) (flat_map waits_for waiting))

served_waits : (before : State) (number other : ℕ) (asked : Asked) (name : List ℕ) → (other == number) ≡ false → is_waiting_on name other (waiters_at (serves before number asked).after) ≡ is_waiting_on name other (waiters_at before)
unfolding calls polls loses
served_waits before number other (Call request) name differ = at (blocker before number (need before number request)) where
  at : (by : Option ℕ) → is_waiting_on name other (waiters_at (called_unless by before number request).after) ≡ is_waiting_on name other (waiters_at before)
  at None = ap (λ (w : List Waiting). is_waiting_on name other (flat_map waits_for w)) (done_waits before number request)
  at (Some by) = waits_more name number other request before.waiting differ
served_waits before number other Poll name differ = at (waiting_of number before.waiting) where
  over : (b : Bool) (by : ℕ) → is_waiting_on name other (waiters_at (polled_over b by before number).after) ≡ is_waiting_on name other (waiters_at before)
  over true by = waits_less name number other before.waiting differ
  over false by = refl

  each : (waiting : Waiting) (by : Option ℕ) → is_waiting_on name other (waiters_at (polled_unless by before number waiting.request).after) ≡ is_waiting_on name other (waiters_at before)
  each waiting None = ap (λ (w : List Waiting). is_waiting_on name other (flat_map waits_for w)) (done_waits (without_waiting number before) number waiting.request) ∙ waits_less name number other before.waiting differ
  each waiting (Some by) = over (is_over before number) by

  at : (waiting : Option Waiting) → is_waiting_on name other (waiters_at (polled_of waiting before number).after) ≡ is_waiting_on name other (waiters_at before)
  at None = refl
  at (Some waiting) = each waiting (blocker before number (need before number waiting.request))
served_waits before number other (Command word) name differ = refl
served_waits before number other Cut name differ = waits_less name number other before.waiting differ

turn_waits : (side : Option Side) (before : State) (number other : ℕ) (asked : Asked) (name : List ℕ) → (other == number) ≡ false → is_waiting_on name other (waiters_at (leaves side before number asked)) ≡ is_waiting_on name other (waiters_at before)
unfolding loses
turn_waits None before number other asked name differ = served_waits before number other asked name differ
turn_waits (Some Before) before number other asked name differ = waits_less name number other before.waiting differ
turn_waits (Some After) before number other asked name differ = waits_less name number other (serves before number asked).after.waiting differ ∙ served_waits before number other asked name differ

-- EACH ENTRY

pub turn_faces : (side : Option Side) (before : State) (number : ℕ) (asked : Asked) → OwnWrites before number → (n : ℕ) → (n == number) ≡ false → face_of (leaves side before number asked).sessions n ≡ face_of before.sessions n
turn_faces side before number asked own = (turn_does side before number asked own).faces

pub turn_of : (side : Option Side) (before : State) (number : ℕ) (asked : Asked) → OwnWrites before number → TurnOf (asks_names (about before number asked)) number before (leaves side before number asked)
turn_of side before number asked own =
    let does' = turn_does side before number asked own in
    record {
      others = does'.others;
      waits = λ other name differ. turn_waits side before number other asked name differ;
      granted = λ name lacked has. granted_more (asks_names (about before number asked)) before number (leaves side before number asked).sessions does'.more name lacked has;
      events = does'.events;
      log = does'.log;
      written = does'.written;
      tables = does'.tables;
    }

-- from the state before its session was opened
from_joined : (takes : Bool) (state : State) (count : ℕ) (more : List Session) (number : ℕ) (after : State) → names_held more ≡ names_held state.sessions → TurnOf takes number (record state { made = count; sessions = more }) after → TurnOf takes number state after
from_joined takes state count more number after same turn = record {
  others = λ other name asked differ. turn.others other name asked differ ∙ ap (λ (h : List grants.HeldName). holds h other name asked) same;
  waits = turn.waits;
  granted = λ name lacked has. subst (λ (h : List grants.HeldName). (asked : Bool) × (asked ≡ true → takes ≡ true) × (blocker_of_name h (waiters_at state) number name asked ≡ None)) same (turn.granted name (ap (λ (h : List grants.HeldName). holds h number name false) same ∙ lacked) has);
  events = turn.events;
  log = turn.log;
  written = subst (λ (h : List grants.HeldName). AllByRecursion (λ (event : RowEvent). (holds h number event.table false ≡ true) ⊎ (blocker_of_name h (waiters_at state) number event.table false ≡ None)) turn.events) same turn.written;
  tables = λ name. subst (λ (h : List grants.HeldName). (has_table name after.tables ≡ has_table name state.tables) ⊎ ((takes ≡ true) × (blocker_of_name h (waiters_at state) number name true ≡ None))) same (turn.tables name);
}

from_opened : (takes nothing tool : Bool) (state : State) (number : ℕ) (after : State) → TurnOf takes number (opens_if nothing tool number state) after → TurnOf takes number state after
unfolding opens_if
from_opened takes nothing tool state number after turn = at (nothing || is_some (session_of number state.sessions)) turn where
  at : (b : Bool) → TurnOf takes number (cond b state (connected number tool state)) after → TurnOf takes number state after
  at true turn = turn
  at false turn = from_joined takes state (connected number tool state).made (state.sessions ++ new_session number tool ∷ []) number after (held_joined state.sessions number tool) turn

-- what a session wrote is of tables that it holds
writes_face : (o : Option Session) → (face_in o).hold.writes ≡ writes_of o
writes_face None = refl
writes_face (Some s) = refl

covered_held : (sessions : List Session) (number : ℕ) (names : List (List ℕ)) (locks : List Lock) (tables : Database) (events : List RowEvent) → ((name : List ℕ) → list_any (bytes_eq name) names ≡ true → holds (names_held sessions) number name false ≡ true) → EventsCovered names locks tables events
    → AllByRecursion (λ event. holds (names_held sessions) number event.table false ≡ true) events
covered_held sessions number names locks tables [] has all = tt
covered_held sessions number names locks tables (event ∷ events) has all = (has event.table all.0.named, covered_held sessions number names locks tables events has all.1)

may_each : (before : State) (number : ℕ) (events : List RowEvent) → AllByRecursion (λ event. holds (held_at before) number event.table false ≡ true) events → AllByRecursion (λ event. MayWrite before number event.table) events
may_each before number [] all = tt
may_each before number (event ∷ events) all = (inl all.0, may_each before number events all.1)

face_holds : (sessions : List Session) (number : ℕ) (name : List ℕ) → list_any (bytes_eq name) (face_of sessions number).hold.names ≡ true → holds (names_held sessions) number name false ≡ true
face_holds sessions number name is =
    let has : Holding sessions number name = holding_of sessions number name is in
    holds_from (names_held sessions) number name has.one has.is (ap (λ (m : ℕ). m == number) has.own ∙ same_number number) (ap (λ (m : List ℕ). bytes_eq m name) (sym (are_same name has.one.name has.same)) ∙ same_bytes name)

pub own_writes : (now : State) (number : ℕ) (tables : Database) → EventsCovered (face_of now.sessions number).hold.names (face_of now.sessions number).hold.locks tables (face_of now.sessions number).hold.writes → OwnWrites now number
own_writes now number tables covered =
    may_each now number (writes_of (session_of number now.sessions))
    (subst (λ (w : List RowEvent). AllByRecursion (λ event. holds (held_at now) number event.table false ≡ true) w) (writes_face (session_of number now.sessions))
    (covered_held now.sessions number (face_of now.sessions number).hold.names (face_of now.sessions number).hold.locks tables (face_of now.sessions number).hold.writes (face_holds now.sessions number) covered))

-- counters are no part of it
turn_recounted : (takes : Bool) (number : ℕ) (before after : State) (counters : List Counter) → TurnOf takes number before after → TurnOf takes number before (recounted counters after)
turn_recounted takes number before after counters turn = record { others = turn.others; waits = turn.waits; granted = turn.granted; events = turn.events; log = turn.log; written = turn.written; tables = turn.tables }

-- *Each entry is such a turn*
pub entries_are_turns : EntriesAreTurns
entries_are_turns limits scene journal entry run =
    let state : State = scene_state limits scene journal in
    let number : ℕ = entry.session in
    let nothing : Bool = is_command entry.asked in
    let tool : Bool = not (is_client entry.actor) in
    let now : State = opens entry state in
    let held : JournalHolds limits scene journal = journal_holds limits scene journal run in
    let covered = (held.holds.kept.fine number).covered in
    let own : OwnWrites now number = own_writes now number state.tables
    (subst (λ (f : Face). EventsCovered f.hold.names f.hold.locks state.tables f.hold.writes) (sym (faces_opened nothing tool number number state)) covered) in
    rw (state_more (opened limits scene.opening) journal entry) (from_opened (asks_names (about now number entry.asked)) nothing tool state number (after_entry state entry) (turn_recounted (asks_names (about now number entry.asked)) number now (leaves entry.side now number entry.asked) _ (turn_of entry.side now number entry.asked own)))

-- the others' faces stay
pub entry_faces : (limits : Limits) (scene : Scene) (journal : List Entry) (entry : Entry) → JournalHolds limits scene journal → (n : ℕ) → (n == entry.session) ≡ false → face_of (after_entry (scene_state limits scene journal) entry).sessions n ≡ face_of (scene_state limits scene journal).sessions n
entry_faces limits scene journal entry held n differ =
    let state : State = scene_state limits scene journal in
    let number : ℕ = entry.session in
    let nothing : Bool = is_command entry.asked in
    let tool : Bool = not (is_client entry.actor) in
    let now : State = opens entry state in
    let own : OwnWrites now number = own_writes now number state.tables
    (subst (λ (f : Face). EventsCovered f.hold.names f.hold.locks state.tables f.hold.writes) (sym (faces_opened nothing tool number number state)) (held.holds.kept.fine number).covered) in
    turn_faces entry.side now number entry.asked own n differ ∙ faces_opened nothing tool number n state
