-- What a session's turn leaves of a table that nobody writes: it stays as it is, but where it is dropped or renamed.
use Rattle.base_script.specs.declared.statement.Statement.{Statement}
use Rattle.server_model.specs.States.{is_of_tool}
use Rattle.server_model.proofs.Filling.{filled_case, numbered_table}
use Rattle.server_model.specs.Drawing.{numbered}
use Rattle.std.proofs.Common.{◌≡◌, ℕ, ◌==◌, Bool, true, false, not, List, [], ◌∷◌, ◌++◌, filter, cond, map, Option, Some, None, Result, Ok, Err, refl, sym, ap, ◌∙◌, subst}
use Rattle.std.specs.List.{AllByRecursion}
use Rattle.std.specs.Str.{bytes_eq}
use Rattle.std.proofs.lemmas.Bool.{true≢false}
use Rattle.base_values.specs.declared.event.Change.{Change}
use Rattle.base_values.specs.declared.event.RowEvent.{RowEvent}
use Rattle.table_store.specs.Databases.{Database, TableRows, find_table, has_table, rename_tables, with_change, without_table}
use Rattle.table_store.specs.declared.renames.NotRenamed.{NotRenamed}
use Rattle.table_store.specs.declared.renames.Pair.{Pair}
use Rattle.server_model.specs.Answers.{ok}
use Rattle.server_model.specs.Effects.{all_exist, begins, effect_unless, effect_within, defined, dropped, is_outside, locks_if, nothing_needed, renamed_or, result_effect, created}
use Rattle.server_model.specs.Operations.{Operation, after_events, change_table, copy_operation, events_of, operation_result, result_in, statement_result, table_of, operation_of}
use Rattle.server_model.specs.Blockers.{blocker, need, need_within}
use Rattle.server_model.specs.PlainServer.{Served, at_rest, called_unless, calls, counting, does, done, did, goes_on, holding, is_over, locking, loses, polled_of, polled_over, polled_unless, polls, unlocking, without_waiting}
use Rattle.server_model.specs.States.{State, is_in_transaction, new_session, session_of, view, waiting_of, with_session, writes_of}
use Rattle.server_model.specs.declared.answer.Answer.{Answer}
use Rattle.server_model.specs.declared.answer.Answer.TheVariants as answers
use Rattle.server_model.specs.declared.need.Need.{Need}
use Rattle.server_model.specs.declared.request.Request.{Request}
use Rattle.server_model.specs.declared.request.Request.TheVariants as requests
use Rattle.server_model.specs.declared.session.Session.{Session}
use Rattle.server_model.specs.declared.session.Waiting.{Waiting}
use Rattle.server_model.specs.declared.work.StatementResult.{StatementResult}
use Rattle.server_model.proofs.LockedRows.Finding.{change_if, found_after}
use Rattle.server_model.proofs.LockedRows.Tests.{are_same}
use Rattle.proof_journals.specs.Turns.{request_of}
use Rattle.proof_journals.proofs.Moves.{drop_moves, gone_none}
use Rattle.proof_migration.proofs.Once.Past.{makes}
use Rattle.proof_plans.proofs.Complete.Untouched.{NoneOf}

-- the request writes no row of the table
abbrev pub WritesNo : List ℕ → Request → Type 0
WritesNo name (requests.Do statement) = bytes_eq (table_of statement) name ≡ false
WritesNo name (requests.CopyRow from into map key) = bytes_eq into name ≡ false
WritesNo name request = Unit {0}

-- no session wrote a row of it
abbrev pub Unwritten : List ℕ → List Session → Type 0
Unwritten name sessions = AllByRecursion (λ (session : Session). NoneOf name session.writes) sessions

-- what is left of the table: it is as it was, or gone; or a RENAME was done
pub data Leaves (name : List ℕ) (before after : Database) (request : Request) (answer : Answer) : Type 0 where
  stays : find_table name after ≡ find_table name before → Leaves name before after request answer
  goes : find_table name after ≡ None → Leaves name before after request answer
  renames : (pairs : List Pair) (count : ℕ) → request ≡ requests.Rename pairs → answer ≡ answers.Ok count → Leaves name before after request answer

-- nobody wrote a row of it; and a request that makes no table leaves it so
pub record Spared (name : List ℕ) (before : Database) (request : Request) (served : Served) : Type 0 where
  pub unwritten : Unwritten name served.after.sessions
  pub table : makes request ≡ false → Leaves name before served.after.tables request served.answer

module _ (name : List ℕ) where
  -- EVENTS

  none_joined : (some others : List RowEvent) → NoneOf name some → NoneOf name others → NoneOf name (some ++ others)
  none_joined [] others one two = two
  none_joined (event ∷ some) others one two = (one.0, none_joined some others one.1 two)

  none_of_other : (table : List ℕ) (changes : List Change) → bytes_eq table name ≡ false → NoneOf name (events_of table changes)
  none_of_other table [] off = tt
  none_of_other table (change ∷ changes) off = (off, none_of_other table changes off)

  found_events : (events : List RowEvent) (tables : Database) → NoneOf name events → find_table name (after_events tables events) ≡ find_table name tables
  unfolding after_events
  found_events [] tables none = refl
  found_events (event ∷ events) tables none =
      found_events events (with_change event.table (change_table event.change) tables) none.1 ∙ found_after event.table name event.change tables ∙ ap (λ (b : Bool). change_if b event.change (find_table name tables)) none.0

  operation_none : (tables : Database) (operation : Operation) → bytes_eq operation.table name ≡ false → NoneOf name (operation_result tables operation).events
  unfolding operation_result
  operation_none tables operation off = by (find_table operation.table tables) where
    by : (found : Option TableRows) → NoneOf name (result_in operation found).events
    by None = tt
    by (Some table) = none_of_other operation.table _ off

  -- SESSIONS

  with_unwritten : (number : ℕ) (change : Session → Session) (sessions : List Session) → ((session : Session) → NoneOf name session.writes → NoneOf name (change session).writes) → Unwritten name sessions → Unwritten name (with_session number change sessions)
  unfolding with_session
  with_unwritten number change [] keeps all = tt
  with_unwritten number change (first ∷ sessions) keeps all = by (first.number == number) (with_unwritten number change sessions keeps all.1) where
    by : (b : Bool) → Unwritten name (with_session number change sessions) → Unwritten name (cond b (change first ∷ sessions) (first ∷ with_session number change sessions))
    by true rest = (keeps first all.0, all.1)
    by false rest = (all.0, rest)

  less_unwritten : (test : Session → Bool) (sessions : List Session) → Unwritten name sessions → Unwritten name (filter test sessions)
  less_unwritten test [] all = tt
  less_unwritten test (first ∷ sessions) all = by (test first) (less_unwritten test sessions all.1) where
    by : (b : Bool) → Unwritten name (filter test sessions) → Unwritten name (cond b (first ∷ filter test sessions) (filter test sessions))
    by true rest = (all.0, rest)
    by false rest = rest

  pub joined_unwritten : (number : ℕ) (tool : Bool) (sessions : List Session) → Unwritten name sessions → Unwritten name (sessions ++ new_session number tool ∷ [])
  joined_unwritten number tool [] all = (tt, tt)
  joined_unwritten number tool (first ∷ sessions) all = (all.0, joined_unwritten number tool sessions all.1)

  own_unwritten : (number : ℕ) (sessions : List Session) → Unwritten name sessions → NoneOf name (writes_of (session_of number sessions))
  own_unwritten number [] all = tt
  own_unwritten number (first ∷ sessions) all = by (first.number == number) (own_unwritten number sessions all.1) where
    by : (b : Bool) → NoneOf name (writes_of (session_of number sessions)) → NoneOf name (writes_of (cond b (Some first) (session_of number sessions)))
    by true rest = all.0
    by false rest = rest

  -- WHAT IS DONE

  rested : (request : Request) (answer : Answer) (state : State) → Unwritten name state.sessions → Spared name state.tables request (record { answer = answer; after = state })
  rested request answer state all = record { unwritten = all; table = λ off. stays refl }

  grown : (request : Request) (answer : Answer) (need : Need) (events : List RowEvent) (state : State) (number : ℕ) → NoneOf name events → Unwritten name state.sessions → Spared name state.tables request (record { answer = answer; after = goes_on number need events state })
  grown request answer need events state number none all = record { unwritten = with_unwritten number (holding need events) state.sessions (λ session own. none_joined session.writes events own none) all; table = λ off. stays refl }

  written : (request : Request) (answer : Answer) (events : List RowEvent) (state : State) (number : ℕ) → NoneOf name events → Unwritten name state.sessions → Spared name state.tables request (does (Rattle.server_model.specs.Effects.Writes answer events) state number)
  written request answer events state number none all = record {
    unwritten = with_unwritten number at_rest state.sessions (λ session own. tt) all;
    table = λ off. stays (found_events (writes_of (session_of number state.sessions) ++ events) state.tables (none_joined (writes_of (session_of number state.sessions)) events (own_unwritten number state.sessions all) none));
  }

  resulted : (request : Request) (busy : Bool) (need : Need) (result : StatementResult) (state : State) (number : ℕ) → NoneOf name result.events → Unwritten name state.sessions → Spared name state.tables request (does (result_effect busy need result) state number)
  resulted request true need result state number none all = grown request result.answer need result.events state number none all
  resulted request false need result state number none all = written request result.answer result.events state number none all

  dropped_so : (table : List ℕ) (state : State) (number : ℕ) (b : Bool) → Unwritten name state.sessions → Spared name state.tables (requests.Drop table) (does (defined (dropped b table state.tables)) state number)
  dropped_so table state number false all = rested (requests.Drop table) _ state all
  dropped_so table state number true all = record { unwritten = all; table = λ off. by (bytes_eq name table) refl } where
    by : (b : Bool) → bytes_eq name table ≡ b → Leaves name state.tables (without_table table state.tables) (requests.Drop table) ok
    by true same = goes (ap (λ (n : List ℕ). find_table n (without_table table state.tables)) (are_same name table same) ∙ gone_none table state.tables)
    by false other = stays ((drop_moves table state.tables).others name (rw other refl))

  renamed_so : (pairs : List Pair) (state : State) (number : ℕ) (result : Result Database NotRenamed) → Unwritten name state.sessions → Spared name state.tables (requests.Rename pairs) (does (defined (renamed_or result)) state number)
  renamed_so pairs state number (Ok tables) all = record { unwritten = all; table = λ off. renames pairs _ refl refl }
  renamed_so pairs state number (Err reason) all = rested (requests.Rename pairs) _ state all

  created_so : (schema : _) (state : State) (number : ℕ) (b : Bool) → Unwritten name state.sessions → Spared name state.tables (requests.Create schema) (does (defined (created b schema state.tables)) state number)
  created_so schema state number true all = rested (requests.Create schema) _ state all
  created_so schema state number false all = record { unwritten = all; table = λ off. absurd (true≢false off) }

  within_spared : (busy : Bool) (seen : Database) (state : State) (number : ℕ) (request : Request) → WritesNo name request → Unwritten name state.sessions → Spared name state.tables request (does (effect_within busy seen state request) state number)
  within_spared busy seen state number requests.Begin off all = grown requests.Begin _ nothing_needed [] state number tt all
  within_spared busy seen state number requests.Commit off all = written requests.Commit _ [] state number tt all
  within_spared busy seen state number requests.Rollback off all = record { unwritten = with_unwritten number at_rest state.sessions (λ session own. tt) all; table = λ off. stays refl }
  within_spared busy seen state number (requests.Do statement) off all =
      resulted (requests.Do statement) busy (need_within seen (requests.Do statement)) (statement_result seen statement) state number (operation_none seen (operation_of statement) off) all
  within_spared busy seen state number (requests.Ends table) off all = rested (requests.Ends table) _ state all
  within_spared busy seen state number (requests.ChunkEnd table low top size) off all = rested (requests.ChunkEnd table low top size) _ state all
  within_spared busy seen state number (requests.BeginSpan table span size) off all = by (find_table table state.tables) where
    by : (found : Option TableRows) → Spared name state.tables (requests.BeginSpan table span size) (does (begins found span size (need_within seen (requests.BeginSpan table span size))) state number)
    by None = rested (requests.BeginSpan table span size) _ state all
    by (Some found) = grown (requests.BeginSpan table span size) _ (need_within seen (requests.BeginSpan table span size)) [] state number tt all
  within_spared busy seen state number (requests.CopyRow from into map key) off all =
      resulted (requests.CopyRow from into map key) busy (need_within seen (requests.CopyRow from into map key)) (operation_result seen (copy_operation seen from into map key)) state number (operation_none seen (copy_operation seen from into map key) off) all
  within_spared busy seen state number (requests.LockTables names) off all = by (all_exist names state.tables) where
    by : (b : Bool) → Spared name state.tables (requests.LockTables names) (does (locks_if b names) state number)
    by true = record { unwritten = with_unwritten number (locking names) state.sessions (λ session own. own) all; table = λ off. stays refl }
    by false = rested (requests.LockTables names) _ state all
  within_spared busy seen state number requests.Unlock off all = record { unwritten = with_unwritten number unlocking state.sessions (λ session own. own) all; table = λ off. stays refl }
  within_spared busy seen state number (requests.Create schema) off all = created_so schema state number (has_table schema.name state.tables) all
  within_spared busy seen state number (requests.Drop table) off all = dropped_so table state number (has_table table state.tables) all
  within_spared busy seen state number (requests.Rename pairs) off all = renamed_so pairs state number (rename_tables pairs state.tables) all
  within_spared busy seen state number requests.LogEnd off all = rested requests.LogEnd _ state all
  within_spared busy seen state number (requests.ReadLog position limit tables) off all = rested (requests.ReadLog position limit tables) _ state all
  within_spared busy seen state number requests.ShowTables off all = rested requests.ShowTables _ state all
  within_spared busy seen state number requests.ShowWaiting off all = rested requests.ShowWaiting _ state all
  within_spared busy seen state number (requests.ShowCounter table) off all = rested (requests.ShowCounter table) _ state all
  within_spared busy seen state number (requests.SetCounter table least) off all = rested (requests.SetCounter table least) _ state all

  did_spared : (state : State) (number : ℕ) (request : Request) → WritesNo name request → Unwritten name state.sessions → Spared name state.tables request (did state number request)
  unfolding did
  did_spared state number request off all = by (is_outside (session_of number state.sessions) request) where
    by : (b : Bool) → Spared name state.tables request (does (effect_unless b (is_in_transaction (session_of number state.sessions)) (view number state) state request) state number)
    by true = rested request _ state all
    by false = within_spared (is_in_transaction (session_of number state.sessions)) (view number state) state number request off all

  unnumbered : {before after : Database} {answer : Answer} (n : Option ℕ) (statement : Statement) → Leaves name before after (requests.Do (numbered n statement)) answer → Leaves name before after (requests.Do statement) answer
  unnumbered n statement (stays same) = stays same
  unnumbered n statement (goes none) = goes none
  unnumbered n statement (renames pairs count is ok) = absurd cc

  done_spared : (state : State) (number : ℕ) (request : Request) → WritesNo name request → Unwritten name state.sessions → Spared name state.tables request (done state number request)
  done_spared state number request off all =
      filled_case (λ asked full. WritesNo name asked → Spared name state.tables asked (did state number full)) (λ r away. did_spared state number r away all)
      (λ statement n away.
      let one : Spared name state.tables (requests.Do (numbered n statement)) (did state number (requests.Do (numbered n statement))) =
      did_spared state number (requests.Do (numbered n statement)) (subst (λ (t : List ℕ). bytes_eq t name ≡ false) (sym (numbered_table n statement)) away) all in
      record { unwritten = one.unwritten; table = λ never. unnumbered n statement (one.table never) })
      (is_of_tool (session_of number state.sessions)) state.tables state.counters request off

  -- *Calls and polls*
  pub called_spared : (state : State) (number : ℕ) (request : Request) → WritesNo name request → Unwritten name state.sessions → Spared name state.tables request (calls state number request)
  unfolding calls
  called_spared state number request off all = by (blocker state number (need state number request)) where
    by : (blocked : Option ℕ) → Spared name state.tables request (called_unless blocked state number request)
    by None = done_spared state number request off all
    by (Some one) = record { unwritten = with_unwritten number (counting 0) state.sessions (λ session own. own) all; table = λ off. stays refl }

  pub polled_spared : (state : State) (number : ℕ) (request : Request) → request_of (waiting_of number state.waiting) ≡ Some request → WritesNo name request → Unwritten name state.sessions → Spared name state.tables request (polls state number)
  unfolding polls
  polled_spared state number request waits off all = by (waiting_of number state.waiting) waits where
    over : (late : Bool) (one : ℕ) → Spared name state.tables request (polled_over late one state number)
    over true one = record { unwritten = with_unwritten number at_rest state.sessions (λ session own. tt) all; table = λ off. stays refl }
    over false one = record { unwritten = with_unwritten number (counting _) state.sessions (λ session own. own) all; table = λ off. stays refl }

    unless : (blocked : Option ℕ) → Spared name state.tables request (polled_unless blocked state number request)
    unless None = done_spared (without_waiting number state) number request off all
    unless (Some one) = over (is_over state number) one

    by : (waiting : Option Waiting) → request_of waiting ≡ Some request → Spared name state.tables request (polled_of waiting state number)
    by None none = absurd cc
    by (Some waiting) some = let one : waiting.request ≡ request = cc in subst (λ (r : Request). Spared name state.tables request (polled_unless (blocker state number (need state number r)) state number r)) (sym one) (unless (blocker state number (need state number request)))

  -- a session that is lost
  pub lost_unwritten : (state : State) (number : ℕ) → Unwritten name state.sessions → Unwritten name (loses number state).sessions
  unfolding loses
  lost_unwritten state number all = less_unwritten (λ session. not (session.number == number)) state.sessions all

  pub lost_tables : (state : State) (number : ℕ) → (loses number state).tables ≡ state.tables
  unfolding loses
  lost_tables state number = refl
