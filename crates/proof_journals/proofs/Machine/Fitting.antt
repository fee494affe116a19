-- Each request has an answer that it may have; and what a session has locked it needn't wait for.
use Rattle.server_model.proofs.Filling.{filled_case}
use Rattle.server_model.specs.States.{is_of_tool}
use Rattle.server_model.specs.Drawing.{numbered}
use Rattle.std.proofs.Common.{◌≡◌, ℕ, Bool, true, false, ◌&&◌, ◌||◌, List, [], ◌∷◌, cond, Option, Some, None, Result, Ok, Err, refl, sym, ap, ◌∙◌, subst}
use Rattle.std.specs.Prelude.{◌==◌, unwrap_or}
use Rattle.std.specs.List.{list_any}
use Rattle.std.specs.Str.{bytes_eq}
use Rattle.std.proofs.Math.Bool.{or-true}
use Rattle.std.proofs.lemmas.Bool.{false≢true}
use Rattle.base_values.specs.declared.value.Value.{Value}
use Rattle.base_values.specs.GhoSchema.Rows.{key_places}
use Rattle.server_locks.specs.MetadataLocks.Grants.{holds, blocker_of_name, blocker_of_names}
use Rattle.server_locks.specs.RowLocks.Grants.{blocker_of_set}
use Rattle.table_store.specs.Databases.{TableRows, Database, find_table, has_table, rename_tables}
use Rattle.base_script.specs.declared.script.ScriptWord.TheVariants as words
use Rattle.server_model.specs.declared.answer.Answer.{Answer}
use Rattle.server_model.specs.declared.answer.Answer.TheVariants as answers
use Rattle.server_model.specs.Answers.{ok}
use Rattle.server_model.specs.declared.need.Need.{Need}
use Rattle.server_model.specs.declared.request.Request.{Request}
use Rattle.server_model.specs.declared.request.Request.TheVariants as requests
use Rattle.server_model.specs.declared.session.HeldName.{HeldName}
use Rattle.server_model.specs.declared.session.Session.{Session}
use Rattle.server_model.specs.declared.session.Waiting.{Waiting}
use Rattle.server_model.specs.declared.work.StatementResult.{StatementResult}
use Rattle.server_model.specs.Chunks.{span_keys, keys_of, ends_of}
use Rattle.server_model.specs.Listings.{events_read}
use Rattle.server_model.specs.Operations.{statement_result, operation_result, copy_operation}
use Rattle.server_model.specs.States.{State, session_of, is_in_transaction, locked_names, names_held, next_of, view, waiting_of, waiters}
use Rattle.server_model.specs.Blockers.{need, need_within, blocker}
use Rattle.server_model.specs.Effects.{of_table, result_effect, begins, all_exist, locks_if, created, dropped, renamed_or, defined, effect_within, effect_unless, is_outside}
use Rattle.server_model.specs.PlainServer.{does, done, did, called_unless, calls, is_over, polled_over, polled_unless, polled_of, polls, without_waiting}
use Rattle.proof_journals.specs.Turns.{request_of}
use Rattle.proof_journals.proofs.Names.{as_held}
use Rattle.proof_journals.proofs.Replies.{IsReply, line_replies_so, copied_replies}
use Rattle.proof_journals.proofs.ServerTurns.Others.{holds_parts}
use Rattle.server_model.proofs.LockedRows.Tests.{same_bytes, are_same}
use Rattle.proof_journals.specs.Machine.Standings.{needs_names, gives, is_refusable, serves_to}

-- WHAT IS DONE

-- a statement's answer
statement_fits : (request : Request) → needs_names request ≡ true → ((count : ℕ) → gives request (answers.Ok count) ≡ true) → ((rows : List (List Value)) → gives request (answers.Rows rows) ≡ true) → is_refusable request ≡ true → (answer : Answer) → IsReply answer → serves_to request answer ≡ true
statement_fits request names counts shows refuses (answers.Ok count) is = counts count
statement_fits request names counts shows refuses (answers.Rows rows) is = shows rows
statement_fits request names counts shows refuses (answers.Refused number column) is = refuses
statement_fits request names counts shows refuses answer is = absurd is

result_answer : (busy : Bool) (need : Need) (result : StatementResult) (state : State) (number : ℕ) → (does (result_effect busy need result) state number).answer ≡ result.answer
result_answer true need result state number = refl
result_answer false need result state number = refl

module _ (state : State) (number : ℕ) where
  do_fits : (seen : Database) (busy : Bool) (request : Request) (need : Need) (result : StatementResult) → serves_to request result.answer ≡ true → serves_to request (does (result_effect busy need result) state number).answer ≡ true
  do_fits seen busy request need result is = ap (serves_to request) (result_answer busy need result state number) ∙ is

  ends_fit : (table : List ℕ) (keys : List (List Value)) → serves_to (requests.Ends table) (ends_of keys) ≡ true
  ends_fit table [] = refl
  ends_fit table (key ∷ keys) = refl

  within_fits : (request : Request) → serves_to request (does (effect_within (is_in_transaction (session_of number state.sessions)) (view number state) state request) state number).answer ≡ true
  unfolding span_keys events_read
  within_fits requests.Begin = refl
  within_fits requests.Commit = refl
  within_fits requests.Rollback = refl
  within_fits (requests.Do statement) =
      do_fits (view number state) (is_in_transaction (session_of number state.sessions)) (requests.Do statement) (need_within (view number state) (requests.Do statement)) (statement_result (view number state) statement)
      (statement_fits (requests.Do statement) refl (λ count. refl) (λ rows. refl) refl (statement_result (view number state) statement).answer (line_replies_so (view number state) (words.Do statement)))
  within_fits (requests.Ends table) = at (find_table table state.tables) where
    at : (found : Option TableRows) → serves_to (requests.Ends table) (of_table found (λ t. ends_of (keys_of (key_places t.schema) t.rows))) ≡ true
    at None = refl
    at (Some t) = ends_fit table (keys_of (key_places t.schema) t.rows)
  within_fits (requests.ChunkEnd table low top size) = at (find_table table state.tables) where
    at : (found : Option TableRows) → serves_to (requests.ChunkEnd table low top size) (of_table found (λ t. answers.End (Rattle.server_model.specs.Chunks.chunk_end low top size t))) ≡ true
    at None = refl
    at (Some t) = refl
  within_fits (requests.BeginSpan table span size) = at (find_table table state.tables) where
    at : (found : Option TableRows) → serves_to (requests.BeginSpan table span size) (does (begins found span size (need_within (view number state) (requests.BeginSpan table span size))) state number).answer ≡ true
    at None = refl
    at (Some t) = refl
  within_fits (requests.CopyRow from into map key) =
      do_fits (view number state) (is_in_transaction (session_of number state.sessions)) (requests.CopyRow from into map key) (need_within (view number state) (requests.CopyRow from into map key)) (operation_result (view number state) (copy_operation (view number state) from into map key))
      (statement_fits (requests.CopyRow from into map key) refl (λ count. refl) (λ rows. refl) refl (operation_result (view number state) (copy_operation (view number state) from into map key)).answer (copied_replies (view number state) from into map key))
  within_fits (requests.LockTables names) = at (all_exist names state.tables) where
    at : (b : Bool) → serves_to (requests.LockTables names) (does (locks_if b names) state number).answer ≡ true
    at true = refl
    at false = refl
  within_fits requests.Unlock = refl
  within_fits (requests.Create schema) = at (created (has_table schema.name state.tables) schema state.tables) where
    at : (result : Result Database ℕ) → serves_to (requests.Create schema) (does (defined result) state number).answer ≡ true
    at (Ok tables) = refl
    at (Err error) = refl
  within_fits (requests.Drop name) = at (dropped (has_table name state.tables) name state.tables) where
    at : (result : Result Database ℕ) → serves_to (requests.Drop name) (does (defined result) state number).answer ≡ true
    at (Ok tables) = refl
    at (Err error) = refl
  within_fits (requests.Rename pairs) = at (renamed_or (rename_tables pairs state.tables)) where
    at : (result : Result Database ℕ) → serves_to (requests.Rename pairs) (does (defined result) state number).answer ≡ true
    at (Ok tables) = refl
    at (Err error) = refl
  within_fits requests.LogEnd = refl
  within_fits (requests.ReadLog position limit tables) = refl
  within_fits requests.ShowTables = refl
  within_fits requests.ShowWaiting = refl
  within_fits (requests.ShowCounter table) = at (find_table table state.tables) where
    at : (found : Option TableRows) → serves_to (requests.ShowCounter table) (of_table found (λ t. answers.At (unwrap_or (next_of table state.counters) 0))) ≡ true
    at None = refl
    at (Some t) = refl
  within_fits (requests.SetCounter table least) = at (find_table table state.tables) where
    at : (found : Option TableRows) → serves_to (requests.SetCounter table least) (of_table found (λ t. ok)) ≡ true
    at None = refl
    at (Some t) = refl

-- a request that names no table isn't refused for one that isn't locked
abbrev RefusedFits : Request → Bool → Type 0
RefusedFits request outside = outside ≡ true → is_refusable request ≡ true

nothing_outside : (found : Option Session) (request : Request) → RefusedFits request (is_outside found request)
nothing_outside None request = λ is. absurd (false≢true is)
nothing_outside (Some session) request = by (locked_names session.names) request where
  by : (locked : List (List ℕ)) (request : Request) → RefusedFits request (Rattle.server_model.specs.Effects.is_beyond locked (Rattle.server_model.specs.States.tables_named request))
  by [] request = λ is. absurd (false≢true is)
  by (first ∷ locked) requests.Begin = λ is. absurd (false≢true is)
  by (first ∷ locked) requests.Commit = λ is. absurd (false≢true is)
  by (first ∷ locked) requests.Rollback = λ is. absurd (false≢true is)
  by (first ∷ locked) requests.Unlock = λ is. absurd (false≢true is)
  by (first ∷ locked) requests.LogEnd = λ is. absurd (false≢true is)
  by (first ∷ locked) requests.ShowTables = λ is. absurd (false≢true is)
  by (first ∷ locked) requests.ShowWaiting = λ is. absurd (false≢true is)
  by (first ∷ locked) (requests.ReadLog position limit tables) = λ is. refl
  by (first ∷ locked) (requests.Do statement) = λ is. refl
  by (first ∷ locked) (requests.Ends table) = λ is. refl
  by (first ∷ locked) (requests.ChunkEnd table low top size) = λ is. refl
  by (first ∷ locked) (requests.BeginSpan table span size) = λ is. refl
  by (first ∷ locked) (requests.CopyRow from into map key) = λ is. refl
  by (first ∷ locked) (requests.LockTables names) = λ is. refl
  by (first ∷ locked) (requests.Create schema) = λ is. refl
  by (first ∷ locked) (requests.Drop name) = λ is. refl
  by (first ∷ locked) (requests.Rename pairs) = λ is. refl
  by (first ∷ locked) (requests.ShowCounter table) = λ is. refl
  by (first ∷ locked) (requests.SetCounter table least) = λ is. refl

did_fits : (state : State) (number : ℕ) (request : Request) → serves_to request (did state number request).answer ≡ true
unfolding did
did_fits state number request = at (is_outside (session_of number state.sessions) request) (nothing_outside (session_of number state.sessions) request) where
  at : (b : Bool) → RefusedFits request b → serves_to request (does (effect_unless b (is_in_transaction (session_of number state.sessions)) (view number state) state request) state number).answer ≡ true
  at true is = is refl
  at false is = within_fits state number request

done_fits : (state : State) (number : ℕ) (request : Request) → serves_to request (done state number request).answer ≡ true
done_fits state number request =
    filled_case (λ asked full. serves_to asked (did state number full).answer ≡ true) (did_fits state number) (λ statement n. did_fits state number (requests.Do (numbered n statement)))
    (is_of_tool (session_of number state.sessions)) state.tables state.counters request

-- WHAT WAITS

abbrev NeedFits : Request → Option ℕ → Type 0
NeedFits request None = Unit {0}
NeedFits request (Some by) = needs_names request ≡ true

names_fit : (request : Request) (by : Option ℕ) → needs_names request ≡ true → NeedFits request by
names_fit request None is = tt
names_fit request (Some by) is = is

-- who needs no name isn't blocked
need_fits : (state : State) (number : ℕ) (request : Request) → NeedFits request (blocker state number (need state number request))
unfolding blocker_of_names blocker_of_set
need_fits state number requests.Begin = tt
need_fits state number requests.Commit = tt
need_fits state number requests.Rollback = tt
need_fits state number requests.Unlock = tt
need_fits state number requests.LogEnd = tt
need_fits state number (requests.ReadLog position limit tables) = tt
need_fits state number requests.ShowTables = tt
need_fits state number requests.ShowWaiting = tt
need_fits state number (requests.ShowCounter table) = tt
need_fits state number (requests.SetCounter table least) = names_fit (requests.SetCounter table least) (blocker state number (need state number (requests.SetCounter table least))) refl
need_fits state number (requests.Do statement) = names_fit (requests.Do statement) (blocker state number (need state number (requests.Do statement))) refl
need_fits state number (requests.Ends table) = names_fit (requests.Ends table) (blocker state number (need state number (requests.Ends table))) refl
need_fits state number (requests.ChunkEnd table low top size) = names_fit (requests.ChunkEnd table low top size) (blocker state number (need state number (requests.ChunkEnd table low top size))) refl
need_fits state number (requests.BeginSpan table span size) = names_fit (requests.BeginSpan table span size) (blocker state number (need state number (requests.BeginSpan table span size))) refl
need_fits state number (requests.CopyRow from into map key) = names_fit (requests.CopyRow from into map key) (blocker state number (need state number (requests.CopyRow from into map key))) refl
need_fits state number (requests.LockTables names) = names_fit (requests.LockTables names) (blocker state number (need state number (requests.LockTables names))) refl
need_fits state number (requests.Create schema) = names_fit (requests.Create schema) (blocker state number (need state number (requests.Create schema))) refl
need_fits state number (requests.Drop name) = names_fit (requests.Drop name) (blocker state number (need state number (requests.Drop name))) refl
need_fits state number (requests.Rename pairs) = names_fit (requests.Rename pairs) (blocker state number (need state number (requests.Rename pairs))) refl

-- *The answer of a call is one that its request may have*
pub call_fits : (state : State) (number : ℕ) (request : Request) → serves_to request (calls state number request).answer ≡ true
unfolding calls
call_fits state number request = at (blocker state number (need state number request)) (need_fits state number request) where
  at : (by : Option ℕ) → NeedFits request by → serves_to request (called_unless by state number request).answer ≡ true
  at None is = done_fits state number request
  at (Some by) is = is

-- *.. and of a poll*
pub poll_fits : (state : State) (number : ℕ) (request : Request) → request_of (waiting_of number state.waiting) ≡ Some request → serves_to request (polls state number).answer ≡ true
unfolding polls
poll_fits state number request waits = at (waiting_of number state.waiting) waits where
  over : needs_names request ≡ true → (b : Bool) (by : ℕ) → serves_to request (polled_over b by state number).answer ≡ true
  over is true by = is
  over is false by = is

  unless : (by : Option ℕ) → NeedFits request by → serves_to request (polled_unless by state number request).answer ≡ true
  unless None is = done_fits (without_waiting number state) number request
  unless (Some by) is = over is (is_over state number) by

  at : (waiting : Option Waiting) → request_of waiting ≡ Some request → serves_to request (polled_of waiting state number).answer ≡ true
  at None none = absurd cc
  at (Some waiting) same = let one : waiting.request ≡ request = cc in subst (λ (r : Request). serves_to request (polled_unless (blocker state number (need state number r)) state number r).answer ≡ true) (sym one) (unless (blocker state number (need state number request)) (need_fits state number request))

-- WHAT IS LOCKED

own_locked : (holder number : ℕ) (held : List HeldName) (name : List ℕ) → (holder == number) ≡ true → list_any (bytes_eq name) (locked_names held) ≡ true → holds (as_held holder held) number name true ≡ true
unfolding holds
own_locked holder number [] name own is = absurd (false≢true is)
own_locked holder number (h ∷ held) name own is = at h.exclusive refl is (own_locked holder number held name own) where
  rest_is : holds (as_held holder held) number name true ≡ true → ((holder == number) && (bytes_eq h.name name && (h.exclusive || false)) || holds (as_held holder held) number name true) ≡ true
  rest_is more = rw more (or-true ((holder == number) && (bytes_eq h.name name && (h.exclusive || false))))

  first : (b : Bool) → bytes_eq name h.name ≡ b → h.exclusive ≡ true → (b || list_any (bytes_eq name) (locked_names held)) ≡ true → (list_any (bytes_eq name) (locked_names held) ≡ true → holds (as_held holder held) number name true ≡ true)
      → ((holder == number) && (bytes_eq h.name name && (h.exclusive || false)) || holds (as_held holder held) number name true) ≡ true
  first true same exclusive is rest = rw (own, exclusive, ap (λ (n : List ℕ). bytes_eq h.name n) (are_same name h.name same) ∙ same_bytes h.name) refl
  first false off exclusive is rest = rest_is (rest is)

  at : (b : Bool) → h.exclusive ≡ b → list_any (bytes_eq name) (Rattle.proof_journals.specs.Holdings.names_of (cond b (h ∷ Rattle.server_model.specs.States.kept_names held) (Rattle.server_model.specs.States.kept_names held))) ≡ true
      → (list_any (bytes_eq name) (locked_names held) ≡ true → holds (as_held holder held) number name true ≡ true) → ((holder == number) && (bytes_eq h.name name && (h.exclusive || false)) || holds (as_held holder held) number name true) ≡ true
  at true exclusive is rest = first (bytes_eq name h.name) refl exclusive is rest
  at false shared is rest = rest_is (rest is)

locked_held : (number : ℕ) (sessions : List Session) (found : Session) (name : List ℕ) → session_of number sessions ≡ Some found → list_any (bytes_eq name) (locked_names found.names) ≡ true → holds (names_held sessions) number name true ≡ true
locked_held number [] found name is among = absurd cc
locked_held number (first ∷ sessions) found name is among = at (first.number == number) refl is (λ there. locked_held number sessions found name there among) where
  at : (b : Bool) → (first.number == number) ≡ b → cond b (Some first) (session_of number sessions) ≡ Some found → (session_of number sessions ≡ Some found → holds (names_held sessions) number name true ≡ true) → holds (names_held (first ∷ sessions)) number name true ≡ true
  at true here is rest =
      let same : first ≡ found = cc in
      holds_parts (as_held first.number first.names) (names_held sessions) number name true ∙ rw (own_locked first.number number first.names name here (ap (λ (s : Session). list_any (bytes_eq name) (locked_names s.names)) same ∙ among)) refl
  at false here is rest = holds_parts (as_held first.number first.names) (names_held sessions) number name true ∙ rw (rest is) (or-true (holds (as_held first.number first.names) number name true))

-- the answer came at once
abbrev pub IsPrompt : Answer → Type 0
IsPrompt (answers.Waits by) = ⊥
IsPrompt (answers.TimedOut waited) = ⊥
IsPrompt answer = Unit {0}

done_prompt : (answer : Answer) → Rattle.proof_journals.proofs.Waiting.IsDone answer → IsPrompt answer
done_prompt (answers.Waits by) is = is
done_prompt (answers.TimedOut waited) is = is
done_prompt answer is = tt

none_blocks : (state : State) (number : ℕ) (found : Session) (name : List ℕ) → session_of number state.sessions ≡ Some found → list_any (bytes_eq name) (locked_names found.names) ≡ true → blocker state number (need state number (requests.Drop name)) ≡ None
unfolding blocker_of_names blocker_of_name blocker_of_set
none_blocks state number found name is among = rw (locked_held number state.sessions found name is among) refl

-- *A table that the session locked is dropped at once*
pub drop_prompt : (state : State) (number : ℕ) (found : Session) (name : List ℕ) → session_of number state.sessions ≡ Some found → list_any (bytes_eq name) (locked_names found.names) ≡ true → IsPrompt (calls state number (requests.Drop name)).answer
unfolding calls
drop_prompt state number found name is among = at (blocker state number (need state number (requests.Drop name))) (none_blocks state number found name is among) where
  at : (by : Option ℕ) → by ≡ None → IsPrompt (called_unless by state number (requests.Drop name)).answer
  at None is = done_prompt (done state number (requests.Drop name)).answer (Rattle.proof_journals.proofs.Waiting.done_answers state number (requests.Drop name))
  at (Some by) is = absurd cc
