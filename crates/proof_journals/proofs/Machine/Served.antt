-- What a request leaves of its session, as its answer tells, and of the other sessions.
use Rattle.server_model.proofs.Filling.{filled_case}
use Rattle.server_model.specs.States.{is_of_tool}
use Rattle.server_model.specs.Drawing.{numbered}
use Rattle.std.proofs.Common.{◌≡◌, ℕ, Bool, true, false, List, [], ◌++◌, Option, Some, None, Result, Ok, Err, refl, sym, ap, ◌∙◌, subst}
use Rattle.std.specs.Prelude.{◌==◌, is_some}
use Rattle.base_values.specs.declared.event.RowEvent.{RowEvent}
use Rattle.base_values.specs.declared.mysql_errors.TheConstants.{ER_TABLE_NOT_LOCKED}
use Rattle.table_store.specs.Databases.{TableRows, Database, find_table, has_table, rename_tables}
use Rattle.base_script.specs.declared.actor.Side.{Side}
use Rattle.base_script.specs.declared.actor.Side.TheVariants.{Before, After}
use Rattle.server_model.specs.declared.answer.Answer.{Answer}
use Rattle.server_model.specs.declared.answer.Answer.TheVariants as answers
use Rattle.server_model.specs.declared.entry.Asked.{Asked}
use Rattle.server_model.specs.declared.entry.Asked.TheVariants.{Call, Poll, Command, Cut}
use Rattle.server_model.specs.declared.need.Need.{Need}
use Rattle.server_model.specs.declared.request.Request.{Request}
use Rattle.server_model.specs.declared.request.Request.TheVariants as requests
use Rattle.server_model.specs.declared.session.Session.{Session}
use Rattle.server_model.specs.declared.session.Waiting.{Waiting}
use Rattle.server_model.specs.declared.work.StatementResult.{StatementResult}
use Rattle.server_model.specs.Chunks.{span_keys}
use Rattle.server_model.specs.Operations.{statement_result, operation_result, copy_operation}
use Rattle.server_model.specs.States.{State, session_of, with_session, is_in_transaction, locked_names, view, waiting_of}
use Rattle.server_model.specs.Blockers.{need, need_within, blocker}
use Rattle.server_model.specs.Effects.{Effect, Rests, Grows, Writes, Forgets, Moves, Locks, Unlocks, result_effect, begins, all_exist, locks_if, created, dropped, renamed_or, defined, nothing_needed, effect_within, effect_unless, is_outside, effect}
use Rattle.server_model.specs.Drawing.{filled}
use Rattle.server_model.specs.PlainServer.{Served, does, done, did, called_unless, calls, is_over, polled_over, polled_unless, polled_of, polls, loses, leaves, serves, without_waiting, holding, at_rest, locking, unlocking, counting}
use Rattle.proof_journals.specs.Holdings.{Face}
use Rattle.proof_journals.specs.Turns.{request_of}
use Rattle.proof_journals.proofs.Faces.{changed_here, changed_there, gone_there}
use Rattle.proof_journals.proofs.Held.{holding_face, rests_face, locking_face, unlocking_face}
use Rattle.proof_journals.proofs.Waiting.{done_answers, IsDone}
use Rattle.proof_journals.specs.Machine.Standings.{busy_after, locked_after, Standing, answered}

-- THE OWN SESSION

-- the session stands behind the turn, with this of it
pub record Own (number : ℕ) (after : List Session) (inside : Bool) (names : List (List ℕ)) : Type 0 where
  pub session : Session
  pub is : session_of number after ≡ Some session
  pub busy : session.in_transaction ≡ inside
  pub locked : locked_names session.names ≡ names

-- a change of it
changed : (number : ℕ) (change : Session → Session) (sessions : List Session) (found : Session) (busy : Bool) (locked : List (List ℕ)) → ((s : Session) → (change s).number ≡ s.number) → session_of number sessions ≡ Some found → (change found).in_transaction ≡ busy → locked_names (change found).names ≡ locked
    → Own number (with_session number change sessions) busy locked
changed number change sessions found busy locked keeps is one two = record { session = change found; is = changed_here number change sessions found keeps is; busy = one; locked = two }

-- a request that was done leaves this
abbrev Left : State → ℕ → Session → Request → Served → Type 0
Left state number found request served = Own number served.after.sessions (busy_after request served.answer found.in_transaction) (locked_after request served.answer (locked_names found.names))

busy_refused : (request : Request) (number : ℕ) (column : Option ℕ) (old : Bool) → busy_after request (answers.Refused number column) old ≡ old
busy_refused requests.Begin number column old = refl
busy_refused requests.Commit number column old = refl
busy_refused requests.Rollback number column old = refl
busy_refused (requests.BeginSpan table span size) number column old = refl
busy_refused request number column old = refl

locked_refused : (request : Request) (number : ℕ) (column : Option ℕ) (old : List (List ℕ)) → locked_after request (answers.Refused number column) old ≡ old
locked_refused (requests.LockTables names) number column old = refl
locked_refused requests.Unlock number column old = refl
locked_refused request number column old = refl

-- a refusal changes nothing
refused : (state : State) (number : ℕ) (found : Session) (request : Request) (error : ℕ) (column : Option ℕ) → session_of number state.sessions ≡ Some found → Left state number found request (record { answer = answers.Refused error column; after = state })
refused state number found request error column is = record { session = found; is = is; busy = sym (busy_refused request error column found.in_transaction); locked = sym (locked_refused request error column (locked_names found.names)) }

-- a transaction goes on, with what was granted
grown : (state : State) (number : ℕ) (found : Session) (need : Need) (events : List RowEvent) → session_of number state.sessions ≡ Some found → Own number (with_session number (holding need events) state.sessions) true (locked_names found.names)
grown state number found need events is = changed number (holding need events) state.sessions found true (locked_names found.names) (λ s. refl) is refl (ap (λ (f : Face). f.locked) (holding_face need events found))

rested : (state : State) (number : ℕ) (found : Session) → session_of number state.sessions ≡ Some found → Own number (with_session number at_rest state.sessions) false (locked_names found.names)
rested state number found is = changed number at_rest state.sessions found false (locked_names found.names) (λ s. refl) is refl (ap (λ (f : Face). f.locked) (rests_face found))

own_as : (number : ℕ) (sessions : List Session) (busy other : Bool) (locked : List (List ℕ)) → busy ≡ other → Own number sessions busy locked → Own number sessions other locked
own_as number sessions busy other locked same own = subst (λ (b : Bool). Own number sessions b locked) same own

-- what a statement or a copy gives
resulted : (state : State) (number : ℕ) (found : Session) (need : Need) (result : StatementResult) (busy : Bool) → session_of number state.sessions ≡ Some found → found.in_transaction ≡ busy
    → Own number (does (result_effect busy need result) state number).after.sessions found.in_transaction (locked_names found.names)
resulted state number found need result true is same = own_as number _ true found.in_transaction (locked_names found.names) (sym same) (grown state number found need result.events is)
resulted state number found need result false is same = own_as number _ false found.in_transaction (locked_names found.names) (sym same) (rested state number found is)

module _ (state : State) (number : ℕ) (found : Session) (is : session_of number state.sessions ≡ Some found) where
  same_busy : found.in_transaction ≡ is_in_transaction (session_of number state.sessions)
  same_busy = sym (ap is_in_transaction is)

  stays : Own number state.sessions found.in_transaction (locked_names found.names)
  stays = record { session = found; is = is; busy = refl; locked = refl }

  within : (request : Request) → Left state number found request (does (effect_within (is_in_transaction (session_of number state.sessions)) (view number state) state request) state number)
  unfolding span_keys
  within requests.Begin = grown state number found nothing_needed [] is
  within requests.Commit = rested state number found is
  within requests.Rollback = rested state number found is
  within (requests.Do statement) = resulted state number found (need_within (view number state) (requests.Do statement)) (statement_result (view number state) statement) (is_in_transaction (session_of number state.sessions)) is same_busy
  within (requests.Ends table) = stays
  within (requests.ChunkEnd table low top size) = stays
  within (requests.BeginSpan table span size) = at (find_table table state.tables) where
    at : (one : Option TableRows) → Left state number found (requests.BeginSpan table span size) (does (begins one span size (need_within (view number state) (requests.BeginSpan table span size))) state number)
    at None = stays
    at (Some t) = grown state number found (need_within (view number state) (requests.BeginSpan table span size)) [] is
  within (requests.CopyRow from into map key) =
      resulted state number found (need_within (view number state) (requests.CopyRow from into map key)) (operation_result (view number state) (copy_operation (view number state) from into map key)) (is_in_transaction (session_of number state.sessions)) is same_busy
  within (requests.LockTables names) = at (all_exist names state.tables) where
    at : (b : Bool) → Left state number found (requests.LockTables names) (does (locks_if b names) state number)
    at true = changed number (locking names) state.sessions found found.in_transaction (locked_names found.names ++ names) (λ s. refl) is refl (ap (λ (f : Face). f.locked) (locking_face names found))
    at false = stays
  within requests.Unlock = changed number unlocking state.sessions found found.in_transaction [] (λ s. refl) is refl (ap (λ (f : Face). f.locked) (unlocking_face found))
  within (requests.Create schema) = at (created (has_table schema.name state.tables) schema state.tables) where
    at : (result : Result Database ℕ) → Left state number found (requests.Create schema) (does (defined result) state number)
    at (Ok tables) = stays
    at (Err error) = stays
  within (requests.Drop name) = at (dropped (has_table name state.tables) name state.tables) where
    at : (result : Result Database ℕ) → Left state number found (requests.Drop name) (does (defined result) state number)
    at (Ok tables) = stays
    at (Err error) = stays
  within (requests.Rename pairs) = at (renamed_or (rename_tables pairs state.tables)) where
    at : (result : Result Database ℕ) → Left state number found (requests.Rename pairs) (does (defined result) state number)
    at (Ok tables) = stays
    at (Err error) = stays
  within requests.LogEnd = stays
  within (requests.ReadLog position limit tables) = stays
  within requests.ShowTables = stays
  within requests.ShowWaiting = stays
  within (requests.ShowCounter table) = stays
  within (requests.SetCounter table least) = stays

  did_left : (request : Request) → Left state number found request (did state number request)
  unfolding did
  did_left request = at (is_outside (session_of number state.sessions) request) where
    at : (b : Bool) → Left state number found request (does (effect_unless b (is_in_transaction (session_of number state.sessions)) (view number state) state request) state number)
    at true = refused state number found request ER_TABLE_NOT_LOCKED None is
    at false = within request

  done_left : (request : Request) → Left state number found request (done state number request)
  done_left request =
      filled_case (λ asked full. Left state number found asked (did state number full)) did_left (λ statement n. did_left (requests.Do (numbered n statement)))
      (is_of_tool (session_of number state.sessions)) state.tables state.counters request

-- as an answer tells it
abbrev pub old_standing : Session → Option Request → Standing
old_standing found waits = record { busy = found.in_transaction; locked = locked_names found.names; waits = waits }

abbrev LeftSo : ℕ → Request → Standing → Served → Type 0
LeftSo number request old served = Own number served.after.sessions (answered request served.answer old).busy (answered request served.answer old).locked

answered_done : (request : Request) (answer : Answer) (old : Standing) → IsDone answer → answered request answer old ≡ record { busy = busy_after request answer old.busy; locked = locked_after request answer old.locked; waits = None }
answered_done request (answers.Waits by) old is = absurd is
answered_done request (answers.TimedOut waited) old is = absurd is
answered_done request answers.Lost old is = absurd is
answered_done request answer old is = refl

as_answered : (number : ℕ) (request : Request) (found : Session) (waits : Option Request) (state : State) (served : Served) → IsDone served.answer → Left state number found request served → LeftSo number request (old_standing found waits) served
as_answered number request found waits state served is left =
    subst (λ (s : Standing). Own number served.after.sessions s.busy s.locked) (sym (answered_done request served.answer (old_standing found waits) is)) left

pub called_left : (state : State) (number : ℕ) (found : Session) → session_of number state.sessions ≡ Some found → (request : Request) (waits : Option Request) → LeftSo number request (old_standing found waits) (calls state number request)
unfolding calls
called_left state number found is request waits = at (blocker state number (need state number request)) where
  at : (by : Option ℕ) → LeftSo number request (old_standing found waits) (called_unless by state number request)
  at None = as_answered number request found waits state (done state number request) (done_answers state number request) (done_left state number found is request)
  at (Some by) = changed number (counting 0) state.sessions found found.in_transaction (locked_names found.names) (λ s. refl) is refl refl

pub polled_left : (state : State) (number : ℕ) (found : Session) → session_of number state.sessions ≡ Some found → (request : Request) → request_of (waiting_of number state.waiting) ≡ Some request → LeftSo number request (old_standing found (Some request)) (polls state number)
unfolding polls
polled_left state number found is request waits = at (waiting_of number state.waiting) waits where
  over : (b : Bool) (by : ℕ) → LeftSo number request (old_standing found (Some request)) (polled_over b by state number)
  over true by = rested state number found is
  over false by = changed number (counting _) state.sessions found found.in_transaction (locked_names found.names) (λ s. refl) is refl refl

  unless : (by : Option ℕ) → LeftSo number request (old_standing found (Some request)) (polled_unless by state number request)
  unless None = as_answered number request found (Some request) (without_waiting number state) (done (without_waiting number state) number request) (done_answers (without_waiting number state) number request) (done_left (without_waiting number state) number found is request)
  unless (Some by) = over (is_over state number) by

  at : (waiting : Option Waiting) → request_of waiting ≡ Some request → LeftSo number request (old_standing found (Some request)) (polled_of waiting state number)
  at None none = absurd cc
  at (Some waiting) same = let one : waiting.request ≡ request = cc in subst (λ (r : Request). LeftSo number request (old_standing found (Some request)) (polled_unless (blocker state number (need state number r)) state number r)) (sym one) (unless (blocker state number (need state number request)))

-- THE OTHERS

does_there : (one : Effect) (state : State) (number other : ℕ) → (other == number) ≡ false → session_of other (does one state number).after.sessions ≡ session_of other state.sessions
does_there (Rests answer) state number other differ = refl
does_there (Grows answer need events) state number other differ = changed_there number other (holding need events) state.sessions (λ s. refl) differ
does_there (Writes answer events) state number other differ = changed_there number other at_rest state.sessions (λ s. refl) differ
does_there (Forgets answer) state number other differ = changed_there number other at_rest state.sessions (λ s. refl) differ
does_there (Moves answer tables) state number other differ = refl
does_there (Locks answer names) state number other differ = changed_there number other (locking names) state.sessions (λ s. refl) differ
does_there (Unlocks answer) state number other differ = changed_there number other unlocking state.sessions (λ s. refl) differ

done_there : (state : State) (number other : ℕ) (request : Request) → (other == number) ≡ false → session_of other (done state number request).after.sessions ≡ session_of other state.sessions
unfolding did
done_there state number other request differ = does_there (effect state number (filled state number request)) state number other differ

served_there : (state : State) (number other : ℕ) (asked : Asked) → (other == number) ≡ false → session_of other (serves state number asked).after.sessions ≡ session_of other state.sessions
unfolding calls polls loses
served_there state number other (Call request) differ = at (blocker state number (need state number request)) where
  at : (by : Option ℕ) → session_of other (called_unless by state number request).after.sessions ≡ session_of other state.sessions
  at None = done_there state number other request differ
  at (Some by) = changed_there number other (counting 0) state.sessions (λ s. refl) differ
served_there state number other Poll differ = at (waiting_of number state.waiting) where
  over : (b : Bool) (by : ℕ) → session_of other (polled_over b by state number).after.sessions ≡ session_of other state.sessions
  over true by = changed_there number other at_rest state.sessions (λ s. refl) differ
  over false by = changed_there number other (counting _) state.sessions (λ s. refl) differ

  unless : (request : Request) (by : Option ℕ) → session_of other (polled_unless by state number request).after.sessions ≡ session_of other state.sessions
  unless request None = done_there (without_waiting number state) number other request differ
  unless request (Some by) = over (is_over state number) by

  at : (waiting : Option Waiting) → session_of other (polled_of waiting state number).after.sessions ≡ session_of other state.sessions
  at None = refl
  at (Some waiting) = unless waiting.request (blocker state number (need state number waiting.request))
served_there state number other (Command word) differ = refl
served_there state number other Cut differ = gone_there number other state.sessions differ

-- another session is as before
pub left_there : (side : Option Side) (state : State) (number other : ℕ) (asked : Asked) → (other == number) ≡ false → session_of other (leaves side state number asked).sessions ≡ session_of other state.sessions
unfolding loses
left_there None state number other asked differ = served_there state number other asked differ
left_there (Some Before) state number other asked differ = gone_there number other state.sessions differ
left_there (Some After) state number other asked differ = gone_there number other (serves state number asked).after.sessions differ ∙ served_there state number other asked differ

-- A SESSION THAT STAYS LIVE

does_live : (one : Effect) (state : State) (number : ℕ) (found : Session) → session_of number state.sessions ≡ Some found → is_some (session_of number (does one state number).after.sessions) ≡ true
does_live (Rests answer) state number found is = ap is_some is
does_live (Grows answer need events) state number found is = ap is_some (changed_here number (holding need events) state.sessions found (λ s. refl) is)
does_live (Writes answer events) state number found is = ap is_some (changed_here number at_rest state.sessions found (λ s. refl) is)
does_live (Forgets answer) state number found is = ap is_some (changed_here number at_rest state.sessions found (λ s. refl) is)
does_live (Moves answer tables) state number found is = ap is_some is
does_live (Locks answer names) state number found is = ap is_some (changed_here number (locking names) state.sessions found (λ s. refl) is)
does_live (Unlocks answer) state number found is = ap is_some (changed_here number unlocking state.sessions found (λ s. refl) is)

done_live : (state : State) (number : ℕ) (request : Request) (found : Session) → session_of number state.sessions ≡ Some found → is_some (session_of number (done state number request).after.sessions) ≡ true
unfolding did
done_live state number request found is = does_live (effect state number (filled state number request)) state number found is

-- the session is live behind a call and a poll
pub served_live : (state : State) (number : ℕ) (asked : Asked) (found : Session) → session_of number state.sessions ≡ Some found → (asked ≡ Cut → ⊥) → is_some (session_of number (serves state number asked).after.sessions) ≡ true
unfolding calls polls
served_live state number (Call request) found is called = at (blocker state number (need state number request)) where
  at : (by : Option ℕ) → is_some (session_of number (called_unless by state number request).after.sessions) ≡ true
  at None = done_live state number request found is
  at (Some by) = ap is_some (changed_here number (counting 0) state.sessions found (λ s. refl) is)
served_live state number Poll found is called = at (waiting_of number state.waiting) where
  over : (b : Bool) (by : ℕ) → is_some (session_of number (polled_over b by state number).after.sessions) ≡ true
  over true by = ap is_some (changed_here number at_rest state.sessions found (λ s. refl) is)
  over false by = ap is_some (changed_here number (counting _) state.sessions found (λ s. refl) is)

  unless : (request : Request) (by : Option ℕ) → is_some (session_of number (polled_unless by state number request).after.sessions) ≡ true
  unless request None = done_live (without_waiting number state) number request found is
  unless request (Some by) = over (is_over state number) by

  at : (waiting : Option Waiting) → is_some (session_of number (polled_of waiting state number).after.sessions) ≡ true
  at None = ap is_some is
  at (Some waiting) = unless waiting.request (blocker state number (need state number waiting.request))
served_live state number (Command word) found is called = ap is_some is
served_live state number Cut found is called = absurd (called refl)
