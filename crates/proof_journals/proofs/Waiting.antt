-- Requests that wait, session by session: what a turn leaves of them, as its answer tells.
use Rattle.std.proofs.Common.{◌≡◌, ℕ, Bool, true, false, not, ◌||◌, List, [], ◌∷◌, ◌++◌, filter, cond, Option, Some, None, Result, Ok, Err, refl, sym, ap, ◌∙◌}
use Rattle.std.specs.Prelude.{◌==◌}
use Rattle.std.specs.List.{list_any}
use Rattle.std.proofs.lemmas.Bool.{true≢false}
use Rattle.base_values.specs.declared.value.Value.{Value}
use Rattle.base_values.specs.GhoSchema.Rows.{key_places}
use Rattle.table_store.specs.Databases.{TableRows, Database, find_table, has_table, rename_tables}
use Rattle.base_script.specs.declared.actor.Side.{Side}
use Rattle.base_script.specs.declared.actor.Side.TheVariants.{Before, After}
use Rattle.server_model.specs.declared.answer.Answer.{Answer}
use Rattle.server_model.specs.declared.answer.Answer.TheVariants as answers
use Rattle.server_model.specs.declared.entry.Asked.{Asked}
use Rattle.server_model.specs.declared.entry.Asked.TheVariants.{Call, Poll, Command, Cut}
use Rattle.server_model.specs.declared.request.Request.{Request}
use Rattle.server_model.specs.declared.request.Request.TheVariants as requests
use Rattle.server_model.specs.declared.session.Waiting.{Waiting}
use Rattle.server_model.specs.Chunks.{keys_of, ends_of, span_keys}
use Rattle.server_model.specs.Operations.{statement_result, operation_result, copy_operation}
use Rattle.server_model.specs.Listings.{events_read}
use Rattle.server_model.specs.States.{State, session_of, is_in_transaction, view, waiting_of}
use Rattle.server_model.specs.Blockers.{need, need_within, blocker}
use Rattle.server_model.specs.declared.need.Need.{Need}
use Rattle.server_model.specs.declared.work.StatementResult.{StatementResult}
use Rattle.server_model.specs.Effects.{of_table, result_effect, begins, all_exist, locks_if, created, dropped, renamed_or, defined, effect_within, effect_unless, is_outside}
use Rattle.server_model.specs.Drawing.{filled}
use Rattle.server_model.specs.PlainServer.{does, done, did, called_unless, calls, is_over, polled_over, polled_unless, polled_of, polls, loses, leaves, serves, without_waiting}
use Rattle.tool_program.specs.JournalWords.Histories.{waits_after}
use Rattle.proof_journals.specs.Turns.{request_of}
use Rattle.proof_journals.proofs.Replies.{IsReply, line_replies_so, copied_replies}
use Rattle.base_script.specs.declared.script.ScriptWord.TheVariants as words
use Rattle.proof_journals.proofs.Journals.{done_waits}
use Rattle.server_model.proofs.LockedRows.Tests.{same_number, are_one, turned}

-- ANSWERS OF WHAT WAS DONE

-- the request was done or refused
abbrev pub IsDone : Answer → Type 0
IsDone (answers.Waits by) = ⊥
IsDone (answers.TimedOut waited) = ⊥
IsDone answers.Lost = ⊥
IsDone answer = Unit {0}

pub reply_done : (answer : Answer) → IsReply answer → IsDone answer
reply_done (answers.Ok count) is = tt
reply_done (answers.Rows rows) is = tt
reply_done (answers.Refused number column) is = tt
reply_done (answers.Waits by) is = absurd is
reply_done (answers.TimedOut waited) is = absurd is
reply_done answers.Lost is = absurd is
reply_done other is = tt

table_done : (found : Option TableRows) (answer : TableRows → Answer) → ((t : TableRows) → IsDone (answer t)) → IsDone (of_table found answer)
table_done None answer is = tt
table_done (Some t) answer is = is t

ends_done : (keys : List (List Value)) → IsDone (ends_of keys)
ends_done [] = tt
ends_done (least ∷ keys) = tt

result_done : (busy : Bool) (need : Need) (result : StatementResult) (state : State) (number : ℕ) → IsDone result.answer → IsDone (does (result_effect busy need result) state number).answer
result_done true need result state number is = is
result_done false need result state number is = is

defined_done : (result : Result Database ℕ) (state : State) (number : ℕ) → IsDone (does (defined result) state number).answer
defined_done (Ok tables) state number = tt
defined_done (Err refusal) state number = tt

within_done : (state : State) (number : ℕ) (request : Request) → IsDone (does (effect_within (is_in_transaction (session_of number state.sessions)) (view number state) state request) state number).answer
unfolding span_keys events_read
within_done state number requests.Begin = tt
within_done state number requests.Commit = tt
within_done state number requests.Rollback = tt
within_done state number (requests.Do statement) =
    result_done (is_in_transaction (session_of number state.sessions)) (need_within (view number state) (requests.Do statement)) (statement_result (view number state) statement) state number (reply_done (statement_result (view number state) statement).answer (line_replies_so (view number state) (words.Do statement)))
within_done state number (requests.Ends table) = table_done (find_table table state.tables) (λ t. ends_of (keys_of (key_places t.schema) t.rows)) (λ t. ends_done (keys_of (key_places t.schema) t.rows))
within_done state number (requests.ChunkEnd table low top size) = table_done (find_table table state.tables) _ (λ t. tt)
within_done state number (requests.BeginSpan table span size) = at (find_table table state.tables) where
  at : (found : Option TableRows) → IsDone (does (begins found span size (need_within (view number state) (requests.BeginSpan table span size))) state number).answer
  at None = tt
  at (Some t) = tt
within_done state number (requests.CopyRow from into map key) =
    result_done (is_in_transaction (session_of number state.sessions)) (need_within (view number state) (requests.CopyRow from into map key)) (operation_result (view number state) (copy_operation (view number state) from into map key)) state number
    (reply_done (operation_result (view number state) (copy_operation (view number state) from into map key)).answer (copied_replies (view number state) from into map key))
within_done state number (requests.LockTables names) = at (all_exist names state.tables) where
  at : (b : Bool) → IsDone (does (locks_if b names) state number).answer
  at true = tt
  at false = tt
within_done state number requests.Unlock = tt
within_done state number (requests.Create schema) = defined_done (created (has_table schema.name state.tables) schema state.tables) state number
within_done state number (requests.Drop name) = defined_done (dropped (has_table name state.tables) name state.tables) state number
within_done state number (requests.Rename pairs) = defined_done (renamed_or (rename_tables pairs state.tables)) state number
within_done state number requests.LogEnd = tt
within_done state number (requests.ReadLog position limit tables) = tt
within_done state number requests.ShowTables = tt
within_done state number requests.ShowWaiting = tt
within_done state number (requests.ShowCounter table) = table_done (find_table table state.tables) _ (λ t. tt)
within_done state number (requests.SetCounter table least) = table_done (find_table table state.tables) _ (λ t. tt)

pub done_answers : (state : State) (number : ℕ) (request : Request) → IsDone (done state number request).answer
unfolding did
done_answers state number request = at (is_outside (session_of number state.sessions) (filled state number request)) where
  at : (b : Bool) → IsDone (does (effect_unless b (is_in_transaction (session_of number state.sessions)) (view number state) state (filled state number request)) state number).answer
  at true = tt
  at false = within_done state number (filled state number request)

-- behind such an answer nothing waits
call_after : (request : Request) (answer : Answer) (old : Option Request) → IsDone answer → waits_after (Call request) answer old ≡ None
call_after request (answers.Waits by) old is = absurd is
call_after request other old is = refl

poll_after : (answer : Answer) (old : Option Request) → IsDone answer → waits_after Poll answer old ≡ None
poll_after (answers.Waits by) old is = absurd is
poll_after other old is = refl

-- ONE SESSION'S REQUEST

pub filter_there : (number other : ℕ) (waiting : List Waiting) → (other == number) ≡ false → waiting_of other (filter (λ one. not (one.session == number)) waiting) ≡ waiting_of other waiting
filter_there number other [] differ = refl
filter_there number other (one ∷ waiting) differ = at (one.session == number) refl (one.session == other) refl (filter_there number other waiting differ) where
  at : (a : Bool) → (one.session == number) ≡ a → (b : Bool) → (one.session == other) ≡ b → waiting_of other (filter (λ one. not (one.session == number)) waiting) ≡ waiting_of other waiting
      → waiting_of other (cond (not a) (one ∷ filter (λ one. not (one.session == number)) waiting) (filter (λ one. not (one.session == number)) waiting)) ≡ cond b (Some one) (waiting_of other waiting)
  at true is true also rest = absurd (true≢false (sym (same_number other) ∙ ap (λ (n : ℕ). n == other) (sym (are_one one.session other also)) ∙ ap (λ (n : ℕ). n == other) (are_one one.session number is) ∙ turned other number differ))
  at true is false also rest = rest
  at false is true also rest = rw also refl
  at false is false also rest = rw also rest

pub filter_gone : (number : ℕ) (waiting : List Waiting) → waiting_of number (filter (λ one. not (one.session == number)) waiting) ≡ None
filter_gone number [] = refl
filter_gone number (one ∷ waiting) = at (one.session == number) refl (filter_gone number waiting) where
  at : (b : Bool) → (one.session == number) ≡ b → waiting_of number (filter (λ one. not (one.session == number)) waiting) ≡ None
      → waiting_of number (cond (not b) (one ∷ filter (λ one. not (one.session == number)) waiting) (filter (λ one. not (one.session == number)) waiting)) ≡ None
  at true is rest = rest
  at false is rest = rw is rest

more_there : (one : Waiting) (other : ℕ) (waiting : List Waiting) → (one.session == other) ≡ false → waiting_of other (waiting ++ one ∷ []) ≡ waiting_of other waiting
more_there one other [] differ = rw differ refl
more_there one other (first ∷ waiting) differ = at (first.session == other) (more_there one other waiting differ) where
  at : (b : Bool) → waiting_of other (waiting ++ one ∷ []) ≡ waiting_of other waiting → cond b (Some first) (waiting_of other (waiting ++ one ∷ [])) ≡ cond b (Some first) (waiting_of other waiting)
  at true rest = refl
  at false rest = rest

more_here : (one : Waiting) (waiting : List Waiting) → waiting_of one.session waiting ≡ None → waiting_of one.session (waiting ++ one ∷ []) ≡ Some one
more_here one [] none = rw (same_number one.session) refl
more_here one (first ∷ waiting) none = at (first.session == one.session) none (more_here one waiting) where
  at : (b : Bool) → cond b (Some first) (waiting_of one.session waiting) ≡ None → (waiting_of one.session waiting ≡ None → waiting_of one.session (waiting ++ one ∷ []) ≡ Some one) → cond b (Some first) (waiting_of one.session (waiting ++ one ∷ [])) ≡ Some one
  at true none rest = absurd (cc)
  at false none rest = rest none

-- no request of a session waits
pub none_waits : (number : ℕ) (waiting : List Waiting) → list_any (λ one. one.session == number) waiting ≡ false → waiting_of number waiting ≡ None
none_waits number [] is = refl
none_waits number (one ∷ waiting) is = at (one.session == number) is (none_waits number waiting) where
  at : (b : Bool) → (b || list_any (λ one. one.session == number) waiting) ≡ false → (list_any (λ one. one.session == number) waiting ≡ false → waiting_of number waiting ≡ None) → cond b (Some one) (waiting_of number waiting) ≡ None
  at true is rest = absurd (true≢false is)
  at false is rest = rest is

-- WHAT A TURN LEAVES

served_there : (state : State) (number other : ℕ) (asked : Asked) → (other == number) ≡ false → waiting_of other (serves state number asked).after.waiting ≡ waiting_of other state.waiting
unfolding calls polls loses
served_there state number other (Call request) differ = at (blocker state number (need state number request)) where
  at : (by : Option ℕ) → waiting_of other (called_unless by state number request).after.waiting ≡ waiting_of other state.waiting
  at None = ap (waiting_of other) (done_waits state number request)
  at (Some by) = more_there (record { session = number; request = request }) other state.waiting (turned other number differ)
served_there state number other Poll differ = at (waiting_of number state.waiting) where
  less : waiting_of other (filter (λ one. not (one.session == number)) state.waiting) ≡ waiting_of other state.waiting
  less = filter_there number other state.waiting differ

  over : (b : Bool) (by : ℕ) → waiting_of other (polled_over b by state number).after.waiting ≡ waiting_of other state.waiting
  over true by = less
  over false by = refl

  each : (waiting : Waiting) (by : Option ℕ) → waiting_of other (polled_unless by state number waiting.request).after.waiting ≡ waiting_of other state.waiting
  each waiting None = ap (waiting_of other) (done_waits (without_waiting number state) number waiting.request) ∙ less
  each waiting (Some by) = over (is_over state number) by

  at : (waiting : Option Waiting) → waiting_of other (polled_of waiting state number).after.waiting ≡ waiting_of other state.waiting
  at None = refl
  at (Some waiting) = each waiting (blocker state number (need state number waiting.request))
served_there state number other (Command word) differ = refl
served_there state number other Cut differ = filter_there number other state.waiting differ

-- another session's request waits as before
pub waits_there : (side : Option Side) (state : State) (number other : ℕ) (asked : Asked) → (other == number) ≡ false → waiting_of other (leaves side state number asked).waiting ≡ waiting_of other state.waiting
unfolding loses
waits_there None state number other asked differ = served_there state number other asked differ
waits_there (Some Before) state number other asked differ = filter_there number other state.waiting differ
waits_there (Some After) state number other asked differ = filter_there number other (serves state number asked).after.waiting differ ∙ served_there state number other asked differ

-- the session's own request waits as the answer tells: behind a call, where none waited ..
pub waits_called : (state : State) (number : ℕ) (request : Request) → waiting_of number state.waiting ≡ None → (old : Option Request) → request_of (waiting_of number (calls state number request).after.waiting) ≡ waits_after (Call request) (calls state number request).answer old
unfolding calls
waits_called state number request none old = at (blocker state number (need state number request)) where
  at : (by : Option ℕ) → request_of (waiting_of number (called_unless by state number request).after.waiting) ≡ waits_after (Call request) (called_unless by state number request).answer old
  at None = ap (λ (w : List Waiting). request_of (waiting_of number w)) (done_waits state number request) ∙ ap request_of none ∙ sym (call_after request (done state number request).answer old (done_answers state number request))
  at (Some by) = ap request_of (more_here (record { session = number; request = request }) state.waiting none)

-- .. and behind a poll
pub waits_polled : (state : State) (number : ℕ) → request_of (waiting_of number (polls state number).after.waiting) ≡ waits_after Poll (polls state number).answer (request_of (waiting_of number state.waiting))
unfolding polls
waits_polled state number = at (waiting_of number state.waiting) refl where
  over : (waiting : Waiting) → waiting_of number state.waiting ≡ Some waiting → (b : Bool) (by : ℕ) → request_of (waiting_of number (polled_over b by state number).after.waiting) ≡ waits_after Poll (polled_over b by state number).answer (Some waiting.request)
  over waiting is true by = ap request_of (filter_gone number state.waiting)
  over waiting is false by = ap request_of is

  each : (waiting : Waiting) → waiting_of number state.waiting ≡ Some waiting → (by : Option ℕ) → request_of (waiting_of number (polled_unless by state number waiting.request).after.waiting) ≡ waits_after Poll (polled_unless by state number waiting.request).answer (Some waiting.request)
  each waiting is None =
      ap (λ (w : List Waiting). request_of (waiting_of number w)) (done_waits (without_waiting number state) number waiting.request) ∙ ap request_of (filter_gone number state.waiting)
      ∙ sym (poll_after (done (without_waiting number state) number waiting.request).answer (Some waiting.request) (done_answers (without_waiting number state) number waiting.request))
  each waiting is (Some by) = over waiting is (is_over state number) by

  at : (waiting : Option Waiting) → waiting_of number state.waiting ≡ waiting → request_of (waiting_of number (polled_of waiting state number).after.waiting) ≡ waits_after Poll (polled_of waiting state number).answer (request_of waiting)
  at None is = ap request_of is
  at (Some waiting) is = each waiting is (blocker state number (need state number waiting.request))
