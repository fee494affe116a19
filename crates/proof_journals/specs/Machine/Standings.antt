-- *Standing*: what an actor's session has on the server, and what a turn leaves of it, as the turn's answer tells.
-- (MySQL's manual, "START TRANSACTION, COMMIT, and ROLLBACK Statements", "LOCK TABLES and UNLOCK TABLES Statements";
-- waits, time-outs and losses are this project's rule.)
use Rattle.std.specs.Prelude.{◌≡◌, ◌<◌, ℕ, Bool, true, false, not, List, [], ◌++◌, Option, Some, None}
use Rattle.base_script.specs.declared.actor.Actor.{Actor}
use Rattle.server_model.specs.declared.answer.Answer.{Answer}
use Rattle.server_model.specs.declared.answer.Answer.TheVariants as answers
use Rattle.server_model.specs.declared.entry.Asked.{Asked}
use Rattle.server_model.specs.declared.entry.Asked.TheVariants.{Call, Poll}
use Rattle.server_model.specs.declared.entry.Entry.{Entry}
use Rattle.server_model.specs.declared.request.Request.{Request}
use Rattle.server_model.specs.declared.request.Request.TheVariants as requests
use Rattle.server_model.specs.Entries.{is_client}
use Rattle.server_model.specs.States.{State, waiting_of}
use Rattle.plan_data.specs.PlanData.{PlanData}
use Rattle.tool_program.specs.JournalWords.Journals.{state_at, opens_if}
use Rattle.tool_program.specs.JournalWords.Sessions.{live_session, sessions_named}
use Rattle.proof_journals.specs.Holdings.{Face, face_of}
use Rattle.proof_journals.specs.Turns.{request_of}

pub record Standing : Type 0 where
  -- it is in a transaction
  pub busy : Bool
  -- the tables that it locked by LOCK TABLES
  pub locked : List (List ℕ)
  -- the request that waits
  pub waits : Option Request

-- no session, or one that has nothing
abbrev pub free : Standing
free = record { busy = false; locked = []; waits = None }

-- what the session has that others see, and the request that waits
abbrev pub standing : Face → Option Request → Standing
standing face waits = record { busy = face.busy; locked = face.locked; waits = waits }

abbrev pub standing_in : State → Option ℕ → Standing
standing_in state None = free
standing_in state (Some number) = standing (face_of state.sessions number) (request_of (waiting_of number state.waiting))

-- *Standing of an actor*: that of its live session after the turns of a journal
abbrev pub standing_of : PlanData → List Entry → Actor → Standing
standing_of plan journal actor = standing_in (state_at plan journal) (live_session journal actor)

-- whether the session is in a transaction after a request that was answered so
abbrev pub busy_after : Request → Answer → Bool → Bool
busy_after requests.Begin (answers.Ok count) old = true
busy_after (requests.BeginSpan table span size) (answers.Keys keys end) old = true
busy_after requests.Commit (answers.Ok count) old = false
busy_after requests.Rollback (answers.Ok count) old = false
busy_after request answer old = old

-- the tables that it locked
abbrev pub locked_after : Request → Answer → List (List ℕ) → List (List ℕ)
locked_after (requests.LockTables names) (answers.Ok count) old = old ++ names
locked_after requests.Unlock (answers.Ok count) old = []
locked_after request answer old = old

-- what is left after a request that was answered so: a time-out rolls the transaction back, and a loss takes all away
abbrev pub answered : Request → Answer → Standing → Standing
answered request answers.Lost old = free
answered request (answers.Waits by) old = record old { waits = Some request }
answered request (answers.TimedOut waited) old = record old { busy = false; waits = None }
answered request answer old = record { busy = busy_after request answer old.busy; locked = locked_after request answer old.locked; waits = None }

-- the turn is about this request: it is called where none waits, or it waits and is polled
pub data IsAbout (request : Request) (old : Standing) (asked : Asked) : Type 0 where
  is_called : asked ≡ Call request → old.waits ≡ None → IsAbout request old asked
  is_polled : asked ≡ Poll → old.waits ≡ Some request → IsAbout request old asked

-- WHAT MAY BE ANSWERED

-- the request needs a lock on a name, and so may wait; and it may be refused
abbrev pub needs_names : Request → Bool
needs_names requests.Begin = false
needs_names requests.Commit = false
needs_names requests.Rollback = false
needs_names requests.Unlock = false
needs_names requests.LogEnd = false
needs_names (requests.ReadLog position limit tables) = false
needs_names requests.ShowTables = false
needs_names requests.ShowWaiting = false
needs_names (requests.ShowCounter table) = false
needs_names request = true

-- the answer is one of such a request that is done; a copy of a row is a statement
abbrev pub gives : Request → Answer → Bool
gives requests.Begin (answers.Ok count) = true
gives requests.Commit (answers.Ok count) = true
gives requests.Rollback (answers.Ok count) = true
gives (requests.Do statement) (answers.Ok count) = true
gives (requests.Do statement) (answers.Rows rows) = true
gives (requests.Ends table) (answers.Ends range) = true
gives (requests.ChunkEnd table low top size) (answers.End end) = true
gives (requests.BeginSpan table span size) (answers.Keys keys end) = true
gives (requests.CopyRow from into map key) (answers.Ok count) = true
gives (requests.CopyRow from into map key) (answers.Rows rows) = true
gives (requests.LockTables names) (answers.Ok count) = true
gives requests.Unlock (answers.Ok count) = true
gives (requests.Create schema) (answers.Ok count) = true
gives (requests.Drop name) (answers.Ok count) = true
gives (requests.Rename pairs) (answers.Ok count) = true
gives requests.LogEnd (answers.At position) = true
gives (requests.ReadLog position limit tables) (answers.Events events next) = true
gives requests.ShowTables (answers.Tables tables) = true
gives requests.ShowWaiting (answers.Waiting waiters) = true
gives (requests.ShowCounter table) (answers.At next) = true
gives (requests.SetCounter table least) (answers.Ok count) = true
gives request answer = false

-- a refusal: of a request that needs names, or that names a table which doesn't stand or is outside the locked ones
abbrev pub is_refusable : Request → Bool
is_refusable (requests.ReadLog position limit tables) = true
is_refusable (requests.ShowCounter table) = true
is_refusable request = needs_names request

-- *Serves to*: what the server may answer to a request
abbrev pub serves_to : Request → Answer → Bool
serves_to request (answers.Waits by) = needs_names request
serves_to request (answers.TimedOut waited) = needs_names request
serves_to request (answers.Refused number column) = is_refusable request
serves_to request answer = gives request answer

-- *Answers to*: the answers that a request may have, where its session may be lost
abbrev pub answers_to : Request → Answer → Bool
answers_to request answers.Lost = true
answers_to request answer = serves_to request answer

-- A TURN TO COME

-- the session that an actor's next turn may be in: its live one, else a new one
abbrev pub MayTake : List Entry → ℕ → Option ℕ → Type 0
MayTake journal n (Some session) = n ≡ session
MayTake journal n None = sessions_named journal < n

-- the server after a journal once this session of the actor's is live
abbrev pub opened_for : PlanData → List Entry → Actor → ℕ → State
opened_for plan journal actor n = opens_if false (not (is_client actor)) n (state_at plan journal)
