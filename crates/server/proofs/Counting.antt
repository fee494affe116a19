-- Counters, where a request waits or is done.
use Rattle.std.proofs.Common.{◌≡◌, ◌≢◌, ℕ, ◌+◌, Bool, true, false, List, [], ◌∷◌, ◌++◌, Option, Some, None, Result, Ok, Err, IfOk, OnOk, refl, sym, ap, ◌∙◌}
use Rattle.table_store.specs.Databases.{TableRows, Database, find_table}
use Rattle.base_script.specs.declared.actor.Side.{Side}
use Rattle.base_script.specs.declared.actor.Side.TheVariants.{Before, After}
use Rattle.base_script.specs.declared.statement.Statement.{Statement}
use Rattle.server_model.specs.declared.answer.Answer.{Answer}
use Rattle.server_model.specs.declared.answer.Answer.TheVariants as answers
use Rattle.server_model.specs.declared.counter.Counter.{Counter}
use Rattle.server_model.specs.declared.entry.Asked.{Asked}
use Rattle.server_model.specs.declared.entry.Asked.TheVariants.{Call, Poll}
use Rattle.server_model.specs.declared.request.Request.{Request}
use Rattle.server_model.specs.declared.request.Request.TheVariants as requests
use Rattle.server_model.specs.declared.session.Waiting.{Waiting}
use Rattle.server_model.specs.Blockers.{blocker, need}
use Rattle.server_model.specs.Conditions.{LosesWell}
use Rattle.server_model.specs.Counting.{counted, counts, drawn_by}
use Rattle.server_model.specs.Drawing.{filled}
use Rattle.server_model.specs.Effects.{Effect, Rests, Grows, Writes, Forgets, Moves, Locks, Unlocks, effect}
use Rattle.server_model.specs.Answers.{ok}
use Rattle.server_model.specs.PlainServer.{Served, asks_for, commits, counting, did, does, done, forgets, is_over, loses, number_drawn, polled_over, polls, recounted, request_waiting, serves, serving, state_left, unlocking, without_waiting}
use Rattle.server_model.specs.Operations.{table_of}
use Rattle.server_model.specs.States.{State, counters_from, names_in, polls_of, session_of, waiting_of, with_session}
use Rattle.server_sessions.specs.declared.live_sessions.counter_moves.CounterMove.{CounterMove}
use Rattle.server_sessions.specs.LiveSessions.CounterMoves.{moved}
use Rattle.server_model.proofs.Raising.{raised_zero}
use Rattle.server.specs.declared.drawn_answers.DrawnAnswer.{DrawnAnswer}
use Rattle.server.specs.Parts.{before_loss, state_of}
use Rattle.server.proofs.Requests.{calls_commit, calls_done, calls_rollback, calls_unlock, calls_wait, polls_blocked, polls_done}

-- WHERE A REQUEST WAITS, NO COUNTER MOVES

counts_waits : (table : Option TableRows) (statement : Statement) (by : ℕ) (counters : List Counter) → counts table None statement (answers.Waits by) counters ≡ counters
counts_waits None statement by counters = refl
counts_waits (Some table) statement by counters = ap (counters_from table.schema.name 0) (raised_zero table.schema.name counters) ∙ raised_zero table.schema.name counters

counts_timed : (table : Option TableRows) (statement : Statement) (waited : ℕ) (counters : List Counter) → counts table None statement (answers.TimedOut waited) counters ≡ counters
counts_timed None statement waited counters = refl
counts_timed (Some table) statement waited counters = ap (counters_from table.schema.name 0) (raised_zero table.schema.name counters) ∙ raised_zero table.schema.name counters

counted_waits : (state : State) (number by : ℕ) (asks : Option Request) → counted state number asks (answers.Waits by) ≡ state.counters
unfolding counted
counted_waits state number by (Some (requests.Do statement)) = counts_waits (find_table (table_of statement) state.tables) statement by state.counters
counted_waits state number by (Some (requests.Create schema)) = refl
counted_waits state number by (Some (requests.Drop name)) = refl
counted_waits state number by (Some (requests.Rename pairs)) = refl
counted_waits state number by (Some other) = refl
counted_waits state number by None = refl

counted_timed : (state : State) (number waited : ℕ) (asks : Option Request) → counted state number asks (answers.TimedOut waited) ≡ state.counters
unfolding counted
counted_timed state number waited (Some (requests.Do statement)) = counts_timed (find_table (table_of statement) state.tables) statement waited state.counters
counted_timed state number waited (Some (requests.Create schema)) = refl
counted_timed state number waited (Some (requests.Drop name)) = refl
counted_timed state number waited (Some (requests.Rename pairs)) = refl
counted_timed state number waited (Some other) = refl
counted_timed state number waited None = refl

-- what a turn leaves, by what it serves
left_by : (state : State) (number : ℕ) (asked : Asked) (served : Served) → serves state number asked ≡ served → state_left None state number asked ≡ recounted (counted state number (asks_for state number asked) served.answer) served.after
left_by state number asked served is = ap (λ (s : Served). recounted (counted state number (asks_for state number asked) s.answer) s.after) is

-- a call that waits
pub left_waits : (state : State) (number by : ℕ) (request : Request) → blocker state number (need state number request) ≡ Some by
    → state_left None state number (Call request) ≡ record state { waiting = state.waiting ++ record { session = number; request = request } ∷ []; sessions = with_session number (counting 0) state.sessions }
left_waits state number by request blocked =
    let after : State = record state { waiting = state.waiting ++ record { session = number; request = request } ∷ []; sessions = with_session number (counting 0) state.sessions } in
    left_by state number (Call request) (serving (answers.Waits by) after) (calls_wait state number by request blocked) ∙ ap (λ (counters : List Counter). recounted counters after) (counted_waits state number by (Some request))

pub drawn_waits : (state : State) (number by : ℕ) (request : Request) → blocker state number (need state number request) ≡ Some by → number_drawn None state number (Call request) ≡ None
drawn_waits state number by request blocked = rw (calls_wait state number by request blocked) refl

-- a poll that stays blocked
over_left : (over : Bool) (state : State) (number by : ℕ) (asks : Option Request) → recounted (counted state number asks (polled_over over by state number).answer) (polled_over over by state number).after ≡ (polled_over over by state number).after
over_left true state number by asks = ap (λ (counters : List Counter). recounted counters (polled_over true by state number).after) (counted_timed state number (polls_of (session_of number state.sessions) + 1) asks)
over_left false state number by asks = ap (λ (counters : List Counter). recounted counters (polled_over false by state number).after) (counted_waits state number by asks)

over_drawn : (over : Bool) (state : State) (number by : ℕ) (asks : Option Request) → drawn_by state number asks (polled_over over by state number).answer ≡ None
over_drawn true state number by asks = refl
over_drawn false state number by asks = refl

pub left_blocked : (state : State) (number by : ℕ) (one : Waiting) → waiting_of number state.waiting ≡ Some one → blocker state number (need state number one.request) ≡ Some by → state_left None state number Poll ≡ (polled_over (is_over state number) by state number).after
left_blocked state number by one waits blocked =
    left_by state number Poll (polled_over (is_over state number) by state number) (polls_blocked state number by one waits blocked) ∙ over_left (is_over state number) state number by (asks_for state number Poll)

pub drawn_blocked : (state : State) (number by : ℕ) (one : Waiting) → waiting_of number state.waiting ≡ Some one → blocker state number (need state number one.request) ≡ Some by → number_drawn None state number Poll ≡ None
drawn_blocked state number by one waits blocked =
    rw (polls_blocked state number by one waits blocked) (over_drawn (is_over state number) state number by (asks_for state number Poll))

-- WHERE A REQUEST IS DONE

-- what is done moves no counter by itself
does_counters : (effect : Effect) (state : State) (number : ℕ) → (does effect state number).after.counters ≡ state.counters
does_counters (Rests answer) state number = refl
does_counters (Grows answer need events) state number = refl
does_counters (Writes answer events) state number = refl
does_counters (Forgets answer) state number = refl
does_counters (Moves answer tables) state number = refl
does_counters (Locks answer names) state number = refl
does_counters (Unlocks answer) state number = refl

did_counters : (state : State) (number : ℕ) (request : Request) → (did state number request).after.counters ≡ state.counters
unfolding did
did_counters state number request = does_counters (effect state number request) state number

-- the counters are moved once the filled request is done
pub moved_so : (tables after : Database) (all_sessions later new : State) (number : ℕ) (request full : Request) (counter_move : CounterMove) (answer : Answer) → full ≡ filled (state_of tables all_sessions) number request → answer ≡ (did (state_of tables all_sessions) number full).answer
    → state_of after later ≡ (did (state_of tables all_sessions) number full).after → ((a : Answer) → moved counter_move a all_sessions.counters ≡ counted (state_of tables all_sessions) number (Some request) a) → new ≡ recounted (moved counter_move answer later.counters) later
    → state_of after new ≡ recounted (counted (state_of tables all_sessions) number (Some request) answer) (done (state_of tables all_sessions) number request).after
moved_so tables after all_sessions later new number request full counter_move answer is answered done_so moves new_is =
    let state : State = state_of tables all_sessions in
    let same : later.counters ≡ state.counters = ap (λ (s : State). s.counters) done_so ∙ did_counters state number full in
    ap (state_of after) new_is
    ∙ (ap (λ (counters : List Counter). recounted (moved counter_move answer counters) (state_of after later)) same
    ∙ (ap (λ (counters : List Counter). recounted counters (state_of after later)) (moves answer)
    ∙ (ap (recounted (counted state number (Some request) answer)) done_so
    ∙ ap (λ (r : Request). recounted (counted state number (Some request) answer) (did state number r).after) is)))

-- a call that is done, or for which there was no memory
pub call_left : {E : Type 0} (state new : State) (number : ℕ) (request : Request) → blocker state number (need state number request) ≡ None → (result : Result DrawnAnswer E) → IfOk result (λ one. one.answer ≡ (done state number request).answer)
    → IfOk result (λ one. new ≡ recounted (counted state number (Some request) one.answer) (done state number request).after) → OnOk result (new ≡ state_left None state number (Call request))
call_left state new number request free (Ok one) answered after =
    after
    ∙ (ap (λ (a : Answer). recounted (counted state number (Some request) a) (done state number request).after) answered
    ∙ sym (left_by state number (Call request) (done state number request) (calls_done state number request free)))
call_left state new number request free (Err fault) answered after = tt

pub call_drawn : {E : Type 0} (state : State) (number : ℕ) (request : Request) → blocker state number (need state number request) ≡ None → (result : Result DrawnAnswer E) → IfOk result (λ one. one.answer ≡ (done state number request).answer)
    → IfOk result (λ one. one.drawn ≡ drawn_by state number (Some request) one.answer) → IfOk result (λ one. one.drawn ≡ number_drawn None state number (Call request))
call_drawn state number request free (Ok one) answered drawn = rw (calls_done state number request free) (drawn ∙ ap (drawn_by state number (Some request)) answered)
call_drawn state number request free (Err fault) answered drawn = tt

-- a poll whose request is done
pub poll_left : {E : Type 0} (state new : State) (number : ℕ) (one : Waiting) → waiting_of number state.waiting ≡ Some one → names_in one.request ≢ [] → blocker state number (need state number one.request) ≡ None → (result : Result DrawnAnswer E) → IfOk result (λ served. served.answer ≡ (done state number one.request).answer)
    → IfOk result (λ served. new ≡ without_waiting number (recounted (counted state number (Some one.request) served.answer) (done state number one.request).after)) → OnOk result (new ≡ state_left None state number Poll)
poll_left state new number one waits some free (Ok served) answered after =
    let finished : Served = done state number one.request in
    after
    ∙ (ap (λ (a : Answer). without_waiting number (recounted (counted state number (Some one.request) a) finished.after)) answered
    ∙ (ap (λ (asks : Option Request). recounted (counted state number asks finished.answer) (without_waiting number finished.after)) (sym (ap request_waiting waits))
    ∙ sym (left_by state number Poll (serving finished.answer (without_waiting number finished.after)) (polls_done state number one waits some free))))
poll_left state new number one waits some free (Err fault) answered after = tt

pub poll_drawn : {E : Type 0} (state : State) (number : ℕ) (one : Waiting) → waiting_of number state.waiting ≡ Some one → names_in one.request ≢ [] → blocker state number (need state number one.request) ≡ None → (result : Result DrawnAnswer E) → IfOk result (λ served. served.answer ≡ (done state number one.request).answer)
    → IfOk result (λ served. served.drawn ≡ drawn_by state number (Some one.request) served.answer) → IfOk result (λ served. served.drawn ≡ number_drawn None state number Poll)
poll_drawn state number one waits some free (Ok served) answered drawn = rw (polls_done state number one waits some free, waits) (drawn ∙ ap (drawn_by state number (Some one.request)) answered)
poll_drawn state number one waits some free (Err fault) answered drawn = tt

pub poll_answer : {E : Type 0} (state : State) (number : ℕ) (one : Waiting) → waiting_of number state.waiting ≡ Some one → names_in one.request ≢ [] → blocker state number (need state number one.request) ≡ None → (result : Result DrawnAnswer E) → IfOk result (λ served. served.answer ≡ (done state number one.request).answer)
    → IfOk result (λ served. served.answer ≡ (polls state number).answer)
poll_answer state number one waits some free (Ok served) answered = rw (polls_done state number one waits some free) answered
poll_answer state number one waits some free (Err fault) answered = tt

-- a loss, after what is done before it
pub left_lost : (side : Option Side) (state : State) (number : ℕ) (asked : Asked) → LosesWell state number side asked → loses number (before_loss side state number asked) ≡ state_left side state number asked
unfolding counted loses
left_lost None state number asked well = rw well refl
left_lost (Some Before) state number asked well = refl
left_lost (Some After) state number asked well = refl

-- COMMIT, ROLLBACK and UNLOCK TABLES
pub left_commit : (state : State) (number : ℕ) → state_left None state number (Call requests.Commit) ≡ commits number [] state
unfolding counted
left_commit state number = left_by state number (Call requests.Commit) (serving ok (commits number [] state)) (calls_commit state number)

pub drawn_commit : (state : State) (number : ℕ) → number_drawn None state number (Call requests.Commit) ≡ None
drawn_commit state number = rw (calls_commit state number) refl

pub left_rollback : (state : State) (number : ℕ) → state_left None state number (Call requests.Rollback) ≡ forgets number state
unfolding counted
left_rollback state number = left_by state number (Call requests.Rollback) (serving ok (forgets number state)) (calls_rollback state number)

pub drawn_rollback : (state : State) (number : ℕ) → number_drawn None state number (Call requests.Rollback) ≡ None
drawn_rollback state number = rw (calls_rollback state number) refl

pub left_unlock : (state : State) (number : ℕ) → state_left None state number (Call requests.Unlock) ≡ record state { sessions = with_session number unlocking state.sessions }
unfolding counted
left_unlock state number = left_by state number (Call requests.Unlock) (serving ok (record state { sessions = with_session number unlocking state.sessions })) (calls_unlock state number)

pub drawn_unlock : (state : State) (number : ℕ) → number_drawn None state number (Call requests.Unlock) ≡ None
drawn_unlock state number = rw (calls_unlock state number) refl
