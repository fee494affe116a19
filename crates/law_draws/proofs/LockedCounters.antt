-- While a table is locked its counter stays.
use Rattle.std.proofs.Common.{◌≡◌, ℕ, Bool, true, false, List, [], ◌∷◌, cond, Option, Some, None, refl, sym, ap, ◌∙◌, subst}
use Rattle.std.specs.Prelude.{find, max}
use Rattle.std.specs.Option.{option_map}
use Rattle.std.specs.Str.{bytes_eq}
use Rattle.base_values.specs.GhoSchema.AutoIncrement.{auto_place}
use Rattle.base_script.specs.declared.actor.Side.{Side}
use Rattle.base_script.specs.declared.actor.Side.TheVariants.{Before, After}
use Rattle.base_script.specs.declared.statement.Statement.{Statement}
use Rattle.table_store.specs.Databases.{TableRows, find_table}
use Rattle.server_locks.specs.MetadataLocks.Grants.{blocker_of_name, blocker_of_names}
use Rattle.server_locks.specs.RowLocks.Grants.{blocker_of_set}
use Rattle.server_locks.proofs.LeastSession.Sessions.{none_of}
use Rattle.server_model.specs.declared.answer.Answer.{Answer}
use Rattle.server_model.specs.declared.answer.Answer.TheVariants as answers
use Rattle.server_model.specs.declared.counter.Counter.{Counter}
use Rattle.server_model.specs.declared.entry.Asked.{Asked}
use Rattle.server_model.specs.declared.entry.Asked.TheVariants.{Call, Poll, Command, Cut}
use Rattle.server_model.specs.declared.request.Request.{Request}
use Rattle.server_model.specs.declared.request.Request.TheVariants as requests
use Rattle.server_model.specs.declared.session.Waiting.{Waiting}
use Rattle.server_model.specs.Blockers.{blocker, need}
use Rattle.server_model.specs.Counting.{after_drawn, counted, counts, drawn_by, given_by, gives_in}
use Rattle.server_model.specs.Drawing.{numbered, offered}
use Rattle.server_model.specs.Operations.{table_of}
use Rattle.server_model.specs.PlainServer.{asks_for, called_unless, counters_left, calls, is_over, polled_of, polled_over, polled_unless, polls, request_waiting, serves}
use Rattle.server_model.specs.States.{State, counter_of, counters_from, is_counter_of, locks_held, names_held, next_of, waiters, waiting_of}
use Rattle.server_model.proofs.Filling.{numbered_table}
use Rattle.server_model.proofs.LockedRows.Counters.{found_named}
use Rattle.server_model.proofs.LockedRows.Tests.{are_same, nor_left, turned_bytes}
use Rattle.server_model.proofs.Raising.{raised_zero}
use Rattle.proof_journals.proofs.Sentry.Holding.{refused_shared}
use Rattle.proof_journals.proofs.Rising.{if_counted, next_more, next_renamed, next_without, none_started, both_named}
use Rattle.law_draws.specs.LockedCounters.{LeavesCounter, LockedCountersStay}

-- COUNTERS OF OTHER NAMES

next_from : (name other : List ℕ) (n : ℕ) (counters : List Counter) → bytes_eq name other ≡ false → next_of name (counters_from other n counters) ≡ next_of name counters
next_from name other n [] off = refl
next_from name other n (one ∷ counters) off = by (is_counter_of other one) (is_counter_of name one) refl refl (next_from name other n counters off) where
  by : (a b : Bool) → is_counter_of other one ≡ a → is_counter_of name one ≡ b → next_of name (counters_from other n counters) ≡ next_of name counters
      → next_of name (cond a (record one { next = max one.next n }) one ∷ counters_from other n counters) ≡ option_map (λ counter. counter.next) (cond b (Some one) (find (is_counter_of name) counters))
  by true true here also rest = absurd (both_named name other one off here also)
  by true false here away rest = rw away rest
  by false true here also rest = rw also refl
  by false false here away rest = rw away rest

counts_other : (name : List ℕ) (found : Option TableRows) (drawn : Option ℕ) (statement : Statement) (answer : Answer) (counters : List Counter) → ((table : TableRows) → found ≡ Some table → bytes_eq name table.schema.name ≡ false)
    → next_of name (counts found drawn statement answer counters) ≡ next_of name counters
counts_other name None drawn statement answer counters off = refl
counts_other name (Some table) drawn statement answer counters off =
    next_from name table.schema.name (given_by answer (gives_in table.schema (auto_place table.schema) (numbered drawn statement))) (counters_from table.schema.name (after_drawn drawn) counters) (off table refl)
    ∙ next_from name table.schema.name (after_drawn drawn) counters (off table refl)

-- WHERE A STATEMENT WAITS

-- what waits, or waited in vain, moves no counter
counts_waits : (found : Option TableRows) (statement : Statement) (by : ℕ) (counters : List Counter) → counts found None statement (answers.Waits by) counters ≡ counters
counts_waits None statement by counters = refl
counts_waits (Some table) statement by counters = ap (counters_from table.schema.name 0) (raised_zero table.schema.name counters) ∙ raised_zero table.schema.name counters

counts_timed : (found : Option TableRows) (statement : Statement) (waited : ℕ) (counters : List Counter) → counts found None statement (answers.TimedOut waited) counters ≡ counters
counts_timed None statement waited counters = refl
counts_timed (Some table) statement waited counters = ap (counters_from table.schema.name 0) (raised_zero table.schema.name counters) ∙ raised_zero table.schema.name counters

-- A REQUEST, BY WHAT IT IS

abbrev Stays : List ℕ → State → ℕ → Option Request → Answer → Type 0
Stays name state number asks answer = next_of name (counted state number asks answer) ≡ next_of name state.counters

-- a statement on another table, and every other request
pub other_stays : (name : List ℕ) (state : State) (number : ℕ) (request : Request) (answer : Answer) → LeavesCounter name (Some request) → ((statement : Statement) → request ≡ requests.Do statement → bytes_eq name (table_of statement) ≡ false) → Stays name state number (Some request) answer
unfolding counted
other_stays name state number (requests.Do statement) answer leaves off =
    counts_other name (find_table (table_of statement) state.tables) (drawn_by state number (Some (requests.Do statement)) answer) statement answer state.counters
    (λ table is. ap (bytes_eq name) (found_named (table_of statement) state.tables table is) ∙ off statement refl)
other_stays name state number (requests.Create schema) answer leaves off =
    if_counted (λ (c : List Counter). next_of name c ≡ next_of name state.counters) answer _ state.counters refl
    (next_more name state.counters (counter_of (record { schema = schema; rows = [] })) (none_started name (record { schema = schema; rows = [] }) (auto_place schema) (turned_bytes name schema.name (nor_left (bytes_eq name schema.name) false leaves))))
other_stays name state number (requests.Drop dropped) answer leaves off =
    if_counted (λ (c : List Counter). next_of name c ≡ next_of name state.counters) answer _ state.counters refl (next_without name dropped state.counters (nor_left (bytes_eq name dropped) false leaves))
other_stays name state number (requests.Rename pairs) answer leaves off =
    if_counted (λ (c : List Counter). next_of name c ≡ next_of name state.counters) answer _ state.counters refl (next_renamed name pairs state.counters leaves)
other_stays name state number (requests.SetCounter table least) answer leaves off =
    if_counted (λ (c : List Counter). next_of name c ≡ next_of name state.counters) answer _ state.counters refl (next_from name table least state.counters leaves)
other_stays name state number request answer leaves off = refl

-- what is about no request
pub unasked_stays : (name : List ℕ) (state : State) (number : ℕ) (answer : Answer) → Stays name state number None answer
unfolding counted
unasked_stays name state number answer = refl

-- where the session is granted no shared lock on the table
module _ (name : List ℕ) (state : State) (number : ℕ) (refused : blocker_of_name (names_held state.sessions) (waiters state.waiting) number name false ≡ None → ⊥) where
  -- A statement on the table isn't granted its lock.
  ungranted : (statement : Statement) → table_of statement ≡ name → blocker state number (need state number (requests.Do statement)) ≡ None → ⊥
  unfolding blocker_of_names
  ungranted statement own free =
      let asked : need state number (requests.Do statement) ≡ need state number (requests.Do statement) = refl in
      let names = (none_of (blocker_of_names (names_held state.sessions) (waiters state.waiting) number false (table_of (numbered (offered state number statement) statement) ∷ [])) (blocker_of_set (locks_held state.sessions) number (need state number (requests.Do statement)).locks) free).0 in
      let one = (none_of (blocker_of_name (names_held state.sessions) (waiters state.waiting) number (table_of (numbered (offered state number statement) statement)) false) None names).0 in
      refused
      (subst (λ (t : List ℕ). blocker_of_name (names_held state.sessions) (waiters state.waiting) number t false ≡ None) (numbered_table (offered state number statement) statement ∙ own) one)

  abbrev Own : Option Request → Answer → Type 0
  Own asks answer = Stays name state number asks answer

  waits_stay : (statement : Statement) (by : ℕ) → Own (Some (requests.Do statement)) (answers.Waits by)
  unfolding counted
  waits_stay statement by = ap (next_of name) (counts_waits (find_table (table_of statement) state.tables) statement by state.counters)

  timed_stay : (statement : Statement) (waited : ℕ) → Own (Some (requests.Do statement)) (answers.TimedOut waited)
  unfolding counted
  timed_stay statement waited = ap (next_of name) (counts_timed (find_table (table_of statement) state.tables) statement waited state.counters)

  called_stays : (statement : Statement) → table_of statement ≡ name → Own (Some (requests.Do statement)) (calls state number (requests.Do statement)).answer
  unfolding calls
  called_stays statement own = at (blocker state number (need state number (requests.Do statement))) refl where
    at : (by : Option ℕ) → blocker state number (need state number (requests.Do statement)) ≡ by → Own (Some (requests.Do statement)) (called_unless by state number (requests.Do statement)).answer
    at None free = absurd (ungranted statement own free)
    at (Some by) is = waits_stay statement by

  polled_stays : (statement : Statement) → table_of statement ≡ name → Own (Some (requests.Do statement)) (polled_unless (blocker state number (need state number (requests.Do statement))) state number (requests.Do statement)).answer
  polled_stays statement own = at (blocker state number (need state number (requests.Do statement))) refl where
    over : (b : Bool) (by : ℕ) → Own (Some (requests.Do statement)) (polled_over b by state number).answer
    over true by = timed_stay statement _
    over false by = waits_stay statement by

    at : (by : Option ℕ) → blocker state number (need state number (requests.Do statement)) ≡ by → Own (Some (requests.Do statement)) (polled_unless by state number (requests.Do statement)).answer
    at None free = absurd (ungranted statement own free)
    at (Some by) is = over (is_over state number) by

  -- a request, where a statement on the table has an answer that leaves its counter
  request_stays : (request : Request) (answer : Answer) → LeavesCounter name (Some request) → ((statement : Statement) → request ≡ requests.Do statement → table_of statement ≡ name → Own (Some request) answer) → Own (Some request) answer
  request_stays (requests.Do statement) answer leaves own = at (bytes_eq name (table_of statement)) refl where
    at : (b : Bool) → bytes_eq name (table_of statement) ≡ b → Own (Some (requests.Do statement)) answer
    at true here = own statement refl (sym (are_same name (table_of statement) here))
    at false off = other_stays name state number (requests.Do statement) answer leaves (λ other same. let one : statement ≡ other = cc in ap (λ (s : Statement). bytes_eq name (table_of s)) (sym one) ∙ off)
  request_stays request answer leaves own = other_stays name state number request answer leaves (λ statement same. absurd cc)

  served_stays : (asked : Asked) → LeavesCounter name (asks_for state number asked) → Own (asks_for state number asked) (serves state number asked).answer
  unfolding polls
  served_stays (Call request) leaves =
      request_stays request (calls state number request).answer leaves
      (λ statement same own. subst (λ (r : Request). Own (Some r) (calls state number r).answer) (sym same) (called_stays statement own))
  served_stays Poll leaves = at (waiting_of number state.waiting) refl leaves where
    waited : (waiting : Waiting) → LeavesCounter name (Some waiting.request) → Own (Some waiting.request) (polled_of (Some waiting) state number).answer
    waited waiting leaves =
        request_stays waiting.request (polled_unless (blocker state number (need state number waiting.request)) state number waiting.request).answer leaves
        (λ statement same own. subst (λ (r : Request). Own (Some r) (polled_unless (blocker state number (need state number r)) state number r).answer) (sym same) (polled_stays statement own))

    at : (waiting : Option Waiting) → waiting_of number state.waiting ≡ waiting → LeavesCounter name (request_waiting waiting) → Own (request_waiting (waiting_of number state.waiting)) (polled_of (waiting_of number state.waiting) state number).answer
    at None is leaves = rw is (unasked_stays name state number (polled_of None state number).answer)
    at (Some waiting) is leaves = rw is (waited waiting leaves)
  served_stays (Command word) leaves = unasked_stays name state number (answers.Ok 0)
  served_stays Cut leaves = unasked_stays name state number answers.Lost

-- *Refused counters stay*
pub refused_counters_stay : (name : List ℕ) (side : Option Side) (state : State) (number : ℕ) (asked : Asked) → (blocker_of_name (names_held state.sessions) (waiters state.waiting) number name false ≡ None → ⊥) → LeavesCounter name (asks_for state number asked)
    → next_of name (counters_left side state number asked) ≡ next_of name state.counters
refused_counters_stay name None state number asked refused leaves = served_stays name state number refused asked leaves
refused_counters_stay name (Some Before) state number asked refused leaves = refl
refused_counters_stay name (Some After) state number asked refused leaves = served_stays name state number refused asked leaves

-- *Locked counters stay*
pub locked_counters_stay : LockedCountersStay
locked_counters_stay name locker side state number asked apart locked leaves =
    refused_counters_stay name side state number asked (refused_shared (names_held state.sessions) (waiters state.waiting) number locker name apart locked) leaves
