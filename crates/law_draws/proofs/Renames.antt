-- A RENAME that isn't done leaves tables, counters and the values of columns; and the exchange that is done.
use Rattle.std.proofs.Common.{◌≡◌, ℕ, ◌+◌, Bool, true, false, List, [], ◌∷◌, cond, Option, Some, None, Result, Ok, Err, refl, sym, ap, ◌∙◌, subst}
use Rattle.std.specs.Prelude.{◌==◌, find, not}
use Rattle.std.specs.List.{AllByRecursion}
use Rattle.std.specs.Option.{option_map}
use Rattle.std.specs.Str.{bytes_eq}
use Rattle.std.proofs.lemmas.Bool.{true≢false}
use Rattle.base_values.specs.ToolNames.{ghost_name, old_name}
use Rattle.base_script.specs.declared.actor.Side.{Side}
use Rattle.base_script.specs.declared.actor.Side.TheVariants.{Before, After}
use Rattle.table_store.specs.Databases.{Database, rename_tables}
use Rattle.table_store.specs.declared.renames.NotRenamed.{NotRenamed}
use Rattle.table_store.specs.declared.renames.Pair.{Pair}
use Rattle.server_model.specs.declared.answer.Answer.{Answer}
use Rattle.server_model.specs.declared.answer.Answer.TheVariants as answers
use Rattle.server_model.specs.declared.counter.Counter.{Counter}
use Rattle.server_model.specs.declared.entry.Asked.{Asked}
use Rattle.server_model.specs.declared.entry.Asked.TheVariants.{Call, Poll, Command, Cut}
use Rattle.server_model.specs.declared.request.Request.{Request}
use Rattle.server_model.specs.declared.request.Request.TheVariants as requests
use Rattle.server_model.specs.declared.session.Session.{Session}
use Rattle.server_model.specs.declared.session.Waiting.{Waiting}
use Rattle.server_model.specs.Blockers.{blocker, need}
use Rattle.server_model.specs.Counting.{counted}
use Rattle.server_model.specs.Effects.{defined, effect_unless, is_outside, renamed_or}
use Rattle.server_model.specs.PlainServer.{Served, asks_for, at_rest, called_unless, calls, counters_left, counting, did, does, done, is_over, leaves, loses, polled_of, polled_over, polled_unless, polls, request_waiting, serves, without_waiting}
use Rattle.server_model.specs.States.{State, counters_named, counters_renamed, is_counter_of, is_in_transaction, next_of, polls_of, session_of, view, waiting_of}
use Rattle.server_model.proofs.LockedRows.Tests.{are_same, same_bytes, turned_bytes}
use Rattle.tool_program.proofs.OnlineCalls.Naming.{not_ghost, not_old}
use Rattle.proof_journals.proofs.Machine.Marks.{ghost_not_old}
use Rattle.proof_journals.proofs.Sentry.Serving.{exchanged}
use Rattle.law_draws.specs.ColumnValues.{EventsBelow}
use Rattle.law_draws.proofs.ColumnValues.{all_left, all_with}

-- A RENAME THAT ISN'T DONE

abbrev pub NotOk : Answer → Type 0
NotOk (answers.Ok count) = ⊥
NotOk answer = Unit {0}

-- it isn't done: it is answered something else, or its session was lost before it
abbrev pub Undone : Option Side → Answer → Type 0
Undone (Some Before) answer = Unit {0}
Undone side answer = NotOk answer

-- where it isn't done tables are as they were; and no live session has written more that isn't committed
pub record Rests (name : List ℕ) (place next : ℕ) (undone : Type 0) (state after : State) : Type 0 where
  pub tables : undone → after.tables ≡ state.tables
  pub writes : AllByRecursion (λ session. EventsBelow name place next session.writes) state.sessions → AllByRecursion (λ session. EventsBelow name place next session.writes) after.sessions

module _ (name : List ℕ) (place next : ℕ) (number : ℕ) (pairs : List Pair) where
  abbrev Below : Session → Type 0
  Below session = EventsBelow name place next session.writes

  abbrev Leaves : State → Served → Type 0
  Leaves state served = Rests name place next (NotOk served.answer) state served.after

  done_rests : (state : State) → Leaves state (done state number (requests.Rename pairs))
  unfolding did
  done_rests state = by (is_outside (session_of number state.sessions) (requests.Rename pairs)) where
    moved : (r : Result Database NotRenamed) → Leaves state (does (defined (renamed_or r)) state number)
    moved (Ok tables) = record { tables = λ undone. absurd undone; writes = λ all. all }
    moved (Err reason) = record { tables = λ undone. refl; writes = λ all. all }

    by : (b : Bool) → Leaves state (does (effect_unless b (is_in_transaction (session_of number state.sessions)) (view number state) state (requests.Rename pairs)) state number)
    by true = record { tables = λ undone. refl; writes = λ all. all }
    by false = moved (rename_tables pairs state.tables)

  called_rests : (state : State) → Leaves state (calls state number (requests.Rename pairs))
  unfolding calls
  called_rests state = by (blocker state number (need state number (requests.Rename pairs))) where
    by : (other : Option ℕ) → Leaves state (called_unless other state number (requests.Rename pairs))
    by None = done_rests state
    by (Some other) = record { tables = λ undone. refl; writes = λ all. all_with Below number (counting 0) state.sessions (λ session is. is) all }

  polled_rests : (state : State) → request_waiting (waiting_of number state.waiting) ≡ Some (requests.Rename pairs) → Leaves state (polls state number)
  unfolding polls
  polled_rests state waits = by (waiting_of number state.waiting) waits where
    over : (b : Bool) (other : ℕ) → Leaves state (polled_over b other state number)
    over true other = record { tables = λ undone. refl; writes = λ all. all_with Below number at_rest state.sessions (λ session is. tt) all }
    over false other = record { tables = λ undone. refl; writes = λ all. all_with Below number (counting (polls_of (session_of number state.sessions) + 1)) state.sessions (λ session is. is) all }

    unless : (other : Option ℕ) → Leaves state (polled_unless other state number (requests.Rename pairs))
    unless None = let rests = done_rests (without_waiting number state) in record { tables = rests.tables; writes = rests.writes }
    unless (Some other) = over (is_over state number) other

    by : (waiting : Option Waiting) → request_waiting waiting ≡ Some (requests.Rename pairs) → Leaves state (polled_of waiting state number)
    by None none = absurd cc
    by (Some waiting) some =
        let one : waiting.request ≡ requests.Rename pairs = cc in
        subst (λ (r : Request). Leaves state (polled_unless (blocker state number (need state number r)) state number r)) (sym one) (unless (blocker state number (need state number (requests.Rename pairs))))

  served_rests : (state : State) (asked : Asked) → asks_for state number asked ≡ Some (requests.Rename pairs) → Leaves state (serves state number asked)
  served_rests state (Call request) asks = let one : request ≡ requests.Rename pairs = cc in subst (λ (r : Request). Leaves state (calls state number r)) (sym one) (called_rests state)
  served_rests state Poll asks = polled_rests state asks
  served_rests state (Command word) asks = absurd cc
  served_rests state Cut asks = absurd cc

  lost_rests : (undone : Type 0) (state after : State) → Rests name place next undone state after → Rests name place next undone state (loses number after)
  unfolding loses
  lost_rests undone state after rests = record { tables = rests.tables; writes = λ all. all_left Below (λ session. not (session.number == number)) after.sessions (rests.writes all) }

  -- *A RENAME that isn't done rests*
  pub rename_rests : (side : Option Side) (state : State) (asked : Asked) → asks_for state number asked ≡ Some (requests.Rename pairs) → Rests name place next (Undone side (serves state number asked).answer) state (leaves side state number asked)
  rename_rests None state asked asks = served_rests state asked asks
  rename_rests (Some Before) state asked asks = lost_rests (Unit {0}) state state (record { tables = λ undone. refl; writes = λ all. all })
  rename_rests (Some After) state asked asks = lost_rests (NotOk (serves state number asked).answer) state (serves state number asked).after (served_rests state asked asks)

-- ... and moves no counter
pub rename_counts : (side : Option Side) (state : State) (number : ℕ) (asked : Asked) (pairs : List Pair) → asks_for state number asked ≡ Some (requests.Rename pairs) → Undone side (serves state number asked).answer → counters_left side state number asked ≡ state.counters
unfolding counted
rename_counts side state number asked pairs asks undone = by side undone where
  answered : (answer : Answer) → NotOk answer → counted state number (Some (requests.Rename pairs)) answer ≡ state.counters
  answered (answers.Ok count) undone = absurd undone
  answered answer undone = refl

  counts : NotOk (serves state number asked).answer → counted state number (asks_for state number asked) (serves state number asked).answer ≡ state.counters
  counts undone = ap (λ (asks : Option Request). counted state number asks (serves state number asked).answer) asks ∙ answered (serves state number asked).answer undone

  by : (side : Option Side) → Undone side (serves state number asked).answer → counters_left side state number asked ≡ state.counters
  by None undone = counts undone
  by (Some Before) undone = refl
  by (Some After) undone = counts undone

-- THE EXCHANGE

-- the table has the new one's counter
pub exchange_counts : (t : List ℕ) (counters : List Counter) → next_of t (counters_renamed (exchanged t) counters) ≡ next_of (ghost_name t) counters
unfolding counters_renamed
exchange_counts t [] = refl
exchange_counts t (one ∷ counters) = by (is_counter_of t one) (is_counter_of (ghost_name t) one) refl refl (exchange_counts t counters) where
  twice : List Counter → List Counter
  twice some = counters_named (ghost_name t) t (counters_named t (old_name t) some)

  no_both : is_counter_of t one ≡ true → is_counter_of (ghost_name t) one ≡ true → ⊥
  no_both here there = true≢false (sym (ap (λ (n : List ℕ). bytes_eq n (ghost_name t)) (sym (are_same one.table t here)) ∙ there) ∙ not_ghost t)

  by : (a b : Bool) → is_counter_of t one ≡ a → is_counter_of (ghost_name t) one ≡ b → next_of t (twice counters) ≡ next_of (ghost_name t) counters → next_of t (twice (one ∷ counters)) ≡ option_map (λ counter. counter.next) (cond b (Some one) (find (is_counter_of (ghost_name t)) counters))
  by true true here there rest = absurd (no_both here there)
  by true false here away rest = rw (here, turned_bytes (ghost_name t) (old_name t) (ghost_not_old t), turned_bytes t (old_name t) (not_old t)) rest
  by false true away there rest = rw (away, there, same_bytes t) refl
  by false false away off rest = rw (away, off) (rw away rest)
