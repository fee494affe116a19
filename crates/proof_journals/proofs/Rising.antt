-- Numbers rise: no turn lowers a counter, and a number that is drawn is the counter, which is past it afterwards.
use Rattle.std.proofs.Common.{◌≡◌, ℕ, ◌≤◌, Bool, true, false, not, ◌||◌, List, [], ◌∷◌, ◌++◌, cond, Option, Some, None, refl, sym, ap, ◌∙◌, subst, arith}
use Rattle.std.specs.Prelude.{find}
use Rattle.std.proofs.lemmas.Bool.{true≢false}
use Rattle.std.specs.List.{list_any}
use Rattle.std.specs.Option.{option_map}
use Rattle.std.specs.Str.{bytes_eq}
use Rattle.table_store.specs.Databases.{TableRows}
use Rattle.table_store.specs.declared.renames.Pair.{Pair}
use Rattle.base_values.specs.GhoSchema.AutoIncrement.{auto_place}
use Rattle.base_script.specs.declared.actor.Side.{Side}
use Rattle.base_script.specs.declared.actor.Side.TheVariants.{Before, After}
use Rattle.base_script.specs.declared.statement.Statement.{Statement}
use Rattle.server_model.specs.declared.answer.Answer.{Answer}
use Rattle.server_model.specs.declared.answer.Answer.TheVariants as answers
use Rattle.server_model.specs.declared.request.Request.{Request}
use Rattle.server_model.specs.declared.request.Request.TheVariants as requests
use Rattle.server_model.specs.declared.entry.Asked.{Asked}
use Rattle.server_model.specs.Entries.{is_client, is_command}
use Rattle.server_model.specs.Operations.{table_of}
use Rattle.server_model.specs.declared.counter.Counter.{Counter}
use Rattle.server_model.specs.States.{State, connected, is_live, pair_names, next_of, is_counter_of, started, counter_of, counters_without, counters_named, counters_renamed, after_number}
use Rattle.server_model.specs.Counting.{counts_if, counted}
use Rattle.server_model.specs.PlainServer.{serves, asks_for, counters_left}
use Rattle.server_model.specs.LockedRows.Counters.{NoLess, IsBehind, DrawnSo}
use Rattle.server_model.proofs.LockedRows.Counters.{less_itself, counters_never_fall, numbers_are_counters}
use Rattle.server_model.proofs.LockedRows.Tests.{are_same, turned_bytes, nor_left, nor_right}
use Rattle.tool_program.specs.JournalWords.Journals.{opens, opens_if, after_entry}
use Rattle.tool_program.specs.JournalWords.Draws.{asked_in, drawn_from}
use Rattle.proof_journals.specs.Turns.{drawn_side}
use Rattle.proof_journals.proofs.Joined.{reported_draw}
use Rattle.proof_journals.specs.Rising.{LeavesName, numbers_on, Rising, AtLeast, NumbersRise}

pub opened_counters : (nothing tool : Bool) (number : ℕ) (state : State) → (opens_if nothing tool number state).counters ≡ state.counters
unfolding opens_if
opened_counters nothing tool number state = by (nothing || is_live state number) where
  by : (b : Bool) → (cond b state (connected number tool state)).counters ≡ state.counters
  by true = refl
  by false = refl

-- COUNTERS OF OTHER NAMES

pub next_more : (name : List ℕ) (counters more : List Counter) → next_of name more ≡ None → next_of name (counters ++ more) ≡ next_of name counters
next_more name [] more none = none
next_more name (one ∷ counters) more none = by (is_counter_of name one) (next_more name counters more none) where
  by : (b : Bool) → next_of name (counters ++ more) ≡ next_of name counters
      → option_map (λ counter. counter.next) (cond b (Some one) (find (is_counter_of name) (counters ++ more))) ≡ option_map (λ counter. counter.next) (cond b (Some one) (find (is_counter_of name) counters))
  by true rest = refl
  by false rest = rest

pub none_started : (name : List ℕ) (table : TableRows) (place : Option ℕ) → bytes_eq table.schema.name name ≡ false → next_of name (started table place) ≡ None
none_started name table None off = refl
none_started name table (Some place) off = rw off refl

-- a counter has one name
pub both_named : (name other : List ℕ) (one : Counter) → bytes_eq name other ≡ false → bytes_eq one.table other ≡ true → bytes_eq one.table name ≡ true → ⊥
both_named name other one off here also =
    true≢false (sym (ap (λ (n : List ℕ). bytes_eq n other) (sym (are_same one.table name also)) ∙ here) ∙ off)

pub next_without : (name other : List ℕ) (counters : List Counter) → bytes_eq name other ≡ false → next_of name (counters_without other counters) ≡ next_of name counters
next_without name other [] off = refl
next_without name other (one ∷ counters) off = by (is_counter_of other one) (is_counter_of name one) refl refl (next_without name other counters off) where
  by : (a b : Bool) → is_counter_of other one ≡ a → is_counter_of name one ≡ b → next_of name (counters_without other counters) ≡ next_of name counters
      → next_of name (cond (not a) (one ∷ counters_without other counters) (counters_without other counters)) ≡ option_map (λ counter. counter.next) (cond b (Some one) (find (is_counter_of name) counters))
  by true true here also rest = absurd (both_named name other one off here also)
  by true false here away rest = rest
  by false true here also rest = rw also refl
  by false false here away rest = rw away rest

next_named : (name old new : List ℕ) (counters : List Counter) → bytes_eq name old ≡ false → bytes_eq name new ≡ false → next_of name (counters_named old new counters) ≡ next_of name counters
next_named name old new [] off away = refl
next_named name old new (one ∷ counters) off away = by (is_counter_of old one) (is_counter_of name one) refl refl (next_named name old new counters off away) where
  by : (a b : Bool) → is_counter_of old one ≡ a → is_counter_of name one ≡ b → next_of name (counters_named old new counters) ≡ next_of name counters
      → next_of name (cond a (record one { table = new }) one ∷ counters_named old new counters) ≡ option_map (λ counter. counter.next) (cond b (Some one) (find (is_counter_of name) counters))
  by true true here also rest = absurd (both_named name old one off here also)
  by true false here other rest = rw (turned_bytes name new away) rest
  by false true here also rest = rw also refl
  by false false here other rest = rw other rest

pub next_renamed : (name : List ℕ) (pairs : List Pair) (counters : List Counter) → list_any (bytes_eq name) (pair_names pairs) ≡ false → next_of name (counters_renamed pairs counters) ≡ next_of name counters
unfolding counters_renamed
next_renamed name [] counters off = refl
next_renamed name (pair ∷ pairs) counters off =
    next_renamed name pairs (counters_named pair.old pair.new counters) (nor_right (bytes_eq name pair.new) _ (nor_right (bytes_eq name pair.old) _ off))
    ∙ next_named name pair.old pair.new counters (nor_left (bytes_eq name pair.old) _ off) (nor_left (bytes_eq name pair.new) _ (nor_right (bytes_eq name pair.old) _ off))

pub if_counted : (P : List Counter → Type 0) (answer : Answer) (change : List Counter → List Counter) (counters : List Counter) → P counters → P (change counters) → P (counts_if answer change counters)
if_counted P (answers.Ok count) change counters stays moves = moves
if_counted P other change counters stays moves = stays

less_as : (a b : Option ℕ) → b ≡ a → NoLess a b
less_as a b same = subst (NoLess a) (sym same) (less_itself a)

never_falls : (state : State) (number : ℕ) (asks : Option Request) (answer : Answer) (name : List ℕ) → LeavesName name asks → NoLess (next_of name state.counters) (next_of name (counted state number asks answer))
unfolding counted
never_falls state number None answer name leaves = less_itself (next_of name state.counters)
never_falls state number (Some (requests.Create schema)) answer name leaves =
    if_counted (λ (c : List Counter). NoLess (next_of name state.counters) (next_of name c)) answer _ state.counters (less_itself (next_of name state.counters))
    (less_as (next_of name state.counters) _ (next_more name state.counters (counter_of (record { schema = schema; rows = [] })) (none_started name (record { schema = schema; rows = [] }) (auto_place schema) (turned_bytes name schema.name (nor_left (bytes_eq name schema.name) _ leaves)))))
never_falls state number (Some (requests.Drop dropped)) answer name leaves =
    if_counted (λ (c : List Counter). NoLess (next_of name state.counters) (next_of name c)) answer _ state.counters (less_itself (next_of name state.counters))
    (less_as (next_of name state.counters) _ (next_without name dropped state.counters (nor_left (bytes_eq name dropped) _ leaves)))
never_falls state number (Some (requests.Rename pairs)) answer name leaves =
    if_counted (λ (c : List Counter). NoLess (next_of name state.counters) (next_of name c)) answer _ state.counters (less_itself (next_of name state.counters))
    (less_as (next_of name state.counters) _ (next_renamed name pairs state.counters leaves))
never_falls state number (Some (requests.Do statement)) answer name leaves = counters_never_fall state number (Some (requests.Do statement)) answer name refl
never_falls state number (Some (requests.SetCounter table least)) answer name leaves = counters_never_fall state number (Some (requests.SetCounter table least)) answer name refl
never_falls state number (Some other) answer name leaves = less_itself (next_of name state.counters)

-- A TURN

pub turn_falls : (side : Option Side) (state : State) (number : ℕ) (asked : Asked) (name : List ℕ) → LeavesName name (asks_for state number asked) → NoLess (next_of name state.counters) (next_of name (counters_left side state number asked))
turn_falls (Some Before) state number asked name leaves = less_itself (next_of name state.counters)
turn_falls None state number asked name leaves = never_falls state number (asks_for state number asked) (serves state number asked).answer name leaves
turn_falls (Some After) state number asked name leaves = never_falls state number (asks_for state number asked) (serves state number asked).answer name leaves

pub turn_draws : (side : Option Side) (state : State) (number : ℕ) (asked : Asked) (n : ℕ) → drawn_side side state number asked ≡ Some n
    → (statement : Statement) × (asks_for state number asked ≡ Some (requests.Do statement)) × (next_of (table_of statement) state.counters ≡ Some n) × IsBehind n (next_of (table_of statement) (counters_left side state number asked))
turn_draws (Some Before) state number asked n none = absurd cc
turn_draws None state number asked n is =
    let one : DrawnSo state number (asks_for state number asked) (serves state number asked).answer n = numbers_are_counters state number (asks_for state number asked) (serves state number asked).answer n is in
    (one.statement, one.asked, one.counter, one.behind)
turn_draws (Some After) state number asked n is =
    let one : DrawnSo state number (asks_for state number asked) (serves state number asked).answer n = numbers_are_counters state number (asks_for state number asked) (serves state number asked).answer n is in
    (one.statement, one.asked, one.counter, one.behind)

at_least_more : (low : ℕ) (a b : Option ℕ) → AtLeast low a → NoLess a b → AtLeast low b
at_least_more low None b least less = subst (AtLeast low) (sym less) tt
at_least_more low (Some a) None least less = tt
at_least_more low (Some a) (Some b) least less = omega (arith, least, less)

at_least_after : (n : ℕ) (b : Option ℕ) → IsBehind n b → AtLeast (after_number n) b
at_least_after n None behind = tt
at_least_after n (Some b) behind = behind

low_is : (low n : ℕ) (o : Option ℕ) → o ≡ Some n → AtLeast low o → low ≤ n
low_is low n o is least = subst (AtLeast low) is least

-- *Numbers rise*
pub numbers_rise : NumbersRise
unfolding numbers_on
numbers_rise name state [] low all least = tt
numbers_rise name state (entry ∷ entries) low all least = by entry.draw refl (λ next from. numbers_rise name (after_entry state entry) entries next all.1 from) where
  now : State
  now = opens entry state

  after : State
  after = after_entry state entry

  Goes : Type 0
  Goes = (next : ℕ) → AtLeast next (next_of name after.counters) → Rising next (numbers_on name after entries)

  same : now.counters ≡ state.counters
  same = opened_counters (is_command entry.asked) (not (is_client entry.actor)) entry.session state

  least_now : AtLeast low (next_of name now.counters)
  least_now = subst (λ (c : List Counter). AtLeast low (next_of name c)) (sym same) least

  falls : NoLess (next_of name now.counters) (next_of name after.counters)
  falls = turn_falls entry.side now entry.session entry.asked name all.0.1

  rest : Goes → Rising low (numbers_on name after entries)
  rest goes = goes low (at_least_more low (next_of name now.counters) (next_of name after.counters) least_now falls)

  own : Goes → (n : ℕ) (statement : Statement) → next_of (table_of statement) now.counters ≡ Some n → IsBehind n (next_of (table_of statement) after.counters) → (b : Bool) → bytes_eq (table_of statement) name ≡ b → Rising low (cond b (n ∷ []) [] ++ numbers_on name after entries)
  own goes n statement counter behind false off = rest goes
  own goes n statement counter behind true here =
      let it : table_of statement ≡ name = are_same (table_of statement) name here in (
        low_is low n (next_of name now.counters) (subst (λ (t : List ℕ). next_of t now.counters ≡ Some n) it counter) least_now,
        goes (after_number n) (at_least_after n (next_of name after.counters) (subst (λ (t : List ℕ). IsBehind n (next_of t after.counters)) it behind)),
      )

  drew : Goes → (n : ℕ) (statement : Statement) → asked_in state entry ≡ Some (requests.Do statement) → next_of (table_of statement) now.counters ≡ Some n → IsBehind n (next_of (table_of statement) after.counters)
      → Rising low (drawn_from (Some n) name (asked_in state entry) ++ numbers_on name after entries)
  drew goes n statement asks counter behind =
      subst (λ (r : Option Request). Rising low (drawn_from (Some n) name r ++ numbers_on name after entries)) (sym asks) (own goes n statement counter behind (bytes_eq (table_of statement) name) refl)

  by : (draw : Option ℕ) → entry.draw ≡ draw → Goes → Rising low (drawn_from draw name (asked_in state entry) ++ numbers_on name after entries)
  by None is goes = rest goes
  by (Some n) is goes =
      let one = turn_draws entry.side now entry.session entry.asked n (sym (reported_draw state entry all.0.0) ∙ is) in
      drew goes n one.0 one.1 one.2 one.3
