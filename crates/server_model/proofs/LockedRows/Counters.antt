-- New rows are below the counter, and counters never fall.
use Rattle.std.proofs.Common.{◌≡◌, ℕ, zero, suc, ◌+◌, ◌≤◌, Bool, true, false, List, [], ◌∷◌, ◌++◌, map, filter, cond, Option, Some, None, Result, Ok, Err, refl, sym, ap, ◌∙◌, subst, arith}
use Rattle.std.specs.Prelude.{◌==◌, length, max, find}
use Rattle.std.proofs.Math.Nat.{le-max_left, le-max_right, max-le}
use Rattle.std.proofs.lemmas.Bool.{false≢true, true≢false}
use Rattle.std.proofs.lemmas.Bool.Decides.{nat_tests}
use Rattle.std.specs.List.{AllByRecursion, list_any, slice_get}
use Rattle.std.specs.Option.{option_map}
use Rattle.table_store.proofs.Ascending.{all-filter}
use Rattle.base_values.specs.declared.value.Value.{Value}
use Rattle.base_values.specs.declared.gho_schema.schema.Schema.{Schema}
use Rattle.base_values.specs.declared.row_conversion.conversion_fault.UnfitAt.{UnfitAt}
use Rattle.base_values.specs.GhoSchema.Rows.{key_places}
use Rattle.base_values.specs.GhoSchema.Tables.{clash}
use Rattle.base_values.specs.GhoSchema.AutoIncrement.{auto_place}
use Rattle.base_values.specs.declared.event.Change.{Change}
use Rattle.base_values.specs.declared.mysql_errors.TheConstants.{ER_DUP_ENTRY}
use Rattle.base_values.specs.declared.event.Change.TheVariants as changes
use Rattle.base_script.specs.declared.statement.Statement.{Statement}
use Rattle.table_store.specs.Databases.{TableRows, Database, is_named, find_table}
use Rattle.server_model.proofs.LockedRows.Tests.{are_same}
use Rattle.server_model.specs.declared.answer.Answer.{Answer}
use Rattle.server_model.specs.declared.answer.Answer.TheVariants as answers
use Rattle.server_model.specs.declared.request.Request.{Request}
use Rattle.server_model.specs.declared.request.Request.TheVariants as requests
use Rattle.server_model.specs.declared.work.Work.{Work}
use Rattle.server_model.specs.declared.work.Work.TheVariants as works
use Rattle.server_model.specs.Answers.{refuses}
use Rattle.server_model.specs.Rows.{rows_met, same_row, change_rows}
use Rattle.server_model.specs.Checks.{draws}
use Rattle.server_model.specs.Operations.{table_of}
use Rattle.server_model.specs.StatementResults.{TableResult, only, tells, displaced, with_sets, updates, updated, change_first, clashes_besides, result_or_refusal}
use Rattle.server_model.specs.declared.counter.Counter.{Counter}
use Rattle.server_model.specs.States.{State, session_of, is_of_tool, next_of, is_counter_of, counters_from, after_number, after_value}
use Rattle.server_model.specs.Drawing.{numbered, offered_of, offered_in}
use Rattle.server_model.specs.Effects.{is_outside}
use Rattle.server_model.specs.Counting.{is_answered, drawn_if, offered_inside, offered_to, drawn_by, set_in, gives, given_by, gives_in, after_drawn, counts, counts_if, counted}
use Rattle.server_model.specs.LockedRows.Counters.{IsBelow, PutsBelow, is_copy, NewRowsAreBelow, keeps_names, NoLess, CountersNeverFall, IsBehind, DrawnSo, NumbersAreCounters}

le_then : (a b c : ℕ) → a ≤ b → b ≤ c → a ≤ c
le_then a b c one two = omega (arith, one, two)

-- WHAT SETS LEAVE AT A PLACE

sets_at : (sets : List (Option Value)) (row : List Value) (place : ℕ) → after_value (slice_get (with_sets sets row) place) ≤ max (after_value (slice_get row place)) (after_value (set_in (slice_get sets place)))
unfolding with_sets
sets_at [] row place = le-max_left (after_value (slice_get row place)) 0
sets_at (set ∷ sets) [] place = le-max_left 0 (after_value (set_in (slice_get (set ∷ sets) place)))
sets_at (None ∷ sets) (value ∷ row) zero = le-max_left (after_value (Some value)) 0
sets_at (Some new ∷ sets) (value ∷ row) zero = le-max_right (after_value (Some value)) (after_value (Some new))
sets_at (None ∷ sets) (value ∷ row) (suc place) = sets_at sets row place
sets_at (Some new ∷ sets) (value ∷ row) (suc place) = sets_at sets row place

some_rows : (n : ℕ) → (1 + n == 0) ≡ false
some_rows n = grind (arith, nat_tests)

suc_rows : (n : ℕ) → (suc n == 0) ≡ false
suc_rows n = grind (arith, nat_tests)

-- UPDATES

first_below : (P : Change → Type 0) (change : Change) (r : Result (List Change) Answer) → P change → ((all : List Change) → r ≡ Ok all → AllByRecursion P all) → (all : List Change) → change_first change r ≡ Ok all → AllByRecursion P all
first_below P change (Ok others) one rest all is = subst (AllByRecursion P) (let same : change ∷ others ≡ all = cc in same) (one, rest others refl)
first_below P change (Err refusal) one rest all is = absurd cc

updates_below : (schema : Schema) (sets : List (Option Value)) (place next : ℕ) (met rows : List (List Value)) → AllByRecursion (IsBelow place next) met → (all : List Change) → updates schema sets met rows ≡ Ok all
    → AllByRecursion (PutsBelow place (max next (after_value (set_in (slice_get sets place))))) all
unfolding updates
updates_below schema sets place next [] rows below all is = subst (AllByRecursion (PutsBelow place (max next (after_value (set_in (slice_get sets place)))))) (let same : [] ≡ all = cc in same) tt
updates_below schema sets place next (old ∷ met) rows below all is =
    by (same_row old (with_sets sets old)) (updates_below schema sets place next met rows below.1) (updates_below schema sets place next met (change_rows (key_places schema) (changes.Update old (with_sets sets old)) rows) below.1) is
  where
    given : ℕ
    given = after_value (set_in (slice_get sets place))

    after : List (List Value)
    after = change_rows (key_places schema) (changes.Update old (with_sets sets old)) rows

    Goes : List (List Value) → Type 0
    Goes some = (others : List Change) → updates schema sets met some ≡ Ok others → AllByRecursion (PutsBelow place (max next given)) others

    one : after_value (slice_get (with_sets sets old) place) ≤ max next given
    one = le_then _ _ _ (sets_at sets old place) (max-le (le_then _ _ _ below.0 (le-max_left next given)) (le-max_right next given))

    unless : (b : Bool) → Goes after → cond b (Err (refuses ER_DUP_ENTRY)) (change_first (changes.Update old (with_sets sets old)) (updates schema sets met after)) ≡ Ok all → AllByRecursion (PutsBelow place (max next given)) all
    unless true rest refused = absurd cc
    unless false rest so = first_below (PutsBelow place (max next given)) (changes.Update old (with_sets sets old)) (updates schema sets met after) one rest all so

    by : (b : Bool) → Goes rows → Goes after → cond b (updates schema sets met rows) (cond (clashes_besides schema (with_sets sets old) old rows) (Err (refuses ER_DUP_ENTRY)) (change_first (changes.Update old (with_sets sets old)) (updates schema sets met after))) ≡ Ok all → AllByRecursion (PutsBelow place (max next given)) all
    by true same rest so = same all so
    by false same rest so = unless (clashes_besides schema (with_sets sets old) old rows) rest so

-- a change more or less, by how many there are
counted_below : (place next given : ℕ) (value : Option Value) → after_value value ≡ given → (all : List Change) → AllByRecursion (PutsBelow place (max next given)) all → AllByRecursion (PutsBelow place (max next (given_by (answers.Ok (length all)) value))) all
counted_below place next given value same [] below = tt
counted_below place next given value same (change ∷ all) below =
    subst (λ (b : Bool). AllByRecursion (PutsBelow place (max next (cond b 0 (after_value value)))) (change ∷ all)) (sym (suc_rows (length all)))
    (subst (λ (m : ℕ). AllByRecursion (PutsBelow place (max next m)) (change ∷ all)) (sym same) below)

result_below : (schema : Schema) (sets : List (Option Value)) (place next : ℕ) (r : Result (List Change) Answer) → ((all : List Change) → r ≡ Ok all → AllByRecursion (PutsBelow place (max next (after_value (set_in (slice_get sets place))))) all)
    → AllByRecursion (PutsBelow place (max next (given_by (result_or_refusal r).answer (set_in (slice_get sets place))))) (result_or_refusal r).changes
result_below schema sets place next (Ok all) is = counted_below place next (after_value (set_in (slice_get sets place))) (set_in (slice_get sets place)) refl all (is all refl)
result_below schema sets place next (Err refusal) is = tt

-- DELETIONS PUT NOTHING

deletes_below : (place next : ℕ) (rows : List (List Value)) (more : List Change) → AllByRecursion (PutsBelow place next) more → AllByRecursion (PutsBelow place next) (map changes.Delete rows ++ more)
deletes_below place next [] more below = below
deletes_below place next (row ∷ rows) more below = (tt, deletes_below place next rows more below)

deletes_alone : (place next : ℕ) (rows : List (List Value)) → AllByRecursion (PutsBelow place next) (map changes.Delete rows)
deletes_alone place next [] = tt
deletes_alone place next (row ∷ rows) = (tt, deletes_alone place next rows)

written_below : (place next count : ℕ) (row : List Value) → IsBelow place (max next (given_by (answers.Ok (1 + count)) (slice_get row place))) row
written_below place next count row = rw (some_rows count) (le-max_right next (after_value (slice_get row place)))

-- *New rows are below*
pub new_rows_below : NewRowsAreBelow
unfolding tells
new_rows_below schema place next rows (works.Refuse refusal) no_copy below = tt
new_rows_below schema place next rows (works.Insert row) no_copy below = at (list_any (clash schema.uniques row) rows) where
  outcome : Bool → TableResult
  outcome b = cond b (only (refuses ER_DUP_ENTRY)) (record { answer = answers.Ok 1; changes = changes.Write row ∷ [] })

  at : (b : Bool) → AllByRecursion (PutsBelow place (max next (given_by (outcome b).answer (slice_get row place)))) (outcome b).changes
  at true = tt
  at false = (le-max_right next (after_value (slice_get row place)), tt)
new_rows_below schema place next rows (works.Copy row) copies below = absurd (true≢false copies)
new_rows_below schema place next rows (works.Replace row) no_copy below =
    deletes_below place _ (displaced schema row rows) (changes.Write row ∷ []) (written_below place next (length (displaced schema row rows)) row, tt)
new_rows_below schema place next rows (works.Delete reach) no_copy below = deletes_alone place _ (rows_met schema reach rows)
new_rows_below schema place next rows (works.Update reach (Ok sets)) no_copy below =
    result_below schema sets place next (updates schema sets (rows_met schema reach rows) rows) (updates_below schema sets place next (rows_met schema reach rows) rows (all-filter (IsBelow place next) _ rows below))
new_rows_below schema place next rows (works.Update reach (Err at)) no_copy below = by (rows_met schema reach rows) where
  by : (met : List (List Value)) → AllByRecursion (PutsBelow place (max next (given_by (updated schema (Err at) met rows).answer None))) (updated schema (Err at) met rows).changes
  by [] = tt
  by (row ∷ met) = tt
new_rows_below schema place next rows (works.Select reach selection) no_copy below = tt

-- COUNTERS NEVER FALL

pub less_itself : (o : Option ℕ) → NoLess o o
less_itself None = refl
less_itself (Some n) = omega arith

less_then : (a b c : Option ℕ) → NoLess a b → NoLess b c → NoLess a c
less_then None b c one two = subst (λ (o : Option ℕ). NoLess o c) one two
less_then (Some a) None c one two = absurd one
less_then (Some a) (Some b) None one two = absurd two
less_then (Some a) (Some b) (Some c) one two = omega (arith, one, two)

-- a counter raised is found at its name, raised where it is its own
from_found : (table name : List ℕ) (n : ℕ) (counters : List Counter) → NoLess (next_of name counters) (next_of name (counters_from table n counters))
from_found table name n [] = refl
from_found table name n (one ∷ counters) = at (is_counter_of table one) (is_counter_of name one) refl (from_found table name n counters) where
  at : (a b : Bool) → is_counter_of name one ≡ b → NoLess (next_of name counters) (next_of name (counters_from table n counters))
      → NoLess (option_map (λ counter. counter.next) (cond b (Some one) (find (is_counter_of name) counters))) (next_of name (cond a (record one { next = max one.next n }) one ∷ counters_from table n counters))
  at true true is rest = rw is (le-max_left one.next n)
  at true false is rest = rw is rest
  at false true is rest = rw is (omega arith)
  at false false is rest = rw is rest

counts_less : (table : Option TableRows) (drawn : Option ℕ) (statement : Statement) (answer : Answer) (counters : List Counter) (name : List ℕ) → NoLess (next_of name counters) (next_of name (counts table drawn statement answer counters))
counts_less None drawn statement answer counters name = less_itself (next_of name counters)
counts_less (Some table) drawn statement answer counters name =
    less_then (next_of name counters) (next_of name (counters_from table.schema.name (after_drawn drawn) counters)) _ (from_found table.schema.name name (after_drawn drawn) counters)
    (from_found table.schema.name name (given_by answer (gives_in table.schema (auto_place table.schema) (numbered drawn statement))) (counters_from table.schema.name (after_drawn drawn) counters))

-- a counter that is set doesn't fall
set_less : (table name : List ℕ) (n : ℕ) (answer : Answer) (counters : List Counter) → NoLess (next_of name counters) (next_of name (counts_if answer (counters_from table n) counters))
set_less table name n (answers.Ok count) counters = from_found table name n counters
set_less table name n answer counters = less_itself (next_of name counters)

pub counters_never_fall : CountersNeverFall
unfolding counted
counters_never_fall state number None answer name keeps = less_itself (next_of name state.counters)
counters_never_fall state number (Some (requests.Do statement)) answer name keeps = counts_less (find_table (table_of statement) state.tables) _ statement answer state.counters name
counters_never_fall state number (Some (requests.Create schema)) answer name keeps = absurd (false≢true keeps)
counters_never_fall state number (Some (requests.Drop dropped)) answer name keeps = absurd (false≢true keeps)
counters_never_fall state number (Some (requests.Rename pairs)) answer name keeps = absurd (false≢true keeps)
counters_never_fall state number (Some (requests.SetCounter table n)) answer name keeps = set_less table name n answer state.counters
counters_never_fall state number (Some other) answer name keeps = less_itself (next_of name state.counters)

-- A NUMBER THAT IS DRAWN

-- the counter behind a number that it is
from_after : (name : List ℕ) (n : ℕ) (counters : List Counter) → next_of name counters ≡ Some n → IsBehind n (next_of name (counters_from name (after_number n) counters))
from_after name n [] is = absurd cc
from_after name n (one ∷ counters) is = at (is_counter_of name one) refl is (from_after name n counters) where
  at : (b : Bool) → is_counter_of name one ≡ b → option_map (λ counter. counter.next) (cond b (Some one) (find (is_counter_of name) counters)) ≡ Some n → (next_of name counters ≡ Some n → IsBehind n (next_of name (counters_from name (after_number n) counters)))
      → IsBehind n (next_of name (cond b (record one { next = max one.next (after_number n) }) one ∷ counters_from name (after_number n) counters))
  at true here is rest = rw here (le-max_right one.next (after_number n))
  at false off is rest = rw off (rest is)

after_less : (n : ℕ) (a b : Option ℕ) → IsBehind n a → NoLess a b → IsBehind n b
after_less n None b behind less = absurd behind
after_less n (Some a) None behind less = absurd less
after_less n (Some a) (Some b) behind less = omega (arith, behind, less)

pub found_named : (name : List ℕ) (tables : Database) (found : TableRows) → find_table name tables ≡ Some found → found.schema.name ≡ name
found_named name [] found is = absurd cc
found_named name (table ∷ tables) found is = at (is_named name table) refl is (found_named name tables found) where
  at : (b : Bool) → is_named name table ≡ b → cond b (Some table) (find_table name tables) ≡ Some found → (find_table name tables ≡ Some found → found.schema.name ≡ name) → found.schema.name ≡ name
  at true here same rest = let it : table ≡ found = cc in subst (λ (t : TableRows). t.schema.name ≡ name) it (are_same table.schema.name name here)
  at false off same rest = rest same

offered_found : (tool : Bool) (table : Option TableRows) (counters : List Counter) (statement : Statement) (n : ℕ) → offered_of tool table counters statement ≡ Some n → (found : TableRows) × (table ≡ Some found) × (next_of found.schema.name counters ≡ Some n)
offered_found true table counters statement n is = absurd cc
offered_found false None counters statement n is = absurd cc
offered_found false (Some table) counters statement n is = by (draws table.schema statement) is where
  by : (b : Bool) → cond b (next_of table.schema.name counters) None ≡ Some n → (found : TableRows) × (Some table ≡ Some found) × (next_of found.schema.name counters ≡ Some n)
  by true so = (table, refl, so)
  by false none = absurd cc

drawn_offered : (answered outside : Bool) (offer : Option ℕ) (n : ℕ) → drawn_if answered (offered_inside outside offer) ≡ Some n → offer ≡ Some n
drawn_offered true true offer n is = absurd cc
drawn_offered true false offer n is = is
drawn_offered false outside offer n is = absurd cc

none_drawn : (answered : Bool) (n : ℕ) → drawn_if answered None ≡ Some n → ⊥
none_drawn true n is = cc
none_drawn false n is = cc

pub numbers_are_counters : NumbersAreCounters
unfolding counted offered_in
numbers_are_counters state number (Some (requests.Do statement)) answer n is =
    let offer = drawn_offered (is_answered answer) (is_outside (session_of number state.sessions) (requests.Do statement)) (offered_in (is_of_tool (session_of number state.sessions)) state.tables state.counters statement) n is in
    let found = offered_found (is_of_tool (session_of number state.sessions)) (find_table (table_of statement) state.tables) state.counters statement n offer in
    let table : TableRows = found.0 in
    let named : table.schema.name ≡ table_of statement = found_named (table_of statement) state.tables table found.1 in
    let raised : IsBehind n (next_of table.schema.name (counts (Some table) (Some n) statement answer state.counters)) =
    after_less n (next_of table.schema.name (counters_from table.schema.name (after_number n) state.counters)) _ (from_after table.schema.name n state.counters found.2)
    (from_found table.schema.name table.schema.name (given_by answer (gives_in table.schema (auto_place table.schema) (numbered (Some n) statement))) (counters_from table.schema.name (after_number n) state.counters)) in
    record {
      statement = statement;
      asked = refl;
      counter = subst (λ (name : List ℕ). next_of name state.counters ≡ Some n) named found.2;
      behind =
          subst (λ (d : Option ℕ). IsBehind n (next_of (table_of statement) (counts (find_table (table_of statement) state.tables) d statement answer state.counters))) (sym is)
          (subst (λ (t : Option TableRows). IsBehind n (next_of (table_of statement) (counts t (Some n) statement answer state.counters))) (sym found.1)
          (subst (λ (name : List ℕ). IsBehind n (next_of name (counts (Some table) (Some n) statement answer state.counters))) named raised));
    }
numbers_are_counters state number None answer n is = absurd (none_drawn (is_answered answer) n is)
numbers_are_counters state number (Some other) answer n is = absurd (none_drawn (is_answered answer) n is)
