-- How many rows a table has after events that fit it, and whose keys these are: each WRITE adds one row at most, no other event any;
-- and each row's key is that of a row at first, or of one that an event put.
use Rattle.std.proofs.Common.{◌≡◌, ◌≤◌, ℕ, suc, ◌+◌, Bool, true, false, cond, not, List, [], ◌∷◌, length, filter, find, Some, None, refl, sym, ap, ◌∙◌, subst, arith}
use Rattle.std.specs.Prelude.{unwrap_or}
use Rattle.std.specs.declared.cmp.Ordering.{Ordering}
use Rattle.std.specs.declared.cmp.Ordering.TheVariants.{Less, Equal, Greater}
use Rattle.std.specs.Ordering.{match_ordering}
use Rattle.std.specs.Str.{bytes_eq}
use Rattle.std.proofs.lemmas.List.Sums.{sum_by-cons}
use Rattle.base_values.specs.declared.gho_schema.schema.Schema.{Schema}
use Rattle.base_values.specs.KeyOrder.{compare_keys}
use Rattle.base_values.specs.GhoSchema.Rows.{key_of, key_places, has_key, with_row}
use Rattle.base_values.specs.declared.value.Value.{Value}
use Rattle.std.proofs.lemmas.Bool.{and_from, and_parts}
use Rattle.base_values.specs.declared.event.RowEvent.{RowEvent}
use Rattle.base_values.specs.declared.event.Change.{Change}
use Rattle.base_values.specs.declared.event.Change.TheVariants.{Write, Update, Delete}
use Rattle.table_store.specs.RowLists.{is_at, without_key}
use Rattle.proof_journals.specs.Ghost.Rows.Moments.{Row, put_in, rows_after, rows_then, rows_at, Fits, LogFits}
use Rattle.proof_journals.specs.Ghost.Rows.Counts.{is_write, writes_of, RowsAreFew, all_keys, puts_key, all_put, KeysAreThose}

-- ONE ROW MORE, OR LESS

with_long : (places : List ℕ) (row : Row) (rows : List Row) → length (with_row places row rows) ≡ length rows + 1
unfolding with_row
with_long places row [] = refl
with_long places row (first ∷ rows) = by (compare_keys (key_of places row) (key_of places first)) (with_long places row rows) where
  by : (o : Ordering) → length (with_row places row rows) ≡ length rows + 1 → length (match_ordering o (row ∷ first ∷ rows) (row ∷ first ∷ rows) (first ∷ with_row places row rows)) ≡ suc (length rows) + 1
  by Less rest = omega arith
  by Equal rest = omega arith
  by Greater rest = omega (arith, rest)

put_short : (places : List ℕ) (row : Row) (rows : List Row) → length (put_in places row rows) ≤ length rows + 1
put_short places row rows = by (has_key places rows (key_of places row)) where
  by : (b : Bool) → length (unwrap_or (cond b None (Some (with_row places row rows))) rows) ≤ length rows + 1
  by true = omega arith
  by false = let long = with_long places row rows in omega (arith, long)

filter_short : {A : Type 0} (p : A → Bool) (xs : List A) → length (filter p xs) ≤ length xs
filter_short p [] = omega arith
filter_short p (x ∷ xs) = by (p x) (filter_short p xs) where
  by : (b : Bool) → length (filter p xs) ≤ length xs → length (cond b (x ∷ filter p xs) (filter p xs)) ≤ suc (length xs)
  by true less = omega (arith, less)
  by false less = omega (arith, less)

found_gone : {A : Type 0} (p : A → Bool) (xs : List A) (one : A) → find p xs ≡ Some one → length (filter (λ x. not (p x)) xs) + 1 ≤ length xs
found_gone p [] one none = absurd cc
found_gone p (x ∷ xs) one found = by (λ later. found_gone p xs one later) (p x) found (filter_short (λ y. not (p y)) xs) where
  by : (find p xs ≡ Some one → length (filter (λ y. not (p y)) xs) + 1 ≤ length xs) → (b : Bool) → cond b (Some x) (find p xs) ≡ Some one → length (filter (λ y. not (p y)) xs) ≤ length xs → length (cond (not b) (x ∷ filter (λ y. not (p y)) xs) (filter (λ y. not (p y)) xs)) + 1 ≤ suc (length xs)
  by rests true here less = omega (arith, less)
  by rests false later less = let rest = rests later in omega (arith, rest)

-- a change that fits adds a row at most where it is a WRITE
one_change : (schema : Schema) (rows : List Row) (change : Change) → Fits schema rows change → length (rows_after (key_places schema) change rows) ≤ length rows + cond (is_write change) 1 0
one_change schema rows (Write row) fits = put_short (key_places schema) row rows
one_change schema rows (Update before after) fits =
    let gone = found_gone (is_at (key_places schema) (key_of (key_places schema) before)) rows before fits.0 in
    let more = put_short (key_places schema) after (without_key (key_places schema) (key_of (key_places schema) before) rows) in
    omega (arith, gone, more)
one_change schema rows (Delete row) fits = let less = filter_short (λ (other : Row). not (is_at (key_places schema) (key_of (key_places schema) row) other)) rows in omega (arith, less)

-- *Rows are few*
pub rows_few : RowsAreFew
unfolding rows_at LogFits
rows_few name schema rows [] fits = omega arith
rows_few name schema rows (event ∷ log) fits = by (rows_few name schema (rows_then name (key_places schema) event rows) log fits.1) (bytes_eq event.table name) refl where
  counted : writes_of name (event ∷ log) ≡ cond (cond (bytes_eq event.table name) (is_write event.change) false) 1 0 + writes_of name log
  counted = sum_by-cons (λ (one : RowEvent). cond (cond (bytes_eq one.table name) (is_write one.change) false) 1 0) event log

  by : length (rows_at name (key_places schema) (rows_then name (key_places schema) event rows) log (length log)) ≤ length (rows_then name (key_places schema) event rows) + writes_of name log → (b : Bool) → bytes_eq event.table name ≡ b
      → length (rows_at name (key_places schema) (rows_then name (key_places schema) event rows) log (length log)) ≤ length rows + writes_of name (event ∷ log)
  by rest true same =
      let one = one_change schema rows event.change (fits.0 same) in
      let then : rows_then name (key_places schema) event rows ≡ rows_after (key_places schema) event.change rows = ap (λ (b : Bool). cond b (rows_after (key_places schema) event.change rows) rows) same in
      let short : length (rows_then name (key_places schema) event rows) ≤ length rows + cond (is_write event.change) 1 0 = subst (λ (r : List Row). length r ≤ length rows + cond (is_write event.change) 1 0) (sym then) one in
      let count : writes_of name (event ∷ log) ≡ cond (is_write event.change) 1 0 + writes_of name log = counted ∙ ap (λ (b : Bool). cond (cond b (is_write event.change) false) 1 0 + writes_of name log) same in
      omega (arith, rest, short, count)
  by rest false other =
      let then : rows_then name (key_places schema) event rows ≡ rows = ap (λ (b : Bool). cond b (rows_after (key_places schema) event.change rows) rows) other in
      let same : length (rows_then name (key_places schema) event rows) ≡ length rows = ap length then in
      let count : writes_of name (event ∷ log) ≡ 0 + writes_of name log = counted ∙ ap (λ (b : Bool). cond (cond b (is_write event.change) false) 1 0 + writes_of name log) other in
      omega (arith, rest, same, count)

-- WHOSE KEYS

module _ (test : List Value → Bool) (places : List ℕ) where
  pub with_keys : (row : Row) (rows : List Row) → test (key_of places row) ≡ true → all_keys test places rows ≡ true → all_keys test places (with_row places row rows) ≡ true
  unfolding with_row
  with_keys row [] one all = and_from (test (key_of places row)) true one refl
  with_keys row (first ∷ rows) one all = by (compare_keys (key_of places row) (key_of places first)) (and_parts (test (key_of places first)) (all_keys test places rows) all) (λ rest. with_keys row rows one rest) where
    by : (o : Ordering) → (test (key_of places first) ≡ true) × (all_keys test places rows ≡ true) → (all_keys test places rows ≡ true → all_keys test places (with_row places row rows) ≡ true)
        → all_keys test places (match_ordering o (row ∷ first ∷ rows) (row ∷ first ∷ rows) (first ∷ with_row places row rows)) ≡ true
    by Less parts rest = and_from (test (key_of places row)) (all_keys test places (first ∷ rows)) one (and_from (test (key_of places first)) (all_keys test places rows) parts.0 parts.1)
    by Equal parts rest = and_from (test (key_of places row)) (all_keys test places (first ∷ rows)) one (and_from (test (key_of places first)) (all_keys test places rows) parts.0 parts.1)
    by Greater parts rest = and_from (test (key_of places first)) (all_keys test places (with_row places row rows)) parts.0 (rest parts.1)

  put_keys : (row : Row) (rows : List Row) → test (key_of places row) ≡ true → all_keys test places rows ≡ true → all_keys test places (put_in places row rows) ≡ true
  put_keys row rows one all = by (has_key places rows (key_of places row)) where
    by : (b : Bool) → all_keys test places (unwrap_or (cond b None (Some (with_row places row rows))) rows) ≡ true
    by true = all
    by false = with_keys row rows one all

  pub less_keys : (p : Row → Bool) (rows : List Row) → all_keys test places rows ≡ true → all_keys test places (filter p rows) ≡ true
  less_keys p [] all = refl
  less_keys p (row ∷ rows) all = by (p row) (and_parts (test (key_of places row)) (all_keys test places rows) all) (λ rest. less_keys p rows rest) where
    by : (b : Bool) → (test (key_of places row) ≡ true) × (all_keys test places rows ≡ true) → (all_keys test places rows ≡ true → all_keys test places (filter p rows) ≡ true) → all_keys test places (cond b (row ∷ filter p rows) (filter p rows)) ≡ true
    by true parts rest = and_from (test (key_of places row)) (all_keys test places (filter p rows)) parts.0 (rest parts.1)
    by false parts rest = rest parts.1

  change_keys : (change : Change) (rows : List Row) → puts_key test places change ≡ true → all_keys test places rows ≡ true → all_keys test places (rows_after places change rows) ≡ true
  change_keys (Write row) rows one all = put_keys row rows one all
  change_keys (Update before after) rows one all = put_keys after (without_key places (key_of places before) rows) one (less_keys (λ (other : Row). not (is_at places (key_of places before) other)) rows all)
  change_keys (Delete row) rows one all = less_keys (λ (other : Row). not (is_at places (key_of places row) other)) rows all

-- *Keys are those*
pub keys_those : KeysAreThose
unfolding rows_at
keys_those test name places rows [] all puts = all
keys_those test name places rows (event ∷ log) all puts =
    keys_those test name places (rows_then name places event rows) log (by (bytes_eq event.table name) (and_parts (cond (bytes_eq event.table name) (puts_key test places event.change) true) (all_put test name places log) puts).0)
    (and_parts (cond (bytes_eq event.table name) (puts_key test places event.change) true) (all_put test name places log) puts).1 where
      by : (b : Bool) → cond b (puts_key test places event.change) true ≡ true → all_keys test places (cond b (rows_after places event.change rows) rows) ≡ true
      by true one = change_keys test places event.change rows one all
      by false one = all
