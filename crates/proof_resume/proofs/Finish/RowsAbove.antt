-- How many of a table's rows lie above an end, and how many of them a chunk takes.
use Rattle.std.proofs.Common.{◌≡◌, ◌≤◌, ◌<◌, ℕ, zero, suc, ◌+◌, ◌-◌, Bool, true, false, cond, not, ◌&&◌, List, [], ◌∷◌, length, filter, take, Option, Some, None, Ordering, Less, Equal, Greater, refl, sym, ap, ◌∙◌, subst, arith}
use Rattle.std.specs.Prelude.{count_by, nat_lt, unwrap_or}
use Rattle.std.specs.List.{AllByRecursion, slice_get}
use Rattle.std.specs.Ordering.{is_eq, is_le, is_lt, ordering_reverse}
use Rattle.std.proofs.lemmas.Bool.{and_parts, false≢true, not-false, true≢false}
use Rattle.std.proofs.lemmas.Bool.Decides.{nat_tests}
use Rattle.std.proofs.lemmas.Cmp.{tied_itself}
use Rattle.std.proofs.lemmas.List.{length-map, length-take, length-take-le}
use Rattle.std.proofs.lemmas.List.Sums.{count_by-le-length, length-filter, sum_by-cons}
use Rattle.base_values.specs.declared.span.Bound.{Bound}
use Rattle.base_values.specs.declared.span.Bound.TheVariants.{Open, Closed}
use Rattle.base_values.specs.declared.span.Span.{Span}
use Rattle.base_values.specs.GhoSchema.Rows.{key_of, key_places}
use Rattle.base_values.specs.GhoSchema.Tables.{Ascends}
use Rattle.base_values.specs.KeyOrder.{compare_keys}
use Rattle.base_values.specs.Spans.{above, has}
use Rattle.base_values.proofs.Orders.{is_Less, keys_total}
use Rattle.table_store.specs.Databases.{TableRows}
use Rattle.table_store.proofs.Orders.{turned, under_fails, Row}
use Rattle.server_model.specs.declared.answer.Answer.TheVariants as answers
use Rattle.server_model.specs.Chunks.{chunk_end, keys_in, keys_of, last_of, span_keys}
use Rattle.proof_resume.specs.Finish.Chunks.{rows_above}
use Rattle.proof_resume.proofs.Reached.Shrinking.{one_of}

-- from a low end to a key
abbrev to : Bound → Row → Span
to low high = record { low = low; high = Closed high }

-- KEYS IN A LIST

-- the last of the first ones
last_taken : (n : ℕ) (keys : List Row) (other : Row) → n < length keys → slice_get keys n ≡ Some (last_of other (take (suc n) keys))
last_taken n [] other less = absurd (never n less) where
  never : (n : ℕ) → n < 0 → ⊥
  never n less = omega (arith, less)
last_taken zero (key ∷ keys) other less = refl
last_taken (suc n) (key ∷ keys) other less = last_taken n keys key (omega (arith, less))

-- HOW MANY ROWS

module _ (places : List ℕ) where
  abbrev key : Row → Row
  key row = key_of places row

  abbrev count : (Row → Bool) → List Row → ℕ
  count test rows = count_by (λ (row : Row). test (key_of places row)) rows

  abbrev keys_that : (Row → Bool) → List Row → List Row
  keys_that test rows = keys_of places (filter (λ (row : Row). test (key_of places row)) rows)

  counted : (test : Row → Bool) (row : Row) (rows : List Row) → count test (row ∷ rows) ≡ cond (test (key_of places row)) 1 0 + count test rows
  counted test row rows = sum_by-cons (λ (one : Row). cond (test (key_of places one)) 1 0) row rows

  keys_counted : (test : Row → Bool) (rows : List Row) → length (keys_that test rows) ≡ count test rows
  keys_counted test rows = length-map (filter (λ (row : Row). test (key_of places row)) rows) (key_of places) ∙ length-filter (λ (row : Row). test (key_of places row)) rows

  -- those of a span are above its low end
  most_in : (low : Bound) (high : Row) (rows : List Row) → count (has (to low high)) rows ≤ count (above low) rows
  unfolding has
  most_in low high [] = omega arith
  most_in low high (row ∷ rows) =
      let one = counted (has (to low high)) row rows in
      let two = counted (above low) row rows in
      let here = weight (above low (key_of places row)) (is_le (compare_keys (key_of places row) high)) in
      let rest = most_in low high rows in
      omega (arith, one, two, here, rest) where
        weight : (a b : Bool) → cond (a && b) 1 0 ≤ cond a 1 0
        weight true true = omega arith
        weight true false = omega arith
        weight false b = omega arith

  -- *A span takes its rows from those above*, and leaves those above its high end
  span_takes : (low : Bound) (high : Row) (rows : List Row) → above low high ≡ true → count (has (to low high)) rows + count (above (Open high)) rows ≤ count (above low) rows
  unfolding has
  span_takes low high [] past = omega arith
  span_takes low high (row ∷ rows) past =
      let one = counted (has (to low high)) row rows in
      let two = counted (above (Open high)) row rows in
      let three = counted (above low) row rows in
      let here = weight (key_of places row) in
      let rest = span_takes low high rows past in
      omega (arith, one, two, three, here, rest) where
        still_above : (key : Row) → is_lt (compare_keys high key) ≡ true → above low key ≡ true
        still_above key less = not-false (above low key) (under_fails low high key (is_Less (compare_keys high key) less) (ap not past))

        each : (o : Ordering) (a : Bool) → (is_lt o ≡ true → a ≡ true) → cond (a && is_le (ordering_reverse o)) 1 0 + cond (is_lt o) 1 0 ≤ cond a 1 0
        each Less true so = omega arith
        each Less false so = absurd (false≢true (so refl))
        each Equal true so = omega arith
        each Equal false so = omega arith
        each Greater true so = omega arith
        each Greater false so = omega arith

        weight : (key : Row) → cond (above low key && is_le (compare_keys key high)) 1 0 + cond (is_lt (compare_keys high key)) 1 0 ≤ cond (above low key) 1 0
        weight key =
            subst (λ (o : Ordering). cond (above low key && is_le o) 1 0 + cond (is_lt (compare_keys high key)) 1 0 ≤ cond (above low key) 1 0) (sym (turned key high))
            (each (compare_keys high key) (above low key) (still_above key))

  -- what holds of all rows' keys holds of those of some
  some_all : (P : Row → Type 0) (test : Row → Bool) (rows : List Row) → AllByRecursion (λ row. P (key_of places row)) rows → AllByRecursion P (keys_that test rows)
  some_all P test [] all = tt
  some_all P test (row ∷ rows) all = by (test (key_of places row)) (some_all P test rows all.1) where
    by : (b : Bool) → AllByRecursion P (keys_that test rows) → AllByRecursion P (keys_of places (cond b (row ∷ filter (λ (one : Row). test (key_of places one)) rows) (filter (λ (one : Row). test (key_of places one)) rows)))
    by true rest = (all.0, rest)
    by false rest = rest

  -- *As many rows lie up to a key as keys come up to it*
  abbrev Reaches : Bound → List Row → ℕ → Row → Type 0
  Reaches low rows n end = (suc n ≤ count (has (to low end)) rows) × (above low end ≡ true)

  -- one row more
  module _ (low : Bound) (top row : Row) (rows : List Row) (end : Row) (before_all : AllByRecursion (λ other. compare_keys (key_of places row) (key_of places other) ≡ Less) rows) where
    abbrev those : List Row
    those = filter (λ (one : Row). has (to low top) (key_of places one)) rows

    abbrev Rest : Type 0
    Rest = (n : ℕ) → slice_get (keys_of places those) n ≡ Some end → Reaches low rows n end

    counted_here : count (has (to low end)) (row ∷ rows) ≡ cond (has (to low end) (key_of places row)) 1 0 + count (has (to low end)) rows
    counted_here = counted (has (to low end)) row rows

    -- it is one of those up to the key
    one_more : (n : ℕ) → above low (key_of places row) ≡ true → is_le (compare_keys (key_of places row) end) ≡ true → n ≤ count (has (to low end)) rows → suc n ≤ count (has (to low end)) (row ∷ rows)
    unfolding has
    one_more n past within most =
        let counts = counted_here in
        let here : cond {A = ℕ} (has (to low end) (key_of places row)) 1 0 ≡ 1 = ap (λ (b : Bool). cond {A = ℕ} (b && is_le (compare_keys (key_of places row) end)) 1 0) past ∙ ap (λ (b : Bool). cond {A = ℕ} b 1 0) within in
        omega (arith, counts, here, most)

    -- a key that comes behind it
    later : (n : ℕ) → slice_get (keys_of places those) n ≡ Some end → compare_keys (key_of places row) end ≡ Less
    later n found = one_of (λ (k : Row). compare_keys (key_of places row) k ≡ Less) (keys_of places those) n end (some_all (λ (k : Row). compare_keys (key_of places row) k ≡ Less) (has (to low top)) rows before_all) found

    at_key : (n : ℕ) → above low (key_of places row) ≡ true → slice_get (key_of places row ∷ keys_of places those) n ≡ Some end → Rest → Reaches low (row ∷ rows) n end
    at_key zero past found others =
        let same : key_of places row ≡ end = cc in
        (one_more 0 past (subst (λ (k : Row). is_le (compare_keys (key_of places row) k) ≡ true) same (ap is_le (tied_itself keys_total (key_of places row)))) (omega arith), ap (above low) (sym same) ∙ past)
    at_key (suc n) past found others = let before = others n found in (one_more (suc n) past (ap is_le (later n found)) before.0, before.1)

    reaches_one : (n : ℕ) → slice_get (keys_that (has (to low top)) (row ∷ rows)) n ≡ Some end → Rest → Reaches low (row ∷ rows) n end
    unfolding has
    reaches_one n some others = by (has (to low top) (key_of places row)) refl some where
      by : (b : Bool) → has (to low top) (key_of places row) ≡ b → slice_get (keys_of places (cond b (row ∷ those) those)) n ≡ Some end → Reaches low (row ∷ rows) n end
      by true on found = at_key n (and_parts (above low (key_of places row)) (is_le (compare_keys (key_of places row) top)) on).0 found others
      by false off found = let counts = counted_here in let before = others n found in let most = before.0 in (omega (arith, counts, most), before.1)

  reaches : (low : Bound) (top : Row) (rows : List Row) (n : ℕ) (end : Row) → Ascends places rows → slice_get (keys_that (has (to low top)) rows) n ≡ Some end → Reaches low rows n end
  reaches low top [] n end ascends none = absurd (cc)
  reaches low top (row ∷ rows) n end ascends some = reaches_one low top row rows end ascends.0 n some (λ m found. reaches low top rows m end ascends.1 found)

-- WHAT A CHUNK TAKES

-- a chunk of so many keys up to this end takes so many rows from those above the low end, and at least one where it isn't the last
pub record ChunkTakes (low : Bound) (top : Row) (table : TableRows) (count : ℕ) (end : Row) : Type 0 where
  pub most : count ≤ rows_above low table
  pub passes : is_eq (compare_keys end top) ≡ false → (1 ≤ count) × (count + rows_above (Open end) table ≤ rows_above low table)

module _ (low : Bound) (top : Row) (size : ℕ) (table : TableRows) (sized : 1 ≤ size) (ascends : Ascends (key_places table.schema) table.rows) where
  abbrev places : List ℕ
  places = key_places table.schema

  abbrev high : Row
  high = chunk_end low top size table

  abbrev found : List Row
  found = keys_in (to low high) table

  before : suc (size - 1) ≡ size
  before = omega (arith, sized)

  -- a chunk's end that isn't the top is a key in its place
  high_is : is_eq (compare_keys high top) ≡ false → Reaches places low table.rows (size - 1) high
  unfolding chunk_end
  high_is other = by (slice_get (keys_in (to low top) table) (size - 1)) refl other where
    by : (key : Option Row) → slice_get (keys_in (to low top) table) (size - 1) ≡ key → is_eq (compare_keys (unwrap_or key top) top) ≡ false → Reaches places low table.rows (size - 1) (unwrap_or key top)
    by None none other = absurd (true≢false (sym (ap is_eq (tied_itself keys_total top)) ∙ other))
    by (Some key) some other = reaches places low top table.rows (size - 1) key ascends some

  taken_most : length (take size found) ≤ length found
  taken_most = let most = length-take size found in grind (arith, nat_tests, most)

  -- *What a chunk takes*
  chunk_of : (end : Row) → end ≡ cond (nat_lt size (length found)) (last_of [] (take size found)) high → ChunkTakes low top table (length (take size found)) end
  chunk_of end is = by (nat_lt size (length found)) refl is where
    counts : length found ≡ count_by (λ (row : Row). has (to low high) (key_of places row)) table.rows
    counts = keys_counted places (has (to low high)) table.rows

    all_most : length (take size found) ≤ rows_above low table
    all_most = let a = taken_most in let b = counts in let c = most_in places low high table.rows in omega (arith, a, b, c)

    by : (b : Bool) → nat_lt size (length found) ≡ b → end ≡ cond b (last_of [] (take size found)) high → ChunkTakes low top table (length (take size found)) end
    by true more same = record { most = all_most; passes = λ other. let a = length_is in let b = reached.0 in let c = span_takes places low end table.rows reached.1 in let d = before in (omega (arith, a, sized), omega (arith, a, b, c, d)) } where
      less : size < length found
      less = grind (arith, nat_tests, more)

      length_is : length (take size found) ≡ size
      length_is = length-take-le size found (let l = less in omega (arith, l))

      last_is : slice_get found (size - 1) ≡ Some end
      last_is =
          last_taken (size - 1) found [] (let l = less in let b = before in omega (arith, l, b))
          ∙ ap (λ (n : ℕ). Some (last_of [] (take n found))) before ∙ ap Some (sym same)

      reached : Reaches places low table.rows (size - 1) end
      reached = reaches places low high table.rows (size - 1) end ascends last_is
    by false all same = subst (ChunkTakes low top table (length (take size found))) (sym same) (record { most = all_most; passes = passed }) where
      passed : is_eq (compare_keys high top) ≡ false → (1 ≤ length (take size found)) × (length (take size found) + rows_above (Open high) table ≤ rows_above low table)
      passed other =
          let reached = high_is other in
          let a = reached.0 in
          let b = counts in
          let c = span_takes places low high table.rows reached.1 in
          let d = taken_most in
          let e = length-take size found in
          let f = before in
          (grind (arith, nat_tests, a, b, e, f, sized), omega (arith, b, c, d))

  -- *What a chunk takes*, where its keys are those that the table answers
  pub chunk_takes : (keys : List Row) (end : Row) → answers.Keys keys end ≡ span_keys (record { low = low; high = Closed (chunk_end low top size table) }) size table → ChunkTakes low top table (length keys) end
  unfolding span_keys
  chunk_takes keys end is = subst (λ (some : List Row). ChunkTakes low top table (length some) end) (sym keys_are) (chunk_of end end_is) where
    keys_are : keys ≡ take size found
    keys_are = cc

    end_is : end ≡ cond (nat_lt size (length found)) (last_of [] (take size found)) high
    end_is = cc

-- NO MORE THAN ALL

pub above_most : (low : Bound) (table : TableRows) → rows_above low table ≤ length table.rows
above_most low table = count_by-le-length (λ (row : Row). above low (key_of (key_places table.schema) row)) table.rows
