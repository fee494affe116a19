-- After a chunk's COMMIT no key is left to copy that was copied; and where the server ends chunks.
use Rattle.std.proofs.Common.{◌≡◌, ℕ, zero, suc, ◌-◌, arith, Bool, true, false, cond, not, ◌&&◌, List, [], ◌∷◌, length, filter, take, Option, Some, None, Ordering, Less, refl, sym, ap, ◌∙◌, subst, inl, inr}
use Rattle.std.specs.BTreeMap.Comparable.{le_lt_trans}
use Rattle.std.specs.Ordering.{is_lt, is_le}
use Rattle.std.specs.Prelude.{nat_lt, unwrap_or}
use Rattle.std.specs.List.{AllByRecursion, slice_get}
use Rattle.std.specs.Cmp.Derive.{both_true}
use Rattle.std.proofs.lemmas.Bool.{and_parts, not-true, true≢false}
use Rattle.std.proofs.lemmas.Bool.Decides.{nat_tests}
use Rattle.base_values.specs.declared.span.Bound.{Bound}
use Rattle.base_values.specs.declared.span.Bound.TheVariants.{Open, Closed, Free}
use Rattle.base_values.specs.declared.span.Span.{Span}
use Rattle.base_values.specs.KeyOrder.{compare_keys}
use Rattle.base_values.specs.Spans.{above, below, has}
use Rattle.base_values.specs.GhoSchema.Rows.{key_of, key_places}
use Rattle.base_values.proofs.Orders.{is_Less, keys_total}
use Rattle.server_model.specs.declared.answer.Answer.TheVariants as answers
use Rattle.server_model.specs.Chunks.{chunk_end, keys_in, keys_of, last_of, span_keys}
use Rattle.proof_journals.specs.Ghost.Rows.Moments.{Row}
use Rattle.proof_journals.proofs.Ghost.Rows.Chunking.{none_left}
use Rattle.proof_resume.specs.Reached.ChunkEnds.{EndIsAbove}
use Rattle.proof_resume.specs.Reached.Laws.{ChunksShrink, ChunkEndsAreAbove, SpanEndsAreAbove}

less_le : (o : Ordering) → o ≡ Less → is_le o ≡ true
less_le o is = ap is_le is

-- what is above a key that is above a low end is above the low end
above_more : (low : Bound) (end key : Row) → above low end ≡ true → is_lt (compare_keys end key) ≡ true → above low key ≡ true
above_more (Open other) end key over more = ap is_lt (le_lt_trans keys_total other end key (less_le (compare_keys other end) (is_Less (compare_keys other end) over)) (is_Less (compare_keys end key) more))
above_more (Closed other) end key over more = ap is_le (le_lt_trans keys_total other end key over (is_Less (compare_keys end key) more))
above_more Free end key over more = refl

still_left : (low : Bound) (end top key : Row) → EndIsAbove low end top → has (record { low = Open end; high = Closed top }) key ≡ true → has (record { low = low; high = Closed top }) key ≡ true
unfolding has
still_left low end top key (inl same) left = absurd (true≢false (sym left ∙ ap (λ (k : Row). is_lt (compare_keys k key) && is_le (compare_keys key top)) same ∙ none_left top key))
still_left low end top key (inr over) left =
    let parts = and_parts (is_lt (compare_keys end key)) (below (Closed top) key) left in both_true (above_more low end key over parts.0) parts.1

-- *Chunks shrink what is left.*
pub chunks_shrink : ChunksShrink
chunks_shrink low end top where_it key done = by (has (record { low = Open end; high = Closed top }) key) refl where
  by : (b : Bool) → has (record { low = Open end; high = Closed top }) key ≡ b → not b ≡ true
  by false is = refl
  by true is = absurd (true≢false (sym (still_left low end top key where_it is) ∙ not-true (has (record { low = low; high = Closed top }) key) done))

-- WHERE THE SERVER ENDS CHUNKS

all_in_span : (places : List ℕ) (span : Span) (rows : List Row) → AllByRecursion (λ key. has span key ≡ true) (keys_of places (filter (λ row. has span (key_of places row)) rows))
all_in_span places span [] = tt
all_in_span places span (row ∷ rows) = by (has span (key_of places row)) refl (all_in_span places span rows) where
  by : (b : Bool) → has span (key_of places row) ≡ b → AllByRecursion (λ key. has span key ≡ true) (keys_of places (filter (λ r. has span (key_of places r)) rows))
      → AllByRecursion (λ key. has span key ≡ true) (keys_of places (cond b (row ∷ filter (λ r. has span (key_of places r)) rows) (filter (λ r. has span (key_of places r)) rows)))
  by true is rest = (is, rest)
  by false is rest = rest

pub one_of : (P : Row → Type 0) (keys : List Row) (n : ℕ) (key : Row) → AllByRecursion P keys → slice_get keys n ≡ Some key → P key
one_of P [] n key all is = absurd cc
one_of P (first ∷ keys) zero key all is = let one : first ≡ key = cc in subst P one all.0
one_of P (first ∷ keys) (suc n) key all is = one_of P keys n key all.1 is

above_in : (low : Bound) (high : Bound) (key : Row) → has (record { low = low; high = high }) key ≡ true → above low key ≡ true
unfolding has
above_in low high key is = (and_parts (above low key) (below high key) is).0

-- *Where a chunk ends is above its low end*, or is the greatest key.
pub ends_above : ChunkEndsAreAbove
unfolding chunk_end
ends_above low top size table = by (slice_get (keys_in (record { low = low; high = Closed top }) table) (size - 1)) refl where
  by : (found : Option Row) → slice_get (keys_in (record { low = low; high = Closed top }) table) (size - 1) ≡ found → EndIsAbove low (unwrap_or found top) top
  by None is = inl refl
  by (Some key) is =
      inr (above_in low (Closed top) key (one_of (λ k. has (record { low = low; high = Closed top }) k ≡ true) (keys_in (record { low = low; high = Closed top }) table) (size - 1) key (all_in_span (key_places table.schema) (record { low = low; high = Closed top }) table.rows) is))

last_all : (P : Row → Type 0) (key : Row) (keys : List Row) (n : ℕ) → P key → AllByRecursion P keys → P (last_of key (take n keys))
last_all P key keys zero here all = here
last_all P key [] (suc n) here all = here
last_all P key (next ∷ keys) (suc n) here all = last_all P next keys n all.0 all.1

first_last : (P : Row → Type 0) (keys : List Row) (n : ℕ) → nat_lt (suc n) (length keys) ≡ true → AllByRecursion P keys → P (last_of [] (take (suc n) keys))
first_last P [] n long all = absurd (grind (arith, nat_tests, long))
first_last P (key ∷ keys) n long all = last_all P key keys n all.0 all.1

-- *So is the end that is answered with the keys*, or it is the span's.
pub spans_above : SpanEndsAreAbove
unfolding span_keys
spans_above low end zero table keys found some is = absurd (omega (arith, some))
spans_above low end (suc n) table keys found some is = by (nat_lt (suc n) (length all)) refl (sym one) where
  span : Span
  span = record { low = low; high = Closed end }

  all : List Row
  all = keys_in span table

  one : cond (nat_lt (suc n) (length all)) (last_of [] (take (suc n) all)) end ≡ found
  one = let both : answers.Keys (take (suc n) all) (cond (nat_lt (suc n) (length all)) (last_of [] (take (suc n) all)) end) ≡ answers.Keys keys found = is in cc

  by : (b : Bool) → nat_lt (suc n) (length all) ≡ b → found ≡ cond b (last_of [] (take (suc n) all)) end → EndIsAbove low found end
  by false cut found_is = inl found_is
  by true cut found_is = inr (ap (above low) found_is ∙ above_in low (Closed end) (last_of [] (take (suc n) all)) (first_last (λ k. has span k ≡ true) all n cut (all_in_span (key_places table.schema) span table.rows)))
