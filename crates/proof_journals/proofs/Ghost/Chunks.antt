-- BeginSpan's keys are those of the rows up to the chunk's end; and they stand as long as the span is held.
use Rattle.std.proofs.Common.{◌≡◌, ℕ, zero, suc, ◌<◌, ◌≤◌, Bool, true, false, ◌&&◌, List, [], ◌∷◌, length, filter, take, find, cond, Some, Ok, Ordering, Less, Equal, Greater, refl, sym, ap, ◌∙◌, subst, arith}
use Rattle.std.specs.Prelude.{nat_lt}
use Rattle.std.proofs.lemmas.Bool.{false≢true, and_parts}
use Rattle.std.proofs.lemmas.List.{take_all}
use Rattle.std.proofs.Math.Bool.{and-false}
use Rattle.std.specs.List.{AllByRecursion}
use Rattle.std.specs.Ordering.{is_le, ordering_reverse}
use Rattle.base_values.specs.KeyOrder.{compare_keys}
use Rattle.base_values.proofs.Orders.{tied_keys}
use Rattle.base_values.specs.declared.gho_schema.schema.Schema.{Schema}
use Rattle.server_locks.specs.declared.row_locks.lock.Lock.{Lock}
use Rattle.table_store.specs.ClusteredKeys.{HasClusteredKey}
use Rattle.table_store.proofs.Ascending.{ascends-filter}
use Rattle.base_values.specs.GhoSchema.Tables.{IsRow, IsTable, no_null}
use Rattle.base_values.specs.declared.span.Bound.{Bound}
use Rattle.base_values.specs.declared.span.Bound.TheVariants.{Closed}
use Rattle.base_values.specs.declared.span.Span.{Span}
use Rattle.base_values.specs.Spans.{above, has}
use Rattle.base_values.specs.GhoSchema.Rows.{key_of, key_places}
use Rattle.base_values.specs.GhoSchema.Tables.{Ascends}
use Rattle.base_values.specs.RowConversion.ConvertedRows.{converted_row}
use Rattle.base_values.specs.declared.event.RowEvent.{RowEvent}
use Rattle.table_store.specs.RowLists.{is_at}
use Rattle.table_store.proofs.Orders.{turned}
use Rattle.table_store.proofs.RowLaws.{key_is}
use Rattle.proof_journals.proofs.Ghost.Joining.{IsCopied}
use Rattle.proof_journals.proofs.Ghost.Keys.{among_any, full_key}
use Rattle.proof_journals.proofs.Ghost.Ranges.{less_then, tied}
use Rattle.proof_journals.specs.Ghost.HeldKeys.{Clustered}
use Rattle.proof_journals.proofs.Ghost.Rows.Finding.{found_at, found_in}
use Rattle.proof_journals.specs.Ghost.Rows.Moments.{Row, rows_at}
use Rattle.proof_journals.specs.Ghost.Rows.Timelines.{IsPlanned, Migration}
use Rattle.server_model.specs.Chunks.{keys_of, last_of}
use Rattle.server_model.specs.Needs.{lock_on}
use Rattle.server_model.specs.Rows.{lies_under}
use Rattle.server_model.proofs.LockedRows.Standing.{same-filter, same-within}
use Rattle.server_model.proofs.LockedRows.Tests.{same_bytes}
use Rattle.server_model.specs.LockedRows.Agreement.{Among, SameWhere, covers, is_under}

-- whether a row's key isn't above a key
abbrev pub up_to : List ℕ → Row → Row → Bool
up_to places key row = is_le (compare_keys (key_of places row) key)

-- rows behind one aren't up to it
not_up : (places : List ℕ) (row other : Row) → compare_keys (key_of places row) (key_of places other) ≡ Less → up_to places (key_of places row) other ≡ false
not_up places row other less = ap is_le (turned (key_of places other) (key_of places row) ∙ ap ordering_reverse less)

none_up : (places : List ℕ) (row : Row) (rows : List Row) → AllByRecursion (λ other. compare_keys (key_of places row) (key_of places other) ≡ Less) rows → filter (up_to places (key_of places row)) rows ≡ []
none_up places row [] less = refl
none_up places row (other ∷ rows) less = rw (not_up places row other less.0) (none_up places row rows less.1)

-- the last of the first rows is no less than the first
last_no_less : (places : List ℕ) (row : Row) (n : ℕ) (rows : List Row) → Ascends places (row ∷ rows) → is_le (compare_keys (key_of places row) (last_of (key_of places row) (keys_of places (take n rows)))) ≡ true
last_no_less places row zero rows ascends = tied (key_of places row)
last_no_less places row (suc n) [] ascends = tied (key_of places row)
last_no_less places row (suc n) (next ∷ rows) ascends =
    less_then (key_of places row) (key_of places next) (last_of (key_of places next) (keys_of places (take n rows))) (compare_keys (key_of places next) (last_of (key_of places next) (keys_of places (take n rows)))) refl ascends.0.0 (last_no_less places next n rows ascends.1)

-- the rows up to the last of the first ones are those
first_ones : (places : List ℕ) (row : Row) (n : ℕ) (rows : List Row) → Ascends places (row ∷ rows) → filter (up_to places (last_of (key_of places row) (keys_of places (take n rows)))) (row ∷ rows) ≡ row ∷ take n rows
first_ones places row zero rows ascends = rw (tied (key_of places row)) (ap (λ (rs : List Row). row ∷ rs) (none_up places row rows ascends.0))
first_ones places row (suc n) [] ascends = rw (tied (key_of places row)) refl
first_ones places row (suc n) (next ∷ rows) ascends =
    rw (last_no_less places row (suc n) (next ∷ rows) ascends) (ap (λ (rs : List Row). row ∷ rs) (first_ones places next n rows ascends.1))

-- two tests one after the other
pub filter_two : (one two both : Row → Bool) (rows : List Row) → ((row : Row) → both row ≡ (two row && one row)) → filter one (filter two rows) ≡ filter both rows
filter_two one two both [] same = refl
filter_two one two both (row ∷ rows) same = at (one row) (two row) refl refl (filter_two one two both rows same) where
  at : (a b : Bool) → one row ≡ a → two row ≡ b → filter one (filter two rows) ≡ filter both rows → filter one (cond b (row ∷ filter two rows) (filter two rows)) ≡ cond (both row) (row ∷ filter both rows) (filter both rows)
  at true true p q rest = rw (same row, p, q) (ap (λ (rs : List Row). row ∷ rs) rest)
  at false true p q rest = rw (same row, p, q) rest
  at true false p q rest = rw (same row, p, q) rest
  at false false p q rest = rw (same row, p, q) rest

-- a copied row, by the key that the chunk was told
pub copied_by_key : (m : Migration) (rows : List Row) (log : List RowEvent) (end : ℕ) (key row made : Row) → IsPlanned m rows → AllByRecursion (Rattle.base_values.specs.GhoSchema.Tables.IsRow m.schema.columns) (rows_at m.name (key_places m.schema) rows log end)
    → find (is_at (key_places m.schema) key) (rows_at m.name (key_places m.schema) rows log end) ≡ Some row → converted_row m.columns row ≡ Ok made → (key_of (key_places m.new) made ≡ key) × IsCopied m rows log end row made
copied_by_key m rows log end key row made planned fit found imaged =
    let now : List Row = rows_at m.name (key_places m.schema) rows log end in
    let fits = found_in (is_at (key_places m.schema) key) (Rattle.base_values.specs.GhoSchema.Tables.IsRow m.schema.columns) now row fit found in
    let same : key_of (key_places m.new) made ≡ key = planned.same_key row made fits imaged ∙ sym (key_is (key_places m.schema) key row (found_at (is_at (key_places m.schema) key) now row found)) in
    (same, (ap (λ (k : Row). find (is_at (key_places m.schema) k) now) same ∙ found, imaged))

-- ---- the keys that BeginSpan tells

no_greater : (a b c : Row) (o : Ordering) → compare_keys a b ≡ o → is_le o ≡ true → is_le (compare_keys b c) ≡ true → is_le (compare_keys a c) ≡ true
no_greater a b c Less is one two = less_then a b c (compare_keys b c) refl is two
no_greater a b c Equal is one two = subst (λ (k : Row). is_le (compare_keys k c) ≡ true) (sym (tied_keys a b is)) two
no_greater a b c Greater is one two = absurd (false≢true one)

pub last_passes : (P : Row → Type 0) (places : List ℕ) (row : Row) (n : ℕ) (rows : List Row) → AllByRecursion (λ other. P (key_of places other)) (row ∷ rows) → P (last_of (key_of places row) (keys_of places (take n rows)))
last_passes P places row zero rows all = all.0
last_passes P places row (suc n) [] all = all.0
last_passes P places row (suc n) (next ∷ rows) all = last_passes P places next n rows all.1

pub passing : (test : Row → Bool) (rows : List Row) → AllByRecursion (λ row. test row ≡ true) (filter test rows)
passing test [] = tt
passing test (row ∷ rows) = at (test row) refl (passing test rows) where
  at : (b : Bool) → test row ≡ b → AllByRecursion (λ r. test r ≡ true) (filter test rows) → AllByRecursion (λ r. test r ≡ true) (cond b (row ∷ filter test rows) (filter test rows))
  at true is rest = (is, rest)
  at false is rest = rest

-- a nearer end
pub nearer : (low : Bound) (near far key : Row) → is_le (compare_keys near far) ≡ true → has (record { low = low; high = Closed near }) key ≡ (has (record { low = low; high = Closed far }) key && is_le (compare_keys key near))
unfolding has
nearer low near far key within = at (above low key) (is_le (compare_keys key near)) refl where
  at : (a b : Bool) → is_le (compare_keys key near) ≡ b → (a && b) ≡ ((a && is_le (compare_keys key far)) && b)
  at false b is = refl
  at true true is = rw (no_greater key near far (compare_keys key near) refl is within) refl
  at true false is = sym (and-false (is_le (compare_keys key far)))

pub keys_taken : (places : List ℕ) (n : ℕ) (rows : List Row) → take n (keys_of places rows) ≡ keys_of places (take n rows)
keys_taken places zero rows = refl
keys_taken places (suc n) [] = refl
keys_taken places (suc n) (row ∷ rows) = ap (λ (ks : List Row). key_of places row ∷ ks) (keys_taken places n rows)

pub below_end : (low : Bound) (end key : Row) → has (record { low = low; high = Closed end }) key ≡ true → is_le (compare_keys key end) ≡ true
unfolding has
below_end low end key is = (and_parts (above low key) (is_le (compare_keys key end)) is).1

-- a chunk that is cut behind so many keys
cut_span : (places : List ℕ) (low : Bound) (end : Row) (n : ℕ) (rows xs : List Row) → Ascends places rows → filter (λ row. has (record { low = low; high = Closed end }) (key_of places row)) rows ≡ xs → suc n < length xs
    → take (suc n) (keys_of places xs) ≡ keys_of places (filter (λ row. has (record { low = low; high = Closed (last_of [] (take (suc n) (keys_of places xs))) }) (key_of places row)) rows)
cut_span places low end n rows [] ascends are less = absurd (omega (arith, less))
cut_span places low end n rows (x ∷ xs) ascends are less =
    let inside : Row → Bool = λ row. has (record { low = low; high = Closed end }) (key_of places row) in
    let last : Row = last_of (key_of places x) (keys_of places (take n xs)) in
    let ordered : Ascends places (x ∷ xs) = subst (Ascends places) are (ascends-filter places inside rows ascends) in
    let all : AllByRecursion (λ row. has (record { low = low; high = Closed end }) (key_of places row) ≡ true) (x ∷ xs) = subst (AllByRecursion (λ row. inside row ≡ true)) are (passing inside rows) in
    let within : is_le (compare_keys last end) ≡ true = below_end low end last (last_passes (λ k. has (record { low = low; high = Closed end }) k ≡ true) places x n xs all) in
    let reported : take (suc n) (keys_of places (x ∷ xs)) ≡ keys_of places (x ∷ take n xs) = keys_taken places (suc n) (x ∷ xs) in
    let named : last_of [] (take (suc n) (keys_of places (x ∷ xs))) ≡ last = ap (last_of (key_of places x)) (keys_taken places n xs) in
    let rows_are : filter (λ row. has (record { low = low; high = Closed last }) (key_of places row)) rows ≡ x ∷ take n xs =
    sym (filter_two (up_to places last) inside (λ row. has (record { low = low; high = Closed last }) (key_of places row)) rows (λ row. nearer low last end (key_of places row) within))
    ∙ ap (filter (up_to places last)) are ∙ first_ones places x n xs ordered in
    reported ∙ ap (keys_of places) (sym rows_are) ∙ ap (λ (l : Row). keys_of places (filter (λ row. has (record { low = low; high = Closed l }) (key_of places row)) rows)) (sym named)

pub length_keys : (places : List ℕ) (rows : List Row) → length (keys_of places rows) ≡ length rows
length_keys places [] = refl
length_keys places (row ∷ rows) = ap suc (length_keys places rows)

-- *BeginSpan tells the keys of the rows up to the chunk's end.*
pub span_given : (places : List ℕ) (low : Bound) (end : Row) (n : ℕ) (rows : List Row) (b : Bool) → Ascends places rows → nat_lt (suc n) (length (keys_of places (filter (λ row. has (record { low = low; high = Closed end }) (key_of places row)) rows))) ≡ b
    → take (suc n) (keys_of places (filter (λ row. has (record { low = low; high = Closed end }) (key_of places row)) rows))
    ≡ keys_of places (filter (λ row. has (record { low = low; high = Closed (cond b (last_of [] (take (suc n) (keys_of places (filter (λ row. has (record { low = low; high = Closed end }) (key_of places row)) rows)))) end) }) (key_of places row)) rows)
span_given places low end n rows true ascends is =
    let xs : List Row = filter (λ row. has (record { low = low; high = Closed end }) (key_of places row)) rows in
    let long = length_keys places xs in
    let less : suc n < length (keys_of places xs) = grind (arith, Rattle.std.proofs.lemmas.Bool.Decides.nat_tests) in
    cut_span places low end n rows xs ascends refl (omega (arith, less, long))
span_given places low end n rows false ascends is =
    let xs : List Row = filter (λ row. has (record { low = low; high = Closed end }) (key_of places row)) rows in
    let less : length (keys_of places xs) ≤ suc n = grind (arith, Rattle.std.proofs.lemmas.Bool.Decides.nat_tests) in
    take_all (suc n) (keys_of places xs) less

-- ---- what the lock on the span is for: its rows stay

full_in : (schema : Schema) (has' : HasClusteredKey schema) (test : Row → Bool) (rows : List Row) → AllByRecursion (IsRow schema.columns) rows → filter (λ row. no_null (key_of (key_places schema) row) && test row) rows ≡ filter test rows
full_in schema has' test [] fit = refl
full_in schema has' test (row ∷ rows) fit = rw (full_key schema has' row fit.0, full_in schema has' test rows fit.1) refl

under_span : (schema : Schema) (at : Clustered schema) (span : Span) (locks : List Lock) → Among (lock_on schema false (record { key = at.place; span = span })) locks → (row : Row) → (no_null (key_of (key_places schema) row) && has span (key_of (key_places schema) row)) ≡ true → is_under schema locks row ≡ true
unfolding is_under lies_under
under_span schema at span locks among row is =
    among_any (covers schema row) (lock_on schema false (record { key = at.place; span = span })) locks among
    (rw (same_bytes schema.name, at.there) (subst (λ (p : List ℕ). (no_null (key_of p row) && has span (key_of p row)) ≡ true) at.its is))

-- *The rows under a span that is held stay.*
pub span_same : (schema : Schema) → HasClusteredKey schema → (at : Clustered schema) (span : Span) (locks : List Lock) (a b : List Row) → IsTable schema a → IsTable schema b → Among (lock_on schema false (record { key = at.place; span = span })) locks → SameWhere (is_under schema locks) a b
    → filter (λ row. has span (key_of (key_places schema) row)) a ≡ filter (λ row. has span (key_of (key_places schema) row)) b
span_same schema has' at span locks a b one two among same =
    let test : Row → Bool = λ row. no_null (key_of (key_places schema) row) && has span (key_of (key_places schema) row) in
    sym (full_in schema has' (λ row. has span (key_of (key_places schema) row)) a one.rows_fit)
    ∙ same-filter test (key_places schema) a b one.ascends two.ascends (same-within test (is_under schema locks) a b (under_span schema at span locks among) same)
    ∙ full_in schema has' (λ row. has span (key_of (key_places schema) row)) b two.rows_fit
