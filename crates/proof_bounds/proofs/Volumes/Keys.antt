-- All keys that the migrated table ever had: those of its opening rows, and those that events put. How many of them lie under an
-- end that rises from key to key.
use Rattle.std.proofs.Common.{◌≡◌, ◌≤◌, ◌⊎◌, inl, inr, ℕ, zero, suc, ◌+◌, ◌-◌, Bool, true, false, cond, not, ◌||◌, ◌&&◌, List, [], ◌∷◌, ◌++◌, length, filter, take, Option, Some, None, Ordering, Equal, refl, sym, ap, ◌∙◌, subst, arith, append_assoc}
use Rattle.std.specs.Prelude.{count_by, nat_lt, unwrap_or}
use Rattle.std.specs.List.{AllByRecursion, list_any, slice_get}
use Rattle.std.specs.Ordering.{is_eq, is_lt}
use Rattle.std.specs.Str.{bytes_eq}
use Rattle.std.proofs.lemmas.Bool.{and_from, and_parts, false≢true, or_right, true≢false}
use Rattle.std.proofs.lemmas.Bool.Decides.{nat_tests}
use Rattle.std.proofs.lemmas.Cmp.{tied_itself}
use Rattle.std.proofs.lemmas.List.{length-append, length-map}
use Rattle.std.proofs.lemmas.List.Folds.{list_any-append}
use Rattle.std.proofs.lemmas.List.Sums.{count_by-le-length, sum_by-append, sum_by-cons}
use Rattle.base_values.specs.declared.event.Change.{Change}
use Rattle.base_values.specs.declared.event.Change.TheVariants.{Write, Update, Delete}
use Rattle.base_values.specs.declared.event.RowEvent.{RowEvent}
use Rattle.base_values.specs.declared.span.Bound.{Bound}
use Rattle.base_values.specs.declared.span.Bound.TheVariants.{Open, Closed}
use Rattle.base_values.specs.declared.span.Span.{Span}
use Rattle.base_values.specs.GhoSchema.Rows.{key_of, key_places}
use Rattle.base_values.specs.KeyOrder.{compare_keys}
use Rattle.base_values.specs.Spans.{above, has}
use Rattle.base_values.proofs.Orders.{is_Less, keys_total, tied_keys}
use Rattle.table_store.specs.Databases.{TableRows}
use Rattle.table_store.proofs.Orders.{is_Equal, under_fails}
use Rattle.server_model.specs.declared.answer.Answer.TheVariants as answers
use Rattle.server_model.specs.Chunks.{chunk_end, keys_of, last_of, span_keys}
use Rattle.server_model.specs.States.{is_of}
use Rattle.proof_journals.specs.Ghost.Rows.Moments.{Row}
use Rattle.proof_journals.specs.Ghost.Rows.Counts.{all_keys, all_put, puts_key}
use Rattle.proof_journals.proofs.Ghost.Rows.LineEvents.{count_of}

-- THE KEYS THAT EVENTS PUT

abbrev put_key : List ℕ → Change → List Row
put_key places (Write row) = key_of places row ∷ []
put_key places (Update before after) = key_of places after ∷ []
put_key places (Delete row) = []

unfoldable pub put_keys : List ℕ → List ℕ → List RowEvent → List Row
put_keys name places [] = []
put_keys name places (event ∷ log) = cond (bytes_eq event.table name) (put_key places event.change) [] ++ put_keys name places log

key_short : (places : List ℕ) (change : Change) → length (put_key places change) ≤ 1
key_short places (Write row) = omega arith
key_short places (Update before after) = omega arith
key_short places (Delete row) = omega arith

pub put_short : (name places : List ℕ) (log : List RowEvent) → length (put_keys name places log) ≤ count_of name log
unfolding put_keys
put_short name places [] = omega arith
put_short name places (event ∷ log) = by (bytes_eq event.table name) refl (put_short name places log) where
  counted : count_of name (event ∷ log) ≡ cond (bytes_eq event.table name || false) 1 0 + count_of name log
  counted = sum_by-cons (λ (one : RowEvent). cond (is_of (name ∷ []) one) 1 0) event log

  by : (b : Bool) → bytes_eq event.table name ≡ b → length (put_keys name places log) ≤ count_of name log → length (cond b (put_key places event.change) [] ++ put_keys name places log) ≤ count_of name (event ∷ log)
  by true own rest =
      let a = length-append (put_key places event.change) (put_keys name places log) in
      let b = key_short places event.change in
      let c : count_of name (event ∷ log) ≡ 1 + count_of name log = counted ∙ ap (λ (b : Bool). cond (b || false) 1 0 + count_of name log) own in
      omega (arith, a, b, c, rest)
  by false other rest =
      let c : count_of name (event ∷ log) ≡ 0 + count_of name log = counted ∙ ap (λ (b : Bool). cond (b || false) 1 0 + count_of name log) other in
      omega (arith, c, rest)

pub put_both : (name places : List ℕ) (one two : List RowEvent) → put_keys name places (one ++ two) ≡ put_keys name places one ++ put_keys name places two
unfolding put_keys
put_both name places [] two = refl
put_both name places (event ∷ one) two =
    ap (λ (ks : List Row). cond (bytes_eq event.table name) (put_key places event.change) [] ++ ks) (put_both name places one two)
    ∙ sym (append_assoc (cond (bytes_eq event.table name) (put_key places event.change) []) (put_keys name places one) (put_keys name places two))

-- WHICH KEYS ARE AMONG THEM

abbrev pub is_in : List Row → Row → Bool
is_in keys key = list_any (λ other. is_eq (compare_keys key other)) keys

same_key : (key : Row) → is_eq (compare_keys key key) ≡ true
same_key key = ap is_eq (tied_itself keys_total key)

pub in_left : (one two : List Row) (key : Row) → is_in one key ≡ true → is_in (one ++ two) key ≡ true
in_left one two key is = list_any-append (λ (other : Row). is_eq (compare_keys key other)) one two ∙ rw is refl

in_right : (one two : List Row) (key : Row) → is_in two key ≡ true → is_in (one ++ two) key ≡ true
in_right one two key is = list_any-append (λ (other : Row). is_eq (compare_keys key other)) one two ∙ or_right (is_in one key) (is_in two key) is

in_here : (key : Row) (keys : List Row) → is_in (key ∷ keys) key ≡ true
in_here key keys = rw (same_key key) refl

-- the keys of rows are among them, whatever stands around
rows_in_all : (places : List ℕ) (front rows : List Row) (more : List Row) → all_keys (is_in (front ++ (keys_of places rows ++ more))) places rows ≡ true
rows_in_all places front [] more = refl
rows_in_all places front (row ∷ rows) more =
    and_from (is_in (front ++ (keys_of places (row ∷ rows) ++ more)) (key_of places row)) (all_keys (is_in (front ++ (keys_of places (row ∷ rows) ++ more))) places rows)
    (in_right front (keys_of places (row ∷ rows) ++ more) (key_of places row) (in_here (key_of places row) (keys_of places rows ++ more)))
    (subst (λ (ks : List Row). all_keys (is_in ks) places rows ≡ true) (append_assoc front (key_of places row ∷ []) (keys_of places rows ++ more)) (rows_in_all places (front ++ key_of places row ∷ []) rows more))

one_put : (name places : List ℕ) (front : List Row) (change : Change) (more : List Row) → puts_key (is_in (front ++ (put_key places change ++ more))) places change ≡ true
one_put name places front (Write row) more = in_right front (key_of places row ∷ more) (key_of places row) (in_here (key_of places row) more)
one_put name places front (Update before after) more = in_right front (key_of places after ∷ more) (key_of places after) (in_here (key_of places after) more)
one_put name places front (Delete row) more = refl

-- ... and so are the keys that events put
puts_in_all : (name places : List ℕ) (front : List Row) (log : List RowEvent) → all_put (is_in (front ++ put_keys name places log)) name places log ≡ true
unfolding put_keys
puts_in_all name places front [] = refl
puts_in_all name places front (event ∷ log) = by (bytes_eq event.table name) (λ (some : List Row). puts_in_all name places some log) where
  by : (b : Bool) → ((some : List Row) → all_put (is_in (some ++ put_keys name places log)) name places log ≡ true)
      → (cond b (puts_key (is_in (front ++ (cond b (put_key places event.change) [] ++ put_keys name places log))) places event.change) true && all_put (is_in (front ++ (cond b (put_key places event.change) [] ++ put_keys name places log))) name places log) ≡ true
  by true rest =
      and_from (puts_key (is_in (front ++ (put_key places event.change ++ put_keys name places log))) places event.change) (all_put (is_in (front ++ (put_key places event.change ++ put_keys name places log))) name places log)
      (one_put name places front event.change (put_keys name places log))
      (subst (λ (ks : List Row). all_put (is_in ks) name places log ≡ true) (append_assoc front (put_key places event.change) (put_keys name places log)) (rest (front ++ put_key places event.change)))
  by false rest = rest front

-- *All keys*: those of the opening rows, and those that events put
abbrev pub all_ever : List ℕ → List ℕ → List Row → List RowEvent → List Row
all_ever name places rows log = keys_of places rows ++ put_keys name places log

pub ever_short : (name places : List ℕ) (rows : List Row) (log : List RowEvent) → length (all_ever name places rows log) ≤ length rows + count_of name log
ever_short name places rows log =
    let a = length-append (keys_of places rows) (put_keys name places log) in
    let b = length-map rows (key_of places) in
    let c = put_short name places log in
    omega (arith, a, b, c)

pub ever_more : (name places : List ℕ) (rows : List Row) (log more : List RowEvent) → all_ever name places rows (log ++ more) ≡ all_ever name places rows log ++ put_keys name places more
ever_more name places rows log more = ap (λ (ks : List Row). keys_of places rows ++ ks) (put_both name places log more) ∙ sym (append_assoc (keys_of places rows) (put_keys name places log) (put_keys name places more))

pub ever_rows : (name places : List ℕ) (rows : List Row) (log : List RowEvent) → all_keys (is_in (all_ever name places rows log)) places rows ≡ true
ever_rows name places rows log = rows_in_all places [] rows (put_keys name places log)

pub ever_puts : (name places : List ℕ) (rows : List Row) (log : List RowEvent) → all_put (is_in (all_ever name places rows log)) name places log ≡ true
ever_puts name places rows log = puts_in_all name places (keys_of places rows) log

-- what events that are left out put doesn't matter
pub puts_filtered : (test : Row → Bool) (name places : List ℕ) (p : RowEvent → Bool) (log : List RowEvent) → all_put test name places log ≡ true → all_put test name places (filter p log) ≡ true
puts_filtered test name places p [] all = refl
puts_filtered test name places p (event ∷ log) all = by (p event) (and_parts (cond (bytes_eq event.table name) (puts_key test places event.change) true) (all_put test name places log) all) (puts_filtered test name places p log) where
  by : (b : Bool) → (cond (bytes_eq event.table name) (puts_key test places event.change) true ≡ true) × (all_put test name places log ≡ true) → (all_put test name places log ≡ true → all_put test name places (filter p log) ≡ true)
      → all_put test name places (cond b (event ∷ filter p log) (filter p log)) ≡ true
  by true parts rest = and_from (cond (bytes_eq event.table name) (puts_key test places event.change) true) (all_put test name places (filter p log)) parts.0 (rest parts.1)
  by false parts rest = rest parts.1

-- UNDER AN END

-- how many keys don't lie above the end
abbrev pub count_under : Bound → List Row → ℕ
count_under low keys = count_by (λ key. not (above low key)) keys

-- what is under the one end is under the other, at a key above it
still_under : (low : Bound) (end key : Row) → above low end ≡ true → not (above low key) ≡ true → not (above (Open end) key) ≡ true
still_under low end key past under = by (is_lt (compare_keys end key)) refl where
  by : (b : Bool) → is_lt (compare_keys end key) ≡ b → not b ≡ true
  by true less = absurd (true≢false (sym under ∙ under_fails low end key (is_Less (compare_keys end key) less) (ap not past)))
  by false less = refl

weight_grows : (low : Bound) (end key : Row) → above low end ≡ true → cond (not (above low key)) 1 0 ≤ cond (not (above (Open end) key)) 1 0
weight_grows low end key past = by (not (above low key)) refl where
  by : (b : Bool) → not (above low key) ≡ b → cond b 1 0 ≤ cond (not (above (Open end) key)) 1 0
  by true under = subst (λ (c : Bool). 1 ≤ cond c 1 0) (sym (still_under low end key past under)) (omega arith)
  by false under = omega arith

counted : (low : Bound) (key : Row) (keys : List Row) → count_under low (key ∷ keys) ≡ cond (not (above low key)) 1 0 + count_under low keys
counted low key keys = sum_by-cons (λ (one : Row). cond (not (above low one)) 1 0) key keys

under_grows : (low : Bound) (end : Row) (keys : List Row) → above low end ≡ true → count_under low keys ≤ count_under (Open end) keys
under_grows low end [] past = omega arith
under_grows low end (key ∷ keys) past =
    let a = counted low key keys in
    let b = counted (Open end) key keys in
    let c = weight_grows low end key past in
    let d = under_grows low end keys past in
    omega (arith, a, b, c, d)

-- the key itself
end_counts : (low : Bound) (end key : Row) → above low end ≡ true → is_eq (compare_keys end key) ≡ true → cond (not (above low key)) 1 0 + 1 ≤ cond (not (above (Open end) key)) 1 0
end_counts low end key past same =
    let equal : compare_keys end key ≡ Equal = is_Equal (compare_keys end key) same in
    let one : end ≡ key = tied_keys end key equal in
    let was : cond {A = ℕ} (not (above low key)) 1 0 ≡ 0 = ap (λ (k : Row). cond {A = ℕ} (not (above low k)) 1 0) (sym one) ∙ ap (λ (b : Bool). cond {A = ℕ} (not b) 1 0) past in
    let is : cond {A = ℕ} (not (above (Open end) key)) 1 0 ≡ 1 = ap (λ (o : Ordering). cond {A = ℕ} (not (is_lt o)) 1 0) equal in
    omega (arith, was, is)

-- *At a key above the end there is one more*
pub under_rises : (low : Bound) (end : Row) (keys : List Row) → above low end ≡ true → is_in keys end ≡ true → count_under low keys + 1 ≤ count_under (Open end) keys
under_rises low end [] past none = absurd (false≢true none)
under_rises low end (key ∷ keys) past some = by (is_eq (compare_keys end key)) refl some (λ later. under_rises low end keys past later) where
  a : count_under low (key ∷ keys) ≡ cond (not (above low key)) 1 0 + count_under low keys
  a = counted low key keys

  b : count_under (Open end) (key ∷ keys) ≡ cond (not (above (Open end) key)) 1 0 + count_under (Open end) keys
  b = counted (Open end) key keys

  by : (same : Bool) → is_eq (compare_keys end key) ≡ same → (same || is_in keys end) ≡ true → (is_in keys end ≡ true → count_under low keys + 1 ≤ count_under (Open end) keys) → count_under low (key ∷ keys) + 1 ≤ count_under (Open end) (key ∷ keys)
  by true same some rest = let one = a in let two = b in let three = end_counts low end key past same in let four = under_grows low end keys past in omega (arith, one, two, three, four)
  by false other some rest = let one = a in let two = b in let three = weight_grows low end key past in let four = rest some in omega (arith, one, two, three, four)

-- *Where a key lies above the end, not all are under it*
pub under_most : (low : Bound) (top : Row) (keys : List Row) → above low top ≡ true → is_in keys top ≡ true → count_under low keys + 1 ≤ length keys
under_most low top [] past none = absurd (false≢true none)
under_most low top (key ∷ keys) past some = by (is_eq (compare_keys top key)) refl some (λ later. under_most low top keys past later) where
  small : (b : Bool) → cond b 1 0 ≤ 1
  small true = omega arith
  small false = omega arith

  by : (same : Bool) → is_eq (compare_keys top key) ≡ same → (same || is_in keys top) ≡ true → (is_in keys top ≡ true → count_under low keys + 1 ≤ length keys) → count_under low (key ∷ keys) + 1 ≤ suc (length keys)
  by true same some rest =
      let one = counted low key keys in
      let two : cond {A = ℕ} (not (above low key)) 1 0 ≡ 0 = ap (λ (k : Row). cond {A = ℕ} (not (above low k)) 1 0) (sym (tied_keys top key (is_Equal (compare_keys top key) same))) ∙ ap (λ (b : Bool). cond {A = ℕ} (not b) 1 0) past in
      let three = count_by-le-length (λ (k : Row). not (above low k)) keys in
      omega (arith, one, two, three)
  by false other some rest = let one = counted low key keys in let two = small (not (above low key)) in let three = rest some in omega (arith, one, two, three)

pub under_more : (low : Bound) (keys more : List Row) → count_under low keys ≤ count_under low (keys ++ more)
under_more low keys more = let a = sum_by-append (λ (key : Row). cond (not (above low key)) 1 0) keys more in omega (arith, a)

-- *No more than all are under an end*
pub under_all : (low : Bound) (keys : List Row) → count_under low keys ≤ length keys
under_all low keys = count_by-le-length (λ (key : Row). not (above low key)) keys

-- WHERE A CHUNK ENDS

-- at the high end, or at one of the keys that lies in the span
abbrev pub EndsIn : List Row → Bound → Row → Row → Type 0
EndsIn keys low high end = (end ≡ high) ⊎ ((is_in keys end ≡ true) × (has (record { low = low; high = Closed high }) end ≡ true))

abbrev KeyIn : List Row → (Row → Bool) → Row → Type 0
KeyIn keys test key = (is_in keys key ≡ true) × (test key ≡ true)

span_in : (keys : List Row) (test : Row → Bool) (places : List ℕ) (rows : List Row) → all_keys (is_in keys) places rows ≡ true → AllByRecursion (KeyIn keys test) (keys_of places (filter (λ row. test (key_of places row)) rows))
span_in keys test places [] all = tt
span_in keys test places (row ∷ rows) all = by (test (key_of places row)) refl (and_parts (is_in keys (key_of places row)) (all_keys (is_in keys) places rows) all) (span_in keys test places rows) where
  by : (b : Bool) → test (key_of places row) ≡ b → (is_in keys (key_of places row) ≡ true) × (all_keys (is_in keys) places rows ≡ true)
      → (all_keys (is_in keys) places rows ≡ true → AllByRecursion (KeyIn keys test) (keys_of places (filter (λ row. test (key_of places row)) rows)))
      → AllByRecursion (KeyIn keys test) (keys_of places (cond b (row ∷ filter (λ row. test (key_of places row)) rows) (filter (λ row. test (key_of places row)) rows)))
  by true is parts rest = ((parts.0, is), rest parts.1)
  by false is parts rest = rest parts.1

slice_all : (P : Row → Type 0) (keys : List Row) (i : ℕ) (key : Row) → AllByRecursion P keys → slice_get keys i ≡ Some key → P key
slice_all P [] i key all none = absurd cc
slice_all P (first ∷ keys) zero key all some = let one : first ≡ key = cc in subst P one all.0
slice_all P (first ∷ keys) (suc i) key all some = slice_all P keys i key all.1 some

take_all : (P : Row → Type 0) (n : ℕ) (keys : List Row) → AllByRecursion P keys → AllByRecursion P (take n keys)
take_all P zero keys all = tt
take_all P (suc n) [] all = tt
take_all P (suc n) (key ∷ keys) all = (all.0, take_all P n keys all.1)

pub last_all : (P : Row → Type 0) (key : Row) (keys : List Row) → P key → AllByRecursion P keys → P (last_of key keys)
last_all P key [] one all = one
last_all P key (next ∷ keys) one all = last_all P next keys all.0 all.1

-- *Where ChunkEnd says*
pub chunk_ends : (keys : List Row) (low : Bound) (top : Row) (size : ℕ) (table : TableRows) → all_keys (is_in keys) (key_places table.schema) table.rows ≡ true → EndsIn keys low top (chunk_end low top size table)
unfolding chunk_end
chunk_ends keys low top size table all = by (slice_get (keys_of (key_places table.schema) (filter (λ row. has span (key_of (key_places table.schema) row)) table.rows)) (size - 1)) refl where
  span : Span
  span = record { low = low; high = Closed top }

  by : (found : Option Row) → slice_get (keys_of (key_places table.schema) (filter (λ row. has span (key_of (key_places table.schema) row)) table.rows)) (size - 1) ≡ found → EndsIn keys low top (unwrap_or found top)
  by None none = inl refl
  by (Some key) some = inr (slice_all (KeyIn keys (has span)) (keys_of (key_places table.schema) (filter (λ row. has span (key_of (key_places table.schema) row)) table.rows)) (size - 1) key (span_in keys (has span) (key_places table.schema) table.rows all) some)

first_last : (P : Row → Type 0) (size : ℕ) (keys : List Row) → 1 ≤ size → 1 ≤ length keys → AllByRecursion P keys → P (last_of [] (take size keys))
first_last P zero keys some long all = absurd (never some) where
  never : 1 ≤ 0 → ⊥
  never less = omega (arith, less)
first_last P (suc n) [] some long all = absurd (never long) where
  never : 1 ≤ 0 → ⊥
  never less = omega (arith, less)
first_last P (suc n) (key ∷ keys) some long all = last_all P key (take n keys) all.0 (take_all P n keys all.1)

-- *Where BeginSpan says*
pub span_ends : (keys : List Row) (low : Bound) (high : Row) (size : ℕ) (table : TableRows) (some : List Row) (end : Row) → 1 ≤ size → all_keys (is_in keys) (key_places table.schema) table.rows ≡ true → answers.Keys some end ≡ span_keys (record { low = low; high = Closed high }) size table → EndsIn keys low high end
unfolding span_keys
span_ends keys low high size table some end sized all is = by (nat_lt size (length found)) refl same where
  span : Span
  span = record { low = low; high = Closed high }

  found : List Row
  found = keys_of (key_places table.schema) (filter (λ row. has span (key_of (key_places table.schema) row)) table.rows)

  same : end ≡ cond (nat_lt size (length found)) (last_of [] (take size found)) high
  same = cc

  by : (b : Bool) → nat_lt size (length found) ≡ b → end ≡ cond b (last_of [] (take size found)) high → EndsIn keys low high end
  by true less same =
      let long : 1 ≤ length found = grind (arith, nat_tests, less) in
      subst (EndsIn keys low high) (sym same) (inr (first_last (KeyIn keys (has span)) size found sized long (span_in keys (has span) (key_places table.schema) table.rows all)))
  by false less same = inl same
