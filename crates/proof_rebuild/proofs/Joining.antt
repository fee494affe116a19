-- Shards that are put together are the table.
use Rattle.std.proofs.Common.{◌≡◌, ◌<◌, ◌≤◌, ℕ, zero, suc, ◌==◌, ◌||◌, Bool, true, false, List, [], ◌∷◌, filter, cond, Less, Greater, refl, sym, ap, ◌∙◌, arith}
use Rattle.std.specs.Ordering.{ordering_reverse}
use Rattle.std.specs.List.{AllByRecursion}
use Rattle.std.proofs.lemmas.Bool.Decides.{nat_tests}
use Rattle.base_values.specs.KeyOrder.{compare_keys}
use Rattle.base_values.proofs.Orders.{keys_total}
use Rattle.base_values.specs.GhoSchema.Rows.{key_of, with_row}
use Rattle.base_values.specs.GhoSchema.Tables.{Ascends}
use Rattle.table_store.proofs.Orders.{Row}
use Rattle.table_store.proofs.Ascending.{all-filter}
use Rattle.base_values.specs.declared.event.Change.{Change}
use Rattle.server_model.specs.Rows.{change_all}
use Rattle.proof_rebuild.specs.Shards.{StaysInOrder, parts_of, with_rows, shard_of, together}
use Rattle.proof_rebuild.specs.Laws.{ShardsJoin}
use Rattle.proof_rebuild.proofs.Following.{shards_follow}

-- the row comes before each of these
abbrev IsBefore : List ℕ → Row → List Row → Type 0
IsBefore places row rows = AllByRecursion (λ other. compare_keys (key_of places row) (key_of places other) ≡ Less) rows

-- a row that comes before all is put in front
put_first : (places : List ℕ) (row : Row) (rows : List Row) → IsBefore places row rows → with_row places row rows ≡ row ∷ rows
unfolding with_row
put_first places row [] less = refl
put_first places row (first ∷ rows) less = rw less.0 refl

-- a row stays in front of what comes after it
after_first : (places : List ℕ) (row first : Row) (rows : List Row) → compare_keys (key_of places first) (key_of places row) ≡ Less → with_row places row (first ∷ rows) ≡ first ∷ with_row places row rows
unfolding with_row
after_first places row first rows less =
    let greater : compare_keys (key_of places row) (key_of places first) ≡ Greater = keys_total.antisymm (key_of places row) (key_of places first) ∙ ap ordering_reverse less in
    rw greater refl

all_after : (places : List ℕ) (first : Row) (rows into : List Row) → IsBefore places first rows → with_rows places rows (first ∷ into) ≡ first ∷ with_rows places rows into
unfolding with_rows
all_after places first [] into less = refl
all_after places first (row ∷ rows) into less = ap (with_rows places rows) (after_first places row first into less.0) ∙ all_after places first rows (with_row places row into) less.1

-- the rows of one shard, put among those of others, are the rows of all of them
merge_here : (p q : Row → Bool) (places : List ℕ) (first : Row) (rows some others all : List Row) (b c : Bool) → (b ≡ true → c ≡ false) → IsBefore places first some → IsBefore places first others
    → with_rows places some others ≡ all → with_rows places (cond b (first ∷ some) some) (cond c (first ∷ others) others) ≡ cond (b || c) (first ∷ all) all
unfolding with_rows
merge_here p q places first rows some others all true true apart less more is = let no : true ≡ false = apart refl in absurd (cc no)
merge_here p q places first rows some others all true false apart less more is =
    ap (with_rows places some) (put_first places first others more) ∙ all_after places first some others less ∙ ap (λ (rows : List Row). first ∷ rows) is
merge_here p q places first rows some others all false true apart less more is = all_after places first some others less ∙ ap (λ (rows : List Row). first ∷ rows) is
merge_here p q places first rows some others all false false apart less more is = is

pub merge : (p q : Row → Bool) (places : List ℕ) (rows : List Row) → ((row : Row) → p row ≡ true → q row ≡ false) → Ascends places rows
    → with_rows places (filter p rows) (filter q rows) ≡ filter (λ row. p row || q row) rows
unfolding with_rows
merge p q places [] apart ascends = refl
merge p q places (first ∷ rows) apart ascends =
    merge_here p q places first rows (filter p rows) (filter q rows) (filter (λ row. p row || q row) rows) (p first) (q first) (apart first) (all-filter (λ other. compare_keys (key_of places first) (key_of places other) ≡ Less) p rows ascends.0)
    (all-filter (λ other. compare_keys (key_of places first) (key_of places other) ≡ Less) q rows ascends.0)
    (merge p q places rows apart ascends.1)

-- the row is of a shard below this number
abbrev is_below : (Row → ℕ) → ℕ → Row → Bool
is_below home zero row = false
is_below home (suc count) row = (home row == count) || is_below home count row

below_here : (home : Row → ℕ) (count : ℕ) (row : Row) (b : Bool) → (home row == count) ≡ b → home row < suc count → (home row < count → is_below home count row ≡ true) → (b || is_below home count row) ≡ true
below_here home count row true is less others = refl
below_here home count row false is less others = others (grind (arith, nat_tests))

below : (home : Row → ℕ) (count : ℕ) (row : Row) → home row < count → is_below home count row ≡ true
below home zero row less = absurd (omega arith)
below home (suc count) row less = below_here home count row (home row == count) refl less (below home count row)

-- no row of a shard below this number is of the shard of this number
not_yet_here : (home : Row → ℕ) (shard count : ℕ) (row : Row) (b : Bool) → (home row == count) ≡ b → (home row == shard) ≡ true → suc count ≤ shard → is_below home count row ≡ false → (b || is_below home count row) ≡ false
not_yet_here home shard count row true is at less others = absurd (grind (arith, nat_tests))
not_yet_here home shard count row false is at less others = others

not_yet : (home : Row → ℕ) (shard count : ℕ) (row : Row) → (home row == shard) ≡ true → count ≤ shard → is_below home count row ≡ false
not_yet home shard zero row at less = refl
not_yet home shard (suc count) row at less = not_yet_here home shard count row (home row == count) refl at less (not_yet home shard count row at (omega arith))

none_below : (home : Row → ℕ) (rows : List Row) → filter (is_below home zero) rows ≡ []
none_below home [] = refl
none_below home (row ∷ rows) = none_below home rows

-- the shards below a number, put together
together_below : (home : Row → ℕ) (places : List ℕ) (count : ℕ) (rows : List Row) → Ascends places rows → together places (λ shard. shard_of home shard rows) count ≡ filter (is_below home count) rows
unfolding together
together_below home places zero rows ascends = sym (none_below home rows)
together_below home places (suc count) rows ascends =
    ap (with_rows places (shard_of home count rows)) (together_below home places count rows ascends)
    ∙ merge (λ row. home row == count) (is_below home count) places rows (λ row at. not_yet home count count row at (omega arith)) ascends

all_here : (test : Row → Bool) (row : Row) (rows : List Row) (b : Bool) → test row ≡ b → b ≡ true → filter test rows ≡ rows → cond (test row) (row ∷ filter test rows) (filter test rows) ≡ row ∷ rows
all_here test row rows b is passes others = rw (is, passes) (ap (λ (rows : List Row). row ∷ rows) others)

all_below : (home : Row → ℕ) (count : ℕ) (rows : List Row) → AllByRecursion (λ row. home row < count) rows → filter (is_below home count) rows ≡ rows
all_below home count [] all = refl
all_below home count (row ∷ rows) all = all_here (is_below home count) row rows (is_below home count row) refl (below home count row all.0) (all_below home count rows all.1)

pub joined : (home : Row → ℕ) (places : List ℕ) (count : ℕ) (rows : List Row) → Ascends places rows → AllByRecursion (λ row. home row < count) rows → together places (λ shard. shard_of home shard rows) count ≡ rows
joined home places count rows ascends all = together_below home places count rows ascends ∙ all_below home count rows all

-- shards that are alike are alike put together
pub alike : (places : List ℕ) (one other : ℕ → List Row) (count : ℕ) → ((shard : ℕ) → shard < count → one shard ≡ other shard) → together places one count ≡ together places other count
unfolding together
alike places one other zero same = refl
alike places one other (suc count) same = ap (λ (rows : List Row). with_rows places rows (together places one count)) (same count (omega arith)) ∙ ap (with_rows places (other count)) (alike places one other count (λ shard less. same shard (omega (arith, less))))

followed : (home : Row → ℕ) (places : List ℕ) (count : ℕ) (changes : List Change) (rows : List Row) → StaysInOrder places changes rows → Ascends places (change_all places changes rows)
    → AllByRecursion (λ row. home row < count) (change_all places changes rows)
    → together places (λ shard. change_all places (parts_of (λ row. home row == shard) changes) (shard_of home shard rows)) count ≡ change_all places changes rows
followed home places count changes rows ordered ascends all =
    alike places (λ shard. change_all places (parts_of (λ row. home row == shard) changes) (shard_of home shard rows)) (λ shard. shard_of home shard (change_all places changes rows)) count (λ shard less. sym (shards_follow (λ row. home row == shard) places changes rows ordered))
    ∙ joined home places count (change_all places changes rows) ascends all

-- *Shards make the table*
pub shards_join : ShardsJoin
shards_join = (joined, followed)
