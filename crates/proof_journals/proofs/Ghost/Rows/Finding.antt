-- Rows found by their keys.
use Rattle.std.proofs.Common.{◌≡◌, ℕ, Bool, true, false, ◌&&◌, List, [], ◌∷◌, find, cond, Option, Some, None, Equal, refl, sym, ap, ◌∙◌, subst, unwrap_or, ◌⊎◌, inl, inr}
use Rattle.std.proofs.lemmas.Bool.{false≢true, and_parts, or_cases, or_left, or_right}
use Rattle.std.proofs.lemmas.Cmp.{tied_itself}
use Rattle.std.specs.Ordering.{is_eq}
use Rattle.std.specs.List.{AllByRecursion}
use Rattle.base_values.specs.KeyOrder.{compare_keys}
use Rattle.base_values.proofs.Orders.{keys_total, tied_keys}
use Rattle.base_values.specs.declared.gho_schema.schema.Index.{Index}
use Rattle.base_values.specs.GhoSchema.Rows.{key_of, has_key, with_row}
use Rattle.base_values.specs.GhoSchema.Tables.{Apart, clash, no_null}
use Rattle.table_store.specs.RowLists.{is_at, without_key}
use Rattle.table_store.proofs.RowLaws.{key_is, put_other, others_stay}
use Rattle.table_store.proofs.Orders.{is_Equal}
use Rattle.proof_journals.proofs.Ghost.Relation.Tests.{true_false}
use Rattle.proof_journals.specs.Ghost.Rows.Moments.{Row, put_in}
use Rattle.proof_journals.specs.Ghost.Rows.Views.{is_key}

-- rows that clash do so both ways
one_turned : (a b : Row) → (is_eq (compare_keys a b) && no_null a) ≡ true → (is_eq (compare_keys b a) && no_null b) ≡ true
one_turned a b clashes =
    let parts = and_parts (is_eq (compare_keys a b)) (no_null a) clashes in
    let are : a ≡ b = tied_keys a b (is_Equal (compare_keys a b) parts.0) in
    subst (λ k. (is_eq (compare_keys k a) && no_null k) ≡ true) are (rw (tied_itself keys_total a) parts.1)

pub clash_turned : (uniques : List Index) (row other : Row) → clash uniques row other ≡ true → clash uniques other row ≡ true
clash_turned [] row other clashes = absurd (false≢true clashes)
clash_turned (index ∷ uniques) row other clashes =
    elim (or_cases (is_eq (compare_keys (key_of index.places row) (key_of index.places other)) && no_null (key_of index.places row)) (clash uniques row other) clashes) [
      | inl here ↦ or_left (is_eq (compare_keys (key_of index.places other) (key_of index.places row)) && no_null (key_of index.places other)) (clash uniques other row) (one_turned (key_of index.places row) (key_of index.places other) here)
      | inr there ↦ or_right (is_eq (compare_keys (key_of index.places other) (key_of index.places row)) && no_null (key_of index.places other)) (clash uniques other row) (clash_turned uniques row other there)
    ]

-- what is found passes what all pass
found_here : {X : Type 0} (P : X → Type 0) (y x : X) (rest : Option X) (b : Bool) → P y → (rest ≡ Some x → P x) → cond b (Some y) rest ≡ Some x → P x
found_here P y x rest true first others is = subst P (let one : y ≡ x = cc in one) first
found_here P y x rest false first others is = others is

pub found_in : {X : Type 0} (test : X → Bool) (P : X → Type 0) (xs : List X) (x : X) → AllByRecursion P xs → find test xs ≡ Some x → P x
found_in test P [] x all is = absurd cc
found_in test P (y ∷ xs) x all is = found_here P y x (find test xs) (test y) all.0 (found_in test P xs x all.1) is

-- and the test
passes_here : {X : Type 0} (test : X → Bool) (y x : X) (rest : Option X) (b : Bool) → test y ≡ b → (rest ≡ Some x → test x ≡ true) → cond b (Some y) rest ≡ Some x → test x ≡ true
passes_here test y x rest true at others is = subst (λ z. test z ≡ true) (let one : y ≡ x = cc in one) at
passes_here test y x rest false at others is = others is

pub found_at : {X : Type 0} (test : X → Bool) (xs : List X) (x : X) → find test xs ≡ Some x → test x ≡ true
found_at test [] x is = absurd cc
found_at test (y ∷ xs) x is = passes_here test y x (find test xs) (test y) refl (found_at test xs x) is

-- Rows found by two keys of rows that don't clash are not two.
apart_here : (uniques : List Index) (places : List ℕ) (key other row a b : Row) (rows : List Row) (k o : Bool) → is_at places key row ≡ k → is_at places other row ≡ o → AllByRecursion (λ more. clash uniques row more ≡ false) rows
    → cond k (Some row) (find (is_at places key) rows) ≡ Some a → cond o (Some row) (find (is_at places other) rows) ≡ Some b → clash uniques a b ≡ true
    → (find (is_at places key) rows ≡ Some a → find (is_at places other) rows ≡ Some b → key ≡ other) → key ≡ other
apart_here uniques places key other row a b rows true true here too none is it clashes others = key_is places key row here ∙ sym (key_is places other row too)
apart_here uniques places key other row a b rows true false here too none is it clashes others =
    let same : row ≡ a = cc in
    true_false (clash uniques row b) (subst (λ r. clash uniques r b ≡ true) (sym same) clashes) (found_in (is_at places other) (λ more. clash uniques row more ≡ false) rows b none it)
apart_here uniques places key other row a b rows false true here too none is it clashes others =
    let same : row ≡ b = cc in
    true_false (clash uniques row a) (clash_turned uniques a row (subst (λ r. clash uniques a r ≡ true) (sym same) clashes)) (found_in (is_at places key) (λ more. clash uniques row more ≡ false) rows a none is)
apart_here uniques places key other row a b rows false false here too none is it clashes others = others is it

pub apart_found : (uniques : List Index) (places : List ℕ) (key other a b : Row) (rows : List Row) → Apart uniques rows → find (is_at places key) rows ≡ Some a → find (is_at places other) rows ≡ Some b → clash uniques a b ≡ true → key ≡ other
apart_found uniques places key other a b [] apart is it clashes = absurd cc
apart_found uniques places key other a b (row ∷ rows) apart is it clashes =
    apart_here uniques places key other row a b rows (is_at places key row) (is_at places other row) refl refl apart.0 is it clashes (λ front back. apart_found uniques places key other a b rows apart.1 front back clashes)

-- a put leaves what other keys find
put_by : (places : List ℕ) (key row : Row) (rows : List Row) (b : Bool) → find (is_at places key) (with_row places row rows) ≡ find (is_at places key) rows → find (is_at places key) (unwrap_or (cond b None (Some (with_row places row rows))) rows) ≡ find (is_at places key) rows
put_by places key row rows true same = refl
put_by places key row rows false same = same

pub put_elsewhere : (places : List ℕ) (key row : Row) (rows : List Row) → is_at places key row ≡ false → find (is_at places key) (put_in places row rows) ≡ find (is_at places key) rows
put_elsewhere places key row rows not_at = put_by places key row rows (has_key places rows (key_of places row)) (put_other places key row rows not_at)

-- a removal leaves what other keys find
pub removed_elsewhere : (places : List ℕ) (key row : Row) (rows : List Row) → is_at places key row ≡ false → find (is_at places key) (without_key places (key_of places row) rows) ≡ find (is_at places key) rows
removed_elsewhere places key row rows not_at = others_stay places key (key_of places row) rows not_at

-- two keys are one, or not
decided_by : (a b : Row) (t : Bool) → is_eq (compare_keys a b) ≡ t → (a ≡ b) ⊎ (a ≡ b → ⊥)
decided_by a b true tie = inl (tied_keys a b (is_Equal (compare_keys a b) tie))
decided_by a b false tie = inr (λ same. true_false (is_eq (compare_keys a b)) (ap is_eq (subst (λ k. compare_keys a k ≡ Equal) same (tied_itself keys_total a))) tie)

pub same_is : (a b : Row) → a ≡ b → is_key a b ≡ true
same_is a b same = subst (λ k. is_key a k ≡ true) same (ap is_eq (tied_itself keys_total a))

pub is_same : (a b : Row) → is_key a b ≡ true → a ≡ b
is_same a b is = tied_keys a b (is_Equal (compare_keys a b) is)

pub keys_decided : (a b : Row) → (a ≡ b) ⊎ (a ≡ b → ⊥)
keys_decided a b = decided_by a b (is_eq (compare_keys a b)) refl
