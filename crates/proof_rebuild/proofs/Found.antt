-- The first unfit row of rows that are seen one after the other, and of the rows of two sets of shards.
use Rattle.std.proofs.Common.{◌≡◌, ℕ, ◌+◌, nat_lt, ◌||◌, Bool, true, false, List, [], ◌∷◌, ◌++◌, length, map, cond, Option, Some, None, Result, Ok, Err, refl, sym, ap, ◌∙◌, arith}
use Rattle.base_values.specs.declared.row_conversion.map.MapColumn.{MapColumn}
use Rattle.base_values.specs.declared.row_conversion.conversion_fault.UnfitAt.{UnfitAt}
use Rattle.base_values.specs.RowConversion.ConvertedRows.{converted_row}
use Rattle.table_store.proofs.Orders.{Row}
use Rattle.proof_rebuild.specs.Shards.{UnfitRow, earlier, first_unfit, shard_sees, unfit_at}
use Rattle.proof_rebuild.proofs.Unfit.{IsFrom, found_from, at_first, at_last, sees_here, fits_here}

fits_so_far : (place : ℕ) (m : Result Row UnfitAt) (later : Option UnfitRow) → unfit_at place m later ≡ None → (later ≡ None) × ((other : Option UnfitRow) → unfit_at place m other ≡ other)
fits_so_far place (Ok made) later none = (none, λ other. refl)
fits_so_far place (Err at) later none = absurd cc

-- after rows that all have converted rows, the first is the first of the others
pub none_before : (map : List MapColumn) (place : ℕ) (seen more : List (Option Row)) → first_unfit map place seen ≡ None → first_unfit map place (seen ++ more) ≡ first_unfit map (place + length seen) more
unfolding first_unfit
none_before map place [] more none = ap (λ (n : ℕ). first_unfit map n more) (omega arith)
none_before map place (None ∷ seen) more none = none_before map (place + 1) seen more none ∙ ap (λ (n : ℕ). first_unfit map n more) (omega arith)
none_before map place (Some row ∷ seen) more none =
    let fits = fits_so_far place (converted_row map row) (first_unfit map (place + 1) seen) none in
    fits.1 (first_unfit map (place + 1) (seen ++ more)) ∙ none_before map (place + 1) seen more fits.0 ∙ ap (λ (n : ℕ). first_unfit map n more) (omega arith)

still_found : (place : ℕ) (m : Result Row UnfitAt) (later other : Option UnfitRow) (found : UnfitRow) → unfit_at place m later ≡ Some found → (later ≡ Some found → other ≡ Some found) → unfit_at place m other ≡ Some found
still_found place (Ok made) later other found is then = then is
still_found place (Err at) later other found is then = is

-- what is found among the first rows is the first of all
pub found_before : (map : List MapColumn) (place : ℕ) (seen more : List (Option Row)) (found : UnfitRow) → first_unfit map place seen ≡ Some found → first_unfit map place (seen ++ more) ≡ Some found
unfolding first_unfit
found_before map place [] more found is = absurd cc
found_before map place (None ∷ seen) more found is = found_before map (place + 1) seen more found is
found_before map place (Some row ∷ seen) more found is =
    let others : first_unfit map (place + 1) seen ≡ Some found → first_unfit map (place + 1) (seen ++ more) ≡ Some found = λ later. found_before map (place + 1) seen more found later in
    still_found place (converted_row map row) (first_unfit map (place + 1) seen) (first_unfit map (place + 1) (seen ++ more)) found is others

either : (b : Bool) (row : UnfitRow) → Some row ≡ cond b (Some row) (Some row)
either true row = refl
either false row = refl

unfit_here : (row : UnfitRow) (one other : Option UnfitRow) (b c : Bool) → IsFrom (row.place + 1) one → IsFrom (row.place + 1) other → cond (b || c) (Some row) (earlier one other) ≡ earlier (cond b (Some row) one) (cond c (Some row) other)
unfit_here row one other true true from too = either (nat_lt row.place row.place) row
unfit_here row one other true false from too = sym (at_first row other too)
unfit_here row one other false true from too = sym (at_last row one from)
unfit_here row one other false false from too = refl

both_here : (p q : Row → Bool) (map : List MapColumn) (place : ℕ) (row : Row) (seen : List (Option Row)) (m : Result Row UnfitAt) → converted_row map row ≡ m
    → first_unfit map (place + 1) (shard_sees (λ row. p row || q row) seen) ≡ earlier (first_unfit map (place + 1) (shard_sees p seen)) (first_unfit map (place + 1) (shard_sees q seen))
    → first_unfit map place (cond (p row || q row) (Some row) None ∷ shard_sees (λ row. p row || q row) seen)
    ≡ earlier (first_unfit map place (cond (p row) (Some row) None ∷ shard_sees p seen)) (first_unfit map place (cond (q row) (Some row) None ∷ shard_sees q seen))
both_here p q map place row seen (Ok made) is rest =
    fits_here map place row made (shard_sees (λ row. p row || q row) seen) (p row || q row) is ∙ rest
    ∙ ap (λ (found : Option UnfitRow). earlier found (first_unfit map (place + 1) (shard_sees q seen))) (sym (fits_here map place row made (shard_sees p seen) (p row) is))
    ∙ ap (earlier (first_unfit map place (cond (p row) (Some row) None ∷ shard_sees p seen))) (sym (fits_here map place row made (shard_sees q seen) (q row) is))
both_here p q map place row seen (Err at) is rest =
    let found : UnfitRow = record { place = place; at = at } in
    sees_here map place row at (shard_sees (λ row. p row || q row) seen) (p row || q row) is
    ∙ ap (λ (later : Option UnfitRow). cond (p row || q row) (Some found) later) rest
    ∙ unfit_here found (first_unfit map (place + 1) (shard_sees p seen)) (first_unfit map (place + 1) (shard_sees q seen)) (p row) (q row) (found_from map (place + 1) (shard_sees p seen)) (found_from map (place + 1) (shard_sees q seen))
    ∙ ap (λ (one : Option UnfitRow). earlier one (cond (q row) (Some found) (first_unfit map (place + 1) (shard_sees q seen)))) (sym (sees_here map place row at (shard_sees p seen) (p row) is))
    ∙ ap (earlier (first_unfit map place (cond (p row) (Some row) None ∷ shard_sees p seen))) (sym (sees_here map place row at (shard_sees q seen) (q row) is))

-- what two sets of shards find
pub both_find : (p q : Row → Bool) (map : List MapColumn) (place : ℕ) (seen : List (Option Row)) → first_unfit map place (shard_sees (λ row. p row || q row) seen) ≡ earlier (first_unfit map place (shard_sees p seen)) (first_unfit map place (shard_sees q seen))
unfolding first_unfit
both_find p q map place [] = refl
both_find p q map place (None ∷ seen) = both_find p q map (place + 1) seen
both_find p q map place (Some row ∷ seen) = both_here p q map place row seen (converted_row map row) refl (both_find p q map (place + 1) seen)

-- tests that say the same see the same
alike_here : (row : Row) (b c : Bool) (one other : List (Option Row)) → b ≡ c → one ≡ other → cond b (Some row) None ∷ one ≡ cond c (Some row) None ∷ other
alike_here row b c one other same rest = ap (λ (d : Bool). cond d (Some row) None ∷ one) same ∙ ap (λ (rows : List (Option Row)). cond c (Some row) None ∷ rows) rest

pub sees_alike : (p q : Row → Bool) (seen : List (Option Row)) → ((row : Row) → p row ≡ q row) → shard_sees p seen ≡ shard_sees q seen
sees_alike p q [] same = refl
sees_alike p q (None ∷ seen) same = ap (λ (rows : List (Option Row)). None ∷ rows) (sees_alike p q seen same)
sees_alike p q (Some row ∷ seen) same = alike_here row (p row) (q row) (shard_sees p seen) (shard_sees q seen) (same row) (sees_alike p q seen same)

pub sees_all : (p : Row → Bool) (seen : List (Option Row)) → ((row : Row) → p row ≡ true) → shard_sees p seen ≡ seen
sees_all p [] all = refl
sees_all p (None ∷ seen) all = ap (λ (rows : List (Option Row)). None ∷ rows) (sees_all p seen all)
sees_all p (Some row ∷ seen) all = alike_here row (p row) true (shard_sees p seen) seen (all row) (sees_all p seen all)
