-- The first row that has no converted row is the first that the shards find.
use Rattle.std.proofs.Common.{◌≡◌, ◌<◌, ◌≤◌, ℕ, zero, suc, ◌+◌, ◌==◌, nat_lt, Bool, true, false, List, [], ◌∷◌, map, cond, Option, Some, None, Result, Ok, Err, refl, ap, ◌∙◌, arith}
use Rattle.std.proofs.lemmas.Bool.Decides.{nat_tests}
use Rattle.base_values.specs.declared.row_conversion.map.MapColumn.{MapColumn}
use Rattle.base_values.specs.declared.row_conversion.conversion_fault.UnfitAt.{UnfitAt}
use Rattle.base_values.specs.RowConversion.ConvertedRows.{converted_row}
use Rattle.table_store.proofs.Orders.{Row}
use Rattle.proof_rebuild.specs.Shards.{UnfitRow, earlier, earliest, first_unfit, shard_sees, unfit_at}
use Rattle.proof_rebuild.specs.Laws.{ShardsFindUnfit}

-- what is found isn't before this place
abbrev pub IsFrom : ℕ → Option UnfitRow → Type 0
IsFrom place None = Unit {0}
IsFrom place (Some row) = place ≤ row.place

from_later : (place : ℕ) (found : Option UnfitRow) → IsFrom (place + 1) found → IsFrom place found
from_later place None from = tt
from_later place (Some row) from = omega arith

unfit_from : (place : ℕ) (made : Result Row UnfitAt) (later : Option UnfitRow) → IsFrom place later → IsFrom place (unfit_at place made later)
unfit_from place (Ok made) later from = from
unfit_from place (Err at) later from = omega arith

pub found_from : (map : List MapColumn) (place : ℕ) (seen : List (Option Row)) → IsFrom place (first_unfit map place seen)
unfolding first_unfit
found_from map place [] = tt
found_from map place (None ∷ seen) = from_later place (first_unfit map (place + 1) seen) (found_from map (place + 1) seen)
found_from map place (Some row ∷ seen) = unfit_from place (converted_row map row) (first_unfit map (place + 1) seen) (from_later place (first_unfit map (place + 1) seen) (found_from map (place + 1) seen))

-- where all find alike, so does the first of them
earliest_alike : (one other : ℕ → Option UnfitRow) (count : ℕ) → ((shard : ℕ) → one shard ≡ other shard) → earliest one count ≡ earliest other count
unfolding earliest
earliest_alike one other zero same = refl
earliest_alike one other (suc count) same = ap (λ (found : Option UnfitRow). earlier found (earliest one count)) (same count) ∙ ap (earlier (other count)) (earliest_alike one other count same)

none_found : (count : ℕ) → earliest (λ shard. None) count ≡ None
unfolding earliest
none_found zero = refl
none_found (suc count) = none_found count

-- what is after a place comes after what is at it
pub at_first : (row : UnfitRow) (other : Option UnfitRow) → IsFrom (row.place + 1) other → earlier (Some row) other ≡ Some row
at_first row None from = refl
at_first row (Some other) from = let less : nat_lt row.place other.place ≡ true = grind (arith, nat_tests) in rw less refl

pub at_last : (row : UnfitRow) (other : Option UnfitRow) → IsFrom (row.place + 1) other → earlier other (Some row) ≡ Some row
at_last row None from = refl
at_last row (Some other) from = let less : nat_lt other.place row.place ≡ false = grind (arith, nat_tests) in rw less refl

earlier_from : (place : ℕ) (one other : Option UnfitRow) → IsFrom place one → IsFrom place other → IsFrom place (earlier one other)
earlier_from place None other from too = too
earlier_from place (Some one) None from too = from
earlier_from place (Some one) (Some other) from too = by (nat_lt one.place other.place) where
  by : (b : Bool) → IsFrom place (cond b (Some one) (Some other))
  by true = from
  by false = too

all_from : (place : ℕ) (found : ℕ → Option UnfitRow) (count : ℕ) → ((shard : ℕ) → IsFrom place (found shard)) → IsFrom place (earliest found count)
unfolding earliest
all_from place found zero from = tt
all_from place found (suc count) from = earlier_from place (found count) (earliest found count) (from count) (all_from place found count from)

-- the shard of the row finds it at this place, and the others what is after it
abbrev picked : ℕ → UnfitRow → (ℕ → Option UnfitRow) → ℕ → Option UnfitRow
picked home row later shard = cond (home == shard) (Some row) (later shard)

picked_here : (home shard : ℕ) (row : UnfitRow) (later : Option UnfitRow) (b : Bool) → (home == shard) ≡ b → IsFrom (row.place + 1) later → (home ≡ shard → ⊥) → cond b (Some row) later ≡ later
picked_here home shard row later true is from other = absurd (other (grind (arith, nat_tests)))
picked_here home shard row later false is from other = refl

not_picked : (home : ℕ) (row : UnfitRow) (later : ℕ → Option UnfitRow) (count : ℕ) → ((shard : ℕ) → IsFrom (row.place + 1) (later shard)) → count ≤ home → earliest (picked home row later) count ≡ earliest later count
unfolding earliest
not_picked home row later zero from less = refl
not_picked home row later (suc count) from less =
    ap (λ (found : Option UnfitRow). earlier found (earliest (picked home row later) count)) (picked_here home count row (later count) (home == count) refl (from count) (λ same. omega (arith, same)))
    ∙ ap (earlier (later count)) (not_picked home row later count from (omega arith))

pick_here : (home : ℕ) (row : UnfitRow) (later : ℕ → Option UnfitRow) (count : ℕ) (b : Bool) → (home == count) ≡ b → ((shard : ℕ) → IsFrom (row.place + 1) (later shard)) → home < suc count
    → (home < count → earliest (picked home row later) count ≡ Some row) → earlier (cond b (Some row) (later count)) (earliest (picked home row later) count) ≡ Some row
pick_here home row later count true is from less rest =
    ap (earlier (Some row)) (not_picked home row later count from (grind (arith, nat_tests))) ∙ at_first row (earliest later count) (all_from (row.place + 1) later count from)
pick_here home row later count false is from less rest = ap (earlier (later count)) (rest (grind (arith, nat_tests))) ∙ at_last row (later count) (from count)

pick : (home : ℕ) (row : UnfitRow) (later : ℕ → Option UnfitRow) (count : ℕ) → ((shard : ℕ) → IsFrom (row.place + 1) (later shard)) → home < count → earliest (picked home row later) count ≡ Some row
unfolding earliest
pick home row later zero from less = absurd (omega arith)
pick home row later (suc count) from less = pick_here home row later count (home == count) refl from less (λ lower. pick home row later count from lower)

-- what a shard finds where a row is seen that has no converted row
pub sees_here : (map : List MapColumn) (place : ℕ) (row : Row) (at : UnfitAt) (rest : List (Option Row)) (b : Bool) → converted_row map row ≡ Err at
    → first_unfit map place (cond b (Some row) None ∷ rest) ≡ cond b (Some (record { place = place; at = at })) (first_unfit map (place + 1) rest)
unfolding first_unfit
sees_here map place row at rest true unfit = ap (λ (made : Result Row UnfitAt). unfit_at place made (first_unfit map (place + 1) rest)) unfit
sees_here map place row at rest false unfit = refl

pub fits_here : (map : List MapColumn) (place : ℕ) (row made : Row) (rest : List (Option Row)) (b : Bool) → converted_row map row ≡ Ok made → first_unfit map place (cond b (Some row) None ∷ rest) ≡ first_unfit map (place + 1) rest
unfolding first_unfit
fits_here map place row made rest true fits = ap (λ (one : Result Row UnfitAt). unfit_at place one (first_unfit map (place + 1) rest)) fits
fits_here map place row made rest false fits = refl

found_here : (home : Row → ℕ) (map : List MapColumn) (count place : ℕ) (row : Row) (seen : List (Option Row)) → ((row : Row) → home row < count) → (made : Result Row UnfitAt) → converted_row map row ≡ made
    → earliest (λ shard. first_unfit map (place + 1) (shard_sees (λ other. home other == shard) seen)) count ≡ first_unfit map (place + 1) seen
    → earliest (λ shard. first_unfit map place (cond (home row == shard) (Some row) None ∷ shard_sees (λ other. home other == shard) seen)) count ≡ unfit_at place made (first_unfit map (place + 1) seen)
found_here home map count place row seen below (Ok made) fits rest =
    earliest_alike (λ shard. first_unfit map place (cond (home row == shard) (Some row) None ∷ shard_sees (λ other. home other == shard) seen)) (λ shard. first_unfit map (place + 1) (shard_sees (λ other. home other == shard) seen)) count
    (λ shard. fits_here map place row made (shard_sees (λ other. home other == shard) seen) (home row == shard) fits)
    ∙ rest
found_here home map count place row seen below (Err at) unfit rest =
    earliest_alike (λ shard. first_unfit map place (cond (home row == shard) (Some row) None ∷ shard_sees (λ other. home other == shard) seen))
    (picked (home row) (record { place = place; at = at }) (λ shard. first_unfit map (place + 1) (shard_sees (λ other. home other == shard) seen))) count
    (λ shard. sees_here map place row at (shard_sees (λ other. home other == shard) seen) (home row == shard) unfit)
    ∙ pick (home row) (record { place = place; at = at }) (λ shard. first_unfit map (place + 1) (shard_sees (λ other. home other == shard) seen)) count
    (λ shard. found_from map (place + 1) (shard_sees (λ other. home other == shard) seen)) (below row)

-- *Shards find the first unfit row*
pub shards_find_unfit : ShardsFindUnfit
unfolding first_unfit
shards_find_unfit home map count place [] below = none_found count
shards_find_unfit home map count place (None ∷ seen) below = shards_find_unfit home map count (place + 1) seen below
shards_find_unfit home map count place (Some row ∷ seen) below = found_here home map count place row seen below (converted_row map row) refl (shards_find_unfit home map count (place + 1) seen below)
