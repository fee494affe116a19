-- The first unfit row, as a loop over the rows that are seen finds it.
use Rattle.std.proofs.Common.{◌≡◌, ◌<◌, ℕ, ◌+◌, length, map, drop, get_or, Bool, true, false, List, [], ◌∷◌, cond, Option, Some, None, Result, Ok, Err, refl, sym, ap, ◌∙◌}
use Rattle.base_values.specs.declared.fault.Fault.{Fault}
use Rattle.base_values.specs.declared.fault.Fault.TheVariants.{Refused, Memory}
use Rattle.base_values.specs.declared.row_conversion.map.MapColumn.{MapColumn}
use Rattle.base_values.specs.declared.row_conversion.conversion_fault.UnfitAt.{UnfitAt}
use Rattle.base_values.specs.RowConversion.ConvertedRows.{converted_row}
use Rattle.base_values.specs.declared.event.RowEvent.{RowEvent}
use Rattle.base_values.proofs.GhoSchema.Loops.{from_here}
use Rattle.table_store.proofs.Orders.{Row}
use Rattle.proof_rebuild.specs.Shards.{UnfitRow, first_unfit, only, row_after, shard_sees, unfit_at}
use Rattle.proof_rebuild.proofs.Found.{found_before, none_before}
use Rattle.run_rebuild.specs.declared.fault.UnfitRow.{UnfitRow as FoundRow}
use Rattle.run_rebuild.specs.Rebuilds.{Finds, IsConvertedAs, changes_of}

-- it is among the rows that are left
pub still_left : (within : Row → Bool) (columns : List MapColumn) (place : ℕ) (seen : Option Row) (rest : List (Option Row)) (found : Option UnfitRow) → first_unfit columns place (only within seen ∷ []) ≡ None
    → first_unfit columns place (shard_sees within (seen ∷ rest)) ≡ found → first_unfit columns (place + 1) (shard_sees within rest) ≡ found
still_left within columns place seen rest found none is = sym (none_before columns place (only within seen ∷ []) (shard_sees within rest) none) ∙ is

-- it is this one, or there is no memory
pub is_found : (within : Row → Bool) (columns : List MapColumn) (place : ℕ) (seen : Option Row) (rest : List (Option Row)) (found : Option UnfitRow) (fault : Fault FoundRow) → Finds {A = Unit {0}} (Err fault) (first_unfit columns place (only within seen ∷ []))
    → first_unfit columns place (shard_sees within (seen ∷ rest)) ≡ found → Finds {A = Unit {0}} (Err fault) found
is_found within columns place seen rest found Memory here is = tt
is_found within columns place seen rest found (Refused row) here is =
    sym is ∙ found_before columns place (only within seen ∷ []) (shard_sees within rest) (record { place = row.place; at = row.at }) here

-- a row of another shard isn't seen
pub not_own : (within : Row → Bool) (columns : List MapColumn) (place : ℕ) (row : Row) → within row ≡ false → first_unfit columns place (only within (Some row) ∷ []) ≡ None
unfolding first_unfit
not_own within columns place row own = rw own refl

pub none_seen : (columns : List MapColumn) (place : ℕ) → first_unfit columns place (None ∷ []) ≡ None
unfolding first_unfit
none_seen columns place = refl

fits_here : (b : Bool) (columns : List MapColumn) (place : ℕ) (row made : Row) → converted_row columns row ≡ Ok made → first_unfit columns place (cond b (Some row) None ∷ []) ≡ None
unfolding first_unfit
fits_here true columns place row made is = ap (λ (m : Result Row UnfitAt). unfit_at place m None) is
fits_here false columns place row made is = refl

-- a row that has a converted row
pub is_converted : (within : Row → Bool) (columns : List MapColumn) (place : ℕ) (row made : Row) → converted_row columns row ≡ Ok made → first_unfit columns place (only within (Some row) ∷ []) ≡ None
is_converted within columns place row made is = fits_here (within row) columns place row made is

-- a row that has none
pub is_unfit : (within : Row → Bool) (columns : List MapColumn) (place : ℕ) (row : Row) (fault : Fault FoundRow) → within row ≡ true → IsConvertedAs columns row place (Err fault) → Finds {A = Unit {0}} (Err fault) (first_unfit columns place (only within (Some row) ∷ []))
unfolding first_unfit
is_unfit within columns place row Memory own is = tt
is_unfit within columns place row (Refused found) own is =
    rw own (ap (λ (m : Result Row UnfitAt). unfit_at place m None) is.0 ∙ ap (λ (n : ℕ). Some (record { place = n; at = found.at })) (sym is.1))

-- the same, of what a loop over rows has left
pub row_left : (within : Row → Bool) (columns : List MapColumn) (i : ℕ) (rows : List Row) (row : Row) → i < length rows → row ≡ get_or rows i row
    → shard_sees within (map (λ (row : Row). Some row) (drop i rows)) ≡ shard_sees within (Some row ∷ map (λ (row : Row). Some row) (drop (i + 1) rows))
row_left within columns i rows row less is = ap (λ (rows : List Row). shard_sees within (map (λ (row : Row). Some row) rows)) (from_here rows i row less is)

pub event_left : (within : Row → Bool) (i : ℕ) (events : List RowEvent) (event : RowEvent) → i < length events → event ≡ get_or events i event
    → shard_sees within (map row_after (changes_of (drop i events))) ≡ shard_sees within (row_after event.change ∷ map row_after (changes_of (drop (i + 1) events)))
event_left within i events event less is = ap (λ (es : List RowEvent). shard_sees within (map row_after (changes_of es))) (from_here events i event less is)

pub none_left_unfit : (columns : List MapColumn) (place : ℕ) → first_unfit columns place [] ≡ None
unfolding first_unfit
none_left_unfit columns place = refl
