-- Making a row's image value by value, as a loop does.
use Rattle.std.proofs.Common.{◌≡◌, ℕ, ◌+◌, ◌<◌, ◌≤◌, List, [], ◌∷◌, ◌++◌, length, drop, get_or, Result, Ok, Err, refl, sym, ap, ◌∙◌, append_assoc}
use Rattle.std.proofs.lemmas.List.{append-nil, drop_all}
use Rattle.base_values.specs.declared.value.Value.{Value}
use Rattle.base_values.specs.StoredValues.{stores}
use Rattle.base_values.proofs.GhoSchema.Loops.{from_here}
use Rattle.base_values.specs.declared.row_conversion.map.MapColumn.{MapColumn}
use Rattle.base_values.specs.declared.row_conversion.conversion_fault.UnfitAt.{UnfitAt}
use Rattle.base_values.specs.declared.fault.Fault.{Fault}
use Rattle.base_values.specs.declared.fault.Fault.TheVariants as faults
use Rattle.base_values.specs.Faults.{Refuses}
use Rattle.base_values.specs.RowConversion.ConvertedRows.{source, before, converted_row_from, Fits}

-- the values so far, and those that are still made
abbrev pub with_front : List Value → Result (List Value) UnfitAt → Result (List Value) UnfitAt
with_front front (Ok values) = Ok (front ++ values)
with_front front (Err unfit) = Err unfit

regroup : (front : List Value) (v : Value) (others : Result (List Value) UnfitAt) → with_front front (before v others) ≡ with_front (front ++ v ∷ []) others
regroup front v (Ok values) = ap (λ (vs : List Value). Ok vs) (simp append_assoc)
regroup front v (Err unfit) = refl

pub goes_on : (front : List Value) (map : List MapColumn) (i column : ℕ) (new : MapColumn) (row : List Value) (v : Value) (total : Result (List Value) UnfitAt)
    → i < length map → new ≡ get_or map i new → stores (source new.origin row) new.kind new.nullable ≡ Ok v
    → with_front front (converted_row_from column (drop i map) row) ≡ total → with_front (front ++ v ∷ []) (converted_row_from (column + 1) (drop (i + 1) map) row) ≡ total
unfolding converted_row_from
goes_on front map i column new row v total lt is h so_far =
    let one : with_front front (converted_row_from column (drop i map) row) ≡ with_front (front ++ v ∷ []) (converted_row_from (column + 1) (drop (i + 1) map) row) = rw (from_here map i new lt is, h) (regroup front v (converted_row_from (column + 1) (drop (i + 1) map) row)) in
    sym one ∙ so_far

pub fails : (e : Fault UnfitAt) (front : List Value) (map : List MapColumn) (i column : ℕ) (new : MapColumn) (row : List Value) (total : Result (List Value) UnfitAt)
    → i < length map → new ≡ get_or map i new → Fits column (Err e) (stores (source new.origin row) new.kind new.nullable)
    → with_front front (converted_row_from column (drop i map) row) ≡ total → Refuses e total
unfolding converted_row_from
fails faults.Memory front map i column new row total lt is h so_far = tt
fails (faults.Refused unfit) front map i column new row total lt is h so_far =
    let at : record { column = column; unfit = unfit.unfit } ≡ unfit = ap (λ (k : ℕ). record { column = k; unfit = unfit.unfit }) (sym h.1) in
    let one : with_front front (converted_row_from column (drop i map) row) ≡ Err unfit = rw (from_here map i new lt is, h.0) (ap (λ (u : UnfitAt). Err u) at) in
    sym so_far ∙ one

pub is_full : (front : List Value) (map : List MapColumn) (i column : ℕ) (row : List Value) (total : Result (List Value) UnfitAt) → length map ≤ i
    → with_front front (converted_row_from column (drop i map) row) ≡ total → total ≡ Ok front
unfolding converted_row_from
is_full front map i column row total le so_far =
    let one : with_front front (converted_row_from column (drop i map) row) ≡ Ok front = rw (drop_all i map le) (ap (λ (vs : List Value). Ok vs) (append-nil front)) in
    sym so_far ∙ one
