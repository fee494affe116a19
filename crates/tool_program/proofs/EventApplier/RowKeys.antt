-- Keys of rows, value by value.
use Rattle.std.proofs.Common.{◌≡◌, refl, ℕ, List, [], ◌∷◌, ◌++◌, Bool, true, ◌&&◌, Option, Some, None, ap, sym, ◌∙◌}
use Rattle.std.specs.Prelude.{option_to_list, unwrap_or}
use Rattle.std.specs.Cmp.{tied_then}
use Rattle.std.specs.List.{list_all, slice_get}
use Rattle.std.specs.Option.{option_map}
use Rattle.std.specs.Ordering.{is_eq, ordering_then}
use Rattle.std.specs.declared.cmp.Ordering.{Ordering}
use Rattle.std.specs.declared.cmp.Ordering.TheVariants.{Less, Equal, Greater}
use Rattle.std.proofs.lemmas.Option.{slice_get-map}
use Rattle.base_values.specs.declared.value.Value.{Value}
use Rattle.base_values.specs.declared.value.Value.TheVariants.{Null}
use Rattle.base_values.specs.KeyOrder.{compare_values, compare_keys}
use Rattle.base_values.specs.GhoSchema.Rows.{key_of}
use Rattle.base_values.specs.declared.row_conversion.map.MapColumn.{MapColumn}
use Rattle.base_values.specs.RowConversion.ConvertedRows.{source}
use Rattle.tool_program.specs.EventApplier.Appliers.{given_values}

alone : (order : Ordering) → is_eq (ordering_then order Equal) ≡ is_eq order
alone Less = refl
alone Equal = refl
alone Greater = refl

-- a row's value at a place is what the column there gets
given_at : (columns : List MapColumn) (row : List Value) (place : ℕ) → slice_get (given_values columns row) place ≡ option_map (λ column. source column.origin row) (slice_get columns place)
given_at columns row place = slice_get-map (λ column. source column.origin row) columns place

-- two rows' keys at a place, and at the places behind it
front_equal : (column : Option MapColumn) (before after : MapColumn → Value) (xs ys : List Value) → is_eq (compare_keys (option_to_list (option_map before column) ++ xs) (option_to_list (option_map after column) ++ ys)) ≡ (is_eq (compare_keys (option_to_list (option_map before column)) (option_to_list (option_map after column))) && is_eq (compare_keys xs ys))
front_equal None before after xs ys = refl
front_equal (Some column) before after xs ys =
    sym (tied_then (compare_values (before column) (after column)) (compare_keys xs ys))
    ∙ ap (λ same. same && is_eq (compare_keys xs ys)) (sym (alone (compare_values (before column) (after column))))

-- the two rows' values at a place are equal
abbrev pub same_at : List MapColumn → List Value → List Value → ℕ → Bool
same_at columns before after place = is_eq (compare_keys (option_to_list (slice_get (given_values columns before) place)) (option_to_list (slice_get (given_values columns after) place)))

fronts : (columns : List MapColumn) (before after : List Value) (place : ℕ) (xs ys : List Value) → is_eq (compare_keys (option_to_list (slice_get (given_values columns before) place) ++ xs) (option_to_list (slice_get (given_values columns after) place) ++ ys)) ≡ (same_at columns before after place && is_eq (compare_keys xs ys))
fronts columns before after place xs ys =
    rw (given_at columns before place, given_at columns after place) (front_equal (slice_get columns place) (λ column. source column.origin before) (λ column. source column.origin after) xs ys)

-- the keys at these places are equal where each value is
pub keys_equal : (columns : List MapColumn) (before after : List Value) (places : List ℕ) → list_all (same_at columns before after) places ≡ is_eq (compare_keys (key_of places (given_values columns before)) (key_of places (given_values columns after)))
unfolding key_of
keys_equal columns before after [] = refl
keys_equal columns before after (place ∷ places) =
    ap (λ rest. same_at columns before after place && rest) (keys_equal columns before after places)
    ∙ sym (fronts columns before after place (key_of places (given_values columns before)) (key_of places (given_values columns after)))

pub same_some : (columns : List MapColumn) (place : ℕ) (before after : List Value) (column : MapColumn) → slice_get columns place ≡ Some column → same_at columns before after place ≡ is_eq (compare_values (source column.origin before) (source column.origin after))
same_some columns place before after column here =
    rw (given_at columns before place, given_at columns after place, here) (alone (compare_values (source column.origin before) (source column.origin after)))

pub same_none : (columns : List MapColumn) (place : ℕ) (before after : List Value) → slice_get columns place ≡ None → same_at columns before after place ≡ true
same_none columns place before after gone = rw (given_at columns before place, given_at columns after place, gone) refl

pub value_some : (columns : List MapColumn) (row : List Value) (place : ℕ) (column : MapColumn) → slice_get columns place ≡ Some column → unwrap_or (slice_get (given_values columns row) place) Null ≡ source column.origin row
value_some columns row place column here = rw (given_at columns row place, here) refl

pub value_none : (columns : List MapColumn) (row : List Value) (place : ℕ) → slice_get columns place ≡ None → unwrap_or (slice_get (given_values columns row) place) Null ≡ Null
value_none columns row place gone = rw (given_at columns row place, gone) refl

pub ruleset keys = (same_some, same_none, value_some, value_none)
