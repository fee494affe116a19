-- Two sets of shards put together.
use Rattle.std.proofs.Common.{◌≡◌, ℕ, Bool, true, false, ◌||◌, List, [], ◌∷◌, find, filter, cond, Less, Some, None, refl, sym, ap, ◌∙◌, subst}
use Rattle.std.proofs.lemmas.Bool.{false_from_ne_true, true≢false}
use Rattle.std.specs.Ordering.{is_eq, ordering_reverse}
use Rattle.std.specs.List.{AllByRecursion}
use Rattle.base_values.specs.declared.row_conversion.map.MapColumn.{MapColumn}
use Rattle.base_values.specs.RowConversion.ConvertedRows.{converted_row, converted_rows}
use Rattle.base_values.specs.KeyOrder.{compare_keys}
use Rattle.base_values.specs.GhoSchema.Rows.{key_of, with_row}
use Rattle.base_values.specs.GhoSchema.Tables.{Ascends}
use Rattle.table_store.specs.RowLists.{is_at}
use Rattle.table_store.proofs.Orders.{Row}
use Rattle.table_store.proofs.Ascending.{all-filter}
use Rattle.table_store.proofs.RowLaws.{key_is, put_other}
use Rattle.server_seen.specs.FittingChanges.{IsNewAmong}
use Rattle.proof_rebuild.specs.Shards.{KeepsKey, with_rows}
use Rattle.proof_rebuild.proofs.Conversions.{converted-find, converted-with_rows}
use Rattle.proof_rebuild.proofs.Converting.{IsConverted, converted_parts}
use Rattle.base_values.proofs.Orders.{keys_total}
use Rattle.table_store.proofs.FoundRows.{none_to_remove}
use Rattle.proof_rebuild.proofs.Joining.{merge}
use Rattle.run_rebuild.specs.Steps.{replaced, replaced_all}
use Rattle.base_values.proofs.SchemaRules.Steps.{some_is}

-- rows that come after a row are still new once it is put
pub still_new : (places : List ℕ) (row : Row) (rest rows : List Row) → AllByRecursion (λ other. compare_keys (key_of places row) (key_of places other) ≡ Less) rest → AllByRecursion (IsNewAmong places rows) rest
    → AllByRecursion (IsNewAmong places (with_row places row rows)) rest
still_new places row [] rows less new = tt
still_new places row (other ∷ rest) rows less new =
    let apart : is_at places (key_of places other) row ≡ false = ap is_eq (keys_total.antisymm (key_of places other) (key_of places row) ∙ ap ordering_reverse less.0) in
    (put_other places (key_of places other) row rows apart ∙ new.0, still_new places row rest rows less.1 new.1)

none_here : (test : Row → Bool) (row : Row) (rows : List Row) → test row ≡ false → find test rows ≡ None → find test (row ∷ rows) ≡ None
none_here test row rows fails none = rw fails none

module _ (old new : List ℕ) (map : List MapColumn) (p q : Row → Bool) (apart : (key : Row) → p key ≡ true → q key ≡ false) where
  other_key : (key row : Row) (rows : List Row) (b : Bool) → q (key_of old row) ≡ b → p key ≡ true → find (is_at old key) rows ≡ None → find (is_at old key) (cond b (row ∷ rows) rows) ≡ None
  other_key key row rows true is own none =
      none_here (is_at old key) row rows (false_from_ne_true (is_at old key row) (λ at. true≢false (sym is ∙ ap q (sym (key_is old key row at)) ∙ apart key own))) none
  other_key key row rows false is own none = none

  not_among : (key : Row) (rows : List Row) → p key ≡ true → find (is_at old key) (filter (λ row. q (key_of old row)) rows) ≡ None
  not_among key [] own = refl
  not_among key (row ∷ rows) own = other_key key row (filter (λ row. q (key_of old row)) rows) (q (key_of old row)) refl own (not_among key rows own)

  all_here : (row : Row) (rows others : List Row) (b : Bool) → p (key_of old row) ≡ b → AllByRecursion (IsNewAmong old (filter (λ row. q (key_of old row)) rows)) others
      → AllByRecursion (IsNewAmong old (filter (λ row. q (key_of old row)) rows)) (cond b (row ∷ others) others)
  all_here row rows others true own new_ones = (not_among (key_of old row) rows own, new_ones)
  all_here row rows others false own new_ones = new_ones

  -- rows of other shards have other keys
  all_new : (rows others : List Row) → AllByRecursion (IsNewAmong old (filter (λ row. q (key_of old row)) rows)) (filter (λ row. p (key_of old row)) others)
  all_new rows [] = tt
  all_new rows (row ∷ others) = all_here row rows (filter (λ row. p (key_of old row)) others) (p (key_of old row)) refl (all_new rows others)

  -- and so have their converted rows
  converted_new : (rows into made put : List Row) → AllByRecursion (KeepsKey old new map) rows → AllByRecursion (KeepsKey old new map) into → converted_rows map rows ≡ Some made → converted_rows map into ≡ Some put
      → AllByRecursion (IsNewAmong old into) rows → AllByRecursion (IsNewAmong new put) made
  unfolding converted_rows
  converted_new [] into made put all too is then new_ones = subst (AllByRecursion (IsNewAmong new put)) (some_is [] made is) tt
  converted_new (row ∷ rows) into made put all too is then new_ones =
      let parts : IsConverted (converted_row map row) (converted_rows map rows) made = converted_parts (converted_row map row) (converted_rows map rows) made is in
      let here : IsNewAmong new put parts.first = ap (λ (key : Row). find (is_at new key) put) (all.0 parts.first parts.one_is) ∙ converted-find old new map (key_of old row) into put too then new_ones.0 in
      subst (AllByRecursion (IsNewAmong new put)) (sym parts.made_is) (here, converted_new rows into parts.others put all.1 too parts.rest_is then new_ones.1)

  pub union_new : (rows made put : List Row) → AllByRecursion (KeepsKey old new map) rows → converted_rows map (filter (λ row. p (key_of old row)) rows) ≡ Some made → converted_rows map (filter (λ row. q (key_of old row)) rows) ≡ Some put
      → AllByRecursion (IsNewAmong new put) made
  union_new rows made put all is then =
      let one : AllByRecursion (KeepsKey old new map) (filter (λ row. p (key_of old row)) rows) = all-filter (KeepsKey old new map) (λ row. p (key_of old row)) rows all in
      let other : AllByRecursion (KeepsKey old new map) (filter (λ row. q (key_of old row)) rows) = all-filter (KeepsKey old new map) (λ row. q (key_of old row)) rows all in
      converted_new (filter (λ row. p (key_of old row)) rows) (filter (λ row. q (key_of old row)) rows) made put one other is then (all_new rows rows)

  -- the converted rows of both
  pub union_is : (rows made put : List Row) → Ascends old rows → AllByRecursion (KeepsKey old new map) rows → converted_rows map (filter (λ row. p (key_of old row)) rows) ≡ Some made → converted_rows map (filter (λ row. q (key_of old row)) rows) ≡ Some put
      → converted_rows map (filter (λ row. p (key_of old row) || q (key_of old row)) rows) ≡ Some (with_rows new made put)
  union_is rows made put ascends all is then =
      let one : AllByRecursion (KeepsKey old new map) (filter (λ row. p (key_of old row)) rows) = all-filter (KeepsKey old new map) (λ row. p (key_of old row)) rows all in
      let other : AllByRecursion (KeepsKey old new map) (filter (λ row. q (key_of old row)) rows) = all-filter (KeepsKey old new map) (λ row. q (key_of old row)) rows all in
      ap (converted_rows map) (sym (merge (λ row. p (key_of old row)) (λ row. q (key_of old row)) old rows (λ row own. apart (key_of old row) own) ascends))
      ∙ converted-with_rows old new map (filter (λ row. p (key_of old row)) rows) (filter (λ row. q (key_of old row)) rows) made put one other is then

-- rows of new keys replace none
pub none_replaced : (places : List ℕ) (rows into : List Row) → Ascends places rows → AllByRecursion (IsNewAmong places into) rows → replaced_all places rows into ≡ with_rows places rows into
unfolding replaced_all with_rows
none_replaced places [] into ascends new = refl
none_replaced places (row ∷ rows) into ascends new =
    ap (λ (others : List Row). replaced_all places rows (with_row places row others)) (none_to_remove places (key_of places row) into new.0)
    ∙ none_replaced places rows (with_row places row into) ascends.1 (still_new places row rows into ascends.0 new.1)

-- one row of them
pub one_replaced : (places : List ℕ) (row : Row) (rows into : List Row) → replaced_all places rows (replaced places row into) ≡ replaced_all places (row ∷ rows) into
unfolding replaced_all
one_replaced places row rows into = refl

pub all_replaced : (places : List ℕ) (rows into : List Row) → rows ≡ [] → into ≡ replaced_all places rows into
unfolding replaced_all
all_replaced places rows into none = sym (ap (λ (rows : List Row). replaced_all places rows into) none)
