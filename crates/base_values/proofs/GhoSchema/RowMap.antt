-- A map from keys to rows beside the rows in order of their keys.
use Rattle.std.proofs.Common.{◌≡◌, ℕ, Bool, true, false, ◌||◌, is_some, cond, List, [], ◌∷◌, Option, Some, Ordering, Less, Equal, Greater, refl, sym, ap, ◌∙◌}
use Rattle.std.proofs.lemmas.Bool.{or_parts, false≢true}
use Rattle.std.specs.Ordering.{is_eq, match_ordering}
use Rattle.std.specs.List.{list_any}
use Rattle.std.specs.Map.{lookup}
use Rattle.std.specs.BTreeMap.{is_at, insert_entry}
use Rattle.base_values.specs.declared.value.Value.{Value}
use Rattle.base_values.specs.KeyOrder.{compare_keys}
use Rattle.base_values.specs.GhoSchema.Rows.{key_of, has_key, with_row}
use Rattle.base_values.specs.GhoSchema.KeyedRows.{with_keys, rows_of}

found_or : (b : Bool) (row : List Value) (rest : Option (List Value)) (others : Bool) → is_some rest ≡ others → is_some (cond b (Some row) rest) ≡ (b || others)
found_or true row rest others e = refl
found_or false row rest others e = e

-- a key is in the map exactly where a row has it
pub is_some-lookup : (places : List ℕ) (rows : List (List Value)) (key : List Value) → is_some (lookup (is_at (compare_keys key)) (with_keys places rows)) ≡ has_key places rows key
unfolding has_key
is_some-lookup places [] key = refl
is_some-lookup places (row ∷ rows) key = found_or (is_eq (compare_keys key (key_of places row))) row _ _ (is_some-lookup places rows key)

placed : (o : Ordering) (places : List ℕ) (row first : List Value) (rows : List (List Value)) → is_eq o ≡ false
    → insert_entry compare_keys (with_keys places rows) (key_of places row) row ≡ with_keys places (with_row places row rows)
    → match_ordering o ((key_of places row, row) ∷ (key_of places first, first) ∷ with_keys places rows) ((key_of places first, row) ∷ with_keys places rows) ((key_of places first, first) ∷ insert_entry compare_keys (with_keys places rows) (key_of places row) row)
    ≡ with_keys places (match_ordering o (row ∷ first ∷ rows) (row ∷ first ∷ rows) (first ∷ with_row places row rows))
placed Less places row first rows other ih = refl
placed Equal places row first rows other ih = absurd (false≢true (sym other))
placed Greater places row first rows other ih = ap (λ (es : List (List Value × List Value)). (key_of places first, first) ∷ es) ih

-- a row whose key is new goes to the same place in the map and among the rows
pub insert_entry-with_row : (places : List ℕ) (row : List Value) (rows : List (List Value)) → has_key places rows (key_of places row) ≡ false
    → insert_entry compare_keys (with_keys places rows) (key_of places row) row ≡ with_keys places (with_row places row rows)
unfolding has_key with_row
insert_entry-with_row places row [] new = refl
insert_entry-with_row places row (first ∷ rows) new =
    let parts = or_parts (is_eq (compare_keys (key_of places row) (key_of places first))) (list_any (λ row'. is_eq (compare_keys (key_of places row) (key_of places row'))) rows) new in
    placed (compare_keys (key_of places row) (key_of places first)) places row first rows parts.0 (insert_entry-with_row places row rows parts.1)

pub rows_of-with_keys : (places : List ℕ) (rows : List (List Value)) → rows_of (with_keys places rows) ≡ rows
rows_of-with_keys places [] = refl
rows_of-with_keys places (row ∷ rows) = ap (λ (rs : List (List Value)). row ∷ rs) (rows_of-with_keys places rows)

-- whether the map has a row's key is whether a row has it
pub contains : (places : List ℕ) (entries : List (List Value × List Value)) (row key : List Value) (b : Bool) → entries ≡ with_keys places (rows_of entries) → key ≡ key_of places row
    → b ≡ is_some (lookup (is_at (compare_keys key)) entries) → has_key places (rows_of entries) (key_of places row) ≡ b
contains places entries row key b kept is found =
    let seen : is_some (lookup (is_at (compare_keys key)) (with_keys places (rows_of entries))) ≡ has_key places (rows_of entries) key = is_some-lookup places (rows_of entries) key in
    let there : is_some (lookup (is_at (compare_keys key)) entries) ≡ is_some (lookup (is_at (compare_keys key)) (with_keys places (rows_of entries))) = ap (λ (es : List (List Value × List Value)). is_some (lookup (is_at (compare_keys key)) es)) kept in
    ap (λ (k : List Value). has_key places (rows_of entries) k) (sym is) ∙ sym seen ∙ sym there ∙ sym found

-- what the map holds with one row more
pub inserted : (places : List ℕ) (entries new : List (List Value × List Value)) (row key : List Value) → entries ≡ with_keys places (rows_of entries) → key ≡ key_of places row
    → has_key places (rows_of entries) (key_of places row) ≡ false → new ≡ insert_entry compare_keys entries key row → new ≡ with_keys places (with_row places row (rows_of entries))
inserted places entries new row key kept is absent made =
    made ∙ ap (λ (es : List (List Value × List Value)). insert_entry compare_keys es key row) kept
    ∙ ap (λ (k : List Value). insert_entry compare_keys (with_keys places (rows_of entries)) k row) is
    ∙ insert_entry-with_row places row (rows_of entries) absent

-- the map still holds each row under its key
pub still_kept : (places : List ℕ) (new : List (List Value × List Value)) (rows : List (List Value)) → new ≡ with_keys places rows → new ≡ with_keys places (rows_of new)
still_kept places new rows is = is ∙ ap (with_keys places) (sym (rows_of-with_keys places rows) ∙ ap rows_of (sym is))

pub rows_are : (places : List ℕ) (new : List (List Value × List Value)) (rows : List (List Value)) → new ≡ with_keys places rows → rows_of new ≡ rows
rows_are places new rows is = ap rows_of is ∙ rows_of-with_keys places rows
