-- Whether an UPDATE changes a unique key is told alike by given values and by the old rows.
use Rattle.std.proofs.Common.{◌≡◌, ℕ, zero, suc, Bool, true, not, List, [], ◌∷◌, ◌++◌, map, unwrap_or, option_map, Option, Some, None, refl, sym, ap, ◌∙◌, ◌⊎◌, inl, inr}
use Rattle.std.proofs.lemmas.List.{append_assoc}
use Rattle.std.specs.Cmp.{both_ways}
use Rattle.std.specs.Prelude.{option_to_list}
use Rattle.std.specs.List.{AllByRecursion, list_any, slice_get}
use Rattle.std.specs.Ordering.{is_eq}
use Rattle.std.proofs.lemmas.Cmp.{tied_itself}
use Rattle.base_values.specs.declared.value.Value.{Value}
use Rattle.base_values.specs.declared.value.Value.TheVariants.{Null}
use Rattle.base_values.specs.KeyOrder.{compare_keys}
use Rattle.base_values.proofs.Orders.{keys_total, tied_keys}
use Rattle.base_values.specs.declared.gho_schema.schema.Index.{Index}
use Rattle.base_values.specs.GhoSchema.Rows.{key_of}
use Rattle.base_values.specs.declared.row_conversion.map.MapColumn.{MapColumn}
use Rattle.base_values.specs.declared.row_conversion.map.Origin.{Origin}
use Rattle.base_values.specs.declared.row_conversion.map.Origin.TheVariants.{Old, Added}
use Rattle.base_values.specs.RowConversion.ConvertedRows.{source}
use Rattle.table_store.proofs.Orders.{Row, is_Equal}
use Rattle.proof_journals.proofs.Ghost.Texts.{given}
use Rattle.proof_journals.specs.Ghost.Rows.Timelines.{changes_key, kept_keys, old_place, old_places}

-- the values given for the columns at these places
abbrev pub values_at : List Value → List ℕ → List Value
values_at values places = map (λ place. unwrap_or (slice_get values place) Null) places

-- some given value differs in a unique key: the tool's test
unfoldable pub changes_given : List MapColumn → List Index → Row → Row → Bool
changes_given cs uniques before after = list_any (λ index. not (is_eq (compare_keys (values_at (given cs before) index.places) (values_at (given cs after) index.places)))) uniques

-- the row has a value where a column stood before
abbrev pub HasValue : Row → Origin → Type 0
HasValue row (Old place) = (value : Value) × (slice_get row place ≡ Some value)
HasValue row (Added value) = Unit {0}

abbrev pub HasOld : Row → Option MapColumn → Type 0
HasOld row None = Unit {0}
HasOld row (Some column) = HasValue row column.origin

given_at : (cs : List MapColumn) (row : Row) (place : ℕ) → slice_get (given cs row) place ≡ option_map (λ (c : MapColumn). source c.origin row) (slice_get cs place)
given_at [] row place = refl
given_at (c ∷ cs) row zero = refl
given_at (c ∷ cs) row (suc place) = given_at cs row place

-- the values of one column in both rows, and what the old rows have for it: nothing, and one value; or just these
abbrev pub Heads : Value → Value → List Value → List Value → Type 0
Heads x y olds news = ((olds ≡ []) × (news ≡ []) × (x ≡ y)) ⊎ ((olds ≡ x ∷ []) × (news ≡ y ∷ []))

heads_by : (before after : Row) (c : MapColumn) (o : Origin) → c.origin ≡ o → HasValue before o → HasValue after o → Heads (source c.origin before) (source c.origin after) (key_of (old_place (Some c)) before) (key_of (old_place (Some c)) after)
unfolding key_of
heads_by before after c (Added value) is one two = rw is (inl (refl, refl, refl))
heads_by before after c (Old q) is one two = rw (is, one.1, two.1) (inr (refl, refl))

heads_at : (before after : Row) (found : Option MapColumn) → HasOld before found → HasOld after found
    → Heads (unwrap_or (option_map (λ (c : MapColumn). source c.origin before) found) Null) (unwrap_or (option_map (λ (c : MapColumn). source c.origin after) found) Null) (key_of (old_place found) before) (key_of (old_place found) after)
unfolding key_of
heads_at before after None one two = inl (refl, refl, refl)
heads_at before after (Some c) one two = heads_by before after c c.origin refl one two

-- both lists are alike with the column in front
abbrev pub Alike : List Value → List Value → List Value → List Value → Type 0
Alike a b olds news = (a ≡ b → olds ≡ news) × (olds ≡ news → a ≡ b)

in_front : (x y : Value) (o n a b olds news : List Value) → Heads x y o n → Alike a b olds news → Alike (x ∷ a) (y ∷ b) (o ++ olds) (n ++ news)
in_front x y o n a b olds news (inl (none, none', same)) rest =
    rw (none, none', same) (λ is. rest.0 (let e : a ≡ b = cc in e), λ is. ap (λ (l : List Value). y ∷ l) (rest.1 is))
in_front x y o n a b olds news (inr (one, one')) rest =
    rw (one, one') (λ is. (let h : x ≡ y = cc in let e : a ≡ b = cc in let t : olds ≡ news = rest.0 e in rw (h, t) refl), λ is. (let h : x ≡ y = cc in let e : olds ≡ news = cc in let t : a ≡ b = rest.1 e in rw (h, t) refl))

key_both : (a b : List ℕ) (row : Row) → key_of (a ++ b) row ≡ key_of a row ++ key_of b row
unfolding key_of
key_both [] b row = refl
key_both (place ∷ a) b row = ap (λ (l : List Value). option_to_list (slice_get row place) ++ l) (key_both a b row) ∙ sym (append_assoc (option_to_list (slice_get row place)) (key_of a row) (key_of b row))

key_alike : (cs : List MapColumn) (before after : Row) (places : List ℕ) → AllByRecursion (λ place. HasOld before (slice_get cs place)) places → AllByRecursion (λ place. HasOld after (slice_get cs place)) places
    → Alike (values_at (given cs before) places) (values_at (given cs after) places) (key_of (old_places cs places) before) (key_of (old_places cs places) after)
unfolding key_of
key_alike cs before after [] one two = (λ is. refl, λ is. refl)
key_alike cs before after (place ∷ places) one two =
    rw (given_at cs before place, given_at cs after place, key_both (old_place (slice_get cs place)) (old_places cs places) before, key_both (old_place (slice_get cs place)) (old_places cs places) after)
    (in_front _ _ _ _ _ _ _ _ (heads_at before after (slice_get cs place) one.0 two.0) (key_alike cs before after places one.1 two.1))

tie : (a b : List Value) → a ≡ b → is_eq (compare_keys a b) ≡ true
tie a b same = ap (λ (k : List Value). is_eq (compare_keys a k)) (sym same) ∙ ap is_eq (tied_itself keys_total a)

untie : (a b : List Value) → is_eq (compare_keys a b) ≡ true → a ≡ b
untie a b is = tied_keys a b (is_Equal (compare_keys a b) is)

-- *The two tests are one*, of rows that have a value wherever a unique key's column stood
pub tests_alike : (cs : List MapColumn) (uniques : List Index) (before after : Row) → AllByRecursion (λ index. AllByRecursion (λ place. HasOld before (slice_get cs place)) index.places) uniques → AllByRecursion (λ index. AllByRecursion (λ place. HasOld after (slice_get cs place)) index.places) uniques
    → changes_given cs uniques before after ≡ changes_key (kept_keys cs uniques) before after
unfolding changes_given changes_key
tests_alike cs [] before after one two = refl
tests_alike cs (index ∷ uniques) before after one two =
    let a : List Value = values_at (given cs before) index.places in
    let b : List Value = values_at (given cs after) index.places in
    let olds : List Value = key_of (old_places cs index.places) before in
    let news : List Value = key_of (old_places cs index.places) after in
    let alike : Alike a b olds news = key_alike cs before after index.places one.0 two.0 in
    let same : is_eq (compare_keys a b) ≡ is_eq (compare_keys olds news) = both_ways (is_eq (compare_keys a b)) (is_eq (compare_keys olds news)) (λ is. tie olds news (alike.0 (untie a b is))) (λ is. tie a b (alike.1 (untie olds news is))) in
    rw (same, tests_alike cs uniques before after one.1 two.1) refl
