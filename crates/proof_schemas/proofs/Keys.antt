-- Keys whose columns are known: their places, and that those of the PRIMARY KEY may not be null.
use Rattle.std.proofs.Common.{◌≡◌, ℕ, suc, ◌<◌, true, List, [], ◌∷◌, length, Option, Some, refl, sym, ap, subst, ◌∙◌, map, arith}
use Rattle.std.specs.List.{filter_map, list_all, list_any, slice_get, position_or_len, AllByRecursion}
use Rattle.std.proofs.lemmas.List.{length-map}
use Rattle.base_values.specs.declared.gho_schema.schema.Column.{Column}
use Rattle.base_values.specs.GhoSchema.Names.{same_name}
use Rattle.sql_create.specs.declared.written.WrittenColumn.{WrittenColumn}
use Rattle.base_values.specs.GhoSchema.ClusteredKey.{is_not_null}
use Rattle.sql_create.specs.DeclaredSchema.{are_known}
use Rattle.base_values.specs.SchemaRules.Names.{is_among, place_of, places_of}
use Rattle.base_values.specs.SchemaRules.Valid.{IsKey}
use Rattle.proof_schemas.proofs.Columns.{Becomes, AllBecome, column-at}
use Rattle.proof_schemas.proofs.Grammar.{HasColumns}
use Rattle.base_values.proofs.SchemaRules.Lists.{All-filter_map, All-list_all, list_all-All, each-any, Found, position-some, position-found, slice_get-map-some, slice_get-within-some}
use Rattle.base_values.proofs.SchemaRules.Steps.{some_is}
use Rattle.base_values.proofs.SchemaRules.SameNames.{same_name-turned}

-- ---- places

place_of-some : (names : List (List ℕ)) (name : List ℕ) → is_among names name ≡ true → (place : ℕ) × (place_of names name ≡ Some place)
unfolding place_of is_among
place_of-some names name e = (position_or_len (λ known. same_name known name) names, position-some (λ known. same_name known name) names e)

place_of-found : (names : List (List ℕ)) (name : List ℕ) (place : ℕ) → place_of names name ≡ Some place → Found (λ known. same_name known name) names place
unfolding place_of
place_of-found names name place e = position-found (λ known. same_name known name) names place e

-- each known column has its place
length-places : (names columns : List (List ℕ)) → AllByRecursion (λ column. is_among names column ≡ true) columns → length (filter_map (place_of names) columns) ≡ length columns
length-places names [] known = refl
length-places names (column ∷ columns) known =
    let p = place_of-some names column known.0 in
    rw p.1 (ap suc (length-places names columns known.1))

pub places-are : (names columns : List (List ℕ)) (count : ℕ) (name : Option (List ℕ)) → length names ≡ count → HasColumns columns → are_known names columns ≡ true → IsKey count (record { name = name; places = places_of names columns })
unfolding places_of
places-are names columns count name same has known = record {
  some = omega (arith, length-places names columns (list_all-All (is_among names) columns known));
  within = All-filter_map (λ (column : List ℕ). is_among names column ≡ true) (λ (place : ℕ). place < count) (place_of names) (λ column place e is. omega (arith, same, (place_of-found names column place is).within)) columns (list_all-All (is_among names) columns known);
}

-- ---- the PRIMARY KEY

-- a name of one of the keys is among the names of some
pub names_of-known : (primaries : List (List (List ℕ))) → AllByRecursion (λ names. (name : List ℕ) → is_among names name ≡ true → list_any (λ ns. is_among ns name) primaries ≡ true) primaries
names_of-known primaries = each-any (λ (name : List ℕ) (names : List (List ℕ)). is_among names name) primaries

each_name : (names : List (List ℕ)) → AllByRecursion (λ known. (name : List ℕ) → same_name known name ≡ true → is_among names name ≡ true) names
unfolding is_among
each_name names = each-any (λ (name known : List ℕ). same_name known name) names

not_null-by : (primaries : List (List (List ℕ))) (w : WrittenColumn) (c : Column) → Becomes primaries w c → list_any (λ ns. is_among ns w.name) primaries ≡ true → is_not_null (Some c) ≡ true
not_null-by primaries w c becomes among = rw (becomes.nullable, among) refl

is_not_null-at : (columns : List Column) (place : ℕ) (c : Column) → slice_get columns place ≡ Some c → is_not_null (Some c) ≡ true → is_not_null (slice_get columns place) ≡ true
is_not_null-at columns place c e h = rw e h

module _ (primaries : List (List (List ℕ))) (ws : List WrittenColumn) (columns : List Column) (become : AllBecome primaries ws columns) where
  abbrev own_names : List (List ℕ)
  own_names = map (λ w. w.name) ws

  -- a column of a PRIMARY KEY is not null
  column-not_null : (names : List (List ℕ)) (known : List ℕ) (place : ℕ) → ((name : List ℕ) → is_among names name ≡ true → list_any (λ ns. is_among ns name) primaries ≡ true) → ((name : List ℕ) → same_name known name ≡ true → is_among names name ≡ true)
      → place_of own_names known ≡ Some place → is_not_null (slice_get columns place) ≡ true
  column-not_null names known place of_some of_names e =
      let found = place_of-found own_names known place e in
      let w = slice_get-within-some ws place (omega (arith, found.within, length-map ws (λ w. w.name))) in
      let named : found.item ≡ w.0.name = some_is found.item w.0.name (sym found.is ∙ slice_get-map-some (λ w. w.name) ws place w.0 w.1) in
      let here : same_name known w.0.name ≡ true = same_name-turned w.0.name known (subst (λ (n : List ℕ). same_name n known ≡ true) named found.passes) in
      let c = column-at primaries ws columns place w.0 become w.1 in
      is_not_null-at columns place c.0 c.1 (not_null-by primaries w.0 c.0 c.2 (of_some w.0.name (of_names w.0.name here)))

  pub primary-not_null : (names : List (List ℕ)) → ((name : List ℕ) → is_among names name ≡ true → list_any (λ ns. is_among ns name) primaries ≡ true) → list_all (λ place. is_not_null (slice_get columns place)) (places_of own_names names) ≡ true
  unfolding places_of
  primary-not_null names of_some =
      All-list_all (λ (place : ℕ). is_not_null (slice_get columns place)) (filter_map (place_of own_names) names)
      (All-filter_map (λ (known : List ℕ). (name : List ℕ) → same_name known name ≡ true → is_among names name ≡ true) (λ (place : ℕ). is_not_null (slice_get columns place) ≡ true) (place_of own_names) (λ known place of_names e. column-not_null names known place of_some of_names e) names (each_name names))
