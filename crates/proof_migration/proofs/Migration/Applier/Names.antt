-- Names of columns find their places.
use Rattle.std.proofs.Common.{◌≡◌, ℕ, zero, suc, ◌+◌, ◌<◌, true, false, ltb, List, [], ◌∷◌, length, map, Some, Ok, refl, sym, ap, ◌∙◌, arith}
use Rattle.std.specs.Prelude.{◌==◌}
use Rattle.std.specs.List.{AllByRecursion, list_any, position_or_len, slice_get}
use Rattle.std.proofs.lemmas.Bool.{lt-ltb}
use Rattle.std.proofs.lemmas.Bool.Decides.{nat_tests}
use Rattle.std.proofs.lemmas.Option.{slice_get_within}
use Rattle.base_values.specs.declared.value.Value.{Value}
use Rattle.base_values.specs.declared.gho_schema.schema.Column.{Column}
use Rattle.base_values.specs.declared.gho_schema.schema.Schema.{Schema}
use Rattle.base_values.specs.GhoSchema.Names.{same_name}
use Rattle.base_values.proofs.SchemaRules.SameNames.{other_name-turned, same_name-own}
use Rattle.base_values.specs.declared.row_conversion.map.MapColumn.{MapColumn}
use Rattle.proof_schemas.proofs.Alters.Apart.{Apart, IsNot}
use Rattle.base_script.specs.declared.statement.Set.{Set}
use Rattle.server_model.specs.Checks.{are_distinct, place_of, places_from, places_named}
use Rattle.tool_program.specs.EventApplier.Appliers.{name_at, sets}
use Rattle.tool_program.specs.EventApplier.BatchPlans.{key_sets}
use Rattle.proof_journals.specs.Ghost.Rows.Moments.{Row}

-- one of the columns that have another name
other_at : (name : List ℕ) (columns : List Column) (place : ℕ) (own : Column) → AllByRecursion (IsNot name) columns → slice_get columns place ≡ Some own → same_name own.name name ≡ false
other_at name [] place own all there = absurd cc
other_at name (first ∷ columns) zero own all there = let same : first ≡ own = cc in ap (λ (c : Column). same_name c.name name) (sym same) ∙ all.0
other_at name (first ∷ columns) (suc place) own all there = other_at name columns place own all.1 there

-- the first column of a name is the one at its place
name_here : (columns : List Column) (place : ℕ) (own : Column) → Apart columns → slice_get columns place ≡ Some own → position_or_len (λ column. same_name column.name own.name) columns ≡ place
name_here [] place own apart there = absurd cc
name_here (first ∷ columns) zero own apart there =
    let same : first ≡ own = cc in
    let here : same_name first.name own.name ≡ true = ap (λ (c : Column). same_name first.name c.name) (sym same) ∙ same_name-own first.name in rw here refl
name_here (first ∷ columns) (suc place) own apart there =
    let other : same_name first.name own.name ≡ false = other_name-turned own.name first.name (other_at first.name columns place own apart.0 there) in
    let rest : position_or_len (λ column. same_name column.name own.name) columns ≡ place = name_here columns place own apart.1 there in
    rw (other, rest) (let e : 1 + place ≡ suc place = omega arith in e)

-- a column's name is found
pub name_found : (schema : Schema) (place : ℕ) (own : Column) → Apart schema.columns → slice_get schema.columns place ≡ Some own → place_of schema own.name ≡ Ok place
name_found schema place own apart there =
    let here : position_or_len (λ column. same_name column.name own.name) schema.columns ≡ place = name_here schema.columns place own apart there in
    let within : ltb place (length schema.columns) ≡ true = lt-ltb place (length schema.columns) (slice_get_within schema.columns place own there) in
    rw here (rw within refl)

-- there is a column at the place
abbrev pub HasColumn : List Column → ℕ → Type 0
HasColumn columns place = (own : Column) × (slice_get columns place ≡ Some own)

-- *The names of a key's columns find their places*
pub key_named : (schema : Schema) (cs : List MapColumn) (row : Row) (places : List ℕ) → Apart schema.columns → AllByRecursion (HasColumn schema.columns) places → places_named schema (map (λ (s : Set). s.column) (key_sets schema cs row places)) ≡ Ok places
unfolding places_named
key_named schema cs row [] apart all = refl
key_named schema cs row (place ∷ places) apart all =
    let one : place_of schema (name_at schema.columns place) ≡ Ok place = rw (all.0.1) (name_found schema place all.0.0 apart all.0.1) in
    rw (one, key_named schema cs row places apart all.1) refl

-- ALL COLUMNS

-- the columns behind so many others
abbrev Following : List Column → ℕ → List Column → Type 0
Following all place columns = (i : ℕ) → slice_get all (place + i) ≡ slice_get columns i

after_next : (all : List Column) (place : ℕ) (first : Column) (columns : List Column) → Following all place (first ∷ columns) → Following all (place + 1) columns
after_next all place first columns is i = let e : (place + 1) + i ≡ place + (suc i) = omega arith in ap (slice_get all) e ∙ is (suc i)

all_named : (schema : Schema) (place : ℕ) (columns : List Column) (values : List Value) → Apart schema.columns → Following schema.columns place columns → length values ≡ length columns → places_named schema (map (λ (s : Set). s.column) (sets columns values)) ≡ Ok (places_from place columns)
unfolding places_named
all_named schema place [] values apart is long = refl
all_named schema place (first ∷ columns) [] apart is long = absurd (omega (arith, long))
all_named schema place (first ∷ columns) (value ∷ values) apart is long =
    let here : slice_get schema.columns place ≡ Some first = (let e : place ≡ place + 0 = omega arith in ap (slice_get schema.columns) e) ∙ is 0 in
    rw (name_found schema place first apart here, all_named schema (place + 1) columns values apart (after_next schema.columns place first columns is) (omega (arith, long))) refl

-- *The names of all columns find all places*, which are distinct, and the values stand beside them
pub columns_named : (schema : Schema) (values : List Value) → Apart schema.columns → length values ≡ length schema.columns → places_named schema (map (λ (s : Set). s.column) (sets schema.columns values)) ≡ Ok (places_from 0 schema.columns)
columns_named schema values apart long = all_named schema 0 schema.columns values apart (λ i. let e : 0 + i ≡ i = omega arith in ap (slice_get schema.columns) e) long

none_before : (low place : ℕ) (columns : List Column) → low < place → list_any (λ other. low == other) (places_from place columns) ≡ false
none_before low place [] less = refl
none_before low place (first ∷ columns) less =
    let apart : (low == place) ≡ false = grind (arith, nat_tests, less) in
    rw (apart, none_before low (place + 1) columns (omega (arith, less))) refl

pub all_distinct : (place : ℕ) (columns : List Column) → are_distinct (places_from place columns) ≡ true
unfolding are_distinct
all_distinct place [] = refl
all_distinct place (first ∷ columns) = rw (none_before place (place + 1) columns (omega arith), all_distinct (place + 1) columns) refl

pub all_values : (columns : List Column) (values : List Value) → length values ≡ length columns → map (λ (s : Set). s.value) (sets columns values) ≡ values
all_values [] [] long = refl
all_values [] (value ∷ values) long = absurd (omega (arith, long))
all_values (first ∷ columns) [] long = absurd (omega (arith, long))
all_values (first ∷ columns) (value ∷ values) long = ap (λ (vs : List Value). value ∷ vs) (all_values columns values (omega (arith, long)))
