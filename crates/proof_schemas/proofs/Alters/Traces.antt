-- Where the unique keys of a table between two clauses come from.
use Rattle.std.proofs.Common.{◌≡◌, ℕ, ◌<◌, ◌≤◌, Bool, true, false, not, ◌&&◌, ◌||◌, cond, eqb, List, [], ◌∷◌, length, Option, Some, None, refl, sym, ap, subst, ◌∙◌, arith, eqb-true}
use Rattle.std.specs.List.{filter_map, list_any, slice_get, AllByRecursion}
use Rattle.base_values.specs.declared.kind.Kind.{Kind}
use Rattle.base_values.specs.declared.kind.Kind.TheVariants.{Int, VarChar, VarBinary}
use Rattle.base_values.specs.declared.gho_schema.schema.Column.{Column}
use Rattle.base_values.specs.declared.gho_schema.schema.Index.{Index}
use Rattle.base_values.specs.declared.gho_schema.schema.Schema.{Schema}
use Rattle.base_values.specs.GhoSchema.AutoIncrement.{is_widest}
use Rattle.sql_change.specs.declared.places.PlaceChange.{PlaceChange}
use Rattle.sql_change.specs.declared.places.PlaceChange.TheVariants.{Added, Dropped, Moved}
use Rattle.sql_change.specs.declared.so_far.AlteredSoFar.{AlteredSoFar}
use Rattle.sql_change.specs.Columns.{has_place, is_in_keys, is_key_conversion}
use Rattle.sql_change.specs.Places.{opened, closed, place_after, index_after, keys_after}
use Rattle.sql_change.specs.AlteredSoFar.{with_columns, put_in, taken_out, origin_of, origin_at, moved_to, Stands}
use Rattle.base_values.proofs.SchemaRules.Lists.{All-map}
use Rattle.proof_schemas.proofs.Alters.Places.{get-opened, get-closed, get-moved, get-moved_at}
use Rattle.std.proofs.lemmas.Bool.{or_parts}
use Rattle.base_values.proofs.SchemaRules.Steps.{some_is}

-- what an AUTO_INCREMENT column stays: no BIGINT UNSIGNED, and without a default where it may not be null
abbrev pub Counts : Column → Type 0
Counts column = (is_widest column.kind ≡ false) × (column.nullable ≡ false → column.default ≡ None)

-- a place of a column that was there, and the place where it was
pub record SamePlace (old : Schema) (standing : AlteredSoFar) (place before : ℕ) : Type 0 where
  pub origin : slice_get standing.origins place ≡ Some (Some before)
  pub column : Column
  pub here : slice_get standing.schema.columns place ≡ Some column
  pub source : Column
  pub there : slice_get old.columns before ≡ Some source
  pub sort : is_key_conversion source.kind column.kind ≡ true
  pub auto : column.auto ≡ source.auto
  pub counts : source.auto ≡ true → Counts source → Counts column

abbrev pub SamePlaces : Schema → AlteredSoFar → List ℕ → List ℕ → Type 0
SamePlaces old standing [] [] = Unit {0}
SamePlaces old standing (place ∷ places) (before ∷ others) = SamePlace old standing place before × SamePlaces old standing places others
SamePlaces old standing places others = ⊥

-- a key that was there
pub record Traced (old : Schema) (standing : AlteredSoFar) (index : Index) : Type 0 where
  pub place : ℕ
  pub source : Index
  pub stands : slice_get old.uniques place ≡ Some source
  pub name : source.name ≡ index.name
  pub places : SamePlaces old standing index.places source.places

abbrev pub AllTraced : Schema → AlteredSoFar → Type 0
AllTraced old standing = AllByRecursion (Traced old standing) standing.schema.uniques

-- ---- a change of places

-- where a place stands after the change
pub record After (change : PlaceChange) (old : Schema) (next : AlteredSoFar) (place before : ℕ) : Type 0 where
  pub place_then : ℕ
  pub is : place_after change place ≡ Some place_then
  pub same : SamePlace old next place_then before

module _ (change : PlaceChange) (old : Schema) (standing next : AlteredSoFar) (P : ℕ → Type 0) (each : (place before : ℕ) → P place → SamePlace old standing place before → After change old next place before) where
  same_places : (places others : List ℕ) → AllByRecursion P places → SamePlaces old standing places others → SamePlaces old next (filter_map (place_after change) places) others
  same_places [] [] all same = tt
  same_places [] (q ∷ qs) all same = absurd same
  same_places (p ∷ ps) [] all same = absurd same
  same_places (p ∷ ps) (q ∷ qs) all same =
      let a = each p q all.0 same.0 in
      rw a.is (a.same, same_places ps qs all.1 same.1)

  traced-after : (index : Index) → AllByRecursion P index.places × Traced old standing index → Traced old next (index_after change index)
  unfolding index_after
  traced-after index h = record { place = h.1.place; source = h.1.source; stands = h.1.stands; name = h.1.name; places = same_places index.places h.1.source.places h.0 h.1.places }

  pub all-after : (uniques : List Index) → AllByRecursion (λ index. AllByRecursion P index.places × Traced old standing index) uniques → AllByRecursion (Traced old next) (keys_after change uniques)
  all-after uniques all = All-map (λ (index : Index). AllByRecursion P index.places × Traced old standing index) (Traced old next) (index_after change) traced-after uniques all

-- ---- what is known of the places

abbrev Anything : ℕ → Type 0
Anything place = Unit {0}

anything : (places : List ℕ) → AllByRecursion Anything places
anything [] = tt
anything (p ∷ ps) = (tt, anything ps)

with_anything : (old : Schema) (standing : AlteredSoFar) (uniques : List Index) → AllByRecursion (Traced old standing) uniques → AllByRecursion (λ index. AllByRecursion Anything index.places × Traced old standing index) uniques
with_anything old standing [] all = tt
with_anything old standing (index ∷ uniques) all = ((anything index.places, all.0), with_anything old standing uniques all.1)

abbrev IsOther : ℕ → ℕ → Type 0
IsOther at place = eqb place at ≡ false

others : (at : ℕ) (places : List ℕ) → list_any (λ own. eqb own at) places ≡ false → AllByRecursion (IsOther at) places
others at [] e = tt
others at (p ∷ ps) e = let n = or_parts (eqb p at) (list_any (λ own. eqb own at) ps) e in (n.0, others at ps n.1)

with_others : (old : Schema) (standing : AlteredSoFar) (at : ℕ) (uniques : List Index) → list_any (has_place at) uniques ≡ false → AllByRecursion (Traced old standing) uniques → AllByRecursion (λ index. AllByRecursion (IsOther at) index.places × Traced old standing index) uniques
with_others old standing at [] e all = tt
with_others old standing at (index ∷ uniques) e all =
    let n = or_parts (has_place at index) (list_any (has_place at) uniques) e in
    ((others at index.places n.0, all.0), with_others old standing at uniques n.1 all.1)

-- where the column is one of a key, its new kind is of its sort
abbrev IsKept : ℕ → Kind → Kind → ℕ → Type 0
IsKept from kind new place = eqb place from ≡ true → is_key_conversion kind new ≡ true

nothing : (b : Bool) → (b && not true) ≡ false
nothing true = refl
nothing false = refl

conversion_or : (a b c : Bool) → ((a || b) && not c) ≡ false → (a ≡ true → c ≡ true) × ((b && not c) ≡ false)
conversion_or true b true e = (λ _. refl, nothing b)
conversion_or true b false e = absurd cc
conversion_or false b c e = (λ h. absurd cc, e)

kept : (from : ℕ) (kind new : Kind) (places : List ℕ) → (list_any (λ own. eqb own from) places && not (is_key_conversion kind new)) ≡ false → AllByRecursion (IsKept from kind new) places
kept from kind new [] e = tt
kept from kind new (p ∷ ps) e = let n = conversion_or (eqb p from) (list_any (λ own. eqb own from) ps) (is_key_conversion kind new) e in (n.0, kept from kind new ps n.1)

split_or : (a b c : Bool) → ((a || b) && not c) ≡ false → ((a && not c) ≡ false) × ((b && not c) ≡ false)
split_or true true true e = (refl, refl)
split_or true false true e = (refl, refl)
split_or true b false e = absurd cc
split_or false b c e = (refl, e)

with_kept : (old : Schema) (standing : AlteredSoFar) (from : ℕ) (kind new : Kind) (uniques : List Index) → (list_any (has_place from) uniques && not (is_key_conversion kind new)) ≡ false → AllByRecursion (Traced old standing) uniques
    → AllByRecursion (λ index. AllByRecursion (IsKept from kind new) index.places × Traced old standing index) uniques
with_kept old standing from kind new [] e all = tt
with_kept old standing from kind new (index ∷ uniques) e all =
    let n = split_or (has_place from index) (list_any (has_place from) uniques) (is_key_conversion kind new) e in
    ((kept from kind new index.places n.0, all.0), with_kept old standing from kind new uniques n.1 all.1)

-- conversions of one sort one behind the other are one
pub conversions : (a b c : Kind) → is_key_conversion a b ≡ true → is_key_conversion b c ≡ true → is_key_conversion a c ≡ true
conversions (Int m u) (Int n v) (Int o w) e f = refl
conversions (Int m u) (Int n v) (VarChar k) e f = f
conversions (Int m u) (Int n v) (VarBinary k) e f = f
conversions (Int m u) (VarChar j) c e f = absurd cc
conversions (Int m u) (VarBinary j) c e f = absurd cc
conversions (VarChar i) (Int n v) c e f = absurd cc
conversions (VarChar i) (VarChar j) (Int o w) e f = f
conversions (VarChar i) (VarChar j) (VarChar k) e f = refl
conversions (VarChar i) (VarChar j) (VarBinary k) e f = f
conversions (VarChar i) (VarBinary j) c e f = absurd cc
conversions (VarBinary i) (Int n v) c e f = absurd cc
conversions (VarBinary i) (VarChar j) c e f = absurd cc
conversions (VarBinary i) (VarBinary j) (Int o w) e f = f
conversions (VarBinary i) (VarBinary j) (VarChar k) e f = f
conversions (VarBinary i) (VarBinary j) (VarBinary k) e f = refl

pub same_sort : (a : Kind) → is_key_conversion a a ≡ true
same_sort (Int m u) = refl
same_sort (VarChar i) = refl
same_sort (VarBinary i) = refl

-- ---- the changes

module _ (old : Schema) (standing : AlteredSoFar) (at : ℕ) (column : Column) (stands : Stands standing) (le : at ≤ length standing.schema.columns) where
  each-added : (place before : ℕ) → Anything place → SamePlace old standing place before → After (Added at) old (put_in standing at column) place before
  unfolding put_in with_columns place_after
  each-added place before u same = record {
    place_then = opened at place;
    is = refl;
    same = record {
      origin = get-opened standing.origins at None place (omega (arith, stands.origins)) ∙ same.origin;
      column = same.column;
      here = get-opened standing.schema.columns at column place le ∙ same.here;
      source = same.source;
      there = same.there;
      sort = same.sort;
      auto = same.auto;
      counts = same.counts;
    };
  }

  pub put_in-traced : AllTraced old standing → AllTraced old (put_in standing at column)
  unfolding put_in with_columns
  put_in-traced all = all-after (Added at) old standing (put_in standing at column) Anything each-added standing.schema.uniques (with_anything old standing standing.schema.uniques all)

drop-after : (at place : ℕ) → eqb place at ≡ false → place_after (Dropped at) place ≡ Some (closed at place)
unfolding place_after
drop-after at place other = rw other refl

module _ (old : Schema) (standing : AlteredSoFar) (at : ℕ) where
  each-dropped : (place before : ℕ) → IsOther at place → SamePlace old standing place before → After (Dropped at) old (taken_out standing at) place before
  unfolding taken_out with_columns
  each-dropped place before other same = record {
    place_then = closed at place;
    is = drop-after at place other;
    same = record {
      origin = get-closed standing.origins at place other ∙ same.origin;
      column = same.column;
      here = get-closed standing.schema.columns at place other ∙ same.here;
      source = same.source;
      there = same.there;
      sort = same.sort;
      auto = same.auto;
      counts = same.counts;
    };
  }

  pub taken_out-traced : is_in_keys standing.schema.uniques at ≡ false → AllTraced old standing → AllTraced old (taken_out standing at)
  unfolding taken_out with_columns is_in_keys
  taken_out-traced free all = all-after (Dropped at) old standing (taken_out standing at) (IsOther at) each-dropped standing.schema.uniques (with_others old standing at standing.schema.uniques free all)

move-after : (from to place : ℕ) (b : Bool) → eqb place from ≡ b → place_after (Moved from to) place ≡ Some (cond b to (opened to (closed from place)))
unfolding place_after
move-after from to place b e = rw e refl

module _ (old : Schema) (standing : AlteredSoFar) (from to : ℕ) (found new : Column) (stands : Stands standing) (lt : from < length standing.schema.columns) (within : to < length standing.schema.columns) (here : slice_get standing.schema.columns from ≡ Some found) (auto_kept : new.auto ≡ found.auto) (counter_kept : found.auto ≡ true → Counts new) where
  each-moved-by : (place before : ℕ) (b : Bool) → eqb place from ≡ b → IsKept from found.kind new.kind place → SamePlace old standing place before → After (Moved from to) old (moved_to standing from to new) place before
  unfolding moved_to with_columns
  each-moved-by place before true e kept same =
      let at : place ≡ from = eqb-true place from e in
      let column : same.column ≡ found = some_is same.column found (sym same.here ∙ ap (slice_get standing.schema.columns) at ∙ here) in
      let origin : origin_at standing from ≡ Some before = ap origin_of (sym (ap (slice_get standing.origins) at) ∙ same.origin) in
      record {
        place_then = to;
        is = move-after from to place true e;
        same = record {
          origin = get-moved_at standing.origins from to (origin_at standing from) (omega (arith, stands.origins)) (omega (arith, stands.origins)) ∙ ap (λ (o : Option ℕ). Some o) origin;
          column = new;
          here = get-moved_at standing.schema.columns from to new lt within;
          source = same.source;
          there = same.there;
          sort = conversions same.source.kind found.kind new.kind (subst (λ (c : Column). is_key_conversion same.source.kind c.kind ≡ true) column same.sort) (kept e);
          auto = auto_kept ∙ ap (λ (c : Column). c.auto) (sym column) ∙ same.auto;
          counts = λ on source. counter_kept (ap (λ (c : Column). c.auto) (sym column) ∙ same.auto ∙ on);
        };
      }
  each-moved-by place before false e kept same = record {
    place_then = opened to (closed from place);
    is = move-after from to place false e;
    same = record {
      origin = get-moved standing.origins from to (origin_at standing from) place (omega (arith, stands.origins)) (omega (arith, stands.origins)) e ∙ same.origin;
      column = same.column;
      here = get-moved standing.schema.columns from to new place lt within e ∙ same.here;
      source = same.source;
      there = same.there;
      sort = same.sort;
      auto = same.auto;
      counts = same.counts;
    };
  }

  each-moved : (place before : ℕ) → IsKept from found.kind new.kind place → SamePlace old standing place before → After (Moved from to) old (moved_to standing from to new) place before
  each-moved place before kept same = each-moved-by place before (eqb place from) refl kept same

  pub moved_to-traced : (is_in_keys standing.schema.uniques from && not (is_key_conversion found.kind new.kind)) ≡ false → AllTraced old standing → AllTraced old (moved_to standing from to new)
  unfolding moved_to with_columns is_in_keys
  moved_to-traced free all = all-after (Moved from to) old standing (moved_to standing from to new) (IsKept from found.kind new.kind) each-moved standing.schema.uniques (with_kept old standing from found.kind new.kind standing.schema.uniques free all)

-- ---- the same places

module _ (old : Schema) (standing next : AlteredSoFar) (each : (place before : ℕ) → SamePlace old standing place before → SamePlace old next place before) where
  places-kept : (places others : List ℕ) → SamePlaces old standing places others → SamePlaces old next places others
  places-kept [] [] same = tt
  places-kept [] (q ∷ qs) same = absurd same
  places-kept (p ∷ ps) [] same = absurd same
  places-kept (p ∷ ps) (q ∷ qs) same = (each p q same.0, places-kept ps qs same.1)

  pub all-kept : (uniques : List Index) → AllByRecursion (Traced old standing) uniques → AllByRecursion (Traced old next) uniques
  all-kept [] all = tt
  all-kept (index ∷ uniques) all = (record { place = all.0.place; source = all.0.source; stands = all.0.stands; name = all.0.name; places = places-kept index.places all.0.source.places all.0.places }, all-kept uniques all.1)
