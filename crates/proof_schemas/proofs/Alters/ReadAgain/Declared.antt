-- Each clause leaves a schema that CREATE TABLE gives.
use Rattle.std.proofs.Common.{◌≡◌, ℕ, zero, suc, ◌+◌, ◌<◌, ◌≤◌, Bool, true, false, not, ◌&&◌, ◌||◌, leb, List, [], ◌∷◌, ◌++◌, length, Option, Some, None, Ok, unwrap_or, refl, sym, ap, subst, ◌∙◌, arith, append_assoc, length-append}
use Rattle.std.specs.Prelude.{is_some, slice_set, sum_by}
use Rattle.std.specs.List.{insert, remove, slice_get, AllByRecursion}
use Rattle.std.proofs.Math.Nat.{le_trans}
use Rattle.std.proofs.lemmas.Bool.{le-leb, leb-true, leb-false, or_parts, not-false}
use Rattle.std.proofs.lemmas.List.{length-map}
use Rattle.std.proofs.lemmas.List.Elements.{filter_map-append}
use Rattle.std.proofs.lemmas.List.Sums.{sum_by-cons}
use Rattle.base_values.specs.declared.gho_schema.schema.Column.{Column}
use Rattle.base_values.specs.declared.gho_schema.schema.Index.{Index}
use Rattle.base_values.specs.declared.gho_schema.schema.Schema.{Schema}
use Rattle.base_values.specs.GhoSchema.Names.{same_name}
use Rattle.base_values.specs.declared.row_conversion.clause.Clause.{Clause}
use Rattle.base_values.specs.declared.row_conversion.clause.Clause.TheVariants.{Add, Drop, Rename, Change, AddIndex, DropIndex}
use Rattle.base_values.specs.declared.row_conversion.clause.NewColumn.{NewColumn}
use Rattle.base_values.specs.declared.row_conversion.clause.ColumnPosition.{ColumnPosition}
use Rattle.base_values.specs.SchemaRules.Results.{◌>>=◌}
use Rattle.base_values.specs.GhoSchema.ClusteredKey.{clustered_place}
use Rattle.base_values.specs.SchemaRules.Reasons.{first_reason}
use Rattle.base_values.specs.SchemaRules.Defaults.{stored_default, default_size, defaults_fit, default_or}
use Rattle.base_values.specs.SchemaRules.Names.{is_among}
use Rattle.base_values.specs.SchemaRules.Limits.{is_column_name}
use Rattle.proof_schemas.proofs.Columns.{made}
use Rattle.base_values.proofs.SchemaRules.Lists.{All-at, All-append, All-weaker, list_all-All, All-list_all, All-both}
use Rattle.sql_change.specs.declared.code.AlterCode.{AlterCode}
use Rattle.sql_change.specs.declared.code.AlterCode.TheVariants as codes
use Rattle.sql_change.specs.declared.places.PlaceChange.{PlaceChange}
use Rattle.sql_change.specs.declared.places.PlaceChange.TheVariants.{Added, Dropped, Moved}
use Rattle.sql_change.specs.declared.so_far.AlteredSoFar.{AlteredSoFar}
use Rattle.sql_change.specs.AlteredSchema.{step, steps, result_reasons, map_of, result_of, altered}
use Rattle.sql_change.specs.ClauseResults.{add_reasons, added, dropped_at, dropped, rename_reasons, with_name, renamed_in, renamed_at, renamed, change_reasons, changed_nullable, changed_in, is_unapproved, unless_unapproved, changed_column, changed_at, changed, breaks_counter}
use Rattle.sql_change.specs.Columns.{has_column, column_named, is_in_keys, is_key_conversion, is_conversion, is_column_position, column_position_place, lacks_default, unless_lacking, column_of, fitting}
use Rattle.sql_change.specs.IndexClauses.{index_name, are_columns, index_reasons, index_of, with_index, indexed_as, indexed, index_place, is_clustered, without_unique, without_index, unindexed_at, unindexed, key_names as table_names}
use Rattle.sql_change.specs.Places.{has_places, index_after, keys_after, indexes_after}
use Rattle.sql_change.specs.AlteredSoFar.{start, with_columns, put_in, taken_out, origin_at, moved_to}
use Rattle.base_values.proofs.SchemaRules.Steps.{bind_ok, unless_ok, none_first, ok_is, kept_out, let_through, default_is}
use Rattle.sql_change.proofs.Tables.{fitting-is, approved-is}
use Rattle.proof_schemas.specs.Alters.Laws.{Altered}
use Rattle.proof_schemas.proofs.Alters.Apart.{All-insert, All-taken, All-set}
use Rattle.proof_schemas.proofs.Alters.Steps.{column_named-here, lacking-is, column_of-written, changed-auto, counter-kept}
use Rattle.proof_schemas.specs.ReadAgain.{HasName, PrimaryStandsFirst, key_names, has_default, IsShaped}
use Rattle.proof_schemas.proofs.ReadAgain.Differ.{Differ, differ-parts, differ-whole}
use Rattle.proof_schemas.proofs.ReadAgain.ReadDeclared.{default-has}
use Rattle.proof_schemas.proofs.Autos.{count, count-added, count-less, count-moved, count-set}
use Rattle.proof_schemas.proofs.Alters.ReadAgain.Names.{Left, done, out, kept, left-own, left-filter, left-remove, left-both, left-length, left-all, left-differ, left-names, after-names, after-all, left-first}

-- ---- the columns that clauses write

-- a valid name, and a default where it may be null
abbrev IsFine : Column → Type 0
IsFine column = (is_column_name column.name ≡ true) × (has_default column ≡ true)

column_of-fine : (origin : Option ℕ) (written : NewColumn) (nullable : Bool) (column : Column) → is_column_name written.name ≡ true → column_of origin written nullable ≡ Ok column → IsFine column
unfolding column_of
column_of-fine origin written nullable column name e =
    let b = bind_ok (default_or codes.Default (stored_default written.kind nullable written.default)) (λ default. unless_lacking (lacks_default origin nullable default) (made written.name written.kind nullable default written.auto)) column e in
    let has = default-has written.kind nullable written.default b.0 (default_is codes.Default (stored_default written.kind nullable written.default) b.0 b.1) in
    subst IsFine (lacking-is (lacks_default origin nullable b.0) (made written.name written.kind nullable b.0 written.auto) column b.2) (name, has)

-- ---- what is kept of columns and of keys

-- a schema of that shape, with that start, and with at most so many AUTO_INCREMENT columns
pub record Held (begun : Option ℕ) (most : ℕ) (migrated : List ℕ) (schema : Schema) : Type 0 where
  pub shaped : IsShaped migrated schema
  pub start : schema.start ≡ begun
  pub few : count schema.columns ≤ most

-- the columns are fine, their defaults fit, and few of them have AUTO_INCREMENT
record FineColumns (most : ℕ) (columns : List Column) : Type 0 where
  pub all : AllByRecursion IsFine columns
  pub fit : defaults_fit columns ≡ true
  pub few : count columns ≤ most

record FineKeys (uniques indexes : List Index) : Type 0 where
  pub few_uniques : length uniques ≤ 8
  pub few_indexes : length indexes ≤ 8
  pub primary : PrimaryStandsFirst uniques
  pub named : AllByRecursion HasName indexes
  pub differ : Differ (key_names uniques ++ key_names indexes)

module _ (begun : Option ℕ) (most : ℕ) (migrated : List ℕ) where
  declared-columns : (schema : Schema) → Held begun most migrated schema → FineColumns most schema.columns
  declared-columns schema is = record {
    all = All-both (λ (c : Column). is_column_name c.name ≡ true) (λ (c : Column). has_default c ≡ true) schema.columns (list_all-All (λ (c : Column). is_column_name c.name) schema.columns is.shaped.column_names) is.shaped.has_defaults;
    fit = is.shaped.defaults;
    few = is.few;
  }

  declared-keys : (schema : Schema) → Held begun most migrated schema → FineKeys schema.uniques schema.indexes
  declared-keys schema is = record {
    few_uniques = is.shaped.few_uniques;
    few_indexes = is.shaped.few_indexes;
    primary = is.shaped.primary;
    named = is.shaped.named;
    differ = differ-parts (key_names schema.uniques ++ key_names schema.indexes) is.shaped.key_names;
  }

abbrev with_parts : Schema → List Column → List Index → List Index → Schema
with_parts schema columns uniques indexes = record schema { columns = columns; uniques = uniques; indexes = indexes }

whole-declared : (begun : Option ℕ) (most : ℕ) (migrated : List ℕ) (schema : Schema) (columns : List Column) (uniques indexes : List Index) → Held begun most migrated schema → FineColumns most columns → FineKeys uniques indexes
    → Held begun most migrated (with_parts schema columns uniques indexes)
whole-declared begun most migrated schema columns uniques indexes is fine keys = record {
  shaped = record {
    name = is.shaped.name;
    unreserved = is.shaped.unreserved;
    column_names = All-list_all (λ (c : Column). is_column_name c.name) columns (All-weaker IsFine (λ (c : Column). is_column_name c.name ≡ true) (λ c all. all.0) columns fine.all);
    few_uniques = keys.few_uniques;
    few_indexes = keys.few_indexes;
    primary = keys.primary;
    named = keys.named;
    key_names = differ-whole (key_names uniques ++ key_names indexes) keys.differ;
    has_defaults = All-weaker IsFine (λ (c : Column). has_default c ≡ true) (λ c all. all.1) columns fine.all;
    defaults = fine.fit;
  };
  start = is.start;
  few = fine.few;
}

-- ---- keys

keys-left : (u v i j : List Index) → Left Index u v → Left Index i j → FineKeys v j → FineKeys u i
keys-left u v i j first second fine =
    let fewer = left-length first in
    let less = left-length second in
    let few = fine.few_uniques in
    let others = fine.few_indexes in
    record {
      few_uniques = omega arith;
      few_indexes = omega arith;
      primary = left-first first fine.primary;
      named = left-all HasName second fine.named;
      differ = left-differ (left-both (left-names first) (left-names second)) fine.differ;
    }

after-length : (change : PlaceChange) (indexes : List Index) → length (keys_after change indexes) ≡ length indexes
after-length change indexes = length-map indexes (index_after change)

after-first : (change : PlaceChange) (uniques : List Index) → PrimaryStandsFirst uniques → PrimaryStandsFirst (keys_after change uniques)
after-first change [] first = tt
after-first change (index ∷ indexes) first = after-all (λ name. is_some name ≡ true) change indexes first

after-fine : (change : PlaceChange) (uniques indexes : List Index) → FineKeys uniques indexes → FineKeys (keys_after change uniques) (keys_after change indexes)
after-fine change uniques indexes fine =
    let few = fine.few_uniques in
    let others = fine.few_indexes in
    record {
      few_uniques = omega (arith, few, after-length change uniques);
      few_indexes = omega (arith, others, after-length change indexes);
      primary = after-first change uniques fine.primary;
      named = after-all (λ name. is_some name ≡ true) change indexes fine.named;
      differ = rw (after-names change uniques, after-names change indexes) fine.differ;
    }

changed-keys : (change : PlaceChange) (uniques indexes : List Index) → FineKeys uniques indexes → FineKeys (keys_after change uniques) (indexes_after change indexes)
changed-keys change uniques indexes fine = keys-left (keys_after change uniques) (keys_after change uniques) (indexes_after change indexes) (keys_after change indexes) (left-own (keys_after change uniques)) (left-filter has_places (keys_after change indexes)) (after-fine change uniques indexes fine)

-- one index more, of a name that no key has
differ-more : (names : List (List ℕ)) (name : List ℕ) → Differ names → AllByRecursion (λ known. same_name known name ≡ false) names → Differ (names ++ name ∷ [])
differ-more [] name differ free = (tt, tt)
differ-more (known ∷ names) name differ free = (All-append (λ other. same_name known other ≡ false) names (name ∷ []) differ.0 (free.0, tt), differ-more names name differ.1 free.1)

free-names : (names : List (List ℕ)) (name : List ℕ) → is_among names name ≡ false → AllByRecursion (λ known. same_name known name ≡ false) names
unfolding is_among
free-names [] name e = tt
free-names (known ∷ names) name e = let two = or_parts (same_name known name) _ e in (two.0, free-names names name two.1)

one-more : (indexes : List Index) (index : Index) (name : List ℕ) → index.name ≡ Some name → key_names (indexes ++ index ∷ []) ≡ key_names indexes ++ name ∷ []
one-more indexes index name e = filter_map-append (λ (i : Index). i.name) indexes (index ∷ []) ∙ rw e refl

index-fine : (uniques indexes : List Index) (index : Index) (name : List ℕ) → index.name ≡ Some name → is_among (key_names uniques ++ key_names indexes) name ≡ false → length indexes < 8 → FineKeys uniques indexes → FineKeys uniques (indexes ++ index ∷ [])
index-fine uniques indexes index name e free few fine =
    let names : key_names uniques ++ key_names (indexes ++ index ∷ []) ≡ (key_names uniques ++ key_names indexes) ++ name ∷ [] = ap (λ (ns : List (List ℕ)). key_names uniques ++ ns) (one-more indexes index name e) ∙ sym (append_assoc (key_names uniques) (key_names indexes) (name ∷ [])) in
    let has : HasName index = rw e refl in
    record {
      few_uniques = fine.few_uniques;
      few_indexes = omega (arith, few, length-append indexes (index ∷ []));
      primary = fine.primary;
      named = All-append HasName indexes (index ∷ []) fine.named (has, tt);
      differ = subst Differ (sym names) (differ-more (key_names uniques ++ key_names indexes) name fine.differ (free-names (key_names uniques ++ key_names indexes) name free));
    }

-- ---- defaults

sum-by-left : {xs ys : List Column} → Left Column xs ys → sum_by (λ (c : Column). default_size c.default) xs ≤ sum_by (λ (c : Column). default_size c.default) ys
sum-by-left done = omega arith
sum-by-left (out {y = y} {xs = xs} {ys = ys} left) =
    let rest = sum-by-left left in
    let cons = sum_by-cons (λ (c : Column). default_size c.default) y ys in
    omega (arith, rest, cons)
sum-by-left (kept {y = y} {xs = xs} {ys = ys} left) =
    let rest = sum-by-left left in
    let cons = sum_by-cons (λ (c : Column). default_size c.default) y ys in
    let own = sum_by-cons (λ (c : Column). default_size c.default) y xs in
    omega (arith, rest, cons, own)

sum-left : (xs ys : List Column) → Left Column xs ys → sum_by (λ (c : Column). default_size c.default) xs ≤ sum_by (λ (c : Column). default_size c.default) ys
sum-left xs ys left = sum-by-left left

fit-left : (xs ys : List Column) → Left Column xs ys → defaults_fit ys ≡ true → defaults_fit xs ≡ true
unfolding defaults_fit
fit-left xs ys left fit = le-leb _ _ (le_trans {k = 4096} (sum-left xs ys left) (leb-true _ _ fit))

sum-set : (columns : List Column) (place : ℕ) (old new : Column) → slice_get columns place ≡ Some old → new.default ≡ old.default → sum_by (λ (c : Column). default_size c.default) (slice_set columns place new) ≡ sum_by (λ (c : Column). default_size c.default) columns
sum-set [] place old new at same = absurd cc
sum-set (column ∷ columns) zero old new at same =
    let f : Column → ℕ = λ c. default_size c.default in
    let is : column ≡ old = cc in
    let first : f new ≡ f column = ap default_size same ∙ ap f (sym is) in
    sum_by-cons f new columns ∙ ap (λ (n : ℕ). n + sum_by f columns) first ∙ sym (sum_by-cons f column columns)
sum-set (column ∷ columns) (suc place) old new at same =
    let f : Column → ℕ = λ c. default_size c.default in
    sum_by-cons f column (slice_set columns place new) ∙ ap (λ (n : ℕ). f column + n) (sum-set columns place old new at same) ∙ sym (sum_by-cons f column columns)

fit-set : (columns : List Column) (place : ℕ) (old new : Column) → slice_get columns place ≡ Some old → new.default ≡ old.default → defaults_fit columns ≡ true → defaults_fit (slice_set columns place new) ≡ true
unfolding defaults_fit
fit-set columns place old new at same fit = ap (λ (n : ℕ). leb n 4096) (sum-set columns place old new at same) ∙ fit

fits-now : (standing next : AlteredSoFar) → fitting standing ≡ Ok next → defaults_fit standing.schema.columns ≡ true
fits-now standing next e = (let_through (defaults_fit standing.schema.columns) standing next codes.Default e).0

-- ---- the changes

add-named : (columns : List Column) (written : NewColumn) (column_position : ColumnPosition) → first_reason (add_reasons columns written column_position) ≡ None → is_column_name written.name ≡ true
add-named columns written column_position none =
    let scope = leb 64 (length columns) || not (is_column_name written.name) || written.auto in
    let second = none_first (not (is_column_position columns column_position)) codes.UnknownName ((has_column columns written.name, codes.RepeatedName) ∷ (scope, codes.Scope) ∷ []) none in
    let third = none_first (has_column columns written.name) codes.RepeatedName ((scope, codes.Scope) ∷ []) second.1 in
    let last = none_first scope codes.Scope [] third.1 in
    not-false (is_column_name written.name) (or_parts (leb 64 (length columns)) (not (is_column_name written.name)) (or_parts (leb 64 (length columns) || not (is_column_name written.name)) written.auto last.0).0).1

column_of-auto : (origin : Option ℕ) (written : NewColumn) (nullable : Bool) (column : Column) → column_of origin written nullable ≡ Ok column → written.auto ≡ column.auto
column_of-auto origin written nullable column e = (column_of-written origin written nullable column e).auto

-- an added column has no AUTO_INCREMENT
add-plain : (columns : List Column) (written : NewColumn) (column_position : ColumnPosition) (column : Column) → written.auto ≡ column.auto → first_reason (add_reasons columns written column_position) ≡ None → column.auto ≡ false
add-plain columns written column_position column same none =
    let scope = leb 64 (length columns) || not (is_column_name written.name) || written.auto in
    let second = none_first (not (is_column_position columns column_position)) codes.UnknownName ((has_column columns written.name, codes.RepeatedName) ∷ (scope, codes.Scope) ∷ []) none in
    let third = none_first (has_column columns written.name) codes.RepeatedName ((scope, codes.Scope) ∷ []) second.1 in
    let last = none_first scope codes.Scope [] third.1 in
    sym same ∙ (or_parts (leb 64 (length columns) || not (is_column_name written.name)) written.auto last.0).1

rename-named : (approve : Bool) (columns : List Column) (place : ℕ) (old new : List ℕ) → first_reason (rename_reasons approve columns place old new) ≡ None → is_column_name new ≡ true
rename-named approve columns place old new none =
    let second = none_first (has_column (remove columns place) new) codes.RepeatedName ((not (is_column_name new), codes.Scope) ∷ (is_unapproved approve old new, codes.RenameNotApproved) ∷ []) none in
    not-false (is_column_name new) (none_first (not (is_column_name new)) codes.Scope ((is_unapproved approve old new, codes.RenameNotApproved) ∷ []) second.1).0

change-named : (schema : Schema) (place : ℕ) (column : Column) (written : NewColumn) (column_position : ColumnPosition) → first_reason (change_reasons schema place column written column_position) ≡ None → is_column_name written.name ≡ true
change-named schema place column written column_position none =
    let converted = is_in_keys schema.uniques place && not (is_key_conversion column.kind written.kind) in
    let scope = not (is_conversion column.kind written.kind) || not (is_column_name written.name) || breaks_counter column written in
    let second = none_first (not (is_column_position (remove schema.columns place) column_position)) codes.UnknownName ((has_column (remove schema.columns place) written.name, codes.RepeatedName) ∷ (converted, codes.KeyColumnConverted) ∷ (scope, codes.Scope) ∷ []) none in
    let third = none_first (has_column (remove schema.columns place) written.name) codes.RepeatedName ((converted, codes.KeyColumnConverted) ∷ (scope, codes.Scope) ∷ []) second.1 in
    let fourth = none_first converted codes.KeyColumnConverted ((scope, codes.Scope) ∷ []) third.1 in
    let last = none_first scope codes.Scope [] fourth.1 in
    not-false (is_column_name written.name) (or_parts (not (is_conversion column.kind written.kind)) (not (is_column_name written.name)) (or_parts (not (is_conversion column.kind written.kind) || not (is_column_name written.name)) (breaks_counter column written) last.0).0).1

table-names : (schema : Schema) → table_names schema ≡ key_names schema.uniques ++ key_names schema.indexes
unfolding table_names
table-names schema = refl

-- the name is none of the keys', and there are fewer than 8 others
index-free : (schema : Schema) (names : List (List ℕ)) (name : List ℕ) → first_reason (index_reasons schema names name) ≡ None → (is_among (key_names schema.uniques ++ key_names schema.indexes) name ≡ false) × (length schema.indexes < 8)
index-free schema names name none =
    let second = none_first (not (are_columns schema.columns names)) codes.UnknownName ((is_among (table_names schema) name, codes.RepeatedName) ∷ (leb 8 (length schema.indexes), codes.Scope) ∷ []) none in
    let third = none_first (is_among (table_names schema) name) codes.RepeatedName ((leb 8 (length schema.indexes), codes.Scope) ∷ []) second.1 in
    let last = none_first (leb 8 (length schema.indexes)) codes.Scope [] third.1 in
    (subst (λ (names : List (List ℕ)). is_among names name ≡ false) (table-names schema) third.0, leb-false 8 (length schema.indexes) last.0)

module _ (begun : Option ℕ) (most : ℕ) (migrated : List ℕ) where
  put_in-declared : (standing : AlteredSoFar) (at : ℕ) (column : Column) → IsFine column → column.auto ≡ false → defaults_fit (put_in standing at column).schema.columns ≡ true → Held begun most migrated standing.schema → Held begun most migrated (put_in standing at column).schema
  unfolding put_in with_columns
  put_in-declared standing at column fine none fit is =
      let columns = declared-columns begun most migrated standing.schema is in
      whole-declared begun most migrated standing.schema (insert standing.schema.columns at column) _ _ is (record { all = All-insert IsFine standing.schema.columns at column fine columns.all; fit = fit; few = subst (λ (n : ℕ). n ≤ most) (sym (count-added standing.schema.columns at column none)) columns.few }) (changed-keys (Added at) standing.schema.uniques standing.schema.indexes (declared-keys begun most migrated standing.schema is))

  taken_out-declared : (standing : AlteredSoFar) (at : ℕ) → Held begun most migrated standing.schema → Held begun most migrated (taken_out standing at).schema
  unfolding taken_out with_columns
  taken_out-declared standing at is =
      let columns = declared-columns begun most migrated standing.schema is in
      let left = left-remove standing.schema.columns at in
      whole-declared begun most migrated standing.schema (remove standing.schema.columns at) _ _ is (record { all = All-taken IsFine standing.schema.columns at columns.all; fit = fit-left (remove standing.schema.columns at) standing.schema.columns left columns.fit; few = le_trans {k = most} (count-less standing.schema.columns at) columns.few })
      (changed-keys (Dropped at) standing.schema.uniques standing.schema.indexes (declared-keys begun most migrated standing.schema is))

  moved_to-declared : (standing : AlteredSoFar) (from to : ℕ) (old column : Column) → slice_get standing.schema.columns from ≡ Some old → column.auto ≡ old.auto → IsFine column → defaults_fit (moved_to standing from to column).schema.columns ≡ true → Held begun most migrated standing.schema → Held begun most migrated (moved_to standing from to column).schema
  unfolding moved_to with_columns
  moved_to-declared standing from to old column at same fine fit is =
      let columns = declared-columns begun most migrated standing.schema is in
      whole-declared begun most migrated standing.schema (insert (remove standing.schema.columns from) to column) _ _ is (record { all = All-insert IsFine (remove standing.schema.columns from) to column fine (All-taken IsFine standing.schema.columns from columns.all); fit = fit; few = subst (λ (n : ℕ). n ≤ most) (sym (count-moved standing.schema.columns from to old column at same)) columns.few })
      (changed-keys (Moved from to) standing.schema.uniques standing.schema.indexes (declared-keys begun most migrated standing.schema is))

  renamed_in-declared : (standing : AlteredSoFar) (place : ℕ) (old : Column) (name : List ℕ) → slice_get standing.schema.columns place ≡ Some old → is_column_name name ≡ true → Held begun most migrated standing.schema → Held begun most migrated (renamed_in standing place (with_name old name)).schema
  unfolding renamed_in
  renamed_in-declared standing place old name at fine is =
      let columns = declared-columns begun most migrated standing.schema is in
      let own = All-at IsFine standing.schema.columns place old columns.all at in
      whole-declared begun most migrated standing.schema (slice_set standing.schema.columns place (with_name old name)) standing.schema.uniques standing.schema.indexes is
      (record { all = All-set IsFine standing.schema.columns place (with_name old name) (fine, own.1) columns.all; fit = fit-set standing.schema.columns place old (with_name old name) at refl columns.fit; few = subst (λ (n : ℕ). n ≤ most) (sym (count-set standing.schema.columns place old (with_name old name) at refl)) columns.few }) (declared-keys begun most migrated standing.schema is)

  -- ---- the clauses

  added-declared : (standing next : AlteredSoFar) (written : NewColumn) (column_position : ColumnPosition) → Held begun most migrated standing.schema → added standing written column_position ≡ Ok next → Held begun most migrated next.schema
  unfolding added
  added-declared standing next written column_position is e =
      let columns = standing.schema.columns in
      let place = column_position_place columns column_position (length columns) in
      let let_in = unless_ok (first_reason (add_reasons columns written column_position)) (column_of None written (unwrap_or written.nullable true) >>= λ column. fitting (put_in standing place column)) next e in
      let made = bind_ok (column_of None written (unwrap_or written.nullable true)) (λ column. fitting (put_in standing place column)) next let_in.1 in
      let fine = column_of-fine None written (unwrap_or written.nullable true) made.0 (add-named columns written column_position let_in.0) made.1 in
      subst (λ (s : AlteredSoFar). Held begun most migrated s.schema) (fitting-is (put_in standing place made.0) next made.2) (put_in-declared standing place made.0 fine (add-plain columns written column_position made.0 (column_of-auto None written (unwrap_or written.nullable true) made.0 made.1) let_in.0) (fits-now (put_in standing place made.0) next made.2) is)

  dropped_at-declared : (standing next : AlteredSoFar) (found : Option (ℕ × Column)) → Held begun most migrated standing.schema → dropped_at standing found ≡ Ok next → Held begun most migrated next.schema
  dropped_at-declared standing next None is e = absurd cc
  dropped_at-declared standing next (Some found) is e =
      subst (λ (s : AlteredSoFar). Held begun most migrated s.schema) (kept_out (is_in_keys standing.schema.uniques found.0) (taken_out standing found.0) next codes.KeyColumnDropped e).1 (taken_out-declared standing found.0 is)

  renamed_at-declared : (approve : Bool) (standing next : AlteredSoFar) (new : List ℕ) (found : Option (ℕ × Column)) → ((f : ℕ × Column) → found ≡ Some f → slice_get standing.schema.columns f.0 ≡ Some f.1) → Held begun most migrated standing.schema
      → renamed_at approve standing new found ≡ Ok next → Held begun most migrated next.schema
  renamed_at-declared approve standing next new None here is e = absurd cc
  renamed_at-declared approve standing next new (Some found) here is e =
      let let_in = unless_ok (first_reason (rename_reasons approve standing.schema.columns found.0 found.1.name new)) (Ok (renamed_in standing found.0 (with_name found.1 new))) next e in
      let fine = rename-named approve standing.schema.columns found.0 found.1.name new let_in.0 in
      subst (λ (s : AlteredSoFar). Held begun most migrated s.schema) (ok_is {C = AlterCode} (renamed_in standing found.0 (with_name found.1 new)) next let_in.1) (renamed_in-declared standing found.0 found.1 new (here found refl) fine is)

  changed_at-declared : (approve : Bool) (standing next : AlteredSoFar) (written : NewColumn) (column_position : ColumnPosition) (found : Option (ℕ × Column)) → ((f : ℕ × Column) → found ≡ Some f → slice_get standing.schema.columns f.0 ≡ Some f.1) → Held begun most migrated standing.schema → changed_at approve standing written column_position found ≡ Ok next → Held begun most migrated next.schema
  changed_at-declared approve standing next written column_position None here is e = absurd cc
  changed_at-declared approve standing next written column_position (Some found) here is e =
      let place = found.0 in
      let others = remove standing.schema.columns place in
      let nullable = changed_nullable standing.schema place written in
      let let_in = unless_ok (first_reason (change_reasons standing.schema place found.1 written column_position)) (changed_column approve standing place found.1 written column_position) next e in
      let made = bind_ok (column_of (origin_at standing place) written nullable) (λ new. (fitting (changed_in standing place column_position new) >>= λ changed. unless_unapproved (is_unapproved approve found.1.name written.name) changed)) next let_in.1 in
      let fit = bind_ok (fitting (changed_in standing place column_position made.0)) (λ changed. unless_unapproved (is_unapproved approve found.1.name written.name) changed) next made.2 in
      let same = fitting-is (changed_in standing place column_position made.0) fit.0 fit.1 ∙ approved-is (is_unapproved approve found.1.name written.name) fit.0 next fit.2 in
      let fine = column_of-fine (origin_at standing place) written nullable made.0 (change-named standing.schema place found.1 written column_position let_in.0) made.1 in
      let auto : made.0.auto ≡ found.1.auto = sym (column_of-auto (origin_at standing place) written nullable made.0 made.1) ∙ changed-auto found.1 written (counter-kept standing.schema place found.1 written column_position let_in.0) in
      subst (λ (s : AlteredSoFar). Held begun most migrated s.schema) same (moved_to-declared standing place (column_position_place others column_position place) found.1 made.0 (here found refl) auto fine (fits-now (changed_in standing place column_position made.0) fit.0 fit.1) is)

  -- ---- indexes

  indexed_as-declared : (standing next : AlteredSoFar) (names : List (List ℕ)) (name : List ℕ) → Held begun most migrated standing.schema → indexed_as standing names name ≡ Ok next → Held begun most migrated next.schema
  indexed_as-declared standing next names name is e =
      let index = index_of standing.schema names name in
      let let_in = unless_ok (first_reason (index_reasons standing.schema names name)) (Ok (with_index standing index)) next e in
      let free = index-free standing.schema names name let_in.0 in
      let keys = index-fine standing.schema.uniques standing.schema.indexes index name refl free.0 free.1 (declared-keys begun most migrated standing.schema is) in
      subst (λ (s : AlteredSoFar). Held begun most migrated s.schema) (ok_is {C = AlterCode} (with_index standing index) next let_in.1)
      (whole-declared begun most migrated standing.schema standing.schema.columns standing.schema.uniques (standing.schema.indexes ++ index ∷ []) is (declared-columns begun most migrated standing.schema is) keys)

  unindexed_at-declared : (standing next : AlteredSoFar) (unique index : Option ℕ) → Held begun most migrated standing.schema → unindexed_at standing unique index ≡ Ok next → Held begun most migrated next.schema
  unindexed_at-declared standing next (Some place) index is e =
      let keys = keys-left (remove standing.schema.uniques place) standing.schema.uniques standing.schema.indexes standing.schema.indexes (left-remove standing.schema.uniques place) (left-own standing.schema.indexes) (declared-keys begun most migrated standing.schema is) in
      subst (λ (s : AlteredSoFar). Held begun most migrated s.schema) (kept_out (is_clustered (clustered_place standing.schema) place) (without_unique standing place) next codes.ClusteredKeyChange e).1
      (whole-declared begun most migrated standing.schema standing.schema.columns (remove standing.schema.uniques place) standing.schema.indexes is (declared-columns begun most migrated standing.schema is) keys)
  unindexed_at-declared standing next None (Some place) is e =
      let keys = keys-left standing.schema.uniques standing.schema.uniques (remove standing.schema.indexes place) standing.schema.indexes (left-own standing.schema.uniques) (left-remove standing.schema.indexes place) (declared-keys begun most migrated standing.schema is) in
      subst (λ (s : AlteredSoFar). Held begun most migrated s.schema) (ok_is {C = AlterCode} (without_index standing place) next e)
      (whole-declared begun most migrated standing.schema standing.schema.columns standing.schema.uniques (remove standing.schema.indexes place) is (declared-columns begun most migrated standing.schema is) keys)
  unindexed_at-declared standing next None None is e = absurd cc

  step-declared : (approve : Bool) (standing next : AlteredSoFar) (clause : Clause) → Held begun most migrated standing.schema → step approve standing clause ≡ Ok next → Held begun most migrated next.schema
  unfolding step dropped renamed changed indexed unindexed
  step-declared approve standing next (Add column column_position) is e = added-declared standing next column column_position is e
  step-declared approve standing next (Drop name) is e = dropped_at-declared standing next (column_named standing.schema.columns name) is e
  step-declared approve standing next (Rename before new) is e = renamed_at-declared approve standing next new (column_named standing.schema.columns before) (column_named-here standing.schema.columns before) is e
  step-declared approve standing next (Change before column column_position) is e = changed_at-declared approve standing next column column_position (column_named standing.schema.columns before) (column_named-here standing.schema.columns before) is e
  step-declared approve standing next (AddIndex name columns) is e = indexed_as-declared standing next columns (index_name standing.schema columns name) is e
  step-declared approve standing next (DropIndex name) is e = unindexed_at-declared standing next (index_place standing.schema.uniques name) (index_place standing.schema.indexes name) is e

  steps-declared : (approve : Bool) (standing next : AlteredSoFar) (clauses : List Clause) → Held begun most migrated standing.schema → steps approve standing clauses ≡ Ok next → Held begun most migrated next.schema
  unfolding steps
  steps-declared approve standing next [] is e = subst (λ (s : AlteredSoFar). Held begun most migrated s.schema) (ok_is {C = AlterCode} standing next e) is
  steps-declared approve standing next (clause ∷ clauses) is e =
      let b = bind_ok (step approve standing clause) (λ s. steps approve s clauses) next e in
      steps-declared approve b.0 next clauses (step-declared approve standing b.0 clause is b.1) b.2

-- what an ALTER leaves of the shape, the start and the AUTO_INCREMENT columns
pub altered-held : (migrated : List ℕ) (approve : Bool) (schema : Schema) (clauses : List Clause) (new : Altered) → IsShaped migrated schema → altered approve schema clauses ≡ Ok new → Held schema.start (count schema.columns) migrated new.0
unfolding altered
altered-held migrated approve schema clauses new is e =
    let b = bind_ok (steps approve (start schema) clauses) (result_of schema) new e in
    let made : Altered = (b.0.schema, map_of b.0.schema.columns b.0.origins) in
    let r = unless_ok (first_reason (result_reasons schema b.0)) (Ok made) new b.2 in
    let held : Held schema.start (count schema.columns) migrated schema = record { shaped = is; start = refl; few = omega arith } in
    subst (λ (n : Altered). Held schema.start (count schema.columns) migrated n.0) (ok_is {C = AlterCode} made new r.1) (steps-declared schema.start (count schema.columns) migrated approve (start schema) b.0 clauses held b.1)
