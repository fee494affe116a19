-- Every schema that is read is lawful.
use Rattle.std.proofs.Common.{◌≡◌, ℕ, ◌<◌, ◌≤◌, Bool, true, false, not, ◌&&◌, ◌||◌, ltb, List, [], ◌∷◌, length, Option, Some, None, Ok, refl, sym, ap, subst, ◌∙◌, map, arith}
use Rattle.std.specs.Prelude.{is_none, filter, position}
use Rattle.std.specs.List.{list_all, list_any, slice_get, AllByRecursion}
use Rattle.std.proofs.lemmas.List.{length-map}
use Rattle.base_values.specs.Laws.{StoresAgain}
use Rattle.base_values.specs.declared.gho_schema.schema.Column.{Column}
use Rattle.base_values.specs.declared.gho_schema.schema.Index.{Index}
use Rattle.base_values.specs.declared.gho_schema.schema.Schema.{Schema}
use Rattle.sql_grammar.specs.declared.code.SchemaCode.{SchemaCode}
use Rattle.sql_grammar.specs.declared.code.SchemaCode.TheVariants.{RepeatedName, UnknownKeyColumn, NoClusteredKey, BadDefault}
use Rattle.base_values.specs.SchemaRules.Results.{◌>>=◌}
use Rattle.sql_grammar.specs.Tokens.{text_words}
use Rattle.sql_create.specs.declared.keys.NamedKeys.{NamedKeys}
use Rattle.sql_create.specs.declared.parts.Parts.{Parts}
use Rattle.sql_create.specs.declared.written.WrittenColumn.{WrittenColumn}
use Rattle.sql_create.specs.declared.written.WrittenKey.{WrittenKey}
use Rattle.base_values.specs.GhoSchema.ClusteredKey.{is_not_null, may_cluster, clustered_among, clustered_place, unique_at, clustered_key}
use Rattle.base_values.specs.SchemaRules.Reasons.{first_reason}
use Rattle.sql_create.specs.declared.written.TableOptions.{TableOptions}
use Rattle.sql_create.specs.AutoColumn.{started, counting}
use Rattle.sql_create.specs.DeclaredSchema.{column_names, size_reasons, are_known, name_reasons, declared_columns, primary_index, key_index, schema_of, clustered, keyed, built, declared_parts, declared}
use Rattle.base_values.specs.SchemaRules.Defaults.{defaults_fit}
use Rattle.base_values.specs.SchemaRules.Names.{is_among, names_differ}
use Rattle.sql_create.specs.Keys.{named_keys}
use Rattle.base_values.specs.SchemaRules.Valid.{IsKey, IsNotNull, IsValid}
use Rattle.sql_create.specs.Parts.{parts_of}
use Rattle.sql_create.specs.CreateText.{schema_at}
use Rattle.sql_create.specs.Written.{written}
use Rattle.sql_create.proofs.Reasons.{few_columns}
use Rattle.proof_schemas.proofs.Columns.{AllBecome, declared_columns-become, names-become, columns-are}
use Rattle.proof_schemas.proofs.Counters.{counted}
use Rattle.proof_schemas.proofs.Grammar.{HasColumns, written-are}
use Rattle.proof_schemas.proofs.Keys.{places-are, names_of-known, primary-not_null}
use Rattle.base_values.proofs.SchemaRules.Lists.{All-map, All-filter, All-append, All-at, All-both, list_all-All, position-found}
use Rattle.proof_schemas.proofs.Parts.{AreParts, parts_of-are, IsNamed, named_keys-are}
use Rattle.base_values.proofs.SchemaRules.Steps.{bind_ok, unless_ok, none_first, ok_is}
use Rattle.std.proofs.lemmas.Bool.{not-false, and_parts, or_parts}

-- ---- the clustered key

-- a key that clusters has no column that may be null
abbrev IsGood : List Column → Index → Type 0
IsGood columns index = is_none index.name ≡ true → list_all (λ place. is_not_null (slice_get columns place)) index.places ≡ true

good-not_null : (columns : List Column) (index : Index) (b : Bool) → is_none index.name ≡ b → IsGood columns index → (b || list_all (λ place. is_not_null (slice_get columns place)) index.places) ≡ true → list_all (λ place. is_not_null (slice_get columns place)) index.places ≡ true
good-not_null columns index true e good passes = good e
good-not_null columns index false e good passes = passes

-- the first key that may cluster is not null, and is one of the keys
pub record Clusters (schema : Schema) : Type 0 where
  pub index : Index
  pub is : clustered_key schema ≡ Some index
  pub not_null : list_all (λ place. is_not_null (slice_get schema.columns place)) index.places ≡ true
  pub place : ℕ
  pub stands : slice_get schema.uniques place ≡ Some index

clusters-at : (schema : Schema) (o : Option ℕ) → position (may_cluster schema.columns) schema.uniques ≡ o → is_none o ≡ false → AllByRecursion (IsGood schema.columns) schema.uniques → clustered_key schema ≡ unique_at schema.uniques o → Clusters schema
clusters-at schema None e some good is = absurd cc
clusters-at schema (Some place) e some good is =
    let found = position-found (may_cluster schema.columns) schema.uniques place e in
    record {
      index = found.item;
      is = is ∙ found.is;
      not_null = good-not_null schema.columns found.item (is_none found.item.name) refl (All-at (IsGood schema.columns) schema.uniques place found.item good found.is) found.passes;
      place = place;
      stands = found.is;
    }

clusters : (schema : Schema) → is_none (clustered_place schema) ≡ false → AllByRecursion (IsGood schema.columns) schema.uniques → Clusters schema
unfolding clustered_among
clusters schema some good = clusters-at schema (position (may_cluster schema.columns) schema.uniques) refl some good refl

not_null-is : (schema : Schema) (c : Clusters schema) → IsNotNull schema.columns (clustered_key schema)
not_null-is schema c = subst (IsNotNull schema.columns) (sym c.is) c.not_null

-- ---- the keys

abbrev names_of : List WrittenColumn → List (List ℕ)
names_of columns = map (λ column. column.name) columns

module _ (primaries : List (List (List ℕ))) (ws : List WrittenColumn) (columns : List Column) (become : AllBecome primaries ws columns) where
  count-is : length (names_of ws) ≡ length columns
  count-is = ap length (sym (names-become primaries ws columns become)) ∙ length-map columns (λ column. column.name)

  primary-are : (names : List (List ℕ)) → HasColumns names × (are_known (names_of ws) names ≡ true) → IsKey (length columns) (primary_index (names_of ws) names)
  primary-are names h = places-are (names_of ws) names (length columns) None count-is h.0 h.1

  key-are : (key : WrittenKey) → IsNamed key × (are_known (names_of ws) key.text.columns ≡ true) → IsKey (length columns) (key_index (names_of ws) key)
  key-are key h = places-are (names_of ws) key.text.columns (length columns) key.text.name count-is h.0.0 h.1

  primaries-are : AllByRecursion HasColumns primaries → list_all (are_known (names_of ws)) primaries ≡ true → AllByRecursion (IsKey (length columns)) (map (primary_index (names_of ws)) primaries)
  primaries-are has known =
      All-map (λ (names : List (List ℕ)). HasColumns names × (are_known (names_of ws) names ≡ true)) (IsKey (length columns)) (primary_index (names_of ws)) primary-are primaries
      (All-both HasColumns (λ (names : List (List ℕ)). are_known (names_of ws) names ≡ true) primaries has (list_all-All (are_known (names_of ws)) primaries known))

  keys-are : (test : WrittenKey → Bool) (keys : List WrittenKey) → AllByRecursion IsNamed keys → list_all (λ key. are_known (names_of ws) key.text.columns) keys ≡ true → AllByRecursion (IsKey (length columns)) (map (key_index (names_of ws)) (filter test keys))
  keys-are test keys named known =
      All-map (λ (key : WrittenKey). IsNamed key × (are_known (names_of ws) key.text.columns ≡ true)) (IsKey (length columns)) (key_index (names_of ws)) key-are (filter test keys)
      (All-filter (λ (key : WrittenKey). IsNamed key × (are_known (names_of ws) key.text.columns ≡ true)) test keys
      (All-both IsNamed (λ (key : WrittenKey). are_known (names_of ws) key.text.columns ≡ true) keys named (list_all-All (λ (key : WrittenKey). are_known (names_of ws) key.text.columns) keys known)))

  good-primaries : AllByRecursion (IsGood columns) (map (primary_index (names_of ws)) primaries)
  good-primaries =
      All-map (λ (names : List (List ℕ)). (name : List ℕ) → is_among names name ≡ true → list_any (λ ns. is_among ns name) primaries ≡ true) (IsGood columns) (primary_index (names_of ws))
      (λ names of_some e. primary-not_null primaries ws columns become names of_some) primaries (names_of-known primaries)

  no_name : (key : WrittenKey) → is_none key.text.name ≡ false → is_none key.text.name ≡ true → ⊥
  no_name key absent there = absurd cc

  good-keys : (keys : List WrittenKey) → AllByRecursion IsNamed keys → AllByRecursion (IsGood columns) (map (key_index (names_of ws)) keys)
  good-keys keys named = All-map IsNamed (IsGood columns) (key_index (names_of ws)) (λ key is e. absurd (no_name key is.1 e)) keys named

-- ---- the table

-- a key with a place within so many columns has some
a_column : (count : ℕ) (places : List ℕ) → 0 < length places → AllByRecursion (λ place. place < count) places → 1 ≤ count
a_column count [] some within = absurd (omega arith)
a_column count (place ∷ places) some within = let lt : place < count = within.0 in omega arith

-- where its column starts doesn't matter
started-valid : (schema : Schema) (start : Option ℕ) → IsValid schema → IsValid (started schema start)
started-valid schema start valid = record {
  some = valid.some;
  few = valid.few;
  names = valid.names;
  columns = valid.columns;
  uniques = valid.uniques;
  indexes = valid.indexes;
  clustered = valid.clustered;
}

built-valid : StoresAgain → (name : List ℕ) (options : TableOptions) (parts : Parts) (named : NamedKeys) (schema : Schema) → AreParts parts → AllByRecursion IsNamed named.keys → length parts.columns ≤ 64
    → built name options (column_names parts.columns) parts.primaries parts.columns named ≡ Ok schema → IsValid schema
unfolding schema_of
built-valid again name options parts named schema are keys few e =
    let names = column_names parts.columns in
    let repeated = not (names_differ names) || ltb 1 (length parts.primaries) || not (names_differ named.names) in
    let unknown = not (list_all (are_known names) parts.primaries && list_all (λ (key : WrittenKey). are_known names key.text.columns) named.keys) in
    let let_in = unless_ok (first_reason (name_reasons names parts.primaries named)) (declared_columns parts.primaries parts.columns >>= keyed name options names parts.primaries named) schema e in
    let second = none_first repeated RepeatedName ((unknown, UnknownKeyColumn) ∷ []) let_in.0 in
    let third = none_first unknown UnknownKeyColumn [] second.1 in
    let differ : names_differ names ≡ true = not-false (names_differ names) (or_parts (not (names_differ names)) (ltb 1 (length parts.primaries)) (or_parts (not (names_differ names) || ltb 1 (length parts.primaries)) (not (names_differ named.names)) second.0).0).0 in
    let known = and_parts (list_all (are_known names) parts.primaries) (list_all (λ (key : WrittenKey). are_known names key.text.columns) named.keys) (not-false _ third.0) in
    let made = bind_ok (declared_columns parts.primaries parts.columns) (keyed name options names parts.primaries named) schema let_in.1 in
    let columns = made.0 in
    let become = declared_columns-become again parts.primaries parts.columns columns are.columns made.1 in
    let whole = schema_of name options.comment names parts.primaries named.keys columns in
    let through = bind_ok (clustered whole) (counting options.start) schema made.2 in
    let count = counted options.start through.0 schema through.2 in
    let last = unless_ok (first_reason ((not (defaults_fit columns), BadDefault) ∷ (is_none (clustered_place whole), NoClusteredKey) ∷ [])) (Ok whole) through.0 through.1 in
    let fit = none_first (not (defaults_fit columns)) BadDefault ((is_none (clustered_place whole), NoClusteredKey) ∷ []) last.0 in
    let some = none_first (is_none (clustered_place whole)) NoClusteredKey [] fit.1 in
    let uniques = All-append (IsKey (length columns)) (map (primary_index names) parts.primaries) (map (key_index names) (filter (λ key. key.is_unique) named.keys)) (primaries-are parts.primaries parts.columns columns become are.primaries known.0) (keys-are parts.primaries parts.columns columns become (λ key. key.is_unique) named.keys keys known.1) in
    let good = All-append (IsGood columns) (map (primary_index names) parts.primaries) (map (key_index names) (filter (λ key. key.is_unique) named.keys)) (good-primaries parts.primaries parts.columns columns become) (good-keys parts.primaries parts.columns columns become (filter (λ key. key.is_unique) named.keys) (All-filter IsNamed (λ key. key.is_unique) named.keys keys)) in
    let cluster = clusters whole some.0 good in
    let one : IsKey (length columns) cluster.index = All-at (IsKey (length columns)) whole.uniques cluster.place cluster.index uniques cluster.stands in
    let same : length columns ≡ length parts.columns = sym (count-is parts.primaries parts.columns columns become) ∙ length-map parts.columns (λ column. column.name) in
    subst IsValid count.same (started-valid through.0 count.start (subst IsValid (ok_is {C = SchemaCode} whole through.0 last.1) (record {
      some = a_column (length columns) cluster.index.places one.some one.within;
      few = omega (arith, same);
      names = subst (λ (ns : List (List ℕ)). names_differ ns ≡ true) (sym (names-become parts.primaries parts.columns columns become)) differ;
      columns = columns-are parts.primaries parts.columns columns become;
      uniques = uniques;
      indexes = keys-are parts.primaries parts.columns columns become (λ key. not key.is_unique) named.keys keys known.1;
      clustered = not_null-is whole cluster;
    })))

declared-valid : StoresAgain → (migrated name : List ℕ) (options : TableOptions) (parts : Parts) (schema : Schema) → AreParts parts → declared_parts migrated name options parts ≡ Ok schema → IsValid schema
declared-valid again migrated name options parts schema are e =
    let names = column_names parts.columns in
    let let_in = unless_ok (first_reason (size_reasons migrated name parts)) (built name options names parts.primaries parts.columns (named_keys names parts.keys)) schema e in
    built-valid again name options parts (named_keys names parts.keys) schema are (named_keys-are names parts.keys are.keys) (few_columns migrated name parts let_in.0) let_in.1

pub read-valid : StoresAgain → (version : ℕ) (migrated text : List ℕ) (schema : Schema) → schema_at version migrated text ≡ Ok schema → IsValid schema
unfolding schema_at declared
read-valid again version migrated text schema e =
    let a = bind_ok (written version (text_words text)) (declared migrated) schema e in
    declared-valid again migrated a.0.name a.0.options (parts_of a.0.items) schema (parts_of-are a.0.items (written-are version (text_words text) a.0 a.1)) a.2
