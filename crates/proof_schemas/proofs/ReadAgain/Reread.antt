-- The schema that a printed text declares is the schema that was printed.
use Rattle.std.proofs.Common.{◌≡◌, ℕ, zero, suc, ◌+◌, ◌<◌, ◌≤◌, Bool, true, false, not, ◌&&◌, ◌||◌, cond, List, [], ◌∷◌, ◌++◌, length, Option, Some, None, unwrap_or, Result, Ok, refl, sym, ap, subst, ◌∙◌, map, arith, append_assoc, append-nil, length-append}
use Rattle.std.specs.Prelude.{is_some, is_none, filter, count_by, position}
use Rattle.std.specs.List.{filter_map, cons_option, list_all, list_any, slice_get, AllByRecursion}
use Rattle.std.proofs.lemmas.Bool.{not-true, le-ltb, lt-ltb, and_parts}
use Rattle.std.proofs.lemmas.List.{length-map, map-append}
use Rattle.std.proofs.lemmas.List.Elements.{filter-append, filter_map-append}
use Rattle.std.proofs.lemmas.List.Sums.{length-filter}
use Rattle.base_values.specs.declared.kind.Kind.{Kind}
use Rattle.base_values.specs.declared.value.Value.{Value}
use Rattle.base_values.specs.declared.value.Value.TheVariants.{Null, Num, Text, Blob}
use Rattle.base_values.specs.StoredValues.{stores}
use Rattle.base_values.specs.declared.gho_schema.schema.Column.{Column}
use Rattle.base_values.specs.declared.gho_schema.schema.Index.{Index}
use Rattle.base_values.specs.declared.gho_schema.schema.Schema.{Schema}
use Rattle.base_values.specs.GhoSchema.Names.{same_name}
use Rattle.sql_grammar.specs.declared.code.SchemaCode.{SchemaCode}
use Rattle.sql_grammar.specs.declared.code.SchemaCode.TheVariants.{BadDefault}
use Rattle.base_values.specs.SchemaRules.Results.{◌>>=◌}
use Rattle.sql_create.specs.declared.keys.NamedKeys.{NamedKeys}
use Rattle.sql_create.specs.declared.parts.Parts.{Parts}
use Rattle.sql_create.specs.declared.written.TableOptions.{TableOptions}
use Rattle.sql_create.specs.declared.written.WrittenColumn.{WrittenColumn}
use Rattle.sql_create.specs.declared.written.WrittenKey.{WrittenKey}
use Rattle.base_values.specs.GhoSchema.ClusteredKey.{is_not_null, may_cluster, clustered_among, clustered_place, unique_at, clustered_key}
use Rattle.base_values.specs.SchemaRules.Reasons.{first_reason, unless}
use Rattle.sql_create.specs.DeclaredSchema.{column_names, size_reasons, are_known, name_reasons, nullable_of, declared_column, declared_columns, primary_index, key_index, schema_of, clustered, keyed, built, declared_parts, declared}
use Rattle.sql_create.specs.AutoColumn.{counting}
use Rattle.base_values.specs.SchemaRules.Defaults.{stored_default, defaults_fit, default_or}
use Rattle.base_values.specs.SchemaRules.Names.{is_among, names_differ, place_of, places_of}
use Rattle.sql_create.specs.Keys.{named_keys}
use Rattle.base_values.specs.SchemaRules.Valid.{StoresDefault, IsColumn, IsKey, IsNotNull, IsValid}
use Rattle.base_values.specs.SchemaRules.Limits.{is_column_name, is_table_name, is_reserved}
use Rattle.base_values.specs.ToolNames.{is_tool_name}
use Rattle.sql_show.specs.SchemaText.{column_name}
use Rattle.sql_create.specs.CreateText.{schema_at}
use Rattle.proof_schemas.proofs.Columns.{made}
use Rattle.proof_schemas.proofs.Counters.{started-counting, counting-again}
use Rattle.base_values.proofs.SchemaRules.Lists.{All-at, All-append, slice_get-map-some, slice_get-within-some}
use Rattle.base_values.proofs.SchemaRules.Steps.{there}
use Rattle.proof_schemas.specs.Printed.Laws.{default_read, line_of, names_read, start_read, table_read}
use Rattle.proof_schemas.specs.ReadAgain.{HasName, PrimaryStandsFirst, key_names, has_default, IsShaped, IsDeclared, PrintedSchemasAreReadAgain}
use Rattle.proof_schemas.proofs.ReadAgain.Differ.{Differ, differ-parts, other-place, place-own, among-own}
use Rattle.proof_schemas.proofs.ReadAgain.Parted.{key_text, primary_text, unique_text, primary_texts, unique_texts, index_texts, parts-read, IsNamedText, text_names, named-are}
use Rattle.proof_schemas.proofs.Printed.Written.{printed-written}

-- ---- the places of keys

abbrev names_of : List Column → List (List ℕ)
names_of columns = map (λ column. column.name) columns

names-lines : (columns : List Column) → column_names (map line_of columns) ≡ names_of columns
names-lines [] = refl
names-lines (column ∷ columns) = ap (λ (names : List (List ℕ)). column.name ∷ names) (names-lines columns)

name-at : (columns : List Column) (place : ℕ) (column : Column) → slice_get columns place ≡ Some column → column_name columns place ≡ column.name
name-at columns place column at = rw at refl

pub All-from-at : {X : Type 0} (P : X → Type 0) (xs : List X) → ((place : ℕ) (x : X) → slice_get xs place ≡ Some x → P x) → AllByRecursion P xs
All-from-at P [] each = tt
All-from-at P (x ∷ xs) each = (each zero x refl, All-from-at P xs (λ place y at. each (suc place) y at))

two-columns : (a b : Column) → there Column a ≡ there Column b → a.nullable ≡ false → b.nullable ≡ true → ⊥
two-columns a b e first second = let same : a ≡ b = cc in let no : false ≡ true = sym first ∙ ap (λ (c : Column). c.nullable) same ∙ second in absurd cc

-- a column is NOT NULL as it is written, unless the PRIMARY KEY makes it so
spare : (among nullable : Bool) → (nullable ≡ true → among ≡ false) → (not among && unwrap_or (cond nullable None (Some false)) true) ≡ nullable
spare among true e = rw (e refl) refl
spare true false e = refl
spare false false e = refl

all-append : {X : Type 0} (test : X → Bool) (xs ys : List X) → list_all test xs ≡ true → list_all test ys ≡ true → list_all test (xs ++ ys) ≡ true
all-append test [] ys first second = second
all-append test (x ∷ xs) ys first second = let two = and_parts (test x) (list_all test xs) first in rw (two.0, all-append test xs ys two.1 second) refl

-- the columns of a PRIMARY KEY that stands first aren't null
abbrev IsStrict : List Column → List Index → Type 0
IsStrict columns [] = Unit {0}
IsStrict columns (index ∷ indexes) = index.name ≡ None → list_all (λ place. is_not_null (slice_get columns place)) index.places ≡ true

module _ (columns : List Column) (differ : Differ (names_of columns)) where
  place-again : (place : ℕ) → place < length columns → place_of (names_of columns) (column_name columns place) ≡ Some place
  place-again place lt =
      let column = slice_get-within-some columns place lt in
      subst (λ (name : List ℕ). place_of (names_of columns) name ≡ Some place) (sym (name-at columns place column.0 column.1)) (place-own (names_of columns) place column.0.name differ (slice_get-map-some (λ (c : Column). c.name) columns place column.0 column.1))

  places-again : (places : List ℕ) → AllByRecursion (λ place. place < length columns) places → filter_map (place_of (names_of columns)) (names_read columns places) ≡ places
  places-again [] all = refl
  places-again (place ∷ places) all = rw (place-again place all.0) (ap (λ (ps : List ℕ). place ∷ ps) (places-again places all.1))

  known-at : (place : ℕ) → place < length columns → is_among (names_of columns) (column_name columns place) ≡ true
  known-at place lt =
      let column = slice_get-within-some columns place lt in
      subst (λ (name : List ℕ). is_among (names_of columns) name ≡ true) (sym (name-at columns place column.0 column.1)) (among-own (names_of columns) place column.0.name (slice_get-map-some (λ (c : Column). c.name) columns place column.0 column.1))

  known-again : (places : List ℕ) → AllByRecursion (λ place. place < length columns) places → are_known (names_of columns) (names_read columns places) ≡ true
  known-again [] all = refl
  known-again (place ∷ places) all = rw (known-at place all.0, known-again places all.1) refl

  abbrev index_again : Index → Option (List ℕ) → Index
  index_again index name = record { name = name; places = places_of (names_of columns) (names_read columns index.places) }

  index-again : (index : Index) (name : Option (List ℕ)) → index.name ≡ name → IsKey (length columns) index → index_again index name ≡ index
  unfolding places_of
  index-again index name e key =
      let own = ap (λ (places : List ℕ). record { name = index.name; places = places }) (places-again index.places key.within) in
      ap (λ (n : Option (List ℕ)). index_again index n) (sym e) ∙ own

  -- ---- keys

  abbrev uniques_made : List Index → List Index
  uniques_made indexes = map (primary_index (names_of columns)) (primary_texts columns indexes) ++ map (key_index (names_of columns)) (unique_texts columns indexes)

  one-made : (index : Index) (name : Option (List ℕ)) → index.name ≡ name → IsKey (length columns) index → map (primary_index (names_of columns)) (primary_text columns index name) ++ map (key_index (names_of columns)) (unique_text columns index name) ≡ index ∷ []
  one-made index None e key = ap (λ (i : Index). i ∷ []) (index-again index None e key)
  one-made index (Some name) e key = ap (λ (i : Index). i ∷ []) (index-again index (Some name) e key)

  no-primary : (index : Index) (name : Option (List ℕ)) → is_some name ≡ true → primary_text columns index name ≡ []
  no-primary index None some = absurd cc
  no-primary index (Some name) some = refl

  no-primaries : (indexes : List Index) → AllByRecursion HasName indexes → primary_texts columns indexes ≡ []
  no-primaries [] all = refl
  no-primaries (index ∷ indexes) all = rw (no-primary index index.name all.0, no-primaries indexes all.1) refl

  named-made : (indexes : List Index) → AllByRecursion HasName indexes → AllByRecursion (IsKey (length columns)) indexes → map (key_index (names_of columns)) (unique_texts columns indexes) ≡ indexes
  named-made [] named keys = refl
  named-made (index ∷ indexes) named keys =
      let one = one-made index index.name refl keys.0 in
      let own : map (key_index (names_of columns)) (unique_text columns index index.name) ≡ index ∷ [] = ap (λ (ps : List (List (List ℕ))). map (primary_index (names_of columns)) ps ++ map (key_index (names_of columns)) (unique_text columns index index.name)) (sym (no-primary index index.name named.0)) ∙ one in
      map-append (key_index (names_of columns)) (unique_text columns index index.name) (unique_texts columns indexes) ∙ rw (own, named-made indexes named.1 keys.1) refl

  uniques-again : (indexes : List Index) → PrimaryStandsFirst indexes → AllByRecursion (IsKey (length columns)) indexes → uniques_made indexes ≡ indexes
  uniques-again [] first keys = refl
  uniques-again (index ∷ indexes) first keys =
      let primary = primary_text columns index index.name in
      let own = map (primary_index (names_of columns)) primary in
      let one = map (key_index (names_of columns)) (unique_text columns index index.name) in
      let alone : primary ++ primary_texts columns indexes ≡ primary = ap (λ (ps : List (List (List ℕ))). primary ++ ps) (no-primaries indexes first) ∙ append-nil primary in
      let others : map (key_index (names_of columns)) (unique_text columns index index.name ++ unique_texts columns indexes) ≡ one ++ indexes = map-append (key_index (names_of columns)) (unique_text columns index index.name) (unique_texts columns indexes) ∙ ap (λ (is : List Index). one ++ is) (named-made indexes first keys.1) in
      ap (λ (ps : List (List (List ℕ))). map (primary_index (names_of columns)) ps ++ map (key_index (names_of columns)) (unique_texts columns (index ∷ indexes))) alone
      ∙ ap (λ (is : List Index). own ++ is) others
      ∙ sym (append_assoc own one indexes)
      ∙ ap (λ (is : List Index). is ++ indexes) (one-made index index.name refl keys.0)

  indexes-again : (indexes : List Index) → AllByRecursion (IsKey (length columns)) indexes → map (key_index (names_of columns)) (index_texts columns indexes) ≡ indexes
  indexes-again [] keys = refl
  indexes-again (index ∷ indexes) keys = rw (index-again index index.name refl keys.0, indexes-again indexes keys.1) refl

  primary-known : (index : Index) (name : Option (List ℕ)) → IsKey (length columns) index → list_all (are_known (names_of columns)) (primary_text columns index name) ≡ true
  primary-known index None key = rw (known-again index.places key.within) refl
  primary-known index (Some name) key = refl

  unique-known : (index : Index) (name : Option (List ℕ)) → IsKey (length columns) index → list_all (λ key. are_known (names_of columns) key.text.columns) (unique_text columns index name) ≡ true
  unique-known index None key = refl
  unique-known index (Some name) key = rw (known-again index.places key.within) refl

  primaries-known : (indexes : List Index) → AllByRecursion (IsKey (length columns)) indexes → list_all (are_known (names_of columns)) (primary_texts columns indexes) ≡ true
  primaries-known [] keys = refl
  primaries-known (index ∷ indexes) keys = all-append (are_known (names_of columns)) (primary_text columns index index.name) (primary_texts columns indexes) (primary-known index index.name keys.0) (primaries-known indexes keys.1)

  uniques-known : (indexes : List Index) → AllByRecursion (IsKey (length columns)) indexes → list_all (λ key. are_known (names_of columns) key.text.columns) (unique_texts columns indexes) ≡ true
  uniques-known [] keys = refl
  uniques-known (index ∷ indexes) keys = all-append (λ (key : WrittenKey). are_known (names_of columns) key.text.columns) (unique_text columns index index.name) (unique_texts columns indexes) (unique-known index index.name keys.0) (uniques-known indexes keys.1)

  indexes-known : (indexes : List Index) → AllByRecursion (IsKey (length columns)) indexes → list_all (λ key. are_known (names_of columns) key.text.columns) (index_texts columns indexes) ≡ true
  indexes-known [] keys = refl
  indexes-known (index ∷ indexes) keys = rw (known-again index.places (keys.0).within, indexes-known indexes keys.1) refl

  -- ---- columns

  record AtPlace (place : ℕ) : Type 0 where
    pub column : Column
    pub at : slice_get columns place ≡ Some column
    pub not_null : column.nullable ≡ false

  not_null-some : (place : ℕ) (o : Option Column) → slice_get columns place ≡ o → is_not_null o ≡ true → AtPlace place
  not_null-some place None e is = absurd cc
  not_null-some place (Some column) e is = record { column = column; at = e; not_null = not-true column.nullable is }

  not-among : (places : List ℕ) (own : ℕ) (column : Column) → list_all (λ place. is_not_null (slice_get columns place)) places ≡ true → slice_get columns own ≡ Some column → column.nullable ≡ true → is_among (names_read columns places) column.name ≡ false
  unfolding is_among
  not-among [] own column all at nullable = refl
  not-among (place ∷ places) own column all at nullable =
      let two = and_parts (is_not_null (slice_get columns place)) (list_all (λ place. is_not_null (slice_get columns place)) places) all in
      let here = not_null-some place (slice_get columns place) refl two.0 in
      let apart : place ≡ own → ⊥ = λ e. two-columns here.column column (sym here.at ∙ ap (slice_get columns) e ∙ at) here.not_null nullable in
      let other : same_name here.column.name column.name ≡ false = other-place (names_of columns) place own here.column.name column.name differ (slice_get-map-some (λ (c : Column). c.name) columns place here.column here.at) (slice_get-map-some (λ (c : Column). c.name) columns own column at) apart in
      let named : same_name (column_name columns place) column.name ≡ false = subst (λ (name : List ℕ). same_name name column.name ≡ false) (sym (name-at columns place here.column here.at)) other in
      rw (named, not-among places own column two.1 at nullable) refl

  spared-by : (index : Index) (name : Option (List ℕ)) (own : ℕ) (column : Column) → (name ≡ None → list_all (λ place. is_not_null (slice_get columns place)) index.places ≡ true) → slice_get columns own ≡ Some column → column.nullable ≡ true
      → list_any (λ names. is_among names column.name) (primary_text columns index name) ≡ false
  spared-by index None own column not_null at nullable = rw (not-among index.places own column (not_null refl) at nullable) refl
  spared-by index (Some name) own column not_null at nullable = refl

  spared : (indexes : List Index) (own : ℕ) (column : Column) → PrimaryStandsFirst indexes → IsStrict columns indexes → slice_get columns own ≡ Some column → column.nullable ≡ true → list_any (λ names. is_among names column.name) (primary_texts columns indexes) ≡ false
  spared [] own column first strict at nullable = refl
  spared (index ∷ indexes) own column first strict at nullable =
      let alone : primary_text columns index index.name ++ primary_texts columns indexes ≡ primary_text columns index index.name = ap (λ (ps : List (List (List ℕ))). primary_text columns index index.name ++ ps) (no-primaries indexes first) ∙ append-nil (primary_text columns index index.name) in
      ap (list_any (λ names. is_among names column.name)) alone ∙ spared-by index index.name own column strict at nullable

  nullable-again : (indexes : List Index) (own : ℕ) (column : Column) → PrimaryStandsFirst indexes → IsStrict columns indexes → slice_get columns own ≡ Some column → nullable_of (primary_texts columns indexes) (line_of column) ≡ column.nullable
  nullable-again indexes own column first strict at = spare (list_any (λ names. is_among names column.name) (primary_texts columns indexes)) column.nullable (spared indexes own column first strict at)

-- ---- defaults

null-again : (kind : Kind) (nullable : Bool) → stores Null kind nullable ≡ Ok Null → cond nullable (Some Null) None ≡ Some Null
unfolding stores
null-again kind true e = refl
null-again kind false e = absurd cc

none-again : (nullable : Bool) → (not nullable || false) ≡ true → cond nullable (Some Null) None ≡ None
none-again true e = absurd cc
none-again false e = refl

default-again : (column : Column) (default : Option Value) → StoresDefault column default → (not column.nullable || is_some default) ≡ true → stored_default column.kind column.nullable (default_read default) ≡ Ok default
default-again column None stores has = ap (λ (d : Option Value). Ok d) (none-again column.nullable has)
default-again column (Some Null) stores has = ap (λ (d : Option Value). Ok d) (null-again column.kind column.nullable stores)
default-again column (Some (Num number)) stores has = rw stores refl
default-again column (Some (Text text)) stores has = rw stores refl
default-again column (Some (Blob blob)) stores has = rw stores refl

column-made : (name : List ℕ) (kind : Kind) (nullable other auto : Bool) (written default : Option Value) → other ≡ nullable → stored_default kind nullable written ≡ Ok default
    → (default_or BadDefault (stored_default kind other written) >>= λ d. Ok (made name kind other d auto)) ≡ Ok (made name kind nullable default auto)
column-made name kind nullable other auto written default same stored = rw (same, stored) refl

column-again : (primaries : List (List (List ℕ))) (column : Column) → nullable_of primaries (line_of column) ≡ column.nullable → IsColumn column → has_default column ≡ true → declared_column primaries (line_of column) ≡ Ok column
unfolding declared_column
column-again primaries column nullable is has =
    column-made column.name column.kind column.nullable (nullable_of primaries (line_of column)) column.auto (default_read column.default) column.default nullable (default-again column column.default is.default has)

columns-again : (primaries : List (List (List ℕ))) (columns : List Column) → AllByRecursion (λ column. declared_column primaries (line_of column) ≡ Ok column) columns → declared_columns primaries (map line_of columns) ≡ Ok columns
unfolding declared_columns
columns-again primaries [] all = refl
columns-again primaries (column ∷ columns) all = rw (all.0, columns-again primaries columns all.1) refl

-- ---- keys of both sorts

filter-all : {X : Type 0} (test : X → Bool) (xs : List X) → AllByRecursion (λ x. test x ≡ true) xs → filter test xs ≡ xs
filter-all test [] all = refl
filter-all test (x ∷ xs) all = rw (all.0, filter-all test xs all.1) refl

filter-none : {X : Type 0} (test : X → Bool) (xs : List X) → AllByRecursion (λ x. test x ≡ false) xs → filter test xs ≡ []
filter-none test [] all = refl
filter-none test (x ∷ xs) all = rw (all.0, filter-none test xs all.1) refl

-- the first ones pass and the others don't
filter-front : {X : Type 0} (test : X → Bool) (xs ys : List X) → AllByRecursion (λ x. test x ≡ true) xs → AllByRecursion (λ y. test y ≡ false) ys → filter test (xs ++ ys) ≡ xs
filter-front test xs ys pass fail = filter-append test xs ys ∙ rw (filter-all test xs pass, filter-none test ys fail) (append-nil xs)

filter-back : {X : Type 0} (test : X → Bool) (xs ys : List X) → AllByRecursion (λ x. test x ≡ false) xs → AllByRecursion (λ y. test y ≡ true) ys → filter test (xs ++ ys) ≡ ys
filter-back test xs ys fail pass = filter-append test xs ys ∙ rw (filter-none test xs fail, filter-all test ys pass) refl

module _ (columns : List Column) where
  unique-is : (test : WrittenKey → Bool) (b : Bool) (index : Index) (name : Option (List ℕ)) → ((key : WrittenKey) → key.is_unique ≡ true → test key ≡ b) → AllByRecursion (λ key. test key ≡ b) (unique_text columns index name)
  unique-is test b index None is = tt
  unique-is test b index (Some name) is = (is (key_text true columns index (Some name)) refl, tt)

  uniques-are : (test : WrittenKey → Bool) (b : Bool) (indexes : List Index) → ((key : WrittenKey) → key.is_unique ≡ true → test key ≡ b) → AllByRecursion (λ key. test key ≡ b) (unique_texts columns indexes)
  uniques-are test b [] is = tt
  uniques-are test b (index ∷ indexes) is = All-append (λ (key : WrittenKey). test key ≡ b) (unique_text columns index index.name) (unique_texts columns indexes) (unique-is test b index index.name is) (uniques-are test b indexes is)

  indexes-are : (test : WrittenKey → Bool) (b : Bool) (indexes : List Index) → ((key : WrittenKey) → key.is_unique ≡ false → test key ≡ b) → AllByRecursion (λ key. test key ≡ b) (index_texts columns indexes)
  indexes-are test b [] is = tt
  indexes-are test b (index ∷ indexes) is = (is (key_text false columns index index.name) refl, indexes-are test b indexes is)

  -- the names of the keys as they are written
  unique-names : (index : Index) (name : Option (List ℕ)) (rest : List WrittenKey) → text_names (unique_text columns index name ++ rest) ≡ cons_option name (text_names rest)
  unique-names index None rest = refl
  unique-names index (Some name) rest = refl

  uniques-names : (indexes : List Index) → text_names (unique_texts columns indexes) ≡ key_names indexes
  uniques-names [] = refl
  uniques-names (index ∷ indexes) = unique-names index index.name (unique_texts columns indexes) ∙ ap (λ (names : List (List ℕ)). cons_option index.name names) (uniques-names indexes)

  indexes-names : (indexes : List Index) → text_names (index_texts columns indexes) ≡ key_names indexes
  indexes-names [] = refl
  indexes-names (index ∷ indexes) = ap (λ (names : List (List ℕ)). cons_option index.name names) (indexes-names indexes)

  unique-named : (index : Index) (name : Option (List ℕ)) → AllByRecursion IsNamedText (unique_text columns index name)
  unique-named index None = tt
  unique-named index (Some name) = (refl, tt)

  uniques-named : (indexes : List Index) → AllByRecursion IsNamedText (unique_texts columns indexes)
  uniques-named [] = tt
  uniques-named (index ∷ indexes) = All-append IsNamedText (unique_text columns index index.name) (unique_texts columns indexes) (unique-named index index.name) (uniques-named indexes)

  indexes-named : (indexes : List Index) → AllByRecursion HasName indexes → AllByRecursion IsNamedText (index_texts columns indexes)
  indexes-named [] named = tt
  indexes-named (index ∷ indexes) named = (named.0, indexes-named indexes named.1)

  one-primary : (index : Index) (name : Option (List ℕ)) → length (primary_text columns index name) ≤ 1
  one-primary index None = omega arith
  one-primary index (Some name) = omega arith

few-primaries : (columns : List Column) (differ : Differ (names_of columns)) (indexes : List Index) → PrimaryStandsFirst indexes → length (primary_texts columns indexes) ≤ 1
few-primaries columns differ [] first = omega arith
few-primaries columns differ (index ∷ indexes) first =
    let alone : primary_text columns index index.name ++ primary_texts columns indexes ≡ primary_text columns index index.name = ap (λ (ps : List (List (List ℕ))). primary_text columns index index.name ++ ps) (no-primaries columns differ indexes first) ∙ append-nil (primary_text columns index index.name) in
    let one = one-primary columns index index.name in
    subst (λ (ps : List (List (List ℕ))). length ps ≤ 1) (sym alone) one

-- ---- no reason to refuse

no-size_reason : (migrated name : List ℕ) (parts : Parts) (uniques plain : ℕ) → is_table_name (is_tool_name migrated name) name ≡ true → list_all (λ column. is_column_name column.name) parts.columns ≡ true → is_reserved (is_tool_name migrated name) name ≡ false → length parts.columns ≤ 64
    → count_by (λ key. key.is_unique) parts.keys ≡ uniques → count_by (λ key. not key.is_unique) parts.keys ≡ plain → length parts.primaries + uniques ≤ 8 → plain ≤ 8 → first_reason (size_reasons migrated name parts) ≡ None
no-size_reason migrated name parts uniques plain named columns unreserved few unique_count plain_count few_uniques few_plain =
    rw (named, columns, unreserved, le-ltb 64 (length parts.columns) few, unique_count, plain_count, le-ltb 8 (length parts.primaries + uniques) few_uniques, le-ltb 8 plain few_plain) refl

no-name_reason : (names : List (List ℕ)) (primaries : List (List (List ℕ))) (key_names : List (List ℕ)) (keys : List WrittenKey) → names_differ names ≡ true → length primaries ≤ 1 → names_differ key_names ≡ true → list_all (are_known names) primaries ≡ true → list_all (λ key. are_known names key.text.columns) keys ≡ true
    → first_reason (name_reasons names primaries (record { names = key_names; keys = keys })) ≡ None
no-name_reason names primaries key_names keys differ few keys_differ primaries_known keys_known = rw (differ, le-ltb 1 (length primaries) few, keys_differ, primaries_known, keys_known) refl

clustered-again : (schema : Schema) → defaults_fit schema.columns ≡ true → is_none (clustered_place schema) ≡ false → clustered schema ≡ Ok schema
clustered-again schema fit some = rw (fit, some) refl

some-place : (schema : Schema) (o : Option ℕ) → IsNotNull schema.columns (unique_at schema.uniques o) → is_none o ≡ false
some-place schema None is = absurd is
some-place schema (Some place) is = refl

some-clustered : (schema : Schema) → IsNotNull schema.columns (clustered_key schema) → is_none (clustered_place schema) ≡ false
some-clustered schema is = some-place schema (clustered_place schema) is

-- ---- the PRIMARY KEY is the clustered one

first-clusters : (test : Index → Bool) (first : Index) (others : List Index) → test first ≡ true → position test (first ∷ others) ≡ Some 0
first-clusters test first others passes =
    let some : 0 < length (first ∷ others) = omega arith in
    rw (passes, lt-ltb 0 (length (first ∷ others)) some) refl

primary-may : (columns : List Column) (index : Index) (name : Option (List ℕ)) → index.name ≡ name → name ≡ None → may_cluster columns index ≡ true
primary-may columns index name e none = let gone : index.name ≡ None = e ∙ none in rw gone refl

module _ (name comment : List ℕ) (columns : List Column) (indexes : List Index) where
  abbrev whole : List Index → Schema
  whole uniques = record { name = name; columns = columns; uniques = uniques; indexes = indexes; comment = comment; start = None }

  strict-is : (uniques : List Index) → IsNotNull columns (clustered_key (whole uniques)) → IsStrict columns uniques
  unfolding clustered_among
  strict-is [] is = tt
  strict-is (index ∷ others) is = λ none.
      let at : position (may_cluster columns) (index ∷ others) ≡ Some 0 = first-clusters (may_cluster columns) index others (primary-may columns index index.name refl none) in
      subst (λ (o : Option ℕ). IsNotNull columns (unique_at (index ∷ others) o)) at is

-- ---- the table

abbrev named : List (List ℕ) → List WrittenKey → NamedKeys
named names keys = record { names = names; keys = keys }

line-names : (columns : List Column) → list_all (λ column. is_column_name column.name) columns ≡ true → list_all (λ column. is_column_name column.name) (map line_of columns) ≡ true
line-names [] all = refl
line-names (column ∷ columns) all = let two = and_parts (is_column_name column.name) (list_all (λ column. is_column_name column.name) columns) all in rw (two.0, line-names columns two.1) refl

built-by : (name : List ℕ) (options : TableOptions) (names : List (List ℕ)) (primaries : List (List (List ℕ))) (lines : List WrittenColumn) (keys : NamedKeys) (columns : List Column) (bare schema : Schema) → first_reason (name_reasons names primaries keys) ≡ None
    → declared_columns primaries lines ≡ Ok columns → schema_of name options.comment names primaries keys.keys columns ≡ bare → clustered bare ≡ Ok bare → counting options.start bare ≡ Ok schema → built name options names primaries lines keys ≡ Ok schema
built-by name options names primaries lines keys columns bare schema reason declares whole ends counts =
    ap (λ (r : Option SchemaCode). unless r (declared_columns primaries lines >>= keyed name options names primaries keys)) reason
    ∙ ap (λ (r : Result (List Column) SchemaCode). r >>= keyed name options names primaries keys) declares
    ∙ ap (λ (s : Schema). clustered s >>= counting options.start) whole
    ∙ ap (λ (r : Result Schema SchemaCode). r >>= counting options.start) ends
    ∙ counts

parts-by : (migrated name : List ℕ) (options : TableOptions) (parts : Parts) (names : List (List ℕ)) (keys : NamedKeys) (schema : Schema) → first_reason (size_reasons migrated name parts) ≡ None → column_names parts.columns ≡ names → named_keys names parts.keys ≡ keys
    → built name options names parts.primaries parts.columns keys ≡ Ok schema → declared_parts migrated name options parts ≡ Ok schema
parts-by migrated name options parts names keys schema reason columns named made =
    ap (λ (r : Option SchemaCode). unless r (built name options (column_names parts.columns) parts.primaries parts.columns (named_keys (column_names parts.columns) parts.keys))) reason
    ∙ ap (λ (ns : List (List ℕ)). built name options ns parts.primaries parts.columns (named_keys ns parts.keys)) columns
    ∙ ap (λ (ks : NamedKeys). built name options names parts.primaries parts.columns ks) named
    ∙ made

module _ (schema : Schema) (valid : IsValid schema) where
  abbrev own_names : List (List ℕ)
  own_names = names_of schema.columns

  own-differ : Differ own_names
  own-differ = differ-parts own_names valid.names

  abbrev primaries : List (List (List ℕ))
  primaries = primary_texts schema.columns schema.uniques

  abbrev unique_keys : List WrittenKey
  unique_keys = unique_texts schema.columns schema.uniques

  abbrev plain_keys : List WrittenKey
  plain_keys = index_texts schema.columns schema.indexes

  own-strict : IsStrict schema.columns schema.uniques
  own-strict = strict-is schema.name schema.comment schema.columns schema.indexes schema.uniques valid.clustered

  key-counts : PrimaryStandsFirst schema.uniques → length schema.uniques ≤ 8 → length primaries + length unique_keys ≤ 8
  key-counts first few =
      let names = own_names in
      let made = ap length (uniques-again schema.columns own-differ schema.uniques first valid.uniques) in
      omega (arith, few, made, length-append (map (primary_index names) primaries) (map (key_index names) unique_keys), length-map primaries (primary_index names), length-map unique_keys (key_index names))

  front-keys : filter (λ key. key.is_unique) (unique_keys ++ plain_keys) ≡ unique_keys
  front-keys = filter-front (λ (key : WrittenKey). key.is_unique) unique_keys plain_keys (uniques-are schema.columns (λ key. key.is_unique) true schema.uniques (λ key e. e)) (indexes-are schema.columns (λ key. key.is_unique) false schema.indexes (λ key e. e))

  back-keys : filter (λ key. not key.is_unique) (unique_keys ++ plain_keys) ≡ plain_keys
  back-keys = filter-back (λ (key : WrittenKey). not key.is_unique) unique_keys plain_keys (uniques-are schema.columns (λ key. not key.is_unique) false schema.uniques (λ key e. ap not e)) (indexes-are schema.columns (λ key. not key.is_unique) true schema.indexes (λ key e. ap not e))

  unique-count : count_by (λ key. key.is_unique) (unique_keys ++ plain_keys) ≡ length unique_keys
  unique-count = sym (length-filter (λ (key : WrittenKey). key.is_unique) (unique_keys ++ plain_keys)) ∙ ap length front-keys

  plain-count : count_by (λ key. not key.is_unique) (unique_keys ++ plain_keys) ≡ length schema.indexes
  plain-count = sym (length-filter (λ (key : WrittenKey). not key.is_unique) (unique_keys ++ plain_keys)) ∙ ap length back-keys ∙ length-map schema.indexes (λ index. key_text false schema.columns index index.name)

  -- the schema before it is known where its column starts
  abbrev bare : Schema
  bare = record schema { start = None }

  whole-again : PrimaryStandsFirst schema.uniques → schema_of schema.name schema.comment own_names primaries (unique_keys ++ plain_keys) schema.columns ≡ bare
  unfolding schema_of
  whole-again first = rw (front-keys, back-keys, uniques-again schema.columns own-differ schema.uniques first valid.uniques, indexes-again schema.columns own-differ schema.indexes valid.indexes) refl

  names-again : text_names (unique_keys ++ plain_keys) ≡ key_names schema.uniques ++ key_names schema.indexes
  names-again =
      filter_map-append (λ (key : WrittenKey). key.text.name) unique_keys plain_keys
      ∙ rw (uniques-names schema.columns schema.uniques, indexes-names schema.columns schema.indexes) refl

  module _ (migrated : List ℕ) (declares : IsDeclared migrated schema) where
    abbrev is : IsShaped migrated schema
    is = declares.shaped

    abbrev options : TableOptions
    options = record { comment = schema.comment; start = start_read schema.start }

    own-columns : declared_columns primaries (map line_of schema.columns) ≡ Ok schema.columns
    own-columns =
        columns-again primaries schema.columns
        (All-from-at (λ (column : Column). declared_column primaries (line_of column) ≡ Ok column) schema.columns (λ place column at.
        column-again primaries column (nullable-again schema.columns own-differ schema.uniques place column is.primary own-strict at)
        (All-at IsColumn schema.columns place column valid.columns at) (All-at (λ (c : Column). has_default c ≡ true) schema.columns place column is.has_defaults at)))

    own-named : named_keys own_names (unique_keys ++ plain_keys) ≡ record { names = key_names schema.uniques ++ key_names schema.indexes; keys = unique_keys ++ plain_keys }
    own-named =
        named-are own_names (unique_keys ++ plain_keys) (All-append IsNamedText unique_keys plain_keys (uniques-named schema.columns schema.uniques) (indexes-named schema.columns schema.indexes is.named))
        ∙ ap (λ (names : List (List ℕ)). named names (unique_keys ++ plain_keys)) names-again

    own-known : list_all (λ key. are_known own_names key.text.columns) (unique_keys ++ plain_keys) ≡ true
    own-known = all-append (λ (key : WrittenKey). are_known own_names key.text.columns) unique_keys plain_keys (uniques-known schema.columns own-differ schema.uniques valid.uniques) (indexes-known schema.columns own-differ schema.indexes valid.indexes)

    built-again : built schema.name options own_names primaries (map line_of schema.columns) (named (key_names schema.uniques ++ key_names schema.indexes) (unique_keys ++ plain_keys)) ≡ Ok schema
    built-again =
        let names = key_names schema.uniques ++ key_names schema.indexes in
        let keys = unique_keys ++ plain_keys in
        let reason = no-name_reason own_names primaries names keys valid.names (few-primaries schema.columns own-differ schema.uniques is.primary) is.key_names (primaries-known schema.columns own-differ schema.uniques valid.uniques) own-known in
        built-by schema.name options own_names primaries (map line_of schema.columns) (named names keys) schema.columns bare schema reason own-columns (whole-again is.primary) (clustered-again bare is.defaults (some-clustered bare valid.clustered))
        (counting-again bare schema.start (started-counting schema None declares.counting) declares.start)

    lines-are : list_all (λ column. is_column_name column.name) (map line_of schema.columns) ≡ true
    lines-are = line-names schema.columns is.column_names

    declared-again : declared migrated (table_read schema) ≡ Ok schema
    unfolding declared
    declared-again =
        let lines = map line_of schema.columns in
        let keys = unique_keys ++ plain_keys in
        let parts : Parts = record { columns = lines; primaries = primaries; keys = keys } in
        let few : length lines ≤ 64 = omega (arith, valid.few, length-map schema.columns line_of) in
        let reason = no-size_reason migrated schema.name parts (length unique_keys) (length schema.indexes) is.name lines-are is.unreserved few unique-count plain-count (key-counts is.primary is.few_uniques) is.few_indexes in
        ap (declared_parts migrated schema.name options) (parts-read schema)
        ∙ parts-by migrated schema.name options parts own_names (named (key_names schema.uniques ++ key_names schema.indexes) keys) schema reason (names-lines schema.columns) own-named built-again

pub printed-again : PrintedSchemasAreReadAgain
unfolding schema_at
printed-again version migrated schema can valid is fits = rw (printed-written version schema can valid fits) (declared-again schema valid migrated is)
