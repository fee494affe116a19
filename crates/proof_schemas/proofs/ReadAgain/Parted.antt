-- The parts of a table as its printed text writes it.
use Rattle.std.proofs.Common.{◌≡◌, ℕ, Bool, true, false, List, [], ◌∷◌, ◌++◌, Option, Some, None, refl, sym, ap, ◌∙◌, map, append_assoc, append-nil}
use Rattle.std.specs.Prelude.{is_some, fold}
use Rattle.std.specs.List.{filter_map, AllByRecursion}
use Rattle.std.proofs.lemmas.List.Sums.{fold-append}
use Rattle.base_values.specs.declared.gho_schema.schema.Column.{Column}
use Rattle.base_values.specs.declared.gho_schema.schema.Index.{Index}
use Rattle.base_values.specs.declared.gho_schema.schema.Schema.{Schema}
use Rattle.sql_create.specs.declared.keys.NamedKeys.{NamedKeys}
use Rattle.sql_create.specs.declared.parts.Parts.{Parts}
use Rattle.sql_create.specs.declared.written.Item.TheVariants as items
use Rattle.sql_create.specs.declared.written.WrittenColumn.{WrittenColumn}
use Rattle.sql_create.specs.declared.written.WrittenKey.{WrittenKey}
use Rattle.sql_create.specs.Keys.{no_keys, with_key, named_keys}
use Rattle.sql_create.specs.Parts.{no_parts, with_item, parts_of}
use Rattle.proof_schemas.specs.Printed.Laws.{line_of, names_read, unique_read, index_read, table_read}

-- ---- what the lines are

abbrev pub key_text : Bool → List Column → Index → Option (List ℕ) → WrittenKey
key_text is_unique columns index name = record { is_unique = is_unique; text = record { name = name; columns = names_read columns index.places } }

abbrev pub primary_text : List Column → Index → Option (List ℕ) → List (List (List ℕ))
primary_text columns index None = names_read columns index.places ∷ []
primary_text columns index (Some name) = []

abbrev pub unique_text : List Column → Index → Option (List ℕ) → List WrittenKey
unique_text columns index None = []
unique_text columns index (Some name) = key_text true columns index (Some name) ∷ []

abbrev pub primary_texts : List Column → List Index → List (List (List ℕ))
primary_texts columns [] = []
primary_texts columns (index ∷ indexes) = primary_text columns index index.name ++ primary_texts columns indexes

abbrev pub unique_texts : List Column → List Index → List WrittenKey
unique_texts columns [] = []
unique_texts columns (index ∷ indexes) = unique_text columns index index.name ++ unique_texts columns indexes

abbrev pub index_texts : List Column → List Index → List WrittenKey
index_texts columns indexes = map (λ index. key_text false columns index index.name) indexes

-- ---- the parts

abbrev parts : List WrittenColumn → List (List (List ℕ)) → List WrittenKey → Parts
parts columns primaries keys = record { columns = columns; primaries = primaries; keys = keys }

parts-same : (a b : List WrittenColumn) (c d : List (List (List ℕ))) (e f : List WrittenKey) → a ≡ b → c ≡ d → e ≡ f → parts a c e ≡ parts b d f
parts-same a b c d e f first second third = rw (first, second, third) refl

columns-part : (columns : List Column) (ws : List WrittenColumn) (ps : List (List (List ℕ))) (ks : List WrittenKey) → fold with_item (parts ws ps ks) (map (λ column. items.Column (line_of column)) columns) ≡ parts (ws ++ map line_of columns) ps ks
columns-part [] ws ps ks = parts-same ws (ws ++ []) ps ps ks ks (sym (append-nil ws)) refl refl
columns-part (column ∷ columns) ws ps ks =
    let more = ws ++ line_of column ∷ [] in
    let step : parts more (ps ++ []) (ks ++ []) ≡ parts more ps ks = parts-same more more (ps ++ []) ps (ks ++ []) ks refl (append-nil ps) (append-nil ks) in
    ap (λ (p : Parts). fold with_item p (map (λ column. items.Column (line_of column)) columns)) step
    ∙ columns-part columns more ps ks
    ∙ parts-same (more ++ map line_of columns) (ws ++ line_of column ∷ map line_of columns) ps ps ks ks (append_assoc ws (line_of column ∷ []) (map line_of columns)) refl refl

module _ (columns : List Column) where
  unique-part : (index : Index) (name : Option (List ℕ)) (ws : List WrittenColumn) (ps : List (List (List ℕ))) (ks : List WrittenKey) → with_item (parts ws ps ks) (unique_read columns index name) ≡ parts ws (ps ++ primary_text columns index name) (ks ++ unique_text columns index name)
  unique-part index None ws ps ks = parts-same ws ws (ps ++ names_read columns index.places ∷ []) (ps ++ names_read columns index.places ∷ []) ks (ks ++ []) refl refl (sym (append-nil ks))
  unique-part index (Some name) ws ps ks = parts-same ws ws ps (ps ++ []) _ _ refl (sym (append-nil ps)) refl

  uniques-part : (indexes : List Index) (ws : List WrittenColumn) (ps : List (List (List ℕ))) (ks : List WrittenKey)
      → fold with_item (parts ws ps ks) (map (λ index. unique_read columns index index.name) indexes) ≡ parts ws (ps ++ primary_texts columns indexes) (ks ++ unique_texts columns indexes)
  uniques-part [] ws ps ks = parts-same ws ws ps (ps ++ []) ks (ks ++ []) refl (sym (append-nil ps)) (sym (append-nil ks))
  uniques-part (index ∷ indexes) ws ps ks =
      let first = primary_text columns index index.name in
      let one = unique_text columns index index.name in
      ap (λ (p : Parts). fold with_item p (map (λ index. unique_read columns index index.name) indexes)) (unique-part index index.name ws ps ks)
      ∙ uniques-part indexes ws (ps ++ first) (ks ++ one)
      ∙ parts-same ws ws _ _ _ _ refl (append_assoc ps first (primary_texts columns indexes)) (append_assoc ks one (unique_texts columns indexes))

  indexes-part : (indexes : List Index) (ws : List WrittenColumn) (ps : List (List (List ℕ))) (ks : List WrittenKey) → fold with_item (parts ws ps ks) (map (index_read columns) indexes) ≡ parts ws ps (ks ++ index_texts columns indexes)
  indexes-part [] ws ps ks = parts-same ws ws ps ps ks (ks ++ []) refl refl (sym (append-nil ks))
  indexes-part (index ∷ indexes) ws ps ks =
      let one = key_text false columns index index.name in
      indexes-part indexes ws ps (ks ++ one ∷ [])
      ∙ parts-same ws ws ps ps _ _ refl refl (append_assoc ks (one ∷ []) (index_texts columns indexes))

pub parts-read : (schema : Schema) → parts_of (table_read schema).items ≡ parts (map line_of schema.columns) (primary_texts schema.columns schema.uniques) (unique_texts schema.columns schema.uniques ++ index_texts schema.columns schema.indexes)
unfolding parts_of
parts-read schema =
    let columns = map (λ column. items.Column (line_of column)) schema.columns in
    let uniques = map (λ index. unique_read schema.columns index index.name) schema.uniques in
    let indexes = map (index_read schema.columns) schema.indexes in
    fold-append with_item no_parts (columns ++ uniques) indexes
    ∙ ap (λ (p : Parts). fold with_item p indexes) (fold-append with_item no_parts columns uniques ∙ ap (λ (p : Parts). fold with_item p uniques) (columns-part schema.columns [] [] []) ∙ uniques-part schema.columns schema.uniques (map line_of schema.columns) [] [])
    ∙ indexes-part schema.columns schema.indexes (map line_of schema.columns) (primary_texts schema.columns schema.uniques) (unique_texts schema.columns schema.uniques)

-- ---- keys that all have names

abbrev pub IsNamedText : WrittenKey → Type 0
IsNamedText key = is_some key.text.name ≡ true

abbrev pub text_names : List WrittenKey → List (List ℕ)
text_names keys = filter_map (λ key. key.text.name) keys

abbrev named : List (List ℕ) → List WrittenKey → NamedKeys
named names keys = record { names = names; keys = keys }

named-same : (a b : List (List ℕ)) (c d : List WrittenKey) → a ≡ b → c ≡ d → named a c ≡ named b d
named-same a b c d first second = rw (first, second) refl

abbrev of_name : WrittenKey → Option (List ℕ) → WrittenKey
of_name key name = record { is_unique = key.is_unique; text = record { name = name; columns = key.text.columns } }

abbrev own_names : Option (List ℕ) → List (List ℕ)
own_names None = []
own_names (Some name) = name ∷ []

key-named : (columns : List (List ℕ)) (before : NamedKeys) (key : WrittenKey) (name : Option (List ℕ)) → is_some name ≡ true → with_key columns before (of_name key name) ≡ named (before.names ++ own_names name) (before.keys ++ of_name key name ∷ [])
key-named columns before key (Some name) some = refl
key-named columns before key None some = absurd cc

names-first : (key : WrittenKey) (name : Option (List ℕ)) (keys : List WrittenKey) → is_some name ≡ true → text_names (of_name key name ∷ keys) ≡ own_names name ++ text_names keys
names-first key (Some name) keys some = refl
names-first key None keys some = absurd cc

keys-named : (columns : List (List ℕ)) (keys : List WrittenKey) (before : NamedKeys) → AllByRecursion IsNamedText keys → fold (with_key columns) before keys ≡ named (before.names ++ text_names keys) (before.keys ++ keys)
keys-named columns [] before all = named-same before.names (before.names ++ []) before.keys (before.keys ++ []) (sym (append-nil before.names)) (sym (append-nil before.keys))
keys-named columns (key ∷ keys) before all =
    let own = own_names key.text.name in
    let made = named (before.names ++ own) (before.keys ++ key ∷ []) in
    ap (λ (n : NamedKeys). fold (with_key columns) n keys) (key-named columns before key key.text.name all.0)
    ∙ keys-named columns keys made all.1
    ∙ named-same _ _ _ _ (append_assoc before.names own (text_names keys) ∙ ap (λ (ns : List (List ℕ)). before.names ++ ns) (sym (names-first key key.text.name keys all.0))) (append_assoc before.keys (key ∷ []) keys)

pub named-are : (columns : List (List ℕ)) (keys : List WrittenKey) → AllByRecursion IsNamedText keys → named_keys columns keys ≡ record { names = text_names keys; keys = keys }
unfolding named_keys
named-are columns keys all = keys-named columns keys no_keys all
