-- Every schema that is read is one that its printed text gives again.
use Rattle.std.proofs.Common.{◌≡◌, ℕ, ◌+◌, ◌≤◌, Bool, true, false, not, ◌&&◌, ◌||◌, cond, ltb, List, [], ◌∷◌, ◌++◌, length, Option, Some, None, Result, Ok, Err, refl, sym, ap, subst, ◌∙◌, map, arith, length-append}
use Rattle.std.specs.Prelude.{is_some, is_none, filter, fold, count_by}
use Rattle.std.specs.List.{cons_option, list_all, AllByRecursion}
use Rattle.std.proofs.Math.Bool.{or-true}
use Rattle.std.proofs.lemmas.Bool.{ltb-false, not-false, and_parts, or_parts}
use Rattle.std.proofs.lemmas.List.{length-map}
use Rattle.std.proofs.lemmas.List.Elements.{filter-append, filter_map-append}
use Rattle.std.proofs.lemmas.List.Sums.{length-filter}
use Rattle.base_values.specs.declared.unfit.Unfit.{Unfit}
use Rattle.base_values.specs.declared.kind.Kind.{Kind}
use Rattle.base_values.specs.declared.value.Value.{Value}
use Rattle.base_values.specs.declared.value.Value.TheVariants.{Null}
use Rattle.base_values.specs.StoredValues.{stores}
use Rattle.base_values.specs.declared.gho_schema.schema.Column.{Column}
use Rattle.base_values.specs.declared.gho_schema.schema.Index.{Index}
use Rattle.base_values.specs.declared.gho_schema.schema.Schema.{Schema}
use Rattle.sql_grammar.specs.declared.code.SchemaCode.{SchemaCode}
use Rattle.sql_grammar.specs.declared.code.SchemaCode.TheVariants.{RepeatedName, UnknownKeyColumn, NoClusteredKey, TooManyColumns, TooManyKeys, NameTooLong, ReservedName, BadDefault}
use Rattle.base_values.specs.SchemaRules.Results.{◌>>=◌}
use Rattle.sql_grammar.specs.Tokens.{text_words}
use Rattle.sql_create.specs.declared.keys.NamedKeys.{NamedKeys}
use Rattle.sql_create.specs.declared.parts.Parts.{Parts}
use Rattle.sql_create.specs.declared.written.TableOptions.{TableOptions}
use Rattle.sql_create.specs.declared.written.WrittenColumn.{WrittenColumn}
use Rattle.sql_create.specs.declared.written.WrittenKey.{WrittenKey}
use Rattle.base_values.specs.GhoSchema.ClusteredKey.{clustered_place}
use Rattle.base_values.specs.SchemaRules.Reasons.{Reasons, first_reason}
use Rattle.sql_create.specs.DeclaredSchema.{column_names, size_reasons, are_known, name_reasons, nullable_of, declared_column, declared_columns, primary_index, key_index, schema_of, clustered, keyed, built, declared_parts, declared}
use Rattle.sql_create.specs.AutoColumn.{started, counting}
use Rattle.base_values.specs.SchemaRules.Defaults.{stored, stored_default, defaults_fit, default_or}
use Rattle.base_values.specs.SchemaRules.Names.{names_differ}
use Rattle.sql_create.specs.Keys.{key_name, no_keys, with_key, named_keys}
use Rattle.base_values.specs.SchemaRules.Limits.{is_column_name, is_table_name, is_reserved}
use Rattle.base_values.specs.ToolNames.{is_tool_name}
use Rattle.sql_create.specs.Parts.{parts_of}
use Rattle.sql_create.specs.CreateText.{schema_at}
use Rattle.sql_create.specs.Written.{written}
use Rattle.proof_schemas.proofs.Columns.{made}
use Rattle.proof_schemas.proofs.Counters.{counted, started-counting}
use Rattle.base_values.proofs.SchemaRules.Lists.{All-append, All-anything, All-filter, All-map, fold-keeps}
use Rattle.base_values.proofs.SchemaRules.Steps.{bind_ok, unless_ok, none_first, ok_is, default_is}
use Rattle.proof_schemas.specs.ReadAgain.{HasName, PrimaryStandsFirst, key_names, has_default, IsShaped, IsDeclared, ReadSchemasAreDeclared}
use Rattle.proof_schemas.proofs.ReadAgain.Differ.{Differ, differ-parts, differ-whole}
use Rattle.proof_schemas.proofs.ReadAgain.Parted.{IsNamedText, text_names}
use Rattle.proof_schemas.proofs.ReadAgain.Sorted.{differ-sorted}

-- ---- what no reason to refuse says

record Sized (migrated name : List ℕ) (parts : Parts) : Type 0 where
  pub named : is_table_name (is_tool_name migrated name) name ≡ true
  pub columns : list_all (λ column. is_column_name column.name) parts.columns ≡ true
  pub unreserved : is_reserved (is_tool_name migrated name) name ≡ false
  pub uniques : length parts.primaries + count_by (λ key. key.is_unique) parts.keys ≤ 8
  pub plain : count_by (λ key. not key.is_unique) parts.keys ≤ 8

sized : (migrated name : List ℕ) (parts : Parts) → first_reason (size_reasons migrated name parts) ≡ None → Sized migrated name parts
sized migrated name parts e =
    let lengths = is_table_name (is_tool_name migrated name) name && list_all (λ column. is_column_name column.name) parts.columns in
    let uniques = length parts.primaries + count_by (λ key. key.is_unique) parts.keys in
    let plain = count_by (λ key. not key.is_unique) parts.keys in
    let fourth : Reasons SchemaCode = (ltb 8 uniques || ltb 8 plain, TooManyKeys) ∷ [] in
    let third : Reasons SchemaCode = (ltb 64 (length parts.columns), TooManyColumns) ∷ fourth in
    let first = none_first (not lengths) NameTooLong ((is_reserved (is_tool_name migrated name) name, ReservedName) ∷ third) e in
    let second = none_first (is_reserved (is_tool_name migrated name) name) ReservedName third first.1 in
    let after = none_first (ltb 64 (length parts.columns)) TooManyColumns fourth second.1 in
    let last = none_first (ltb 8 uniques || ltb 8 plain) TooManyKeys [] after.1 in
    let two = and_parts (is_table_name (is_tool_name migrated name) name) (list_all (λ column. is_column_name column.name) parts.columns) (not-false lengths first.0) in
    let counts = or_parts (ltb 8 uniques) (ltb 8 plain) last.0 in
    record { named = two.0; columns = two.1; unreserved = second.0; uniques = ltb-false 8 uniques counts.0; plain = ltb-false 8 plain counts.1 }

record Named (primaries : List (List (List ℕ))) (named : NamedKeys) : Type 0 where
  pub few : length primaries ≤ 1
  pub differ : names_differ named.names ≡ true

name_reasons-none : (names : List (List ℕ)) (primaries : List (List (List ℕ))) (named : NamedKeys) → first_reason (name_reasons names primaries named) ≡ None → Named primaries named
name_reasons-none names primaries named e =
    let unknown = not (list_all (are_known names) primaries && list_all (λ (key : WrittenKey). are_known names key.text.columns) named.keys) in
    let first = none_first (not (names_differ names) || ltb 1 (length primaries) || not (names_differ named.names)) RepeatedName ((unknown, UnknownKeyColumn) ∷ []) e in
    let two = or_parts (not (names_differ names) || ltb 1 (length primaries)) (not (names_differ named.names)) first.0 in
    let one = or_parts (not (names_differ names)) (ltb 1 (length primaries)) two.0 in
    record { few = ltb-false 1 (length primaries) one.1; differ = not-false (names_differ named.names) two.1 }

-- ---- columns

null-has : (nullable : Bool) → (not nullable || is_some (cond nullable (Some Null) None)) ≡ true
null-has true = refl
null-has false = refl

stored-has : (nullable : Bool) (r : Result Value Unfit) (default : Option Value) → stored r ≡ Ok default → (not nullable || is_some default) ≡ true
stored-has nullable (Ok value) default e = subst (λ (d : Option Value). (not nullable || is_some d) ≡ true) (ok_is {C = Unfit} (Some value) default e) (or-true (not nullable))
stored-has nullable (Err reason) default e = absurd cc

pub default-has : (kind : Kind) (nullable : Bool) (written default : Option Value) → stored_default kind nullable written ≡ Ok default → (not nullable || is_some default) ≡ true
default-has kind nullable (Some value) default e = stored-has nullable (stores value kind nullable) default e
default-has kind nullable None default e = subst (λ (d : Option Value). (not nullable || is_some d) ≡ true) (ok_is {C = Unfit} (cond nullable (Some Null) None) default e) (null-has nullable)

-- what a declared column keeps of the written one, and that it has a default where it may be null
record Kept (written : WrittenColumn) (column : Column) : Type 0 where
  pub name : column.name ≡ written.name
  pub default : has_default column ≡ true

column-kept : (primaries : List (List (List ℕ))) (written : WrittenColumn) (column : Column) → declared_column primaries written ≡ Ok column → Kept written column
unfolding declared_column
column-kept primaries written column e =
    let nullable = nullable_of primaries written in
    let b = bind_ok (default_or BadDefault (stored_default written.kind nullable written.attributes.plain.default)) (λ default. Ok (made written.name written.kind nullable default written.attributes.plain.auto)) column e in
    let has = default-has written.kind nullable written.attributes.plain.default b.0 (default_is BadDefault _ b.0 b.1) in
    subst (Kept written) (ok_is {C = SchemaCode} (made written.name written.kind nullable b.0 written.attributes.plain.auto) column b.2) (record { name = refl; default = has })

abbrev AllKept : List WrittenColumn → List Column → Type 0
AllKept [] [] = Unit {0}
AllKept (written ∷ ws) (column ∷ columns) = Kept written column × AllKept ws columns
AllKept ws columns = ⊥

columns-kept : (primaries : List (List (List ℕ))) (ws : List WrittenColumn) (columns : List Column) → declared_columns primaries ws ≡ Ok columns → AllKept ws columns
unfolding declared_columns
columns-kept primaries [] columns e = subst (AllKept []) (ok_is {C = SchemaCode} [] columns e) tt
columns-kept primaries (w ∷ ws) columns e =
    let a = bind_ok (declared_column primaries w) (λ first. declared_columns primaries ws >>= λ others. Ok (first ∷ others)) columns e in
    let b = bind_ok (declared_columns primaries ws) (λ others. Ok (a.0 ∷ others)) columns a.2 in
    subst (AllKept (w ∷ ws)) (ok_is {C = SchemaCode} (a.0 ∷ b.0) columns b.2) (column-kept primaries w a.0 a.1, columns-kept primaries ws b.0 b.1)

names-fit : (ws : List WrittenColumn) (columns : List Column) → AllKept ws columns → list_all (λ column. is_column_name column.name) ws ≡ true → list_all (λ column. is_column_name column.name) columns ≡ true
names-fit [] [] kept fit = refl
names-fit [] (c ∷ cs) kept fit = absurd kept
names-fit (w ∷ ws) [] kept fit = absurd kept
names-fit (w ∷ ws) (c ∷ cs) kept fit =
    let two = and_parts (is_column_name w.name) (list_all (λ column. is_column_name column.name) ws) fit in
    rw (kept.0.name, two.0, names-fit ws cs kept.1 two.1) refl

have-defaults : (ws : List WrittenColumn) (columns : List Column) → AllKept ws columns → AllByRecursion (λ column. has_default column ≡ true) columns
have-defaults [] [] kept = tt
have-defaults [] (c ∷ cs) kept = absurd kept
have-defaults (w ∷ ws) [] kept = absurd kept
have-defaults (w ∷ ws) (c ∷ cs) kept = (kept.0.default, have-defaults ws cs kept.1)

-- ---- names of keys

-- each key has its name, and the names are theirs
record AreNames (named : NamedKeys) : Type 0 where
  pub all : AllByRecursion IsNamedText named.keys
  pub names : named.names ≡ text_names named.keys

names-more : (names : List (List ℕ)) (named : NamedKeys) (key : WrittenKey) → AreNames named → Unit {0} → AreNames (with_key names named key)
names-more names named key are unit =
    let name = key_name names named.names key.text.columns key.text.name in
    let more : WrittenKey = record { is_unique = key.is_unique; text = record { name = Some name; columns = key.text.columns } } in
    record {
      all = All-append IsNamedText named.keys (more ∷ []) are.all (refl, tt);
      names = ap (λ (ns : List (List ℕ)). ns ++ name ∷ []) are.names ∙ sym (filter_map-append (λ (k : WrittenKey). k.text.name) named.keys (more ∷ []));
    }

names-are : (names : List (List ℕ)) (keys : List WrittenKey) → AreNames (named_keys names keys)
unfolding named_keys
names-are names keys = fold-keeps AreNames (λ (key : WrittenKey). Unit {0}) (with_key names) (names-more names) no_keys keys (record { all = tt; names = refl }) (All-anything (λ (key : WrittenKey). Unit {0}) (λ key. tt) keys)

zero-add : (n : ℕ) → 0 + n ≡ n
zero-add n = omega arith

module _ (by : Bool → Bool) where
  abbrev kept_keys : List WrittenKey → List WrittenKey
  kept_keys keys = filter (λ key. by key.is_unique) keys

  one-kept : (b : Bool) (made key : WrittenKey) (before rest : List WrittenKey) → length (before ++ cond b (made ∷ []) []) + length rest ≡ length before + length (cond b (key ∷ rest) rest)
  one-kept true made key before rest = omega (arith, length-append before (made ∷ []))
  one-kept false made key before rest = omega (arith, length-append {A = WrittenKey} before [])

  fold-kept : (names : List (List ℕ)) (keys : List WrittenKey) (before : NamedKeys) → length (kept_keys (fold (with_key names) before keys).keys) ≡ length (kept_keys before.keys) + length (kept_keys keys)
  fold-kept names [] before = omega arith
  fold-kept names (key ∷ keys) before =
      let more = with_key names before key in
      let one : List WrittenKey = record { is_unique = key.is_unique; text = record { name = Some _; columns = key.text.columns } } ∷ [] in
      fold-kept names keys more
      ∙ ap (λ (ks : List WrittenKey). length ks + length (kept_keys keys)) (filter-append (λ (k : WrittenKey). by k.is_unique) before.keys one)
      ∙ one-kept (by key.is_unique) _ key (kept_keys before.keys) (kept_keys keys)

  named-kept : (names : List (List ℕ)) (keys : List WrittenKey) → length (kept_keys (named_keys names keys).keys) ≡ length (kept_keys keys)
  unfolding named_keys
  named-kept names keys = fold-kept names keys no_keys ∙ zero-add (length (kept_keys keys))

-- ---- keys

module _ (names : List (List ℕ)) where
  have-names : (keys : List WrittenKey) → AllByRecursion IsNamedText keys → AllByRecursion HasName (map (key_index names) keys)
  have-names keys named = All-map IsNamedText HasName (key_index names) (λ key name. name) keys named

  primary-first : (primaries : List (List (List ℕ))) (keys : List WrittenKey) → length primaries ≤ 1 → AllByRecursion IsNamedText keys → PrimaryStandsFirst (map (primary_index names) primaries ++ map (key_index names) keys)
  primary-first [] [] few named = tt
  primary-first [] (key ∷ keys) few named = have-names keys named.1
  primary-first (primary ∷ []) keys few named = have-names keys named
  primary-first (primary ∷ second ∷ primaries) keys few named = absurd (omega arith)

  primaries-nameless : (primaries : List (List (List ℕ))) → key_names (map (primary_index names) primaries) ≡ []
  primaries-nameless [] = refl
  primaries-nameless (primary ∷ primaries) = primaries-nameless primaries

  keys-named : (keys : List WrittenKey) → key_names (map (key_index names) keys) ≡ text_names keys
  keys-named [] = refl
  keys-named (key ∷ keys) = ap (λ (ns : List (List ℕ)). cons_option key.text.name ns) (keys-named keys)

  uniques-named : (primaries : List (List (List ℕ))) (keys : List WrittenKey) → key_names (map (primary_index names) primaries ++ map (key_index names) keys) ≡ text_names keys
  uniques-named primaries keys =
      filter_map-append (λ (index : Index). index.name) (map (primary_index names) primaries) (map (key_index names) keys)
      ∙ rw (primaries-nameless primaries, keys-named keys) refl

-- ---- the schema

module _ (migrated name comment : List ℕ) (parts : Parts) (columns : List Column) where
  abbrev own_names : List (List ℕ)
  own_names = column_names parts.columns

  abbrev own_keys : List WrittenKey
  own_keys = (named_keys own_names parts.keys).keys

  abbrev front_keys : List WrittenKey
  front_keys = filter (λ key. key.is_unique) own_keys

  abbrev back_keys : List WrittenKey
  back_keys = filter (λ key. not key.is_unique) own_keys

  abbrev whole : Schema
  whole = schema_of name comment own_names parts.primaries own_keys columns

  unique-count : length front_keys ≡ count_by (λ key. key.is_unique) parts.keys
  unique-count = named-kept (λ b. b) own_names parts.keys ∙ length-filter (λ (key : WrittenKey). key.is_unique) parts.keys

  plain-count : length back_keys ≡ count_by (λ key. not key.is_unique) parts.keys
  plain-count = named-kept not own_names parts.keys ∙ length-filter (λ (key : WrittenKey). not key.is_unique) parts.keys

  keys-differ : names_differ (named_keys own_names parts.keys).names ≡ true → names_differ (key_names (map (primary_index own_names) parts.primaries ++ map (key_index own_names) front_keys) ++ key_names (map (key_index own_names) back_keys)) ≡ true
  keys-differ e =
      let are = names-are own_names parts.keys in
      let differ : Differ (text_names own_keys) = subst Differ are.names (differ-parts (named_keys own_names parts.keys).names e) in
      let sorted = differ-sorted own_keys are.all differ in
      let apart : key_names (map (primary_index own_names) parts.primaries ++ map (key_index own_names) front_keys) ++ key_names (map (key_index own_names) back_keys) ≡ text_names (front_keys ++ back_keys) =
      rw (uniques-named own_names parts.primaries front_keys, keys-named own_names back_keys) (sym (filter_map-append (λ (key : WrittenKey). key.text.name) front_keys back_keys)) in
      differ-whole _ (subst Differ (sym apart) sorted)

  whole-shaped : Sized migrated name parts → Named parts.primaries (named_keys own_names parts.keys) → AllKept parts.columns columns → defaults_fit columns ≡ true → IsShaped migrated whole
  unfolding schema_of
  whole-shaped sized named kept fit =
      let are = names-are own_names parts.keys in
      let front = map (primary_index own_names) parts.primaries in
      let back = map (key_index own_names) front_keys in
      let some = sized.uniques in
      let others = sized.plain in
      record {
        name = sized.named;
        unreserved = sized.unreserved;
        column_names = names-fit parts.columns columns kept sized.columns;
        few_uniques = omega (arith, some, unique-count, length-append front back, length-map parts.primaries (primary_index own_names), length-map front_keys (key_index own_names));
        few_indexes = omega (arith, others, plain-count, length-map back_keys (key_index own_names));
        primary = primary-first own_names parts.primaries front_keys named.few (All-filter IsNamedText (λ key. key.is_unique) own_keys are.all);
        named = have-names own_names back_keys (All-filter IsNamedText (λ key. not key.is_unique) own_keys are.all);
        key_names = keys-differ named.differ;
        has_defaults = have-defaults parts.columns columns kept;
        defaults = fit;
      }

whole-fit : (name comment : List ℕ) (names : List (List ℕ)) (primaries : List (List (List ℕ))) (keys : List WrittenKey) (columns : List Column) → defaults_fit (schema_of name comment names primaries keys columns).columns ≡ true → defaults_fit columns ≡ true
unfolding schema_of
whole-fit name comment names primaries keys columns fit = fit

-- where its column starts doesn't matter
started-shaped : (migrated : List ℕ) (schema : Schema) (start : Option ℕ) → IsShaped migrated schema → IsShaped migrated (started schema start)
started-shaped migrated schema start is = record {
  name = is.name;
  unreserved = is.unreserved;
  column_names = is.column_names;
  few_uniques = is.few_uniques;
  few_indexes = is.few_indexes;
  primary = is.primary;
  named = is.named;
  key_names = is.key_names;
  has_defaults = is.has_defaults;
  defaults = is.defaults;
}

parts-declared : (migrated name : List ℕ) (options : TableOptions) (parts : Parts) (schema : Schema) → declared_parts migrated name options parts ≡ Ok schema → IsDeclared migrated schema
parts-declared migrated name options parts schema e =
    let names = column_names parts.columns in
    let named = named_keys names parts.keys in
    let outer = unless_ok (first_reason (size_reasons migrated name parts)) (built name options names parts.primaries parts.columns named) schema e in
    let inner = unless_ok (first_reason (name_reasons names parts.primaries named)) (declared_columns parts.primaries parts.columns >>= keyed name options names parts.primaries named) schema outer.1 in
    let columns = bind_ok (declared_columns parts.primaries parts.columns) (keyed name options names parts.primaries named) schema inner.1 in
    let whole = schema_of name options.comment names parts.primaries named.keys columns.0 in
    let through = bind_ok (clustered whole) (counting options.start) schema columns.2 in
    let count = counted options.start through.0 schema through.2 in
    let last = unless_ok (first_reason ((not (defaults_fit whole.columns), BadDefault) ∷ (is_none (clustered_place whole), NoClusteredKey) ∷ [])) (Ok whole) through.0 through.1 in
    let fit = none_first (not (defaults_fit whole.columns)) BadDefault ((is_none (clustered_place whole), NoClusteredKey) ∷ []) last.0 in
    let shaped : IsShaped migrated through.0 = subst (IsShaped migrated) (ok_is {C = SchemaCode} whole through.0 last.1)
    (whole-shaped migrated name options.comment parts columns.0 (sized migrated name parts outer.0) (name_reasons-none names parts.primaries named inner.0) (columns-kept parts.primaries parts.columns columns.0 columns.1) (whole-fit name options.comment names parts.primaries named.keys columns.0 (not-false (defaults_fit whole.columns) fit.0))) in
    subst (IsDeclared migrated) count.same (record { shaped = started-shaped migrated through.0 count.start shaped; counting = started-counting through.0 count.start count.counts; start = count.may })

pub read-declared : ReadSchemasAreDeclared
unfolding schema_at declared
read-declared version migrated text schema e =
    let table = bind_ok (written version (text_words text)) (declared migrated) schema e in
    parts-declared migrated table.0.name table.0.options (parts_of table.0.items) schema table.2
