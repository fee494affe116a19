-- The defaults of a schema that is read of a text of bytes have bytes, and so have those of the schema that an ALTER leaves of it, and the
-- values of the columns that it adds.
use Rattle.std.proofs.Common.{◌≡◌, ℕ, Bool, true, false, List, [], ◌∷◌, length, Option, Some, None, Result, Ok, Err, unwrap_or, refl}
use Rattle.std.specs.Prelude.{ℤ}
use Rattle.std.specs.List.{AllByRecursion, remove, slice_get}
use Rattle.std.specs.Result.{IfOk}
use Rattle.base_values.specs.declared.gho_schema.schema.Column.{Column}
use Rattle.base_values.specs.declared.gho_schema.schema.Schema.{Schema}
use Rattle.base_values.specs.declared.kind.Kind.{Kind}
use Rattle.base_values.specs.declared.row_conversion.clause.Clause.{Clause}
use Rattle.base_values.specs.declared.row_conversion.clause.Clause.TheVariants.{Add, AddIndex, Change, Drop, DropIndex, Rename}
use Rattle.base_values.specs.declared.row_conversion.clause.ColumnPosition.{ColumnPosition}
use Rattle.base_values.specs.declared.row_conversion.clause.NewColumn.{NewColumn}
use Rattle.base_values.specs.declared.row_conversion.map.MapColumn.{MapColumn}
use Rattle.base_values.specs.declared.unfit.Unfit.{Unfit}
use Rattle.base_values.specs.declared.value.Value.{Value}
use Rattle.base_values.specs.GhoSchema.AutoIncrement.{auto_place}
use Rattle.base_values.specs.SchemaRules.Defaults.{default_or, stored_default}
use Rattle.base_values.specs.SchemaRules.Results.{◌>>=◌}
use Rattle.base_values.proofs.SchemaRules.Lists.{All-append, All-at, fold-keeps}
use Rattle.sql_change.specs.declared.code.AlterCode.TheVariants as codes
use Rattle.sql_change.specs.declared.so_far.AlteredSoFar.{AlteredSoFar}
use Rattle.sql_change.specs.AlteredSchema.{altered, map_of, result_of, source_of, step, steps}
use Rattle.sql_change.specs.AlteredSoFar.{moved_to, origin_at, put_in, start, taken_out, with_columns}
use Rattle.sql_change.specs.ClauseResults.{added, changed, changed_at, changed_column, changed_in, changed_nullable, dropped, dropped_at, is_unapproved, renamed, renamed_at, renamed_in, unless_unapproved, with_name}
use Rattle.sql_change.specs.Columns.{column_named, column_of, column_position_place, fitting, is_in_keys, lacks_default, unless_lacking}
use Rattle.sql_change.specs.IndexClauses.{index_name, index_of, index_place, indexed, unindexed, unindexed_at, with_index, without_unique}
use Rattle.sql_create.specs.declared.keys.NamedKeys.{NamedKeys}
use Rattle.sql_create.specs.declared.parts.Parts.{Parts}
use Rattle.sql_create.specs.declared.written.Item.{Item}
use Rattle.sql_create.specs.declared.written.Item.TheVariants as items
use Rattle.sql_create.specs.declared.written.TableOptions.{TableOptions}
use Rattle.sql_create.specs.declared.written.WrittenColumn.{WrittenColumn}
use Rattle.sql_create.specs.declared.written.WrittenTable.{WrittenTable}
use Rattle.sql_create.specs.AutoColumn.{counting, is_counting, start_of, started}
use Rattle.sql_create.specs.CreateText.{schema_at}
use Rattle.sql_create.specs.DeclaredSchema.{built, clustered, column_names, declared, declared_column, declared_columns, keyed, nullable_of, schema_of}
use Rattle.sql_create.specs.Keys.{named_keys}
use Rattle.sql_create.specs.Parts.{no_parts, parts_of, with_item}
use Rattle.sql_create.specs.Written.{written}
use Rattle.sql_grammar.specs.declared.code.SchemaCode.{SchemaCode}
use Rattle.sql_grammar.specs.declared.code.SchemaCode.TheVariants.{AutoColumn, BadDefault}
use Rattle.sql_grammar.specs.Tokens.{text_words}
use Rattle.proof_schemas.proofs.Alters.Apart.{All-insert, All-set, All-taken}
use Rattle.proof_schemas.proofs.Alters.ReadAgain.Clauses.{SoundClause, SoundNew}
use Rattle.proof_schemas.proofs.Alters.Steps.{column_named-here}
use Rattle.proof_schemas.proofs.ReadAgain.Sound.{text-sound}
use Rattle.proof_schemas.proofs.ReadAgain.SoundSchemas.{default-sound}
use Rattle.proof_schemas.proofs.ReadAgain.SoundTables.{SoundColumn, SoundDefault, SoundItem, written-sound}
use Rattle.proof_plain.specs.Plain.{AreBytes, BytesMap, BytesOrigin, HasBytes, IfThere}
use Rattle.proof_plain.specs.Plans.{HasByteDefaults}
use Rattle.proof_plain.proofs.Values.{sound_bytes}
use Rattle.proof_literals.proofs.ReadBytes.Steps.{ok_if, ok_then, ok_unless, then_ok}

-- ---- values

default_bytes : (default : Option Value) → SoundDefault default → IfThere HasBytes default
default_bytes None sound = tt
default_bytes (Some value) sound = sound_bytes value sound

-- what a column stores of a default that has bytes
stored_bytes : {C : Type 0} (code : C) (kind : Kind) (nullable : Bool) (written : Option Value) → SoundDefault written → IfOk (default_or code (stored_default kind nullable written)) (IfThere HasBytes)
stored_bytes {C} code kind nullable written sound = by (stored_default kind nullable written) refl where
  by : (r : Result (Option Value) Unfit) → stored_default kind nullable written ≡ r → IfOk (default_or code r) (IfThere HasBytes)
  by (Ok default) is = default_bytes default (default-sound kind nullable written default sound is)
  by (Err reason) is = tt

-- ---- CREATE TABLE

abbrev ColumnHas : Column → Type 0
ColumnHas column = IfThere HasBytes column.default

column_bytes : (version : ℕ) (primaries : List (List (List ℕ))) (column : WrittenColumn) → SoundColumn version column → IfOk (declared_column primaries column) ColumnHas
unfolding declared_column
column_bytes version primaries column sound = ok_then (IfThere HasBytes) ColumnHas (default_or BadDefault (stored_default column.kind (nullable_of primaries column) column.attributes.plain.default)) _ (stored_bytes BadDefault column.kind (nullable_of primaries column) column.attributes.plain.default sound.1.0) (λ default is. is)

columns_bytes : (version : ℕ) (primaries : List (List (List ℕ))) (columns : List WrittenColumn) → AllByRecursion (SoundColumn version) columns → IfOk (declared_columns primaries columns) HasByteDefaults
unfolding declared_columns
columns_bytes version primaries [] sound = tt
columns_bytes version primaries (column ∷ columns) sound =
    ok_then ColumnHas HasByteDefaults (declared_column primaries column) _ (column_bytes version primaries column sound.0)
    (λ first is. ok_then HasByteDefaults HasByteDefaults (declared_columns primaries columns) _ (columns_bytes version primaries columns sound.1) (λ others are. (is, are)))

abbrev SchemaHas : Schema → Type 0
SchemaHas schema = HasByteDefaults schema.columns

counting_bytes : (written : Option ℤ) (schema : Schema) → SchemaHas schema → IfOk (counting written schema) SchemaHas
counting_bytes written schema is = ok_if SchemaHas (is_counting schema) (start_of (auto_place schema) written >>= λ start. Ok (started schema start)) (Err AutoColumn) (then_ok SchemaHas (start_of (auto_place schema) written) (λ start. Ok (started schema start)) (λ start. is)) tt

keyed_bytes : (name : List ℕ) (options : TableOptions) (names : List (List ℕ)) (primaries : List (List (List ℕ))) (named : NamedKeys) (columns : List Column) → HasByteDefaults columns → IfOk (keyed name options names primaries named columns) SchemaHas
unfolding schema_of
keyed_bytes name options names primaries named columns are =
    ok_then SchemaHas SchemaHas (clustered (schema_of name options.comment names primaries named.keys columns)) (counting options.start)
    (ok_unless SchemaHas _ (Ok (schema_of name options.comment names primaries named.keys columns)) are) (counting_bytes options.start)

with_item_sound : (version : ℕ) (parts : Parts) (item : Item) → AllByRecursion (SoundColumn version) parts.columns → SoundItem version item → AllByRecursion (SoundColumn version) (with_item parts item).columns
with_item_sound version parts (items.Column column) are is = All-append (SoundColumn version) parts.columns (column ∷ []) are (is, tt)
with_item_sound version parts (items.Primary names) are is = are
with_item_sound version parts (items.Key key) are is = are

parts_sound : (version : ℕ) (written : List Item) → AllByRecursion (SoundItem version) written → AllByRecursion (SoundColumn version) (parts_of written).columns
unfolding parts_of
parts_sound version written all = fold-keeps (λ (parts : Parts). AllByRecursion (SoundColumn version) parts.columns) (SoundItem version) with_item (with_item_sound version) no_parts written tt all

declared_bytes : (version : ℕ) (migrated : List ℕ) (table : WrittenTable) → AllByRecursion (SoundItem version) table.items → IfOk (declared migrated table) SchemaHas
unfolding declared
declared_bytes version migrated table sound =
    let parts : Parts = parts_of table.items in
    let names : List (List ℕ) = column_names parts.columns in
    let named : NamedKeys = named_keys names parts.keys in
    ok_unless SchemaHas _ (built table.name table.options names parts.primaries parts.columns named)
    (ok_unless SchemaHas _ (declared_columns parts.primaries parts.columns >>= keyed table.name table.options names parts.primaries named)
    (ok_then HasByteDefaults SchemaHas (declared_columns parts.primaries parts.columns) (keyed table.name table.options names parts.primaries named) (columns_bytes version parts.primaries parts.columns (parts_sound version table.items sound))
    (λ columns are. keyed_bytes table.name table.options names parts.primaries named columns are)))

-- *Schemas of texts of bytes have defaults of bytes*
pub schema_bytes : (version : ℕ) (migrated text : List ℕ) → AreBytes text → IfOk (schema_at version migrated text) (λ schema. HasByteDefaults schema.columns)
unfolding schema_at
schema_bytes version migrated text are = ok_then (λ (table : WrittenTable). AllByRecursion (SoundItem version) table.items) SchemaHas (written version (text_words text)) (declared migrated) (by (written version (text_words text)) refl) (λ table sound. declared_bytes version migrated table sound) where
  by : (r : Result WrittenTable SchemaCode) → written version (text_words text) ≡ r → IfOk r (λ table. AllByRecursion (SoundItem version) table.items)
  by (Ok table) is = (written-sound version (text_words text) table (text-sound text are) is).items
  by (Err code) is = tt

-- ---- ALTER TABLE

new_column_bytes : (origin : Option ℕ) (written : NewColumn) (nullable : Bool) → SoundNew written → IfOk (column_of origin written nullable) ColumnHas
unfolding column_of
new_column_bytes origin written nullable sound =
    ok_then (IfThere HasBytes) ColumnHas (default_or codes.Default (stored_default written.kind nullable written.default)) _ (stored_bytes codes.Default written.kind nullable written.default sound.1) (λ default is. by default is (lacks_default origin nullable default)) where
      by : (default : Option Value) → IfThere HasBytes default → (lacks : Bool) → IfOk (unless_lacking lacks (record { name = written.name; kind = written.kind; nullable = nullable; default = default; auto = written.auto })) ColumnHas
      by default is true = tt
      by default is false = is

abbrev SoFarHas : AlteredSoFar → Type 0
SoFarHas standing = HasByteDefaults standing.schema.columns

fitting_bytes : (standing : AlteredSoFar) → SoFarHas standing → IfOk (fitting standing) SoFarHas
fitting_bytes standing are = ok_if SoFarHas _ (Ok standing) (Err codes.Default) are tt

put_bytes : (standing : AlteredSoFar) (at : ℕ) (column : Column) → ColumnHas column → SoFarHas standing → SoFarHas (put_in standing at column)
unfolding put_in with_columns
put_bytes standing at column is are = All-insert ColumnHas standing.schema.columns at column is are

taken_bytes : (standing : AlteredSoFar) (at : ℕ) → SoFarHas standing → SoFarHas (taken_out standing at)
unfolding taken_out with_columns
taken_bytes standing at are = All-taken ColumnHas standing.schema.columns at are

moved_bytes : (standing : AlteredSoFar) (from to : ℕ) (column : Column) → ColumnHas column → SoFarHas standing → SoFarHas (moved_to standing from to column)
unfolding moved_to with_columns
moved_bytes standing from to column is are = All-insert ColumnHas (remove standing.schema.columns from) to column is (All-taken ColumnHas standing.schema.columns from are)

added_bytes : (standing : AlteredSoFar) (written : NewColumn) (column_position : ColumnPosition) → SoundNew written → SoFarHas standing → IfOk (added standing written column_position) SoFarHas
unfolding added
added_bytes standing written column_position sound are =
    ok_unless SoFarHas _ _ (ok_then ColumnHas SoFarHas (column_of None written (unwrap_or written.nullable true)) _ (new_column_bytes None written (unwrap_or written.nullable true) sound)
    (λ column is. fitting_bytes _ (put_bytes standing (column_position_place standing.schema.columns column_position (length standing.schema.columns)) column is are)))

dropped_bytes : (standing : AlteredSoFar) (found : Option (ℕ × Column)) → SoFarHas standing → IfOk (dropped_at standing found) SoFarHas
dropped_bytes standing None are = tt
dropped_bytes standing (Some found) are = ok_if SoFarHas (is_in_keys standing.schema.uniques found.0) (Err codes.KeyColumnDropped) (Ok (taken_out standing found.0)) tt (taken_bytes standing found.0 are)

renamed_bytes : (approve : Bool) (standing : AlteredSoFar) (new : List ℕ) (found : Option (ℕ × Column)) → ((f : ℕ × Column) → found ≡ Some f → slice_get standing.schema.columns f.0 ≡ Some f.1) → SoFarHas standing → IfOk (renamed_at approve standing new found) SoFarHas
unfolding renamed_in
renamed_bytes approve standing new None here are = tt
renamed_bytes approve standing new (Some found) here are =
    let own : ColumnHas found.1 = All-at ColumnHas standing.schema.columns found.0 found.1 are (here found refl) in
    ok_unless SoFarHas _ (Ok (renamed_in standing found.0 (with_name found.1 new))) (All-set ColumnHas standing.schema.columns found.0 (with_name found.1 new) own are)

approved_bytes : (unapproved : Bool) (standing : AlteredSoFar) → SoFarHas standing → IfOk (unless_unapproved unapproved standing) SoFarHas
approved_bytes true standing are = tt
approved_bytes false standing are = are

changed_bytes : (approve : Bool) (standing : AlteredSoFar) (written : NewColumn) (column_position : ColumnPosition) (found : Option (ℕ × Column)) → SoundNew written → SoFarHas standing → IfOk (changed_at approve standing written column_position found) SoFarHas
changed_bytes approve standing written column_position None sound are = tt
changed_bytes approve standing written column_position (Some found) sound are =
    let place : ℕ = found.0 in
    ok_unless SoFarHas _ (changed_column approve standing place found.1 written column_position)
    (ok_then ColumnHas SoFarHas (column_of (origin_at standing place) written (changed_nullable standing.schema place written)) _ (new_column_bytes (origin_at standing place) written (changed_nullable standing.schema place written) sound)
    (λ new is. ok_then SoFarHas SoFarHas (fitting (changed_in standing place column_position new)) _ (fitting_bytes (changed_in standing place column_position new) (moved_bytes standing place (column_position_place (remove standing.schema.columns place) column_position place) new is are))
    (λ next kept. approved_bytes (is_unapproved approve found.1.name written.name) next kept)))

unindexed_bytes : (standing : AlteredSoFar) (unique index : Option ℕ) → SoFarHas standing → IfOk (unindexed_at standing unique index) SoFarHas
unindexed_bytes standing (Some place) index are = ok_if SoFarHas _ (Err codes.ClusteredKeyChange) (Ok (without_unique standing place)) tt are
unindexed_bytes standing None (Some place) are = are
unindexed_bytes standing None None are = tt

step_bytes : (approve : Bool) (standing : AlteredSoFar) (clause : Clause) → SoundClause clause → SoFarHas standing → IfOk (step approve standing clause) SoFarHas
unfolding step dropped renamed changed indexed unindexed
step_bytes approve standing (Add column column_position) sound are = added_bytes standing column column_position sound are
step_bytes approve standing (Drop name) sound are = dropped_bytes standing (column_named standing.schema.columns name) are
step_bytes approve standing (Rename old new) sound are = renamed_bytes approve standing new (column_named standing.schema.columns old) (column_named-here standing.schema.columns old) are
step_bytes approve standing (Change old column column_position) sound are = changed_bytes approve standing column column_position (column_named standing.schema.columns old) sound are
step_bytes approve standing (AddIndex name columns) sound are = ok_unless SoFarHas _ (Ok (with_index standing (index_of standing.schema columns (index_name standing.schema columns name)))) are
step_bytes approve standing (DropIndex name) sound are = unindexed_bytes standing (index_place standing.schema.uniques name) (index_place standing.schema.indexes name) are

steps_bytes : (approve : Bool) (standing : AlteredSoFar) (clauses : List Clause) → AllByRecursion SoundClause clauses → SoFarHas standing → IfOk (steps approve standing clauses) SoFarHas
unfolding steps
steps_bytes approve standing [] sound are = are
steps_bytes approve standing (clause ∷ clauses) sound are = ok_then SoFarHas SoFarHas (step approve standing clause) _ (step_bytes approve standing clause sound.0 are) (λ next kept. steps_bytes approve next clauses sound.1 kept)

-- an added column's values are its default
source_bytes : (origin : Option ℕ) (default : Option Value) → IfThere HasBytes default → BytesOrigin (source_of origin default)
source_bytes (Some place) default is = tt
source_bytes None None is = tt
source_bytes None (Some value) is = is

map_bytes : (columns : List Column) (origins : List (Option ℕ)) → HasByteDefaults columns → BytesMap (map_of columns origins)
unfolding map_of
map_bytes [] origins are = tt
map_bytes (column ∷ columns) [] are = tt
map_bytes (column ∷ columns) (origin ∷ origins) are = (source_bytes origin column.default are.0, map_bytes columns origins are.1)

abbrev NewHas : Schema × List MapColumn → Type 0
NewHas new = HasByteDefaults new.0.columns × BytesMap new.1

-- *Altered schemas have defaults of bytes*, and so have the columns that are added
pub altered_bytes : (approve : Bool) (schema : Schema) (clauses : List Clause) → AllByRecursion SoundClause clauses → HasByteDefaults schema.columns → IfOk (altered approve schema clauses) (λ new. HasByteDefaults new.0.columns × BytesMap new.1)
unfolding altered
altered_bytes approve schema clauses sound are =
    ok_then SoFarHas NewHas (steps approve (start schema) clauses) (result_of schema) (steps_bytes approve (start schema) clauses sound are)
    (λ standing kept. ok_unless NewHas _ (Ok (standing.schema, map_of standing.schema.columns standing.origins)) (kept, map_bytes standing.schema.columns standing.origins kept))
