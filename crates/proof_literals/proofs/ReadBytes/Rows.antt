-- The rows of a plan's tables, and the defaults of their columns, have bytes, where the texts that they are read of have.
use Rattle.std.proofs.Common.{◌≡◌, ℕ, Bool, true, false, cond, not, ◌&&◌, List, [], ◌∷◌, ◌++◌, Option, Some, None, Result, Ok, Err, refl, ap, codes}
use Rattle.std.specs.Prelude.{is_some}
use Rattle.std.specs.declared.cmp.Ordering.{Ordering}
use Rattle.std.specs.declared.cmp.Ordering.TheVariants.{Less, Equal, Greater}
use Rattle.std.specs.List.{AllByRecursion}
use Rattle.std.specs.Option.{IfSome, option_and_then}
use Rattle.std.specs.Ordering.{match_ordering}
use Rattle.std.specs.Result.{IfOk, result_ok}
use Rattle.base_values.specs.declared.gho_schema.schema.Column.{Column}
use Rattle.base_values.specs.declared.gho_schema.schema.Schema.{Schema}
use Rattle.base_values.specs.declared.unfit.Unfit.{Unfit}
use Rattle.base_values.specs.declared.value.Value.{Value}
use Rattle.base_values.specs.GhoSchema.Options.{◌>>=◌}
use Rattle.base_values.specs.GhoSchema.Rows.{key_of, key_places, with_row}
use Rattle.base_values.specs.KeyOrder.{compare_keys}
use Rattle.base_values.specs.SchemaRules.Defaults.{stored}
use Rattle.base_values.specs.StoredValues.{stores}
use Rattle.base_values.proofs.SchemaRules.Lists.{All-append, All-weaker}
use Rattle.table_store.specs.Databases.{Database, TableRows, clashing, has_table}
use Rattle.plan_keys.specs.Limits.{TableData}
use Rattle.plan_reader.specs.declared.plan_tables.fault.TableRefusal.TheVariants as refusals
use Rattle.plan_reader.specs.PlanTables.Rows.{next_number, or_bad, put_text, put_texts, with_put}
use Rattle.plan_reader.specs.PlanTables.RowTexts.{is_empty, mark, row_at, row_of, value_at, values_at}
use Rattle.plan_reader.specs.PlanTables.Tables.{newly_named, of_rows, of_schema, table_at, tables_from}
use Rattle.sql_create.specs.CreateText.{schema_at}
use Rattle.sql_grammar.specs.declared.code.SchemaCode.{SchemaCode}
use Rattle.sql_grammar.specs.declared.code.SchemaCode.TheVariants.{RepeatedName}
use Rattle.sql_grammar.specs.declared.token.Token.{Token}
use Rattle.sql_grammar.specs.declared.tokens.TextWords.{TextWords}
use Rattle.sql_grammar.specs.Pieces.{after_sign, literal_at}
use Rattle.sql_grammar.specs.Tokens.{text_words}
use Rattle.proof_schemas.proofs.ReadAgain.Sound.{AreSound, text-sound}
use Rattle.proof_schemas.proofs.ReadAgain.SoundReaders.{after_sign-sound}
use Rattle.proof_schemas.proofs.ReadAgain.SoundSchemas.{default-sound}
use Rattle.proof_schemas.proofs.ReadAgain.SoundValues.{SoundValue}
use Rattle.proof_plain.specs.Plain.{AreBytes, HasBytes}
use Rattle.proof_plain.specs.Plans.{HasByteDefaults}
use Rattle.proof_plain.proofs.Values.{sound_bytes}
use Rattle.proof_literals.proofs.ReadBytes.Schemas.{schema_bytes}
use Rattle.proof_literals.proofs.ReadBytes.Scripts.{Reads, literal_reads}
use Rattle.proof_literals.proofs.ReadBytes.Keys.{BytesTable}
use Rattle.proof_literals.proofs.ReadBytes.Steps.{ok_if, ok_then}

-- ---- a row

there_then : {A B : Type 0} (P : A → Type 0) (Q : B → Type 0) (o : Option A) (f : A → Option B) → IfSome o P → ((x : A) → P x → IfSome (f x) Q) → IfSome (o >>= f) Q
there_then P Q None f first next = tt
there_then P Q (Some x) f first next = next x first

abbrev ValueHas : Value × List Token → Type 0
ValueHas read = SoundValue read.0 × AreSound read.1

literal_has : (read : Result (Value × List Token) SchemaCode) → Reads SoundValue read → IfSome (result_ok read) ValueHas
literal_has (Ok read) is = is
literal_has (Err code) is = tt

-- what a column stores of a literal that has bytes
stored_sound : (value : Value) (column : Column) → SoundValue value → IfSome (result_ok (stores value column.kind column.nullable)) SoundValue
stored_sound value column sound = by (stores value column.kind column.nullable) refl where
  by : (made : Result Value Unfit) → stores value column.kind column.nullable ≡ made → IfSome (result_ok made) SoundValue
  by (Ok made) is = default-sound column.kind column.nullable (Some value) (Some made) sound (ap stored is)
  by (Err reason) is = tt

value_has : (column : Column) (words : List Token) → AreSound words → IfSome (value_at column words) ValueHas
unfolding value_at
value_has column words sound =
    there_then ValueHas ValueHas (result_ok (literal_at words)) _ (literal_has (literal_at words) (literal_reads words sound))
    (λ literal is. there_then SoundValue ValueHas (result_ok (stores literal.0 column.kind column.nullable)) _ (stored_sound literal.0 column is.0) (λ value own. (own, is.1)))

sign_has : (sign : List ℕ) (words : List Token) → AreSound words → IfSome (after_sign sign words) AreSound
sign_has sign words sound = by (after_sign sign words) (after_sign-sound sign words sound) where
  by : (rest : Option (List Token)) → ((left : List Token) → rest ≡ Some left → AreSound left) → IfSome rest AreSound
  by None following = tt
  by (Some rest) following = following rest refl

abbrev ValuesHave : List Value × List Token → Type 0
ValuesHave read = AllByRecursion SoundValue read.0

values_have : (columns : List Column) (is_first : Bool) (words : List Token) → AreSound words → IfSome (values_at columns is_first words) ValuesHave
unfolding values_at
values_have [] is_first words sound = tt
values_have (column ∷ columns) is_first words sound =
    there_then AreSound ValuesHave (after_sign (mark is_first) words) _ (sign_has (mark is_first) words sound)
    (λ rest left. there_then ValueHas ValuesHave (value_at column rest) _ (value_has column rest left)
    (λ value is. there_then ValuesHave ValuesHave (values_at columns false value.1) _ (values_have columns false value.1 is.1) (λ others all. (is.0, all))))

abbrev RowHas : List Value → Type 0
RowHas row = AllByRecursion HasBytes row

row_has : (columns : List Column) (read : TextWords) → AreSound read.words → IfSome (row_of columns read) RowHas
unfolding row_of
row_has columns read sound =
    there_then ValuesHave RowHas (values_at columns true read.words) _ (values_have columns true read.words sound)
    (λ values all. there_then (λ rest. Unit {0}) RowHas (after_sign (codes ")") values.1) _ (any (after_sign (codes ")") values.1))
    (λ rest u. by (is_empty rest && not read.is_faulty) values.0 (All-weaker SoundValue HasBytes sound_bytes values.0 all))) where
      any : (rest : Option (List Token)) → IfSome rest (λ left. Unit {0})
      any None = tt
      any (Some rest) = tt

      by : (b : Bool) (row : List Value) → RowHas row → IfSome (cond b (Some row) None) RowHas
      by true row has = has
      by false row has = tt

-- ---- the rows of a table

abbrev RowsHave : List (List Value) → Type 0
RowsHave rows = AllByRecursion RowHas rows

with_has : (places : List ℕ) (row : List Value) (rows : List (List Value)) → RowHas row → RowsHave rows → RowsHave (with_row places row rows)
unfolding with_row
with_has places row [] has all = (has, tt)
with_has places row (first ∷ rows) has all = by (compare_keys (key_of places row) (key_of places first)) (with_has places row rows has all.1) where
  by : (o : Ordering) → RowsHave (with_row places row rows) → RowsHave (match_ordering o (row ∷ first ∷ rows) (row ∷ first ∷ rows) (first ∷ with_row places row rows))
  by Less rest = (has, all)
  by Equal rest = (has, all)
  by Greater rest = (all.0, rest)

abbrev pub TableHas : TableRows → Type 0
TableHas table = HasByteDefaults table.schema.columns × RowsHave table.rows

put_has : (table : TableRows) (row : List Value) → RowHas row → TableHas table → IfSome (with_put table row) TableHas
put_has table row has all = by (is_some (clashing table row None)) where
  by : (b : Bool) → IfSome (cond b None (Some (record { schema = table.schema; rows = with_row (key_places table.schema) row table.rows }))) TableHas
  by true = tt
  by false = (all.0, with_has (key_places table.schema) row table.rows has all.1)

text_has : (table : TableRows) (text : List ℕ) → AreBytes text → TableHas table → IfSome (put_text table text) TableHas
unfolding put_text
text_has table text are all = by (row_at table.schema.columns text) (row_has table.schema.columns (text_words text) (text-sound text are)) where
  by : (row : Option (List Value)) → IfSome row RowHas → IfSome (option_and_then (with_put table) row) TableHas
  by None has = tt
  by (Some row) has = put_has table row has all

or_has : (number : ℕ) (found : Option TableRows) → IfSome found TableHas → IfOk (or_bad number found) TableHas
or_has number None has = tt
or_has number (Some table) has = has

texts_have : (number : ℕ) (table : TableRows) (texts : List (List ℕ)) → AllByRecursion AreBytes texts → TableHas table → IfOk (put_texts number table texts) TableHas
unfolding put_texts
texts_have number table [] are all = all
texts_have number table (text ∷ texts) are all =
    ok_then TableHas TableHas (or_bad number (put_text table text)) _ (or_has number (put_text table text) (text_has table text are.0 all)) (λ next kept. texts_have (next_number number) next texts are.1 kept)

-- ---- the tables

abbrev SchemaHas : Schema → Type 0
SchemaHas schema = HasByteDefaults schema.columns

schema_has : (number : ℕ) (read : Result Schema SchemaCode) → IfOk read SchemaHas → IfOk (of_schema number read) SchemaHas
schema_has number (Ok schema) has = has
schema_has number (Err code) has = tt

rows_have : (number : ℕ) (read : Result TableRows ℕ) → IfOk read TableHas → IfOk (of_rows number read) TableHas
rows_have number (Ok table) has = has
rows_have number (Err row) has = tt

table_has : (version : ℕ) (migrated : List ℕ) (number : ℕ) (tables : Database) (texts : TableData) → BytesTable texts → IfOk (table_at version migrated number tables texts) TableHas
unfolding table_at
table_has version migrated number tables texts are =
    ok_then SchemaHas TableHas (of_schema number (schema_at version migrated texts.create)) _ (schema_has number (schema_at version migrated texts.create) (schema_bytes version migrated texts.create are.0))
    (λ schema has. ok_then TableHas TableHas (newly_named number tables schema) _ (ok_if TableHas (has_table schema.name tables) (Err (refusals.Schema RepeatedName number)) (Ok (record { schema = schema; rows = [] })) tt (has, tt))
    (λ table all. rows_have number (put_texts 1 table texts.rows) (texts_have 1 table texts.rows are.1 all)))

-- *Tables of texts of bytes have bytes*
pub tables_have : (version : ℕ) (migrated : List ℕ) (number : ℕ) (tables : Database) (texts : List TableData) → AllByRecursion BytesTable texts → AllByRecursion TableHas tables → IfOk (tables_from version migrated number tables texts) (AllByRecursion TableHas)
unfolding tables_from
tables_have version migrated number tables [] are all = all
tables_have version migrated number tables (texts ∷ others) are all =
    ok_then TableHas (AllByRecursion TableHas) (table_at version migrated number tables texts) _ (table_has version migrated number tables texts are.0)
    (λ table has. tables_have version migrated (next_number number) (tables ++ (table ∷ [])) others are.1 (All-append TableHas tables (table ∷ []) all (has, tt)))
