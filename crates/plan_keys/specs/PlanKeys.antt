-- *Keys*: what the keys of a plan's document say, or why they are refused. This project's rule.
use Rattle.std.specs.Prelude.{codes, ℕ, ℤ, not, if◌then◌else◌, List, map, Option, Some, None, Result, Ok, Err}
use Rattle.toml.specs.Data.{Data, Items, Members, get_member, as_array, as_table}
use Rattle.base_values.specs.SchemaRules.Results.{◌>>=◌}
use Rattle.plan_data.specs.declared.options.Options.{Options}
use Rattle.plan_keys.specs.declared.fault.KeyRefusal.{KeyRefusal}
use Rattle.plan_keys.specs.declared.fault.KeyRefusal.TheVariants.{UnknownKey, MissingKey, WrongType, TooMany}
use Rattle.plan_keys.specs.declared.options.NumberKeys.{NumberKeys}
use Rattle.plan_keys.specs.declared.options.TruthKeys.{TruthKeys}
use Rattle.plan_keys.specs.declared.texts.TableKeys as code_table
use Rattle.plan_keys.specs.declared.texts.PlanTexts as code_texts
use Rattle.plan_keys.specs.declared.keys.PlanKeys as code_keys
use Rattle.plan_keys.specs.declared.keys.TypedKeys as code_typed
use Rattle.plan_keys.specs.Documents.{needed_text, text_or_empty, texts_or_none, table_or_none, needed_number}
use Rattle.plan_keys.specs.Known.{knows_keys, has_needed_keys}
use Rattle.plan_keys.specs.Limits.{TableData, TextData, has_too_many}
use Rattle.plan_keys.specs.Options.{numbers_in, truths_in, within, options_within}
use Rattle.plan_keys.specs.Walks.{each_item}

-- the version of a plan, its texts and its options
pub record KeyData : Type 0 where
  pub version : ℕ
  pub texts : TextData
  pub options : Options

-- the same before ranges are looked at, with the number at the key `version`
pub record TypedData : Type 0 where
  pub version : ℤ
  pub texts : TextData
  pub numbers : NumberKeys
  pub truths : TruthKeys

-- one of the tables
unfoldable pub table_of : Members → Result TableData KeyRefusal
table_of members = do
  create ← needed_text (get_member (codes "create") members)
  rows ← texts_or_none (get_member (codes "rows") members)
  Ok (record { create = create; rows = rows })

abbrev pub table_in : Option Members → Result TableData KeyRefusal
table_in None = Err WrongType
table_in (Some members) = table_of members

abbrev pub tables_in : Option Items → Result (List TableData) KeyRefusal
tables_in None = Err WrongType
tables_in (Some items) = each_item (λ value. table_in (as_table value)) items

abbrev pub needed_tables : Option Data → Result (List TableData) KeyRefusal
needed_tables None = Err MissingKey
needed_tables (Some value) = tables_in (as_array value)

-- the texts of a plan
unfoldable pub texts_of : Members → Result TextData KeyRefusal
texts_of members = do
  table ← needed_text (get_member (codes "table") members)
  alter ← needed_text (get_member (codes "alter") members)
  tables ← needed_tables (get_member (codes "tables") members)
  clients ← texts_or_none (get_member (codes "clients") members)
  operator ← text_or_empty (get_member (codes "operator") members)
  faults ← texts_or_none (get_member (codes "faults") members)
  turns ← text_or_empty (get_member (codes "turns") members)
  Ok (record { table = table; alter = alter; tables = tables; clients = clients; operator = operator; faults = faults; turns = turns })

-- each value has its type
unfoldable pub typed_of : Members → Result TypedData KeyRefusal
typed_of members = do
  version ← needed_number (get_member (codes "version") members)
  texts ← texts_of members
  options ← table_or_none (get_member (codes "options") members)
  numbers ← numbers_in options
  truths ← truths_in options
  Ok (record { version = version; texts = texts; numbers = numbers; truths = truths })

-- each number is in its range; that of `version` is 1 or 2
unfoldable pub in_range : TypedData → Result KeyData KeyRefusal
in_range keys = do
  version ← within 1 2 keys.version
  options ← options_within keys.numbers keys.truths
  Ok (record { version = version; texts = keys.texts; options = options })

-- no count is over its limit
abbrev pub few : KeyData → Result KeyData KeyRefusal
few keys = if has_too_many keys.texts then Err TooMany else Ok keys

-- *Keys*: the first refusal is that of an unknown key; then of a missing one; then of a value of the wrong type; then of a
-- number out of its range; then of a count over its limit. Each is looked for in the whole document before the next.
unfoldable pub keys_of : Members → Result KeyData KeyRefusal
keys_of members =
    if not (knows_keys members) then Err UnknownKey
    else if not (has_needed_keys members) then Err MissingKey
    else (typed_of members >>= in_range >>= few)

-- what the code found, seen as texts
abbrev pub table_data : code_table.TableKeys → TableData
table_data table = record { create = table.create.now; rows = map (λ row. row.now) table.rows.items }

abbrev pub text_data : code_texts.PlanTexts → TextData
text_data texts = record {
  table = texts.table.now;
  alter = texts.alter.now;
  tables = map table_data texts.tables.items;
  clients = map (λ client. client.now) texts.clients.items;
  operator = texts.operator.now;
  faults = map (λ fault. fault.now) texts.faults.items;
  turns = texts.turns.now;
}

abbrev pub typed_data : code_typed.TypedKeys → TypedData
typed_data keys = record { version = keys.version; texts = text_data keys.texts; numbers = keys.numbers; truths = keys.truths }

abbrev pub key_data : code_keys.PlanKeys → KeyData
key_data keys = record { version = keys.version; texts = text_data keys.texts; options = keys.options }
