-- The texts of a plan that was read have bytes: a plan's document is UTF-8, and its texts are made of the document's bytes, of characters
-- that it escapes, and of digits.
use Rattle.std.proofs.Common.{◌≡◌, ℕ, Bool, true, false, cond, ◌||◌, List, [], ◌∷◌, length, Option, Some, None, Result, Ok, Err, unwrap_or, refl, subst}
use Rattle.std.specs.Prelude.{nat_lt}
use Rattle.std.specs.List.{AllByRecursion}
use Rattle.std.specs.Option.{IfSome, option_map}
use Rattle.std.specs.Result.{IfOk, result_ok}
use Rattle.std.specs.Str.{is_utf8}
use Rattle.toml.specs.Data.{Members}
use Rattle.toml.specs.Parse.{parse_document}
use Rattle.base_script.specs.declared.script.ScriptLine.{ScriptLine}
use Rattle.base_values.specs.declared.row_conversion.clause.Clause.{Clause}
use Rattle.base_values.proofs.SchemaRules.Lists.{All-weaker}
use Rattle.table_store.specs.Databases.{Database, TableRows, find_table}
use Rattle.plan_data.specs.PlanData.{Altered, PlanData, new_altered, new_map, new_schema, no_schema, old_schema}
use Rattle.plan_keys.specs.declared.fault.KeyRefusal.{KeyRefusal}
use Rattle.plan_keys.specs.declared.fault.KeyRefusal.TheVariants.{TooMany}
use Rattle.plan_keys.specs.PlanKeys.{KeyData, keys_of}
use Rattle.plan_reader.specs.declared.fault.PlanRefusal.{PlanRefusal}
use Rattle.plan_reader.specs.declared.fault.PlanRefusal.TheVariants.{Keys, Leftover, NotToml, TooLong}
use Rattle.plan_reader.specs.declared.limits.TheConstants.{PLAN_LIMIT}
use Rattle.plan_reader.specs.declared.plan_tables.fault.TableRefusal.{TableRefusal}
use Rattle.plan_reader.specs.Clients.{client_script, clients_of, few_statements, has_many_statements, scripts_of, tool_names}
use Rattle.plan_reader.specs.Openings.{OpeningData, has_left_ghost, has_left_old, migrated_in, opening_of, without_leftovers}
use Rattle.plan_reader.specs.Orders.{few_orders, has_many_orders, orders_of}
use Rattle.plan_reader.specs.Plans.{document, keys_in, plan_at, read}
use Rattle.plan_reader.specs.PlanTables.Rows.{next_number}
use Rattle.plan_reader.specs.PlanTables.Tables.{tables_of}
use Rattle.plan_reader.specs.Refusals.{of_alter, of_keys, of_script, of_tables, or_refused}
use Rattle.plan_reader.specs.Walks.{each_from}
use Rattle.sql_alter.specs.AlterText.{alter_at}
use Rattle.sql_change.specs.declared.code.AlterCode.{AlterCode}
use Rattle.sql_change.specs.AlteredSchema.{altered}
use Rattle.sql_statement.specs.declared.code.ScriptRefusal.{ScriptRefusal}
use Rattle.sql_statement.specs.Scripts.{script_of}
use Rattle.proof_schemas.proofs.Alters.ReadAgain.Clauses.{SoundClause, read-sound}
use Rattle.proof_plans.proofs.ReadPlans.Tables.{found_is}
use Rattle.proof_plain.specs.Plain.{AreBytes, BytesMap}
use Rattle.proof_plain.specs.Plans.{HasByteDefaults, HasByteTexts}
use Rattle.proof_literals.proofs.ReadBytes.Rows.{TableHas, tables_have}
use Rattle.proof_literals.proofs.ReadBytes.Schemas.{altered_bytes}
use Rattle.proof_literals.proofs.ReadBytes.Scripts.{ScriptHas, script_bytes}
use Rattle.proof_literals.proofs.ReadBytes.Documents.{BytesMembers, document_bytes}
use Rattle.proof_literals.proofs.ReadBytes.Strings.{utf8_bytes}
use Rattle.proof_literals.proofs.ReadBytes.Keys.{BytesTexts, keys_bytes}
use Rattle.proof_literals.proofs.ReadBytes.Steps.{ok_if, ok_then, then_ok}

-- ---- the opening

abbrev TablesHave : Database → Type 0
TablesHave tables = AllByRecursion TableHas tables

record OpeningHas (opening : OpeningData) : Type 0 where
  tables : TablesHave opening.tables
  alter : AllByRecursion SoundClause opening.alter

tables_said : (read : Result Database TableRefusal) → IfOk read TablesHave → IfOk (of_tables read) TablesHave
tables_said (Ok tables) have = have
tables_said (Err refusal) have = tt

alter_has : (version : ℕ) (table text : List ℕ) → AreBytes text → IfOk (of_alter (alter_at version table text)) (AllByRecursion SoundClause)
alter_has version table text are = by (alter_at version table text) refl where
  by : (r : Result (List Clause) AlterCode) → alter_at version table text ≡ r → IfOk (of_alter r) (AllByRecursion SoundClause)
  by (Ok clauses) is = read-sound version table text clauses are is
  by (Err code) is = tt

opening_has : (keys : KeyData) → BytesTexts keys.texts → IfOk (opening_of keys) OpeningHas
unfolding opening_of
opening_has keys are =
    ok_then TablesHave OpeningHas (of_tables (tables_of keys.version keys.texts.table keys.texts.tables)) _ (tables_said (tables_of keys.version keys.texts.table keys.texts.tables) (tables_have keys.version keys.texts.table 1 [] keys.texts.tables are.tables tt))
    (λ tables all. then_ok OpeningHas (migrated_in keys.texts.table tables) _
    (λ table. ok_then TablesHave OpeningHas (without_leftovers keys.texts.table keys.options tables) _ (ok_if TablesHave (has_left_ghost keys.texts.table keys.options tables || has_left_old keys.texts.table keys.options tables) (Err Leftover) (Ok tables) tt all)
    (λ tables kept. ok_then (AllByRecursion SoundClause) OpeningHas (of_alter (alter_at keys.version keys.texts.table keys.texts.alter)) _ (alter_has keys.version keys.texts.table keys.texts.alter are.alter)
    (λ clauses sound. then_ok OpeningHas (of_alter (altered keys.options.approve_renamed_columns table.schema clauses)) _ (λ new. record { tables = kept; alter = sound })))))

-- ---- the scripts

abbrev ScriptsHave : List (List ScriptLine) → Type 0
ScriptsHave scripts = AllByRecursion ScriptHas scripts

script_said : (client : ℕ) (read : Result (List ScriptLine) ScriptRefusal) → IfOk read ScriptHas → IfOk (of_script client read) ScriptHas
script_said client (Ok script) has = has
script_said client (Err refusal) has = tt

each_has : (tools : List (List ℕ)) (number : ℕ) (texts : List (List ℕ)) → AllByRecursion AreBytes texts → IfOk (each_from (client_script tools) number texts) ScriptsHave
unfolding each_from
each_has tools number [] are = tt
each_has tools number (text ∷ texts) are =
    ok_then ScriptHas ScriptsHave (client_script tools number text) _ (script_said number (script_of tools text) (script_bytes tools text are.0))
    (λ script has. ok_then ScriptsHave ScriptsHave (each_from (client_script tools) (next_number number) texts) _ (each_has tools (next_number number) texts are.1) (λ others have. (has, have)))

clients_have : (migrated : List ℕ) (texts : List (List ℕ)) → AllByRecursion AreBytes texts → IfOk (clients_of migrated texts) ScriptsHave
unfolding clients_of
clients_have migrated texts are =
    ok_then ScriptsHave ScriptsHave (scripts_of (tool_names migrated) texts) few_statements (each_has (tool_names migrated) 1 texts are) (λ scripts have. ok_if ScriptsHave (has_many_statements scripts) (Err (Keys TooMany)) (Ok scripts) tt have)

-- ---- the plan

record PlanHas (plan : PlanData) : Type 0 where
  tables : TablesHave plan.tables
  alter : AllByRecursion SoundClause plan.alter
  clients : ScriptsHave plan.clients

document_has : (bytes : List ℕ) → IfSome (document bytes) BytesMembers
unfolding document
document_has bytes = by (is_utf8 bytes) refl where
  by : (b : Bool) → is_utf8 bytes ≡ b → IfSome (cond b (parse_document bytes) None) BytesMembers
  by true is = document_bytes bytes (utf8_bytes bytes is)
  by false is = tt

abbrev KeysHave : KeyData → Type 0
KeysHave keys = BytesTexts keys.texts

keys_said : (read : Result KeyData KeyRefusal) → IfOk read KeysHave → IfOk (of_keys read) KeysHave
keys_said (Ok keys) have = have
keys_said (Err refusal) have = tt

keys_have : (members : Members) → BytesMembers members → IfOk (keys_in members) KeysHave
unfolding keys_in
keys_have members are =
    ok_then KeysHave KeysHave (of_keys (keys_of members)) few_orders (keys_said (keys_of members) (keys_bytes members are)) (λ keys have. ok_if KeysHave (has_many_orders keys.texts) (Err (Keys TooMany)) (Ok keys) tt have)

plan_has : (members : Members) → BytesMembers members → IfOk (plan_at members) PlanHas
unfolding plan_at
plan_has members are =
    ok_then KeysHave PlanHas (keys_in members) _ (keys_have members are)
    (λ keys have. ok_then OpeningHas PlanHas (opening_of keys) _ (opening_has keys have)
    (λ opening opened. ok_then ScriptsHave PlanHas (clients_of keys.texts.table keys.texts.clients) _ (clients_have keys.texts.table keys.texts.clients have.clients)
    (λ clients own. then_ok PlanHas (orders_of (length clients) keys.texts) _
    (λ orders. record { tables = opened.tables; alter = opened.alter; clients = own }))))

document_said : (found : Option Members) → IfSome found BytesMembers → IfOk (or_refused NotToml found) BytesMembers
document_said None are = tt
document_said (Some own) are = are

read_has : (bytes : List ℕ) → IfOk (read bytes) PlanHas
unfolding read
read_has bytes = ok_if PlanHas (nat_lt PLAN_LIMIT (length bytes)) (Err TooLong) _ tt (ok_then BytesMembers PlanHas (or_refused NotToml (document bytes)) plan_at (document_said (document bytes) (document_has bytes)) plan_has)

-- ---- what the ALTER makes of the table

old_has : (plan : PlanData) → PlanHas plan → HasByteDefaults (old_schema plan).columns
old_has plan has = by (find_table plan.table plan.tables) refl where
  by : (found : Option TableRows) → find_table plan.table plan.tables ≡ found → HasByteDefaults (unwrap_or (option_map (λ (t : TableRows). t.schema) found) no_schema).columns
  by None is = tt
  by (Some table) is = (found_is TableHas plan.table plan.tables table has.tables is).is.0

abbrev NewHas : Altered → Type 0
NewHas new = HasByteDefaults new.0.columns × BytesMap new.1

new_has : (plan : PlanData) → PlanHas plan → NewHas (new_altered plan)
new_has plan has = by (altered plan.options.approve_renamed_columns (old_schema plan) plan.alter) (altered_bytes plan.options.approve_renamed_columns (old_schema plan) plan.alter has.alter (old_has plan has)) where
  by : (r : Result Altered AlterCode) → IfOk r NewHas → NewHas (unwrap_or (result_ok r) (no_schema, []))
  by (Ok new) own = own
  by (Err code) own = (tt, tt)

-- *Read plans have texts of bytes*
pub plan_bytes : (bytes : List ℕ) (plan : PlanData) → read bytes ≡ Ok plan → HasByteTexts plan
unfolding new_schema new_map
plan_bytes bytes plan is =
    let has : PlanHas plan = subst (λ (r : Result PlanData PlanRefusal). IfOk r PlanHas) is (read_has bytes) in
    let new = new_has plan has in
    record {
      rows = All-weaker TableHas _ (λ table own. own.1) plan.tables has.tables;
      defaults = All-weaker TableHas _ (λ table own. own.0) plan.tables has.tables;
      literals = has.clients;
      altered = new.0;
      added = new.1;
    }
