-- An accepted plan, part by part.
use Rattle.std.proofs.Common.{◌≡◌, ◌≤◌, ℕ, Bool, true, false, ◌||◌, cond, nat_lt, List, [], length, Result, Ok, Err, sym, ap, subst}
use Rattle.std.proofs.lemmas.Bool.{or_parts, ltb-false}
use Rattle.std.specs.Result.{result_ok}
use Rattle.toml.specs.Data.{Members}
use Rattle.base_values.specs.Laws.{StoresAgain}
use Rattle.base_values.specs.declared.gho_schema.schema.Schema.{Schema}
use Rattle.base_values.specs.declared.row_conversion.clause.Clause.{Clause}
use Rattle.table_store.specs.Laws.{PutKeepsTables}
use Rattle.base_script.specs.declared.script.ScriptLine.{ScriptLine}
use Rattle.base_values.proofs.SchemaRules.Steps.{bind_ok, ok_is, kept_out}
use Rattle.base_values.specs.SchemaRules.Valid.{IsValid}
use Rattle.base_values.specs.SchemaRules.Results.{◌>>=◌}
use Rattle.sql_create.specs.Laws.{ReadSchemasAreValid}
use Rattle.sql_change.specs.AlteredSchema.{altered}
use Rattle.proof_schemas.specs.Alters.Laws.{ConvertedRowsKeepClusteredKeys, ConvertedRowsStayApart, AlteredTablesKeepNames}
use Rattle.plan_data.specs.declared.plan.TheConstants.{CLIENT_LIMIT}
use Rattle.plan_data.specs.PlanData.{PlanData, Altered}
use Rattle.plan_data.specs.KeptRows.{KeepsRows}
use Rattle.plan_keys.specs.declared.fault.KeyRefusal.{KeyRefusal}
use Rattle.plan_keys.specs.declared.fault.KeyRefusal.TheVariants.{UnknownKey, MissingKey, TooMany}
use Rattle.plan_keys.specs.declared.limits.TheConstants.{TABLE_LIMIT, ROW_LIMIT, FAULT_LIMIT}
use Rattle.plan_keys.specs.Limits.{row_count, has_too_many}
use Rattle.plan_keys.specs.PlanKeys.{KeyData, typed_of, in_range, few, keys_of}
use Rattle.plan_reader.proofs.PlanTables.Sound.{tables_are}
use Rattle.plan_reader.specs.declared.limits.TheConstants.{PLAN_LIMIT}
use Rattle.plan_reader.specs.declared.fault.PlanRefusal.{PlanRefusal}
use Rattle.plan_reader.specs.declared.fault.PlanRefusal.TheVariants.{TooLong, NotToml, Keys}
use Rattle.plan_reader.specs.Refusals.{of_keys, or_refused}
use Rattle.plan_reader.specs.Openings.{OpeningData, opening_of}
use Rattle.plan_reader.specs.Clients.{client_script, scripts_of, tool_names, has_many_statements, few_statements, clients_of}
use Rattle.plan_reader.specs.Orders.{OrderData, has_many_orders, few_orders, orders_of}
use Rattle.plan_reader.specs.Plans.{plan_of, keys_in, plan_at, document, read}
use Rattle.plan_reader.proofs.Opened.{opening_is, found_is}
use Rattle.plan_reader.proofs.Walks.{each_length}
use Rattle.proof_plans.proofs.ReadPlans.Schemas.Named.{differ_from}
use Rattle.proof_plans.specs.ReadPlans.Schemas.{IsAccepted}

-- what the laws of the crates below say
pub record Laws : Type 0 where
  pub valid : ReadSchemasAreValid
  pub keys : ConvertedRowsKeepClusteredKeys
  pub apart : ConvertedRowsStayApart
  pub names : AlteredTablesKeepNames
  pub again : StoresAgain
  pub put : PutKeepsTables

keeps_rows : Laws → (approve : Bool) (schema : Schema) (clauses : List Clause) (new : Altered) → IsValid schema → altered approve schema clauses ≡ Ok new → KeepsRows schema new
keeps_rows laws approve schema clauses new valid is = record {
  name = laws.names approve schema clauses new is;
  key = λ row made fits converted_row_is. laws.keys approve schema clauses new row made valid is fits converted_row_is;
  apart = λ row other made others fits too converted_row_is other_is clashes. laws.apart approve schema clauses new row other made others valid is fits too converted_row_is other_is clashes;
}

-- ---- the clients

-- the keys of a plan have at most 64 clients
few_keys : (keys kept : KeyData) → few keys ≡ Ok kept → length kept.texts.clients ≤ CLIENT_LIMIT
few_keys keys kept is =
    let parts = kept_out (has_too_many keys.texts) keys kept TooMany is in
    let clients : Bool = nat_lt CLIENT_LIMIT (length keys.texts.clients) in
    let before : Bool = nat_lt TABLE_LIMIT (length keys.texts.tables) || nat_lt ROW_LIMIT (row_count keys.texts.tables) in
    let others = or_parts (before || clients) (nat_lt FAULT_LIMIT (length keys.texts.faults)) parts.0 in
    let few = or_parts before clients others.0 in
    subst (λ (k : KeyData). length k.texts.clients ≤ CLIENT_LIMIT) parts.1 (ltb-false CLIENT_LIMIT (length keys.texts.clients) few.1)

pub past : {A C : Type 0} (b : Bool) (code : C) (other : Result A C) (y : A) → cond b (Err code) other ≡ Ok y → other ≡ Ok y
past true code other y is = absurd (cc)
past false code other y is = is

pub keys_were : {A : Type 0} (read : Result A KeyRefusal) (x : A) → of_keys read ≡ Ok x → read ≡ Ok x
keys_were (Ok y) x is = cc
keys_were (Err refusal) x is = absurd (cc)

said_few : (members : Members) (keys : KeyData) → keys_of members ≡ Ok keys → length keys.texts.clients ≤ CLIENT_LIMIT
unfolding keys_of
said_few members keys is =
    let known = past _ UnknownKey _ keys is in
    let there = past _ MissingKey _ keys known in
    let ranged = bind_ok (typed_of members >>= in_range) few keys there in
    few_keys ranged.0 keys ranged.2

keys_few : (members : Members) (keys : KeyData) → keys_in members ≡ Ok keys → length keys.texts.clients ≤ CLIENT_LIMIT
unfolding keys_in
keys_few members keys is =
    let said = bind_ok (of_keys (keys_of members)) few_orders keys is in
    let parts = kept_out (has_many_orders said.0.texts) said.0 keys (Keys TooMany) said.2 in
    subst (λ (k : KeyData). length k.texts.clients ≤ CLIENT_LIMIT) parts.1 (said_few members said.0 (keys_were (keys_of members) said.0 said.1))

-- each client's script is read
scripts_each : (migrated : List ℕ) (texts : List (List ℕ)) (clients : List (List ScriptLine)) → clients_of migrated texts ≡ Ok clients → length clients ≡ length texts
unfolding clients_of
scripts_each migrated texts clients is =
    let scripts = bind_ok (scripts_of (tool_names migrated) texts) few_statements clients is in
    let parts = kept_out (has_many_statements scripts.0) scripts.0 clients (Keys TooMany) scripts.2 in
    subst (λ (s : List (List ScriptLine)). length s ≡ length texts) parts.1 (each_length (client_script (tool_names migrated)) 1 texts scripts.0 scripts.1)

-- ---- the plan

parts_are : Laws → (keys : KeyData) (opening : OpeningData) (clients : List (List ScriptLine)) (orders : OrderData) → length keys.texts.clients ≤ CLIENT_LIMIT → opening_of keys ≡ Ok opening → clients_of keys.texts.table keys.texts.clients ≡ Ok clients
    → IsAccepted (plan_of keys opening clients orders)
parts_are laws keys opening clients orders few opening_is_read clients_are =
    let found = opening_is keys opening opening_is_read in
    let sound = tables_are (record { again = laws.again; put = laws.put }) laws.valid keys.version keys.texts.table 1 [] keys.texts.tables opening.tables tt found.tables in
    let differ = differ_from (record { again = laws.again; put = laws.put }) laws.valid keys.version keys.texts.table 1 [] keys.texts.tables opening.tables tt found.tables in
    let table = found_is keys.texts.table opening.tables found.table sound found.found in
    record {
      few = subst (λ (n : ℕ). n ≤ CLIENT_LIMIT) (sym (scripts_each keys.texts.table keys.texts.clients clients clients_are)) few;
      sound = sound;
      differ = differ;
      table = found.table;
      found = found.found;
      new = opening.new;
      alters = ap result_ok found.alters;
      keeps = keeps_rows laws keys.options.approve_renamed_columns found.table.schema opening.alter opening.new table.valid found.alters;
    }

document_is : Laws → (members : Members) (plan : PlanData) → plan_at members ≡ Ok plan → IsAccepted plan
unfolding plan_at
document_is laws members plan is =
    let keys = bind_ok (keys_in members) _ plan is in
    let opening = bind_ok (opening_of keys.0) _ plan keys.2 in
    let clients = bind_ok (clients_of keys.0.texts.table keys.0.texts.clients) _ plan opening.2 in
    let orders = bind_ok (orders_of (length clients.0) keys.0.texts) (λ orders. Ok (plan_of keys.0 opening.0 clients.0 orders)) plan clients.2 in
    subst IsAccepted (ok_is {C = PlanRefusal} (plan_of keys.0 opening.0 clients.0 orders.0) plan orders.2)
    (parts_are laws keys.0 opening.0 clients.0 orders.0 (keys_few members keys.0 keys.1) opening.1 clients.1)

pub plans_are : Laws → (bytes : List ℕ) (plan : PlanData) → read bytes ≡ Ok plan → IsAccepted plan
unfolding read
plans_are laws bytes plan is =
    let short = past (nat_lt PLAN_LIMIT (length bytes)) TooLong _ plan is in
    let members = bind_ok (or_refused NotToml (document bytes)) plan_at plan short in
    document_is laws members.0 plan members.2
