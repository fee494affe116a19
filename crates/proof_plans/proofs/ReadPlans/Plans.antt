-- What every plan that is read has.
use Rattle.std.proofs.Common.{◌≡◌, ◌≤◌, ℕ, false, ◌||◌, List, [], ◌∷◌, length, Option, Some, Result, Ok, Err, unwrap_or, refl, sym, ap, ◌∙◌, subst}
use Rattle.std.specs.List.{AllByRecursion, list_any, flat_map}
use Rattle.std.specs.Option.{option_map}
use Rattle.std.specs.Str.{IsUtf8, bytes_eq}
use Rattle.proof_schemas.specs.Alters.Laws.{ReadClausesWriteKinds}
use Rattle.sql_change.specs.AlteredSchema.{altered}
use Rattle.sql_alter.specs.AlterText.{alter_at}
use Rattle.table_store.specs.Databases.{TableRows, find_table}
use Rattle.base_values.proofs.SchemaRules.Lists.{All-append}
use Rattle.base_values.proofs.SchemaRules.Steps.{bind_ok, ok_is, kept_out}
use Rattle.base_script.specs.declared.script.ScriptLine.{ScriptLine}
use Rattle.base_script.specs.declared.script.ScriptWord.{ScriptWord}
use Rattle.base_script.specs.declared.script.ScriptWord.TheVariants as words
use Rattle.base_script.specs.declared.operator.Command.{Command}
use Rattle.sql_statement.specs.Scripts.{names_one_of, script_of}
use Rattle.sql_statement.specs.declared.code.ScriptRefusal.{ScriptRefusal}
use Rattle.plan_orders.specs.declared.fault.OrderRefusal.{OrderRefusal}
use Rattle.plan_orders.specs.Operators.{operator_of}
use Rattle.plan_data.specs.PlanData.{PlanData, old_schema, no_schema}
use Rattle.plan_keys.specs.Limits.{TextData}
use Rattle.plan_keys.specs.PlanKeys.{KeyData}
use Rattle.plan_keys.specs.declared.fault.KeyRefusal.TheVariants.{TooMany}
use Rattle.plan_reader.specs.PlanTables.Rows.{next_number}
use Rattle.plan_reader.specs.declared.fault.PlanRefusal.{PlanRefusal}
use Rattle.plan_reader.specs.declared.fault.PlanRefusal.TheVariants.{Keys}
use Rattle.plan_reader.specs.Clients.{client_script, scripts_of, tool_names, has_many_statements, few_statements, clients_of}
use Rattle.plan_reader.specs.Openings.{OpeningData, migrated_in, opening_of, without_leftovers}
use Rattle.plan_reader.specs.Orders.{OrderData, faults_of, orders_of}
use Rattle.plan_reader.specs.Refusals.{of_alter, of_operator, of_script, of_tables, of_turns}
use Rattle.plan_reader.specs.Walks.{each_from}
use Rattle.plan_reader.proofs.Opened.{alter_was, opening_is}
use Rattle.plan_reader.specs.PlanTables.Tables.{IsSound, tables_of}
use Rattle.proof_plans.specs.ReadPlans.Schemas.{IsAccepted, ReadPlansAreAccepted}
use Rattle.plan_orders.specs.TurnOrder.Turns.{turns_of}
use Rattle.server_model.specs.Operations.{table_of}
use Rattle.base_values.specs.ToolNames.{ghost_name, log_name, old_name, is_tool_name}
use Rattle.tool_program.specs.JournalWords.KeptPlans.{words_of}
use Rattle.proof_journals.specs.Plans.{names_of, script_names}
use Rattle.proof_journals.specs.Machine.Scripts.{LinesFit}
use Rattle.proof_journals.specs.Machine.MigrationTables.{TableExists}
use Rattle.proof_migration.specs.ToolPhase.Ready.{LinesEnd, ScriptsEnd}
use Rattle.proof_migration.specs.ToolPhase.Runnable.{AlterablePlansAreRunnable, IsWorded}
use Rattle.server_model.proofs.LockedRows.Tests.{nor_left, nor_right, turned_bytes}
use Rattle.proof_plans.specs.ReadPlans.Laws.{ReadAttemptsDrain, ReadPlansAreAlterable, ReadPlansAreRunnable, ReadPlansAreSerial, ReadPlansAreWorded, ReadScriptsEnd, ReadTablesExist}
use Rattle.proof_plans.proofs.ReadPlans.Commands.{operator_fits}
use Rattle.proof_plans.proofs.ReadPlans.Names.{names_fit}
use Rattle.proof_plans.proofs.ReadPlans.Numbers.{options_ranged}
use Rattle.proof_plans.proofs.ReadPlans.Parts.{parts_of}
use Rattle.proof_plans.proofs.ReadPlans.Scripts.{IsScript, script_is}
use Rattle.proof_plans.proofs.ReadPlans.Tables.{Laws, all_well_formed, found_is, migrated_named}

-- SCRIPTS

-- a script that was read
pub script_was : (client : ℕ) (read : Result (List ScriptLine) ScriptRefusal) (script : List ScriptLine) → of_script client read ≡ Ok script → read ≡ Ok script
script_was client (Ok x) script is = cc
script_was client (Err refusal) script is = absurd cc

each_script : (tools : List (List ℕ)) (number : ℕ) (texts : List (List ℕ)) (clients : List (List ScriptLine)) → each_from (client_script tools) number texts ≡ Ok clients → AllByRecursion (IsScript tools) clients
unfolding each_from
each_script tools number [] clients is = subst (AllByRecursion (IsScript tools)) (ok_is {C = PlanRefusal} [] clients is) tt
each_script tools number (text ∷ texts) clients is =
    let first = bind_ok (client_script tools number text) _ clients is in
    let others = bind_ok (each_from (client_script tools) (next_number number) texts) (λ others. Ok (first.0 ∷ others)) clients first.2 in
    subst (AllByRecursion (IsScript tools)) (ok_is {C = PlanRefusal} (first.0 ∷ others.0) clients others.2)
    (script_is tools text first.0 (script_was number (script_of tools text) first.0 first.1), each_script tools (next_number number) texts others.0 others.1)

clients_are : (migrated : List ℕ) (texts : List (List ℕ)) (clients : List (List ScriptLine)) → clients_of migrated texts ≡ Ok clients → AllByRecursion (IsScript (tool_names migrated)) clients
unfolding clients_of
clients_are migrated texts clients is =
    let scripts = bind_ok (scripts_of (tool_names migrated) texts) few_statements clients is in
    let parts = kept_out (has_many_statements scripts.0) scripts.0 clients (Keys TooMany) scripts.2 in
    subst (AllByRecursion (IsScript (tool_names migrated))) parts.1 (each_script (tool_names migrated) 1 texts scripts.0 scripts.1)

fits_each : (tools : List (List ℕ)) (clients : List (List ScriptLine)) → AllByRecursion (IsScript tools) clients → AllByRecursion (LinesFit false) clients
fits_each tools [] all = tt
fits_each tools (script ∷ clients) all = (all.0.fit, fits_each tools clients all.1)

ends_each : (tools : List (List ℕ)) (clients : List (List ScriptLine)) → AllByRecursion (IsScript tools) clients → AllByRecursion (LinesEnd false) clients
ends_each tools [] all = tt
ends_each tools (script ∷ clients) all = (all.0.end, ends_each tools clients all.1)

-- NAMES IN SCRIPTS

none_named : (migrated name : List ℕ) → list_any (λ table. bytes_eq table name) (tool_names migrated) ≡ false → is_tool_name migrated name ≡ false
none_named migrated name off =
    let others = nor_right (bytes_eq (ghost_name migrated) name) (bytes_eq (log_name migrated) name || (bytes_eq (old_name migrated) name || false)) off in
    let last = nor_right (bytes_eq (log_name migrated) name) (bytes_eq (old_name migrated) name || false) others in
    let ghost = turned_bytes (ghost_name migrated) name (nor_left (bytes_eq (ghost_name migrated) name) _ off) in
    let log = turned_bytes (log_name migrated) name (nor_left (bytes_eq (log_name migrated) name) _ others) in
    let old = turned_bytes (old_name migrated) name (nor_left (bytes_eq (old_name migrated) name) _ last) in
    rw (ghost, log, old) refl

module _ (migrated : List ℕ) where
  abbrev IsFree : List ℕ → Type 0
  IsFree name = is_tool_name migrated name ≡ false

  word_free : (word : ScriptWord) → names_one_of (tool_names migrated) word ≡ false → AllByRecursion IsFree (names_of word)
  word_free (words.Do statement) off = (none_named migrated (table_of statement) off, tt)
  word_free words.Begin off = tt
  word_free words.Commit off = tt
  word_free words.Rollback off = tt

  script_free : (script : List ScriptLine) → AllByRecursion (λ line. names_one_of (tool_names migrated) line.word ≡ false) script → AllByRecursion IsFree (flat_map (λ line. names_of line.word) script)
  script_free [] all = tt
  script_free (line ∷ script) all = All-append IsFree (names_of line.word) (flat_map (λ line. names_of line.word) script) (word_free line.word all.0) (script_free script all.1)

  clients_free : (clients : List (List ScriptLine)) → AllByRecursion (IsScript (tool_names migrated)) clients → AllByRecursion IsFree (flat_map (λ script. flat_map (λ line. names_of line.word) script) clients)
  clients_free [] all = tt
  clients_free (script ∷ clients) all = All-append IsFree (flat_map (λ line. names_of line.word) script) _ (script_free script all.0.named) (clients_free clients all.1)

-- THE OPENING AND THE ORDERS

record IsOpened (keys : KeyData) (opening : OpeningData) : Type 0 where
  pub tables : tables_of keys.version keys.texts.table keys.texts.tables ≡ Ok opening.tables
  pub table : TableRows
  pub found : find_table keys.texts.table opening.tables ≡ Some table
  pub alter : alter_at keys.version keys.texts.table keys.texts.alter ≡ Ok opening.alter

opened_is : (keys : KeyData) (opening : OpeningData) → opening_of keys ≡ Ok opening → IsOpened keys opening
unfolding opening_of
opened_is keys opening is =
    let known = opening_is keys opening is in
    let tables = bind_ok (of_tables (tables_of keys.version keys.texts.table keys.texts.tables)) _ opening is in
    let table = bind_ok (migrated_in keys.texts.table tables.0) _ opening tables.2 in
    let allowed = bind_ok (without_leftovers keys.texts.table keys.options tables.0) _ opening table.2 in
    let clauses = bind_ok (of_alter (alter_at keys.version keys.texts.table keys.texts.alter)) _ opening allowed.2 in
    let new = bind_ok (of_alter (altered keys.options.approve_renamed_columns table.0.schema clauses.0)) (λ new. Ok (record { tables = allowed.0; alter = clauses.0; new = new })) opening clauses.2 in
    let made : OpeningData = record { tables = allowed.0; alter = clauses.0; new = new.0 } in
    record {
      tables = known.tables;
      table = known.table;
      found = known.found;
      alter = alter_was (alter_at keys.version keys.texts.table keys.texts.alter) clauses.0 clauses.1 ∙ ap (λ (o : OpeningData). Ok o.alter) (ok_is {C = PlanRefusal} made opening new.2);
    }

operator_was : (read : Result (List Command) OrderRefusal) (commands : List Command) → of_operator read ≡ Ok commands → read ≡ Ok commands
operator_was (Ok x) commands is = cc
operator_was (Err refusal) commands is = absurd cc

ordered_is : (clients : ℕ) (texts : TextData) (orders : OrderData) → orders_of clients texts ≡ Ok orders → operator_of texts.operator ≡ Ok orders.operator
unfolding orders_of
ordered_is clients texts orders is =
    let operator = bind_ok (of_operator (operator_of texts.operator)) _ orders is in
    let faults = bind_ok (faults_of clients texts.faults) _ orders operator.2 in
    let turns = bind_ok (of_turns (turns_of clients texts.turns)) (λ turns. Ok (record { operator = operator.0; faults = faults.0; turns = turns })) orders faults.2 in
    let made : OrderData = record { operator = operator.0; faults = faults.0; turns = turns.0 } in
    operator_was (operator_of texts.operator) operator.0 operator.1 ∙ ap (λ (o : OrderData). Ok o.operator) (ok_is {C = PlanRefusal} made orders turns.2)

-- PLANS

table_exists : (plan : PlanData) → IsAccepted plan → TableExists plan
table_exists plan is =
    let found = ap (λ (t : Option TableRows). option_map (λ table. table.schema) t) is.found in
    let old : old_schema plan ≡ is.table.schema = ap (λ (t : Option TableRows). unwrap_or (option_map (λ table. table.schema) t) no_schema) is.found in
    found ∙ ap Some (sym old)

-- *Read tables stand*
pub tables_exist : ReadPlansAreAccepted → ReadTablesExist
tables_exist accepted bytes plan is = table_exists plan (accepted bytes plan is)

-- *Read plans are serial*
pub plans_serial : ReadPlansAreAccepted → ReadPlansAreSerial
unfolding script_names
plans_serial accepted bytes plan is =
    let parts = parts_of bytes plan is in
    let free = clients_free parts.keys.texts.table parts.clients (clients_are parts.keys.texts.table parts.keys.texts.clients parts.clients parts.scripts) in
    record {
      tables = all_well_formed plan.tables (accepted bytes plan is).sound;
      scripts = subst (λ (p : PlanData). AllByRecursion (λ name. is_tool_name p.table name ≡ false) (script_names p)) parts.same free;
    }

-- *Read plans are alterable*
pub plans_alterable : ReadPlansAreAccepted → ReadPlansAreAlterable
plans_alterable accepted bytes plan is =
    let all = accepted bytes plan is in
    let found = found_is IsSound plan.table plan.tables all.table all.sound all.found in
    record {
      tables = all_well_formed plan.tables all.sound;
      table = all.table;
      found = all.found;
      is_table = found.is.is_table;
      valid = found.is.valid;
      new = all.new;
      alters = all.alters;
      keeps = all.keeps;
    }

-- *Read plans are runnable*
pub plans_runnable : ReadPlansAreAlterable → ReadPlansAreWorded → AlterablePlansAreRunnable → ReadPlansAreRunnable
plans_runnable alterable worded runnable plan was = runnable plan (alterable was.bytes plan was.is) (worded plan was)

-- *Read scripts end*
pub scripts_end : ReadScriptsEnd
scripts_end bytes plan is =
    let parts = parts_of bytes plan is in
    subst ScriptsEnd parts.same (ends_each (tool_names parts.keys.texts.table) parts.clients (clients_are parts.keys.texts.table parts.keys.texts.clients parts.clients parts.scripts))

-- *Read attempts may be drained*
pub attempts_drain : ReadAttemptsDrain
attempts_drain bytes plan is =
    let parts = parts_of bytes plan is in
    subst (λ (p : PlanData). 1 ≤ p.options.drain_limit) parts.same (options_ranged parts.members parts.keys parts.said).drain.0

-- *Read plans are worded*
pub plans_worded : Laws → ReadClausesWriteKinds → ReadPlansAreWorded
unfolding words_of
plans_worded laws kinds plan was =
    let parts = parts_of was.bytes plan was.is in
    let opened = opened_is parts.keys parts.opening parts.opened in
    let migrated : List ℕ = parts.keys.texts.table in
    let ranged = options_ranged parts.members parts.keys parts.said in
    let short = migrated_named laws parts.keys.version migrated parts.keys.texts.tables parts.opening.tables opened.table opened.tables opened.found in
    let utf8 : IsUtf8 migrated = subst (λ (p : PlanData). IsUtf8 p.table) (sym parts.same) was.text in
    subst IsWorded parts.same (record {
      scripts = fits_each (tool_names migrated) parts.clients (clients_are migrated parts.keys.texts.clients parts.clients parts.scripts);
      names = names_fit migrated short utf8;
      chunk = ranged.chunk.0;
      commands = operator_fits parts.keys.texts.operator parts.orders.operator (ordered_is (length parts.clients) parts.keys.texts parts.orders parts.ordered);
      batch = ranged.batch.0;
      clauses = kinds parts.keys.version migrated parts.keys.texts.alter parts.opening.alter opened.alter;
    })
