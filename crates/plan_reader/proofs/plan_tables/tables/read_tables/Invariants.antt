use Rattle.std.proofs.Common.{◌≡◌, [], map, drop}
use Rattle.table_store.specs.Databases.{database}
use Rattle.plan_keys.specs.PlanKeys.{table_data}
use Rattle.plan_reader.specs.PlanTables.Tables.{tables_from}
use Rattle.plan_reader.proofs.plan_tables.tables.read_tables.Given as goal

-- the tables so far with those that are left are all
abbrev pub invariant-loop-table_keys : goal.invariant-loop-table_keys
invariant-loop-table_keys l = tables_from l.version l.migrated l.number (database l.tables) (map table_data (drop l.table_keys-index l.keys)) ≡ tables_from l.version l.migrated 1 [] (map table_data l.keys)
