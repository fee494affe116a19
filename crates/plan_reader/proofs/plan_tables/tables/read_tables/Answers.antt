use Rattle.std.proofs.Common.{[], map}
use Rattle.std.proofs.lemmas.Result.{err_from_is_err_and}
use Rattle.table_store.specs.Databases.{database}
use Rattle.plan_keys.specs.PlanKeys.{table_data}
use Rattle.plan_reader.proofs.PlanTables.Reading.{table_goes_on, table_fails, tables_ended}
use Rattle.plan_reader.proofs.PlanTables.Sound.{tables_are}
use Rattle.plan_reader.proofs.plan_tables.tables.read_tables.Goals as goal

pub returns-in_err-table-clause-tables : goal.returns-in_err-table-clause-tables
returns-in_err-table-clause-tables c =
    let p = err_from_is_err_and c.from_residual.result c.from_residual.ensures.1 in
    rw (p.1, p.2) (table_fails c.args.version c.args.migrated.now c.loop-table_keys.number (database c.loop-table_keys.tables) c.args.keys.now c.loop-table_keys.table_keys-index c.table_keys-item.result _ c.loop-table_keys-test.true c.table_keys-item.is c.in_err-table.field-0.0 c.in_err-table.ensures.table c.loop-table_keys.invariant)

pub loop-table_keys-preserved : goal.loop-table_keys-preserved
loop-table_keys-preserved c =
    rw (c.in_ok-add.ensures, c.saturating_add-number.ensures)
    (table_goes_on c.args.version c.args.migrated.now c.loop-table_keys.number (database c.loop-table_keys.tables) c.args.keys.now c.loop-table_keys.table_keys-index c.table_keys-item.result _ c.loop-table_keys-test.true c.table_keys-item.is c.in_ok-table.table.table c.in_ok-table.ensures.table c.loop-table_keys.invariant)

pub returns-clause-tables : goal.returns-clause-tables
returns-clause-tables c = tables_ended c.args.version c.args.migrated.now c.loop-table_keys.number (database c.loop-table_keys.tables) c.args.keys.now c.loop-table_keys.table_keys-index _ c.loop-table_keys-test.false c.loop-table_keys.invariant

pub returns-clause-sound : goal.returns-clause-sound
returns-clause-sound c =
    tables_are (record { again = c.stored_values_store_again.ensures; put = c.put_keeps_tables.ensures }) c.requires c.args.version c.args.migrated.now 1 [] (map table_data c.args.keys.now) (database c.loop-table_keys.tables) tt
    (tables_ended c.args.version c.args.migrated.now c.loop-table_keys.number (database c.loop-table_keys.tables) c.args.keys.now c.loop-table_keys.table_keys-index _ c.loop-table_keys-test.false c.loop-table_keys.invariant)
