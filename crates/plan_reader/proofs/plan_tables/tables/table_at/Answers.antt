use Rattle.table_store.specs.Databases.{database}
use Rattle.plan_reader.proofs.PlanTables.Sound.{new_keyed, still_new}
use Rattle.plan_reader.proofs.plan_tables.tables.table_at.Goals as goal

pub read_rows-requires-clause-keyed : goal.read_rows-requires-clause-keyed
read_rows-requires-clause-keyed c = new_keyed c.args.number (database c.args.tables.now) c.in_ok-schema.schema c.in_ok-table.table.table c.in_ok-schema.ensures.valid c.in_ok-table.ensures.table

pub returns-clause-new : goal.returns-clause-new
returns-clause-new c = still_new c.read_rows.result c.in_ok-table.table.table.schema (database c.args.tables.now) c.read_rows.ensures.schema c.in_ok-table.ensures.new
