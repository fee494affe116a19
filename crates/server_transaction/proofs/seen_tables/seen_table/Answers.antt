use Rattle.table_store.specs.Databases.{database}
use Rattle.server_transaction.proofs.SeenTables.{same_schema, sees_missing, sees_none, sees_some}
use Rattle.server_transaction.proofs.seen_tables.seen_table.Goals as goal

pub returns-in_default : goal.returns-in_default
returns-in_default c = sees_missing (database c.args.tables.now) c.args.txn.now.events c.args.name.now c.in_default.ensures.table

pub new-requires : goal.new-requires
new-requires c = same_schema (database c.args.tables.now) c.args.txn.now c.args.name.now c.in-Some.table.now.table c.in-Some-written_to.written.now c.requires c.in-Some.ensures.table c.in-Some-written_to.ensures.writes

pub returns-in-Some-written_to : goal.returns-in-Some-written_to
returns-in-Some-written_to c =
    sees_some (database c.args.tables.now) c.args.txn.now c.args.name.now c.in-Some.table.now.table c.new.result c.in-Some-written_to.written.now c.requires c.in-Some.ensures.table c.schema-schema.ensures.ascends c.in-Some-written_to.ensures.writes c.in-Some-written_to.ensures.shown
    c.new.ensures.schema c.new.ensures.rows

pub returns-in-None : goal.returns-in-None
returns-in-None c =
    sees_none (database c.args.tables.now) c.args.txn.now c.args.name.now c.in-Some.table.now.table c.unwritten.result c.requires c.in-Some.ensures.table c.schema-schema.ensures.ascends c.in-None.ensures.writes c.in-None.ensures.shown c.unwritten.ensures.schema
    c.unwritten.ensures.rows
