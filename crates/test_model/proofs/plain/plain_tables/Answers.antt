use Rattle.table_store.specs.PagedTables.PagedDatabases.{stored_of}
use Rattle.test_model.proofs.CopiedTables.{copied_more}
use Rattle.test_model.proofs.plain.plain_tables.Goals as goal

pub loop-n-preserved : goal.loop-n-preserved
loop-n-preserved c = rw c.in_ok-push.ensures.ok (copied_more c.loop-n.plain c.args.tables.now c.loop-n.n (stored_of c.at.result.now) c.in_ok-plain_table.field-0 c.at.ensures c.in_ok-plain_table.ensures c.loop-n.invariant)
