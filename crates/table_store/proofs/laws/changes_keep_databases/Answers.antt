use Rattle.table_store.proofs.ChangedTables.{change_keeps}
use Rattle.table_store.proofs.laws.changes_keep_databases.Goals as goal

pub returns : goal.returns
returns c = change_keeps
