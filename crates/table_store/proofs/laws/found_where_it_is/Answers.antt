use Rattle.table_store.proofs.ChangedTables.{found_where}
use Rattle.table_store.proofs.NamedTables.{find-database}
use Rattle.table_store.proofs.laws.found_where_it_is.Goals as goal

pub returns : goal.returns
returns c = (found_where, find-database)
