use Rattle.table_store.proofs.ChangedTables.{new_put}
use Rattle.table_store.proofs.laws.new_rows_are_put.Goals as goal

pub returns : goal.returns
returns c = new_put
