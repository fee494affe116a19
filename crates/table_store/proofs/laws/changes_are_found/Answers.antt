use Rattle.table_store.proofs.ChangedTables.{change_found, other_found}
use Rattle.table_store.proofs.laws.changes_are_found.Goals as goal

pub returns : goal.returns
returns c = (change_found, other_found)
