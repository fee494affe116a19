use Rattle.table_store.proofs.RowLaws.{removed_again, put_again}
use Rattle.table_store.proofs.laws.put_and_remove_undo.Goals as goal

pub returns : goal.returns
returns c = (removed_again, put_again)
