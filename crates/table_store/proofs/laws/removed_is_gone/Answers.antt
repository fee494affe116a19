use Rattle.table_store.proofs.RowLaws.{gone, others_stay}
use Rattle.table_store.proofs.laws.removed_is_gone.Goals as goal

pub returns : goal.returns
returns c = (gone, others_stay)
