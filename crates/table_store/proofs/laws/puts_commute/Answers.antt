use Rattle.table_store.proofs.RowLaws.{puts_commute}
use Rattle.table_store.proofs.laws.puts_commute.Goals as goal

pub returns : goal.returns
returns c = puts_commute
