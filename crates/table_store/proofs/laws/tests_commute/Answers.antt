use Rattle.table_store.proofs.RowLaws.{filters_commute}
use Rattle.table_store.proofs.laws.tests_commute.Goals as goal

pub returns : goal.returns
returns c = filters_commute
