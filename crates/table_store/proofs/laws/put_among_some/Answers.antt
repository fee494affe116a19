use Rattle.table_store.proofs.RowLaws.{filter_out, filter_in}
use Rattle.table_store.proofs.laws.put_among_some.Goals as goal

pub returns : goal.returns
returns c = (filter_out, filter_in)
