use Rattle.table_store.proofs.RowLaws.{put_found, put_other}
use Rattle.table_store.proofs.laws.put_is_found.Goals as goal

pub returns : goal.returns
returns c = (put_found, put_other)
