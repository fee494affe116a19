use Rattle.table_store.proofs.TableLaws.{remove_keeps}
use Rattle.table_store.proofs.laws.remove_keeps_tables.Goals as goal

pub returns : goal.returns
returns c = remove_keeps
