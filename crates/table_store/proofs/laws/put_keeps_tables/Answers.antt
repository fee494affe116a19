use Rattle.table_store.proofs.TableLaws.{put_keeps}
use Rattle.table_store.proofs.laws.put_keeps_tables.Goals as goal

pub returns : goal.returns
returns c = put_keeps c.nulls_are_stored_where_nullable.ensures
