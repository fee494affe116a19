use Rattle.std.proofs.Common.{◌∙◌}
use Rattle.table_store.proofs.PagedTables.Paged.{stands_is}
use Rattle.table_store.proofs.paged_tables.lookup.has_name.Goals as goal

pub returns : goal.returns
returns c = c.is_some.ensures ∙ stands_is c.args.name.now c.named.result c.args.tables.now.values c.named.ensures
