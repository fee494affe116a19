use Rattle.std.proofs.Common.{◌∙◌}
use Rattle.base_values.specs.GhoSchema.Rows.{key_places}
use Rattle.table_store.proofs.PagedTables.RowPages.PutLast.{put_after, new_after}
use Rattle.table_store.proofs.paged_tables.row_pages.copies.put_last.Goals as goal

pub put-requires-clause-new_key : goal.put-requires-clause-new_key
put-requires-clause-new_key c = new_after (key_places c.args.table.now.table.schema) c.args.row c.args.table.now.table.rows c.requires.last

pub returns-clause-rows : goal.returns-clause-rows
returns-clause-rows c = c.put.ensures.rows ∙ put_after (key_places c.args.table.now.table.schema) c.args.row c.args.table.now.table.rows c.requires.last
