use Rattle.std.proofs.Common.{◌∙◌, ap, option_map, Option}
use Rattle.table_store.specs.PagedTables.RowPages.StoredRows.{PagedTable}
use Rattle.table_store.specs.Databases.{StoredTable, find_stored, find_table, database}
use Rattle.table_store.proofs.NamedTables.{find-database}
use Rattle.table_store.specs.PagedTables.PagedDatabases.{stored_of, stored}
use Rattle.table_store.proofs.PagedTables.Paged.{of_copied, found_stored, table_of_stored}
use Rattle.table_store.proofs.paged_tables.tables.Tables.find.Goals as goal

pub returns-clause-stored : goal.returns-clause-stored
returns-clause-stored c =
    of_copied stored_of c.named.result ∙ ap (λ (found : Option PagedTable). option_map stored_of found) c.named.ensures ∙ found_stored c.args.name.now c.self.inside.tables.values
    ∙ ap (λ ts. find_stored c.args.name.now ts) c.self.view_is

pub returns-clause-table : goal.returns-clause-table
returns-clause-table c =
    of_copied (λ t. t.table) c.named.result ∙ ap (λ (found : Option PagedTable). option_map (λ (t : PagedTable). t.table) found) c.named.ensures
    ∙ table_of_stored _ ∙ ap (λ (found : Option StoredTable). option_map (λ (s : StoredTable). s.table) found) (found_stored c.args.name.now c.self.inside.tables.values) ∙ find-database c.args.name.now (stored c.self.inside.tables.values)
    ∙ ap (λ ts. find_table c.args.name.now (database ts)) c.self.view_is
