-- Tables in pages, as a *database* sees them: pages are left out.
use Rattle.std.specs.Prelude.{◌≡◌, ℕ, List, map}
use Rattle.table_store.specs.NameMap.NameMaps.{NamedValues}
use Rattle.table_store.specs.Databases.{StoredTable, NamesDiffer, database}
use Rattle.table_store.specs.PagedTables.RowPages.StoredRows.{PagedTable}

-- the schema and the rows of a table, and for how many more rows it has room
abbrev pub stored_of : PagedTable → StoredTable
stored_of paged = record { table = paged.table; spare = paged.spare }

-- each table so
abbrev pub stored : List PagedTable → List StoredTable
stored tables = map stored_of tables

-- the tables' names
abbrev pub table_names : List PagedTable → List (List ℕ)
table_names tables = map (λ paged. paged.table.schema.name) tables

-- each table is kept under its own name, and no two have one
abbrev pub AreNamed : NamedValues PagedTable → Type 0
AreNamed named = (named.names ≡ table_names named.values) × NamesDiffer (database (stored named.values))
