use Rattle.std.proofs.Common.{◌≡◌, ◌++◌, take, map}
use Rattle.std.specs.List.{AllByRecursion}
use Rattle.base_values.specs.declared.gho_schema.schema.Index.{Index}
use Rattle.table_store.specs.PagedTables.RowPages.Indexes.{keys_of, IsEmptyIndex}
use Rattle.table_store.proofs.paged_tables.row_pages.indexes.push_indexes.Given as goal

-- so many keys have their indexes
abbrev pub invariant-loop-unique : goal.invariant-loop-unique
invariant-loop-unique l =
    (keys_of l.indexes.items ≡ keys_of l.fn.indexes.items ++ map (λ (unique : Index). unique.places) (take l.unique-index l.uniques)) × AllByRecursion IsEmptyIndex l.indexes.items
