use Rattle.std.proofs.Common.{◌∙◌, ap}
use Rattle.table_store.specs.NameMap.NameMaps.{names_before}
use Rattle.table_store.proofs.PagedTables.Paged.{before_named}
use Rattle.table_store.proofs.paged_tables.lookup.place_of.Goals as goal

pub returns : goal.returns
returns c = c.place_of.ensures ∙ ap (λ name. names_before name c.args.tables.now.names) c.as_str.ensures ∙ ap (names_before c.args.name.now) c.requires.0 ∙ before_named c.args.name.now c.args.tables.now.values
