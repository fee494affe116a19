use Rattle.std.proofs.Common.{List, sym, ◌∙◌, subst}
use Rattle.table_store.specs.Databases.{StoredTable}
use Rattle.table_store.specs.PagedTables.PagedDatabases.{stored_of}
use Rattle.server_storage.specs.KeptTxns.Kept.{IsKept}
use Rattle.server_storage.proofs.KeptTxns.Defined.{creating_keeps}
use Rattle.server_storage.proofs.definitions.create_table.Goals as goal

pub returns-in-Ok-clause-kept : goal.returns-in-Ok-clause-kept
returns-in-Ok-clause-kept c = λ txns kept.
    subst (λ (ts : List StoredTable). IsKept ts txns) (sym c.in-Ok.ensures.ok)
    (creating_keeps c.args.tables.now c.args.schema.now (stored_of c.new-table.result) txns kept c.requires.well_formed c.requires.absent (c.new-table.ensures.schema ∙ c.in_ok-copy.ensures) c.new-table.ensures.rows)
