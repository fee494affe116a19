use Rattle.std.proofs.Common.{Option, ◌∙◌, subst}
use Rattle.std.specs.Prelude.{IsSomeAnd}
use Rattle.base_values.specs.declared.event.Change.TheVariants as changes
use Rattle.table_store.specs.Databases.{TableRows, database, find_table, IsNewIn}
use Rattle.server_transaction.proofs.DoneEvents.{put_done}
use Rattle.server_transaction.proofs.FoundTables.{Found, found_of, fits_new}
use Rattle.server_transaction.proofs.application.put.Goals as goal

pub returns-clause-tables : goal.returns-clause-tables
returns-clause-tables c =
    let found : Found (find_table c.args.name.now (database c.args.tables.now)) = found_of (changes.Write c.args.row) (find_table c.args.name.now (database c.args.tables.now)) c.requires.fits in
    c.put_in.ensures.tables
    ∙ put_done c.args.name.now c.args.row found.table (database c.args.tables.now) c.look_at.ensures.differ found.is
    (subst (λ (o : Option TableRows). IsSomeAnd o (IsNewIn c.args.row)) found.is (fits_new c.args.row (find_table c.args.name.now (database c.args.tables.now)) c.requires.fits))
