use Rattle.std.proofs.Common.{◌≡◌, Option, Some, ◌∙◌, subst}
use Rattle.std.specs.Prelude.{IfSome}
use Rattle.base_values.specs.GhoSchema.Rows.{key_of, key_places}
use Rattle.base_values.specs.GhoSchema.Tables.{Ascends}
use Rattle.base_values.specs.declared.event.Change.TheVariants as changes
use Rattle.table_store.specs.Databases.{TableRows, database, find_table}
use Rattle.server_transaction.specs.FittingEvents.{FitsIn}
use Rattle.server_model.specs.LockedRows.Databases.{WhereFound}
use Rattle.server_transaction.proofs.DoneEvents.{removal_done}
use Rattle.server_transaction.proofs.FoundTables.{Found, found_of}
use Rattle.server_transaction.proofs.application.take_out.Goals as goal

pub returns-clause-tables : goal.returns-clause-tables
returns-clause-tables c =
    let found : Found (find_table c.args.name.now (database c.args.tables.now)) = found_of (changes.Delete c.args.row.now) (find_table c.args.name.now (database c.args.tables.now)) c.requires.fits in
    let at : c.args.gone.now ≡ Some (key_of (key_places found.table.schema) c.args.row.now) = subst (λ (o : Option TableRows). IfSome o (λ t. c.args.gone.now ≡ Some (key_of (key_places t.schema) c.args.row.now))) found.is c.requires.key in
    let own : c.in-Some.key ≡ key_of (key_places found.table.schema) c.args.row.now = cc (at, c.in-Some.is) in
    c.remove_in.ensures.tables
    ∙ removal_done c.args.name.now c.args.row.now c.in-Some.key found.table (database c.args.tables.now) c.look_at.ensures.differ found.is
    (subst (WhereFound (λ t. Ascends (key_places t.schema) t.rows)) found.is c.look_at.ensures.ascends) own (subst (FitsIn (changes.Delete c.args.row.now)) found.is c.requires.fits)
