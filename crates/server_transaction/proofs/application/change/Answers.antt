use Rattle.std.proofs.Common.{ap, ◌∙◌}
use Rattle.base_values.specs.declared.event.Change.TheVariants as changes
use Rattle.table_store.specs.Databases.{Database, database, with_change}
use Rattle.server_model.specs.Operations.{change_table}
use Rattle.server_transaction.proofs.DoneEvents.{update_done}
use Rattle.server_transaction.proofs.FoundTables.{fits_in}
use Rattle.server_transaction.proofs.application.change.Goals as goal

pub put-requires-clause-fits : goal.put-requires-clause-fits
put-requires-clause-fits c = fits_in c.args.name.now c.args.before.now c.args.after (database c.args.tables.now) (database c.take_out.new.tables) c.take_out.ensures.tables c.requires.fits

pub returns-clause-tables : goal.returns-clause-tables
returns-clause-tables c =
    c.put.ensures.tables ∙ ap (λ (ts : Database). with_change c.args.name.now (change_table (changes.Write c.args.after)) ts) c.take_out.ensures.tables
    ∙ update_done c.args.name.now c.args.before.now c.args.after (database c.args.tables.now)
