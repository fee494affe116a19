use Rattle.plan_reader.proofs.PlanTables.RowFits.{found_fits}
use Rattle.plan_reader.proofs.plan_tables.row_text.read_row.Goals as goal

pub returns-clause-fits : goal.returns-clause-fits
returns-clause-fits c = found_fits c.stored_values_store_again.ensures c.args.columns.now _ c.row_of.result c.row_of.ensures
