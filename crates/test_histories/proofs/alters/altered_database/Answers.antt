use Rattle.std.proofs.Common.{sym, subst}
use Rattle.table_store.specs.Databases.{TableRows}
use Rattle.base_values.specs.SchemaRules.Valid.{IsValid}
use Rattle.server_model.specs.LockedRows.Databases.{WhereFound}
use Rattle.test_histories.proofs.Valid.{found_valid}
use Rattle.test_histories.proofs.alters.altered_database.Goals as goal

pub altered_in-requires : goal.altered_in-requires
altered_in-requires c = subst (WhereFound (λ (found : TableRows). IsValid found.schema)) (sym c.find_table.ensures) (found_valid c.table.result.now c.args.tables.now c.requires)
