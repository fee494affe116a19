use Rattle.std.proofs.Common.{sym, subst}
use Rattle.table_store.specs.Databases.{database}
use Rattle.base_values.specs.SchemaRules.Valid.{IsValid}
use Rattle.plan_reader.proofs.Opened.{found_is}
use Rattle.plan_reader.proofs.openings.opening_of.Goals as goal

pub altered_of-requires : goal.altered_of-requires
altered_of-requires c =
    let sound = found_is c.name.result.now (database c.in_ok-tables.tables) c.in_ok-table.table.now.table c.in_ok-tables.ensures.sound c.in_ok-table.ensures.found in
    subst IsValid (sym c.schema.ensures.schema) sound.valid
