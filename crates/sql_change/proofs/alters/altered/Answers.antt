use Rattle.std.proofs.Common.{sym, subst}
use Rattle.sql_change.specs.AlteredSoFar.{Stands}
use Rattle.sql_change.proofs.Tables.{start-stands}
use Rattle.sql_change.proofs.alters.altered.Goals as goal

pub steps-requires : goal.steps-requires
steps-requires c = subst Stands (sym c.in_ok-start.ensures) (start-stands c.args.schema.now c.requires)
