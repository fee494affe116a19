use Rattle.std.proofs.Common.{sym}
use Rattle.sql_change.specs.Columns.{column_place}
use Rattle.base_values.proofs.SchemaRules.Loops.{filter_map-up_to_here}
use Rattle.sql_change.proofs.index.places_of.Goals as goal

pub loop-name-preserved : goal.loop-name-preserved
loop-name-preserved c = rw (c.in_ok-push_place.ensures, c.loop-name.invariant) (sym (filter_map-up_to_here (column_place c.args.columns.now) c.args.names.now c.loop-name.name-index c.name-item.result c.loop-name-test.true c.name-item.is))
