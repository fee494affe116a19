use Rattle.std.proofs.Common.{sym}
use Rattle.base_values.specs.SchemaRules.Names.{place_of}
use Rattle.base_values.proofs.SchemaRules.Loops.{filter_map-up_to_here}
use Rattle.base_values.proofs.schema_rules.names.places_of.Goals as goal

pub loop-column-preserved : goal.loop-column-preserved
loop-column-preserved c = rw (c.in_ok-push_place.ensures, c.loop-column.invariant) (sym (filter_map-up_to_here (place_of c.args.names.now) c.args.columns.now c.loop-column.column-index c.column-item.result c.loop-column-test.true c.column-item.is))
