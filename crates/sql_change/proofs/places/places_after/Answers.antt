use Rattle.std.proofs.Common.{sym}
use Rattle.sql_change.specs.Places.{place_after}
use Rattle.base_values.proofs.SchemaRules.Loops.{filter_map-take}
use Rattle.sql_change.proofs.places.places_after.Goals as goal

pub loop-place-preserved : goal.loop-place-preserved
loop-place-preserved c = rw (c.in_ok-push_place.ensures, c.loop-place.invariant) (sym (filter_map-take (place_after c.args.change) c.args.places.now c.loop-place.place-index 0 c.loop-place-test.true))
