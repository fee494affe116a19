use Rattle.std.proofs.Common.{refl}
use Rattle.run_rebuild.proofs.Numbers.{none_left, one_place}
use Rattle.run_rebuild.proofs.shard_number.shard.Goals as goal

pub loop-place-preserved : goal.loop-place-preserved
loop-place-preserved c = record {
  sum = one_place c.loop-place.total c.add_place-total.result c.args.workers _ c.loop-place.place-index _ c.args.places.now c.args.row.now c.loop-place-test.true refl c.add_place-total.ensures.sum c.loop-place.invariant.sum;
  below = c.add_place-total.ensures.below;
}

pub returns-clause-number : goal.returns-clause-number
returns-clause-number c = none_left c.loop-place.total c.args.workers c.loop-place.place-index c.args.places.now c.args.row.now c.loop-place-test.false c.loop-place.invariant.below c.loop-place.invariant.sum
