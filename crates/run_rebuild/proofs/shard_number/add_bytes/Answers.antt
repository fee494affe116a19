use Rattle.std.proofs.Common.{arith}
use Rattle.std.proofs.Math.Nat.{mod-lt}
use Rattle.run_rebuild.proofs.Numbers.{one_byte}
use Rattle.run_rebuild.proofs.shard_number.add_bytes.Goals as goal

pub loop-byte-preserved : goal.loop-byte-preserved
loop-byte-preserved c = record {
  sum = one_byte c.loop-byte.added c.from.result c.args.workers _ c.loop-byte.byte-index c.args.bytes.now c.loop-byte-test.true c.from.ensures c.loop-byte.invariant.sum;
  below = mod-lt _ (omega (arith, c.requires.workers.0));
}
