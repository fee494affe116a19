use Rattle.std.proofs.Common.{arith}
use Rattle.server_log.proofs.Segments.{cut_none}
use Rattle.server_log.proofs.log.whole.Log.new.Goals as goal

pub invariant_of-result : goal.invariant_of-result
invariant_of-result c = record {
  cut = rw c.new.ensures (cut_none c.new-2.result.starts c.new-2.ensures);
  counted = rw c.new.ensures c.new-3.ensures.counted;
  bytes = omega arith;
  places = omega arith;
  starts = omega arith;
  counts_room = omega arith;
}
