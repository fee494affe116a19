use Rattle.std.proofs.Common.{arith}
use Rattle.top_call.proofs.turns.push_turns.Goals as goal

pub push_reserved-requires : goal.push_reserved-requires
push_reserved-requires c = omega (arith, c.loop-entry-test.true, c.loop-entry.invariant.count, c.loop-entry.invariant.room)
