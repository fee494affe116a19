use Rattle.std.proofs.Common.{arith}
use Rattle.server_seen.proofs.KeyTables.{first_more, all_first}
use Rattle.server_seen.proofs.keys.are_first.Goals as goal

pub loop-n-preserved : goal.loop-n-preserved
loop-n-preserved c = first_more c.args.places.now c.loop-n.n _ c.loop-n-test.true c.if-place-n.false c.loop-n.invariant

pub returns : goal.returns
returns c = λ is. all_first c.args.places.now c.loop-n.n (omega (arith, c.loop-n-test.false)) c.loop-n.invariant
