use Rattle.std.proofs.Common.{subst, arith}
use Rattle.server_log.specs.Decodings.{Fails}
use Rattle.server_log.proofs.ReadValues.{values_fail}
use Rattle.server_log.proofs.reader.values_at.Goals as goal

pub returns-in-Err : goal.returns-in-Err
returns-in-Err c = subst (λ read. Fails c.in-Err.fault read) c.loop-left.invariant (values_fail c.in-Err.fault c.loop-left.values c.loop-left.left c.loop-left.rest.now (omega arith) c.in-Err.ensures)
