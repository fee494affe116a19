use Rattle.std.proofs.Common.{length, ap, arith}
use Rattle.server_log.specs.Logs.{StoredEvents}
use Rattle.server_log.proofs.KeptEvents.{as_many}
use Rattle.server_log.proofs.log.event_bytes.EventBytes.len.Goals as goal

pub returns : goal.returns
returns c = omega (arith, as_many _ _ _ c.self.invariant, ap (λ (s : StoredEvents). length s.events) c.self.view_is, c.len.ensures, c.self.inside.starts.ok.0)
