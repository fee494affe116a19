use Rattle.std.proofs.Common.{◌≤◌, length, ap, arith}
use Rattle.server_log.specs.Encodings.{encoded}
use Rattle.server_log.proofs.KeptEvents.{at_least}
use Rattle.server_log.proofs.log.whole.Log.add.Goals as goal

pub invariant_of-self : goal.invariant_of-self
invariant_of-self c =
    let least : 8 ≤ length (encoded c.args.event.now) = at_least c.args.event.now c.requires.encodable in
    record {
      cut = rw c.add.ensures.events (c.add-2.ensures.cut c.self.inside.events.events c.args.event.now c.self.invariant.cut (omega (arith, ap length c.as_slice-end.ensures)) c.cost-size.ensures);
      counted = rw c.add.ensures.events (c.add-3.ensures.counted c.self.inside.events.events c.self.invariant.counted);
      bytes = omega (arith, least, c.self.invariant.bytes);
      places = omega (arith, least, c.self.invariant.places);
      starts = omega (arith, least, c.self.invariant.starts);
      counts_room = omega (arith, least, c.self.invariant.counts_room);
    }
