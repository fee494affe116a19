use Rattle.server_log.proofs.KeptEvents.{event_read}
use Rattle.server_log.proofs.log.event_bytes.EventBytes.event.Goals as goal

pub returns-in-Ok : goal.returns-in-Ok
returns-in-Ok c = event_read c.args.self.now.events c.args.place c.from_place.result.now c.in-Ok.event _ c.requires c.from_place.ensures c.in-Ok.ensures
