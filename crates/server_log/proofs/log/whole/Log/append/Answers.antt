use Rattle.std.proofs.Common.{◌<◌, length, ◌∙◌, arith}
use Rattle.server_log.specs.Encodings.{IsEncodable}
use Rattle.server_log.proofs.EventCosts.Sums.{bytes_more, bytes_whole, bytes_within}
use Rattle.server_log.proofs.Lists.{all_at, pushed_more, taken_whole}
use Rattle.server_log.proofs.log.whole.Log.append.Goals as goal

pub add-requires-clause-encodable : goal.add-requires-clause-encodable
add-requires-clause-encodable c = all_at IsEncodable c.args.events.now c.loop-event.event-index c.event-item.result (omega arith) c.event-item.is c.requires.encodable

pub add-requires-clause-room : goal.add-requires-clause-room
add-requires-clause-room c = omega (arith, bytes_within c.args.events.now c.loop-event.event-index c.event-item.result (omega arith) c.event-item.is, c.loop-event.invariant.spare, c.requires.room)

pub loop-event-preserved : goal.loop-event-preserved
loop-event-preserved c =
    let within : c.loop-event.event-index < length c.args.events.now = omega arith in
    record {
      events = c.add.ensures.events ∙ pushed_more _ _ c.args.events.now c.loop-event.event-index c.event-item.result within c.event-item.is c.loop-event.invariant.events;
      spare = omega (arith, bytes_more c.args.events.now c.loop-event.event-index c.event-item.result within c.event-item.is, c.add.ensures.spare, c.loop-event.invariant.spare);
    }

pub returns : goal.returns
returns c = record {
  events = c.loop-event.invariant.events ∙ taken_whole _ c.args.events.now c.loop-event.event-index (omega arith);
  spare = omega (arith, bytes_whole c.args.events.now c.loop-event.event-index (omega arith), c.loop-event.invariant.spare);
}
