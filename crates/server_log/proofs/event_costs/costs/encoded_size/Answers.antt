use Rattle.std.proofs.Common.{◌<◌, length, ◌∙◌, arith}
use Rattle.server_log.specs.Encodings.{IsEncodable}
use Rattle.server_log.specs.EventCosts.TableEvents.{IsTableEvent}
use Rattle.server_log.proofs.EventCosts.Sums.{bytes_more, bytes_whole}
use Rattle.server_log.proofs.Lists.{all_at, all_more, all_whole}
use Rattle.server_log.proofs.event_costs.costs.encoded_size.Goals as goal

pub cost_of_table_event-requires : goal.cost_of_table_event-requires
cost_of_table_event-requires c = all_at IsTableEvent c.args.events.now c.loop-event.event-index c.event-item.result (omega arith) c.event-item.is c.requires

pub loop-event-preserved : goal.loop-event-preserved
loop-event-preserved c =
    let within : c.loop-event.event-index < length c.args.events.now = omega arith in
    record {
      size = omega (arith, bytes_more c.args.events.now c.loop-event.event-index c.event-item.result within c.event-item.is, c.in_ok-size.ensures, c.loop-event.invariant.size);
      encodable = all_more IsEncodable c.args.events.now c.loop-event.event-index c.event-item.result within c.event-item.is c.loop-event.invariant.encodable c.cost_of_table_event.ensures.encodable;
    }

pub returns : goal.returns
returns c = record {
  size = c.loop-event.invariant.size ∙ bytes_whole c.args.events.now c.loop-event.event-index (omega arith);
  encodable = all_whole IsEncodable c.args.events.now c.loop-event.event-index (omega arith) c.loop-event.invariant.encodable;
  none = tt;
}
