use Rattle.server_log.proofs.OneEncoding.{read_is_encodable}
use Rattle.test_tables.proofs.store_calls.events.reencode.Goals as goal

pub cost-cost-requires : goal.cost-cost-requires
cost-cost-requires c = read_is_encodable c.args.bytes.now c.in_ok-event.event c.in_ok-event.taken c.type_inv.bytes c.in_ok-event.ensures

pub encode-requires : goal.encode-requires
encode-requires c = read_is_encodable c.args.bytes.now c.in_ok-event.event c.in_ok-event.taken c.type_inv.bytes c.in_ok-event.ensures
