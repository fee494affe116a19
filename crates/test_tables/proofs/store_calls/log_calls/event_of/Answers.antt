use Rattle.server_log.proofs.OneEncoding.{read_is_encodable}
use Rattle.test_tables.proofs.store_calls.log_calls.event_of.Goals as goal

pub returns-in-Ok : goal.returns-in-Ok
returns-in-Ok c = read_is_encodable c.args.bytes.now c.in-Ok.event c.in-Ok.field-0-1 c.type_inv.bytes c.in-Ok.ensures
