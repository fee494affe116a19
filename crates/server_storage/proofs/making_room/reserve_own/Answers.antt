use Rattle.server_storage.proofs.KeptTxns.Grown.{reserved_some, reserving_keeps}
use Rattle.server_storage.proofs.making_room.reserve_own.Goals as goal

pub returns-clause-own : goal.returns-clause-own
returns-clause-own c = reserved_some c.args.session c.args.txns.now.items c.reserve_in.new.txns.items c.reserve_in.ensures.reserved

pub returns-clause-kept : goal.returns-clause-kept
returns-clause-kept c = λ tables kept. reserving_keeps tables c.args.session c.args.txns.now.items c.reserve_in.new.txns.items kept c.reserve_in.ensures.reserved
