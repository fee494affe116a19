use Rattle.std.proofs.Common.{not, nat_eq, rules}
use Rattle.std.proofs.lemmas.Fn.{filter_same}
use Rattle.server_locks.specs.declared.metadata_locks.request.Waiter.{Waiter}
use Rattle.server_locks.proofs.metadata_locks.waits.end_waits.Goals as goal

pub returns-clause-rest : goal.returns-clause-rest
returns-clause-rest c = filter_same _ (λ (waiter : Waiter). not (nat_eq waiter.session c.args.session)) _ (λ x b f' r. search rules) c.args.waiting.now.items c.retain.new.self.items c.retain.ensures.filtered
