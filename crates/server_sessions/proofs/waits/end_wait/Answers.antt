use Rattle.std.proofs.Common.{not, nat_eq, rules}
use Rattle.std.proofs.lemmas.Fn.{filter_same}
use Rattle.server_model.specs.declared.session.Waiting.{Waiting}
use Rattle.server_sessions.proofs.waits.end_wait.Goals as goal

pub returns : goal.returns
returns c = filter_same _ (λ (one : Waiting). not (nat_eq one.session c.args.number)) _ (λ x b f' r. search rules) c.args.waiting.now.items c.retain.new.self.items c.retain.ensures.filtered
