use Rattle.std.proofs.Common.{not, rules}
use Rattle.std.proofs.lemmas.Fn.{filter_same}
use Rattle.server_sessions.specs.declared.grant.Grant.{Grant}
use Rattle.server_sessions.proofs.grant.keep_shared.Goals as goal

pub returns : goal.returns
returns c = filter_same _ (λ (grant : Grant). not grant.exclusive) _ (λ x b f' r. search rules) c.args.granted.now.items c.retain.new.self.items c.retain.ensures.filtered
