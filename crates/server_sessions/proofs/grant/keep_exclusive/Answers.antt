use Rattle.std.proofs.Common.{rules}
use Rattle.std.proofs.lemmas.Fn.{filter_same}
use Rattle.server_sessions.specs.declared.grant.Grant.{Grant}
use Rattle.server_sessions.proofs.grant.keep_exclusive.Goals as goal

pub returns : goal.returns
returns c = filter_same _ (λ (grant : Grant). grant.exclusive) _ (λ x b f' r. search rules) c.args.granted.now.items c.retain.new.self.items c.retain.ensures.filtered
