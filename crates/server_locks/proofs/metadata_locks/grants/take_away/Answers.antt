use Rattle.std.proofs.Common.{not, nat_eq, ap, ◌∙◌, rules}
use Rattle.std.proofs.lemmas.Fn.{filter_same}
use Rattle.server_locks.specs.declared.metadata_locks.request.Request.{Request}
use Rattle.server_locks.specs.MetadataLocks.Requests.{all_locks}
use Rattle.server_locks.proofs.MetadataLocks.Leaving.{locks_left}
use Rattle.server_locks.proofs.metadata_locks.grants.take_away.Goals as goal

pub returns-clause-rest : goal.returns-clause-rest
returns-clause-rest c =
    ap all_locks (filter_same _ (λ (request : Request). not (nat_eq request.session c.args.session)) _ (λ x b f' r. search rules) c.args.granted.now.items c.retain.new.self.items c.retain.ensures.filtered)
    ∙ locks_left c.args.granted.now.items c.args.session
