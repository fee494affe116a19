use Rattle.std.proofs.Common.{not, nat_eq, ◌&&◌, cond, ap, ◌∙◌, rules}
use Rattle.std.proofs.lemmas.Fn.{filter_same}
use Rattle.server_locks.specs.declared.metadata_locks.request.Request.{Request}
use Rattle.server_locks.specs.MetadataLocks.Requests.{all_locks}
use Rattle.server_locks.proofs.MetadataLocks.Leaving.{own_left}
use Rattle.server_locks.proofs.metadata_locks.grants.take_away_own.Goals as goal

pub returns-clause-rest : goal.returns-clause-rest
returns-clause-rest c =
    ap all_locks (filter_same _ (λ (request : Request). not (nat_eq request.session c.args.session && cond c.args.exclusive request.exclusive (not request.exclusive))) _ (λ x b f' r. search rules) c.args.granted.now.items c.retain.new.self.items c.retain.ensures.filtered)
    ∙ own_left c.args.granted.now.items c.args.session c.args.exclusive
