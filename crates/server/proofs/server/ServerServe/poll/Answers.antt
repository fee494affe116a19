use Rattle.server_storage.specs.Storage.{committed, written}
use Rattle.server.proofs.Turns.{poll_server}
use Rattle.server.proofs.server.ServerServe.poll.Goals as goal

pub invariant_of-self : goal.invariant_of-self
invariant_of-self c =
    poll_server c.poll.result (committed c.self.inside.storage) (committed c.poll.new.storage) (written c.self.inside.storage) (written c.poll.new.storage) c.self.inside.all_sessions c.poll.new.all_sessions c.poll.new.known c.args.session c.self.invariant.together
    (rw (← c.self.view_is) at c.requires) c.poll.ensures.ok c.poll.ensures.err c.poll.ensures.have c.poll.ensures.blocked

pub invariant_of-self-2 : goal.invariant_of-self-2
invariant_of-self-2 c =
    poll_server c.poll.result (committed c.self.inside.storage) (committed c.poll.new.storage) (written c.self.inside.storage) (written c.poll.new.storage) c.self.inside.all_sessions c.poll.new.all_sessions c.poll.new.known c.args.session c.self.invariant.together
    (rw (← c.self.view_is) at c.requires) c.poll.ensures.ok c.poll.ensures.err c.poll.ensures.have c.poll.ensures.blocked
