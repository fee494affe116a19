use Rattle.server_storage.specs.Storage.{committed, written}
use Rattle.server.proofs.Turns.{call_server}
use Rattle.server.proofs.server.ServerServe.call.Goals as goal

pub invariant_of-self : goal.invariant_of-self
invariant_of-self c =
    call_server c.call.result (committed c.self.inside.storage) (committed c.call.new.storage) (written c.self.inside.storage) (written c.call.new.storage) c.self.inside.all_sessions c.call.new.all_sessions c.call.new.known c.args.session c.args.request.now c.self.invariant.together
    (rw (← c.self.view_is) at c.requires) c.call.ensures.ok c.call.ensures.err c.call.ensures.have c.call.ensures.blocked

pub invariant_of-self-2 : goal.invariant_of-self-2
invariant_of-self-2 c =
    call_server c.call.result (committed c.self.inside.storage) (committed c.call.new.storage) (written c.self.inside.storage) (written c.call.new.storage) c.self.inside.all_sessions c.call.new.all_sessions c.call.new.known c.args.session c.args.request.now c.self.invariant.together
    (rw (← c.self.view_is) at c.requires) c.call.ensures.ok c.call.ensures.err c.call.ensures.have c.call.ensures.blocked
