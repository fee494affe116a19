use Rattle.server_storage.specs.Storage.{committed, written}
use Rattle.server.proofs.Turns.{loss_server}
use Rattle.server.proofs.server.ServerServe.lose.Goals as goal

pub invariant_of-self : goal.invariant_of-self
invariant_of-self c =
    loss_server c.lose_session-missed.result (committed c.self.inside.storage) (committed c.lose_session-missed.new.storage) (written c.self.inside.storage) (written c.lose_session-missed.new.storage) c.self.inside.all_sessions c.lose_session-missed.new.all_sessions c.forget.new.self c.args.session c.args.side c.args.asked.now c.self.invariant.together
    (rw (← c.self.view_is) at c.requires) c.lose_session-missed.ensures.ok c.lose_session-missed.ensures.err c.lose_session-missed.ensures.have (rw c.forget.ensures tt)

pub invariant_of-self-in-Some : goal.invariant_of-self-in-Some
invariant_of-self-in-Some c =
    loss_server c.lose_session-missed.result (committed c.self.inside.storage) (committed c.lose_session-missed.new.storage) (written c.self.inside.storage) (written c.lose_session-missed.new.storage) c.self.inside.all_sessions c.lose_session-missed.new.all_sessions c.forget.new.self c.args.session c.args.side c.args.asked.now c.self.invariant.together
    (rw (← c.self.view_is) at c.requires) c.lose_session-missed.ensures.ok c.lose_session-missed.ensures.err c.lose_session-missed.ensures.have (rw c.forget.ensures tt)

pub invariant_of-self-in-None : goal.invariant_of-self-in-None
invariant_of-self-in-None c =
    loss_server c.lose_session-missed.result (committed c.self.inside.storage) (committed c.lose_session-missed.new.storage) (written c.self.inside.storage) (written c.lose_session-missed.new.storage) c.self.inside.all_sessions c.lose_session-missed.new.all_sessions c.forget.new.self c.args.session c.args.side c.args.asked.now c.self.invariant.together
    (rw (← c.self.view_is) at c.requires) c.lose_session-missed.ensures.ok c.lose_session-missed.ensures.err c.lose_session-missed.ensures.have (rw c.forget.ensures tt)
