use Rattle.std.proofs.Common.{ap, ◌∙◌}
use Rattle.server_model.specs.PlainServer.{loses}
use Rattle.server_model.specs.States.{State}
use Rattle.server_storage.specs.Storage.{committed}
use Rattle.server.specs.Parts.{state_of}
use Rattle.server.proofs.Counting.{left_lost}
use Rattle.server.proofs.losses.lose_session.Goals as goal

pub returns-clause-ok : goal.returns-clause-ok
returns-clause-ok c =
    let state : State = state_of (committed c.args.storage.now) c.args.all_sessions.now in
    c.lose.ensures.state ∙ (ap (loses c.args.session) c.in_ok-missed.ensures.ok ∙ left_lost c.args.side state c.args.session c.args.asked.now c.requires.may.well)
