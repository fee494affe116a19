use Rattle.std.proofs.Common.{◌≡◌, None}
use Rattle.run_turns.proofs.DueTurns.MigrationRun.Connecting.{opens_ok, opened_ok}
use Rattle.run_turns.proofs.DueTurns.MigrationRun.Results.{on_err}
use Rattle.run_turns.proofs.due_turns.migration_run.opening.open_session.Goals as goal

pub returns-in-None-clause-session : goal.returns-in-None-clause-session
returns-in-None-clause-session g c =
    rw c.in-None.is
    (opens_ok c.connect.result (g.V.Serve.state c.args.server.now) (g.V.Serve.state c.connect.new.self) c.args.actor c.connect.ensures.number (rw c.is_client.ensures at c.connect.ensures.ok))

pub returns-in-None-clause-opened : goal.returns-in-None-clause-opened
returns-in-None-clause-opened g c =
    rw c.in-None.is
    (opened_ok c.connect.result (g.V.Serve.state c.args.server.now) (g.V.Serve.state c.connect.new.self) c.args.actor c.connect.ensures.number (rw c.is_client.ensures at c.connect.ensures.ok))

pub returns-in-None-clause-costs : goal.returns-in-None-clause-costs
returns-in-None-clause-costs g c = on_err c.connect.result (c.args.session ≡ None) c.in-None.is
