use Rattle.std.proofs.Common.{◌≡◌, None}
use Rattle.server_model.specs.PlainServer.{state_left}
use Rattle.server_model.specs.declared.entry.Asked.TheVariants.{Cut}
use Rattle.std.proofs.Common.{ap, ◌∙◌}
use Rattle.server_model.specs.States.{State}
use Rattle.run_turns.proofs.DueTurns.MigrationRun.Connecting.{closes, cut_left, made_lost, on_ok}
use Rattle.run_turns.proofs.due_turns.migration_run.opening.close_session.Goals as goal

pub returns-clause-left : goal.returns-clause-left
returns-clause-left g c = λ reported tool none idle following.
    closes reported (g.V.Serve.state c.args.server.now) (g.V.Serve.state c.lose.new.self) c.args.session tool none idle following
    (on_ok c.lose.result (g.V.Serve.state c.lose.new.self ≡ state_left None (g.V.Serve.state c.args.server.now) c.args.session Cut) c.lose.ensures.ok (c.lose.ensures.free (λ e. cc)) ∙ cut_left (g.V.Serve.state c.args.server.now) c.args.session)

pub returns-clause-made : goal.returns-clause-made
returns-clause-made g c =
    ap (λ (s : State). s.made) (on_ok c.lose.result (g.V.Serve.state c.lose.new.self ≡ state_left None (g.V.Serve.state c.args.server.now) c.args.session Cut) c.lose.ensures.ok (c.lose.ensures.free (λ e. cc)) ∙ cut_left (g.V.Serve.state c.args.server.now) c.args.session)
    ∙ made_lost (g.V.Serve.state c.args.server.now) c.args.session
