use Rattle.std.proofs.Common.{rules, ◌≡◌, true, false, not, sym, ap, ◌∙◌}
use Rattle.server_model.specs.Entries.{is_client}
use Rattle.server_model.specs.States.{session_of, is_in_transaction, is_waiting}
use Rattle.proof_journals.specs.Run.Counts.{weight}
use Rattle.run_turns.proofs.DueTurns.MigrationRun.Weights.{busies, busy_at}
use Rattle.run_turns.proofs.due_turns.migration_run.counting.is_busy.Goals as goal

pub returns-else-works : goal.returns-else-works
returns-else-works g c =
    let tool : not (is_client c.args.actor) ≡ true = search rules in
    let works : is_in_transaction (session_of c.args.session (g.V.Serve.state c.args.server.now).sessions) ≡ false = search rules in
    ap weight c.waits-waits.ensures
    ∙ busy_at (not (is_client c.args.actor)) (is_in_transaction (session_of c.args.session (g.V.Serve.state c.args.server.now).sessions)) (is_waiting (g.V.Serve.state c.args.server.now) c.args.session) tool works
    ∙ sym (busies (g.V.Serve.state c.args.server.now) c.args.session c.args.actor c.requires)
