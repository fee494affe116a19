use Rattle.std.proofs.Common.{◌∙◌}
use Rattle.run_judge.proofs.DrawnClients.{is_reached, over_undrawn, undrawn}
use Rattle.run_auditor.proofs.trace_clients.is_over.Goals as goal

pub returns : goal.returns
returns c = λ reached turns followed.
    c.is_over.ensures.over (undrawn c.args.script.now c.args.client.now.state reached) (is_reached c.args.script.now c.args.client.now.drawn c.args.client.now.state reached followed.reached)
    ∙ over_undrawn c.args.script.now c.args.client.now.drawn c.args.client.now.state reached followed.reached
