use Rattle.top_call.proofs.Rebuilt.{reported_undone}
use Rattle.top_call.proofs.outcome.reported_after.Goals as goal

pub returns-clause-printed : goal.returns-clause-printed
returns-clause-printed g c =
    reported_undone (λ end. end.verdict) (λ end. g.V.Serve.state end.server) (λ end. end.sessions) c.args.plan.now c.args.left.journal c.args.left.end c.reported-printed.result c.requires.end c.requires.undone c.reported-printed.ensures.none
    c.reported-printed.ensures.report
