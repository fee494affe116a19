use Rattle.top_call.proofs.Rebuilt.{done_some, rested_some}
use Rattle.top_call.proofs.outcome.rebuilt_or_reported.Goals as goal

pub rebuilt-printed-requires-clause-rested : goal.rebuilt-printed-requires-clause-rested
rebuilt-printed-requires-clause-rested g c κs within =
    rested_some (λ end. end.verdict) (λ end. g.V.Serve.state end.server) (λ end. end.sessions) c.args.plan.now c.args.left.run.journal c.args.left.run.end c.in-Some.end c.in-Some.is c.requires.replay c.requires.resumes c.if-end-lt4294967295.true c.requires.end

pub returns-in-Some-clause-printed : goal.returns-in-Some-clause-printed
returns-in-Some-clause-printed g c =
    done_some c.finishes_tell_the_alter.ensures (λ end. end.verdict) (λ end. g.V.Serve.state end.server) (λ end. end.sessions) c.args.plan.now c.args.left.run.journal c.args.left.logged c.args.left.run.end c.in-Some.end c.rebuilt-printed.result c.in-Some.is c.if-end-lt4294967295.true c.requires.read c.requires.replay c.requires.resumes c.requires.logged
    c.requires.end (c.is_done.ensures.done c.if-not-is_done.false) c.rebuilt-printed.ensures
