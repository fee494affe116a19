use Rattle.run_workers.proofs.WorkerRun.Picking.{by_first, by_second}
use Rattle.run_workers.proofs.worker_run.choice.pick.Goals as goal

pub returns-in-Some-clause-picked : goal.returns-in-Some-clause-picked
returns-in-Some-clause-picked g c = λ last goes. by_first c.args.feed.now.run.plan c.args.feed.now.run.journal c.args.member.workers c.args.member.worker c.args.from last c.in-Some.candidate.actor goes c.in-Some.ensures.first

pub returns-in-Some-next_candidate-clause-picked : goal.returns-in-Some-next_candidate-clause-picked
returns-in-Some-next_candidate-clause-picked g c =
    λ last goes. by_second c.args.feed.now.run.plan c.args.feed.now.run.journal c.args.member.workers c.args.member.worker c.args.from last c.in-Some-next_candidate.candidate.actor goes c.in_default.ensures.first c.in-Some-next_candidate.ensures.first
