use Rattle.std.proofs.Common.{◌≡◌, drop}
use Rattle.std.specs.List.{find}
use Rattle.tool_program.specs.Orders.{actors, owned}
use Rattle.run_workers.specs.WorkerRun.Workers.{is_wanted}
use Rattle.run_workers.proofs.worker_run.choice.next_candidate.Given as goal

-- the actors from here on decide
abbrev pub invariant-loop-place : goal.invariant-loop-place
invariant-loop-place g l =
    find (is_wanted l.wanted l.feed.run.plan l.feed.run.journal (owned l.feed.run.plan l.member.workers l.member.worker)) (drop l.place (actors l.feed.run.plan))
    ≡ find (is_wanted l.wanted l.feed.run.plan l.feed.run.journal (owned l.feed.run.plan l.member.workers l.member.worker)) (drop l.from (actors l.feed.run.plan))
