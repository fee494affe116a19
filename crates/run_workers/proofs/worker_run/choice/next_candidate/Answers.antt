use Rattle.std.proofs.Common.{sym, ◌∙◌, arith}
use Rattle.std.proofs.lemmas.Bool.Decides.{nat_tests}
use Rattle.tool_program.specs.Orders.{actors, owned}
use Rattle.run_workers.specs.WorkerRun.Workers.{is_wanted}
use Rattle.run_workers.proofs.WorkerRun.FirstWanted.{found_here, found_later, found_none}
use Rattle.run_workers.proofs.worker_run.choice.next_candidate.Goals as goal

pub returns-then-is_wanted-clause-first : goal.returns-then-is_wanted-clause-first
returns-then-is_wanted-clause-first g c =
    sym
    (found_here (is_wanted c.args.wanted c.args.feed.now.run.plan c.args.feed.now.run.journal (owned c.args.feed.now.run.plan c.args.member.workers c.args.member.worker)) (actors c.args.feed.now.run.plan) c.loop-place.place c.actor_at-actor.result
    c.actor_at-actor.ensures (sym c.is_wanted.ensures ∙ c.if-is_wanted.true))
    ∙ c.loop-place.invariant

pub loop-place-preserved : goal.loop-place-preserved
loop-place-preserved g c =
    found_later (is_wanted c.args.wanted c.args.feed.now.run.plan c.args.feed.now.run.journal (owned c.args.feed.now.run.plan c.args.member.workers c.args.member.worker)) (actors c.args.feed.now.run.plan) c.loop-place.place c.actor_at-actor.result
    c.actor_at-actor.ensures (sym c.is_wanted.ensures ∙ c.if-is_wanted.false)
    ∙ c.loop-place.invariant

pub returns-clause-first : goal.returns-clause-first
returns-clause-first g c =
    sym
    (found_none (is_wanted c.args.wanted c.args.feed.now.run.plan c.args.feed.now.run.journal (owned c.args.feed.now.run.plan c.args.member.workers c.args.member.worker)) (actors c.args.feed.now.run.plan) c.loop-place.place
    (grind (arith, nat_tests, c.loop-place-test.false, c.actor_count-place-end.ensures)))
    ∙ c.loop-place.invariant
