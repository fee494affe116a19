use Rattle.std.proofs.Common.{◌≡◌, ◌≤◌, ◌<◌, false, List, replicate, sym, ap, ◌∙◌, subst, arith}
use Rattle.std.specs.Prelude.{vec_len, vec_capacity}
use Rattle.plan_data.specs.declared.options.Options.{Options}
use Rattle.plan_data.specs.PlanData.{PlanData}
use Rattle.tool_program.specs.Orders.{WorkerTurn}
use Rattle.run_turns.specs.Runs.{RunView}
use Rattle.run_workers.specs.WorkerRun.WorkedRuns.{IsWorked}
use Rattle.run_workers.proofs.WorkerRun.Working.{worked_begins}
use Rattle.run_workers.proofs.worker_run.worked.Worked.open.Goals as goal

pub invariant_of-result : goal.invariant_of-result
invariant_of-result g c =
    let reported : c.options-limit.result.turn_limit ≡ c.args.feed.run.plan.options.turn_limit =
    ap (λ (o : Options). o.turn_limit) c.options-limit.ensures ∙ ap (λ (p : PlanData). p.options.turn_limit) (c.plan.ensures ∙ ap (λ (r : RunView). r.plan) c.run.ensures) in
    let room : c.args.feed.run.plan.options.turn_limit ≤ vec_capacity c.in_ok-with_capacity.field-0 = omega (arith, reported, c.in_ok-with_capacity.ensures.capacity) in
    let some : 0 < c.args.workers = omega (arith, c.requires.some) in
    subst (λ (all : List WorkerTurn). IsWorked c.args.feed.run c.args.workers all (vec_len c.in_ok-with_capacity.field-0) (vec_capacity c.in_ok-with_capacity.field-0) c.in_ok-vec.field-0.items false) (sym c.in_ok-with_capacity.ensures.items)
    (worked_begins c.args.feed.run c.args.workers (vec_len c.in_ok-with_capacity.field-0) (vec_capacity c.in_ok-with_capacity.field-0) c.in_ok-vec.field-0.items c.requires.going c.requires.fresh c.requires.server some
    c.in_ok-with_capacity.ensures.len room (c.in_ok-vec.ensures.items_if_clones_equal (λ y same. same) ∙ ap (replicate c.args.workers) c.actor_count.ensures))
