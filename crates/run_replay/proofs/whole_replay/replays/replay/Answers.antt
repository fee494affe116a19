use Rattle.std.proofs.Common.{◌≡◌, ◌≤◌, length, refl, sym, ap, ◌∙◌, arith}
use Rattle.plan_data.specs.declared.options.Options.{Options}
use Rattle.plan_data.specs.PlanData.{PlanData}
use Rattle.run_turns.specs.Runs.{RunView}
use Rattle.run_replay.specs.WholeReplay.Marks.{counted}
use Rattle.run_replay.proofs.WholeReplay.GoingOn.{begins, full_over}
use Rattle.run_replay.proofs.WholeReplay.Marking.{begins_uncounted, goes_on_counted}
use Rattle.run_replay.proofs.whole_replay.replays.replay.Goals as goal

pub loop-turn-init : goal.loop-turn-init
loop-turn-init g c = record {
  replaying = begins c.args.feed.now.run c.actor_count.result c.requires c.actor_count.ensures;
  plan = refl;
  count = omega arith;
  marked = begins_uncounted c.args.feed.now.run c.args.tables.now c.requires;
}

pub loop-turn-preserved : goal.loop-turn-preserved
loop-turn-preserved g c = record {
  replaying = c.in-Took.ensures.replaying;
  plan = c.in-Took.ensures.plan ∙ c.loop-turn.invariant.plan;
  count = omega (arith, c.in-Took.ensures.count, c.loop-turn.invariant.count);
  marked = goes_on_counted c.loop-turn.feed.run c.pass.new.feed.run c.pass.new.place c.args.tables.now c.loop-turn.logged c.counted-logged.result c.in-Took.ensures c.loop-turn.invariant.marked
      (c.counted-logged.ensures ∙ ap (λ (r : RunView). counted r.plan r.journal r.server c.args.tables.now c.loop-turn.logged) c.run-in-Took.ensures);
}

pub returns-clause-over : goal.returns-clause-over
returns-clause-over g c =
    let reported : c.options-limit.result.turn_limit ≡ c.plan.result.now.options.turn_limit = ap (λ (o : Options). o.turn_limit) c.options-limit.ensures in
    let limit : c.plan.result.now.options.turn_limit ≡ c.loop-turn.feed.run.plan.options.turn_limit = ap (λ (p : PlanData). p.options.turn_limit) (c.plan.ensures ∙ ap (λ (r : RunView). r.plan) c.run.ensures ∙ sym c.loop-turn.invariant.plan) in
    let full : c.loop-turn.feed.run.plan.options.turn_limit ≤ length c.loop-turn.feed.run.journal = omega (arith, reported, limit, c.loop-turn.invariant.count, c.loop-turn-test.false) in
    λ same. full_over c.loop-turn.feed.run.plan c.loop-turn.feed.run.journal full
