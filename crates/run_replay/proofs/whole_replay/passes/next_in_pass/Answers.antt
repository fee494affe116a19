use Rattle.std.proofs.Common.{◌≡◌, ℕ, ◌+◌, List, [], drop, Some, sym, ap, ◌∙◌, arith}
use Rattle.std.proofs.lemmas.Bool.Decides.{nat_tests}
use Rattle.base_script.specs.declared.actor.Actor.{Actor}
use Rattle.tool_program.specs.Orders.{actors, may_go, first_ready, Choice}
use Rattle.run_replay.specs.WholeReplay.Places.{words_from}
use Rattle.run_replay.proofs.WholeReplay.PassChoices.{by_taken, actor_passed, by_spent, no_words}
use Rattle.run_replay.proofs.whole_replay.passes.next_in_pass.Goals as goal

pub returns-then-may_go : goal.returns-then-may_go
returns-then-may_go g c =
    let none : words_from 0 (drop c.run_count-words.result c.args.feed.now.run.plan.turns) ≡ [] = ap (λ (n : ℕ). words_from 0 (drop n c.args.feed.now.run.plan.turns)) c.run_count-words.ensures ∙ no_words c.args.feed.now.run.plan.turns in
    ap
    (λ (words : List Actor).
    let one : Choice = record { actor = c.actor_at-actor.result; queue = record { words = words; round = drop (c.loop-place.place + 1) (actors c.args.feed.now.run.plan) } } in
    Some one)
    none
    ∙ by_taken (may_go c.args.feed.now.run.plan c.args.feed.now.run.journal) (actors c.args.feed.now.run.plan) c.loop-place.place c.actor_at-actor.result
    (first_ready (may_go c.args.feed.now.run.plan c.args.feed.now.run.journal) (drop c.args.from (actors c.args.feed.now.run.plan))) c.actor_at-actor.ensures (sym c.may_go.ensures ∙ c.if-may_go.true) c.loop-place.invariant

pub loop-place-preserved : goal.loop-place-preserved
loop-place-preserved g c =
    actor_passed (may_go c.args.feed.now.run.plan c.args.feed.now.run.journal) (actors c.args.feed.now.run.plan) c.loop-place.place c.actor_at-actor.result c.actor_at-actor.ensures (sym c.may_go.ensures ∙ c.if-may_go.false) ∙ c.loop-place.invariant

pub returns : goal.returns
returns g c =
    by_spent (may_go c.args.feed.now.run.plan c.args.feed.now.run.journal) (actors c.args.feed.now.run.plan) c.loop-place.place (first_ready (may_go c.args.feed.now.run.plan c.args.feed.now.run.journal) (drop c.args.from (actors c.args.feed.now.run.plan)))
    (grind (arith, nat_tests, c.loop-place-test.false, c.actor_count-place-end.ensures)) c.loop-place.invariant
