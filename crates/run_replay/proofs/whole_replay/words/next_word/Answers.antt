use Rattle.std.proofs.Common.{drop, sym, ◌∙◌, arith}
use Rattle.std.proofs.lemmas.Bool.Decides.{nat_tests}
use Rattle.tool_program.specs.Orders.{actors, may_go, first_ready}
use Rattle.run_replay.specs.WholeReplay.Places.{words_from}
use Rattle.run_replay.proofs.WholeReplay.WordChoices.{by_taken, run_passed, by_spent}
use Rattle.run_replay.proofs.whole_replay.words.next_word.Goals as goal

pub returns-then-is_next : goal.returns-then-is_next
returns-then-is_next g c =
    by_taken (may_go c.args.feed.now.run.plan c.args.feed.now.run.journal) c.loop-index.used c.loop-index.index c.args.feed.now.run.plan.turns c.words_at-words.result (drop c.args.place.actor (actors c.args.feed.now.run.plan))
    (first_ready (may_go c.args.feed.now.run.plan c.args.feed.now.run.journal) (words_from c.args.place.used (drop c.args.place.run c.args.feed.now.run.plan.turns))) c.words_at-words.ensures (sym c.is_next.ensures ∙ c.if-is_next.true) c.loop-index.invariant

pub loop-index-preserved : goal.loop-index-preserved
loop-index-preserved g c =
    run_passed (may_go c.args.feed.now.run.plan c.args.feed.now.run.journal) c.loop-index.used c.loop-index.index c.args.feed.now.run.plan.turns c.words_at-words.result c.words_at-words.ensures (sym c.is_next.ensures ∙ c.if-is_next.false) ∙ c.loop-index.invariant

pub returns : goal.returns
returns g c =
    by_spent (may_go c.args.feed.now.run.plan c.args.feed.now.run.journal) c.loop-index.used c.loop-index.index c.args.feed.now.run.plan.turns (drop c.args.place.actor (actors c.args.feed.now.run.plan))
    (first_ready (may_go c.args.feed.now.run.plan c.args.feed.now.run.journal) (words_from c.args.place.used (drop c.args.place.run c.args.feed.now.run.plan.turns)))
    (grind (arith, nat_tests, c.loop-index-test.false, c.run_count-index-end.ensures)) c.loop-index.invariant
