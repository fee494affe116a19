use Rattle.std.proofs.Common.{◌++◌, arith}
use Rattle.std.proofs.lemmas.Result.{on_ok_weaker}
use Rattle.top_report.specs.Turns.{order_text, runs_of, turns_taken}
use Rattle.top_report.proofs.Joining.{last_text, next_few, next_text}
use Rattle.top_report.proofs.turns.push_order.Goals as goal

pub loop-entry-preserved : goal.loop-entry-preserved
loop-entry-preserved c = record {
  text_is = next_text c.loop-entry.last c.in_ok-last.last c.args.journal.now c.loop-entry.entry-index c.entry-item.result c.loop-entry.into c.push_turn.new.into _ c.loop-entry-test.true c.entry-item.is c.in_ok-last.ensures.text c.in_ok-last.ensures.run c.loop-entry.invariant.text_is;
  few = next_few c.loop-entry.last c.in_ok-last.last c.entry-item.result c.loop-entry.entry-index c.in_ok-last.ensures.run c.loop-entry.invariant.few;
}

pub returns : goal.returns
returns c =
    on_ok_weaker c.push_last.result
    (λ grown. last_text c.loop-entry.last c.args.journal.now c.loop-entry.entry-index c.loop-entry.into c.push_last.new.into (c.args.into.now ++ order_text (runs_of (turns_taken c.args.journal.now))) (omega (arith, c.loop-entry-test.false)) grown c.loop-entry.invariant.text_is)
    c.push_last.ensures
