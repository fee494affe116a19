use Rattle.server.proofs.OpeningCounters.{all_counted, next_counted}
use Rattle.server.proofs.opening.counters.start_at.Goals as goal

pub loop-row-preserved : goal.loop-row-preserved
loop-row-preserved c =
    next_counted c.args.place c.loop-row.most c.most_with-most.result c.in-Some.row.now c.loop-row.row-iterator c.next.new.self c.args.table.now.table c.in-Some.ensures.steps c.most_with-most.ensures c.loop-row.invariant

pub returns : goal.returns
returns c = all_counted c.args.place c.loop-row.most c.loop-row.row-iterator c.args.table.now.table c.in-None.ensures.steps.0 c.loop-row.invariant
