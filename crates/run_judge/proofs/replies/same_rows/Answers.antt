use Rattle.std.proofs.Common.{sym, ◌∙◌, arith}
use Rattle.run_judge.proofs.ComparedReplies.{rows_differ, rows_go_on}
use Rattle.run_judge.proofs.replies.same_rows.Goals as goal

pub returns-then-not-same_row : goal.returns-then-not-same_row
returns-then-not-same_row c =
    rows_differ c.args.rows.now c.args.others.now c.loop-place.place c.index-rows-place.result c.index-others-place.result (omega arith) (omega (arith, c.if-rows-others.false)) c.index-rows-place.is c.index-others-place.is
    (sym c.same_row.ensures ∙ c.if-not-same_row.true) c.loop-place.invariant

pub loop-place-preserved : goal.loop-place-preserved
loop-place-preserved c =
    rows_go_on c.args.rows.now c.args.others.now c.loop-place.place c.index-rows-place.result c.index-others-place.result (omega arith) (omega (arith, c.if-rows-others.false)) c.index-rows-place.is c.index-others-place.is
    (sym c.same_row.ensures ∙ c.if-not-same_row.false) c.loop-place.invariant
