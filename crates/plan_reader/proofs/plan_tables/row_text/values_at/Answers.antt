use Rattle.std.proofs.Common.{sym}
use Rattle.std.proofs.lemmas.Result.{err_from_is_err_and}
use Rattle.plan_reader.proofs.PlanTables.RowValues.{goes_on, no_sign, fails, is_full}
use Rattle.plan_reader.proofs.plan_tables.row_text.values_at.Goals as goal

pub returns-in-None : goal.returns-in-None
returns-in-None c = no_sign c.loop-column.row c.args.columns.now c.loop-column.column-index c.loop-column.is_first c.column-item.result c.loop-column.rest.now _ c.loop-column-test.true c.column-item.is (sym c.in-None.ensures) c.loop-column.invariant

pub returns-in_err-value : goal.returns-in_err-value
returns-in_err-value c =
    let p = err_from_is_err_and c.from_residual.result c.from_residual.ensures.1 in
    rw (p.1, p.2) (fails c.in_err-value.field-0.0 c.loop-column.row c.args.columns.now c.loop-column.column-index c.loop-column.is_first c.column-item.result c.loop-column.rest.now c.in-Some.following.now _ c.loop-column-test.true c.column-item.is (sym c.in-Some.ensures) c.in_err-value.ensures c.loop-column.invariant)

pub loop-column-preserved : goal.loop-column-preserved
loop-column-preserved c = rw c.in_ok-push.ensures.ok (goes_on c.loop-column.row c.args.columns.now c.loop-column.column-index c.loop-column.is_first c.column-item.result c.loop-column.rest.now c.in-Some.following.now c.in_ok-value.value c.in_ok-value.after.now _ c.loop-column-test.true c.column-item.is (sym c.in-Some.ensures) c.in_ok-value.ensures c.loop-column.invariant)

pub returns : goal.returns
returns c = rw c.in_ok-from_sequence.ensures (is_full c.loop-column.row c.args.columns.now c.loop-column.column-index c.loop-column.is_first c.loop-column.rest.now _ c.loop-column-test.false c.loop-column.invariant)
