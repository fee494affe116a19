use Rattle.std.proofs.Common.{Ok, sym, ap, ◌∙◌, arith}
use Rattle.std.proofs.lemmas.Result.{err_from_is_err_and}
use Rattle.base_values.proofs.RowConversion.RowConversions.{goes_on, fails, is_full}
use Rattle.base_values.proofs.row_conversion.conversion.converted_row.Goals as goal

pub returns-in_err-value : goal.returns-in_err-value
returns-in_err-value c =
    let p = err_from_is_err_and c.from_residual.result c.from_residual.ensures.1 in
    rw (p.1, p.2) (fails c.in_err-value.field-0.0 c.loop-new.made c.args.map.now c.loop-new.new-index c.loop-new.column c.new-item.result c.args.row.now _ c.loop-new-test.true c.new-item.is c.in_err-value.ensures c.loop-new.invariant.made)

pub loop-new-preserved : goal.loop-new-preserved
loop-new-preserved c = record {
  made = rw c.in_ok-push.ensures.ok (goes_on c.loop-new.made c.args.map.now c.loop-new.new-index c.loop-new.column c.new-item.result c.args.row.now c.in_ok-value.value _ c.loop-new-test.true c.new-item.is c.in_ok-value.ensures c.loop-new.invariant.made);
  column = omega arith;
}

pub returns : goal.returns
returns c = is_full c.loop-new.made c.args.map.now c.loop-new.new-index c.loop-new.column c.args.row.now _ c.loop-new-test.false c.loop-new.invariant.made ∙ ap Ok (sym c.in_ok-from_sequence.ensures)
