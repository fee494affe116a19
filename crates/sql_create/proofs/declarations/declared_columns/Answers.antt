use Rattle.std.proofs.Common.{Ok, ap, sym, ◌∙◌}
use Rattle.std.proofs.lemmas.Result.{err_from_is_err_and}
use Rattle.sql_create.proofs.DeclaredColumns.{goes_on, fails, is_full}
use Rattle.sql_create.proofs.declarations.declared_columns.Goals as goal

pub returns-in_err-column : goal.returns-in_err-column
returns-in_err-column c =
    let p = err_from_is_err_and c.from_residual.result c.from_residual.ensures.1 in
    rw (p.1, p.2) (fails c.args.primaries.now c.loop-column.declared c.args.columns.now c.loop-column.column-index _ c.in_err-column.field-0.0 c.column-item.result c.loop-column-test.true c.column-item.is c.in_err-column.ensures c.loop-column.invariant)

pub loop-column-preserved : goal.loop-column-preserved
loop-column-preserved c = rw c.in_ok-push.ensures.ok (goes_on c.args.primaries.now c.loop-column.declared c.args.columns.now c.loop-column.column-index _ c.column-item.result c.in_ok-column.column c.loop-column-test.true c.column-item.is c.in_ok-column.ensures c.loop-column.invariant)

pub returns : goal.returns
returns c = is_full c.args.primaries.now c.loop-column.declared c.args.columns.now c.loop-column.column-index _ c.loop-column-test.false c.loop-column.invariant ∙ ap Ok (sym c.in_ok-from_sequence.ensures)
