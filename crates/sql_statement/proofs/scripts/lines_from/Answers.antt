use Rattle.std.proofs.lemmas.Result.{err_from_is_err_and}
use Rattle.sql_statement.proofs.ReadLines.{goes_on, fails, ended}
use Rattle.sql_statement.proofs.scripts.lines_from.Goals as goal

pub returns-in_err-asked : goal.returns-in_err-asked
returns-in_err-asked c =
    let p = err_from_is_err_and c.from_residual.result c.from_residual.ensures.1 in
    rw (p.1, p.2) (fails c.args.tools.now c.loop-i.is_open c.loop-i.number c.loop-i.script c.args.texts.now c.loop-i.i _ _ c.loop-i-test.true c.in_err-asked.field-0.0 c.in_err-asked.ensures c.loop-i.invariant)

pub loop-i-preserved : goal.loop-i-preserved
loop-i-preserved c = rw (c.in_ok-push_line.ensures, c.saturating_add-number.ensures) (goes_on c.args.tools.now c.loop-i.is_open c.loop-i.number c.loop-i.script c.args.texts.now c.loop-i.i _ _ c.loop-i-test.true _ c.in_ok-asked.ensures c.loop-i.invariant)

pub returns : goal.returns
returns c = ended c.args.tools.now c.loop-i.is_open c.loop-i.number c.loop-i.script c.args.texts.now c.loop-i.i _ c.loop-i-test.false c.loop-i.invariant
