use Rattle.std.proofs.lemmas.Result.{err_from_is_err_and}
use Rattle.sql_change.proofs.StepsSoFar.{goes_on, fails, is_done}
use Rattle.sql_change.proofs.Tables.{step-stands}
use Rattle.sql_change.proofs.alters.steps.Goals as goal

pub returns-in_err-standing-clause-said : goal.returns-in_err-standing-clause-said
returns-in_err-standing-clause-said c =
    let p = err_from_is_err_and c.from_residual.result c.from_residual.ensures.1 in
    rw (p.1, p.2) (fails c.args.approve c.loop-clause.standing c.args.clauses.now c.loop-clause.clause-index c.clause-item.result _ c.in_err-standing.field-0.0 c.loop-clause-test.true c.clause-item.is c.in_err-standing.ensures c.loop-clause.invariant.said)

pub loop-clause-preserved : goal.loop-clause-preserved
loop-clause-preserved c = record {
  said = goes_on c.args.approve c.loop-clause.standing c.args.clauses.now c.loop-clause.clause-index c.clause-item.result _ c.in_ok-standing.standing c.loop-clause-test.true c.clause-item.is c.in_ok-standing.ensures c.loop-clause.invariant.said;
  stands = step-stands c.args.approve c.loop-clause.standing c.in_ok-standing.standing c.clause-item.result c.loop-clause.invariant.stands c.in_ok-standing.ensures;
}

pub returns-clause-said : goal.returns-clause-said
returns-clause-said c = is_done c.args.approve c.loop-clause.standing c.args.clauses.now c.loop-clause.clause-index _ c.loop-clause-test.false c.loop-clause.invariant.said
