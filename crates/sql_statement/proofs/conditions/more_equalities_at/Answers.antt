use Rattle.std.proofs.Common.{length}
use Rattle.std.proofs.lemmas.Result.{err_from_is_err_and}
use Rattle.sql_grammar.proofs.Gathering.{one_more, no_more, all_read}
use Rattle.sql_statement.specs.Conditions.{and_equality_at, with_set, more_equalities_at}
use Rattle.sql_grammar.proofs.Gathering.{one_fails}
use Rattle.sql_statement.proofs.conditions.more_equalities_at.Goals as goal

pub returns-in_err-and_equality_at : goal.returns-in_err-and_equality_at
unfolding more_equalities_at
returns-in_err-and_equality_at c =
    let p = err_from_is_err_and c.from_residual.result c.from_residual.ensures.1 in
    rw (p.1, p.2) (one_fails and_equality_at with_set c.in_err-and_equality_at.field-0.0 c.loop.all (length c.args.words.now) c.loop.counter c.loop.rest.now _ c.loop-test.true c.in_err-and_equality_at.ensures c.loop.invariant)

pub returns-in-None : goal.returns-in-None
unfolding more_equalities_at
returns-in-None c = no_more and_equality_at with_set c.loop.all (length c.args.words.now) c.loop.counter c.loop.rest.now _ c.loop-test.true (rw c.in-None.is at c.in_ok-and_equality_at.ensures) c.loop.invariant

pub loop-preserved : goal.loop-preserved
loop-preserved c = rw c.in_ok-push-in-Some.ensures.ok (one_more and_equality_at with_set c.loop.all (length c.args.words.now) c.loop.counter c.loop.rest.now _ c.in-Some.set c.in-Some.following.now c.loop-test.true (rw c.in-Some.is at c.in_ok-and_equality_at.ensures) c.loop.invariant)

pub returns : goal.returns
unfolding more_equalities_at
returns c = all_read and_equality_at with_set c.loop.all (length c.args.words.now) c.loop.counter c.loop.rest.now _ c.loop-test.false c.loop.invariant
