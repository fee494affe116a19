use Rattle.std.proofs.Common.{length, sym}
use Rattle.std.proofs.lemmas.Result.{err_from_is_err_and}
use Rattle.sql_grammar.proofs.Lists.{goes_on, is_last, is_over}
use Rattle.sql_change.specs.declared.code.AlterCode.TheVariants.{Syntax}
use Rattle.sql_alter.specs.Clauses.{clause_at, list_at}
use Rattle.sql_grammar.proofs.Lists.{item_fails}
use Rattle.sql_alter.proofs.clauses.list_at.Goals as goal

pub returns-in_err-clause : goal.returns-in_err-clause
unfolding list_at
returns-in_err-clause c =
    let p = err_from_is_err_and c.from_residual.result c.from_residual.ensures.1 in
    rw (p.1, p.2) (item_fails (clause_at c.args.version) Syntax c.in_err-clause.field-0.0 c.loop.clauses (length c.args.words.now) c.loop.counter c.loop.rest.now _ c.loop-test.true c.in_err-clause.ensures c.loop.invariant)

pub returns-in-None : goal.returns-in-None
unfolding list_at
returns-in-None c = rw c.in_ok-push.ensures.ok (is_last (clause_at c.args.version) Syntax c.loop.clauses (length c.args.words.now) c.loop.counter c.loop.rest.now _ c.in_ok-clause.clause c.in_ok-clause.following.now c.loop-test.true c.in_ok-clause.ensures (sym c.in-None.ensures) c.loop.invariant)

pub loop-preserved : goal.loop-preserved
loop-preserved c = rw c.in_ok-push.ensures.ok (goes_on (clause_at c.args.version) Syntax c.loop.clauses (length c.args.words.now) c.loop.counter c.loop.rest.now _ c.in_ok-clause.clause c.in_ok-clause.following.now c.in-Some.next.now c.loop-test.true c.in_ok-clause.ensures (sym c.in-Some.ensures) c.loop.invariant)

pub returns : goal.returns
unfolding list_at
returns c = is_over (clause_at c.args.version) Syntax c.loop.clauses (length c.args.words.now) c.loop.counter c.loop.rest.now _ c.loop-test.false c.loop.invariant
