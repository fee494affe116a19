use Rattle.std.proofs.Common.{length, sym}
use Rattle.std.proofs.lemmas.Result.{err_from_is_err_and}
use Rattle.sql_grammar.proofs.Lists.{goes_on, is_last, is_over}
use Rattle.sql_statement.specs.declared.code.StatementCode.TheVariants.{Syntax}
use Rattle.sql_statement.specs.Rows.{set_at, sets_at}
use Rattle.sql_grammar.proofs.Lists.{item_fails}
use Rattle.sql_statement.proofs.rows.sets_at.Goals as goal

pub returns-in_err-set : goal.returns-in_err-set
unfolding sets_at
returns-in_err-set c =
    let p = err_from_is_err_and c.from_residual.result c.from_residual.ensures.1 in
    rw (p.1, p.2) (item_fails set_at Syntax c.in_err-set.field-0.0 c.loop.sets (length c.args.words.now) c.loop.counter c.loop.rest.now _ c.loop-test.true c.in_err-set.ensures c.loop.invariant)

pub returns-in-None : goal.returns-in-None
unfolding sets_at
returns-in-None c = rw c.in_ok-push.ensures.ok (is_last set_at Syntax c.loop.sets (length c.args.words.now) c.loop.counter c.loop.rest.now _ c.in_ok-set.set c.in_ok-set.following.now c.loop-test.true c.in_ok-set.ensures (sym c.in-None.ensures) c.loop.invariant)

pub loop-preserved : goal.loop-preserved
loop-preserved c = rw c.in_ok-push.ensures.ok (goes_on set_at Syntax c.loop.sets (length c.args.words.now) c.loop.counter c.loop.rest.now _ c.in_ok-set.set c.in_ok-set.following.now c.in-Some.next.now c.loop-test.true c.in_ok-set.ensures (sym c.in-Some.ensures) c.loop.invariant)

pub returns : goal.returns
unfolding sets_at
returns c = is_over set_at Syntax c.loop.sets (length c.args.words.now) c.loop.counter c.loop.rest.now _ c.loop-test.false c.loop.invariant
