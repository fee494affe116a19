use Rattle.std.proofs.Common.{length, sym}
use Rattle.std.proofs.lemmas.Result.{err_from_is_err_and}
use Rattle.sql_grammar.proofs.Lists.{goes_on, is_last, is_over}
use Rattle.sql_statement.specs.declared.code.StatementCode.TheVariants.{Syntax}
use Rattle.sql_statement.specs.Pieces.{literal_at}
use Rattle.sql_statement.specs.Rows.{literals_at}
use Rattle.sql_grammar.proofs.Lists.{item_fails}
use Rattle.sql_statement.proofs.rows.literals_at.Goals as goal

pub returns-in_err-value : goal.returns-in_err-value
unfolding literals_at
returns-in_err-value c =
    let p = err_from_is_err_and c.from_residual.result c.from_residual.ensures.1 in
    rw (p.1, p.2) (item_fails literal_at Syntax c.in_err-value.field-0.0 c.loop.values (length c.args.words.now) c.loop.counter c.loop.rest.now _ c.loop-test.true c.in_err-value.ensures c.loop.invariant)

pub returns-in-None : goal.returns-in-None
unfolding literals_at
returns-in-None c = rw (c.in_ok-from_sequence-in-None.ensures, c.in_ok-push.ensures.ok) (is_last literal_at Syntax c.loop.values (length c.args.words.now) c.loop.counter c.loop.rest.now _ c.in_ok-value.value c.in_ok-value.following.now c.loop-test.true c.in_ok-value.ensures (sym c.in-None.ensures) c.loop.invariant)

pub loop-preserved : goal.loop-preserved
loop-preserved c = rw c.in_ok-push.ensures.ok (goes_on literal_at Syntax c.loop.values (length c.args.words.now) c.loop.counter c.loop.rest.now _ c.in_ok-value.value c.in_ok-value.following.now c.in-Some.next.now c.loop-test.true c.in_ok-value.ensures (sym c.in-Some.ensures) c.loop.invariant)

pub returns : goal.returns
unfolding literals_at
returns c = is_over literal_at Syntax c.loop.values (length c.args.words.now) c.loop.counter c.loop.rest.now _ c.loop-test.false c.loop.invariant
