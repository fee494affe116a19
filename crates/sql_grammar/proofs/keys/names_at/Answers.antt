use Rattle.std.proofs.Common.{length, sym}
use Rattle.std.proofs.lemmas.Result.{err_from_is_err_and}
use Rattle.sql_grammar.specs.declared.code.SchemaCode.TheVariants.{Syntax}
use Rattle.sql_grammar.specs.Keys.{names_at}
use Rattle.sql_grammar.specs.Pieces.{name_at}
use Rattle.sql_grammar.proofs.Lists.{goes_on, is_last, is_over, item_fails}
use Rattle.sql_grammar.proofs.keys.names_at.Goals as goal

pub returns-in_err-name : goal.returns-in_err-name
unfolding names_at
returns-in_err-name c =
    let p = err_from_is_err_and c.from_residual.result c.from_residual.ensures.1 in
    rw (p.1, p.2) (item_fails name_at Syntax c.in_err-name.field-0.0 c.loop.names (length c.args.words.now) c.loop.counter c.loop.rest.now _ c.loop-test.true c.in_err-name.ensures c.loop.invariant)

pub returns-in-None : goal.returns-in-None
unfolding names_at
returns-in-None c = rw c.in_ok-push.ensures.ok (is_last name_at Syntax c.loop.names (length c.args.words.now) c.loop.counter c.loop.rest.now _ c.in_ok-name.name c.in_ok-name.following.now c.loop-test.true c.in_ok-name.ensures (sym c.in-None.ensures) c.loop.invariant)

pub loop-preserved : goal.loop-preserved
loop-preserved c = rw c.in_ok-push.ensures.ok (goes_on name_at Syntax c.loop.names (length c.args.words.now) c.loop.counter c.loop.rest.now _ c.in_ok-name.name c.in_ok-name.following.now c.in-Some.next.now c.loop-test.true c.in_ok-name.ensures (sym c.in-Some.ensures) c.loop.invariant)

pub returns : goal.returns
unfolding names_at
returns c = is_over name_at Syntax c.loop.names (length c.args.words.now) c.loop.counter c.loop.rest.now _ c.loop-test.false c.loop.invariant
