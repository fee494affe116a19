use Rattle.std.proofs.Common.{length, sym}
use Rattle.std.proofs.lemmas.Result.{err_from_is_err_and}
use Rattle.sql_grammar.specs.declared.code.SchemaCode.TheVariants.{Syntax}
use Rattle.sql_grammar.proofs.Lists.{goes_on, is_last, is_over, item_fails}
use Rattle.sql_create.specs.Written.{item_at, items_at}
use Rattle.sql_create.proofs.table.items_at.Goals as goal

pub returns-in_err-item : goal.returns-in_err-item
unfolding items_at
returns-in_err-item c =
    let p = err_from_is_err_and c.from_residual.result c.from_residual.ensures.1 in
    rw (p.1, p.2) (item_fails (item_at c.args.version) Syntax c.in_err-item.field-0.0 c.loop.items (length c.args.words.now) c.loop.counter c.loop.rest.now _ c.loop-test.true c.in_err-item.ensures c.loop.invariant)

pub returns-in-None : goal.returns-in-None
unfolding items_at
returns-in-None c = rw c.in_ok-push.ensures.ok (is_last (item_at c.args.version) Syntax c.loop.items (length c.args.words.now) c.loop.counter c.loop.rest.now _ c.in_ok-item.item c.in_ok-item.following.now c.loop-test.true c.in_ok-item.ensures (sym c.in-None.ensures) c.loop.invariant)

pub loop-preserved : goal.loop-preserved
loop-preserved c = rw c.in_ok-push.ensures.ok (goes_on (item_at c.args.version) Syntax c.loop.items (length c.args.words.now) c.loop.counter c.loop.rest.now _ c.in_ok-item.item c.in_ok-item.following.now c.in-Some.next.now c.loop-test.true c.in_ok-item.ensures (sym c.in-Some.ensures) c.loop.invariant)

pub returns : goal.returns
unfolding items_at
returns c = is_over (item_at c.args.version) Syntax c.loop.items (length c.args.words.now) c.loop.counter c.loop.rest.now _ c.loop-test.false c.loop.invariant
