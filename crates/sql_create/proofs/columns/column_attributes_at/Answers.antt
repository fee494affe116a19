use Rattle.std.proofs.Common.{length}
use Rattle.std.proofs.lemmas.Result.{err_from_is_err_and}
use Rattle.sql_grammar.proofs.Gathering.{one_more, no_more, one_fails, all_read}
use Rattle.sql_create.specs.Columns.{with_column_attribute, column_attribute_at, column_attributes_at}
use Rattle.sql_create.proofs.columns.column_attributes_at.Goals as goal

pub returns-in_err-column_attribute_at : goal.returns-in_err-column_attribute_at
unfolding column_attributes_at
returns-in_err-column_attribute_at c =
    let p = err_from_is_err_and c.from_residual.result c.from_residual.ensures.1 in
    rw (p.1, p.2) (one_fails (column_attribute_at c.args.version) with_column_attribute c.in_err-column_attribute_at.field-0.0 c.loop.attributes (length c.args.words.now) c.loop.counter c.loop.rest.now _ c.loop-test.true c.in_err-column_attribute_at.ensures c.loop.invariant)

pub returns-in-None : goal.returns-in-None
unfolding column_attributes_at
returns-in-None c = no_more (column_attribute_at c.args.version) with_column_attribute c.loop.attributes (length c.args.words.now) c.loop.counter c.loop.rest.now _ c.loop-test.true (rw c.in-None.is at c.in_ok-column_attribute_at.ensures) c.loop.invariant

pub loop-preserved : goal.loop-preserved
loop-preserved c = rw c.with-attributes.ensures (one_more (column_attribute_at c.args.version) with_column_attribute c.loop.attributes (length c.args.words.now) c.loop.counter c.loop.rest.now _ c.in-Some.attribute c.in-Some.following.now c.loop-test.true (rw c.in-Some.is at c.in_ok-column_attribute_at.ensures) c.loop.invariant)

pub returns : goal.returns
unfolding column_attributes_at
returns c = all_read (column_attribute_at c.args.version) with_column_attribute c.loop.attributes (length c.args.words.now) c.loop.counter c.loop.rest.now _ c.loop-test.false c.loop.invariant
