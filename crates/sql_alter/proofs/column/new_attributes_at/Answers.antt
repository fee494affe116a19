use Rattle.std.proofs.Common.{length}
use Rattle.std.proofs.lemmas.Result.{err_from_is_err_and}
use Rattle.sql_grammar.specs.Attributes.{with_attribute}
use Rattle.sql_grammar.proofs.Gathering.{one_more, no_more, all_read}
use Rattle.sql_alter.specs.Column.{new_attribute_at, new_attributes_at}
use Rattle.sql_grammar.proofs.Gathering.{one_fails}
use Rattle.sql_alter.proofs.column.new_attributes_at.Goals as goal

pub returns-in_err-new_attribute_at : goal.returns-in_err-new_attribute_at
unfolding new_attributes_at
returns-in_err-new_attribute_at c =
    let p = err_from_is_err_and c.from_residual.result c.from_residual.ensures.1 in
    rw (p.1, p.2) (one_fails (new_attribute_at c.args.version) with_attribute c.in_err-new_attribute_at.field-0.0 c.loop.attributes (length c.args.words.now) c.loop.counter c.loop.rest.now _ c.loop-test.true c.in_err-new_attribute_at.ensures c.loop.invariant)

pub returns-in-None : goal.returns-in-None
unfolding new_attributes_at
returns-in-None c = no_more (new_attribute_at c.args.version) with_attribute c.loop.attributes (length c.args.words.now) c.loop.counter c.loop.rest.now _ c.loop-test.true (rw c.in-None.is at c.in_ok-new_attribute_at.ensures) c.loop.invariant

pub loop-preserved : goal.loop-preserved
loop-preserved c = rw c.with-attributes.ensures (one_more (new_attribute_at c.args.version) with_attribute c.loop.attributes (length c.args.words.now) c.loop.counter c.loop.rest.now _ c.in-Some.attribute c.in-Some.following.now c.loop-test.true (rw c.in-Some.is at c.in_ok-new_attribute_at.ensures) c.loop.invariant)

pub returns : goal.returns
unfolding new_attributes_at
returns c = all_read (new_attribute_at c.args.version) with_attribute c.loop.attributes (length c.args.words.now) c.loop.counter c.loop.rest.now _ c.loop-test.false c.loop.invariant
