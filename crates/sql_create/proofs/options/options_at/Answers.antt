use Rattle.std.proofs.Common.{length}
use Rattle.std.proofs.lemmas.Result.{err_from_is_err_and}
use Rattle.sql_grammar.proofs.Gathering.{one_more, no_more, one_fails, all_read}
use Rattle.sql_create.specs.Options.{with_option, option_at, options_at}
use Rattle.sql_create.proofs.options.options_at.Goals as goal

pub returns-in_err-option_at : goal.returns-in_err-option_at
unfolding options_at
returns-in_err-option_at c =
    let p = err_from_is_err_and c.from_residual-in_err-option_at.result c.from_residual-in_err-option_at.ensures.1 in
    rw (p.1, p.2) (one_fails (option_at c.args.version) with_option c.in_err-option_at.field-0.0 c.loop.options (length c.args.words.now) c.loop.counter c.loop.rest.now _ c.loop-test.true c.in_err-option_at.ensures c.loop.invariant)

pub returns-in-None : goal.returns-in-None
unfolding options_at
returns-in-None c = no_more (option_at c.args.version) with_option c.loop.options (length c.args.words.now) c.loop.counter c.loop.rest.now _ c.loop-test.true (rw c.in-None.is at c.in_ok-option_at.ensures) c.loop.invariant

pub loop-preserved : goal.loop-preserved
loop-preserved c = rw c.with_option-options.ensures (one_more (option_at c.args.version) with_option c.loop.options (length c.args.words.now) c.loop.counter c.loop.rest.now _ c.in-Some.option c.in-Some.following.now c.loop-test.true (rw c.in-Some.is at c.in_ok-option_at.ensures) c.loop.invariant)

pub returns : goal.returns
unfolding options_at
returns c = all_read (option_at c.args.version) with_option c.loop.options (length c.args.words.now) c.loop.counter c.loop.rest.now _ c.loop-test.false c.loop.invariant
