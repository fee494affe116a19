use Rattle.std.proofs.Common.{sym, ◌∙◌}
use Rattle.sql_statement.proofs.Scanning.{values_found, values_passed, values_over}
use Rattle.sql_statement.proofs.scope.after_values.Goals as goal

pub returns-then-is_keyword : goal.returns-then-is_keyword
returns-then-is_keyword c = values_found c.args.words.now c.args.words.now c.loop-i.i _ c.loop-i-test.true (rw c.index-words-i.is at (sym c.is_keyword.ensures ∙ c.if-is_keyword.true)) c.loop-i.invariant

pub loop-i-preserved : goal.loop-i-preserved
loop-i-preserved c = values_passed c.args.words.now c.args.words.now c.loop-i.i _ c.loop-i-test.true (rw c.index-words-i.is at (sym c.is_keyword.ensures ∙ c.if-is_keyword.false)) c.loop-i.invariant

pub returns : goal.returns
returns c = values_over c.args.words.now c.args.words.now c.loop-i.i c.loop-i-test.false c.loop-i.invariant
