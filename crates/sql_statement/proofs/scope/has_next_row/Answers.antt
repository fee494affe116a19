use Rattle.std.proofs.Common.{sym, ◌∙◌}
use Rattle.sql_statement.proofs.Scanning.{row_found, row_passed, row_over}
use Rattle.sql_statement.proofs.scope.has_next_row.Goals as goal

pub returns-then-begins_row : goal.returns-then-begins_row
returns-then-begins_row c = row_found c.args.words.now c.args.words.now c.loop-i.i c.loop-i-test.true (sym c.begins_row.ensures ∙ c.if-begins_row.true) c.loop-i.invariant

pub loop-i-preserved : goal.loop-i-preserved
loop-i-preserved c = row_passed c.args.words.now c.args.words.now c.loop-i.i c.loop-i-test.true (sym c.begins_row.ensures ∙ c.if-begins_row.false) c.loop-i.invariant

pub returns : goal.returns
returns c = row_over c.args.words.now c.args.words.now c.loop-i.i c.loop-i-test.false c.loop-i.invariant
