use Rattle.std.proofs.Common.{◌≡◌, ◌++◌}
use Rattle.table_print.specs.Tables.{row_lines}
use Rattle.top_endings.proofs.rebuilt.push_rows.Given as goal

-- what stands with the rows that are left is all
abbrev pub invariant-loop-row : goal.invariant-loop-row
invariant-loop-row l = l.into ++ row_lines l.row-iterator ≡ l.fn.into ++ row_lines l.fn.rows
