use Rattle.std.proofs.Common.{◌≡◌, ◌++◌, drop}
use Rattle.table_print.specs.Tables.{row_lines}
use Rattle.table_print.proofs.tables.push_row_lines.Given as goal

-- what stands with what is left is all
abbrev pub invariant-loop-row : goal.invariant-loop-row
invariant-loop-row l = l.into ++ row_lines (drop l.row-index l.rows) ≡ l.fn.into ++ row_lines l.rows
