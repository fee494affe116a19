use Rattle.std.proofs.Common.{◌≡◌, map, take}
use Rattle.sql_show.specs.SchemaText.{column_line}
use Rattle.sql_show.proofs.printer.column_lines.Given as goal

-- the lines so far
abbrev pub invariant-loop-column : goal.invariant-loop-column
invariant-loop-column l = l.lines ≡ map column_line (take l.column-index l.columns)
