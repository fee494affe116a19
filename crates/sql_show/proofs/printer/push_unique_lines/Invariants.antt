use Rattle.std.proofs.Common.{◌≡◌, ◌++◌, map, take}
use Rattle.sql_show.specs.SchemaText.{unique_line}
use Rattle.sql_show.proofs.printer.push_unique_lines.Given as goal

-- the lines so far
abbrev pub invariant-loop-index : goal.invariant-loop-index
invariant-loop-index l = l.lines ≡ l.fn.lines ++ map (unique_line l.columns) (take l.index-index l.uniques)
