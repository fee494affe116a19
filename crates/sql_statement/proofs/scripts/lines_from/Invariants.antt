use Rattle.std.proofs.Common.{◌≡◌, false, map, drop}
use Rattle.sql_statement.specs.Scripts.{lines_from}
use Rattle.sql_statement.proofs.ReadLines.{with_lines}
use Rattle.sql_statement.proofs.scripts.lines_from.Given as goal

-- the lines so far, and those that are still read, are those of all the texts
abbrev pub invariant-loop-i : goal.invariant-loop-i
invariant-loop-i l = with_lines l.script (lines_from l.tools l.is_open l.number (map (λ text. text.now) (drop l.i l.texts))) ≡ lines_from l.tools false 1 (map (λ text. text.now) l.texts)
