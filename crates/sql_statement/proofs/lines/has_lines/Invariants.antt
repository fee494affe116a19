use Rattle.std.proofs.Common.{◌≡◌, map, drop}
use Rattle.sql_statement.specs.Lines.{has_lines}
use Rattle.sql_statement.proofs.lines.has_lines.Given as goal

-- what stands from here on gives the answer to all
abbrev pub invariant-loop-text : goal.invariant-loop-text
invariant-loop-text l = has_lines (map (λ text. text.now) (drop l.text-index l.texts)) ≡ has_lines (map (λ text. text.now) l.texts)
