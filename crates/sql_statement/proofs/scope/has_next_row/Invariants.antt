use Rattle.std.proofs.Common.{◌≡◌, drop}
use Rattle.sql_statement.specs.Scope.{has_next_row}
use Rattle.sql_statement.proofs.scope.has_next_row.Given as goal

-- what stands from here on gives the answer to all
abbrev pub invariant-loop-i : goal.invariant-loop-i
invariant-loop-i l = has_next_row (drop l.i l.words) ≡ has_next_row l.words
