use Rattle.std.proofs.Common.{◌≡◌, drop}
use Rattle.sql_statement.specs.Scope.{after_values}
use Rattle.sql_statement.proofs.scope.after_values.Given as goal

-- what stands from here on gives the answer to all
abbrev pub invariant-loop-i : goal.invariant-loop-i
invariant-loop-i l = after_values (drop l.i l.words) ≡ after_values l.words
