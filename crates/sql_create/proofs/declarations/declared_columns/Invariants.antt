use Rattle.std.proofs.Common.{◌≡◌, drop}
use Rattle.sql_create.specs.DeclaredSchema.{declared_columns}
use Rattle.sql_create.proofs.DeclaredColumns.{with_front}
use Rattle.sql_create.proofs.declarations.declared_columns.Given as goal

-- the columns so far, and those that are still declared
abbrev pub invariant-loop-column : goal.invariant-loop-column
invariant-loop-column l = with_front l.declared (declared_columns l.primaries (drop l.column-index l.columns)) ≡ declared_columns l.primaries l.columns
