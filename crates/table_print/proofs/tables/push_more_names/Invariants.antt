use Rattle.std.proofs.Common.{◌≡◌, ◌++◌, drop}
use Rattle.table_print.specs.Tables.{more_names}
use Rattle.table_print.proofs.tables.push_more_names.Given as goal

-- what stands with what is left is all
abbrev pub invariant-loop-column : goal.invariant-loop-column
invariant-loop-column l = l.into ++ more_names (drop l.column-index l.columns) ≡ l.fn.into ++ more_names l.columns
