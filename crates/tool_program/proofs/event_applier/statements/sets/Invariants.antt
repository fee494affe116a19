use Rattle.std.proofs.Common.{◌≡◌, ◌++◌, drop, length}
use Rattle.tool_program.specs.EventApplier.Appliers.{sets, given_values}
use Rattle.tool_program.proofs.event_applier.statements.sets.Given as goal

-- the columns so far, and those that are left
abbrev pub invariant-loop-column : goal.invariant-loop-column
invariant-loop-column l = record {
  made : l.made ++ sets (drop l.column-index l.columns) (given_values (drop l.column-index l.map) l.row) ≡ sets l.columns (given_values l.map l.row);
  count : length l.made ≡ l.column-index;
}
