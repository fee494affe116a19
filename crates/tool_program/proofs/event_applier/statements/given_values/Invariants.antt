use Rattle.std.proofs.Common.{◌≡◌, ◌++◌, drop}
use Rattle.tool_program.specs.EventApplier.Appliers.{given_values}
use Rattle.tool_program.proofs.event_applier.statements.given_values.Given as goal

-- the values so far, and those of the columns that are left
abbrev pub invariant-loop-column : goal.invariant-loop-column
invariant-loop-column l = l.values ++ given_values (drop l.column-index l.map) l.row ≡ given_values l.map l.row
