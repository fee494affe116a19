use Rattle.std.proofs.Common.{◌≡◌, ◌++◌, length}
use Rattle.base_values.specs.GhoSchema.Rows.{key_places}
use Rattle.tool_program.specs.EventApplier.Appliers.{each_once}
use Rattle.tool_program.specs.EventApplier.BatchPlans.{key_sets}
use Rattle.tool_program.proofs.event_applier.statements.by_key.Given as goal

-- the columns so far, and those at the places that are left
abbrev pub invariant-loop-place : goal.invariant-loop-place
invariant-loop-place l = l.sets ++ key_sets l.schema l.map l.row (each_once l.rest) ≡ key_sets l.schema l.map l.row (each_once (key_places l.schema))

abbrev pub decreases-loop-place : goal.decreases-loop-place
decreases-loop-place l = length l.rest
