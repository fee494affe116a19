use Rattle.std.proofs.Common.{◌≡◌, map, take}
use Rattle.base_values.specs.declared.event.Change.TheVariants.{Delete}
use Rattle.test_model.proofs.results.deletes.Given as goal

-- the removals so far
abbrev pub invariant-loop-row : goal.invariant-loop-row
invariant-loop-row l = l.all ≡ map Delete (take l.row-index l.rows)
