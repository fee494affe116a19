use Rattle.std.proofs.Common.{◌≡◌, length}
use Rattle.server_model.specs.Checks.{are_distinct}
use Rattle.server_prepare.proofs.columns.are_distinct.Given as goal

-- the places that are left decide
abbrev pub invariant-loop-place : goal.invariant-loop-place
invariant-loop-place l = are_distinct l.rest ≡ are_distinct l.places

abbrev pub decreases-loop-place : goal.decreases-loop-place
decreases-loop-place l = length l.rest
