use Rattle.std.proofs.Common.{◌≡◌}
use Rattle.top_workload.specs.Draws.{state_after}
use Rattle.top_workload.proofs.rows.draws_after_rows.Given as goal

abbrev pub invariant-loop-place : goal.invariant-loop-place
invariant-loop-place l = l.draws.state ≡ state_after l.number l._place
