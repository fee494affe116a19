use Rattle.std.proofs.Common.{◌≡◌, ℕ, List, ◌++◌}
use Rattle.std.specs.List.{flat_map, range_with_len}
use Rattle.top_workload.specs.Draws.{state_after}
use Rattle.top_workload.specs.Workloads.{row_text}
use Rattle.top_workload.proofs.rows.push_rows.Given as goal

pub record Printing (number place state : ℕ) (text begun : List ℕ) : Type 0 where
  pub text_is : text ≡ begun ++ flat_map (row_text number) (range_with_len 0 place)
  pub state_is : state ≡ state_after number place

-- the rows so far stand, by the draws so far
abbrev pub invariant-loop-place : goal.invariant-loop-place
invariant-loop-place l = Printing l.number l.place l.draws.state l.into l.fn.into
