use Rattle.std.proofs.Common.{◌≡◌, ℕ, ◌*◌, List, ◌++◌, codes}
use Rattle.std.specs.List.{flat_map, range_with_len}
use Rattle.top_workload.specs.Draws.{state_after}
use Rattle.top_workload.specs.Workloads.{client_line}
use Rattle.top_workload.proofs.clients.push_client.Given as goal

pub record Printing (rows line begun_at state : ℕ) (text begun : List ℕ) : Type 0 where
  pub text_is : text ≡ (begun ++ codes "\"\"\"\n") ++ flat_map (client_line rows begun_at) (range_with_len 0 line)
  pub state_is : state ≡ state_after begun_at (2 * line)

-- the statements so far stand, by the draws so far
abbrev pub invariant-loop-line : goal.invariant-loop-line
invariant-loop-line l = Printing l.rows l._line l.fn.draws.state l.draws.state l.into l.fn.into
