use Rattle.std.proofs.Common.{◌≡◌, ℕ, ◌+◌, ◌*◌, List, ◌++◌}
use Rattle.std.specs.List.{flat_map, range_with_len}
use Rattle.top_workload.specs.Draws.{state_after}
use Rattle.top_workload.specs.Workloads.{row_count, client_at}
use Rattle.top_workload.proofs.clients.push_clients.Given as goal

pub record Printing (number client state : ℕ) (text begun : List ℕ) : Type 0 where
  pub text_is : text ≡ begun ++ flat_map (client_at number) (range_with_len 0 client)
  pub state_is : state ≡ state_after number (row_count number + 60 * client)

-- the clients so far stand, by the draws so far
abbrev pub invariant-loop-client : goal.invariant-loop-client
invariant-loop-client l = Printing l.number l._client l.draws.state l.into l.fn.into
