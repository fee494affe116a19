use Rattle.std.proofs.Common.{◌≡◌}
use Rattle.server_model.specs.States.{start_at}
use Rattle.server.proofs.OpeningCounters.{most_in}
use Rattle.server.proofs.opening.counters.start_at.Given as goal

-- the greatest so far, and the rows that are left, give where the counter starts
abbrev pub invariant-loop-row : goal.invariant-loop-row
invariant-loop-row l = most_in l.place l.most l.row-iterator ≡ start_at l.table.table l.place
