use Rattle.std.proofs.Common.{◌≡◌, length}
use Rattle.std.specs.List.{AllByRecursion}
use Rattle.run_auditor.proofs.PlacedClients.{IsNew}
use Rattle.run_auditor.proofs.trace_clients.new_clients.Given as goal

-- one for each script so far
abbrev pub invariant-loop-place : goal.invariant-loop-place
invariant-loop-place l = record {
  count : length l.clients.items ≡ l._place;
  new : AllByRecursion IsNew l.clients.items;
}
