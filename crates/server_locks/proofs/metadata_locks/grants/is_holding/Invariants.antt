use Rattle.std.proofs.Common.{◌≡◌, drop, nat_eq}
use Rattle.std.specs.List.{list_any}
use Rattle.server_locks.specs.MetadataLocks.Requests.{all_locks}
use Rattle.server_locks.proofs.metadata_locks.grants.is_holding.Given as goal

-- what the rest holds decides
abbrev pub invariant-loop-request : goal.invariant-loop-request
invariant-loop-request l = list_any (λ held. nat_eq held.session l.session) (all_locks (drop l.request-index l.granted)) ≡ list_any (λ held. nat_eq held.session l.session) (all_locks l.granted)
