use Rattle.std.proofs.Common.{◌≡◌, map, take}
use Rattle.server_transaction.specs.Ready.{ready_change}
use Rattle.server_transaction.proofs.ready_changes.ready_changes.Given as goal

-- the changes so far
abbrev pub invariant-loop-change : goal.invariant-loop-change
invariant-loop-change l = l.ready.items ≡ map (ready_change l.places) (take l.change-index l.changes)
