use Rattle.std.proofs.Common.{◌≤◌, ℕ, List, take}
use Rattle.server_storage.specs.OpenTxns.Open.{puts_open}
use Rattle.server_storage.proofs.open_txns.txns.events_open.Given as goal

-- no fewer events than rows so far
abbrev pub invariant-loop-one : goal.invariant-loop-one
invariant-loop-one l = (name : List ℕ) → puts_open name (take l.one-index l.txns) ≤ l.count
