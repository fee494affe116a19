use Rattle.std.proofs.Common.{◌≡◌, ◌+◌, drop, length}
use Rattle.server_log.specs.Encodings.{values_bytes}
use Rattle.server_log.proofs.encoding.cost_of_row.Given as goal

-- the cost so far, with that of the rest, is that of all
abbrev pub invariant-loop-value : goal.invariant-loop-value
invariant-loop-value l = l.cost + length (values_bytes (drop l.value-index l.row)) ≡ length (values_bytes l.row)
