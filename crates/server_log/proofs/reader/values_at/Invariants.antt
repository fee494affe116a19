use Rattle.std.proofs.Common.{◌≡◌, [], Some}
use Rattle.server_log.specs.Decodings.{values_at}
use Rattle.server_log.proofs.reader.values_at.Given as goal

-- what is left to read, behind the values so far, is what all bytes encode
abbrev pub invariant-loop-left : goal.invariant-loop-left
invariant-loop-left l = values_at l.values l.left l.rest ≡ values_at (Some []) l.count l.bytes

abbrev pub decreases-loop-left : goal.decreases-loop-left
decreases-loop-left l = l.left
