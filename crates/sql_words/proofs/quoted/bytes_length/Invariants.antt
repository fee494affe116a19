use Rattle.std.proofs.Common.{◌≡◌, ◌-◌, length, drop}
use Rattle.sql_words.specs.Quoted.{length_of, bytes_inside}
use Rattle.sql_words.proofs.Inside.{further}
use Rattle.sql_words.proofs.quoted.bytes_length.Given as goal

abbrev pub invariant-loop-at : goal.invariant-loop-at
invariant-loop-at l = further l.at (length_of (bytes_inside (drop l.at l.bytes))) ≡ length_of (bytes_inside l.bytes)

abbrev pub decreases-loop-at : goal.decreases-loop-at
decreases-loop-at l = length l.bytes - l.at
