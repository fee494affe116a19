use Rattle.std.proofs.Common.{◌≡◌, ◌-◌, length, drop}
use Rattle.sql_words.specs.Quoted.{value_of, bytes_inside}
use Rattle.sql_words.proofs.Values.{in_front}
use Rattle.sql_words.proofs.meaning.unhexed.Given as goal

abbrev pub invariant-loop-value : goal.invariant-loop-value
invariant-loop-value l = in_front l.value.items (value_of (bytes_inside (drop l.at l.bytes))) ≡ value_of (bytes_inside l.bytes)

abbrev pub decreases-loop-value : goal.decreases-loop-value
decreases-loop-value l = length l.bytes - l.at
