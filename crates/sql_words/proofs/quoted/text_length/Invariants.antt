use Rattle.std.proofs.Common.{◌≡◌, ◌-◌, length, drop}
use Rattle.sql_words.specs.Quoted.{length_of, text_inside}
use Rattle.sql_words.proofs.Inside.{further}
use Rattle.sql_words.proofs.quoted.text_length.Given as goal

abbrev pub invariant-loop-at : goal.invariant-loop-at
invariant-loop-at l = further l.at (length_of (text_inside l.quote (drop l.at l.bytes))) ≡ length_of (text_inside l.quote l.bytes)

abbrev pub decreases-loop-at : goal.decreases-loop-at
decreases-loop-at l = length l.bytes - l.at
