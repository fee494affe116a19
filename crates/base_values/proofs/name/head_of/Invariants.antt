use Rattle.base_values.specs.NameHeads.{IsHead}
use Rattle.base_values.proofs.name.head_of.Given as goal

-- the bytes so far
abbrev pub invariant-loop-place : goal.invariant-loop-place
invariant-loop-place l = IsHead l.place l.text l.head
