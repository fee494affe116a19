use Rattle.std.proofs.Common.{◌≡◌, take}
use Rattle.top_trace_reader.specs.Literals.{numbers_in}
use Rattle.top_trace_reader.proofs.literals.numbers_in.Given as goal

-- the numbers of the values so far
abbrev pub invariant-loop-value : goal.invariant-loop-value
invariant-loop-value l = l.numbers ≡ numbers_in (take l.value-index l.values)
