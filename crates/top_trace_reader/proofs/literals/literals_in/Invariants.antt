use Rattle.std.proofs.Common.{◌≡◌, take}
use Rattle.top_trace_reader.specs.Literals.{literals_in}
use Rattle.top_trace_reader.proofs.literals.literals_in.Given as goal

-- the values of the words so far
abbrev pub invariant-loop-word : goal.invariant-loop-word
invariant-loop-word l = l.values ≡ literals_in (take l.word-index l.words)
