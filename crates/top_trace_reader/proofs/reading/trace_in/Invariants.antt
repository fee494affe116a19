use Rattle.std.proofs.Common.{◌≡◌, ◌+◌, map, drop}
use Rattle.top_trace_reader.specs.Readings.{read_on, trace_in}
use Rattle.top_trace_reader.proofs.reading.trace_in.Given as goal

-- what was read, with the lines that are left, is what all lines are
abbrev pub invariant-loop-line : goal.invariant-loop-line
invariant-loop-line l = record {
  reads : read_on l.clients l.number l.reading (map (λ line. line.now) (drop l.line-index l.lines)) ≡ trace_in l.clients (map (λ line. line.now) l.lines);
  number : l.number ≡ l.line-index + 1;
}
