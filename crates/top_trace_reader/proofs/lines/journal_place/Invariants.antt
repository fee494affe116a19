use Rattle.std.proofs.Common.{◌≡◌, ◌<◌, map, take, length}
use Rattle.std.specs.Prelude.{IfSome}
use Rattle.top_trace_reader.specs.Lines.{journal_place}
use Rattle.top_trace_reader.proofs.lines.journal_place.Given as goal

-- the last of the lines so far
abbrev pub invariant-loop-place : goal.invariant-loop-place
invariant-loop-place l = record {
  last : l.last ≡ journal_place (map (λ line. line.now) (take l.place l.lines));
  within : IfSome l.last (λ place. place < length l.lines);
}
