use Rattle.std.proofs.Common.{◌≡◌, ◌++◌, ◌∷◌, drop}
use Rattle.std.specs.List.{flat_map}
use Rattle.top_trace_reader.proofs.lines.push_lines.Given as goal

-- what stands with the lines that are left is all
abbrev pub invariant-loop-line : goal.invariant-loop-line
invariant-loop-line l = l.text.items ++ flat_map (λ line. 10 ∷ line.now) (drop l.line-index l.lines) ≡ l.fn.text.items ++ flat_map (λ line. 10 ∷ line.now) l.lines
