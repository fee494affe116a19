use Rattle.std.proofs.Common.{◌≡◌, ◌++◌, drop}
use Rattle.top_report.specs.Verdicts.{spaced_turns}
use Rattle.top_report.proofs.verdict.push_spaced_turns.Given as goal

-- what stands with what is left is all
abbrev pub invariant-loop-turn : goal.invariant-loop-turn
invariant-loop-turn l = l.into ++ spaced_turns (drop l.turn-index l.turns) ≡ l.fn.into ++ spaced_turns l.turns
