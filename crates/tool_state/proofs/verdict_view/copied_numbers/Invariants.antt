use Rattle.std.proofs.Common.{◌≡◌, take}
use Rattle.tool_state.proofs.verdict_view.copied_numbers.Given as goal

-- so many numbers are copied
abbrev pub invariant-loop-number : goal.invariant-loop-number
invariant-loop-number l = l.copied ≡ take l.number-index l.numbers
