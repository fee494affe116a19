use Rattle.std.proofs.Common.{◌≡◌, ◌+◌, ◌≤◌, ◌++◌, drop, length, vec_len, vec_capacity}
use Rattle.top_call.specs.Outcomes.{turns_of}
use Rattle.top_call.proofs.turns.push_turns.Given as goal

-- the turns so far, and those that are left, are all; and there is room for these
abbrev pub invariant-loop-entry : goal.invariant-loop-entry
invariant-loop-entry l = record {
  turns_are : l.turns.items ++ turns_of (drop l.entry-index l.entries) ≡ l.fn.turns.items ++ turns_of l.entries;
  count : vec_len l.turns ≡ vec_len l.fn.turns + l.entry-index;
  room : vec_len l.fn.turns + length l.entries ≤ vec_capacity l.turns;
}
