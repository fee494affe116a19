use Rattle.std.proofs.Common.{◌≡◌, ◌≤◌, length, take}
use Rattle.std.specs.Prelude.{vec_capacity}
use Rattle.tool_state.proofs.tool_state.tries.Tries.copy_from.Given as goal

-- so many of the other's turns are copied, and there is room for all
abbrev pub invariant-loop-turn : goal.invariant-loop-turn
invariant-loop-turn l = (l.self-inside.turns.items ≡ take l.turn-index l.turn-items) × ((vec_capacity l.self-inside.turns ≡ l.fn.self.room) × (length l.turn-items ≤ l.fn.self.room))
