-- The numbers that a workload draws, from a linear congruential generator modulo 2^64 with the constants of Knuth's MMIX
-- (D. E. Knuth, "The Art of Computer Programming", volume 2, 3.3.4). This project's rule.
use Rattle.std.specs.Prelude.{ℕ, ◌+◌, ◌*◌, ◌/◌, ◌%◌, ◌^◌}
use Rattle.std.proofs.Common.{zero, suc}

-- the state after a state
abbrev pub next_state : ℕ → ℕ
next_state state = (state * 6364136223846793005 + 1442695040888963407) % 2 ^ 64

-- the number that is drawn at a state: the upper 31 bits of the state after it
abbrev pub drawn : ℕ → ℕ
drawn state = next_state state / 2 ^ 33

-- the state after this many draws
unfoldable pub state_after : ℕ → ℕ → ℕ
state_after state zero = state
state_after state (suc count) = next_state (state_after state count)
