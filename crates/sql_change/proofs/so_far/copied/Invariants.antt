use Rattle.std.proofs.Common.{◌≡◌, take}
use Rattle.sql_change.proofs.so_far.copied.Given as goal

-- the origins so far
abbrev pub invariant-loop-origin : goal.invariant-loop-origin
invariant-loop-origin l = l.copy ≡ take l.origin-index l.origins
