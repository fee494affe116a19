use Rattle.std.proofs.Common.{◌≡◌, ◌++◌, length, drop}
use Rattle.server_seen.specs.Written.{untouched}
use Rattle.server_seen.proofs.written.left.Given as goal

-- the rows so far, and those that are left of the others
abbrev pub invariant-loop-row : goal.invariant-loop-row
invariant-loop-row l = l.left ++ untouched l.places l.keys.keys (drop (length l.yielded) l.fn.rows) ≡ untouched l.places l.keys.keys l.fn.rows
