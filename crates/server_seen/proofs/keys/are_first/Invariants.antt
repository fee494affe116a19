use Rattle.std.proofs.Common.{◌≡◌, take}
use Rattle.server_seen.specs.Stored.{counted}
use Rattle.server_seen.proofs.keys.are_first.Given as goal

-- the places so far are the first
abbrev pub invariant-loop-n : goal.invariant-loop-n
invariant-loop-n l = take l.n l.places ≡ counted 0 l.n
