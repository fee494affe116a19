use Rattle.std.proofs.Common.{◌≡◌}
use Rattle.server_seen.specs.Stored.{counted}
use Rattle.server_seen.proofs.keys.first_places.Given as goal

-- the places so far
abbrev pub invariant-loop-place : goal.invariant-loop-place
invariant-loop-place l = l.places ≡ counted 0 l.place
