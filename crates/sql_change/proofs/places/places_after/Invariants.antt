use Rattle.std.proofs.Common.{◌≡◌, take}
use Rattle.std.specs.List.{filter_map}
use Rattle.sql_change.specs.Places.{place_after}
use Rattle.sql_change.proofs.places.places_after.Given as goal

-- the places so far
abbrev pub invariant-loop-place : goal.invariant-loop-place
invariant-loop-place l = l.after ≡ filter_map (place_after l.change) (take l.place-index l.places)
