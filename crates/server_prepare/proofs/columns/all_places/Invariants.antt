use Rattle.std.proofs.Common.{◌≡◌, ◌++◌, drop}
use Rattle.server_model.specs.Checks.{places_from}
use Rattle.server_prepare.proofs.columns.all_places.Given as goal

-- the places so far, and those of the columns that are left, are all
abbrev pub invariant-loop-place : goal.invariant-loop-place
invariant-loop-place l = l.places ++ places_from l.place (drop l.place l.columns) ≡ places_from 0 l.columns
