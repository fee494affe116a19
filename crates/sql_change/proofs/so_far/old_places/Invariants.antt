use Rattle.std.proofs.Common.{◌≡◌, ◌++◌, drop}
use Rattle.sql_change.specs.AlteredSoFar.{places_from}
use Rattle.sql_change.proofs.so_far.old_places.Given as goal

-- the places so far, and those from here on
abbrev pub invariant-loop : goal.invariant-loop
invariant-loop l = record {
  places : l.origins ++ places_from l.place (drop l.index l.columns) ≡ places_from 0 l.columns;
  place : l.place ≡ l.index;
}
