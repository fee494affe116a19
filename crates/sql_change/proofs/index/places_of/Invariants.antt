use Rattle.std.proofs.Common.{◌≡◌, take}
use Rattle.std.specs.List.{filter_map}
use Rattle.sql_change.specs.Columns.{column_place}
use Rattle.sql_change.proofs.index.places_of.Given as goal

-- the places so far
abbrev pub invariant-loop-name : goal.invariant-loop-name
invariant-loop-name l = l.places ≡ filter_map (column_place l.columns) (take l.name-index l.names)
