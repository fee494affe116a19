use Rattle.std.proofs.Common.{◌≡◌, ◌++◌, drop}
use Rattle.sql_change.specs.AlteredSchema.{map_of}
use Rattle.sql_change.proofs.mapping.map_of.Given as goal

-- the columns so far, and those from here on
abbrev pub invariant-loop-i : goal.invariant-loop-i
invariant-loop-i l = l.map ++ map_of (drop l.i l.columns) (drop l.i l.origins) ≡ map_of l.columns l.origins
