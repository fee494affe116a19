use Rattle.std.proofs.Common.{◌≡◌, take}
use Rattle.sql_change.specs.Places.{indexes_after}
use Rattle.sql_change.proofs.places.indexes_after.Given as goal

-- the indexes so far
abbrev pub invariant-loop-index : goal.invariant-loop-index
invariant-loop-index l = l.after ≡ indexes_after l.change (take l.index-index l.indexes)
