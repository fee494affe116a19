use Rattle.std.proofs.Common.{◌≡◌, take}
use Rattle.sql_change.specs.Places.{keys_after}
use Rattle.sql_change.proofs.places.keys_after.Given as goal

-- the keys so far
abbrev pub invariant-loop-index : goal.invariant-loop-index
invariant-loop-index l = l.after ≡ keys_after l.change (take l.index-index l.indexes)
