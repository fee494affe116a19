use Rattle.std.proofs.Common.{◌≡◌, length}
use Rattle.base_values.specs.GhoSchema.Rows.{key_of}
use Rattle.table_store.proofs.key_values.KeyValuesIterator.next.Given as goal

-- the places that are passed over had no value
abbrev pub invariant-loop-place : goal.invariant-loop-place
invariant-loop-place l = key_of l.self-inside.places.now l.self-inside.row.now ≡ l.fn.self

abbrev pub decreases-loop-place : goal.decreases-loop-place
decreases-loop-place l = length l.self-inside.places.now
