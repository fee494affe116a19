use Rattle.std.proofs.Common.{◌≡◌, length}
use Rattle.base_values.specs.KeyOrder.{compare_keys}
use Rattle.base_values.specs.GhoSchema.Rows.{key_of}
use Rattle.table_store.proofs.comparison.compare_rows.Given as goal

-- the values that are left decide
abbrev pub invariant-loop-value : goal.invariant-loop-value
invariant-loop-value l = compare_keys l.ours l.theirs ≡ compare_keys (key_of l.places l.row) (key_of l.places l.other)

abbrev pub decreases-loop-value : goal.decreases-loop-value
decreases-loop-value l = length l.ours
