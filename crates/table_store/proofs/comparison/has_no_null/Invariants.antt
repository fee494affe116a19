use Rattle.std.proofs.Common.{◌≡◌, length}
use Rattle.base_values.specs.GhoSchema.Rows.{key_of}
use Rattle.base_values.specs.GhoSchema.Tables.{no_null}
use Rattle.table_store.proofs.comparison.has_no_null.Given as goal

-- the values that are left decide
abbrev pub invariant-loop-value : goal.invariant-loop-value
invariant-loop-value l = no_null l.values ≡ no_null (key_of l.places l.row)

abbrev pub decreases-loop-value : goal.decreases-loop-value
decreases-loop-value l = length l.values
