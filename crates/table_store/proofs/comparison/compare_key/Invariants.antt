use Rattle.std.proofs.Common.{◌≡◌, drop}
use Rattle.base_values.specs.KeyOrder.{compare_keys}
use Rattle.base_values.specs.GhoSchema.Rows.{key_of}
use Rattle.table_store.proofs.comparison.compare_key.Given as goal

-- the values that are left decide
abbrev pub invariant-loop-value : goal.invariant-loop-value
invariant-loop-value l = compare_keys (drop l.value-index l.key) l.theirs ≡ compare_keys l.key (key_of l.places l.row)
