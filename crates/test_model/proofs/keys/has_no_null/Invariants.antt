use Rattle.std.proofs.Common.{◌≡◌, drop}
use Rattle.base_values.specs.GhoSchema.Tables.{no_null}
use Rattle.test_model.proofs.keys.has_no_null.Given as goal

-- the values that are left decide
abbrev pub invariant-loop-value : goal.invariant-loop-value
invariant-loop-value l = no_null (drop l.value-index l.key) ≡ no_null l.key
