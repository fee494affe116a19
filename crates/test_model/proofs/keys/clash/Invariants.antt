use Rattle.std.proofs.Common.{◌≡◌, drop}
use Rattle.base_values.specs.GhoSchema.Tables.{clash}
use Rattle.test_model.proofs.keys.clash.Given as goal

-- the keys that are left decide
abbrev pub invariant-loop-index : goal.invariant-loop-index
invariant-loop-index l = clash (drop l.index-index l.uniques) l.row l.other ≡ clash l.uniques l.row l.other
