use Rattle.std.proofs.Common.{◌≡◌, drop}
use Rattle.std.specs.List.{list_any}
use Rattle.base_values.specs.GhoSchema.Tables.{clash}
use Rattle.test_model.proofs.met_rows.clashes.Given as goal

-- the rows that are left decide
abbrev pub invariant-loop-row : goal.invariant-loop-row
invariant-loop-row l = list_any (clash l.schema.uniques l.new) (drop l.row-index l.rows) ≡ list_any (clash l.schema.uniques l.new) l.rows
