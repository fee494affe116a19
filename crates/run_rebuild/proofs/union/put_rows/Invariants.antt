use Rattle.std.proofs.Common.{◌≡◌}
use Rattle.base_values.specs.GhoSchema.Rows.{key_places}
use Rattle.run_rebuild.specs.Steps.{replaced_all}
use Rattle.run_rebuild.proofs.union.put_rows.Given as goal

-- the rows that are left are still to be put
abbrev pub invariant-loop-row : goal.invariant-loop-row
invariant-loop-row l = record {
  schema : l.into.table.schema ≡ l.fn.into.table.schema;
  rows : replaced_all (key_places l.fn.into.table.schema) l.row-iterator l.into.table.rows ≡ replaced_all (key_places l.fn.into.table.schema) l.other.table.rows l.fn.into.table.rows;
}
