use Rattle.std.proofs.Common.{◌≡◌, ◌+◌, ◌≤◌, map, drop, length}
use Rattle.base_values.specs.GhoSchema.Tables.{IsTable}
use Rattle.plan_reader.specs.PlanTables.Rows.{put_texts}
use Rattle.plan_reader.specs.PlanTables.Tables.{of_rows}
use Rattle.plan_reader.proofs.plan_tables.rows.put_texts.Given as goal

-- the rows so far with those that are left are all; they are a table, which has room for those that are left
abbrev pub invariant-loop-text : goal.invariant-loop-text
invariant-loop-text l = record {
  rows : of_rows l.number (put_texts l.row l.table.table (map (λ text. text.now) (drop l.text-index l.texts))) ≡ of_rows l.number (put_texts 1 l.initial.table.table (map (λ text. text.now) l.texts));
  schema : l.table.table.schema ≡ l.initial.table.table.schema;
  is_table : IsTable l.table.table.schema l.table.table.rows;
  room : length l.texts ≤ l.table.spare + l.text-index;
}
