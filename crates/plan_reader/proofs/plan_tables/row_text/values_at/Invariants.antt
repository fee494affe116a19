use Rattle.std.proofs.Common.{◌≡◌, true, drop}
use Rattle.plan_reader.specs.PlanTables.RowTexts.{values_at}
use Rattle.plan_reader.proofs.PlanTables.RowValues.{with_front}
use Rattle.plan_reader.proofs.plan_tables.row_text.values_at.Given as goal

-- the values so far, and those that are still read, are those of the whole text
abbrev pub invariant-loop-column : goal.invariant-loop-column
invariant-loop-column l = with_front l.row (values_at (drop l.column-index l.columns) l.is_first l.rest) ≡ values_at l.columns true l.words
