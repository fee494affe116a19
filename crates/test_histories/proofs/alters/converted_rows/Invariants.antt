use Rattle.std.proofs.Common.{◌≡◌, drop}
use Rattle.base_values.specs.RowConversion.ConvertedRows.{converted_rows}
use Rattle.test_histories.proofs.Imaged.{with_converted_rows}
use Rattle.test_histories.proofs.alters.converted_rows.Given as goal

-- the images of the rows that are left follow
abbrev pub invariant-loop-row : goal.invariant-loop-row
invariant-loop-row l = with_converted_rows l.made (converted_rows l.map (drop l.row-index l.rows)) ≡ converted_rows l.map l.rows
