use Rattle.std.proofs.Common.{◌≡◌, drop}
use Rattle.base_values.specs.RowConversion.ConvertedRows.{converted_row_from}
use Rattle.base_values.proofs.RowConversion.RowConversions.{with_front}
use Rattle.base_values.proofs.row_conversion.conversion.converted_row.Given as goal

-- the values so far, and those that are still made, are the image
abbrev pub invariant-loop-new : goal.invariant-loop-new
invariant-loop-new l = record {
  made : with_front l.made (converted_row_from l.column (drop l.new-index l.map) l.row) ≡ converted_row_from 0 l.map l.row;
  column : l.column ≡ l.new-index;
}
