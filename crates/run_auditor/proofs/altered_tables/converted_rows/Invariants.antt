use Rattle.std.proofs.Common.{◌≡◌}
use Rattle.base_values.specs.RowConversion.ConvertedRows.{converted_rows}
use Rattle.run_auditor.proofs.AlteredDatabases.{with_converted_rows}
use Rattle.run_auditor.proofs.altered_tables.converted_rows.Given as goal

-- the converted rows of those that are left follow
abbrev pub invariant-loop-row : goal.invariant-loop-row
invariant-loop-row l = with_converted_rows l.made (converted_rows l.map l.row-iterator) ≡ converted_rows l.map l.fn.rows
