use Rattle.std.proofs.Common.{List, sym, ap, ◌∙◌}
use Rattle.base_values.specs.declared.row_conversion.map.MapColumn.{MapColumn}
use Rattle.base_values.specs.RowConversion.ConvertedRows.{converted_row}
use Rattle.server_transaction.proofs.CopiedRows.{converted_row_is_row}
use Rattle.server_transaction.proofs.row_copies.work.work_of_row.Goals as goal

pub work_of_converted_row-requires : goal.work_of_converted_row-requires
work_of_converted_row-requires c same =
    converted_row_is_row c.args.into.now.columns c.as_slice-in-Ok.result.now c.as_slice-2.result.now c.in-Ok.converted_row
    (ap (λ (map : List MapColumn). converted_row map c.as_slice-2.result.now) (c.as_slice-in-Ok.ensures ∙ sym c.as_slice.ensures) ∙ c.in-Ok.ensures) same
