use Rattle.std.proofs.Common.{◌≡◌, List, sym, subst, ◌∙◌}
use Rattle.base_values.specs.declared.gho_schema.schema.Column.{Column}
use Rattle.base_values.specs.GhoSchema.Tables.{IsRow}
use Rattle.plan_reader.proofs.PlanTables.Putting.{is_new}
use Rattle.plan_reader.proofs.plan_tables.rows.put_text.Goals as goal

pub put-requires-clause-new_key : goal.put-requires-clause-new_key
put-requires-clause-new_key c =
    let columns : c.as_slice.result.now ≡ c.args.table.now.table.schema.columns = cc in
    let fits : IsRow c.args.table.now.table.schema.columns c.in_ok-row.row = subst (λ (cs : List Column). IsRow cs c.in_ok-row.row) columns c.in_ok-row.ensures.fits in
    is_new c.put_keeps_tables.ensures c.args.table.now.table c.in_ok-row.row c.requires.keyed c.requires.is_table fits (sym c.clashes.ensures ∙ c.if-clashes.false)
