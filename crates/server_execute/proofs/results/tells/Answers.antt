use Rattle.std.proofs.Common.{List, sym, ap, ◌∙◌, subst}
use Rattle.base_values.specs.GhoSchema.Rows.{key_places}
use Rattle.table_store.proofs.Orders.{Row}
use Rattle.server_model.specs.Rows.{reaches}
use Rattle.server_execute.specs.FoundWork.{met_by}
use Rattle.server_execute.specs.RowUpdates.{AreMet}
use Rattle.server_execute.proofs.ChangedRows.{are_met}
use Rattle.server_execute.proofs.FoundRows.{unfit_so}
use Rattle.server_execute.proofs.results.tells.Goals as goal

pub updated-requires-clause-met : goal.updated-requires-clause-met
updated-requires-clause-met c =
    let table = c.args.seen.now in
    subst (λ (rs : List Row). AreMet (key_places table.schema) rs table.rows) (sym (c.as_slice-in-Ok.ensures ∙ c.requires.met ∙ ap (met_by table.schema table.rows) c.in-Update.is))
    (are_met (key_places table.schema) (reaches table.schema c.in-Update.reach) table.rows c.requires.well_formed.is_table.ascends)

pub returns-in-Update : goal.returns-in-Update
returns-in-Update c =
    let table = c.args.seen.now in
    c.updated_unfit.ensures table.schema table.rows
    ∙ unfit_so table.schema table.rows c.as_slice-in-Err.result.now c.in-Update.reach c.in-Err.at c.in-Update.sets c.args.found.work c.in-Update.is c.in-Err.is (c.as_slice-in-Err.ensures ∙ c.requires.met)
