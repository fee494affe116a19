use Rattle.std.proofs.Common.{◌≡◌, List, Some, filter, ap, ◌∙◌, subst}
use Rattle.std.specs.Prelude.{IfOk}
use Rattle.table_store.proofs.Orders.{Row}
use Rattle.server_model.specs.Rows.{lies_under}
use Rattle.server_seen.proofs.MetRows.{reached_in}
use Rattle.server_seen.proofs.met_rows.rows_met_clustered.Goals as goal

pub returns-in-None : goal.returns-in-None
returns-in-None c =
    let index = c.args.index.now in
    let span = c.args.span.now in
    subst (λ (rs : List Row). IfOk c.copies_under.result (λ rows. rows ≡ rs)) (ap (filter (lies_under (Some index) span)) c.in_span.ensures ∙ reached_in c.args.table.now.table index span c.requires) c.copies_under.ensures
