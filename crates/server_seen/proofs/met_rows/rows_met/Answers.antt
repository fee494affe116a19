use Rattle.std.proofs.Common.{◌≡◌, List, ◌∙◌, sym, subst, Some, None}
use Rattle.std.specs.Prelude.{IfOk}
use Rattle.std.specs.List.{slice_get}
use Rattle.base_values.specs.GhoSchema.ClusteredKey.{clustered_place}
use Rattle.table_store.proofs.Orders.{Row}
use Rattle.server_seen.proofs.MetRows.{none_reached, own_places, reached_by}
use Rattle.server_seen.proofs.met_rows.rows_met.Goals as goal

pub returns-in_default : goal.returns-in_default
returns-in_default c =
    let none : slice_get c.schema-schema.result.now.uniques c.args.reach.now.key ≡ None = sym c.in_default.ensures in
    c.new.ensures ∙ sym (none_reached c.args.table.now.table.schema c.args.reach.now c.args.table.now.table.rows (rw c.schema-schema.ensures.schema at none))

pub rows_met_clustered-requires : goal.rows_met_clustered-requires
rows_met_clustered-requires c =
    let some : slice_get c.schema-schema.result.now.uniques c.args.reach.now.key ≡ Some c.in-Some.index.now = sym c.in-Some.ensures in
    let at : clustered_place c.schema-schema.result.now ≡ Some c.args.reach.now.key = c.is_clustered.ensures c.if-is_clustered.true in
    own_places c.args.table.now.table.schema c.args.reach.now.key c.in-Some.index.now (rw c.schema-schema.ensures.schema at at) (rw c.schema-schema.ensures.schema at some)

pub returns-then-is_clustered : goal.returns-then-is_clustered
returns-then-is_clustered c =
    let some : slice_get c.schema-schema.result.now.uniques c.args.reach.now.key ≡ Some c.in-Some.index.now = sym c.in-Some.ensures in
    let met = reached_by c.args.table.now.table.schema c.args.reach.now c.args.table.now.table.rows c.in-Some.index.now (rw c.schema-schema.ensures.schema at some) in
    subst (λ (rs : List Row). IfOk c.rows_met_clustered.result (λ rows. rows ≡ rs)) (sym met) c.rows_met_clustered.ensures
