use Rattle.std.proofs.Common.{◌∷◌, [], map}
use Rattle.std.proofs.lemmas.List.{map-append}
use Rattle.std.proofs.lemmas.Result.{err_from_is_err_and}
use Rattle.toml.specs.Data.{Data, as_table}
use Rattle.plan_keys.specs.PlanKeys.{table_in, table_data}
use Rattle.plan_keys.proofs.Walks.{goes_on, fails, ended}
use Rattle.plan_keys.proofs.texts.tables_of.Goals as goal

pub returns-in_err-table : goal.returns-in_err-table
returns-in_err-table c =
    let p = err_from_is_err_and c.from_residual.result c.from_residual.ensures.1 in
    rw (p.1, p.2) (fails (λ (value : Data). table_in (as_table value)) (map table_data c.loop-item.tables.items) c.args.items.now c.loop-item.item-index c.item-item.result c.in_err-table.field-0.0 _ c.loop-item-test.true c.item-item.is c.in_err-table.ensures c.loop-item.invariant)

pub loop-item-preserved : goal.loop-item-preserved
loop-item-preserved c = rw (c.in_ok-push.ensures.items, map-append table_data c.loop-item.tables.items (c.in_ok-table.table ∷ [])) (goes_on (λ (value : Data). table_in (as_table value)) (map table_data c.loop-item.tables.items) c.args.items.now c.loop-item.item-index c.item-item.result _ _ c.loop-item-test.true c.item-item.is c.in_ok-table.ensures c.loop-item.invariant)

pub returns : goal.returns
returns c = ended (λ (value : Data). table_in (as_table value)) (map table_data c.loop-item.tables.items) c.args.items.now c.loop-item.item-index _ c.loop-item-test.false c.loop-item.invariant
