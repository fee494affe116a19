use Rattle.std.proofs.Common.{◌≡◌, map, drop}
use Rattle.toml.specs.Data.{as_table}
use Rattle.toml.specs.View.{items_view}
use Rattle.plan_keys.specs.PlanKeys.{table_in, table_data}
use Rattle.plan_keys.specs.Walks.{each_item}
use Rattle.plan_keys.proofs.Walks.{with_front}
use Rattle.plan_keys.proofs.texts.tables_of.Given as goal

-- the tables so far, and those that are still read, are those of all the items
abbrev pub invariant-loop-item : goal.invariant-loop-item
invariant-loop-item l = with_front (map table_data l.tables.items) (each_item (λ value. table_in (as_table value)) (items_view (drop l.item-index l.items))) ≡ each_item (λ value. table_in (as_table value)) (items_view l.items)
