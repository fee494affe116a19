use Rattle.std.proofs.Common.{◌∙◌, Some}
use Rattle.slab.specs.Slab.{get}
use Rattle.base_page_list.specs.Pages.{flat}
use Rattle.server_locks.specs.RowLocks.ListOrders.{is_before}
use Rattle.base_page_list.proofs.Ascending.{prefix_map}
use Rattle.server_locks.proofs.RowLocks.LockTable.TotalOrders.{slot_fails_on}
use Rattle.server_locks.proofs.row_locks.lock_table.list_orders.place_of.Goals as goal

pub place-requires : goal.place-requires
place-requires c = slot_fails_on c.args.by (Some c.args.one.now) c.args.slab.now (flat c.args.list.now.pages) c.requires

pub returns-clause-place : goal.returns-clause-place
returns-clause-place c = c.place.ensures.place ∙ prefix_map (get c.args.slab.now) (is_before c.args.by (Some c.args.one.now)) (flat c.args.list.now.pages)
