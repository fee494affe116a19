use Rattle.std.proofs.Common.{◌≡◌, ◌∙◌, ◌<◌, ℕ, List, Some, length, arith}
use Rattle.std.specs.List.{slice_get}
use Rattle.std.proofs.lemmas.Option.{slice_get_within}
use Rattle.std.proofs.lemmas.List.{length-map}
use Rattle.slab.specs.Slab.{Slab, get}
use Rattle.base_page_list.specs.Pages.{flat}
use Rattle.server_locks.specs.declared.row_locks.lock_table.granted_lock.GrantedLock.{GrantedLock}
use Rattle.server_locks.specs.declared.row_locks.lock_table.granted_lock.ListOrder.TheVariants.{Grant}
use Rattle.server_locks.specs.RowLocks.ListOrders.{slots_of}
use Rattle.server_locks.specs.RowLocks.Releases.{slots_in}
use Rattle.server_locks.proofs.RowLocks.LockTable.Releases.{locks_same, locks_all}
use Rattle.server_locks.proofs.RowLocks.LockTable.ListEdits.{one_place}
use Rattle.base_page_list.proofs.Ascending.{has_at}
use Rattle.server_locks.proofs.row_locks.lock_table.releases.take_back.Goals as goal

pub granted_from-requires : goal.granted_from-requires
granted_from-requires c = (c.requires.0, c.loop-entry.invariant.0 c.requires.0 c.requires.1)

pub take-requires-clause-consistent : goal.take-requires-clause-consistent
take-requires-clause-consistent c = (c.requires.0, c.loop-entry.invariant.0 c.requires.0 c.requires.1)

pub take-requires-clause-has : goal.take-requires-clause-has
take-requires-clause-has c = has_at _ c.in-Some.entry (flat c.loop-entry.lists.granted.pages) c.in-Some.ensures

stands_within : (slab : Slab GrantedLock) (entries : List ℕ) (k entry : ℕ) → slice_get entries k ≡ Some entry → k < length (slots_of slab entries)
stands_within slab entries k entry at =
    let within = slice_get_within entries k entry at in
    let size = length-map entries (get slab) in
    omega (arith, within, size)

pub loop-entry-preserved : goal.loop-entry-preserved
loop-entry-preserved c =
    let lists = c.loop-entry.lists in
    let are = c.loop-entry.invariant.0 c.requires.0 c.requires.1 in
    let taken = c.take.ensures.slots in
    let place = one_place Grant lists.slab (flat lists.granted.pages) taken.0 _ c.in-Some.entry are.by_grant.ascends taken.1.at c.in-Some.ensures in (
      λ next old. c.take.ensures.consistent next (c.loop-entry.invariant.0 next old),
      locks_same c.args.first (slots_in lists) (slots_in c.take.new.self) taken.0 are.by_grant.ascends place (stands_within lists.slab (flat lists.granted.pages) taken.0 c.in-Some.entry taken.1.at) taken.2 ∙ c.loop-entry.invariant.1,
    )

pub returns-clause-locks : goal.returns-clause-locks
returns-clause-locks c = locks_all c.args.first c.loop-entry.lists.slab (flat c.loop-entry.lists.granted.pages) c.in_default.ensures ∙ c.loop-entry.invariant.1
