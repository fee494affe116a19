use Rattle.std.proofs.Common.{◌≡◌, ◌∙◌, ◌+◌, Option, Some, None, IsSome, OnSome, sym, ap, subst}
use Rattle.slab.specs.Slab.{get, slab_len}
use Rattle.base_page_list.specs.Pages.{flat}
use Rattle.server_locks.specs.declared.row_locks.lock_table.granted_lock.GrantedLock.{GrantedLock}
use Rattle.server_locks.specs.declared.row_locks.lock_table.granted_lock.ListOrder.TheVariants.{Grant}
use Rattle.server_locks.specs.RowLocks.LockLists.{locks_of}
use Rattle.server_locks.specs.RowLocks.ListOrders.{slots_of}
use Rattle.server_locks.proofs.RowLocks.LockTable.LockLists.{lists_taken, taken_at}
use Rattle.server_locks.proofs.RowLocks.LockTable.ListEdits.{locks_removed, slots_removed}
use Rattle.base_page_list.proofs.Ascending.{has_all}
use Rattle.server_locks.proofs.row_locks.lock_table.lock_lists.LockLists.take.Goals as goal

some_not_none : (s : Option GrantedLock) → IsSome s → s ≡ None → ⊥
some_not_none (Some one) some none = absurd (cc)
some_not_none None some none = absurd (cc)

on_some : (s : Option GrantedLock) (P : Type 0) → IsSome s → OnSome s P → P
on_some (Some one) P some on = on
on_some None P some on = absurd (cc)

pub unreachable-requires : goal.unreachable-requires
unreachable-requires c =
    let old = c.args.self.now in
    let some = has_all (λ e. IsSome (get old.slab e)) c.args.entry (flat old.granted.pages) c.requires.consistent.1.by_grant.stored c.requires.has in
    let none : get old.slab c.args.entry ≡ None = rw c.in_default.is at (sym c.get.ensures) in
    some_not_none (get old.slab c.args.entry) some none

pub returns-clause-consistent : goal.returns-clause-consistent
returns-clause-consistent c =
    λ next are.
    let old = c.args.self.now in
    let some = has_all (λ e. IsSome (get old.slab e)) c.args.entry (flat old.granted.pages) c.requires.consistent.1.by_grant.stored c.requires.has in
    let given : IsSome c.try_remove.result = subst (λ (s : Option GrantedLock). IsSome s) (sym c.try_remove.ensures.value) some in
    let fewer = on_some c.try_remove.result (slab_len c.try_remove.new.self + 1 ≡ slab_len old.slab) given c.try_remove.ensures.len in
    lists_taken next old.slab c.try_remove.new.self (flat old.granted.pages) (flat old.owned.pages) (flat old.spans.pages) (flat old.wide.pages) (flat c.take_from.new.list.pages) (flat c.take_from-2.new.list.pages) (flat c.take_from-3.new.list.pages) (flat c.take_from-4.new.list.pages)
    c.args.entry _ _ _ _ are c.try_remove.ensures.updates fewer c.requires.has c.take_from.ensures c.take_from-2.ensures c.take_from-3.ensures c.take_from-4.ensures

pub returns-clause-entries : goal.returns-clause-entries
returns-clause-entries c =
    let old = c.args.self.now in
    let at = taken_at _ c.args.entry (flat old.granted.pages) (flat c.take_from.new.list.pages) c.take_from.ensures c.requires.has in
    (_, at, ap (locks_of c.try_remove.new.self) at.rest ∙ locks_removed Grant old.slab c.try_remove.new.self c.args.entry None (flat old.granted.pages) _ c.try_remove.ensures.updates c.requires.consistent.1.by_grant.ascends at.at)

pub returns-clause-slots : goal.returns-clause-slots
returns-clause-slots c =
    let old = c.args.self.now in
    let at = taken_at _ c.args.entry (flat old.granted.pages) (flat c.take_from.new.list.pages) c.take_from.ensures c.requires.has in
    (_, at, ap (slots_of c.try_remove.new.self) at.rest ∙ slots_removed Grant old.slab c.try_remove.new.self c.args.entry None (flat old.granted.pages) _ c.try_remove.ensures.updates c.requires.consistent.1.by_grant.ascends at.at)
