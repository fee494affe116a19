use Rattle.std.proofs.Common.{◌∙◌, ◌==◌, not, filter, List, ap, sym}
use Rattle.base_page_list.specs.Pages.{flat}
use Rattle.server_locks.specs.declared.row_locks.lock.HeldLock.{HeldLock}
use Rattle.server_locks.specs.RowLocks.LockLists.{locks_in}
use Rattle.server_locks.proofs.RowLocks.LockTable.Releases.{one_less, all_left}
use Rattle.server_locks.proofs.row_locks.lock_table.releases.take_away.Goals as goal

pub first_of-requires : goal.first_of-requires
first_of-requires c = (c.requires.0, c.loop-entry.invariant.0 c.requires.0 c.requires.1)

pub take-requires-clause-consistent : goal.take-requires-clause-consistent
take-requires-clause-consistent c = (c.requires.0, c.loop-entry.invariant.0 c.requires.0 c.requires.1)

pub loop-entry-preserved : goal.loop-entry-preserved
loop-entry-preserved c =
    let lists = c.loop-entry.lists in
    let are = c.loop-entry.invariant.0 c.requires.0 c.requires.1 in
    let taken = c.take.ensures.entries in (
      λ next old. c.take.ensures.consistent next (c.loop-entry.invariant.0 next old),
      ap (λ (ls : List HeldLock). filter (λ (held : HeldLock). not (held.session == c.args.session)) ls) taken.2
          ∙ one_less c.args.session lists.slab (flat lists.granted.pages) taken.0 c.in-Some.entry are.by_grant.stored taken.1.at c.in-Some.ensures.is
          ∙ c.loop-entry.invariant.1,
    )

pub returns-clause-locks : goal.returns-clause-locks
returns-clause-locks c = sym (all_left c.args.session (locks_in c.loop-entry.lists) c.in_default.ensures) ∙ c.loop-entry.invariant.1
