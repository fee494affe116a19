use Rattle.std.proofs.Common.{◌≡◌, ◌∙◌, ℕ, List, ap, sym, subst}
use Rattle.base_page_list.specs.Pages.{flat, between}
use Rattle.server_locks.specs.declared.row_locks.lock.HeldLock.{HeldLock}
use Rattle.server_locks.specs.RowLocks.LockLists.{locks_in, locks_of}
use Rattle.server_locks.specs.RowLocks.HeldSpans.{AreOn}
use Rattle.server_locks.proofs.RowLocks.LockTable.HeldSpans.{shown_are}
use Rattle.server_locks.proofs.RowLocks.LockTable.KeyRuns.{earlier_keys_fail, keys_up_to_fail}
use Rattle.server_locks.proofs.row_locks.lock_table.held_spans.held_on.Goals as goal

pub place-start-requires : goal.place-start-requires
place-start-requires c = earlier_keys_fail c.args.table.now c.args.key c.args.lists.now.slab (flat c.args.lists.now.spans.pages) c.requires.1.by_span.ascends

pub place-end-requires : goal.place-end-requires
place-end-requires c = keys_up_to_fail c.args.table.now c.args.key c.args.lists.now.slab (flat c.args.lists.now.spans.pages) c.requires.1.by_span.ascends

between_is : (es : List ℕ) (p q p' q' : ℕ) (xs : List ℕ) → es ≡ between p q xs → p ≡ p' → q ≡ q' → es ≡ between p' q' xs
between_is es p q p' q' xs is p_is q_is = is ∙ ap (λ (n : ℕ). between n q xs) p_is ∙ ap (λ (n : ℕ). between p' n xs) q_is

pub returns : goal.returns
returns c =
    let lists = c.args.lists.now in
    let here = between_is _ _ _ _ _ (flat lists.spans.pages) c.entries_between.ensures c.place-start.ensures.place c.place-end.ensures.place in
    subst (λ (ls : List HeldLock). AreOn c.args.table.now c.args.key (locks_in lists) ls) (sym (c.new.ensures ∙ ap (locks_of lists.slab) here))
    (shown_are c.args.table.now c.args.key c.requires.0 lists.slab (flat lists.granted.pages) (flat lists.owned.pages) (flat lists.spans.pages) (flat lists.wide.pages) c.requires.1)
