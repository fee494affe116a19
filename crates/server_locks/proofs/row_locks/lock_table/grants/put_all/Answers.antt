use Rattle.std.proofs.Common.{◌≡◌, ◌∙◌, ◌++◌, ◌+◌, ℕ, List, [], ◌∷◌, reverse, vec_len, refl, sym, ap, subst, arith, append_assoc}
use Rattle.std.proofs.lemmas.List.{reverse-append}
use Rattle.base_page_list.specs.Pages.{flat}
use Rattle.server_locks.specs.declared.row_locks.lock.HeldLock.{HeldLock}
use Rattle.server_locks.specs.RowLocks.LockLists.{HasRoom, locks_in}
use Rattle.server_locks.specs.RowLocks.Releases.{slots_in, locks_before}
use Rattle.server_locks.proofs.RowLocks.LockTable.Releases.{all_granted, locks_more}
use Rattle.server_locks.proofs.row_locks.lock_table.grants.put_all.Goals as goal

pub loop-held-init : goal.loop-held-init
loop-held-init c = (c.requires.consistent, c.requires.room, refl, omega arith, refl, all_granted c.args.first c.args.lists.now.slab (flat c.args.lists.now.granted.pages) c.requires.consistent.before)

one_moved : (xs ys left rest : List HeldLock) (held : HeldLock) → left ≡ rest ++ held ∷ [] → ys ≡ xs ++ held ∷ [] → ys ++ reverse rest ≡ xs ++ reverse left
one_moved xs ys left rest held left_is ys_are =
    ap (λ (ls : List HeldLock). ls ++ reverse rest) ys_are ∙ append_assoc xs (held ∷ []) (reverse rest) ∙ ap (λ (ls : List HeldLock). xs ++ ls) (sym (ap reverse left_is ∙ reverse-append rest (held ∷ [])))

fewer_left : (grant rest left total : ℕ) → rest + 1 ≡ left → grant + left ≡ total → (grant + 1) + rest ≡ total
fewer_left grant rest left total less is = omega (arith, less, is)

pub loop-held-preserved : goal.loop-held-preserved
loop-held-preserved c =
    let inv = c.loop-held.invariant in
    let less : vec_len c.pop.new.self + 1 ≡ vec_len c.loop-held.left = c.in-Some.ensures.cases in
    let later = inv.3 in (
      c.put.ensures.consistent,
      c.put.ensures.room (vec_len c.pop.new.self) (subst (λ (n : ℕ). HasRoom n c.loop-held.lists) (sym less) inv.1),
      fewer_left c.loop-held.grant _ _ _ less inv.2,
      omega (arith, later),
      one_moved (locks_in c.loop-held.lists) (locks_in c.put.new.self) c.loop-held.left.items c.pop.new.self.items c.in-Some.held c.in-Some.ensures.items c.put.ensures.locks ∙ inv.4,
      ap (locks_before c.args.first) c.put.ensures.slots ∙ locks_more c.args.first (slots_in c.loop-held.lists) _ later ∙ inv.5,
    )
