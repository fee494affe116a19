use Rattle.std.proofs.Common.{◌≡◌, ◌∙◌, ◌≤◌, ℕ, false, Some, List, length, sym, ap, subst, arith}
use Rattle.std.specs.List.{AllByRecursion, slice_get}
use Rattle.std.proofs.lemmas.Option.{slice_get_within}
use Rattle.slab.specs.Slab.{Slab, get}
use Rattle.base_page_list.specs.Pages.{flat}
use Rattle.server_locks.specs.declared.row_locks.lock_table.granted_lock.GrantedLock.{GrantedLock}
use Rattle.server_locks.specs.RowLocks.Releases.{is_of}
use Rattle.base_page_list.specs.Orders.{Has}
use Rattle.server_locks.proofs.RowLocks.LockTable.Releases.{lesser_fail, none_of, any_of}
use Rattle.base_page_list.proofs.Ascending.{has_at, has_all, all_has}
use Rattle.server_locks.proofs.row_locks.lock_table.releases.first_of.Goals as goal

pub place-place-requires : goal.place-place-requires
place-place-requires c = lesser_fail c.args.session c.args.lists.now.slab (flat c.args.lists.now.owned.pages) c.requires.1.by_owner.ascends

past : (slab : Slab GrantedLock) (session place n e : ℕ) (entries : List ℕ) → length entries ≤ place → place ≡ n → slice_get entries n ≡ Some e → is_of session (get slab e) ≡ false
past slab session place n e entries over is at = let within = slice_get_within entries n e at in absurd (omega (arith, within, over, is))

found_other : (slab : Slab GrantedLock) (session place n e one : ℕ) (entries : List ℕ) → slice_get entries place ≡ Some one → is_of session (get slab one) ≡ false → place ≡ n → slice_get entries n ≡ Some e → is_of session (get slab e) ≡ false
found_other slab session place n e one entries there other is at =
    let here : slice_get entries place ≡ Some e = ap (λ (m : ℕ). slice_get entries m) is ∙ at in
    let same : one ≡ e = cc in
    subst (λ (m : ℕ). is_of session (get slab m) ≡ false) same other

moved : (P : ℕ → Type 0) (entries others : List ℕ) → ((e : ℕ) → Has others e → Has entries e) → AllByRecursion P entries → AllByRecursion P others
moved P entries others here all = all_has P others (λ e has. has_all P e entries all (here e has))

pub returns-in_default : goal.returns-in_default
returns-in_default c =
    let lists = c.args.lists.now in
    let none = none_of c.args.session lists.slab (flat lists.owned.pages) c.requires.1.by_owner.ascends (λ e at. past lists.slab c.args.session _ _ e (flat lists.owned.pages) c.in_default.ensures c.place-place.ensures.place at) in
    any_of c.args.session lists.slab (flat lists.granted.pages) c.requires.1.by_grant.stored (moved (λ e. is_of c.args.session (get lists.slab e) ≡ false) (flat lists.owned.pages) (flat lists.granted.pages) c.requires.1.owned_all.there none)

pub returns-then-is_of : goal.returns-then-is_of
returns-then-is_of c =
    record {
      has = c.requires.1.owned_all.here c.in-Some.entry (has_at _ c.in-Some.entry (flat c.args.lists.now.owned.pages) c.in-Some.ensures.entry_is);
      is = sym c.is_of.ensures ∙ c.if-is_of.true;
    }

pub returns-else-is_of : goal.returns-else-is_of
returns-else-is_of c =
    let lists = c.args.lists.now in
    let other = sym c.is_of.ensures ∙ c.if-is_of.false in
    let none = none_of c.args.session lists.slab (flat lists.owned.pages) c.requires.1.by_owner.ascends (λ e at. found_other lists.slab c.args.session _ _ e c.in-Some.entry (flat lists.owned.pages) c.in-Some.ensures.entry_is other c.place-place.ensures.place at) in
    any_of c.args.session lists.slab (flat lists.granted.pages) c.requires.1.by_grant.stored (moved (λ e. is_of c.args.session (get lists.slab e) ≡ false) (flat lists.owned.pages) (flat lists.granted.pages) c.requires.1.owned_all.there none)
