use Rattle.std.proofs.Common.{◌∙◌, ℕ, sym, ap, arith}
use Rattle.std.specs.List.{slice_get}
use Rattle.std.proofs.lemmas.List.{length-map}
use Rattle.slab.specs.Slab.{get}
use Rattle.base_page_list.specs.Pages.{flat}
use Rattle.server_locks.specs.RowLocks.Releases.{is_granted_before}
use Rattle.server_locks.proofs.RowLocks.LockTable.Releases.{grants_fail}
use Rattle.base_page_list.proofs.Ascending.{prefix_map}
use Rattle.server_locks.proofs.row_locks.lock_table.releases.granted_from.Goals as goal

pub place-place-requires : goal.place-place-requires
place-place-requires c = grants_fail c.args.first c.args.lists.now.slab (flat c.args.lists.now.granted.pages) c.requires.1.by_grant.ascends

pub returns-in-Some : goal.returns-in-Some
returns-in-Some c =
    let entries = flat c.args.lists.now.granted.pages in
    ap (λ (n : ℕ). slice_get entries n) (sym (c.place-place.ensures.place ∙ prefix_map (get c.args.lists.now.slab) (is_granted_before c.args.first) entries)) ∙ c.in-Some.ensures.entry_is

pub returns-in-None : goal.returns-in-None
returns-in-None c =
    let entries = flat c.args.lists.now.granted.pages in
    let place = c.place-place.ensures.place ∙ prefix_map (get c.args.lists.now.slab) (is_granted_before c.args.first) entries in
    let size = length-map entries (get c.args.lists.now.slab) in
    let over = c.in-None.ensures in
    omega (arith, place, size, over)
