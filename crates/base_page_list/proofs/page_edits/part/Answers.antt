use Rattle.std.proofs.Common.{◌≤◌, ◌∙◌, List, [], ℕ, get_or, set, length, sym, ap, arith}
use Rattle.base_page_list.proofs.PageLists.{part_made, parted_not, read_is, set_same}
use Rattle.base_page_list.proofs.page_edits.part.Goals as goal

pub returns-in-Ok-clause-items : goal.returns-in-Ok-clause-items
returns-in-Ok-clause-items c =
    part_made c.args.n c.args.pages.now.items c.insert.new.self.items c.index_mut-page.result.now c.split-following.new.self c.split-following.result c.requires.within c.index_mut-page.ensures.value (omega arith) c.split-following.ensures.rest
    c.split-following.ensures.taken c.in-Ok.ensures.items

pub returns-else-len-gt64-clause-items : goal.returns-else-len-gt64-clause-items
returns-else-len-gt64-clause-items c =
    let pages = c.args.pages.now.items in
    let n = c.args.n in
    let page_is = read_is n pages c.index_mut-page.result.now c.requires.within c.index_mut-page.ensures.value in
    let few : length (get_or pages n []) ≤ 64 = rw (← page_is) (omega arith) in
    ap (λ (p : List ℕ). set pages n p) page_is ∙ set_same n pages ∙ sym (parted_not n pages few)
