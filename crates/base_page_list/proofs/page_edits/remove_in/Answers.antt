use Rattle.std.proofs.Common.{◌≡◌, ◌∙◌, ◌<◌, ℕ, List, [], get_or, remove, length, ap, sym, arith}
use Rattle.std.proofs.lemmas.List.{length-set}
use Rattle.base_page_list.proofs.PageLists.{read_is, get_set, flat-joined}
use Rattle.base_page_list.proofs.PageEdits.{Pages, get_flat, without_entry, taken_are_empty, taken_flat_empty, first_left, taken_are_after, taken_flat, joined_keeps}
use Rattle.base_page_list.proofs.page_edits.remove_in.Goals as goal

-- the page that was read has the entries that are left
left : (n at : ℕ) (pages after : Pages) (page : List ℕ) → n < length pages → after ≡ without_entry pages n at → page ≡ get_or after n page → page ≡ remove (get_or pages n []) at
left n at pages after page lt is read =
    let long : n < length after = rw (is, length-set) lt in
    read_is n after page long read ∙ ap (λ (ps : Pages). get_or ps n []) is ∙ get_set n pages (remove (get_or pages n []) at) lt

pub returns-then-len-eq0-clause-are : goal.returns-then-len-eq0-clause-are
returns-then-len-eq0-clause-are c =
    let page_is = left c.args.place.page c.args.place.at c.args.pages.now.items c.take-entry.new.pages.items c.index.result.now c.requires.within c.take-entry.ensures.items c.index.ensures in
    rw (c.remove.ensures.items, c.take-entry.ensures.items) (taken_are_empty c.args.place.page c.args.place.at c.args.pages.now.items c.requires.are c.requires.within c.requires.at (rw (← page_is) (omega arith)))

pub returns-then-len-eq0-clause-entry : goal.returns-then-len-eq0-clause-entry
returns-then-len-eq0-clause-entry c = c.take-entry.ensures.entry ∙ sym (get_flat c.args.place.page c.args.place.at c.take-entry.result c.args.pages.now.items c.requires.within c.requires.at)

pub returns-then-len-eq0-clause-entries : goal.returns-then-len-eq0-clause-entries
returns-then-len-eq0-clause-entries c =
    let page_is = left c.args.place.page c.args.place.at c.args.pages.now.items c.take-entry.new.pages.items c.index.result.now c.requires.within c.take-entry.ensures.items c.index.ensures in
    rw (c.remove.ensures.items, c.take-entry.ensures.items) (taken_flat_empty c.args.place.page c.args.place.at c.args.pages.now.items c.requires.within c.requires.at (rw (← page_is) (omega arith)))

pub join-requires-then-place-gt0 : goal.join-requires-then-place-gt0
join-requires-then-place-gt0 c =
    let long : c.args.place.page < length c.take-entry.new.pages.items = rw (c.take-entry.ensures.items, length-set) c.requires.within in
    let kept = joined_keeps c.args.place.page c.take-entry.new.pages.items long in
    let still : c.args.place.page < length c.join.new.pages.items = rw c.join.ensures.items kept in
    omega arith

pub returns-then-place-gt0-clause-are : goal.returns-then-place-gt0-clause-are
returns-then-place-gt0-clause-are c =
    let page_is = left c.args.place.page c.args.place.at c.args.pages.now.items c.take-entry.new.pages.items c.index.result.now c.requires.within c.take-entry.ensures.items c.index.ensures in
    rw (c.join-then-place-gt0.ensures.items, c.join.ensures.items, c.take-entry.ensures.items)
    (taken_are_after c.args.place.page c.args.place.at c.args.pages.now.items c.requires.are (omega arith) c.requires.within c.requires.at (rw (← page_is) (omega arith)))

pub returns-then-place-gt0-clause-entry : goal.returns-then-place-gt0-clause-entry
returns-then-place-gt0-clause-entry c = c.take-entry.ensures.entry ∙ sym (get_flat c.args.place.page c.args.place.at c.take-entry.result c.args.pages.now.items c.requires.within c.requires.at)

pub returns-then-place-gt0-clause-entries : goal.returns-then-place-gt0-clause-entries
returns-then-place-gt0-clause-entries c =
    rw (c.join-then-place-gt0.ensures.items, flat-joined, c.join.ensures.items, c.take-entry.ensures.items) (taken_flat c.args.place.page c.args.place.at c.args.pages.now.items c.requires.within c.requires.at)

pub returns-else-place-gt0-clause-are : goal.returns-else-place-gt0-clause-are
returns-else-place-gt0-clause-are c =
    let page_is = left c.args.place.page c.args.place.at c.args.pages.now.items c.take-entry.new.pages.items c.index.result.now c.requires.within c.take-entry.ensures.items c.index.ensures in
    let zero_is : c.args.place.page ≡ 0 = omega arith in
    let some : 0 < length (remove (get_or c.args.pages.now.items c.args.place.page []) c.args.place.at) = rw (← page_is) (omega arith) in
    rw (c.join.ensures.items, c.take-entry.ensures.items)
    (first_left c.args.place.page c.args.place.at c.args.pages.now.items zero_is c.requires.are c.requires.within c.requires.at some)

pub returns-else-place-gt0-clause-entries : goal.returns-else-place-gt0-clause-entries
returns-else-place-gt0-clause-entries c =
    rw (c.join.ensures.items, c.take-entry.ensures.items) (taken_flat c.args.place.page c.args.place.at c.args.pages.now.items c.requires.within c.requires.at)
