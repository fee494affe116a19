use Rattle.std.proofs.Common.{◌≡◌, ◌<◌, ◌≤◌, ◌∙◌, length, get_or, suc, Bool, true, false, [], ◌==◌, ◌∷◌, refl, arith, add-one}
use Rattle.std.proofs.lemmas.Bool.{ne_eqb}
use Rattle.std.proofs.lemmas.List.{take_rest}
use Rattle.base_page_list.proofs.PageEdits.{Pages}
use Rattle.base_page_list.proofs.PageLists.{read_is}
use Rattle.base_page_list.proofs.PageRuns.{between_one, between_more, between_none, between_no_pages}
use Rattle.base_page_list.proofs.entries.Entries.between.Goals.{then-is_empty-via-then-is_empty, then-is_empty-via-else-is_empty+then-to-from}
use Rattle.base_page_list.proofs.entries.Entries.between.Goals as goal

no_pages : (empty : Bool) (pages : Pages) → empty ≡ (length pages == 0) → empty ≡ true → length pages ≡ 0
no_pages empty [] is so = refl
no_pages empty (page ∷ pages) is so =
    let some : (suc (length pages) == 0) ≡ false = ne_eqb (suc (length pages)) 0 (λ e. omega (arith, e)) in
    absurd (cc)

some_pages : (empty : Bool) (pages : Pages) → empty ≡ (length pages == 0) → empty ≡ false → 0 < length pages
some_pages empty [] is so = absurd (cc)
some_pages empty (page ∷ pages) is so = omega arith

pub returns-then-is_empty : goal.returns-then-is_empty
returns-then-is_empty c =
    let pages = c.args.pages.now in
    c.of.ensures ∙ elim c.then-is_empty.branch [
      | then-is_empty-via-then-is_empty w ↦ between_no_pages _ _ pages (no_pages c.is_empty.result pages c.is_empty.ensures w.if-is_empty.true)
      | then-is_empty-via-else-is_empty+then-to-from w ↦
          let some = some_pages c.is_empty.result pages c.is_empty.ensures w.if-is_empty.false in
          between_none c.args.from.page c.args.to.page c.args.from.at c.args.to.at pages w.if-to-from.true (c.requires.from.page_is some) c.requires.to.within
    ]

pub returns-then-to-from-2 : goal.returns-then-to-from-2
returns-then-to-from-2 c =
    let pages = c.args.pages.now in
    let n = c.args.from.page in
    let some = some_pages c.is_empty.result pages c.is_empty.ensures c.if-is_empty.false in
    let inside = c.requires.from.page_is some in
    let page_is = c.as_slice-first.ensures ∙ read_is n pages c.index-pages-from.result inside c.index-pages-from.is in
    let same = c.if-to-from-2.true in
    let end : c.args.to.at ≤ length (get_or pages n []) = rw (← same) c.requires.to.within in
    c.of-then-to-from-2.ensures ∙ c.within.ensures ∙ rw (same, page_is) (between_one n c.args.from.at c.args.to.at pages inside c.requires.from.within end)

pub returns : goal.returns
returns c =
    let pages = c.args.pages.now in
    let n = c.args.from.page in
    let m = c.args.to.page in
    let some = some_pages c.is_empty.result pages c.is_empty.ensures c.if-is_empty.false in
    let inside : n < length pages = c.requires.from.page_is some in
    let beyond : m < length pages = c.requires.to.page_is some in
    let first_is = c.as_slice-first.ensures ∙ read_is n pages c.index-pages-from.result inside c.index-pages-from.is in
    let last_is = c.as_slice.ensures ∙ read_is m pages c.index-pages-to.result beyond c.index-pages-to.is in
    let one = add-one n in
    let whole = between_more n m c.args.from.at c.args.to.at pages (omega arith) beyond c.requires.from.within c.requires.to.within in
    rw (take_rest, first_is, last_is, one) whole
