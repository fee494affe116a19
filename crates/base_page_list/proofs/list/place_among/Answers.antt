use Rattle.std.proofs.Common.{◌≡◌, ◌-◌, ◌∙◌, ℕ, List, [], get_or, sym, ap}
use Rattle.std.specs.List.{prefix_len}
use Rattle.std.proofs.lemmas.Option.{get_or_from_slice_get}
use Rattle.base_page_list.specs.Pages.{last_page}
use Rattle.base_page_list.proofs.PagePlaces.{ends, page_fails_on, page_is_last, no_pages_gap, no_pages_place}
use Rattle.base_page_list.proofs.list.place_among.Goals as goal

pub entries_before-requires : goal.entries_before-requires
entries_before-requires g c =
    let page_is = c.as_slice.ensures ∙ sym (get_or_from_slice_get c.args.pages.now c.saturating_sub-page.result c.in-Some.entries.now [] (sym c.in-Some.ensures)) in
    rw page_is (page_fails_on (g.T.Test.on c.args.test.now) c.saturating_sub-page.result c.args.pages.now c.requires.fails)

pub returns-in-Some-clause-place : goal.returns-in-Some-clause-place
returns-in-Some-clause-place g c =
    let on = g.T.Test.on c.args.test.now in
    let page_is = c.as_slice.ensures ∙ sym (get_or_from_slice_get c.args.pages.now c.saturating_sub-page.result c.in-Some.entries.now [] (sym c.in-Some.ensures)) in
    let last : c.saturating_sub-page.result ≡ last_page on c.args.pages.now = c.saturating_sub-page.ensures ∙ ap (λ (k : ℕ). k - 1) c.pages_before.ensures in
    let count : c.entries_before.result ≡ prefix_len on (get_or c.args.pages.now c.saturating_sub-page.result []) = c.entries_before.ensures.count ∙ ap (λ (p : List ℕ). prefix_len on p) page_is in
    page_is_last on c.args.pages.now c.saturating_sub-page.result c.entries_before.result last count (ends on c.args.pages.now c.requires.are c.requires.fails)

pub returns-in-None-clause-gap : goal.returns-in-None-clause-gap
returns-in-None-clause-gap g c =
    let on = g.T.Test.on c.args.test.now in
    let last : c.saturating_sub-page.result ≡ last_page on c.args.pages.now = c.saturating_sub-page.ensures ∙ ap (λ (k : ℕ). k - 1) c.pages_before.ensures in
    no_pages_gap on c.args.pages.now c.saturating_sub-page.result last (sym c.in-None.ensures)

pub returns-in-None-clause-place : goal.returns-in-None-clause-place
returns-in-None-clause-place g c =
    let on = g.T.Test.on c.args.test.now in
    let last : c.saturating_sub-page.result ≡ last_page on c.args.pages.now = c.saturating_sub-page.ensures ∙ ap (λ (k : ℕ). k - 1) c.pages_before.ensures in
    no_pages_place on c.args.pages.now c.saturating_sub-page.result last (sym c.in-None.ensures)
