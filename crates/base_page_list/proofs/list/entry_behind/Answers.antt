use Rattle.std.proofs.Common.{◌≡◌, ◌+◌, arith}
use Rattle.base_page_list.specs.Pages.{place_in}
use Rattle.base_page_list.proofs.PageEdits.{fits_at}
use Rattle.base_page_list.proofs.list.entry_behind.Goals as goal

pub overflow_add-at : goal.overflow_add-at
overflow_add-at c =
    let few = fits_at c.args.place.page c.args.pages.now c.requires.are c.requires.page in
    omega (arith, few)

pub entry_in-requires-clause-gap : goal.entry_in-requires-clause-gap
entry_in-requires-clause-gap c = record { page_is = λ some. c.requires.page; within = omega arith }

pub returns : goal.returns
returns c =
    let same : place_in c.args.pages.now c.args.place.page c.args.place.at + 1 ≡ place_in c.args.pages.now c.args.place.page (c.args.place.at + 1) = omega arith in
    rw same c.entry_in.ensures
