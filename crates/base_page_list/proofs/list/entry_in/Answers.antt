use Rattle.std.proofs.Common.{sym}
use Rattle.base_page_list.proofs.PagePlaces.{stands_here, stands_next, none_next, next_has}
use Rattle.base_page_list.proofs.list.entry_in.Goals as goal

pub returns-in-Some-get : goal.returns-in-Some-get
returns-in-Some-get c = stands_here c.args.place.page c.args.place.at c.in-Some-get.entry c.args.pages.now c.in-Some.here.now (sym c.in-Some.ensures) (sym c.in-Some-get.ensures)

pub returns-in_default-page_at : goal.returns-in_default-page_at
returns-in_default-page_at c = none_next c.args.place.page c.args.place.at c.args.pages.now c.in-Some.here.now c.requires.gap (sym c.in-Some.ensures) (sym c.in_default-get.ensures) (sym c.in_default-page_at.ensures)

pub returns-in-Some-get-2 : goal.returns-in-Some-get-2
returns-in-Some-get-2 c =
    stands_next c.args.place.page c.args.place.at c.in-Some-get-2.entry c.args.pages.now c.in-Some.here.now c.in-Some-page_at.next.now c.requires.gap (sym c.in-Some.ensures) (sym c.in_default-get.ensures) (sym c.in-Some-page_at.ensures)
    (sym c.in-Some-get-2.ensures)

pub returns-in-None : goal.returns-in-None
returns-in-None c = absurd (next_has _ c.args.pages.now c.in-Some-page_at.next.now c.requires.are (sym c.in-Some-page_at.ensures) (sym c.in-None.ensures))
