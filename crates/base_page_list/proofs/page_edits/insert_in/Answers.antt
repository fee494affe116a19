use Rattle.base_page_list.proofs.PageEdits.{fits_at, put_are, put_flat, put_count}
use Rattle.base_page_list.proofs.page_edits.insert_in.Goals as goal

pub put-requires-clause-room : goal.put-requires-clause-room
put-requires-clause-room c = fits_at c.args.place.page c.args.pages.now.items c.requires.are c.requires.within

pub returns-clause-are : goal.returns-clause-are
returns-clause-are c =
    rw (c.part.ensures.items, c.put.ensures.items) (put_are c.args.place.page c.args.place.at c.args.entry c.args.pages.now.items c.requires.are c.requires.within c.requires.at)

pub returns-clause-entries : goal.returns-clause-entries
returns-clause-entries c =
    rw (c.part.ensures.items, c.put.ensures.items) (put_flat c.args.place.page c.args.place.at c.args.entry c.args.pages.now.items c.requires.within c.requires.at)

pub returns-clause-pages : goal.returns-clause-pages
returns-clause-pages c =
    rw (c.part.ensures.items, c.put.ensures.items) (put_count c.args.place.page c.args.place.at c.args.entry c.args.pages.now.items c.requires.within c.requires.at)
