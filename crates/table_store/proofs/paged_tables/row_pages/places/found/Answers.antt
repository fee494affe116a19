use Rattle.std.proofs.Common.{◌≡◌, true, false}
use Rattle.base_page_list.specs.Pages.{flat}
use Rattle.table_store.specs.RowLists.{is_at}
use Rattle.table_store.specs.PagedTables.RowPages.RowOrders.{row_of, rows_of}
use Rattle.table_store.specs.PagedTables.RowPages.KeyLookup.{wanted_key}
use Rattle.table_store.proofs.PagedTables.RowPages.RowPlaces.{key_fails_on, found_yes, found_no, found_none}
use Rattle.table_store.proofs.paged_tables.row_pages.places.found.Goals as goal

pub place_of_key-place-requires : goal.place_of_key-place-requires
place_of_key-place-requires c = key_fails_on c.args.places.now c.requires.0 (wanted_key c.args.places.now c.args.sought) (rows_of c.args.rows.now (flat c.args.order.now.pages)) c.requires.1

pub returns-in_default : goal.returns-in_default
returns-in_default c = found_none c.args.places.now c.requires.0 (wanted_key c.args.places.now c.args.sought) c.args.rows.now (flat c.args.order.now.pages) _ c.requires.1 c.place_of_key-place.ensures.place c.in_default.ensures

pub returns-then-is_eq : goal.returns-then-is_eq
returns-then-is_eq c =
    let yes : is_at c.args.places.now (wanted_key c.args.places.now c.args.sought) (row_of c.args.rows.now c.in-Some.entry) ≡ true = rw (← c.row_of.ensures, ← c.compare_wanted.ensures, ← c.is_eq.ensures) c.if-is_eq.true in
    found_yes c.args.places.now c.requires.0 (wanted_key c.args.places.now c.args.sought) c.args.rows.now c.args.order.now.pages _ c.in-Some.place.page c.in-Some.place.at c.in-Some.entry c.requires.1 c.place_of_key-place.ensures.place c.in-Some.ensures yes

pub returns-else-is_eq : goal.returns-else-is_eq
returns-else-is_eq c =
    let not_so : is_at c.args.places.now (wanted_key c.args.places.now c.args.sought) (row_of c.args.rows.now c.in-Some.entry) ≡ false = rw (← c.row_of.ensures, ← c.compare_wanted.ensures, ← c.is_eq.ensures) c.if-is_eq.false in
    found_no c.args.places.now c.requires.0 (wanted_key c.args.places.now c.args.sought) c.args.rows.now c.args.order.now.pages _ c.in-Some.place.page c.in-Some.place.at c.in-Some.entry c.requires.1 c.place_of_key-place.ensures.place c.in-Some.ensures not_so
