use Rattle.std.proofs.Common.{◌≡◌, ◌≤◌, ℕ, List, true, false, None, length, sym, arith}
use Rattle.std.specs.List.{slice_get}
use Rattle.std.proofs.lemmas.List.{length-map}
use Rattle.std.proofs.lemmas.Option.{slice_get_past}
use Rattle.base_page_list.specs.Pages.{flat, place_in}
use Rattle.table_store.specs.RowLists.{is_at}
use Rattle.table_store.specs.PagedTables.RowPages.RowOrders.{row_of, rows_of}
use Rattle.table_store.specs.PagedTables.RowPages.KeyLookup.{wanted_key}
use Rattle.base_page_list.proofs.Ascending.{has_at}
use Rattle.table_store.proofs.PagedTables.RowPages.RowPlaces.{Rows, row_at}
use Rattle.table_store.proofs.PagedTables.RowPages.FirstRows.{none_besides, first_besides, next_yes, next_no, next_none}
use Rattle.table_store.proofs.paged_tables.row_pages.places.found_besides.Goals as goal

pub returns-in_default : goal.returns-in_default
returns-in_default c = none_besides c.args.places.now (wanted_key c.args.places.now c.args.sought) c.args.second.now c.args.named.now (rows_of c.args.rows.now (flat c.args.order.now.pages)) c.in_default.ensures

pub returns-then-not-is_at : goal.returns-then-not-is_at
returns-then-not-is_at c =
    let not_so : is_at c.args.second.now c.args.named.now (row_of c.args.rows.now c.in-Some.entry) ≡ false = rw (← c.row_of.ensures) (sym c.if-not-is_at.ensures) in
    record {
      has = has_at _ c.in-Some.entry (flat c.args.order.now.pages) c.in-Some.ensures.entry_is;
      row_is = first_besides c.args.places.now (wanted_key c.args.places.now c.args.sought) c.args.second.now c.args.named.now (row_of c.args.rows.now c.in-Some.entry) (rows_of c.args.rows.now (flat c.args.order.now.pages)) c.in-Some.ensures.row_is not_so;
    }

nothing_after : (slab : Rows) (entries : List ℕ) (k : ℕ) → length entries ≤ k → slice_get (rows_of slab entries) k ≡ None
nothing_after slab entries k over = let size = length-map entries (row_of slab) in slice_get_past (rows_of slab entries) k (omega (arith, size, over))

pub returns-in_default-entry_after : goal.returns-in_default-entry_after
returns-in_default-entry_after c =
    let entries = flat c.args.order.now.pages in
    let is_named : is_at c.args.second.now c.args.named.now (row_of c.args.rows.now c.in-Some.entry) ≡ true = rw (← c.row_of.ensures) (sym c.if-not-is_at.ensures) in
    next_none c.args.places.now c.args.second.now (wanted_key c.args.places.now c.args.sought) c.args.named.now (row_of c.args.rows.now c.in-Some.entry) (place_in c.args.order.now.pages c.in-Some.place.page c.in-Some.place.at) (rows_of c.args.rows.now entries)
    c.requires c.in-Some.ensures.place_is (row_at c.args.rows.now entries _ c.in-Some.entry c.in-Some.ensures.entry_is) c.in-Some.ensures.has_key is_named (nothing_after c.args.rows.now entries _ c.in_default-entry_after.ensures)

pub returns-then-is_eq : goal.returns-then-is_eq
returns-then-is_eq c =
    let entries = flat c.args.order.now.pages in
    let is_named : is_at c.args.second.now c.args.named.now (row_of c.args.rows.now c.in-Some.entry) ≡ true = rw (← c.row_of.ensures) (sym c.if-not-is_at.ensures) in
    let tied : is_at c.args.places.now (wanted_key c.args.places.now c.args.sought) (row_of c.args.rows.now c.in-Some-entry_after.next) ≡ true = rw (← c.row_of-2.ensures, ← c.compare_wanted.ensures, ← c.is_eq.ensures) c.if-is_eq.true in
    record {
      has = has_at _ c.in-Some-entry_after.next entries c.in-Some-entry_after.ensures.entry_is;
      row_is =
          next_yes c.args.places.now c.args.second.now (wanted_key c.args.places.now c.args.sought) c.args.named.now (row_of c.args.rows.now c.in-Some.entry) (row_of c.args.rows.now c.in-Some-entry_after.next)
          (place_in c.args.order.now.pages c.in-Some.place.page c.in-Some.place.at) (rows_of c.args.rows.now entries) c.requires c.in-Some.ensures.place_is (row_at c.args.rows.now entries _ c.in-Some.entry c.in-Some.ensures.entry_is) c.in-Some.ensures.has_key
          is_named (row_at c.args.rows.now entries _ c.in-Some-entry_after.next c.in-Some-entry_after.ensures.entry_is) tied;
    }

pub returns-else-is_eq : goal.returns-else-is_eq
returns-else-is_eq c =
    let entries = flat c.args.order.now.pages in
    let is_named : is_at c.args.second.now c.args.named.now (row_of c.args.rows.now c.in-Some.entry) ≡ true = rw (← c.row_of.ensures) (sym c.if-not-is_at.ensures) in
    let not_so : is_at c.args.places.now (wanted_key c.args.places.now c.args.sought) (row_of c.args.rows.now c.in-Some-entry_after.next) ≡ false = rw (← c.row_of-2.ensures, ← c.compare_wanted.ensures, ← c.is_eq.ensures) c.if-is_eq.false in
    next_no c.args.places.now c.args.second.now (wanted_key c.args.places.now c.args.sought) c.args.named.now (row_of c.args.rows.now c.in-Some.entry) (row_of c.args.rows.now c.in-Some-entry_after.next)
    (place_in c.args.order.now.pages c.in-Some.place.page c.in-Some.place.at) (rows_of c.args.rows.now entries) c.requires c.in-Some.ensures.place_is (row_at c.args.rows.now entries _ c.in-Some.entry c.in-Some.ensures.entry_is) c.in-Some.ensures.has_key is_named
    (row_at c.args.rows.now entries _ c.in-Some-entry_after.next c.in-Some-entry_after.ensures.entry_is) not_so
