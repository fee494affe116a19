use Rattle.std.proofs.Common.{◌≡◌, ◌∙◌, ◌+◌, ◌-◌, ◌<◌, ◌≤◌, min, arith, ℕ, List, [], insert, length, map, ap, sym, subst}
use Rattle.std.proofs.lemmas.List.{length-map}
use Rattle.slab.specs.Slab.{slab_len}
use Rattle.base_values.specs.GhoSchema.Rows.{key_places}
use Rattle.base_page_list.specs.Pages.{flat, pages_made}
use Rattle.table_store.specs.PagedTables.RowPages.RowOrders.{row_of, rows_of}
use Rattle.table_store.proofs.PagedTables.RowPages.RowPlaces.{Rows, row_fails_on, rows_put, listed_put, put_is, new_is}
use Rattle.table_store.specs.PagedTables.RowPages.Indexes.{room_in, IsAdded}
use Rattle.table_store.specs.declared.paged_tables.row_pages.indexes.KeyIndex.{KeyIndex}
use Rattle.table_store.proofs.PagedTables.RowPages.Indexing.{ready_all, indexed_put, keys_zip, room_less}
use Rattle.table_store.proofs.PagedTables.RowPages.Reserving.{least}
use Rattle.table_store.proofs.PagedTables.RowPages.TablePages.{made_of_rows, last_of_rows}
use Rattle.table_store.proofs.paged_tables.row_pages.table.Table.put.Goals as goal

pub place_of_row-place-requires : goal.place_of_row-place-requires
place_of_row-place-requires c =
    row_fails_on c.key_places-places.result.now [] c.as_slice.result.now (rows_of c.self.inside.rows (flat c.self.inside.order.pages)) (rw c.key_places-places.ensures c.self.invariant.listed.ascends)

held_after : (old new : Rows) (other : ℕ) (indexes : List KeyIndex) → slab_len new ≡ slab_len old + 1 → new.capacity ≡ old.capacity → 0 < room_in indexes (min (old.capacity - slab_len old) other) → slab_len new ≤ new.capacity
held_after old new other indexes more capacity room = let some = least (min (old.capacity - slab_len old) other) indexes in omega (arith, more, capacity, room, some)

pub insert_reserved-entry-requires : goal.insert_reserved-entry-requires
insert_reserved-entry-requires c =
    let room = rw (← c.self.view_is) at c.requires.room in
    let some = least (min (c.self.inside.rows.capacity - slab_len c.self.inside.rows) c.self.inside.order.spare) c.self.inside.indexes.items in
    omega (arith, room, some)

pub insert-requires-clause-room : goal.insert-requires-clause-room
insert-requires-clause-room c =
    let room = rw (← c.self.view_is) at c.requires.room in
    let some = least (min (c.self.inside.rows.capacity - slab_len c.self.inside.rows) c.self.inside.order.spare) c.self.inside.indexes.items in
    omega (arith, room, some)

pub add_all-requires : goal.add_all-requires
add_all-requires c =
    rw c.key_places-places.ensures
    (ready_all (key_places c.self.inside.schema) c.self.inside.rows c.insert_reserved-entry.new.self (flat c.self.inside.order.pages) c.insert_reserved-entry.result c.args.row _ c.self.inside.indexes.items c.self.invariant.indexed
    c.insert_reserved-entry.ensures.updates c.insert_reserved-entry.ensures.was_vacant (rw (← c.self.view_is) at c.requires.room))

pub invariant_of-self : goal.invariant_of-self
invariant_of-self c =
    let places = key_places c.self.inside.schema in
    let entries = flat c.self.inside.order.pages in
    let place = rw (c.key_places-places.ensures, c.as_slice.ensures) at c.place_of_row-place.ensures.place in
    let fresh = new_is places c.args.row (rows_of c.self.inside.rows entries) (rw (← c.self.view_is) at c.requires.new_key) in
    record {
      listed =
          listed_put places [] c.self.inside.rows c.insert_reserved-entry.new.self entries (flat c.insert.new.self.pages) c.insert_reserved-entry.result c.args.row c.self.invariant.listed fresh c.insert_reserved-entry.ensures.updates
          c.insert_reserved-entry.ensures.was_vacant c.insert_reserved-entry.ensures.len (c.insert.ensures.entries ∙ ap (λ (k : ℕ). insert entries k c.insert_reserved-entry.result) place);
      held = held_after c.self.inside.rows c.insert_reserved-entry.new.self _ c.self.inside.indexes.items c.insert_reserved-entry.ensures.len c.insert_reserved-entry.ensures.capacity (rw (← c.self.view_is) at c.requires.room);
      indexed =
          indexed_put places c.self.inside.rows c.insert_reserved-entry.new.self entries (flat c.insert.new.self.pages) c.insert_reserved-entry.result _ c.args.row fresh c.insert_reserved-entry.ensures.updates c.insert_reserved-entry.ensures.was_vacant
          c.insert_reserved-entry.ensures.len (c.insert.ensures.entries ∙ ap (λ (k : ℕ). insert entries k c.insert_reserved-entry.result) place) c.self.inside.indexes.items c.add_all.new.indexes.items c.self.invariant.indexed
          (rw c.key_places-places.ensures at c.add_all.ensures);
      keyed = λ some. keys_zip (IsAdded c.insert_reserved-entry.new.self places c.insert_reserved-entry.result) (λ old new added. added.places) c.self.inside.indexes.items c.add_all.new.indexes.items (rw c.key_places-places.ensures at c.add_all.ensures) ∙ c.self.invariant.keyed (subst (λ (n : ℕ). 0 < n) c.insert_reserved-entry.ensures.capacity some);
    }

pub returns-clause-rows : goal.returns-clause-rows
returns-clause-rows c =
    let entries = flat c.self.inside.order.pages in
    let place = rw (c.key_places-places.ensures, c.as_slice.ensures) at c.place_of_row-place.ensures.place in
    rw (← c.self.view_is, c.insert.ensures.entries, place)
    (rows_put c.self.inside.rows c.insert_reserved-entry.new.self c.insert_reserved-entry.result c.args.row entries _ c.insert_reserved-entry.ensures.updates c.self.invariant.listed.stored c.insert_reserved-entry.ensures.was_vacant
    ∙ put_is (key_places c.self.inside.schema) c.args.row (rows_of c.self.inside.rows entries))

pub returns-clause-pages : goal.returns-clause-pages
returns-clause-pages c =
    let places = key_places c.self.inside.schema in
    let pages = c.self.inside.order.pages in
    let row_pages = map (rows_of c.self.inside.rows) pages in
    let page = rw (c.key_places-places.ensures, c.as_slice.ensures) at c.place_of_row-place.ensures.page in
    rw (← c.self.view_is)
    (length-map c.insert.new.self.pages (rows_of c.insert_reserved-entry.new.self) ∙ c.insert.ensures.pages
    ∙ ap (λ (n : ℕ). n + pages_made pages c.place_of_row-place.result.page) (sym (length-map pages (rows_of c.self.inside.rows)))
    ∙ ap (λ (n : ℕ). length row_pages + n) (sym (made_of_rows (row_of c.self.inside.rows) c.place_of_row-place.result.page pages))
    ∙ ap (λ (n : ℕ). length row_pages + pages_made row_pages n) (page ∙ last_of_rows places c.args.row row_pages))

one_less : (capacity old new capacity' a a' : ℕ) → new ≡ old + 1 → capacity' ≡ capacity → a' + 1 ≡ a → 0 < min (capacity - old) a → min (capacity' - new) a' + 1 ≡ min (capacity - old) a
one_less capacity old new capacity' a a' more same less some = omega (arith, more, same, less, some)

pub returns-clause-spare : goal.returns-clause-spare
returns-clause-spare c =
    let places = key_places c.self.inside.schema in
    let room = rw (← c.self.view_is) at c.requires.room in
    let some = least (min (c.self.inside.rows.capacity - slab_len c.self.inside.rows) c.self.inside.order.spare) c.self.inside.indexes.items in
    rw (← c.self.view_is)
    (room_less c.insert_reserved-entry.new.self places c.insert_reserved-entry.result _ _ c.self.inside.indexes.items c.add_all.new.indexes.items (rw c.key_places-places.ensures at c.add_all.ensures)
    (one_less c.self.inside.rows.capacity _ _ _ _ _ c.insert_reserved-entry.ensures.len c.insert_reserved-entry.ensures.capacity c.insert.ensures.spare (omega (arith, room, some))))
