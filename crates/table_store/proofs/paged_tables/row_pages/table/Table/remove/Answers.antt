use Rattle.std.proofs.Common.{◌≡◌, ◌∙◌, ◌+◌, ◌-◌, ◌≤◌, ◌<◌, ℕ, Option, None, IsSome, is_some, true, min, [], sym, subst, arith}
use Rattle.slab.specs.Slab.{get, slab_len}
use Rattle.base_values.specs.GhoSchema.Rows.{key_places}
use Rattle.base_page_list.specs.Pages.{flat}
use Rattle.table_store.proofs.Orders.{Row}
use Rattle.table_store.specs.RowLists.{is_at}
use Rattle.table_store.specs.PagedTables.RowPages.RowOrders.{rows_of, row_of}
use Rattle.table_store.specs.PagedTables.RowPages.Indexes.{IsTaken}
use Rattle.table_store.proofs.PagedTables.RowPages.Indexing.{holding_all, indexed_remove, keys_zip, room_more}
use Rattle.base_page_list.proofs.Ascending.{has_all, has_at}
use Rattle.table_store.proofs.PagedTables.RowPages.RowPlaces.{row_at, rows_removed, listed_remove, removed_is, none_left, some_row, on_some}
use Rattle.table_store.proofs.paged_tables.row_pages.table.Table.remove.Goals as goal

pub returns-in_default-clause-rows : goal.returns-in_default-clause-rows
returns-in_default-clause-rows c =
    let none = rw (c.key_places-places.ensures, c.as_slice.ensures) at c.in_default.ensures in
    rw (← c.self.view_is) (sym (none_left (is_at (key_places c.self.inside.schema) c.args.key.now) (rows_of c.self.inside.rows (flat c.self.inside.order.pages)) none))

held_before : (old new capacity capacity' : ℕ) → new + 1 ≡ old → capacity' ≡ capacity → old ≤ capacity → new ≤ capacity'
held_before old new capacity capacity' fewer same held = omega (arith, fewer, same, held)

pub take_all-requires : goal.take_all-requires
take_all-requires c =
    let entries = flat c.self.inside.order.pages in
    rw c.key_places-places.ensures (holding_all (key_places c.self.inside.schema) c.self.inside.rows entries c.in-Some.entry c.self.inside.indexes.items c.self.invariant.indexed (has_at _ c.in-Some.entry entries c.in-Some.ensures.entry_is))

pub invariant_of-self : goal.invariant_of-self
invariant_of-self c =
    let places = key_places c.self.inside.schema in
    let entries = flat c.self.inside.order.pages in
    let has = has_at _ c.in-Some.entry entries c.in-Some.ensures.entry_is in
    let some = has_all (λ e. IsSome (get c.self.inside.rows e)) c.in-Some.entry entries c.self.invariant.listed.stored has in
    let given : IsSome c.try_remove.result = subst (λ (s : Option Row). IsSome s) (sym c.try_remove.ensures.value) some in
    let fewer = on_some c.try_remove.result (slab_len c.try_remove.new.self + 1 ≡ slab_len c.self.inside.rows) given c.try_remove.ensures.len in
    record {
      listed = listed_remove places [] c.self.inside.rows c.try_remove.new.self entries (flat c.remove.new.self.pages) c.in-Some.entry _ c.self.invariant.listed c.try_remove.ensures.updates fewer c.in-Some.ensures.entry_is c.remove.ensures.entries;
      held = held_before _ _ _ _ fewer c.try_remove.ensures.capacity c.self.invariant.held;
      indexed =
          indexed_remove places c.self.inside.rows c.try_remove.new.self entries (flat c.remove.new.self.pages) c.in-Some.entry _ c.self.invariant.listed.ascends c.try_remove.ensures.updates fewer c.in-Some.ensures.entry_is c.remove.ensures.entries
          c.self.inside.indexes.items c.take_all.new.indexes.items c.self.invariant.indexed (rw c.key_places-places.ensures at c.take_all.ensures);
      keyed = λ room. keys_zip (IsTaken c.self.inside.rows places c.in-Some.entry) (λ old new taken. taken.places) c.self.inside.indexes.items c.take_all.new.indexes.items (rw c.key_places-places.ensures at c.take_all.ensures) ∙ c.self.invariant.keyed (subst (λ (n : ℕ). 0 < n) c.try_remove.ensures.capacity room);
    }

pub returns-clause-row : goal.returns-clause-row
returns-clause-row c =
    let entries = flat c.self.inside.order.pages in
    let has = has_at _ c.in-Some.entry entries c.in-Some.ensures.entry_is in
    let some = has_all (λ e. IsSome (get c.self.inside.rows e)) c.in-Some.entry entries c.self.invariant.listed.stored has in
    let found = rw (c.key_places-places.ensures, c.as_slice.ensures) at c.in-Some.ensures.row_is in
    rw (← c.self.view_is) (c.try_remove.ensures.value ∙ some_row c.self.inside.rows c.in-Some.entry some ∙ sym found)

pub returns-clause-rows : goal.returns-clause-rows
returns-clause-rows c =
    let places = key_places c.self.inside.schema in
    let entries = flat c.self.inside.order.pages in
    let has_key = rw (c.key_places-places.ensures, c.as_slice.ensures) at c.in-Some.ensures.has_key in
    let gone = rows_removed places [] c.self.inside.rows c.try_remove.new.self c.in-Some.entry None entries _ c.try_remove.ensures.updates c.self.invariant.listed.ascends c.in-Some.ensures.entry_is in
    let here = row_at c.self.inside.rows entries _ c.in-Some.entry c.in-Some.ensures.entry_is in
    rw (← c.self.view_is, c.remove.ensures.entries) (gone ∙ sym (removed_is places c.args.key.now (row_of c.self.inside.rows c.in-Some.entry) _ (rows_of c.self.inside.rows entries) c.self.invariant.listed.ascends here has_key))

more_room : (capacity old new a a' : ℕ) → new + 1 ≡ old → old ≤ capacity → a' ≡ a + 1 → min (capacity - new) a' ≡ min (capacity - old) a + 1
more_room capacity old new a a' fewer held more = omega (arith, fewer, held, more)

pub returns-clause-spare : goal.returns-clause-spare
returns-clause-spare c =
    let entries = flat c.self.inside.order.pages in
    let has = has_at _ c.in-Some.entry entries c.in-Some.ensures.entry_is in
    let some = has_all (λ e. IsSome (get c.self.inside.rows e)) c.in-Some.entry entries c.self.invariant.listed.stored has in
    let given : IsSome c.try_remove.result = subst (λ (s : Option Row). IsSome s) (sym c.try_remove.ensures.value) some in
    let fewer = on_some c.try_remove.result (slab_len c.try_remove.new.self + 1 ≡ slab_len c.self.inside.rows) given c.try_remove.ensures.len in
    let one : is_some c.try_remove.result ≡ true = given in
    rw (← c.self.view_is, one, c.try_remove.ensures.capacity)
    (room_more c.self.inside.rows (key_places c.self.inside.schema) c.in-Some.entry _ _ c.self.inside.indexes.items c.take_all.new.indexes.items (rw c.key_places-places.ensures at c.take_all.ensures)
    (more_room c.self.inside.rows.capacity _ _ _ _ fewer c.self.invariant.held c.remove.ensures.spare))
