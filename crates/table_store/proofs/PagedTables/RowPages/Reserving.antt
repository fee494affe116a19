-- A table after room is made, step by step.
use Rattle.std.proofs.Common.{◌≡◌, ◌∙◌, ℕ, zero, suc, ◌+◌, ◌-◌, ◌<◌, ◌≤◌, List, [], ◌∷◌, length, min, refl, arith, le_trans}
use Rattle.std.specs.List.{AllByRecursion, AllZip}
use Rattle.std.proofs.lemmas.List.{nil_from_length}
use Rattle.slab.specs.Slab.{slab_len}
use Rattle.base_values.specs.declared.gho_schema.schema.Schema.{Schema}
use Rattle.base_values.specs.GhoSchema.Rows.{key_places}
use Rattle.table_store.specs.PagedTables.RowPages.Indexes.{other_keys, keys_of, room_in, IsIndexed, IsSame, IsWide, IsEmptyIndex}
use Rattle.table_store.specs.PagedTables.RowPages.StoredRows.{IsStored}
use Rattle.table_store.specs.declared.paged_tables.row_pages.indexes.KeyIndex.{KeyIndex}
use Rattle.table_store.proofs.PagedTables.RowPages.RowPlaces.{Rows}
use Rattle.table_store.proofs.PagedTables.RowPages.Indexing.{indexed_same, indexed_empty, keys_zip, room_kept, room_wide}

pub least : (room : ℕ) (indexes : List KeyIndex) → room_in indexes room ≤ room
least room [] = omega arith
least room (index ∷ indexes) = let others = least room indexes in omega (arith, others)

-- The indexes are made where there are none yet.
pub record IsPrepared (schema : Schema) (slab : Rows) (order : List ℕ) (olds news : List KeyIndex) (room : ℕ) : Type 0 where
  pub stored : IsStored schema slab order news
  pub keys : keys_of news ≡ other_keys schema
  pub roomier : room_in olds (min (slab.capacity - slab_len slab) room) ≤ room_in news (min (slab.capacity - slab_len slab) room)

prepared_by : (schema : Schema) (slab : Rows) (order : List ℕ) (olds news : List KeyIndex) (room n : ℕ) → slab.capacity ≡ n → IsStored schema slab order olds → (0 < slab.capacity → news ≡ olds) → (slab.capacity ≡ 0 → keys_of news ≡ other_keys schema)
    → (slab.capacity ≡ 0 → AllByRecursion IsEmptyIndex news) → IsPrepared schema slab order olds news room
prepared_by schema slab order olds news room zero is stored kept keys empty =
    let held = stored.held in
    let counted = stored.listed.counted in
    let none : slab_len slab ≡ 0 = omega (arith, held, is) in
    let no_order : order ≡ [] = nil_from_length order (omega (arith, counted, none)) in
    let few = least (min (slab.capacity - slab_len slab) room) olds in
    record {
      stored = record {
        listed = stored.listed;
        held = stored.held;
        indexed = indexed_empty (key_places schema) slab order news no_order none (empty is);
        keyed = λ some. keys is;
      };
      keys = keys is;
      roomier = omega (arith, few, is);
    }
prepared_by schema slab order olds news room (suc n) is stored kept keys empty =
    let some : 0 < slab.capacity = omega (arith, is) in
    let same : news ≡ olds = kept some in
    rw same
    record {
      stored = stored;
      keys = stored.keyed some;
      roomier = omega arith;
    }

pub prepared : (schema : Schema) (slab : Rows) (order : List ℕ) (olds news : List KeyIndex) (room : ℕ) → IsStored schema slab order olds → (0 < slab.capacity → news ≡ olds) → (slab.capacity ≡ 0 → keys_of news ≡ other_keys schema) → (slab.capacity ≡ 0 → AllByRecursion IsEmptyIndex news)
    → IsPrepared schema slab order olds news room
prepared schema slab order olds news room stored kept keys empty = prepared_by schema slab order olds news room slab.capacity refl stored kept keys empty

-- The indexes have more room.
pub widened : (schema : Schema) (slab : Rows) (order : List ℕ) (olds news : List KeyIndex) → IsStored schema slab order olds → AllZip IsSame olds news → IsStored schema slab order news
widened schema slab order olds news stored zip = record {
  listed = stored.listed;
  held = stored.held;
  indexed = indexed_same (key_places schema) slab order olds news stored.indexed zip;
  keyed = λ some. keys_zip IsSame (λ old new same. same.places) olds news zip ∙ stored.keyed some;
}

-- The slab has more room.
roomy_all : (clustered : List ℕ) (old : Rows) (capacity : ℕ) (order : List ℕ) (indexes : List KeyIndex) → AllByRecursion (IsIndexed clustered old order) indexes → AllByRecursion (IsIndexed clustered (record old { capacity = capacity }) order) indexes
roomy_all clustered old capacity order [] all = tt
roomy_all clustered old capacity order (index ∷ indexes) all = (
  record {
    listed = record { stored = all.0.listed.stored; ascends = all.0.listed.ascends; counted = all.0.listed.counted };
    there = all.0.there;
    here = all.0.here;
  },
  roomy_all clustered old capacity order indexes all.1,
)

pub roomy : (schema : Schema) (old new : Rows) (order : List ℕ) (indexes : List KeyIndex) → IsStored schema old order indexes → keys_of indexes ≡ other_keys schema → new ≡ record old { capacity = new.capacity } → old.capacity ≤ new.capacity → IsStored schema new order indexes
roomy schema old new order indexes stored keys same more =
    let held : slab_len old ≤ new.capacity = let before = stored.held in omega (arith, before, more) in
    rw same
    record {
      listed = record { stored = stored.listed.stored; ascends = stored.listed.ascends; counted = stored.listed.counted };
      held = held;
      indexed = roomy_all (key_places schema) old new.capacity order indexes stored.indexed;
      keyed = λ some. keys;
    }

-- the room doesn't fall
pub no_less : (schema : Schema) (old new : Rows) (order : List ℕ) (olds mids news : List KeyIndex) (room room' : ℕ) → IsPrepared schema old order olds mids room → AllZip IsSame mids news → old.capacity ≤ new.capacity → slab_len new ≡ slab_len old → room ≤ room'
    → room_in olds (min (old.capacity - slab_len old) room) ≤ room_in news (min (new.capacity - slab_len new) room')
no_less schema old new order olds mids news room room' prepared zip wider same roomier =
    let more : min (old.capacity - slab_len old) room ≤ min (new.capacity - slab_len new) room' = omega (arith, wider, same, roomier) in
    le_trans prepared.roomier (room_kept (min (new.capacity - slab_len new) room') (min (old.capacity - slab_len old) room) mids news zip more)

-- there is room for so many more
pub enough : (schema : Schema) (old new : Rows) (order : List ℕ) (olds mids news : List KeyIndex) (room room' n total : ℕ) → IsPrepared schema old order olds mids room → AllZip (IsWide total) mids news → total ≡ slab_len old + n → slab_len new ≡ slab_len old → total ≤ length order + room'
    → slab_len new + n ≤ new.capacity → n ≤ room_in news (min (new.capacity - slab_len new) room')
enough schema old new order olds mids news room room' n total prepared zip total_is same wide fits =
    let counted = prepared.stored.listed.counted in
    let some : n ≤ min (new.capacity - slab_len new) room' = omega (arith, total_is, same, wide, fits, counted) in
    room_wide (key_places schema) old order total (min (new.capacity - slab_len new) room') n mids news prepared.stored.indexed zip total_is some

pub keys_kept : (schema : Schema) (mids news : List KeyIndex) → keys_of mids ≡ other_keys schema → AllZip IsSame mids news → keys_of news ≡ other_keys schema
keys_kept schema mids news keys zip = keys_zip IsSame (λ old new same. same.places) mids news zip ∙ keys
