-- The indexes after a put, after a removal, and after room is made.
use Rattle.std.proofs.Common.{◌≡◌, ◌∙◌, ℕ, ◌+◌, ◌<◌, ◌≤◌, false, List, [], ◌∷◌, length, insert, remove, Option, Some, None, unwrap_or, refl, sym, ap, subst, arith}
use Rattle.std.specs.List.{AllByRecursion, AllZip, slice_get}
use Rattle.slab.specs.Slab.{get, slab_len, Updates}
use Rattle.base_page_list.specs.Pages.{flat}
use Rattle.table_store.proofs.Orders.{Row}
use Rattle.base_page_list.specs.Orders.{Ascending, Has, is_tied}
use Rattle.table_store.specs.PagedTables.RowPages.RowOrders.{row_of, rows_of, compare_by, place_by, IsNew, IsListed}
use Rattle.table_store.specs.PagedTables.RowPages.Indexes.{keys_of, room_in, IsOwnListed, IsIndexed, IsReady, IsAdded, IsHolding, IsTaken, IsSame, IsWide, IsEmptyIndex}
use Rattle.table_store.specs.declared.paged_tables.row_pages.indexes.KeyIndex.{KeyIndex}
use Rattle.table_store.proofs.PagedTables.RowPages.Zipped.{weaker_by}
use Rattle.base_page_list.proofs.Ascending.{has_cases, has_fewer, has_other, has_at}
use Rattle.table_store.proofs.PagedTables.RowPages.RowPlaces.{Rows, rows_kept, new_all, rows_all, all_rows, moved, put_same, listed_put, listed_remove, gone, again}

pub own_all : (clustered : List ℕ) (slab : Rows) (order : List ℕ) (indexes : List KeyIndex) → AllByRecursion (IsIndexed clustered slab order) indexes → AllByRecursion (IsOwnListed clustered slab) indexes
own_all clustered slab order [] all = tt
own_all clustered slab order (index ∷ indexes) all = (all.0.listed, own_all clustered slab order indexes all.1)

-- Keys.
pub keys_zip : (R : KeyIndex → KeyIndex → Type 0) → ((old new : KeyIndex) → R old new → new.places ≡ old.places) → (olds news : List KeyIndex) → AllZip R olds news → keys_of news ≡ keys_of olds
keys_zip R same [] [] zip = refl
keys_zip R same [] (new ∷ news) zip = absurd zip
keys_zip R same (old ∷ olds) [] zip = absurd zip
keys_zip R same (old ∷ olds) (new ∷ news) zip =
    let here : new.places ≡ old.places = same old new zip.0 in
    let others : keys_of news ≡ keys_of olds = keys_zip R same olds news zip.1 in
    ap (λ (places : List ℕ). places ∷ keys_of news) here ∙ ap (λ (keys : List (List ℕ)). old.places ∷ keys) others

-- Room.
pub room_less : (slab : Rows) (clustered : List ℕ) (entry m n : ℕ) (olds news : List KeyIndex) → AllZip (IsAdded slab clustered entry) olds news → m + 1 ≡ n → room_in news m + 1 ≡ room_in olds n
room_less slab clustered entry m n [] [] zip less = less
room_less slab clustered entry m n [] (new ∷ news) zip less = absurd zip
room_less slab clustered entry m n (old ∷ olds) [] zip less = absurd zip
room_less slab clustered entry m n (old ∷ olds) (new ∷ news) zip less =
    let here = zip.0.spare in
    let others = room_less slab clustered entry m n olds news zip.1 less in
    omega (arith, here, others)

pub room_more : (slab : Rows) (clustered : List ℕ) (entry m n : ℕ) (olds news : List KeyIndex) → AllZip (IsTaken slab clustered entry) olds news → m ≡ n + 1 → room_in news m ≡ room_in olds n + 1
room_more slab clustered entry m n [] [] zip more = more
room_more slab clustered entry m n [] (new ∷ news) zip more = absurd zip
room_more slab clustered entry m n (old ∷ olds) [] zip more = absurd zip
room_more slab clustered entry m n (old ∷ olds) (new ∷ news) zip more =
    let here = zip.0.spare in
    let others = room_more slab clustered entry m n olds news zip.1 more in
    omega (arith, here, others)

pub room_kept : (m n : ℕ) (olds news : List KeyIndex) → AllZip IsSame olds news → n ≤ m → room_in olds n ≤ room_in news m
room_kept m n [] [] zip le = le
room_kept m n [] (new ∷ news) zip le = absurd zip
room_kept m n (old ∷ olds) [] zip le = absurd zip
room_kept m n (old ∷ olds) (new ∷ news) zip le =
    let here = zip.0.spare in
    let others = room_kept m n olds news zip.1 le in
    omega (arith, here, others)

pub room_wide : (clustered : List ℕ) (slab : Rows) (order : List ℕ) (total m n : ℕ) (olds news : List KeyIndex) → AllByRecursion (IsIndexed clustered slab order) olds → AllZip (IsWide total) olds news → total ≡ slab_len slab + n → n ≤ m → n ≤ room_in news m
room_wide clustered slab order total m n [] [] all zip is le = le
room_wide clustered slab order total m n [] (new ∷ news) all zip is le = absurd zip
room_wide clustered slab order total m n (old ∷ olds) [] all zip is le = absurd zip
room_wide clustered slab order total m n (old ∷ olds) (new ∷ news) all zip is le =
    let wide = zip.0.wide in
    let size : length (flat new.entries.pages) ≡ slab_len slab = ap (λ (pages : List (List ℕ)). length (flat pages)) zip.0.same.pages ∙ all.0.listed.counted in
    let others = room_wide clustered slab order total m n olds news all.1 zip.1 is le in
    omega (arith, wide, size, others, is)

pub wide_same : (total : ℕ) (olds news : List KeyIndex) → AllZip (IsWide total) olds news → AllZip IsSame olds news
wide_same total olds news zip = weaker_by (IsWide total) IsSame (λ old new wide. wide.same) olds news zip

pub same_self : (index : KeyIndex) → IsSame index index
same_self index = record { places = refl; pages = refl; spare = omega arith }

-- Indexes that are as they were.
index_same : (clustered : List ℕ) (slab : Rows) (order : List ℕ) (old new : KeyIndex) → IsIndexed clustered slab order old → IsSame old new → IsIndexed clustered slab order new
index_same clustered slab order old new is same =
    let entries : flat new.entries.pages ≡ flat old.entries.pages = ap flat same.pages in
    record {
      listed = subst (λ (places : List ℕ). IsListed places clustered slab (flat new.entries.pages)) (sym same.places) (subst (λ (es : List ℕ). IsListed old.places clustered slab es) (sym entries) is.listed);
      there = λ e has. subst (λ (es : List ℕ). Has es e) (sym entries) (is.there e has);
      here = λ e has. is.here e (subst (λ (es : List ℕ). Has es e) entries has);
    }

pub indexed_same : (clustered : List ℕ) (slab : Rows) (order : List ℕ) (olds news : List KeyIndex) → AllByRecursion (IsIndexed clustered slab order) olds → AllZip IsSame olds news → AllByRecursion (IsIndexed clustered slab order) news
indexed_same clustered slab order [] [] all zip = tt
indexed_same clustered slab order [] (new ∷ news) all zip = absurd zip
indexed_same clustered slab order (old ∷ olds) [] all zip = absurd zip
indexed_same clustered slab order (old ∷ olds) (new ∷ news) all zip = (index_same clustered slab order old new all.0 zip.0, indexed_same clustered slab order olds news all.1 zip.1)

-- Indexes before there is a row.
pub indexed_empty : (clustered : List ℕ) (slab : Rows) (order : List ℕ) (indexes : List KeyIndex) → order ≡ [] → slab_len slab ≡ 0 → AllByRecursion IsEmptyIndex indexes → AllByRecursion (IsIndexed clustered slab order) indexes
indexed_empty clustered slab order [] none no_rows all = tt
indexed_empty clustered slab order (index ∷ indexes) none no_rows all =
    let entries : flat index.entries.pages ≡ [] = ap flat all.0 in (
      record {
        listed = subst (λ (es : List ℕ). IsListed index.places clustered slab es) (sym entries) (record { stored = tt; ascends = tt; counted = sym no_rows });
        there = λ e has. absurd (subst (λ (es : List ℕ). Has es e) none has);
        here = λ e has. absurd (subst (λ (es : List ℕ). Has es e) entries has);
      },
      indexed_empty clustered slab order indexes none no_rows all.1,
    )

-- A put.
pub ready_all : (clustered : List ℕ) (old new : Rows) (order : List ℕ) (entry : ℕ) (row : Row) (room : ℕ) (indexes : List KeyIndex) → AllByRecursion (IsIndexed clustered old order) indexes → Updates old new entry (Some row) → get old entry ≡ None → 0 < room_in indexes room
    → AllByRecursion (IsReady new clustered) indexes
ready_all clustered old new order entry row room [] all updates none some = tt
ready_all clustered old new order entry row room (index ∷ indexes) all updates none some = (
  record {
    ascends = subst (Ascending (compare_by index.places clustered)) (sym (rows_kept old new entry row (flat index.entries.pages) updates all.0.listed.stored none)) all.0.listed.ascends;
    room = omega (arith, some);
  },
  ready_all clustered old new order entry row room indexes all.1 updates none (omega (arith, some)),
)

index_put : (clustered : List ℕ) (old new : Rows) (order order' : List ℕ) (entry k : ℕ) (row : Row) → IsNew clustered row (rows_of old order) → Updates old new entry (Some row) → get old entry ≡ None → slab_len new ≡ slab_len old + 1 → order' ≡ insert order k entry
    → (o n : KeyIndex) → IsIndexed clustered old order o → IsAdded new clustered entry o n → IsIndexed clustered new order' n
index_put clustered old new order order' entry k row fresh updates none more order_is o n is added =
    let entries = flat o.entries.pages in
    let j = place_by o.places clustered row (rows_of old entries) in
    let same_rows = rows_kept old new entry row entries updates is.listed.stored none in
    let row_is : row_of new entry ≡ row = ap (λ (s : Option Row). unwrap_or s []) updates.changed in
    let others : flat n.entries.pages ≡ insert entries j entry =
    added.entries ∙ ap (λ (r : Row). insert entries (place_by o.places clustered r (rows_of new entries)) entry) row_is ∙ ap (λ (rs : List Row). insert entries (place_by o.places clustered row rs) entry) same_rows
    in
    let fresh_here : AllByRecursion (λ r. is_tied (compare_by o.places clustered row r) ≡ false) (rows_of old entries) =
    new_all clustered o.places row (rows_of old entries)
    (rows_all (λ (r : Row). is_tied (compare_by clustered [] row r) ≡ false) old entries
    (moved (λ e. is_tied (compare_by clustered [] row (row_of old e)) ≡ false) order entries is.here (all_rows (λ (r : Row). is_tied (compare_by clustered [] row r) ≡ false) old order fresh)))
    in
    record {
      listed = subst (λ (places : List ℕ). IsListed places clustered new (flat n.entries.pages)) (sym added.places) (listed_put o.places clustered old new entries (flat n.entries.pages) entry row is.listed fresh_here updates none more others);
      there = λ e has. subst (λ (es : List ℕ). Has es e) (sym others) (put_same k j entry e order entries (is.there e) (has_cases k entry e order (subst (λ (es : List ℕ). Has es e) order_is has)));
      here = λ e has. subst (λ (es : List ℕ). Has es e) (sym order_is) (put_same j k entry e entries order (is.here e) (has_cases j entry e entries (subst (λ (es : List ℕ). Has es e) others has)));
    }

pub indexed_put : (clustered : List ℕ) (old new : Rows) (order order' : List ℕ) (entry k : ℕ) (row : Row) → IsNew clustered row (rows_of old order) → Updates old new entry (Some row) → get old entry ≡ None → slab_len new ≡ slab_len old + 1 → order' ≡ insert order k entry
    → (olds news : List KeyIndex) → AllByRecursion (IsIndexed clustered old order) olds → AllZip (IsAdded new clustered entry) olds news → AllByRecursion (IsIndexed clustered new order') news
indexed_put clustered old new order order' entry k row fresh updates none more order_is [] [] all zip = tt
indexed_put clustered old new order order' entry k row fresh updates none more order_is [] (n ∷ news) all zip = absurd zip
indexed_put clustered old new order order' entry k row fresh updates none more order_is (o ∷ olds) [] all zip = absurd zip
indexed_put clustered old new order order' entry k row fresh updates none more order_is (o ∷ olds) (n ∷ news) all zip =
    (index_put clustered old new order order' entry k row fresh updates none more order_is o n all.0 zip.0, indexed_put clustered old new order order' entry k row fresh updates none more order_is olds news all.1 zip.1)

-- A removal.
pub holding_all : (clustered : List ℕ) (slab : Rows) (order : List ℕ) (entry : ℕ) (indexes : List KeyIndex) → AllByRecursion (IsIndexed clustered slab order) indexes → Has order entry → AllByRecursion (IsHolding slab clustered entry) indexes
holding_all clustered slab order entry [] all has = tt
holding_all clustered slab order entry (index ∷ indexes) all has = (record { ascends = all.0.listed.ascends; has = all.0.there entry has }, holding_all clustered slab order entry indexes all.1 has)

index_remove : (clustered : List ℕ) (old new : Rows) (order order' : List ℕ) (entry k : ℕ) → Ascending (compare_by clustered []) (rows_of old order) → Updates old new entry None → slab_len new + 1 ≡ slab_len old → slice_get order k ≡ Some entry → order' ≡ remove order k
    → (o n : KeyIndex) → IsIndexed clustered old order o → IsTaken old clustered entry o n → IsIndexed clustered new order' n
index_remove clustered old new order order' entry k asc updates fewer at order_is o n is taken =
    let entries = flat o.entries.pages in
    let j = place_by o.places clustered (row_of old entry) (rows_of old entries) in
    let at_other = again o.places clustered old entries entry is.listed.ascends (is.there entry (has_at k entry order at)) in
    let not_there = gone clustered [] old k entry order asc at in
    let not_others = gone o.places clustered old j entry entries is.listed.ascends at_other in
    record {
      listed = subst (λ (places : List ℕ). IsListed places clustered new (flat n.entries.pages)) (sym taken.places) (listed_remove o.places clustered old new entries (flat n.entries.pages) entry j is.listed updates fewer at_other taken.entries);
      there = λ e has.
          let before = subst (λ (es : List ℕ). Has es e) order_is has in
          subst (λ (es : List ℕ). Has es e) (sym taken.entries) (has_other j entry e entries at_other (λ same. not_there (subst (λ (m : ℕ). Has (remove order k) m) (sym same) before)) (is.there e (has_fewer k e order before)));
      here = λ e has.
          let before = subst (λ (es : List ℕ). Has es e) taken.entries has in
          subst (λ (es : List ℕ). Has es e) (sym order_is) (has_other k entry e order at (λ same. not_others (subst (λ (m : ℕ). Has (remove entries j) m) (sym same) before)) (is.here e (has_fewer j e entries before)));
    }

pub indexed_remove : (clustered : List ℕ) (old new : Rows) (order order' : List ℕ) (entry k : ℕ) → Ascending (compare_by clustered []) (rows_of old order) → Updates old new entry None → slab_len new + 1 ≡ slab_len old → slice_get order k ≡ Some entry → order' ≡ remove order k
    → (olds news : List KeyIndex) → AllByRecursion (IsIndexed clustered old order) olds → AllZip (IsTaken old clustered entry) olds news → AllByRecursion (IsIndexed clustered new order') news
indexed_remove clustered old new order order' entry k asc updates fewer at order_is [] [] all zip = tt
indexed_remove clustered old new order order' entry k asc updates fewer at order_is [] (n ∷ news) all zip = absurd zip
indexed_remove clustered old new order order' entry k asc updates fewer at order_is (o ∷ olds) [] all zip = absurd zip
indexed_remove clustered old new order order' entry k asc updates fewer at order_is (o ∷ olds) (n ∷ news) all zip =
    (index_remove clustered old new order order' entry k asc updates fewer at order_is o n all.0 zip.0, indexed_remove clustered old new order order' entry k asc updates fewer at order_is olds news all.1 zip.1)
