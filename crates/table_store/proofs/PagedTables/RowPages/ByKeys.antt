-- The order of any unique key.
use Rattle.std.proofs.Common.{◌≡◌, inl, inr, ◌∙◌, ℕ, zero, suc, ◌-◌, ◌<◌, ◌≤◌, Bool, true, false, cond, List, [], ◌∷◌, ◌++◌, length, map, take, drop, filter, Option, Some, None, Ordering, Less, refl, sym, ap, subst, arith}
use Rattle.std.specs.List.{AllByRecursion, slice_get}
use Rattle.std.specs.Option.{option_map}
use Rattle.std.proofs.lemmas.Option.{slice_get-map}
use Rattle.slab.specs.Slab.{slab_len}
use Rattle.base_values.specs.declared.span.Span.{Span}
use Rattle.base_values.specs.Spans.{has}
use Rattle.base_values.specs.declared.gho_schema.schema.Schema.{Schema}
use Rattle.base_values.specs.declared.gho_schema.schema.Index.{Index}
use Rattle.base_values.specs.GhoSchema.ClusteredKey.{clustered_place, unique_at}
use Rattle.base_values.specs.GhoSchema.Rows.{key_of, key_places, places_of, places_at}
use Rattle.base_page_list.specs.Pages.{InPages, flat}
use Rattle.table_store.proofs.Orders.{Row}
use Rattle.base_page_list.specs.Orders.{Ascending, Has}
use Rattle.table_store.specs.PagedTables.RowPages.RowOrders.{row_of, rows_of, compare_by, IsListed}
use Rattle.table_store.specs.PagedTables.RowPages.Indexes.{all_but, other_keys, keys_of, IsIndexed}
use Rattle.table_store.specs.PagedTables.RowPages.ByKeys.{HasRow, AreInSpan, IsOrderOf}
use Rattle.table_store.specs.PagedTables.RowPages.StoredRows.{IsStored}
use Rattle.table_store.specs.declared.paged_tables.row_pages.indexes.KeyIndex.{KeyIndex}
use Rattle.base_page_list.proofs.Ascending.{all_at}
use Rattle.table_store.proofs.PagedTables.RowPages.RowPlaces.{Rows}
use Rattle.table_store.proofs.PagedTables.RowPages.TableClash.{listed_twice}

-- Among the keys but one, those before it stand where they stood, and those behind it one place before.
before_at : (c n : ℕ) (uniques : List Index) → n < c → slice_get (take c uniques ++ drop (suc c) uniques) n ≡ slice_get uniques n
before_at zero n uniques lt = absurd (omega arith)
before_at (suc c) n [] lt = refl
before_at (suc c) zero (unique ∷ uniques) lt = refl
before_at (suc c) (suc n) (unique ∷ uniques) lt = before_at c n uniques (omega arith)

after_at : (c m : ℕ) (uniques : List Index) → c ≤ m → slice_get (take c uniques ++ drop (suc c) uniques) m ≡ slice_get uniques (suc m)
after_at zero m [] le = refl
after_at zero m (unique ∷ uniques) le = refl
after_at (suc c) zero uniques le = absurd (omega arith)
after_at (suc c) (suc m) [] le = refl
after_at (suc c) (suc m) (unique ∷ uniques) le = after_at c m uniques (omega arith)

some_at : (uniques : List Index) (n : ℕ) → n < length uniques → (unique : Index) × (slice_get uniques n ≡ Some unique)
some_at [] n lt = absurd (omega arith)
some_at (unique ∷ uniques) zero lt = (unique, refl)
some_at (unique ∷ uniques) (suc n) lt = some_at uniques n (omega arith)

places_found : (found : Option Index) (unique : Index) → found ≡ Some unique → option_map (λ (u : Index). u.places) found ≡ Some (places_of found)
places_found (Some unique) other is = refl
places_found None other is = absurd (cc)

key_at : (schema : Schema) (others : List Index) (k n : ℕ) → n < length schema.uniques → slice_get others k ≡ slice_get schema.uniques n → slice_get (map (λ (u : Index). u.places) others) k ≡ Some (places_at schema n)
key_at schema others k n within is =
    let unique = some_at schema.uniques n within in
    slice_get-map (λ (u : Index). u.places) others k ∙ ap (option_map (λ (u : Index). u.places)) is ∙ places_found (slice_get schema.uniques n) unique.0 unique.1

pub key_alone : (schema : Schema) (n : ℕ) → clustered_place schema ≡ None → n < length schema.uniques → slice_get (other_keys schema) n ≡ Some (places_at schema n)
key_alone schema n none within =
    ap (λ (c : Option ℕ). slice_get (map (λ (u : Index). u.places) (all_but c schema.uniques)) n) none ∙ key_at schema schema.uniques n n within refl

pub key_before : (schema : Schema) (c n : ℕ) → clustered_place schema ≡ Some c → n < length schema.uniques → n < c → slice_get (other_keys schema) n ≡ Some (places_at schema n)
key_before schema c n is within lt =
    ap (λ (o : Option ℕ). slice_get (map (λ (u : Index). u.places) (all_but o schema.uniques)) n) is
    ∙ key_at schema (take c schema.uniques ++ drop (suc c) schema.uniques) n n within (before_at c n schema.uniques lt)

pub key_after : (schema : Schema) (c n : ℕ) → clustered_place schema ≡ Some c → n < length schema.uniques → c < n → slice_get (other_keys schema) (n - 1) ≡ Some (places_at schema n)
key_after schema c zero is within lt = absurd (omega arith)
key_after schema c (suc m) is within lt =
    let before : suc m - 1 ≡ m = omega arith in
    rw before
    (ap (λ (o : Option ℕ). slice_get (map (λ (u : Index). u.places) (all_but o schema.uniques)) m) is
    ∙ key_at schema (take c schema.uniques ++ drop (suc c) schema.uniques) m (suc m) within (after_at c m schema.uniques (omega arith)))

pub key_own : (schema : Schema) (n : ℕ) → clustered_place schema ≡ Some n → places_at schema n ≡ key_places schema
key_own schema n is = ap (λ (o : Option ℕ). places_of (unique_at schema.uniques o)) (sym is)

-- The clustered order is the order of its own key.
pub own_order : (places clustered : List ℕ) (slab : Rows) (entries : InPages) → IsListed clustered [] slab (flat entries.pages) → places ≡ clustered → IsOrderOf places clustered slab (flat entries.pages) entries
own_order places clustered slab entries is same =
    record { listed = subst (λ (ps : List ℕ). IsListed ps clustered slab (flat entries.pages)) (sym same) (listed_twice clustered slab (flat entries.pages) is); there = λ e has. has; here = λ e has. has }

-- Before there is a row each order is empty.
no_entry : (entries : List ℕ) → ((e : ℕ) → Has entries e → ⊥) → entries ≡ []
no_entry [] none = refl
no_entry (e ∷ entries) none = absurd (none e (inl refl))

empty_order : (places clustered : List ℕ) (slab : Rows) (entries : InPages) → slab_len slab ≡ 0 → flat entries.pages ≡ [] → IsOrderOf places clustered slab [] entries
empty_order places clustered slab entries none no_entries = record {
  listed = subst (λ (es : List ℕ). IsListed places clustered slab es) (sym no_entries) (record { stored = tt; ascends = tt; counted = sym none });
  there = λ e has. absurd has;
  here = λ e has. subst (λ (es : List ℕ). Has es e) no_entries has;
}

-- the index of a key
same_some : (a b : List ℕ) (o : Option (List ℕ)) → o ≡ Some a → o ≡ Some b → a ≡ b
same_some a b o one other = let is : Some a ≡ Some b = sym one ∙ other in cc

some_room : (clustered : List ℕ) (slab : Rows) (order : List ℕ) (e : ℕ) → IsListed clustered [] slab (e ∷ order) → slab_len slab ≤ slab.capacity → 0 < slab.capacity
some_room clustered slab order e is held = let counted = is.counted in omega (arith, counted, held)

pub index_order : (schema : Schema) (slab : Rows) (order : List ℕ) (indexes : List KeyIndex) (k : ℕ) (places : List ℕ) (index : KeyIndex) → IsStored schema slab order indexes → slice_get (other_keys schema) k ≡ Some places → slice_get indexes k ≡ Some index
    → IsOrderOf places (key_places schema) slab order index.entries
index_order schema slab [] indexes k places index stored key at =
    let is = all_at (IsIndexed (key_places schema) slab []) k index indexes stored.indexed at in
    empty_order places (key_places schema) slab index.entries (sym stored.listed.counted) (no_entry (flat index.entries.pages) (λ e has. is.here e has))
index_order schema slab (e ∷ order) indexes k places index stored key at =
    let is = all_at (IsIndexed (key_places schema) slab (e ∷ order)) k index indexes stored.indexed at in
    let keys = stored.keyed (some_room (key_places schema) slab order e stored.listed stored.held) in
    let own : slice_get (keys_of indexes) k ≡ Some index.places = slice_get-map (λ (i : KeyIndex). i.places) indexes k ∙ ap (option_map (λ (i : KeyIndex). i.places)) at in
    let same : index.places ≡ places = same_some index.places places (slice_get (keys_of indexes) k) own (ap (λ (ks : List (List ℕ)). slice_get ks k) keys ∙ key) in
    record { listed = subst (λ (ps : List ℕ). IsListed ps (key_places schema) slab (flat index.entries.pages)) same is.listed; there = is.there; here = is.here }

pub no_index : (schema : Schema) (slab : Rows) (order : List ℕ) (indexes : List KeyIndex) (k : ℕ) (places : List ℕ) (entries : InPages) → flat entries.pages ≡ order → IsStored schema slab order indexes → slice_get (other_keys schema) k ≡ Some places → slice_get indexes k ≡ None
    → IsOrderOf places (key_places schema) slab order entries
no_index schema slab [] indexes k places entries same stored key none = empty_order places (key_places schema) slab entries (sym stored.listed.counted) same
no_index schema slab (e ∷ order) indexes k places entries same stored key none =
    let keys = stored.keyed (some_room (key_places schema) slab order e stored.listed stored.held) in
    let own : slice_get (keys_of indexes) k ≡ None = slice_get-map (λ (i : KeyIndex). i.places) indexes k ∙ ap (option_map (λ (i : KeyIndex). i.places)) none in
    let wrong : None ≡ Some places = sym own ∙ ap (λ (ks : List (List ℕ)). slice_get ks k) keys ∙ key in
    absurd (cc)

-- Rows of a span.
module _ {X : Type 0} where
  kept : (P : X → Type 0) (b : Bool) (x : X) (xs : List X) → P x → AllByRecursion P xs → AllByRecursion P (cond b (x ∷ xs) xs)
  kept P true x xs p all = (p, all)
  kept P false x xs p all = all

  all_some : (P : X → Type 0) (test : X → Bool) (xs : List X) → AllByRecursion P xs → AllByRecursion P (filter test xs)
  all_some P test [] all = tt
  all_some P test (x ∷ xs) all = kept P (test x) x (filter test xs) all.0 (all_some P test xs all.1)

  some_first : (cmp : X → X → Ordering) (b : Bool) (x : X) (xs : List X) → AllByRecursion (λ y. cmp x y ≡ Less) xs → Ascending cmp xs → Ascending cmp (cond b (x ∷ xs) xs)
  some_first cmp true x xs less asc = (less, asc)
  some_first cmp false x xs less asc = asc

  pub ascending_some : (cmp : X → X → Ordering) (test : X → Bool) (xs : List X) → Ascending cmp xs → Ascending cmp (filter test xs)
  ascending_some cmp test [] asc = tt
  ascending_some cmp test (x ∷ xs) asc = some_first cmp (test x) x (filter test xs) (all_some (λ y. cmp x y ≡ Less) test xs asc.0) (ascending_some cmp test xs asc.1)

among_by : (test : Row → Bool) (b : Bool) (x y : Row) (xs some : List Row) → test x ≡ b → HasRow (cond b (x ∷ some) some) y → (HasRow some y → HasRow xs y × (test y ≡ true)) → HasRow (x ∷ xs) y × (test y ≡ true)
among_by test true x y xs some is (inl same) others = (inl same, subst (λ (z : Row). test z ≡ true) same is)
among_by test true x y xs some is (inr has) others = let rest = others has in (inr rest.0, rest.1)
among_by test false x y xs some is has others = let rest = others has in (inr rest.0, rest.1)

pub among_some : (test : Row → Bool) (y : Row) (xs : List Row) → HasRow (filter test xs) y → HasRow xs y × (test y ≡ true)
among_some test y [] has = absurd has
among_some test y (x ∷ xs) has = among_by test (test x) x y xs (filter test xs) refl has (λ rest. among_some test y xs rest)

some_by : (test : Row → Bool) (b : Bool) (x y : Row) (xs some : List Row) → test x ≡ b → HasRow (x ∷ xs) y → test y ≡ true → (HasRow xs y → HasRow some y) → HasRow (cond b (x ∷ some) some) y
some_by test true x y xs some is (inl same) passes others = inl same
some_by test true x y xs some is (inr has) passes others = inr (others has)
some_by test false x y xs some is (inl same) passes others = let fails : test y ≡ false = subst (λ (z : Row). test z ≡ false) same is in absurd (cc)
some_by test false x y xs some is (inr has) passes others = others has

pub some_among : (test : Row → Bool) (y : Row) (xs : List Row) → HasRow xs y → test y ≡ true → HasRow (filter test xs) y
some_among test y [] has passes = absurd has
some_among test y (x ∷ xs) has passes = some_by test (test x) x y xs (filter test xs) refl has passes (λ rest. some_among test y xs rest passes)

pub entry_of : (slab : Rows) (row : Row) (entries : List ℕ) → HasRow (rows_of slab entries) row → (e : ℕ) × (Has entries e) × (row_of slab e ≡ row)
entry_of slab row [] has = absurd has
entry_of slab row (e ∷ entries) (inl same) = (e, inl refl, same)
entry_of slab row (e ∷ entries) (inr has) = let rest = entry_of slab row entries has in (rest.0, inr rest.1, rest.2)

row_among : (slab : Rows) (e : ℕ) (entries : List ℕ) → Has entries e → HasRow (rows_of slab entries) (row_of slab e)
row_among slab e [] has = absurd has
row_among slab e (first ∷ entries) (inl same) = inl (ap (row_of slab) same)
row_among slab e (first ∷ entries) (inr has) = inr (row_among slab e entries has)

-- entries of one list that are entries of another have their rows there
pub rows_among : (slab : Rows) (row : Row) (entries others : List ℕ) → ((e : ℕ) → Has entries e → Has others e) → HasRow (rows_of slab entries) row → HasRow (rows_of slab others) row
rows_among slab row entries others each has =
    let found = entry_of slab row entries has in
    subst (HasRow (rows_of slab others)) found.2 (row_among slab found.0 others (each found.0 found.1))

pub are_in_span : (schema : Schema) (slab : Rows) (order : List ℕ) (entries : InPages) (places : List ℕ) (span : Span) (rows : List Row) → IsOrderOf places (key_places schema) slab order entries
    → rows ≡ filter (λ row. has span (key_of places row)) (rows_of slab (flat entries.pages)) → AreInSpan (record { schema = schema; rows = rows_of slab order }) places span rows
are_in_span schema slab order entries places span rows is found =
    let all = rows_of slab (flat entries.pages) in
    let test = λ (row : Row). has span (key_of places row) in
    subst (AreInSpan (record { schema = schema; rows = rows_of slab order }) places span) (sym found)
    (record {
      ascend = ascending_some (compare_by places (key_places schema)) test all is.listed.ascends;
      here = λ row among. let parts = among_some test row all among in (rows_among slab row (flat entries.pages) order is.here parts.0, parts.1);
      there = λ row among passes. some_among test row all (rows_among slab row order (flat entries.pages) is.there among) passes;
    })
