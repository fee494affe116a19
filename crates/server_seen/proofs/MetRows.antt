-- The rows of a table that a condition reaches, and those that clash with a new row.
use Rattle.std.proofs.Common.{◌≡◌, ℕ, Bool, true, false, ◌&&◌, ◌||◌, List, [], ◌∷◌, find, filter, cond, Option, Some, None, Ordering, Less, Equal, Greater, refl, sym, ap, ◌∙◌, subst}
use Rattle.std.proofs.lemmas.Bool.{true≢false, and_parts, or_right}
use Rattle.std.proofs.Math.Bool.{and-false, and-true}
use Rattle.std.specs.Ordering.{is_eq, is_gt, is_le, ordering_reverse}
use Rattle.std.specs.List.{AllByRecursion, slice_get}
use Rattle.base_values.specs.declared.span.Span.{Span}
use Rattle.base_values.specs.KeyOrder.{compare_keys}
use Rattle.base_values.specs.Spans.{has, point}
use Rattle.base_values.specs.declared.gho_schema.schema.Schema.{Schema}
use Rattle.base_values.specs.declared.gho_schema.schema.Index.{Index}
use Rattle.base_values.specs.GhoSchema.ClusteredKey.{clustered_place, unique_at}
use Rattle.base_values.specs.GhoSchema.Rows.{key_of, key_places, places_of}
use Rattle.base_values.specs.GhoSchema.Tables.{Ascends, no_null, clash}
use Rattle.table_store.specs.Databases.{TableRows, rows_in, row_at_key, clashing}
use Rattle.table_store.specs.RowLists.{is_at}
use Rattle.table_store.proofs.Orders.{Row, turned, is_Equal}
use Rattle.table_store.proofs.FoundRows.{others_not_at}
use Rattle.server_model.specs.declared.work.Reach.{Reach}
use Rattle.server_model.specs.Rows.{lies_under, rows_met, same_row, stands}
use Rattle.server_model.specs.StatementResults.{displaced}
use Rattle.server_model.proofs.LockedRows.Standing.{same_itself}

-- rows that pass a test are among those that pass a wider one
pub filter_within : (test wide : Row → Bool) (rows : List Row) → ((row : Row) → test row ≡ true → wide row ≡ true) → filter test (filter wide rows) ≡ filter test rows
filter_within test wide [] within = refl
filter_within test wide (row ∷ rows) within = here (wide row) (test row) refl refl (filter_within test wide rows within) where
  here : (b c : Bool) → wide row ≡ b → test row ≡ c → filter test (filter wide rows) ≡ filter test rows → filter test (cond b (row ∷ filter wide rows) (filter wide rows)) ≡ cond c (row ∷ filter test rows) (filter test rows)
  here true true is too rest = rw too (ap (λ (rs : List Row). row ∷ rs) rest)
  here true false is too rest = rw too rest
  here false true is too rest = absurd (true≢false (sym (within row too) ∙ is))
  here false false is too rest = rest

-- no key at this place: no row is reached
none_pass : (rows : List Row) → filter (λ (r : Row). false) rows ≡ []
none_pass [] = refl
none_pass (row ∷ rows) = none_pass rows

pub none_reached : (schema : Schema) (reach : Reach) (rows : List Row) → slice_get schema.uniques reach.key ≡ None → rows_met schema reach rows ≡ []
unfolding lies_under
none_reached schema reach rows none = ap (λ (found : Option Index). filter (lies_under found reach.span) rows) none ∙ none_pass rows

pub reached_by : (schema : Schema) (reach : Reach) (rows : List Row) (index : Index) → slice_get schema.uniques reach.key ≡ Some index → rows_met schema reach rows ≡ filter (lies_under (Some index) reach.span) rows
reached_by schema reach rows index is = ap (λ (found : Option Index). filter (lies_under found reach.span) rows) is

pub lies_in : (index : Index) (span : Span) (row : Row) → lies_under (Some index) span row ≡ true → has span (key_of index.places row) ≡ true
unfolding lies_under
lies_in index span row lies = (and_parts (no_null (key_of index.places row)) (has span (key_of index.places row)) lies).1

-- the clustered key is that of its place
pub own_places : (schema : Schema) (place : ℕ) (index : Index) → clustered_place schema ≡ Some place → slice_get schema.uniques place ≡ Some index → key_places schema ≡ index.places
own_places schema place index at is = ap (λ (own : Option ℕ). places_of (unique_at schema.uniques own)) at ∙ ap places_of is

-- by the clustered key they are among those in the span
pub reached_in : (table : TableRows) (index : Index) (span : Span) → key_places table.schema ≡ index.places → filter (lies_under (Some index) span) (rows_in table span) ≡ filter (lies_under (Some index) span) table.rows
reached_in table index span places =
    ap (λ (ps : List ℕ). filter (lies_under (Some index) span) (filter (λ (row : Row). has span (key_of ps row)) table.rows)) places
    ∙ filter_within (lies_under (Some index) span) (λ (row : Row). has span (key_of index.places row)) table.rows (lies_in index span)

-- a point has its key alone
has_point : (key other : Row) → has (point key) other ≡ is_eq (compare_keys key other)
unfolding has
has_point key other = ap (λ (o : Ordering). is_le o && is_le (compare_keys other key)) (turned key other) ∙ at (compare_keys other key) ∙ ap is_eq (sym (turned key other)) where
  at : (o : Ordering) → (is_le (ordering_reverse o) && is_le o) ≡ is_eq (ordering_reverse o)
  at Less = refl
  at Equal = refl
  at Greater = refl

under_point : (index : Index) (key row : Row) → lies_under (Some index) (point key) row ≡ (no_null (key_of index.places row) && is_at index.places key row)
unfolding lies_under
under_point index key row = ap (λ (b : Bool). no_null (key_of index.places row) && b) (has_point key (key_of index.places row))

-- so it reaches the row that is found by it, if any
none_under : (index : Index) (key : Row) (rows : List Row) → AllByRecursion (λ row. is_at index.places key row ≡ false) rows → filter (lies_under (Some index) (point key)) rows ≡ []
none_under index key [] none = refl
none_under index key (row ∷ rows) none = rw (under_point index key row ∙ ap (λ (b : Bool). no_null (key_of index.places row) && b) none.0 ∙ and-false (no_null (key_of index.places row))) (none_under index key rows none.1)

-- the row, if no part of its key is null
abbrev pub if_whole : List ℕ → Option Row → List Row
if_whole places None = []
if_whole places (Some row) = cond (no_null (key_of places row)) (row ∷ []) []

pub under_one : (index : Index) (key : Row) (rows : List Row) → Ascends index.places rows → filter (lies_under (Some index) (point key)) rows ≡ if_whole index.places (find (is_at index.places key) rows)
under_one index key [] ascends = refl
under_one index key (row ∷ rows) ascends = here (no_null (key_of index.places row)) (is_at index.places key row) refl refl (under_one index key rows ascends.1) where
  none_behind : is_at index.places key row ≡ true → filter (lies_under (Some index) (point key)) rows ≡ []
  none_behind at =
      none_under index key rows (others_not_at index.places key row rows (ap is_gt (is_Equal (compare_keys key (key_of index.places row)) at)) ascends.0)

  here : (b c : Bool) → no_null (key_of index.places row) ≡ b → is_at index.places key row ≡ c → filter (lies_under (Some index) (point key)) rows ≡ if_whole index.places (find (is_at index.places key) rows)
      → filter (lies_under (Some index) (point key)) (row ∷ rows) ≡ if_whole index.places (cond c (Some row) (find (is_at index.places key) rows))
  here b false whole at others = rw (under_point index key row ∙ ap (λ (d : Bool). no_null (key_of index.places row) && d) at ∙ and-false (no_null (key_of index.places row))) others
  here true true whole at others = rw (under_point index key row, whole, at) (ap (λ (rs : List Row). row ∷ rs) (none_behind at))
  here false true whole at others = rw (under_point index key row, whole) (none_behind at)

pub row_under : (table : TableRows) (index : Index) (key : Row) → key_places table.schema ≡ index.places → Ascends (key_places table.schema) table.rows → filter (lies_under (Some index) (point key)) table.rows ≡ if_whole index.places (row_at_key table key)
row_under table index key places ascends =
    under_one index key table.rows (subst (λ (ps : List ℕ). Ascends ps table.rows) places ascends) ∙ ap (λ (ps : List ℕ). if_whole index.places (find (is_at ps key) table.rows)) (sym places)

-- none clashes
fails_first : (b c : Bool) (row : Row) (rest : Option Row) → cond (b && c) (Some row) rest ≡ None → ((b && c) ≡ false) × (rest ≡ None)
fails_first true true row rest none = absurd (cc)
fails_first true false row rest none = (refl, none)
fails_first false c row rest none = (refl, none)

pub none_clashing : (uniques : List Index) (new : Row) (rows : List Row) → find (λ other. clash uniques new other && true) rows ≡ None → filter (clash uniques new) rows ≡ []
none_clashing uniques new [] none = refl
none_clashing uniques new (row ∷ rows) none =
    let parts = fails_first (clash uniques new row) true row (find (λ other. clash uniques new other && true) rows) none in
    rw (sym (and-true (clash uniques new row)) ∙ parts.0) (none_clashing uniques new rows parts.1)

pub none_displaced : (table : TableRows) (new : Row) → clashing table new None ≡ None → displaced table.schema new table.rows ≡ []
none_displaced table new none = none_clashing table.schema.uniques new table.rows none

-- what is found stands and passes the test
pub record Found (test : Row → Bool) (rows : List Row) (row : Row) : Type 0 where
  pub stood : stands row rows ≡ true
  pub passes : test row ≡ true

pub found_is : (test : Row → Bool) (rows : List Row) (row : Row) → find test rows ≡ Some row → Found test rows row
unfolding stands
found_is test [] row is = absurd (cc)
found_is test (first ∷ rows) row is = here (test first) refl is (λ (following : find test rows ≡ Some row). found_is test rows row following) where
  here : (b : Bool) → test first ≡ b → cond b (Some first) (find test rows) ≡ Some row → (find test rows ≡ Some row → Found test rows row) → Found test (first ∷ rows) row
  here true passes found rest =
      let same : first ≡ row = cc in
      record { stood = ap (λ (r : Row). same_row row r || stands row rows) same ∙ ap (λ (b : Bool). b || stands row rows) (same_itself row); passes = ap test (sym same) ∙ passes }
  here false passes found rest = let later = rest found in record { stood = or_right (same_row row first) (stands row rows) later.stood; passes = later.passes }
