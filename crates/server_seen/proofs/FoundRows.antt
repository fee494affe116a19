-- The row of a key among the rows that are seen: the one that was written, else the table's, where its key wasn't touched.
use Rattle.std.proofs.Common.{◌≡◌, ℕ, Bool, true, false, not, List, [], ◌∷◌, find, cond, Some, None, refl, sym, ap, ◌∙◌}
use Rattle.std.proofs.lemmas.Bool.{true≢false}
use Rattle.base_values.specs.declared.gho_schema.schema.Schema.{Schema}
use Rattle.base_values.specs.GhoSchema.Rows.{key_of, key_places, with_row}
use Rattle.table_store.specs.Databases.{TableRows, row_at_key}
use Rattle.table_store.specs.RowLists.{is_at}
use Rattle.table_store.proofs.Orders.{Row}
use Rattle.table_store.proofs.RowLaws.{key_is, put_found, put_other}
use Rattle.server_model.specs.Rows.{stands}
use Rattle.server_seen.specs.Written.{is_touched, untouched, put_all, seen}
use Rattle.server_seen.specs.Stored.{StoredWrites}

-- among rows with more of them
found_more : (places : List ℕ) (key row : Row) (more rows : List Row) → find (is_at places key) more ≡ Some row → find (is_at places key) (put_all places more rows) ≡ Some row
found_more places key row [] rows is = absurd (cc)
found_more places key row (first ∷ more) rows is = here (is_at places key first) refl is (found_more places key row more rows) where
  here : (b : Bool) → is_at places key first ≡ b → cond b (Some first) (find (is_at places key) more) ≡ Some row → (find (is_at places key) more ≡ Some row → find (is_at places key) (put_all places more rows) ≡ Some row)
      → find (is_at places key) (with_row places first (put_all places more rows)) ≡ Some row
  here true at found later = put_found places key first (put_all places more rows) at ∙ found
  here false at found later = put_other places key first (put_all places more rows) at ∙ later found

found_others : (places : List ℕ) (key : Row) (more rows : List Row) → find (is_at places key) more ≡ None → find (is_at places key) (put_all places more rows) ≡ find (is_at places key) rows
found_others places key [] rows none = refl
found_others places key (first ∷ more) rows none = here (is_at places key first) refl none (found_others places key more rows) where
  here : (b : Bool) → is_at places key first ≡ b → cond b (Some first) (find (is_at places key) more) ≡ None → (find (is_at places key) more ≡ None → find (is_at places key) (put_all places more rows) ≡ find (is_at places key) rows)
      → find (is_at places key) (with_row places first (put_all places more rows)) ≡ find (is_at places key) rows
  here true at found later = absurd (cc)
  here false at found later = put_other places key first (put_all places more rows) at ∙ later found

-- among those whose keys weren't touched
found_kept : (places : List ℕ) (keys : List Row) (key : Row) (rows : List Row) → stands key keys ≡ false → find (is_at places key) (untouched places keys rows) ≡ find (is_at places key) rows
found_kept places keys key [] is = refl
found_kept places keys key (row ∷ rows) is = here (is_at places key row) (is_touched places keys row) refl refl (found_kept places keys key rows is) where
  here : (b c : Bool) → is_at places key row ≡ b → is_touched places keys row ≡ c → find (is_at places key) (untouched places keys rows) ≡ find (is_at places key) rows
      → find (is_at places key) (cond (not c) (row ∷ untouched places keys rows) (untouched places keys rows)) ≡ cond b (Some row) (find (is_at places key) rows)
  here true true at touched rest = absurd (true≢false (sym touched ∙ ap (λ (k : Row). stands k keys) (sym (key_is places key row at)) ∙ is))
  here true false at touched rest = rw at refl
  here false true at touched rest = rest
  here false false at touched rest = rw at rest

none_kept : (places : List ℕ) (keys : List Row) (key : Row) (rows : List Row) → stands key keys ≡ true → find (is_at places key) (untouched places keys rows) ≡ None
none_kept places keys key [] is = refl
none_kept places keys key (row ∷ rows) is = here (is_at places key row) (is_touched places keys row) refl refl (none_kept places keys key rows is) where
  here : (b c : Bool) → is_at places key row ≡ b → is_touched places keys row ≡ c → find (is_at places key) (untouched places keys rows) ≡ None
      → find (is_at places key) (cond (not c) (row ∷ untouched places keys rows) (untouched places keys rows)) ≡ None
  here b true at touched rest = rest
  here true false at touched rest = absurd (true≢false (sym is ∙ ap (λ (k : Row). stands k keys) (key_is places key row at) ∙ touched))
  here false false at touched rest = rw at rest

-- among those of a table that are seen
pub row_written : (table : TableRows) (writes : StoredWrites) (key row : Row) → writes.schema ≡ table.schema → find (is_at (key_places writes.schema) key) writes.written.rows ≡ Some row
    → find (is_at (key_places table.schema) key) (seen (key_places table.schema) writes.written table.rows) ≡ Some row
unfolding seen
row_written table writes key row same is =
    found_more (key_places table.schema) key row writes.written.rows (untouched (key_places table.schema) writes.written.keys table.rows) (ap (λ (s : Schema). find (is_at (key_places s) key) writes.written.rows) (sym same) ∙ is)

unwritten : (table : TableRows) (writes : StoredWrites) (key : Row) → writes.schema ≡ table.schema → find (is_at (key_places writes.schema) key) writes.written.rows ≡ None
    → find (is_at (key_places table.schema) key) (seen (key_places table.schema) writes.written table.rows) ≡ find (is_at (key_places table.schema) key) (untouched (key_places table.schema) writes.written.keys table.rows)
unfolding seen
unwritten table writes key same none =
    found_others (key_places table.schema) key writes.written.rows (untouched (key_places table.schema) writes.written.keys table.rows) (ap (λ (s : Schema). find (is_at (key_places s) key) writes.written.rows) (sym same) ∙ none)

pub row_removed : (table : TableRows) (writes : StoredWrites) (key : Row) → writes.schema ≡ table.schema → find (is_at (key_places writes.schema) key) writes.written.rows ≡ None → stands key writes.written.keys ≡ true
    → find (is_at (key_places table.schema) key) (seen (key_places table.schema) writes.written table.rows) ≡ None
row_removed table writes key same none touched = unwritten table writes key same none ∙ none_kept (key_places table.schema) writes.written.keys key table.rows touched

pub row_left : (table : TableRows) (writes : StoredWrites) (key : Row) → writes.schema ≡ table.schema → find (is_at (key_places writes.schema) key) writes.written.rows ≡ None → stands key writes.written.keys ≡ false
    → find (is_at (key_places table.schema) key) (seen (key_places table.schema) writes.written table.rows) ≡ row_at_key table key
row_left table writes key same none kept = unwritten table writes key same none ∙ found_kept (key_places table.schema) writes.written.keys key table.rows kept
