-- The rows that are seen, and those of them that pass a test.
use Rattle.std.proofs.Common.{◌≡◌, ℕ, Bool, true, false, not, ◌&&◌, ◌||◌, List, [], ◌∷◌, filter, cond, Less, refl, sym, ap, ◌∙◌, subst}
use Rattle.std.proofs.lemmas.Bool.{false_from_ne_true, true≢false}
use Rattle.std.specs.Ordering.{is_eq}
use Rattle.std.specs.List.{AllByRecursion}
use Rattle.std.proofs.Math.Bool.{or_assoc}
use Rattle.base_values.specs.KeyOrder.{compare_keys}
use Rattle.base_values.specs.declared.gho_schema.schema.Schema.{Schema}
use Rattle.base_values.specs.GhoSchema.Rows.{key_of, key_places}
use Rattle.base_values.specs.GhoSchema.Tables.{Ascends}
use Rattle.table_store.specs.RowLists.{is_at}
use Rattle.table_store.specs.Databases.{TableRows}
use Rattle.table_store.proofs.Orders.{Row}
use Rattle.table_store.proofs.Ascending.{all-filter, ascends-with_row, ascends-filter}
use Rattle.table_store.proofs.FoundRows.{none_found}
use Rattle.table_store.proofs.RowLaws.{key_is, put_other}
use Rattle.server_model.specs.Rows.{same_row, stands}
use Rattle.server_model.proofs.LockedRows.Standing.{stands-put, stands-filter, one_list}
use Rattle.server_seen.specs.Written.{Written, nothing, is_touched, untouched, put_all, seen}
use Rattle.server_seen.specs.FittingChanges.{IsNewAmong, IsWritten}
use Rattle.server_seen.specs.Stored.{StoredWrites}
use Rattle.server_seen.specs.Laws.{SeenRowsPass}

-- which rows stand among rows with more of them
pub stands-put_all : (places : List ℕ) (row : Row) (more rows : List Row) → stands row (put_all places more rows) ≡ (stands row more || stands row rows)
unfolding stands
stands-put_all places row [] rows = refl
stands-put_all places row (first ∷ more) rows =
    stands-put places row first (put_all places more rows) ∙ ap (λ (b : Bool). same_row row first || b) (stands-put_all places row more rows) ∙ sym (or_assoc (same_row row first) (stands row more) (stands row rows))

pub stands-seen : (places : List ℕ) (row : Row) (written : Written) (rows : List Row) → stands row (seen places written rows) ≡ (stands row written.rows || (stands row rows && not (is_touched places written.keys row)))
unfolding seen
stands-seen places row written rows =
    stands-put_all places row written.rows (untouched places written.keys rows) ∙ ap (λ (b : Bool). stands row written.rows || b) (stands-filter (λ (r : Row). not (is_touched places written.keys r)) row rows)

-- a row whose key comes before all others is new among them
less_not_at : (places : List ℕ) (row other : Row) → compare_keys (key_of places row) (key_of places other) ≡ Less → is_at places (key_of places row) other ≡ false
less_not_at places row other less = ap is_eq less

new_after : (places : List ℕ) (row : Row) (more rows : List Row) → AllByRecursion (λ other. compare_keys (key_of places row) (key_of places other) ≡ Less) more → IsNewAmong places rows row → IsNewAmong places (put_all places more rows) row
new_after places row [] rows less new = new
new_after places row (first ∷ more) rows less new =
    put_other places (key_of places row) first (put_all places more rows) (less_not_at places row first less.0) ∙ new_after places row more rows less.1 new

pub ascends-put_all : (places : List ℕ) (more rows : List Row) → Ascends places more → Ascends places rows → AllByRecursion (IsNewAmong places rows) more → Ascends places (put_all places more rows)
ascends-put_all places [] rows more others new = others
ascends-put_all places (row ∷ all) rows more others new =
    ascends-with_row places row (put_all places all rows) (new_after places row all rows more.0 new.0) (ascends-put_all places all rows more.1 others new.1)

-- no row that is left has a key that was touched
kept_not_at : (places : List ℕ) (keys : List Row) (row first : Row) (rows : List Row) (b : Bool) → is_touched places keys first ≡ b → is_touched places keys row ≡ true → AllByRecursion (λ other. is_at places (key_of places row) other ≡ false) rows
    → AllByRecursion (λ other. is_at places (key_of places row) other ≡ false) (cond (not b) (first ∷ rows) rows)
kept_not_at places keys row first rows true is touched others = others
kept_not_at places keys row first rows false is touched others =
    (false_from_ne_true (is_at places (key_of places row) first) (λ at. true≢false (sym touched ∙ ap (λ (k : Row). stands k keys) (key_is places (key_of places row) first at) ∙ is)), others)

pub none_at : (places : List ℕ) (keys : List Row) (row : Row) (rows : List Row) → is_touched places keys row ≡ true → AllByRecursion (λ other. is_at places (key_of places row) other ≡ false) (untouched places keys rows)
none_at places keys row [] touched = tt
none_at places keys row (first ∷ rows) touched =
    kept_not_at places keys row first (untouched places keys rows) (is_touched places keys first) refl touched (none_at places keys row rows touched)

pub all_new : (places : List ℕ) (keys more rows : List Row) → AllByRecursion (λ row. is_touched places keys row ≡ true) more → AllByRecursion (IsNewAmong places (untouched places keys rows)) more
all_new places keys [] rows touched = tt
all_new places keys (row ∷ more) rows touched =
    (none_found (is_at places (key_of places row)) (is_at places (key_of places row)) (untouched places keys rows) (λ other fails. fails) (none_at places keys row rows touched.0), all_new places keys more rows touched.1)

pub ascends-untouched : (places : List ℕ) (keys rows : List Row) → Ascends places rows → Ascends places (untouched places keys rows)
ascends-untouched places keys rows ascends = ascends-filter places (λ (r : Row). not (is_touched places keys r)) rows ascends

-- seen rows stand in order
pub ascends-seen : (places : List ℕ) (written : Written) (rows : List Row) → IsWritten places written → Ascends places rows → Ascends places (seen places written rows)
unfolding seen
ascends-seen places written rows is ascends =
    ascends-put_all places written.rows (untouched places written.keys rows) is.rows_ascend (ascends-untouched places written.keys rows ascends) (all_new places written.keys written.rows rows is.touched)

-- nothing that was written hides nothing
all_kept : (places : List ℕ) (rows : List Row) → untouched places [] rows ≡ rows
unfolding stands
all_kept places [] = refl
all_kept places (row ∷ rows) = ap (λ (rs : List Row). row ∷ rs) (all_kept places rows)

pub seen-nothing : (places : List ℕ) (rows : List Row) → seen places nothing rows ≡ rows
unfolding seen
seen-nothing places rows = all_kept places rows

-- some of what was written
pub some_written : (test : Row → Bool) (places : List ℕ) (written : Written) → IsWritten places written → IsWritten places (record { rows = filter test written.rows; keys = written.keys })
some_written test places written is = record {
  rows_ascend = ascends-filter places test written.rows is.rows_ascend;
  keys_ascend = is.keys_ascend;
  touched = all-filter (λ row. is_touched places written.keys row ≡ true) test written.rows is.touched;
}

-- the seen rows that pass a test
passing : (m r k t : Bool) → ((m || (r && k)) && t) ≡ ((m && t) || ((r && t) && k))
passing true true true true = refl
passing true true true false = refl
passing true true false true = refl
passing true true false false = refl
passing true false k true = refl
passing true false k false = refl
passing false true true true = refl
passing false true true false = refl
passing false true false true = refl
passing false true false false = refl
passing false false k t = refl

pub seen_pass : SeenRowsPass
unfolding seen
seen_pass test places written rows is ascends =
    let some : Written = record { rows = filter test written.rows; keys = written.keys } in
    one_list places (filter test (seen places written rows)) (seen places some (filter test rows)) (ascends-filter places test (seen places written rows) (ascends-seen places written rows is ascends))
    (ascends-seen places some (filter test rows) (some_written test places written is) (ascends-filter places test rows ascends)) (λ row.
    stands-filter test row (seen places written rows) ∙ ap (λ (b : Bool). b && test row) (stands-seen places row written rows)
    ∙ passing (stands row written.rows) (stands row rows) (not (is_touched places written.keys row)) (test row)
    ∙ ap (λ (b : Bool). b || ((stands row rows && test row) && not (is_touched places written.keys row))) (sym (stands-filter test row written.rows))
    ∙ ap (λ (b : Bool). stands row (filter test written.rows) || (b && not (is_touched places written.keys row))) (sym (stands-filter test row rows)) ∙ sym (stands-seen places row some (filter test rows)))

-- the rows of a table that pass a test of its schema, with those that were written
pub tests_seen : (table : TableRows) (writes : StoredWrites) (test : Schema → Row → Bool) (mine below : List Row) → writes.schema ≡ table.schema → IsWritten (key_places writes.schema) writes.written → Ascends (key_places table.schema) table.rows
    → mine ≡ filter (test writes.schema) writes.written.rows → below ≡ filter (test table.schema) table.rows
    → put_all (key_places writes.schema) mine (untouched (key_places writes.schema) writes.written.keys below) ≡ filter (test table.schema) (seen (key_places table.schema) writes.written table.rows)
tests_seen table writes test mine below same is ascends mine_is below_is =
    let places : List ℕ = key_places table.schema in
    let written : IsWritten (key_places table.schema) writes.written = subst (λ (s : Schema). IsWritten (key_places s) writes.written) same is in
    ap (λ (s : Schema). put_all (key_places s) mine (untouched (key_places s) writes.written.keys below)) same
    ∙ ap (λ (rs : List Row). put_all places rs (untouched places writes.written.keys below)) (mine_is ∙ ap (λ (s : Schema). filter (test s) writes.written.rows) same)
    ∙ ap (λ (rs : List Row). put_all places (filter (test table.schema) writes.written.rows) (untouched places writes.written.keys rs)) below_is
    ∙ sym (seen_pass (test table.schema) places writes.written table.rows written ascends)
