-- The applier's statements and CopyRow, as work on the new table.
use Rattle.std.proofs.Common.{◌≡◌, ℕ, Bool, true, false, ◌&&◌, ◌||◌, List, [], ◌∷◌, map, find, filter, cond, Option, Some, None, Result, Ok, Err, refl, sym, ap, ◌∙◌}
use Rattle.std.specs.Prelude.{option_to_list}
use Rattle.std.specs.List.{list_any}
use Rattle.base_values.specs.declared.value.Value.{Value}
use Rattle.base_values.specs.Spans.{point}
use Rattle.base_values.proofs.SpanLaws.{point_has_key}
use Rattle.base_values.specs.declared.gho_schema.schema.Schema.{Schema}
use Rattle.base_values.specs.declared.gho_schema.schema.Column.{Column}
use Rattle.base_values.specs.GhoSchema.Rows.{key_of, key_places}
use Rattle.base_values.specs.GhoSchema.Tables.{IsRow, IsTable, Ascends, clash, no_null}
use Rattle.base_values.specs.declared.event.Change.TheVariants as changes
use Rattle.base_values.specs.declared.mysql_errors.TheConstants.{ER_DUP_ENTRY}
use Rattle.server_model.specs.declared.answer.Answer.TheVariants as answers
use Rattle.server_locks.specs.declared.row_locks.lock.Lock.{Lock}
use Rattle.table_store.specs.Databases.{clashing}
use Rattle.table_store.specs.RowLists.{is_at, without_key}
use Rattle.table_store.proofs.Orders.{Row}
use Rattle.table_store.proofs.RowLaws.{gone, put_again}
use Rattle.server_model.specs.declared.work.Reach.{Reach}
use Rattle.server_model.specs.declared.work.Work.TheVariants.{Copy, Replace, Delete, Update}
use Rattle.table_store.proofs.FoundRows.{put_new}
use Rattle.proof_journals.proofs.Ghost.Keys.{reach_locked}
use Rattle.proof_journals.specs.Ghost.HeldKeys.{Clustered, is_locked}
use Rattle.proof_journals.proofs.Ghost.Rows.Finding.{found_in}
use Rattle.proof_journals.specs.Ghost.Rows.Changes.{deleting, replacing, updating}
use Rattle.proof_journals.specs.Ghost.Rows.Moments.{rows_after, rows_after_all}
use Rattle.server_model.specs.Answers.{refuses}
use Rattle.server_model.specs.Needs.{needs}
use Rattle.server_model.specs.Rows.{reaches, rows_met, same_row}
use Rattle.server_model.specs.StatementResults.{TableResult, change_first, clashes_besides, only, result_or_refusal, tells, updated, updates, with_sets}
use Rattle.server_model.proofs.LockedRows.Points2.{one_met, under_point}
use Rattle.server_model.proofs.LockedRows.Standing.{one_row}
use Rattle.server_model.specs.LockedRows.Agreement.{Within}
use Rattle.server_model.specs.LockedRows.Coverage.{SetsFit}

-- one key of the table's clustered key
abbrev pub at_key : (schema : Schema) → Clustered schema → Row → Reach
at_key schema at key = record { key = at.place; span = point key }

-- tests that agree filter alike
same_tests : (one two : Row → Bool) (rows : List Row) → ((row : Row) → one row ≡ two row) → filter one rows ≡ filter two rows
same_tests one two [] same = refl
same_tests one two (row ∷ rows) same = rw (same row, same_tests one two rows same) refl

reaches_key : (schema : Schema) (at : Clustered schema) (key row : Row) → no_null key ≡ true → reaches schema (at_key schema at key) row ≡ is_at (key_places schema) key row
reaches_key schema at key row full = rw (at.there, at.its) (under_point at.index key row full)

-- *What is met at a key is the row of that key, where there is one.*
pub key_met : (schema : Schema) (at : Clustered schema) (key : Row) (rows : List Row) → no_null key ≡ true → Ascends (key_places schema) rows → rows_met schema (at_key schema at key) rows ≡ option_to_list (find (is_at (key_places schema) key) rows)
key_met schema at key rows full ascends =
    same_tests (reaches schema (at_key schema at key)) (is_at (key_places schema) key) rows (λ row. reaches_key schema at key row full) ∙ one_met (key_places schema) key rows ascends

-- *REPLACE*
pub replace_reported : (schema : Schema) (row : Row) (rows : List Row) → (tells schema rows (Replace row)).changes ≡ replacing schema row rows
unfolding tells
replace_reported schema row rows = refl

-- *DELETE by key*
deleting_list : (found : Option Row) → map changes.Delete (option_to_list found) ≡ deleting found
deleting_list None = refl
deleting_list (Some row) = refl

pub delete_reported : (schema : Schema) (at : Clustered schema) (key : Row) (rows : List Row) → no_null key ≡ true → Ascends (key_places schema) rows → (tells schema rows (Delete (at_key schema at key))).changes ≡ deleting (find (is_at (key_places schema) key) rows)
unfolding tells
delete_reported schema at key rows full ascends = ap (map changes.Delete) (key_met schema at key rows full ascends) ∙ deleting_list (find (is_at (key_places schema) key) rows)

-- whether a row clashes, by the two words for it
clash_by : (schema : Schema) (row first : Row) (rows : List Row) (b : Bool) (found : Option Row) → cond (b && true) (Some first) (find (λ other. clash schema.uniques row other && true) rows) ≡ found
    → ((found : Option Row) → find (λ other. clash schema.uniques row other && true) rows ≡ found → list_any (clash schema.uniques row) rows ≡ Rattle.std.specs.Prelude.is_some found) → (b || list_any (clash schema.uniques row) rows) ≡ Rattle.std.specs.Prelude.is_some found
clash_by schema row first rows true found is rest = ap Rattle.std.specs.Prelude.is_some is
clash_by schema row first rows false found is rest = rest found is

pub clash_found : (schema : Schema) (row : Row) (rows : List Row) (found : Option Row) → clashing (record { schema = schema; rows = rows }) row None ≡ found → list_any (clash schema.uniques row) rows ≡ Rattle.std.specs.Prelude.is_some found
clash_found schema row [] found is = ap Rattle.std.specs.Prelude.is_some is
clash_found schema row (first ∷ rows) found is = clash_by schema row first rows (clash schema.uniques row first) found is (λ o e. clash_found schema row rows o e)

pub copy_reported : (schema : Schema) (row : Row) (rows : List Row) → clashing (record { schema = schema; rows = rows }) row None ≡ None → tells schema rows (Copy row) ≡ record { answer = answers.Ok 1; changes = changes.Write row ∷ [] }
unfolding tells
copy_reported schema row rows none = rw (clash_found schema row rows None none) refl

pub copy_rested : (schema : Schema) (row was : Row) (rows : List Row) → clashing (record { schema = schema; rows = rows }) row None ≡ Some was → tells schema rows (Copy row) ≡ only (answers.Ok 0)
unfolding tells
copy_rested schema row was rows some = rw (clash_found schema row rows (Some was) some) refl

-- *UPDATE of all columns by key*
abbrev pub all_set : Row → List (Option Value)
all_set row = map Some row

sets_all : (columns : List Column) (new old : Row) → IsRow columns new → IsRow columns old → with_sets (all_set new) old ≡ new
unfolding with_sets
sets_all [] [] [] fits too = refl
sets_all [] (value ∷ new) old fits too = absurd fits
sets_all [] [] (value ∷ old) fits too = absurd too
sets_all (column ∷ columns) [] old fits too = absurd fits
sets_all (column ∷ columns) (value ∷ new) [] fits too = absurd too
sets_all (column ∷ columns) (value ∷ new) (was ∷ old) fits too = ap (λ (r : Row). value ∷ r) (sets_all columns new old fits.1 too.1)

pub sets_fit : (columns : List Column) (new : Row) → IsRow columns new → SetsFit columns (all_set new)
sets_fit [] [] fits = tt
sets_fit [] (value ∷ new) fits = absurd fits
sets_fit (column ∷ columns) [] fits = absurd fits
sets_fit (column ∷ columns) (value ∷ new) fits = (fits.0, sets_fit columns new fits.1)

-- what an UPDATE of the row of a key says
pub data UpdateReported (schema : Schema) (new : Row) (rows : List Row) (found : Option Row) (reported : TableResult) : Type 0 where
  missed : found ≡ None → reported ≡ only (answers.Ok 0) → UpdateReported schema new rows found reported
  rested : found ≡ Some new → reported ≡ only (answers.Ok 0) → UpdateReported schema new rows found reported
  changed : (old : Row) → found ≡ Some old → reported ≡ record { answer = answers.Ok 1; changes = changes.Update old new ∷ [] } → UpdateReported schema new rows found reported
  refused : (old : Row) → found ≡ Some old → clashes_besides schema new old rows ≡ true → reported ≡ only (refuses ER_DUP_ENTRY) → UpdateReported schema new rows found reported

update_two : (schema : Schema) (new old : Row) (rows : List Row) (same clashes : Bool) → same_row old new ≡ same → clashes_besides schema new old rows ≡ clashes
    → UpdateReported schema new rows (Some old) (result_or_refusal (cond same (Ok []) (cond clashes (Err (refuses ER_DUP_ENTRY)) (change_first (changes.Update old new) (Ok [])))))
update_two schema new old rows true clashes is besides = rested (ap Some (one_row old new is)) refl
update_two schema new old rows false true is besides = refused old refl besides refl
update_two schema new old rows false false is besides = changed old refl refl

update_one : (schema : Schema) (new : Row) (rows : List Row) (found : Option Row) → ((old : Row) → found ≡ Some old → with_sets (all_set new) old ≡ new) → UpdateReported schema new rows found (updated schema (Ok (all_set new)) (option_to_list found) rows)
unfolding updates
update_one schema new rows None sets = missed refl refl
update_one schema new rows (Some old) sets = rw (sets old refl) (update_two schema new old rows (same_row old new) (clashes_besides schema new old rows) refl refl)

pub update_reported : (schema : Schema) (at : Clustered schema) (key new : Row) (rows : List Row) → no_null key ≡ true → IsTable schema rows → IsRow schema.columns new
    → UpdateReported schema new rows (find (is_at (key_places schema) key) rows) (tells schema rows (Update (at_key schema at key) (Ok (all_set new))))
unfolding tells
update_reported schema at key new rows full is fits =
    let found : Option Row = find (is_at (key_places schema) key) rows in
    rw (key_met schema at key rows full is.ascends)
    (update_one schema new rows found (λ old there. sets_all schema.columns new old fits (found_in (is_at (key_places schema) key) (IsRow schema.columns) rows old is.rows_fit there)))

-- *UPDATE, not refused*: the rows are those that `updating` makes.
update_itself : (places : List ℕ) (row : Row) (rows : List Row) → Ascends places rows → find (is_at places (key_of places row)) rows ≡ Some row → rows_after places (changes.Update row row) rows ≡ rows
update_itself places row rows ascends found =
    put_new places row (without_key places (key_of places row) rows) (gone places (key_of places row) rows) ∙ put_again places row rows ascends found

pub update_makes : (schema : Schema) (new : Row) (rows : List Row) (found : Option Row) (reported : TableResult) → UpdateReported schema new rows found reported → find (is_at (key_places schema) (key_of (key_places schema) new)) rows ≡ found → Ascends (key_places schema) rows → (reported ≡ only (refuses ER_DUP_ENTRY) → ⊥)
    → rows_after_all (key_places schema) reported.changes rows ≡ rows_after_all (key_places schema) (updating new found) rows
unfolding rows_after_all
update_makes schema new rows found reported (missed none is) there ascends done = rw (is, none) refl
update_makes schema new rows found reported (rested same is) there ascends done = rw (is, same) (sym (update_itself (key_places schema) new rows ascends (there ∙ same)))
update_makes schema new rows found reported (changed old some is) there ascends done = rw (is, some) refl
update_makes schema new rows found reported (refused old some clashes is) there ascends done = absurd (done is)

-- a statement by key holds the key, also where no row has it
pub delete_locks : (schema : Schema) (at : Clustered schema) (key : Row) (rows : List Row) (locks : List Lock) → Within (needs schema rows (Delete (at_key schema at key))) locks → is_locked schema locks key ≡ true
unfolding needs
delete_locks schema at key rows locks within = reach_locked schema at (at_key schema at key) key locks refl (point_has_key key) within.0

pub update_locks : (schema : Schema) (at : Clustered schema) (key : Row) (sets : Result (List (Option Value)) _) (rows : List Row) (locks : List Lock) → Within (needs schema rows (Update (at_key schema at key) sets)) locks → is_locked schema locks key ≡ true
unfolding needs
update_locks schema at key sets rows locks within = reach_locked schema at (at_key schema at key) key locks refl (point_has_key key) within.0
