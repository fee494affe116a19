-- A client's commit, the start and the end.
use Rattle.std.proofs.Common.{◌≡◌, ℕ, ◌≤◌, Bool, true, false, List, [], ◌∷◌, ◌++◌, find, length, Option, Some, None, Ok, refl, sym, ap, ◌∙◌, subst, arith, length-append}
use Rattle.std.specs.List.{AllByRecursion}
use Rattle.std.proofs.lemmas.Bool.{not-true}
use Rattle.base_values.specs.declared.span.Span.{Span}
use Rattle.base_values.specs.declared.gho_schema.schema.Schema.{Schema}
use Rattle.base_values.specs.GhoSchema.Rows.{key_of, key_places}
use Rattle.base_values.specs.GhoSchema.Tables.{IsRow, IsTable, Ascends}
use Rattle.base_values.specs.declared.row_conversion.map.MapColumn.{MapColumn}
use Rattle.base_values.specs.RowConversion.ConvertedRows.{converted_row, converted_rows}
use Rattle.base_values.specs.declared.event.RowEvent.{RowEvent}
use Rattle.table_store.specs.RowLists.{is_at}
use Rattle.table_store.proofs.RowLaws.{key_is}
use Rattle.proof_journals.proofs.Ghost.Relation.AllViews.{log_grows, starts_all}
use Rattle.proof_journals.proofs.Ghost.Relation.Carrying.{carries_all}
use Rattle.proof_journals.proofs.Ghost.Relation.OneView.{ends, ends_row}
use Rattle.proof_journals.proofs.Ghost.Relation.Tests.{true_false}
use Rattle.proof_journals.specs.Ghost.Relation.Timelines.{AreAlike, IsTimeline}
use Rattle.proof_journals.specs.Ghost.Relation.Views.{GhostFollows, Progress, ViewFollows}
use Rattle.proof_journals.proofs.Ghost.Rows.Altering.{Imaged, finds_itself, found_none, imaged-converted_rows, is_altered}
use Rattle.proof_journals.proofs.Ghost.Rows.Growing.{same_timeline}
use Rattle.proof_journals.proofs.Ghost.Rows.Replacing.{following}
use Rattle.proof_journals.specs.Ghost.Rows.Moments.{LogFits, Row, rows_after_all, rows_at, rows_then}
use Rattle.proof_journals.specs.Ghost.Rows.Timelines.{Migration, timeline_of}
use Rattle.proof_journals.specs.Ghost.Rows.Views.{GhostRows, is_done, is_left, views_of}
use Rattle.proof_journals.proofs.Results.{was_ok}

-- a log that log_fits through valid tables, with more that does from there
pub log_fits-append : (name : List ℕ) (schema : Schema) (rows : List Row) (log more : List RowEvent) → LogFits name schema rows log → LogFits name schema (rows_at name (key_places schema) rows log (length log)) more → LogFits name schema rows (log ++ more)
unfolding rows_at LogFits
log_fits-append name schema rows [] more front back = back
log_fits-append name schema rows (event ∷ log) more front back = (front.0, log_fits-append name schema (rows_then name (key_places schema) event rows) log more front.1 back)

-- *A session commits*: the log grows.
pub log_has_grown : (m : Migration) (rows : List Row) (log more : List RowEvent) (done half : Row → Bool) (progress : Progress Row) (ghost : GhostRows) → IsTimeline (timeline_of m rows (log ++ more)) (length (log ++ more)) → progress.end ≡ length log
    → GhostFollows (timeline_of m rows log) done half progress (views_of (key_places m.new) ghost) → GhostFollows (timeline_of m rows (log ++ more)) done half (record progress { end = length (log ++ more) }) (views_of (key_places m.new) ghost)
log_has_grown m rows log more done half progress ghost is end are =
    let one : AreAlike (timeline_of m rows log) (timeline_of m rows (log ++ more)) progress.end = subst (AreAlike (timeline_of m rows log) (timeline_of m rows (log ++ more))) (sym end) (same_timeline m rows log more) in
    log_grows (timeline_of m rows (log ++ more)) done half progress (views_of (key_places m.new) ghost) (length (log ++ more)) is (let long = length-append log more in omega (arith, end, long))
    (carries_all (timeline_of m rows log) (timeline_of m rows (log ++ more)) done half progress (views_of (key_places m.new) ghost) one are)

-- ---- the start

outside : (left : Option Span) (places : List ℕ) (key : Row) (rows : List Row) → AllByRecursion (λ row. is_left left (key_of places row) ≡ true) rows → is_left left key ≡ false → AllByRecursion (λ row. is_at places key row ≡ false) rows
outside left places key [] all out = tt
outside left places key (row ∷ rows) all out = (not_here (is_at places key row) refl, outside left places key rows all.1 out)
  where
    not_here : (b : Bool) → is_at places key row ≡ b → b ≡ false
    not_here true at = true_false (is_left left key) (subst (λ k. is_left left k ≡ true) (sym (key_is places key row at)) all.0) out
    not_here false at = refl

none_yet : (places : List ℕ) (key : Row) → find (is_at places key) (rows_after_all places [] []) ≡ None
unfolding rows_after_all
none_yet places key = refl

-- *The start*, at the turn that reads the range: every row is left to copy.
pub start_follows : (m : Migration) (rows : List Row) (log : List RowEvent) (left : Option Span) (progress : Progress Row) → progress.reached ≡ progress.position → progress.position ≤ progress.end → ((key : Row) → progress.copier_holds key ≡ false)
    → AllByRecursion (λ row. is_left left (key_of (key_places m.schema) row) ≡ true) (rows_at m.name (key_places m.schema) rows log progress.end)
    → GhostFollows (timeline_of m rows log) (is_done left) (λ _. false) progress (views_of (key_places m.new) (record { committed = []; batch = []; chunk = [] }))
start_follows m rows log left progress same before free all =
    starts_all (timeline_of m rows log) (is_done left) progress (views_of (key_places m.new) (record { committed = []; batch = []; chunk = [] })) same before free (λ key. refl) (none_yet (key_places m.new)) (none_yet (key_places m.new))
    (λ key done.
    found_none (is_at (key_places m.schema) key) (rows_at m.name (key_places m.schema) rows log progress.end)
    (outside left (key_places m.schema) key (rows_at m.name (key_places m.schema) rows log progress.end) all (not-true (is_left left key) done)))

-- ---- the end

-- each row of a table is found by its own key
all_found_here : (places : List ℕ) (row : Row) (rows others : List Row) → AllByRecursion (λ other. is_at places (key_of places other) row ≡ false) others → AllByRecursion (λ other. find (is_at places (key_of places other)) rows ≡ Some other) others
    → AllByRecursion (λ other. find (is_at places (key_of places other)) (row ∷ rows) ≡ Some other) others
all_found_here places row rows [] apart found = tt
all_found_here places row rows (other ∷ others) apart found = (rw apart.0 found.0, all_found_here places row rows others apart.1 found.1)

pub all_found : (places : List ℕ) (rows : List Row) → Ascends places rows → AllByRecursion (λ row. find (is_at places (key_of places row)) rows ≡ Some row) rows
all_found places [] ascends = tt
all_found places (row ∷ rows) ascends = (finds_itself places row rows, all_found_here places row rows rows (following places row rows ascends.0) (all_found places rows ascends.1))

-- the images of rows that have them
pub record HasConvertedRows (map : List MapColumn) (places new : List ℕ) (rows : List Row) : Type 0 where
  pub made : List Row
  pub each : Imaged map places new rows made

all_imaged : (map : List MapColumn) (columns : Row → Type 0) (places new : List ℕ) → ((row made : Row) → columns row → converted_row map row ≡ Ok made → key_of new made ≡ key_of places row) → (all rows : List Row) → AllByRecursion columns rows
    → AllByRecursion (λ row. find (is_at places (key_of places row)) all ≡ Some row) rows → ((row : Row) → find (is_at places (key_of places row)) all ≡ Some row → (made : Row) × (converted_row map row ≡ Ok made)) → HasConvertedRows map places new rows
all_imaged map columns places new keys all [] fit found converted_row_of = record { made = []; each = tt }
all_imaged map columns places new keys all (row ∷ rows) fit found converted_row_of =
    let one = converted_row_of row found.0 in
    let others = all_imaged map columns places new keys all rows fit.1 found.1 converted_row_of in
    record { made = one.0 ∷ others.made; each = (one.1, keys row one.0 fit.0 one.1, others.each) }

-- *The end*: every event is applied and no key is left, so the ghost is the altered table.
pub ghost_is_altered : (m : Migration) (rows : List Row) (log : List RowEvent) (half : Row → Bool) (progress : Progress Row) (ghost : GhostRows) → IsTable m.schema (rows_at m.name (key_places m.schema) rows log progress.end) → Ascends (key_places m.new) ghost.committed
    → ((row made : Row) → IsRow m.schema.columns row → converted_row m.columns row ≡ Ok made → key_of (key_places m.new) made ≡ key_of (key_places m.schema) row) → progress.position ≡ progress.end → GhostFollows (timeline_of m rows log) (is_done None) half progress (views_of (key_places m.new) ghost)
    → converted_rows m.columns (rows_at m.name (key_places m.schema) rows log progress.end) ≡ Some ghost.committed
ghost_is_altered m rows log half progress ghost table ordered keys applied are =
    let old : List ℕ = key_places m.schema in
    let new : List ℕ = key_places m.new in
    let now : List Row = rows_at m.name old rows log progress.end in
    let whole : ViewFollows (timeline_of m rows log) (is_done None) progress.end progress.end (λ key. find (is_at new key) ghost.committed) = subst (λ p. ViewFollows (timeline_of m rows log) (is_done None) p progress.end (λ key. find (is_at new key) ghost.committed)) applied are.committed in
    let made : HasConvertedRows m.columns old new now =
    all_imaged m.columns (IsRow m.schema.columns) old new keys now now table.rows_fit (all_found old now table.ascends)
    (λ row found. let one = ends_row (timeline_of m rows log) (is_done None) progress.end (λ key. find (is_at new key) ghost.committed) (λ key. refl) whole (key_of old row) row found in (one.0, was_ok (converted_row m.columns row) one.0 one.1)) in
    let same : ghost.committed ≡ made.made =
    is_altered m.columns old new now made.made ghost.committed table.ascends ordered made.each (ends (timeline_of m rows log) (is_done None) progress.end (λ key. find (is_at new key) ghost.committed) (λ key. refl) whole) in
    imaged-converted_rows m.columns old new now made.made made.each ∙ ap Some (sym same)
