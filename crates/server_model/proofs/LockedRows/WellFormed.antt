-- A statement leaves a table.
use Rattle.base_values.specs.declared.mysql_errors.TheConstants.{ER_DUP_ENTRY}
use Rattle.std.proofs.Common.{◌≡◌, ℕ, Bool, true, false, not, ◌&&◌, ◌||◌, List, [], ◌∷◌, ◌++◌, map, cond, Option, Some, None, Result, Ok, Err, refl, sym, ap, ◌∙◌}
use Rattle.std.proofs.lemmas.Bool.{true≢false, and_parts, false_from_ne_true}
use Rattle.std.specs.List.{AllByRecursion, list_any}
use Rattle.base_values.specs.declared.value.Value.{Value}
use Rattle.base_values.specs.declared.gho_schema.schema.Schema.{Schema}
use Rattle.base_values.specs.GhoSchema.Rows.{key_places, with_row}
use Rattle.base_values.specs.GhoSchema.Tables.{clash, IsRow, IsTable}
use Rattle.base_values.specs.declared.event.Change.{Change}
use Rattle.base_values.specs.declared.event.Change.TheVariants as changes
use Rattle.server_model.specs.declared.answer.Answer.{Answer}
use Rattle.server_model.specs.declared.answer.Answer.TheVariants as answers
use Rattle.server_model.specs.Answers.{refuses}
use Rattle.table_store.proofs.Orders.{Row}
use Rattle.table_store.proofs.Ascending.{all-filter}
use Rattle.server_model.specs.Rows.{reaches, rows_met, same_row, stands, without_row, change_rows, change_all}
use Rattle.server_model.specs.declared.work.Work.{Work}
use Rattle.server_model.specs.declared.work.Work.TheVariants.{Refuse, Insert, Copy, Replace, Delete, Update, Select}
use Rattle.server_model.specs.StatementResults.{only, displaced, with_sets, clashes_besides, change_first, updates, updated, tells, result_or_refusal}
use Rattle.server_model.specs.LockedRows.Coverage.{SetsFit, IsSound}
use Rattle.base_values.specs.Laws.{StoresNullWhereNullable}
use Rattle.base_values.specs.declared.gho_schema.schema.Column.{Column}
use Rattle.table_store.specs.ClusteredKeys.{HasClusteredKey}
use Rattle.table_store.specs.Databases.{clashing}
use Rattle.table_store.proofs.TableLaws.{put_keeps, some_rows}
use Rattle.base_values.proofs.StoredValues.{keeps}
use Rattle.base_values.specs.declared.value.Value.TheVariants.{Null}
use Rattle.server_model.proofs.LockedRows.Standing.{one_row, same_itself, stands-filter, some_row, found_by}
use Rattle.server_model.proofs.LockedRows.Tests.{nor_left, nor_right}

pub nulls : StoresNullWhereNullable
nulls value kind nullable is = (keeps value kind nullable Null is).null refl

well_formed_gone : (schema : Schema) (gone : Row) (rows : List Row) → IsTable schema rows → IsTable schema (without_row gone rows)
well_formed_gone schema gone rows are = some_rows schema (λ other. not (same_row gone other)) rows are

none_clashing : (schema : Schema) (new : Row) (rows : List Row) → list_any (clash schema.uniques new) rows ≡ false → clashing (record { schema = schema; rows = rows }) new None ≡ None
none_clashing schema new [] none = refl
none_clashing schema new (row ∷ rows) none =
    rw (nor_left (clash schema.uniques new row) (list_any (clash schema.uniques new) rows) none) (none_clashing schema new rows (nor_right (clash schema.uniques new row) (list_any (clash schema.uniques new) rows) none))

-- a table with a row that clashes with none
pub well_formed_put : (schema : Schema) → HasClusteredKey schema → (new : Row) (rows : List Row) → IsRow schema.columns new → list_any (clash schema.uniques new) rows ≡ false → IsTable schema rows → IsTable schema (with_row (key_places schema) new rows)
well_formed_put schema key new rows fits none are = (put_keeps nulls (record { schema = schema; rows = rows }) new key are fits (none_clashing schema new rows none)).1

-- a row with columns set
pub with_sets_row : (columns : List Column) (sets : List (Option Value)) (row : Row) → SetsFit columns sets → IsRow columns row → IsRow columns (with_sets sets row)
unfolding with_sets
with_sets_row columns [] row fit is = is
with_sets_row [] (set ∷ sets) [] fit is = tt
with_sets_row [] (set ∷ sets) (value ∷ row) fit is = absurd is
with_sets_row (column ∷ columns) (set ∷ sets) [] fit is = absurd is
with_sets_row (column ∷ columns) (None ∷ sets) (value ∷ row) fit is = (is.0, with_sets_row columns sets row fit is.1)
with_sets_row (column ∷ columns) (Some new ∷ sets) (value ∷ row) fit is = (fit.0, with_sets_row columns sets row fit.1 is.1)

-- rows besides those that are removed
removals_well_formed : (schema : Schema) (gone rows : List Row) → IsTable schema rows → IsTable schema (change_all (key_places schema) (map changes.Delete gone) rows)
unfolding change_all change_rows
removals_well_formed schema [] rows are = are
removals_well_formed schema (row ∷ gone) rows are = removals_well_formed schema gone (without_row row rows) (well_formed_gone schema row rows are)

pub record Left (row : Row) (gone rows : List Row) : Type 0 where
  pub stood : stands row rows ≡ true
  pub stays : stands row gone ≡ false

left_over : (places : List ℕ) (row : Row) (gone rows : List Row) → stands row (change_all places (map changes.Delete gone) rows) ≡ true → Left row gone rows
unfolding change_all change_rows stands
left_over places row [] rows stood = record { stood = stood; stays = refl }
left_over places row (first ∷ gone) rows stood =
    let rest : Left row gone (without_row first rows) = left_over places row gone (without_row first rows) stood in
    let both : (stands row rows && not (same_row first row)) ≡ true = sym (stands-filter (λ other. not (same_row first other)) row rows) ∙ rest.stood in
    record { stood = (and_parts (stands row rows) (not (same_row first row)) both).0; stays = rw rest.stays (apart (same_row row first) refl ((and_parts (stands row rows) (not (same_row first row)) both).1)) } where
      apart : (b : Bool) → same_row row first ≡ b → not (same_row first row) ≡ true → (b || false) ≡ false
      apart true same not_same =
          let yes : same_row first row ≡ true = ap (λ (r : Row). same_row first r) (one_row row first same) ∙ same_itself first in
          absurd (true≢false (sym not_same ∙ ap not yes))
      apart false same not_same = refl

none_displaced : (schema : Schema) (row : Row) (rows : List Row) → list_any (clash schema.uniques row) (change_all (key_places schema) (map changes.Delete (displaced schema row rows)) rows) ≡ false
none_displaced schema row rows =
    false_from_ne_true (list_any (clash schema.uniques row) (change_all (key_places schema) (map changes.Delete (displaced schema row rows)) rows)) (λ some.
    let one = some_row (clash schema.uniques row) (change_all (key_places schema) (map changes.Delete (displaced schema row rows)) rows) some in
    let left : Left one.row (displaced schema row rows) rows = left_over (key_places schema) one.row (displaced schema row rows) rows one.stands in
    let yes : stands one.row (displaced schema row rows) ≡ true = stands-filter (clash schema.uniques row) one.row rows ∙ rw (left.stood, one.passes) refl in
    true≢false (sym yes ∙ left.stays))

pub change_all-append : (places : List ℕ) (a b : List Change) (rows : List Row) → change_all places (a ++ b) rows ≡ change_all places b (change_all places a rows)
unfolding change_all
change_all-append places [] b rows = refl
change_all-append places (x ∷ a) b rows = change_all-append places a b (change_rows places x rows)

-- an UPDATE row by row
abbrev pub ResultWellFormed : Schema → List Row → Result (List Change) Answer → Type 0
ResultWellFormed schema rows (Ok all) = IsTable schema (change_all (key_places schema) all rows)
ResultWellFormed schema rows (Err refusal) = Unit {0}

one_more : (schema : Schema) (change : Change) (rows : List Row) (result : Result (List Change) Answer) → ResultWellFormed schema (change_rows (key_places schema) change rows) result → ResultWellFormed schema rows (change_first change result)
unfolding change_all
one_more schema change rows (Ok all) later = later
one_more schema change rows (Err refusal) later = tt

updates_here : (schema : Schema) (rows : List Row) (b c : Bool) (still later : Result (List Change) Answer) → ResultWellFormed schema rows still → (c ≡ false → ResultWellFormed schema rows later) → ResultWellFormed schema rows (cond b still (cond c (Err (refuses ER_DUP_ENTRY)) later))
updates_here schema rows true c still later one two = one
updates_here schema rows false true still later one two = tt
updates_here schema rows false false still later one two = two refl

pub none_besides : (schema : Schema) (new old : Row) (rows : List Row) → clashes_besides schema new old rows ≡ false → list_any (clash schema.uniques new) (without_row old rows) ≡ false
none_besides schema new old rows none =
    false_from_ne_true (list_any (clash schema.uniques new) (without_row old rows)) (λ some.
    let one = some_row (clash schema.uniques new) (without_row old rows) some in
    let both : (stands one.row rows && not (same_row old one.row)) ≡ true = sym (stands-filter (λ other. not (same_row old other)) one.row rows) ∙ one.stands in
    let other : not (same_row old one.row) ≡ true = (and_parts (stands one.row rows) (not (same_row old one.row)) both).1 in
    let yes : clashes_besides schema new old rows ≡ true = found_by (λ other. clash schema.uniques new other && not (same_row old other)) rows one.row ((and_parts (stands one.row rows) (not (same_row old one.row)) both).0) (rw (one.passes, other) refl) in
    true≢false (sym yes ∙ none))

updates_well_formed : (schema : Schema) → HasClusteredKey schema → (sets : List (Option Value)) → SetsFit schema.columns sets → (met rows : List Row) → AllByRecursion (IsRow schema.columns) met → IsTable schema rows
    → ResultWellFormed schema rows (updates schema sets met rows)
unfolding updates change_all change_rows
updates_well_formed schema key sets sound [] rows full are = are
updates_well_formed schema key sets sound (old ∷ met) rows full are =
    let new : Row = with_sets sets old in
    let change : Change = changes.Update old (with_sets sets old) in
    updates_here schema rows (same_row old (with_sets sets old)) (clashes_besides schema (with_sets sets old) old rows) (updates schema sets met rows) (change_first change (updates schema sets met (change_rows (key_places schema) change rows)))
    (updates_well_formed schema key sets sound met rows full.1 are)
    (λ none. one_more schema change rows (updates schema sets met (change_rows (key_places schema) change rows)) (updates_well_formed schema key sets sound met (change_rows (key_places schema) change rows) full.1
    (well_formed_put schema key (with_sets sets old) (without_row old rows) (with_sets_row schema.columns sets old sound full.0) (none_besides schema (with_sets sets old) old rows none) (well_formed_gone schema old rows are))))

reported_well_formed : (schema : Schema) (rows : List Row) (result : Result (List Change) Answer) → IsTable schema rows → ResultWellFormed schema rows result → IsTable schema (change_all (key_places schema) (result_or_refusal result).changes rows)
unfolding change_all
reported_well_formed schema rows (Ok all) are then = then
reported_well_formed schema rows (Err refusal) are then = are

inserted_well_formed : (schema : Schema) → HasClusteredKey schema → (row : Row) (rows : List Row) (refusal : Answer) (b : Bool) → list_any (clash schema.uniques row) rows ≡ b → IsRow schema.columns row → IsTable schema rows
    → IsTable schema (change_all (key_places schema) (cond b (only refusal) (record { answer = answers.Ok 1; changes = changes.Write row ∷ [] })).changes rows)
unfolding change_all change_rows
inserted_well_formed schema key row rows refusal true none full are = are
inserted_well_formed schema key row rows refusal false none full are = well_formed_put schema key row rows full none are

refused_well_formed : (schema : Schema) (at : _) (met rows : List Row) → IsTable schema rows → IsTable schema (change_all (key_places schema) (updated schema (Err at) met rows).changes rows)
unfolding change_all
refused_well_formed schema at [] rows are = are
refused_well_formed schema at (row ∷ met) rows are = are

replaced_well_formed : (schema : Schema) → HasClusteredKey schema → (row : Row) (rows : List Row) → IsRow schema.columns row → IsTable schema rows → IsTable schema (change_all (key_places schema) (map changes.Delete (displaced schema row rows) ++ (changes.Write row ∷ [])) rows)
unfolding change_all change_rows
replaced_well_formed schema key row rows full are =
    let left : List Row = change_all (key_places schema) (map changes.Delete (displaced schema row rows)) rows in
    rw (change_all-append (key_places schema) (map changes.Delete (displaced schema row rows)) (changes.Write row ∷ []) rows)
    (well_formed_put schema key row left full (none_displaced schema row rows) (removals_well_formed schema (displaced schema row rows) rows are))

-- what a statement leaves is in order
pub tells_well_formed : (schema : Schema) → HasClusteredKey schema → (rows : List Row) (work : Work) → IsSound schema.columns work → IsTable schema rows → IsTable schema (change_all (key_places schema) (tells schema rows work).changes rows)
unfolding tells change_all
tells_well_formed schema key rows (Refuse refusal) sound are = are
tells_well_formed schema key rows (Insert row) sound are = inserted_well_formed schema key row rows (refuses ER_DUP_ENTRY) (list_any (clash schema.uniques row) rows) refl sound are
tells_well_formed schema key rows (Copy row) sound are = inserted_well_formed schema key row rows (answers.Ok 0) (list_any (clash schema.uniques row) rows) refl sound are
tells_well_formed schema key rows (Replace row) sound are = replaced_well_formed schema key row rows sound are
tells_well_formed schema key rows (Delete reach) sound are = removals_well_formed schema (rows_met schema reach rows) rows are
tells_well_formed schema key rows (Update reach (Err at)) sound are = refused_well_formed schema at (rows_met schema reach rows) rows are
tells_well_formed schema key rows (Update reach (Ok sets)) sound are =
    reported_well_formed schema rows (updates schema sets (rows_met schema reach rows) rows) are
    (updates_well_formed schema key sets sound (rows_met schema reach rows) rows (all-filter (IsRow schema.columns) (reaches schema reach) rows are.rows_fit) are)
tells_well_formed schema key rows (Select reach selection) sound are = are
