-- What a statement changes fits the rows of its table, change by change.
use Rattle.std.proofs.Common.{◌≡◌, ℕ, Bool, true, false, List, [], ◌∷◌, ◌++◌, map, cond, Option, Result, Ok, Err, refl, subst}
use Rattle.std.specs.List.{list_any}
use Rattle.base_values.specs.declared.value.Value.{Value}
use Rattle.base_values.specs.declared.gho_schema.schema.Schema.{Schema}
use Rattle.base_values.specs.GhoSchema.Rows.{key_places}
use Rattle.base_values.specs.GhoSchema.Tables.{clash, IsRow, IsTable}
use Rattle.base_values.specs.declared.row_conversion.conversion_fault.UnfitAt.{UnfitAt}
use Rattle.base_values.specs.declared.event.Change.{Change}
use Rattle.base_values.specs.declared.event.Change.TheVariants as changes
use Rattle.base_values.specs.declared.mysql_errors.TheConstants.{ER_DUP_ENTRY}
use Rattle.table_store.specs.ClusteredKeys.{HasClusteredKey}
use Rattle.table_store.proofs.Orders.{Row}
use Rattle.server_model.specs.declared.answer.Answer.{Answer}
use Rattle.server_model.specs.declared.answer.Answer.TheVariants as answers
use Rattle.server_model.specs.declared.work.Work.{Work}
use Rattle.server_model.specs.declared.work.Work.TheVariants.{Refuse, Insert, Copy, Replace, Delete, Update, Select}
use Rattle.server_model.specs.Answers.{refuses}
use Rattle.server_model.specs.Rows.{reaches, rows_met, same_row, without_row, change_rows, change_all}
use Rattle.server_model.specs.StatementResults.{only, displaced, with_sets, clashes_besides, change_first, updates, updated, result_or_refusal, tells}
use Rattle.server_model.specs.LockedRows.Coverage.{SetsFit, IsSound}
use Rattle.server_model.proofs.LockedRows.WellFormed.{well_formed_put, tells_well_formed, change_all-append}
use Rattle.server_seen.specs.FittingChanges.{AllFit}
use Rattle.server_execute.specs.RowUpdates.{AreMet}
use Rattle.server_execute.specs.Laws.{ReportedChangesFit}
use Rattle.server_execute.proofs.NewKeys.{new_from}
use Rattle.server_execute.proofs.ChangedRows.{are_met, met_without, IsChanged, changed_one}

-- changes behind others
fit-append : (places : List ℕ) (a b : List Change) (rows : List Row) → AllFit places a rows → AllFit places b (change_all places a rows) → AllFit places (a ++ b) rows
unfolding AllFit change_all
fit-append places [] b rows one two = two
fit-append places (change ∷ a) b rows one two = (one.0, fit-append places a b (change_rows places change rows) one.1 two)

-- rows that are met are removed
deletes_fit : (places : List ℕ) (met rows : List Row) → AreMet places met rows → AllFit places (map changes.Delete met) rows
unfolding AllFit change_rows
deletes_fit places [] rows are = tt
deletes_fit places (row ∷ met) rows are = (are.stand.0, deletes_fit places met (without_row row rows) (met_without places row met rows are))

-- a row is written that clashes with none
written_fits : (schema : Schema) → HasClusteredKey schema → (row : Row) (rows : List Row) (refusal : Answer) (b : Bool) → list_any (clash schema.uniques row) rows ≡ b → IsRow schema.columns row → IsTable schema rows
    → AllFit (key_places schema) (cond b (only refusal) (record { answer = answers.Ok 1; changes = changes.Write row ∷ [] })).changes rows
unfolding AllFit
written_fits schema key row rows refusal true is full are = tt
written_fits schema key row rows refusal false is full are = (new_from (key_places schema) row rows (well_formed_put schema key row rows full is are).ascends, tt)

-- a row is written in place of those that it clashes with
last_fits : (schema : Schema) (row : Row) (rows : List Row) → IsTable schema (change_all (key_places schema) (changes.Write row ∷ []) rows) → AllFit (key_places schema) (changes.Write row ∷ []) rows
unfolding AllFit change_all change_rows
last_fits schema row rows are = (new_from (key_places schema) row rows are.ascends, tt)

replaced_fits : (schema : Schema) → HasClusteredKey schema → (row : Row) (rows : List Row) → IsRow schema.columns row → IsTable schema rows → AllFit (key_places schema) (map changes.Delete (displaced schema row rows) ++ (changes.Write row ∷ [])) rows
unfolding tells
replaced_fits schema key row rows full are =
    let places : List ℕ = key_places schema in
    let gone : List Change = map changes.Delete (displaced schema row rows) in
    let left : IsTable schema (change_all (key_places schema) (changes.Write row ∷ []) (change_all (key_places schema) (map changes.Delete (displaced schema row rows)) rows)) =
    subst (IsTable schema) (change_all-append places gone (changes.Write row ∷ []) rows) (tells_well_formed schema key rows (Replace row) full are) in
    fit-append places gone (changes.Write row ∷ []) rows (deletes_fit places (displaced schema row rows) rows (are_met places (clash schema.uniques row) rows are.ascends)) (last_fits schema row (change_all places gone rows) left)

-- rows that are met are changed one by one
abbrev pub ResultFits : List ℕ → List Row → Result (List Change) Answer → Type 0
ResultFits places rows (Ok all) = AllFit places all rows
ResultFits places rows (Err refusal) = Unit {0}

one_more : (places : List ℕ) (change : Change) (rows : List Row) (result : Result (List Change) Answer) → AllFit places (change ∷ []) rows → ResultFits places (change_rows places change rows) result → ResultFits places rows (change_first change result)
unfolding AllFit
one_more places change rows (Ok all) first later = (first.0, later)
one_more places change rows (Err refusal) first later = tt

updates_here : (places : List ℕ) (rows : List Row) (b c : Bool) (still later : Result (List Change) Answer) → ResultFits places rows still → (c ≡ false → ResultFits places rows later) → ResultFits places rows (cond b still (cond c (Err (refuses ER_DUP_ENTRY)) later))
updates_here places rows true c still later one two = one
updates_here places rows false true still later one two = tt
updates_here places rows false false still later one two = two refl

still_met : (places : List ℕ) (old : Row) (met rows : List Row) → AreMet places (old ∷ met) rows → AreMet places met rows
still_met places old met rows are = record { ascends = are.ascends.1; stand = are.stand.1 }

updates_fit : (schema : Schema) → HasClusteredKey schema → (sets : List (Option Value)) → SetsFit schema.columns sets → (met rows : List Row) → AreMet (key_places schema) met rows → IsTable schema rows → ResultFits (key_places schema) rows (updates schema sets met rows)
unfolding updates AllFit
updates_fit schema key sets sound [] rows are is_table = tt
updates_fit schema key sets sound (old ∷ met) rows are is_table =
    let places : List ℕ = key_places schema in
    let change : Change = changes.Update old (with_sets sets old) in
    updates_here places rows (same_row old (with_sets sets old)) (clashes_besides schema (with_sets sets old) old rows) (updates schema sets met rows) (change_first change (updates schema sets met (change_rows places change rows)))
    (updates_fit schema key sets sound met rows (still_met places old met rows are) is_table)
    (λ none.
    let here : IsChanged schema old (with_sets sets old) met rows = changed_one schema key sets sound old met rows are is_table none in
    one_more places change rows (updates schema sets met (change_rows places change rows)) (here.fits, tt) (updates_fit schema key sets sound met (change_rows places change rows) here.after_met here.is_table))

result_fits : (places : List ℕ) (rows : List Row) (result : Result (List Change) Answer) → ResultFits places rows result → AllFit places (result_or_refusal result).changes rows
unfolding AllFit
result_fits places rows (Ok all) fit = fit
result_fits places rows (Err refusal) fit = tt

refused_fits : (schema : Schema) (at : UnfitAt) (met rows : List Row) → AllFit (key_places schema) (updated schema (Err at) met rows).changes rows
unfolding AllFit
refused_fits schema at [] rows = tt
refused_fits schema at (row ∷ met) rows = tt

nothing_fits : (places : List ℕ) (rows : List Row) → AllFit places [] rows
unfolding AllFit
nothing_fits places rows = tt

all_fit : (schema : Schema) → HasClusteredKey schema → (rows : List Row) (work : Work) → IsSound schema.columns work → IsTable schema rows → AllFit (key_places schema) (tells schema rows work).changes rows
unfolding tells
all_fit schema key rows (Refuse refusal) sound are = nothing_fits (key_places schema) rows
all_fit schema key rows (Insert row) sound are = written_fits schema key row rows (refuses ER_DUP_ENTRY) (list_any (clash schema.uniques row) rows) refl sound are
all_fit schema key rows (Copy row) sound are = written_fits schema key row rows (answers.Ok 0) (list_any (clash schema.uniques row) rows) refl sound are
all_fit schema key rows (Replace row) sound are = replaced_fits schema key row rows sound are
all_fit schema key rows (Delete reach) sound are = deletes_fit (key_places schema) (rows_met schema reach rows) rows (are_met (key_places schema) (reaches schema reach) rows are.ascends)
all_fit schema key rows (Update reach (Err at)) sound are = refused_fits schema at (rows_met schema reach rows) rows
all_fit schema key rows (Update reach (Ok sets)) sound are =
    result_fits (key_places schema) rows (updates schema sets (rows_met schema reach rows) rows)
    (updates_fit schema key sets sound (rows_met schema reach rows) rows (are_met (key_places schema) (reaches schema reach) rows are.ascends) are)
all_fit schema key rows (Select reach selection) sound are = nothing_fits (key_places schema) rows

pub reported_fit : ReportedChangesFit
reported_fit table work well_formed sound = all_fit table.schema well_formed.keyed table.rows work sound well_formed.is_table
