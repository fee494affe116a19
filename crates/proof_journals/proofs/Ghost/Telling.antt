-- What a statement changes goes with the rows, change by change.
use Rattle.std.proofs.Common.{◌≡◌, ℕ, Bool, true, false, not, ◌||◌, List, [], ◌∷◌, map, find, filter, cond, Option, Some, Result, Ok, Err, Less, refl, sym, ap, ◌∙◌, subst}
use Rattle.std.proofs.Math.Bool.{or-true}
use Rattle.std.proofs.lemmas.Bool.{true≢false}
use Rattle.std.specs.List.{AllByRecursion, list_any}
use Rattle.base_values.specs.declared.value.Value.{Value}
use Rattle.base_values.specs.KeyOrder.{compare_keys}
use Rattle.base_values.specs.declared.gho_schema.schema.Schema.{Schema}
use Rattle.base_values.specs.GhoSchema.Rows.{key_of, key_places}
use Rattle.base_values.specs.GhoSchema.Tables.{IsRow, IsTable, Ascends, clash}
use Rattle.base_values.specs.declared.event.Change.{Change}
use Rattle.base_values.specs.declared.event.Change.TheVariants as changes
use Rattle.base_values.specs.declared.mysql_errors.TheConstants.{ER_DUP_ENTRY}
use Rattle.server_model.specs.declared.answer.Answer.{Answer}
use Rattle.server_model.specs.declared.answer.Answer.TheVariants as answers
use Rattle.table_store.specs.ClusteredKeys.{HasClusteredKey}
use Rattle.table_store.specs.RowLists.{is_at}
use Rattle.table_store.proofs.Orders.{Row}
use Rattle.table_store.proofs.Ascending.{all-filter, ascends-filter}
use Rattle.server_model.specs.declared.work.Work.{Work}
use Rattle.server_model.specs.declared.work.Work.TheVariants.{Refuse, Insert, Copy, Replace, Delete, Update, Select}
use Rattle.proof_journals.proofs.Ghost.Changing.{found_stands, same_change, stands_found}
use Rattle.proof_journals.proofs.Ghost.Rows.Committing.{fits_none}
use Rattle.proof_journals.proofs.Ghost.Rows.Finishing.{all_found}
use Rattle.proof_journals.proofs.Ghost.Rows.TimelineLaws.{change_keeps}
use Rattle.proof_journals.proofs.Ghost.Rows.Writing.{fits_one, replacing_fits, taken_fit}
use Rattle.proof_journals.specs.Ghost.Rows.Moments.{Fits, FitsAll, NoneClashes, rows_after}
use Rattle.server_model.proofs.LockedRows.OneRow.{same_removal}
use Rattle.server_model.specs.Answers.{refuses}
use Rattle.server_model.specs.Rows.{change_rows, reaches, rows_met, same_row, stands, without_row}
use Rattle.server_model.specs.StatementResults.{change_first, clashes_besides, only, result_or_refusal, tells, updated, updates, with_sets}
use Rattle.server_model.proofs.LockedRows.WellFormed.{none_besides, with_sets_row}
use Rattle.server_model.proofs.LockedRows.Standing.{stands-filter, stands-put, other_row}
use Rattle.server_model.specs.LockedRows.Coverage.{IsSound, SetsFit}

-- no row clashes where none is found to
none_of : (test : Row → Bool) (row : Row) (rows : List Row) (b : Bool) → test row ≡ b → (b || list_any test rows) ≡ false → (list_any test rows ≡ false → AllByRecursion (λ other. test other ≡ false) rows) → AllByRecursion (λ other. test other ≡ false) (row ∷ rows)
none_of test row rows true is none rest = absurd (true≢false none)
none_of test row rows false is none rest = (is, rest none)

pub none_any : (test : Row → Bool) (rows : List Row) → list_any test rows ≡ false → AllByRecursion (λ other. test other ≡ false) rows
none_any test [] none = tt
none_any test (row ∷ rows) none = none_of test row rows (test row) refl none (none_any test rows)

insert_fits : (schema : Schema) (row : Row) (rows : List Row) (refusal : Answer) (b : Bool) → list_any (clash schema.uniques row) rows ≡ b → IsRow schema.columns row → FitsAll schema rows (cond b (only refusal) (record { answer = answers.Ok 1; changes = changes.Write row ∷ [] })).changes
insert_fits schema row rows refusal true none fits = fits_none schema rows
insert_fits schema row rows refusal false none fits = fits_one schema (changes.Write row) rows (fits, none_any (clash schema.uniques row) rows none)

-- rows that are met are taken out one by one
pub removals_fit : (schema : Schema) (test : Row → Bool) (rows : List Row) → IsTable schema rows → FitsAll schema rows (map changes.Delete (filter test rows))
removals_fit schema test rows is =
    let places : List ℕ = key_places schema in
    taken_fit schema (filter test rows) rows (ascends-filter places test rows is.ascends) (all-filter (λ other. find (is_at places (key_of places other)) rows ≡ Some other) test rows (all_found places rows is.ascends))

-- an UPDATE row by row
abbrev pub ResultFits : Schema → List Row → Result (List Change) Answer → Type 0
ResultFits schema rows (Ok all) = FitsAll schema rows all
ResultFits schema rows (Err refusal) = Unit {0}

one_first : (schema : Schema) (change : Change) (rows after : List Row) (result : Result (List Change) Answer) → Fits schema rows change → after ≡ rows_after (key_places schema) change rows → ResultFits schema after result → ResultFits schema rows (change_first change result)
unfolding FitsAll
one_first schema change rows after (Ok all) fits same later = (fits, subst (λ (r : List Row). FitsAll schema r all) same later)
one_first schema change rows after (Err refusal) fits same later = tt

either_way : (schema : Schema) (rows : List Row) (b c : Bool) (still later : Result (List Change) Answer) → ResultFits schema rows still → (c ≡ false → ResultFits schema rows later) → ResultFits schema rows (cond b still (cond c (Err (refuses ER_DUP_ENTRY)) later))
either_way schema rows true c still later one two = one
either_way schema rows false true still later one two = tt
either_way schema rows false false still later one two = two refl

-- they stand behind the change of that one
still_stands : (places : List ℕ) (old new other : Row) (rows : List Row) → same_row old other ≡ false → stands other rows ≡ true → stands other (change_rows places (changes.Update old new) rows) ≡ true
unfolding change_rows
still_stands places old new other rows differs stood =
    stands-put places other new (without_row old rows) ∙ ap (λ (s : Bool). same_row other new || s) (stands-filter (λ r. not (same_row old r)) other rows ∙ rw (stood, differs) refl) ∙ or-true (same_row other new)

all_exist : (places : List ℕ) (old new : Row) (met rows : List Row) → AllByRecursion (λ other. compare_keys (key_of places old) (key_of places other) ≡ Less) met → AllByRecursion (λ other. stands other rows ≡ true) met
    → AllByRecursion (λ other. stands other (change_rows places (changes.Update old new) rows) ≡ true) met
all_exist places old new [] rows less stood = tt
all_exist places old new (other ∷ met) rows less stood =
    (still_stands places old new other rows (other_row places old other (same_row old other) refl less.0) stood.0, all_exist places old new met rows less.1 stood.1)

update_fits : (schema : Schema) → (old new : Row) (rows : List Row) → IsTable schema rows → stands old rows ≡ true → IsRow schema.columns new → clashes_besides schema new old rows ≡ false → Fits schema rows (changes.Update old new)
update_fits schema old new rows is stood fits none =
    let places : List ℕ = key_places schema in (
      stands_found places old rows is.ascends stood,
      fits,
      subst (NoneClashes schema.uniques new) (sym (same_removal places old rows is.ascends stood)) (none_any (clash schema.uniques new) (without_row old rows) (none_besides schema new old rows none)),
    )

pub updates_fit : (schema : Schema) → HasClusteredKey schema → (sets : List (Option Value)) → SetsFit schema.columns sets → (met rows : List Row) → AllByRecursion (IsRow schema.columns) met → Ascends (key_places schema) met
    → AllByRecursion (λ row. stands row rows ≡ true) met → IsTable schema rows → ResultFits schema rows (updates schema sets met rows)
unfolding updates
updates_fit schema has sets sound [] rows full ascends stood is = fits_none schema rows
updates_fit schema has sets sound (old ∷ met) rows full ascends stood is =
    let places : List ℕ = key_places schema in
    let new : Row = with_sets sets old in
    let change : Change = changes.Update old new in
    let then : List Row = change_rows places change rows in
    either_way schema rows (same_row old (with_sets sets old)) (clashes_besides schema (with_sets sets old) old rows) (updates schema sets met rows) (change_first change (updates schema sets met (change_rows (key_places schema) change rows)))
    (updates_fit schema has sets sound met rows full.1 ascends.1 stood.1 is)
    (λ none.
    let fits : Fits schema rows change = update_fits schema old new rows is stood.0 (with_sets_row schema.columns sets old sound full.0) none in
    let same : then ≡ rows_after places change rows = same_change schema has change rows is fits in
    one_first schema change rows then (updates schema sets met then) fits same
    (updates_fit schema has sets sound met then full.1 ascends.1 (all_exist places old new met rows ascends.0 stood.1) (subst (IsTable schema) (sym same) (change_keeps schema has change rows is fits))))

reported_fits : (schema : Schema) (rows : List Row) (result : Result (List Change) Answer) → ResultFits schema rows result → FitsAll schema rows (result_or_refusal result).changes
reported_fits schema rows (Ok all) fits = fits
reported_fits schema rows (Err refusal) fits = fits_none schema rows

refused_fits : (schema : Schema) (at : _) (met rows : List Row) → FitsAll schema rows (updated schema (Err at) met rows).changes
refused_fits schema at [] rows = fits_none schema rows
refused_fits schema at (row ∷ met) rows = fits_none schema rows

rows_stand : (places : List ℕ) (rows : List Row) → (all : List Row) → AllByRecursion (λ other. find (is_at places (key_of places other)) all ≡ Some other) rows → AllByRecursion (λ other. stands other all ≡ true) rows
rows_stand places [] all found = tt
rows_stand places (row ∷ rows) all found = (found_stands (is_at places (key_of places row)) row all found.0, rows_stand places rows all found.1)

-- *What a statement changes goes with the rows.*
pub tells_fit : (schema : Schema) → HasClusteredKey schema → (rows : List Row) (work : Work) → IsSound schema.columns work → IsTable schema rows → FitsAll schema rows (tells schema rows work).changes
unfolding tells
tells_fit schema has rows (Refuse refusal) sound is = fits_none schema rows
tells_fit schema has rows (Insert row) sound is = insert_fits schema row rows (refuses ER_DUP_ENTRY) (list_any (clash schema.uniques row) rows) refl sound
tells_fit schema has rows (Copy row) sound is = insert_fits schema row rows (answers.Ok 0) (list_any (clash schema.uniques row) rows) refl sound
tells_fit schema has rows (Replace row) sound is = replacing_fits schema row rows is sound
tells_fit schema has rows (Delete reach) sound is = removals_fit schema (reaches schema reach) rows is
tells_fit schema has rows (Update reach (Err at)) sound is = refused_fits schema at (rows_met schema reach rows) rows
tells_fit schema has rows (Update reach (Ok sets)) sound is =
    let places : List ℕ = key_places schema in
    let met : List Row = rows_met schema reach rows in
    reported_fits schema rows (updates schema sets met rows)
    (updates_fit schema has sets sound met rows (all-filter (IsRow schema.columns) (reaches schema reach) rows is.rows_fit) (ascends-filter places (reaches schema reach) rows is.ascends)
    (all-filter (λ other. stands other rows ≡ true) (reaches schema reach) rows (rows_stand places rows rows (all_found places rows is.ascends))) is)
tells_fit schema has rows (Select reach showing) sound is = fits_none schema rows
