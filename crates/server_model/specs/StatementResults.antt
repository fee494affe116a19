-- *What a statement says* of the rows of its table: its answer and its changes. Each is defined on the rows that the
-- statement reaches and on those that clash with its new rows, and on nothing else.
use Rattle.std.specs.Prelude.{pos, ◌+◌, Bool, not, ◌&&◌, if◌then◌else◌, List, [], ◌∷◌, ◌++◌, length, filter, map, Option, Some, None, Result, Ok, Err}
use Rattle.std.specs.List.{list_any, flat_map, slice_get}
use Rattle.std.specs.Option.{option_to_list}
use Rattle.base_values.specs.declared.value.Value.{Value}
use Rattle.base_values.specs.declared.value.Value.TheVariants.{Num}
use Rattle.base_values.specs.declared.gho_schema.schema.Schema.{Schema}
use Rattle.base_values.specs.GhoSchema.Rows.{key_places}
use Rattle.base_values.specs.GhoSchema.Tables.{clash}
use Rattle.base_values.specs.declared.row_conversion.conversion_fault.UnfitAt.{UnfitAt}
use Rattle.base_values.specs.declared.event.Change.{Change}
use Rattle.base_values.specs.declared.event.Change.TheVariants as changes
use Rattle.base_values.specs.declared.mysql_errors.TheConstants.{ER_DUP_ENTRY}
use Rattle.server_model.specs.declared.answer.Answer.{Answer}
use Rattle.server_model.specs.Answers.{refuses, refuses_value}
use Rattle.server_model.specs.declared.answer.Answer.TheVariants as answers
use Rattle.server_model.specs.Rows.{rows_met, same_row, change_rows}
use Rattle.server_model.specs.declared.work.Selection.{Selection}
use Rattle.server_model.specs.declared.work.Selection.TheVariants.{AllColumns, Columns, Count}
use Rattle.server_model.specs.declared.work.Work.{Work}
use Rattle.server_model.specs.declared.work.Work.TheVariants.{Refuse, Insert, Copy, Replace, Delete, Update, Select}

-- an answer, and the changes of the table's rows
pub record TableResult : Type 0 where
  pub answer : Answer
  pub changes : List Change

-- an answer that changes nothing
abbrev pub only : Answer → TableResult
only answer = record { answer = answer; changes = [] }

-- the rows that clash with a new one, in order of the clustered key
abbrev pub displaced : Schema → List Value → List (List Value) → List (List Value)
displaced schema row rows = filter (clash schema.uniques row) rows

-- the row with its columns set to these values, where there are such
unfoldable pub with_sets : List (Option Value) → List Value → List Value
with_sets [] row = row
with_sets (set ∷ sets) [] = []
with_sets (None ∷ sets) (value ∷ row) = value ∷ with_sets sets row
with_sets (Some new ∷ sets) (value ∷ row) = new ∷ with_sets sets row

-- the new row clashes with one besides the row that it takes the place of
abbrev pub clashes_besides : Schema → List Value → List Value → List (List Value) → Bool
clashes_besides schema new old rows = list_any (λ other. clash schema.uniques new other && not (same_row old other)) rows

-- one change more in front, unless there was a refusal
abbrev pub change_first : Change → Result (List Change) Answer → Result (List Change) Answer
change_first change (Ok others) = Ok (change ∷ others)
change_first change (Err refusal) = Err refusal

-- The changes of an UPDATE, row by row in order of the clustered key, where the rows that it reaches and all rows of the
-- table are these: ER_DUP_ENTRY where a new row clashes with one of the rows as then changed. Rows that stay as they are
-- make no change.
unfoldable pub updates : Schema → List (Option Value) → List (List Value) → List (List Value) → Result (List Change) Answer
updates schema sets [] rows = Ok []
updates schema sets (old ∷ met) rows =
    if same_row old (with_sets sets old) then updates schema sets met rows
    else (if clashes_besides schema (with_sets sets old) old rows then Err (refuses ER_DUP_ENTRY)
    else change_first (changes.Update old (with_sets sets old)) (updates schema sets met (change_rows (key_places schema) (changes.Update old (with_sets sets old)) rows)))

-- as many rows as are changed, or the refusal
abbrev pub result_or_refusal : Result (List Change) Answer → TableResult
result_or_refusal (Ok all) = record { answer = answers.Ok (length all); changes = all }
result_or_refusal (Err refusal) = only refusal

-- an UPDATE of these rows: where its values don't store, it is refused at the first row
abbrev pub updated : Schema → Result (List (Option Value)) UnfitAt → List (List Value) → List (List Value) → TableResult
updated schema (Ok sets) met rows = result_or_refusal (updates schema sets met rows)
updated schema (Err at) [] rows = only (answers.Ok 0)
updated schema (Err at) (row ∷ met) rows = only (refuses_value at)

-- what is shown of rows: all columns, these columns, or one row with how many rows they are
abbrev pub selected : Selection → List (List Value) → Answer
selected AllColumns rows = answers.Rows rows
selected (Columns places) rows = answers.Rows (map (λ row. flat_map (λ place. option_to_list (slice_get row place)) places) rows)
selected Count rows = answers.Rows ((Num (pos (length rows)) ∷ []) ∷ [])

-- *What a statement says*
unfoldable pub tells : Schema → List (List Value) → Work → TableResult
tells schema rows (Refuse refusal) = only refusal
tells schema rows (Insert row) = if list_any (clash schema.uniques row) rows then only (refuses ER_DUP_ENTRY) else record { answer = answers.Ok 1; changes = changes.Write row ∷ [] }
tells schema rows (Copy row) = if list_any (clash schema.uniques row) rows then only (answers.Ok 0) else record { answer = answers.Ok 1; changes = changes.Write row ∷ [] }
tells schema rows (Replace row) = record { answer = answers.Ok (1 + length (displaced schema row rows)); changes = map changes.Delete (displaced schema row rows) ++ changes.Write row ∷ [] }
tells schema rows (Delete reach) = record { answer = answers.Ok (length (rows_met schema reach rows)); changes = map changes.Delete (rows_met schema reach rows) }
tells schema rows (Update reach sets) = updated schema sets (rows_met schema reach rows) rows
tells schema rows (Select reach selection) = only (selected selection (rows_met schema reach rows))
