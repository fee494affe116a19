-- The copy of a row, as work on the new table.
use Rattle.std.proofs.Common.{◌≡◌, ℕ, zero, suc, ◌+◌, ◌<◌, Bool, true, false, cond, List, [], ◌∷◌, length, find, Some, None, Ok, Err, refl, sym, ap, ◌∙◌, subst, arith}
use Rattle.std.specs.Prelude.{◌==◌}
use Rattle.std.specs.List.{AllByRecursion, list_any}
use Rattle.std.proofs.lemmas.Bool.Decides.{nat_tests}
use Rattle.std.specs.Str.{bytes_eq}
use Rattle.base_values.specs.declared.value.Value.{Value}
use Rattle.base_values.specs.declared.gho_schema.schema.Column.{Column}
use Rattle.base_values.specs.declared.gho_schema.schema.Schema.{Schema}
use Rattle.base_values.specs.GhoSchema.Rows.{key_places}
use Rattle.base_values.specs.GhoSchema.Tables.{IsRow, clash}
use Rattle.base_values.specs.declared.row_conversion.conversion_fault.UnfitAt.{UnfitAt}
use Rattle.base_values.specs.declared.row_conversion.map.MapColumn.{MapColumn}
use Rattle.base_values.specs.RowConversion.ConvertedRows.{converted_row}
use Rattle.base_values.specs.declared.event.Change.{Change}
use Rattle.table_store.specs.Databases.{Database, TableRows, find_table}
use Rattle.table_store.specs.RowLists.{is_at}
use Rattle.server_model.specs.declared.answer.Answer.{Answer}
use Rattle.server_model.specs.declared.answer.Answer.TheVariants as answers
use Rattle.server_model.specs.declared.outcome.Progress.TheVariants.{Unfit}
use Rattle.server_model.specs.declared.work.Work.{Work}
use Rattle.server_model.specs.declared.work.Work.TheVariants as works
use Rattle.server_model.specs.Answers.{refuses_value}
use Rattle.server_model.specs.Checks.{beside, new_row, places_from, row_from}
use Rattle.base_values.specs.declared.span.Span.{Span}
use Rattle.server_model.specs.Chunks.{first_keys, span_keys}
use Rattle.server_model.specs.Chunks as chunks
use Rattle.server_model.specs.Operations.{Operation, after_events, copy_operation, copy_work, events_of, operation_result}
use Rattle.server_model.specs.StatementResults.{tells}
use Rattle.tool_program.specs.declared.chunk_copier.copier.Chunk.{Chunk}
use Rattle.tool_program.specs.declared.chunk_copier.copier.Copier.{Copier}
use Rattle.tool_program.specs.declared.chunk_copier.copier.CopyStep.{CopyStep}
use Rattle.tool_program.specs.declared.chunk_copier.copier.CopyStep.TheVariants.{Copying}
use Rattle.tool_program.specs.ChunkCopier.Copiers.{progress, progress_at}
use Rattle.proof_journals.specs.Ghost.Rows.Moments.{Row}
use Rattle.proof_journals.specs.Ghost.Rows.Timelines.{Migration}
use Rattle.proof_journals.specs.Ghost.Invariant.{NotOf}
use Rattle.proof_journals.proofs.Ghost.Texts.{Stand, is_here, not_here, same_number}

-- A ROW IS STORED AS IT IS

row_kept : (place : ℕ) (columns : List Column) (made : Row) (places : List ℕ) (values : List Value) → IsRow columns made → Stand place places values made → row_from place columns places values ≡ Ok made
unfolding row_from
row_kept place [] [] places values is stand = refl
row_kept place [] (v ∷ made) places values is stand = absurd is
row_kept place (column ∷ columns) [] places values is stand = absurd is
row_kept place (column ∷ columns) (v ∷ made) places values is stand =
    let zero_more : place + 0 ≡ place = omega arith in
    let here : beside place places values ≡ Some v = ap (λ (n : ℕ). beside n places values) (sym zero_more) ∙ stand 0 in
    let rest : row_from (place + 1) columns places values ≡ Ok made =
    row_kept (place + 1) columns made places values is.1 (λ j. let e : (place + 1) + j ≡ place + (suc j) = omega arith in ap (λ (n : ℕ). beside n places values) e ∙ stand (suc j)) in
    rw (here, is.0, rest) refl

stand_all : (place : ℕ) (columns : List Column) (made : Row) → IsRow columns made → Stand place (places_from place columns) made made
unfolding beside
stand_all place [] [] is j = refl
stand_all place [] (v ∷ made) is j = absurd is
stand_all place (column ∷ columns) [] is j = absurd is
stand_all place (column ∷ columns) (v ∷ made) is zero = rw (is_here place) refl
stand_all place (column ∷ columns) (v ∷ made) is (suc j) =
    rw (not_here place j) (let e : place + (suc j) ≡ (place + 1) + j = omega arith in ap (λ (n : ℕ). beside n (places_from (place + 1) columns) made) e ∙ stand_all (place + 1) columns made is.1 j)

length_row : (place : ℕ) (columns : List Column) (made : Row) → IsRow columns made → length (places_from place columns) ≡ length made
length_row place [] [] is = refl
length_row place [] (v ∷ made) is = absurd is
length_row place (column ∷ columns) [] is = absurd is
length_row place (column ∷ columns) (v ∷ made) is = ap suc (length_row (place + 1) columns made is.1)

new_row_kept : (schema : Schema) (made : Row) → IsRow schema.columns made → new_row schema None made ≡ Ok made
unfolding new_row
new_row_kept schema made is =
    let long : (length (places_from 0 schema.columns) == length made) ≡ true = ap (λ (n : ℕ). n == length made) (length_row 0 schema.columns made is) ∙ same_number (length made) in
    rw long (row_kept 0 schema.columns made (places_from 0 schema.columns) made is (stand_all 0 schema.columns made is))

-- THE JOB

-- what the copy of this row is to do
pub copies_converted_row : (schema : Schema) (map : List MapColumn) (row made : Row) → IsRow schema.columns made → converted_row map row ≡ Ok made → copy_work (Some (converted_row map row)) schema ≡ works.Copy made
copies_converted_row schema map row made is imaged = rw (imaged, new_row_kept schema made is) refl

-- what it answers where the image doesn't fit
pub refuses_converted_row : (schema : Schema) (map : List MapColumn) (row : Row) (at : UnfitAt) → converted_row map row ≡ Err at → copy_work (Some (converted_row map row)) schema ≡ works.Refuse (refuses_value at)
refuses_converted_row schema map row at imaged = rw imaged refl

-- the copy of the row that stands at the key
pub copy_is : (seen : Database) (from into : List ℕ) (map : List MapColumn) (key row : Row) (old : TableRows) (schema : Schema) → find_table from seen ≡ Some old → find (is_at (key_places old.schema) key) old.rows ≡ Some row
    → (copy_operation seen from into map key).work schema ≡ copy_work (Some (converted_row map row)) schema
copy_is seen from into map key row old schema found stands = rw (found, stands) refl

-- events of one table are none of another's
pub not_of : (name other : List ℕ) (changes : List Change) → bytes_eq other name ≡ false → NotOf name (events_of other changes)
not_of name other [] differ = tt
not_of name other (change ∷ changes) differ = (differ, not_of name other changes differ)

-- what a row passes that is found among rows that all pass
pub found_all : (P : Row → Type 0) (test : Row → Bool) (rows : List Row) (row : Row) → AllByRecursion P rows → find test rows ≡ Some row → P row
found_all P test [] row all found = absurd cc
found_all P test (first ∷ rows) row all found = by (test first) refl found (found_all P test rows row all.1)
  where
    by : (b : Bool) → test first ≡ b → cond b (Some first) (find test rows) ≡ Some row → (find test rows ≡ Some row → P row) → P row
    by true is e rest = let same : first ≡ row = cc in subst P same all.0
    by false is e rest = rest e

-- WHAT THE JOB SAYS

-- the new table, as a session sees it
pub record NewSeen (m : Migration) (seen : Database) : Type 0 where
  pub rows : List Row
  pub is : find_table m.new.name seen ≡ Some (record { schema = m.new; rows = rows })

-- so many rows were copied
pub record Counted (seen : Database) (operation : Operation) : Type 0 where
  pub count : ℕ
  pub is : (operation_result seen operation).answer ≡ answers.Ok count

pub operation_tells : (seen : Database) (operation : Operation) (schema : Schema) (rows : List Row) (work : Work) → find_table operation.table seen ≡ Some (record { schema = schema; rows = rows }) → operation.work schema ≡ work → (operation_result seen operation).answer ≡ (tells schema rows work).answer
unfolding operation_result
operation_tells seen operation schema rows work found does = rw (found, does) refl

refuses_so : (schema : Schema) (rows : List Row) (refusal : Answer) → (tells schema rows (works.Refuse refusal)).answer ≡ refusal
unfolding tells
refuses_so schema rows refusal = refl

copies_so : (schema : Schema) (rows : List Row) (made : Row) (b : Bool) → list_any (clash schema.uniques made) rows ≡ b → (tells schema rows (works.Copy made)).answer ≡ answers.Ok (cond b 0 1)
unfolding tells
copies_so schema rows made true is = rw is refl
copies_so schema rows made false is = rw is refl

pub refused_says : (seen : Database) (operation : Operation) (schema : Schema) (rows : List Row) (refusal : Answer) → find_table operation.table seen ≡ Some (record { schema = schema; rows = rows }) → operation.work schema ≡ works.Refuse refusal → (operation_result seen operation).answer ≡ refusal
refused_says seen operation schema rows refusal found does = operation_tells seen operation schema rows (works.Refuse refusal) found does ∙ refuses_so schema rows refusal

pub copied_says : (seen : Database) (operation : Operation) (schema : Schema) (rows : List Row) (made : Row) → find_table operation.table seen ≡ Some (record { schema = schema; rows = rows }) → operation.work schema ≡ works.Copy made → Counted seen operation
copied_says seen operation schema rows made found does = by (list_any (clash schema.uniques made) rows) refl
  where
    by : (b : Bool) → list_any (clash schema.uniques made) rows ≡ b → Counted seen operation
    by b is = record { count = cond b 0 1; is = operation_tells seen operation schema rows (works.Copy made) found does ∙ copies_so schema rows made b is }

-- a refusal with a column ends the copy
pub unfit_progress : (copier : Copier) (chunk : Chunk) (copied number column : ℕ) → copier.step ≡ Copying chunk copied → progress copier (answers.Refused number (Some column)) ≡ Unfit column number
unfolding progress
unfit_progress copier chunk copied number column here = ap (λ (s : CopyStep). progress_at s (answers.Refused number (Some column))) here

-- one more is still within
pub next_within : (copied keys : ℕ) → copied < keys → ((copied + 1) == keys) ≡ false → copied + 1 < keys
next_within copied keys within differ = grind (arith, nat_tests)

-- WHAT BEGINSPAN TELLS

pub after_none : (tables : Database) → after_events tables [] ≡ tables
unfolding after_events
after_none tables = refl

pub span_keys_are : (span : Span) (size : ℕ) (table : TableRows) → span_keys span size table ≡ first_keys span size (chunks.keys_in span table)
unfolding span_keys
span_keys_are span size table = refl
