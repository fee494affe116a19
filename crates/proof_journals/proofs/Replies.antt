-- A statement is answered by a number of rows, by rows or by a refusal, and by nothing else.
use Rattle.std.proofs.Common.{◌≡◌, ℕ, ◌+◌, Bool, true, false, List, [], ◌∷◌, map, cond, Option, Some, None, Result, Ok, Err, refl}
use Rattle.std.specs.Prelude.{◌==◌, length, position}
use Rattle.std.specs.List.{list_any, slice_get}
use Rattle.base_values.specs.declared.value.Value.{Value}
use Rattle.base_values.specs.declared.unfit.Unfit.{Unfit}
use Rattle.base_values.specs.declared.gho_schema.schema.Schema.{Schema}
use Rattle.base_values.specs.declared.gho_schema.schema.Column.{Column}
use Rattle.base_values.specs.GhoSchema.Tables.{clash}
use Rattle.base_values.specs.GhoSchema.ClusteredKey.{clustered_place}
use Rattle.base_values.specs.GhoSchema.Rows.{key_places}
use Rattle.base_values.specs.StoredValues.{stores, seeks}
use Rattle.base_values.specs.declared.row_conversion.conversion_fault.UnfitAt.{UnfitAt}
use Rattle.base_values.specs.declared.event.Change.{Change}
use Rattle.base_values.specs.declared.event.Change.TheVariants as changes
use Rattle.table_store.specs.Databases.{TableRows, Database, find_table, row_at_key}
use Rattle.base_script.specs.declared.script.ScriptWord.{ScriptWord}
use Rattle.base_script.specs.declared.script.ScriptWord.TheVariants as words
use Rattle.base_script.specs.declared.statement.Statement.{Statement}
use Rattle.base_script.specs.declared.statement.Statement.TheVariants as statements
use Rattle.base_script.specs.declared.statement.Condition.{Condition}
use Rattle.base_script.specs.declared.statement.Condition.TheVariants as conditions
use Rattle.base_script.specs.declared.statement.Comparison.{Comparison}
use Rattle.base_script.specs.declared.statement.Shown.{Shown}
use Rattle.base_script.specs.declared.statement.Shown.TheVariants as shown
use Rattle.base_script.specs.declared.statement.Set.{Set}
use Rattle.server_model.specs.declared.transaction.Mark.TheVariants as marks
use Rattle.server_model.specs.declared.answer.Answer.{Answer}
use Rattle.server_model.specs.Answers.{refuses}
use Rattle.server_model.specs.declared.answer.Answer.TheVariants as answers
use Rattle.server_model.specs.Rows.{rows_met, same_row, change_rows}
use Rattle.server_model.specs.declared.work.Selection.{Selection}
use Rattle.server_model.specs.declared.work.Selection.TheVariants.{AllColumns, Columns, Count}
use Rattle.server_model.specs.declared.work.Work.{Work}
use Rattle.server_model.specs.declared.work.Work.TheVariants.{Refuse, Insert, Copy, Replace, Delete, Update, Select}
use Rattle.server_model.specs.Checks.{◌>>=◌, unless, or_unknown, place_of, places_named, are_distinct, value_at, given_or, beside, row_from, places_listed, new_row, drawn_row, wanted_at, wanted_each, keyed, reach_equal, reach_range, reach_of, selection_of, or_refused, update_of, select_of, work_of}
use Rattle.server_model.specs.StatementResults.{TableResult, only, clashes_besides, change_first, with_sets, updates, result_or_refusal, updated, selected, tells}
use Rattle.server_model.specs.Operations.{Operation, result_in, operation_of, operation_result, copy_work, copy_from, copy_operation}
use Rattle.std.specs.Option.{option_map}
use Rattle.base_values.specs.declared.row_conversion.map.MapColumn.{MapColumn}
use Rattle.base_values.specs.RowConversion.ConvertedRows.{converted_row}
use Rattle.base_values.specs.declared.mysql_errors.TheConstants.{ER_FIELD_SPECIFIED_TWICE, ER_WRONG_VALUE_COUNT_ON_ROW, ER_DUP_ENTRY}
use Rattle.std.specs.Option.{option_to_list}
use Rattle.server_model.specs.Alone.{reply_of}
use Rattle.server_model.specs.Alone.{line_says}
use Rattle.proof_journals.specs.Turns.{word_given, was_given, line_outcome_answered}

-- the answer is one of a line's
abbrev pub IsReply : Answer → Type 0
IsReply (answers.Ok count) = Unit {0}
IsReply (answers.Rows rows) = Unit {0}
IsReply (answers.Refused number column) = Unit {0}
IsReply answer = ⊥

abbrev ErrReplies : {A : Type 0} → Result A Answer → Type 0
ErrReplies (Ok x) = Unit {0}
ErrReplies (Err e) = IsReply e

then_replies : {A B : Type 0} (r : Result A Answer) (f : A → Result B Answer) → ErrReplies r → ((x : A) → ErrReplies (f x)) → ErrReplies (r >>= f)
then_replies (Ok x) f is then = then x
then_replies (Err e) f is then = is

unless_replies : (b : Bool) (number : ℕ) → ErrReplies (unless b number)
unless_replies true number = tt
unless_replies false number = tt

unknown_replies : (found : Option ℕ) → ErrReplies (or_unknown found)
unknown_replies None = tt
unknown_replies (Some place) = tt

named_replies : (schema : Schema) (names : List (List ℕ)) → ErrReplies (places_named schema names)
unfolding places_named
named_replies schema [] = tt
named_replies schema (name ∷ names) = then_replies (place_of schema name) _ (unknown_replies _) (λ place. then_replies (places_named schema names) _ (named_replies schema names) (λ places. tt))

value_replies : (place : ℕ) (r : Result Value Unfit) → ErrReplies (value_at place r)
value_replies place (Ok value) = tt
value_replies place (Err reason) = tt

given_replies : (place : ℕ) (column : Column) (given default : Option Value) → ErrReplies (given_or place column given default)
given_replies place column (Some value) default = value_replies place (stores value column.kind column.nullable)
given_replies place column None (Some default) = tt
given_replies place column None None = tt

row_replies : (place : ℕ) (columns : List Column) (places : List ℕ) (values : List Value) → ErrReplies (row_from place columns places values)
unfolding row_from
row_replies place [] places values = tt
row_replies place (column ∷ columns) places values =
    then_replies (given_or place column (beside place places values) column.default) _ (given_replies place column (beside place places values) column.default)
    (λ value. then_replies (row_from (place + 1) columns places values) _ (row_replies (place + 1) columns places values) (λ row. tt))

listed_replies : (schema : Schema) (names : Option (List (List ℕ))) → ErrReplies (places_listed schema names)
listed_replies schema None = tt
listed_replies schema (Some names) = then_replies (places_named schema names) _ (named_replies schema names) (λ places. then_replies (unless (are_distinct places) ER_FIELD_SPECIFIED_TWICE) _ (unless_replies (are_distinct places) ER_FIELD_SPECIFIED_TWICE) (λ u. tt))

new_replies : (schema : Schema) (names : Option (List (List ℕ))) (values : List Value) → ErrReplies (new_row schema names values)
unfolding new_row
new_replies schema names values =
    then_replies (places_listed schema names) _ (listed_replies schema names) (λ places. then_replies (unless (length places == length values) ER_WRONG_VALUE_COUNT_ON_ROW) _ (unless_replies (length places == length values) ER_WRONG_VALUE_COUNT_ON_ROW) (λ u. row_replies 0 schema.columns places values))

wanted_replies : (place : ℕ) (column : Option Column) (value : Option Value) → ErrReplies (wanted_at place column value)
wanted_replies place (Some column) (Some value) = value_replies place (seeks value column.kind)
wanted_replies place (Some column) None = tt
wanted_replies place None value = tt

each_replies : (schema : Schema) (places : List ℕ) (values : List Value) → ErrReplies (wanted_each schema places values)
unfolding wanted_each
each_replies schema [] values = tt
each_replies schema (place ∷ places) [] = tt
each_replies schema (place ∷ places) (value ∷ values) =
    then_replies (wanted_at place (slice_get schema.columns place) (Some value)) _ (wanted_replies place (slice_get schema.columns place) (Some value))
    (λ first. then_replies (wanted_each schema places values) _ (each_replies schema places values) (λ others. tt))

keyed_replies : {A : Type 0} (place : Option ℕ) (f : ℕ → Result A Answer) → ((p : ℕ) → ErrReplies (f p)) → ErrReplies (keyed place f)
keyed_replies None f is = tt
keyed_replies (Some place) f is = is place

equal_replies : (schema : Schema) (names : List (List ℕ)) (values : List Value) → ErrReplies (reach_equal schema names values)
unfolding reach_equal
equal_replies schema names values =
    then_replies (places_named schema names) _ (named_replies schema names)
    (λ places. then_replies (keyed _ (λ place. Ok place)) _ (keyed_replies _ (λ place. Ok place) (λ p. tt)) (λ key. then_replies (wanted_each schema places values) _ (each_replies schema places values) (λ sought. tt)))

range_replies : (schema : Schema) (comparisons : List Comparison) → ErrReplies (reach_range schema comparisons)
unfolding reach_range
range_replies schema comparisons =
    then_replies (places_named schema (map (λ comparison. comparison.column) comparisons)) _ (named_replies schema _)
    (λ places. then_replies (keyed _ (λ place. Ok place)) _ (keyed_replies _ (λ place. Ok place) (λ p. tt)) (λ key. then_replies (wanted_each schema places (map (λ comparison. comparison.value) comparisons)) _ (each_replies schema places _) (λ sought. tt)))

reach_replies : (schema : Schema) (condition : Condition) → ErrReplies (reach_of schema condition)
unfolding reach_of
reach_replies schema conditions.All = keyed_replies (clustered_place schema) _ (λ p. tt)
reach_replies schema (conditions.Equal sets) = equal_replies schema _ _
reach_replies schema (conditions.Range comparisons) = range_replies schema comparisons

showing_replies : (schema : Schema) (what : Shown) → ErrReplies (selection_of schema what)
showing_replies schema shown.All = tt
showing_replies schema (shown.Columns names) = then_replies (places_named schema names) _ (named_replies schema names) (λ places. tt)
showing_replies schema shown.Count = tt

-- a work that is a refusal refuses
abbrev WorkReplies : Work → Type 0
WorkReplies (Refuse answer) = IsReply answer
WorkReplies work = Unit {0}

or_replies : {A : Type 0} (r : Result A Answer) (work : A → Work) → ErrReplies r → ((x : A) → WorkReplies (work x)) → WorkReplies (or_refused r work)
or_replies (Ok x) work is then = then x
or_replies (Err e) work is then = is

abbrev OkWorks : Result Work Answer → Type 0
OkWorks (Ok work) = WorkReplies work
OkWorks (Err e) = IsReply e

then_works : {A : Type 0} (r : Result A Answer) (f : A → Result Work Answer) → ErrReplies r → ((x : A) → OkWorks (f x)) → OkWorks (r >>= f)
then_works (Ok x) f is then = then x
then_works (Err e) f is then = is

works_or : (r : Result Work Answer) → OkWorks r → WorkReplies (or_refused r (λ work. work))
works_or (Ok work) is = is
works_or (Err e) is = is

work_replies : (schema : Schema) (statement : Statement) → WorkReplies (work_of schema statement)
unfolding work_of
work_replies schema (statements.Insert table columns values drawn) = or_replies (drawn_row schema columns values drawn) Insert (new_replies schema _ _) (λ row. tt)
work_replies schema (statements.Replace table columns values drawn) = or_replies (drawn_row schema columns values drawn) Replace (new_replies schema _ _) (λ row. tt)
work_replies schema (statements.Delete table condition) = or_replies (reach_of schema condition) Delete (reach_replies schema condition) (λ reach. tt)
work_replies schema (statements.Update table sets condition) =
    works_or (update_of schema sets condition)
    (then_works (places_named schema (map (λ (set : Set). set.column) sets)) _ (named_replies schema _) (λ places. then_works (unless (are_distinct places) ER_FIELD_SPECIFIED_TWICE) _ (unless_replies (are_distinct places) ER_FIELD_SPECIFIED_TWICE) (λ u. then_works (reach_of schema condition) _ (reach_replies schema condition) (λ reach. tt))))
work_replies schema (statements.Select table what condition) =
    works_or (select_of schema what condition) (then_works (selection_of schema what) _ (showing_replies schema what) (λ selection. then_works (reach_of schema condition) _ (reach_replies schema condition) (λ reach. tt)))

first_replies : (change : Change) (r : Result (List Change) Answer) → ErrReplies r → ErrReplies (change_first change r)
first_replies change (Ok others) is = tt
first_replies change (Err refusal) is = is

updates_reply : (schema : Schema) (sets : List (Option Value)) (met rows : List (List Value)) → ErrReplies (updates schema sets met rows)
unfolding updates
updates_reply schema sets [] rows = tt
updates_reply schema sets (old ∷ met) rows =
    at (same_row old (with_sets sets old)) (clashes_besides schema (with_sets sets old) old rows) (updates schema sets met rows)
    (change_first (changes.Update old (with_sets sets old)) (updates schema sets met (change_rows (key_places schema) (changes.Update old (with_sets sets old)) rows)))
    (updates_reply schema sets met rows) (first_replies (changes.Update old (with_sets sets old)) (updates schema sets met (change_rows (key_places schema) (changes.Update old (with_sets sets old)) rows)) (updates_reply schema sets met (change_rows (key_places schema) (changes.Update old (with_sets sets old)) rows))) where
      at : (same clashes : Bool) (r s : Result (List Change) Answer) → ErrReplies r → ErrReplies s → ErrReplies (cond same r (cond clashes (Err (refuses ER_DUP_ENTRY)) s))
      at true clashes r s one two = one
      at false true r s one two = tt
      at false false r s one two = two

reported_replies : (r : Result (List Change) Answer) → ErrReplies r → IsReply (result_or_refusal r).answer
reported_replies (Ok all) is = tt
reported_replies (Err refusal) is = is

updated_replies : (schema : Schema) (sets : Result (List (Option Value)) UnfitAt) (met rows : List (List Value)) → IsReply (updated schema sets met rows).answer
updated_replies schema (Ok sets) met rows = reported_replies (updates schema sets met rows) (updates_reply schema sets met rows)
updated_replies schema (Err at) [] rows = tt
updated_replies schema (Err at) (row ∷ met) rows = tt

shows_reply : (selection : Selection) (rows : List (List Value)) → IsReply (selected selection rows)
shows_reply AllColumns rows = tt
shows_reply (Columns places) rows = tt
shows_reply Count rows = tt

if_replies : (b : Bool) (one two : TableResult) → IsReply one.answer → IsReply two.answer → IsReply (cond b one two).answer
if_replies true one two a b = a
if_replies false one two a b = b

tells_replies : (schema : Schema) (rows : List (List Value)) (work : Work) → WorkReplies work → IsReply (tells schema rows work).answer
unfolding tells
tells_replies schema rows (Refuse refusal) is = is
tells_replies schema rows (Insert row) is = if_replies (list_any (clash schema.uniques row) rows) (only (refuses ER_DUP_ENTRY)) (record { answer = answers.Ok 1; changes = changes.Write row ∷ [] }) tt tt
tells_replies schema rows (Copy row) is = if_replies (list_any (clash schema.uniques row) rows) (only (answers.Ok 0)) (record { answer = answers.Ok 1; changes = changes.Write row ∷ [] }) tt tt
tells_replies schema rows (Replace row) is = tt
tells_replies schema rows (Delete reach) is = tt
tells_replies schema rows (Update reach sets) is = updated_replies schema sets (rows_met schema reach rows) rows
tells_replies schema rows (Select reach selection) is = shows_reply selection (rows_met schema reach rows)

said_replies : (statement : Statement) (found : Option TableRows) → IsReply (result_in (operation_of statement) found).answer
said_replies statement None = tt
said_replies statement (Some table) = tells_replies table.schema table.rows _ (work_replies table.schema statement)

-- what copying a row says is a reply too
work_in : (operation : Operation) (found : Option TableRows) → ((schema : Schema) → WorkReplies (operation.work schema)) → IsReply (result_in operation found).answer
work_in operation None is = tt
work_in operation (Some table) is = tells_replies table.schema table.rows (operation.work table.schema) (is table.schema)

converted_row_replies : (converted_row : Option (Result (List Value) UnfitAt)) (schema : Schema) → WorkReplies (copy_work converted_row schema)
converted_row_replies None schema = tt
converted_row_replies (Some (Err at)) schema = tt
converted_row_replies (Some (Ok values)) schema = or_replies (new_row schema None values) Copy (new_replies schema None values) (λ row. tt)

copy_replies : (from : Option TableRows) (map : List MapColumn) (key : List Value) (schema : Schema) → WorkReplies (copy_from from map key schema)
copy_replies None map key schema = tt
copy_replies (Some table) map key schema = converted_row_replies (option_map (converted_row map) (row_at_key table key)) schema

pub copied_replies : (tables : Database) (from into : List ℕ) (map : List MapColumn) (key : List Value) → IsReply (operation_result tables (copy_operation tables from into map key)).answer
unfolding operation_result
copied_replies tables from into map key = work_in (copy_operation tables from into map key) (find_table into tables) (copy_replies (find_table from tables) map key)

-- *what a line says is a reply*
pub line_replies_so : (tables : Database) (word : ScriptWord) → IsReply (line_says tables word).answer
unfolding operation_result
line_replies_so tables words.Begin = tt
line_replies_so tables words.Commit = tt
line_replies_so tables words.Rollback = tt
line_replies_so tables (words.Do statement) = said_replies statement (find_table (operation_of statement).table tables)

-- what such an answer does to its session's transaction
pub given_so : (busy : Bool) (word : ScriptWord) (answer : Answer) → IsReply answer → word_given busy word answer ≡ line_outcome_answered busy word marks.Answered (option_to_list (reply_of answer))
given_so busy word (answers.Ok count) is = refl
given_so busy word (answers.Rows rows) is = refl
given_so busy word (answers.Refused number column) is = refl
given_so busy word (answers.Keys keys end) is = absurd is
given_so busy word (answers.Ends range) is = absurd is
given_so busy word (answers.End end) is = absurd is
given_so busy word (answers.At position) is = absurd is
given_so busy word (answers.Events events next) is = absurd is
given_so busy word (answers.Tables tables) is = absurd is
given_so busy word (answers.Waiting waits) is = absurd is
given_so busy word (answers.Waits by) is = absurd is
given_so busy word (answers.TimedOut polls) is = absurd is
given_so busy word answers.Lost is = absurd is

pub done_so : (answer : Answer) → IsReply answer → was_given (Some answer) ≡ true
done_so (answers.Ok count) is = refl
done_so (answers.Rows rows) is = refl
done_so (answers.Refused number column) is = refl
done_so (answers.Keys keys end) is = absurd is
done_so (answers.Ends range) is = absurd is
done_so (answers.End end) is = absurd is
done_so (answers.At position) is = absurd is
done_so (answers.Events events next) is = absurd is
done_so (answers.Tables tables) is = absurd is
done_so (answers.Waiting waits) is = absurd is
done_so (answers.Waits by) is = absurd is
done_so (answers.TimedOut polls) is = absurd is
done_so answers.Lost is = absurd is
