-- The INSERT of an attempt's hint row writes it, where its number is new; and the next attempt's is new then.
use Rattle.std.proofs.Common.{◌≡◌, ◌≤◌, ℕ, ◌+◌, pos, Bool, true, cond, List, [], ◌∷◌, ◌++◌, Some, None, Result, refl, sym, ap, ◌∙◌, subst, arith}
use Rattle.std.specs.Prelude.{nat_lt}
use Rattle.std.specs.Fmt.{signed_decimal}
use Rattle.std.specs.Str.{bytes_eq}
use Rattle.std.proofs.lemmas.Bool.Decides.{nat_tests}
use Rattle.std.proofs.lemmas.List.Sums.{fold-append}
use Rattle.std.proofs.lemmas.Option.{same_Some}
use Rattle.base_values.specs.declared.event.Change.TheVariants.{Write}
use Rattle.base_values.specs.declared.event.RowEvent.{RowEvent}
use Rattle.base_values.specs.declared.gho_schema.schema.Schema.{Schema}
use Rattle.base_values.specs.declared.mysql_errors.TheConstants.{ER_DUP_ENTRY}
use Rattle.base_values.specs.declared.value.Value.{Value}
use Rattle.base_values.specs.GhoSchema.ClusteredKey.{clustered_among}
use Rattle.base_values.specs.GhoSchema.Rows.{key_places, with_row}
use Rattle.base_values.specs.ToolNames.{log_name}
use Rattle.table_store.specs.Databases.{Database, TableRows, find_table}
use Rattle.server_model.specs.Answers.{refuses}
use Rattle.server_model.specs.Checks.{new_row, or_refused, work_of}
use Rattle.server_model.specs.declared.answer.Answer.{Answer}
use Rattle.server_model.specs.declared.answer.Answer.TheVariants as answers
use Rattle.server_model.specs.declared.work.Work.TheVariants as works
use Rattle.server_model.specs.Operations.{after_events, operation_of, operation_result, result_in, result_of, statement_result}
use Rattle.server_model.specs.Rows.{change_rows}
use Rattle.server_model.specs.StatementResults.{only, tells}
use Rattle.server_model.proofs.LockedRows.Finding.{change_if, found_after}
use Rattle.server_model.proofs.LockedRows.Tests.{same_bytes}
use Rattle.tool_changelog.specs.Hints.{hint_in, hint_of, hint_row, last_hint, or_last}
use Rattle.tool_changelog.specs.ToolTables.{log_schema}
use Rattle.proof_migration.proofs.Program.InspectorTurns.Hints.{hint_event, hint_insert}
use Rattle.proof_bounds.specs.AttemptTurns.Attempts.{most_tries}
use Rattle.proof_bounds.proofs.AttemptTurns.HintRows.{AllBelow, hint_made, hint_new, more_below, row_below}

-- the numbers of the changelog's rows are those of its hint rows at most, but for heartbeats
abbrev pub AllNumbered : List ℕ → Database → List RowEvent → Type 0
AllNumbered t tables log = (table : TableRows) → find_table (log_name t) tables ≡ Some table → AllBelow (last_hint t 0 log + 1) table.rows

-- WHAT IT GIVES

pub log_key : (t : List ℕ) → key_places (log_schema t) ≡ 0 ∷ []
unfolding log_schema clustered_among
log_key t = refl

pub hint_result : (t : List ℕ) (n : ℕ) (tables : Database) (table : TableRows) → find_table (log_name t) tables ≡ Some table → table.schema ≡ log_schema t → n ≤ most_tries → AllBelow n table.rows → statement_result tables (hint_insert t n) ≡ record { answer = answers.Ok 1; events = hint_event t n ∷ [] }
unfolding operation_result work_of tells log_schema
hint_result t n tables table found schema few below =
    ap (result_in (operation_of (hint_insert t n))) found
    ∙ ap (λ (s : Schema). result_of (log_name t) (tells s table.rows (or_refused (new_row s None (hint_row n)) works.Insert))) schema
    ∙ ap (λ (made : Result (List Value) Answer). result_of (log_name t) (tells (log_schema t) table.rows (or_refused made works.Insert))) (hint_made t n few)
    ∙ ap (λ (b : Bool). result_of (log_name t) (cond b (only (refuses ER_DUP_ENTRY)) (record { answer = answers.Ok 1; changes = Write (hint_row n) ∷ [] }))) (hint_new n table.rows few below)

-- WHAT IS KNOWN AFTERWARDS

-- the last hint row is this one
hint_last : (t : List ℕ) (n : ℕ) (log : List RowEvent) → 1 ≤ n → last_hint t 0 (log ++ hint_event t n ∷ []) ≡ n
unfolding hint_row
hint_last t n log some =
    fold-append (λ (old : ℕ) (event : RowEvent). cond (bytes_eq event.table (log_name t)) (hint_in old event.change) old) 0 log (hint_event t n ∷ [])
    ∙ ap (λ (b : Bool). cond b (or_last (last_hint t 0 log) (hint_of (hint_row n))) (last_hint t 0 log)) (same_bytes (log_name t)) ∙ ap (or_last (last_hint t 0 log)) is_hint where
      positive : nat_lt 0 n ≡ true
      positive = grind (arith, nat_tests, some)

      is_hint : hint_of (hint_row n) ≡ Some n
      is_hint = rw (positive, same_bytes (signed_decimal (pos n))) refl

pub hint_numbered : (t : List ℕ) (n : ℕ) (tables : Database) (log : List RowEvent) (table : TableRows) → find_table (log_name t) tables ≡ Some table → table.schema ≡ log_schema t → 1 ≤ n → AllBelow n table.rows → AllNumbered t (after_events tables (hint_event t n ∷ [])) (log ++ hint_event t n ∷ [])
unfolding after_events change_rows
hint_numbered t n tables log table found schema some below other there =
    subst (λ (k : ℕ). AllBelow (k + 1) other.rows) (sym (hint_last t n log some))
    (subst (λ (rows : List (List Value)). AllBelow (n + 1) rows) (ap (λ (places : List ℕ). with_row places (hint_row n) table.rows) (sym (log_key t) ∙ ap key_places (sym schema)) ∙ ap (λ (one : TableRows). one.rows) same) (row_below n table.rows (more_below n (n + 1) table.rows (omega arith) below))) where
      after_is : find_table (log_name t) (after_events tables (hint_event t n ∷ [])) ≡ Some (record { schema = table.schema; rows = with_row (key_places table.schema) (hint_row n) table.rows })
      after_is = found_after (log_name t) (log_name t) (Write (hint_row n)) tables ∙ ap (λ (b : Bool). change_if b (Write (hint_row n)) (find_table (log_name t) tables)) (same_bytes (log_name t)) ∙ ap (change_if true (Write (hint_row n))) found

      same : (record { schema = table.schema; rows = with_row (key_places table.schema) (hint_row n) table.rows }) ≡ other
      same = same_Some (record { schema = table.schema; rows = with_row (key_places table.schema) (hint_row n) table.rows }) other (sym after_is ∙ there)
