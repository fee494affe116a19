-- A note's row is stored as it is, in place of the row of its number, where there is one; it is no hint row, and no hint row's number.
use Rattle.std.proofs.Common.{◌≡◌, ◌≤◌, ℕ, ◌+◌, pos, Bool, true, false, cond, codes, ◌&&◌, ◌||◌, List, [], ◌∷◌, ◌++◌, length, map, filter, Option, Some, None, Result, Ok, Err, refl, sym, ap, ◌∙◌, subst, arith}
use Rattle.std.specs.Prelude.{nat_le, nat_lt, int_le, not}
use Rattle.std.specs.Fmt.{signed_decimal}
use Rattle.std.specs.List.{AllByRecursion}
use Rattle.std.specs.Option.{option_map}
use Rattle.std.specs.Ordering.{is_eq}
use Rattle.std.specs.Str.{bytes_eq}
use Rattle.std.proofs.lemmas.Bool.{true≢false, false≢true, and_parts, or_right}
use Rattle.std.proofs.lemmas.Bool.Decides.{nat_tests}
use Rattle.std.proofs.lemmas.Option.{same_Some}
use Rattle.base_values.specs.declared.event.Change.{Change}
use Rattle.base_values.specs.declared.event.Change.TheVariants as changes
use Rattle.base_values.specs.declared.gho_schema.schema.Schema.{Schema}
use Rattle.base_values.specs.declared.unfit.Unfit.TheVariants as unfit
use Rattle.base_values.specs.declared.value.Value.{Value}
use Rattle.base_values.specs.declared.value.Value.TheVariants.{Num, Text}
use Rattle.base_values.specs.KeyOrder.{compare_keys}
use Rattle.base_values.specs.GhoSchema.Rows.{key_of, key_places}
use Rattle.base_values.specs.GhoSchema.Tables.{Apart, clash, no_null}
use Rattle.base_values.specs.StoredValues.{character_count, half, highest, in_range, stores, text_within}
use Rattle.base_values.specs.ToolNames.{log_name}
use Rattle.base_values.proofs.Orders.{tied_keys}
use Rattle.base_script.specs.declared.statement.Statement.{Statement}
use Rattle.base_script.specs.declared.statement.Statement.TheVariants as statements
use Rattle.table_store.specs.Databases.{Database, TableRows, find_table, with_change}
use Rattle.table_store.proofs.Orders.{is_Equal}
use Rattle.server_model.specs.Checks.{beside, new_row, or_refused, row_from, work_of}
use Rattle.server_model.specs.declared.answer.Answer.{Answer}
use Rattle.server_model.specs.declared.answer.Answer.TheVariants as answers
use Rattle.server_model.specs.declared.work.StatementResult.{StatementResult}
use Rattle.server_model.specs.declared.work.Work.TheVariants as works
use Rattle.server_model.specs.Operations.{after_events, change_table, events_of, operation_of, operation_result, result_in, result_of, statement_result}
use Rattle.server_model.specs.Rows.{change_rows, same_row}
use Rattle.server_model.specs.StatementResults.{displaced, tells}
use Rattle.server_model.proofs.LockedRows.Finding.{change_if, found_after}
use Rattle.server_model.proofs.LockedRows.Tests.{same_bytes}
use Rattle.tool_changelog.specs.Checkpoints.{checkpoint_row, checkpoint_text, checkpoint_value}
use Rattle.tool_changelog.specs.Heartbeats.{heartbeat_row}
use Rattle.tool_changelog.specs.Hints.{hint_if, hint_of, last_hint, or_last}
use Rattle.tool_changelog.specs.ToolTables.{first_is_primary, log_schema}
use Rattle.tool_changelog.specs.declared.checkpoint.Reach.{Reach}
use Rattle.proof_bounds.specs.AttemptTurns.Attempts.{most_notes}
use Rattle.proof_journals.proofs.Ghost.Rows.Counts.{less_keys, with_keys}
use Rattle.proof_bounds.proofs.AttemptTurns.HintInserts.{log_key}
use Rattle.proof_bounds.proofs.AttemptTurns.HintRows.{AllBelow, is_below, joined, text_fits}

-- a row of a note
pub data IsFitNote (row : List Value) : Type 0 where
  beat_fits : (number : ℕ) → 1 ≤ number → number ≤ most_notes → row ≡ heartbeat_row number → IsFitNote row
  check_fits : (position : ℕ) (reach : Reach) → checkpoint_row position reach ≡ Some row → IsFitNote row

-- IT FITS

number_fits : (n : ℕ) → n ≤ most_notes → in_range 8 false (pos (1000000 + n)) ≡ Ok (Num (pos (1000000 + n)))
unfolding in_range half
number_fits n few = ap (λ (b : Bool). cond b (Ok (Num (pos (1000000 + n)))) (Err unfit.Range)) less where
  less : int_le (pos (1000000 + n)) (highest 8 false) ≡ true
  less = grind (arith, nat_tests, few)

nought_fits : in_range 8 false (pos 0) ≡ Ok (Num (pos 0))
unfolding in_range half
nought_fits = refl

heartbeat_fits : text_within 64 (codes "heartbeat") ≡ Ok (Text (codes "heartbeat"))
unfolding text_within character_count
heartbeat_fits = refl

checkpoint_fits : text_within 64 (codes "checkpoint") ≡ Ok (Text (codes "checkpoint"))
unfolding text_within character_count
checkpoint_fits = refl

beat_made : (t : List ℕ) (n : ℕ) → n ≤ most_notes → new_row (log_schema t) None (heartbeat_row n) ≡ Ok (heartbeat_row n)
unfolding new_row row_from beside stores log_schema heartbeat_row
beat_made t n few =
    joined 0 (in_range 8 false (pos (1000000 + n))) (Num (pos (1000000 + n))) _ (Text (codes "heartbeat") ∷ Text (signed_decimal (pos n)) ∷ []) (number_fits n few)
    (joined 1 (text_within 64 (codes "heartbeat")) (Text (codes "heartbeat")) _ (Text (signed_decimal (pos n)) ∷ []) heartbeat_fits (joined 2 (text_within 255 (signed_decimal (pos n))) (Text (signed_decimal (pos n))) (Ok []) [] (text_fits n few) refl))

-- a checkpoint's value has at most as many characters as its column
short_is : (text : List ℕ) (value : Value) → cond (nat_le (character_count text) 255) (Some (Text text)) None ≡ Some value → (nat_le (character_count text) 255 ≡ true) × (Text text ≡ value)
short_is text value = by (nat_le (character_count text) 255) where
  by : (b : Bool) → cond b (Some (Text text)) None ≡ Some value → (b ≡ true) × (Text text ≡ value)
  by true some = (refl, same_Some (Text text) value some)
  by false some = absurd cc

value_fits : (text : List ℕ) → nat_le (character_count text) 255 ≡ true → text_within 255 text ≡ Ok (Text text)
unfolding text_within
value_fits text short = ap (λ (b : Bool). cond b (Ok (Text text)) (Err unfit.Length)) short

check_made : (t : List ℕ) (text : List ℕ) → nat_le (character_count text) 255 ≡ true → new_row (log_schema t) None (Num (pos 0) ∷ Text (codes "checkpoint") ∷ Text text ∷ []) ≡ Ok (Num (pos 0) ∷ Text (codes "checkpoint") ∷ Text text ∷ [])
unfolding new_row row_from beside stores log_schema
check_made t text short =
    joined 0 (in_range 8 false (pos 0)) (Num (pos 0)) _ (Text (codes "checkpoint") ∷ Text text ∷ []) nought_fits
    (joined 1 (text_within 64 (codes "checkpoint")) (Text (codes "checkpoint")) _ (Text text ∷ []) checkpoint_fits (joined 2 (text_within 255 text) (Text text) (Ok []) [] (value_fits text short) refl))

-- a checkpoint's row
record IsCheck (row : List Value) : Type 0 where
  text : List ℕ
  short : nat_le (character_count text) 255 ≡ true
  is : row ≡ Num (pos 0) ∷ Text (codes "checkpoint") ∷ Text text ∷ []

check_is : (position : ℕ) (reach : Reach) (row : List Value) → checkpoint_row position reach ≡ Some row → IsCheck row
unfolding checkpoint_row
check_is position reach row is = by (checkpoint_value position reach) refl is where
  by : (value : Option Value) → checkpoint_value position reach ≡ value → option_map (λ (v : Value). Num (pos 0) ∷ Text (codes "checkpoint") ∷ v ∷ []) value ≡ Some row → IsCheck row
  by None none some = absurd cc
  by (Some value) at some =
      let parts = short_is (checkpoint_text position reach) value at in
      record {
        text = checkpoint_text position reach;
        short = parts.0;
        is = sym (same_Some (Num (pos 0) ∷ Text (codes "checkpoint") ∷ value ∷ []) row some) ∙ ap (λ (v : Value). Num (pos 0) ∷ Text (codes "checkpoint") ∷ v ∷ []) (sym parts.1);
      }

-- *The row that is made*
pub note_made : (t : List ℕ) (row : List Value) → IsFitNote row → new_row (log_schema t) None row ≡ Ok row
note_made t row (beat_fits number some few is) = subst (λ (r : List Value). new_row (log_schema t) None r ≡ Ok r) (sym is) (beat_made t number few)
note_made t row (check_fits position reach is) = let one = check_is position reach row is in subst (λ (r : List Value). new_row (log_schema t) None r ≡ Ok r) (sym one.is) (check_made t one.text one.short)

-- WHAT IT WRITES

-- a row of a note is written
abbrev pub note_write : List ℕ → List Value → Statement
note_write t row = statements.Replace (log_name t) None row None

-- the row of its number goes, and it comes
abbrev pub note_changes : List ℕ → List Value → List (List Value) → List Change
note_changes t row rows = map changes.Delete (displaced (log_schema t) row rows) ++ changes.Write row ∷ []

abbrev pub note_said : List ℕ → List Value → List (List Value) → StatementResult
note_said t row rows = record { answer = answers.Ok (1 + length (displaced (log_schema t) row rows)); events = events_of (log_name t) (note_changes t row rows) }

pub note_result : (t : List ℕ) (row : List Value) (tables : Database) (table : TableRows) → IsFitNote row → find_table (log_name t) tables ≡ Some table → table.schema ≡ log_schema t → statement_result tables (note_write t row) ≡ note_said t row table.rows
unfolding operation_result work_of tells
note_result t row tables table note found schema =
    ap (result_in (operation_of (note_write t row))) found
    ∙ ap (λ (s : Schema). result_of (log_name t) (tells s table.rows (or_refused (new_row s None row) works.Replace))) schema
    ∙ ap (λ (made : Result (List Value) Answer). result_of (log_name t) (tells (log_schema t) table.rows (or_refused made works.Replace))) (note_made t row note)

-- NO HINT ROW

pub note_unhinted : (row : List Value) → IsFitNote row → hint_of row ≡ None
unfolding heartbeat_row
note_unhinted row (beat_fits number some few is) =
    ap hint_of is ∙ ap (λ (b : Bool). hint_if b (1000000 + number)) (and_off (nat_lt 0 (1000000 + number)) (bytes_eq (signed_decimal (pos number)) (signed_decimal (pos (1000000 + number))))) where
      and_off : (a b : Bool) → (a && bytes_eq (codes "heartbeat") (codes "cut-over") && b) ≡ false
      and_off true b = refl
      and_off false b = refl
note_unhinted row (check_fits position reach is) = let one = check_is position reach row is in ap hint_of one.is

-- so the last hint row is as before
pub note_hint : (t : List ℕ) (row : List Value) (rows : List (List Value)) (last : ℕ) → IsFitNote row → last_hint t last (events_of (log_name t) (map changes.Delete rows ++ changes.Write row ∷ [])) ≡ last
note_hint t row [] last note = ap (λ (b : Bool). cond b (or_last last (hint_of row)) last) (same_bytes (log_name t)) ∙ ap (or_last last) (note_unhinted row note)
note_hint t row (other ∷ rows) last note = ap (λ (b : Bool). last_hint t (cond b last last) (events_of (log_name t) (map changes.Delete rows ++ changes.Write row ∷ []))) (same_bytes (log_name t)) ∙ note_hint t row rows last note

-- NO HINT ROW'S NUMBER

note_below : (most : ℕ) (row : List Value) → IsFitNote row → is_below (most + 1) (key_of (0 ∷ []) row) ≡ true
unfolding key_of heartbeat_row
note_below most row (beat_fits number some few is) = ap (λ (r : List Value). is_below (most + 1) (key_of (0 ∷ []) r)) is ∙ or_right (nat_lt (1000000 + number) (most + 1)) (nat_lt 1000000 (1000000 + number)) above where
  above : nat_lt 1000000 (1000000 + number) ≡ true
  above = grind (arith, nat_tests, some)
note_below most row (check_fits position reach is) = let one = check_is position reach row is in ap (λ (r : List Value). is_below (most + 1) (key_of (0 ∷ []) r)) one.is ∙ ap (λ (b : Bool). b || nat_lt 1000000 0) least where
  least : nat_lt 0 (most + 1) ≡ true
  least = grind (arith, nat_tests)

-- the rows behind its events
delete_below : (most : ℕ) (row : List Value) (rows : List (List Value)) → AllBelow most rows → AllBelow most (change_rows (0 ∷ []) (changes.Delete row) rows)
unfolding change_rows
delete_below most row rows all = less_keys (is_below most) (0 ∷ []) (λ (other : List Value). not (same_row row other)) rows all

write_below : (most : ℕ) (row : List Value) (rows : List (List Value)) → is_below most (key_of (0 ∷ []) row) ≡ true → AllBelow most rows → AllBelow most (change_rows (0 ∷ []) (changes.Write row) rows)
unfolding change_rows
write_below most row rows one all = with_keys (is_below most) (0 ∷ []) row rows one all

own_change : (t : List ℕ) (change : Change) (tables : Database) (table : TableRows) → find_table (log_name t) tables ≡ Some table → find_table (log_name t) (with_change (log_name t) (change_table change) tables) ≡ Some (change_table change table)
own_change t change tables table found =
    found_after (log_name t) (log_name t) change tables ∙ ap (λ (b : Bool). change_if b change (find_table (log_name t) tables)) (same_bytes (log_name t)) ∙ ap (change_if true change) found

changed_below : (t : List ℕ) (most : ℕ) (change : Change) (table : TableRows) → table.schema ≡ log_schema t → ((rows : List (List Value)) → AllBelow most rows → AllBelow most (change_rows (0 ∷ []) change rows)) → AllBelow most table.rows → AllBelow most (change_table change table).rows
changed_below t most change table schema keeps all = subst (λ (places : List ℕ). AllBelow most (change_rows places change table.rows)) (sym (ap key_places schema ∙ log_key t)) (keeps table.rows all)

pub note_numbered : (t : List ℕ) (most : ℕ) (row : List Value) (gone : List (List Value)) (tables : Database) (table : TableRows) → IsFitNote row → find_table (log_name t) tables ≡ Some table → table.schema ≡ log_schema t → AllBelow (most + 1) table.rows
    → (other : TableRows) → find_table (log_name t) (after_events tables (events_of (log_name t) (map changes.Delete gone ++ changes.Write row ∷ []))) ≡ Some other → AllBelow (most + 1) other.rows
unfolding after_events
note_numbered t most row [] tables table note found schema all other there =
    subst (λ (one : TableRows). AllBelow (most + 1) one.rows) (same_Some (change_table (changes.Write row) table) other (sym (own_change t (changes.Write row) tables table found) ∙ there))
    (changed_below t (most + 1) (changes.Write row) table schema (λ rows below. write_below (most + 1) row rows (note_below most row note) below) all)
note_numbered t most row (one ∷ gone) tables table note found schema all other there =
    note_numbered t most row gone (with_change (log_name t) (change_table (changes.Delete one)) tables) (change_table (changes.Delete one) table) note (own_change t (changes.Delete one) tables table found) schema
    (changed_below t (most + 1) (changes.Delete one) table schema (λ rows below. delete_below (most + 1) one rows below) all) other there

-- AT MOST ONE ROW GOES

pub log_uniques : (t : List ℕ) → (log_schema t).uniques ≡ first_is_primary
unfolding log_schema
log_uniques t = refl

or_false : (b : Bool) → (b || false) ≡ true → b ≡ true
or_false true is = refl
or_false false is = absurd (false≢true is)

-- rows that clash have one number
clash_key : (one other : List Value) → clash first_is_primary one other ≡ true → (key_of (0 ∷ []) one ≡ key_of (0 ∷ []) other) × (no_null (key_of (0 ∷ []) one) ≡ true)
clash_key one other is =
    let parts = and_parts (is_eq (compare_keys (key_of (0 ∷ []) one) (key_of (0 ∷ []) other))) (no_null (key_of (0 ∷ []) one)) (or_false _ is) in
    (tied_keys (key_of (0 ∷ []) one) (key_of (0 ∷ []) other) (is_Equal (compare_keys (key_of (0 ∷ []) one) (key_of (0 ∷ []) other)) parts.0), parts.1)

-- and so two that clash with a third do
clash_both : (row one other : List Value) → clash first_is_primary row one ≡ true → clash first_is_primary row other ≡ true → clash first_is_primary one other ≡ true
clash_both row one other first second =
    let a = clash_key row one first in
    let b = clash_key row other second in
    subst (λ (key : List Value). (is_eq (compare_keys key (key_of (0 ∷ []) other)) && no_null key || false) ≡ true) a.0 second

none_clash : (row one : List Value) (rows : List (List Value)) → clash first_is_primary row one ≡ true → AllByRecursion (λ (other : List Value). clash first_is_primary one other ≡ false) rows → filter (clash first_is_primary row) rows ≡ []
none_clash row one [] first apart = refl
none_clash row one (other ∷ rows) first apart = by (clash first_is_primary row other) refl (none_clash row one rows first apart.1) where
  by : (b : Bool) → clash first_is_primary row other ≡ b → filter (clash first_is_primary row) rows ≡ [] → cond b (other ∷ filter (clash first_is_primary row) rows) (filter (clash first_is_primary row) rows) ≡ []
  by true second rest = absurd (true≢false (sym (clash_both row one other first second) ∙ apart.0))
  by false off rest = rest

pub one_gone : (row : List Value) (rows : List (List Value)) → Apart first_is_primary rows → length (filter (clash first_is_primary row) rows) ≤ 1
one_gone row [] apart = omega arith
one_gone row (one ∷ rows) apart = by (clash first_is_primary row one) refl (one_gone row rows apart.1) where
  by : (b : Bool) → clash first_is_primary row one ≡ b → length (filter (clash first_is_primary row) rows) ≤ 1 → length (cond b (one ∷ filter (clash first_is_primary row) rows) (filter (clash first_is_primary row) rows)) ≤ 1
  by true first rest = let none : length (filter (clash first_is_primary row) rows) ≡ 0 = ap length (none_clash row one rows first apart.0) in omega (arith, none)
  by false off rest = rest
