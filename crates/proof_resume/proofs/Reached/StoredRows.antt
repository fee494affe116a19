-- The checkpoint's row in the changelog, after a row of it is written: a checkpoint's is found, and any other leaves it.
use Rattle.std.proofs.Common.{◌≡◌, ◌≤◌, ℕ, pos, Bool, true, false, cond, not, ◌||◌, List, [], ◌∷◌, ◌++◌, map, filter, find, Option, Some, None, Result, Ordering, Less, Equal, Greater, refl, sym, ap, ◌∙◌, subst, arith}
use Rattle.std.specs.Prelude.{◌==◌}
use Rattle.std.specs.List.{AllByRecursion, list_any}
use Rattle.std.specs.Ordering.{is_eq}
use Rattle.std.proofs.lemmas.Bool.{true≢false, false≢true, and_parts}
use Rattle.std.proofs.lemmas.Bool.Decides.{nat_tests}
use Rattle.std.proofs.lemmas.Cmp.{tied_itself}
use Rattle.base_values.specs.declared.event.Change.{Change}
use Rattle.base_values.specs.declared.event.Change.TheVariants as changes
use Rattle.base_values.specs.declared.gho_schema.schema.Schema.{Schema}
use Rattle.base_values.specs.declared.mysql_errors.TheConstants.{ER_DUP_ENTRY}
use Rattle.base_values.specs.declared.value.Value.TheVariants.{Num}
use Rattle.base_values.specs.GhoSchema.Rows.{key_of, key_places}
use Rattle.base_values.specs.GhoSchema.Tables.{clash, no_null}
use Rattle.base_values.specs.KeyOrder.{compare_keys}
use Rattle.base_values.specs.ToolNames.{log_name}
use Rattle.base_values.proofs.Orders.{keys_total, tied_keys}
use Rattle.table_store.specs.Databases.{Database, TableRows, find_table}
use Rattle.table_store.specs.RowLists.{is_at}
use Rattle.table_store.proofs.RowLaws.{key_is, put_found, put_other}
use Rattle.server_model.specs.Answers.{refuses}
use Rattle.server_model.specs.Checks.{new_row, or_refused, work_of}
use Rattle.server_model.specs.declared.answer.Answer.{Answer}
use Rattle.server_model.specs.declared.answer.Answer.TheVariants as answers
use Rattle.server_model.specs.declared.work.StatementResult.{StatementResult}
use Rattle.server_model.specs.declared.work.Work.TheVariants as works
use Rattle.server_model.specs.Operations.{after_events, events_of, operation_of, operation_result, result_in, result_of, statement_result}
use Rattle.server_model.specs.Rows.{change_all, change_rows, same_row, without_row}
use Rattle.server_model.specs.StatementResults.{displaced, only, tells}
use Rattle.server_model.proofs.LockedRows.Finding.{change_found_all, found_after_all}
use Rattle.server_model.proofs.LockedRows.Tests.{same_bytes}
use Rattle.tool_changelog.specs.Hints.{hint_row}
use Rattle.tool_changelog.specs.ToolTables.{first_is_primary, log_schema}
use Rattle.tool_program.specs.NoteWriter.Notes.{is_checkpoint}
use Rattle.proof_journals.specs.Ghost.Rows.Moments.{Row}
use Rattle.proof_migration.proofs.Program.InspectorTurns.Hints.{hint_event, hint_insert}
use Rattle.proof_bounds.specs.AttemptTurns.Attempts.{most_tries}
use Rattle.proof_bounds.proofs.AttemptTurns.HintInserts.{log_key}
use Rattle.proof_bounds.proofs.AttemptTurns.HintRows.{hint_made}
use Rattle.proof_bounds.proofs.AttemptTurns.NoteRows.{log_uniques, note_changes}
use Rattle.proof_resume.specs.Reached.Checkpoints.{checkpoint_among, checkpoint_key, checkpoint_stored}

-- WHICH ROW IS A CHECKPOINT'S

abbrev pub at_id : Row → Bool
at_id = is_at (0 ∷ []) checkpoint_key

-- a number comes first
pub record HasNumber (row : Row) : Type 0 where
  pub number : ℕ
  pub rest : Row
  pub is : row ≡ Num (pos number) ∷ rest

id_off : (number : ℕ) (rest : Row) → (number == 0) ≡ false → at_id (Num (pos number) ∷ rest) ≡ false
unfolding key_of
id_off number rest some = by (at_id (Num (pos number) ∷ rest)) refl where
  by : (b : Bool) → at_id (Num (pos number) ∷ rest) ≡ b → b ≡ false
  by false off = refl
  by true at = absurd (true≢false (ap is_checkpoint (key_is (0 ∷ []) checkpoint_key (Num (pos number) ∷ rest) at) ∙ some))

id_on : (number : ℕ) (rest : Row) → (number == 0) ≡ true → at_id (Num (pos number) ∷ rest) ≡ true
unfolding key_of
id_on number rest none =
    let nought : number ≡ 0 = grind (arith, nat_tests, none) in
    subst (λ (n : ℕ). at_id (Num (pos n) ∷ rest) ≡ true) (sym nought) (ap is_eq (tied_itself keys_total checkpoint_key))

pub at_checkpoint : (row : Row) → HasNumber row → at_id row ≡ is_checkpoint row
at_checkpoint row has = subst (λ (r : Row). at_id r ≡ is_checkpoint r) (sym has.is) (by (has.number == 0) refl) where
  by : (b : Bool) → (has.number == 0) ≡ b → at_id (Num (pos has.number) ∷ has.rest) ≡ (has.number == 0)
  by true none = id_on has.number has.rest none ∙ sym none
  by false some = id_off has.number has.rest some ∙ sym some

-- ROWS THAT GO

-- a row that goes and isn't the checkpoint's leaves it
goes_besides : (gone : Row) (rows : List Row) → at_id gone ≡ false → find at_id (without_row gone rows) ≡ find at_id rows
goes_besides gone [] off = refl
goes_besides gone (first ∷ rows) off = by (same_row gone first) refl (goes_besides gone rows off) where
  by : (b : Bool) → same_row gone first ≡ b → find at_id (without_row gone rows) ≡ find at_id rows → find at_id (cond (not b) (first ∷ without_row gone rows) (without_row gone rows)) ≡ cond (at_id first) (Some first) (find at_id rows)
  by true same rest = rest ∙ ap (λ (b : Bool). cond b (Some first) (find at_id rows)) (sym off ∙ ap at_id (tied_keys gone first (equal (compare_keys gone first) same))) where
    equal : (o : Ordering) → is_eq o ≡ true → o ≡ Equal
    equal Equal is = refl
    equal Less is = absurd (false≢true is)
    equal Greater is = absurd (false≢true is)
  by false differ rest = ap (λ (o : Option Row). cond (at_id first) (Some first) o) rest

abbrev AllOff : List Row → Type 0
AllOff rows = AllByRecursion (λ (row : Row). at_id row ≡ false) rows

-- rows that clash have one number
clashes_off : (row other : Row) → at_id row ≡ false → clash first_is_primary row other ≡ true → at_id other ≡ false
clashes_off row other off is = ap (λ (key : Row). is_eq (compare_keys checkpoint_key key)) (sym (tied_keys (key_of (0 ∷ []) row) (key_of (0 ∷ []) other) (equal (compare_keys (key_of (0 ∷ []) row) (key_of (0 ∷ []) other)) parts.0))) ∙ off where
  or_false : (b : Bool) → (b || false) ≡ true → b ≡ true
  or_false true one = refl
  or_false false one = absurd (false≢true one)

  equal : (o : Ordering) → is_eq o ≡ true → o ≡ Equal
  equal Equal same = refl
  equal Less same = absurd (false≢true same)
  equal Greater same = absurd (false≢true same)

  parts : (is_eq (compare_keys (key_of (0 ∷ []) row) (key_of (0 ∷ []) other)) ≡ true) × (no_null (key_of (0 ∷ []) row) ≡ true)
  parts = and_parts (is_eq (compare_keys (key_of (0 ∷ []) row) (key_of (0 ∷ []) other))) (no_null (key_of (0 ∷ []) row)) (or_false _ is)

displaced_off : (row : Row) (rows : List Row) → at_id row ≡ false → AllOff (filter (clash first_is_primary row) rows)
displaced_off row [] off = tt
displaced_off row (other ∷ rows) off = by (clash first_is_primary row other) refl (displaced_off row rows off) where
  by : (b : Bool) → clash first_is_primary row other ≡ b → AllOff (filter (clash first_is_primary row) rows) → AllOff (cond b (other ∷ filter (clash first_is_primary row) rows) (filter (clash first_is_primary row) rows))
  by true clashes rest = (clashes_off row other off clashes, rest)
  by false apart rest = rest

-- A ROW THAT COMES

comes_found : (row : Row) (gone rows : List Row) → at_id row ≡ true → find at_id (change_all (0 ∷ []) (map changes.Delete gone ++ changes.Write row ∷ []) rows) ≡ Some row
unfolding change_all change_rows
comes_found row [] rows on = put_found (0 ∷ []) checkpoint_key row rows on
comes_found row (one ∷ gone) rows on = comes_found row gone (without_row one rows) on

comes_besides : (row : Row) (gone rows : List Row) → at_id row ≡ false → AllOff gone → find at_id (change_all (0 ∷ []) (map changes.Delete gone ++ changes.Write row ∷ []) rows) ≡ find at_id rows
unfolding change_all change_rows
comes_besides row [] rows off all = put_other (0 ∷ []) checkpoint_key row rows off
comes_besides row (one ∷ gone) rows off all = comes_besides row gone (without_row one rows) off all.1 ∙ goes_besides one rows all.0

hint_off : (number : ℕ) → (number == 0) ≡ false → at_id (hint_row number) ≡ false
unfolding hint_row
hint_off number some = id_off number _ some

-- WHAT IS STORED

module _ (t : List ℕ) (tables : Database) (table : TableRows) (found : find_table (log_name t) tables ≡ Some table) (schema : table.schema ≡ log_schema t) where
  places : key_places table.schema ≡ 0 ∷ []
  places = ap key_places schema ∙ log_key t

  pub stored_now : checkpoint_stored t tables ≡ find at_id table.rows
  stored_now = ap checkpoint_among found ∙ ap (λ (p : List ℕ). find (is_at p checkpoint_key) table.rows) places

  stored_after : (all : List Change) → checkpoint_stored t (after_events tables (events_of (log_name t) all)) ≡ find at_id (change_all (0 ∷ []) all table.rows)
  stored_after all =
      ap checkpoint_among (found_after_all (log_name t) (log_name t) all tables ∙ ap (λ (b : Bool). change_found_all b all (find_table (log_name t) tables)) (same_bytes (log_name t)) ∙ ap (change_found_all true all) found)
      ∙ ap (λ (p : List ℕ). find (is_at p checkpoint_key) (change_all p all table.rows)) places

  -- *A note's row*
  pub note_stored : (row : Row) → HasNumber row → checkpoint_stored t (after_events tables (events_of (log_name t) (note_changes t row table.rows))) ≡ cond (is_checkpoint row) (Some row) (checkpoint_stored t tables)
  note_stored row has = stored_after (note_changes t row table.rows) ∙ by (is_checkpoint row) refl where
    by : (b : Bool) → is_checkpoint row ≡ b → find at_id (change_all (0 ∷ []) (note_changes t row table.rows) table.rows) ≡ cond b (Some row) (checkpoint_stored t tables)
    by true checks = comes_found row (displaced (log_schema t) row table.rows) table.rows (at_checkpoint row has ∙ checks)
    by false beats =
        comes_besides row (displaced (log_schema t) row table.rows) table.rows (at_checkpoint row has ∙ beats)
        (subst (λ (uniques : List _). AllOff (filter (clash uniques row) table.rows)) (sym (log_uniques t)) (displaced_off row table.rows (at_checkpoint row has ∙ beats)))
        ∙ sym stored_now

  -- *The hint row*, where it is stored or has another's number
  abbrev pub hint_said : Bool → ℕ → StatementResult
  hint_said true n = record { answer = refuses ER_DUP_ENTRY; events = [] }
  hint_said false n = record { answer = answers.Ok 1; events = hint_event t n ∷ [] }

  pub hint_given : (n : ℕ) → n ≤ most_tries → statement_result tables (hint_insert t n) ≡ hint_said (list_any (clash first_is_primary (hint_row n)) table.rows) n
  unfolding operation_result work_of tells log_schema
  hint_given n few =
      ap (result_in (operation_of (hint_insert t n))) found
      ∙ ap (λ (s : Schema). result_of (log_name t) (tells s table.rows (or_refused (new_row s None (hint_row n)) works.Insert))) schema
      ∙ ap (λ (made : Result Row Answer). result_of (log_name t) (tells (log_schema t) table.rows (or_refused made works.Insert))) (hint_made t n few)
      ∙ by (list_any (clash first_is_primary (hint_row n)) table.rows) where
        by : (b : Bool) → result_of (log_name t) (cond b (only (refuses ER_DUP_ENTRY)) (record { answer = answers.Ok 1; changes = changes.Write (hint_row n) ∷ [] })) ≡ hint_said b n
        by true = refl
        by false = refl

  pub hint_stored : (b : Bool) (n : ℕ) → (n == 0) ≡ false → checkpoint_stored t (after_events tables (hint_said b n).events) ≡ checkpoint_stored t tables
  unfolding after_events
  hint_stored true n some = refl
  hint_stored false n some = stored_after (changes.Write (hint_row n) ∷ []) ∙ comes_besides (hint_row n) [] table.rows (hint_off n some) tt ∙ sym stored_now
