-- What one line of a client's script writes: at most one event for each row of its table and one more, and one new row at most.
use Rattle.std.proofs.Common.{◌≡◌, ◌≤◌, ℕ, suc, ◌+◌, Bool, true, false, cond, ◌||◌, List, [], ◌∷◌, ◌++◌, map, length, filter, Option, Some, None, Result, Ok, Err, refl, sym, ap, ◌∙◌, subst, arith}
use Rattle.std.specs.Prelude.{count_by, option_map, unwrap_or}
use Rattle.std.specs.List.{list_any}
use Rattle.std.specs.Str.{bytes_eq}
use Rattle.std.proofs.lemmas.List.{length-map, length-append}
use Rattle.std.proofs.lemmas.List.Sums.{sum_by-cons, sum_by-append, length-filter, count_by-le-length}
use Rattle.base_script.specs.declared.actor.Side.TheVariants.{Before, After}
use Rattle.base_script.specs.declared.script.ScriptWord.{ScriptWord}
use Rattle.base_script.specs.declared.script.ScriptWord.TheVariants as words
use Rattle.base_values.specs.declared.event.Change.{Change}
use Rattle.base_values.specs.declared.event.Change.TheVariants as changes
use Rattle.base_values.specs.declared.event.RowEvent.{RowEvent}
use Rattle.base_values.specs.declared.gho_schema.schema.Schema.{Schema}
use Rattle.base_values.specs.declared.mysql_errors.TheConstants.{ER_DUP_ENTRY}
use Rattle.base_values.specs.declared.row_conversion.conversion_fault.UnfitAt.{UnfitAt}
use Rattle.base_values.specs.declared.value.Value.{Value}
use Rattle.base_values.specs.GhoSchema.Rows.{key_places}
use Rattle.base_values.specs.GhoSchema.Tables.{clash}
use Rattle.table_store.specs.Databases.{TableRows, Database, find_table, with_change}
use Rattle.server_model.specs.declared.answer.Answer.{Answer}
use Rattle.server_model.specs.declared.answer.Answer.TheVariants as answers
use Rattle.server_model.specs.declared.transaction.Mark.{Mark}
use Rattle.server_model.specs.declared.transaction.Mark.TheVariants as marks
use Rattle.server_model.specs.declared.work.Work.{Work}
use Rattle.server_model.specs.declared.work.Work.TheVariants.{Refuse, Insert, Copy, Replace, Delete, Update, Select}
use Rattle.server_model.specs.Alone.{line_says, line_events}
use Rattle.server_model.specs.Answers.{refuses}
use Rattle.server_model.specs.LockedRows.Databases.{IsWellFormedDatabase}
use Rattle.server_model.specs.Operations.{Operation, operation_of, operation_result, result_in, events_of, after_events, change_table}
use Rattle.server_model.specs.Rows.{change_rows, reaches, rows_met, same_row}
use Rattle.server_model.specs.StatementResults.{change_first, clashes_besides, only, result_or_refusal, tells, updated, updates, with_sets}
use Rattle.server_model.specs.States.{is_of}
use Rattle.server_model.proofs.LockedRows.Finding.{change_if, found_after}
use Rattle.server_model.proofs.LockedRows.Stables.{statement_sound}
use Rattle.server_model.proofs.LockedRows.Tests.{are_same}
use Rattle.proof_journals.specs.Ghost.FittingEvents.{EventsFit}
use Rattle.proof_journals.specs.Ghost.Rows.Moments.{Row, rows_at}
use Rattle.proof_journals.proofs.Ghost.Fitting.{events_lead, found_behind, says_fit}
use Rattle.proof_journals.specs.Ghost.Rows.Counts.{is_write, rows_of, writes_of}
use Rattle.proof_journals.proofs.Ghost.Rows.Counts.{rows_few}

-- THE CHANGES OF ONE TABLE

-- at most this many changes, of which at most one puts a new row
pub record AreFew (n : ℕ) (all : List Change) : Type 0 where
  pub changes : length all ≤ n
  pub writes : count_by is_write all ≤ 1

pub none_few : (n : ℕ) → AreFew n []
none_few n = record { changes = omega arith; writes = omega arith }

pub filter_short : (p : Row → Bool) (rows : List Row) → length (filter p rows) ≤ length rows
filter_short p rows = let a = length-filter p rows in let b = count_by-le-length p rows in omega (arith, a, b)

none_written : (rows : List Row) → count_by is_write (map changes.Delete rows) ≡ 0
none_written [] = refl
none_written (row ∷ rows) = let a = sum_by-cons (λ (one : Change). cond (is_write one) 1 0) (changes.Delete row) (map changes.Delete rows) in let b = none_written rows in omega (arith, a, b)

removals_few : (p : Row → Bool) (rows : List Row) → AreFew (length rows + 1) (map changes.Delete (filter p rows))
removals_few p rows =
    let a = length-map (filter p rows) changes.Delete in
    let b = filter_short p rows in
    let c = none_written (filter p rows) in
    record { changes = omega (arith, a, b); writes = omega (arith, c) }

replacing_few : (p : Row → Bool) (row : Row) (rows : List Row) → AreFew (length rows + 1) (map changes.Delete (filter p rows) ++ changes.Write row ∷ [])
replacing_few p row rows =
    let a = length-map (filter p rows) changes.Delete in
    let b = filter_short p rows in
    let c = length-append (map changes.Delete (filter p rows)) (changes.Write row ∷ []) in
    let d = none_written (filter p rows) in
    let e : count_by is_write (map changes.Delete (filter p rows) ++ changes.Write row ∷ []) ≡ count_by is_write (map changes.Delete (filter p rows)) + 1 = sum_by-append (λ (one : Change). cond (is_write one) 1 0) (map changes.Delete (filter p rows)) (changes.Write row ∷ []) in
    record { changes = omega (arith, a, b, c); writes = omega (arith, d, e) }

one_few : (n : ℕ) (row : Row) (refusal : Answer) (b : Bool) → AreFew (n + 1) (cond b (only refusal) (record { answer = answers.Ok 1; changes = changes.Write row ∷ [] })).changes
one_few n row refusal true = none_few (n + 1)
one_few n row refusal false = record { changes = omega arith; writes = omega arith }

-- an UPDATE makes at most one change for each row that it meets
abbrev UpTo : ℕ → Result (List Change) Answer → Type 0
UpTo n (Ok all) = (length all ≤ n) × (count_by is_write all ≡ 0)
UpTo n (Err refusal) = Unit {0}

up_later : (n : ℕ) (result : Result (List Change) Answer) → UpTo n result → UpTo (suc n) result
up_later n (Ok all) few = let a = few.0 in (omega (arith, a), few.1)
up_later n (Err refusal) few = tt

up_first : (n : ℕ) (before after : Row) (result : Result (List Change) Answer) → UpTo n result → UpTo (suc n) (change_first (changes.Update before after) result)
up_first n before after (Ok all) few = let a = few.0 in let b = few.1 in let c = sum_by-cons (λ (one : Change). cond (is_write one) 1 0) (changes.Update before after) all in (omega (arith, a), omega (arith, b, c))
up_first n before after (Err refusal) few = tt

updates_few : (schema : Schema) (sets : List (Option Value)) (met rows : List Row) → UpTo (length met) (updates schema sets met rows)
unfolding updates
updates_few schema sets [] rows = (omega arith, refl)
updates_few schema sets (old ∷ met) rows =
    by (same_row old (with_sets sets old)) (clashes_besides schema (with_sets sets old) old rows) (updates_few schema sets met rows) (updates_few schema sets met (change_rows (key_places schema) (changes.Update old (with_sets sets old)) rows)) where
      by : (same clashes : Bool) → UpTo (length met) (updates schema sets met rows) → UpTo (length met) (updates schema sets met (change_rows (key_places schema) (changes.Update old (with_sets sets old)) rows))
          → UpTo (suc (length met))
          (cond same (updates schema sets met rows) (cond clashes (Err (refuses ER_DUP_ENTRY)) (change_first (changes.Update old (with_sets sets old)) (updates schema sets met (change_rows (key_places schema) (changes.Update old (with_sets sets old)) rows)))))
      by true clashes still later = up_later (length met) (updates schema sets met rows) still
      by false true still later = tt
      by false false still later = up_first (length met) old (with_sets sets old) (updates schema sets met (change_rows (key_places schema) (changes.Update old (with_sets sets old)) rows)) later

updated_few : (n : ℕ) (result : Result (List Change) Answer) → UpTo n result → AreFew n (result_or_refusal result).changes
updated_few n (Ok all) few = let a = few.1 in record { changes = few.0; writes = omega (arith, a) }
updated_few n (Err refusal) few = none_few n

refused_few : (n : ℕ) (schema : Schema) (at : UnfitAt) (met rows : List Row) → AreFew n (updated schema (Err at) met rows).changes
refused_few n schema at [] rows = none_few n
refused_few n schema at (row ∷ met) rows = none_few n

more_few : (n m : ℕ) (all : List Change) → n ≤ m → AreFew n all → AreFew m all
more_few n m all more few = let a = few.changes in record { changes = omega (arith, a, more); writes = few.writes }

-- what a statement changes
pub tells_few : (schema : Schema) (rows : List Row) (work : Work) → AreFew (length rows + 1) (tells schema rows work).changes
unfolding tells
tells_few schema rows (Refuse refusal) = none_few (length rows + 1)
tells_few schema rows (Insert row) = one_few (length rows) row (refuses ER_DUP_ENTRY) (list_any (clash schema.uniques row) rows)
tells_few schema rows (Copy row) = one_few (length rows) row (answers.Ok 0) (list_any (clash schema.uniques row) rows)
tells_few schema rows (Replace row) = replacing_few (clash schema.uniques row) row rows
tells_few schema rows (Delete reach) = removals_few (reaches schema reach) rows
tells_few schema rows (Update reach (Ok sets)) =
    let short = filter_short (reaches schema reach) rows in
    more_few (length (rows_met schema reach rows)) (length rows + 1) (result_or_refusal (updates schema sets (rows_met schema reach rows) rows)).changes (omega (arith, short))
    (updated_few (length (rows_met schema reach rows)) (updates schema sets (rows_met schema reach rows) rows) (updates_few schema sets (rows_met schema reach rows) rows))
tells_few schema rows (Update reach (Err at)) = refused_few (length rows + 1) schema at (rows_met schema reach rows) rows
tells_few schema rows (Select reach selection) = none_few (length rows + 1)

-- THE EVENTS OF A DATABASE

-- how many events are of the table of this name
abbrev pub count_of : List ℕ → List RowEvent → ℕ
count_of name events = count_by (is_of (name ∷ [])) events

count_more : (name : List ℕ) (event : RowEvent) (events : List RowEvent) → count_of name (event ∷ events) ≡ cond (bytes_eq event.table name || false) 1 0 + count_of name events
count_more name event events = sum_by-cons (λ (one : RowEvent). cond (is_of (name ∷ []) one) 1 0) event events

pub count_both : (name : List ℕ) (one two : List RowEvent) → count_of name (one ++ two) ≡ count_of name one + count_of name two
count_both name one two = sum_by-append (λ (event : RowEvent). cond (is_of (name ∷ []) event) 1 0) one two

writes_more : (name : List ℕ) (event : RowEvent) (events : List RowEvent) → writes_of name (event ∷ events) ≡ cond (cond (bytes_eq event.table name) (is_write event.change) false) 1 0 + writes_of name events
writes_more name event events = sum_by-cons (λ (one : RowEvent). cond (cond (bytes_eq one.table name) (is_write one.change) false) 1 0) event events

-- at most this many events of the table, of which at most one puts a new row
pub record AreFewOf (name : List ℕ) (n : ℕ) (wrote : List RowEvent) : Type 0 where
  pub events : count_of name wrote ≤ n
  pub writes : writes_of name wrote ≤ 1

nothing_few : (name : List ℕ) (n : ℕ) → AreFewOf name n []
nothing_few name n = record { events = omega arith; writes = omega arith }

-- changes of another table
other_counts : (name table : List ℕ) (all : List Change) → bytes_eq table name ≡ false → (count_of name (events_of table all) ≡ 0) × (writes_of name (events_of table all) ≡ 0)
other_counts name table [] other = (refl, refl)
other_counts name table (change ∷ all) other =
    let rest = other_counts name table all other in
    let a : count_of name (events_of table (change ∷ all)) ≡ 0 + count_of name (events_of table all) = count_more name (record { table = table; change = change }) (events_of table all) ∙ ap (λ (b : Bool). cond (b || false) 1 0 + count_of name (events_of table all)) other in
    let b : writes_of name (events_of table (change ∷ all)) ≡ 0 + writes_of name (events_of table all) =
    writes_more name (record { table = table; change = change }) (events_of table all) ∙ ap (λ (b : Bool). cond (cond b (is_write change) false) 1 0 + writes_of name (events_of table all)) other in
    let c = rest.0 in
    let d = rest.1 in
    (omega (arith, a, c), omega (arith, b, d))

-- ... and of the table itself
own_counts : (name table : List ℕ) (all : List Change) → bytes_eq table name ≡ true → (count_of name (events_of table all) ≡ length all) × (writes_of name (events_of table all) ≡ count_by is_write all)
own_counts name table [] own = (refl, refl)
own_counts name table (change ∷ all) own =
    let rest = own_counts name table all own in
    let a : count_of name (events_of table (change ∷ all)) ≡ 1 + count_of name (events_of table all) = count_more name (record { table = table; change = change }) (events_of table all) ∙ ap (λ (b : Bool). cond (b || false) 1 0 + count_of name (events_of table all)) own in
    let b : writes_of name (events_of table (change ∷ all)) ≡ cond (is_write change) 1 0 + writes_of name (events_of table all) =
    writes_more name (record { table = table; change = change }) (events_of table all) ∙ ap (λ (b : Bool). cond (cond b (is_write change) false) 1 0 + writes_of name (events_of table all)) own in
    let c = sum_by-cons (λ (one : Change). cond (is_write one) 1 0) change all in
    let d = rest.0 in
    let e = rest.1 in
    (omega (arith, a, d), b ∙ ap (λ (n : ℕ). cond (is_write change) 1 0 + n) e ∙ sym c)

changed_few : (name table : List ℕ) (n : ℕ) (all : List Change) → AreFew n all → (b : Bool) → bytes_eq table name ≡ b → AreFewOf name n (events_of table all)
changed_few name table n all few true own = let a = own_counts name table all own in let b = a.0 in let c = a.1 in let d = few.changes in let e = few.writes in record { events = omega (arith, b, d); writes = omega (arith, c, e) }
changed_few name table n all few false other = let a = other_counts name table all other in let b = a.0 in let c = a.1 in record { events = omega (arith, b); writes = omega (arith, c) }

-- how many rows the table of this name has
abbrev pub row_count : List ℕ → Database → ℕ
row_count name tables = length (rows_of name tables)

abbrev rows_found : Option TableRows → List Row
rows_found found = unwrap_or (option_map (λ (table : TableRows). table.rows) found) []

said_few : (name : List ℕ) (tables : Database) (operation : Operation) → AreFewOf name (row_count name tables + 1) (operation_result tables operation).events
unfolding operation_result
said_few name tables operation = by (find_table operation.table tables) refl where
  by : (found : Option TableRows) → find_table operation.table tables ≡ found → AreFewOf name (row_count name tables + 1) (result_in operation found).events
  by None is = nothing_few name (row_count name tables + 1)
  by (Some table) is = at (bytes_eq operation.table name) refl where
    all : List Change
    all = (tells table.schema table.rows (operation.work table.schema)).changes

    at : (b : Bool) → bytes_eq operation.table name ≡ b → AreFewOf name (row_count name tables + 1) (events_of operation.table all)
    at true own =
        let rows : rows_of name tables ≡ table.rows = ap (λ (n : List ℕ). rows_of n tables) (sym (are_same operation.table name own)) ∙ ap rows_found is in
        subst (λ (r : List Row). AreFewOf name (length r + 1) (events_of operation.table all)) (sym rows) (changed_few name operation.table (length table.rows + 1) all (tells_few table.schema table.rows (operation.work table.schema)) true own)
    at false other = let a = other_counts name operation.table all other in let b = a.0 in let c = a.1 in record { events = omega (arith, b); writes = omega (arith, c) }

-- ONE LINE

-- what a line writes fits the tables on which it runs, and is little
pub record WritesFew (name : List ℕ) (tables : Database) (events : List RowEvent) : Type 0 where
  pub fits : EventsFit tables events
  pub few : AreFewOf name (row_count name tables + 1) events

nothing_writes : (name : List ℕ) (tables : Database) → WritesFew name tables []
unfolding EventsFit
nothing_writes name tables = record { fits = tt; few = nothing_few name (row_count name tables + 1) }

word_writes : (name : List ℕ) (tables : Database) (word : ScriptWord) → IsWellFormedDatabase tables → WritesFew name tables (line_says tables word).events
word_writes name tables (words.Do statement) is = record { fits = says_fit tables (operation_of statement) (statement_sound tables statement is) is; few = said_few name tables (operation_of statement) }
word_writes name tables words.Begin is = nothing_writes name tables
word_writes name tables words.Commit is = nothing_writes name tables
word_writes name tables words.Rollback is = nothing_writes name tables

pub line_writes : (name : List ℕ) (tables : Database) (word : ScriptWord) (mark : Mark) → IsWellFormedDatabase tables → WritesFew name tables (line_events tables word mark)
line_writes name tables word marks.Answered is = word_writes name tables word is
line_writes name tables word marks.TimedOut is = nothing_writes name tables
line_writes name tables word (marks.Lost Before) is = nothing_writes name tables
line_writes name tables word (marks.Lost After) is = word_writes name tables word is

-- ROWS AFTER EVENTS

none_stays : (name : List ℕ) (tables : Database) (events : List RowEvent) → find_table name tables ≡ None → find_table name (after_events tables events) ≡ None
unfolding after_events
none_stays name tables [] none = none
none_stays name tables (event ∷ events) none = none_stays name (with_change event.table (change_table event.change) tables) events (found_after event.table name event.change tables ∙ ap (change_if (bytes_eq event.table name) event.change) none ∙ by (bytes_eq event.table name)) where
  by : (b : Bool) → change_if b event.change None ≡ None
  by true = refl
  by false = refl

-- events that fit leave at most as many rows as there were, and those that they put
pub rows_grow : (name : List ℕ) (tables : Database) (events : List RowEvent) → IsWellFormedDatabase tables → EventsFit tables events → row_count name (after_events tables events) ≤ row_count name tables + writes_of name events
rows_grow name tables events is fits = by (find_table name tables) refl where
  by : (found : Option TableRows) → find_table name tables ≡ found → row_count name (after_events tables events) ≤ row_count name tables + writes_of name events
  by None none = let after : row_count name (after_events tables events) ≡ 0 = ap (λ (o : Option TableRows). length (rows_found o)) (none_stays name tables events none) in omega (arith, after)
  by (Some table) found =
      let few = rows_few name table.schema table.rows events (events_lead name events tables table is fits found) in
      let before : row_count name tables ≡ length table.rows = ap (λ (o : Option TableRows). length (rows_found o)) found in
      let after : row_count name (after_events tables events) ≡ length (rows_at name (key_places table.schema) table.rows events (length events)) = ap (λ (o : Option TableRows). length (rows_found o)) (found_behind name events tables table is fits found) in
      omega (arith, few, before, after)

-- so a line leaves one row more at most
pub line_rows : (name : List ℕ) (tables : Database) (events : List RowEvent) → IsWellFormedDatabase tables → WritesFew name tables events → row_count name (after_events tables events) ≤ row_count name tables + 1
line_rows name tables events is writes = let a = rows_grow name tables events is writes.fits in let b = writes.few.writes in omega (arith, a, b)
