-- Tables found after events; databases that agree, after events and statements.
use Rattle.std.proofs.Common.{◌≡◌, ℕ, Bool, true, false, List, [], ◌∷◌, Option, Some, None, refl, sym, ap, ◌∙◌, subst}
use Rattle.std.specs.List.{list_any}
use Rattle.std.specs.Option.{option_map}
use Rattle.std.specs.Str.{bytes_eq}
use Rattle.base_values.specs.declared.gho_schema.schema.Schema.{Schema}
use Rattle.base_values.specs.GhoSchema.Rows.{key_places}
use Rattle.base_values.specs.GhoSchema.Tables.{Ascends}
use Rattle.base_values.specs.declared.event.RowEvent.{RowEvent}
use Rattle.base_values.specs.declared.event.Change.{Change}
use Rattle.server_locks.specs.declared.row_locks.lock.Lock.{Lock}
use Rattle.table_store.specs.Databases.{TableRows, Database, find_table, with_change}
use Rattle.table_store.proofs.ChangedTables.{change_found, other_found}
use Rattle.table_store.proofs.Orders.{Row}
use Rattle.server_model.specs.declared.work.StatementResult.{StatementResult}
use Rattle.server_model.specs.Rows.{change_rows, change_all}
use Rattle.server_model.specs.declared.work.Work.{Work}
use Rattle.server_model.specs.StatementResults.{TableResult, tells}
use Rattle.server_model.specs.Needs.{needs}
use Rattle.server_model.specs.LockedRows.Agreement.{is_under, SameWhere, TablesAgree, Agree, Within}
use Rattle.server_model.specs.LockedRows.Coverage.{IsWellFormedTable, IsSound, RowsCovered, Covered, rows_of}
use Rattle.server_model.specs.LockedRows.Databases.{TaskSound, WhereFound, IsWellFormedDatabase, EventsCovered}
use Rattle.server_model.specs.LockedRows.Laws.{SaysAlike}
use Rattle.server_model.specs.Operations.{Operation, events_of, result_in, operation_result, needs_in, operation_needs, change_table, after_events}
use Rattle.server_model.proofs.LockedRows.Standing.{same-changed, same-within}
use Rattle.server_model.proofs.LockedRows.Points.{under-within, within-within}
use Rattle.server_model.proofs.LockedRows.Footprints.{AreAlike, footprint}
use Rattle.server_model.proofs.LockedRows.Covers.{tells_covered}
use Rattle.server_model.proofs.LockedRows.WellFormed.{tells_well_formed}
use Rattle.server_model.proofs.LockedRows.Tests.{are_same}

-- where a change of one table is found
abbrev pub change_if : Bool → Change → Option TableRows → Option TableRows
change_if true change found = option_map (change_table change) found
change_if false change found = found

found_by_name : (event other : List ℕ) (change : Change) (tables : Database) (b : Bool) → bytes_eq event other ≡ b → find_table other (with_change event (change_table change) tables) ≡ change_if b change (find_table other tables)
found_by_name event other change tables true is =
    let same : event ≡ other = are_same event other is in
    subst (λ (n : List ℕ). find_table n (with_change event (change_table change) tables) ≡ option_map (change_table change) (find_table n tables)) same (change_found event (change_table change) tables (λ t. refl))
found_by_name event other change tables false is = other_found event other (change_table change) tables (λ t. refl) is

pub found_after : (event other : List ℕ) (change : Change) (tables : Database) → find_table other (with_change event (change_table change) tables) ≡ change_if (bytes_eq event other) change (find_table other tables)
found_after event other change tables = found_by_name event other change tables (bytes_eq event other) refl

-- agreement, table by table
tables_changed : (locks : List Lock) (b : Bool) (change : Change) (one two : Option TableRows) → TablesAgree locks one two → TablesAgree locks (change_if b change one) (change_if b change two)
tables_changed locks true change None None agree = tt
tables_changed locks true change None (Some y) agree = absurd agree
tables_changed locks true change (Some x) None agree = absurd agree
tables_changed locks true change (Some x) (Some y) agree =
    (agree.0, subst (λ (s : Schema). SameWhere (is_under x.schema locks) (change_rows (key_places x.schema) change x.rows) (change_rows (key_places s) change y.rows)) agree.0 (same-changed (is_under x.schema locks) (key_places x.schema) change x.rows y.rows agree.1))
tables_changed locks false change one two agree = agree

pub agree_event : (names : List (List ℕ)) (locks : List Lock) (a b : Database) (event : List ℕ) (change : Change) → Agree names locks a b → Agree names locks (with_change event (change_table change) a) (with_change event (change_table change) b)
agree_event names locks a b event change agree =
    record { tables = λ name named. rw (found_after event name change a, found_after event name change b) (tables_changed locks (bytes_eq event name) change (find_table name a) (find_table name b) (agree.tables name named)) }

pub agree_events : (names : List (List ℕ)) (locks : List Lock) (a b : Database) (events : List RowEvent) → Agree names locks a b → Agree names locks (after_events a events) (after_events b events)
unfolding after_events
agree_events names locks a b [] agree = agree
agree_events names locks a b (event ∷ events) agree =
    agree_events names locks (with_change event.table (change_table event.change) a) (with_change event.table (change_table event.change) b) events (agree_event names locks a b event.table event.change agree)

pub tables_itself : (locks : List Lock) (one : Option TableRows) → TablesAgree locks one one
tables_itself locks None = tt
tables_itself locks (Some x) = (refl, λ row is. refl)

pub agree_itself : (names : List (List ℕ)) (locks : List Lock) (a : Database) → Agree names locks a a
agree_itself names locks a = record { tables = λ name named. tables_itself locks (find_table name a) }

tables_then : (locks : List Lock) (one two three : Option TableRows) → TablesAgree locks one two → TablesAgree locks two three → TablesAgree locks one three
tables_then locks None None None p q = tt
tables_then locks None None (Some z) p q = absurd q
tables_then locks None (Some y) three p q = absurd p
tables_then locks (Some x) None three p q = absurd p
tables_then locks (Some x) (Some y) None p q = absurd q
tables_then locks (Some x) (Some y) (Some z) p q = (p.0 ∙ q.0, λ row is. p.1 row is ∙ q.1 row (subst (λ (s : Schema). is_under s locks row ≡ true) p.0 is))

pub agree_then : (names : List (List ℕ)) (locks : List Lock) (a b c : Database) → Agree names locks a b → Agree names locks b c → Agree names locks a c
agree_then names locks a b c p q = record { tables = λ name named. tables_then locks (find_table name a) (find_table name b) (find_table name c) (p.tables name named) (q.tables name named) }

-- fewer names, fewer locks
tables_within : (some all : List Lock) (one two : Option TableRows) → Within some all → TablesAgree all one two → TablesAgree some one two
tables_within some all None None within p = tt
tables_within some all None (Some y) within p = absurd p
tables_within some all (Some x) None within p = absurd p
tables_within some all (Some x) (Some y) within p = (p.0, λ row is. p.1 row (under-within x.schema some all row within is))

abbrev pub NamesWithin : List (List ℕ) → List (List ℕ) → Type 0
NamesWithin some all = (name : List ℕ) → list_any (bytes_eq name) some ≡ true → list_any (bytes_eq name) all ≡ true

pub agree_within : (names more : List (List ℕ)) (some all : List Lock) (a b : Database) → NamesWithin names more → Within some all → Agree more all a b → Agree names some a b
agree_within names more some all a b named within agree = record { tables = λ name is. tables_within some all (find_table name a) (find_table name b) within (agree.tables name (named name is)) }

-- *Locked rows decide*
alike_in : (task : Operation) (locks : List Lock) (one two : Option TableRows) → TablesAgree locks one two → Within (needs_in task one) locks → WhereFound IsWellFormedTable one → WhereFound IsWellFormedTable two
    → (result_in task one ≡ result_in task two) × (needs_in task one ≡ needs_in task two)
alike_in task locks None None agree within p q = (refl, refl)
alike_in task locks None (Some y) agree within p q = absurd agree
alike_in task locks (Some x) None agree within p q = absurd agree
alike_in task locks (Some x) (Some y) agree within p q =
    let work : Work = task.work x.schema in
    let ascends : Ascends (key_places x.schema) y.rows = subst (λ (s : Schema). Ascends (key_places s) y.rows) (sym agree.0) q.is_table.ascends in
    let same : SameWhere (is_under x.schema (needs x.schema x.rows work)) x.rows y.rows =
    same-within (is_under x.schema (needs x.schema x.rows work)) (is_under x.schema locks) x.rows y.rows (λ row is. under-within x.schema (needs x.schema x.rows work) locks row within is) agree.1 in
    let alike : AreAlike x.schema work x.rows y.rows = footprint x.schema work x.rows y.rows p.is_table.ascends ascends same in (
      ap (λ (t : TableResult). let s : StatementResult = record { answer = t.answer; events = events_of task.table t.changes } in s) (alike.executed ∙ ap (λ (s : Schema). tells s y.rows (task.work s)) agree.0),
      alike.needed ∙ ap (λ (s : Schema). needs s y.rows (task.work s)) agree.0,
    )

pub says_alike : (names : List (List ℕ)) (locks : List Lock) (a b : Database) (task : Operation) → Agree names locks a b → list_any (bytes_eq task.table) names ≡ true → Within (operation_needs a task) locks → IsWellFormedDatabase a → IsWellFormedDatabase b → SaysAlike task a b
unfolding operation_result operation_needs
says_alike names locks a b task agree named within p q =
    let both = alike_in task locks (find_table task.table a) (find_table task.table b) (agree.tables task.table named) within (p.each task.table) (q.each task.table) in
    record { said = both.0; needed = both.1 }

-- what a statement leaves is orderly
abbrev pub change_found_all : Bool → List Change → Option TableRows → Option TableRows
change_found_all true changes found = option_map (λ (t : TableRows). let n : TableRows = record { schema = t.schema; rows = change_all (key_places t.schema) changes t.rows } in n) found
change_found_all false changes found = found

found_all_step : (b : Bool) (change : Change) (changes : List Change) (found : Option TableRows) → change_found_all b changes (change_if b change found) ≡ change_found_all b (change ∷ changes) found
unfolding change_all
found_all_step true change changes None = refl
found_all_step true change changes (Some x) = refl
found_all_step false change changes found = refl

found_all_none : (b : Bool) (found : Option TableRows) → found ≡ change_found_all b [] found
unfolding change_all
found_all_none true None = refl
found_all_none true (Some x) = refl
found_all_none false found = refl

pub found_after_all : (table name : List ℕ) (changes : List Change) (tables : Database) → find_table name (after_events tables (events_of table changes)) ≡ change_found_all (bytes_eq table name) changes (find_table name tables)
unfolding after_events
found_after_all table name [] tables = found_all_none (bytes_eq table name) (find_table name tables)
found_after_all table name (change ∷ changes) tables =
    found_after_all table name changes (with_change table (change_table change) tables)
    ∙ ap (change_found_all (bytes_eq table name) changes) (found_after table name change tables)
    ∙ found_all_step (bytes_eq table name) change changes (find_table name tables)

-- the changes that a statement makes
abbrev pub tells_in : Operation → Option TableRows → List Change
tells_in task None = []
tells_in task (Some x) = (tells x.schema x.rows (task.work x.schema)).changes

well_formed_in : (task : Operation) (name : List ℕ) (one other : Option TableRows) (b : Bool) → (b ≡ true → one ≡ other) → WhereFound (λ table. IsSound table.schema.columns (task.work table.schema)) one → WhereFound IsWellFormedTable other → WhereFound IsWellFormedTable (change_found_all b (tells_in task one) other)
well_formed_in task name one None true same sound p = tt
well_formed_in task name one (Some x) true same sound p =
    let here : IsSound x.schema.columns (task.work x.schema) = subst (λ (o : Option TableRows). WhereFound (λ table. IsSound table.schema.columns (task.work table.schema)) o) (same refl) sound in
    rw (same refl) (record { keyed = p.keyed; defaults = p.defaults; is_table = tells_well_formed x.schema p.keyed x.rows (task.work x.schema) here p.is_table })
well_formed_in task name one other false same sound p = p

said_events : (task : Operation) (one : Option TableRows) → (result_in task one).events ≡ events_of task.table (tells_in task one)
said_events task None = refl
said_events task (Some x) = refl

pub says_well_formed : (tables : Database) (task : Operation) → TaskSound task tables → IsWellFormedDatabase tables → IsWellFormedDatabase (after_events tables (operation_result tables task).events)
unfolding operation_result
says_well_formed tables task sound are =
    let own = task.table in
    rw (said_events task (find_table own tables))
    (record {
      each = λ name. rw (found_after_all own name (tells_in task (find_table own tables)) tables)
          (well_formed_in task name (find_table own tables) (find_table name tables) (bytes_eq own name) (λ is. ap (λ (n : List ℕ). find_table n tables) (are_same own name is)) sound (are.each name));
    })

pub rows_more : (schema : Schema) (some all : List Lock) (rows : List Row) → Within some all → RowsCovered schema some rows → RowsCovered schema all rows
rows_more schema some all [] within covered = tt
rows_more schema some all (row ∷ rows) within covered = (within-within _ some all covered.0 within, rows_more schema some all rows within covered.1)

pub covered_more : (schema : Schema) (some all : List Lock) (changes : List Change) → Within some all → Covered schema some changes → Covered schema all changes
covered_more schema some all [] within covered = tt
covered_more schema some all (change ∷ changes) within covered = (rows_more schema some all (rows_of change) within covered.0, covered_more schema some all changes within covered.1)

-- what a statement writes is covered
covered_each : (names : List (List ℕ)) (locks : List Lock) (tables : Database) (table : List ℕ) (t : TableRows) (changes : List Change) → find_table table tables ≡ Some t → list_any (bytes_eq table) names ≡ true → Covered t.schema locks changes → EventsCovered names locks tables (events_of table changes)
covered_each names locks tables table t [] found named covered = tt
covered_each names locks tables table t (change ∷ changes) found named covered =
    (record { named = named; covered = rw found covered.0 }, covered_each names locks tables table t changes found named covered.1)

said_covered : (names : List (List ℕ)) (locks : List Lock) (tables : Database) (task : Operation) (one : Option TableRows) → find_table task.table tables ≡ one → list_any (bytes_eq task.table) names ≡ true → Within (needs_in task one) locks
    → EventsCovered names locks tables (result_in task one).events
said_covered names locks tables task None found named within = tt
said_covered names locks tables task (Some x) found named within =
    covered_each names locks tables task.table x (tells x.schema x.rows (task.work x.schema)).changes found named
    (covered_more x.schema (needs x.schema x.rows (task.work x.schema)) locks (tells x.schema x.rows (task.work x.schema)).changes within (tells_covered x.schema x.rows (task.work x.schema)))

pub says_covered : (names : List (List ℕ)) (locks : List Lock) (tables : Database) (task : Operation) → list_any (bytes_eq task.table) names ≡ true → Within (operation_needs tables task) locks → EventsCovered names locks tables (operation_result tables task).events
unfolding operation_result operation_needs
says_covered names locks tables task named within = said_covered names locks tables task (find_table task.table tables) refl named within
