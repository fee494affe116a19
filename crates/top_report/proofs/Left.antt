-- The tables that are left, one after the other.
use Rattle.std.proofs.Common.{◌≡◌, ℕ, ◌+◌, ◌≤◌, Bool, true, false, not, List, [], ◌∷◌, ◌++◌, length, drop, filter, Option, Some, None, refl, sym, ◌∙◌, ap, append_assoc, append-nil}
use Rattle.std.specs.Prelude.{option_to_list}
use Rattle.std.proofs.lemmas.Grind.{flat_map-append}
use Rattle.std.proofs.lemmas.List.{drop_all}
use Rattle.std.specs.List.{flat_map, slice_get}
use Rattle.table_store.specs.Databases.{StoredTable, TableRows, Database, database, find_table}
use Rattle.base_values.specs.ToolNames.{is_tool_name}
use Rattle.plan_data.specs.PlanData.{PlanData}
use Rattle.tool_program.specs.JournalWords.Serials.{tables_left}
use Rattle.table_print.proofs.Steps.{from_here}
use Rattle.top_report.specs.Tables.{left_of, table_text, tables_text}

-- a table that is left is printed, and one that isn't is passed over
pub found_text : (shown : Bool) (table : TableRows) → tables_text shown (option_to_list (Some table)) ≡ table_text shown table
unfolding tables_text
found_text shown table = append-nil (table_text shown table)

pub missing_text : (into : List ℕ) (shown : Bool) (found : Option TableRows) → found ≡ None → into ≡ into ++ tables_text shown (option_to_list found)
unfolding tables_text
missing_text into shown found none = rw none (sym (append-nil into))

-- of a leftover nothing is printed
pub leftover_text : (into : List ℕ) (shown : Bool) (plan : PlanData) (opening : TableRows) (tables : Database) → is_tool_name plan.table opening.schema.name ≡ true → into ≡ into ++ tables_text shown (left_of plan opening tables)
unfolding tables_text
leftover_text into shown plan opening tables is = rw is (sym (append-nil into))

-- what is left, table by table
abbrev pub left_in : PlanData → Database → Database → Database
left_in plan opening tables = flat_map (λ table. left_of plan table tables) opening

-- the tables that are looked for
abbrev found_among : PlanData → Database → Database → Database
found_among plan opening tables = flat_map (λ table. option_to_list (find_table table.schema.name tables)) (filter (λ table. not (is_tool_name plan.table table.schema.name)) opening)

found_first : (plan : PlanData) (table : TableRows) (opening tables : Database) (b : Bool) → is_tool_name plan.table table.schema.name ≡ b → left_in plan opening tables ≡ found_among plan opening tables
    → left_in plan (table ∷ opening) tables ≡ found_among plan (table ∷ opening) tables
found_first plan table opening tables true is others = rw is others
found_first plan table opening tables false is others = rw is (ap (λ (found : Database). option_to_list (find_table table.schema.name tables) ++ found) others)

found_in : (plan : PlanData) (opening tables : Database) → left_in plan opening tables ≡ found_among plan opening tables
found_in plan [] tables = refl
found_in plan (table ∷ opening) tables = found_first plan table opening tables (is_tool_name plan.table table.schema.name) refl (found_in plan opening tables)

pub left_by_one : (plan : PlanData) (tables : Database) → left_in plan plan.tables tables ≡ tables_left plan tables
unfolding tables_left
left_by_one plan tables = found_in plan plan.tables tables

text_first : (shown : Bool) (plan : PlanData) (first : TableRows) (others tables : Database) → tables_text shown (left_in plan (first ∷ others) tables) ≡ tables_text shown (left_of plan first tables) ++ tables_text shown (left_in plan others tables)
unfolding tables_text
text_first shown plan first others tables = flat_map-append (table_text shown) (left_of plan first tables) (left_in plan others tables)

pub prints_one : (shown : Bool) (plan : PlanData) (opening : List StoredTable) (place : ℕ) (stored : StoredTable) (tables : Database) (into first all : List ℕ)
    → slice_get opening place ≡ Some stored → into ≡ first ++ tables_text shown (left_of plan stored.table tables)
    → first ++ tables_text shown (left_in plan (database (drop place opening)) tables) ≡ all
    → into ++ tables_text shown (left_in plan (database (drop (place + 1) opening)) tables) ≡ all
prints_one shown plan opening place stored tables into first all at grown so_far =
    let rest = database (drop (place + 1) opening) in
    let one = tables_text shown (left_of plan stored.table tables) in
    let here : tables_text shown (left_in plan (database (drop place opening)) tables) ≡ one ++ tables_text shown (left_in plan rest tables) =
    ap (λ (xs : List StoredTable). tables_text shown (left_in plan (database xs) tables)) (from_here opening place stored at) ∙ text_first shown plan stored.table rest tables in
    ap (λ xs. xs ++ tables_text shown (left_in plan rest tables)) grown
    ∙ append_assoc first one (tables_text shown (left_in plan rest tables))
    ∙ ap (λ xs. first ++ xs) (sym here) ∙ so_far

none_left : (shown : Bool) (plan : PlanData) (tables : Database) → tables_text shown (left_in plan [] tables) ≡ []
unfolding tables_text
none_left shown plan tables = refl

pub prints_all : (shown : Bool) (plan : PlanData) (opening : List StoredTable) (place : ℕ) (tables : Database) (into all : List ℕ)
    → length opening ≤ place → into ++ tables_text shown (left_in plan (database (drop place opening)) tables) ≡ all → into ≡ all
prints_all shown plan opening place tables into all over so_far =
    let none : tables_text shown (left_in plan (database (drop place opening)) tables) ≡ [] =
    ap (λ (xs : List StoredTable). tables_text shown (left_in plan (database xs) tables)) (drop_all place opening over) ∙ none_left shown plan tables in
    sym (append-nil into) ∙ ap (λ xs. into ++ xs) (sym none) ∙ so_far
