-- Changes of one table among tables of different names.
use Rattle.std.proofs.Common.{◌≡◌, ℕ, Bool, true, false, ◌||◌, List, [], ◌∷◌, cond, option_map, is_some, Option, Some, refl, sym, ap, ◌∙◌, subst}
use Rattle.std.specs.List.{AllByRecursion}
use Rattle.std.specs.Str.{bytes_eq}
use Rattle.std.specs.Cmp.Lexicographic.{bytes_decides}
use Rattle.base_values.specs.GhoSchema.Rows.{key_places, with_row}
use Rattle.base_values.specs.GhoSchema.Tables.{IsTable}
use Rattle.table_store.specs.Databases.{TableRows, Database, is_named, find_table, has_table, with_change, NamesDiffer, IsDatabase, IsNewIn, put_in_table}
use Rattle.table_store.proofs.Orders.{Row}
use Rattle.table_store.proofs.FoundRows.{put_new}
use Rattle.table_store.proofs.NamedTables.{no_change, none_after, with_change_differs, same_table}

-- a table is found exactly where one has the name
some_first : (b : Bool) (table : TableRows) (rest : Option TableRows) (others : Bool) → is_some rest ≡ others → is_some (cond b (Some table) rest) ≡ (b || others)
some_first true table rest others is = refl
some_first false table rest others is = is

pub found_where : (name : List ℕ) (tables : Database) → is_some (find_table name tables) ≡ has_table name tables
found_where name [] = refl
found_where name (table ∷ tables) = some_first (is_named name table) table (find_table name tables) (has_table name tables) (found_where name tables)

-- the changed table is found by its name
changed_first : (name : List ℕ) (change : TableRows → TableRows) (table : TableRows) (tables : Database) (b : Bool) → is_named name table ≡ b → (change table).schema.name ≡ table.schema.name
    → find_table name (with_change name change tables) ≡ option_map change (find_table name tables)
    → find_table name (cond b (change table) table ∷ with_change name change tables) ≡ option_map change (cond b (Some table) (find_table name tables))
changed_first name change table tables true named keeps rest = rw (keeps, named) refl
changed_first name change table tables false named keeps rest = rw named rest

pub change_found : (name : List ℕ) (change : TableRows → TableRows) (tables : Database) → ((t : TableRows) → (change t).schema.name ≡ t.schema.name) → find_table name (with_change name change tables) ≡ option_map change (find_table name tables)
change_found name change [] keeps = refl
change_found name change (table ∷ tables) keeps = changed_first name change table tables (is_named name table) refl (keeps table) (change_found name change tables keeps)

-- a table of another name is found as before
other_first : (name other : List ℕ) (change : TableRows → TableRows) (table : TableRows) (tables : Database) (b : Bool) → is_named name table ≡ b → bytes_eq name other ≡ false → (change table).schema.name ≡ table.schema.name
    → find_table other (with_change name change tables) ≡ find_table other tables → find_table other (cond b (change table) table ∷ with_change name change tables) ≡ find_table other (table ∷ tables)
other_first name other change table tables true named apart keeps rest =
    let same : table.schema.name ≡ name = (bytes_decides table.schema.name name).0 named in
    let not_other : bytes_eq table.schema.name other ≡ false = ap (λ (n : List ℕ). bytes_eq n other) same ∙ apart in
    rw (keeps, not_other) rest
other_first name other change table tables false named apart keeps rest = ap (λ (found : Option TableRows). cond (is_named other table) (Some table) found) rest

pub other_found : (name other : List ℕ) (change : TableRows → TableRows) (tables : Database) → ((t : TableRows) → (change t).schema.name ≡ t.schema.name) → bytes_eq name other ≡ false
    → find_table other (with_change name change tables) ≡ find_table other tables
other_found name other change [] keeps apart = refl
other_found name other change (table ∷ tables) keeps apart = other_first name other change table tables (is_named name table) refl apart (keeps table) (other_found name other change tables keeps apart)

-- each is still a table
abbrev pub AreTables : Database → Type 0
AreTables tables = AllByRecursion (λ table. IsTable table.schema table.rows) tables

each_first : (name : List ℕ) (change : TableRows → TableRows) (table : TableRows) (tables : Database) (b : Bool) → is_named name table ≡ b → has_table table.schema.name tables ≡ false
    → ((t : TableRows) → cond b (Some table) (find_table name tables) ≡ Some t → IsTable t.schema t.rows → IsTable (change t).schema (change t).rows) → AreTables (table ∷ tables)
    → (((t : TableRows) → find_table name tables ≡ Some t → IsTable t.schema t.rows → IsTable (change t).schema (change t).rows) → AreTables (with_change name change tables)) → AreTables (cond b (change table) table ∷ with_change name change tables)
each_first name change table tables true named none stays are rest =
    (stays table refl are.0, subst AreTables (sym (no_change name change tables (none_after name table tables named none))) are.1)
each_first name change table tables false named none stays are rest = (are.0, rest stays)

each_stays : (name : List ℕ) (change : TableRows → TableRows) (tables : Database) → ((t : TableRows) → find_table name tables ≡ Some t → IsTable t.schema t.rows → IsTable (change t).schema (change t).rows) → NamesDiffer tables → AreTables tables
    → AreTables (with_change name change tables)
each_stays name change [] stays differ are = tt
each_stays name change (table ∷ tables) stays differ are =
    each_first name change table tables (is_named name table) refl differ.0 stays are
    (λ (following : (t : TableRows) → find_table name tables ≡ Some t → IsTable t.schema t.rows → IsTable (change t).schema (change t).rows). each_stays name change tables following differ.1 are.1)

pub change_keeps : (name : List ℕ) (change : TableRows → TableRows) (tables : Database) → ((t : TableRows) → (change t).schema.name ≡ t.schema.name)
    → ((t : TableRows) → find_table name tables ≡ Some t → IsTable t.schema t.rows → IsTable (change t).schema (change t).rows) → IsDatabase tables → IsDatabase (with_change name change tables)
change_keeps name change tables keeps stays is = record {
  names_differ = with_change_differs name change tables keeps is.names_differ;
  each_is_table = each_stays name change tables stays is.names_differ is.each_is_table;
}

-- a row of a new key
pub new_put : (table : TableRows) (row : Row) → IsNewIn row table → put_in_table row table ≡ record { schema = table.schema; rows = with_row (key_places table.schema) row table.rows }
new_put table row new = same_table table.schema table.schema _ (with_row (key_places table.schema) row table.rows) refl (put_new (key_places table.schema) row table.rows new)
