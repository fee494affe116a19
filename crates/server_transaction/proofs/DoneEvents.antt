-- A change of a table is done to the tables of a database.
use Rattle.std.proofs.Common.{◌≡◌, ℕ, Bool, true, false, List, [], ◌∷◌, cond, Some, refl, sym, ap, ◌∙◌}
use Rattle.base_values.specs.GhoSchema.Rows.{key_of, key_places}
use Rattle.base_values.specs.GhoSchema.Tables.{Ascends}
use Rattle.base_values.specs.declared.event.Change.TheVariants.{Write, Update, Delete}
use Rattle.table_store.specs.Databases.{TableRows, Database, find_table, is_named, with_change, put_in_table, put_row, remove_from_table, remove_row, NamesDiffer, IsNewIn}
use Rattle.table_store.proofs.Orders.{Row}
use Rattle.table_store.proofs.ChangedTables.{new_put}
use Rattle.table_store.proofs.NamedTables.{no_change, none_after}
use Rattle.server_model.specs.Rows.{stands, change_rows}
use Rattle.server_model.specs.Operations.{change_table}
use Rattle.server_model.proofs.LockedRows.OneRow.{same_removal}

-- two changes that do the same to the one table of the name
same_first : (name : List ℕ) (f g : TableRows → TableRows) (table found : TableRows) (tables : Database) (b : Bool) → is_named name table ≡ b → NamesDiffer (table ∷ tables) → cond b (Some table) (find_table name tables) ≡ Some found → f found ≡ g found
    → (find_table name tables ≡ Some found → with_change name f tables ≡ with_change name g tables) → cond b (f table) table ∷ with_change name f tables ≡ cond b (g table) table ∷ with_change name g tables
same_first name f g table found tables true named differ is same rest =
    let one : table ≡ found = cc in
    let none = none_after name table tables named differ.0 in
    let here : f table ≡ g table = ap f one ∙ same ∙ ap g (sym one) in
    rw (no_change name f tables none, no_change name g tables none, here) refl
same_first name f g table found tables false named differ is same rest = ap (λ (ts : Database). table ∷ ts) (rest is)

pub same_change : (name : List ℕ) (f g : TableRows → TableRows) (found : TableRows) (tables : Database) → NamesDiffer tables → find_table name tables ≡ Some found → f found ≡ g found → with_change name f tables ≡ with_change name g tables
same_change name f g found [] differ is same = refl
same_change name f g found (table ∷ tables) differ is same = same_first name f g table found tables (is_named name table) refl differ is same (λ following. same_change name f g found tables differ.1 following same)

-- a change behind a change
twice_here : (name : List ℕ) (f g : TableRows → TableRows) (table : TableRows) (b : Bool) → is_named name table ≡ b → ((t : TableRows) → (f t).schema.name ≡ t.schema.name) → cond (is_named name (cond b (f table) table)) (g (cond b (f table) table)) (cond b (f table) table) ≡ cond b (g (f table)) table
twice_here name f g table true is keeps = rw (keeps table, is) refl
twice_here name f g table false is keeps = rw is refl

pub twice_changed : (name : List ℕ) (f g : TableRows → TableRows) (tables : Database) → ((t : TableRows) → (f t).schema.name ≡ t.schema.name) → with_change name g (with_change name f tables) ≡ with_change name (λ t. g (f t)) tables
twice_changed name f g [] keeps = refl
twice_changed name f g (table ∷ tables) keeps =
    rw (twice_here name f g table (is_named name table) refl keeps) (ap (λ (ts : Database). cond (is_named name table) (g (f table)) table ∷ ts) (twice_changed name f g tables keeps))

-- a row of a new key is written
pub put_done : (name : List ℕ) (row : Row) (found : TableRows) (tables : Database) → NamesDiffer tables → find_table name tables ≡ Some found → IsNewIn row found → put_row name row tables ≡ with_change name (change_table (Write row)) tables
unfolding change_rows
put_done name row found tables differ is new = same_change name (put_in_table row) (change_table (Write row)) found tables differ is (new_put found row new)

-- a row that stands is removed by its key
pub removal_done : (name : List ℕ) (row key : Row) (found : TableRows) (tables : Database) → NamesDiffer tables → find_table name tables ≡ Some found → Ascends (key_places found.schema) found.rows → key ≡ key_of (key_places found.schema) row → stands row found.rows ≡ true
    → remove_row name key tables ≡ with_change name (change_table (Delete row)) tables
unfolding change_rows
removal_done name row key found tables differ is ascends own stood =
    same_change name (remove_from_table key) (change_table (Delete row)) found tables differ is
    (ap (λ (k : Row). remove_from_table k found) own ∙ ap {B = TableRows} (λ (rs : List Row). record { schema = found.schema; rows = rs }) (same_removal (key_places found.schema) row found.rows ascends stood))

-- a row is removed and another one is written
pub update_done : (name : List ℕ) (before after : Row) (tables : Database) → with_change name (change_table (Write after)) (with_change name (change_table (Delete before)) tables) ≡ with_change name (change_table (Update before after)) tables
unfolding change_rows
update_done name before after tables = twice_changed name (change_table (Delete before)) (change_table (Write after)) tables (λ t. refl)
