-- The table that a session sees is the committed one through what the session wrote to it.
use Rattle.std.proofs.Common.{◌≡◌, ℕ, List, [], Option, Some, None, refl, sym, ap, ◌∙◌, subst}
use Rattle.std.specs.Option.{option_map}
use Rattle.base_values.specs.declared.gho_schema.schema.Schema.{Schema}
use Rattle.base_values.specs.declared.event.Change.{Change}
use Rattle.base_values.specs.declared.event.RowEvent.{RowEvent}
use Rattle.base_values.specs.GhoSchema.Rows.{key_places}
use Rattle.base_values.specs.GhoSchema.Tables.{Ascends}
use Rattle.table_store.specs.Databases.{TableRows, Database, find_table}
use Rattle.table_store.proofs.Orders.{Row}
use Rattle.server_model.specs.Operations.{after_events}
use Rattle.server_seen.specs.Written.{Written, nothing, seen, wrote_all}
use Rattle.server_seen.specs.Stored.{StoredWrites}
use Rattle.server_transaction.specs.Events.{changes_in}
use Rattle.server_transaction.specs.Shown.{find_writes, Shows, Represents}
use Rattle.server_transaction.specs.Stored.{StoredTxn}
use Rattle.server_transaction.specs.Premises.{HasSchema, IsOf}
use Rattle.server_transaction.proofs.GoneKeys.{found_stands}
use Rattle.server_transaction.proofs.Represented.{represents_all}
use Rattle.server_transaction.proofs.SeenViews.{own_name, through, IsSeen, is_seen}
use Rattle.server_transaction.proofs.Views.{changed, found_changed}

-- a table of these rows is the one that is seen
same_seen : (table it : TableRows) (written : Written) → it.schema ≡ table.schema → it.rows ≡ seen (key_places table.schema) written table.rows → it ≡ through written table
same_seen table it written schema rows = ap {B = TableRows} (λ (s : Schema). record { schema = s; rows = it.rows }) schema ∙ ap {B = TableRows} (λ (rs : List Row). record { schema = table.schema; rows = rs }) rows

view_of : (tables : Database) (events : List RowEvent) (name : List ℕ) (written : Written) (table it : TableRows) → IsSeen tables events name written table → it.schema ≡ table.schema → it.rows ≡ seen (key_places table.schema) written table.rows → Some it ≡ find_table name (after_events tables events)
view_of tables events name written table it is schema rows = ap {B = Option TableRows} Some (same_seen table it written schema rows) ∙ sym is.view

-- where something was written to it
pub same_schema : (tables : Database) (txn : StoredTxn) (name : List ℕ) (table : TableRows) (writes : StoredWrites) → IsOf tables txn → Some table ≡ find_table name tables → Some writes ≡ find_writes name txn.tables → writes.schema ≡ table.schema
same_schema tables txn name table writes of found there =
    let stands : option_map (λ (t : TableRows). t.schema) (find_table name tables) ≡ Some writes.schema = found_stands tables name txn.tables writes of.stand (sym there) in
    let both : Some table.schema ≡ Some writes.schema = ap (option_map (λ (t : TableRows). t.schema)) found ∙ stands in
    cc

pub sees_some : (tables : Database) (txn : StoredTxn) (name : List ℕ) (table it : TableRows) (writes : StoredWrites) → IsOf tables txn → Some table ≡ find_table name tables → Ascends (key_places table.schema) table.rows → Some writes ≡ find_writes name txn.tables
    → Shows (changes_in name txn.events) (find_writes name txn.tables) → it.schema ≡ table.schema → it.rows ≡ seen (key_places table.schema) writes.written table.rows → Some it ≡ find_table name (after_events tables txn.events)
sees_some tables txn name table it writes of found ascends there shows schema rows =
    let same : writes.schema ≡ table.schema = same_schema tables txn name table writes of found there in
    let shown : Shows (changes_in name txn.events) (Some writes) = subst (Shows (changes_in name txn.events)) (sym there) shows in
    let represents : Represents (key_places table.schema) (changes_in name txn.events) writes.written = subst (λ (s : Schema). Represents (key_places s) (changes_in name txn.events) writes.written) same shown in
    view_of tables txn.events name writes.written table it (is_seen tables txn.events name writes.written table (sym found) ascends of.fit of.well_formed represents) schema rows

-- where nothing was
nothing_wrote : (places : List ℕ) → wrote_all places [] nothing ≡ nothing
unfolding wrote_all
nothing_wrote places = refl

pub sees_none : (tables : Database) (txn : StoredTxn) (name : List ℕ) (table it : TableRows) → IsOf tables txn → Some table ≡ find_table name tables → Ascends (key_places table.schema) table.rows → None ≡ find_writes name txn.tables → Shows (changes_in name txn.events) (find_writes name txn.tables)
    → it.schema ≡ table.schema → it.rows ≡ seen (key_places table.schema) nothing table.rows → Some it ≡ find_table name (after_events tables txn.events)
sees_none tables txn name table it of found ascends there shows schema rows =
    let nothing_there : changes_in name txn.events ≡ [] = subst (Shows (changes_in name txn.events)) (sym there) shows in
    let represents : Represents (key_places table.schema) (changes_in name txn.events) nothing =
    subst (λ (cs : List Change). Represents (key_places table.schema) cs nothing) (sym nothing_there) (subst (Represents (key_places table.schema) []) (nothing_wrote (key_places table.schema)) (represents_all (key_places table.schema) [])) in
    view_of tables txn.events name nothing table it (is_seen tables txn.events name nothing table (sym found) ascends of.fit of.well_formed represents) schema rows

-- where there is none
pub sees_missing : (tables : Database) (events : List RowEvent) (name : List ℕ) → None ≡ find_table name tables → None ≡ find_table name (after_events tables events)
sees_missing tables events name none = sym (found_changed name events tables ∙ ap (option_map (changed (changes_in name events))) (sym none))

-- A table that is seen has the schema of the committed one.
committed_schema : (changes : List Change) (found : Option TableRows) → option_map (λ (t : TableRows). t.schema) found ≡ option_map (λ (t : TableRows). t.schema) (option_map (changed changes) found)
committed_schema changes None = refl
committed_schema changes (Some table) = refl

pub seen_stands : (tables : Database) (events : List RowEvent) (name : List ℕ) (table : TableRows) → Some table ≡ find_table name (after_events tables events) → HasSchema tables table.schema
seen_stands tables events name table found =
    ap (λ (n : List ℕ). option_map (λ (t : TableRows). t.schema) (find_table n tables)) (own_name name table (after_events tables events) (sym found)) ∙ committed_schema (changes_in name events) (find_table name tables)
    ∙ ap (option_map (λ (t : TableRows). t.schema)) (sym (found_changed name events tables) ∙ sym found)
