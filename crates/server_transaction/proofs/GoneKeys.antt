-- The keys of the rows that a transaction's events take out are by the schemas of the tables as they stand.
use Rattle.std.proofs.Common.{◌≡◌, ℕ, Bool, true, false, List, [], ◌∷◌, cond, Option, Some, None, refl, sym, subst}
use Rattle.std.specs.Prelude.{IfSome}
use Rattle.std.specs.Option.{option_map}
use Rattle.std.specs.List.{AllByRecursion, AllZip}
use Rattle.std.specs.Str.{bytes_eq}
use Rattle.base_values.specs.declared.gho_schema.schema.Schema.{Schema}
use Rattle.base_values.specs.GhoSchema.Rows.{key_places}
use Rattle.base_values.specs.declared.event.Change.{Change}
use Rattle.base_values.specs.declared.event.RowEvent.{RowEvent}
use Rattle.table_store.specs.Databases.{TableRows, Database, find_table, with_change}
use Rattle.table_store.proofs.Orders.{Row}
use Rattle.server_model.specs.Operations.{change_table}
use Rattle.server_model.proofs.LockedRows.Tests.{are_same}
use Rattle.server_model.proofs.LockedRows.Finding.{change_if, found_after}
use Rattle.server_seen.specs.Stored.{StoredWrites}
use Rattle.server_transaction.specs.Events.{gone_key}
use Rattle.server_transaction.specs.Shown.{find_writes}
use Rattle.server_transaction.specs.Stored.{IsGone, schemas}
use Rattle.server_transaction.specs.Premises.{HasSchema, IsGoneIn}

-- one event's key
gone_here : (event : RowEvent) (key : Option Row) (writes : Option StoredWrites) (table : Option TableRows) → IsGone event key writes → IfSome writes (λ w. option_map (λ (t : TableRows). t.schema) table ≡ Some w.schema) → IfSome table (λ t. key ≡ gone_key (key_places t.schema) event.change)
gone_here event key None table is stands = absurd is
gone_here event key (Some w) None is stands = tt
gone_here event key (Some w) (Some t) is stands = let same : t.schema ≡ w.schema = cc in subst (λ (s : Schema). key ≡ gone_key (key_places s) event.change) (sym same) is

-- the schema of a table that is found stands
found_first : (tables : Database) (name : List ℕ) (first table : StoredWrites) (b : Bool) (found : Option StoredWrites) → bytes_eq first.schema.name name ≡ b → HasSchema tables first.schema → (found ≡ Some table → option_map (λ (t : TableRows). t.schema) (find_table name tables) ≡ Some table.schema)
    → cond b (Some first) found ≡ Some table → option_map (λ (t : TableRows). t.schema) (find_table name tables) ≡ Some table.schema
found_first tables name first table true found named has rest is =
    let same : first ≡ table = cc in
    subst (λ (w : StoredWrites). option_map (λ (t : TableRows). t.schema) (find_table name tables) ≡ Some w.schema) same
    (subst (λ (n : List ℕ). option_map (λ (t : TableRows). t.schema) (find_table n tables) ≡ Some first.schema) (are_same first.schema.name name named) has)
found_first tables name first table false found named has rest is = rest is

pub found_stands : (tables : Database) (name : List ℕ) (written : List StoredWrites) (table : StoredWrites) → AllByRecursion (HasSchema tables) (schemas written) → find_writes name written ≡ Some table → option_map (λ (t : TableRows). t.schema) (find_table name tables) ≡ Some table.schema
found_stands tables name [] table stand is = absurd (cc)
found_stands tables name (first ∷ written) table stand is = found_first tables name first table (bytes_eq first.schema.name name) (find_writes name written) refl stand.0 (found_stands tables name written table stand.1) is

some_stands : (tables : Database) (name : List ℕ) (written : List StoredWrites) (found : Option StoredWrites) → find_writes name written ≡ found → AllByRecursion (HasSchema tables) (schemas written) → IfSome found (λ w. option_map (λ (t : TableRows). t.schema) (find_table name tables) ≡ Some w.schema)
some_stands tables name written None is stand = tt
some_stands tables name written (Some w) is stand = found_stands tables name written w stand is

pub gone_in : (tables : Database) (written : List StoredWrites) (events : List RowEvent) (gone : List (Option Row)) → AllByRecursion (HasSchema tables) (schemas written) → AllZip (λ event key. IsGone event key (find_writes event.table written)) events gone → AllZip (IsGoneIn tables) events gone
gone_in tables written [] [] stand all = tt
gone_in tables written [] (key ∷ gone) stand all = absurd all
gone_in tables written (event ∷ events) [] stand all = absurd all
gone_in tables written (event ∷ events) (key ∷ gone) stand all =
    (gone_here event key (find_writes event.table written) (find_table event.table tables) all.0 (some_stands tables event.table written (find_writes event.table written) refl stand), gone_in tables written events gone stand all.1)

-- a change of a table leaves the keys
still_here : (event : RowEvent) (key : Option Row) (b : Bool) (change : Change) (table : Option TableRows) → IfSome table (λ t. key ≡ gone_key (key_places t.schema) event.change) → IfSome (change_if b change table) (λ t. key ≡ gone_key (key_places t.schema) event.change)
still_here event key true change None is = tt
still_here event key true change (Some t) is = is
still_here event key false change table is = is

pub still_gone : (name : List ℕ) (change : Change) (tables : Database) (events : List RowEvent) (gone : List (Option Row)) → AllZip (IsGoneIn tables) events gone → AllZip (IsGoneIn (with_change name (change_table change) tables)) events gone
still_gone name change tables [] [] all = tt
still_gone name change tables [] (key ∷ gone) all = absurd all
still_gone name change tables (event ∷ events) [] all = absurd all
still_gone name change tables (event ∷ events) (key ∷ gone) all = (
  subst (λ (o : Option TableRows). IfSome o (λ t. key ≡ gone_key (key_places t.schema) event.change)) (sym (found_after name event.table change tables))
      (still_here event key (bytes_eq name event.table) change (find_table event.table tables) all.0),
  still_gone name change tables events gone all.1,
)
