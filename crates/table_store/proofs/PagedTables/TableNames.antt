-- Another name for a table, in its schema and where it is kept.
use Rattle.std.proofs.Common.{◌≡◌, ℕ, false, List, set, IfSome, Some, sym, ap, ◌∙◌, subst}
use Rattle.std.specs.List.{slice_get, slice_set}
use Rattle.std.proofs.lemmas.List.{map-set}
use Rattle.std.proofs.lemmas.Option.{same_Some}
use Rattle.table_store.specs.NameMap.NameMaps.{NamedValues, has_name, with_value}
use Rattle.table_store.proofs.NameMap.Entries.{got_map}
use Rattle.table_store.specs.PagedTables.RowPages.StoredRows.{PagedTable}
use Rattle.table_store.specs.Databases.{TableRows, has_table, database, name_table, name_stored}
use Rattle.table_store.specs.PagedTables.PagedDatabases.{stored, table_names}
use Rattle.table_store.proofs.PagedTables.Paged.{has_named, renamed_at}

-- ---- the name in both places

pub record Renames (was now : NamedValues PagedTable) (n : ℕ) (name had had_key : List ℕ) : Type 0 where
  pub reported : IfSome (slice_get (stored was.values) n) (λ s. (had ≡ s.table.schema.name) × (stored now.values ≡ slice_set (stored was.values) n (name_stored name s)))
  pub same : had_key ≡ had
  pub named : now.names ≡ table_names now.values

pub renames : (was kept : NamedValues PagedTable) (n : ℕ) (old new : PagedTable) (key name had had_key : List ℕ) → was.names ≡ table_names was.values → key ≡ name → slice_get was.names n ≡ Some had_key → kept.names ≡ set was.names n key → kept.values ≡ was.values
    → slice_get kept.values n ≡ Some old → new.table ≡ name_table name old.table → new.spare ≡ old.spare → had ≡ old.table.schema.name → Renames was (with_value kept n new) n name had had_key
renames was kept n old new key name had had_key named same key_at names values at table spare had_is =
    let here : slice_get was.values n ≡ Some old = ap (λ (ts : List PagedTable). slice_get ts n) (sym values) ∙ at in
    let named_here : slice_get (table_names was.values) n ≡ Some old.table.schema.name = got_map (λ (t : PagedTable). t.table.schema.name) was.values n old here in
    let both : Some had_key ≡ Some old.table.schema.name = sym key_at ∙ ap (λ ns. slice_get ns n) named ∙ named_here in
    let one : had_key ≡ old.table.schema.name = same_Some had_key old.table.schema.name both in
    record {
      reported = subst (λ (ts : List PagedTable). IfSome (slice_get (stored ts) n) (λ s. (had ≡ s.table.schema.name) × (stored (set kept.values n new) ≡ slice_set (stored ts) n (name_stored name s)))) values (renamed_at kept.values n old new name had at table spare had_is);
      same = one ∙ sym had_is;
      named = names ∙ ap (λ ns. set ns n key) named ∙ ap (λ (ts : List PagedTable). set (table_names ts) n key) (sym values) ∙ ap (set (table_names kept.values) n) (same ∙ sym (ap (λ (t : TableRows). t.schema.name) table)) ∙ sym (map-set (λ (t : PagedTable). t.table.schema.name) kept.values n new);
    }

pub is_free : (key : List ℕ) (name : List ℕ) (tables : NamedValues PagedTable) → tables.names ≡ table_names tables.values → key ≡ name → has_table name (database (stored tables.values)) ≡ false → has_name key tables.names ≡ false
is_free key name tables named same none = ap (λ k. has_name k tables.names) same ∙ ap (has_name name) named ∙ has_named name tables.values ∙ none
