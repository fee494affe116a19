-- A table as it is seen, where something was written to it and where nothing was.
use Rattle.std.proofs.Common.{◌≡◌, Option, Some, None, ap, ◌∙◌, subst}
use Rattle.std.specs.Prelude.{IfSome}
use Rattle.base_values.specs.GhoSchema.Rows.{key_places}
use Rattle.table_store.specs.Databases.{TableRows}
use Rattle.server_seen.specs.Written.{seen}
use Rattle.server_seen.specs.Stored.{StoredWrites, written_in}
use Rattle.server_seen.proofs.SeenRows.{seen-nothing}

pub same_schema : (table : TableRows) (writes : Option StoredWrites) (some : StoredWrites) → writes ≡ Some some → IfSome writes (λ one. one.schema ≡ table.schema) → some.schema ≡ table.schema
same_schema table writes some is same = subst (λ (w : Option StoredWrites). IfSome w (λ one. one.schema ≡ table.schema)) is same

pub seen_some : (table : TableRows) (writes : Option StoredWrites) (some : StoredWrites) → writes ≡ Some some → seen (key_places table.schema) (written_in writes) table.rows ≡ seen (key_places table.schema) some.written table.rows
seen_some table writes some is = ap (λ (w : Option StoredWrites). seen (key_places table.schema) (written_in w) table.rows) is

pub seen_none : (table : TableRows) (writes : Option StoredWrites) → writes ≡ None → seen (key_places table.schema) (written_in writes) table.rows ≡ table.rows
seen_none table writes none = ap (λ (w : Option StoredWrites). seen (key_places table.schema) (written_in w) table.rows) none ∙ seen-nothing (key_places table.schema) table.rows
