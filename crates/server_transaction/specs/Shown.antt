-- What was written to a table shows its rows as a transaction's changes leave them. (MySQL's manual, "Consistent
-- Nonlocking Reads": a session sees the changes of its own transaction.)
use Rattle.std.specs.Prelude.{◌≡◌, ℕ, List, [], Option, Some, None, find}
use Rattle.std.specs.Str.{bytes_eq}
use Rattle.base_values.specs.declared.value.Value.{Value}
use Rattle.base_values.specs.GhoSchema.Rows.{key_places}
use Rattle.base_values.specs.GhoSchema.Tables.{Ascends}
use Rattle.base_values.specs.declared.event.Change.{Change}
use Rattle.server_model.specs.Rows.{change_all}
use Rattle.server_seen.specs.Written.{Written, seen}
use Rattle.server_seen.specs.FittingChanges.{AllFit, IsWritten}
use Rattle.server_seen.specs.Stored.{StoredWrites}

-- *Represents*: on all rows that the changes fit, what was written shows the changed rows.
pub record Represents (places : List ℕ) (changes : List Change) (written : Written) : Type 0 where
  pub is_written : IsWritten places written
  pub shows : (rows : List (List Value)) → Ascends places rows → AllFit places changes rows → seen places written rows ≡ change_all places changes rows

-- what was written to the table of this name, where something was
abbrev pub find_writes : List ℕ → List StoredWrites → Option StoredWrites
find_writes name tables = find (λ writes. bytes_eq writes.schema.name name) tables

-- these changes were written there; none, where nothing was written
abbrev pub Shows : List Change → Option StoredWrites → Type 0
Shows changes None = changes ≡ []
Shows changes (Some writes) = Represents (key_places writes.schema) changes writes.written
