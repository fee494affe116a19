-- A session that is alone with its tables. (This project's means of proof.)
use Rattle.std.specs.Prelude.{◌≡◌, ◌==◌, ℕ, false, List, []}
use Rattle.base_values.specs.declared.event.RowEvent.{RowEvent}
use Rattle.table_store.specs.Databases.{Database}
use Rattle.server_model.specs.Operations.{after_events}
use Rattle.server_model.specs.LockedRows.Databases.{IsWellFormedDatabase}

-- *Alone*: no session but the first wrote anything, and what it wrote leaves the tables well formed.
pub record IsAlone (tables : Database) (written : ℕ → List RowEvent) : Type 0 where
  pub others : (other : ℕ) → (other == 1) ≡ false → written other ≡ []
  pub well_formed : IsWellFormedDatabase (after_events tables (written 1))
