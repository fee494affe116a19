-- The names that are kept beside the migrated table's.
use Rattle.std.specs.Prelude.{◌≡◌, ℕ, List}
use Rattle.base_values.specs.ToolNames.{ghost_name, log_name, old_name}

-- they are those of the tool's tables
pub record HasNames (name new log old : List ℕ) : Type 0 where
  pub new_is : new ≡ ghost_name name
  pub log_is : log ≡ log_name name
  pub old_is : old ≡ old_name name
