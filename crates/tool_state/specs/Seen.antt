-- What the code looks at besides the tool's record and the server's state. (This project's rule.)
use Rattle.std.specs.Prelude.{◌≡◌, ℕ, List, [], ◌∷◌}
use Rattle.server_model.specs.States.{State, load}
use Rattle.base_values.specs.ToolNames.{log_name}
use Rattle.tool_state.specs.declared.tool_state.tool.Tool.{Tool}

-- *Seen*: the names are those whose events the applier reads, and this many transactions of clients are open
pub record IsSeen (state : State) (tool : Tool) (tables : List (List ℕ)) (seen : ℕ) : Type 0 where
  pub names : tables ≡ tool.work.applier.table ∷ log_name tool.work.applier.table ∷ []
  pub load : seen ≡ load state
