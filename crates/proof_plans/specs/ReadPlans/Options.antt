-- What the options of every plan that is read allow. (The ranges are this project's rule.)
use Rattle.std.specs.Prelude.{◌≡◌, ◌≤◌, ℕ, List, Ok}
use Rattle.plan_data.specs.declared.options.Options.{Options}
use Rattle.plan_data.specs.PlanData.{PlanData}
use Rattle.plan_reader.specs.Plans.{read}

-- a client's wait and one of the tool's are polled once at least, a run has one turn at least, a task is tried from once to a
-- thousand times, there are at most a thousand notes, with 1 to 100,000 turns between two, and a replica comes on after one turn
-- at least
pub record IsAllowed (options : Options) : Type 0 where
  pub client : 1 ≤ options.client_wait
  pub tool : 1 ≤ options.tool_wait
  pub turns : 1 ≤ options.turn_limit
  pub tries : 1 ≤ options.default_retries
  pub few : options.default_retries ≤ 1000
  pub notes : options.notes ≤ 1000
  pub between : 1 ≤ options.note_every
  pub near : options.note_every ≤ 100000
  pub pause : 1 ≤ options.replica_pause

-- *Read options allow* that much.
abbrev pub ReadOptionsAllow : Type 0
ReadOptionsAllow = (bytes : List ℕ) (plan : PlanData) → read bytes ≡ Ok plan → IsAllowed plan.options
