-- How often a task is tried.
use Rattle.std.specs.Prelude.{◌≡◌, ◌≤◌, ◌<◌, ℕ, Bool, false, List, length}
use Rattle.server_model.specs.declared.entry.Entry.{Entry}
use Rattle.plan_data.specs.PlanData.{PlanData}
use Rattle.tool_program.specs.CutoverCore.CutOvers.{is_done}
use Rattle.tool_program.specs.Tools.{ToolPhase, SettingUp, Migrating, Work, is_reverting, moment}

-- a task has failed at most as often as the plan lets it, and less often while nothing is reverted
pub record Room (plan : PlanData) (reverting : Bool) (tries : List ℕ) : Type 0 where
  pub most : length tries ≤ plan.options.default_retries
  pub left : reverting ≡ false → length tries < plan.options.default_retries

pub record WorkRoom (plan : PlanData) (reverting : Bool) (work : Work) : Type 0 where
  pub chunk : Room plan reverting work.chunk_tries
  pub batch : Room plan reverting work.batch_tries

abbrev pub ToolPhaseRoom : PlanData → Bool → ToolPhase → Type 0
ToolPhaseRoom plan reverting (SettingUp setup tries) = Room plan reverting tries
ToolPhaseRoom plan reverting (Migrating work) = is_done work.cutover.phase ≡ false → WorkRoom plan reverting work

-- *Tries are few*: so it is of the setup, of the chunk and of the batch after every journal, until the RENAME is known to be done
abbrev pub TriesAreFew : Type 0
TriesAreFew = (plan : PlanData) (journal : List Entry) → 1 ≤ plan.options.default_retries → ToolPhaseRoom plan (is_reverting (moment plan journal).tool.reason) (moment plan journal).tool.tool_phase
