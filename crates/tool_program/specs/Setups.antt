-- *The setup*: what the inspector does before the copy begins. It lists the tables; drops what an earlier migration left;
-- makes the changelog and the new table; asks for the log's end, where the applier begins; and, after that, for the range
-- of keys that is copied.
use Rattle.std.specs.Prelude.{ℕ, if◌then◌else◌, List, Option, Some, None}
use Rattle.server_model.specs.declared.request.Request.{Request}
use Rattle.server_model.specs.declared.request.Request.TheVariants as requests
use Rattle.server_model.specs.declared.answer.Answer.{Answer}
use Rattle.server_model.specs.declared.listing.TableName.{TableName}
use Rattle.server_model.specs.declared.answer.Answer.TheVariants as answers
use Rattle.server_model.specs.declared.answer.KeyRange.{KeyRange}
use Rattle.plan_data.specs.PlanData.{PlanData, new_schema}
use Rattle.base_values.specs.ToolNames.{ghost_name, log_name, old_name}
use Rattle.tool_changelog.specs.ToolTables.{log_schema}
use Rattle.tool_program.specs.declared.cutover_core.cutover.Leftovers.{Leftovers}
use Rattle.tool_program.specs.CutoverCore.Attempts.{has_name, first_name, without_first, is_clear}
use Rattle.tool_program.specs.CutoverCore.CutOvers.{is_bad}

pub data Setup : Type 0 where
  -- the tables are listed
  Listing : Setup
  -- the first table that is left is dropped
  Clearing : Leftovers → Setup
  -- the changelog is made
  MakingLog : Setup
  -- the new table is made
  MakingGhost : Setup
  -- the log's end is asked for
  Marking : Setup
  -- the range of keys is asked for; the log ended here
  Reaching : ℕ → Setup
  -- the applier begins here, and this range is copied
  Ready : ℕ → Option KeyRange → Setup

-- the setup's next call
abbrev pub setup_call : PlanData → Setup → Option Request
setup_call plan Listing = Some requests.ShowTables
setup_call plan (Clearing left) = Some (requests.Drop (first_name plan.table left))
setup_call plan MakingLog = Some (requests.Create (log_schema plan.table))
setup_call plan MakingGhost = Some (requests.Create (record (new_schema plan) { name = ghost_name plan.table }))
setup_call plan Marking = Some requests.LogEnd
setup_call plan (Reaching position) = Some (requests.Ends plan.table)
setup_call plan (Ready position range) = None

-- which of the tool's tables are listed
abbrev pub listed : List ℕ → List TableName → Leftovers
listed table tables =
    record { log = has_name (log_name table) tables; new_table = has_name (ghost_name table) tables; old = has_name (old_name table) tables }

abbrev pub clearing : Leftovers → Setup
clearing left = if is_clear left then MakingLog else Clearing left

-- the setup after an answer; a lost call and a time-out begin it again
abbrev pub setup_step : List ℕ → Setup → Answer → Setup
setup_step table Listing (answers.Tables tables) = clearing (listed table tables)
setup_step table (Clearing left) (answers.Ok count) = clearing (without_first left)
setup_step table MakingLog (answers.Ok count) = MakingGhost
setup_step table MakingGhost (answers.Ok count) = Marking
setup_step table Marking (answers.At position) = Reaching position
setup_step table (Reaching position) (answers.Ends range) = Ready position range
setup_step table setup answer = setup

abbrev pub setup_after : List ℕ → Setup → Answer → Setup
setup_after table setup answer = if is_bad answer then Listing else setup_step table setup answer
