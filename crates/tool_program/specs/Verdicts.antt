-- *Verdict*: when a run has ended, how, and why.
use Rattle.std.specs.Prelude.{ℕ, Bool, true, false, ◌&&◌, not, if◌then◌else◌, List, [], Option, Some, None}
use Rattle.std.specs.List.{list_any}
use Rattle.base_values.specs.declared.value.Value.{Value}
use Rattle.base_values.specs.GhoSchema.Rows.{key_places}
use Rattle.server_model.specs.declared.entry.Entry.{Entry}
use Rattle.server_model.specs.declared.outcome.Cause.{Cause}
use Rattle.server_model.specs.declared.outcome.Verdict.{Verdict}
use Rattle.server_model.specs.declared.outcome.Cause.TheVariants as causes
use Rattle.server_model.specs.declared.outcome.Verdict.TheVariants as verdicts
use Rattle.server_model.specs.States.{is_tool_busy}
use Rattle.plan_data.specs.PlanData.{PlanData, old_schema, new_schema}
use Rattle.tool_program.specs.JournalWords.Clients.{clients_over}
use Rattle.tool_program.specs.JournalWords.Histories.{history, is_alter}
use Rattle.tool_program.specs.ChunkCopier.Copiers as copiers
use Rattle.tool_program.specs.EventApplier.Appliers as appliers
use Rattle.tool_program.specs.CutoverCore.CutOvers.{stands}
use Rattle.tool_program.specs.CutoverCore.CutOvers as cutovers
use Rattle.tool_program.specs.Tools.{ToolPhase, SettingUp, Migrating, Reason, CopyUnfit, ApplyUnfit, Spent, Panicked, Tool, Moment, is_renamed, is_reverting, moment}

-- no attempt is under way
abbrev pub is_calm : ToolPhase → Bool
is_calm (SettingUp setup tries) = true
is_calm (Migrating work) = not (stands work.cutover.phase)

abbrev pub is_finished : ToolPhase → Bool
is_finished (SettingUp setup tries) = false
is_finished (Migrating work) = cutovers.is_finished work.cutover.phase

-- the tool is over: all is cleared up after the RENAME; or all is reverted, with no attempt, no wait and no transaction
abbrev pub is_over : Moment → Bool
is_over now =
    if is_renamed now.tool.tool_phase then is_finished now.tool.tool_phase
    else is_reverting now.tool.reason && is_calm now.tool.tool_phase && not (is_tool_busy now.server)

-- the name of the new column at this place
abbrev pub new_column_name : PlanData → ℕ → List ℕ
new_column_name plan place = appliers.name_at (new_schema plan).columns place

-- the key of the row that didn't fit
abbrev pub copy_key : List Entry → ToolPhase → List Value
copy_key journal (SettingUp setup tries) = []
copy_key journal (Migrating work) = copiers.unfit_key journal work.copier

abbrev pub apply_key : PlanData → List Entry → ToolPhase → List Value
apply_key plan journal (SettingUp setup tries) = []
apply_key plan journal (Migrating work) = appliers.unfit_key journal (key_places (old_schema plan)) work.applier

abbrev pub cause_of : PlanData → List Entry → Tool → Reason → Cause
cause_of plan journal tool (CopyUnfit turn place number) = causes.Unfit turn (copy_key journal tool.tool_phase) (new_column_name plan place) number
cause_of plan journal tool (ApplyUnfit turn place number) = causes.Unfit turn (apply_key plan journal tool.tool_phase) (new_column_name plan place) number
cause_of plan journal tool (Spent task turns) = causes.Spent task turns
cause_of plan journal tool (Panicked turn) = causes.Panic turn

-- the first ground that was taken (Of several at one turn a row that didn't fit comes first, then a batch, then the cut-over:
-- the order in which a turn is taken.)
abbrev pub reverted_by : PlanData → List Entry → Tool → Option Reason → Verdict
reverted_by plan journal tool None = verdicts.Unfinished
reverted_by plan journal tool (Some reason) = verdicts.Reverted (cause_of plan journal tool reason)

-- *Ended*: the tool is over, and every client.
unfoldable pub has_ended : PlanData → List Entry → Bool
has_ended plan journal = is_over (moment plan journal) && clients_over plan journal

abbrev pub ended_so : PlanData → List Entry → Tool → Verdict
ended_so plan journal tool = if list_any is_alter (history plan journal) then verdicts.Done else reverted_by plan journal tool tool.reason

-- *Verdict*: how the migration ended, and why; unfinished until the run has ended.
unfoldable pub verdict_of : PlanData → List Entry → Verdict
verdict_of plan journal = if has_ended plan journal then ended_so plan journal (moment plan journal).tool else verdicts.Unfinished
