-- *Plain plan*: one whose values are plain, whose SELECTs show something and whose numbers have 64 bits; and what is so of the tool
-- that runs it. (This project's rule.)
use Rattle.std.specs.Prelude.{◌≡◌, ℕ, ◌+◌, ◌<◌, ◌≤◌, ◌^◌, length, List, Option, Some, None}
use Rattle.std.specs.List.{AllByRecursion}
use Rattle.base_script.specs.declared.script.ScriptWord.{ScriptWord}
use Rattle.base_script.specs.declared.script.ScriptWord.TheVariants as words
use Rattle.base_script.specs.declared.statement.Statement.TheVariants as statements
use Rattle.base_values.specs.declared.gho_schema.schema.Column.{Column}
use Rattle.plan_data.specs.PlanData.{PlanData, new_map, new_schema}
use Rattle.server_model.specs.declared.entry.Entry.{Entry}
use Rattle.server_model.specs.declared.outcome.Task.{Task}
use Rattle.server_model.specs.declared.outcome.Task.TheVariants.{Chunk, Batch}
use Rattle.tool_program.specs.declared.chunk_copier.copier.CopyRange.{CopyRange}
use Rattle.tool_program.specs.declared.cutover_core.cutover.Phase.{Phase}
use Rattle.tool_program.specs.declared.cutover_core.cutover.Phase.TheVariants.{Attempting}
use Rattle.tool_program.specs.declared.cutover_core.cutover.Stage.{Stage}
use Rattle.tool_program.specs.declared.cutover_core.cutover.Stage.TheVariants.{SettingCounter}
use Rattle.tool_program.specs.declared.event_applier.applier.Applier.{Applier}
use Rattle.tool_program.specs.declared.event_applier.applier.ApplyStep.{ApplyStep}
use Rattle.tool_program.specs.declared.event_applier.applier.ApplyStep.TheVariants.{Beginning, Applying, Committing}
use Rattle.tool_program.specs.Setups.{Setup, Reaching, Ready}
use Rattle.tool_program.specs.Tools.{Reason, Spent, Tool, ToolPhase, SettingUp, Migrating, Work}
use Rattle.proof_plain.specs.Plain.{BytesKey, BytesMap, BytesRange, BytesStatement, HasBytes, IfThere, PlainColumns, PlainDatabase, SmallIf}

abbrev pub BytesWord : ScriptWord → Type 0
BytesWord (words.Do statement) = BytesStatement statement
BytesWord word = Unit {0}

-- *Plain plan*: so are the rows and the defaults of its tables, the literals of its scripts, and what its ALTER adds
pub record PlainPlan (plan : PlanData) : Type 0 where
  pub tables : PlainDatabase plan.tables
  pub starts : AllByRecursion (λ table. SmallIf table.schema.start) plan.tables
  pub rows : AllByRecursion (λ table. length table.rows ≤ 2 ^ 31) plan.tables
  pub scripts : AllByRecursion (λ script. AllByRecursion (λ line. BytesWord line.word) script) plan.clients
  pub map : BytesMap (new_map plan)
  pub columns : PlainColumns (new_schema plan).columns
  pub start : SmallIf (new_schema plan).start
  pub client : plan.options.client_wait < 2 ^ 64
  pub tool : plan.options.tool_wait < 2 ^ 64

-- the literals that a statement stores have bytes
abbrev pub HasByteLiterals : ScriptWord → Type 0
HasByteLiterals (words.Do (statements.Insert table columns values drawn)) = AllByRecursion HasBytes values
HasByteLiterals (words.Do (statements.Replace table columns values drawn)) = AllByRecursion HasBytes values
HasByteLiterals (words.Do (statements.Update table sets condition)) = AllByRecursion (λ set. HasBytes set.value) sets
HasByteLiterals word = Unit {0}

abbrev pub HasByteDefaults : List Column → Type 0
HasByteDefaults columns = AllByRecursion (λ column. IfThere HasBytes column.default) columns

-- *Texts of bytes*: the values of its rows, the literals that its scripts store, the defaults of its columns, and what its ALTER adds are
-- made of bytes. (In these definitions a text is a list of numbers, and a number may be any.)
pub record HasByteTexts (plan : PlanData) : Type 0 where
  pub rows : AllByRecursion (λ table. AllByRecursion (λ row. AllByRecursion HasBytes row) table.rows) plan.tables
  pub defaults : AllByRecursion (λ table. HasByteDefaults table.schema.columns) plan.tables
  pub literals : AllByRecursion (λ script. AllByRecursion (λ line. HasByteLiterals line.word) script) plan.clients
  pub altered : HasByteDefaults (new_schema plan).columns
  pub added : BytesMap (new_map plan)

-- *Short journal*: of at most 2^31 turns, in sessions whose numbers have 64 bits (those of the program have 32)
pub record IsShort (journal : List Entry) : Type 0 where
  pub turns : length journal ≤ 2 ^ 31
  pub sessions : AllByRecursion (λ entry. entry.session < 2 ^ 64) journal

-- ---- the tool

abbrev pub SmallSetup : Setup → Type 0
SmallSetup (Reaching position) = position < 2 ^ 64
SmallSetup (Ready position range) = (position < 2 ^ 64) × BytesRange range
SmallSetup setup = Unit {0}

abbrev pub SmallStep : ApplyStep → Type 0
SmallStep (Beginning batch) = batch.next < 2 ^ 64
SmallStep (Applying batch done part) = batch.next < 2 ^ 64
SmallStep (Committing batch) = batch.next < 2 ^ 64
SmallStep step = Unit {0}

abbrev pub SmallStage : Stage → Type 0
SmallStage (SettingCounter number drain) = number < 2 ^ 64
SmallStage stage = Unit {0}

abbrev pub SmallPhase : Phase → Type 0
SmallPhase (Attempting stage) = SmallStage stage
SmallPhase phase = Unit {0}

-- the applier's positions have 64 bits, and it converts rows by the plan's map
pub record PlainApplier (plan : PlanData) (applier : Applier) : Type 0 where
  pub map : applier.map ≡ new_map plan
  pub position : applier.position < 2 ^ 64
  pub step : SmallStep applier.step

abbrev pub BytesCopyRange : Option CopyRange → Type 0
BytesCopyRange None = Unit {0}
BytesCopyRange (Some range) = BytesKey range.top

-- the copier has at most one chunk a turn
pub record PlainWork (plan : PlanData) (turns : ℕ) (work : Work) : Type 0 where
  pub map : work.copier.map ≡ new_map plan
  pub number : work.copier.number ≤ turns + 1
  pub range : BytesCopyRange work.copier.range
  pub applier : PlainApplier plan work.applier
  pub phase : SmallPhase work.cutover.phase

abbrev pub PlainPhase : PlanData → ℕ → ToolPhase → Type 0
PlainPhase plan turns (SettingUp setup tries) = SmallSetup setup
PlainPhase plan turns (Migrating work) = PlainWork plan turns work

abbrev pub SmallTask : Task → Type 0
SmallTask (Chunk number) = number < 2 ^ 64
SmallTask (Batch position) = position < 2 ^ 64
SmallTask task = Unit {0}

abbrev pub SmallReason : Option Reason → Type 0
SmallReason (Some (Spent task turns)) = SmallTask task
SmallReason reason = Unit {0}

pub record PlainTool (plan : PlanData) (tool : Tool) : Type 0 where
  pub phase : PlainPhase plan tool.turns tool.tool_phase
  pub reason : SmallReason tool.reason
