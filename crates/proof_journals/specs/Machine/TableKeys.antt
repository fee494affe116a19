-- *Keys of the migrated table*: the ends and the keys that the copier asks with are of the clustered key's kinds.
use Rattle.std.specs.Prelude.{◌≡◌, ◌≤◌, ℕ, List, [], Option, Some, None}
use Rattle.std.specs.List.{AllByRecursion}
use Rattle.base_values.specs.declared.kind.Kind.{Kind}
use Rattle.base_values.specs.declared.span.Bound.{Bound}
use Rattle.base_values.specs.declared.span.Bound.TheVariants.{Closed}
use Rattle.base_values.specs.declared.value.Value.{Value}
use Rattle.base_values.specs.Spans.{EndOfKinds}
use Rattle.base_values.specs.StoredValues.{AreOfKinds}
use Rattle.server_model.specs.Along.{Along}
use Rattle.server_model.specs.Conditions.{key_kinds, IsMapOf}
use Rattle.server_model.specs.declared.answer.Answer.{Answer}
use Rattle.server_model.specs.declared.answer.Answer.TheVariants as answers
use Rattle.server_model.specs.declared.entry.Entry.{Entry}
use Rattle.server_model.specs.Entries.{answer_at}
use Rattle.server_model.specs.EarlierAnswers.{end_in}
use Rattle.tool_program.specs.declared.chunk_copier.copier.Chunk.{Chunk}
use Rattle.tool_program.specs.declared.chunk_copier.copier.Copier.{Copier}
use Rattle.tool_program.specs.declared.chunk_copier.copier.CopyRange.{CopyRange}
use Rattle.tool_program.specs.declared.chunk_copier.copier.CopyStep.{CopyStep}
use Rattle.tool_program.specs.declared.chunk_copier.copier.CopyStep.TheVariants.{Choosing, Spanning, Copying, Committing}
use Rattle.tool_program.specs.Tools.{ToolPhase, SettingUp, Migrating}
use Rattle.server_model.specs.declared.request.Request.{Request}
use Rattle.server_model.specs.declared.request.Request.TheVariants as requests
use Rattle.server_model.specs.LockedRows.Databases.{IsWellFormedDatabase}
use Rattle.plan_data.specs.PlanData.{PlanData, old_schema, new_map}
use Rattle.base_values.specs.ToolNames.{ghost_name}
use Rattle.tool_program.specs.JournalWords.Journals.{state_at}
use Rattle.proof_journals.specs.Machine.MigrationTables.{ghost_schema}

-- the kinds of the migrated table's clustered key
abbrev pub kinds_of : PlanData → List Kind
kinds_of plan = key_kinds (old_schema plan)

-- a key of these kinds
abbrev pub IsKey : PlanData → List Value → Type 0
IsKey plan key = AreOfKinds key (kinds_of plan)

-- an end that is a key, and belongs to the span
abbrev pub IsClosedKey : PlanData → Bound → Type 0
IsClosedKey plan (Closed key) = IsKey plan key
IsClosedKey plan end = ⊥

-- the request is of the migrated table, with keys of its kinds
abbrev pub IsKeyed : PlanData → Request → Type 0
IsKeyed plan (requests.Ends table) = table ≡ plan.table
IsKeyed plan (requests.ChunkEnd table low top size) = (table ≡ plan.table) × (1 ≤ size) × EndOfKinds low (kinds_of plan) × IsKey plan top
IsKeyed plan (requests.BeginSpan table span size) = (table ≡ plan.table) × (1 ≤ size) × EndOfKinds span.low (kinds_of plan) × IsClosedKey plan span.high
IsKeyed plan (requests.CopyRow from into map key) = (from ≡ plan.table) × (into ≡ ghost_name plan.table) × (map ≡ new_map plan) × IsKey plan key
IsKeyed plan request = Unit {0}

-- *Keyed plan*: the map of the ALTER is of the migrated table and of the new one. (What an ALTER that is taken leaves.)
abbrev pub IsMapped : PlanData → Type 0
IsMapped plan = IsMapOf (new_map plan) (old_schema plan) (ghost_schema plan)

-- before each turn the tables are tables with clustered keys (what server_turns' `states_hold` gives of runs)
abbrev pub StaysWellFormed : PlanData → List Entry → Type 0
StaysWellFormed plan journal = Along (λ before entry. IsWellFormedDatabase (state_at plan before).tables) [] journal

-- the keys of an answer are of the kinds
abbrev pub AnswersKeys : PlanData → Request → Answer → Type 0
AnswersKeys plan (requests.Ends table) (answers.Ends (Some range)) = IsKey plan range.least × IsKey plan range.greatest
AnswersKeys plan (requests.ChunkEnd table low top size) (answers.End end) = IsKey plan end
AnswersKeys plan (requests.BeginSpan table span size) (answers.Keys keys end) = AllByRecursion (IsKey plan) keys × IsKey plan end
AnswersKeys plan request answer = Unit {0}

-- WHAT THE COPIER KEEPS

-- the chunk's end was read in an earlier turn
pub record IsEndReported (plan : PlanData) (journal : List Entry) (reported : ℕ) : Type 0 where
  pub answer : Answer
  pub is : answer_at journal reported ≡ Some answer
  pub key : IsKey plan (end_in (Some answer))

-- ... and so were its keys
pub record IsChunkReported (plan : PlanData) (journal : List Entry) (chunk : Chunk) : Type 0 where
  pub keys : List (List Value)
  pub end : List Value
  pub is : answer_at journal chunk.reported ≡ Some (answers.Keys keys end)
  pub each : AllByRecursion (IsKey plan) keys
  pub last : IsKey plan end

abbrev pub AfterKeyed : PlanData → List Entry → Option ℕ → Type 0
AfterKeyed plan journal None = Unit {0}
AfterKeyed plan journal (Some reported) = IsEndReported plan journal reported

abbrev pub StepKeyed : PlanData → List Entry → CopyStep → Type 0
StepKeyed plan journal Choosing = Unit {0}
StepKeyed plan journal (Spanning reported size) = IsEndReported plan journal reported × (1 ≤ size)
StepKeyed plan journal (Copying chunk copied) = IsChunkReported plan journal chunk
StepKeyed plan journal (Committing chunk) = IsChunkReported plan journal chunk

abbrev pub RangeKeyed : PlanData → Option CopyRange → Type 0
RangeKeyed plan None = Unit {0}
RangeKeyed plan (Some range) = EndOfKinds range.low (kinds_of plan) × IsKey plan range.top

pub record CopierKeyed (plan : PlanData) (journal : List Entry) (copier : Copier) : Type 0 where
  pub table : copier.table ≡ plan.table
  pub map : copier.map ≡ new_map plan
  pub sized : 1 ≤ copier.size
  pub range : RangeKeyed plan copier.range
  pub following : AfterKeyed plan journal copier.following
  pub step : StepKeyed plan journal copier.step

abbrev pub ToolPhaseKeyed : PlanData → List Entry → ToolPhase → Type 0
ToolPhaseKeyed plan journal (SettingUp setup tries) = Unit {0}
ToolPhaseKeyed plan journal (Migrating work) = CopierKeyed plan journal work.copier
