-- Checkpoints stay behind the tool.
use Rattle.std.specs.Prelude.{◌≡◌, ◌≤◌, ◌<◌, ◌+◌, ℕ, true, false, List, [], ◌∷◌, ◌++◌, length, Option, Some, None}
use Rattle.base_values.specs.ToolNames.{log_name}
use Rattle.base_values.specs.declared.span.Bound.{Bound}
use Rattle.base_values.specs.declared.span.Bound.TheVariants.{Open, Closed}
use Rattle.base_values.specs.declared.span.Span.{Span}
use Rattle.table_store.specs.Databases.{TableRows, find_table}
use Rattle.server_model.specs.Chunks.{chunk_end, span_keys}
use Rattle.server_model.specs.declared.answer.Answer.TheVariants as answers
use Rattle.server_model.specs.declared.entry.Entry.{Entry}
use Rattle.server_model.specs.declared.request.Request.{Request}
use Rattle.server_model.specs.declared.session.Limits.{Limits}
use Rattle.plan_data.specs.PlanData.{PlanData}
use Rattle.tool_changelog.specs.declared.checkpoint.Reach.TheVariants.{To, All}
use Rattle.tool_notes.specs.declared.checkpoint.Checkpoint.{Checkpoint}
use Rattle.tool_program.specs.JournalWords.Journals.{state_at}
use Rattle.tool_program.specs.declared.chunk_copier.copier.Copier.{Copier}
use Rattle.tool_program.specs.declared.chunk_copier.copier.CopyRange.{CopyRange}
use Rattle.tool_program.specs.ChunkCopier.Copiers as copiers
use Rattle.tool_program.specs.Programs.{reach_in}
use Rattle.tool_program.specs.Tools.{Migrating, Work, is_reverting, moment}
use Rattle.proof_journals.specs.Plans.{IsPlanRun, IsSerialPlan}
use Rattle.proof_journals.specs.Scenes.{Scene}
use Rattle.proof_journals.specs.Run.Kept.{IsKept}
use Rattle.proof_journals.specs.Machine.Runnable.{IsRunnable}
use Rattle.proof_journals.specs.Ghost.HeldKeys.{Clustered}
use Rattle.proof_journals.specs.Ghost.Rows.Moments.{Row}
use Rattle.proof_journals.specs.Ghost.Rows.Timelines.{Migration}
use Rattle.proof_journals.specs.Ghost.Rows.Views.{is_done}
use Rattle.proof_migration.specs.Migration.Copier.CopierPlace.{copy_state, CopierKnows}
use Rattle.proof_migration.specs.Migration.Copier.Laws.{IsCopierTurn}
use Rattle.proof_migration.specs.ToolPhase.Unaltered.{IsUnaltered}
use Rattle.proof_migration.specs.Program.Turns.Laws.{GoesSomehow, IsMigrationOf}
use Rattle.proof_bounds.specs.AttemptTurns.Attempts.{MayTry}
use Rattle.proof_resume.specs.Reached.Coverage.{Covers, IsBehindTool, left_in}
use Rattle.proof_resume.specs.Reached.Checkpoints.{IsOfCheckpoint, checkpoint_stored, last_checkpoint}
use Rattle.proof_resume.specs.Reached.ChunkEnds.{CopierRecalls, EndIsAbove, StepEnds}

-- WHERE CHUNKS END

-- *Chunks shrink what is left*: after a chunk that ends at the greatest key, or above its low end, each key that was copied is copied
abbrev pub ChunksShrink : Type 0
ChunksShrink =
    (low : Bound) (end top : Row) → EndIsAbove low end top → (key : Row) → is_done (Some (record { low = low; high = Closed top })) key ≡ true → is_done (Some (record { low = Open end; high = Closed top })) key ≡ true

-- *Where a chunk ends*, as the server answers it, is the greatest key of the range or above the chunk's low end; and the end that is
-- answered with its keys is that one or above the low end.
abbrev pub ChunkEndsAreAbove : Type 0
ChunkEndsAreAbove = (low : Bound) (top : Row) (size : ℕ) (table : TableRows) → EndIsAbove low (chunk_end low top size table) top

abbrev pub SpanEndsAreAbove : Type 0
SpanEndsAreAbove =
    (low : Bound) (end : Row) (size : ℕ) (table : TableRows) (keys : List Row) (found : Row) → 0 < size → span_keys (record { low = low; high = Closed end }) size table ≡ answers.Keys keys found → EndIsAbove low found end

-- *Ends stay above* after each turn of the copier, whatever is answered
abbrev pub EndsStayAbove : Type 0
EndsStayAbove =
    (m : Migration) (limits : Limits) (scene : Scene) (journal : List Entry) (entry : Entry) (copier : Copier) (range : CopyRange) (request : Request) → IsCopierTurn m limits scene journal entry copier request → copier.range ≡ Some range → CopierKnows journal copier → StepEnds journal copier range copier.step
    → StepEnds (journal ++ entry ∷ []) (copiers.took (length journal + 1) copier entry.answer) range (copiers.took (length journal + 1) copier entry.answer).step

-- *What is left shrinks*: after each turn of the copier, whatever is answered, each key that was copied is copied.
abbrev pub LeftShrinks : Type 0
LeftShrinks =
    (m : Migration) (limits : Limits) (scene : Scene) (journal : List Entry) (entry : Entry) (copier : Copier) (range : CopyRange) (request : Request) → IsCopierTurn m limits scene journal entry copier request → copier.range ≡ Some range → copier.is_copied ≡ false → CopierKnows journal copier
    → StepEnds journal copier range copier.step → (key : Row) → is_done (left_in (copy_state journal copier)) key ≡ true → is_done (left_in (copy_state (journal ++ entry ∷ []) (copiers.took (length journal + 1) copier entry.answer))) key ≡ true

-- WHOLE TURNS

-- *Positions rise*: no turn, whatever is answered, refused, lost or reverted, lowers the applier's position.
abbrev pub PositionsRise : Type 0
PositionsRise =
    (plan : PlanData) (m : Migration) (at : Clustered m.schema) (rows : List Row) → IsMigrationOf plan m rows → (journal : List Entry) (entry : Entry) (work then_work : Work) → IsKept plan (journal ++ entry ∷ []) → IsUnaltered plan (journal ++ entry ∷ []) → (moment plan journal).tool.tool_phase ≡ Migrating work
    → (moment plan (journal ++ entry ∷ [])).tool.tool_phase ≡ Migrating then_work → (is_reverting (moment plan journal).tool.reason ≡ false → GoesSomehow plan m at rows journal) → work.applier.position ≤ then_work.applier.position

-- *A copier comes further* from one journal to a longer one: it recalls its turns, and each key that was copied is copied
pub record ComesFurther (journal more : List Entry) (old new : Copier) : Type 0 where
  pub recalls : CopierRecalls more new
  pub shrinks : (key : Row) → is_done (left_in (copy_state journal old)) key ≡ true → is_done (left_in (copy_state more new)) key ≡ true

-- *Reaches rise*: so does the copier after each turn, whatever is answered, refused, lost or reverted.
abbrev pub ReachesRise : Type 0
ReachesRise =
    (plan : PlanData) (m : Migration) (at : Clustered m.schema) (rows : List Row) → IsMigrationOf plan m rows → (journal : List Entry) (entry : Entry) (work then_work : Work) → IsKept plan (journal ++ entry ∷ []) → IsUnaltered plan (journal ++ entry ∷ []) → (moment plan journal).tool.tool_phase ≡ Migrating work
    → (moment plan (journal ++ entry ∷ [])).tool.tool_phase ≡ Migrating then_work → (is_reverting (moment plan journal).tool.reason ≡ false → GoesSomehow plan m at rows journal) → CopierRecalls journal work.copier → ComesFurther journal (journal ++ entry ∷ []) work.copier then_work.copier

-- CHECKPOINTS

-- *A reach covers its keys*: no key up to the end of a chunk that was committed is left, and none at all where nothing is left.
abbrev pub ReachesCover : Type 0
ReachesCover = ((end top : Row) → Covers (To end) (Some (record { low = Open end; high = Closed top }))) × Covers All None

-- *A checkpoint stays behind* where the position rises, and each key that was copied is copied
abbrev pub CheckpointsStayBehind : Type 0
CheckpointsStayBehind =
    (found : Checkpoint) (position later : ℕ) (left less : Option Span) → position ≤ later → ((key : Row) → is_done left key ≡ true → is_done less key ≡ true) → IsBehindTool found position left → IsBehindTool found later less

-- *Notes are behind*: a checkpoint of the applier's position and the copier's reach is behind the tool as it is.
abbrev pub NotesAreBehind : Type 0
NotesAreBehind = (journal : List Entry) (copier : Copier) (position : ℕ) → IsBehindTool (record { position = position; reach = reach_in journal copier }) position (left_in (copy_state journal copier))

-- *Checkpoints stay*: a checkpoint that is behind the tool is so after each further turn, whatever is answered, refused, lost or
-- reverted.
abbrev pub CheckpointsStay : Type 0
CheckpointsStay =
    (plan : PlanData) (m : Migration) (at : Clustered m.schema) (rows : List Row) → IsMigrationOf plan m rows → (journal : List Entry) (entry : Entry) (work then_work : Work) → IsKept plan (journal ++ entry ∷ []) → IsUnaltered plan (journal ++ entry ∷ []) → (moment plan journal).tool.tool_phase ≡ Migrating work
    → (moment plan (journal ++ entry ∷ [])).tool.tool_phase ≡ Migrating then_work → (is_reverting (moment plan journal).tool.reason ≡ false → GoesSomehow plan m at rows journal) → CopierRecalls journal work.copier
    → (found : Checkpoint) → IsBehindTool found work.applier.position (left_in (copy_state journal work.copier))
    → IsBehindTool found then_work.applier.position (left_in (copy_state (journal ++ entry ∷ []) then_work.copier))

-- *Checkpoints are behind*: after every kept journal, until the RENAME is done, and through reverts, the last checkpoint that was
-- written is behind the tool.
abbrev pub CheckpointsAreBehind : Type 0
CheckpointsAreBehind =
    (plan : PlanData) (m : Migration) (at : Clustered m.schema) (rows : List Row) → IsMigrationOf plan m rows → find_table m.name plan.tables ≡ Some (record { schema = m.schema; rows = rows }) → (journal : List Entry) (work : Work) → IsKept plan journal → IsUnaltered plan journal → (moment plan journal).tool.tool_phase ≡ Migrating work
    → (row : Row) → last_checkpoint journal ≡ Some row → IsOfCheckpoint journal work row

-- *Checkpoints exist*: after every kept journal whose setup is over, until the RENAME is done, the changelog has a row with id 0 exactly
-- where a checkpoint was written, and it is the row of the last one.
abbrev pub CheckpointsExist : Type 0
CheckpointsExist =
    (plan : PlanData) (journal : List Entry) (work : Work) → IsRunnable plan → IsSerialPlan plan → MayTry plan → IsKept plan journal → IsUnaltered plan journal → (moment plan journal).tool.tool_phase ≡ Migrating work → checkpoint_stored plan.table (state_at plan journal).tables ≡ last_checkpoint journal

-- *Stored checkpoints are behind*: so the row with id 0 is that of a checkpoint behind the tool.
abbrev pub StoredCheckpointsAreBehind : Type 0
StoredCheckpointsAreBehind =
    (plan : PlanData) (m : Migration) (at : Clustered m.schema) (rows : List Row) → IsMigrationOf plan m rows → MayTry plan → find_table m.name plan.tables ≡ Some (record { schema = m.schema; rows = rows }) → (journal : List Entry) (work : Work) → IsKept plan journal → IsUnaltered plan journal
    → (moment plan journal).tool.tool_phase ≡ Migrating work → (row : Row) → checkpoint_stored plan.table (state_at plan journal).tables ≡ Some row → IsOfCheckpoint journal work row

-- *Checkpoints last*: so it is after the RENAME too, as long as the changelog exists.
abbrev pub CheckpointsLast : Type 0
CheckpointsLast =
    (plan : PlanData) (journal : List Entry) (work : Work) → IsRunnable plan → IsSerialPlan plan → MayTry plan → ((before : List Entry) → IsKept plan before → IsPlanRun plan before) → IsKept plan journal → (moment plan journal).tool.tool_phase ≡ Migrating work
    → (find_table (log_name plan.table) (state_at plan journal).tables ≡ None → ⊥) → checkpoint_stored plan.table (state_at plan journal).tables ≡ last_checkpoint journal
