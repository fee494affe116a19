-- *A copier spends four turns on a row at most*, and three on its last chunk, which may be empty: it asks where the chunk ends, begins it,
-- copies its rows, and commits.
use Rattle.std.specs.Prelude.{◌≡◌, ℕ, ◌+◌, ◌*◌, ◌≤◌, ◌<◌, false, true, if◌then◌else◌, List, [], ◌∷◌, ◌++◌, length, drop, count_by, Option, Some, None}
use Rattle.base_values.specs.declared.span.Bound.{Bound}
use Rattle.base_values.specs.declared.span.Bound.TheVariants.{Open, Closed}
use Rattle.base_values.specs.GhoSchema.Rows.{key_of, key_places}
use Rattle.base_values.specs.GhoSchema.Tables.{Ascends}
use Rattle.base_values.specs.Spans.{above}
use Rattle.table_store.specs.Databases.{TableRows, find_table}
use Rattle.server_model.specs.Along.{Along}
use Rattle.server_model.specs.Chunks.{chunk_end, span_keys}
use Rattle.server_model.specs.EarlierAnswers.{end_in}
use Rattle.server_model.specs.Entries.{answer_at}
use Rattle.server_model.specs.declared.answer.Answer.{Answer}
use Rattle.server_model.specs.declared.answer.Answer.TheVariants as answers
use Rattle.server_model.specs.declared.answer.KeyRange.{KeyRange}
use Rattle.server_model.specs.declared.entry.Entry.{Entry}
use Rattle.server_model.specs.declared.outcome.Progress.{Progress}
use Rattle.server_model.specs.declared.outcome.Progress.TheVariants.{Unfit}
use Rattle.plan_data.specs.PlanData.{PlanData}
use Rattle.tool_changelog.specs.declared.checkpoint.Reach.{Reach}
use Rattle.tool_program.specs.ChunkCopier.Copiers.{low_end}
use Rattle.tool_program.specs.ChunkCopier.Copiers as copiers
use Rattle.tool_program.specs.JournalWords.Journals.{state_at, IsFaithful}
use Rattle.tool_program.specs.declared.chunk_copier.copier.Chunk.{Chunk}
use Rattle.tool_program.specs.declared.chunk_copier.copier.Copier.{Copier}
use Rattle.tool_program.specs.declared.chunk_copier.copier.CopyRange.{CopyRange}
use Rattle.tool_program.specs.declared.chunk_copier.copier.CopyStep.{CopyStep}
use Rattle.tool_program.specs.declared.chunk_copier.copier.CopyStep.TheVariants.{Choosing, Spanning, Copying, Committing}
use Rattle.tool_program.specs.declared.event_applier.applier.Applier.{Applier}
use Rattle.tool_finish.specs.declared.stage.Stage.TheVariants as stages
use Rattle.tool_finish.specs.Checkpoints.{has_checkpoint}
use Rattle.tool_finish.specs.Finishes.{copier_from, stage_behind, IsFinish}
use Rattle.proof_journals.specs.Machine.Runnable.{IsRunnable}
use Rattle.proof_journals.specs.Plans.{IsSerialPlan}
use Rattle.proof_journals.specs.Run.Kept.{IsKept}
use Rattle.proof_migration.specs.Migration.Copier.CopierPlace.{AfterReported, IsAnsweredAt}

-- how many of the table's rows lie above this end
abbrev pub rows_above : Bound → TableRows → ℕ
rows_above low table = count_by (λ row. above low (key_of (key_places table.schema) row)) table.rows

-- what is left behind a chunk's commit: nothing behind the last one
abbrev pub left_behind : List Entry → TableRows → Chunk → ℕ
left_behind journal table chunk = if chunk.is_last then 0 else 4 * rows_above (Open (end_in (answer_at journal chunk.reported))) table + 3

-- so many turns are left at most at this step, where the rows above this low end aren't copied: the end that was read is the table's, a
-- chunk's row is copied in one turn, and the commit is one more
abbrev pub StepLeft : List Entry → TableRows → ℕ → Bound → CopyRange → CopyStep → Type 0
StepLeft journal table turns low range Choosing = 4 * rows_above low table + 3 ≤ turns
StepLeft journal table turns low range (Spanning reported size) = (4 * rows_above low table + 2 ≤ turns) × (1 ≤ size) × (answer_at journal reported ≡ Some (answers.End (chunk_end low range.top size table)))
StepLeft journal table turns low range (Copying chunk copied) = (chunk.keys + 1 + left_behind journal table chunk ≤ turns + copied) × (copied < chunk.keys) × IsAnsweredAt journal chunk.reported
StepLeft journal table turns low range (Committing chunk) = (1 + left_behind journal table chunk ≤ turns) × IsAnsweredAt journal chunk.reported

abbrev pub RangeLeft : List Entry → TableRows → ℕ → Copier → Option CopyRange → Type 0
RangeLeft journal table turns copier None = ⊥
RangeLeft journal table turns copier (Some range) = StepLeft journal table turns (low_end journal range copier.following) range copier.step × AfterReported journal copier.following × (1 ≤ copier.size)

-- *So many turns are left* at most, until all rows of the table are copied
abbrev pub CopiesLeft : List Entry → TableRows → ℕ → Copier → Type 0
CopiesLeft journal table turns copier = copier.is_copied ≡ false → RangeLeft journal table turns copier copier.range

-- the answer at this step is the table's: where the chunk ends, and its keys; a row is copied, or a column refuses its value; and the
-- commit is done
abbrev pub StepGoesOn : List Entry → TableRows → Copier → CopyRange → CopyStep → Answer → Type 0
StepGoesOn journal table copier range Choosing (answers.End end) = end ≡ chunk_end (low_end journal range copier.following) range.top copier.size table
StepGoesOn journal table copier range (Spanning reported size) (answers.Keys keys end) =
    answers.Keys keys end ≡ span_keys (record { low = low_end journal range copier.following; high = Closed (end_in (answer_at journal reported)) }) size table
StepGoesOn journal table copier range (Copying chunk copied) (answers.Ok count) = Unit {0}
StepGoesOn journal table copier range (Copying chunk copied) (answers.Refused number (Some place)) = Unit {0}
StepGoesOn journal table copier range (Committing chunk) (answers.Ok count) = Unit {0}
StepGoesOn journal table copier range step answer = ⊥

-- *An answer lets the copier go on*
abbrev pub LetsCopyGoOn : List Entry → TableRows → Copier → Option CopyRange → Answer → Type 0
LetsCopyGoOn journal table copier None answer = ⊥
LetsCopyGoOn journal table copier (Some range) answer = StepGoesOn journal table copier range copier.step answer

-- after an answer: a row doesn't fit, or fewer turns are left
abbrev pub LeavesCopies : List Entry → TableRows → ℕ → Copier → Progress → Type 0
LeavesCopies journal table turns after (Unfit place number) = Unit {0}
LeavesCopies journal table turns after progress = CopiesLeft journal table turns after

-- *Each turn of a copier leaves one turn fewer*, where its answer lets it go on.
abbrev pub CopierTurnsAreFew : Type 0
CopierTurnsAreFew =
    (journal : List Entry) (entry : Entry) (table : TableRows) (turns : ℕ) (copier : Copier) → Ascends (key_places table.schema) table.rows → copier.is_copied ≡ false → CopiesLeft journal table (turns + 1) copier → LetsCopyGoOn journal table copier copier.range entry.answer
    → LeavesCopies (journal ++ entry ∷ []) table turns (copiers.took (length (journal ++ entry ∷ [])) copier entry.answer) (copiers.progress copier entry.answer)

-- *New copiers have few turns left*: four for each row of the table, and three.
abbrev pub NewCopiersHaveFew : Type 0
NewCopiersHaveFew = (plan : PlanData) (journal : List Entry) (table : TableRows) (reach : Reach) (range : Option KeyRange) → 1 ≤ plan.options.chunk_size → CopiesLeft journal table (4 * length table.rows + 3) (copier_from plan reach range)

-- *The server lets a new tool's copier go on*, whatever rows the migrated table has.
abbrev pub CopiersGoOn : Type 0
CopiersGoOn =
    (plan : PlanData) (run turns : List Entry) → IsRunnable plan → IsSerialPlan plan → IsKept plan run → has_checkpoint plan run ≡ true → IsFinish plan run turns → IsFaithful plan (run ++ turns)
    → Along (λ before entry. (copier : Copier) (applier : Applier) (table : TableRows) → stage_behind plan run (drop (length run) before) ≡ stages.Copying copier applier → find_table plan.table (state_at plan before).tables ≡ Some table → LetsCopyGoOn before table copier copier.range entry.answer) run turns
