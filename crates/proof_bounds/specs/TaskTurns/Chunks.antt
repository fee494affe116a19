-- How many turns the copy of the chunks takes, as far as each of the copier's turns goes on.
use Rattle.std.specs.Prelude.{◌≡◌, ◌≤◌, ◌+◌, ◌*◌, ℕ, false, if◌then◌else◌, List, [], ◌∷◌, ◌++◌, length, Some, None}
use Rattle.base_script.specs.declared.actor.Actor.TheVariants.{Copy}
use Rattle.server_model.specs.declared.entry.Entry.{Entry}
use Rattle.server_model.specs.Entries.{is_command, is_cut}
use Rattle.plan_data.specs.PlanData.{PlanData}
use Rattle.tool_program.specs.declared.chunk_copier.copier.CopyStep.TheVariants.{Choosing}
use Rattle.tool_program.specs.JournalWords.Bounds.{Measures, keys, measures}
use Rattle.table_store.specs.Databases.{TableRows, find_table}
use Rattle.tool_program.specs.JournalWords.Journals.{state_at}
use Rattle.tool_program.specs.Tools.{SettingUp, Migrating, Work, is_reverting, moment}
use Rattle.proof_journals.specs.Machine.Runnable.{IsRunnable}
use Rattle.proof_journals.specs.Machine.Standings.{standing_of}
use Rattle.proof_journals.specs.Run.Kept.{IsKept}
use Rattle.proof_migration.specs.ToolPhase.Unaltered.{IsUnaltered}
use Rattle.proof_bounds.specs.Laws.{MayWait}
use Rattle.proof_bounds.specs.Parts.{OfChunks, turns_of_part}
use Rattle.proof_bounds.specs.TaskTurns.Answers.{ChunkAnswer}

-- *The copy goes on*: until all rows are copied and while nothing is reverted, the copier's turns are answered so, where it doesn't
-- wait for a chunk's end
abbrev pub ChunkGoes : PlanData → List Entry → Entry → Type 0
ChunkGoes plan before entry =
    (work : Work) → (moment plan before).tool.tool_phase ≡ Migrating work → is_reverting (moment plan before).tool.reason ≡ false → work.copier.is_copied ≡ false → (work.copier.step ≡ Choosing → (standing_of plan before Copy).waits ≡ None) → entry.actor ≡ Copy → is_command entry.asked ≡ false → is_cut entry.asked ≡ false
    → ChunkAnswer (keys (measures plan)) work.copier.step entry.answer

-- so it does along every journal that is kept
abbrev pub ChunksGoOn : PlanData → Type 0
ChunksGoOn plan = (before : List Entry) (entry : Entry) → IsKept plan (before ++ entry ∷ []) → ChunkGoes plan before entry

-- until the RENAME is done, the migrated table has at most as many committed rows as are counted for it
abbrev pub RowsStayFew : PlanData → Type 0
RowsStayFew plan = (journal : List Entry) → IsKept plan journal → IsUnaltered plan journal → (table : TableRows) → find_table plan.table (state_at plan journal).tables ≡ Some table → length table.rows ≤ keys (measures plan)

-- the turns of one try of a chunk, and of all its tries
abbrev pub try_turns : Measures → ℕ
try_turns m = (keys m + 1) * (1 + m.tool_wait) + 2

abbrev pub tries_turns : Measures → ℕ
tries_turns m = m.tries * try_turns m

-- *The chunks' turns are few* for the chunks that were begun, where the copy goes on: those of all tries for each
abbrev pub ChunkTurnsAreFew : Type 0
ChunkTurnsAreFew =
    (plan : PlanData) (journal : List Entry) → IsRunnable plan → MayWait plan → 1 ≤ plan.options.default_retries → ChunksGoOn plan → IsKept plan journal → (work : Work) → (moment plan journal).tool.tool_phase ≡ Migrating work
    → turns_of_part OfChunks plan journal + (if work.copier.is_copied then tries_turns (measures plan) else 0) ≤ work.copier.number * tries_turns (measures plan)

-- and before the copy begins there are none
abbrev pub NoChunksYet : Type 0
NoChunksYet =
    (plan : PlanData) (journal : List Entry) → IsRunnable plan → MayWait plan → 1 ≤ plan.options.default_retries → ChunksGoOn plan → IsKept plan journal → (setup : _) (tries : List ℕ) → (moment plan journal).tool.tool_phase ≡ SettingUp setup tries → turns_of_part OfChunks plan journal ≡ 0
