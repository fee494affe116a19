-- How many turns the chunks and the batches take in every journal that is kept, also once the RENAME is done.
use Rattle.std.specs.Prelude.{◌≡◌, ◌≤◌, ◌+◌, if◌then◌else◌, List}
use Rattle.server_model.specs.declared.entry.Entry.{Entry}
use Rattle.plan_data.specs.PlanData.{PlanData}
use Rattle.tool_program.specs.JournalWords.Bounds.{events, measures}
use Rattle.tool_program.specs.Tools.{Migrating, Work, moment}
use Rattle.proof_journals.specs.Machine.Runnable.{IsRunnable}
use Rattle.proof_journals.specs.Plans.{IsSerialPlan}
use Rattle.proof_journals.specs.Run.Kept.{IsKept}
use Rattle.proof_migration.specs.ToolPhase.Runnable.{IsAlterable}
use Rattle.proof_migration.specs.ToolPhase.Unaltered.{IsUnaltered}
use Rattle.proof_bounds.specs.Laws.{MayWait}
use Rattle.proof_bounds.specs.Parts.{OfBatches, OfChunks, turns_of_part}
use Rattle.proof_bounds.specs.Terms.{term_of}
use Rattle.proof_bounds.specs.TaskTurns.Batches.{BatchesGoOn, LogsAreFew}
use Rattle.proof_bounds.specs.TaskTurns.Chunks.{ChunksGoOn, RowsStayFew}

-- until the RENAME is done, at most as many chunks are begun as are counted for it, and one more is numbered where all are copied
abbrev pub NumbersStayFew : PlanData → Type 0
NumbersStayFew plan =
    (journal : List Entry) → IsKept plan journal → IsUnaltered plan journal → (work : Work) → (moment plan journal).tool.tool_phase ≡ Migrating work → work.copier.number ≤ (measures plan).rows + events (measures plan) + (if work.copier.is_copied then 1 else 0)

-- *The copy always goes on*, of a runnable plan, where the migrated table's rows are few
abbrev pub ChunksAlwaysGoOn : Type 0
ChunksAlwaysGoOn = (plan : PlanData) → IsRunnable plan → IsSerialPlan plan → RowsStayFew plan → ChunksGoOn plan

-- *The applying always goes on*, of a runnable plan
abbrev pub BatchesAlwaysGoOn : Type 0
BatchesAlwaysGoOn = (plan : PlanData) → IsAlterable plan → IsRunnable plan → IsSerialPlan plan → BatchesGoOn plan

-- *Chunks stay within their term*, where rows and chunks are few
abbrev pub ChunksStayWithin : Type 0
ChunksStayWithin = (plan : PlanData) → IsRunnable plan → IsSerialPlan plan → MayWait plan → 1 ≤ plan.options.default_retries → RowsStayFew plan → NumbersStayFew plan → (journal : List Entry) → IsKept plan journal → turns_of_part OfChunks plan journal ≤ term_of OfChunks (measures plan)

-- *Batches stay within their term*, where the log is small
abbrev pub BatchesStayWithin : Type 0
BatchesStayWithin =
    (plan : PlanData) → IsAlterable plan → IsRunnable plan → IsSerialPlan plan → MayWait plan → 1 ≤ plan.options.default_retries → LogsAreFew plan → (journal : List Entry) → IsKept plan journal → turns_of_part OfBatches plan journal ≤ term_of OfBatches (measures plan)
