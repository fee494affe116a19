-- How many rows the migrated table has, how many events it has in the log, and how many chunks are copied of it, until the
-- RENAME is done.
use Rattle.std.specs.Prelude.{◌≡◌, ◌≤◌, ◌+◌, ◌*◌, ℕ, if◌then◌else◌, List, [], ◌∷◌, length, count_by}
use Rattle.base_values.specs.ToolNames.{log_name}
use Rattle.server_model.specs.declared.entry.Entry.{Entry}
use Rattle.server_model.specs.States.{view, is_of}
use Rattle.plan_data.specs.PlanData.{PlanData}
use Rattle.tool_program.specs.JournalWords.Bounds.{measures, keys, events}
use Rattle.tool_program.specs.JournalWords.Journals.{state_at}
use Rattle.tool_program.specs.Tools.{Work, Migrating, moment}
use Rattle.proof_journals.specs.Ghost.Rows.Counts.{rows_of}
use Rattle.proof_journals.specs.Machine.Runnable.{IsRunnable}
use Rattle.proof_journals.specs.Plans.{IsSerialPlan}
use Rattle.proof_journals.specs.Run.Kept.{IsKept}
use Rattle.proof_migration.specs.ToolPhase.Unaltered.{IsUnaltered}
use Rattle.proof_bounds.specs.AttemptTurns.Attempts.{most_notes}

-- how many events of the log are of the table of this name
abbrev pub events_in : List ℕ → PlanData → List Entry → ℕ
events_in name plan journal = count_by (is_of (name ∷ [])) (state_at plan journal).log

-- *Rows are few*: until its RENAME is done, the migrated table has at most as many committed rows as at first and lines in all
-- scripts, since a line adds one row at most
abbrev pub CommittedRowsAreFew : Type 0
CommittedRowsAreFew = (plan : PlanData) (journal : List Entry) → IsRunnable plan → IsSerialPlan plan → IsKept plan journal → IsUnaltered plan journal → length (rows_of plan.table (state_at plan journal).tables) ≤ keys (measures plan)

-- *Seen rows are few*: no session sees more rows of it, with what its own transaction wrote
abbrev pub ViewsAreFew : Type 0
ViewsAreFew = (plan : PlanData) (journal : List Entry) → IsRunnable plan → IsSerialPlan plan → IsKept plan journal → IsUnaltered plan journal → (n : ℕ) → length (rows_of plan.table (view n (state_at plan journal))) ≤ keys (measures plan)

-- *Events are few*: until its RENAME is done, the log has at most as many events of the migrated table as all lines can write: a
-- line one for each row that there may be, and one more
abbrev pub EventsAreFew : Type 0
EventsAreFew = (plan : PlanData) (journal : List Entry) → IsRunnable plan → IsSerialPlan plan → IsKept plan journal → IsUnaltered plan journal → events_in plan.table plan journal ≤ events (measures plan)

-- *Hints are few*: until the RENAME is done, the log has at most as many events of the changelog as attempts may be begun, since
-- each writes one hint row at most, and four for each note that may be begun: each of its two rows comes in place of another
abbrev pub HintsAreFew : Type 0
HintsAreFew =
    (plan : PlanData) (journal : List Entry) → 1 ≤ plan.options.default_retries → plan.options.notes ≤ most_notes → IsRunnable plan → IsSerialPlan plan → IsKept plan journal → IsUnaltered plan journal → events_in (log_name plan.table) plan journal ≤ plan.options.default_retries + 4 * (measures plan).notes

-- *Read events are few*: the applier reads both, and so the log has at most as many of the two tables together
abbrev pub ReadEventsAreFew : Type 0
ReadEventsAreFew =
    (plan : PlanData) (journal : List Entry) → 1 ≤ plan.options.default_retries → plan.options.notes ≤ most_notes → IsRunnable plan → IsSerialPlan plan → IsKept plan journal → IsUnaltered plan journal
    → count_by (is_of (plan.table ∷ log_name plan.table ∷ [])) (state_at plan journal).log ≤ events (measures plan) + 4 * (measures plan).notes + (measures plan).tries

-- *Chunks are few*: until the RENAME is done, at most as many chunks are begun as the migrated table had rows at first and events
-- since, since each ends at another key of these; and one more is numbered where all are copied
abbrev pub ChunksAreFew : Type 0
ChunksAreFew =
    (plan : PlanData) (journal : List Entry) (work : Work) → IsRunnable plan → IsSerialPlan plan → IsKept plan journal → IsUnaltered plan journal → (moment plan journal).tool.tool_phase ≡ Migrating work
    → work.copier.number ≤ (measures plan).rows + events (measures plan) + (if work.copier.is_copied then 1 else 0)

-- *Chunks stay few*: so it is after every journal, since after the RENAME no chunk is begun
abbrev pub ChunksStayFew : Type 0
ChunksStayFew =
    (plan : PlanData) (journal : List Entry) (work : Work) → IsRunnable plan → IsSerialPlan plan → IsKept plan journal → (moment plan journal).tool.tool_phase ≡ Migrating work → work.copier.number ≤ (measures plan).rows + events (measures plan) + (if work.copier.is_copied then 1 else 0)
