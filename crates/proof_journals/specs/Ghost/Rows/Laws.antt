-- Every step keeps the migration under way; at the end the ghost is the altered table.
use Rattle.std.specs.Prelude.{◌≡◌, ℕ, ◌<◌, ◌≤◌, Bool, true, false, List, [], ◌∷◌, ◌++◌, length, map, filter, find, Option, Some, None, Ok, ◌⊎◌}
use Rattle.std.specs.List.{AllByRecursion, list_any}
use Rattle.std.specs.Str.{bytes_eq}
use Rattle.base_values.specs.declared.span.Bound.{Bound}
use Rattle.base_values.specs.declared.span.Bound.TheVariants.{Open, Closed}
use Rattle.base_values.specs.declared.span.Span.{Span}
use Rattle.base_values.specs.Spans.{has}
use Rattle.base_values.specs.GhoSchema.Rows.{key_of, key_places}
use Rattle.base_values.specs.GhoSchema.Tables.{clash}
use Rattle.base_values.specs.RowConversion.ConvertedRows.{converted_row, converted_rows}
use Rattle.base_values.specs.declared.event.Change.{Change}
use Rattle.base_values.specs.declared.event.Change.TheVariants.{Write, Update, Delete}
use Rattle.base_values.specs.declared.event.RowEvent.{RowEvent}
use Rattle.table_store.specs.RowLists.{is_at}
use Rattle.proof_journals.specs.Ghost.Relation.Timelines.{IsTimeline}
use Rattle.proof_journals.specs.Ghost.Relation.Views.{Progress}
use Rattle.proof_journals.specs.Ghost.Rows.Moments.{Row, rows_after_all, rows_at, FitsAll, LogFits}
use Rattle.proof_journals.specs.Ghost.Rows.Changes.{replacing, deleting, updating, old_key, new_key, row_left, NoneRemoved}
use Rattle.proof_journals.specs.Ghost.Rows.Timelines.{Migration, IsPlanned, kept, changes_key, timeline_of, EventAt, IsDue}
use Rattle.proof_journals.specs.Ghost.Rows.Views.{GhostRows, view_of, chunk_view, ghost_row, is_key, is_among, is_left, is_done, is_done_in}
use Rattle.proof_journals.specs.Ghost.Rows.Disjoint.{Disjoint}
use Rattle.proof_journals.specs.Ghost.Rows.UnderWay.{IsUnderWay, BatchMayGrow, one_applied, batch_more}

-- *The timeline is one of valid tables*, where the log fits the table.
abbrev pub TimelinesAreValid : Type 0
TimelinesAreValid = (m : Migration) (rows : List Row) (log : List RowEvent) → IsPlanned m rows → LogFits m.name m.schema rows log → IsTimeline (timeline_of m rows log) (length log)

-- *The start*: the ghost is empty, nobody holds a key, and every row is left to copy.
abbrev pub MigrationsStart : Type 0
MigrationsStart =
    (m : Migration) (rows : List Row) (log : List RowEvent) (left : Option Span) (position : ℕ) → LogFits m.name m.schema rows log → position ≤ length log
    → AllByRecursion (λ row. is_left left (key_of (key_places m.schema) row) ≡ true) (rows_at m.name (key_places m.schema) rows log (length log))
    → IsUnderWay m rows log (is_done left) (λ _. false) (record { position = position; reached = position; end = length log; copier_holds = λ _. false; applier_holds = λ _. false }) (record { committed = []; batch = []; chunk = [] })

-- *A session commits*: what it logs fits the rows as they are.
abbrev pub LogsGrow : Type 0
LogsGrow =
    (m : Migration) (rows : List Row) (log more : List RowEvent) (done half : Row → Bool) (progress : Progress Row) (ghost : GhostRows) → IsPlanned m rows
    → LogFits m.name m.schema (rows_at m.name (key_places m.schema) rows log (length log)) more → IsUnderWay m rows log done half progress ghost → IsUnderWay m rows (log ++ more) done half (record progress { end = length (log ++ more) }) ghost

-- *A chunk begins*: its keys are those of the rows in its span, from what is left to copy.
abbrev pub ChunksBegin : Type 0
ChunksBegin =
    (m : Migration) (rows : List Row) (log : List RowEvent) (half : Row → Bool) (progress : Progress Row) (ghost : GhostRows) (keys : List Row) (low : Bound) (high top : Row)
    → keys ≡ map (key_of (key_places m.schema)) (filter (λ row. has (record { low = low; high = Closed high }) (key_of (key_places m.schema) row)) (rows_at m.name (key_places m.schema) rows log progress.end))
    → IsUnderWay m rows log (is_done (Some (record { low = low; high = Closed top }))) half progress ghost
    → IsUnderWay m rows log (is_done_in (Some (record { low = low; high = Closed top })) (Some (record { low = Open high; high = Closed top })) keys) half progress ghost

-- *A row is copied*: its converted row clashes with no row that the copier sees, and is disjoint from the open batch.
abbrev pub RowsAreCopied : Type 0
RowsAreCopied =
    (m : Migration) (rows : List Row) (log : List RowEvent) (done half : Row → Bool) (progress : Progress Row) (ghost : GhostRows) (keys : List Row) (row made : Row) → IsPlanned m rows
    → find (is_at (key_places m.schema) (key_of (key_places m.new) made)) (rows_at m.name (key_places m.schema) rows log progress.end) ≡ Some row → converted_row m.columns row ≡ Ok made
    → list_any (clash m.new.uniques made) (chunk_view m ghost) ≡ false → progress.applier_holds (key_of (key_places m.new) made) ≡ false → progress.copier_holds ≡ is_among keys
    → AllByRecursion (λ change. Disjoint m.new change (Write made)) ghost.batch → IsUnderWay m rows log done half progress ghost
    → IsUnderWay m rows log done half (record progress { copier_holds = is_among (key_of (key_places m.new) made ∷ keys) }) (record ghost { chunk = ghost.chunk ++ (Write made ∷ []) })

-- *A row is not copied*, since its converted row clashes with a row that the copier sees, and with none that the open batch
-- took out.
abbrev pub RowsAreMet : Type 0
RowsAreMet =
    (m : Migration) (rows : List Row) (log : List RowEvent) (done half : Row → Bool) (progress : Progress Row) (ghost : GhostRows) (keys : List Row) (row made : Row) → IsPlanned m rows
    → find (is_at (key_places m.schema) (key_of (key_places m.new) made)) (rows_at m.name (key_places m.schema) rows log progress.end) ≡ Some row → converted_row m.columns row ≡ Ok made
    → list_any (clash m.new.uniques made) (chunk_view m ghost) ≡ true → progress.applier_holds (key_of (key_places m.new) made) ≡ false → progress.copier_holds ≡ is_among keys
    → NoneRemoved m.new.uniques made ghost.batch → IsUnderWay m rows log done half progress ghost → IsUnderWay m rows log done half (record progress { copier_holds = is_among (key_of (key_places m.new) made ∷ keys) }) ghost

-- the ghost, and the progress, where the open chunk is committed
abbrev pub chunk_committed : Migration → GhostRows → GhostRows
chunk_committed m ghost = record ghost { committed = chunk_view m ghost; chunk = [] }

abbrev pub copier_free : Progress Row → Progress Row
copier_free progress = record progress { copier_holds = λ _. false }

-- *The chunk is committed*, once each of its keys was taken.
abbrev pub ChunksCommit : Type 0
ChunksCommit =
    (m : Migration) (rows : List Row) (log : List RowEvent) (left following : Option Span) (keys : List Row) (half : Row → Bool) (progress : Progress Row) (ghost : GhostRows) → IsPlanned m rows → progress.copier_holds ≡ is_among keys
    → IsUnderWay m rows log (is_done_in left following keys) half progress ghost → IsUnderWay m rows log (is_done following) half (copier_free progress) (chunk_committed m ghost)

-- *The chunk is rolled back*, or lost with its session.
abbrev pub ChunksRollBack : Type 0
ChunksRollBack =
    (m : Migration) (rows : List Row) (log : List RowEvent) (left following : Option Span) (keys : List Row) (half : Row → Bool) (progress : Progress Row) (ghost : GhostRows) → IsUnderWay m rows log (is_done_in left following keys) half progress ghost
    → IsUnderWay m rows log (is_done left) half (copier_free progress) (record ghost { chunk = [] })

-- *The chunk is to be repeated* though it was committed, since the COMMIT's answer was lost.
abbrev pub ChunksRepeat : Type 0
ChunksRepeat =
    (m : Migration) (rows : List Row) (log : List RowEvent) (left following : Option Span) (keys : List Row) (half : Row → Bool) (progress : Progress Row) (ghost : GhostRows) → IsPlanned m rows
    → IsUnderWay m rows log (is_done_in left following keys) half progress ghost → IsUnderWay m rows log (is_done left) half (copier_free progress) (chunk_committed m ghost)

-- *The range is copied* when nothing is left above its greatest key.
abbrev pub RangesEnd : Type 0
RangesEnd =
    (m : Migration) (rows : List Row) (log : List RowEvent) (half : Row → Bool) (progress : Progress Row) (ghost : GhostRows) (top : Row) → IsUnderWay m rows log (is_done (Some (record { low = Open top; high = Closed top }))) half progress ghost
    → IsUnderWay m rows log (is_done None) half progress ghost

-- *An event that leaves a row is applied by a REPLACE* of its converted row. Where it changed the row's key, the ghost has no
-- row of the old key any more.
abbrev pub ReplaceApplies : Type 0
ReplaceApplies =
    (m : Migration) (rows : List Row) (log : List RowEvent) (done half : Row → Bool) (progress : Progress Row) (ghost : GhostRows) (held : Row → Bool) (change : Change) (row made : Row) → IsPlanned m rows → progress.reached < progress.end
    → IsDue m rows log progress.reached change → row_left change ≡ Some row → converted_row m.columns row ≡ Ok made → ((key : Row) → half key ≡ true → (old_key (key_places m.schema) change ≡ key) ⊎ (new_key (key_places m.schema) change ≡ key))
    → ((new_key (key_places m.schema) change ≡ old_key (key_places m.schema) change → ⊥) → ghost_row m (view_of m ghost) (old_key (key_places m.schema) change) ≡ None) → held (old_key (key_places m.schema) change) ≡ true
    → held (new_key (key_places m.schema) change) ≡ true → BatchMayGrow m progress ghost held (replacing m.new made (view_of m ghost)) → IsUnderWay m rows log done half progress ghost
    → IsUnderWay m rows log done (λ _. false) (one_applied held progress) (batch_more (replacing m.new made (view_of m ghost)) ghost)

-- *A DELETE's event is applied by a DELETE* by its row's key.
abbrev pub DeleteApplies : Type 0
DeleteApplies =
    (m : Migration) (rows : List Row) (log : List RowEvent) (done : Row → Bool) (progress : Progress Row) (ghost : GhostRows) (held : Row → Bool) (row : Row) → IsPlanned m rows → progress.reached < progress.end
    → IsDue m rows log progress.reached (Delete row) → held (key_of (key_places m.schema) row) ≡ true → BatchMayGrow m progress ghost held (deleting (ghost_row m (view_of m ghost) (key_of (key_places m.schema) row)))
    → IsUnderWay m rows log done (λ _. false) progress ghost
    → IsUnderWay m rows log done (λ _. false) (one_applied held progress) (batch_more (deleting (ghost_row m (view_of m ghost) (key_of (key_places m.schema) row))) ghost)

-- *An UPDATE's event that changes no kept key is applied by an UPDATE* by its row's key, by changes that leave the rows so and
-- fit them. (An UPDATE that leaves a row as it is makes no change.)
abbrev pub UpdateApplies : Type 0
UpdateApplies =
    (m : Migration) (rows : List Row) (log : List RowEvent) (done : Row → Bool) (progress : Progress Row) (ghost : GhostRows) (held : Row → Bool) (before row made : Row) (changes : List Change) → IsPlanned m rows
    → progress.reached < progress.end → IsDue m rows log progress.reached (Update before row) → changes_key (kept m) before row ≡ false → converted_row m.columns row ≡ Ok made → held (key_of (key_places m.schema) row) ≡ true
    → rows_after_all (key_places m.new) changes (view_of m ghost) ≡ rows_after_all (key_places m.new) (updating made (ghost_row m (view_of m ghost) (key_of (key_places m.new) made))) (view_of m ghost)
    → FitsAll m.new (view_of m ghost) changes → BatchMayGrow m progress ghost held changes → IsUnderWay m rows log done (λ _. false) progress ghost
    → IsUnderWay m rows log done (λ _. false) (one_applied held progress) (batch_more changes ghost)

-- *An UPDATE's event that changes no kept key is applied by nothing* where the ghost has no row of its key, whether the row can
-- be converted or not.
abbrev pub UpdateMisses : Type 0
UpdateMisses =
    (m : Migration) (rows : List Row) (log : List RowEvent) (done : Row → Bool) (progress : Progress Row) (ghost : GhostRows) (held : Row → Bool) (before row : Row) → IsPlanned m rows → progress.reached < progress.end
    → IsDue m rows log progress.reached (Update before row) → changes_key (kept m) before row ≡ false → ghost_row m (view_of m ghost) (key_of (key_places m.schema) row) ≡ None → BatchMayGrow m progress ghost held []
    → held (key_of (key_places m.schema) row) ≡ true → IsUnderWay m rows log done (λ _. false) progress ghost → IsUnderWay m rows log done (λ _. false) (one_applied held progress) (batch_more [] ghost)

-- *The first half of an event*: the ghost's row of its old key is deleted; the REPLACE of its new row is the second.
abbrev pub HalvesApply : Type 0
HalvesApply =
    (m : Migration) (rows : List Row) (log : List RowEvent) (done : Row → Bool) (progress : Progress Row) (ghost : GhostRows) (held : Row → Bool) (key : Row) → BatchMayGrow m progress ghost held (deleting (ghost_row m (view_of m ghost) key))
    → IsUnderWay m rows log done (λ _. false) progress ghost
    → IsUnderWay m rows log done (is_key key) (record progress { applier_holds = held }) (batch_more (deleting (ghost_row m (view_of m ghost) key)) ghost)

-- *An event of another table is passed over.*
abbrev pub EventsPass : Type 0
EventsPass =
    (m : Migration) (rows : List Row) (log : List RowEvent) (done : Row → Bool) (progress : Progress Row) (ghost : GhostRows) (at : EventAt m.name m.schema rows log progress.reached) → IsPlanned m rows → bytes_eq at.event.table m.name ≡ false
    → progress.reached < progress.end → IsUnderWay m rows log done (λ _. false) progress ghost → IsUnderWay m rows log done (λ _. false) (one_applied progress.applier_holds progress) ghost

-- *The batch is committed*, at the place that it reached.
abbrev pub BatchesCommit : Type 0
BatchesCommit =
    (m : Migration) (rows : List Row) (log : List RowEvent) (done : Row → Bool) (progress : Progress Row) (ghost : GhostRows) → IsPlanned m rows → IsUnderWay m rows log done (λ _. false) progress ghost
    → IsUnderWay m rows log done (λ _. false) (record progress { position = progress.reached; applier_holds = λ _. false }) (record ghost { committed = view_of m ghost; batch = [] })

-- *The batch is rolled back*, or lost with its session.
abbrev pub BatchesRollBack : Type 0
BatchesRollBack =
    (m : Migration) (rows : List Row) (log : List RowEvent) (done half : Row → Bool) (progress : Progress Row) (ghost : GhostRows) → IsPlanned m rows → IsUnderWay m rows log done half progress ghost
    → IsUnderWay m rows log done (λ _. false) (record progress { reached = progress.position; applier_holds = λ _. false }) (record ghost { batch = [] })

-- *The batch is to be repeated* though it was committed: earlier places do as well.
abbrev pub BatchesRepeat : Type 0
BatchesRepeat =
    (m : Migration) (rows : List Row) (log : List RowEvent) (done half : Row → Bool) (progress : Progress Row) (ghost : GhostRows) (position reached : ℕ) → IsPlanned m rows → position ≤ progress.position → reached ≤ progress.reached → position ≤ reached
    → IsUnderWay m rows log done half progress ghost → IsUnderWay m rows log done half (record progress { position = position; reached = reached }) ghost

-- *The end*: where all events are applied and committed, and all keys are done, the ghost is the table's rows, converted.
abbrev pub GhostsAreAltered : Type 0
GhostsAreAltered =
    (m : Migration) (rows : List Row) (log : List RowEvent) (half : Row → Bool) (progress : Progress Row) (ghost : GhostRows) → IsPlanned m rows → progress.position ≡ length log → IsUnderWay m rows log (is_done None) half progress ghost
    → converted_rows m.columns (rows_at m.name (key_places m.schema) rows log (length log)) ≡ Some ghost.committed
