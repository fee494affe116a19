-- The ghost relation under the server's locks: what the grants give of it, and that every kind of turn keeps it.
use Rattle.std.specs.Prelude.{◌≡◌, ◌≤◌, ℕ, ◌==◌, suc, Bool, true, false, if◌then◌else◌, List, [], ◌∷◌, ◌++◌, length, filter, find, take, Option, Some, None, Ok}
use Rattle.std.specs.Prelude.{nat_lt}
use Rattle.std.specs.List.{list_any, slice_get}
use Rattle.std.specs.Str.{bytes_eq}
use Rattle.base_values.specs.declared.span.Bound.{Bound}
use Rattle.base_values.specs.declared.span.Bound.TheVariants.{Open, Closed}
use Rattle.base_values.specs.declared.span.Span.{Span}
use Rattle.base_values.specs.Spans.{has}
use Rattle.base_values.specs.declared.gho_schema.schema.Schema.{Schema}
use Rattle.base_values.specs.GhoSchema.ClusteredKey.{clustered_place}
use Rattle.base_values.specs.GhoSchema.Rows.{key_of, key_places}
use Rattle.base_values.specs.GhoSchema.Tables.{IsRow, IsTable, Ascends}
use Rattle.base_values.specs.declared.row_conversion.conversion_fault.UnfitAt.{UnfitAt}
use Rattle.base_values.specs.RowConversion.ConvertedRows.{converted_row, converted_rows}
use Rattle.base_values.specs.declared.event.Change.{Change}
use Rattle.base_values.specs.declared.event.RowEvent.{RowEvent}
use Rattle.base_values.specs.declared.mysql_errors.TheConstants.{ER_DUP_ENTRY}
use Rattle.server_locks.specs.declared.row_locks.lock.Lock.{Lock}
use Rattle.table_store.specs.ClusteredKeys.{HasClusteredKey}
use Rattle.table_store.specs.Databases.{TableRows, Database, find_table}
use Rattle.table_store.specs.RowLists.{is_at}
use Rattle.server_model.specs.declared.entry.Entry.{Entry}
use Rattle.server_model.specs.declared.session.Limits.{Limits}
use Rattle.server_model.specs.declared.work.Work.{Work}
use Rattle.server_model.specs.declared.work.Work.TheVariants as works
use Rattle.server_model.specs.Answers.{refuses}
use Rattle.server_model.specs.Chunks.{keys_of, last_of}
use Rattle.server_model.specs.Operations.{Operation, after_events}
use Rattle.server_model.specs.Needs.{points}
use Rattle.server_model.specs.Rows.{change_rows}
use Rattle.server_model.specs.StatementResults.{only, tells}
use Rattle.tool_program.specs.EventApplier.Appliers.{Doing}
use Rattle.tool_program.specs.EventApplier.Appliers.Doing.{Putting, Removing, Changing}
use Rattle.server_model.specs.LockedRows.Agreement.{Within}
use Rattle.server_model.specs.LockedRows.Coverage.{Apart}
use Rattle.server_model.specs.LockedRows.Databases.{IsWellFormedDatabase}
use Rattle.proof_journals.specs.Scenes.{Scene, Stored, SessionHold, no_hold, Besides}
use Rattle.proof_journals.specs.Holdings.{face_of, stored}
use Rattle.proof_journals.specs.Turns.{about, scene_state, reported_at, IsSceneRun, IsReported as IsEntryReported}
use Rattle.tool_program.specs.JournalWords.Journals.{opens}
use Rattle.server_model.specs.declared.answer.Answer.{Answer}
use Rattle.server_model.specs.declared.request.Request.{Request}
use Rattle.server_model.specs.Drawing.{filled}
use Rattle.server_model.specs.Effects.{effect}
use Rattle.server_model.specs.Entries.{is_cut}
use Rattle.proof_journals.specs.Ghost.EffectStates.{EffectLeaves, effect_answer, is_lost, reported_done, undone_hold, was_done, where_done}
use Rattle.proof_journals.specs.Ghost.Relation.Views.{Progress}
use Rattle.proof_journals.specs.Ghost.Rows.Moments.{Row, rows_after, rows_at, Fits, LogFits}
use Rattle.proof_journals.specs.Ghost.Rows.Timelines.{Migration, IsPlanned}
use Rattle.proof_journals.specs.Ghost.Rows.Views.{GhostRows, view_of, chunk_view, ghost_row, is_among}
use Rattle.proof_journals.specs.Ghost.Rows.Disjoint.{AreDisjoint}
use Rattle.proof_journals.specs.Ghost.HeldKeys.{Clustered, is_locked}
use Rattle.proof_journals.specs.Ghost.FittingEvents.{EventsFit}
use Rattle.proof_journals.specs.Ghost.Invariant.{IsServed, NotOf}
use Rattle.proof_journals.specs.Ghost.Given.{IsGiven}
use Rattle.proof_journals.specs.Ghost.Doings.{planned}
use Rattle.proof_journals.specs.Ghost.OwnChanges.{EventsReported, own_changes, IsReported}
use Rattle.proof_journals.specs.Ghost.ToolTurns.{ToolMoment, ToolRun, ToolStands, last_moment}
use Rattle.proof_journals.specs.Ghost.Copies.{IsAltered, IsCopyEnd, IsCopyStart, SceneTurns}
use Rattle.proof_journals.specs.Ghost.Statements.{DoesWork, delete_at, update_at, unfit_at}
use Rattle.proof_journals.specs.Ghost.Tool.{CopyState, ApplyState, HoldsSpan, InChunk, ToolInvariant, AfterStatement, AfterRemoval, SomeRow, start_places, no_ghost}
use Rattle.proof_journals.specs.Ghost.Tool.CopyState.{Waiting, Taking}
use Rattle.proof_journals.specs.Ghost.Tool.ApplyState.{Idle, Whole, Half}

-- WHAT THE SERVER GIVES

-- *Where a change fits, the server's rows after it are those by key.*
abbrev pub ChangesAgree : Type 0
ChangesAgree = (schema : Schema) → HasClusteredKey schema → (change : Change) (rows : List Row) → IsTable schema rows → Fits schema rows change → change_rows (key_places schema) change rows ≡ rows_after (key_places schema) change rows

-- *Committed events fit the log*: a table's events among them fit its rows, which are then those of the last moment.
abbrev pub CommitsFit : Type 0
CommitsFit =
    (name : List ℕ) (events : List RowEvent) (tables : Database) (table : TableRows) → IsWellFormedDatabase tables → EventsFit tables events → find_table name tables ≡ Some table
    → LogFits name table.schema table.rows events × (find_table name (after_events tables events) ≡ Some (record { schema = table.schema; rows = rows_at name (key_places table.schema) table.rows events (length events) }))

-- *After every run* the tables are tables, what each session wrote fits them, event by event, and is covered by its locks, and
-- locks of two sessions don't conflict.
abbrev pub WritesFit : Type 0
WritesFit = (limits : Limits) (scene : Scene) (journal : List Entry) → IsSceneRun limits scene journal → IsServed (stored (scene_state limits scene journal)) (λ n. (face_of (scene_state limits scene journal).sessions n).hold)

-- *Deeds are done*: where an entry's request was done, heard or missed, what is left of the tables, the log and of what
-- sessions hold is what its effect leaves.
abbrev pub EffectsAreDone : Type 0
EffectsAreDone =
    (limits : Limits) (scene : Scene) (journal : List Entry) (entry : Entry) (request : Request) (given : Answer) → IsSceneRun limits scene journal → IsEntryReported limits scene journal entry → about (opens entry (scene_state limits scene journal)) entry.session entry.asked ≡ Some request
    → reported_at entry.side entry.answer entry.missed ≡ Some given → was_done given ≡ true
    → EffectLeaves (effect (where_done entry.asked entry.session (opens entry (scene_state limits scene journal))) entry.session (filled (opens entry (scene_state limits scene journal)) entry.session request)) (is_lost entry.side) entry.session (stored (scene_state limits scene journal)) (stored (scene_state limits scene (journal ++ entry ∷ [])))
    (λ n. (face_of (scene_state limits scene journal).sessions n).hold) (λ n. (face_of (scene_state limits scene (journal ++ entry ∷ [])).sessions n).hold)

-- *What is answered is what the effect answers*
abbrev pub EffectsAnswer : Type 0
EffectsAnswer =
    (limits : Limits) (scene : Scene) (journal : List Entry) (entry : Entry) (request : Request) (given : Answer) → IsSceneRun limits scene journal → IsEntryReported limits scene journal entry → about (opens entry (scene_state limits scene journal)) entry.session entry.asked ≡ Some request
    → reported_at entry.side entry.answer entry.missed ≡ Some given → was_done given ≡ true → given ≡ effect_answer (effect (where_done entry.asked entry.session (opens entry (scene_state limits scene journal))) entry.session (filled (opens entry (scene_state limits scene journal)) entry.session request))

-- *What was not done leaves all*: the tables and the log stay, and its session holds what it held, or nothing.
abbrev pub UndoneIsLeft : Type 0
UndoneIsLeft =
    (limits : Limits) (scene : Scene) (journal : List Entry) (entry : Entry) (request : Request) → IsSceneRun limits scene journal → IsEntryReported limits scene journal entry → is_cut entry.asked ≡ false → about (opens entry (scene_state limits scene journal)) entry.session entry.asked ≡ Some request
    → reported_done (reported_at entry.side entry.answer entry.missed) ≡ false
    → (stored (scene_state limits scene (journal ++ entry ∷ [])) ≡ stored (scene_state limits scene journal))
    × Besides entry.session (λ n. (face_of (scene_state limits scene journal).sessions n).hold) (λ n. (face_of (scene_state limits scene (journal ++ entry ∷ [])).sessions n).hold) (undone_hold entry.side entry.answer (face_of (scene_state limits scene journal).sessions entry.session).hold)

-- *A session that is lost between calls* holds nothing more.
abbrev pub CutsAreLeft : Type 0
CutsAreLeft =
    (limits : Limits) (scene : Scene) (journal : List Entry) (entry : Entry) → is_cut entry.asked ≡ true → entry.side ≡ None
    → (stored (scene_state limits scene (journal ++ entry ∷ [])) ≡ stored (scene_state limits scene journal))
    × Besides entry.session (λ n. (face_of (scene_state limits scene journal).sessions n).hold) (λ n. (face_of (scene_state limits scene (journal ++ entry ∷ [])).sessions n).hold) no_hold

-- *A row whose points are held is held by its key*; no key is held by two sessions; and rows whose points two sessions hold are
-- disjoint.
abbrev pub RowsAreHeld : Type 0
RowsAreHeld = (schema : Schema) → HasClusteredKey schema → (row : Row) (locks : List Lock) → IsRow schema.columns row → Within (points schema row) locks → is_locked schema locks (key_of (key_places schema) row) ≡ true

abbrev pub HeldByOne : Type 0
HeldByOne = (schema : Schema) (own others : List Lock) (key : Row) → Apart own others → is_locked schema own key ≡ true → is_locked schema others key ≡ false

abbrev pub HeldRowsAreDisjoint : Type 0
HeldRowsAreDisjoint =
    (schema : Schema) → HasClusteredKey schema → (own others : List Lock) (row other : Row) → Apart own others → IsRow schema.columns row → IsRow schema.columns other → Within (points schema row) own → Within (points schema other) others → AreDisjoint schema row other

-- THE START AND THE END

-- *The range is read*: these are the least and the greatest key, and the applier's position was noted before.
abbrev pub CopyStarts : Type 0
CopyStarts =
    (m : Migration) (at : Clustered m.schema) (rows : List Row) (position copier applier : ℕ) (now : Stored) (hold : ℕ → SessionHold) (first : Row) (others : List Row) → IsPlanned m rows → LogFits m.name m.schema rows now.log → position ≤ length now.log
    → rows_at m.name (key_places m.schema) rows now.log (length now.log) ≡ first ∷ others → Ascends (key_places m.schema) (first ∷ others)
    → find_table m.name now.tables ≡ Some (record { schema = m.schema; rows = rows_at m.name (key_places m.schema) rows now.log (length now.log) }) → find_table m.new.name now.tables ≡ Some (record { schema = m.new; rows = [] })
    → hold copier ≡ no_hold → hold applier ≡ no_hold → bytes_eq m.new.name m.name ≡ false → (copier == applier) ≡ false → (applier == copier) ≡ false
    → ToolInvariant m at rows (Waiting (Some (record { low = Closed (key_of (key_places m.schema) first); high = Closed (last_of (key_of (key_places m.schema) first) (keys_of (key_places m.schema) others)) }))) Idle (start_places position now) no_ghost copier applier now hold

-- ... of a table without rows
abbrev pub EmptyCopyStarts : Type 0
EmptyCopyStarts =
    (m : Migration) (at : Clustered m.schema) (rows : List Row) (position copier applier : ℕ) (now : Stored) (hold : ℕ → SessionHold) → IsPlanned m rows → LogFits m.name m.schema rows now.log → position ≤ length now.log → rows_at m.name (key_places m.schema) rows now.log (length now.log) ≡ []
    → find_table m.name now.tables ≡ Some (record { schema = m.schema; rows = rows_at m.name (key_places m.schema) rows now.log (length now.log) }) → find_table m.new.name now.tables ≡ Some (record { schema = m.new; rows = [] })
    → hold copier ≡ no_hold → hold applier ≡ no_hold → bytes_eq m.new.name m.name ≡ false → (copier == applier) ≡ false → (applier == copier) ≡ false → ToolInvariant m at rows (Waiting None) Idle (start_places position now) no_ghost copier applier now hold

-- *The end*: with the range copied and all events committed, the new table is the altered one.
abbrev pub CopyEnds : Type 0
CopyEnds =
    (m : Migration) (at : Clustered m.schema) (rows : List Row) (apply : ApplyState) (progress : Progress Row) (ghost : GhostRows) (copier applier : ℕ) (now : Stored) (hold : ℕ → SessionHold) → IsPlanned m rows → ToolInvariant m at rows (Waiting None) apply progress ghost copier applier now hold
    → progress.position ≡ length now.log → converted_rows m.columns (rows_at m.name (key_places m.schema) rows now.log (length now.log)) ≡ Some ghost.committed

-- OTHER SESSIONS

-- *Another session commits*, a client or the tool's inspector; none of its events is of the new table.
abbrev pub OthersCommit : Type 0
OthersCommit =
    (m : Migration) (at : Clustered m.schema) (rows : List Row) (copy : CopyState) (apply : ApplyState) (progress : Progress Row) (ghost : GhostRows) (copier applier number : ℕ) (now after : Stored) (hold holds : ℕ → SessionHold) → IsPlanned m rows → IsServed now hold → ToolInvariant m at rows copy apply progress ghost copier applier now hold
    → (copier == number) ≡ false → (applier == number) ≡ false → NotOf m.new.name (hold number).writes → Besides number hold holds no_hold → after.tables ≡ after_events now.tables (hold number).writes → after.log ≡ now.log ++ (hold number).writes
    → ToolInvariant m at rows copy apply (record progress { end = length after.log }) ghost copier applier after holds

-- *Another session goes on* in its transaction, or is lost.
abbrev pub OthersGoOn : Type 0
OthersGoOn =
    (m : Migration) (at : Clustered m.schema) (rows : List Row) (copy : CopyState) (apply : ApplyState) (progress : Progress Row) (ghost : GhostRows) (copier applier number : ℕ) (now : Stored) (hold holds : ℕ → SessionHold) (own : SessionHold) → ToolInvariant m at rows copy apply progress ghost copier applier now hold
    → (copier == number) ≡ false → (applier == number) ≡ false → Besides number hold holds own → ToolInvariant m at rows copy apply progress ghost copier applier now holds

-- *Other tables are made, dropped or renamed.*
abbrev pub TablesMove : Type 0
TablesMove =
    (m : Migration) (at : Clustered m.schema) (rows : List Row) (copy : CopyState) (apply : ApplyState) (progress : Progress Row) (ghost : GhostRows) (copier applier : ℕ) (now after : Stored) (hold : ℕ → SessionHold) → ToolInvariant m at rows copy apply progress ghost copier applier now hold → after.log ≡ now.log
    → find_table m.name after.tables ≡ find_table m.name now.tables → find_table m.new.name after.tables ≡ find_table m.new.name now.tables → ToolInvariant m at rows copy apply progress ghost copier applier after hold

-- *The copier goes on in another session* that holds nothing, after a loss.
abbrev pub CopierReturns : Type 0
CopierReturns =
    (m : Migration) (at : Clustered m.schema) (rows : List Row) (left : Option Span) (apply : ApplyState) (progress : Progress Row) (ghost : GhostRows) (copier next applier : ℕ) (now : Stored) (hold : ℕ → SessionHold) → ToolInvariant m at rows (Waiting left) apply progress ghost copier applier now hold
    → hold next ≡ no_hold → (next == applier) ≡ false → (applier == next) ≡ false → ToolInvariant m at rows (Waiting left) apply progress ghost next applier now hold

-- *The applier does.*
abbrev pub ApplierReturns : Type 0
ApplierReturns =
    (m : Migration) (at : Clustered m.schema) (rows : List Row) (copy : CopyState) (progress : Progress Row) (ghost : GhostRows) (copier applier next : ℕ) (now : Stored) (hold : ℕ → SessionHold) → ToolInvariant m at rows copy Idle progress ghost copier applier now hold
    → hold next ≡ no_hold → (copier == next) ≡ false → (next == copier) ≡ false → ToolInvariant m at rows copy Idle progress ghost copier next now hold

-- THE COPIER

-- *What BeginSpan tells is a chunk*, in the span that is locked.
abbrev pub ChunksAreReported : Type 0
ChunksAreReported =
    (m : Migration) (at : Clustered m.schema) (rows : List Row) (now : Stored) (own : SessionHold) (low : Bound) (end : Row) (n : ℕ) (cut : Bool) → Ascends (key_places m.schema) (rows_at m.name (key_places m.schema) rows now.log (length now.log)) → HoldsSpan m at (record { low = low; high = Closed end }) own
    → nat_lt (suc n) (length (keys_of (key_places m.schema) (filter (λ row. has (record { low = low; high = Closed end }) (key_of (key_places m.schema) row)) (rows_at m.name (key_places m.schema) rows now.log (length now.log))))) ≡ cut
    → InChunk m at rows now own low
    (if cut then last_of [] (take (suc n) (keys_of (key_places m.schema) (filter (λ row. has (record { low = low; high = Closed end }) (key_of (key_places m.schema) row)) (rows_at m.name (key_places m.schema) rows now.log (length now.log))))) else end)
    (take (suc n) (keys_of (key_places m.schema) (filter (λ row. has (record { low = low; high = Closed end }) (key_of (key_places m.schema) row)) (rows_at m.name (key_places m.schema) rows now.log (length now.log)))))

-- *BeginSpan*: a chunk is begun.
abbrev pub ChunkBegins : Type 0
ChunkBegins =
    (m : Migration) (at : Clustered m.schema) (rows : List Row) (low : Bound) (high top : Row) (keys : List Row) (apply : ApplyState) (progress : Progress Row) (ghost : GhostRows) (copier applier : ℕ) (now : Stored) (hold holds : ℕ → SessionHold) (own : SessionHold)
    → ToolInvariant m at rows (Waiting (Some (record { low = low; high = Closed top }))) apply progress ghost copier applier now hold → Besides copier hold holds own → Within (hold copier).locks own.locks → Apart own.locks (hold applier).locks → own.writes ≡ (hold copier).writes → InChunk m at rows now own low high keys
    → ToolInvariant m at rows (Taking low high top keys 0) apply progress ghost copier applier now holds

-- *There is a row at each key that was read*, as long as the chunk is open.
abbrev pub ReportedKeysStand : Type 0
ReportedKeysStand =
    (m : Migration) (at : Clustered m.schema) (rows : List Row) (low : Bound) (high top : Row) (keys : List Row) (n : ℕ) (apply : ApplyState) (progress : Progress Row) (ghost : GhostRows) (copier applier : ℕ) (now : Stored) (hold : ℕ → SessionHold) (k : ℕ) (key : Row) → IsPlanned m rows
    → ToolInvariant m at rows (Taking low high top keys n) apply progress ghost copier applier now hold → slice_get keys k ≡ Some key → SomeRow (key_places m.schema) key (rows_at m.name (key_places m.schema) rows now.log (length now.log))

-- *CopyRow*, that writes the converted row, or meets a row that clashes with it.
abbrev pub RowCopies : Type 0
RowCopies =
    (m : Migration) (at : Clustered m.schema) (rows : List Row) (low : Bound) (high top : Row) (keys : List Row) (n : ℕ) (apply : ApplyState) (progress : Progress Row) (ghost : GhostRows) (copier applier : ℕ) (now : Stored) (hold holds : ℕ → SessionHold) (own : SessionHold) (operation : Operation) (key row made : Row) → IsPlanned m rows
    → IsServed now hold → ToolInvariant m at rows (Taking low high top keys n) apply progress ghost copier applier now hold → slice_get keys n ≡ Some key → DoesWork m operation (works.Copy made) → IsGiven now hold copier operation own → ((name : List ℕ) → list_any (bytes_eq name) (hold copier).names ≡ true → list_any (bytes_eq name) own.names ≡ true) → Besides copier hold holds own
    → find (is_at (key_places m.schema) key) (rows_at m.name (key_places m.schema) rows now.log progress.end) ≡ Some row → converted_row m.columns row ≡ Ok made
    → ToolInvariant m at rows (Taking low high top keys (suc n)) apply (record progress { copier_holds = is_among (key ∷ take n keys) }) (record ghost { chunk = ghost.chunk ++ (tells m.new (chunk_view m ghost) (works.Copy made)).changes }) copier applier now holds

-- *The chunk's COMMIT*, when each of its keys was asked for.
abbrev pub ChunkCommits : Type 0
ChunkCommits =
    (m : Migration) (at : Clustered m.schema) (rows : List Row) (low : Bound) (high top : Row) (keys : List Row) (apply : ApplyState) (progress : Progress Row) (ghost : GhostRows) (copier applier : ℕ) (now after : Stored) (hold holds : ℕ → SessionHold) → IsPlanned m rows → IsServed now hold
    → ToolInvariant m at rows (Taking low high top keys (length keys)) apply progress ghost copier applier now hold → Besides copier hold holds no_hold → after.tables ≡ after_events now.tables (hold copier).writes → after.log ≡ now.log ++ (hold copier).writes
    → ToolInvariant m at rows (Waiting (Some (record { low = Open high; high = Closed top }))) apply (record progress { end = length after.log; copier_holds = λ _. false }) (record ghost { committed = chunk_view m ghost; chunk = [] }) copier applier after holds

-- *The chunk that ended at the greatest key* was the last.
abbrev pub RangeIsCopied : Type 0
RangeIsCopied =
    (m : Migration) (at : Clustered m.schema) (rows : List Row) (top : Row) (apply : ApplyState) (progress : Progress Row) (ghost : GhostRows) (copier applier : ℕ) (now : Stored) (hold : ℕ → SessionHold)
    → ToolInvariant m at rows (Waiting (Some (record { low = Open top; high = Closed top }))) apply progress ghost copier applier now hold → ToolInvariant m at rows (Waiting None) apply progress ghost copier applier now hold

-- *The copier's session is lost, or its wait timed out*: the chunk begins again.
abbrev pub ChunkIsLost : Type 0
ChunkIsLost =
    (m : Migration) (at : Clustered m.schema) (rows : List Row) (low : Bound) (high top : Row) (keys : List Row) (n : ℕ) (apply : ApplyState) (progress : Progress Row) (ghost : GhostRows) (copier applier : ℕ) (now : Stored) (hold holds : ℕ → SessionHold)
    → ToolInvariant m at rows (Taking low high top keys n) apply progress ghost copier applier now hold → Besides copier hold holds no_hold
    → ToolInvariant m at rows (Waiting (Some (record { low = low; high = Closed top }))) apply (record progress { copier_holds = λ _. false }) (record ghost { chunk = [] }) copier applier now holds

-- *Its COMMIT was done and the answer lost*: the chunk begins again.
abbrev pub ChunkRepeats : Type 0
ChunkRepeats =
    (m : Migration) (at : Clustered m.schema) (rows : List Row) (low : Bound) (high top : Row) (keys : List Row) (n : ℕ) (apply : ApplyState) (progress : Progress Row) (ghost : GhostRows) (copier applier : ℕ) (now after : Stored) (hold holds : ℕ → SessionHold) → IsPlanned m rows → IsServed now hold
    → ToolInvariant m at rows (Taking low high top keys n) apply progress ghost copier applier now hold → Besides copier hold holds no_hold → after.tables ≡ after_events now.tables (hold copier).writes → after.log ≡ now.log ++ (hold copier).writes
    → ToolInvariant m at rows (Waiting (Some (record { low = low; high = Closed top }))) apply (record progress { end = length after.log; copier_holds = λ _. false }) (record ghost { committed = chunk_view m ghost; chunk = [] }) copier applier after holds

-- THE APPLIER

-- *ReadLog tells what the log has* of a table that is asked for: a batch is begun.
abbrev pub BatchIsRead : Type 0
BatchIsRead =
    (m : Migration) (at : Clustered m.schema) (rows : List Row) (copy : CopyState) (progress : Progress Row) (ghost : GhostRows) (copier applier : ℕ) (now : Stored) (hold : ℕ → SessionHold) (reported : EventsReported) → ToolInvariant m at rows copy Idle progress ghost copier applier now hold → IsReported m.name now.log progress.position reported
    → ToolInvariant m at rows copy (Whole reported.next (planned m (own_changes m.name reported.events))) progress ghost copier applier now hold

-- ... or the position moves, where none of the events is of the table
abbrev pub BatchIsPassed : Type 0
BatchIsPassed =
    (m : Migration) (at : Clustered m.schema) (rows : List Row) (copy : CopyState) (progress : Progress Row) (ghost : GhostRows) (copier applier : ℕ) (now : Stored) (hold : ℕ → SessionHold) (reported : EventsReported) → IsPlanned m rows → ToolInvariant m at rows copy Idle progress ghost copier applier now hold
    → IsReported m.name now.log progress.position reported → planned m (own_changes m.name reported.events) ≡ [] → ToolInvariant m at rows copy Idle (record progress { position = reported.next; reached = reported.next; applier_holds = λ _. false }) (record ghost { batch = [] }) copier applier now hold

-- *REPLACE* of the converted row that was written
abbrev pub RowIsPut : Type 0
RowIsPut =
    (m : Migration) (at : Clustered m.schema) (rows : List Row) (copy : CopyState) (progress : Progress Row) (ghost : GhostRows) (copier applier : ℕ) (now : Stored) (hold holds : ℕ → SessionHold) (own : SessionHold) (operation : Operation) (next : ℕ) (row made : Row) (rest : List Doing) → IsPlanned m rows → IsServed now hold
    → ToolInvariant m at rows copy (Whole next (Putting row ∷ rest)) progress ghost copier applier now hold → converted_row m.columns row ≡ Ok made → DoesWork m operation (works.Replace made) → IsGiven now hold applier operation own → Besides applier hold holds own
    → AfterStatement m at rows copy (Whole next rest) progress ghost (tells m.new (view_of m ghost) (works.Replace made)).changes copier applier now holds own

-- *REPLACE after a DELETE*: the second half of an UPDATE
abbrev pub RowIsPutAgain : Type 0
RowIsPutAgain =
    (m : Migration) (at : Clustered m.schema) (rows : List Row) (copy : CopyState) (progress : Progress Row) (ghost : GhostRows) (copier applier : ℕ) (now : Stored) (hold holds : ℕ → SessionHold) (own : SessionHold) (operation : Operation) (next : ℕ) (before row made : Row) (rest : List Doing) → IsPlanned m rows → IsServed now hold
    → ToolInvariant m at rows copy (Half next before row rest) progress ghost copier applier now hold → converted_row m.columns row ≡ Ok made → DoesWork m operation (works.Replace made) → IsGiven now hold applier operation own → Besides applier hold holds own
    → AfterStatement m at rows copy (Whole next rest) progress ghost (tells m.new (view_of m ghost) (works.Replace made)).changes copier applier now holds own

-- *DELETE* by the key of a row that was deleted, or whose unique keys an UPDATE changed
abbrev pub RowIsRemoved : Type 0
RowIsRemoved =
    (m : Migration) (at : Clustered m.schema) (rows : List Row) (copy : CopyState) (progress : Progress Row) (ghost : GhostRows) (copier applier : ℕ) (now : Stored) (hold holds : ℕ → SessionHold) (own : SessionHold) (operation : Operation) (next : ℕ) (row : Row) (rest : List Doing) (place : ℕ) → IsPlanned m rows → clustered_place m.new ≡ Some place
    → IsServed now hold → ToolInvariant m at rows copy (Whole next (Removing row ∷ rest)) progress ghost copier applier now hold → DoesWork m operation (delete_at place (key_of (key_places m.schema) row)) → IsGiven now hold applier operation own → Besides applier hold holds own
    → AfterRemoval m at rows copy progress ghost (tells m.new (view_of m ghost) (delete_at place (key_of (key_places m.schema) row))).changes copier applier now holds own next row rest

-- *UPDATE* of a row whose unique keys stay, not refused with ER_DUP_ENTRY
abbrev pub RowIsChanged : Type 0
RowIsChanged =
    (m : Migration) (at : Clustered m.schema) (rows : List Row) (copy : CopyState) (progress : Progress Row) (ghost : GhostRows) (copier applier : ℕ) (now : Stored) (hold holds : ℕ → SessionHold) (own : SessionHold) (operation : Operation) (next : ℕ) (before row made : Row) (rest : List Doing) (place : ℕ) → IsPlanned m rows
    → clustered_place m.new ≡ Some place → IsServed now hold → ToolInvariant m at rows copy (Whole next (Changing before row ∷ rest)) progress ghost copier applier now hold → converted_row m.columns row ≡ Ok made → DoesWork m operation (update_at place (key_of (key_places m.schema) before) made) → IsGiven now hold applier operation own
    → Besides applier hold holds own → (tells m.new (view_of m ghost) (update_at place (key_of (key_places m.schema) before) made) ≡ only (refuses ER_DUP_ENTRY) → ⊥)
    → AfterStatement m at rows copy (Whole next rest) progress ghost (tells m.new (view_of m ghost) (update_at place (key_of (key_places m.schema) before) made)).changes copier applier now holds own

-- *UPDATE of no row*, with values that don't store: the new table has no row of its key
abbrev pub UnfitRowIsMissed : Type 0
UnfitRowIsMissed =
    (m : Migration) (at : Clustered m.schema) (rows : List Row) (copy : CopyState) (progress : Progress Row) (ghost : GhostRows) (copier applier : ℕ) (now : Stored) (hold holds : ℕ → SessionHold) (own : SessionHold) (operation : Operation) (next : ℕ) (before row : Row) (fault : UnfitAt) (rest : List Doing) (place : ℕ) → IsPlanned m rows
    → clustered_place m.new ≡ Some place → IsServed now hold → ToolInvariant m at rows copy (Whole next (Changing before row ∷ rest)) progress ghost copier applier now hold → DoesWork m operation (unfit_at place (key_of (key_places m.schema) before) fault) → IsGiven now hold applier operation own
    → Besides applier hold holds own → ghost_row m (view_of m ghost) (key_of (key_places m.schema) before) ≡ None
    → AfterStatement m at rows copy (Whole next rest) progress ghost (tells m.new (view_of m ghost) (unfit_at place (key_of (key_places m.schema) before) fault)).changes copier applier now holds own

-- *A statement that changes nothing*, as an UPDATE refused with ER_DUP_ENTRY: its locks stay
abbrev pub StatementIsRefused : Type 0
StatementIsRefused =
    (m : Migration) (at : Clustered m.schema) (rows : List Row) (copy : CopyState) (progress : Progress Row) (ghost : GhostRows) (copier applier : ℕ) (now : Stored) (hold holds : ℕ → SessionHold) (own : SessionHold) (operation : Operation) (work : Work) (next : ℕ) (todo : List Doing) → IsServed now hold
    → ToolInvariant m at rows copy (Whole next todo) progress ghost copier applier now hold → DoesWork m operation work → IsGiven now hold applier operation own → Besides applier hold holds own → (tells m.new (view_of m ghost) work).changes ≡ []
    → ToolInvariant m at rows copy (Whole next todo) (record progress { applier_holds = is_locked m.new own.locks }) (record ghost { batch = ghost.batch ++ [] }) copier applier now holds

-- *DELETE after a refused UPDATE*: the first half of it
abbrev pub RefusedRowIsRemoved : Type 0
RefusedRowIsRemoved =
    (m : Migration) (at : Clustered m.schema) (rows : List Row) (copy : CopyState) (progress : Progress Row) (ghost : GhostRows) (copier applier : ℕ) (now : Stored) (hold holds : ℕ → SessionHold) (own : SessionHold) (operation : Operation) (next : ℕ) (before row : Row) (rest : List Doing) (place : ℕ) → IsPlanned m rows
    → clustered_place m.new ≡ Some place → IsServed now hold → ToolInvariant m at rows copy (Whole next (Changing before row ∷ rest)) progress ghost copier applier now hold → DoesWork m operation (delete_at place (key_of (key_places m.schema) before)) → IsGiven now hold applier operation own → Besides applier hold holds own
    → AfterStatement m at rows copy (Half next before row rest) progress ghost (tells m.new (view_of m ghost) (delete_at place (key_of (key_places m.schema) before))).changes copier applier now holds own

-- *The batch's COMMIT*
abbrev pub BatchCommits : Type 0
BatchCommits =
    (m : Migration) (at : Clustered m.schema) (rows : List Row) (copy : CopyState) (progress : Progress Row) (ghost : GhostRows) (copier applier : ℕ) (now after : Stored) (hold holds : ℕ → SessionHold) (next : ℕ) → IsPlanned m rows → IsServed now hold → ToolInvariant m at rows copy (Whole next []) progress ghost copier applier now hold
    → Besides applier hold holds no_hold → after.tables ≡ after_events now.tables (hold applier).writes → after.log ≡ now.log ++ (hold applier).writes
    → ToolInvariant m at rows copy Idle (record progress { position = next; reached = next; end = length after.log; applier_holds = λ _. false }) (record ghost { committed = view_of m ghost; batch = [] }) copier applier after holds

-- *Its COMMIT was done and the answer lost*: the batch begins again.
abbrev pub BatchRepeats : Type 0
BatchRepeats =
    (m : Migration) (at : Clustered m.schema) (rows : List Row) (copy : CopyState) (progress : Progress Row) (ghost : GhostRows) (copier applier : ℕ) (now after : Stored) (hold holds : ℕ → SessionHold) (next : ℕ) → IsPlanned m rows → IsServed now hold → ToolInvariant m at rows copy (Whole next []) progress ghost copier applier now hold
    → Besides applier hold holds no_hold → after.tables ≡ after_events now.tables (hold applier).writes → after.log ≡ now.log ++ (hold applier).writes
    → ToolInvariant m at rows copy Idle (record progress { reached = progress.position; end = length after.log; applier_holds = λ _. false }) (record ghost { committed = view_of m ghost; batch = [] }) copier applier after holds

-- *The applier's session is lost, or its wait timed out*: the batch begins again.
abbrev pub BatchIsLost : Type 0
BatchIsLost =
    (m : Migration) (at : Clustered m.schema) (rows : List Row) (copy : CopyState) (apply : ApplyState) (progress : Progress Row) (ghost : GhostRows) (copier applier : ℕ) (now : Stored) (hold holds : ℕ → SessionHold) → IsPlanned m rows → ToolInvariant m at rows copy apply progress ghost copier applier now hold
    → Besides applier hold holds no_hold → ToolInvariant m at rows copy Idle (record progress { reached = progress.position; applier_holds = λ _. false }) (record ghost { batch = [] }) copier applier now holds

-- ANY ORDER

-- *Runs keep the ghost relation*: over every order of turns of the copier, the applier and all other sessions, with chunks and
-- batches that are lost, time out or are repeated, the tool stands at the last moment if it does at the first.
abbrev pub RunsKeep : Type 0
RunsKeep =
    (m : Migration) (at : Clustered m.schema) (rows : List Row) (place copier applier : ℕ) → IsPlanned m rows → clustered_place m.new ≡ Some place → (first : ToolMoment) (moments : List ToolMoment) → ToolStands m at rows copier applier first → ToolRun m at rows place copier applier first moments
    → ToolStands m at rows copier applier (last_moment first moments)

-- A WHOLE COPY

-- *Copies make the altered table*: from where the copy starts, over turns in any order, to where nothing is left to copy and all
-- events are committed, the new table becomes the altered one.
abbrev pub CopiesAlter : Type 0
CopiesAlter =
    (m : Migration) (at : Clustered m.schema) (rows : List Row) (place copier applier : ℕ) → IsPlanned m rows → clustered_place m.new ≡ Some place → (first : ToolMoment) (moments : List ToolMoment) → IsCopyStart m rows copier applier first → ToolRun m at rows place copier applier first moments
    → IsCopyEnd (last_moment first moments) → IsAltered m (last_moment first moments).stored.tables

-- *In a scene*, where the server itself keeps what it keeps: the turns alone make it so.
abbrev pub SceneCopiesAlter : Type 0
SceneCopiesAlter =
    (m : Migration) (at : Clustered m.schema) (rows : List Row) (place copier applier : ℕ) → IsPlanned m rows → clustered_place m.new ≡ Some place → (limits : Limits) (scene : Scene) (journal : List Entry) → IsSceneRun limits scene journal → (first : ToolMoment) (moments : List ToolMoment)
    → IsCopyStart m rows copier applier first → SceneTurns m at rows place copier applier limits scene journal first moments → IsCopyEnd (last_moment first moments) → IsAltered m (last_moment first moments).stored.tables
