-- Runs of the copier, the applier and all other sessions, turn by turn, in any order.
use Rattle.std.specs.Prelude.{◌≡◌, ℕ, ◌==◌, suc, true, false, List, [], ◌∷◌, ◌++◌, length, find, Some, None, Ok}
use Rattle.std.specs.List.{list_any, slice_get}
use Rattle.std.specs.Str.{bytes_eq}
use Rattle.base_values.specs.declared.span.Bound.{Bound}
use Rattle.base_values.specs.declared.span.Bound.TheVariants.{Open, Closed}
use Rattle.base_values.specs.GhoSchema.Rows.{key_of, key_places}
use Rattle.base_values.specs.declared.row_conversion.conversion_fault.UnfitAt.{UnfitAt}
use Rattle.base_values.specs.RowConversion.ConvertedRows.{converted_row}
use Rattle.base_values.specs.declared.mysql_errors.TheConstants.{ER_DUP_ENTRY}
use Rattle.table_store.specs.Databases.{find_table}
use Rattle.table_store.specs.RowLists.{is_at}
use Rattle.server_model.specs.declared.answer.Answer.{Answer}
use Rattle.server_model.specs.declared.work.Work.TheVariants as works
use Rattle.server_model.specs.Answers.{refuses}
use Rattle.server_model.specs.Operations.{Operation, after_events, operation_result}
use Rattle.tool_program.specs.EventApplier.Appliers.{Doing}
use Rattle.tool_program.specs.EventApplier.Appliers.Doing.{Putting, Removing, Changing}
use Rattle.server_model.specs.LockedRows.Agreement.{Within}
use Rattle.server_model.specs.LockedRows.Coverage.{Apart}
use Rattle.server_model.specs.LockedRows.Databases.{TaskSound}
use Rattle.proof_journals.specs.Scenes.{Stored, SessionHold, no_hold, Besides}
use Rattle.proof_journals.specs.Ghost.Relation.Views.{Progress}
use Rattle.proof_journals.specs.Ghost.Rows.Moments.{Row, rows_at}
use Rattle.proof_journals.specs.Ghost.Rows.Timelines.{Migration}
use Rattle.proof_journals.specs.Ghost.Rows.Views.{GhostRows}
use Rattle.proof_journals.specs.Ghost.HeldKeys.{Clustered}
use Rattle.proof_journals.specs.Ghost.Invariant.{IsServed, NotOf}
use Rattle.proof_journals.specs.Ghost.Given.{IsGiven}
use Rattle.proof_journals.specs.Ghost.Doings.{planned}
use Rattle.proof_journals.specs.Ghost.OwnChanges.{EventsReported, own_changes, IsReported}
use Rattle.proof_journals.specs.Ghost.Statements.{DoesWork, delete_at, update_at, unfit_at}
use Rattle.proof_journals.specs.Ghost.Tool.{CopyState, ApplyState, InChunk, ToolInvariant}
use Rattle.proof_journals.specs.Ghost.Tool.CopyState.{Waiting, Taking}
use Rattle.proof_journals.specs.Ghost.Tool.ApplyState.{Idle, Whole, Half}

-- *What the applier has to do*, as it knows it: nothing; so much up to the next position; or the REPLACE after the DELETE of a
-- refused UPDATE, and then so much. (Whether a planned DELETE was a whole event or half of one, the log alone tells.)
pub data ApplyPlan : Type 0 where
  Resting : ApplyPlan
  Planned : ℕ → List Doing → ApplyPlan
  Returning : ℕ → Row → Row → List Doing → ApplyPlan

-- the tool's invariant at the applier's position, wherever the open batch and the log's end are
pub record KeptTool (m : Migration) (at : Clustered m.schema) (rows : List Row) (copy : CopyState) (apply : ApplyState) (position copier applier : ℕ) (now : Stored) (hold : ℕ → SessionHold) : Type 0 where
  pub progress : Progress Row
  pub ghost : GhostRows
  pub here : progress.position ≡ position
  pub tool : ToolInvariant m at rows copy apply progress ghost copier applier now hold

-- *A moment of a run*: what is stored and held, and where the copier and the applier are
pub record ToolMoment : Type 0 where
  pub stored : Stored
  pub hold : ℕ → SessionHold
  pub copy : CopyState
  pub plan : ApplyPlan
  pub position : ℕ

-- the tool's invariant at a moment, where the applier is so
abbrev pub KeptAt : (m : Migration) → Clustered m.schema → List Row → ℕ → ℕ → ToolMoment → ApplyState → Type 0
KeptAt m at rows copier applier now apply = KeptTool m at rows now.copy apply now.position copier applier now.stored now.hold

-- *The tool stands*: its invariant holds where the applier has this to do.
pub data ToolStands (m : Migration) (at : Clustered m.schema) (rows : List Row) (copier applier : ℕ) (now : ToolMoment) : Type 0 where
  at_rest : now.plan ≡ Resting → KeptAt m at rows copier applier now Idle → ToolStands m at rows copier applier now
  at_work : (next : ℕ) (todo : List Doing) → now.plan ≡ Planned next todo → KeptAt m at rows copier applier now (Whole next todo) → ToolStands m at rows copier applier now
  halfway : (next : ℕ) (old row : Row) (rest : List Doing) → now.plan ≡ Planned next (Putting row ∷ rest) → KeptAt m at rows copier applier now (Half next old row rest) → ToolStands m at rows copier applier now
  returns : (next : ℕ) (old row : Row) (rest : List Doing) → now.plan ≡ Returning next old row rest → KeptAt m at rows copier applier now (Half next old row rest) → ToolStands m at rows copier applier now

-- the applier and the copier stay where they are
abbrev pub ApplierStays : ToolMoment → ToolMoment → Type 0
ApplierStays before after = (after.plan ≡ before.plan) × (after.position ≡ before.position)

abbrev pub CopierStays : ToolMoment → ToolMoment → Type 0
CopierStays before after = after.copy ≡ before.copy

-- a session commits what it wrote
pub record Commits (number : ℕ) (hold : ℕ → SessionHold) (before after : ToolMoment) : Type 0 where
  pub besides : Besides number hold after.hold no_hold
  pub tables : after.stored.tables ≡ after_events before.stored.tables (hold number).writes
  pub log : after.stored.log ≡ before.stored.log ++ (hold number).writes

-- a job of this session's is granted, and nothing is committed
pub record DoesOperation (m : Migration) (number : ℕ) (operation : Operation) (own : SessionHold) (before after : ToolMoment) : Type 0 where
  pub given : IsGiven before.stored before.hold number operation own
  pub besides : Besides number before.hold after.hold own
  pub stored : after.stored ≡ before.stored

-- what a job of the applier's is answered
abbrev pub answer_of : ToolMoment → ℕ → Operation → Answer
answer_of now applier operation = (operation_result (after_events now.stored.tables (now.hold applier).writes) operation).answer

-- the new table, as the applier sees it, has no row of this key
abbrev pub NoRowSeen : Migration → ToolMoment → ℕ → Row → Type 0
NoRowSeen m now applier key = (seen : List Row) → find_table m.new.name (after_events now.stored.tables (now.hold applier).writes) ≡ Some (record { schema = m.new; rows = seen }) → find (is_at (key_places m.new) key) seen ≡ None

-- the session keeps the names that it holds
abbrev pub KeepsNames : SessionHold → SessionHold → Type 0
KeepsNames before after = (name : List ℕ) → list_any (bytes_eq name) before.names ≡ true → list_any (bytes_eq name) after.names ≡ true

-- *A turn* leads from one moment to the next, where the new table's clustered key is at this place.
pub data ToolTurn (m : Migration) (at : Clustered m.schema) (rows : List Row) (place copier applier : ℕ) (before after : ToolMoment) : Type 0 where
  -- another session commits what it wrote in its transaction; is granted a single statement, and commits at once; goes on, or is
  -- lost; and other tables are made, dropped or renamed
  other_commits : (number : ℕ) → (copier == number) ≡ false → (applier == number) ≡ false → NotOf m.new.name (before.hold number).writes → Commits number before.hold before after → CopierStays before after → ApplierStays before after → ToolTurn m at rows place copier applier before after
  other_does_single : (number : ℕ) (middle : ℕ → SessionHold) (own : SessionHold) (operation : Operation) → (copier == number) ≡ false → (applier == number) ≡ false → TaskSound operation (after_events before.stored.tables (before.hold number).writes) → IsGiven before.stored before.hold number operation own → KeepsNames (before.hold number) own
      → list_any (bytes_eq operation.table) own.names ≡ true → Besides number before.hold middle own → NotOf m.new.name (middle number).writes → Commits number middle before after → CopierStays before after → ApplierStays before after → ToolTurn m at rows place copier applier before after
  other_goes_on : (number : ℕ) (own : SessionHold) → (copier == number) ≡ false → (applier == number) ≡ false → Besides number before.hold after.hold own → after.stored ≡ before.stored → CopierStays before after → ApplierStays before after → ToolTurn m at rows place copier applier before after
  tables_move : after.stored.log ≡ before.stored.log → find_table m.name after.stored.tables ≡ find_table m.name before.stored.tables → find_table m.new.name after.stored.tables ≡ find_table m.new.name before.stored.tables → after.hold ≡ before.hold → CopierStays before after → ApplierStays before after
      → ToolTurn m at rows place copier applier before after
  -- BeginSpan; CopyRow; the chunk's COMMIT; nothing is left above the greatest key
  chunk_begins : (own : SessionHold) (low : Bound) (high top : Row) (keys : List Row) → before.copy ≡ Waiting (Some (record { low = low; high = Closed top })) → Besides copier before.hold after.hold own → Within (before.hold copier).locks own.locks → Apart own.locks (before.hold applier).locks
      → own.writes ≡ (before.hold copier).writes → InChunk m at rows before.stored own low high keys → after.stored ≡ before.stored → after.copy ≡ Taking low high top keys 0 → ApplierStays before after → ToolTurn m at rows place copier applier before after
  row_copies : (own : SessionHold) (operation : Operation) (low : Bound) (high top : Row) (keys : List Row) (n : ℕ) (key row made : Row) → before.copy ≡ Taking low high top keys n → slice_get keys n ≡ Some key → DoesWork m operation (works.Copy made) → DoesOperation m copier operation own before after
      → KeepsNames (before.hold copier) own
      → find (is_at (key_places m.schema) key) (rows_at m.name (key_places m.schema) rows before.stored.log (length before.stored.log)) ≡ Some row → converted_row m.columns row ≡ Ok made → after.copy ≡ Taking low high top keys (suc n) → ApplierStays before after → ToolTurn m at rows place copier applier before after
  chunk_commits : (low : Bound) (high top : Row) (keys : List Row) → before.copy ≡ Taking low high top keys (length keys) → Commits copier before.hold before after → after.copy ≡ Waiting (Some (record { low = Open high; high = Closed top })) → ApplierStays before after → ToolTurn m at rows place copier applier before after
  range_ends : (top : Row) → before.copy ≡ Waiting (Some (record { low = Open top; high = Closed top })) → after.stored ≡ before.stored → after.hold ≡ before.hold → after.copy ≡ Waiting None → ApplierStays before after → ToolTurn m at rows place copier applier before after
  -- the copier's session is lost or its wait times out; or its COMMIT was done and the answer lost
  chunk_is_lost : (low : Bound) (high top : Row) (keys : List Row) (n : ℕ) → before.copy ≡ Taking low high top keys n → Besides copier before.hold after.hold no_hold → after.stored ≡ before.stored → after.copy ≡ Waiting (Some (record { low = low; high = Closed top })) → ApplierStays before after
      → ToolTurn m at rows place copier applier before after
  chunk_repeats : (low : Bound) (high top : Row) (keys : List Row) (n : ℕ) → before.copy ≡ Taking low high top keys n → Commits copier before.hold before after → after.copy ≡ Waiting (Some (record { low = low; high = Closed top })) → ApplierStays before after → ToolTurn m at rows place copier applier before after
  -- ReadLog from the position: a batch is planned, or the position moves where nothing is
  batch_is_read : (reported : EventsReported) → before.plan ≡ Resting → IsReported m.name before.stored.log before.position reported → after.stored ≡ before.stored → after.hold ≡ before.hold → CopierStays before after → after.plan ≡ Planned reported.next (planned m (own_changes m.name reported.events)) → after.position ≡ before.position
      → ToolTurn m at rows place copier applier before after
  batch_is_passed : (reported : EventsReported) → before.plan ≡ Resting → IsReported m.name before.stored.log before.position reported → planned m (own_changes m.name reported.events) ≡ [] → after.stored ≡ before.stored → after.hold ≡ before.hold → CopierStays before after → after.plan ≡ Resting → after.position ≡ reported.next
      → ToolTurn m at rows place copier applier before after
  -- REPLACE; DELETE; UPDATE, not refused; UPDATE of no row with values that don't store; UPDATE refused with ER_DUP_ENTRY, the
  -- DELETE after it, and the REPLACE after that
  row_is_put : (own : SessionHold) (operation : Operation) (next : ℕ) (row made : Row) (rest : List Doing) → before.plan ≡ Planned next (Putting row ∷ rest) → converted_row m.columns row ≡ Ok made → DoesWork m operation (works.Replace made) → DoesOperation m applier operation own before after → CopierStays before after → after.plan ≡ Planned next rest
      → after.position ≡ before.position → ToolTurn m at rows place copier applier before after
  row_is_removed : (own : SessionHold) (operation : Operation) (next : ℕ) (row : Row) (rest : List Doing) → before.plan ≡ Planned next (Removing row ∷ rest) → DoesWork m operation (delete_at place (key_of (key_places m.schema) row)) → DoesOperation m applier operation own before after → CopierStays before after → after.plan ≡ Planned next rest
      → after.position ≡ before.position → ToolTurn m at rows place copier applier before after
  row_is_changed : (own : SessionHold) (operation : Operation) (next : ℕ) (old row made : Row) (rest : List Doing) → before.plan ≡ Planned next (Changing old row ∷ rest) → converted_row m.columns row ≡ Ok made → DoesWork m operation (update_at place (key_of (key_places m.schema) old) made)
      → (answer_of before applier operation ≡ refuses ER_DUP_ENTRY → ⊥) → DoesOperation m applier operation own before after → CopierStays before after → after.plan ≡ Planned next rest → after.position ≡ before.position → ToolTurn m at rows place copier applier before after
  unfit_row_is_missed : (own : SessionHold) (operation : Operation) (next : ℕ) (old row : Row) (fault : UnfitAt) (rest : List Doing) → before.plan ≡ Planned next (Changing old row ∷ rest) → DoesWork m operation (unfit_at place (key_of (key_places m.schema) old) fault) → NoRowSeen m before applier (key_of (key_places m.schema) old)
      → DoesOperation m applier operation own before after → CopierStays before after → after.plan ≡ Planned next rest → after.position ≡ before.position → ToolTurn m at rows place copier applier before after
  change_is_refused : (own : SessionHold) (operation : Operation) (next : ℕ) (old row made : Row) (rest : List Doing) → before.plan ≡ Planned next (Changing old row ∷ rest) → DoesWork m operation (update_at place (key_of (key_places m.schema) old) made) → answer_of before applier operation ≡ refuses ER_DUP_ENTRY → DoesOperation m applier operation own before after
      → CopierStays before after → ApplierStays before after → ToolTurn m at rows place copier applier before after
  refused_row_is_removed : (own : SessionHold) (operation : Operation) (next : ℕ) (old row : Row) (rest : List Doing) → before.plan ≡ Planned next (Changing old row ∷ rest) → DoesWork m operation (delete_at place (key_of (key_places m.schema) old)) → DoesOperation m applier operation own before after → CopierStays before after
      → after.plan ≡ Returning next old row rest → after.position ≡ before.position → ToolTurn m at rows place copier applier before after
  row_returns : (own : SessionHold) (operation : Operation) (next : ℕ) (old row made : Row) (rest : List Doing) → before.plan ≡ Returning next old row rest → converted_row m.columns row ≡ Ok made → DoesWork m operation (works.Replace made) → DoesOperation m applier operation own before after → CopierStays before after → after.plan ≡ Planned next rest
      → after.position ≡ before.position → ToolTurn m at rows place copier applier before after
  -- the batch's COMMIT; its COMMIT that was done and lost; a loss or a time-out
  batch_commits : (next : ℕ) → before.plan ≡ Planned next [] → Commits applier before.hold before after → CopierStays before after → after.plan ≡ Resting → after.position ≡ next → ToolTurn m at rows place copier applier before after
  batch_repeats : (next : ℕ) → before.plan ≡ Planned next [] → Commits applier before.hold before after → CopierStays before after → after.plan ≡ Resting → after.position ≡ before.position → ToolTurn m at rows place copier applier before after
  batch_is_lost : Besides applier before.hold after.hold no_hold → after.stored ≡ before.stored → CopierStays before after → after.plan ≡ Resting → after.position ≡ before.position → ToolTurn m at rows place copier applier before after

-- *A run*: turns in any order, from each of which the server keeps what it keeps
abbrev pub ToolRun : (m : Migration) → Clustered m.schema → List Row → ℕ → ℕ → ℕ → ToolMoment → List ToolMoment → Type 0
ToolRun m at rows place copier applier first [] = Unit {0}
ToolRun m at rows place copier applier first (next ∷ others) = IsServed first.stored first.hold × ToolTurn m at rows place copier applier first next × ToolRun m at rows place copier applier next others

-- the last moment
abbrev pub last_moment : ToolMoment → List ToolMoment → ToolMoment
last_moment first [] = first
last_moment first (next ∷ others) = last_moment next others
