-- Where the copier and the applier are, and what is kept of them and the server together.
use Rattle.std.specs.Prelude.{◌≡◌, ℕ, ◌==◌, true, false, List, [], ◌∷◌, length, filter, find, take, ◌++◌, Bool, Option, Some, None}
use Rattle.std.specs.Ordering.{is_le}
use Rattle.base_values.specs.KeyOrder.{compare_keys}
use Rattle.base_values.specs.declared.span.Bound.{Bound}
use Rattle.base_values.specs.declared.span.Bound.TheVariants.{Open, Closed}
use Rattle.base_values.specs.declared.span.Span.{Span}
use Rattle.base_values.specs.Spans.{has}
use Rattle.base_values.specs.GhoSchema.Rows.{key_of, key_places}
use Rattle.base_values.specs.declared.event.Change.{Change}
use Rattle.table_store.specs.RowLists.{is_at}
use Rattle.std.specs.List.{list_any}
use Rattle.std.specs.Str.{bytes_eq}
use Rattle.tool_program.specs.EventApplier.Appliers.{Doing}
use Rattle.tool_program.specs.EventApplier.Appliers.Doing.{Putting}
use Rattle.proof_journals.specs.Ghost.Doings.{IsHalf, IsWhole}
use Rattle.proof_journals.specs.Ghost.HeldKeys.{Clustered, is_locked}
use Rattle.proof_journals.specs.Ghost.Invariant.{GhostInvariant}
use Rattle.proof_journals.specs.Ghost.Relation.Views.{Progress}
use Rattle.proof_journals.specs.Ghost.Rows.Moments.{Row, rows_after_all, rows_at}
use Rattle.proof_journals.specs.Ghost.Rows.Timelines.{Migration}
use Rattle.proof_journals.specs.Ghost.Rows.Views.{is_key, GhostRows, is_done, is_done_in}
use Rattle.proof_journals.specs.Scenes.{SessionHold, Stored, no_hold}
use Rattle.server_model.specs.Chunks.{keys_of}
use Rattle.server_model.specs.Needs.{lock_on}
use Rattle.server_model.specs.LockedRows.Agreement.{Among}

-- *The copier*: between chunks, with what is left; or in a chunk: its low end and its end, the greatest key of the range, the
-- keys read, and how many of them are copied
pub data CopyState : Type 0 where
  Waiting : Option Span → CopyState
  Taking : Bound → Row → Row → List Row → ℕ → CopyState

-- *The applier*: at rest; with so much to do up to the next position; or with an UPDATE of which the old row is out
pub data ApplyState : Type 0 where
  Idle : ApplyState
  Whole : ℕ → List Doing → ApplyState
  Half : ℕ → Row → Row → List Doing → ApplyState

-- the keys that are done, those that the copier took, and those whose row is out
abbrev pub done_in : CopyState → Row → Bool
done_in (Waiting left) = is_done left
done_in (Taking low high top keys copied) = is_done_in (Some (record { low = low; high = Closed top })) (Some (record { low = Open high; high = Closed top })) keys

abbrev pub taken_in : CopyState → List Row
taken_in (Waiting left) = []
taken_in (Taking low high top keys copied) = take copied keys

abbrev pub half_in : Migration → ApplyState → Row → Bool
half_in m Idle = λ _. false
half_in m (Whole next todo) = λ _. false
half_in m (Half next before after rest) = is_key (key_of (key_places m.schema) before)

-- the span that the copier holds of the migrated table
pub record HoldsSpan (m : Migration) (at : Clustered m.schema) (span : Span) (own : SessionHold) : Type 0 where
  pub among : Among (lock_on m.schema false (record { key = at.place; span = span })) own.locks
  pub named : list_any (bytes_eq m.name) own.names ≡ true

-- in a chunk: the keys read are those of the rows up to its end, in a span that is held
pub record InChunk (m : Migration) (at : Clustered m.schema) (rows : List Row) (now : Stored) (own : SessionHold) (low : Bound) (high : Row) (keys : List Row) : Type 0 where
  pub far : Row
  pub within : is_le (compare_keys high far) ≡ true
  pub holds : HoldsSpan m at (record { low = low; high = Closed far }) own
  pub reported : keys ≡ keys_of (key_places m.schema) (filter (λ row. has (record { low = low; high = Closed high }) (key_of (key_places m.schema) row)) (rows_at m.name (key_places m.schema) rows now.log (length now.log)))

-- the copier is there: it holds nothing between chunks, and is in a chunk that it holds
abbrev pub CopyStands : (m : Migration) → Clustered m.schema → List Row → Stored → SessionHold → CopyState → Type 0
CopyStands m at rows now own (Waiting left) = own ≡ no_hold
CopyStands m at rows now own (Taking low high top keys copied) = InChunk m at rows now own low high keys

-- the applier is at rest, at the committed position
pub record IsIdle (progress : Progress Row) (ghost : GhostRows) (own : SessionHold) : Type 0 where
  pub rests : own ≡ no_hold
  pub reached : progress.reached ≡ progress.position
  pub empty : ghost.batch ≡ []

-- of an UPDATE the old row is out of the ghost, and its key is held
pub record StandsHalf (m : Migration) (now : Stored) (progress : Progress Row) (ghost : GhostRows) (own : SessionHold) (next : ℕ) (before after : Row) (rest : List Doing) : Type 0 where
  pub half : IsHalf m now.log progress.reached progress.end next before after rest
  pub locked : is_locked m.new own.locks (key_of (key_places m.schema) before) ≡ true
  pub empty : find (is_at (key_places m.new) (key_of (key_places m.schema) before)) (rows_after_all (key_places m.new) ghost.batch ghost.committed) ≡ None

-- the applier is there
abbrev pub ApplyStands : Migration → Stored → Progress Row → GhostRows → SessionHold → ApplyState → Type 0
ApplyStands m now progress ghost own Idle = IsIdle progress ghost own
ApplyStands m now progress ghost own (Whole next todo) = IsWhole m now.log progress.reached progress.end next todo
ApplyStands m now progress ghost own (Half next before after rest) = StandsHalf m now progress ghost own next before after rest

-- *Tool invariant*: the ghost invariant, where the copier and the applier are.
pub record ToolInvariant (m : Migration) (at : Clustered m.schema) (rows : List Row) (copy : CopyState) (apply : ApplyState) (progress : Progress Row) (ghost : GhostRows) (copier applier : ℕ) (now : Stored) (hold : ℕ → SessionHold) : Type 0 where
  pub kept : GhostInvariant m rows (done_in copy) (half_in m apply) (taken_in copy) progress ghost copier applier now hold
  pub copying : CopyStands m at rows now (hold copier) copy
  pub applying : ApplyStands m now progress ghost (hold applier) apply
  pub two : (copier == applier) ≡ false
  pub other : (applier == copier) ≡ false

-- after a statement of the applier's: the place that is reached, with these changes more in the batch
pub record AfterStatement (m : Migration) (at : Clustered m.schema) (rows : List Row) (copy : CopyState) (apply : ApplyState) (progress : Progress Row) (ghost : GhostRows) (changes : List Change) (copier applier : ℕ) (now : Stored) (holds : ℕ → SessionHold) (own : SessionHold) : Type 0 where
  pub reached : ℕ
  pub tool : ToolInvariant m at rows copy apply (record progress { reached = reached; applier_holds = is_locked m.new own.locks }) (record ghost { batch = ghost.batch ++ changes }) copier applier now holds

-- after a DELETE of the applier's: of a row that was deleted; or the first half of an UPDATE that changes a unique key, whose
-- second is a REPLACE
pub data AfterRemoval (m : Migration) (at : Clustered m.schema) (rows : List Row) (copy : CopyState) (progress : Progress Row) (ghost : GhostRows) (changes : List Change) (copier applier : ℕ) (now : Stored) (holds : ℕ → SessionHold) (own : SessionHold) (next : ℕ) (row : Row) (rest : List Doing) : Type 0 where
  gone_whole : AfterStatement m at rows copy (Whole next rest) progress ghost changes copier applier now holds own → AfterRemoval m at rows copy progress ghost changes copier applier now holds own next row rest
  gone_half : (new : Row) (more : List Doing) → rest ≡ Putting new ∷ more → AfterStatement m at rows copy (Half next row new more) progress ghost changes copier applier now holds own → AfterRemoval m at rows copy progress ghost changes copier applier now holds own next row rest

-- where the migration stands when the range is read: nothing is copied or applied
abbrev pub start_places : ℕ → Stored → Progress Row
start_places position now = record { position = position; reached = position; end = length now.log; copier_holds = λ _. false; applier_holds = λ _. false }

abbrev pub no_ghost : GhostRows
no_ghost = record { committed = []; batch = []; chunk = [] }

-- a row at this key
abbrev pub SomeRow : List ℕ → Row → List Row → Type 0
SomeRow places key all = (row : Row) × (find (is_at places key) all ≡ Some row)
