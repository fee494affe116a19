-- The copier and the applier beside all other sessions, over a journal's turns.
use Rattle.std.specs.Prelude.{◌≡◌, ◌<◌, ℕ, ◌+◌, ◌==◌, true, false, List, [], ◌∷◌, ◌++◌, drop, length, Some, None}
use Rattle.server_model.specs.declared.entry.Entry.{Entry}
use Rattle.server_model.specs.declared.outcome.Progress.TheVariants.{Unfit}
use Rattle.server_model.specs.declared.request.Request.{Request}
use Rattle.server_model.specs.declared.session.Limits.{Limits}
use Rattle.server_model.specs.Entries.{is_cut}
use Rattle.server_model.specs.States.{State, is_of_tool, session_of}
use Rattle.base_values.specs.ToolNames.{ghost_name}
use Rattle.tool_program.specs.JournalWords.Journals.{opens}
use Rattle.tool_program.specs.declared.chunk_copier.copier.Copier.{Copier}
use Rattle.tool_program.specs.declared.chunk_copier.copier.CopyStep.{CopyStep}
use Rattle.tool_program.specs.declared.chunk_copier.copier.CopyStep.TheVariants.{Choosing, Spanning}
use Rattle.tool_program.specs.ChunkCopier.Copiers as copiers
use Rattle.tool_program.specs.declared.event_applier.applier.Applier.{Applier}
use Rattle.tool_program.specs.declared.event_applier.applier.ApplyStep.{ApplyStep}
use Rattle.tool_program.specs.declared.event_applier.applier.ApplyStep.TheVariants.{Reading, Applying}
use Rattle.tool_program.specs.EventApplier.Appliers.{events_of}
use Rattle.tool_program.specs.EventApplier.Appliers as appliers
use Rattle.proof_journals.specs.Scenes.{Scene, SessionHold, no_hold}
use Rattle.proof_journals.specs.Holdings.{face_of}
use Rattle.proof_journals.specs.Turns.{about, scene_state}
use Rattle.proof_journals.specs.Ghost.Rows.Moments.{Row}
use Rattle.proof_journals.specs.Ghost.Rows.Timelines.{Migration}
use Rattle.proof_journals.specs.Ghost.Copies.{IsCopyStart}
use Rattle.proof_journals.specs.Ghost.HeldKeys.{Clustered}
use Rattle.proof_journals.specs.Ghost.ToolTurns.{ToolMoment, ToolStands}
use Rattle.proof_migration.specs.Migration.Copier.CopierPlace.{CopierKnows, copy_state, moment_of}
use Rattle.proof_migration.specs.Migration.Applier.ApplierPlace.{ApplierKnows, StepIsBusy, apply_plan}
use Rattle.proof_migration.specs.Migration.Away.{IsOtherTurn, OthersAway}

-- *The tool stands, and others keep away*
pub record StandsAway (m : Migration) (at : Clustered m.schema) (rows : List Row) (copier applier : ℕ) (now : ToolMoment) : Type 0 where
  pub stands : ToolStands m at rows copier applier now
  pub away : OthersAway m now.hold copier applier

-- the copier and the applier, and their sessions
pub record Machines : Type 0 where
  pub copier : Copier
  pub copier_session : ℕ
  pub applier : Applier
  pub applier_session : ℕ

abbrev pub hold_at : State → ℕ → SessionHold
hold_at state n = (face_of state.sessions n).hold

abbrev pub moment_at : Migration → State → List Entry → Machines → ToolMoment
moment_at m state journal now = moment_of state (copy_state journal now.copier) (apply_plan m journal now.applier) now.applier.position

-- *The migration stands* after a journal
pub record MigrationStands (m : Migration) (at : Clustered m.schema) (rows : List Row) (limits : Limits) (scene : Scene) (journal : List Entry) (now : Machines) : Type 0 where
  pub tool : StandsAway m at rows now.copier_session now.applier_session (moment_at m (scene_state limits scene journal) journal now)
  pub copier_knows : CopierKnows journal now.copier
  pub applier_knows : ApplierKnows m journal now.applier
  pub busy : StepIsBusy now.applier.step (face_of (scene_state limits scene journal).sessions now.applier_session).busy

-- the copier is between chunks; the applier is in no batch's statements
abbrev pub IsBetween : CopyStep → Type 0
IsBetween Choosing = Unit {0}
IsBetween (Spanning reported size) = Unit {0}
IsBetween step = ⊥

abbrev pub IsUnbusy : ApplyStep → Type 0
IsUnbusy (Applying batch done part) = ⊥
IsUnbusy step = Unit {0}

-- the session is lost between its calls
pub record IsCut (entry : Entry) (session : ℕ) : Type 0 where
  pub its : entry.session ≡ session
  pub cut : is_cut entry.asked ≡ true
  pub side : entry.side ≡ None

-- *The copier's turn*: it is about the copier's next call of this migration, and no row was found that doesn't fit.
pub record IsCopierTurn (m : Migration) (limits : Limits) (scene : Scene) (journal : List Entry) (entry : Entry) (copier : Copier) (session : ℕ) : Type 0 where
  pub its : entry.session ≡ session
  pub table : copier.table ≡ m.name
  pub map : copier.map ≡ m.columns
  pub request : Request
  pub asked : about (opens entry (scene_state limits scene journal)) entry.session entry.asked ≡ Some request
  pub tool : is_of_tool (session_of entry.session (opens entry (scene_state limits scene journal)).sessions) ≡ true
  pub given : copiers.next journal copier ≡ Some request
  pub uncut : is_cut entry.asked ≡ false
  pub fits : (place number : ℕ) → copiers.progress copier entry.answer ≡ Unfit place number → ⊥

-- *The applier's turn*, likewise
pub record IsApplierTurn (m : Migration) (limits : Limits) (scene : Scene) (journal : List Entry) (entry : Entry) (applier : Applier) (session : ℕ) : Type 0 where
  pub its : entry.session ≡ session
  pub table : applier.table ≡ m.name
  pub schema : applier.new_schema ≡ m.new
  pub map : applier.map ≡ m.columns
  pub request : Request
  pub asked : about (opens entry (scene_state limits scene journal)) entry.session entry.asked ≡ Some request
  pub tool : is_of_tool (session_of entry.session (opens entry (scene_state limits scene journal)).sessions) ≡ true
  pub given : appliers.next journal applier ≡ request
  pub uncut : is_cut entry.asked ≡ false
  pub fits : (place number : ℕ) → appliers.progress applier entry.answer ≡ Unfit place number → ⊥

-- *A turn of the migration*: of the copier's program, of the applier's, of another session; or one of the two is lost between
-- calls, which its machine sees, unless its session had nothing.
pub data MigrationTurn (m : Migration) (limits : Limits) (scene : Scene) (journal : List Entry) (entry : Entry) (before after : Machines) : Type 0 where
  copier_turns : IsCopierTurn m limits scene journal entry before.copier before.copier_session → after ≡ record before { copier = copiers.took (length journal + 1) before.copier entry.answer } → MigrationTurn m limits scene journal entry before after
  applier_turns : IsApplierTurn m limits scene journal entry before.applier before.applier_session → after ≡ record before { applier = appliers.took (length journal + 1) before.applier entry.answer } → MigrationTurn m limits scene journal entry before after
  others_turn : IsOtherTurn m limits scene journal entry before.copier_session before.applier_session → after ≡ before → MigrationTurn m limits scene journal entry before after
  copier_is_cut : IsCut entry before.copier_session → after ≡ record before { copier = record (before.copier) { step = Choosing } } → MigrationTurn m limits scene journal entry before after
  copier_is_idle : IsCut entry before.copier_session → IsBetween (before.copier).step → after ≡ before → MigrationTurn m limits scene journal entry before after
  applier_is_cut : IsCut entry before.applier_session → after ≡ record before { applier = record (before.applier) { step = Reading } } → MigrationTurn m limits scene journal entry before after
  applier_is_idle : IsCut entry before.applier_session → hold_at (scene_state limits scene journal) before.applier_session ≡ no_hold → IsUnbusy (before.applier).step → after ≡ before → MigrationTurn m limits scene journal entry before after

-- *A move between turns*: a machine goes on in another session that holds nothing; or chunks get another size, or the one does
-- whose end was read (where its call waited while the size was set)
pub data MigrationMove (limits : Limits) (scene : Scene) (journal : List Entry) (before after : Machines) : Type 0 where
  copier_moves : (session : ℕ) → IsBetween (before.copier).step → hold_at (scene_state limits scene journal) session ≡ no_hold → (session == before.applier_session) ≡ false → after ≡ record before { copier_session = session } → MigrationMove limits scene journal before after
  applier_moves : (session : ℕ) → hold_at (scene_state limits scene journal) before.applier_session ≡ no_hold → IsUnbusy (before.applier).step → hold_at (scene_state limits scene journal) session ≡ no_hold → (before.copier_session == session) ≡ false → after ≡ record before { applier_session = session }
      → MigrationMove limits scene journal before after
  chunks_resize : (size : ℕ) → 0 < size → after ≡ record before { copier = copiers.resized size before.copier } → MigrationMove limits scene journal before after
  span_resizes : (reported old size : ℕ) → (before.copier).step ≡ Spanning reported old → 0 < size → after ≡ record before { copier = record (before.copier) { step = Spanning reported size } } → MigrationMove limits scene journal before after

-- a step: an entry, or a move; and the machines after it
pub data Step : Type 0 where
  Turned : Entry → Machines → Step
  Moved : Machines → Step

-- *A run of the migration*: its steps in any order, from a journal on
abbrev pub MigrationRun : Migration → Limits → Scene → List Entry → Machines → List Step → Type 0
MigrationRun m limits scene journal now [] = Unit {0}
MigrationRun m limits scene journal now (Turned entry next ∷ steps) = MigrationTurn m limits scene journal entry now next × MigrationRun m limits scene (journal ++ entry ∷ []) next steps
MigrationRun m limits scene journal now (Moved next ∷ steps) = MigrationMove limits scene journal now next × MigrationRun m limits scene journal next steps

abbrev pub journal_after : List Entry → List Step → List Entry
journal_after journal [] = journal
journal_after journal (Turned entry next ∷ steps) = journal_after (journal ++ entry ∷ []) steps
journal_after journal (Moved next ∷ steps) = journal_after journal steps

abbrev pub machines_after : Machines → List Step → Machines
machines_after now [] = now
machines_after now (Turned entry next ∷ steps) = machines_after next steps
machines_after now (Moved next ∷ steps) = machines_after next steps

-- *The start*: the copy starts, with machines that know nothing of the journal yet, and no other session has written a row of the
-- new table.
pub record IsMigrationStart (m : Migration) (rows : List Row) (limits : Limits) (scene : Scene) (journal : List Entry) (now : Machines) : Type 0 where
  pub start : IsCopyStart m rows now.copier_session now.applier_session (moment_at m (scene_state limits scene journal) journal now)
  pub named : m.new.name ≡ ghost_name m.name
  pub following : (now.copier).following ≡ None
  pub choosing : (now.copier).step ≡ Choosing
  pub sized : 0 < (now.copier).size
  pub reading : (now.applier).step ≡ Reading
  pub batched : 0 < (now.applier).batch
  pub away : OthersAway m (hold_at (scene_state limits scene journal)) now.copier_session now.applier_session

-- *The mark*: the range is copied, no batch is open, and no event of the table is unread
pub record IsMigrationEnd (m : Migration) (state : State) (now : Machines) : Type 0 where
  pub copied : (now.copier).is_copied ≡ true
  pub idle : (now.applier).step ≡ Reading
  pub applied : events_of m.name (drop (now.applier).position state.log) ≡ []
