-- The new table is settled at every moment before the RENAME, and a new copier and a new applier may start from it.
use Rattle.std.specs.Prelude.{◌≡◌, ◌⊎◌, ◌≤◌, ◌<◌, ℕ, ◌==◌, true, false, List, [], ◌∷◌, ◌++◌, Option, Some, None}
use Rattle.base_values.specs.declared.span.Span.{Span}
use Rattle.base_values.specs.GhoSchema.ClusteredKey.{clustered_place}
use Rattle.base_values.specs.ToolNames.{ghost_name}
use Rattle.table_store.specs.Databases.{find_table}
use Rattle.base_script.specs.declared.actor.Actor.TheVariants.{Copy, Apply}
use Rattle.server_model.specs.Along.{Along}
use Rattle.server_model.specs.declared.entry.Asked.TheVariants.{Call}
use Rattle.server_model.specs.declared.entry.Entry.{Entry}
use Rattle.server_model.specs.declared.request.Request.{Request}
use Rattle.server_model.specs.declared.request.Request.TheVariants as requests
use Rattle.server_model.specs.declared.session.Limits.{Limits}
use Rattle.server_model.specs.Operations.{after_events}
use Rattle.plan_data.specs.PlanData.{PlanData}
use Rattle.tool_program.specs.JournalWords.Journals.{may_lose, opens, state_at}
use Rattle.tool_program.specs.declared.chunk_copier.copier.CopyStep.TheVariants.{Choosing}
use Rattle.tool_program.specs.declared.event_applier.applier.ApplyStep.TheVariants.{Reading}
use Rattle.tool_program.specs.Tools.{Migrating, Work, is_reverting, moment}
use Rattle.proof_journals.specs.Scenes.{Scene, Stored, SessionHold, no_hold}
use Rattle.proof_journals.specs.Holdings.{face_of, stored}
use Rattle.proof_journals.specs.Turns.{IsSceneRun, about, scene_state, reported_at}
use Rattle.proof_journals.specs.Plans.{IsSerialPlan}
use Rattle.proof_journals.specs.Run.Kept.{IsKept}
use Rattle.proof_journals.specs.Machine.Runnable.{IsRunnable}
use Rattle.proof_journals.specs.Ghost.Copies.{IsAltered}
use Rattle.proof_journals.specs.Ghost.HeldKeys.{Clustered}
use Rattle.proof_journals.specs.Ghost.Invariant.{IsServed, NotOf}
use Rattle.proof_journals.specs.Ghost.Tool.{CopyState, ApplyState, ToolInvariant, start_places}
use Rattle.proof_journals.specs.Ghost.Tool.CopyState.{Waiting}
use Rattle.proof_journals.specs.Ghost.Tool.ApplyState.{Idle}
use Rattle.proof_journals.specs.Ghost.Relation.Views.{Progress}
use Rattle.proof_journals.specs.Ghost.Rows.Moments.{Row}
use Rattle.proof_journals.specs.Ghost.Rows.Timelines.{IsPlanned, Migration}
use Rattle.proof_journals.specs.Ghost.Rows.Views.{GhostRows}
use Rattle.proof_migration.specs.Migration.Away.{KeepsAway}
use Rattle.proof_migration.specs.Migration.Applier.FoundColumns.{FindsRows}
use Rattle.proof_migration.specs.Migration.Copier.CopierPlace.{copy_state}
use Rattle.proof_migration.specs.Migration.Machines.{IsMigrationEnd, Machines, MigrationRun, MigrationStands, Step, hold_at, journal_after, machines_after}
use Rattle.proof_migration.specs.ToolPhase.Unaltered.{IsUnaltered}
use Rattle.proof_migration.specs.Program.Turns.Laws.{IsMigrationOf}
use Rattle.proof_resume.specs.Reached.Coverage.{left_in}
use Rattle.proof_resume.specs.Settled.NewTable.{IsSettled, LeavesMore, only_committed}
use Rattle.proof_resume.specs.Settled.QuietRequests.{StoresNothing}
use Rattle.proof_resume.specs.Settled.SettlingTurns.{SettlesSo}

-- WHAT IS SETTLED

-- *Relations settle*: where the tool's invariant holds, wherever the copier and the applier are, the committed new table has the
-- relation at the applier's position, with what is left to copy.
abbrev pub RelationsSettle : Type 0
RelationsSettle =
    (m : Migration) (at : Clustered m.schema) (rows : List Row) (copy : CopyState) (apply : ApplyState) (progress : Progress Row) (ghost : GhostRows) (copier applier : ℕ) (now : Stored) (hold : ℕ → SessionHold) → IsPlanned m rows → ToolInvariant m at rows copy apply progress ghost copier applier now hold
    → IsSettled m rows now progress.position (left_in copy) ghost.committed

-- *Settled earlier*: so it has at each earlier position, and where more is left.
abbrev pub SettledEarlier : Type 0
SettledEarlier =
    (m : Migration) (rows : List Row) (now : Stored) (position earlier : ℕ) (left more : Option Span) (made : List Row) → IsPlanned m rows → earlier ≤ position → LeavesMore m rows now left more → IsSettled m rows now position left made
    → IsSettled m rows now earlier more made

-- *Others settle*: another session commits, none of whose events is of the new table.
abbrev pub OthersSettle : Type 0
OthersSettle =
    (m : Migration) (rows : List Row) (now after : Stored) (hold : ℕ → SessionHold) (number position : ℕ) (left : Option Span) (made : List Row) → IsPlanned m rows → IsServed now hold → NotOf m.new.name (hold number).writes
    → after.tables ≡ after_events now.tables (hold number).writes → after.log ≡ now.log ++ (hold number).writes → IsSettled m rows now position left made → IsSettled m rows after position left made

-- *Moves settle*: other tables are made, dropped or renamed.
abbrev pub MovesSettle : Type 0
MovesSettle =
    (m : Migration) (rows : List Row) (now after : Stored) (position : ℕ) (left : Option Span) (made : List Row) → after.log ≡ now.log → find_table m.name after.tables ≡ find_table m.name now.tables → find_table m.new.name after.tables ≡ find_table m.new.name now.tables
    → IsSettled m rows now position left made → IsSettled m rows after position left made

-- TURNS THAT LEAVE IT SETTLED

-- *Turns settle*: a turn of a session that has written no row of the new table, and keeps away from both tables, leaves it settled.
abbrev pub TurnsSettle : Type 0
TurnsSettle =
    (m : Migration) (rows : List Row) → IsPlanned m rows → (limits : Limits) (scene : Scene) (journal : List Entry) (entry : Entry) → IsSceneRun limits scene (journal ++ entry ∷ []) → (may_lose entry.asked ≡ false → entry.side ≡ None) → NotOf m.new.name (hold_at (scene_state limits scene journal) entry.session).writes
    → ((request : Request) → about (opens entry (scene_state limits scene journal)) entry.session entry.asked ≡ Some request → KeepsAway m (reported_at entry.side entry.answer entry.missed) request) → (position : ℕ) (left : Option Span) (made : List Row)
    → IsSettled m rows (stored (scene_state limits scene journal)) position left made → IsSettled m rows (stored (scene_state limits scene (journal ++ entry ∷ []))) position left made

-- *Quiet turns store nothing*, also of a session that has rows of the new table in its open transaction: it is lost, or asks for what
-- stores nothing.
abbrev pub QuietTurnsStoreNothing : Type 0
QuietTurnsStoreNothing =
    (limits : Limits) (scene : Scene) (journal : List Entry) (entry : Entry) → IsSceneRun limits scene (journal ++ entry ∷ []) → (may_lose entry.asked ≡ false → entry.side ≡ None)
    → ((request : Request) → about (opens entry (scene_state limits scene journal)) entry.session entry.asked ≡ Some request → StoresNothing (face_of (scene_state limits scene journal).sessions entry.session).busy request)
    → stored (scene_state limits scene (journal ++ entry ∷ [])) ≡ stored (scene_state limits scene journal)

-- *Settled through*: over turns each of which is of a session that keeps away from the new table, or stores nothing, it stays settled.
abbrev pub SettledThrough : Type 0
SettledThrough =
    (m : Migration) (rows : List Row) → IsPlanned m rows → (limits : Limits) (scene : Scene) (journal rest : List Entry) → IsSceneRun limits scene (journal ++ rest) → Along (SettlesSo m limits scene) journal rest → (position : ℕ) (left : Option Span) (made : List Row)
    → IsSettled m rows (stored (scene_state limits scene journal)) position left made → IsSettled m rows (stored (scene_state limits scene (journal ++ rest))) position left made

-- ALONG A RUN

-- the new table is settled after these turns of a plan, where the tool's work is this: at its applier's position, with what its copier
-- has left
pub record SettledIn (plan : PlanData) (m : Migration) (rows : List Row) (journal : List Entry) (work : Work) : Type 0 where
  pub made : List Row
  pub is : IsSettled m rows (stored (state_at plan journal)) work.applier.position (left_in (copy_state journal work.copier)) made

-- *Kept runs settle*: after every kept turn of a plan before the RENAME, once the setup is over, the new table is settled, whether all is
-- reverted or not.
abbrev pub KeptRunsSettle : Type 0
KeptRunsSettle =
    (plan : PlanData) (m : Migration) (at : Clustered m.schema) (rows : List Row) → IsMigrationOf plan m rows → find_table m.name plan.tables ≡ Some (record { schema = m.schema; rows = rows }) → (journal : List Entry) (work : Work) → IsKept plan journal → IsUnaltered plan journal
    → (moment plan journal).tool.tool_phase ≡ Migrating work → SettledIn plan m rows journal work

-- *Reverts roll back*: where all is reverted, and before the RENAME, the copier and the applier call nothing but ROLLBACK.
abbrev pub RevertsRollBack : Type 0
RevertsRollBack =
    (plan : PlanData) (journal : List Entry) (entry : Entry) (work : Work) → IsRunnable plan → IsSerialPlan plan → IsKept plan (journal ++ entry ∷ []) → IsUnaltered plan (journal ++ entry ∷ []) → (moment plan journal).tool.tool_phase ≡ Migrating work → is_reverting (moment plan journal).tool.reason ≡ true
    → (entry.actor ≡ Copy) ⊎ (entry.actor ≡ Apply) → (request : Request) → entry.asked ≡ Call request → request ≡ requests.Rollback

-- THE START OF A NEW TOOL

-- *Settled starts*: a new copier and a new applier start from it, in sessions that hold nothing.
abbrev pub SettledStarts : Type 0
SettledStarts =
    (m : Migration) (at : Clustered m.schema) (rows : List Row) (copier applier position : ℕ) (now : Stored) (hold : ℕ → SessionHold) (left : Option Span) (made : List Row) → hold copier ≡ no_hold → hold applier ≡ no_hold → (copier == applier) ≡ false → (applier == copier) ≡ false → IsSettled m rows now position left made
    → ToolInvariant m at rows (Waiting left) Idle (start_places position now) (only_committed made) copier applier now hold

-- the two machines, at their start: no chunk was committed, nothing is begun, no session holds anything
pub record AreNew (limits : Limits) (scene : Scene) (journal : List Entry) (now : Machines) : Type 0 where
  pub following : (now.copier).following ≡ None
  pub choosing : (now.copier).step ≡ Choosing
  pub sized : 0 < (now.copier).size
  pub reading : (now.applier).step ≡ Reading
  pub batched : 0 < (now.applier).batch
  pub free : (n : ℕ) → hold_at (scene_state limits scene journal) n ≡ no_hold
  pub two : (now.copier_session == now.applier_session) ≡ false
  pub other : (now.applier_session == now.copier_session) ≡ false

-- *New tools start*: where the new table is settled at the applier's position, with what the copier has to copy, and nobody holds
-- anything, the migration stands.
abbrev pub NewToolsStart : Type 0
NewToolsStart =
    (m : Migration) (at : Clustered m.schema) (rows : List Row) (limits : Limits) (scene : Scene) (journal : List Entry) (now : Machines) (left : Option Span) (made : List Row) → AreNew limits scene journal now → copy_state journal now.copier ≡ Waiting left
    → IsSettled m rows (stored (scene_state limits scene journal)) (now.applier).position left made → MigrationStands m at rows limits scene journal now

-- *Resumed copies alter the table*: from where it stands, over turns of the two programs and of other sessions in any order, to the
-- mark, the new table becomes the altered one.
abbrev pub ResumedCopiesAlter : Type 0
ResumedCopiesAlter =
    (m : Migration) (at : Clustered m.schema) (rows : List Row) (place : ℕ) → IsPlanned m rows → clustered_place m.new ≡ Some place → FindsRows m → m.new.name ≡ ghost_name m.name → (limits : Limits) (scene : Scene) (journal : List Entry) (now : Machines) (steps : List Step) → IsSceneRun limits scene (journal_after journal steps)
    → MigrationStands m at rows limits scene journal now → MigrationRun m limits scene journal now steps → IsMigrationEnd m (scene_state limits scene (journal_after journal steps)) (machines_after now steps) → IsAltered m (scene_state limits scene (journal_after journal steps)).tables
