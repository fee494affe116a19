-- Turns that leave the new table settled.
use Rattle.std.specs.Prelude.{◌≡◌, false, List, Some, None}
use Rattle.server_model.specs.declared.entry.Entry.{Entry}
use Rattle.server_model.specs.declared.request.Request.{Request}
use Rattle.server_model.specs.declared.session.Limits.{Limits}
use Rattle.tool_program.specs.JournalWords.Journals.{may_lose, opens}
use Rattle.proof_journals.specs.Holdings.{face_of}
use Rattle.proof_journals.specs.Scenes.{Scene}
use Rattle.proof_journals.specs.Turns.{about, scene_state, reported_at}
use Rattle.proof_journals.specs.Ghost.Invariant.{NotOf}
use Rattle.proof_journals.specs.Ghost.Rows.Timelines.{Migration}
use Rattle.proof_migration.specs.Migration.Away.{KeepsAway}
use Rattle.proof_migration.specs.Migration.Machines.{hold_at}
use Rattle.proof_resume.specs.Settled.QuietRequests.{StoresNothing}

-- *Settling*: of a session that has written no row of the new table and keeps away from both tables; or one that stores nothing
pub data IsSettling (m : Migration) (limits : Limits) (scene : Scene) (before : List Entry) (entry : Entry) : Type 0 where
  keeps_away : NotOf m.new.name (hold_at (scene_state limits scene before) entry.session).writes → ((request : Request) → about (opens entry (scene_state limits scene before)) entry.session entry.asked ≡ Some request → KeepsAway m (reported_at entry.side entry.answer entry.missed) request)
      → IsSettling m limits scene before entry
  stores_nothing : ((request : Request) → about (opens entry (scene_state limits scene before)) entry.session entry.asked ≡ Some request → StoresNothing (face_of (scene_state limits scene before).sessions entry.session).busy request) → IsSettling m limits scene before entry

-- ... where a loss comes only at a call or a poll
pub record SettlesSo (m : Migration) (limits : Limits) (scene : Scene) (before : List Entry) (entry : Entry) : Type 0 where
  pub sides : may_lose entry.asked ≡ false → entry.side ≡ None
  pub settling : IsSettling m limits scene before entry
