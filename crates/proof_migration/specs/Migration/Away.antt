-- Turns of sessions that are neither the copier's nor the applier's, and keep away from the new table.
use Rattle.std.specs.Prelude.{◌≡◌, ℕ, ◌==◌, false, List, Option, Some, None}
use Rattle.std.specs.List.{AllByRecursion}
use Rattle.std.specs.Str.{bytes_eq}
use Rattle.server_model.specs.declared.answer.Answer.{Answer}
use Rattle.server_model.specs.declared.entry.Entry.{Entry}
use Rattle.server_model.specs.declared.request.Request.{Request}
use Rattle.server_model.specs.declared.request.Request.TheVariants as requests
use Rattle.server_model.specs.declared.session.Limits.{Limits}
use Rattle.server_model.specs.Answers.{ok}
use Rattle.server_model.specs.Operations.{table_of}
use Rattle.server_model.specs.States.{names_in}
use Rattle.tool_program.specs.JournalWords.Journals.{may_lose, opens}
use Rattle.proof_journals.specs.Scenes.{Scene, SessionHold}
use Rattle.proof_journals.specs.Turns.{about, scene_state, reported_at}
use Rattle.proof_journals.specs.Ghost.Rows.Timelines.{Migration}
use Rattle.proof_journals.specs.Ghost.Invariant.{NotOf}

-- neither the migrated table's name nor the new one's
abbrev pub IsOther : Migration → List ℕ → Type 0
IsOther m name = (bytes_eq m.name name ≡ false) × (bytes_eq m.new.name name ≡ false)

-- *Keeps away*: the request writes no row of the new table, and makes, drops and, where that is done, renames neither it nor the
-- migrated one.
abbrev pub KeepsAway : Migration → Option Answer → Request → Type 0
KeepsAway m reported (requests.Do statement) = bytes_eq (table_of statement) m.new.name ≡ false
KeepsAway m reported (requests.CopyRow from into map key) = bytes_eq into m.new.name ≡ false
KeepsAway m reported (requests.Create schema) = IsOther m schema.name
KeepsAway m reported (requests.Drop name) = IsOther m name
KeepsAway m reported (requests.Rename pairs) = reported ≡ Some ok → AllByRecursion (IsOther m) (names_in (requests.Rename pairs))
KeepsAway m reported request = Unit {0}

-- no other session has written a row of the new table
abbrev pub OthersAway : Migration → (ℕ → SessionHold) → ℕ → ℕ → Type 0
OthersAway m hold copier applier = (n : ℕ) → (copier == n) ≡ false → (applier == n) ≡ false → NotOf m.new.name (hold n).writes

-- *Another session's turn*
pub record IsOtherTurn (m : Migration) (limits : Limits) (scene : Scene) (journal : List Entry) (entry : Entry) (copier applier : ℕ) : Type 0 where
  pub sides : may_lose entry.asked ≡ false → entry.side ≡ None
  pub no_copier : (copier == entry.session) ≡ false
  pub no_applier : (applier == entry.session) ≡ false
  pub away : (request : Request) → about (opens entry (scene_state limits scene journal)) entry.session entry.asked ≡ Some request → KeepsAway m (reported_at entry.side entry.answer entry.missed) request
