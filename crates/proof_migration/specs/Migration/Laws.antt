-- Other sessions' turns keep the ghost relation; and over journals that follow the program the new table becomes the altered one.
use Rattle.std.specs.Prelude.{◌≡◌, ℕ, List, [], ◌∷◌, ◌++◌, Some}
use Rattle.base_values.specs.GhoSchema.ClusteredKey.{clustered_place}
use Rattle.server_model.specs.declared.entry.Entry.{Entry}
use Rattle.server_model.specs.declared.session.Limits.{Limits}
use Rattle.base_values.specs.ToolNames.{ghost_name}
use Rattle.proof_journals.specs.Scenes.{Scene}
use Rattle.proof_journals.specs.Turns.{IsSceneRun, scene_state}
use Rattle.proof_journals.specs.Ghost.Rows.Moments.{Row}
use Rattle.proof_journals.specs.Ghost.Rows.Timelines.{IsPlanned, Migration}
use Rattle.proof_journals.specs.Ghost.Copies.{IsAltered}
use Rattle.proof_journals.specs.Ghost.HeldKeys.{Clustered}
use Rattle.proof_journals.specs.Ghost.ToolTurns.{ApplyPlan}
use Rattle.proof_journals.specs.Ghost.Tool.{CopyState}
use Rattle.proof_migration.specs.Migration.Copier.CopierPlace.{moment_of}
use Rattle.proof_migration.specs.Migration.Applier.FoundColumns.{FindsRows}
use Rattle.proof_migration.specs.Migration.Away.{IsOtherTurn}
use Rattle.proof_migration.specs.Migration.Machines.{IsMigrationEnd, IsMigrationStart, Machines, MigrationMove, MigrationRun, MigrationStands, MigrationTurn, StandsAway, Step, journal_after, machines_after}

-- *Others keep the relation*: after another session's turn the tool stands where it stood.
abbrev pub OthersKeep : Type 0
OthersKeep =
    (m : Migration) (at : Clustered m.schema) (rows : List Row) (place : ℕ) → IsPlanned m rows → clustered_place m.new ≡ Some place → (limits : Limits) (scene : Scene) (journal : List Entry) (entry : Entry) (copy : CopyState) (plan : ApplyPlan) (position copier applier : ℕ)
    → IsSceneRun limits scene (journal ++ entry ∷ []) → IsOtherTurn m limits scene journal entry copier applier → StandsAway m at rows copier applier (moment_of (scene_state limits scene journal) copy plan position) → StandsAway m at rows copier applier (moment_of (scene_state limits scene (journal ++ entry ∷ [])) copy plan position)

-- *Turns keep the migration*, and so do moves
abbrev pub TurnsKeep : Type 0
TurnsKeep =
    (m : Migration) (at : Clustered m.schema) (rows : List Row) (place : ℕ) → IsPlanned m rows → clustered_place m.new ≡ Some place → FindsRows m → m.new.name ≡ ghost_name m.name → (limits : Limits) (scene : Scene) (journal : List Entry) (entry : Entry) (before after : Machines) → IsSceneRun limits scene (journal ++ entry ∷ [])
    → MigrationTurn m limits scene journal entry before after → MigrationStands m at rows limits scene journal before → MigrationStands m at rows limits scene (journal ++ entry ∷ []) after

abbrev pub MovesKeep : Type 0
MovesKeep =
    (m : Migration) (at : Clustered m.schema) (rows : List Row) (limits : Limits) (scene : Scene) (journal : List Entry) (before after : Machines) → MigrationMove limits scene journal before after → MigrationStands m at rows limits scene journal before → MigrationStands m at rows limits scene journal after

-- *Journals alter the table*: from the range read, over turns of the copier's and the applier's program and of all other sessions in
-- any order, whatever is answered, refused, lost or repeated, to the mark, the new table becomes the altered one.
abbrev pub JournalsAlter : Type 0
JournalsAlter =
    (m : Migration) (at : Clustered m.schema) (rows : List Row) (place : ℕ) → IsPlanned m rows → clustered_place m.new ≡ Some place → FindsRows m → (limits : Limits) (scene : Scene) (journal : List Entry) (now : Machines) (steps : List Step) → IsSceneRun limits scene (journal_after journal steps)
    → IsMigrationStart m rows limits scene journal now → MigrationRun m limits scene journal now steps → IsMigrationEnd m (scene_state limits scene (journal_after journal steps)) (machines_after now steps) → IsAltered m (scene_state limits scene (journal_after journal steps)).tables
