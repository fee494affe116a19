-- Each turn of the tool's machines keeps the ghost relation.
use Rattle.server_model.specs.States.{is_of_tool, session_of}
use Rattle.std.specs.Prelude.{◌≡◌, ◌+◌, ℕ, true, false, List, [], ◌∷◌, ◌++◌, length, Some}
use Rattle.server_model.specs.declared.entry.Entry.{Entry}
use Rattle.server_model.specs.declared.outcome.Progress.TheVariants.{Unfit}
use Rattle.server_model.specs.declared.request.Request.{Request}
use Rattle.server_model.specs.declared.session.Limits.{Limits}
use Rattle.server_model.specs.Entries.{is_cut}
use Rattle.base_values.specs.ToolNames.{ghost_name}
use Rattle.tool_program.specs.JournalWords.Journals.{opens}
use Rattle.tool_program.specs.declared.chunk_copier.copier.Copier.{Copier}
use Rattle.tool_program.specs.ChunkCopier.Copiers.{next, progress, took}
use Rattle.base_values.specs.GhoSchema.ClusteredKey.{clustered_place}
use Rattle.proof_journals.specs.Scenes.{Scene}
use Rattle.proof_journals.specs.Turns.{about, scene_state, IsSceneRun, IsReported}
use Rattle.proof_journals.specs.Ghost.Rows.Moments.{Row}
use Rattle.proof_journals.specs.Ghost.Rows.Timelines.{IsPlanned, Migration}
use Rattle.proof_journals.specs.Ghost.HeldKeys.{Clustered}
use Rattle.proof_journals.specs.Ghost.ToolTurns.{ApplyPlan, ToolStands}
use Rattle.proof_migration.specs.Migration.Copier.CopierPlace.{CopierKnows, copy_state, moment_of}

-- *A turn of the copier*: it is about the copier's next call of this migration, and no row was found that doesn't fit
pub record IsCopierTurn (m : Migration) (limits : Limits) (scene : Scene) (journal : List Entry) (entry : Entry) (copier : Copier) (request : Request) : Type 0 where
  pub run : IsSceneRun limits scene journal
  pub more : IsSceneRun limits scene (journal ++ entry ∷ [])
  pub reported : IsReported limits scene journal entry
  pub table : copier.table ≡ m.name
  pub new_name : m.new.name ≡ ghost_name m.name
  pub map : copier.map ≡ m.columns
  pub asked : about (opens entry (scene_state limits scene journal)) entry.session entry.asked ≡ Some request
  pub tool : is_of_tool (session_of entry.session (opens entry (scene_state limits scene journal)).sessions) ≡ true
  pub given : next journal copier ≡ Some request
  pub uncut : is_cut entry.asked ≡ false
  pub fits : (place number : ℕ) → progress copier entry.answer ≡ Unfit place number → ⊥

-- the copier stands in this session after the journal, and knows what it is to know
pub record CopierStands (m : Migration) (at : Clustered m.schema) (rows : List Row) (limits : Limits) (scene : Scene) (journal : List Entry) (copier : Copier) (plan : ApplyPlan) (position session applier : ℕ) : Type 0 where
  pub stands : ToolStands m at rows session applier (moment_of (scene_state limits scene journal) (copy_state journal copier) plan position)
  pub knows : CopierKnows journal copier

-- *Copiers keep the relation*: after each turn of the copier it stands where its record says.
abbrev pub CopiersKeep : Type 0
CopiersKeep =
    (m : Migration) (at : Clustered m.schema) (rows : List Row) (place : ℕ) → IsPlanned m rows → clustered_place m.new ≡ Some place → (limits : Limits) (scene : Scene) (journal : List Entry) (entry : Entry) (copier : Copier) (request : Request) (plan : ApplyPlan) (position applier : ℕ)
    → IsCopierTurn m limits scene journal entry copier request → CopierStands m at rows limits scene journal copier plan position entry.session applier
    → CopierStands m at rows limits scene (journal ++ entry ∷ []) (took (length journal + 1) copier entry.answer) plan position entry.session applier
