-- Each turn of the applier keeps the ghost relation; and what its statements rest on holds of each ALTER.
use Rattle.server_model.specs.States.{is_of_tool, session_of}
use Rattle.std.specs.Prelude.{◌≡◌, ◌+◌, ℕ, Bool, true, false, List, [], ◌∷◌, ◌++◌, length, Some, Ok}
use Rattle.base_values.specs.declared.gho_schema.schema.Schema.{Schema}
use Rattle.base_values.specs.GhoSchema.ClusteredKey.{clustered_place}
use Rattle.base_values.specs.declared.row_conversion.clause.Clause.{Clause}
use Rattle.base_values.specs.SchemaRules.Valid.{IsValid}
use Rattle.sql_change.specs.AlteredSchema.{altered}
use Rattle.plan_data.specs.PlanData.{Altered}
use Rattle.server_model.specs.declared.entry.Entry.{Entry}
use Rattle.server_model.specs.declared.outcome.Progress.TheVariants.{Unfit}
use Rattle.server_model.specs.declared.request.Request.{Request}
use Rattle.server_model.specs.declared.session.Limits.{Limits}
use Rattle.server_model.specs.Entries.{is_cut}
use Rattle.tool_program.specs.JournalWords.Journals.{opens}
use Rattle.tool_program.specs.declared.event_applier.applier.Applier.{Applier}
use Rattle.tool_program.specs.EventApplier.Appliers.{next, progress, took}
use Rattle.proof_journals.specs.Scenes.{Scene}
use Rattle.proof_journals.specs.Holdings.{face_of}
use Rattle.proof_journals.specs.Turns.{about, scene_state, IsSceneRun, IsReported}
use Rattle.proof_journals.specs.Ghost.Rows.Moments.{Row}
use Rattle.proof_journals.specs.Ghost.Rows.Timelines.{IsPlanned, Migration}
use Rattle.proof_journals.specs.Ghost.HeldKeys.{Clustered}
use Rattle.proof_journals.specs.Ghost.ToolTurns.{ToolStands}
use Rattle.proof_journals.specs.Ghost.Tool.{CopyState}
use Rattle.proof_migration.specs.Migration.Copier.CopierPlace.{moment_of}
use Rattle.proof_migration.specs.Migration.Planning.{migration_of}
use Rattle.proof_migration.specs.Migration.Applier.ApplierPlace.{ApplierKnows, StepIsBusy, apply_plan}
use Rattle.proof_migration.specs.Migration.Applier.FoundColumns.{FindsRows}

-- *A turn of the applier*: it is about the applier's next call of this migration, and no row was found that doesn't fit
pub record IsApplierTurn (m : Migration) (limits : Limits) (scene : Scene) (journal : List Entry) (entry : Entry) (applier : Applier) (request : Request) : Type 0 where
  pub run : IsSceneRun limits scene journal
  pub more : IsSceneRun limits scene (journal ++ entry ∷ [])
  pub reported : IsReported limits scene journal entry
  pub table : applier.table ≡ m.name
  pub schema : applier.new_schema ≡ m.new
  pub map : applier.map ≡ m.columns
  pub asked : about (opens entry (scene_state limits scene journal)) entry.session entry.asked ≡ Some request
  pub tool : is_of_tool (session_of entry.session (opens entry (scene_state limits scene journal)).sessions) ≡ true
  pub given : next journal applier ≡ request
  pub uncut : is_cut entry.asked ≡ false
  pub fits : (place number : ℕ) → progress applier entry.answer ≡ Unfit place number → ⊥

-- the applier stands in this session after the journal, and knows what it is to know
pub record ApplierStands (m : Migration) (at : Clustered m.schema) (rows : List Row) (limits : Limits) (scene : Scene) (journal : List Entry) (applier : Applier) (copy : CopyState) (copier session : ℕ) : Type 0 where
  pub stands : ToolStands m at rows copier session (moment_of (scene_state limits scene journal) copy (apply_plan m journal applier) applier.position)
  pub knows : ApplierKnows m journal applier
  pub busy : StepIsBusy applier.step (face_of (scene_state limits scene journal).sessions session).busy

-- *Appliers keep the relation*: after each turn of the applier it stands where its record says.
abbrev pub AppliersKeep : Type 0
AppliersKeep =
    (m : Migration) (at : Clustered m.schema) (rows : List Row) (place : ℕ) → IsPlanned m rows → clustered_place m.new ≡ Some place → FindsRows m → (limits : Limits) (scene : Scene) (journal : List Entry) (entry : Entry) (applier : Applier) (request : Request) (copy : CopyState) (copier : ℕ)
    → IsApplierTurn m limits scene journal entry applier request → ApplierStands m at rows limits scene journal applier copy copier entry.session
    → ApplierStands m at rows limits scene (journal ++ entry ∷ []) (took (length journal + 1) applier entry.answer) copy copier entry.session

-- *ALTERs find rows*: what the applier's statements rest on holds of each ALTER that is taken of a table of a valid schema, and
-- leaves one.
abbrev pub AltersFindRows : Type 0
AltersFindRows = (approve : Bool) (schema : Schema) (clauses : List Clause) (new : Altered) → IsValid schema → IsValid (new.0) → altered approve schema clauses ≡ Ok new → FindsRows (migration_of schema new)
