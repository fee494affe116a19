-- The last checkpoint that a run wrote, and so the one that a new tool finds, reaches to a key of the migrated table.
use Rattle.std.proofs.Common.{◌≡◌, ℕ, Bool, true, false, cond, List, [], ◌∷◌, ◌++◌, Option, Some, None, refl, sym, ap, ◌∙◌, subst}
use Rattle.base_script.specs.declared.actor.Actor.TheVariants.{Insp}
use Rattle.server_model.specs.declared.answer.Answer.{Answer}
use Rattle.server_model.specs.declared.entry.Asked.TheVariants.{Call}
use Rattle.server_model.specs.declared.entry.Entry.{Entry}
use Rattle.server_model.specs.declared.request.Request.{Request}
use Rattle.server_model.specs.EarlierAnswers.{end_in}
use Rattle.plan_data.specs.PlanData.{PlanData}
use Rattle.tool_changelog.specs.declared.checkpoint.Reach.{Reach}
use Rattle.tool_changelog.specs.declared.checkpoint.Reach.TheVariants.{All}
use Rattle.tool_changelog.specs.Checkpoints.{checkpoint_row}
use Rattle.tool_notes.proofs.Rows.{read_has_row}
use Rattle.tool_program.specs.Programs.{reach_after, reach_in, tool_call}
use Rattle.tool_program.specs.Tools.{Migrating, moment, SettingUp, ToolPhase, Work}
use Rattle.proof_journals.specs.Ghost.Rows.Moments.{Row}
use Rattle.proof_journals.specs.Machine.Runnable.{IsRunnable}
use Rattle.proof_journals.specs.Machine.TableKeys.{AfterKeyed, CopierKeyed, IsKey, ToolPhaseKeyed}
use Rattle.proof_journals.specs.Run.Kept.{IsKept}
use Rattle.proof_journals.proofs.Machine.Journals.{IsRun, IsTogether}
use Rattle.proof_journals.proofs.Machine.Keyed.{all_keyed}
use Rattle.proof_journals.proofs.Machine.Staying.{tables_stay}
use Rattle.proof_migration.proofs.KeptJournals.{each_kept}
use Rattle.proof_migration.proofs.Program.Turns.Follows.{kept_front, kept_run}
use Rattle.proof_migration.proofs.ToolPhase.Unaltered.Away.{all_asked}
use Rattle.proof_resume.specs.Reached.Checkpoints.{checkpoint_asked, checkpoint_written, last_checkpoint, or_earlier}
use Rattle.proof_resume.proofs.Reached.Existing.{checkpoints_exist}
use Rattle.proof_resume.proofs.Reached.LastCheckpoints.{inspector_called, setup_writes_none}
use Rattle.proof_resume.proofs.Reached.Written.{inspected_row, last_more, written_asked}
use Rattle.proof_resume.specs.Finish.Callable.{ReachKeyed}
use Rattle.proof_resume.specs.Starts.Laws.{FoundIsKeyed}
use Rattle.proof_resume.proofs.Starts.PrintedKeys.{same_row_keyed}

-- the row of a checkpoint that reaches to a key of the table
record KeyedRow (plan : PlanData) (row : Row) : Type 0 where
  position : ℕ
  reach : Reach
  is : checkpoint_row position reach ≡ Some row
  keyed : ReachKeyed plan reach

abbrev LastKeyed : PlanData → List Entry → Type 0
LastKeyed plan journal = (row : Row) → last_checkpoint journal ≡ Some row → KeyedRow plan row

module _ (plan : PlanData) (runs : IsRunnable plan) (journal : List Entry) (entry : Entry) (kept : IsKept plan (journal ++ entry ∷ [])) where
  earlier : IsKept plan journal
  earlier = kept_front plan journal (entry ∷ []) kept

  run : IsRun plan journal entry
  run = kept_run plan journal entry kept

  together : IsTogether plan journal
  together = (all_asked plan journal runs earlier.faithful earlier.follows).marking.tabled.all.tool

  phase_keyed : ToolPhaseKeyed plan journal (moment plan journal).tool.tool_phase
  phase_keyed = (all_keyed plan journal runs.fitting runs.stands (tables_stay plan journal runs.fitting runs.tables earlier.faithful earlier.follows) earlier.faithful earlier.follows).tool_phase

  -- what the copier reached
  reached : (work : Work) → CopierKeyed plan journal work.copier → ReachKeyed plan (reach_in journal work.copier)
  reached work keyed = by work.copier.is_copied work.copier.following keyed.following where
    by : (b : Bool) (following : Option ℕ) → AfterKeyed plan journal following → ReachKeyed plan (cond b All (reach_after journal following))
    by true following at = tt
    by false None at = tt
    by false (Some reported) at = subst (λ (a : Option Answer). IsKey plan (end_in a)) (sym at.is) at.key

  written : (row : Row) → checkpoint_written entry ≡ Some row → KeyedRow plan row
  written row is = by (moment plan journal).tool.tool_phase refl phase_keyed where
    called : (request : Request) × (checkpoint_asked Insp (Call request) ≡ Some row) × (tool_call plan (moment plan journal).server journal (moment plan journal).tool (moment plan journal).tool.tool_phase Insp ≡ Some request)
    called = inspector_called plan journal entry row together run (written_asked entry row is)

    by : (phase : ToolPhase) → (moment plan journal).tool.tool_phase ≡ phase → ToolPhaseKeyed plan journal phase → KeyedRow plan row
    by (SettingUp setup tries) same keyed = absurd (let no : None ≡ Some row = sym (setup_writes_none plan journal entry setup tries together run same) ∙ is in cc)
    by (Migrating work) same keyed = record {
      position = work.applier.position;
      reach = reach_in journal work.copier;
      is = inspected_row plan journal (moment plan journal).tool work called.0 row (ap (λ (phase : ToolPhase). tool_call plan (moment plan journal).server journal (moment plan journal).tool phase Insp) (sym same) ∙ called.2) called.1;
      keyed = reached work keyed;
    }

  last_keyed : LastKeyed plan journal → LastKeyed plan (journal ++ entry ∷ [])
  last_keyed was row is = by (checkpoint_written entry) refl (sym (last_more journal entry) ∙ is) where
    by : (one : Option Row) → checkpoint_written entry ≡ one → or_earlier (last_checkpoint journal) one ≡ Some row → KeyedRow plan row
    by None none some = was row some
    by (Some other) one some = let same : other ≡ row = cc in subst (KeyedRow plan) same (written other one)

none_begins : (plan : PlanData) → LastKeyed plan []
unfolding last_checkpoint
none_begins plan row is = absurd cc

all_last_keyed : (plan : PlanData) → IsRunnable plan → (journal : List Entry) → IsKept plan journal → LastKeyed plan journal
all_last_keyed plan runs journal kept = each_kept plan (LastKeyed plan) (λ before entry one was. last_keyed plan runs before entry one was) journal kept (none_begins plan)

-- *What is found is keyed.*
pub found_is_keyed : FoundIsKeyed
found_is_keyed plan run work runs serial tries kept off phase found stored =
    let row : KeyedRow plan stored.row = all_last_keyed plan runs run kept stored.row (sym (checkpoints_exist plan run work runs serial tries kept off phase) ∙ stored.stored) in
    same_row_keyed plan row.position found.position row.reach found.reach stored.row row.is (read_has_row stored.row found stored.read) row.keyed
