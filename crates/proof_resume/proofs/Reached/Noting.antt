-- A checkpoint is behind the tool when it is written, and after each turn of a run.
use Rattle.std.proofs.Common.{◌≡◌, ℕ, Bool, true, false, cond, [], ◌∷◌, ◌++◌, Option, Some, None, refl, sym, subst, arith}
use Rattle.base_values.specs.declared.span.Bound.TheVariants.{Closed}
use Rattle.server_model.specs.EarlierAnswers.{end_in}
use Rattle.server_model.specs.Entries.{answer_at}
use Rattle.tool_changelog.specs.declared.checkpoint.Reach.{Reach}
use Rattle.tool_changelog.specs.declared.checkpoint.Reach.TheVariants.{Nothing, To, All}
use Rattle.tool_program.specs.declared.chunk_copier.copier.CopyRange.{CopyRange}
use Rattle.tool_program.specs.declared.chunk_copier.copier.CopyStep.{CopyStep}
use Rattle.tool_program.specs.declared.chunk_copier.copier.CopyStep.TheVariants.{Choosing, Spanning, Copying, Committing}
use Rattle.tool_program.specs.ChunkCopier.Copiers.{low_end}
use Rattle.tool_program.specs.Programs.{reach_after}
use Rattle.proof_journals.specs.Ghost.Tool.{CopyState}
use Rattle.proof_journals.specs.Ghost.Tool.CopyState.{Waiting}
use Rattle.proof_migration.specs.Migration.Copier.CopierPlace.{copy_state, state_at_step}
use Rattle.proof_migration.proofs.Migration.Copier.Chunks.{taking_state}
use Rattle.proof_resume.specs.Reached.Coverage.{Covers, left_in}
use Rattle.proof_resume.specs.Reached.Laws.{CheckpointsStay, NotesAreBehind}
use Rattle.proof_resume.proofs.Reached.Coverage.{reaches_cover, stays_behind}
use Rattle.proof_resume.proofs.Reached.Copying.{reaches_rise}
use Rattle.proof_resume.proofs.Reached.Rising.{positions_rise}

all_covered : (reach : Reach) → Covers reach None
all_covered Nothing = tt
all_covered (To key) = λ other within. refl
all_covered All = λ other. refl

covers_state : (reach : Reach) (one other : CopyState) → one ≡ other → Covers reach (left_in other) → Covers reach (left_in one)
covers_state reach one other same covers = subst (λ (s : CopyState). Covers reach (left_in s)) (sym same) covers

-- *Notes are behind.*
pub notes_are_behind : NotesAreBehind
notes_are_behind journal copier position = record { behind = omega arith; covered = by copier.is_copied refl } where
  behind_so : (reported : Option ℕ) → copier.following ≡ reported → (range : CopyRange) → copier.range ≡ Some range → copier.is_copied ≡ false → Covers (reach_after journal reported) (left_in (copy_state journal copier))
  behind_so None at range is going = tt
  behind_so (Some reported) at range is going =
      covers_state (To (end_in (answer_at journal reported))) (copy_state journal copier) (state_at_step journal copier range copier.step) (taking_state journal copier range copier.step is going refl) (by_step copier.step)
    where
      here : Covers (To (end_in (answer_at journal reported))) (Some (record { low = low_end journal range copier.following; high = Closed range.top }))
      here = subst (λ (b : Option ℕ). Covers (To (end_in (answer_at journal reported))) (Some (record { low = low_end journal range b; high = Closed range.top }))) (sym at) (reaches_cover.0 (end_in (answer_at journal reported)) range.top)

      by_step : (step : CopyStep) → Covers (To (end_in (answer_at journal reported))) (left_in (state_at_step journal copier range step))
      by_step Choosing = here
      by_step (Spanning turn size) = here
      by_step (Copying chunk copied) = here
      by_step (Committing chunk) = here

  ranged : (range : Option CopyRange) → copier.range ≡ range → copier.is_copied ≡ false → Covers (reach_after journal copier.following) (left_in (copy_state journal copier))
  ranged None is going = covers_state (reach_after journal copier.following) (copy_state journal copier) (Waiting None) (rw (going, is) refl) (all_covered (reach_after journal copier.following))
  ranged (Some range) is going = behind_so copier.following refl range is going

  by : (b : Bool) → copier.is_copied ≡ b → Covers (cond copier.is_copied All (reach_after journal copier.following)) (left_in (copy_state journal copier))
  by true is =
      covers_state (cond copier.is_copied All (reach_after journal copier.following)) (copy_state journal copier) (Waiting None) (rw is refl) (all_covered (cond copier.is_copied All (reach_after journal copier.following)))
  by false is = subst (λ (c : Bool). Covers (cond c All (reach_after journal copier.following)) (left_in (copy_state journal copier))) (sym is) (ranged copier.range refl is)

-- *Checkpoints stay behind the tool.*
pub checkpoints_stay : CheckpointsStay
checkpoints_stay plan m at rows of journal entry work then_work kept off tool_phase then_phase goes recalls found behind =
    stays_behind found work.applier.position then_work.applier.position (left_in (copy_state journal work.copier)) (left_in (copy_state (journal ++ entry ∷ []) then_work.copier))
    (positions_rise plan m at rows of journal entry work then_work kept off tool_phase then_phase goes) (reaches_rise plan m at rows of journal entry work then_work kept off tool_phase then_phase goes recalls).shrinks behind
