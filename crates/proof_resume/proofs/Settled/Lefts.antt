-- What the copier has left is read off its range and the last chunk that was committed, whatever its step is.
use Rattle.std.proofs.Common.{◌≡◌, ℕ, Bool, true, false, cond, List, ◌++◌, Option, Some, None, refl, sym, ap, ◌∙◌}
use Rattle.base_values.specs.declared.span.Bound.{Bound}
use Rattle.base_values.specs.declared.span.Bound.TheVariants.{Closed}
use Rattle.base_values.specs.declared.span.Span.{Span}
use Rattle.server_model.specs.declared.entry.Entry.{Entry}
use Rattle.tool_program.specs.declared.chunk_copier.copier.Copier.{Copier}
use Rattle.tool_program.specs.declared.chunk_copier.copier.CopyRange.{CopyRange}
use Rattle.tool_program.specs.declared.chunk_copier.copier.CopyStep.{CopyStep}
use Rattle.tool_program.specs.declared.chunk_copier.copier.CopyStep.TheVariants.{Choosing, Spanning, Copying, Committing}
use Rattle.tool_program.specs.ChunkCopier.Copiers.{low_end, resized}
use Rattle.proof_journals.specs.Ghost.Tool.CopyState.{Waiting}
use Rattle.proof_migration.specs.Migration.Copier.CopierPlace.{AfterReported, copy_state, state_at_step, state_in}
use Rattle.proof_migration.proofs.Migration.Copier.Knowing.{low_more}
use Rattle.proof_resume.specs.Reached.Coverage.{left_in}

abbrev left_if : List Entry → Bool → Option CopyRange → Option ℕ → Option Span
left_if journal true range following = None
left_if journal false None following = None
left_if journal false (Some range) following = Some (record { low = low_end journal range following; high = Closed range.top })

left_step : (journal : List Entry) (copier : Copier) (range : CopyRange) (step : CopyStep) → left_in (state_at_step journal copier range step) ≡ left_if journal false (Some range) copier.following
left_step journal copier range Choosing = refl
left_step journal copier range (Spanning reported size) = refl
left_step journal copier range (Copying chunk copied) = refl
left_step journal copier range (Committing chunk) = refl

left_range : (journal : List Entry) (copier : Copier) (range : Option CopyRange) → left_in (state_in journal copier range) ≡ left_if journal false range copier.following
left_range journal copier None = refl
left_range journal copier (Some range) = left_step journal copier range copier.step

left_is : (journal : List Entry) (copier : Copier) → left_in (copy_state journal copier) ≡ left_if journal copier.is_copied copier.range copier.following
left_is journal copier = by copier.is_copied where
  by : (b : Bool) → left_in (cond b (Waiting None) (state_in journal copier copier.range)) ≡ left_if journal b copier.range copier.following
  by true = refl
  by false = left_range journal copier copier.range

longer_if : (journal more : List Entry) (b : Bool) (range : Option CopyRange) (following : Option ℕ) → AfterReported journal following → left_if (journal ++ more) b range following ≡ left_if journal b range following
longer_if journal more true range following known = refl
longer_if journal more false None following known = refl
longer_if journal more false (Some range) following known = ap (λ (low : Bound). Some (record { low = low; high = Closed range.top })) (low_more journal more range following known)

-- more turns leave as much
pub left_longer : (journal more : List Entry) (copier : Copier) → AfterReported journal copier.following → left_in (copy_state (journal ++ more) copier) ≡ left_in (copy_state journal copier)
left_longer journal more copier known = left_is (journal ++ more) copier ∙ longer_if journal more copier.is_copied copier.range copier.following known ∙ sym (left_is journal copier)

-- so does another size of chunks
pub left_resized : (journal : List Entry) (copier : Copier) (size : ℕ) → left_in (copy_state journal (resized size copier)) ≡ left_in (copy_state journal copier)
left_resized journal copier size = left_is journal (resized size copier) ∙ sym (left_is journal copier)
