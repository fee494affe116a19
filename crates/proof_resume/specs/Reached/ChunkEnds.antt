-- *Where chunks end*: at the greatest key of the range, or above the chunk's low end.
use Rattle.std.specs.Prelude.{◌≡◌, ◌⊎◌, true, List, Some}
use Rattle.base_values.specs.declared.span.Bound.{Bound}
use Rattle.base_values.specs.Spans.{above}
use Rattle.server_model.specs.declared.entry.Entry.{Entry}
use Rattle.server_model.specs.Entries.{answer_at}
use Rattle.server_model.specs.EarlierAnswers.{end_in}
use Rattle.tool_program.specs.declared.chunk_copier.copier.Copier.{Copier}
use Rattle.tool_program.specs.declared.chunk_copier.copier.CopyRange.{CopyRange}
use Rattle.tool_program.specs.declared.chunk_copier.copier.CopyStep.{CopyStep}
use Rattle.tool_program.specs.declared.chunk_copier.copier.CopyStep.TheVariants.{Choosing, Spanning, Copying, Committing}
use Rattle.tool_program.specs.ChunkCopier.Copiers.{low_end}
use Rattle.proof_journals.specs.Ghost.Rows.Moments.{Row}
use Rattle.proof_migration.specs.Migration.Copier.CopierPlace.{AfterReported, StepKnows}

abbrev pub EndIsAbove : Bound → Row → Row → Type 0
EndIsAbove low end top = (end ≡ top) ⊎ (above low end ≡ true)

-- this holds of the end of the chunk, where one was answered, by the chunk's low end and the greatest key of the range
abbrev pub StepHolds : (Bound → Row → Row → Type 0) → List Entry → Copier → CopyRange → CopyStep → Type 0
StepHolds Holds journal copier range Choosing = Unit {0}
StepHolds Holds journal copier range (Spanning reported size) = Holds (low_end journal range copier.following) (end_in (answer_at journal reported)) range.top
StepHolds Holds journal copier range (Copying chunk copied) = Holds (low_end journal range copier.following) (end_in (answer_at journal chunk.reported)) range.top
StepHolds Holds journal copier range (Committing chunk) = Holds (low_end journal range copier.following) (end_in (answer_at journal chunk.reported)) range.top

abbrev pub StepEnds : List Entry → Copier → CopyRange → CopyStep → Type 0
StepEnds journal copier range step = StepHolds EndIsAbove journal copier range step

-- *What the copier recalls*, in a revert too: the turns that it keeps were answered as it says, and its chunk ends so
pub record CopierRecalls (journal : List Entry) (copier : Copier) : Type 0 where
  pub following : AfterReported journal copier.following
  pub step : StepKnows journal copier.range copier.step
  pub ends : (range : CopyRange) → copier.range ≡ Some range → StepEnds journal copier range copier.step
