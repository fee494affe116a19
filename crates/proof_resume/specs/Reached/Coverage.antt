-- *What a checkpoint covers*: where its position and its reach are behind those of the tool, a new tool may go on from them.
use Rattle.std.specs.Prelude.{◌≡◌, ◌≤◌, ℕ, true, Option, Some}
use Rattle.std.specs.Ordering.{is_le}
use Rattle.base_values.specs.KeyOrder.{compare_keys}
use Rattle.base_values.specs.declared.span.Bound.TheVariants.{Closed}
use Rattle.base_values.specs.declared.span.Span.{Span}
use Rattle.tool_changelog.specs.declared.checkpoint.Reach.{Reach}
use Rattle.tool_changelog.specs.declared.checkpoint.Reach.TheVariants.{Nothing, To, All}
use Rattle.tool_notes.specs.declared.checkpoint.Checkpoint.{Checkpoint}
use Rattle.proof_journals.specs.Ghost.Rows.Moments.{Row}
use Rattle.proof_journals.specs.Ghost.Rows.Views.{is_done}
use Rattle.proof_journals.specs.Ghost.Tool.{CopyState}
use Rattle.proof_journals.specs.Ghost.Tool.CopyState.{Waiting, Taking}

-- what is left to copy, where no chunk is open; an open chunk is left
abbrev pub left_in : CopyState → Option Span
left_in (Waiting left) = left
left_in (Taking low high top keys copied) = Some (record { low = low; high = Closed top })

-- each key up to the reach is copied
abbrev pub Covers : Reach → Option Span → Type 0
Covers Nothing left = Unit {0}
Covers (To reach) left = (key : Row) → is_le (compare_keys key reach) ≡ true → is_done left key ≡ true
Covers All left = (key : Row) → is_done left key ≡ true

-- *Behind the tool*: a checkpoint is behind a tool that has read the log up to this position and has this span left to copy
pub record IsBehindTool (found : Checkpoint) (position : ℕ) (left : Option Span) : Type 0 where
  pub behind : found.position ≤ position
  pub covered : Covers found.reach left
