use Rattle.std.proofs.Common.{ℕ, sym, ap, ◌∙◌}
use Rattle.std.specs.Prelude.{min}
use Rattle.base_values.specs.StoredValues.{character_count}
use Rattle.tool_changelog.specs.Checkpoints.{reach_text}
use Rattle.tool_program.specs.declared.chunk_copier.reach.ReachView.{ReachView}
use Rattle.tool_program.specs.ChunkCopier.Reaches.{reach_meant}
use Rattle.tool_state.proofs.Characters.{dash, star}
use Rattle.tool_state.proofs.short_checkpoints.reach_characters.Goals as goal

pub returns-in-Nothing : goal.returns-in-Nothing
returns-in-Nothing c = sym (ap (λ (n : ℕ). min n 18446744073709551615) (ap (λ (reach : ReachView). character_count (reach_text (reach_meant reach))) c.in-Nothing.is ∙ dash))

pub returns-in-All : goal.returns-in-All
returns-in-All c = sym (ap (λ (n : ℕ). min n 18446744073709551615) (ap (λ (reach : ReachView). character_count (reach_text (reach_meant reach))) c.in-All.is ∙ star))
