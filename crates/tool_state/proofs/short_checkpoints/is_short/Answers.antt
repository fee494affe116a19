use Rattle.std.proofs.Common.{rules, ◌≡◌, ◌+◌, ◌∙◌, arith}
use Rattle.std.specs.Prelude.{min, pos}
use Rattle.std.specs.Fmt.{signed_decimal}
use Rattle.base_values.specs.StoredValues.{character_count}
use Rattle.tool_changelog.specs.Checkpoints.{checkpoint_text}
use Rattle.tool_program.specs.ChunkCopier.Reaches.{reach_meant}
use Rattle.tool_state.proofs.Characters.{checkpoint_count, added, joined, short_is}
use Rattle.tool_state.proofs.short_checkpoints.is_short.Goals as goal

pub returns : goal.returns
returns c =
    let position = c.args.position in
    let reach = reach_meant c.args.reach in
    let number = character_count (signed_decimal (pos position)) in
    let front : c.saturating_add.result ≡ min (number + 1) 18446744073709551615 =
    c.saturating_add.ensures ∙ added c.number_characters.result number 1 (number + 1) 18446744073709551615 (search rules) (omega arith) in
    short_is position reach c.saturating_add-2.result 18446744073709551615 (omega arith)
    (c.saturating_add-2.ensures ∙ joined c.saturating_add.result (number + 1) c.reach_characters.result _ (character_count (checkpoint_text position reach)) 18446744073709551615 front c.reach_characters.ensures (checkpoint_count position reach))
