use Rattle.std.proofs.Common.{◌∙◌}
use Rattle.base_values.specs.Literals.{escaped}
use Rattle.tool_state.proofs.Characters.{none, walked}
use Rattle.tool_state.proofs.short_checkpoints.text_characters.Goals as goal

pub loop-byte-init : goal.loop-byte-init
loop-byte-init c = none 18446744073709551615

pub loop-byte-preserved : goal.loop-byte-preserved
loop-byte-preserved c =
    c.saturating_add-count.ensures ∙ walked escaped c.args.text.now c.loop-byte.byte-index 0 c.loop-byte.count c.escaped_characters.result 18446744073709551615 c.loop-byte-test.true c.loop-byte.invariant c.escaped_characters.ensures
