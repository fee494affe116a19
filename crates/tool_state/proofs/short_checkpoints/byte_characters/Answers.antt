use Rattle.std.proofs.Common.{w8, sym, ◌∙◌}
use Rattle.std.proofs.Math.Facts.{Fits-lt-pow}
use Rattle.std.specs.Prelude.{slice_index_or}
use Rattle.base_values.specs.Literals.{hexadecimal}
use Rattle.tool_state.proofs.Characters.{none, hexadecimal_count, walked}
use Rattle.tool_state.proofs.short_checkpoints.byte_characters.Goals as goal

pub loop-byte-init : goal.loop-byte-init
loop-byte-init c = none 18446744073709551615

pub loop-byte-preserved : goal.loop-byte-preserved
loop-byte-preserved c =
    c.saturating_add-count.ensures ∙ walked hexadecimal c.args.bytes.now c.loop-byte.byte-index 0 c.loop-byte.count 2 18446744073709551615 c.loop-byte-test.true c.loop-byte.invariant (sym (hexadecimal_count (slice_index_or c.args.bytes.now c.loop-byte.byte-index 0) (Fits-lt-pow {w = w8} (c.type_inv.bytes c.loop-byte.byte-index))))
