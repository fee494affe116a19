use Rattle.std.proofs.Common.{◌≡◌, ◌^◌, ◌-◌, take}
use Rattle.std.specs.Prelude.{min}
use Rattle.std.specs.List.{flat_map}
use Rattle.base_values.specs.Literals.{escaped}
use Rattle.base_values.specs.StoredValues.{character_count}
use Rattle.tool_state.proofs.short_checkpoints.text_characters.Given as goal

-- the bytes so far are counted
abbrev pub invariant-loop-byte : goal.invariant-loop-byte
invariant-loop-byte l = l.count ≡ min (character_count (flat_map escaped (take l.byte-index l.text))) (2 ^ 64 - 1)
