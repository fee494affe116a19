use Rattle.std.proofs.Common.{◌≡◌, ◌++◌, ◌^◌, ◌-◌, take}
use Rattle.std.specs.Prelude.{min, codes}
use Rattle.std.specs.List.{flat_map}
use Rattle.base_values.specs.Literals.{printed}
use Rattle.base_values.specs.StoredValues.{character_count}
use Rattle.tool_state.proofs.short_checkpoints.following_characters.Given as goal

-- the values so far are counted
abbrev pub invariant-loop-value : goal.invariant-loop-value
invariant-loop-value l = l.count ≡ min (character_count (flat_map (λ next. codes ", " ++ printed next) (take l.value-index l.values))) (2 ^ 64 - 1)
