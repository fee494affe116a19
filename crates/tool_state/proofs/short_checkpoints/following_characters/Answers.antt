use Rattle.std.proofs.Common.{◌≡◌, ◌++◌, ap, ◌∙◌}
use Rattle.std.specs.Prelude.{min, codes}
use Rattle.base_values.specs.declared.value.Value.{Value}
use Rattle.base_values.specs.Literals.{printed}
use Rattle.base_values.specs.StoredValues.{character_count}
use Rattle.tool_state.proofs.Characters.{none, following_count, added, walked_far}
use Rattle.tool_state.proofs.short_checkpoints.following_characters.Goals as goal

pub loop-value-init : goal.loop-value-init
loop-value-init c = none 18446744073709551615

pub loop-value-preserved : goal.loop-value-preserved
loop-value-preserved c =
    let value = c.value-item.result in
    let own : c.saturating_add-own.result ≡ min (character_count (codes ", " ++ printed value)) 18446744073709551615 =
    c.saturating_add-own.ensures ∙ added c.value_characters.result (character_count (printed value)) 2 (character_count (codes ", " ++ printed value)) 18446744073709551615 c.value_characters.ensures (following_count value) in
    c.saturating_add-count.ensures
    ∙ walked_far (λ (next : Value). codes ", " ++ printed next) c.args.values.now c.loop-value.value-index value c.loop-value.count c.saturating_add-own.result 18446744073709551615 c.loop-value-test.true c.loop-value.invariant
    (own ∙ ap (λ (next : Value). min (character_count (codes ", " ++ printed next)) 18446744073709551615) c.value-item.is)
