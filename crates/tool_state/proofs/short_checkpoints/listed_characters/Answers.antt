use Rattle.std.proofs.Common.{◌≡◌, ◌-◌, List, ◌∷◌, length, take, drop, ap, ◌∙◌}
use Rattle.base_values.specs.declared.value.Value.{Value}
use Rattle.base_values.specs.Literals.{listed}
use Rattle.base_values.specs.StoredValues.{character_count}
use Rattle.tool_state.proofs.Characters.{joined, listed_count, first_and_rest}
use Rattle.tool_state.proofs.short_checkpoints.listed_characters.Goals as goal

pub returns-in-len1-up : goal.returns-in-len1-up
returns-in-len1-up c =
    let values = c.args.values.now in
    let rest = take (length values - 1) (drop 1 values) in
    let whole : values ≡ c.first-item.result ∷ rest = first_and_rest values c.first-item.result c.in-len1-up.len_at_least c.first-item.is in
    c.saturating_add.ensures
    ∙ joined c.value_characters.result _ c.following_characters.result _ (character_count (listed values)) 18446744073709551615 c.value_characters.ensures c.following_characters.ensures
    (ap (λ (row : List Value). character_count (listed row)) whole ∙ listed_count c.first-item.result rest)
