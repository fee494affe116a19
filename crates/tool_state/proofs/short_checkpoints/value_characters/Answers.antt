use Rattle.std.proofs.Common.{◌≡◌, ℕ, ◌+◌, List, sym, ap, ◌∙◌}
use Rattle.std.specs.Prelude.{min}
use Rattle.std.specs.List.{flat_map}
use Rattle.base_values.specs.declared.value.Value.{Value}
use Rattle.base_values.specs.Literals.{escaped, hexadecimal, printed}
use Rattle.base_values.specs.StoredValues.{character_count}
use Rattle.tool_state.proofs.Characters.{null_count, text_count, blob_count, added}
use Rattle.tool_state.proofs.short_checkpoints.value_characters.Goals as goal

pub returns-in-Null : goal.returns-in-Null
returns-in-Null c = sym (ap (λ (n : ℕ). min n 18446744073709551615) (ap (λ (value : Value). character_count (printed value)) c.in-Null.is ∙ null_count))

pub returns-in-Text : goal.returns-in-Text
returns-in-Text c =
    let bytes : c.as_bytes.result.now ≡ c.in-Text.text = c.as_bytes.ensures.value ∙ c.as_str.ensures in
    c.saturating_add.ensures
    ∙ added c.text_characters.result (character_count (flat_map escaped c.as_bytes.result.now)) 2 (character_count (printed c.args.value.now)) 18446744073709551615 c.text_characters.ensures
    (ap (λ (value : Value). character_count (printed value)) c.in-Text.is ∙ text_count c.in-Text.text ∙ ap (λ (text : List ℕ). character_count (flat_map escaped text) + 2) (sym bytes))

pub returns-in-Blob : goal.returns-in-Blob
returns-in-Blob c =
    c.saturating_add-in-Blob.ensures
    ∙ added c.byte_characters.result (character_count (flat_map hexadecimal c.as_slice.result.now)) 3 (character_count (printed c.args.value.now)) 18446744073709551615 c.byte_characters.ensures
    (ap (λ (value : Value). character_count (printed value)) c.in-Blob.is ∙ blob_count c.in-Blob.bytes ∙ ap (λ (bytes : List ℕ). character_count (flat_map hexadecimal bytes) + 3) (sym c.as_slice.ensures))
