use Rattle.std.proofs.Common.{◌++◌, ap, ◌∙◌}
use Rattle.std.specs.List.{flat_map}
use Rattle.std.specs.Prelude.{encode_utf8}
use Rattle.base_values.specs.Literals.{escaped}
use Rattle.base_values.proofs.Escapes.{flat_map-one_more}
use Rattle.base_values.proofs.printer.quoted_text.Goals as goal

pub loop-character-preserved : goal.loop-character-preserved
loop-character-preserved c =
    rw (flat_map-one_more escaped c.loop-character.yielded c.in-Some.character) (c.in_ok-push_escaped.ensures ∙ ap (λ text. text ++ flat_map escaped (encode_utf8 c.in-Some.character)) c.loop-character.invariant)
