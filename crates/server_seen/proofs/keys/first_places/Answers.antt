use Rattle.std.proofs.Common.{◌∷◌, ◌++◌, [], ap, ◌∙◌}
use Rattle.server_seen.proofs.KeyTables.{counted-next}
use Rattle.server_seen.proofs.keys.first_places.Goals as goal

pub loop-place-preserved : goal.loop-place-preserved
loop-place-preserved c =
    c.in_ok-push.ensures.ok ∙ ap (λ places. places ++ c.loop-place.place ∷ []) c.loop-place.invariant ∙ counted-next c.loop-place.place
