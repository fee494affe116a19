use Rattle.std.proofs.Common.{◌≡◌, ◌+◌, ◌∷◌, ◌++◌, [], drop, ap, ◌∙◌}
use Rattle.server_model.specs.Checks.{places_from}
use Rattle.server_prepare.proofs.Placed.{placed_more}
use Rattle.server_prepare.proofs.columns.all_places.Goals as goal

pub loop-place-preserved : goal.loop-place-preserved
loop-place-preserved c =
    let pushed : c.push.new.self ≡ c.loop-place.places ++ c.loop-place.place ∷ [] = c.in_ok-push.ensures.ok in
    ap (λ places. places ++ places_from (c.loop-place.place + 1) (drop (c.loop-place.place + 1) c.args.columns.now)) pushed
    ∙ placed_more c.loop-place.places c.args.columns.now c.loop-place.place c.loop-place-test.true ∙ c.loop-place.invariant
