use Rattle.std.proofs.Common.{◌≡◌, [], drop}
use Rattle.std.proofs.lemmas.List.{nil_from_length}
use Rattle.server_model.specs.Checks.{wanted_each}
use Rattle.server_prepare.proofs.Beside.{wanted_all}
use Rattle.server_prepare.proofs.keys.wanted_each.Goals as goal

pub returns-in_default : goal.returns-in_default
returns-in_default c =
    let none : c.loop-place.rest.now ≡ [] = nil_from_length c.loop-place.rest.now c.in_default.ensures.cases in
    wanted_all c.args.schema.now (drop c.loop-place.place-index c.args.places.now) c.loop-place.sought c.loop-place.rest.now (wanted_each c.args.schema.now c.args.places.now c.args.values.now) none c.loop-place.invariant
