use Rattle.std.proofs.Common.{◌≡◌, [], drop, sym, ap, ◌∙◌}
use Rattle.std.proofs.lemmas.List.{nil_from_length}
use Rattle.server_model.specs.Checks.{beside}
use Rattle.server_prepare.proofs.Beside.{none_beside}
use Rattle.server_prepare.proofs.columns.beside.Goals as goal

pub returns-in_default : goal.returns-in_default
returns-in_default c =
    let none : c.loop-other.rest.now ≡ [] = nil_from_length c.loop-other.rest.now c.in_default.ensures.cases in
    sym (ap (beside c.args.place (drop c.loop-other.other-index c.args.places.now)) none ∙ none_beside c.args.place (drop c.loop-other.other-index c.args.places.now)) ∙ c.loop-other.invariant
