use Rattle.std.proofs.Common.{◌≡◌, List, [], drop, subst}
use Rattle.std.specs.Prelude.{pos, IfOk}
use Rattle.std.proofs.lemmas.List.{nil_from_length}
use Rattle.base_values.specs.declared.value.Value.{Value}
use Rattle.base_values.specs.declared.value.Value.TheVariants.{Num}
use Rattle.server_model.specs.Checks.{value_set}
use Rattle.server_prepare.proofs.DrawnRows.{set_all}
use Rattle.server_prepare.proofs.drawn_rows.value_set.Goals as goal

pub returns-in_default : goal.returns-in_default
returns-in_default c =
    let none : c.loop-other.rest.now ≡ [] = nil_from_length c.loop-other.rest.now c.in_default.ensures.cases in
    subst (λ (values : List Value). IfOk c.from_sequence.result (λ row. row ≡ values))
    (set_all c.args.place (drop c.loop-other.other-index c.args.places.now) (Num (pos c.args.number)) c.loop-other.row c.loop-other.rest.now (value_set c.args.place c.args.places.now (Num (pos c.args.number)) c.args.values.now) none c.loop-other.invariant)
    c.from_sequence.ensures
