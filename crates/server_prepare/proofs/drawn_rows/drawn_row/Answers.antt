use Rattle.std.proofs.Common.{◌≡◌, ◌==◌, Bool, List, Option, Some, Ok, IfOk, Result, slice_get, sym, ap, ◌∙◌, subst}
use Rattle.std.specs.List.{list_any}
use Rattle.base_values.specs.declared.gho_schema.schema.Column.{Column}
use Rattle.base_values.specs.declared.value.Value.{Value}
use Rattle.base_values.specs.GhoSchema.AutoIncrement.{auto_place}
use Rattle.server_model.specs.declared.answer.Answer.{Answer}
use Rattle.server_model.specs.Checks.{names_filled, places_listed}
use Rattle.server_prepare.proofs.DrawnRows.{filled_row}
use Rattle.server_prepare.proofs.drawn_rows.drawn_row.Goals as goal

pub returns : goal.returns
returns c =
    let listed : places_listed c.args.schema.now c.args.names.now ≡ Ok c.in-Ok.places = sym c.in_ok-places.ensures ∙ c.in-Ok.is in
    let auto : auto_place c.args.schema.now ≡ Some c.in-Some-auto_place.place = sym c.auto_place.ensures ∙ c.in-Some-auto_place.is in
    let named : c.is_among-named.result ≡ list_any (λ other. c.in-Some-auto_place.place == other) c.in-Ok.places = rw c.as_slice.ensures at c.is_among-named.ensures in
    subst (λ (r : Result (List Value) Answer). IfOk c.new_row-2.result (λ row. row ≡ r))
    (filled_row c.args.schema.now c.args.names.now c.in_ok-filled.filled c.args.values.now c.in_ok-values.values c.args.drawn c.in-Some.number c.in-Some-auto_place.place c.in-Ok.places c.in-Some.is auto listed
    (c.in_ok-filled.ensures
    ∙ (ap (λ (column : Option Column). names_filled column c.is_among-named.result c.args.names.now) c.column_at.ensures
    ∙ ap (λ (b : Bool). names_filled (slice_get c.args.schema.now.columns c.in-Some-auto_place.place) b c.args.names.now) named))
    (rw c.as_slice-2.ensures at c.in_ok-values.ensures))
    (rw c.as_slice-3.ensures at c.new_row-2.ensures)
