use Rattle.std.proofs.Common.{◌≡◌, ◌∷◌, sym, ◌∙◌}
use Rattle.base_values.specs.GhoSchema.Rows.{key_of, key_places}
use Rattle.server_api.proofs.PagedAnswers.LastRows.{ends_are}
use Rattle.server_api.proofs.paged_answers.chunk.ends_of.Goals as goal

pub returns : goal.returns
returns c =
    let table = c.args.table.now.table in
    let is : c.args.table.now.table.rows ≡ c.in-Some.least.now ∷ c.next.new.self = sym c.rows-rows.ensures ∙ c.in-Some.ensures.steps in
    let least : c.in_ok-key_of.field-0 ≡ key_of (key_places c.args.table.now.table.schema) c.in-Some.least.now = rw (c.key_places-places.ensures, c.schema.ensures.schema, c.as_slice.ensures) at c.in_ok-key_of.ensures in
    let greatest : c.in_ok-key_of-2.field-0 ≡ key_of (key_places c.args.table.now.table.schema) c.in-Some-greatest_row.greatest.now =
    rw (c.key_places-places.ensures, c.schema.ensures.schema, c.as_slice-2.ensures) at c.in_ok-key_of-2.ensures in
    ends_are (key_places table.schema) table.rows c.next.new.self c.in-Some.least.now c.in-Some-greatest_row.greatest.now c.in_ok-key_of.field-0 c.in_ok-key_of-2.field-0 is c.in-Some-greatest_row.ensures least greatest
