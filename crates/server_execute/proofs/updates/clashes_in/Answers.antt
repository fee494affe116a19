use Rattle.std.proofs.Common.{◌≡◌, List, ℕ, is_some, ap, ◌∙◌}
use Rattle.base_values.specs.GhoSchema.Rows.{key_of, key_places}
use Rattle.server_execute.proofs.ChangedRows.{clashes_found}
use Rattle.server_execute.proofs.updates.clashes_in.Goals as goal

pub returns-in-Some : goal.returns-in-Some
returns-in-Some c =
    let table = c.args.table.now.table in
    let key : c.in_ok-key.key ≡ key_of (key_places table.schema) c.args.old.now =
    c.in_ok-key.ensures ∙ ap (λ (ps : List ℕ). key_of ps c.as_slice.result.now) (c.key_places.ensures ∙ ap key_places c.schema-schema.ensures.schema) ∙ ap (key_of (key_places table.schema)) c.as_slice.ensures in
    ap is_some c.in-Some.ensures ∙ clashes_found table c.args.new.now c.args.old.now c.in_ok-key.key key c.schema-schema.ensures.ascends c.requires

pub returns : goal.returns
returns c =
    let table = c.args.table.now.table in
    let key : c.in_ok-key.key ≡ key_of (key_places table.schema) c.args.old.now =
    c.in_ok-key.ensures ∙ ap (λ (ps : List ℕ). key_of ps c.as_slice.result.now) (c.key_places.ensures ∙ ap key_places c.schema-schema.ensures.schema) ∙ ap (key_of (key_places table.schema)) c.as_slice.ensures in
    ap is_some c.in-None.ensures ∙ clashes_found table c.args.new.now c.args.old.now c.in_ok-key.key key c.schema-schema.ensures.ascends c.requires
