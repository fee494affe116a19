use Rattle.std.proofs.Common.{◌≡◌, Bool, true, false, List, [], ◌∷◌, cond, sym, ap, ◌∙◌, subst}
use Rattle.std.specs.Prelude.{ℕ, IfOk}
use Rattle.base_values.specs.GhoSchema.Rows.{key_of}
use Rattle.base_values.specs.GhoSchema.Tables.{no_null}
use Rattle.table_store.proofs.Orders.{Row}
use Rattle.server_seen.proofs.MetRows.{if_whole, row_under}
use Rattle.server_seen.proofs.met_rows.row_at.Goals as goal

pub returns-in_default : goal.returns-in_default
returns-in_default c =
    let index = c.args.index.now in
    c.new.ensures ∙ sym (row_under c.args.table.now.table index c.args.key.now c.requires c.schema-schema.ensures.ascends ∙ ap (if_whole index.places) (sym c.in_default.ensures))

pub returns-then-has_no_null : goal.returns-then-has_no_null
returns-then-has_no_null c =
    let index = c.args.index.now in
    let row = c.in-Some.row.now in
    let whole : no_null (key_of index.places row) ≡ true =
    ap (λ (ps : List ℕ). no_null (key_of ps row)) (sym c.as_slice.ensures) ∙ ap (λ (r : Row). no_null (key_of c.as_slice.result.now r)) (sym c.as_slice-2.ensures) ∙ sym c.has_no_null.ensures ∙ c.if-has_no_null.true in
    subst (λ (rs : List Row). IfOk c.one_row.result (λ rows. rows ≡ rs))
    (sym (row_under c.args.table.now.table index c.args.key.now c.requires c.schema-schema.ensures.ascends ∙ ap (if_whole index.places) (sym c.in-Some.ensures) ∙ ap (λ (b : Bool). cond b (row ∷ []) []) whole))
    c.one_row.ensures

pub returns-else-has_no_null : goal.returns-else-has_no_null
returns-else-has_no_null c =
    let index = c.args.index.now in
    let row = c.in-Some.row.now in
    let null : no_null (key_of index.places row) ≡ false =
    ap (λ (ps : List ℕ). no_null (key_of ps row)) (sym c.as_slice.ensures) ∙ ap (λ (r : Row). no_null (key_of c.as_slice.result.now r)) (sym c.as_slice-2.ensures) ∙ sym c.has_no_null.ensures ∙ c.if-has_no_null.false in
    c.new-else-has_no_null.ensures
    ∙ sym (row_under c.args.table.now.table index c.args.key.now c.requires c.schema-schema.ensures.ascends ∙ ap (if_whole index.places) (sym c.in-Some.ensures) ∙ ap (λ (b : Bool). cond b (row ∷ []) []) null)
