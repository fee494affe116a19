use Rattle.std.proofs.Common.{◌≡◌, ◌∷◌, List, sym, ap, ◌∙◌}
use Rattle.base_values.specs.declared.gho_schema.schema.Schema.{Schema}
use Rattle.base_values.specs.GhoSchema.Rows.{key_places}
use Rattle.table_store.proofs.Orders.{Row}
use Rattle.run_rebuild.specs.Steps.{replaced, replaced_all}
use Rattle.run_rebuild.proofs.Unions.{all_replaced, one_replaced}
use Rattle.run_rebuild.proofs.union.put_rows.Goals as goal

pub loop-row-preserved : goal.loop-row-preserved
loop-row-preserved c =
    let places = key_places c.args.into.now.table.schema in
    let here : c.loop-row.row-iterator ≡ c.in_ok-copy.field-0 ∷ c.next.new.self = c.in-Some.ensures.steps ∙ ap (λ (r : Row). r ∷ c.next.new.self) (sym c.in_ok-copy.ensures) in
    record {
      schema = c.in_ok-replace.ensures.schema ∙ c.loop-row.invariant.schema;
      rows = ap (replaced_all places c.next.new.self) (c.in_ok-replace.ensures.ok ∙ ap (λ (s : Schema). replaced (key_places s) c.in_ok-copy.field-0 c.loop-row.into.table.rows) c.loop-row.invariant.schema)
          ∙ one_replaced places c.in_ok-copy.field-0 c.next.new.self c.loop-row.into.table.rows
          ∙ ap (λ (rows : List Row). replaced_all places rows c.loop-row.into.table.rows) (sym here)
          ∙ c.loop-row.invariant.rows;
    }

pub returns-clause-rows : goal.returns-clause-rows
returns-clause-rows c =
    all_replaced (key_places c.args.into.now.table.schema) c.loop-row.row-iterator c.loop-row.into.table.rows c.in-None.ensures.steps.0 ∙ c.loop-row.invariant.rows
