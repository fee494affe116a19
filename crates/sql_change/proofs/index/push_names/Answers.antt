use Rattle.std.proofs.Common.{◌++◌, List, ℕ, sym, ap, ◌∙◌, append_assoc, take}
use Rattle.std.specs.Prelude.{option_to_list}
use Rattle.std.specs.List.{filter_map}
use Rattle.base_values.specs.declared.gho_schema.schema.Index.{Index}
use Rattle.base_values.proofs.SchemaRules.Loops.{filter_map-up_to_here}
use Rattle.sql_change.proofs.index.push_names.Goals as goal

pub loop-index-preserved : goal.loop-index-preserved
loop-index-preserved c =
    rw (c.in_ok-push_name.ensures, c.loop-index.invariant)
    (append_assoc c.args.names.now (filter_map (λ (index : Index). index.name) (take c.loop-index.index-index c.args.indexes.now)) (option_to_list c.index-item.result.name)
    ∙ ap (λ (names : List (List ℕ)). c.args.names.now ++ names) (sym (filter_map-up_to_here (λ (index : Index). index.name) c.args.indexes.now c.loop-index.index-index c.index-item.result c.loop-index-test.true c.index-item.is)))
