use Rattle.std.proofs.Common.{rules, tests, sym, ◌∙◌}
use Rattle.std.proofs.lemmas.Iterator.{YieldsList-from_slice}
use Rattle.std.proofs.lemmas.Iterator.Search.{all_from_yields_List}
use Rattle.toml.specs.declared.value.Value.{Value}
use Rattle.toml.specs.Data.{Data, as_table}
use Rattle.toml.specs.View.{view}
use Rattle.plan_keys.specs.Known.{has_create}
use Rattle.plan_keys.proofs.Walks.{all_items-view}
use Rattle.plan_keys.proofs.known.have_create.Goals as goal

pub returns : goal.returns
returns c =
    all_from_yields_List (λ (value : Value). has_create (as_table (view value))) _ _ _ c.all.ensures.ran (YieldsList-from_slice c.args.items.now cc) (λ x b q k. search (rules, tests))
    ∙ sym (all_items-view (λ (value : Data). has_create (as_table value)) c.args.items.now)
