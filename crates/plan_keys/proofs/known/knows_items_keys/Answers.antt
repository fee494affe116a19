use Rattle.std.proofs.Common.{rules, tests, sym, ◌∙◌}
use Rattle.std.proofs.lemmas.Iterator.{YieldsList-from_slice}
use Rattle.std.proofs.lemmas.Iterator.Search.{all_from_yields_List}
use Rattle.toml.specs.declared.value.Value.{Value}
use Rattle.toml.specs.Data.{Data, as_table}
use Rattle.toml.specs.View.{view}
use Rattle.plan_keys.specs.Known.{is_table_key, all_pass}
use Rattle.plan_keys.proofs.Walks.{all_items-view}
use Rattle.plan_keys.proofs.known.knows_items_keys.Goals as goal

pub returns : goal.returns
returns c =
    all_from_yields_List (λ (value : Value). all_pass is_table_key (as_table (view value))) _ _ _ c.all.ensures.ran (YieldsList-from_slice c.args.items.now cc) (λ x b q k. search (rules, tests))
    ∙ sym (all_items-view (λ (value : Data). all_pass is_table_key (as_table value)) c.args.items.now)
