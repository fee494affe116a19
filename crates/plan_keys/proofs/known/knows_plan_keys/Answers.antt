use Rattle.std.proofs.Common.{rules, tests, string_bytes, String, Global, ◌∙◌}
use Rattle.std.proofs.lemmas.Iterator.Consumers.{YieldsList-from_rest}
use Rattle.std.proofs.lemmas.Iterator.Search.{all_from_yields_List}
use Rattle.std.specs.BTreeMap.{keys}
use Rattle.plan_keys.specs.Known.{is_plan_key}
use Rattle.plan_keys.proofs.Walks.{all_keys-map}
use Rattle.plan_keys.proofs.known.knows_plan_keys.Goals as goal

pub returns : goal.returns
returns c =
    all_from_yields_List (λ (key : String Global). is_plan_key (string_bytes key)) _ _ _ c.all.ensures.ran (YieldsList-from_rest (keys c.args.table.now) c.keys.ensures.rest) (λ x b q k. search (rules, tests))
    ∙ all_keys-map is_plan_key c.args.table.now
