use Rattle.std.proofs.Common.{rules, tests, string_bytes, String, Global, ◌∙◌}
use Rattle.std.proofs.lemmas.Iterator.Consumers.{YieldsList-from_rest}
use Rattle.std.proofs.lemmas.Iterator.Search.{all_from_yields_List}
use Rattle.std.specs.BTreeMap.{keys}
use Rattle.plan_keys.specs.Known.{is_option_key}
use Rattle.plan_keys.proofs.Walks.{all_keys-map}
use Rattle.plan_keys.proofs.known.knows_option_keys.Goals as goal

pub returns-in-Some : goal.returns-in-Some
returns-in-Some c =
    rw c.in-Some.is (all_from_yields_List (λ (key : String Global). is_option_key c.args.first (string_bytes key)) _ _ _ c.all.ensures.ran (YieldsList-from_rest (keys c.in-Some.table.now) c.keys.ensures.rest) (λ x b q k. search (rules, tests))
    ∙ all_keys-map (is_option_key c.args.first) c.in-Some.table.now)
