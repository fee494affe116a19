-- A plan that is read, part by part.
use Rattle.std.proofs.Common.{◌≡◌, ℕ, List, length, Ok, ap, ◌∙◌}
use Rattle.std.specs.Prelude.{nat_lt}
use Rattle.toml.specs.Data.{Members}
use Rattle.base_values.proofs.SchemaRules.Steps.{bind_ok, ok_is, kept_out}
use Rattle.base_script.specs.declared.script.ScriptLine.{ScriptLine}
use Rattle.plan_data.specs.PlanData.{PlanData}
use Rattle.plan_keys.specs.declared.fault.KeyRefusal.TheVariants.{TooMany}
use Rattle.plan_keys.specs.PlanKeys.{KeyData, keys_of}
use Rattle.plan_reader.specs.declared.limits.TheConstants.{PLAN_LIMIT}
use Rattle.plan_reader.specs.declared.fault.PlanRefusal.{PlanRefusal}
use Rattle.plan_reader.specs.declared.fault.PlanRefusal.TheVariants.{TooLong, NotToml, Keys}
use Rattle.plan_reader.specs.Refusals.{of_keys, or_refused}
use Rattle.plan_reader.specs.Openings.{OpeningData, opening_of}
use Rattle.plan_reader.specs.Clients.{clients_of}
use Rattle.plan_reader.specs.Orders.{OrderData, has_many_orders, few_orders, orders_of}
use Rattle.plan_reader.specs.Plans.{plan_of, keys_in, plan_at, document, read}
use Rattle.proof_plans.proofs.ReadPlans.Schemas.Accepted.{past, keys_were}

-- what a plan was read of
pub record IsReadPlan (plan : PlanData) : Type 0 where
  pub members : Members
  pub keys : KeyData
  pub said : keys_of members ≡ Ok keys
  pub opening : OpeningData
  pub opened : opening_of keys ≡ Ok opening
  pub clients : List (List ScriptLine)
  pub scripts : clients_of keys.texts.table keys.texts.clients ≡ Ok clients
  pub orders : OrderData
  pub ordered : orders_of (length clients) keys.texts ≡ Ok orders
  pub same : plan_of keys opening clients orders ≡ plan

keys_are : (members : Members) (keys : KeyData) → keys_in members ≡ Ok keys → keys_of members ≡ Ok keys
unfolding keys_in
keys_are members keys is =
    let said = bind_ok (of_keys (keys_of members)) few_orders keys is in
    let parts = kept_out (has_many_orders said.0.texts) said.0 keys (Keys TooMany) said.2 in
    keys_were (keys_of members) said.0 said.1 ∙ ap (λ (k : KeyData). Ok k) parts.1

document_is : (members : Members) (plan : PlanData) → plan_at members ≡ Ok plan → IsReadPlan plan
unfolding plan_at
document_is members plan is =
    let keys = bind_ok (keys_in members) _ plan is in
    let opening = bind_ok (opening_of keys.0) _ plan keys.2 in
    let clients = bind_ok (clients_of keys.0.texts.table keys.0.texts.clients) _ plan opening.2 in
    let orders = bind_ok (orders_of (length clients.0) keys.0.texts) (λ orders. Ok (plan_of keys.0 opening.0 clients.0 orders)) plan clients.2 in
    record {
      members = members;
      keys = keys.0;
      said = keys_are members keys.0 keys.1;
      opening = opening.0;
      opened = opening.1;
      clients = clients.0;
      scripts = clients.1;
      orders = orders.0;
      ordered = orders.1;
      same = ok_is {C = PlanRefusal} (plan_of keys.0 opening.0 clients.0 orders.0) plan orders.2;
    }

-- *Read plans, part by part*
pub parts_of : (bytes : List ℕ) (plan : PlanData) → read bytes ≡ Ok plan → IsReadPlan plan
unfolding read
parts_of bytes plan is =
    let short = past (nat_lt PLAN_LIMIT (length bytes)) TooLong _ plan is in
    let members = bind_ok (or_refused NotToml (document bytes)) plan_at plan short in
    document_is members.0 plan members.2
