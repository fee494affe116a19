-- *Read*: what a plan's bytes say, or the first refusal (the TOML specification; the rest is this project's rule).
use Rattle.std.specs.Prelude.{ℕ, nat_lt, if◌then◌else◌, List, length, Option, None, Result, Ok, Err}
use Rattle.std.specs.Str.{is_utf8}
use Rattle.toml.specs.Data.{Members}
use Rattle.toml.specs.Parse.{parse_document}
use Rattle.base_values.specs.SchemaRules.Results.{◌>>=◌}
use Rattle.base_script.specs.declared.script.ScriptLine.{ScriptLine}
use Rattle.plan_data.specs.PlanData.{PlanData}
use Rattle.plan_keys.specs.PlanKeys.{KeyData, keys_of}
use Rattle.plan_reader.specs.declared.limits.TheConstants.{PLAN_LIMIT}
use Rattle.plan_reader.specs.declared.fault.PlanRefusal.{PlanRefusal}
use Rattle.plan_reader.specs.declared.fault.PlanRefusal.TheVariants.{TooLong, NotToml}
use Rattle.plan_reader.specs.Refusals.{of_keys, or_refused}
use Rattle.plan_reader.specs.Openings.{OpeningData, opening_of}
use Rattle.plan_reader.specs.Clients.{clients_of}
use Rattle.plan_reader.specs.Orders.{OrderData, few_orders, orders_of}

-- the plan of these parts
abbrev pub plan_of : KeyData → OpeningData → List (List ScriptLine) → OrderData → PlanData
plan_of keys opening clients orders = record {
  table = keys.texts.table;
  alter = opening.alter;
  tables = opening.tables;
  clients = clients;
  operator = orders.operator;
  faults = orders.faults;
  turns = orders.turns;
  options = keys.options;
}

-- What the keys say, and how many of each there are: 51 to 55.
unfoldable pub keys_in : Members → Result KeyData PlanRefusal
keys_in members = of_keys (keys_of members) >>= few_orders

-- A document's plan, or its first refusal: the keys come first; then the tables, and the ALTER of the one to migrate; then
-- the clients' scripts; and then the operator, the losses and the turns.
unfoldable pub plan_at : Members → Result PlanData PlanRefusal
plan_at members = do
  keys ← keys_in members
  opening ← opening_of keys
  clients ← clients_of keys.texts.table keys.texts.clients
  orders ← orders_of (length clients) keys.texts
  Ok (plan_of keys opening clients orders)

-- the document that bytes spell, where they are one
unfoldable pub document : List ℕ → Option Members
document bytes = if is_utf8 bytes then parse_document bytes else None

-- *Read*: the plan of the bytes, or the first refusal: a byte past the limit, then bytes that are no TOML document, then
-- what the document is refused for.
unfoldable pub read : List ℕ → Result PlanData PlanRefusal
read bytes = if nat_lt PLAN_LIMIT (length bytes) then Err TooLong else (or_refused NotToml (document bytes) >>= plan_at)
