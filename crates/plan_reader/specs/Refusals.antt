-- The number, the name and the place of each refusal of a plan (this project's).
use Rattle.std.specs.Prelude.{codes, ℕ, List, Option, Some, None, Result, Ok, Err}
use Rattle.sql_change.specs.declared.code.AlterCode.{AlterCode}
use Rattle.sql_change.specs.Codes.{alter_code}
use Rattle.plan_orders.specs.declared.fault.OrderRefusal.{OrderRefusal}
use Rattle.plan_orders.specs.declared.fault.OrderRefusal.TheVariants as orders
use Rattle.plan_orders.specs.Refusals.{order_code}
use Rattle.plan_keys.specs.declared.fault.KeyRefusal.{KeyRefusal}
use Rattle.plan_keys.specs.Refusals.{key_code}
use Rattle.plan_reader.specs.declared.plan_tables.fault.TableRefusal.{TableRefusal}
use Rattle.plan_reader.specs.declared.plan_tables.fault.TableRefusal.TheVariants as tables
use Rattle.plan_reader.specs.PlanTables.Refusals.{table_code}
use Rattle.sql_statement.specs.declared.code.ScriptRefusal.{ScriptRefusal}
use Rattle.sql_statement.specs.Codes.{script_code}
use Rattle.plan_orders.specs.declared.turn_order.fault.TurnRefusal.{TurnRefusal}
use Rattle.plan_reader.specs.declared.fault.Place.{Place}
use Rattle.plan_reader.specs.declared.fault.Place.TheVariants as places
use Rattle.plan_reader.specs.declared.fault.PlanRefusal.{PlanRefusal}
use Rattle.plan_reader.specs.declared.fault.PlanRefusal.TheVariants.{TooLong, NotToml, Keys, Tables, NoTable, Leftover, Alter, Script, Operator, Fault, Turn}

-- ---- numbers and names

-- a refusal's number and its name
abbrev pub refusal_code : PlanRefusal → ℕ × List ℕ
refusal_code TooLong = (59, codes "too_long")
refusal_code NotToml = (50, codes "not_toml")
refusal_code (Keys refusal) = key_code refusal
refusal_code (Tables refusal) = table_code refusal
refusal_code NoTable = (56, codes "unknown_name")
refusal_code Leftover = (57, codes "leftover")
refusal_code (Alter code) = alter_code code
refusal_code (Script client refusal) = script_code refusal.code
refusal_code (Operator refusal) = order_code refusal
refusal_code (Fault fault refusal) = order_code refusal
refusal_code (Turn refusal) = (56, codes "unknown_name")

-- ---- places

abbrev pub table_place : TableRefusal → Place
table_place (tables.Schema code table) = places.Table table
table_place (tables.BadRow table row) = places.Row table row

-- the line of the operator's text; a loss has none
abbrev pub operator_place : OrderRefusal → Place
operator_place (orders.Command line) = places.Operator line
operator_place orders.Loss = places.Nowhere
operator_place orders.LossActor = places.Nowhere

-- where a refusal is
abbrev pub refusal_place : PlanRefusal → Place
refusal_place TooLong = places.Nowhere
refusal_place NotToml = places.Nowhere
refusal_place (Keys refusal) = places.Nowhere
refusal_place (Tables refusal) = table_place refusal
refusal_place NoTable = places.Nowhere
refusal_place Leftover = places.Nowhere
refusal_place (Alter code) = places.Nowhere
refusal_place (Script client refusal) = places.Client client refusal.line
refusal_place (Operator refusal) = operator_place refusal
refusal_place (Fault fault refusal) = places.Fault fault
refusal_place (Turn refusal) = places.TurnWord refusal.word

-- ---- what a part's refusal is to the plan

abbrev pub of_keys : {A : Type 0} → Result A KeyRefusal → Result A PlanRefusal
of_keys (Ok read) = Ok read
of_keys (Err refusal) = Err (Keys refusal)

abbrev pub of_tables : {A : Type 0} → Result A TableRefusal → Result A PlanRefusal
of_tables (Ok read) = Ok read
of_tables (Err refusal) = Err (Tables refusal)

abbrev pub of_alter : {A : Type 0} → Result A AlterCode → Result A PlanRefusal
of_alter (Ok read) = Ok read
of_alter (Err code) = Err (Alter code)

-- the script of the client of this number
abbrev pub of_script : {A : Type 0} → ℕ → Result A ScriptRefusal → Result A PlanRefusal
of_script client (Ok read) = Ok read
of_script client (Err refusal) = Err (Script client refusal)

abbrev pub of_operator : {A : Type 0} → Result A OrderRefusal → Result A PlanRefusal
of_operator (Ok read) = Ok read
of_operator (Err refusal) = Err (Operator refusal)

-- the loss of this number
abbrev pub of_fault : {A : Type 0} → ℕ → Result A OrderRefusal → Result A PlanRefusal
of_fault fault (Ok read) = Ok read
of_fault fault (Err refusal) = Err (Fault fault refusal)

abbrev pub of_turns : {A : Type 0} → Result A TurnRefusal → Result A PlanRefusal
of_turns (Ok read) = Ok read
of_turns (Err refusal) = Err (Turn refusal)

-- what was found, or this refusal where nothing was
abbrev pub or_refused : {A : Type 0} → PlanRefusal → Option A → Result A PlanRefusal
or_refused refusal (Some found) = Ok found
or_refused refusal None = Err refusal
