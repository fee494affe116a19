-- The text of a workload is read as its plan.
use Rattle.std.proofs.Common.{◌≡◌, ℕ, false, nat_lt, [], ◌∷◌, length, Some, Ok, refl, arith}
use Rattle.std.proofs.lemmas.Bool.Decides.{nat_tests}
use Rattle.base_values.specs.ToolNames.{ghost_name, old_name}
use Rattle.plan_orders.specs.Operators.{commands_from}
use Rattle.plan_orders.specs.TurnOrder.Turns.{runs_from}
use Rattle.plan_reader.specs.Openings.{opening_of}
use Rattle.plan_reader.specs.Orders.{orders_of}
use Rattle.plan_reader.specs.Plans.{keys_in, plan_at, document, read}
use Rattle.plan_reader.specs.Walks.{each_from}
use Rattle.top_workload.specs.Workloads.{workload}
use Rattle.law_texts.specs.Workloads.Alters.{clauses, altered_schema, altered_map}
use Rattle.law_texts.specs.Workloads.Document.Plans as plans
use Rattle.law_texts.specs.Workloads.Rows.{opening_table}
use Rattle.law_texts.proofs.Workloads.Computed.{alter_read, alter_taken}
use Rattle.law_texts.proofs.Workloads.Document.DocumentRead.{workload_read}
use Rattle.law_texts.proofs.Workloads.Document.KeysRead.{keys_read}
use Rattle.law_texts.proofs.Workloads.Document.Sizes.{text_is_short, text_is_utf8}
use Rattle.law_texts.proofs.Workloads.TablesRead.{tables_read}
use Rattle.law_texts.specs.Workloads.Plans.{plan}
use Rattle.law_texts.proofs.Workloads.Plans.Scripts.{clients_read}

opening_read : (number : ℕ) → opening_of (plans.keys number) ≡ Ok (record { tables = opening_table number ∷ []; alter = clauses; new = (altered_schema, altered_map) })
unfolding opening_of ghost_name old_name
opening_read number = rw (tables_read number) (rw (alter_read, alter_taken) refl)

orders_read : (number clients : ℕ) → orders_of clients (plans.texts number) ≡ Ok (record { operator = []; faults = []; turns = [] })
unfolding orders_of commands_from each_from runs_from
orders_read number clients = refl

keys_found : (number : ℕ) → keys_in (plans.document number) ≡ Ok (plans.keys number)
unfolding keys_in
keys_found number = rw (keys_read number) refl

plan_read : (number : ℕ) → plan_at (plans.document number) ≡ Ok (plan number)
unfolding plan_at
plan_read number = rw (keys_found number, opening_read number, clients_read number) (rw (orders_read number _) refl)

short : (number : ℕ) → nat_lt 16777216 (length (workload number)) ≡ false
short number = let most = text_is_short number in grind (arith, nat_tests)

document_read : (number : ℕ) → document (workload number) ≡ Some (plans.document number)
unfolding document
document_read number = rw (text_is_utf8 number) (workload_read number)

pub plans_read : (number : ℕ) → read (workload number) ≡ Ok (plan number)
unfolding read
plans_read number = rw (short number, document_read number) (plan_read number)
