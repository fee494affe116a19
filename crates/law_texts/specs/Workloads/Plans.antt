-- *Workloads are plans*: the text of every number is read as this plan. This project's rule.
use Rattle.std.specs.Prelude.{◌≡◌, ℕ, [], ◌∷◌, Ok}
use Rattle.plan_data.specs.PlanData.{PlanData}
use Rattle.plan_reader.specs.Plans.{read}
use Rattle.top_workload.specs.Workloads.{workload}
use Rattle.law_texts.specs.Workloads.Alters.{clauses}
use Rattle.law_texts.specs.Workloads.Document.Plans.{options}
use Rattle.law_texts.specs.Workloads.Rows.{opening_table}
use Rattle.law_texts.specs.Workloads.Scripts.{scripts}
use Rattle.law_texts.specs.Workloads.Document.Texts.{table_name}

-- *The plan of a workload*: its table with its rows, its ALTER, its clients' scripts and its options
abbrev pub plan : ℕ → PlanData
plan number = record {
  table = table_name;
  alter = clauses;
  tables = opening_table number ∷ [];
  clients = scripts number;
  operator = [];
  faults = [];
  turns = [];
  options = options;
}

-- The text of a workload is read as its plan, which no rule refuses.
abbrev pub WorkloadsAreRead : Type 0
WorkloadsAreRead = (number : ℕ) → read (workload number) ≡ Ok (plan number)
