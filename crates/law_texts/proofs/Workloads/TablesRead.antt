-- The tables of a workload's document are its one table.
use Rattle.std.proofs.Common.{◌≡◌, ℕ, [], ◌∷◌, Ok, refl}
use Rattle.plan_reader.specs.PlanTables.Tables.{table_at, tables_from, tables_of}
use Rattle.law_texts.specs.Workloads.Document.Plans.{table_texts}
use Rattle.law_texts.specs.Workloads.Rows.{opening_table}
use Rattle.law_texts.proofs.Workloads.Computed.{schema_read}
use Rattle.law_texts.proofs.Workloads.RowsPut.{rows_put}
use Rattle.law_texts.specs.Workloads.Document.Texts.{table_name}

pub tables_read : (number : ℕ) → tables_of 1 table_name (table_texts number ∷ []) ≡ Ok (opening_table number ∷ [])
unfolding table_at tables_from
tables_read number = rw (schema_read, rows_put number) refl
