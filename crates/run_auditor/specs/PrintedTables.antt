-- Tables as a trace has them printed. (This project's rule.)
use Rattle.std.specs.Prelude.{ℕ, Bool, false, List, Option, Some, None}
use Rattle.std.specs.Str.{bytes_eq}
use Rattle.table_store.specs.Databases.{TableRows}
use Rattle.run_audit.specs.Lines.{printed_table}

-- the table is printed so, where anything is
abbrev pub is_printed : Option (List ℕ) → TableRows → Bool
is_printed None table = false
is_printed (Some text) table = bytes_eq text (printed_table table)
