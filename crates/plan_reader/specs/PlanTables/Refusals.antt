-- The number and the name of each refusal of a plan's tables (this project's), and what the code answers beside them.
use Rattle.std.specs.Prelude.{◌≡◌, codes, ℕ, List, Option, None, Some, Result, Ok, Err}
use Rattle.sql_grammar.specs.Codes.{schema_code}
use Rattle.plan_reader.specs.declared.plan_tables.fault.TableRefusal.{TableRefusal}
use Rattle.plan_reader.specs.declared.plan_tables.fault.TableRefusal.TheVariants.{Schema, BadRow}
use Rattle.plan_reader.specs.declared.plan_tables.fault.RowFault.{RowFault}
use Rattle.plan_reader.specs.declared.plan_tables.fault.RowFault.TheVariants as row

-- a refusal's number and its name
abbrev pub table_code : TableRefusal → ℕ × List ℕ
table_code (Schema code table) = schema_code code
table_code (BadRow table row) = (58, codes "bad_row")

-- What the code finds, seen by view, is what the definition finds, unless memory ran out.
abbrev pub Misses : {Y : Type 0} → RowFault → Option Y → Type 0
Misses row.Memory found = Unit {0}
Misses row.Bad found = found ≡ None

abbrev pub Finds : {X Y : Type 0} → (X → Y) → Result X RowFault → Option Y → Type 0
Finds view (Ok x) found = found ≡ Some (view x)
Finds view (Err fault) found = Misses fault found
