-- *Rows* of a plan's table, or the first text that is no row of it. This project's rule.
use Rattle.std.specs.Prelude.{ℕ, ◌+◌, ◌-◌, ◌^◌, min, is_some, if◌then◌else◌, List, [], ◌∷◌, Option, Some, None, Result, Ok, Err}
use Rattle.std.specs.Option.{option_and_then}
use Rattle.base_values.specs.declared.value.Value.{Value}
use Rattle.base_values.specs.GhoSchema.Rows.{key_places, with_row}
use Rattle.table_store.specs.Databases.{TableRows, clashing}
use Rattle.base_values.specs.SchemaRules.Results.{◌>>=◌}
use Rattle.plan_reader.specs.PlanTables.RowTexts.{row_at}

-- The table with a row more, in its place in order of the clustered key; none where the row clashes with one of the
-- others (MySQL's manual, "INSERT Statement").
abbrev pub with_put : TableRows → List Value → Option TableRows
with_put table row =
    if is_some (clashing table row None) then None
    else Some (record { schema = table.schema; rows = with_row (key_places table.schema) row table.rows })

-- the table with the row whose text this is; none where it is a bad one
unfoldable pub put_text : TableRows → List ℕ → Option TableRows
put_text table text = option_and_then (with_put table) (row_at table.schema.columns text)

-- what was found, or that the row of this number is bad
abbrev pub or_bad : {A : Type 0} → ℕ → Option A → Result A ℕ
or_bad row (Some found) = Ok found
or_bad row None = Err row

-- rows and tables count from 1 (and stay at the greatest number of 32 bits)
abbrev pub next_number : ℕ → ℕ
next_number number = min (number + 1) (2 ^ 32 - 1)

-- the table with the rows from here on, or the number of the first bad one
unfoldable pub put_texts : ℕ → TableRows → List (List ℕ) → Result TableRows ℕ
put_texts row table [] = Ok table
put_texts row table (text ∷ texts) = do
  table ← or_bad row (put_text table text)
  put_texts (next_number row) table texts
