-- What a rebuild refuses, and what it prints. This project's rule.
use Rattle.std.specs.Prelude.{codes, ℕ, nat_lt, Bool, false, List, ◌++◌, length, Option, Some, None}
use Rattle.std.specs.Fmt.{decimal}
use Rattle.base_values.specs.declared.gho_schema.schema.Schema.{Schema}
use Rattle.base_values.specs.declared.value.Value.{Value}
use Rattle.table_print.specs.Tables.{row_lines, schema_line}
use Rattle.plan_data.specs.PlanData.{Altered, PlanData, plan_altered}

-- the schema has more than one unique key, the PRIMARY KEY among them
abbrev pub has_more_uniques : Option Altered → Bool
has_more_uniques None = false
has_more_uniques (Some new) = nat_lt 1 (length new.0.uniques)

-- *Second unique key*: the schema that the plan's ALTER leaves has more than one
abbrev pub has_second_unique : PlanData → Bool
has_second_unique plan = has_more_uniques (plan_altered plan)

-- *Text of a rebuilt table*: its line and its rows, after the verdict
abbrev pub rebuilt_text : Schema → List (List Value) → List ℕ
rebuilt_text schema rows = codes "done\nrebuilt " ++ schema_line schema ++ row_lines rows

-- *Text of an unfit row*: its place among the rows that are seen, from 0, after the verdict
abbrev pub unfit_text : ℕ → List ℕ
unfit_text place = codes "done\nunfit " ++ decimal place ++ codes "\n"
