-- *Counters stay small*: a counter is at most 2^63, and one more for each number that was drawn since; so that it comes to stand still
-- in no journal that is written.
use Rattle.std.specs.Prelude.{◌≡◌, ◌≤◌, ◌+◌, ℕ, List, Option, Some, None}
use Rattle.std.specs.List.{slice_get, AllByRecursion}
use Rattle.base_values.specs.GhoSchema.AutoIncrement.{auto_place, IsCounter}
use Rattle.base_values.specs.SchemaRules.Valid.{IsColumn}
use Rattle.base_values.specs.declared.gho_schema.schema.Schema.{Schema}
use Rattle.base_script.specs.declared.statement.Statement.{Statement}
use Rattle.server_model.specs.declared.answer.Answer.{Answer}
use Rattle.server_model.specs.declared.request.Request.{Request}
use Rattle.server_model.specs.Checks.{work_of}
use Rattle.server_model.specs.Counting.{counted, drawn_by, gives}
use Rattle.server_model.specs.States.{State, after_value, next_of}
use Rattle.proof_journals.specs.Machine.MigrationTables.{schema_of}
use Rattle.law_draws.specs.LockedCounters.{LeavesCounter}

-- the schema's columns are of kinds that there are, and the one at this place may have AUTO_INCREMENT
pub record CountsIn (schema : Schema) (place : ℕ) : Type 0 where
  pub columns : AllByRecursion IsColumn schema.columns
  pub counts : IsCounter (slice_get schema.columns place)

-- *Given values are small*: what a statement gives the column is stored there, and so a counter behind it is 2^63 at most.
abbrev pub GivenValuesAreSmall : Type 0
GivenValuesAreSmall = (schema : Schema) (place : ℕ) (statement : Statement) → CountsIn schema place → after_value (gives place (work_of schema statement)) ≤ 9223372036854775808

abbrev pub one_if : Option ℕ → ℕ
one_if None = 0
one_if (Some number) = 1

abbrev pub IsAtMost : ℕ → Option ℕ → Type 0
IsAtMost most None = Unit {0}
IsAtMost most (Some next) = next ≤ most

-- *Counters stay small*: what is asked, and answered so, raises a counter that is 2^63 or more by one at most, and only where a number
-- is drawn.
abbrev pub CountersStaySmall : Type 0
CountersStaySmall =
    (name : List ℕ) (schema : Schema) (place most : ℕ) (state : State) (number : ℕ) (asks : Option Request) (answer : Answer) → schema_of name state.tables ≡ Some schema → auto_place schema ≡ Some place → CountsIn schema place → LeavesCounter name asks
    → 9223372036854775808 ≤ most → IsAtMost most (next_of name state.counters) → IsAtMost (most + one_if (drawn_by state number asks answer)) (next_of name (counted state number asks answer))
