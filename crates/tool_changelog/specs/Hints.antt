-- *Hint rows*: the rows of the changelog that tell the applier how far it must come before the tables are exchanged.
-- (gh-ost, "Cut-over": the applier waits for its own message in the binary log; the rows are this project's rule.)
use Rattle.std.specs.Prelude.{codes, ℕ, pos, nat_lt, Bool, true, false, ◌&&◌, if◌then◌else◌, List, [], ◌∷◌, fold, Option, Some, None}
use Rattle.std.specs.Fmt.{signed_decimal}
use Rattle.std.specs.Str.{bytes_eq}
use Rattle.base_values.specs.declared.value.Value.{Value}
use Rattle.base_values.specs.declared.value.Value.TheVariants.{Num, Text}
use Rattle.base_values.specs.declared.event.RowEvent.{RowEvent}
use Rattle.base_values.specs.declared.event.Change.{Change}
use Rattle.base_values.specs.declared.event.Change.TheVariants.{Write}
use Rattle.base_values.specs.ToolNames.{log_name}

-- the hint row of an attempt: its number, `cut-over`, and the number as text
unfoldable pub hint_row : ℕ → List Value
hint_row attempt = Num (pos attempt) ∷ Text (codes "cut-over") ∷ Text (signed_decimal (pos attempt)) ∷ []

abbrev pub hint_if : Bool → ℕ → Option ℕ
hint_if true attempt = Some attempt
hint_if false attempt = None

-- the attempt whose hint row this is; attempts count from 1
abbrev pub hint_of : List Value → Option ℕ
hint_of (Num (pos attempt) ∷ (Text hint ∷ (Text value ∷ []))) =
    hint_if (nat_lt 0 attempt && bytes_eq hint (codes "cut-over") && bytes_eq value (signed_decimal (pos attempt))) attempt
hint_of row = None

abbrev pub or_last : ℕ → Option ℕ → ℕ
or_last last None = last
or_last last (Some attempt) = attempt

abbrev pub hint_in : ℕ → Change → ℕ
hint_in last (Write row) = or_last last (hint_of row)
hint_in last change = last

-- the attempt of the last hint row among the events, else this one
abbrev pub last_hint : List ℕ → ℕ → List RowEvent → ℕ
last_hint table last events = fold (λ old event. if bytes_eq event.table (log_name table) then hint_in old event.change else old) last events
