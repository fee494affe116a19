-- What holds of counters: a statement's new rows are below its table's counter afterwards, and no turn but one that makes,
-- drops or renames a table lowers one.
use Rattle.std.specs.Prelude.{◌≡◌, ◌≤◌, ℕ, max, Bool, true, false, List, Option, Some, None}
use Rattle.std.specs.List.{AllByRecursion, slice_get}
use Rattle.base_values.specs.declared.value.Value.{Value}
use Rattle.base_values.specs.declared.gho_schema.schema.Schema.{Schema}
use Rattle.base_values.specs.declared.event.Change.{Change}
use Rattle.base_values.specs.declared.event.Change.TheVariants as changes
use Rattle.base_script.specs.declared.statement.Statement.{Statement}
use Rattle.server_model.specs.declared.request.Request.{Request}
use Rattle.server_model.specs.declared.request.Request.TheVariants as requests
use Rattle.server_model.specs.declared.answer.Answer.{Answer}
use Rattle.server_model.specs.declared.work.Work.{Work}
use Rattle.server_model.specs.declared.work.Work.TheVariants as works
use Rattle.server_model.specs.Operations.{table_of}
use Rattle.server_model.specs.StatementResults.{tells}
use Rattle.server_model.specs.declared.counter.Counter.{Counter}
use Rattle.server_model.specs.States.{State, next_of, after_number, after_value}
use Rattle.server_model.specs.Counting.{gives, given_by, drawn_by, counted}

-- the row's value at a place is below a counter
abbrev pub IsBelow : ℕ → ℕ → List Value → Type 0
IsBelow place next row = after_value (slice_get row place) ≤ next

abbrev pub PutsBelow : ℕ → ℕ → Change → Type 0
PutsBelow place next (changes.Write row) = IsBelow place next row
PutsBelow place next (changes.Update before after) = IsBelow place next after
PutsBelow place next (changes.Delete row) = Unit {0}

abbrev pub is_copy : Work → Bool
is_copy (works.Copy row) = true
is_copy work = false

-- *New rows are below*: where all rows of a table are below its counter, so is each that a statement puts, once the counter
-- is behind the value that the statement gave.
abbrev pub NewRowsAreBelow : Type 0
NewRowsAreBelow =
    (schema : Schema) (place next : ℕ) (rows : List (List Value)) (work : Work) → is_copy work ≡ false → AllByRecursion (IsBelow place next) rows
    → AllByRecursion (PutsBelow place (max next (given_by (tells schema rows work).answer (gives place work)))) (tells schema rows work).changes

-- a request that makes, drops or renames no table
abbrev pub keeps_names : Option Request → Bool
keeps_names (Some (requests.Create schema)) = false
keeps_names (Some (requests.Drop name)) = false
keeps_names (Some (requests.Rename pairs)) = false
keeps_names asks = true

-- the counter of this name is there as before, and no less
abbrev pub NoLess : Option ℕ → Option ℕ → Type 0
NoLess None new = new ≡ None
NoLess (Some old) None = ⊥
NoLess (Some old) (Some new) = old ≤ new

-- *Counters never fall*, whatever is asked and answered.
abbrev pub CountersNeverFall : Type 0
CountersNeverFall = (state : State) (number : ℕ) (asks : Option Request) (answer : Answer) (name : List ℕ) → keeps_names asks ≡ true → NoLess (next_of name state.counters) (next_of name (counted state number asks answer))

-- the number, where there is one, is behind this one
abbrev pub IsBehind : ℕ → Option ℕ → Type 0
IsBehind n None = ⊥
IsBehind n (Some next) = after_number n ≤ next

-- *A number that is drawn* is its table's counter, which is behind it afterwards.
pub record DrawnSo (state : State) (number : ℕ) (asks : Option Request) (answer : Answer) (n : ℕ) : Type 0 where
  pub statement : Statement
  pub asked : asks ≡ Some (requests.Do statement)
  pub counter : next_of (table_of statement) state.counters ≡ Some n
  pub behind : IsBehind n (next_of (table_of statement) (counted state number asks answer))

abbrev pub NumbersAreCounters : Type 0
NumbersAreCounters = (state : State) (number : ℕ) (asks : Option Request) (answer : Answer) (n : ℕ) → drawn_by state number asks answer ≡ Some n → DrawnSo state number asks answer n
