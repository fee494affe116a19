-- *Draws*: the numbers that clients' statements draw. (MySQL's manual, "Using AUTO_INCREMENT"; that a number is above every
-- value, also one that isn't committed, is this project's rule.)
use Rattle.std.specs.Prelude.{◌≡◌, ◌<◌, ℕ, pos, true, if◌then◌else◌, List, [], ◌∷◌, Option, Some, None}
use Rattle.std.specs.List.{AllByRecursion, slice_get}
use Rattle.std.specs.Str.{bytes_eq}
use Rattle.base_values.specs.declared.value.Value.{Value}
use Rattle.base_values.specs.declared.value.Value.TheVariants.{Num}
use Rattle.base_values.specs.GhoSchema.AutoIncrement.{auto_place}
use Rattle.base_values.specs.declared.event.RowEvent.{RowEvent}
use Rattle.base_values.specs.declared.event.Change.{Change}
use Rattle.base_values.specs.declared.event.Change.TheVariants.{Write, Update, Delete}
use Rattle.table_store.specs.Databases.{TableRows, find_table}
use Rattle.base_script.specs.declared.statement.Statement.{Statement}
use Rattle.server_model.specs.Along.{Along, gathered}
use Rattle.server_model.specs.declared.entry.Entry.{Entry}
use Rattle.server_model.specs.declared.request.Request.{Request}
use Rattle.server_model.specs.declared.request.Request.TheVariants as requests
use Rattle.server_model.specs.Entries.{is_client}
use Rattle.server_model.specs.Operations.{table_of}
use Rattle.server_model.specs.States.{State, next_of}
use Rattle.server_model.specs.PlainServer.{asks_for}
use Rattle.plan_data.specs.PlanData.{PlanData}
use Rattle.tool_program.specs.JournalWords.Journals.{opens, state_at}

-- what a turn asks for
abbrev pub asked_in : State → Entry → Option Request
asked_in state entry = asks_for (opens entry state) entry.session entry.asked

-- the number that was drawn from a table of this name
abbrev pub drawn_from : Option ℕ → List ℕ → Option Request → List ℕ
drawn_from None name asks = []
drawn_from (Some number) name (Some (requests.Do statement)) = if bytes_eq (table_of statement) name then number ∷ [] else []
drawn_from (Some number) name asks = []

-- all numbers that were drawn from tables of this name, turn by turn
unfoldable pub draws_on : PlanData → List Entry → List ℕ → List ℕ
draws_on plan journal name = gathered (λ before entry. drawn_from entry.draw name (asked_in (state_at plan before) entry)) [] journal

-- the value is no number, or below this one
abbrev pub IsUnder : ℕ → Option Value → Type 0
IsUnder number (Some (Num (pos n))) = n < number
IsUnder number value = Unit {0}

abbrev pub PutUnder : ℕ → ℕ → Change → Type 0
PutUnder place number (Write row) = IsUnder number (slice_get row place)
PutUnder place number (Update before after) = IsUnder number (slice_get after place)
PutUnder place number (Delete row) = Unit {0}

abbrev pub PutsUnder : List ℕ → ℕ → ℕ → RowEvent → Type 0
PutsUnder name place number event = bytes_eq event.table name ≡ true → PutUnder place number event.change

-- the number is above every value of the column, committed or written by a live session
abbrev pub AboveAt : List ℕ → ℕ → State → TableRows → Option ℕ → Type 0
AboveAt name number state table None = Unit {0}
AboveAt name number state table (Some place) =
    AllByRecursion (λ row. IsUnder number (slice_get row place)) table.rows × AllByRecursion (λ session. AllByRecursion (PutsUnder name place number) session.writes) state.sessions

abbrev pub IsAbove : List ℕ → ℕ → State → Option TableRows → Type 0
IsAbove name number state None = Unit {0}
IsAbove name number state (Some table) = AboveAt name number state table (auto_place table.schema)

-- a number that is drawn: a client's statement draws its table's counter, which is above each number that was drawn from a
-- table of its name, and above every value of the column
pub record IsDrawn (plan : PlanData) (before : List Entry) (entry : Entry) (number : ℕ) : Type 0 where
  pub own : is_client entry.actor ≡ true
  pub statement : Statement
  pub asked : asked_in (state_at plan before) entry ≡ Some (requests.Do statement)
  pub counter : next_of (table_of statement) (state_at plan before).counters ≡ Some number
  pub rises : AllByRecursion (λ earlier. earlier < number) (draws_on plan before (table_of statement))
  pub above : IsAbove (table_of statement) number (state_at plan before) (find_table (table_of statement) (state_at plan before).tables)

-- *Draws*: each number that is drawn is drawn so.
abbrev pub Draws : PlanData → List Entry → Type 0
Draws plan journal = Along (λ before entry. (number : ℕ) → entry.draw ≡ Some number → IsDrawn plan before entry number) [] journal
