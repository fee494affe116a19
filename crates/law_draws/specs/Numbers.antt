-- *Numbers are above*: a number that is drawn is its table's counter, and above every value of its column, while no turn copies into
-- a table of that name, or makes, drops or renames one. (A counter stands still at the greatest number of 64 bits, which is why that
-- number is left out.)
use Rattle.std.specs.Prelude.{◌≡◌, ◌<◌, ℕ, List, [], ◌∷◌, Some}
use Rattle.base_values.specs.declared.gho_schema.schema.Schema.{Schema}
use Rattle.base_values.specs.GhoSchema.AutoIncrement.{auto_place}
use Rattle.table_store.specs.Databases.{find_table}
use Rattle.server_model.specs.declared.entry.Entry.{Entry}
use Rattle.server_model.specs.declared.request.Request.TheVariants as requests
use Rattle.base_script.specs.declared.statement.Statement.{Statement}
use Rattle.server_model.specs.Operations.{table_of}
use Rattle.server_model.specs.States.{State, next_of}
use Rattle.tool_program.specs.JournalWords.Journals.{IsAnswered, after_entry}
use Rattle.tool_program.specs.JournalWords.Draws.{asked_in, IsAbove}
use Rattle.proof_journals.specs.Machine.MigrationTables.{schema_of}
use Rattle.proof_journals.specs.Rising.{LeavesName}
use Rattle.law_draws.specs.ColumnValues.{CopiesElsewhere, ValuesBelow}

-- the turn has the server's answers, and copies into no table of this name, makes, drops and renames none
pub record LeavesTable (name : List ℕ) (state : State) (entry : Entry) : Type 0 where
  pub answered : IsAnswered state entry
  pub leaves : LeavesName name (asked_in state entry)
  pub copies : CopiesElsewhere name (asked_in state entry)

-- a number that the turn draws from a table of this name
pub record DrawsAbove (name : List ℕ) (state : State) (entry : Entry) (number : ℕ) : Type 0 where
  pub statement : Statement
  pub asked : asked_in state entry ≡ Some (requests.Do statement)
  pub counter : next_of (table_of statement) state.counters ≡ Some number
  pub above : table_of statement ≡ name → number < 18446744073709551615 → IsAbove name number state (find_table name state.tables)

abbrev pub EachDrawsAbove : List ℕ → State → List Entry → Type 0
EachDrawsAbove name state [] = Unit {0}
EachDrawsAbove name state (entry ∷ entries) = ((number : ℕ) → entry.draw ≡ Some number → DrawsAbove name state entry number) × EachDrawsAbove name (after_entry state entry) entries

abbrev pub EachLeavesTable : List ℕ → State → List Entry → Type 0
EachLeavesTable name state [] = Unit {0}
EachLeavesTable name state (entry ∷ entries) = LeavesTable name state entry × EachLeavesTable name (after_entry state entry) entries

-- *Numbers are above*
abbrev pub NumbersAreAbove : Type 0
NumbersAreAbove =
    (name : List ℕ) (schema : Schema) (place next : ℕ) (state : State) (journal : List Entry) → schema_of name state.tables ≡ Some schema → auto_place schema ≡ Some place → next_of name state.counters ≡ Some next
    → ValuesBelow name place next state → EachLeavesTable name state journal → EachDrawsAbove name state journal
