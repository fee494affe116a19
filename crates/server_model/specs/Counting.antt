-- *Counters*: which number is drawn in a turn, and how counters move. (MySQL's manual, "Using AUTO_INCREMENT",
-- "AUTO_INCREMENT Handling in InnoDB": no rollback gives a number back, nor does a loss.)
use Rattle.std.specs.Prelude.{ℕ, ◌==◌, Bool, true, false, if◌then◌else◌, List, [], ◌∷◌, ◌++◌, Option, Some, None, Result, Ok, Err}
use Rattle.std.specs.List.{slice_get}
use Rattle.base_values.specs.declared.value.Value.{Value}
use Rattle.base_values.specs.declared.gho_schema.schema.Schema.{Schema}
use Rattle.base_values.specs.GhoSchema.AutoIncrement.{auto_place}
use Rattle.table_store.specs.Databases.{TableRows, Database, find_table}
use Rattle.base_script.specs.declared.statement.Statement.{Statement}
use Rattle.server_model.specs.declared.request.Request.{Request}
use Rattle.server_model.specs.declared.request.Request.TheVariants as requests
use Rattle.server_model.specs.declared.answer.Answer.{Answer}
use Rattle.server_model.specs.declared.answer.Answer.TheVariants as answers
use Rattle.server_model.specs.declared.work.Work.{Work}
use Rattle.server_model.specs.declared.work.Work.TheVariants as works
use Rattle.server_model.specs.Checks.{work_of}
use Rattle.server_model.specs.Operations.{table_of}
use Rattle.server_model.specs.Drawing.{numbered, offered_in}
use Rattle.server_model.specs.Effects.{is_outside}
use Rattle.server_model.specs.declared.session.Session.{Session}
use Rattle.server_model.specs.declared.counter.Counter.{Counter}
use Rattle.server_model.specs.States.{State, session_of, is_of_tool, counters_from, counters_without, counters_renamed, counter_of, after_number, after_value}

-- WHAT IS DRAWN

-- the statement was answered, and didn't wait in vain
abbrev pub is_answered : Answer → Bool
is_answered (answers.Ok count) = true
is_answered (answers.Rows rows) = true
is_answered (answers.Refused number column) = true
is_answered answer = false

-- a statement draws in the turn that answers it, unless its table isn't one that its session locked (1100)
abbrev pub drawn_if : Bool → Option ℕ → Option ℕ
drawn_if true offer = offer
drawn_if false offer = None

abbrev pub offered_inside : Bool → Option ℕ → Option ℕ
offered_inside true offer = None
offered_inside false offer = offer

abbrev pub offered_to : Option Session → Database → List Counter → Option Request → Option ℕ
offered_to session tables counters (Some (requests.Do statement)) = offered_inside (is_outside session (requests.Do statement)) (offered_in (is_of_tool session) tables counters statement)
offered_to session tables counters asks = None

-- the number that was drawn in a turn that was about this request and had this answer
abbrev pub drawn_by : State → ℕ → Option Request → Answer → Option ℕ
drawn_by state number asks answer = drawn_if (is_answered answer) (offered_to (session_of number state.sessions) state.tables state.counters asks)

-- HOW COUNTERS MOVE

-- the value that an INSERT, a REPLACE or an UPDATE gives the column
abbrev pub set_in : Option (Option Value) → Option Value
set_in None = None
set_in (Some value) = value

abbrev pub gives : ℕ → Work → Option Value
gives place (works.Insert row) = slice_get row place
gives place (works.Replace row) = slice_get row place
gives place (works.Update reach (Ok sets)) = set_in (slice_get sets place)
gives place work = None

-- what the counter is at least afterwards, where the statement is done: behind the number that was drawn, and behind the
-- value that was given, where rows were written or changed
abbrev pub given_by : Answer → Option Value → ℕ
given_by (answers.Ok count) value = if count == 0 then 0 else after_value value
given_by answer value = 0

abbrev pub gives_in : Schema → Option ℕ → Statement → Option Value
gives_in schema None statement = None
gives_in schema (Some place) statement = gives place (work_of schema statement)

abbrev pub after_drawn : Option ℕ → ℕ
after_drawn None = 0
after_drawn (Some number) = after_number number

abbrev pub counts : Option TableRows → Option ℕ → Statement → Answer → List Counter → List Counter
counts None drawn statement answer counters = counters
counts (Some table) drawn statement answer counters =
    counters_from table.schema.name (given_by answer (gives_in table.schema (auto_place table.schema) (numbered drawn statement))) (counters_from table.schema.name (after_drawn drawn) counters)

-- a table that was made has a counter, one that was dropped has none, a counter goes with its table, and one that is set is no
-- less than its number
abbrev pub counts_if : Answer → (List Counter → List Counter) → List Counter → List Counter
counts_if (answers.Ok count) change counters = change counters
counts_if answer change counters = counters

-- *Counters behind* a turn that was about this request and had this answer
unfoldable pub counted : State → ℕ → Option Request → Answer → List Counter
counted state number (Some (requests.Do statement)) answer =
    counts (find_table (table_of statement) state.tables) (drawn_by state number (Some (requests.Do statement)) answer) statement answer state.counters
counted state number (Some (requests.Create schema)) answer = counts_if answer (λ counters. counters ++ counter_of (record { schema = schema; rows = [] })) state.counters
counted state number (Some (requests.Drop name)) answer = counts_if answer (counters_without name) state.counters
counted state number (Some (requests.Rename pairs)) answer = counts_if answer (counters_renamed pairs) state.counters
counted state number (Some (requests.SetCounter table least)) answer = counts_if answer (counters_from table least) state.counters
counted state number asks answer = state.counters
