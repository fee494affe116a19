-- *The applier*: it applies what was logged of the migrated table to the new one, batch by batch. It reads the next
-- events; where some are of the table, it begins a transaction, says one statement on the new table a turn, and
-- commits. (gh-ost, "Triggerless design", applies binary log events as REPLACE, DELETE and UPDATE; the exact steps are
-- this project's rule.)
use Rattle.std.specs.Prelude.{ℕ, ◌+◌, ◌==◌, Bool, true, false, not, if◌then◌else◌, List, [], ◌∷◌, length, map, filter, unwrap_or, Option, Some, None}
use Rattle.std.specs.List.{slice_get, list_any, flat_map}
use Rattle.std.specs.Str.{bytes_eq}
use Rattle.std.specs.Ordering.{is_eq}
use Rattle.base_values.specs.declared.value.Value.{Value}
use Rattle.base_values.specs.declared.value.Value.TheVariants.{Null}
use Rattle.base_values.specs.KeyOrder.{compare_keys}
use Rattle.base_values.specs.declared.gho_schema.schema.Schema.{Schema}
use Rattle.base_values.specs.declared.gho_schema.schema.Column.{Column}
use Rattle.base_values.specs.GhoSchema.Rows.{key_of, key_places}
use Rattle.base_values.specs.declared.row_conversion.map.MapColumn.{MapColumn}
use Rattle.base_values.specs.RowConversion.ConvertedRows.{source}
use Rattle.base_values.specs.declared.event.RowEvent.{RowEvent}
use Rattle.base_values.specs.declared.event.Change.{Change}
use Rattle.base_values.specs.declared.event.Change.TheVariants.{Write, Update, Delete}
use Rattle.base_script.specs.declared.statement.Statement.{Statement}
use Rattle.base_script.specs.declared.statement.Statement.TheVariants as statements
use Rattle.base_script.specs.declared.statement.Condition.{Condition}
use Rattle.base_script.specs.declared.statement.Condition.TheVariants.{Equal}
use Rattle.base_script.specs.declared.statement.Set.{Set}
use Rattle.server_model.specs.declared.request.Request.{Request}
use Rattle.server_model.specs.declared.request.Request.TheVariants as requests
use Rattle.server_model.specs.declared.answer.Answer.{Answer}
use Rattle.server_model.specs.declared.answer.Answer.TheVariants as answers
use Rattle.server_model.specs.declared.entry.Entry.{Entry}
use Rattle.server_model.specs.Entries.{answer_at}
use Rattle.tool_program.specs.declared.event_applier.applier.Part.{Part}
use Rattle.tool_program.specs.declared.event_applier.applier.Part.TheVariants.{Whole, Removal, Return}
use Rattle.tool_program.specs.declared.event_applier.applier.Batch.{Batch}
use Rattle.tool_program.specs.declared.event_applier.applier.ApplyStep.{ApplyStep}
use Rattle.tool_program.specs.declared.event_applier.applier.ApplyStep.TheVariants.{Reading, Beginning, Applying, Committing}
use Rattle.tool_program.specs.declared.event_applier.applier.Applier.{Applier}
use Rattle.server_model.specs.declared.outcome.Progress.{Progress}
use Rattle.server_model.specs.declared.outcome.Progress.TheVariants.{Going, TaskDone, TaskFailed, Unfit}
use Rattle.base_values.specs.ToolNames.{log_name}
use Rattle.base_values.specs.declared.mysql_errors.TheConstants.{ER_DUP_ENTRY}
use Rattle.tool_changelog.specs.Hints.{last_hint}
use Rattle.server_model.specs.EarlierAnswers.{events_in}

-- what one statement does to the new table with rows of the old one
pub data Doing : Type 0 where
  -- REPLACE of the converted row
  Putting : List Value → Doing
  -- DELETE by the row's key
  Removing : List Value → Doing
  -- UPDATE of the one to the other, which has the same unique keys
  Changing : List Value → List Value → Doing

-- an applier at its start
abbrev pub new_applier : List ℕ → Schema → List MapColumn → ℕ → ℕ → Applier
new_applier table new_schema map position batch =
    record { table = table; new_schema = new_schema; map = map; batch = batch; position = position; hint = 0; step = Reading }

-- next it reads the log
abbrev pub is_reading : ApplyStep → Bool
is_reading Reading = true
is_reading step = false

abbrev pub starts : Applier → Bool
starts applier = is_reading applier.step

-- the value at a place
abbrev pub value_at : List Value → ℕ → Value
value_at row place = unwrap_or (slice_get row place) Null

-- the values for all new columns, before they are stored
abbrev pub given_values : List MapColumn → List Value → List Value
given_values columns row = map (λ column. source column.origin row) columns

-- a value of some unique key of the new table changes
abbrev pub changes_key : Schema → List Value → List Value → Bool
changes_key schema before after = list_any (λ index. not (is_eq (compare_keys (key_of index.places before) (key_of index.places after)))) schema.uniques

-- what is done for a change of a row: an UPDATE that changes a unique key is a DELETE and a REPLACE
abbrev pub doings : Schema → List MapColumn → Change → List Doing
doings schema map (Write row) = Putting row ∷ []
doings schema map (Delete row) = Removing row ∷ []
doings schema map (Update before after) =
    if changes_key schema (given_values map before) (given_values map after) then Removing before ∷ Putting after ∷ [] else Changing before after ∷ []

-- the events of the table
abbrev pub events_of : List ℕ → List RowEvent → List RowEvent
events_of table events = filter (λ event. bytes_eq event.table table) events

-- what is done for all events of the table, in order
unfoldable pub planned : Applier → List RowEvent → List Doing
planned applier events = flat_map (λ event. doings applier.new_schema applier.map event.change) (events_of applier.table events)

-- what is done now
abbrev pub in_part : Part → Doing → Doing
in_part Removal (Changing before after) = Removing before
in_part Return (Changing before after) = Putting after
in_part part doing = doing

abbrev pub doing_in : Part → Option Doing → Option Doing
doing_in part None = None
doing_in part (Some doing) = Some (in_part part doing)

abbrev pub doing_at : List Entry → Applier → ApplyStep → Option Doing
doing_at journal applier (Applying batch done part) = doing_in part (slice_get (planned applier (events_in (answer_at journal batch.read))) done)
doing_at journal applier step = None

-- each column with its value
abbrev pub sets : List Column → List Value → List Set
sets [] values = []
sets (column ∷ columns) [] = []
sets (column ∷ columns) (value ∷ values) = record { column = column.name; value = value } ∷ sets columns values

abbrev pub name_in : Option Column → List ℕ
name_in None = []
name_in (Some column) = column.name

abbrev pub name_at : List Column → ℕ → List ℕ
name_at columns place = name_in (slice_get columns place)

-- each place once, where it comes last: a key may name a column twice, and a condition names each column of a key once
abbrev pub each_once : List ℕ → List ℕ
each_once [] = []
each_once (place ∷ places) = if list_any (λ other. place == other) places then each_once places else place ∷ each_once places

-- the new table's row with this row's clustered key
abbrev pub by_key : Schema → List MapColumn → List Value → Condition
by_key schema columns row = Equal (map (λ place. record { column = name_at schema.columns place; value = value_at (given_values columns row) place }) (each_once (key_places schema)))

-- the statement that does it
abbrev pub statement_of : Applier → Doing → Statement
statement_of applier (Putting row) = statements.Replace applier.new_schema.name None (given_values applier.map row) None
statement_of applier (Removing row) = statements.Delete applier.new_schema.name (by_key applier.new_schema applier.map row)
statement_of applier (Changing before after) =
    statements.Update applier.new_schema.name (sets applier.new_schema.columns (given_values applier.map after)) (by_key applier.new_schema applier.map before)

abbrev pub statement_result : Applier → Option Doing → Request
statement_result applier None = requests.Commit
statement_result applier (Some doing) = requests.Do (statement_of applier doing)

abbrev pub call_at : List Entry → Applier → ApplyStep → Request
call_at journal applier Reading = requests.ReadLog applier.position applier.batch (applier.table ∷ log_name applier.table ∷ [])
call_at journal applier (Beginning batch) = requests.Begin
call_at journal applier (Applying batch done part) = statement_result applier (doing_at journal applier (Applying batch done part))
call_at journal applier (Committing batch) = requests.Commit

-- *Next*: the applier's next call.
unfoldable pub next : List Entry → Applier → Request
next journal applier = call_at journal applier applier.step

-- the batch whose events were read in this turn
abbrev pub batch_of : ℕ → Applier → List RowEvent → ℕ → Batch
batch_of turn applier events following =
    record { read = turn; next = following; hint = last_hint applier.table applier.hint events; statements = length (planned applier events) }

-- the position moves to the batch's end
abbrev pub moved : Applier → Batch → Applier
moved applier batch = record applier { position = batch.next; hint = batch.hint; step = Reading }

-- after the read: a transaction begins, unless there is nothing to apply
abbrev pub read_batch : Applier → Batch → Applier
read_batch applier batch = if batch.statements == 0 then moved applier batch else record applier { step = Beginning batch }

-- after this many planned statements
abbrev pub after_statements : Batch → ℕ → ApplyStep
after_statements batch done = if done == batch.statements then Committing batch else Applying batch done Whole

-- after a statement that was done
abbrev pub after_part : Batch → ℕ → Part → ApplyStep
after_part batch done Removal = Applying batch done Return
after_part batch done part = after_statements batch (done + 1)

-- after a statement that was refused: ER_DUP_ENTRY refuses an UPDATE alone, which goes on as DELETE and REPLACE
abbrev pub after_refusal : Batch → ℕ → Part → ℕ → ApplyStep
after_refusal batch done part number = if number == ER_DUP_ENTRY then Applying batch done Removal else Applying batch done part

-- after an answer other than a loss and a time-out
abbrev pub after_answer : ℕ → Applier → ApplyStep → Answer → Applier
after_answer turn applier Reading (answers.Events events following) = read_batch applier (batch_of turn applier events following)
after_answer turn applier (Beginning batch) (answers.Ok count) = record applier { step = Applying batch 0 Whole }
after_answer turn applier (Applying batch done part) (answers.Ok count) = record applier { step = after_part batch done part }
after_answer turn applier (Applying batch done part) (answers.Refused number column) = record applier { step = after_refusal batch done part number }
after_answer turn applier (Committing batch) (answers.Ok count) = moved applier batch
after_answer turn applier step answer = applier

-- *Took*: the applier after an answer in this turn. A batch whose session was lost or whose wait timed out begins again.
unfoldable pub took : ℕ → Applier → Answer → Applier
took turn applier answers.Lost = record applier { step = Reading }
took turn applier (answers.TimedOut waited) = record applier { step = Reading }
took turn applier answer = after_answer turn applier applier.step answer

abbrev pub nothing_planned : ℕ → Progress
nothing_planned statements = if statements == 0 then TaskDone else Going

abbrev pub progress_at : Applier → ApplyStep → Answer → Progress
progress_at applier step answers.Lost = TaskFailed
progress_at applier step (answers.TimedOut waited) = TaskFailed
progress_at applier Reading (answers.Events events following) = nothing_planned (length (planned applier events))
progress_at applier (Applying batch done part) (answers.Refused number (Some place)) = Unfit place number
progress_at applier (Committing batch) (answers.Ok count) = TaskDone
progress_at applier step answer = Going

-- what the answer means for the batch
unfoldable pub progress : Applier → Answer → Progress
progress applier answer = progress_at applier applier.step answer

-- the row of the old table that didn't fit when converted
abbrev pub row_done : Option Doing → List Value
row_done None = []
row_done (Some (Putting row)) = row
row_done (Some (Removing row)) = row
row_done (Some (Changing before after)) = after

-- its clustered key
abbrev pub unfit_key : List Entry → List ℕ → Applier → List Value
unfit_key journal old_places applier = key_of old_places (row_done (doing_at journal applier applier.step))
