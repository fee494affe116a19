-- *Range ahead*: the range of keys that a turn may get, as the tables before it say. (What gh-ost reads as the least and the
-- greatest value of the unique key.)
use Rattle.std.specs.Prelude.{◌≡◌, ℕ, Bool, true, false, ◌&&◌, if◌then◌else◌, List, [], ◌∷◌, Option, Some, None}
use Rattle.base_values.specs.declared.value.Value.{Value}
use Rattle.base_values.specs.GhoSchema.Rows.{key_places}
use Rattle.table_store.specs.Databases.{TableRows, Database, find_table}
use Rattle.base_script.specs.declared.actor.Actor.{Actor}
use Rattle.base_script.specs.declared.actor.Actor.TheVariants.{Insp}
use Rattle.base_script.specs.declared.actor.Side.{Side}
use Rattle.server_model.specs.declared.answer.Answer.{Answer}
use Rattle.server_model.specs.declared.answer.Answer.TheVariants as answers
use Rattle.server_model.specs.declared.answer.KeyRange.{KeyRange}
use Rattle.server_model.specs.declared.entry.Asked.{Asked}
use Rattle.server_model.specs.declared.entry.Asked.TheVariants.{Call, Poll}
use Rattle.server_model.specs.Chunks.{keys_of, last_of}
use Rattle.plan_data.specs.PlanData.{PlanData}
use Rattle.tool_program.specs.declared.tool_setup.setup.Setup.{Setup}
use Rattle.tool_program.specs.declared.tool_setup.setup.Setup.TheVariants.{Reaching}
use Rattle.run_turns.specs.declared.due_turns.migration_run.turn.Turn.{Turn}

-- the least and the greatest of keys in order
abbrev pub range_of : List (List Value) → Option KeyRange
range_of [] = None
range_of (least ∷ keys) = Some (record { least = least; greatest = last_of least keys })

-- the clustered keys of a table's rows
abbrev pub keys_in : TableRows → List (List Value)
keys_in table = keys_of (key_places table.schema) table.rows

abbrev pub range_of_table : Option TableRows → Option KeyRange
range_of_table None = None
range_of_table (Some table) = range_of (keys_in table)

-- the range of the keys of the table of this name; none where it has no row, or doesn't exist
abbrev pub range_in : List ℕ → Database → Option KeyRange
range_in name tables = range_of_table (find_table name tables)

-- *Ahead*: the inspector alone asks for a range, and for the migrated table's
abbrev pub ahead_of : PlanData → Database → Actor → Option KeyRange
ahead_of plan tables Insp = range_in plan.table tables
ahead_of plan tables actor = None

-- a range that an answer has is this one
abbrev pub IsReported : Option KeyRange → Answer → Type 0
IsReported ahead (answers.Ends range) = range ≡ ahead
IsReported ahead answer = Unit {0}

-- THE TURN THAT MAY GET IT

-- the setup asks for the range of keys
abbrev pub is_reaching : Option Setup → Bool
is_reaching (Some (Reaching position)) = true
is_reaching setup = false

abbrev pub is_inspector : Actor → Bool
is_inspector Insp = true
is_inspector actor = false

-- a call or a poll whose answer is heard
abbrev pub is_heard : Option Side → Asked → Bool
is_heard None (Call request) = true
is_heard None Poll = true
is_heard side asked = false

-- *Reads the range*: the inspector's turn may, once the setup asks for it, and where its session isn't lost in the turn
abbrev pub reads_range : Option Setup → Turn → Bool
reads_range setup turn = is_reaching setup && is_inspector turn.actor && is_heard turn.side turn.asked

-- the range that is read ahead of a turn
abbrev pub ahead_on : PlanData → Database → Option Setup → Turn → Option KeyRange
ahead_on plan tables setup turn = if reads_range setup turn then range_in plan.table tables else None

-- where the setup asks for the range, one that an answer has is this one
abbrev pub IsReadAhead : Option Setup → Option KeyRange → Answer → Type 0
IsReadAhead (Some (Reaching position)) ahead answer = IsReported ahead answer
IsReadAhead setup ahead answer = Unit {0}
