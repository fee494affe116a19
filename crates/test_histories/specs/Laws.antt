-- What the model gives of a history is what *serial* says of it.
use Rattle.std.specs.Prelude.{◌≡◌, ◌↔◌, List, map, Some}
use Rattle.std.specs.List.{flat_map}
use Rattle.table_store.specs.Databases.{Database}
use Rattle.plan_data.specs.PlanData.{PlanData}
use Rattle.tool_program.specs.JournalWords.Histories.{HistoryItem}
use Rattle.tool_program.specs.JournalWords.Serials.{Serial}
use Rattle.test_histories.specs.Histories.{serial_run, history_step_of, replies_given}

-- *Serial is alone*: a history leads from the one database to the other exactly where, alone, it gives each transaction the
-- replies that it got, and leaves that database.
abbrev pub SerialIsAlone : Type 0
SerialIsAlone =
    (plan : PlanData) (before : Database) (items : List HistoryItem) (after : Database)
    → (Serial plan before items after) ↔ (serial_run plan before (map history_step_of items) ≡ Some (record { replies = flat_map replies_given items; tables = after }))
