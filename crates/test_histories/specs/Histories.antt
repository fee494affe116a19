-- *A history alone*: what happened, one thing after the other, with nobody beside it. (MySQL's manual, "Transaction
-- Isolation Levels", under SERIALIZABLE; the order is that in which transactions ended, this project's rule.)
use Rattle.std.specs.Prelude.{List, [], ◌∷◌, ◌++◌, Option, Some, None}
use Rattle.std.specs.List.{AllByRecursion}
use Rattle.std.specs.Option.{option_and_then}
use Rattle.table_store.specs.Databases.{Database}
use Rattle.base_values.specs.SchemaRules.Valid.{IsValid}
use Rattle.server_model.specs.Alone.{alone}
use Rattle.server_model.specs.declared.transaction.Reply.{Reply}
use Rattle.plan_data.specs.PlanData.{PlanData}
use Rattle.tool_program.specs.JournalWords.Histories.{HistoryItem}
use Rattle.tool_program.specs.JournalWords.Histories as histories
use Rattle.tool_program.specs.JournalWords.Serials.{altered_database}
use Rattle.test_histories.specs.declared.histories.HistoryStep.{HistoryStep}
use Rattle.test_histories.specs.declared.histories.HistoryStep.TheVariants.{Txn, Alter}
use Rattle.test_histories.specs.declared.histories.InOrder.{InOrder}

-- the replies of these transactions in front of those of the later ones
abbrev pub with_replies : List (List Reply) → Option InOrder → Option InOrder
with_replies front None = None
with_replies front (Some later) = Some (record { replies = front ++ later.replies; tables = later.tables })

-- *A history alone*: a list of replies a transaction, and the tables that are left; none where the ALTER can't be done.
unfoldable pub serial_run : PlanData → Database → List HistoryStep → Option InOrder
serial_run plan tables [] = Some (record { replies = []; tables = tables })
serial_run plan tables (Txn lines ∷ history_steps) = with_replies ((alone tables lines).replies ∷ []) (serial_run plan (alone tables lines).tables history_steps)
serial_run plan tables (Alter ∷ history_steps) = option_and_then (λ after. serial_run plan after history_steps) (altered_database plan tables)

-- what becomes of a run that came so far, where this is still to happen
abbrev pub goes_on : PlanData → List HistoryStep → Option InOrder → Option InOrder
goes_on plan history_steps None = None
goes_on plan history_steps (Some so_far) = with_replies so_far.replies (serial_run plan so_far.tables history_steps)

-- each table's schema is valid
abbrev pub AreValid : Database → Type 0
AreValid tables = AllByRecursion (λ table. IsValid table.schema) tables

abbrev pub IfValid : Option InOrder → Type 0
IfValid None = Unit {0}
IfValid (Some so_far) = AreValid so_far.tables

-- what a history lists, without the replies that were given
abbrev pub history_step_of : HistoryItem → HistoryStep
history_step_of (histories.Txn past) = Txn past.txn.lines
history_step_of histories.Alter = Alter

-- the replies that were given, a list a transaction
abbrev pub replies_given : HistoryItem → List (List Reply)
replies_given (histories.Txn past) = past.replies ∷ []
replies_given histories.Alter = []
