-- What holds of all that sessions say.
use Rattle.table_store.specs.Databases.{Database}
use Rattle.base_script.specs.declared.statement.Statement.{Statement}
use Rattle.server_model.specs.Operations.{Operation, statement_result, operation_result}
use Rattle.server_transaction.specs.FittingEvents.{EventsFit}
use Rattle.server_model.specs.LockedRows.Databases.{IsWellFormedDatabase, TaskSound}

-- *What is said fits*: the events of a statement, and of any job that makes rows of its table, fit the tables on which it is
-- said.
abbrev pub SaidEventsFit : Type 0
SaidEventsFit = (tables : Database) (statement : Statement) → IsWellFormedDatabase tables → EventsFit tables (statement_result tables statement).events

abbrev pub OperationEventsFit : Type 0
OperationEventsFit = (tables : Database) (operation : Operation) → TaskSound operation tables → IsWellFormedDatabase tables → EventsFit tables (operation_result tables operation).events
