-- *Prepared, then executed*: what a statement, or the copy of a row, is to do to the rows of a table is found once, with the rows
-- that it meets. The row locks that it needs and what it gives both follow from that. (MySQL's manual, "Prepared Statements".)
use Rattle.std.specs.Prelude.{◌≡◌, ℕ, List, [], Option, Some, None}
use Rattle.std.specs.Option.{option_map}
use Rattle.base_values.specs.declared.mysql_errors.TheConstants.{ER_NO_SUCH_TABLE}
use Rattle.table_store.specs.Databases.{TableRows, Database, find_table}
use Rattle.server_model.specs.declared.request.Request.{Request}
use Rattle.server_model.specs.declared.request.Request.TheVariants as requests
use Rattle.server_model.specs.declared.work.StatementResult.{StatementResult}
use Rattle.server_model.specs.declared.work.Work.{Work}
use Rattle.server_model.specs.Answers.{refuses}
use Rattle.server_model.specs.Operations.{Operation, copy_operation, operation_needs, operation_of, operation_result}
use Rattle.server_model.specs.LockedRows.Databases.{TaskSound}
use Rattle.server_execute.specs.FoundWork.{found_in}
use Rattle.server_execute.specs.declared.found_work.FoundWork.{FoundWork}
use Rattle.server_transaction.specs.declared.prepared.Prepared.{Prepared}

-- WHAT IS TO BE DONE

-- what an operation is to do to its table, with the rows that it meets; nothing, where that doesn't exist
abbrev pub work_in : Operation → Option TableRows → Option FoundWork
work_in operation found = option_map (λ table. found_in table (operation.work table.schema)) found

-- *Is the work* of an operation on these tables, and makes rows of its table.
pub record IsWorkOf (seen : Database) (operation : Operation) (work : Option FoundWork) : Type 0 where
  pub work_is : work ≡ work_in operation (find_table operation.table seen)
  pub sound : TaskSound operation seen

-- ... and these are the row locks that it needs
pub record IsPrepared (seen : Database) (operation : Operation) (prepared : Prepared) : Type 0 where
  pub work : IsWorkOf seen operation prepared.work
  pub locks : prepared.locks ≡ operation_needs seen operation

-- the work of a request; one that is no statement and copies no row may have any
abbrev pub IsWorkFor : Database → Request → Option FoundWork → Type 0
IsWorkFor seen (requests.Do statement) work = IsWorkOf seen (operation_of statement) work
IsWorkFor seen (requests.CopyRow from into map key) work = IsWorkOf seen (copy_operation seen from into map key) work
IsWorkFor seen request work = Unit {0}

-- WHAT IT GIVES

-- the operation that does known work to the table of this name
abbrev pub known : List ℕ → Work → Operation
known name work = record { table = name; work = λ schema. work }

-- what work gives, done to the table of this name; without a table it is refused
abbrev pub work_result : Database → List ℕ → Option FoundWork → StatementResult
work_result seen name None = record { answer = refuses ER_NO_SUCH_TABLE; events = [] }
work_result seen name (Some found) = operation_result seen (known name found.work)

-- it meets rows of that table, and makes rows of it
abbrev pub IsSoundWork : Database → List ℕ → Option FoundWork → Type 0
IsSoundWork seen name None = Unit {0}
IsSoundWork seen name (Some found) = IsWorkOf seen (known name found.work) (Some found)
