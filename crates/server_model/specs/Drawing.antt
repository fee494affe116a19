-- *Drawing*: the number that a session's statement would draw, and the statement with it. (MySQL's manual, "Using
-- AUTO_INCREMENT"; which refusals come before a number is drawn is this project's rule.)
use Rattle.std.specs.Prelude.{ℕ, Bool, true, false, if◌then◌else◌, List, Option, Some, None}
use Rattle.table_store.specs.Databases.{TableRows, Database, find_table}
use Rattle.base_script.specs.declared.statement.Statement.{Statement}
use Rattle.base_script.specs.declared.statement.Statement.TheVariants as statements
use Rattle.server_model.specs.declared.request.Request.{Request}
use Rattle.server_model.specs.declared.request.Request.TheVariants as requests
use Rattle.server_model.specs.Checks.{draws}
use Rattle.server_model.specs.Operations.{table_of}
use Rattle.server_model.specs.declared.counter.Counter.{Counter}
use Rattle.server_model.specs.States.{State, session_of, is_of_tool, next_of}

-- THE STATEMENT WITH ITS NUMBER

-- *Numbered*: the statement with the number that is drawn for it
abbrev pub numbered : Option ℕ → Statement → Statement
numbered None statement = statement
numbered (Some number) (statements.Insert table columns values drawn) = statements.Insert table columns values (Some number)
numbered (Some number) (statements.Replace table columns values drawn) = statements.Replace table columns values (Some number)
numbered (Some number) statement = statement

abbrev pub offered_of : Bool → Option TableRows → List Counter → Statement → Option ℕ
offered_of true table counters statement = None
offered_of false None counters statement = None
offered_of false (Some table) counters statement = if draws table.schema statement then next_of table.schema.name counters else None

-- *Offered number*: the counter of the statement's table, where a client's statement would draw it now. The tool's never draws.
unfoldable pub offered_in : Bool → Database → List Counter → Statement → Option ℕ
offered_in tool tables counters statement = offered_of tool (find_table (table_of statement) tables) counters statement

abbrev pub offered : State → ℕ → Statement → Option ℕ
offered state number statement = offered_in (is_of_tool (session_of number state.sessions)) state.tables state.counters statement

-- *Filled request*: a request as it would be done now. A request that waits is kept as it was asked, and filled anew at each
-- poll.
abbrev pub filled_for : Bool → Database → List Counter → Request → Request
filled_for tool tables counters (requests.Do statement) = requests.Do (numbered (offered_in tool tables counters statement) statement)
filled_for tool tables counters request = request

abbrev pub filled : State → ℕ → Request → Request
filled state number request = filled_for (is_of_tool (session_of number state.sessions)) state.tables state.counters request
