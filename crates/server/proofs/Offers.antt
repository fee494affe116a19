-- What a session's statement would draw.
use Rattle.std.proofs.Common.{◌≡◌, Bool, true, false, List, Some, None, refl}
use Rattle.table_store.specs.Databases.{TableRows, Database, find_table}
use Rattle.base_script.specs.declared.statement.Statement.{Statement}
use Rattle.server_model.specs.declared.counter.Counter.{Counter}
use Rattle.server_model.specs.Checks.{draws}
use Rattle.server_model.specs.Drawing.{offered_in}
use Rattle.server_model.specs.Operations.{table_of}
use Rattle.server_model.specs.States.{next_of}

pub offers_tool : (tool : Bool) (tables : Database) (counters : List Counter) (statement : Statement) → tool ≡ true → None ≡ offered_in tool tables counters statement
unfolding offered_in
offers_tool tool tables counters statement is = rw is refl

pub offers_missing : (tool : Bool) (tables : Database) (counters : List Counter) (statement : Statement) → find_table (table_of statement) tables ≡ None → None ≡ offered_in tool tables counters statement
unfolding offered_in
offers_missing true tables counters statement none = refl
offers_missing false tables counters statement none = rw none refl

pub offers_next : (tool : Bool) (tables : Database) (counters : List Counter) (statement : Statement) (table : TableRows) → tool ≡ false → find_table (table_of statement) tables ≡ Some table → draws table.schema statement ≡ true → next_of table.schema.name counters ≡ offered_in tool tables counters statement
unfolding offered_in
offers_next tool tables counters statement table client found is = rw (client, found, is) refl

pub offers_none : (tool : Bool) (tables : Database) (counters : List Counter) (statement : Statement) (table : TableRows) → tool ≡ false → find_table (table_of statement) tables ≡ Some table → draws table.schema statement ≡ false → None ≡ offered_in tool tables counters statement
unfolding offered_in
offers_none tool tables counters statement table client found is = rw (client, found, is) refl
