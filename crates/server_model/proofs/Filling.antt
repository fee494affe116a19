-- A statement with a number is about the same table, and every other request is filled as it is.
use Rattle.std.proofs.Common.{◌≡◌, ℕ, Bool, true, List, Option, Some, None, refl}
use Rattle.base_script.specs.declared.statement.Statement.{Statement}
use Rattle.base_script.specs.declared.statement.Statement.TheVariants as statements
use Rattle.server_model.specs.declared.request.Request.{Request}
use Rattle.server_model.specs.declared.request.Request.TheVariants as requests
use Rattle.table_store.specs.Databases.{TableRows, Database}
use Rattle.server_model.specs.Operations.{table_of}
use Rattle.server_model.specs.declared.counter.Counter.{Counter}
use Rattle.server_model.specs.States.{names_in, tables_named, is_exclusive}
use Rattle.server_model.specs.Drawing.{numbered, offered_in, filled_for}

pub numbered_table : (number : Option ℕ) (statement : Statement) → table_of (numbered number statement) ≡ table_of statement
numbered_table None statement = refl
numbered_table (Some n) (statements.Insert table columns values drawn) = refl
numbered_table (Some n) (statements.Replace table columns values drawn) = refl
numbered_table (Some n) (statements.Delete table condition) = refl
numbered_table (Some n) (statements.Update table sets condition) = refl
numbered_table (Some n) (statements.Select table shown condition) = refl

-- what holds of a request and itself, and of a statement and the same with a number, holds of a request and the filled one
pub filled_case : (P : Request → Request → Type 0) → ((request : Request) → P request request) → ((statement : Statement) (number : Option ℕ) → P (requests.Do statement) (requests.Do (numbered number statement))) → (tool : Bool) (tables : Database) (counters : List Counter) (request : Request) → P request (filled_for tool tables counters request)
filled_case P same numbers tool tables counters (requests.Do statement) = numbers statement (offered_in tool tables counters statement)
filled_case P same numbers tool tables counters requests.Begin = same requests.Begin
filled_case P same numbers tool tables counters requests.Commit = same requests.Commit
filled_case P same numbers tool tables counters requests.Rollback = same requests.Rollback
filled_case P same numbers tool tables counters (requests.Ends table) = same (requests.Ends table)
filled_case P same numbers tool tables counters (requests.ChunkEnd table low top size) = same (requests.ChunkEnd table low top size)
filled_case P same numbers tool tables counters (requests.BeginSpan table span size) = same (requests.BeginSpan table span size)
filled_case P same numbers tool tables counters (requests.CopyRow from into map key) = same (requests.CopyRow from into map key)
filled_case P same numbers tool tables counters (requests.LockTables names) = same (requests.LockTables names)
filled_case P same numbers tool tables counters requests.Unlock = same requests.Unlock
filled_case P same numbers tool tables counters (requests.Create schema) = same (requests.Create schema)
filled_case P same numbers tool tables counters (requests.Drop name) = same (requests.Drop name)
filled_case P same numbers tool tables counters (requests.Rename pairs) = same (requests.Rename pairs)
filled_case P same numbers tool tables counters requests.LogEnd = same requests.LogEnd
filled_case P same numbers tool tables counters (requests.ReadLog position limit names) = same (requests.ReadLog position limit names)
filled_case P same numbers tool tables counters requests.ShowTables = same requests.ShowTables
filled_case P same numbers tool tables counters requests.ShowWaiting = same requests.ShowWaiting
filled_case P same numbers tool tables counters (requests.ShowCounter table) = same (requests.ShowCounter table)
filled_case P same numbers tool tables counters (requests.SetCounter table number) = same (requests.SetCounter table number)

pub filled_exclusive : (tool : Bool) (tables : Database) (counters : List Counter) (request : Request) → is_exclusive (filled_for tool tables counters request) ≡ is_exclusive request
filled_exclusive tool tables counters request = filled_case (λ asked full. is_exclusive full ≡ is_exclusive asked) (λ r. refl) (λ s n. refl) tool tables counters request

-- the tool's requests are filled as they are
pub filled_tool : (tables : Database) (counters : List Counter) (request : Request) → filled_for true tables counters request ≡ request
unfolding offered_in
filled_tool tables counters (requests.Do statement) = refl
filled_tool tables counters requests.Begin = refl
filled_tool tables counters requests.Commit = refl
filled_tool tables counters requests.Rollback = refl
filled_tool tables counters (requests.Ends table) = refl
filled_tool tables counters (requests.ChunkEnd table low top size) = refl
filled_tool tables counters (requests.BeginSpan table span size) = refl
filled_tool tables counters (requests.CopyRow from into map key) = refl
filled_tool tables counters (requests.LockTables names) = refl
filled_tool tables counters requests.Unlock = refl
filled_tool tables counters (requests.Create schema) = refl
filled_tool tables counters (requests.Drop name) = refl
filled_tool tables counters (requests.Rename pairs) = refl
filled_tool tables counters requests.LogEnd = refl
filled_tool tables counters (requests.ReadLog position limit names) = refl
filled_tool tables counters requests.ShowTables = refl
filled_tool tables counters requests.ShowWaiting = refl
filled_tool tables counters (requests.ShowCounter table) = refl
filled_tool tables counters (requests.SetCounter table number) = refl

-- what needs its names exclusively is filled as it is
pub filled_taking : (tool : Bool) (tables : Database) (counters : List Counter) (request : Request) → is_exclusive request ≡ true → filled_for tool tables counters request ≡ request
filled_taking tool tables counters request = filled_case (λ asked full. is_exclusive asked ≡ true → full ≡ asked) (λ r takes. refl) (λ statement n takes. absurd cc) tool tables counters request
