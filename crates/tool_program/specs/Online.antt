-- *Online*: the clients' table is used while the migration goes on, and changed by two calls alone. (gh-ost, "Triggerless
-- design", "Throttle", "Cut-over".)
use Rattle.std.specs.Prelude.{◌≡◌, ℕ, ◌+◌, nat_le, Bool, true, false, ◌&&◌, ◌||◌, not, if◌then◌else◌, List, [], fold, Option, Some, None}
use Rattle.std.specs.List.{list_any, list_all}
use Rattle.std.specs.Str.{bytes_eq}
use Rattle.base_script.specs.declared.actor.Actor.{Actor}
use Rattle.base_script.specs.declared.actor.Actor.TheVariants.{Copy, Apply, Lock, Ren, Client}
use Rattle.base_script.specs.declared.operator.OperatorWord.{OperatorWord}
use Rattle.base_script.specs.declared.operator.OperatorWord.TheVariants.{ChunkSize}
use Rattle.base_script.specs.declared.statement.Statement.{Statement}
use Rattle.base_script.specs.declared.statement.Statement.TheVariants as statements
use Rattle.server_model.specs.Along.{Along}
use Rattle.server_model.specs.declared.request.Request.{Request}
use Rattle.server_model.specs.declared.request.Request.TheVariants as requests
use Rattle.server_model.specs.declared.entry.Asked.{Asked}
use Rattle.server_model.specs.declared.entry.Asked.TheVariants.{Call, Command}
use Rattle.server_model.specs.declared.entry.Entry.{Entry}
use Rattle.server_model.specs.Entries.{request_in}
use Rattle.server_model.specs.Operations.{table_of}
use Rattle.server_model.specs.States.{names_in, is_exclusive, tables_named}
use Rattle.plan_data.specs.PlanData.{PlanData}
use Rattle.base_values.specs.ToolNames.{ghost_name, log_name, is_tool_name}
use Rattle.tool_program.specs.CutoverCore.CutOvers.{stands, may_succeed}
use Rattle.tool_program.specs.Operators.{is_throttled}
use Rattle.tool_program.specs.Tools.{ToolPhase, SettingUp, Migrating, Moment, moment}
use Rattle.tool_program.specs.Programs.{unread_in}

-- a table that the tool writes rows of: the new one, and the changelog, which has the hints and the notes
abbrev pub is_written : PlanData → List ℕ → Bool
is_written plan name = bytes_eq name (ghost_name plan.table) || bytes_eq name (log_name plan.table)

abbrev pub only_reads : Statement → Bool
only_reads (statements.Select table shown condition) = true
only_reads statement = false

-- a call writes rows of these two alone, and sets no other counter
abbrev pub writes_own : PlanData → Request → Bool
writes_own plan (requests.Do statement) = only_reads statement || is_written plan (table_of statement)
writes_own plan (requests.CopyRow from into map key) = is_written plan into
writes_own plan (requests.SetCounter table number) = is_written plan table
writes_own plan request = true

-- a call names no table of clients but the migrated one
abbrev pub names_own : PlanData → Request → Bool
names_own plan request = list_all (λ name. bytes_eq name plan.table || is_tool_name plan.table name) (tables_named request)

-- the chunk size that the operator set last
abbrev pub sized : OperatorWord → ℕ → ℕ
sized (ChunkSize size) old = size
sized word old = old

-- since the last call that asked where a chunk ends: the size that stood there, and how many rows were copied
pub record Copied : Type 0 where
  pub standing : ℕ
  pub size : ℕ
  pub rows : ℕ

abbrev pub copied_after : Asked → Copied → Copied
copied_after (Command word) copied = record copied { standing = sized word copied.standing }
copied_after (Call (requests.ChunkEnd table low top size)) copied = record copied { size = copied.standing; rows = 0 }
copied_after (Call (requests.CopyRow from into map key)) copied = record copied { rows = copied.rows + 1 }
copied_after asked copied = copied

unfoldable pub copied_at : PlanData → List Entry → Copied
copied_at plan journal = fold (λ copied entry. copied_after entry.asked copied) (record { standing = plan.options.chunk_size; size = 0; rows = 0 }) journal

-- *Chunks are small*: no chunk copies more rows than the size that stood when its end was asked for
abbrev pub is_small : PlanData → List Entry → Request → Bool
is_small plan before (requests.CopyRow from into map key) = nat_le ((copied_at plan before).rows + 1) (copied_at plan before).size
is_small plan before request = true

-- the names that a request needs exclusively
abbrev pub asked_exclusively : Request → List (List ℕ)
asked_exclusively request = if is_exclusive request then names_in request else []

-- the lock on the tables, and the RENAME
abbrev pub may_exclude : Actor → Request → Bool
may_exclude Lock (requests.LockTables names) = true
may_exclude Ren (requests.Rename pairs) = true
may_exclude actor request = false

-- an attempt at the cut-over runs, and may still succeed
abbrev pub attempt_goes_on : ToolPhase → Bool
attempt_goes_on (SettingUp setup tries) = false
attempt_goes_on (Migrating work) = may_succeed work.cutover.phase

-- the migrated table is asked for exclusively by these two alone, inside an attempt
abbrev pub excludes_well : PlanData → Moment → Actor → Request → Bool
excludes_well plan now actor request =
    if list_any (bytes_eq plan.table) (asked_exclusively request) then may_exclude actor request && attempt_goes_on now.tool.tool_phase else true

-- the copy is done and few events are unread
abbrev pub is_near : PlanData → Moment → ToolPhase → Bool
is_near plan now (SettingUp setup tries) = false
is_near plan now (Migrating work) = work.copier.is_copied && nat_le (unread_in now.server work) plan.options.max_backlog

-- the sentry is made only then
abbrev pub guards_well : PlanData → Moment → Actor → Request → Bool
guards_well plan now Lock (requests.Create schema) = is_near plan now now.tool.tool_phase
guards_well plan now actor request = true

abbrev pub attempt_stands : ToolPhase → Bool
attempt_stands (SettingUp setup tries) = false
attempt_stands (Migrating work) = stands work.cutover.phase

-- to ask where a chunk ends, to make the sentry, and outside an attempt to read the log
abbrev pub is_throttleable : Moment → Actor → Request → Bool
is_throttleable now Copy (requests.ChunkEnd table low top size) = true
is_throttleable now Lock (requests.Create schema) = true
is_throttleable now Apply (requests.ReadLog position limit tables) = not (attempt_stands now.tool.tool_phase)
is_throttleable now actor request = false

abbrev pub holds_back : PlanData → Moment → Actor → Request → Bool
holds_back plan now actor request = if is_throttleable now actor request then not (is_throttled plan now.server now.tool.operator) else true

-- a call of the tool's
pub record IsOnlineCall (plan : PlanData) (before : List Entry) (actor : Actor) (request : Request) : Type 0 where
  pub writes : writes_own plan request ≡ true
  pub names : names_own plan request ≡ true
  pub small : is_small plan before request ≡ true
  pub excludes : excludes_well plan (moment plan before) actor request ≡ true
  pub guards : guards_well plan (moment plan before) actor request ≡ true
  pub held : holds_back plan (moment plan before) actor request ≡ true

abbrev pub IsOnlineTurn : PlanData → List Entry → Actor → Option Request → Type 0
IsOnlineTurn plan before (Client client) request = Unit {0}
IsOnlineTurn plan before actor None = Unit {0}
IsOnlineTurn plan before actor (Some request) = IsOnlineCall plan before actor request

unfoldable pub IsOnline : PlanData → List Entry → Type 0
IsOnline plan journal = Along (λ before entry. IsOnlineTurn plan before entry.actor (request_in entry.asked)) [] journal
