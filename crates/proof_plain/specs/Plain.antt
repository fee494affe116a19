-- *Plain values*: those that can be printed and read back: a number has at most 38 digits, and bytes are bytes. So of the rows of
-- tables, of what is written and asked, and of what the server answers. (This project's rule.)
use Rattle.std.specs.Prelude.{ℕ, ◌<◌, ◌^◌, length, unsigned_abs, List, Option, Some, None}
use Rattle.std.specs.List.{AllByRecursion}
use Rattle.base_values.specs.declared.event.Change.{Change}
use Rattle.base_values.specs.declared.event.Change.TheVariants.{Write, Update, Delete}
use Rattle.base_values.specs.declared.event.RowEvent.{RowEvent}
use Rattle.base_values.specs.declared.gho_schema.schema.Column.{Column}
use Rattle.base_values.specs.declared.row_conversion.map.MapColumn.{MapColumn}
use Rattle.base_values.specs.declared.row_conversion.map.Origin.{Origin}
use Rattle.base_values.specs.declared.row_conversion.map.Origin.TheVariants.{Old, Added}
use Rattle.base_values.specs.declared.value.Value.{Value}
use Rattle.base_values.specs.declared.value.Value.TheVariants.{Null, Num, Text, Blob}
use Rattle.base_script.specs.declared.statement.Shown.{Shown}
use Rattle.base_script.specs.declared.statement.Shown.TheVariants as shown
use Rattle.base_script.specs.declared.statement.Statement.{Statement}
use Rattle.base_script.specs.declared.statement.Statement.TheVariants as statements
use Rattle.table_store.specs.Databases.{Database, TableRows, find_table}
use Rattle.server_model.specs.declared.answer.Answer.{Answer}
use Rattle.server_model.specs.declared.answer.KeyRange.{KeyRange}
use Rattle.server_model.specs.Chunks.{end_key}
use Rattle.server_model.specs.declared.answer.Answer.TheVariants as answers
use Rattle.server_model.specs.declared.counter.Counter.{Counter}
use Rattle.server_model.specs.declared.request.Request.{Request}
use Rattle.server_model.specs.declared.request.Request.TheVariants as requests
use Rattle.server_model.specs.declared.session.Session.{Session}
use Rattle.server_model.specs.declared.session.Waiting.{Waiting}
use Rattle.server_model.specs.LockedRows.Databases.{WhereFound}
use Rattle.server_model.specs.States.{State}

-- ---- values

abbrev pub AreBytes : List ℕ → Type 0
AreBytes bytes = AllByRecursion (λ byte. byte < 256) bytes

-- the bytes of a text, or of bytes, are bytes
abbrev pub HasBytes : Value → Type 0
HasBytes Null = Unit {0}
HasBytes (Num number) = Unit {0}
HasBytes (Text text) = AreBytes text
HasBytes (Blob blob) = AreBytes blob

-- *Plain*: so it is, and a number has at most 38 digits
abbrev pub IsPlain : Value → Type 0
IsPlain Null = Unit {0}
IsPlain (Num number) = unsigned_abs number < 10 ^ 38
IsPlain (Text text) = AreBytes text
IsPlain (Blob blob) = AreBytes blob

abbrev pub IfThere : (Value → Type 0) → Option Value → Type 0
IfThere P None = Unit {0}
IfThere P (Some value) = P value

abbrev pub PlainRow : List Value → Type 0
PlainRow row = AllByRecursion IsPlain row

abbrev pub PlainRows : List (List Value) → Type 0
PlainRows rows = AllByRecursion PlainRow rows

-- with one value at least
abbrev pub ShownRow : List Value → Type 0
ShownRow row = (0 < length row) × PlainRow row

-- ---- tables, and what is written

abbrev pub PlainChange : Change → Type 0
PlainChange (Write row) = PlainRow row
PlainChange (Update before after) = PlainRow before × PlainRow after
PlainChange (Delete row) = PlainRow row

abbrev pub PlainEvents : List RowEvent → Type 0
PlainEvents events = AllByRecursion (λ event. PlainChange event.change) events

-- plain defaults
abbrev pub PlainColumns : List Column → Type 0
PlainColumns columns = AllByRecursion (λ column. IfThere IsPlain column.default) columns

pub record PlainTable (table : TableRows) : Type 0 where
  pub columns : PlainColumns table.schema.columns
  pub rows : PlainRows table.rows

-- each table, and no more rows in any than a number of 63 bits says
abbrev pub PlainDatabase : Database → Type 0
PlainDatabase tables = AllByRecursion PlainTable tables

abbrev pub FewRows : TableRows → Type 0
FewRows table = length table.rows < 2 ^ 63

abbrev pub HasFewRows : Database → Type 0
HasFewRows tables = (name : List ℕ) → WhereFound FewRows (find_table name tables)

-- ---- what is asked

-- some column is named
abbrev pub ShowsSome : Shown → Type 0
ShowsSome (shown.Columns names) = 0 < length names
ShowsSome what = Unit {0}

-- the literals that a statement stores have bytes, and a SELECT shows something
abbrev pub BytesStatement : Statement → Type 0
BytesStatement (statements.Insert table columns values drawn) = AllByRecursion HasBytes values
BytesStatement (statements.Replace table columns values drawn) = AllByRecursion HasBytes values
BytesStatement (statements.Update table sets condition) = AllByRecursion (λ set. HasBytes set.value) sets
BytesStatement (statements.Select table what condition) = ShowsSome what
BytesStatement (statements.Delete table condition) = Unit {0}

-- the values of a key have bytes
abbrev pub BytesKey : List Value → Type 0
BytesKey key = AllByRecursion HasBytes key

abbrev pub BytesRange : Option KeyRange → Type 0
BytesRange None = Unit {0}
BytesRange (Some range) = BytesKey range.greatest

abbrev pub BytesOrigin : Origin → Type 0
BytesOrigin (Old place) = Unit {0}
BytesOrigin (Added value) = HasBytes value

abbrev pub BytesMap : List MapColumn → Type 0
BytesMap columns = AllByRecursion (λ column. BytesOrigin column.origin) columns

-- a number that is there has 64 bits
abbrev pub SmallIf : Option ℕ → Type 0
SmallIf None = Unit {0}
SmallIf (Some number) = number < 2 ^ 64

abbrev pub BytesRequest : Request → Type 0
BytesRequest (requests.Do statement) = BytesStatement statement
BytesRequest (requests.CopyRow from into columns key) = BytesMap columns
BytesRequest (requests.Create schema) = PlainColumns schema.columns × SmallIf schema.start
BytesRequest (requests.SetCounter table number) = number < 2 ^ 64
BytesRequest (requests.ChunkEnd table low top size) = BytesKey top
BytesRequest (requests.BeginSpan table span size) = BytesKey (end_key span.high)
BytesRequest request = Unit {0}

abbrev pub BytesAsked : Option Request → Type 0
BytesAsked None = Unit {0}
BytesAsked (Some request) = BytesRequest request

-- ---- what is answered

-- rows and events are plain, and numbers have 64 bits
abbrev pub PlainAnswer : Answer → Type 0
PlainAnswer (answers.Ok count) = count < 2 ^ 64
PlainAnswer (answers.Rows rows) = (length rows < 2 ^ 64) × AllByRecursion ShownRow rows
PlainAnswer (answers.Refused number column) = number < 2 ^ 64
PlainAnswer (answers.Events events following) = PlainEvents events × (following < 2 ^ 64)
PlainAnswer (answers.At count) = count < 2 ^ 64
PlainAnswer (answers.Ends range) = BytesRange range
PlainAnswer (answers.End key) = BytesKey key
PlainAnswer (answers.Keys keys end) = BytesKey end
PlainAnswer (answers.Waits by) = by < 2 ^ 64
PlainAnswer (answers.TimedOut waited) = waited < 2 ^ 64
PlainAnswer answer = Unit {0}

-- it was done, or refused with a number of 64 bits
abbrev pub IsDone : Answer → Type 0
IsDone (answers.Ok count) = count < 2 ^ 64
IsDone (answers.Refused number column) = number < 2 ^ 64
IsDone answer = ⊥

abbrev pub NoRows : Answer → Type 0
NoRows (answers.Rows rows) = ⊥
NoRows answer = Unit {0}

-- a statement that may draw a number
abbrev pub IsWrite : Statement → Type 0
IsWrite (statements.Insert table columns values drawn) = Unit {0}
IsWrite (statements.Replace table columns values drawn) = Unit {0}
IsWrite statement = ⊥

-- ---- the server

-- a session of a number of 64 bits, which wrote plain values; and a request of such a one
pub record PlainSession (session : Session) : Type 0 where
  pub number : session.number < 2 ^ 64
  pub writes : PlainEvents session.writes

pub record PlainWaiting (one : Waiting) : Type 0 where
  pub number : one.session < 2 ^ 64
  pub request : BytesRequest one.request

abbrev pub SmallCounters : List Counter → Type 0
SmallCounters counters = AllByRecursion (λ counter. counter.next < 2 ^ 64) counters

-- *Plain state*: its tables, its log, what live sessions wrote and what waits; and all its numbers have 64 bits
pub record PlainState (state : State) : Type 0 where
  pub client : state.limits.client_wait < 2 ^ 64
  pub tool : state.limits.tool_wait < 2 ^ 64
  pub tables : PlainDatabase state.tables
  pub log : PlainEvents state.log
  pub waiting : AllByRecursion PlainWaiting state.waiting
  pub sessions : AllByRecursion PlainSession state.sessions
  pub counters : SmallCounters state.counters
