-- *What may be asked*: what a call, a poll and a loss ask of who makes them. (This project's rule: the tool and the clients
-- keep to it; names, schemas and sizes are those that an event can be written for.)
use Rattle.std.specs.Prelude.{◌≡◌, ℕ, ◌≤◌, ◌<◌, Bool, true, false, List, [], ◌∷◌, length, ◌&&◌, is_some, Option, Some, None}
use Rattle.std.specs.List.{AllByRecursion, slice_get, flat_map}
use Rattle.base_values.specs.declared.kind.Kind.{Kind}
use Rattle.base_values.specs.StoredValues.{character_count, AreOfKinds}
use Rattle.base_values.specs.Spans.{EndOfKinds, SpanOfKinds}
use Rattle.base_values.specs.declared.gho_schema.schema.Column.{Column}
use Rattle.base_values.specs.declared.gho_schema.schema.Schema.{Schema}
use Rattle.base_values.specs.GhoSchema.Rows.{key_places}
use Rattle.base_values.specs.declared.row_conversion.map.MapColumn.{MapColumn}
use Rattle.base_values.specs.declared.row_conversion.map.Origin.{Origin}
use Rattle.base_values.specs.declared.row_conversion.map.Origin.TheVariants.{Old, Added}
use Rattle.table_store.specs.Databases.{TableRows, Database, find_table}
use Rattle.base_values.specs.SchemaRules.Valid.{IsValid}
use Rattle.base_script.specs.declared.actor.Side.{Side}
use Rattle.server_model.specs.declared.request.Request.{Request}
use Rattle.server_model.specs.declared.request.Request.TheVariants as requests
use Rattle.server_model.specs.declared.entry.Asked.{Asked}
use Rattle.server_model.specs.declared.entry.Asked.TheVariants.{Call, Poll, Cut}
use Rattle.server_model.specs.declared.session.Waiting.{Waiting}
use Rattle.server_model.specs.States.{State, session_of, is_live, is_in_transaction, holds_tables, is_waiting, waiting_of, is_exclusive}
use Rattle.server_model.specs.Blockers.{need, blocker}

-- WHEN A REQUEST MAY COME

-- whether its session is in a transaction, and whether it holds LOCK TABLES
abbrev pub ComesWell : Bool → Bool → Request → Type 0
ComesWell busy locked requests.Begin = (busy ≡ false) × (locked ≡ false)
ComesWell busy locked (requests.BeginSpan table span size) = (busy ≡ false) × (locked ≡ false)
ComesWell busy locked (requests.LockTables names) = (busy ≡ false) × (locked ≡ false)
ComesWell busy locked (requests.Drop name) = busy ≡ false
ComesWell busy locked (requests.Rename pairs) = busy ≡ false
ComesWell busy locked (requests.SetCounter table number) = busy ≡ false
ComesWell busy locked requests.Commit = busy ≡ true
ComesWell busy locked requests.Rollback = busy ≡ true
ComesWell busy locked (requests.CopyRow from into map key) = busy ≡ true
ComesWell busy locked requests.Unlock = locked ≡ true
ComesWell busy locked request = Unit {0}

-- WHAT IT MAY HAVE IN IT

-- a table's name: 1 to 64 characters and at most 255 bytes
pub record IsTableName (name : List ℕ) : Type 0 where
  pub some : 1 ≤ length name
  pub characters : character_count name ≤ 64
  pub bytes : length name ≤ 255

-- a new table's schema: a valid one, of such a name
pub record IsNewSchema (schema : Schema) : Type 0 where
  pub named : IsTableName schema.name
  pub valid : IsValid schema

abbrev pub kind_in : Option Column → List Kind
kind_in None = []
kind_in (Some column) = column.kind ∷ []

-- the kinds of the clustered key's columns
abbrev pub key_kinds : Schema → List Kind
key_kinds schema = flat_map (λ place. kind_in (slice_get schema.columns place)) (key_places schema)

-- a new column's values come from a column that the rows have
abbrev pub IsOrigin : Schema → Origin → Type 0
IsOrigin old (Old place) = place < length old.columns
IsOrigin old (Added value) = Unit {0}

-- the new columns are those of the map, as to what they store
abbrev pub MapsInto : List MapColumn → List Column → Type 0
MapsInto [] [] = Unit {0}
MapsInto (new ∷ map) (column ∷ columns) = (new.kind ≡ column.kind) × (new.nullable ≡ column.nullable) × MapsInto map columns
MapsInto map columns = ⊥

-- the map is of the one table and of the other
pub record IsMapOf (map : List MapColumn) (old new : Schema) : Type 0 where
  pub origins : AllByRecursion (λ column. IsOrigin old column.origin) map
  pub columns : MapsInto map new.columns

-- where a table of the name exists, this holds of its schema
abbrev pub IfExists : (Schema → Type 0) → Option TableRows → Type 0
IfExists P None = Unit {0}
IfExists P (Some table) = P table.schema

-- Sizes are at least 1, keys and ends are of the clustered key's kinds, maps are of their tables, new names are names of
-- tables, and a new schema is one.
abbrev pub IsWellFormed : Database → Request → Type 0
IsWellFormed tables (requests.ChunkEnd table low top size) =
    (1 ≤ size) × IfExists (λ schema. EndOfKinds low (key_kinds schema) × AreOfKinds top (key_kinds schema)) (find_table table tables)
IsWellFormed tables (requests.BeginSpan table span size) = (1 ≤ size) × IfExists (λ schema. SpanOfKinds span (key_kinds schema)) (find_table table tables)
IsWellFormed tables (requests.CopyRow from into map key) =
    IfExists (λ old. AreOfKinds key (key_kinds old) × IfExists (λ new. IsMapOf map old new) (find_table into tables)) (find_table from tables)
IsWellFormed tables (requests.Create schema) = IsNewSchema schema
IsWellFormed tables (requests.Rename pairs) = AllByRecursion (λ pair. IsTableName pair.new) pairs
IsWellFormed tables (requests.ReadLog position limit names) = 1 ≤ limit
IsWellFormed tables request = Unit {0}

-- CALLS, POLLS AND LOSSES

-- *May call*: the session is live and doesn't wait, and the request may come now.
pub record MayCall (state : State) (session : ℕ) (request : Request) : Type 0 where
  pub live : is_live state session ≡ true
  pub idle : is_waiting state session ≡ false
  pub comes : ComesWell (is_in_transaction (session_of session state.sessions)) (holds_tables (session_of session state.sessions)) request
  pub formed : IsWellFormed state.tables request

-- *May poll*: the session is live and waits, and its request is still well formed on the tables that now exist.
pub record MayPoll (state : State) (session : ℕ) : Type 0 where
  pub live : is_live state session ≡ true
  pub waiting : Waiting
  pub waits : waiting_of session state.waiting ≡ Some waiting
  pub formed : IsWellFormed state.tables waiting.request

-- what is lost: nothing between calls; a poll of a session that waits, else a call that it may make
abbrev pub LosesWell : State → ℕ → Option Side → Asked → Type 0
LosesWell state session None asked = asked ≡ Cut
LosesWell state session (Some side) Poll = MayPoll state session
LosesWell state session (Some side) (Call request) = MayCall state session request
LosesWell state session (Some side) asked = ⊥

-- *May lose*: the session is live, and what it asks in that turn is what it may ask.
pub record MayLose (state : State) (session : ℕ) (side : Option Side) (asked : Asked) : Type 0 where
  pub live : is_live state session ≡ true
  pub well : LosesWell state session side asked

-- WHAT TAKES NO MEMORY

-- COMMIT, ROLLBACK and UNLOCK TABLES always succeed
abbrev pub is_free : Request → Bool
is_free requests.Commit = true
is_free requests.Rollback = true
is_free requests.Unlock = true
is_free request = false

-- a poll of a request for exclusive names that another session blocks
abbrev pub is_blocked_exclusive : State → ℕ → Option Waiting → Bool
is_blocked_exclusive state session None = false
is_blocked_exclusive state session (Some waiting) = is_exclusive waiting.request && is_some (blocker state session (need state session waiting.request))

abbrev pub is_freely_polled : State → ℕ → Bool
is_freely_polled state session = is_blocked_exclusive state session (waiting_of session state.waiting)
