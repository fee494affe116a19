-- Transactions of clients that ended, one after the other; and what is kept of those that are open.
use Rattle.std.specs.Prelude.{◌≡◌, ℕ, ◌==◌, Bool, true, false, List, [], ◌∷◌, ◌++◌, filter, Option, Some}
use Rattle.std.specs.List.{AllByRecursion, list_any}
use Rattle.std.specs.Str.{bytes_eq}
use Rattle.base_values.specs.declared.event.RowEvent.{RowEvent}
use Rattle.server_locks.specs.declared.row_locks.lock.Lock.{Lock}
use Rattle.std.specs.Option.{option_to_list}
use Rattle.table_store.specs.Databases.{TableRows, Database, find_table, with_change}
use Rattle.base_script.specs.declared.script.ScriptWord.{ScriptWord}
use Rattle.base_script.specs.declared.script.ScriptWord.TheVariants as words
use Rattle.server_model.specs.declared.transaction.EndedTxn.{EndedTxn}
use Rattle.server_model.specs.declared.transaction.TxnLine.{TxnLine}
use Rattle.server_model.specs.declared.transaction.Reply.{Reply}
use Rattle.server_model.specs.LockedRows.Agreement.{Agree}
use Rattle.server_model.specs.LockedRows.Coverage.{Apart}
use Rattle.server_model.specs.LockedRows.Databases.{IsWellFormedDatabase, EventsCovered}
use Rattle.server_model.specs.Operations.{table_of, after_events}
use Rattle.server_model.specs.Alone.{alone}
use Rattle.server_model.specs.LockedRows.Stability.{Stable}

-- a transaction that ended, and the replies to its lines
pub record Past : Type 0 where
  pub txn : EndedTxn
  pub replies : List Reply

-- an item of a history, whosever it is: a transaction of a client ended, or the migrated table was altered
pub data PlainItem : Type 0 where
  Txn : Past → PlainItem
  Alter : PlainItem

-- a database, and the log of what was committed to it
pub record Stored : Type 0 where
  pub tables : Database
  pub log : List RowEvent

-- what a law speaks of: the clients' tables, by name; which sessions are clients'; the tables at the start; the table
-- that is migrated, what becomes of it, and whether it may be exchanged at all
pub record Scene : Type 0 where
  pub mine : List (List ℕ)
  pub client : ℕ → Bool
  pub opening : Database
  pub migrated : List ℕ
  pub altered : TableRows → Option TableRows
  pub exchanges : Bool

-- the name is of a client table
abbrev pub is_mine : Scene → List ℕ → Bool
is_mine scene name = list_any (bytes_eq name) scene.mine

-- the client tables' events of a log
abbrev pub logged : Scene → List RowEvent → List RowEvent
logged scene log = filter (λ event. is_mine scene event.table) log

-- what clients see of what is stored
abbrev pub seen : Scene → Stored → Stored
seen scene now = record { tables = now.tables; log = logged scene now.log }

-- the two databases have the same client tables
pub record FoundAlike (names : List (List ℕ)) (a b : Database) : Type 0 where
  pub each : (name : List ℕ) → list_any (bytes_eq name) names ≡ true → find_table name a ≡ find_table name b

-- ... and the logs are the same
pub record Alike (scene : Scene) (a b : Stored) : Type 0 where
  pub tables : FoundAlike scene.mine a.tables b.tables
  pub log : a.log ≡ b.log

-- the line's table is one of these
abbrev pub NamesTable : List (List ℕ) → ScriptWord → Type 0
NamesTable names (words.Do statement) = list_any (bytes_eq (table_of statement)) names ≡ true
NamesTable names word = Unit {0}

-- the migrated table becomes the altered one, and the other client tables stay
pub record AltersTo (scene : Scene) (before after : Database) : Type 0 where
  pub old : TableRows
  pub new : TableRows
  pub was : find_table scene.migrated before ≡ Some old
  pub made : scene.altered old ≡ Some new
  pub is : find_table scene.migrated after ≡ Some new
  pub others : (name : List ℕ) → is_mine scene name ≡ true → bytes_eq name scene.migrated ≡ false → find_table name after ≡ find_table name before

-- one item leads from the one to the other
abbrev pub Leads : Scene → PlainItem → Stored → Stored → Type 0
Leads scene (Txn past) before after = (past.replies ≡ (alone before.tables past.txn.lines).replies) × (after.tables ≡ (alone before.tables past.txn.lines).tables) × (after.log ≡ before.log ++ (alone before.tables past.txn.lines).committed) × AllByRecursion (λ line. NamesTable scene.mine line.word) past.txn.lines
Leads scene Alter before after = (scene.exchanges ≡ true) × AltersTo scene before.tables after.tables × (after.log ≡ before.log)

-- *Serial*: what happened, one at a time, leads from the one to the other; between two items the client tables and
-- their log stay
abbrev pub Serial : Scene → Stored → List PlainItem → Stored → Type 0
Serial scene before [] after = Alike scene before after
Serial scene before (item ∷ items) after = (start : Stored) × (between : Stored) × Alike scene before start × Leads scene item start between × Serial scene between items after

-- *Tables left*: the tables of these names that exist, in the order of the names
unfoldable pub tables_left : List (List ℕ) → Database → Database
tables_left [] tables = []
tables_left (name ∷ names) tables = option_to_list (find_table name tables) ++ tables_left names tables

-- the client tables, and their log
abbrev pub left : Scene → Stored → Stored
left scene now = record { tables = tables_left scene.mine now.tables; log = logged scene now.log }

-- one item leads from the one to the other, of client tables alone: a transaction as it does alone; the ALTER alters
-- the whole migrated table at once
pub record Alters (scene : Scene) (before after : Database) : Type 0 where
  pub old : TableRows
  pub new : TableRows
  pub was : find_table scene.migrated before ≡ Some old
  pub made : scene.altered old ≡ Some new
  pub is : after ≡ with_change scene.migrated (λ table. new) before

abbrev pub LeadsTo : Scene → PlainItem → Stored → Stored → Type 0
LeadsTo scene (Txn past) before after = (past.replies ≡ (alone before.tables past.txn.lines).replies) × (after.tables ≡ (alone before.tables past.txn.lines).tables) × (after.log ≡ before.log ++ (alone before.tables past.txn.lines).committed)
LeadsTo scene Alter before after = (scene.exchanges ≡ true) × Alters scene before.tables after.tables × (after.log ≡ before.log)

-- *Serial history*: what happened, one at a time, leads from the one to the other
abbrev pub SerialHistory : Scene → Stored → List PlainItem → Stored → Type 0
SerialHistory scene before [] after = after ≡ before
SerialHistory scene before (item ∷ items) after = (between : Stored) × LeadsTo scene item before between × SerialHistory scene between items after

-- what a session holds and wrote in its open transaction
pub record SessionHold : Type 0 where
  pub names : List (List ℕ)
  pub locks : List Lock
  pub writes : List RowEvent

-- the lines of a session's open transaction, and their replies
pub record Going : Type 0 where
  pub lines : List TxnLine
  pub replies : List Reply

abbrev pub no_hold : SessionHold
no_hold = record { names = []; locks = []; writes = [] }

abbrev pub not_going : Going
not_going = record { lines = []; replies = [] }

-- a client's open transaction is stable, and what it wrote is covered
pub record IsSteady (tables : Database) (hold : SessionHold) (going : Going) : Type 0 where
  pub stable : Stable hold.names hold.locks going.lines (record { replies = going.replies; writes = hold.writes }) tables
  pub covered : EventsCovered hold.names hold.locks tables hold.writes

-- *Safe*: on every well-formed database that agrees, what was written leaves a well-formed one.
pub record IsSafe (names : List (List ℕ)) (locks : List Lock) (writes : List RowEvent) (tables : Database) : Type 0 where
  pub each : (other : Database) → IsWellFormedDatabase other → Agree names locks tables other → IsWellFormedDatabase (after_events other writes)

-- what lasts of an open transaction: of a client's, that its lines run so; of the tool's, that its writes leave a well-formed
-- database
abbrev pub IsLasting : Bool → Database → SessionHold → Going → Type 0
IsLasting true tables hold going = Stable hold.names hold.locks going.lines (record { replies = going.replies; writes = hold.writes }) tables
IsLasting false tables hold going = IsSafe hold.names hold.locks hold.writes tables

-- the events are of client tables, or none of them is
abbrev pub EventsMine : Scene → Bool → List RowEvent → Type 0
EventsMine scene own events = AllByRecursion (λ event. is_mine scene event.table ≡ own) events

-- an open transaction lasts, what it wrote is covered, and a client's is of client tables, the tool's of none
pub record IsFine (scene : Scene) (own : Bool) (tables : Database) (hold : SessionHold) (going : Going) : Type 0 where
  pub lasting : IsLasting own tables hold going
  pub covered : EventsCovered hold.names hold.locks tables hold.writes
  pub named : EventsMine scene own hold.writes
  pub lines : AllByRecursion (λ line. NamesTable scene.mine line.word) going.lines

-- all that is kept
pub record IsKept (scene : Scene) (now : Stored) (hold : ℕ → SessionHold) (going : ℕ → Going) (past : List PlainItem) : Type 0 where
  pub well_formed : IsWellFormedDatabase now.tables
  pub serial : Serial scene (record { tables = scene.opening; log = [] }) past (seen scene now)
  pub fine : (n : ℕ) → IsFine scene (scene.client n) now.tables (hold n) (going n)
  pub apart : (m n : ℕ) → (m == n) ≡ false → Apart (hold m).locks (hold n).locks

-- the one is the other but at one number
pub record Besides {A : Type 0} (number : ℕ) (old new : ℕ → A) (own : A) : Type 0 where
  pub there : (n : ℕ) → (n == number) ≡ false → new n ≡ old n
  pub here : new number ≡ own
