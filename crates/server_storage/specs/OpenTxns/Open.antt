-- The open transactions of sessions.
use Rattle.std.specs.Prelude.{◌≡◌, ℕ, ◌==◌, not, if◌then◌else◌, List, [], ◌∷◌, ◌++◌, filter, find, Option, Some, None, IfSome}
use Rattle.std.specs.List.{sum_by}
use Rattle.base_values.specs.declared.event.RowEvent.{RowEvent}
use Rattle.server_transaction.specs.Rooms.{puts_in}
use Rattle.server_transaction.specs.Shown.{find_writes}
use Rattle.server_transaction.specs.Stored.{StoredTxn, TableChanges, HasRoom, events_in, schemas, schemas_with}
use Rattle.server_storage.specs.declared.open_txns.txns.OpenTxn.{OpenTxn}

-- the open transaction of the session of this number
abbrev pub txn_of : ℕ → List OpenTxn → Option OpenTxn
txn_of number txns = find (λ one. one.session == number) txns

-- the open transactions of other sessions
abbrev pub others : ℕ → List OpenTxn → List OpenTxn
others number txns = filter (λ one. not (one.session == number)) txns

-- how many rows the commits of the open transactions may put into the table of this name
abbrev pub puts_open : List ℕ → List OpenTxn → ℕ
puts_open name txns = sum_by (λ one. puts_in name one.txn.events) txns

-- at most one open transaction a session
abbrev pub OneEach : List OpenTxn → Type 0
OneEach [] = Unit {0}
OneEach (one ∷ txns) = (txn_of one.session txns ≡ None) × OneEach txns

-- what the session of this number wrote, in order; nothing, where it has no open transaction
abbrev pub written_in : Option OpenTxn → List RowEvent
written_in None = []
written_in (Some one) = one.txn.events

abbrev pub written_of : ℕ → List OpenTxn → List RowEvent
written_of number txns = written_in (txn_of number txns)

-- the open transactions, where that of the session of this number has become this one
unfoldable pub with_txn : ℕ → StoredTxn → List OpenTxn → List OpenTxn
with_txn number txn [] = []
with_txn number txn (one ∷ txns) = if one.session == number then record { session = one.session; txn = txn } ∷ txns else one ∷ with_txn number txn txns

-- *Opened*: one open transaction more, of this session, which wrote nothing yet.
pub record IsOpened (number : ℕ) (before after : List OpenTxn) : Type 0 where
  pub txn : StoredTxn
  pub events : txn.events ≡ []
  pub tables : txn.tables ≡ []
  pub after_is : after ≡ before ++ record { session = number; txn = txn } ∷ []

-- *Another one of a session*: its open transaction has become this one, and all others are as they were.
pub record IsChanged (number : ℕ) (was now : StoredTxn) (before after : List OpenTxn) : Type 0 where
  pub found : OpenTxn
  pub there : txn_of number before ≡ Some found
  pub was_is : was ≡ found.txn
  pub after_is : after ≡ with_txn number now before

-- *Reserved*: only the room of the session's transaction has changed.
pub record IsReserved (number : ℕ) (before after : List OpenTxn) : Type 0 where
  pub was : StoredTxn
  pub now : StoredTxn
  pub changed : IsChanged number was now before after
  pub events : now.events ≡ was.events
  pub schemas_are : schemas now.tables ≡ schemas was.tables

-- *Written*: the session's transaction has these changes of a table after what it had.
pub record IsWritten (number : ℕ) (writes : TableChanges) (before after : List OpenTxn) : Type 0 where
  pub was : StoredTxn
  pub now : StoredTxn
  pub changed : IsChanged number was now before after
  pub events : now.events ≡ was.events ++ events_in writes
  pub schemas_are : schemas now.tables ≡ schemas_with writes.schema (schemas was.tables)

-- *Takes*: the transaction has room for the changes of a table, which it knows by this schema.
pub record Takes (writes : TableChanges) (txn : StoredTxn) : Type 0 where
  pub room : HasRoom txn writes
  pub schema : IfSome (find_writes writes.schema.name txn.tables) (λ table. table.schema ≡ writes.schema)
