-- The sessions and the requests that wait, with the tables of the locks that they hold and wait for.
use Rattle.std.specs.Prelude.{◌≡◌, ◌==◌, ◌≤◌, ◌⊎◌, ℕ, true, false, List, [], ◌∷◌, is_some, Option, Some, None}
use Rattle.std.specs.List.{AllByRecursion}
use Rattle.server_locks.specs.declared.row_locks.lock.HeldLock.{HeldLock}
use Rattle.server_locks.specs.RowLocks.SameLocks.{HasLock}
use Rattle.server_locks.specs.MetadataLocks.Grants as grants
use Rattle.server_locks.specs.MetadataLocks.LockTable.{NameTable}
use Rattle.server_locks.specs.MetadataLocks.SameNames.{HasName}
use Rattle.server_model.specs.declared.session.HeldName.{HeldName}
use Rattle.server_model.specs.declared.session.Session.{Session}
use Rattle.server_model.specs.declared.session.Waiting.{Waiting}
use Rattle.server_model.specs.States.{session_of, waiters}
use Rattle.server_sessions.specs.LiveSessions.KeptSessions.{ArePlaced, KeptSession, records_of}

-- the live sessions, in the order of connecting, the greatest number that one was given, and the requests that wait
pub record NumberedSessions : Type 0 where
  pub made : ℕ
  pub sessions : List Session
  pub waiting : List Waiting

-- no two sessions have one number
abbrev pub Differ : List Session → Type 0
Differ [] = Unit {0}
Differ (session ∷ sessions) = AllByRecursion (λ other. (other.number == session.number) ≡ false) sessions × Differ sessions

-- No two sessions have one number, or a greater one than was given, and each row lock is a live session's.
pub record AreOwned (made : ℕ) (sessions : List Session) (held : List HeldLock) : Type 0 where
  pub within : AllByRecursion (λ session. session.number ≤ made) sessions
  pub differ : Differ sessions
  pub live : (lock : HeldLock) → HasLock held lock → is_some (session_of lock.session sessions) ≡ true

-- the names that a session holds; none, where it isn't live
abbrev pub names_of : Option Session → List HeldName
names_of None = []
names_of (Some session) = session.names

-- the lock is on one of these names, and held in the same way
abbrev pub HasOwn : List HeldName → grants.HeldName → Type 0
HasOwn [] lock = ⊥
HasOwn (one ∷ names) lock = ((one.name ≡ lock.name) × (one.exclusive ≡ lock.exclusive)) ⊎ HasOwn names lock

-- The table of names has just the locks that the sessions hold.
pub record HaveNames (sessions : List Session) (held : List grants.HeldName) : Type 0 where
  pub there : (lock : grants.HeldName) → HasName held lock → HasOwn (names_of (session_of lock.session sessions)) lock
  pub here : (lock : grants.HeldName) → HasOwn (names_of (session_of lock.session sessions)) lock → HasName held lock

-- The sessions' records have the row locks and the names of the tables, and these have no others; each grant has its place; and
-- the table of names has the requests for exclusive names that wait.
pub record AreInTables (made : ℕ) (sessions : List KeptSession) (waiting : List Waiting) (locks : List HeldLock) (table : NameTable) : Type 0 where
  pub rows : AreOwned made (records_of locks table.held sessions) locks
  pub places : ArePlaced table.held sessions
  pub names : HaveNames (records_of locks table.held sessions) table.held
  pub waits : table.waiting ≡ waiters waiting
