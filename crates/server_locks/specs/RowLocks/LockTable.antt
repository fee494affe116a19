-- The table of row locks, and what each call leaves of it. Locks are held until their session's transaction ends (MySQL's manual, "InnoDB Transaction Model and Locking").
use Rattle.std.specs.Prelude.{◌≡◌, ℕ, Bool, true, false, not, ◌==◌, List, ◌++◌, map, filter, Option, Some, None, IsSomeAnd}
use Rattle.std.specs.List.{list_any}
use Rattle.server_locks.specs.declared.row_locks.lock.Lock.{Lock}
use Rattle.server_locks.specs.declared.row_locks.lock.HeldLock.{HeldLock}
use Rattle.server_locks.specs.RowLocks.Grants.{blocker_of_set}

-- An ask that was granted, and what was held before it.
pub record LastAsk : Type 0 where
  pub session : ℕ
  pub before : List HeldLock

-- The locks that are held, in the order in which they were granted; and the last change, where it was an ask.
pub record LockTable : Type 0 where
  pub held : List HeldLock
  pub last : Option LastAsk

-- The lock, held by the session.
abbrev pub held_by : ℕ → Lock → HeldLock
held_by session lock = record { session = session; lock = lock }

-- All the locks of the set are granted to the session.
abbrev pub granted : LockTable → ℕ → List Lock → LockTable
granted t session set = record { held = t.held ++ map (held_by session) set; last = Some (record { session = session; before = t.held }) }

-- They are granted where this says that no session refuses one.
abbrev pub granted_unless : Option ℕ → LockTable → ℕ → List Lock → LockTable
granted_unless None t session set = granted t session set
granted_unless (Some by) t session set = t

-- After the session asked for the locks.
abbrev pub asked : LockTable → ℕ → List Lock → LockTable
asked t session set = granted_unless (blocker_of_set t.held session set) t session set

-- Where the session holds something, its locks are taken away.
abbrev pub freed_if : Bool → LockTable → ℕ → LockTable
freed_if true t session = record { held = filter (λ held. not (held.session == session)) t.held; last = None }
freed_if false t session = t

-- After all that the session holds was taken away.
abbrev pub freed : LockTable → ℕ → LockTable
freed t session = freed_if (list_any (λ held. held.session == session) t.held) t session

-- What stood before the ask, or the table where there was none.
abbrev pub before_ask : Option LastAsk → LockTable → LockTable
before_ask None t = t
before_ask (Some ask) t = record { held = ask.before; last = None }

-- After the last ask was taken back.
abbrev pub undone : LockTable → LockTable
undone t = before_ask t.last t

-- The last change was the session's ask.
abbrev pub IsLastAskOf : ℕ → LockTable → Type 0
IsLastAskOf session t = IsSomeAnd t.last (λ ask. ask.session ≡ session)
