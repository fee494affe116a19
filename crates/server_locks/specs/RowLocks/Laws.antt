-- What holds of the table of row locks whatever calls were made. The functions of the module `laws` prove each.
use Rattle.std.specs.Prelude.{◌≡◌, ◌≢◌, ℕ, false, List, [], ◌++◌, map, fold, None, AllPairs, ◌⊎◌}
use Rattle.server_locks.specs.declared.row_locks.lock.Lock.{Lock}
use Rattle.server_locks.specs.declared.row_locks.lock.HeldLock.{HeldLock}
use Rattle.server_locks.specs.declared.row_locks.lock.LockAnswer.TheVariants as answers
use Rattle.server_locks.specs.RowLocks.Grants.{conflict, answer_to}
use Rattle.server_locks.specs.RowLocks.LockTable.{LockTable, held_by, asked, freed, undone}

-- A call that may change the table.
pub data Call : Type 0 where
  Ask : ℕ → List Lock → Call
  Free : ℕ → Call
  Undo : Call

-- After one call.
abbrev pub called : LockTable → Call → LockTable
called t (Ask session set) = asked t session set
called t (Free session) = freed t session
called t Undo = undone t

-- No lock is held.
abbrev pub no_locks : LockTable
no_locks = record { held = []; last = None }

-- Two locks that are held are compatible: one session holds both, or they don't conflict.
abbrev pub Bear : HeldLock → HeldLock → Type 0
Bear a b = a.session ≢ b.session → conflict a.lock b.lock ≡ false

-- Locks that different sessions hold never conflict, whatever list of calls was made.
abbrev pub HeldLocksBear : Type 0
HeldLocksBear = (calls : List Call) → AllPairs Bear (fold called no_locks calls).held

-- Which of two locks is held first doesn't matter.
abbrev pub ConflictBothWays : Type 0
ConflictBothWays = (a b : Lock) → conflict a b ≡ conflict b a

-- What is asked for is granted whole, where the answer says so, or not at all.
abbrev pub GrantsWhole : Type 0
GrantsWhole =
    (t : LockTable) (session : ℕ) (set : List Lock)
    → ((answer_to t.held session set ≡ answers.Granted) × ((asked t session set).held ≡ t.held ++ map (held_by session) set))
    ⊎ ((answer_to t.held session set ≢ answers.Granted) × (asked t session set ≡ t))
