-- Which row locks are granted. Shared and exclusive locks are as MySQL's manual has them ("InnoDB Locking"); that spans refuse each other wherever their ends leave room, rows or none, is this project's rule.
use Rattle.std.specs.Prelude.{ℕ, Bool, ◌&&◌, ◌||◌, not, if◌then◌else◌, ◌==◌, nat_eq, List, [], ◌∷◌, Option, Some, None}
use Rattle.std.specs.Cmp.Lexicographic.{pointwise}
use Rattle.server_locks.specs.LeastSession.Least.{least}
use Rattle.base_values.specs.Spans.{meets}
use Rattle.server_locks.specs.declared.row_locks.lock.Lock.{Lock}
use Rattle.server_locks.specs.declared.row_locks.lock.HeldLock.{HeldLock}
use Rattle.server_locks.specs.declared.row_locks.lock.LockAnswer.{LockAnswer}
use Rattle.server_locks.specs.declared.row_locks.lock.LockAnswer.TheVariants as answers

-- The two locks are on the same key of the same table.
abbrev pub same_place : Lock → Lock → Bool
same_place a b = pointwise nat_eq a.table b.table && a.key == b.key

-- Different sessions can't hold both: they are on the same key, one of them is exclusive, and their spans meet.
unfoldable pub conflict : Lock → Lock → Bool
conflict a b = same_place a b && (a.exclusive || b.exclusive) && meets a.span b.span

-- The session that holds the lock, where that refuses the session's.
unfoldable pub refusal : ℕ → Lock → HeldLock → Option ℕ
refusal session lock held = if not (held.session == session) && conflict held.lock lock then Some held.session else None

-- The least session that refuses the lock to the session.
unfoldable pub blocker_of_lock : List HeldLock → ℕ → Lock → Option ℕ
blocker_of_lock [] session lock = None
blocker_of_lock (other ∷ held) session lock = least (refusal session lock other) (blocker_of_lock held session lock)

-- The least session that refuses one of the locks to the session.
unfoldable pub blocker_of_set : List HeldLock → ℕ → List Lock → Option ℕ
blocker_of_set held session [] = None
blocker_of_set held session (lock ∷ set) = least (blocker_of_lock held session lock) (blocker_of_set held session set)

-- The answer where this session refuses, or none does.
abbrev pub answer_by : Option ℕ → LockAnswer
answer_by None = answers.Granted
answer_by (Some by) = answers.Waits by

-- The answer to a session that asks for the locks: it gets all, or waits for the least session that refuses one.
abbrev pub answer_to : List HeldLock → ℕ → List Lock → LockAnswer
answer_to held session set = answer_by (blocker_of_set held session set)
