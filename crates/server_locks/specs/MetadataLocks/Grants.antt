-- Which locks on names are granted. Shared and exclusive metadata locks are as MySQL's manual has them ("Metadata Locking"); that all locks of a call are granted whole, and that a waiting exclusive request goes ahead of whatever comes later, is this project's rule.
use Rattle.std.specs.Prelude.{ℕ, Bool, true, false, ◌&&◌, ◌||◌, not, if◌then◌else◌, ◌==◌, nat_eq, List, [], ◌∷◌, Option, Some, None}
use Rattle.std.specs.Cmp.Lexicographic.{pointwise}
use Rattle.std.specs.List.{list_any}
use Rattle.std.specs.Option.{option_map}
use Rattle.server_locks.specs.LeastSession.Least.{least}
use Rattle.server_locks.specs.declared.metadata_locks.request.Waiter.{Waiter}
use Rattle.server_locks.specs.declared.metadata_locks.request.LockAnswer.{LockAnswer}
use Rattle.server_locks.specs.declared.metadata_locks.request.LockAnswer.TheVariants as answers

-- A lock on a name, exclusive or else shared, and the session that holds it.
pub record HeldName : Type 0 where
  pub session : ℕ
  pub name : List ℕ
  pub exclusive : Bool

-- The name is among the names.
abbrev pub has_name : List (List ℕ) → List ℕ → Bool
has_name names name = list_any (λ other. pointwise nat_eq other name) names

-- The lock is on the name, and exclusive where that is asked.
abbrev pub is_on : HeldName → List ℕ → Bool → Bool
is_on held name exclusive = pointwise nat_eq held.name name && (held.exclusive || not exclusive)

-- The session holds the name, exclusively where that is asked.
unfoldable pub holds : List HeldName → ℕ → List ℕ → Bool → Bool
holds held session name exclusive = list_any (λ other. other.session == session && is_on other name exclusive) held

-- The session of the lock, where it is another one and the lock is on the name, exclusive where that is asked.
abbrev pub holding_session : ℕ → List ℕ → Bool → HeldName → Option ℕ
holding_session session name exclusive held = if not (held.session == session) && is_on held name exclusive then Some held.session else None

-- The least other session that holds the name, exclusively where that is asked.
unfoldable pub least_holder : List HeldName → ℕ → List ℕ → Bool → Option ℕ
least_holder [] session name exclusive = None
least_holder (other ∷ held) session name exclusive = least (holding_session session name exclusive other) (least_holder held session name exclusive)

-- The session of the request, where it is another one and waits for the name.
abbrev pub waiting_session : ℕ → List ℕ → Waiter → Option ℕ
waiting_session session name waiter = if not (waiter.session == session) && has_name waiter.names name then Some waiter.session else None

-- The least other session that waits for the name.
unfoldable pub least_waiter : List Waiter → ℕ → List ℕ → Option ℕ
least_waiter [] session name = None
least_waiter (other ∷ waiting) session name = least (waiting_session session name other) (least_waiter waiting session name)

-- A session's request among those that wait: the requests that came before it, and those that came after it.
pub record QueuePlace : Type 0 where
  pub front : List Waiter
  pub request : Waiter
  pub following : List Waiter

-- The place of the session's request, where it has one.
unfoldable pub place_of : ℕ → List Waiter → Option QueuePlace
place_of session [] = None
place_of session (other ∷ waiting) = if other.session == session then Some (record { front = []; request = other; following = waiting }) else option_map (λ place. record { front = other ∷ place.front; request = place.request; following = place.following }) (place_of session waiting)

-- The requests that came before the one at this place; all of them came before one that is still to come.
abbrev pub before : Option QueuePlace → List Waiter → List Waiter
before None waiting = waiting
before (Some place) waiting = place.front

-- The requests that came before the session's.
abbrev pub ahead_of : ℕ → List Waiter → List Waiter
ahead_of session waiting = before (place_of session waiting) waiting

-- The least session that refuses a lock on the name to the session.
-- Shared: who holds it exclusively; and, unless the session holds the name already, who waits for it.
-- Exclusive: nobody where the session holds it exclusively; else who holds it at all, and who came earlier and waits for it.
unfoldable pub blocker_of_name : List HeldName → List Waiter → ℕ → List ℕ → Bool → Option ℕ
blocker_of_name held waiting session name false = least (least_holder held session name true) (if holds held session name false then None else least_waiter waiting session name)
blocker_of_name held waiting session name true = if holds held session name true then None else least (least_holder held session name false) (least_waiter (ahead_of session waiting) session name)

-- The least session that refuses one of the names to the session.
unfoldable pub blocker_of_names : List HeldName → List Waiter → ℕ → Bool → List (List ℕ) → Option ℕ
blocker_of_names held waiting session exclusive [] = None
blocker_of_names held waiting session exclusive (name ∷ names) = least (blocker_of_name held waiting session name exclusive) (blocker_of_names held waiting session exclusive names)

-- Who holds the name exclusively.
unfoldable pub holder_of : List HeldName → List ℕ → Option ℕ
holder_of [] name = None
holder_of (other ∷ held) name = if is_on other name true then Some other.session else holder_of held name

-- The answer where this session refuses, or none does.
abbrev pub answer_by : Option ℕ → LockAnswer
answer_by None = answers.Granted
answer_by (Some by) = answers.Waits by
