-- The table of locks on names, and what each call leaves of it.
use Rattle.std.specs.Prelude.{◌≡◌, ℕ, Bool, true, false, ◌&&◌, ◌||◌, not, ◌==◌, nat_eq, List, [], ◌∷◌, ◌++◌, map, filter, Option, Some, None, IsSomeAnd, is_some, if◌then◌else◌}
use Rattle.std.specs.Cmp.Lexicographic.{pointwise}
use Rattle.std.specs.List.{list_any, position_or_len}
use Rattle.server_locks.specs.declared.metadata_locks.request.Waiter.{Waiter}
use Rattle.server_locks.specs.MetadataLocks.Grants.{HeldName, QueuePlace, holds, place_of, blocker_of_names}

-- The last call that changed the table, where it was an ask or a poll: whose, whether for exclusive locks, and what was held and what waited before it.
pub record LastAsk : Type 0 where
  pub session : ℕ
  pub exclusive : Bool
  pub held : List HeldName
  pub waiting : List Waiter

-- The locks that are held, in the order in which they were granted; the requests that wait, in the order in which they came; and the last ask or poll, where nothing changed since.
pub record NameTable : Type 0 where
  pub held : List HeldName
  pub waiting : List Waiter
  pub last : Option LastAsk

-- A lock on the name, held by the session.
abbrev pub held_by : ℕ → Bool → List ℕ → HeldName
held_by session exclusive name = record { session = session; name = name; exclusive = exclusive }

-- What a granted request adds. Shared: the names that the session doesn't hold yet. Exclusive: all its names.
abbrev pub added : List HeldName → ℕ → Bool → List (List ℕ) → List HeldName
added held session true names = map (held_by session true) names
added held session false names = map (held_by session false) (filter (λ name. not (holds held session name false)) names)

-- The session has a shared lock on the name, whether or not it holds it exclusively too.
unfoldable pub shares : List HeldName → ℕ → List ℕ → Bool
shares held session name = list_any (λ other. other.session == session && (pointwise nat_eq other.name name && not other.exclusive)) held

-- What is granted to who tested it. Shared: the names on which the session has no shared lock yet, those included that it holds
-- exclusively, since it holds them shared once it let go of those. Exclusive: all its names.
abbrev pub taken : List HeldName → ℕ → Bool → List (List ℕ) → List HeldName
taken held session true names = map (held_by session true) names
taken held session false names = map (held_by session false) (filter (λ name. not (shares held session name)) names)

-- The table as it is, as the last ask or poll finds it.
abbrev pub last_of : NameTable → ℕ → Bool → Option LastAsk
last_of t session exclusive = Some (record { session = session; exclusive = exclusive; held = t.held; waiting = t.waiting })

-- After a request for exclusive locks was refused: it waits after all others.
abbrev pub lined_up : NameTable → ℕ → List (List ℕ) → NameTable
lined_up t session names = record { held = t.held; waiting = t.waiting ++ record { session = session; names = names } ∷ []; last = last_of t session true }

-- After the locks were added.
abbrev pub with_added : NameTable → ℕ → Bool → List HeldName → NameTable
with_added t session exclusive more = record { held = t.held ++ more; waiting = t.waiting; last = last_of t session exclusive }

-- After the session was granted the names for which it tested the table before.
abbrev pub granted : NameTable → ℕ → Bool → List (List ℕ) → NameTable
granted t session exclusive names = with_added t session exclusive (taken t.held session exclusive names)

-- After an ask, where this session refuses, or none does: the locks are held, an exclusive request waits after all others, a
-- shared one leaves no trace.
abbrev pub asked_by : Option ℕ → NameTable → ℕ → Bool → List (List ℕ) → NameTable
asked_by None t session exclusive names = record { held = t.held ++ added t.held session exclusive names; waiting = t.waiting; last = last_of t session exclusive }
asked_by (Some by) t session true names = lined_up t session names
asked_by (Some by) t session false names = t

-- The least session that refuses what the session asks for.
abbrev pub blocker_of : NameTable → ℕ → Bool → List (List ℕ) → Option ℕ
blocker_of t session exclusive names = blocker_of_names t.held t.waiting session exclusive names

-- After the session asked.
abbrev pub asked : NameTable → ℕ → Bool → List (List ℕ) → NameTable
asked t session exclusive names = asked_by (blocker_of t session exclusive names) t session exclusive names

-- After the session polled its request at this place, where this session refuses, or none does: the locks are held and the request waits no more.
abbrev pub polled_by : Option ℕ → NameTable → ℕ → QueuePlace → NameTable
polled_by None t session place = record { held = t.held ++ added t.held session true place.request.names; waiting = place.front ++ place.following; last = last_of t session true }
polled_by (Some by) t session place = t

-- The least session that refuses the session's request at this place, where it has one.
abbrev pub blocker_at : NameTable → ℕ → Option QueuePlace → Option ℕ
blocker_at t session None = None
blocker_at t session (Some place) = blocker_of t session true place.request.names

-- The least session that refuses the session's request.
abbrev pub blocker_of_poll : NameTable → ℕ → Option ℕ
blocker_of_poll t session = blocker_at t session (place_of session t.waiting)

-- After the session polled its request at this place, where it has one.
abbrev pub polled_at : NameTable → ℕ → Option QueuePlace → NameTable
polled_at t session None = t
polled_at t session (Some place) = polled_by (blocker_at t session (Some place)) t session place

-- After the session polled.
abbrev pub polled : NameTable → ℕ → NameTable
polled t session = polled_at t session (place_of session t.waiting)

-- Whether the session has a request that waits.
abbrev pub waits : NameTable → ℕ → Bool
waits t session = is_some (place_of session t.waiting)

-- The requests but the one at this place.
abbrev pub without : Option QueuePlace → List Waiter → List Waiter
without None waiting = waiting
without (Some place) waiting = place.front ++ place.following

-- Whether the session holds a name or waits for one.
abbrev pub is_known : NameTable → ℕ → Bool
is_known t session = list_any (λ held. held.session == session) t.held || waits t session

-- Where that is so, all that the session holds is taken away, and its request.
abbrev pub freed_if : Bool → NameTable → ℕ → NameTable
freed_if true t session = record { held = filter (λ held. not (held.session == session)) t.held; waiting = without (place_of session t.waiting) t.waiting; last = None }
freed_if false t session = t

-- After all that the session holds was taken away, and its request.
abbrev pub freed : NameTable → ℕ → NameTable
freed t session = freed_if (is_known t session) t session

-- The lock is the session's, and is exclusive or shared as this says.
abbrev pub is_own : ℕ → Bool → HeldName → Bool
is_own session exclusive held = held.session == session && (if exclusive then held.exclusive else not held.exclusive)

-- The names that the session holds exclusively, or else shared, in the order in which they were granted.
abbrev pub own_names : ℕ → Bool → List HeldName → List (List ℕ)
own_names session exclusive held = map (λ one. one.name) (filter (is_own session exclusive) held)

-- How many of the names come before this one: its place, where it is one of them, and else their number.
abbrev pub place_among : List (List ℕ) → List ℕ → ℕ
place_among names name = position_or_len (λ other. pointwise nat_eq other name) names

-- After all that the session holds exclusively was taken away, or all that it holds shared.
abbrev pub let_go : NameTable → ℕ → Bool → NameTable
let_go t session exclusive = record { held = filter (λ held. not (is_own session exclusive held)) t.held; waiting = t.waiting; last = None }

-- After the session's requests that wait were taken away.
abbrev pub waits_ended : NameTable → ℕ → NameTable
waits_ended t session = record { held = t.held; waiting = filter (λ waiter. not (waiter.session == session)) t.waiting; last = None }

-- The last change was the session's ask or poll.
abbrev pub IsLastAskOf : ℕ → NameTable → Type 0
IsLastAskOf session t = IsSomeAnd t.last (λ ask. ask.session ≡ session)

-- After the last ask or poll was taken back.
abbrev pub undone_last : Option LastAsk → NameTable → NameTable
undone_last None t = t
undone_last (Some ask) t = record { held = ask.held; waiting = ask.waiting; last = None }

abbrev pub undone : NameTable → NameTable
undone t = undone_last t.last t

-- The last change was the session's ask or poll for exclusive locks.
abbrev pub is_last_exclusive : ℕ → Option LastAsk → Bool
is_last_exclusive session None = false
is_last_exclusive session (Some ask) = ask.session == session && ask.exclusive

-- The session waits, or was just granted exclusive locks.
abbrev pub can_end : NameTable → ℕ → Bool
can_end t session = waits t session || is_last_exclusive session t.last

-- What was held before the last ask or poll, or now where there was none.
abbrev pub held_before : Option LastAsk → NameTable → List HeldName
held_before None t = t.held
held_before (Some ask) t = ask.held

-- After the end of the session's request: where it waits it is taken away, else what it added is.
abbrev pub ended_at : Option QueuePlace → NameTable → NameTable
ended_at None t = record { held = held_before t.last t; waiting = t.waiting; last = None }
ended_at (Some place) t = record { held = t.held; waiting = place.front ++ place.following; last = None }

abbrev pub ended : NameTable → ℕ → NameTable
ended t session = ended_at (place_of session t.waiting) t
