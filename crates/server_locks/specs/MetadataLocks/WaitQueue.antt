-- Where a session's request stands among those that wait.
use Rattle.std.specs.Prelude.{◌≡◌, ℕ, ◌+◌, ◌<◌, List, take, drop, length, Some, slice_index_or}
use Rattle.server_locks.specs.declared.metadata_locks.request.Waiter.{Waiter}
use Rattle.server_locks.specs.MetadataLocks.Grants.{QueuePlace, place_of}

-- The requests round the one at this place, which a reader past the end would take to be `past`.
abbrev pub round : List Waiter → ℕ → Waiter → QueuePlace
round waiting i past = record { front = take i waiting; request = slice_index_or waiting i past; following = drop (i + 1) waiting }

-- The session's first request is the one at this place.
pub record IsAt (session : ℕ) (waiting : List Waiter) (i : ℕ) : Type 0 where
  pub within : i < length waiting
  pub own : (past : Waiter) → (slice_index_or waiting i past).session ≡ session
  pub place : (past : Waiter) → place_of session waiting ≡ Some (round waiting i past)
