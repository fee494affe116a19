-- What is kept of live sessions, a grant in place of each name and no row locks; and their records, made of that and of both
-- tables of locks.
use Rattle.std.specs.Prelude.{ℕ, ◌<◌, ◌==◌, Bool, true, false, not, if◌then◌else◌, List, [], ◌∷◌, ◌++◌, map, filter, find, length, slice_index_or, Option}
use Rattle.std.specs.List.{AllByRecursion}
use Rattle.base_values.specs.declared.event.RowEvent.{RowEvent}
use Rattle.server_locks.specs.declared.row_locks.lock.Lock.{Lock}
use Rattle.server_locks.specs.declared.row_locks.lock.HeldLock.{HeldLock}
use Rattle.server_locks.specs.MetadataLocks.Grants as grants
use Rattle.server_locks.specs.MetadataLocks.LockTable.{own_names, place_among}
use Rattle.server_model.specs.declared.session.HeldName.{HeldName}
use Rattle.server_model.specs.declared.session.Session.{Session}
use Rattle.server_sessions.specs.declared.grant.Grant.{Grant}

-- what is kept of a live session
pub record KeptSession : Type 0 where
  pub number : ℕ
  pub is_tool : Bool
  pub in_transaction : Bool
  pub writes : List RowEvent
  -- what it was granted, in the order in which it was
  pub granted : List Grant
  pub polls : ℕ

-- a session that has just connected
abbrev pub new_kept : ℕ → Bool → KeptSession
new_kept number is_tool = record { number = number; is_tool = is_tool; in_transaction = false; writes = []; granted = []; polls = 0 }

-- the live session of this number
abbrev pub kept_of : ℕ → List KeptSession → Option KeptSession
kept_of number sessions = find (λ session. session.number == number) sessions

-- the sessions with a change of the one of this number
unfoldable pub with_kept : ℕ → (KeptSession → KeptSession) → List KeptSession → List KeptSession
with_kept number change [] = []
with_kept number change (session ∷ sessions) = if session.number == number then change session ∷ sessions else session ∷ with_kept number change sessions

-- WHAT CALLS CHANGE, each as the change of the record that is named so (`PlainServer`)

abbrev pub kept_holding : List Grant → List RowEvent → KeptSession → KeptSession
kept_holding more events session = record session { in_transaction = true; granted = session.granted ++ more; writes = session.writes ++ events }

abbrev pub kept_at_rest : KeptSession → KeptSession
kept_at_rest session = record session { in_transaction = false; granted = filter (λ one. one.exclusive) session.granted; writes = [] }

abbrev pub kept_locking : List Grant → KeptSession → KeptSession
kept_locking more session = record session { granted = session.granted ++ more }

abbrev pub kept_unlocking : KeptSession → KeptSession
kept_unlocking session = record session { granted = filter (λ one. not one.exclusive) session.granted }

abbrev pub kept_counting : ℕ → KeptSession → KeptSession
kept_counting polls session = record session { polls = polls }

-- GRANTS AND NAMES

-- the name, held exclusively or shared
abbrev pub held_name : Bool → List ℕ → HeldName
held_name exclusive name = record { name = name; exclusive = exclusive }

-- the grant of a name that the session holds so
abbrev pub grant_of : List grants.HeldName → ℕ → Bool → List ℕ → Grant
grant_of held number exclusive name = record { place = place_among (own_names number exclusive held) name; exclusive = exclusive }

-- the name that a session was granted
abbrev pub name_of : List grants.HeldName → ℕ → Grant → HeldName
name_of held number grant = held_name grant.exclusive (slice_index_or (own_names number grant.exclusive held) grant.place [])

-- the grant's place is that of a name that the session holds so
abbrev pub IsPlaced : List grants.HeldName → ℕ → Grant → Type 0
IsPlaced held number grant = grant.place < length (own_names number grant.exclusive held)

-- each grant of each session has such a place
abbrev pub ArePlaced : List grants.HeldName → List KeptSession → Type 0
ArePlaced held sessions = AllByRecursion (λ session. AllByRecursion (IsPlaced held session.number) session.granted) sessions

-- RECORDS

-- the row locks that the table has of a session, in the order in which they were granted
abbrev pub rows_of : ℕ → List HeldLock → List Lock
rows_of number held = map (λ one. one.lock) (filter (λ one. one.session == number) held)

-- the session's record, with what both tables have of it
abbrev pub record_of : List HeldLock → List grants.HeldName → KeptSession → Session
record_of rows names session =
    record {
      number = session.number;
      is_tool = session.is_tool;
      in_transaction = session.in_transaction;
      writes = session.writes;
      row_locks = rows_of session.number rows;
      names = map (name_of names session.number) session.granted;
      polls = session.polls;
    }

abbrev pub records_of : List HeldLock → List grants.HeldName → List KeptSession → List Session
records_of rows names sessions = map (record_of rows names) sessions
