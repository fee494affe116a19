-- *Log*: the events of the committed transactions, in the order of the commits; the segments that their bytes lie in; and how
-- many events of some tables come before each of them.
use Rattle.std.specs.Prelude.{◌≡◌, ℕ, zero, suc, ◌+◌, ◌*◌, ◌<◌, ◌≤◌, nat_le, if◌then◌else◌, List, [], ◌∷◌, ◌++◌, length, map, fold, take, drop, count_by, slice_index, Result, Ok, Err}
use Rattle.std.specs.List.{concat, AllByRecursion}
use Rattle.base_values.specs.declared.event.RowEvent.{RowEvent}
use Rattle.server_model.specs.States.{is_of}
use Rattle.server_log.specs.declared.fault.DecodeFault.{DecodeFault}
use Rattle.server_log.specs.Encodings.{encoded}
use Rattle.server_log.specs.Decodings.{decoded}
use Rattle.server_log.specs.Laws.{IsWritten}

-- What contracts see of the log: its events, and for how many more bytes of events it has room.
pub record StoredLog : Type 0 where
  pub events : List RowEvent
  pub spare : ℕ

-- SEGMENTS

-- *Segment*: a part of the log's bytes, of whole events and at most this many bytes, unless it is of one event that is longer. This project's rule.
abbrev pub segment_limit : ℕ
segment_limit = 65536

-- a segment and those after it with the bytes of one event more: they go into the last one where it takes them, else into a new one
unfoldable pub with_bytes_after : List ℕ → List (List ℕ) → List ℕ → List (List ℕ)
with_bytes_after last [] bytes = if nat_le (length last + length bytes) segment_limit then (last ++ bytes) ∷ [] else last ∷ bytes ∷ []
with_bytes_after first (next ∷ others) bytes = first ∷ with_bytes_after next others bytes

-- ... where there may be no segment yet
abbrev pub with_bytes : List (List ℕ) → List ℕ → List (List ℕ)
with_bytes [] bytes = bytes ∷ []
with_bytes (first ∷ others) bytes = with_bytes_after first others bytes

-- The segments of a log's events.
abbrev pub segments_of : List RowEvent → List (List ℕ)
segments_of events = fold with_bytes [] (map encoded events)

-- WHAT IS KEPT OF THE EVENTS

-- the bytes of events, one after the other
abbrev pub all_bytes : List RowEvent → List ℕ
all_bytes events = concat (map encoded events)

-- the event that was read, and those after its bytes
abbrev pub first_and : Result (RowEvent × ℕ) DecodeFault → (ℕ → List RowEvent) → List RowEvent
first_and (Ok read) others = read.0 ∷ others read.1
first_and (Err fault) others = []

-- the events that bytes encode, one after the other, at most this many
unfoldable pub events_in : ℕ → List ℕ → List RowEvent
events_in zero bytes = []
events_in (suc n) bytes = first_and (decoded bytes) (λ size. events_in n (drop size bytes))

-- where each of the pieces begins that lie one after the other from this place on
unfoldable pub places_from : ℕ → List (List ℕ) → List ℕ
places_from place [] = []
places_from place (piece ∷ pieces) = place ∷ places_from (place + length piece) pieces

-- what is kept of events: their bytes, and where each begins; and for how many more bytes and events there is room
pub record StoredEvents : Type 0 where
  pub events : List RowEvent
  pub spare : ℕ
  pub room : ℕ

-- *Kept*: these are the bytes of these events, and where each begins.
pub record AreKept (events : List RowEvent) (bytes starts : List ℕ) : Type 0 where
  pub written : AllByRecursion IsWritten events
  pub bytes_are : bytes ≡ all_bytes events
  pub starts_are : starts ≡ places_from 0 (map encoded events)

-- the bytes begin with those of the event, which is read from them
pub record BeginWith (event : RowEvent) (bytes : List ℕ) : Type 0 where
  pub written : IsWritten event
  pub following : List ℕ
  pub are : bytes ≡ encoded event ++ following

-- where each segment begins, and for how many more there is room
pub record StoredSegments : Type 0 where
  pub starts : List ℕ
  pub room : ℕ

-- *Cut*: this is where the segments of these events begin.
pub record IsCut (events : List RowEvent) (starts : List ℕ) : Type 0 where
  pub joined : concat (segments_of events) ≡ all_bytes events
  pub starts_are : starts ≡ places_from 0 (segments_of events)

-- WHAT IS COUNTED

-- what is counted beside it: of each event how many of the watched tables come before it, how many there are in all, and for
-- how many more events there is room
pub record StoredCounts : Type 0 where
  pub watched : List (List ℕ)
  pub before : List ℕ
  pub total : ℕ
  pub spare : ℕ

-- *Counted*: these are the counts of these events.
pub record IsCounted (events : List RowEvent) (counts : StoredCounts) : Type 0 where
  pub as_many : length counts.before ≡ length events
  pub each : (place : ℕ) → place < length events → slice_index counts.before place ≡ count_by (is_of counts.watched) (take place events)
  pub total_is : counts.total ≡ count_by (is_of counts.watched) events

-- THE LOG

-- *The log's parts go together*: the segments and the counts are those of the events, and there is room for that many bytes more,
-- of which each event takes 8 at least.
pub record IsLog (events : StoredEvents) (segments : StoredSegments) (counts : StoredCounts) (spare : ℕ) : Type 0 where
  pub cut : IsCut events.events segments.starts
  pub counted : IsCounted events.events counts
  pub bytes : spare ≤ events.spare
  pub places : spare ≤ 8 * events.room
  pub starts : spare ≤ 8 * segments.room
  pub counts_room : spare ≤ 8 * counts.spare
