-- Events that are kept as bytes: with one more, and read at a place.
use Rattle.std.proofs.Common.{◌≡◌, ℕ, zero, suc, ◌+◌, ◌<◌, ◌≤◌, List, [], ◌∷◌, ◌++◌, length, map, take, drop, get_or, slice_range, Result, Ok, Err, refl, subst, sym, ap, ◌∙◌, arith, length-append, append_assoc}
use Rattle.std.specs.List.{concat, AllByRecursion}
use Rattle.std.proofs.lemmas.List.{append-nil, map-append, length-map, get_or-map, get_or_default}
use Rattle.std.proofs.lemmas.List.Sums.{sum_by-cons}
use Rattle.std.proofs.Math.Seq.{drop-append_seam, take-append_seam}
use Rattle.base_values.proofs.SchemaRules.Lists.{All-append}
use Rattle.base_values.specs.declared.event.RowEvent.{RowEvent}
use Rattle.server_log.specs.declared.fault.DecodeFault.{DecodeFault}
use Rattle.server_log.specs.Encodings.{encoded, sized, length_bytes, body_of, columns_of, values_bytes, values_of, IsEncodable}
use Rattle.server_log.specs.Decodings.{decoded}
use Rattle.server_log.specs.EventCosts.Costs.{bytes_of}
use Rattle.server_log.specs.Laws.{IsWritten}
use Rattle.server_log.specs.Logs.{AreKept, BeginWith, all_bytes, events_in, first_and, places_from}
use Rattle.server_log.proofs.Lists.{all_at}
use Rattle.server_log.proofs.Pieces.{length-places_from, places_from-push, drop-piece, place-within}
use Rattle.server_log.proofs.ReadBack.{event_or, reads_back}
use Rattle.server_log.proofs.Segments.{all_bytes-push}
use Rattle.server_log.proofs.Sizes.{length-encoded}

one_read : (n : ℕ) (bytes : List ℕ) (event : RowEvent) (size : ℕ) → decoded bytes ≡ Ok (event, size) → events_in (suc n) bytes ≡ event ∷ events_in n (drop size bytes)
unfolding events_in
one_read n bytes event size e = ap (λ (read : Result (RowEvent × ℕ) DecodeFault). first_and read (λ size. events_in n (drop size bytes))) e

none_read : (bytes : List ℕ) → events_in 0 bytes ≡ []
unfolding events_in
none_read bytes = refl

-- *What is written is read*, event by event
reads_all : (events : List RowEvent) (following : List ℕ) → AllByRecursion IsWritten events → events_in (length events) (all_bytes events ++ following) ≡ events
reads_all [] following all = none_read ([] ++ following)
reads_all (event ∷ events) following all =
    ap (λ (bytes : List ℕ). events_in (suc (length events)) bytes) (append_assoc (encoded event) (all_bytes events) following)
    ∙ one_read (length events) (encoded event ++ (all_bytes events ++ following)) event (length (encoded event)) (reads_back event (all_bytes events ++ following) all.0)
    ∙ ap (λ (rest : List ℕ). event ∷ events_in (length events) rest) (drop-append_seam (encoded event) (all_bytes events ++ following))
    ∙ ap (λ (rest : List RowEvent). event ∷ rest) (reads_all events following all.1)

-- as many places as events
pub as_many : (events : List RowEvent) (bytes starts : List ℕ) → AreKept events bytes starts → length starts ≡ length events
as_many events bytes starts kept = ap length kept.starts_are ∙ length-places_from 0 (map encoded events) ∙ length-map events encoded

-- the events that are kept are those that are read
viewed : (events : List RowEvent) (bytes starts : List ℕ) → AreKept events bytes starts → events_in (length starts) bytes ≡ events
viewed events bytes starts kept =
    ap (λ (n : ℕ). events_in n bytes) (as_many events bytes starts kept)
    ∙ ap (λ (all : List ℕ). events_in (length events) all) (kept.bytes_are ∙ sym (append-nil (all_bytes events)))
    ∙ reads_all events [] kept.written

kept_more : (events : List RowEvent) (event : RowEvent) (bytes starts now now_starts : List ℕ) (end : ℕ) → AreKept events bytes starts → IsWritten event → end ≡ length bytes → now ≡ bytes ++ encoded event → now_starts ≡ starts ++ end ∷ []
    → AreKept (events ++ event ∷ []) now now_starts
kept_more events event bytes starts now now_starts end kept written ends now_is starts_is = record {
  written = All-append IsWritten events (event ∷ []) kept.written (written, tt);
  bytes_are = now_is ∙ ap (λ (all : List ℕ). all ++ encoded event) kept.bytes_are ∙ sym (all_bytes-push events event);
  starts_are =
      starts_is
      ∙ ap (λ (n : ℕ). starts ++ n ∷ []) (ends ∙ ap length kept.bytes_are)
      ∙ ap (λ (places : List ℕ). places ++ length (all_bytes events) ∷ []) kept.starts_are
      ∙ sym (ap (λ (pieces : List (List ℕ)). places_from 0 pieces) (map-append encoded events (event ∷ [])) ∙ places_from-push 0 (map encoded events) (encoded event) ∙ ap (λ (n : ℕ). places_from 0 (map encoded events) ++ n ∷ []) (omega arith));
}

-- *One event more*: these are the events that are read then
pub reads_more : (events : List RowEvent) (event : RowEvent) (bytes starts now now_starts : List ℕ) (end : ℕ) → AreKept events bytes starts → IsWritten event → end ≡ length bytes → now ≡ bytes ++ encoded event → now_starts ≡ starts ++ end ∷ []
    → events_in (length now_starts) now ≡ events ++ event ∷ []
reads_more events event bytes starts now now_starts end kept written ends now_is starts_is =
    viewed (events ++ event ∷ []) now now_starts (kept_more events event bytes starts now now_starts end kept written ends now_is starts_is)

-- ... and they are kept
pub keeps_more : (events : List RowEvent) (event : RowEvent) (bytes starts now now_starts : List ℕ) (end : ℕ) → AreKept events bytes starts → IsWritten event → end ≡ length bytes → now ≡ bytes ++ encoded event → now_starts ≡ starts ++ end ∷ []
    → AreKept (events_in (length now_starts) now) now now_starts
keeps_more events event bytes starts now now_starts end kept written ends now_is starts_is =
    let more : AreKept (events ++ event ∷ []) now now_starts = kept_more events event bytes starts now now_starts end kept written ends now_is starts_is in
    subst (λ (all : List RowEvent). AreKept all now now_starts) (sym (viewed (events ++ event ∷ []) now now_starts more)) more

-- no event is kept at first
pub keeps_none : (bytes starts : List ℕ) → bytes ≡ [] → starts ≡ [] → AreKept (events_in (length starts) bytes) bytes starts
unfolding events_in places_from
keeps_none bytes starts none none_starts = rw (none, none_starts) (record { written = tt; bytes_are = refl; starts_are = refl })

pub reads_none : (bytes starts : List ℕ) → starts ≡ [] → events_in (length starts) bytes ≡ []
reads_none bytes starts none = ap (λ (places : List ℕ). events_in (length places) bytes) none ∙ none_read bytes

-- in how many bytes they are encoded
pub size_of : (events : List RowEvent) → length (all_bytes events) ≡ bytes_of events
size_of [] = refl
size_of (event ∷ events) =
    length-append (encoded event) (all_bytes events) ∙ ap (λ (n : ℕ). length (encoded event) + n) (size_of events) ∙ sym (sum_by-cons (λ (one : RowEvent). length (encoded one)) event events)

pub kept_size : (events : List RowEvent) (bytes starts : List ℕ) → AreKept events bytes starts → length bytes ≡ bytes_of events
kept_size events bytes starts kept = ap length kept.bytes_are ∙ size_of events

-- an event takes 8 bytes at least
pub at_least : (event : RowEvent) → IsEncodable event → 8 ≤ length (encoded event)
at_least event is = omega (arith, length-encoded event, is.named)

-- AN EVENT AT A PLACE

-- the item at a place
pub item_at : {X : Type 0} (items : List X) (place : ℕ) → place < length items → (item : X) × (item ≡ get_or items place item)
item_at [] place within = absurd (omega arith)
item_at (item ∷ items) zero within = (item, refl)
item_at (item ∷ items) (suc place) within = item_at items place (omega arith)

-- *The bytes from its place on* begin with it
pub begins_at : (events : List RowEvent) (bytes starts rest : List ℕ) (place start : ℕ) (event : RowEvent) → AreKept events bytes starts → place < length events → start ≡ get_or starts place 0 → rest ≡ drop start bytes → event ≡ get_or events place event → BeginWith event rest
begins_at events bytes starts rest place start event kept within start_is rest_is is =
    let within_pieces : place < length (map encoded events) = omega (arith, within, length-map events encoded) in
    record {
      written = all_at IsWritten events place event within is kept.written;
      following = concat (drop (place + 1) (map encoded events));
      are =
          rest_is
          ∙ ap (λ (n : ℕ). drop n bytes) (start_is ∙ ap (λ (places : List ℕ). get_or places place 0) kept.starts_are)
          ∙ ap (λ (all : List ℕ). drop (get_or (places_from 0 (map encoded events)) place 0) all) kept.bytes_are
          ∙ drop-piece (map encoded events) place within_pieces
          ∙ ap (λ (piece : List ℕ). piece ++ concat (drop (place + 1) (map encoded events))) (get_or-map encoded events place event [] within ∙ ap encoded (sym is));
    }

-- its place is within all bytes
pub place_in : (events : List RowEvent) (bytes starts : List ℕ) (place : ℕ) → AreKept events bytes starts → place < length events → get_or starts place 0 ≤ length bytes
place_in events bytes starts place kept within =
    omega (arith, place-within 0 (map encoded events) place (omega (arith, within, length-map events encoded)), ap (λ (places : List ℕ). get_or places place 0) kept.starts_are, ap length kept.bytes_are)

-- READ OF BYTES THAT BEGIN WITH IT

-- what holds of bytes that begin with the event at a place
abbrev pub BeginAt : List RowEvent → ℕ → List ℕ → Type 0
BeginAt events place bytes = (event : RowEvent) → event ≡ get_or events place event → BeginWith event bytes

abbrev pair : RowEvent → ℕ → Result (RowEvent × ℕ) DecodeFault
pair event size = Ok (event, size)

abbrev failed : DecodeFault → Result (RowEvent × ℕ) DecodeFault
failed fault = Err fault

read_of : (event : RowEvent) (bytes : List ℕ) → BeginWith event bytes → decoded bytes ≡ Ok (event, length (encoded event))
read_of event bytes begins = ap decoded begins.are ∙ reads_back event begins.following begins.written

-- *The event that is read* is the one at the place
pub event_read : (events : List RowEvent) (place : ℕ) (bytes : List ℕ) (read : RowEvent) (size : ℕ) → place < length events → BeginAt events place bytes → decoded bytes ≡ Ok (read, size) → read ≡ get_or events place read
event_read events place bytes read size within begin decodes =
    let found = item_at events place within in
    let same : pair read size ≡ pair found.0 (length (encoded found.0)) = sym decodes ∙ read_of found.0 bytes (begin found.0 found.1) in
    let is : read ≡ found.0 = ap (λ (one : Result (RowEvent × ℕ) DecodeFault). event_or read one) same in
    is ∙ found.1 ∙ get_or_default events place found.0 read within

-- ... and there is one
pub no_fault : (events : List RowEvent) (place : ℕ) (bytes : List ℕ) (fault : DecodeFault) → place < length events → BeginAt events place bytes → decoded bytes ≡ Err fault → ⊥
no_fault events place bytes fault within begin decodes =
    let found = item_at events place within in
    let same : failed fault ≡ pair found.0 (length (encoded found.0)) = sym decodes ∙ read_of found.0 bytes (begin found.0 found.1) in
    cc

-- what begins with an event has the table's name after its length
record HasName (bytes name : List ℕ) : Type 0 where
  size : get_or bytes 5 0 ≡ length name
  name_is : take (length name) (drop 6 bytes) ≡ name
  within : length name + 6 ≤ length bytes

has_name : (event : RowEvent) (following : List ℕ) → HasName (encoded event ++ following) event.table
unfolding encoded sized length_bytes body_of
has_name event following =
    let rest : List ℕ = columns_of event.change ∷ values_bytes (values_of event.change) in
    record {
      size = refl;
      name_is = ap (λ (all : List ℕ). take (length event.table) all) (append_assoc event.table rest following) ∙ take-append_seam event.table (rest ++ following);
      within = omega (arith, length-append (event.table ++ rest) following, length-append event.table rest);
    }

named : (events : List RowEvent) (place : ℕ) (bytes : List ℕ) (event : RowEvent) → BeginAt events place bytes → event ≡ get_or events place event → HasName bytes event.table
named events place bytes event begin is =
    let begins : BeginWith event bytes = begin event is in
    subst (λ (all : List ℕ). HasName all event.table) (sym begins.are) (has_name event begins.following)

-- there is a name
pub name_room : (events : List RowEvent) (place : ℕ) (bytes : List ℕ) → place < length events → BeginAt events place bytes → get_or bytes 5 0 + 6 ≤ length bytes
name_room events place bytes within begin =
    let found = item_at events place within in
    let name : HasName bytes found.0.table = named events place bytes found.0 begin found.1 in
    omega (arith, name.size, name.within)

-- *The name* is that of the event's table
pub name_taken : (events : List RowEvent) (place : ℕ) (bytes : List ℕ) (event : RowEvent) → BeginAt events place bytes → event ≡ get_or events place event → slice_range bytes 6 (get_or bytes 5 0 + 6) ≡ event.table
name_taken events place bytes event begin is =
    let name : HasName bytes event.table = named events place bytes event begin is in
    ap (λ (n : ℕ). take n (drop 6 bytes)) (omega (arith, name.size)) ∙ name.name_is

pub ruleset nothing = (keeps_none, reads_none)

pub ruleset additions = (reads_more, keeps_more)

pub ruleset sizes = (as_many, kept_size)

pub ruleset places = (begins_at, place_in)

pub ruleset lengths = (size_of, at_least)
