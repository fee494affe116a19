-- The numbers of a plain state: who blocks, places in the log, and counters have 64 bits.
use Rattle.std.proofs.Common.{◌≡◌, ℕ, zero, suc, ◌+◌, ◌^◌, ◌<◌, ◌≤◌, ◌==◌, Bool, true, false, not, ◌&&◌, cond, List, [], ◌∷◌, ◌++◌, map, drop, length, if◌then◌else◌, Option, Some, None, refl, sym, ap, ◌∙◌, subst, arith}
use Rattle.std.specs.Prelude.{fold, find, max, pos, negsuc, unwrap_or}
use Rattle.std.specs.List.{AllByRecursion, slice_get}
use Rattle.std.specs.Option.{option_map}
use Rattle.base_values.specs.declared.event.RowEvent.{RowEvent}
use Rattle.base_values.specs.declared.value.Value.{Value}
use Rattle.base_values.specs.declared.value.Value.TheVariants.{Null, Num, Text, Blob}
use Rattle.base_values.specs.GhoSchema.AutoIncrement.{auto_place}
use Rattle.base_values.proofs.SchemaRules.Lists.{All-append}
use Rattle.base_script.specs.declared.statement.Statement.{Statement}
use Rattle.table_store.specs.Databases.{TableRows, find_table}
use Rattle.table_store.specs.declared.renames.Pair.{Pair}
use Rattle.server_locks.specs.declared.metadata_locks.request.Waiter.{Waiter}
use Rattle.server_locks.specs.declared.row_locks.lock.HeldLock.{HeldLock}
use Rattle.server_locks.specs.declared.row_locks.lock.Lock.{Lock}
use Rattle.server_locks.specs.LeastSession.Least.{least}
use Rattle.server_locks.specs.MetadataLocks.Grants as grants
use Rattle.server_locks.specs.MetadataLocks.Grants.{QueuePlace, ahead_of, before, blocker_of_name, blocker_of_names, has_name, holding_session, holds, is_on, least_holder, least_waiter, place_of, waiting_session}
use Rattle.server_locks.specs.RowLocks.LockTable.{held_by}
use Rattle.server_locks.specs.RowLocks.Grants.{blocker_of_lock, blocker_of_set, conflict, refusal}
use Rattle.server_model.specs.declared.answer.Answer.{Answer}
use Rattle.server_model.specs.declared.answer.Answer.TheVariants as answers
use Rattle.server_model.specs.declared.counter.Counter.{Counter}
use Rattle.server_model.specs.declared.need.Need.{Need}
use Rattle.server_model.specs.declared.request.Request.{Request}
use Rattle.server_model.specs.declared.request.Request.TheVariants as requests
use Rattle.server_model.specs.declared.session.HeldName.{HeldName}
use Rattle.server_model.specs.declared.session.Session.{Session}
use Rattle.server_model.specs.declared.session.Waiting.{Waiting}
use Rattle.server_model.specs.Blockers.{blocker}
use Rattle.server_model.specs.Checks.{draws}
use Rattle.server_model.specs.Counting.{after_drawn, counted, counts, counts_if, drawn_by, drawn_if, given_by, gives_in, is_answered, offered_inside}
use Rattle.server_model.specs.Drawing.{numbered, offered_in, offered_of}
use Rattle.server_model.specs.Effects.{is_outside}
use Rattle.server_model.specs.Listings.{ReadEvent, after_last, read_from}
use Rattle.server_model.specs.Operations.{table_of}
use Rattle.server_model.specs.States.{State, after_number, after_value, counter_of, counters_from, counters_named, counters_renamed, counters_without, is_counter_of, is_exclusive, is_of, names_in, is_of_tool, locks_held, name_held, names_held, next_of, session_of, started, waiters, waits_for}
use Rattle.proof_plain.specs.Plain.{BytesAsked, PlainSession, PlainWaiting, SmallCounters, SmallIf}

-- ---- who blocks

least_small : (a b : Option ℕ) → SmallIf a → SmallIf b → SmallIf (least a b)
least_small None b one two = two
least_small (Some a) None one two = one
least_small (Some a) (Some b) one two = omega (arith, one, two)

some_small : (b : Bool) (n : ℕ) → n < 2 ^ 64 → SmallIf (cond b (Some n) None)
some_small true n small = small
some_small false n small = tt

abbrev SmallHeld : List grants.HeldName → Type 0
SmallHeld held = AllByRecursion (λ one. one.session < 2 ^ 64) held

abbrev SmallWaiters : List Waiter → Type 0
SmallWaiters waiting = AllByRecursion (λ one. one.session < 2 ^ 64) waiting

abbrev SmallLocks : List HeldLock → Type 0
SmallLocks held = AllByRecursion (λ one. one.session < 2 ^ 64) held

holder_small : (held : List grants.HeldName) (session : ℕ) (name : List ℕ) (exclusive : Bool) → SmallHeld held → SmallIf (least_holder held session name exclusive)
unfolding least_holder
holder_small [] session name exclusive all = tt
holder_small (other ∷ held) session name exclusive all =
    least_small (holding_session session name exclusive other) (least_holder held session name exclusive) (some_small (not (other.session == session) && is_on other name exclusive) other.session all.0) (holder_small held session name exclusive all.1)

waiter_small : (waiting : List Waiter) (session : ℕ) (name : List ℕ) → SmallWaiters waiting → SmallIf (least_waiter waiting session name)
unfolding least_waiter
waiter_small [] session name all = tt
waiter_small (other ∷ waiting) session name all =
    least_small (waiting_session session name other) (least_waiter waiting session name) (some_small (not (other.session == session) && has_name other.names name) other.session all.0) (waiter_small waiting session name all.1)

abbrev SmallFront : Option QueuePlace → Type 0
SmallFront None = Unit {0}
SmallFront (Some place) = SmallWaiters place.front

front_small : (session : ℕ) (waiting : List Waiter) → SmallWaiters waiting → SmallFront (place_of session waiting)
unfolding place_of
front_small session [] all = tt
front_small session (other ∷ waiting) all = by (other.session == session) (place_of session waiting) (front_small session waiting all.1) where
  by : (b : Bool) (found : Option QueuePlace) → SmallFront found
      → SmallFront (cond b (Some (record { front = []; request = other; following = waiting })) (option_map (λ (place : QueuePlace). let more : QueuePlace = record { front = other ∷ place.front; request = place.request; following = place.following } in more) found))
  by true found rest = tt
  by false None rest = tt
  by false (Some place) rest = (all.0, rest)

ahead_small : (session : ℕ) (waiting : List Waiter) → SmallWaiters waiting → SmallWaiters (ahead_of session waiting)
ahead_small session waiting all = by (place_of session waiting) (front_small session waiting all) where
  by : (found : Option QueuePlace) → SmallFront found → SmallWaiters (before found waiting)
  by None front = all
  by (Some place) front = front

unless_small : (b : Bool) (found : Option ℕ) → SmallIf found → SmallIf (cond b None found)
unless_small true found small = tt
unless_small false found small = small

name_small : (held : List grants.HeldName) (waiting : List Waiter) (session : ℕ) (name : List ℕ) (exclusive : Bool) → SmallHeld held → SmallWaiters waiting → SmallIf (blocker_of_name held waiting session name exclusive)
unfolding blocker_of_name
name_small held waiting session name false one two =
    least_small (least_holder held session name true) (cond (holds held session name false) None (least_waiter waiting session name)) (holder_small held session name true one) (unless_small (holds held session name false) _ (waiter_small waiting session name two))
name_small held waiting session name true one two =
    unless_small (holds held session name true) _
    (least_small (least_holder held session name false) (least_waiter (ahead_of session waiting) session name) (holder_small held session name false one) (waiter_small (ahead_of session waiting) session name (ahead_small session waiting two)))

names_small : (held : List grants.HeldName) (waiting : List Waiter) (session : ℕ) (exclusive : Bool) (names : List (List ℕ)) → SmallHeld held → SmallWaiters waiting → SmallIf (blocker_of_names held waiting session exclusive names)
unfolding blocker_of_names
names_small held waiting session exclusive [] one two = tt
names_small held waiting session exclusive (name ∷ names) one two =
    least_small (blocker_of_name held waiting session name exclusive) (blocker_of_names held waiting session exclusive names) (name_small held waiting session name exclusive one two) (names_small held waiting session exclusive names one two)

lock_small : (held : List HeldLock) (session : ℕ) (lock : Lock) → SmallLocks held → SmallIf (blocker_of_lock held session lock)
unfolding blocker_of_lock refusal
lock_small [] session lock all = tt
lock_small (other ∷ held) session lock all =
    least_small (refusal session lock other) (blocker_of_lock held session lock) (some_small (not (other.session == session) && conflict other.lock lock) other.session all.0) (lock_small held session lock all.1)

set_small : (held : List HeldLock) (session : ℕ) (set : List Lock) → SmallLocks held → SmallIf (blocker_of_set held session set)
unfolding blocker_of_set
set_small held session [] all = tt
set_small held session (lock ∷ set) all = least_small (blocker_of_lock held session lock) (blocker_of_set held session set) (lock_small held session lock all) (set_small held session set all)

session_names : (number : ℕ) (names : List HeldName) → number < 2 ^ 64 → SmallHeld (map (name_held number) names)
session_names number [] small = tt
session_names number (name ∷ names) small = (small, session_names number names small)

held_small : (sessions : List Session) → AllByRecursion PlainSession sessions → SmallHeld (names_held sessions)
held_small [] all = tt
held_small (session ∷ sessions) all = All-append (λ (one : grants.HeldName). one.session < 2 ^ 64) (map (name_held session.number) session.names) (names_held sessions) (session_names session.number session.names all.0.number) (held_small sessions all.1)

session_locks : (number : ℕ) (locks : List Lock) → number < 2 ^ 64 → SmallLocks (map (held_by number) locks)
session_locks number [] small = tt
session_locks number (lock ∷ locks) small = (small, session_locks number locks small)

locks_small : (sessions : List Session) → AllByRecursion PlainSession sessions → SmallLocks (locks_held sessions)
locks_small [] all = tt
locks_small (session ∷ sessions) all = All-append (λ (one : HeldLock). one.session < 2 ^ 64) (map (held_by session.number) session.row_locks) (locks_held sessions) (session_locks session.number session.row_locks all.0.number) (locks_small sessions all.1)

waiters_small : (waiting : List Waiting) → AllByRecursion PlainWaiting waiting → SmallWaiters (waiters waiting)
waiters_small [] all = tt
waiters_small (one ∷ waiting) all = All-append (λ (w : Waiter). w.session < 2 ^ 64) (waits_for one) (waiters waiting) (by (is_exclusive one.request)) (waiters_small waiting all.1) where
  by : (b : Bool) → SmallWaiters (cond b (record { session = one.session; names = names_in one.request } ∷ []) [])
  by true = (all.0.number, tt)
  by false = tt

-- *Who blocks has a small number*
pub blocker_small : (state : State) (number : ℕ) (need : Need) → AllByRecursion PlainSession state.sessions → AllByRecursion PlainWaiting state.waiting → SmallIf (blocker state number need)
blocker_small state number need sessions waiting =
    least_small (blocker_of_names (names_held state.sessions) (waiters state.waiting) number need.exclusive need.names) (blocker_of_set (locks_held state.sessions) number need.locks)
    (names_small (names_held state.sessions) (waiters state.waiting) number need.exclusive need.names (held_small state.sessions sessions) (waiters_small state.waiting waiting)) (set_small (locks_held state.sessions) number need.locks (locks_small state.sessions sessions))

-- ---- places in the log

within_more : (n m : ℕ) (reads : List ReadEvent) → n ≤ m → AllByRecursion (λ (read : ReadEvent). read.following ≤ n) reads → AllByRecursion (λ (read : ReadEvent). read.following ≤ m) reads
within_more n m [] less all = tt
within_more n m (read ∷ reads) less all = ((let one = all.0 in omega (arith, one, less)), within_more n m reads less all.1)

reads_within : (tables : List (List ℕ)) (place : ℕ) (events : List RowEvent) → AllByRecursion (λ (read : ReadEvent). read.following ≤ place + length events) (read_from tables place events)
unfolding read_from
reads_within tables place [] = tt
reads_within tables place (event ∷ events) = by (is_of tables event) (within_more (place + 1 + length events) (place + suc (length events)) (read_from tables (place + 1) events) (omega arith) (reads_within tables (place + 1) events)) where
  by : (b : Bool) → AllByRecursion (λ (read : ReadEvent). read.following ≤ place + suc (length events)) (read_from tables (place + 1) events)
      → AllByRecursion (λ (read : ReadEvent). read.following ≤ place + suc (length events)) (cond b (record { event = event; following = place + 1 } ∷ read_from tables (place + 1) events) (read_from tables (place + 1) events))
  by true rest = (omega arith, rest)
  by false rest = rest

-- what is left behind a place: nothing, or so much that the place and it are the whole
left_whole : (place : ℕ) (log : List RowEvent) → 0 < length (drop place log) → place + length (drop place log) ≡ length log
left_whole zero log some = let same : length (drop zero log) ≡ length log = refl in omega (arith, same)
left_whole (suc place) [] some = absurd (omega (arith, some))
left_whole (suc place) (event ∷ log) some =
    let rest : place + length (drop place log) ≡ length log = left_whole place log some in
    let same : length (drop (suc place) (event ∷ log)) ≡ length (drop place log) = refl in
    omega (arith, rest, same)

pub places_within : (tables : List (List ℕ)) (place : ℕ) (log : List RowEvent) → AllByRecursion (λ (read : ReadEvent). read.following ≤ length log) (read_from tables place (drop place log))
unfolding read_from
places_within tables place log = by (drop place log) refl where
  by : (events : List RowEvent) → drop place log ≡ events → AllByRecursion (λ (read : ReadEvent). read.following ≤ length log) (read_from tables place events)
  by [] is = tt
  by (event ∷ events) is =
      let some : 0 < length (drop place log) = subst (λ (e : List RowEvent). 0 < length e) (sym is) (omega arith) in
      let whole : place + length (drop place log) ≡ length log = left_whole place log some in
      let same : place + length (event ∷ events) ≡ length log = ap (λ (e : List RowEvent). place + length e) (sym is) ∙ whole in
      subst (λ (n : ℕ). AllByRecursion (λ (read : ReadEvent). read.following ≤ n) (read_from tables place (event ∷ events))) same (reads_within tables place (event ∷ events))

last_within : (n place : ℕ) (reads : List ReadEvent) → place ≤ n → AllByRecursion (λ (read : ReadEvent). read.following ≤ n) reads → after_last place reads ≤ n
last_within n place [] less all = less
last_within n place (read ∷ reads) less all = last_within n read.following reads all.0 all.1

pub place_small : (limit n : ℕ) (reads : List ReadEvent) → n < 2 ^ 64 → AllByRecursion (λ (read : ReadEvent). read.following ≤ n) reads → (if length reads == limit then after_last 0 reads else n) < 2 ^ 64
place_small limit n reads small all = by (length reads == limit) (last_within n 0 reads (omega arith) all) where
  by : (b : Bool) → after_last 0 reads ≤ n → cond b (after_last 0 reads) n < 2 ^ 64
  by true less = omega (arith, less, small)
  by false less = small

-- ---- counters

pub next_small : (name : List ℕ) (counters : List Counter) → SmallCounters counters → SmallIf (next_of name counters)
next_small name [] all = tt
next_small name (counter ∷ counters) all = by (is_counter_of name counter) (next_small name counters all.1) where
  by : (b : Bool) → SmallIf (next_of name counters) → SmallIf (option_map (λ one. one.next) (cond b (Some counter) (find (is_counter_of name) counters)))
  by true rest = all.0
  by false rest = rest

pub shown_small : (found : Option ℕ) → SmallIf found → unwrap_or found 0 < 2 ^ 64
shown_small None small = omega arith
shown_small (Some number) small = small

after_small : (n : ℕ) → after_number n < 2 ^ 64
after_small n = omega arith

value_small : (value : Option Value) → after_value value < 2 ^ 64
value_small None = omega arith
value_small (Some Null) = omega arith
value_small (Some (Num (pos n))) = after_small n
value_small (Some (Num (negsuc n))) = omega arith
value_small (Some (Text text)) = omega arith
value_small (Some (Blob blob)) = omega arith

max_small : (a b : ℕ) → a < 2 ^ 64 → b < 2 ^ 64 → max a b < 2 ^ 64
max_small a b one two = omega (arith, one, two)

from_small : (name : List ℕ) (number : ℕ) (counters : List Counter) → number < 2 ^ 64 → SmallCounters counters → SmallCounters (counters_from name number counters)
from_small name number [] small all = tt
from_small name number (counter ∷ counters) small all = (by (is_counter_of name counter), from_small name number counters small all.1) where
  by : (b : Bool) → (cond b (record counter { next = max counter.next number }) counter).next < 2 ^ 64
  by true = max_small counter.next number all.0 small
  by false = all.0

given_small : (answer : Answer) (value : Option Value) → given_by answer value < 2 ^ 64
given_small (answers.Ok count) value = by (count == 0) where
  by : (b : Bool) → cond b 0 (after_value value) < 2 ^ 64
  by true = omega arith
  by false = value_small value
given_small answer value = omega arith

drawn_after : (drawn : Option ℕ) → after_drawn drawn < 2 ^ 64
drawn_after None = omega arith
drawn_after (Some number) = after_small number

counts_small : (found : Option TableRows) (drawn : Option ℕ) (statement : Statement) (answer : Answer) (counters : List Counter) → SmallCounters counters → SmallCounters (counts found drawn statement answer counters)
counts_small None drawn statement answer counters all = all
counts_small (Some table) drawn statement answer counters all =
    from_small table.schema.name (given_by answer (gives_in table.schema (auto_place table.schema) (numbered drawn statement))) (counters_from table.schema.name (after_drawn drawn) counters) (given_small answer _)
    (from_small table.schema.name (after_drawn drawn) counters (drawn_after drawn) all)

if_small : (answer : Answer) (change : List Counter → List Counter) (counters : List Counter) → SmallCounters counters → SmallCounters (change counters) → SmallCounters (counts_if answer change counters)
if_small (answers.Ok count) change counters all changed = changed
if_small answer change counters all changed = all

rows_start : (place first : ℕ) (rows : List (List Value)) → first < 2 ^ 64 → fold (λ most row. max most (after_value (slice_get row place))) first rows < 2 ^ 64
rows_start place first [] small = small
rows_start place first (row ∷ rows) small = rows_start place (max first (after_value (slice_get row place))) rows (max_small first (after_value (slice_get row place)) small (value_small (slice_get row place)))

start_first : (start : Option ℕ) → SmallIf start → max 1 (unwrap_or start 1) < 2 ^ 64
start_first None small = omega arith
start_first (Some number) small = max_small 1 number (omega arith) small

-- a table's counter at first
pub counter_small : (table : TableRows) → SmallIf table.schema.start → SmallCounters (counter_of table)
counter_small table small = by (auto_place table.schema) where
  by : (place : Option ℕ) → SmallCounters (started table place)
  by None = tt
  by (Some place) = (rows_start place (max 1 (unwrap_or table.schema.start 1)) table.rows (start_first table.schema.start small), tt)

without_small : (name : List ℕ) (counters : List Counter) → SmallCounters counters → SmallCounters (counters_without name counters)
without_small name [] all = tt
without_small name (counter ∷ counters) all = by (is_counter_of name counter) (without_small name counters all.1) where
  by : (b : Bool) → SmallCounters (counters_without name counters) → SmallCounters (cond (not b) (counter ∷ counters_without name counters) (counters_without name counters))
  by true rest = rest
  by false rest = (all.0, rest)

named_small : (old new : List ℕ) (counters : List Counter) → SmallCounters counters → SmallCounters (counters_named old new counters)
named_small old new [] all = tt
named_small old new (counter ∷ counters) all = (by (is_counter_of old counter), named_small old new counters all.1) where
  by : (b : Bool) → (cond b (record counter { table = new }) counter).next < 2 ^ 64
  by true = all.0
  by false = all.0

renamed_small : (pairs : List Pair) (counters : List Counter) → SmallCounters counters → SmallCounters (counters_renamed pairs counters)
unfolding counters_renamed
renamed_small [] counters all = all
renamed_small (pair ∷ pairs) counters all = renamed_small pairs (counters_named pair.old pair.new counters) (named_small pair.old pair.new counters all)

-- *Counters stay small*
pub counted_small : (state : State) (number : ℕ) (asks : Option Request) (answer : Answer) → SmallCounters state.counters → BytesAsked asks → SmallCounters (counted state number asks answer)
unfolding counted
counted_small state number (Some (requests.Do statement)) answer all have =
    counts_small (find_table (table_of statement) state.tables) (drawn_by state number (Some (requests.Do statement)) answer) statement answer state.counters all
counted_small state number (Some (requests.Create schema)) answer all have =
    let new : TableRows = record { schema = schema; rows = [] } in
    if_small answer (λ counters. counters ++ counter_of new) state.counters all (All-append (λ (counter : Counter). counter.next < 2 ^ 64) state.counters (counter_of new) all (counter_small new have.1))
counted_small state number (Some (requests.Drop name)) answer all have = if_small answer (counters_without name) state.counters all (without_small name state.counters all)
counted_small state number (Some (requests.Rename pairs)) answer all have = if_small answer (counters_renamed pairs) state.counters all (renamed_small pairs state.counters all)
counted_small state number (Some (requests.SetCounter table least)) answer all have = if_small answer (counters_from table least) state.counters all (from_small table least state.counters have all)
counted_small state number asks answer all have = all

-- *A number that is drawn is small*
offered_small : (tool : Bool) (found : Option TableRows) (counters : List Counter) (statement : Statement) → SmallCounters counters → SmallIf (offered_of tool found counters statement)
offered_small true found counters statement all = tt
offered_small false None counters statement all = tt
offered_small false (Some table) counters statement all = by (draws table.schema statement) where
  by : (b : Bool) → SmallIf (cond b (next_of table.schema.name counters) None)
  by true = next_small table.schema.name counters all
  by false = tt

inside_small : (answered outside : Bool) (offer : Option ℕ) → SmallIf offer → SmallIf (drawn_if answered (offered_inside outside offer))
inside_small true true offer small = tt
inside_small true false offer small = small
inside_small false outside offer small = tt

none_drawn : (answered : Bool) → SmallIf (drawn_if answered None)
none_drawn true = tt
none_drawn false = tt

pub drawn_small : (state : State) (number : ℕ) (asks : Option Request) (answer : Answer) → SmallCounters state.counters → SmallIf (drawn_by state number asks answer)
unfolding offered_in
drawn_small state number (Some (requests.Do statement)) answer all =
    inside_small (is_answered answer) (is_outside (session_of number state.sessions) (requests.Do statement)) (offered_in (is_of_tool (session_of number state.sessions)) state.tables state.counters statement)
    (offered_small (is_of_tool (session_of number state.sessions)) (find_table (table_of statement) state.tables) state.counters statement all)
drawn_small state number asks answer all = none_drawn (is_answered answer)
