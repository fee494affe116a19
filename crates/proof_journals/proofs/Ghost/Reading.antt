-- What ReadLog tells is what the log has between two places.
use Rattle.std.proofs.Common.{◌≡◌, ℕ, zero, suc, ◌+◌, ◌<◌, ◌≤◌, Bool, true, false, List, [], ◌∷◌, ◌++◌, length, map, take, drop, cond, Some, refl, sym, ap, ◌∙◌, subst, arith}
use Rattle.std.specs.Prelude.{◌==◌}
use Rattle.std.proofs.lemmas.Bool.Decides.{nat_tests}
use Rattle.std.proofs.lemmas.Bool.{true≢false}
use Rattle.std.specs.List.{slice_get, list_any}
use Rattle.std.specs.Str.{bytes_eq}
use Rattle.base_values.specs.declared.event.RowEvent.{RowEvent}
use Rattle.base_values.specs.declared.event.Change.{Change}
use Rattle.proof_journals.proofs.Ghost.Doing.{end_does}
use Rattle.proof_journals.proofs.Ghost.Ending.{batch_ends}
use Rattle.proof_journals.specs.Ghost.Doings.{changes_in, own_change, IsWhole, planned}
use Rattle.proof_journals.specs.Ghost.Invariant.{GhostInvariant}
use Rattle.proof_journals.specs.Ghost.OwnChanges.{EventsReported, IsReported, own_changes}
use Rattle.proof_journals.specs.Ghost.Relation.Views.{Progress}
use Rattle.proof_journals.specs.Ghost.Rows.Moments.{Row, rows_after_all}
use Rattle.proof_journals.specs.Ghost.Rows.Timelines.{IsPlanned, Migration}
use Rattle.proof_journals.specs.Ghost.Rows.Views.{GhostRows}
use Rattle.proof_journals.specs.Scenes.{SessionHold, Stored, no_hold}
use Rattle.server_model.specs.Listings.{ReadEvent, after_last, read_from, events_given, events_read}
use Rattle.server_model.specs.States.{is_of}
use Rattle.server_model.proofs.LockedRows.Tests.{are_one, are_same}

-- the part of a log that begins at a place
pub record IsPart (log : List RowEvent) (place : ℕ) (part : List RowEvent) : Type 0 where
  pub at : (i : ℕ) → slice_get log (place + i) ≡ slice_get part i
  pub size : length log ≡ place + length part

get_drop : (log : List RowEvent) (place i : ℕ) → slice_get log (place + i) ≡ slice_get (drop place log) i
get_drop log zero i = let e : 0 + i ≡ i = omega arith in ap (slice_get log) e
get_drop [] (suc place) i = refl
get_drop (event ∷ log) (suc place) i = let e : suc place + i ≡ suc (place + i) = omega arith in ap (slice_get (event ∷ log)) e ∙ get_drop log place i

size_drop : (log : List RowEvent) (place : ℕ) → place ≤ length log → length log ≡ place + length (drop place log)
size_drop log zero within = let e : length log ≡ 0 + length log = omega arith in e
size_drop [] (suc place) within = absurd (omega (arith, within))
size_drop (event ∷ log) (suc place) within = let e : length log ≡ place + length (drop place log) = size_drop log place (omega (arith, within)) in omega (arith, e)

pub part_of : (log : List RowEvent) (place : ℕ) → place ≤ length log → IsPart log place (drop place log)
part_of log place within = record { at = get_drop log place; size = size_drop log place within }

pub next_part : (log : List RowEvent) (place : ℕ) (event : RowEvent) (part : List RowEvent) → IsPart log place (event ∷ part) → IsPart log (place + 1) part
next_part log place event part is =
    let size = is.size in
    record { at = λ i. let e : (place + 1) + i ≡ place + (suc i) = omega arith in ap (slice_get log) e ∙ is.at (suc i); size = omega (arith, size) }

first_of : (log : List RowEvent) (place : ℕ) (event : RowEvent) (part : List RowEvent) → IsPart log place (event ∷ part) → slice_get log place ≡ Some event
first_of log place event part is = let e : place ≡ place + 0 = omega arith in ap (slice_get log) e ∙ is.at 0

-- one event more in front
abbrev reported_first : RowEvent → EventsReported → EventsReported
reported_first event reported = record { events = event ∷ reported.events; next = reported.next }

reported_none : (name : List ℕ) (log : List RowEvent) (place : ℕ) (part : List RowEvent) → IsPart log place part → IsReported name log place (record { events = []; next = place })
unfolding own_changes changes_in
reported_none name log place part is = let size = is.size in record { steps = 0; sum = omega arith; within = omega (arith, size); are = refl }

not_own : (name : List ℕ) (tables : List (List ℕ)) (event : RowEvent) (b : Bool) → bytes_eq event.table name ≡ b → list_any (bytes_eq name) tables ≡ true → list_any (bytes_eq event.table) tables ≡ false → cond b (event.change ∷ []) [] ≡ []
not_own name tables event true same named none =
    absurd (true≢false (sym (subst (λ (n : List ℕ). list_any (bytes_eq n) tables ≡ true) (sym (are_same event.table name same)) named) ∙ none))
not_own name tables event false same named none = refl

reported_more : (name : List ℕ) (log : List RowEvent) (place : ℕ) (event : RowEvent) (reported : EventsReported) → slice_get log place ≡ Some event → IsReported name log (place + 1) reported → IsReported name log place (reported_first event reported)
unfolding own_changes changes_in
reported_more name log place event reported there rest =
    let sum = rest.sum in
    record { steps = suc rest.steps; sum = omega (arith, sum); within = rest.within; are = rw there (ap (λ (cs : List Change). own_change name (Some event) ++ cs) rest.are) }

reported_past : (name : List ℕ) (log : List RowEvent) (place : ℕ) (event : RowEvent) (reported : EventsReported) → slice_get log place ≡ Some event → own_change name (Some event) ≡ [] → IsReported name log (place + 1) reported → IsReported name log place reported
unfolding changes_in
reported_past name log place event reported there none rest =
    let sum = rest.sum in
    record { steps = suc rest.steps; sum = omega (arith, sum); within = rest.within; are = rest.are ∙ sym (rw there (ap (λ (cs : List Change). cs ++ changes_in name log (place + 1) rest.steps) none)) }

-- the events that were read
abbrev events_in : List ReadEvent → List RowEvent
events_in given = map (λ (read : ReadEvent). read.event) given

-- as many as were asked for: what is told ends behind the last of them
full_by : (name : List ℕ) (tables : List (List ℕ)) (log : List RowEvent) (n place last : ℕ) (event : RowEvent) (part : List RowEvent) (others : List ReadEvent) (b : Bool) → is_of tables event ≡ b → list_any (bytes_eq name) tables ≡ true → IsPart log place (event ∷ part)
    → length (take (suc n) (cond b (record { event = event; following = place + 1 } ∷ others) others)) ≡ suc n
    → ((m d : ℕ) → length (take (suc m) others) ≡ suc m → IsReported name log (place + 1) (record { events = events_in (take (suc m) others); next = after_last d (take (suc m) others) }))
    → IsReported name log place (record { events = events_in (take (suc n) (cond b (record { event = event; following = place + 1 } ∷ others) others)); next = after_last last (take (suc n) (cond b (record { event = event; following = place + 1 } ∷ others) others)) })
full_by name tables log zero place last event part others true is named at full rest =
    reported_more name log place event (record { events = []; next = place + 1 }) (first_of log place event part at) (reported_none name log (place + 1) part (next_part log place event part at))
full_by name tables log (suc n) place last event part others true is named at full rest =
    reported_more name log place event (record { events = events_in (take (suc n) others); next = after_last (place + 1) (take (suc n) others) }) (first_of log place event part at) (rest n (place + 1) (let less : length (take (suc n) others) ≡ suc n = omega (arith, full) in less))
full_by name tables log n place last event part others false is named at full rest =
    reported_past name log place event (record { events = events_in (take (suc n) others); next = after_last last (take (suc n) others) }) (first_of log place event part at) (not_own name tables event (bytes_eq event.table name) refl named is) (rest n last full)

full_reported : (name : List ℕ) (tables : List (List ℕ)) (log : List RowEvent) (part : List RowEvent) (place : ℕ) → list_any (bytes_eq name) tables ≡ true → IsPart log place part → (n last : ℕ) → length (take (suc n) (read_from tables place part)) ≡ suc n
    → IsReported name log place (record { events = events_in (take (suc n) (read_from tables place part)); next = after_last last (take (suc n) (read_from tables place part)) })
unfolding read_from
full_reported name tables log [] place named is n last full = absurd (let no : ⊥ = omega (arith, full) in no)
full_reported name tables log (event ∷ part) place named is n last full =
    full_by name tables log n place last event part (read_from tables (place + 1) part) (is_of tables event) refl named is full (full_reported name tables log part (place + 1) named (next_part log place event part is))

-- fewer than were asked for: what is told ends at the log's end
short_by : (name : List ℕ) (tables : List (List ℕ)) (log : List RowEvent) (n place : ℕ) (event : RowEvent) (part : List RowEvent) (others : List ReadEvent) (b : Bool) → is_of tables event ≡ b → list_any (bytes_eq name) tables ≡ true → IsPart log place (event ∷ part)
    → length (take (suc n) (cond b (record { event = event; following = place + 1 } ∷ others) others)) < suc n → ((m : ℕ) → length (take m others) < m → IsReported name log (place + 1) (record { events = events_in (take m others); next = length log }))
    → IsReported name log place (record { events = events_in (take (suc n) (cond b (record { event = event; following = place + 1 } ∷ others) others)); next = length log })
short_by name tables log n place event part others true is named at less rest =
    reported_more name log place event (record { events = events_in (take n others); next = length log }) (first_of log place event part at) (rest n (omega (arith, less)))
short_by name tables log n place event part others false is named at less rest =
    reported_past name log place event (record { events = events_in (take (suc n) others); next = length log }) (first_of log place event part at) (not_own name tables event (bytes_eq event.table name) refl named is) (rest (suc n) less)

reported_end : (name : List ℕ) (log : List RowEvent) (place : ℕ) → IsPart log place [] → IsReported name log place (record { events = []; next = length log })
unfolding own_changes changes_in
reported_end name log place is = let size = is.size in record { steps = 0; sum = omega (arith, size); within = omega arith; are = refl }

short_reported : (name : List ℕ) (tables : List (List ℕ)) (log : List RowEvent) (part : List RowEvent) (place : ℕ) → list_any (bytes_eq name) tables ≡ true → IsPart log place part → (n : ℕ) → length (take n (read_from tables place part)) < n
    → IsReported name log place (record { events = events_in (take n (read_from tables place part)); next = length log })
unfolding read_from
short_reported name tables log part place named is zero less = absurd (let no : ⊥ = omega (arith, less) in no)
short_reported name tables log [] place named is (suc n) less = reported_end name log place is
short_reported name tables log (event ∷ part) place named is (suc n) less =
    short_by name tables log n place event part (read_from tables (place + 1) part) (is_of tables event) refl named is less (short_reported name tables log part (place + 1) named (next_part log place event part is))

-- as many or fewer
pub taken_length : (n : ℕ) (given : List ReadEvent) → length (take n given) ≤ n
taken_length zero given = omega arith
taken_length (suc n) [] = omega arith
taken_length (suc n) (read ∷ given) = let less : length (take n given) ≤ n = taken_length n given in omega (arith, less)

-- *ReadLog tells what the log has*, of the table among its tables, one event at least being asked for
pub reads : (name : List ℕ) (tables : List (List ℕ)) (log : List RowEvent) (limit position : ℕ) → list_any (bytes_eq name) tables ≡ true → position ≤ length log
    → IsReported name log position (record { events = events_in (take (suc limit) (read_from tables position (drop position log))); next = cond (length (take (suc limit) (read_from tables position (drop position log))) == suc limit) (after_last 0 (take (suc limit) (read_from tables position (drop position log)))) (length log) })
reads name tables log limit position named within = at (length (take (suc limit) (read_from tables position (drop position log))) == suc limit) refl where
  at : (b : Bool) → (length (take (suc limit) (read_from tables position (drop position log))) == suc limit) ≡ b
      → IsReported name log position (record { events = events_in (take (suc limit) (read_from tables position (drop position log))); next = cond b (after_last 0 (take (suc limit) (read_from tables position (drop position log)))) (length log) })
  at true is = full_reported name tables log (drop position log) position named (part_of log position within) limit 0 (are_one (length (take (suc limit) (read_from tables position (drop position log)))) (suc limit) is)
  at false is =
      let all : length (take (suc limit) (read_from tables position (drop position log))) ≤ suc limit = taken_length (suc limit) (read_from tables position (drop position log)) in
      short_reported name tables log (drop position log) position named (part_of log position within) (suc limit) (grind (arith, nat_tests, all, is))

-- *The log is read*: what is planned for the events told is what is to be done up to the next position.
pub read_whole : (m : Migration) (log : List RowEvent) (position : ℕ) (reported : EventsReported) → IsReported m.name log position reported → IsWhole m log position (length log) reported.next (planned m (own_changes m.name reported.events))
read_whole m log position reported is = record { steps = is.steps; sum = is.sum; within = is.within; are = ap (planned m) is.are }

-- *The log is read with no event of the table*: the position moves.
pub position_moves : (m : Migration) (rows : List Row) (done : Row → Bool) (taken : List Row) (progress : Progress Row) (ghost : GhostRows) (copier applier : ℕ) (now : Stored) (hold : ℕ → SessionHold) (next : ℕ) → IsPlanned m rows → GhostInvariant m rows done (λ _. false) taken progress (record ghost { batch = [] }) copier applier now hold
    → hold applier ≡ no_hold → IsWhole m now.log progress.reached progress.end next [] → GhostInvariant m rows done (λ _. false) taken (record progress { position = next; reached = next; applier_holds = λ _. false }) (record ghost { batch = [] }) copier applier now hold
unfolding rows_after_all
position_moves m rows done taken progress ghost copier applier now hold next planned kept idle whole =
    let there : GhostInvariant m rows done (λ _. false) taken (record progress { reached = next }) (record ghost { batch = [] }) copier applier now hold = end_does m rows done taken progress (record ghost { batch = [] }) copier applier now hold next planned kept whole in
    record {
      joined = rw (ap (λ (s : SessionHold). s.locks) idle) (batch_ends m rows now.log done (hold applier).locks (hold copier).locks taken (record progress { reached = next }) (record ghost { batch = [] }) planned there.joined);
      old = there.old;
      new = there.new;
      batch = there.batch;
      chunk = there.chunk;
      differ = there.differ;
    }

pub read_is : (position limit : ℕ) (tables : List (List ℕ)) (log : List RowEvent) → events_read position limit tables log ≡ events_given limit (length log) (take limit (read_from tables position (drop position log)))
unfolding events_read
read_is position limit tables log = refl
