-- Steps of a server's two parts: what each leaves of the state, and what its data are owed.
use Rattle.std.proofs.Common.{◌≡◌, ℕ, ◌+◌, Bool, true, false, List, [], ◌∷◌, ◌++◌, Result, Ok, Err, OnOk, OnErr, refl, sym, ap, ◌∙◌, subst}
use Rattle.std.specs.Prelude.{◌==◌}
use Rattle.std.proofs.lemmas.List.{append-nil}
use Rattle.base_values.specs.declared.event.RowEvent.{RowEvent}
use Rattle.table_store.specs.Databases.{Database}
use Rattle.server_model.specs.declared.need.Need.{Need}
use Rattle.server_model.specs.declared.request.Request.{Request}
use Rattle.server_model.specs.Effects.{nothing_needed}
use Rattle.server_model.specs.Operations.{after_events}
use Rattle.server_model.specs.Blockers.{need_within}
use Rattle.server_model.specs.PlainServer.{commits, counting, forgets, goes_on, locking, loses, polled_over, recounted, unlocking}
use Rattle.server_model.specs.Listings.{waits_shown}
use Rattle.server_model.specs.declared.session.Limits.{Limits}
use Rattle.server_model.specs.declared.session.Waiting.{Waiting}
use Rattle.server_model.specs.declared.counter.Counter.{Counter}
use Rattle.server_model.specs.States.{State, connected, passed, is_live, opened, polls_of, session_of, unread, view, with_session, writes_of}
use Rattle.server_model.specs.LockedRows.Databases.{IsWellFormedDatabase}
use Rattle.proof_journals.specs.Holdings.{face_of}
use Rattle.proof_journals.proofs.Serves.{granted}
use Rattle.proof_journals.proofs.Faces.{writes_face}
use Rattle.server_transaction.specs.FittingEvents.{EventsFit}
use Rattle.server_transaction.specs.declared.prepared.Prepared.{Prepared}
use Rattle.server_sessions.specs.LiveSessions.Rooms.{logs}
use Rattle.proof_journals.specs.ServerFacts.Grants.{GrowsWell}
use Rattle.proof_journals.specs.ServerFacts.Invariants.{IsServing}
use Rattle.proof_journals.proofs.ServerFacts.Calls.{connected_serves, kept_in, live_found, opened_serves}
use Rattle.proof_journals.proofs.ServerFacts.Effects.{AtWork}
use Rattle.proof_journals.proofs.ServerFacts.Granted.{quiet_own}
use Rattle.server.specs.Parts.{needed, state_of, GoTogether, HaveValidSchemas, HaveWritten, MayDo}
use Rattle.server.proofs.Fits.{own_fit, own_well_formed, others_fit, others_well_formed}
use Rattle.server.proofs.Having.{OthersSame, have_grows, have_joined, have_lost, have_rests, have_same}

-- what the data have, by the session's face
own_writes : (tables : Database) (written : ℕ → List RowEvent) (all_sessions : State) (n : ℕ) → GoTogether tables written all_sessions → written n ≡ (face_of all_sessions.sessions n).hold.writes
own_writes tables written all_sessions n together = together.have n ∙ writes_face (session_of n all_sessions.sessions)

-- the tables as the session sees them
pub seen_so : (tables : Database) (written : ℕ → List RowEvent) (all_sessions : State) (number : ℕ) → HaveWritten written all_sessions → after_events tables (written number) ≡ view number (state_of tables all_sessions)
seen_so tables written all_sessions number have = ap (after_events tables) (have number)

-- WHAT THE DATA ARE OWED

pub write_needs : (tables : Database) (written : ℕ → List RowEvent) (all_sessions : State) (number : ℕ) (need : Need) (events : List RowEvent) → GoTogether tables written all_sessions → GrowsWell tables (face_of all_sessions.sessions) number need events → EventsFit (after_events tables (written number)) events
write_needs tables written all_sessions number need events together well =
    subst (λ (w : List RowEvent). EventsFit (after_events tables w) events) (sym (own_writes tables written all_sessions number together))
    (own_fit tables (face_of all_sessions.sessions) number need events (kept_in (state_of tables all_sessions) together.serves) well)

pub write_leaves : (tables : Database) (written : ℕ → List RowEvent) (all_sessions : State) (number : ℕ) (need : Need) (events : List RowEvent) → GoTogether tables written all_sessions → GrowsWell tables (face_of all_sessions.sessions) number need events → IsWellFormedDatabase (after_events (after_events tables (written number)) events)
write_leaves tables written all_sessions number need events together well =
    subst (λ (w : List RowEvent). IsWellFormedDatabase (after_events (after_events tables w) events)) (sym (own_writes tables written all_sessions number together))
    (own_well_formed tables (face_of all_sessions.sessions) number need events (kept_in (state_of tables all_sessions) together.serves) well)

pub commits_need : (tables : Database) (written : ℕ → List RowEvent) (all_sessions : State) (number : ℕ) (need : Need) (events : List RowEvent) → GoTogether tables written all_sessions → GrowsWell tables (face_of all_sessions.sessions) number need events → (other : ℕ) → (other == number) ≡ false
    → EventsFit (after_events tables (written number ++ events)) (written other)
commits_need tables written all_sessions number need events together well other differ =
    subst (λ (w : List RowEvent). EventsFit (after_events tables (w ++ events)) (written other)) (sym (own_writes tables written all_sessions number together))
    (subst (λ (w : List RowEvent). EventsFit (after_events tables ((face_of all_sessions.sessions number).hold.writes ++ events)) w) (sym (own_writes tables written all_sessions other together))
    (others_fit tables (face_of all_sessions.sessions) number need events (kept_in (state_of tables all_sessions) together.serves) well other differ))

pub commits_leave : (tables : Database) (written : ℕ → List RowEvent) (all_sessions : State) (number : ℕ) (need : Need) (events : List RowEvent) → GoTogether tables written all_sessions → GrowsWell tables (face_of all_sessions.sessions) number need events → (other : ℕ) → (other == number) ≡ false
    → IsWellFormedDatabase (after_events (after_events tables (written number ++ events)) (written other))
commits_leave tables written all_sessions number need events together well other differ =
    subst (λ (w : List RowEvent). IsWellFormedDatabase (after_events (after_events tables (w ++ events)) (written other))) (sym (own_writes tables written all_sessions number together))
    (subst (λ (w : List RowEvent). IsWellFormedDatabase (after_events (after_events tables ((face_of all_sessions.sessions number).hold.writes ++ events)) w)) (sym (own_writes tables written all_sessions other together))
    (others_well_formed tables (face_of all_sessions.sessions) number need events (kept_in (state_of tables all_sessions) together.serves) well other differ))

quiet : (tables : Database) (written : ℕ → List RowEvent) (all_sessions : State) (number : ℕ) → GoTogether tables written all_sessions → GrowsWell tables (face_of all_sessions.sessions) number nothing_needed []
quiet tables written all_sessions number together = record {
  apart = λ n differ lock other one two. absurd one;
  own = quiet_own tables (face_of all_sessions.sessions number) nothing_needed (together.serves.own number);
}

-- a COMMIT
pub commit_needs : (tables : Database) (written : ℕ → List RowEvent) (all_sessions : State) (number : ℕ) → GoTogether tables written all_sessions → (other : ℕ) → (other == number) ≡ false → EventsFit (after_events tables (written number)) (written other)
commit_needs tables written all_sessions number together other differ =
    subst (λ (w : List RowEvent). EventsFit (after_events tables w) (written other)) (append-nil (written number)) (commits_need tables written all_sessions number nothing_needed [] together (quiet tables written all_sessions number together) other differ)

pub commit_leaves : (tables : Database) (written : ℕ → List RowEvent) (all_sessions : State) (number : ℕ) → GoTogether tables written all_sessions → (other : ℕ) → (other == number) ≡ false → IsWellFormedDatabase (after_events (after_events tables (written number)) (written other))
commit_leaves tables written all_sessions number together other differ =
    subst (λ (w : List RowEvent). IsWellFormedDatabase (after_events (after_events tables w) (written other))) (append-nil (written number)) (commits_leave tables written all_sessions number nothing_needed [] together (quiet tables written all_sessions number together) other differ)

-- ... of what was written in the same call
pub after_needs : (tables later : Database) (written more : ℕ → List RowEvent) (all_sessions : State) (number : ℕ) (need : Need) (events : List RowEvent) → GoTogether tables written all_sessions → GrowsWell tables (face_of all_sessions.sessions) number need events → later ≡ tables → more number ≡ written number ++ events
    → OthersSame number written more → (other : ℕ) → (other == number) ≡ false → EventsFit (after_events later (more number)) (more other)
after_needs tables later written more all_sessions number need events together well same own others other differ =
    rw (same, own, others other differ) (commits_need tables written all_sessions number need events together well other differ)

pub after_leaves : (tables later : Database) (written more : ℕ → List RowEvent) (all_sessions : State) (number : ℕ) (need : Need) (events : List RowEvent) → GoTogether tables written all_sessions → GrowsWell tables (face_of all_sessions.sessions) number need events → later ≡ tables → more number ≡ written number ++ events
    → OthersSame number written more → (other : ℕ) → (other == number) ≡ false → IsWellFormedDatabase (after_events (after_events later (more number)) (more other))
after_leaves tables later written more all_sessions number need events together well same own others other differ =
    rw (same, own, others other differ) (commits_leave tables written all_sessions number need events together well other differ)

-- WHAT IS LEFT

pub commits_state : (tables after : Database) (written : ℕ → List RowEvent) (all_sessions new : State) (number : ℕ) → HaveWritten written all_sessions → after ≡ after_events tables (written number) → new ≡ logs number [] all_sessions → state_of after new ≡ commits number [] (state_of tables all_sessions)
commits_state tables after written all_sessions new number have made logged =
    rw (logged, made, have number) (ap (λ (w : List RowEvent). state_of (after_events tables w) (logs number [] all_sessions)) (sym (append-nil (writes_of (session_of number all_sessions.sessions)))))

pub commits_have : (written after : ℕ → List RowEvent) (all_sessions new : State) (number : ℕ) (events : List RowEvent) → HaveWritten written all_sessions → after number ≡ [] → OthersSame number written after → new ≡ logs number events all_sessions → HaveWritten after new
commits_have written after all_sessions new number events have none same logged = rw logged (have_rests number written after all_sessions.sessions have none same)

pub forgets_have : (written after : ℕ → List RowEvent) (all_sessions new : State) (number : ℕ) → HaveWritten written all_sessions → after number ≡ [] → OthersSame number written after → new ≡ forgets number all_sessions → HaveWritten after new
forgets_have written after all_sessions new number have none same forgot = rw forgot (have_rests number written after all_sessions.sessions have none same)

pub loses_state : (tables after : Database) (all_sessions new : State) (number : ℕ) → after ≡ tables → new ≡ loses number all_sessions → state_of after new ≡ loses number (state_of tables all_sessions)
unfolding loses
loses_state tables after all_sessions new number same lost = rw (lost, same) refl

pub loses_have : (written after : ℕ → List RowEvent) (all_sessions new : State) (number : ℕ) → HaveWritten written all_sessions → after number ≡ [] → OthersSame number written after → new ≡ loses number all_sessions → HaveWritten after new
unfolding loses
loses_have written after all_sessions new number have none same lost = rw lost (have_lost number written after all_sessions.sessions have none same)

pub grows_have : (written after : ℕ → List RowEvent) (tables : Database) (all_sessions new : State) (number : ℕ) (need : Need) (events : List RowEvent) → GoTogether tables written all_sessions → is_live all_sessions number ≡ true → after number ≡ written number ++ events → OthersSame number written after → new ≡ goes_on number need events all_sessions → HaveWritten after new
grows_have written after tables all_sessions new number need events together live more same grown = rw grown (have_grows number need events written after all_sessions.sessions (live_found number all_sessions.sessions live) together.have more same)

-- WHO IS AT WORK

pub at_work : (tables : Database) (written : ℕ → List RowEvent) (all_sessions : State) (number : ℕ) (request : Request) (prepared : Prepared) → GoTogether tables written all_sessions → MayDo (state_of tables all_sessions) number request prepared → AtWork (state_of tables all_sessions) number request
at_work tables written all_sessions number request prepared together may = record {
  kept = kept_in (state_of tables all_sessions) together.serves;
  free = granted (state_of tables all_sessions) number (need_within (view number (state_of tables all_sessions)) request) together.serves.alone may.free;
  comes = may.comes;
  formed = may.formed;
}

-- the need with these locks is the request's
pub need_so : (tables : Database) (all_sessions : State) (number : ℕ) (request : Request) (prepared : Prepared) → MayDo (state_of tables all_sessions) number request prepared → needed request prepared.locks ≡ need_within (view number (state_of tables all_sessions)) request
need_so tables all_sessions number request prepared may = ap (needed request) may.locks_are

-- nothing is written, and nothing else changes of what the data have
pub quiet_have : (written : ℕ → List RowEvent) (all_sessions new : State) (number : ℕ) (need : Need) (events : List RowEvent) → HaveWritten written all_sessions → is_live all_sessions number ≡ true → events ≡ [] → new ≡ goes_on number need events all_sessions → HaveWritten written new
quiet_have written all_sessions new number need events have live none grown =
    rw (grown, none) (have_grows number need [] written written all_sessions.sessions (live_found number all_sessions.sessions live) have (sym (append-nil (written number))) (λ other differ. refl))

pub locks_have : (written : ℕ → List RowEvent) (all_sessions new : State) (number : ℕ) (names : List (List ℕ)) → HaveWritten written all_sessions → new ≡ record all_sessions { sessions = with_session number (locking names) all_sessions.sessions } → HaveWritten written new
locks_have written all_sessions new number names have locked = rw locked (have_same number (locking names) written all_sessions.sessions (λ s. refl) (λ s. refl) have)

pub unlocks_have : (written : ℕ → List RowEvent) (all_sessions new : State) (number : ℕ) → HaveWritten written all_sessions → new ≡ record all_sessions { sessions = with_session number unlocking all_sessions.sessions } → HaveWritten written new
unlocks_have written all_sessions new number have unlocked = rw unlocked (have_same number unlocking written all_sessions.sessions (λ s. refl) (λ s. refl) have)

pub waits_have : (written : ℕ → List RowEvent) (all_sessions new : State) (number : ℕ) (one : Waiting) → HaveWritten written all_sessions → new ≡ record all_sessions { waiting = all_sessions.waiting ++ one ∷ []; sessions = with_session number (counting 0) all_sessions.sessions } → HaveWritten written new
waits_have written all_sessions new number one have waits = rw waits (have_same number (counting 0) written all_sessions.sessions (λ s. refl) (λ s. refl) have)

-- a poll that stays blocked
pub blocked_have : (written after : ℕ → List RowEvent) (all_sessions new : State) (number by : ℕ) (over : Bool) → HaveWritten written all_sessions → (over ≡ true → after number ≡ []) → (over ≡ false → (n : ℕ) → after n ≡ written n) → OthersSame number written after → new ≡ (polled_over over by all_sessions number).after → HaveWritten after new
blocked_have written after all_sessions new number by true have none kept same polled = rw polled (have_rests number written after all_sessions.sessions have (none refl) same)
blocked_have written after all_sessions new number by false have none kept same polled =
    rw polled (λ n. kept refl n ∙ have_same number (counting (polls_of (session_of number all_sessions.sessions) + 1)) written all_sessions.sessions (λ s. refl) (λ s. refl) have n)

-- the data have what they had
pub same_together : (tables after : Database) (written later : ℕ → List RowEvent) (all_sessions : State) → GoTogether tables written all_sessions → after ≡ tables → ((n : ℕ) → later n ≡ written n) → GoTogether after later all_sessions
same_together tables after written later all_sessions together same kept = record {
  valid = subst HaveValidSchemas (sym same) together.valid;
  have = λ n. kept n ∙ together.have n;
  serves = subst (λ (d : Database). IsServing (state_of d all_sessions)) (sym same) together.serves;
}

pub waits_same : (tables : Database) (all_sessions : State) → waits_shown (state_of tables all_sessions) ≡ waits_shown all_sessions
unfolding waits_shown
waits_same tables all_sessions = refl

pub unread_same : (tables : Database) (all_sessions : State) (position : ℕ) (names : List (List ℕ)) → unread (state_of tables all_sessions) position names ≡ unread all_sessions position names
unfolding unread
unread_same tables all_sessions position names = refl

-- a server that opens, and one to which a session connects
pub recounted_serves : (counters : List Counter) (state : State) → IsServing state → IsServing (recounted counters state)
recounted_serves counters state serving = record {
  well_formed = serving.well_formed;
  own = serving.own;
  apart = serving.apart;
  alone = serving.alone;
  waits = serving.waits;
}

pub opened_together : (limits : Limits) (counters : List Counter) (tables : Database) (written : ℕ → List RowEvent) (all_sessions : State) → HaveValidSchemas tables → IsWellFormedDatabase tables → ((n : ℕ) → written n ≡ []) → all_sessions ≡ recounted counters (opened limits []) → GoTogether tables written all_sessions
opened_together limits counters tables written all_sessions valid well_formed none is =
    rw is (record { valid = valid; have = none; serves = recounted_serves counters (opened limits tables) (opened_serves limits tables well_formed) })

pub connected_together : {E : Type 0} (result : Result ℕ E) (tables : Database) (written : ℕ → List RowEvent) (all_sessions new : State) (number : ℕ) (is_tool : Bool) → GoTogether tables written all_sessions → OnOk result (new ≡ connected number is_tool all_sessions) → OnErr result (new ≡ all_sessions) → GoTogether tables written new
connected_together (Ok made) tables written all_sessions new number is_tool together ok err =
    rw ok (record { valid = together.valid; have = have_joined is_tool number written all_sessions.sessions together.have; serves = connected_serves number is_tool (state_of tables all_sessions) together.serves })
connected_together (Err fault) tables written all_sessions new number is_tool together ok err = rw err together

-- the number of a session that was lost at once is used up
pub passed_together : (tables : Database) (written : ℕ → List RowEvent) (all_sessions new : State) → GoTogether tables written all_sessions → new ≡ passed all_sessions → GoTogether tables written new
passed_together tables written all_sessions new together is =
    let serves = together.serves in
    rw is (record {
      valid = together.valid;
      have = together.have;
      serves = record { well_formed = serves.well_formed; own = serves.own; apart = serves.apart; alone = serves.alone; waits = serves.waits };
    })
