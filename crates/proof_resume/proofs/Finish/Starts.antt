-- What a new copier and a new applier start from.
use Rattle.std.proofs.Common.{◌≡◌, ℕ, ◌==◌, Bool, true, false, List, [], ◌∷◌, cond, Some, None, refl, sym, ap, ◌∙◌, subst}
use Rattle.std.specs.List.{AllByRecursion}
use Rattle.base_values.specs.GhoSchema.Rows.{key_of, key_places}
use Rattle.base_values.specs.GhoSchema.Tables.{Ascends}
use Rattle.base_values.specs.Spans.{has}
use Rattle.base_values.specs.declared.span.Bound.TheVariants.{Closed}
use Rattle.base_values.specs.declared.event.RowEvent.{RowEvent}
use Rattle.server_locks.specs.declared.row_locks.lock.Lock.{Lock}
use Rattle.server_model.specs.Chunks.{ends_of, keys_of, last_of}
use Rattle.server_model.specs.declared.answer.Answer.TheVariants as answers
use Rattle.server_model.specs.declared.answer.KeyRange.{KeyRange}
use Rattle.server_model.specs.declared.session.HeldName.{HeldName}
use Rattle.server_model.specs.declared.session.Session.{Session}
use Rattle.server_model.specs.States.{State, session_of, shared_names}
use Rattle.proof_journals.specs.Ghost.Rows.Moments.{Row}
use Rattle.proof_journals.specs.Holdings.{face_in, names_of}
use Rattle.proof_journals.specs.Scenes.{SessionHold, no_hold}
use Rattle.proof_journals.proofs.Ghost.Ranges.{in_range}
use Rattle.proof_migration.specs.Migration.Machines.{hold_at}
use Rattle.proof_resume.specs.Settled.Ranges.{rows_now}
use Rattle.proof_resume.specs.Finish.Starts.{RangesAreNow}
use Rattle.proof_resume.proofs.Finish.Holders.{IsFree, IsFreeBut, IsHeldBy}

-- THE RANGE

range_covers : (places : List ℕ) (rows : List Row) (range : KeyRange) → Ascends places rows → answers.Ends (Some range) ≡ ends_of (keys_of places rows) → AllByRecursion (λ row. has (record { low = Closed range.least; high = Closed range.greatest }) (key_of places row) ≡ true) rows
range_covers places [] range ascends is = tt
range_covers places (first ∷ others) range ascends is =
    let same : range ≡ record { least = key_of places first; greatest = last_of (key_of places first) (keys_of places others) } = cc in
    subst (λ (r : KeyRange). AllByRecursion (λ row. has (record { low = Closed r.least; high = Closed r.greatest }) (key_of places row) ≡ true) (first ∷ others)) (sym same) (in_range places first others ascends)

range_empty : (places : List ℕ) (rows : List Row) → answers.Ends None ≡ ends_of (keys_of places rows) → rows ≡ []
range_empty places [] is = refl
range_empty places (first ∷ others) is = absurd (cc)

-- *Answered ranges are of the rows as they exist*
pub ranges_are_now : RangesAreNow
ranges_are_now m rows now None ascends is = range_empty (key_places m.schema) (rows_now m rows now) is
ranges_are_now m rows now (Some range) ascends is = range_covers (key_places m.schema) (rows_now m rows now) range ascends is

-- NOBODY HOLDS ANYTHING

free_holds : (session : Session) → IsFree session → (face_in (Some session)).hold ≡ no_hold
free_holds session is =
    ap (λ (names : List HeldName). (let hold : SessionHold = record { names = names_of (shared_names names); locks = session.row_locks; writes = session.writes } in hold)) is.names
    ∙ ap (λ (locks : List Lock). (let hold : SessionHold = record { names = []; locks = locks; writes = session.writes } in hold)) is.locks
    ∙ ap (λ (writes : List RowEvent). (let hold : SessionHold = record { names = []; locks = []; writes = writes } in hold)) is.writes

all_hold : (number : ℕ) (sessions : List Session) → AllByRecursion (IsFreeBut None) sessions → (face_in (session_of number sessions)).hold ≡ no_hold
all_hold number [] all = refl
all_hold number (first ∷ sessions) all = by (first.number == number) (all_hold number sessions all.1) where
  by : (b : Bool) → (face_in (session_of number sessions)).hold ≡ no_hold → (face_in (cond b (Some first) (session_of number sessions))).hold ≡ no_hold
  by true rest = free_holds first (all.0.free refl)
  by false rest = rest

-- *Nobody holds anything* where no session is but free
pub nobody_holds : (state : State) (number : ℕ) → IsHeldBy None state → hold_at state number ≡ no_hold
nobody_holds state number held = all_hold number state.sessions held.sessions
