-- One session of many with a change.
use Rattle.std.proofs.Common.{◌≡◌, ℕ, ◌==◌, Bool, List, [], ◌∷◌, get_or, Some, None, Result, Ok, Err, OnOk, refl, sym, ap, ◌∙◌, subst, position}
use Rattle.std.specs.List.{slice_set}
use Rattle.server_sessions.specs.LiveSessions.KeptSessions.{KeptSession, kept_of, with_kept}
use Rattle.server_sessions.proofs.SessionLocks.Places.{first_place, some_place, none_place}

abbrev pub has_number : ℕ → KeptSession → Bool
has_number number session = session.number == number

pub edited : (number : ℕ) (change : KeptSession → KeptSession) (sessions : List KeptSession) (place : ℕ) (session : KeptSession) → position (has_number number) sessions ≡ Some place → session ≡ get_or sessions place session → slice_set sessions place (change session) ≡ with_kept number change sessions
unfolding with_kept
edited number change [] place session is at = absurd (cc)
edited number change (first ∷ sessions) place session is at =
    some_place (has_number number first) (position (has_number number) sessions) place (slice_set (first ∷ sessions) place (change session) ≡ with_kept number change (first ∷ sessions)) (sym (first_place (has_number number) first sessions) ∙ is)
    (λ here zero_is. rw (here, zero_is) (ap (λ s. change s ∷ sessions) (subst (λ n. session ≡ get_or (first ∷ sessions) n session) zero_is at)))
    (λ there n some suc_is.
    let at' : session ≡ get_or sessions n session = subst (λ k. session ≡ get_or (first ∷ sessions) k session) suc_is at in
    rw (there, suc_is) (ap (λ others. first ∷ others) (edited number change sessions n session some at')))

pub nothing_edited : (number : ℕ) (change : KeptSession → KeptSession) (sessions : List KeptSession) → position (has_number number) sessions ≡ None → sessions ≡ with_kept number change sessions
unfolding with_kept
nothing_edited number change [] none = refl
nothing_edited number change (first ∷ sessions) none =
    none_place (has_number number first) (position (has_number number) sessions) (first ∷ sessions ≡ with_kept number change (first ∷ sessions)) (sym (first_place (has_number number) first sessions) ∙ none)
    (λ not more. rw not (ap (λ others. first ∷ others) (nothing_edited number change sessions more)))

pub found_at : (number : ℕ) (sessions : List KeptSession) (place : ℕ) (session : KeptSession) → position (has_number number) sessions ≡ Some place → session ≡ get_or sessions place session → kept_of number sessions ≡ Some session
found_at number [] place session is at = absurd (cc)
found_at number (first ∷ sessions) place session is at =
    some_place (has_number number first) (position (has_number number) sessions) place (kept_of number (first ∷ sessions) ≡ Some session) (sym (first_place (has_number number) first sessions) ∙ is)
    (λ here zero_is. let same : session ≡ first = subst (λ n. session ≡ get_or (first ∷ sessions) n session) zero_is at in rw here (ap (λ s. Some s) (sym same)))
    (λ there n some suc_is.
    let at' : session ≡ get_or sessions n session = subst (λ k. session ≡ get_or (first ∷ sessions) k session) suc_is at in
    rw there (found_at number sessions n session some at'))

pub not_found : (number : ℕ) (sessions : List KeptSession) → position (has_number number) sessions ≡ None → kept_of number sessions ≡ None
not_found number [] none = refl
not_found number (first ∷ sessions) none =
    none_place (has_number number first) (position (has_number number) sessions) (kept_of number (first ∷ sessions) ≡ None) (sym (first_place (has_number number) first sessions) ∙ none)
    (λ other more. rw other (not_found number sessions more))

-- the session at its place became this one, where the call was done
pub edited_ok : {E : Type 0} (result : Result (Unit {0}) E) (number : ℕ) (change : KeptSession → KeptSession) (sessions : List KeptSession) (place : ℕ) (session after : KeptSession) → position (has_number number) sessions ≡ Some place → session ≡ get_or sessions place session
    → OnOk result (after ≡ change session) → OnOk result (slice_set sessions place after ≡ with_kept number change sessions)
edited_ok (Ok done) number change sessions place session after is at became = rw became (edited number change sessions place session is at)
edited_ok (Err fault) number change sessions place session after is at became = tt
