-- What the data have of each session, while sessions change.
use Rattle.std.proofs.Common.{◌≡◌, ℕ, Bool, true, false, not, List, [], ◌∷◌, ◌++◌, filter, cond, Option, Some, None, refl, sym, ap, ◌∙◌, subst}
use Rattle.std.specs.Prelude.{◌==◌}
use Rattle.base_values.specs.declared.event.RowEvent.{RowEvent}
use Rattle.server_model.specs.declared.need.Need.{Need}
use Rattle.server_model.specs.declared.session.Session.{Session}
use Rattle.server_model.specs.PlainServer.{at_rest, holding}
use Rattle.server_model.specs.States.{new_session, session_of, with_session, writes_of}
use Rattle.server_model.proofs.LockedRows.Tests.{are_one}
use Rattle.proof_journals.specs.Holdings.{Face}
use Rattle.proof_journals.proofs.Faces.{changed_here, changed_there, faces_without, gone_there, writes_face}
use Rattle.proof_journals.proofs.ServerFacts.Calls.{Live}

-- the data have what each of the sessions wrote
abbrev pub HaveIn : (ℕ → List RowEvent) → List Session → Type 0
HaveIn written sessions = (n : ℕ) → written n ≡ writes_of (session_of n sessions)

-- at the session that changes, and at the others
abbrev pub OthersSame : ℕ → (ℕ → List RowEvent) → (ℕ → List RowEvent) → Type 0
OthersSame number before after = (other : ℕ) → (other == number) ≡ false → after other ≡ before other

have_each : (number : ℕ) (before after : ℕ → List RowEvent) (sessions others : List Session) → HaveIn before sessions → OthersSame number before after → ((n : ℕ) → (n == number) ≡ false → session_of n others ≡ session_of n sessions) → after number ≡ writes_of (session_of number others) → HaveIn after others
have_each number before after sessions others have same there here n = at (n == number) refl where
  at : (b : Bool) → (n == number) ≡ b → after n ≡ writes_of (session_of n others)
  at true is = subst (λ (m : ℕ). after m ≡ writes_of (session_of m others)) (sym (are_one n number is)) here
  at false is = same n is ∙ have n ∙ ap writes_of (sym (there n is))

-- its transaction is over
rested : (number : ℕ) (sessions : List Session) → [] ≡ writes_of (session_of number (with_session number at_rest sessions))
unfolding with_session
rested number [] = refl
rested number (first ∷ sessions) = at (first.number == number) refl (rested number sessions) where
  at : (b : Bool) → (first.number == number) ≡ b → [] ≡ writes_of (session_of number (with_session number at_rest sessions)) → [] ≡ writes_of (session_of number (cond b (at_rest first ∷ sessions) (first ∷ with_session number at_rest sessions)))
  at true here rest = rw here refl
  at false here rest = rw here rest

pub have_rests : (number : ℕ) (before after : ℕ → List RowEvent) (sessions : List Session) → HaveIn before sessions → after number ≡ [] → OthersSame number before after → HaveIn after (with_session number at_rest sessions)
have_rests number before after sessions have none same =
    have_each number before after sessions (with_session number at_rest sessions) have same (λ n differ. changed_there number n at_rest sessions (λ s. refl) differ) (none ∙ rested number sessions)

-- it is gone
pub have_lost : (number : ℕ) (before after : ℕ → List RowEvent) (sessions : List Session) → HaveIn before sessions → after number ≡ [] → OthersSame number before after → HaveIn after (filter (λ session. not (session.number == number)) sessions)
have_lost number before after sessions have none same =
    have_each number before after sessions (filter (λ session. not (session.number == number)) sessions) have same (λ n differ. gone_there number n sessions differ)
    (none ∙ sym (writes_face (session_of number (filter (λ session. not (session.number == number)) sessions)) ∙ ap (λ (f : Face). f.hold.writes) (faces_without number sessions).here))

-- it goes on
pub have_grows : (number : ℕ) (need : Need) (events : List RowEvent) (before after : ℕ → List RowEvent) (sessions : List Session) → Live number sessions → HaveIn before sessions → after number ≡ before number ++ events → OthersSame number before after
    → HaveIn after (with_session number (holding need events) sessions)
have_grows number need events before after sessions live have more same =
    have_each number before after sessions (with_session number (holding need events) sessions) have same (λ n differ. changed_there number n (holding need events) sessions (λ s. refl) differ)
    (more ∙ ap (λ (w : List RowEvent). w ++ events) (have number ∙ ap writes_of live.is) ∙ sym (ap writes_of (changed_here number (holding need events) sessions live.found (λ s. refl) live.is)))

-- a change that leaves what is asked of a session
pub kept_of : {A : Type 0} (f : Option Session → A) (number n : ℕ) (change : Session → Session) (sessions : List Session) → ((s : Session) → (change s).number ≡ s.number) → ((s : Session) → f (Some (change s)) ≡ f (Some s)) → f (session_of n sessions) ≡ f (session_of n (with_session number change sessions))
unfolding with_session
kept_of {A} f number n change [] numbers same = refl
kept_of {A} f number n change (first ∷ sessions) numbers same = at (first.number == number) (kept_of f number n change sessions numbers same) where
  here : (c : Bool) → f (cond c (Some first) (session_of n sessions)) ≡ f (cond c (Some (change first)) (session_of n sessions))
  here true = sym (same first)
  here false = refl

  there : (c : Bool) → f (session_of n sessions) ≡ f (session_of n (with_session number change sessions)) → f (cond c (Some first) (session_of n sessions)) ≡ f (cond c (Some first) (session_of n (with_session number change sessions)))
  there true rest = refl
  there false rest = rest

  at : (b : Bool) → f (session_of n sessions) ≡ f (session_of n (with_session number change sessions))
      → f (cond (first.number == n) (Some first) (session_of n sessions)) ≡ f (session_of n (cond b (change first ∷ sessions) (first ∷ with_session number change sessions)))
  at true rest = subst (λ (m : ℕ). f (cond (first.number == n) (Some first) (session_of n sessions)) ≡ f (cond (m == n) (Some (change first)) (session_of n sessions))) (sym (numbers first)) (here (first.number == n))
  at false rest = there (first.number == n) rest

pub kept_writes : (number n : ℕ) (change : Session → Session) (sessions : List Session) → ((s : Session) → (change s).number ≡ s.number) → ((s : Session) → (change s).writes ≡ s.writes) → writes_of (session_of n sessions) ≡ writes_of (session_of n (with_session number change sessions))
kept_writes number n change sessions numbers writes = kept_of writes_of number n change sessions numbers writes

pub have_same : (number : ℕ) (change : Session → Session) (written : ℕ → List RowEvent) (sessions : List Session) → ((s : Session) → (change s).number ≡ s.number) → ((s : Session) → (change s).writes ≡ s.writes) → HaveIn written sessions → HaveIn written (with_session number change sessions)
have_same number change written sessions numbers writes have n = have n ∙ kept_writes number n change sessions numbers writes

-- a session connects
joined_writes : (is_tool : Bool) (number n : ℕ) (sessions : List Session) → writes_of (session_of n sessions) ≡ writes_of (session_of n (sessions ++ new_session number is_tool ∷ []))
joined_writes is_tool number n [] = at (number == n) where
  at : (b : Bool) → [] ≡ writes_of (cond b (Some (new_session number is_tool)) None)
  at true = refl
  at false = refl
joined_writes is_tool number n (first ∷ sessions) = at (first.number == n) (joined_writes is_tool number n sessions) where
  at : (b : Bool) → writes_of (session_of n sessions) ≡ writes_of (session_of n (sessions ++ new_session number is_tool ∷ [])) → writes_of (cond b (Some first) (session_of n sessions)) ≡ writes_of (cond b (Some first) (session_of n (sessions ++ new_session number is_tool ∷ [])))
  at true rest = refl
  at false rest = rest

pub have_joined : (is_tool : Bool) (number : ℕ) (written : ℕ → List RowEvent) (sessions : List Session) → HaveIn written sessions → HaveIn written (sessions ++ new_session number is_tool ∷ [])
have_joined is_tool number written sessions have n = have n ∙ joined_writes is_tool number n sessions
