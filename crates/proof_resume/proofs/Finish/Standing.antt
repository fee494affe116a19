-- What an actor's session has where at most one session holds anything.
use Rattle.std.proofs.Common.{◌≡◌, ℕ, ◌==◌, Bool, true, false, List, [], ◌∷◌, cond, Option, Some, None, refl, sym, ap, ◌∙◌}
use Rattle.std.specs.List.{AllByRecursion}
use Rattle.server_model.specs.declared.session.Session.{Session}
use Rattle.server_model.specs.declared.session.Waiting.{Waiting}
use Rattle.server_model.specs.States.{State, session_of, waiting_of}
use Rattle.proof_journals.specs.Holdings.{face_in, names_of}
use Rattle.proof_journals.specs.Machine.Standings.{standing_in}
use Rattle.proof_journals.specs.Turns.{request_of}
use Rattle.proof_journals.proofs.Faces.{busy_face}
use Rattle.proof_resume.proofs.Finish.Holders.{rests_free, IsFreeBut, IsHeldBy}

-- nobody waits
pub held_waits : (own : Option ℕ) (state : State) (live : Option ℕ) → IsHeldBy own state → (standing_in state live).waits ≡ None
held_waits own state None held = refl
held_waits own state (Some n) held = ap (λ (w : List Waiting). request_of (waiting_of n w)) held.waits

all_unlocked : (own : Option ℕ) (n : ℕ) (sessions : List Session) → AllByRecursion (IsFreeBut own) sessions → (face_in (session_of n sessions)).locked ≡ []
all_unlocked own n [] all = refl
all_unlocked own n (first ∷ sessions) all = by (first.number == n) (all_unlocked own n sessions all.1) where
  by : (b : Bool) → (face_in (session_of n sessions)).locked ≡ [] → (face_in (cond b (Some first) (session_of n sessions))).locked ≡ []
  by true rest = ap names_of all.0.unlocked
  by false rest = rest

-- ... nobody has locked a table
pub held_locked : (own : Option ℕ) (state : State) (live : Option ℕ) → IsHeldBy own state → (standing_in state live).locked ≡ []
held_locked own state None held = refl
held_locked own state (Some n) held = all_unlocked own n state.sessions held.sessions

-- ... and nobody is in a transaction, where no session holds anything
pub free_rests : (state : State) (live : Option ℕ) → IsHeldBy None state → (standing_in state live).busy ≡ false
free_rests state None held = refl
free_rests state (Some n) held = sym (busy_face (session_of n state.sessions)) ∙ rests_free None n state.sessions refl held.sessions
