-- What one session adds to the counts.
use Rattle.std.proofs.Common.{◌≡◌, ℕ, ◌==◌, Bool, true, false, not, ◌&&◌, ◌||◌, List, [], ◌∷◌, cond, Option, Some, None, refl, ap, ◌∙◌, subst}
use Rattle.std.specs.List.{list_any}
use Rattle.std.specs.Option.{option_map}
use Rattle.base_script.specs.declared.actor.Actor.{Actor}
use Rattle.server_model.specs.Entries.{is_client}
use Rattle.server_model.specs.declared.session.Session.{Session}
use Rattle.server_model.specs.declared.session.Waiting.{Waiting}
use Rattle.server_model.specs.States.{State, session_of, is_in_transaction, is_waiting}
use Rattle.proof_journals.specs.Run.Counts.{is_open, is_busy, weight, weigh, kind_of}
use Rattle.server_model.proofs.LockedRows.Tests.{are_one}

not_not : (tool client : Bool) → tool ≡ not client → not tool ≡ client
not_not true true is = cc
not_not true false is = refl
not_not false true is = refl
not_not false false is = cc

opens_as : (found : Option Session) (client : Bool) → option_map (λ (s : Session). s.is_tool) found ≡ Some (not client) → weigh is_open found ≡ weight (client && is_in_transaction found)
opens_as None client is = absurd (cc)
opens_as (Some session) client is = ap (λ b. weight (b && session.in_transaction)) (not_not session.is_tool client (cc))

-- a client's transaction
pub opens : (state : State) (session : ℕ) (actor : Actor) → kind_of session state.sessions ≡ Some (not (is_client actor)) → weigh is_open (session_of session state.sessions) ≡ weight (is_client actor && is_in_transaction (session_of session state.sessions))
opens state session actor is = opens_as (session_of session state.sessions) (is_client actor) is

found_number : (b : Bool) (first found : Session) (more : Option Session) (number : ℕ) → (first.number == number) ≡ b → cond b (Some first) more ≡ Some found → (more ≡ Some found → found.number ≡ number) → found.number ≡ number
found_number true first found more number here is rest = let same : first ≡ found = cc in subst (λ (s : Session). s.number ≡ number) same (are_one first.number number here)
found_number false first found more number here is rest = rest is

number_of : (number : ℕ) (sessions : List Session) (found : Session) → session_of number sessions ≡ Some found → found.number ≡ number
number_of number [] found is = absurd (cc)
number_of number (first ∷ sessions) found is = found_number (first.number == number) first found (session_of number sessions) number refl is (number_of number sessions found)

busies_as : (waiting : List Waiting) (number : ℕ) (found : Option Session) (client : Bool) → ((session : Session) → found ≡ Some session → session.number ≡ number) → option_map (λ (s : Session). s.is_tool) found ≡ Some (not client)
    → weigh (is_busy waiting) found ≡ weight (not client && (is_in_transaction found || list_any (λ one. one.session == number) waiting))
busies_as waiting number None client numbers is = absurd (cc)
busies_as waiting number (Some session) client numbers is =
    ap (λ b. weight (b && (session.in_transaction || list_any (λ one. one.session == session.number) waiting))) kind
    ∙ ap (λ (n : ℕ). weight (not client && (session.in_transaction || list_any (λ one. one.session == n) waiting))) (numbers session refl)
  where
    kind : session.is_tool ≡ not client
    kind = cc

-- a session of the tool's
pub busies : (state : State) (session : ℕ) (actor : Actor) → kind_of session state.sessions ≡ Some (not (is_client actor))
    → weigh (is_busy state.waiting) (session_of session state.sessions) ≡ weight (not (is_client actor) && (is_in_transaction (session_of session state.sessions) || is_waiting state session))
busies state session actor is = busies_as state.waiting session (session_of session state.sessions) (is_client actor) (number_of session state.sessions) is

-- one that is in no transaction
pub busy_at : (tool works waits : Bool) → tool ≡ true → works ≡ false → weight waits ≡ weight (tool && (works || waits))
busy_at true false waits is none = refl
busy_at true true waits is none = absurd (cc)
busy_at false works waits is none = absurd (cc)
