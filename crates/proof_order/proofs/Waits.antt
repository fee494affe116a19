-- The list of waits shows the RENAME that waits.
use Rattle.std.proofs.Common.{◌≡◌, ℕ, ◌==◌, Bool, true, false, cond, ◌||◌, List, [], ◌∷◌, ◌++◌, Option, Some, None, refl, sym, ap, ◌∙◌}
use Rattle.std.specs.Prelude.{map, take, drop, fold}
use Rattle.std.specs.List.{list_any}
use Rattle.std.proofs.Math.Bool.{or-false, or_assoc}
use Rattle.std.proofs.lemmas.Bool.{or_left, or_right}
use Rattle.std.proofs.lemmas.List.{take-append-drop}
use Rattle.std.proofs.lemmas.List.Folds.{list_any-append}
use Rattle.server_locks.specs.declared.metadata_locks.request.Waiter.{Waiter}
use Rattle.server_model.specs.declared.answer.Answer.{Answer}
use Rattle.server_model.specs.declared.answer.Answer.TheVariants as answers
use Rattle.server_model.specs.declared.listing.ShownWaiter.{ShownWaiter}
use Rattle.server_model.specs.declared.request.Request.{Request}
use Rattle.server_model.specs.declared.request.Request.TheVariants as requests
use Rattle.server_model.specs.declared.session.Waiting.{Waiting}
use Rattle.server_model.specs.Blockers.{need, blocker}
use Rattle.server_model.specs.Effects.{is_outside, effect_unless}
use Rattle.server_model.specs.Listings.{placed_waiter, waiter_shown, waits_shown}
use Rattle.server_model.specs.PlainServer.{does, done, did, called_unless, calls}
use Rattle.server_model.specs.States.{State, session_of, is_in_transaction, view, is_exclusive, names_in, waiting_of, waiters}
use Rattle.proof_journals.specs.Turns.{request_of}
use Rattle.proof_order.specs.CutOverOrder.{has_session}

-- WHAT THE LIST HAS

inserted : (test : ShownWaiter → Bool) (shown : List ShownWaiter) (place : ℕ) (new : ShownWaiter) → list_any test (take place shown ++ new ∷ drop place shown) ≡ (list_any test shown || test new)
inserted test shown place new =
    list_any-append test (take place shown) (new ∷ drop place shown) ∙ by (list_any test (take place shown)) (test new) (list_any test (drop place shown)) ∙ ap (λ (b : Bool). b || test new) (sym parts) where
      parts : list_any test shown ≡ (list_any test (take place shown) || list_any test (drop place shown))
      parts = ap (list_any test) (sym (take-append-drop place shown)) ∙ list_any-append test (take place shown) (drop place shown)

      by : (a b c : Bool) → (a || (b || c)) ≡ ((a || c) || b)
      by true b c = refl
      by false true true = refl
      by false true false = refl
      by false false true = refl
      by false false false = refl

placed_any : (test : ShownWaiter → Bool) (rest shown : List ShownWaiter) → list_any test (fold placed_waiter shown rest) ≡ (list_any test shown || list_any test rest)
placed_any test [] shown = sym (or-false (list_any test shown))
placed_any test (first ∷ rest) shown =
    placed_any test rest (placed_waiter shown first) ∙ ap (λ (b : Bool). b || list_any test rest) (inserted test shown _ first) ∙ or_assoc (list_any test shown) (test first) (list_any test rest)

shown_any : (test : ShownWaiter → Bool) (state : State) → list_any test (waits_shown state) ≡ list_any test (map (waiter_shown state) (waiters state.waiting))
unfolding waits_shown
shown_any test state = placed_any test (map (waiter_shown state) (waiters state.waiting)) []

module _ (state : State) (session : ℕ) (request : Request) (exclusive : is_exclusive request ≡ true) where
  abbrev has : List Waiter → Bool
  has waiting = list_any (λ waiter. waiter.session == session) (map (waiter_shown state) waiting)

  listed : (waiting : List Waiting) → request_of (waiting_of session waiting) ≡ Some request → has (waiters waiting) ≡ true
  listed [] is = absurd cc
  listed (first ∷ waiting) is = at (listed waiting) (first.session == session) refl is where
    one : Waiter
    one = record { session = first.session; names = names_in first.request }

    here : (first.session == session) ≡ true → is_exclusive first.request ≡ true → has (waiters (first ∷ waiting)) ≡ true
    here same waits = by (is_exclusive first.request) waits where
      by : (b : Bool) → b ≡ true → has (cond b (one ∷ []) [] ++ waiters waiting) ≡ true
      by true is = or_left (first.session == session) (has (waiters waiting)) same
      by false is = absurd cc

    there : has (waiters waiting) ≡ true → has (waiters (first ∷ waiting)) ≡ true
    there later = by (is_exclusive first.request) where
      by : (b : Bool) → has (cond b (one ∷ []) [] ++ waiters waiting) ≡ true
      by true = or_right (first.session == session) (has (waiters waiting)) later
      by false = later

    at : (request_of (waiting_of session waiting) ≡ Some request → has (waiters waiting) ≡ true) → (b : Bool) → (first.session == session) ≡ b → request_of (cond b (Some first) (waiting_of session waiting)) ≡ Some request → has (waiters (first ∷ waiting)) ≡ true
    at later true same is = here same (let so : first.request ≡ request = cc in ap is_exclusive so ∙ exclusive)
    at later false other is = there (later is)

  -- *Who waits for names exclusively is shown*
  pub shows_session : request_of (waiting_of session state.waiting) ≡ Some request → has_session session (waits_shown state) ≡ true
  shows_session is = shown_any (λ waiter. waiter.session == session) state ∙ listed state.waiting is

-- WHAT IS ANSWERED

abbrev pub ShownBy : State → Answer → Type 0
ShownBy state (answers.Waiting waiters) = waiters ≡ waits_shown state
ShownBy state answer = Unit {0}

show_done : (found : State) (number : ℕ) → ShownBy found (done found number requests.ShowWaiting).answer
unfolding did
show_done found number = at (is_outside (session_of number found.sessions) requests.ShowWaiting) where
  at : (b : Bool) → ShownBy found (does (effect_unless b (is_in_transaction (session_of number found.sessions)) (view number found) found requests.ShowWaiting) found number).answer
  at true = tt
  at false = refl

-- *Waits are shown as they are*
pub show_called : (state : State) (number : ℕ) → ShownBy state (calls state number requests.ShowWaiting).answer
unfolding calls
show_called state number = at (blocker state number (need state number requests.ShowWaiting)) where
  at : (by : Option ℕ) → ShownBy state (called_unless by state number requests.ShowWaiting).answer
  at None = show_done state number
  at (Some by) = tt
