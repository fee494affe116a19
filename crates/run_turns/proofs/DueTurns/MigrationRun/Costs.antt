-- Which turns may want memory: those that aren't free.
use Rattle.std.proofs.Common.{◌≡◌, ℕ, Bool, true, false, Option, Some, None, refl, ap, ◌∙◌, subst}
use Rattle.std.specs.Prelude.{◌&&◌, ◌||◌, nat_lt, Result, Ok, Err, IsOk, OnErr}
use Rattle.std.proofs.lemmas.Bool.{false≢true}
use Rattle.server_model.specs.declared.lost_calls.LostCall.{LostCall}
use Rattle.server_model.specs.declared.request.Request.{Request}
use Rattle.server_model.specs.declared.request.Request.TheVariants as requests
use Rattle.server_model.specs.Conditions.{is_free}
use Rattle.server_model.specs.Entries.{is_command}
use Rattle.server_model.specs.LostCalls.{lost_of}
use Rattle.server_model.specs.States.{State}
use Rattle.run_turns.specs.declared.due_turns.migration_run.turn.Turn.{Turn}
use Rattle.run_turns.specs.DueTurns.MigrationRun.FreeTurns.{is_free_in, is_free_turn, is_freely_passed, is_numbered}
use Rattle.run_turns.specs.DueTurns.MigrationRun.ServerTurns.{is_before}

-- what always succeeds where it is free wants memory only where it isn't
pub unless_free : {A E : Type 0} (free : Bool) (r : Result A E) → (free ≡ true → IsOk r) → OnErr r (free ≡ false)
unless_free free (Ok x) succeeds = tt
unless_free false (Err e) succeeds = refl
unless_free true (Err e) succeeds = absurd (false≢true (succeeds refl))

-- of what the journal doesn't keep whole none is free where it is asked of the server
pub lost_costs : (request : Request) (lost : LostCall) → lost_of request ≡ Some lost → is_free request ≡ false
lost_costs requests.Commit lost is = absurd (cc)
lost_costs requests.Rollback lost is = absurd (cc)
lost_costs requests.Unlock lost is = absurd (cc)
lost_costs request lost is = refl

-- a session that isn't lost before it asks anything is made, and so is none where no number is left
pub not_passed : (server : State) (turn : Turn) → is_before turn.side ≡ false → is_freely_passed server turn ≡ false
not_passed server turn asks = ap (λ (b : Bool). b && is_numbered server None) asks

pub none_left : (server : State) (turn : Turn) → server.made ≡ 4294967295 → is_freely_passed server turn ≡ false
none_left server turn last = by (is_before turn.side) where
  by : (before : Bool) → (before && is_numbered server None) ≡ false
  by true = ap (λ (made : ℕ). nat_lt made 4294967295) last
  by false = refl

-- a turn without a session opens one
pub opens_one : (server : State) (session : Option ℕ) (turn : Turn) → is_command turn.asked ≡ false → session ≡ None → is_freely_passed server turn ≡ false → is_free_turn server session turn ≡ false
opens_one server session turn called none opens = ap (λ (s : Option ℕ). is_free_turn server s turn) none ∙ ap (λ (b : Bool). b || is_freely_passed server turn) called ∙ opens

-- a turn is as free as what is asked in it
pub asks_so : (server opened : State) (session : Option ℕ) (number : ℕ) (turn : Turn) → is_command turn.asked ≡ false → (session ≡ None → is_before turn.side ≡ false) → ((own : ℕ) → session ≡ Some own → number ≡ own) → ((own : ℕ) → session ≡ Some own → opened ≡ server) → is_free_in opened number turn.side turn.asked ≡ false
    → is_free_turn server session turn ≡ false
asks_so server opened None number turn called asks own same costs = opens_one server None turn called refl (not_passed server turn (asks refl))
asks_so server opened (Some session) number turn called asks own same costs =
    subst (λ (n : ℕ). is_free_in server n turn.side turn.asked ≡ false) (own session refl) (subst (λ (s : State). is_free_in s number turn.side turn.asked ≡ false) (same session refl) costs)
