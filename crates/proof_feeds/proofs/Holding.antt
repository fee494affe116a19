-- Whom the replica holds back, and that someone may go.
use Rattle.std.proofs.Common.{◌≡◌, ℕ, zero, suc, ◌+◌, ◌<◌, ◌≤◌, Bool, true, false, cond, not, ◌&&◌, ◌||◌, List, [], ◌∷◌, ◌++◌, length, drop, Option, Some, None, refl, sym, ap, ◌∙◌, subst, arith}
use Rattle.std.specs.Prelude.{◌==◌, nat_lt, count_by}
use Rattle.std.specs.List.{list_any}
use Rattle.std.proofs.Math.Path.{fun_ext}
use Rattle.std.proofs.Math.Seq.{drop-length}
use Rattle.std.proofs.lemmas.Bool.{true≢false, false≢true}
use Rattle.std.proofs.lemmas.Bool.Decides.{nat_tests}
use Rattle.base_values.specs.declared.event.RowEvent.{RowEvent}
use Rattle.base_script.specs.declared.actor.Actor.{Actor}
use Rattle.base_script.specs.declared.actor.Actor.TheVariants.{Op, Insp, Copy, Apply, Lock, Ren, Client}
use Rattle.server_model.specs.declared.request.Request.{Request}
use Rattle.server_model.specs.declared.request.Request.TheVariants as requests
use Rattle.server_model.specs.declared.entry.Asked.{Asked}
use Rattle.server_model.specs.declared.entry.Asked.TheVariants.{Call, Poll, Command, Cut}
use Rattle.server_model.specs.declared.entry.Entry.{Entry}
use Rattle.server_model.specs.States.{State, is_of, unread}
use Rattle.base_values.specs.ToolNames.{log_name}
use Rattle.plan_data.specs.PlanData.{PlanData}
use Rattle.tool_program.specs.JournalWords.Journals.{state_at}
use Rattle.tool_program.specs.Orders.{actors, caught_up, held_behind, is_caught, is_ready, may_go, may_go_at, replica_length}
use Rattle.tool_program.specs.Programs.{given}
use Rattle.tool_program.specs.Feeds.{holds_call, holds_read, is_held_back, lag, lags}
use Rattle.proof_feeds.specs.Laws.{NobodyIsHeldWithout, SomeoneMayGo, WaitingActorsMayGo}

-- THE LOG'S END HOLDS NOBODY BACK

same_number : (n : ℕ) → (n == n) ≡ true
same_number n = by (n == n) refl where
  by : (b : Bool) → (n == n) ≡ b → b ≡ true
  by true is = refl
  by false is = absurd (grind (arith, nat_tests, is))

none_below : (n : ℕ) → nat_lt n 0 ≡ false
none_below n = by (nat_lt n 0) refl where
  by : (b : Bool) → nat_lt n 0 ≡ b → b ≡ false
  by false is = refl
  by true is = absurd (grind (arith, nat_tests, is))

none_unread : (state : State) (names : List (List ℕ)) → unread state (length state.log) names ≡ 0
unfolding unread
none_unread state names = ap (count_by (is_of names)) (drop-length state.log)

no_lag : (plan : PlanData) (state : State) → lags plan state (length state.log) ≡ false
no_lag plan state = ap (nat_lt plan.options.max_lag) (none_unread state (log_name plan.table ∷ [])) ∙ none_below plan.options.max_lag

pub free_at_end : (plan : PlanData) (state : State) (actor : Actor) (asked : Option Asked) → holds_call plan state (length state.log) actor asked ≡ false
free_at_end plan state Apply (Some (Call (requests.ReadLog position limit tables))) = rw (same_number (length state.log)) refl
free_at_end plan state Copy (Some (Call (requests.ChunkEnd table low top size))) = no_lag plan state
free_at_end plan state Lock (Some (Call (requests.Create schema))) = no_lag plan state
free_at_end plan state actor asked = refl

unheld_at_end : (plan : PlanData) (journal : List Entry) (actor : Actor) → is_held_back plan journal (length (state_at plan journal).log) actor ≡ false
unfolding is_held_back
unheld_at_end plan journal actor = by (plan.options.replica_step == 0) where
  by : (b : Bool) → cond b false (holds_call plan (state_at plan journal) (length (state_at plan journal).log) actor (given plan journal actor)) ≡ false
  by true = refl
  by false = free_at_end plan (state_at plan journal) actor (given plan journal actor)

and_free : (b : Bool) → (b && true) ≡ b
and_free true = refl
and_free false = refl

may_go_at_end : (plan : PlanData) (journal : List Entry) (actor : Actor) → may_go_at plan journal (length (state_at plan journal).log) actor ≡ is_ready plan journal actor
may_go_at_end plan journal actor = ap (λ (h : Bool). is_ready plan journal actor && not h) (unheld_at_end plan journal actor) ∙ and_free (is_ready plan journal actor)

-- WITHOUT A REPLICA

pub nobody_is_held_without : NobodyIsHeldWithout
unfolding is_held_back
nobody_is_held_without plan journal actor none = ap (λ (h : Bool). is_ready plan journal actor && not h) (unheld (plan.options.replica_step == 0) refl) ∙ and_free (is_ready plan journal actor) where
  unheld : (b : Bool) → (plan.options.replica_step == 0) ≡ b → cond b false (holds_call plan (state_at plan journal) (replica_length plan journal) actor (given plan journal actor)) ≡ false
  unheld true is = refl
  unheld false is = absurd (false≢true (sym is ∙ ap (λ (n : ℕ). n == 0) none ∙ same_number 0))

-- SOMEONE MAY GO

-- after the catch-up, by whether one is due
pub length_is : (plan : PlanData) (journal : List Entry) (b : Bool) → is_caught plan journal (held_behind plan journal).held ≡ b → replica_length plan journal ≡ cond b (length (state_at plan journal).log) (held_behind plan journal).held
unfolding replica_length
length_is plan journal b is = rw is refl

uncaught : (a b : Bool) → a ≡ true → (a && not b) ≡ false → b ≡ true
uncaught true true is none = refl
uncaught true false is none = absurd (true≢false none)
uncaught false b is none = absurd (false≢true is)

pub someone_may_go : SomeoneMayGo
someone_may_go plan journal ready = by (is_caught plan journal (held_behind plan journal).held) refl where
  by : (b : Bool) → is_caught plan journal (held_behind plan journal).held ≡ b → list_any (may_go plan journal) (actors plan) ≡ true
  by true is =
      ap (λ (n : ℕ). list_any (may_go_at plan journal n) (actors plan)) (length_is plan journal true is)
      ∙ ap (λ (test : Actor → Bool). list_any test (actors plan)) (fun_ext (may_go_at_end plan journal)) ∙ ready
  by false is =
      ap (λ (n : ℕ). list_any (may_go_at plan journal n) (actors plan)) (length_is plan journal false is)
      ∙ uncaught (list_any (is_ready plan journal) (actors plan)) (list_any (may_go_at plan journal (held_behind plan journal).held) (actors plan)) ready is

-- WHO WAITS

-- a poll is never held back
free_poll : (plan : PlanData) (state : State) (held : ℕ) (actor : Actor) → holds_call plan state held actor (Some Poll) ≡ false
free_poll plan state held Op = refl
free_poll plan state held Insp = refl
free_poll plan state held Copy = refl
free_poll plan state held Apply = refl
free_poll plan state held Lock = refl
free_poll plan state held Ren = refl
free_poll plan state held (Client client) = refl

pub waiting_actors_may_go : WaitingActorsMayGo
unfolding is_held_back
waiting_actors_may_go plan journal actor waits = rw waits (by (plan.options.replica_step == 0)) where
  by : (b : Bool) → (true && not (cond b false (holds_call plan (state_at plan journal) (replica_length plan journal) actor (Some Poll)))) ≡ true
  by true = refl
  by false = ap not (free_poll plan (state_at plan journal) (replica_length plan journal) actor)
