-- Whom a worker looks for, as the server says who waits.
use Rattle.std.proofs.Common.{◌≡◌, ℕ, ◌+◌, ◌==◌, ◌%◌, Bool, true, false, ◌&&◌, not, List, Option, Some, None, refl, sym, ap, ◌∙◌, arith}
use Rattle.std.specs.Prelude.{is_some}
use Rattle.std.specs.List.{slice_get}
use Rattle.std.proofs.lemmas.Bool.{true≢false, false≢true, and_parts}
use Rattle.std.proofs.lemmas.Option.{none-some}
use Rattle.std.proofs.Math.Bool.{and-false, and-true}
use Rattle.base_script.specs.declared.actor.Actor.{Actor}
use Rattle.base_script.specs.declared.operator.OperatorWord.{OperatorWord}
use Rattle.server_model.specs.declared.entry.Asked.{Asked}
use Rattle.server_model.specs.declared.entry.Asked.TheVariants.{Call, Poll, Command, Cut}
use Rattle.server_model.specs.declared.entry.Entry.{Entry}
use Rattle.server_model.specs.declared.request.Request.{Request}
use Rattle.plan_data.specs.PlanData.{PlanData}
use Rattle.tool_program.specs.JournalWords.Journals.{state_at}
use Rattle.tool_program.specs.JournalWords.Sessions.{live_session}
use Rattle.tool_program.specs.Programs.{waits, given}
use Rattle.tool_program.specs.Orders.{actors, is_ready, is_poll, owned, is_among, may_go, replica_length}
use Rattle.tool_program.specs.Feeds.{is_held_back}
use Rattle.proof_feeds.proofs.Holding.{waiting_actors_may_go}
use Rattle.proof_journals.specs.Run.Kept.{IsKept}
use Rattle.proof_journals.proofs.Machine.Asking.{idle_waits, busy_waits}
use Rattle.proof_journals.proofs.Machine.Polling.{AllTogether, given_idle, given_waits, all_formed}
use Rattle.proof_migration.proofs.ToolPhase.Owners.{together_owned}
use Rattle.run_turns.proofs.DueTurns.Coming.{Asks, Commands, Called, given_asks, given_uncut}
use Rattle.run_workers.specs.declared.worker_run.choice.Wanted.{Wanted}
use Rattle.run_workers.specs.declared.worker_run.choice.Wanted.TheVariants.{Own, Idle, Waiting}
use Rattle.run_workers.specs.WorkerRun.Workers.{IsGoing, is_wanted}
use Rattle.run_workers.proofs.WorkerRun.ActorStates.{actors_apart}
use Rattle.run_workers.proofs.WorkerRun.Owning.{among_place}

-- WHO WAITS

module _ (plan : PlanData) (journal : List Entry) (actor : Actor) (going : IsGoing plan) (kept : IsKept plan journal) where
  abbrev waiting : Bool
  waiting = waits (state_at plan journal) (live_session journal actor)

  all : AllTogether plan journal
  all = (all_formed plan journal going.runs.fitting kept.faithful kept.follows).all

  called : (request : Request) → given plan journal actor ≡ Some (Call request) → waiting ≡ false
  called request gives = by waiting refl
    where
      by : (b : Bool) → waiting ≡ b → b ≡ false
      by true is = let with = busy_waits (state_at plan journal) (live_session journal actor) is in absurd (none-some with.request (sym (given_idle plan journal actor request all gives) ∙ with.is))
      by false is = refl

  polled : given plan journal actor ≡ Some Poll → waiting ≡ true
  polled gives = by waiting refl
    where
      by : (b : Bool) → waiting ≡ b → b ≡ true
      by true is = refl
      by false is = let with = given_waits plan journal actor all gives in absurd (none-some with.request (sym (idle_waits (state_at plan journal) (live_session journal actor) is) ∙ with.is))

  commanded : (word : OperatorWord) → given plan journal actor ≡ Some (Command word) → waiting ≡ false
  commanded word gives = by (given_asks plan journal actor (Command word) gives)
    where
      by : Asks actor (Command word) → waiting ≡ false
      by (Commands other own same) = ap (waits (state_at plan journal)) (ap (live_session journal) own ∙ (together_owned plan journal kept.faithful kept.follows).owned.operator)
      by (Called may) = absurd (false≢true may)

  -- an actor that is ready waits exactly where it polls
  pub ready_waits : is_ready plan journal actor ≡ true → waiting ≡ is_poll (given plan journal actor)
  ready_waits ready = by (given plan journal actor) refl ready
    where
      by : (asked : Option Asked) → given plan journal actor ≡ asked → is_some asked ≡ true → waiting ≡ is_poll asked
      by None gives ready = absurd (false≢true ready)
      by (Some (Call request)) gives ready = called request gives
      by (Some Poll) gives ready = polled gives
      by (Some (Command word)) gives ready = commanded word gives
      by (Some Cut) gives ready = absurd (true≢false (given_uncut plan journal actor Cut gives))

-- who may go is ready
goes_ready : (plan : PlanData) (journal : List Entry) (actor : Actor) → may_go plan journal actor ≡ true → is_ready plan journal actor ≡ true
goes_ready plan journal actor goes = (and_parts (is_ready plan journal actor) (not (is_held_back plan journal (replica_length plan journal) actor)) goes).0

-- WHO IS WANTED

-- who waits may go, so who may not doesn't wait
stayed_poll : (plan : PlanData) (journal : List Entry) (actor : Actor) → may_go plan journal actor ≡ false → is_poll (given plan journal actor) ≡ false
stayed_poll plan journal actor none = by (given plan journal actor) refl
  where
    by : (asked : Option Asked) → given plan journal actor ≡ asked → is_poll asked ≡ false
    by None gives = refl
    by (Some (Call request)) gives = refl
    by (Some Poll) gives = absurd (false≢true (sym none ∙ waiting_actors_may_go plan journal actor gives))
    by (Some (Command word)) gives = refl
    by (Some Cut) gives = refl

-- who may not go isn't wanted
pub stayed_wanted : (plan : PlanData) (journal : List Entry) (own : List Actor) (actor : Actor) (wanted : Wanted) → may_go plan journal actor ≡ false → false ≡ is_wanted wanted plan journal own actor
stayed_wanted plan journal own actor Own none = sym (ap (λ b. is_among actor own && b) none ∙ and-false (is_among actor own))
stayed_wanted plan journal own actor Idle none = sym (ap (λ b. not (is_among actor own) && (b && not (is_poll (given plan journal actor)))) none ∙ and-false (not (is_among actor own)))
stayed_wanted plan journal own actor Waiting none = sym (ap (λ b. not (is_among actor own) && b) (stayed_poll plan journal actor none) ∙ and-false (not (is_among actor own)))

-- the actor at a place is the worker's own exactly where the place is
pub owned_place : (plan : PlanData) (count worker place : ℕ) (actor : Actor) → slice_get (actors plan) place ≡ Some actor → is_among actor (owned plan count worker) ≡ (place % count == worker)
owned_place plan count worker place actor is =
    let same : 0 + place ≡ place = omega arith in among_place count worker 0 place actor (actors plan) (actors_apart plan) is ∙ ap (λ (n : ℕ). n % count == worker) same

module _ (plan : PlanData) (journal : List Entry) (count worker place : ℕ) (actor : Actor) (is : slice_get (actors plan) place ≡ Some actor) (b : Bool) (same : b ≡ (place % count == worker)) where
  abbrev own : Bool
  own = is_among actor (owned plan count worker)

  own_is : own ≡ b
  own_is = owned_place plan count worker place actor is ∙ sym same

  -- an own one is, where it may go
  pub own_wanted : may_go plan journal actor ≡ true → b ≡ is_wanted Own plan journal (owned plan count worker) actor
  own_wanted goes = sym (ap (λ r. own && r) goes ∙ and-true own ∙ own_is)

  -- an own one isn't wanted among others
  pub own_unidle : b ≡ true → false ≡ is_wanted Idle plan journal (owned plan count worker) actor
  own_unidle so = sym (ap (λ c. not c && (may_go plan journal actor && not (is_poll (given plan journal actor)))) (own_is ∙ so))

  pub own_unwaiting : b ≡ true → false ≡ is_wanted Waiting plan journal (owned plan count worker) actor
  own_unwaiting so = sym (ap (λ c. not c && is_poll (given plan journal actor)) (own_is ∙ so))

  -- one of others is, where it may go and doesn't wait
  pub idle_wanted : IsGoing plan → IsKept plan journal → may_go plan journal actor ≡ true → b ≡ false → (waiting : Bool) → waiting ≡ waits (state_at plan journal) (live_session journal actor) → not waiting ≡ is_wanted Idle plan journal (owned plan count worker) actor
  idle_wanted going kept goes none waiting waits_so =
      ap not (waits_so ∙ ready_waits plan journal actor going kept (goes_ready plan journal actor goes))
      ∙ sym (ap (λ c. not c && (may_go plan journal actor && not (is_poll (given plan journal actor)))) (own_is ∙ none) ∙ ap (λ r. r && not (is_poll (given plan journal actor))) goes)

  -- and where it waits
  pub waiting_wanted : IsGoing plan → IsKept plan journal → may_go plan journal actor ≡ true → b ≡ false → (waiting : Bool) → waiting ≡ waits (state_at plan journal) (live_session journal actor) → waiting ≡ is_wanted Waiting plan journal (owned plan count worker) actor
  waiting_wanted going kept goes none waiting waits_so =
      waits_so ∙ ready_waits plan journal actor going kept (goes_ready plan journal actor goes) ∙ sym (ap (λ c. not c && is_poll (given plan journal actor)) (own_is ∙ none))

-- who is wanted may go
pub wanted_goes : (plan : PlanData) (journal : List Entry) (own : List Actor) (actor : Actor) (wanted : Wanted) → is_wanted wanted plan journal own actor ≡ true → may_go plan journal actor ≡ true
wanted_goes plan journal own actor wanted is = by (may_go plan journal actor) refl
  where
    by : (b : Bool) → may_go plan journal actor ≡ b → b ≡ true
    by true goes = refl
    by false none = absurd (false≢true (stayed_wanted plan journal own actor wanted none ∙ is))
