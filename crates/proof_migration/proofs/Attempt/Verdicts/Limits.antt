-- How long sessions wait is the plan's, after every journal.
use Rattle.server_model.specs.Drawing.{filled}
use Rattle.std.proofs.Common.{◌≡◌, ℕ, Bool, true, false, cond, ◌||◌, List, [], ◌∷◌, Option, Some, None, refl, ap, ◌∙◌}
use Rattle.base_script.specs.declared.actor.Side.{Side}
use Rattle.base_script.specs.declared.actor.Side.TheVariants.{Before, After}
use Rattle.server_model.specs.declared.entry.Asked.{Asked}
use Rattle.server_model.specs.declared.entry.Asked.TheVariants.{Call, Poll, Command, Cut}
use Rattle.server_model.specs.declared.entry.Entry.{Entry}
use Rattle.server_model.specs.declared.request.Request.{Request}
use Rattle.server_model.specs.declared.session.Waiting.{Waiting}
use Rattle.server_model.specs.Effects.{Effect, effect}
use Rattle.server_model.specs.Effects.Effect.{Rests, Grows, Writes, Forgets, Moves, Locks, Unlocks}
use Rattle.server_model.specs.Entries.{is_command}
use Rattle.server_model.specs.PlainServer.{does, done, did, without_waiting, called_unless, calls, is_over, polled_over, polled_unless, polled_of, polls, loses, serves, leaves}
use Rattle.server_model.specs.States.{State, waiting_of, connected, is_live}
use Rattle.plan_data.specs.PlanData.{PlanData}
use Rattle.tool_program.specs.JournalWords.Journals.{opening, opens_if, opens, after_entry, state_after, state_at}

does_limits : (one : Effect) (state : State) (number : ℕ) → (does one state number).after.limits ≡ state.limits
does_limits (Rests answer) state number = refl
does_limits (Grows answer need events) state number = refl
does_limits (Writes answer events) state number = refl
does_limits (Forgets answer) state number = refl
does_limits (Moves answer tables) state number = refl
does_limits (Locks answer names) state number = refl
does_limits (Unlocks answer) state number = refl

done_limits : (state : State) (number : ℕ) (request : Request) → (done state number request).after.limits ≡ state.limits
unfolding did
done_limits state number request = does_limits (effect state number (filled state number request)) state number

served_limits : (state : State) (number : ℕ) (asked : Asked) → (serves state number asked).after.limits ≡ state.limits
unfolding calls polls loses
served_limits state number (Call request) = at _ where
  at : (by : Option ℕ) → (called_unless by state number request).after.limits ≡ state.limits
  at None = done_limits state number request
  at (Some by) = refl
served_limits state number Poll = at (waiting_of number state.waiting) where
  over : (b : Bool) (by : ℕ) → (polled_over b by state number).after.limits ≡ state.limits
  over true by = refl
  over false by = refl

  each : (waiting : Waiting) (by : Option ℕ) → (polled_unless by state number waiting.request).after.limits ≡ state.limits
  each waiting None = done_limits (without_waiting number state) number waiting.request
  each waiting (Some by) = over (is_over state number) by

  at : (waiting : Option Waiting) → (polled_of waiting state number).after.limits ≡ state.limits
  at None = refl
  at (Some waiting) = each waiting _
served_limits state number (Command word) = refl
served_limits state number Cut = refl

left_limits : (side : Option Side) (state : State) (number : ℕ) (asked : Asked) → (leaves side state number asked).limits ≡ state.limits
unfolding loses
left_limits None state number asked = served_limits state number asked
left_limits (Some Before) state number asked = refl
left_limits (Some After) state number asked = served_limits state number asked

pub opened_limits : (nothing tool : Bool) (number : ℕ) (state : State) → (opens_if nothing tool number state).limits ≡ state.limits
unfolding opens_if
opened_limits nothing tool number state = at (nothing || is_live state number) where
  at : (b : Bool) → (cond b state (connected number tool state)).limits ≡ state.limits
  at true = refl
  at false = refl

pub limits_after : (state : State) (journal : List Entry) → (state_after state journal).limits ≡ state.limits
unfolding state_after
limits_after state [] = refl
limits_after state (entry ∷ journal) =
    limits_after (after_entry state entry) journal ∙ left_limits entry.side (opens entry state) entry.session entry.asked ∙ opened_limits (is_command entry.asked) _ entry.session state

-- *The tool and the clients wait as long as the plan says*
pub tool_waits : (plan : PlanData) (journal : List Entry) → (state_at plan journal).limits.tool_wait ≡ plan.options.tool_wait
tool_waits plan journal = ap (λ limits. limits.tool_wait) (limits_after (opening plan) journal)

pub client_waits : (plan : PlanData) (journal : List Entry) → (state_at plan journal).limits.client_wait ≡ plan.options.client_wait
client_waits plan journal = ap (λ limits. limits.client_wait) (limits_after (opening plan) journal)
