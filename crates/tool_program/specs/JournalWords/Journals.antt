-- *State at*, *inner answer*, *faithful*: the plain server after a journal's turns, what it answers in the next, and that
-- the answers of the journal are those. (This project's rule.)
use Rattle.std.specs.Prelude.{◌≡◌, ℕ, Bool, true, false, not, if◌then◌else◌, List, [], ◌∷◌, count_by, ◌&&◌, ◌||◌, Option, Some, None}
use Rattle.base_script.specs.declared.actor.Actor.{Actor}
use Rattle.base_script.specs.declared.actor.Side.{Side}
use Rattle.base_script.specs.declared.actor.Side.TheVariants.{After}
use Rattle.server_model.specs.Along.{Along}
use Rattle.server_model.specs.declared.answer.Answer.{Answer}
use Rattle.server_model.specs.declared.answer.Answer.TheVariants as answers
use Rattle.server_model.specs.declared.entry.Asked.{Asked}
use Rattle.server_model.specs.declared.entry.Asked.TheVariants.{Command, Cut}
use Rattle.server_model.specs.declared.entry.Entry.{Entry}
use Rattle.server_model.specs.Entries.{same_actor, is_client, is_command, is_cut}
use Rattle.server_model.specs.States.{State, opened, is_live, connected}
use Rattle.server_model.specs.PlainServer.{serves, given_at, drawn_in, state_left}
use Rattle.plan_data.specs.PlanData.{PlanData}

-- the server at the start of the plan's runs
abbrev pub opening : PlanData → State
opening plan = opened (record { client_wait = plan.options.client_wait; tool_wait = plan.options.tool_wait }) plan.tables

-- the session is live, unless nothing is asked of it
unfoldable pub opens_if : Bool → Bool → ℕ → State → State
opens_if nothing is_tool number state = if nothing || is_live state number then state else connected number is_tool state

-- The state once the entry's session is live. An entry opens the session that it names, as the tool's unless its actor
-- is a client; a command names none.
abbrev pub opens : Entry → State → State
opens entry state = opens_if (is_command entry.asked) (not (is_client entry.actor)) entry.session state

-- the state that the entry leaves, with the counters moved
abbrev pub after_entry : State → Entry → State
after_entry state entry = state_left entry.side (opens entry state) entry.session entry.asked

-- the server after turns, from this state on
unfoldable pub state_after : State → List Entry → State
state_after state [] = state
state_after state (entry ∷ entries) = state_after (after_entry state entry) entries

-- *State at*: the server after the turns of a journal.
abbrev pub state_at : PlanData → List Entry → State
state_at plan journal = state_after (opening plan) journal

-- *Inner answer*: what the server answers in the turn, from the state before it, also where the answer is lost.
unfoldable pub inner_answer : State → Entry → Option Answer
inner_answer state entry = given_at entry.side entry.asked (serves (opens entry state) entry.session entry.asked).answer

-- what the actor hears of it
abbrev pub heard : Option Side → Option Answer → Answer
heard None (Some answer) = answer
heard side inner = answers.Lost

-- what it misses
abbrev pub missed : Option Side → Option Answer → Option Answer
missed (Some After) inner = inner
missed side inner = None

-- a session is lost at a call or a poll, and not at a command or at a loss between calls
abbrev pub may_lose : Asked → Bool
may_lose (Command word) = false
may_lose Cut = false
may_lose asked = true

-- the number that the entry's statement drew, where this is the inner answer
abbrev pub drawn_of : State → Entry → Option Answer → Option ℕ
drawn_of state entry inner = drawn_in (opens entry state) entry.session entry.asked inner

-- An entry has the server's answer. Where its session was lost it has `Lost`, and what was missed where the side is After;
-- a command and a loss between calls have no side. Its draw is the number that its statement drew.
pub record IsAnswered (state : State) (entry : Entry) : Type 0 where
  pub sides : may_lose entry.asked ≡ false → entry.side ≡ None
  pub answer : entry.answer ≡ heard entry.side (inner_answer state entry)
  pub missed : entry.missed ≡ missed entry.side (inner_answer state entry)
  pub draw : entry.draw ≡ drawn_of state entry (inner_answer state entry)

-- *Faithful*: each answer of the journal is the plain server's.
abbrev pub IsFaithfulFrom : State → List Entry → Type 0
IsFaithfulFrom state journal = Along (λ before entry. IsAnswered (state_after state before) entry) [] journal

abbrev pub IsFaithful : PlanData → List Entry → Type 0
IsFaithful plan journal = IsFaithfulFrom (opening plan) journal

-- how many turns an actor took, losses between calls aside
abbrev pub turns_of : Actor → List Entry → ℕ
turns_of actor journal = count_by (λ entry. same_actor entry.actor actor && not (is_cut entry.asked)) journal
