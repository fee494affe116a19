-- What the code keeps of a client, in the words of how far it is in its script. (This project's rule.)
use Rattle.std.specs.Prelude.{◌≡◌, ℕ, Bool, true, false, if◌then◌else◌, List, drop, Option, Some, None}
use Rattle.base_script.specs.declared.script.ScriptLine.{ScriptLine}
use Rattle.base_script.specs.declared.actor.Side.{Side}
use Rattle.server_model.specs.Alone.{reply_of}
use Rattle.server_model.specs.declared.answer.Answer.{Answer}
use Rattle.server_model.specs.declared.entry.Asked.{Asked}
use Rattle.server_model.specs.declared.entry.Asked.TheVariants.{Cut}
use Rattle.server_model.specs.declared.entry.Entry.{Entry}
use Rattle.server_model.specs.declared.transaction.Reply.{Reply}
use Rattle.tool_program.specs.JournalWords.Clients as clients
use Rattle.run_actors.specs.declared.client_turns.actor_state.ClientState.{ClientState}
use Rattle.run_actors.specs.declared.client_turns.outcome.LineOutcome.{LineOutcome}
use Rattle.run_actors.specs.declared.client_turns.outcome.LineOutcome.TheVariants.{Nothing, Waits, Marked, Broken}

-- what became of a line, without its reply
abbrev pub line_outcome_as : clients.Became → LineOutcome
line_outcome_as clients.Nothing = Nothing
line_outcome_as clients.Waits = Waits
line_outcome_as (clients.Marked mark reply) = Marked mark
line_outcome_as clients.Broken = Broken

-- the reply that the client heard in its turn; none where its session was lost
abbrev pub heard_reply : Asked → Option Side → Answer → Option Reply
heard_reply Cut side answer = None
heard_reply asked None answer = reply_of answer
heard_reply asked (Some side) answer = None

-- the line got a mark in the turn: it was answered, timed out, or its session was lost
abbrev pub is_marked : clients.Became → Bool
is_marked (clients.Marked mark reply) = true
is_marked became = false

-- a line that draws a number gets its mark in the same turn, whether it waited before or not
abbrev pub DrawsAtMark : Entry → Type 0
DrawsAtMark entry = (waits : Bool) (number : ℕ) → entry.draw ≡ Some number → is_marked (clients.became_in waits entry.asked entry.side entry.answer entry.missed) ≡ true

-- *Reached*: the actor state has how far the client is in this script
pub record IsReached (script : List ScriptLine) (actor_state : ClientState) (client : clients.Reached) : Type 0 where
  pub left : client.left ≡ drop actor_state.place script
  pub inside : clients.is_inside client.lines ≡ actor_state.is_inside
  pub waits : client.waits ≡ actor_state.waits
  pub lost : client.is_lost ≡ actor_state.is_lost

-- what a client that is so far asks next
abbrev pub asks_so : clients.Reached → Option Asked
asks_so client = if client.is_lost then None else clients.line_asks client.waits client.left
