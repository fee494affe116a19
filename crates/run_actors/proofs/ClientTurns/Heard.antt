-- What became of a line in a turn, from its mark and the reply that the client heard.
use Rattle.std.proofs.Common.{◌≡◌, Bool, true, false, Option, Some, None, refl}
use Rattle.base_script.specs.declared.actor.Side.{Side}
use Rattle.server_model.specs.Alone.{reply_of}
use Rattle.server_model.specs.declared.answer.Answer.{Answer}
use Rattle.server_model.specs.declared.answer.Answer.TheVariants as answers
use Rattle.server_model.specs.declared.entry.Asked.{Asked}
use Rattle.server_model.specs.declared.entry.Asked.TheVariants.{Cut}
use Rattle.server_model.specs.declared.transaction.Reply.{Reply}
use Rattle.tool_program.specs.JournalWords.Clients as clients
use Rattle.tool_program.specs.JournalWords.Clients.{became_in, became_of}
use Rattle.run_actors.specs.declared.client_turns.outcome.LineOutcome.{LineOutcome}
use Rattle.run_actors.specs.declared.client_turns.outcome.LineOutcome.TheVariants.{Nothing, Waits, Marked, Broken}
use Rattle.run_actors.specs.ClientTurns.ActorStates.{heard_reply, line_outcome_as}

-- what became of a line that got this reply, where it got a mark
abbrev pub became_with : Option Reply → LineOutcome → clients.Became
became_with reply Nothing = clients.Nothing
became_with reply Waits = clients.Waits
became_with reply (Marked mark) = clients.Marked mark reply
became_with reply Broken = clients.Broken

answered_is : (answer : Answer) → became_of answer ≡ became_with (reply_of answer) (line_outcome_as (became_of answer))
answered_is (answers.Ok count) = refl
answered_is answer = refl

pub heard_is : (waits : Bool) (asked : Asked) (side : Option Side) (answer : Answer) (missed : Option Answer) → became_in waits asked side answer missed ≡ became_with (heard_reply asked side answer) (line_outcome_as (became_in waits asked side answer missed))
heard_is true Cut side answer missed = refl
heard_is false Cut side answer missed = refl
heard_is waits asked None answer missed = answered_is answer
heard_is waits asked (Some side) answer missed = refl
