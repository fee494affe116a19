-- What a line says became of a client's line.
use Rattle.std.proofs.Common.{◌≡◌, Bool, true, false, None, refl}
use Rattle.run_actors.specs.ClientTurns.ActorStates.{line_outcome_as}
use Rattle.run_audit.specs.declared.line.LineAnswer.{LineAnswer}
use Rattle.run_audit.specs.declared.line.LineAnswer.TheVariants as answers
use Rattle.run_audit.specs.declared.line.LineAsked.{LineAsked}
use Rattle.run_audit.specs.declared.line.LineAsked.TheVariants.{Call, Cut}
use Rattle.run_audit.specs.Rules.{became_of_line, is_cut}
use Rattle.tool_program.specs.JournalWords.Clients.{cut_off}
use Rattle.run_judge.specs.Outcomes.{called_outcome}
use Rattle.run_judge.specs.Replies.{called_reply, reply_in}

-- a line that was called or polled became what its answer says
pub as_called : (waits : Bool) (asked : LineAsked) (answer : LineAnswer) → is_cut asked ≡ false → became_of_line waits asked answer ≡ became_of_line false Call answer
as_called waits Cut answer asks = absurd (cc)
as_called waits asked (answers.Ok count) asks = refl
as_called waits asked (answers.Error number) asks = refl
as_called waits asked (answers.Rows rows) asks = refl
as_called waits asked (answers.Waits by) asks = refl
as_called waits asked (answers.TimedOut waited) asks = refl
as_called waits asked answers.Lost asks = refl
as_called waits asked answers.LostDone asks = refl
as_called waits asked answers.LostWaited asks = refl
as_called waits asked answers.LostRefused asks = refl
as_called waits asked answers.Other asks = refl

pub called_is : (waits : Bool) (asked : LineAsked) (answer : LineAnswer) → is_cut asked ≡ false → line_outcome_as (became_of_line waits asked answer) ≡ called_outcome answer
called_is waits asked answer asks = rw (as_called waits asked answer asks) refl

pub cut_is : (waits : Bool) (asked : LineAsked) (answer : LineAnswer) → is_cut asked ≡ true → line_outcome_as (became_of_line waits asked answer) ≡ line_outcome_as (cut_off waits)
cut_is waits Cut answer is = refl
cut_is waits asked answer is = absurd (cc)

cut_reply : (waits : Bool) → reply_in (cut_off waits) ≡ None
cut_reply true = refl
cut_reply false = refl

-- the reply to it
pub called_replies : (waits : Bool) (asked : LineAsked) (answer : LineAnswer) → is_cut asked ≡ false → reply_in (became_of_line waits asked answer) ≡ called_reply answer
called_replies waits asked answer asks = rw (as_called waits asked answer asks) refl

pub cut_replies : (waits : Bool) (asked : LineAsked) (answer : LineAnswer) → is_cut asked ≡ true → reply_in (became_of_line waits asked answer) ≡ None
cut_replies waits Cut answer is = cut_reply waits
cut_replies waits asked answer is = absurd (cc)
