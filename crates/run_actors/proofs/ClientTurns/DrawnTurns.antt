-- A line that draws a number is marked in that turn, where the entry's answer is the server's.
use Rattle.std.proofs.Common.{◌≡◌, ℕ, Bool, true, false, Option, Some, None, refl, sym, ap, ◌∙◌, subst}
use Rattle.std.proofs.lemmas.Bool.{false≢true}
use Rattle.base_script.specs.declared.actor.Side.{Side}
use Rattle.base_script.specs.declared.actor.Side.TheVariants.{Before, After}
use Rattle.server_model.specs.declared.answer.Answer.{Answer}
use Rattle.server_model.specs.declared.answer.Answer.TheVariants as answers
use Rattle.server_model.specs.declared.entry.Asked.{Asked}
use Rattle.server_model.specs.declared.entry.Asked.TheVariants.{Call, Poll, Command, Cut}
use Rattle.server_model.specs.declared.entry.Entry.{Entry}
use Rattle.server_model.specs.States.{State}
use Rattle.server_model.specs.Counting.{is_answered, drawn_if}
use Rattle.server_model.specs.PlainServer.{serves, given_at, drawn_in}
use Rattle.tool_program.specs.JournalWords.Clients.{became_in, became_of}
use Rattle.tool_program.specs.JournalWords.Journals.{opens, heard, inner_answer, IsAnswered}
use Rattle.run_actors.specs.ClientTurns.ActorStates.{is_marked, DrawsAtMark}

answered_marked : (answer : Answer) → is_answered answer ≡ true → is_marked (became_of answer) ≡ true
answered_marked (answers.Ok count) is = refl
answered_marked (answers.Rows rows) is = refl
answered_marked (answers.Refused number column) is = refl
answered_marked (answers.Keys keys end) is = absurd (false≢true is)
answered_marked (answers.Ends range) is = absurd (false≢true is)
answered_marked (answers.End key) is = absurd (false≢true is)
answered_marked (answers.At count) is = absurd (false≢true is)
answered_marked (answers.Events events next) is = absurd (false≢true is)
answered_marked (answers.Tables tables) is = absurd (false≢true is)
answered_marked (answers.Waiting waiters) is = absurd (false≢true is)
answered_marked (answers.Waits by) is = absurd (false≢true is)
answered_marked (answers.TimedOut waited) is = absurd (false≢true is)
answered_marked answers.Lost is = absurd (false≢true is)

drawn_answered : (answered : Bool) (offer : Option ℕ) (number : ℕ) → drawn_if answered offer ≡ Some number → answered ≡ true
drawn_answered true offer number is = refl
drawn_answered false offer number is = absurd cc

heard_marked : (answer given : Answer) (offer : Option ℕ) (number : ℕ) → answer ≡ given → drawn_if (is_answered given) offer ≡ Some number → is_marked (became_of answer) ≡ true
heard_marked answer given offer number same is = answered_marked answer (ap is_answered same ∙ drawn_answered (is_answered given) offer number is)

turn_marked : (waits : Bool) (side : Option Side) (asked : Asked) (state : State) (session : ℕ) (answer given : Answer) (missed : Option Answer) (number : ℕ) → answer ≡ heard side (given_at side asked given) → drawn_in state session asked (given_at side asked given) ≡ Some number → is_marked (became_in waits asked side answer missed) ≡ true
turn_marked waits None (Call request) state session answer given missed number same is = heard_marked answer given _ number same is
turn_marked waits None Poll state session answer given missed number same is = heard_marked answer given _ number same is
turn_marked waits None (Command word) state session answer given missed number same is = heard_marked answer given _ number same is
turn_marked waits None Cut state session answer given missed number same is = absurd cc
turn_marked waits (Some Before) (Call request) state session answer given missed number same is = absurd cc
turn_marked waits (Some Before) Poll state session answer given missed number same is = absurd cc
turn_marked waits (Some Before) (Command word) state session answer given missed number same is = absurd cc
turn_marked waits (Some Before) Cut state session answer given missed number same is = absurd cc
turn_marked waits (Some After) (Call request) state session answer given missed number same is = refl
turn_marked waits (Some After) Poll state session answer given missed number same is = refl
turn_marked waits (Some After) (Command word) state session answer given missed number same is = refl
turn_marked waits (Some After) Cut state session answer given missed number same is = absurd cc

pub drawn_marks : (state : State) (entry : Entry) → IsAnswered state entry → DrawsAtMark entry
unfolding inner_answer
drawn_marks state entry answered = λ waits number drew.
    turn_marked waits entry.side entry.asked (opens entry state) entry.session entry.answer (serves (opens entry state) entry.session entry.asked).answer entry.missed number answered.answer (sym answered.draw ∙ drew)
