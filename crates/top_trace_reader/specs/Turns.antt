-- *Printed turn*: which lines are turns, and what they say: `12 c1 call ok 1`. This project's rule.
use Rattle.std.specs.Prelude.{codes, ℕ, Bool, true, false, not, ◌&&◌, nat_eq, if◌then◌else◌, List, [], ◌∷◌, Option, Some, None}
use Rattle.std.specs.Option.{option_map}
use Rattle.std.specs.Str.{bytes_eq}
use Rattle.base_values.specs.GhoSchema.Options.{◌>>=◌}
use Rattle.base_script.specs.declared.actor.Actor.{Actor}
use Rattle.base_script.specs.declared.actor.Side.{Side}
use Rattle.base_script.specs.declared.actor.Side.TheVariants.{Before, After}
use Rattle.server_model.specs.Entries.{is_client}
use Rattle.plan_orders.specs.Actors.{actor_among}
use Rattle.top_words.specs.Numbers.{number_of}
use Rattle.run_audit.specs.declared.line.LineAsked.{LineAsked}
use Rattle.run_audit.specs.declared.line.LineAsked.TheVariants as asks
use Rattle.run_audit.specs.declared.line.LineAnswer.{LineAnswer}
use Rattle.run_audit.specs.declared.line.LineAnswer.TheVariants as answers
use Rattle.top_trace_reader.specs.declared.answers.AnswerRead.{AnswerRead}
use Rattle.top_trace_reader.specs.declared.turns.TurnRead.{TurnRead}

-- ---- what was asked

-- what was asked, and on which side of the call the session was lost
unfoldable pub asked_in : List ℕ → Option (LineAsked × Option Side)
asked_in word =
    if bytes_eq word (codes "call") then Some (asks.Call, None)
    else if bytes_eq word (codes "call-before") then Some (asks.Call, Some Before)
    else if bytes_eq word (codes "call-after") then Some (asks.Call, Some After)
    else if bytes_eq word (codes "rename") then Some (asks.Rename, None)
    else if bytes_eq word (codes "rename-before") then Some (asks.Rename, Some Before)
    else if bytes_eq word (codes "rename-after") then Some (asks.Rename, Some After)
    else if bytes_eq word (codes "poll") then Some (asks.Poll, None)
    else if bytes_eq word (codes "poll-before") then Some (asks.Poll, Some Before)
    else if bytes_eq word (codes "poll-after") then Some (asks.Poll, Some After)
    else if bytes_eq word (codes "cut") then Some (asks.Cut, None)
    else if bytes_eq word (codes "word") then Some (asks.Word, None)
    else None

-- ---- what was answered

-- an answer that no rows follow, and no number was drawn
abbrev pub alone : LineAnswer → AnswerRead
alone answer = record { answer = answer; rows = 0; drawn = None }

-- an answer of one word
unfoldable pub single_answer : List ℕ → Option LineAnswer
single_answer word = if bytes_eq word (codes "lost") then Some answers.Lost else if bytes_eq word (codes "other") then Some answers.Other else None

-- what was missed, since the session was lost after the call
unfoldable pub missed_answer : List ℕ → Option LineAnswer
missed_answer word =
    if bytes_eq word (codes "done") then Some answers.LostDone
    else if bytes_eq word (codes "waited") then Some answers.LostWaited
    else if bytes_eq word (codes "refused") then Some answers.LostRefused
    else None

-- a word and a number
unfoldable pub numbered_answer : List ℕ → ℕ → Option AnswerRead
numbered_answer word number =
    if bytes_eq word (codes "ok") then Some (alone (answers.Ok number))
    else if bytes_eq word (codes "error") then Some (alone (answers.Error number))
    else if bytes_eq word (codes "rows") then Some (record { answer = answers.Rows []; rows = number; drawn = None })
    else if bytes_eq word (codes "waits") then Some (alone (answers.Waits number))
    else if bytes_eq word (codes "timeout") then Some (alone (answers.TimedOut number))
    else None

-- an answer of two words
unfoldable pub paired_answer : List ℕ → List ℕ → Option AnswerRead
paired_answer first second = if bytes_eq first (codes "lost") then option_map alone (missed_answer second) else (number_of second >>= numbered_answer first)

-- a number may be drawn by what was done or refused
abbrev pub may_draw : LineAnswer → Bool
may_draw (answers.Ok count) = true
may_draw (answers.Error number) = true
may_draw answers.LostDone = true
may_draw answer = false

abbrev pub with_drawn : AnswerRead → ℕ → Option AnswerRead
with_drawn read number = if may_draw read.answer then Some (record { answer = read.answer; rows = read.rows; drawn = Some number }) else None

unfoldable pub drawn_answer : List ℕ → List ℕ → List ℕ → Option AnswerRead
drawn_answer first second number = do
  read ← paired_answer first second
  number ← number_of number
  with_drawn read number

-- the same with ` id M` after it
abbrev pub drawing_answer : List ℕ → List ℕ → List ℕ → List ℕ → Option AnswerRead
drawing_answer first second mark number = if bytes_eq mark (codes "id") then drawn_answer first second number else None

unfoldable pub answer_in : List (List ℕ) → Option AnswerRead
answer_in [] = None
answer_in (word ∷ []) = option_map alone (single_answer word)
answer_in (first ∷ second ∷ []) = paired_answer first second
answer_in (first ∷ second ∷ third ∷ []) = None
answer_in (first ∷ second ∷ third ∷ fourth ∷ []) = drawing_answer first second third fourth
answer_in (first ∷ second ∷ third ∷ fourth ∷ fifth ∷ others) = None

-- ---- the line

abbrev pub was_missed : LineAnswer → Bool
was_missed answers.LostDone = true
was_missed answers.LostWaited = true
was_missed answers.LostRefused = true
was_missed answer = false

-- an answer was missed exactly where the session was lost after the call
abbrev pub fits_side : Option Side → LineAnswer → Bool
fits_side None answer = not (was_missed answer)
fits_side (Some Before) answer = not (was_missed answer)
fits_side (Some After) answer = was_missed answer

-- rows are printed of clients alone
abbrev pub fits_actor : Actor → LineAnswer → Bool
fits_actor actor (answers.Rows rows) = is_client actor
fits_actor actor answer = true

abbrev pub fits : Actor → Option Side → LineAnswer → Bool
fits actor side answer = fits_side side answer && fits_actor actor answer

abbrev pub turn_read : Actor → LineAsked × Option Side → AnswerRead → TurnRead
turn_read actor asked read = record { line = record { actor = actor; asked = asked.0; side = asked.1; answer = read.answer; drawn = read.drawn }; rows = read.rows }

-- the turn of this number in a run of a plan with this many clients that an actor, what it asked and an answer are
unfoldable pub turn_of : ℕ → List ℕ → List ℕ → List (List ℕ) → Option TurnRead
turn_of clients actor asked answer = do
  actor ← actor_among clients actor
  asked ← asked_in asked
  read ← answer_in answer
  if fits actor asked.1 read.answer then Some (turn_read actor asked read) else None

-- the word is this number
abbrev pub is_number : ℕ → Option ℕ → Bool
is_number number None = false
is_number number (Some found) = nat_eq found number

-- *Printed turn*: what the words of a line say, where they are the turn of this number
unfoldable pub turn_in : ℕ → ℕ → List (List ℕ) → Option TurnRead
turn_in clients turn [] = None
turn_in clients turn (number ∷ []) = None
turn_in clients turn (number ∷ actor ∷ []) = None
turn_in clients turn (number ∷ actor ∷ asked ∷ answer) = if is_number turn (number_of number) then turn_of clients actor asked answer else None
