-- *Rules of turns*: what a line of a trace has to keep, by the lines before it. How far clients are in their scripts, what ends
-- with a line and which losses strike is defined by the same steps as for a journal. (This project's rule.)
use Rattle.std.specs.Prelude.{ℕ, ◌+◌, ◌==◌, nat_lt, Bool, true, false, not, ◌&&◌, ◌||◌, if◌then◌else◌, List, [], ◌∷◌, fold, count_by, length, unwrap_or, Option, Some, None}
use Rattle.base_script.specs.declared.actor.Actor.{Actor}
use Rattle.base_script.specs.declared.actor.Actor.TheVariants.{Op, Client}
use Rattle.base_script.specs.declared.actor.Side.{Side}
use Rattle.base_script.specs.declared.actor.Side.TheVariants.{Before, After}
use Rattle.base_script.specs.declared.loss.Loss.{Loss}
use Rattle.base_script.specs.declared.loss.Loss.TheVariants.{Nth, Turn}
use Rattle.base_script.specs.declared.script.ScriptLine.{ScriptLine}
use Rattle.base_script.specs.declared.script.ScriptWord.{ScriptWord}
use Rattle.base_script.specs.declared.script.ScriptWord.TheVariants as words
use Rattle.server_model.specs.declared.transaction.Mark.TheVariants as marks
use Rattle.server_model.specs.declared.transaction.Reply.TheVariants as replies
use Rattle.server_model.specs.Along.{gathered}
use Rattle.server_model.specs.Entries.{same_actor}
use Rattle.plan_data.specs.PlanData.{PlanData}
use Rattle.tool_program.specs.JournalWords.Clients.{Became, Waits, Marked, Reached, after_transaction, client_after, client_over, cut_off, is_inside, new_client, script_of, with_draw}
use Rattle.tool_program.specs.JournalWords.KeptPlans.{or_first, struck_among, words_of}
use Rattle.run_audit.specs.declared.line.LineAsked.{LineAsked}
use Rattle.run_audit.specs.declared.line.LineAsked.TheVariants as asks
use Rattle.run_audit.specs.declared.line.LineAnswer.{LineAnswer}
use Rattle.run_audit.specs.declared.line.LineAnswer.TheVariants as line_answers
use Rattle.run_audit.specs.declared.line.TraceLine.{TraceLine}

abbrev pub is_cut : LineAsked → Bool
is_cut asks.Cut = true
is_cut asked = false

abbrev pub is_word : LineAsked → Bool
is_word asks.Word = true
is_word asked = false

-- the number of the turn after these
abbrev pub next_turn : List TraceLine → ℕ
next_turn before = length before + 1

-- ---- clients

-- What became of a client's line. Where a call was lost and refused, or waited, it wasn't done. An answer that only the
-- tool gets is no reply to a client: it counts as an error of the number 0, which no statement has.
abbrev pub became_of_line : Bool → LineAsked → LineAnswer → Became
became_of_line waits asks.Cut said = cut_off waits
became_of_line waits asked (line_answers.Ok count) = Marked marks.Answered (Some (replies.Ok count))
became_of_line waits asked (line_answers.Error number) = Marked marks.Answered (Some (replies.Error number))
became_of_line waits asked (line_answers.Rows rows) = Marked marks.Answered (Some (replies.Rows rows))
became_of_line waits asked (line_answers.Waits by) = Waits
became_of_line waits asked (line_answers.TimedOut waited) = Marked marks.TimedOut (Some (replies.Error 1205))
became_of_line waits asked line_answers.LostDone = Marked (marks.Lost After) None
became_of_line waits asked line_answers.Other = Marked marks.Answered (Some (replies.Error 0))
became_of_line waits asked said = Marked (marks.Lost Before) None

abbrev pub became_by : Reached → TraceLine → Became
became_by client line = became_of_line client.waits line.asked line.answer

-- what is left of a script after a line outside a transaction that timed out: after a BEGIN the next transaction
abbrev pub left_outside : ScriptWord → List ScriptLine → List ScriptLine
left_outside words.Begin lines = after_transaction lines
left_outside word lines = lines

-- What is left after a line, where a run would leave this. No server answers a BEGIN by a timeout, so no run shows what is left
-- then; a trace can.
abbrev pub left_by : Became → Bool → List ScriptLine → List ScriptLine → List ScriptLine
left_by (Marked marks.TimedOut reply) false (line ∷ lines) left = left_outside line.word lines
left_by became inside lines left = left

abbrev pub client_after_line : Became → Reached → Reached
client_after_line became client = record (client_after became client) { left = left_by became (is_inside client.lines) client.left (client_after became client).left }

-- a client after a line, whose statement has the number that it drew; one that was lost has no more
abbrev pub client_step : ℕ → Reached → TraceLine → Reached
client_step number client line =
    if same_actor line.actor (Client number) then (if client.is_lost then client else client_after_line (became_by client line) (with_draw line.drawn client)) else client

-- *Client reached* by lines: how far it is after them
unfoldable pub client_reached : PlanData → List TraceLine → ℕ → Reached
client_reached plan lines number = fold (client_step number) (new_client (unwrap_or (script_of number plan) [])) lines

-- its line is called, or polled where it waits
abbrev pub asks_next : Bool → List ScriptLine → LineAsked → Bool
asks_next waits left asks.Cut = true
asks_next waits [] asked = false
asks_next false (line ∷ lines) asks.Call = true
asks_next true (line ∷ lines) asks.Poll = true
asks_next waits left asked = false

abbrev pub client_asks_next : Reached → LineAsked → Bool
client_asks_next client asked = asks_next client.waits client.left asked

-- *Astray*: a client that wasn't lost asks something else. Nothing is judged from there on.
abbrev pub is_astray : PlanData → List TraceLine → LineAsked → Actor → Bool
is_astray plan before asked (Client number) = not (client_reached plan before number).is_lost && not (client_asks_next (client_reached plan before number) asked)
is_astray plan before asked actor = false

abbrev pub was_lost : PlanData → List TraceLine → Actor → Bool
was_lost plan before (Client number) = (client_reached plan before number).is_lost
was_lost plan before actor = false

-- *Keeping the scripts*: a client takes the lines of its script in order, and none after its loss
abbrev pub keeps_script : PlanData → List TraceLine → TraceLine → Bool
keeps_script plan before line = not (was_lost plan before line.actor || is_astray plan before line.asked line.actor)

-- all clients from this number on are over
unfoldable pub all_are_over : PlanData → List TraceLine → ℕ → List (List ScriptLine) → Bool
all_are_over plan lines number [] = true
all_are_over plan lines number (script ∷ scripts) = client_over (client_reached plan lines number) && all_are_over plan lines (number + 1) scripts

-- ---- losses and commands

abbrev pub is_loss : LineAnswer → Bool
is_loss line_answers.Lost = true
is_loss line_answers.LostDone = true
is_loss line_answers.LostWaited = true
is_loss line_answers.LostRefused = true
is_loss said = false

-- the actor has a session after this line of its own
abbrev pub keeps_session : LineAsked → LineAnswer → Bool
keeps_session asks.Cut said = false
keeps_session asks.Word said = false
keeps_session asked said = not (is_loss said)

abbrev pub session_step : Actor → Bool → TraceLine → Bool
session_step actor old line = if same_actor line.actor actor then keeps_session line.asked line.answer else old

unfoldable pub has_session : List TraceLine → Actor → Bool
has_session lines actor = fold (session_step actor) false lines

-- the actor whose session this loss takes away in the next turn, where it has one
abbrev pub due_cut : List TraceLine → Loss → Option Actor
due_cut before (Nth actor n side) = None
due_cut before (Turn number actor) = if number == next_turn before && has_session before actor then Some actor else None

-- the first loss between calls that can be taken in the next turn
unfoldable pub due_cut_among : List TraceLine → List Loss → Option Actor
due_cut_among before [] = None
due_cut_among before (loss ∷ losses) = or_first (due_cut before loss) (due_cut_among before losses)

-- how many turns an actor took, losses between calls aside; how many commands were taken
abbrev pub turns_in : Actor → List TraceLine → ℕ
turns_in actor lines = count_by (λ line. same_actor line.actor actor && not (is_cut line.asked)) lines

abbrev pub commands_in : List TraceLine → ℕ
commands_in lines = count_by (λ line. is_word line.asked) lines

abbrev pub same_side : Option Side → Option Side → Bool
same_side None None = true
same_side (Some Before) (Some Before) = true
same_side (Some After) (Some After) = true
same_side side other = false

abbrev pub is_struck : Option Actor → Option Side → TraceLine → Bool
is_struck (Some actor) side line = same_actor line.actor actor && is_cut line.asked
is_struck None side line = not (is_cut line.asked) && same_side line.side side

-- the operator takes its commands, and nobody else
abbrev pub keeps_commands : PlanData → List TraceLine → Actor → LineAsked → Bool
keeps_commands plan before actor asks.Cut = true
keeps_commands plan before Op asks.Word = nat_lt (commands_in before) (length (words_of plan))
keeps_commands plan before Op asked = false
keeps_commands plan before actor asks.Word = false
keeps_commands plan before actor asked = true

-- *Keeping losses and commands*, in the turns that the plan allows
abbrev pub keeps_losses : PlanData → List TraceLine → TraceLine → Bool
keeps_losses plan before line =
    is_struck (due_cut_among before plan.faults) (struck_among line.actor (turns_in line.actor before + 1) plan.faults) line && keeps_commands plan before line.actor line.asked

abbrev pub is_within : PlanData → List TraceLine → Bool
is_within plan before = nat_lt (length before) plan.options.turn_limit

-- ---- the ALTER

-- the actor's last call is a RENAME
abbrev pub renames_by : Bool → LineAsked → Bool
renames_by old asks.Rename = true
renames_by old asks.Call = false
renames_by old asked = old

abbrev pub renames_step : Actor → Bool → TraceLine → Bool
renames_step actor old line = if same_actor line.actor actor then renames_by old line.asked else old

unfoldable pub has_renamed : List TraceLine → Actor → Bool
has_renamed lines actor = fold (renames_step actor) false lines

abbrev pub is_done : LineAnswer → Bool
is_done (line_answers.Ok count) = true
is_done line_answers.LostDone = true
is_done said = false

-- the line is of a RENAME: its call or a poll of it
abbrev pub is_rename : Bool → LineAsked → Bool
is_rename renames asks.Rename = true
is_rename renames asks.Poll = renames
is_rename renames asked = false

-- *The ALTER* is at the turn in which a RENAME was done.
abbrev pub alters_in : List TraceLine → TraceLine → Bool
alters_in before line = is_rename (has_renamed before line.actor) line.asked && is_done line.answer

abbrev pub turn_if : Bool → List TraceLine → List ℕ
turn_if true before = next_turn before ∷ []
turn_if false before = []

-- the turns at which it was done
unfoldable pub alter_turns : List TraceLine → List ℕ
alter_turns lines = gathered (λ before line. turn_if (alters_in before line) before) [] lines

abbrev pub has_altered : List TraceLine → Bool
has_altered lines = not (length (alter_turns lines) == 0)

-- ---- the turns that break a rule

-- A line breaks a rule: a client's script isn't kept, or a loss or the operator's commands aren't; or it does the ALTER again.
abbrev pub breaks : PlanData → List TraceLine → TraceLine → Bool
breaks plan before line =
    not (keeps_script plan before line)
    || (is_within plan before && not (keeps_losses plan before line))
    || (alters_in before line && has_altered before)

-- *Broken turns*
unfoldable pub broken_turns : PlanData → List TraceLine → List ℕ
broken_turns plan lines = gathered (λ before line. turn_if (breaks plan before line) before) [] lines
