-- How the code finds what clients got and what they ended: it goes through the journal once, and keeps how far each client is in
-- its script, with the numbers of its transaction and of its line. The laws say that this is what the definitions of replies and of
-- history say.
use Rattle.std.specs.Prelude.{◌≡◌, ℕ, ◌+◌, ◌-◌, ◌<◌, ◌^◌, ◌==◌, Bool, true, false, not, if◌then◌else◌, List, [], ◌∷◌, ◌++◌, drop, length, Option, Some, None, is_some}
use Rattle.std.specs.List.{slice_get}
use Rattle.base_script.specs.declared.actor.Actor.TheVariants.{Client}
use Rattle.base_script.specs.declared.script.ScriptLine.{ScriptLine}
use Rattle.server_model.specs.declared.transaction.Mark.{Mark}
use Rattle.server_model.specs.declared.transaction.Reply.{Reply}
use Rattle.server_model.specs.declared.entry.Entry.{Entry}
use Rattle.server_model.specs.Entries.{same_actor}
use Rattle.tool_program.specs.JournalWords.Clients.{Reached, became_in, ends_with, left_after}
use Rattle.tool_program.specs.JournalWords.Histories.{NumberedReply}
use Rattle.run_actors.specs.declared.client_turns.actor_state.ClientState.{ClientState}
use Rattle.run_actors.specs.declared.client_turns.outcome.LineOutcome.{LineOutcome}
use Rattle.run_actors.specs.declared.client_turns.outcome.LineOutcome.TheVariants.{Nothing, Waits, Marked, Broken}
use Rattle.run_actors.specs.ClientTurns.ActorStates.{heard_reply, line_outcome_as}
use Rattle.top_report.specs.ClientLines.Pasts.{past_text}

-- ---- one client

-- how far a client is in its script
pub record Walk : Type 0 where
  -- the script from the line on that is asked next, or that waits
  pub left : List ScriptLine
  -- how many transactions it began
  pub begun : ℕ
  -- how many lines the open transaction has; 0 where none is open
  pub lines : ℕ
  pub waits : Bool

abbrev pub new_walk : List ScriptLine → Walk
new_walk script = record { left = script; begun = 0; lines = 0; waits = false }

-- what is kept of how far a client is
abbrev pub walk_of : Reached → Walk
walk_of client = record { left = client.left; begun = client.begun; lines = length client.lines; waits = client.waits }

-- the same, by the client's state in its script and by these numbers
abbrev pub walk_in : List ScriptLine → ClientState → ℕ → ℕ → Walk
walk_in script state begun lines = record { left = drop state.place script; begun = begun; lines = lines; waits = state.waits }

-- a transaction is open
abbrev pub is_open : Walk → Bool
is_open walk = not (walk.lines == 0)

-- its numbers are small, and it says whether a transaction is open
pub record IsKept (is_inside : Bool) (walk : Walk) : Type 0 where
  pub begun : walk.begun + length walk.left < 2 ^ 63
  pub lines : walk.lines + length walk.left < 2 ^ 63
  pub inside : is_inside ≡ is_open walk

-- the number of the transaction that the next line is of
abbrev pub number_in : Walk → ℕ
number_in walk = if is_open walk then walk.begun else walk.begun + 1

-- its line ends its transaction, where it gets this mark
abbrev pub ends_now : Bool → Mark → List ScriptLine → Bool
ends_now inside mark [] = false
ends_now inside mark (line ∷ lines) = is_some (ends_with inside line.word mark)

-- after a line that got this mark; there is none at the script's end
abbrev pub walk_marked : Walk → Mark → List ScriptLine → Walk
walk_marked walk mark [] = walk
walk_marked walk mark (line ∷ lines) =
    record {
      left = left_after (is_open walk) mark line lines;
      begun = number_in walk;
      lines = if ends_now (is_open walk) mark (line ∷ lines) then 0 else walk.lines + 1;
      waits = false;
    }

abbrev pub walk_after : LineOutcome → Walk → Walk
walk_after Nothing walk = walk
walk_after Waits walk = record walk { waits = true }
walk_after (Marked mark) walk = walk_marked walk mark walk.left
walk_after Broken walk = record walk { lines = 0 }

-- what became of the line in a turn of this client
abbrev pub outcome_now : Walk → Entry → LineOutcome
outcome_now walk entry = line_outcome_as (became_in walk.waits entry.asked entry.side entry.answer entry.missed)

-- a line is left, and got a mark
abbrev pub is_marked : LineOutcome → List ScriptLine → Bool
is_marked (Marked mark) (line ∷ lines) = true
is_marked outcome left = false

-- ---- replies

-- what the client got in a turn of its own, where it got this reply or none
abbrev pub replied_by : Walk → Option ℕ → Option Reply → LineOutcome → List NumberedReply
replied_by walk draw reply (Marked mark) = record { transaction = number_in walk; line = walk.lines + 1; reply = reply; draw = draw } ∷ []
replied_by walk draw reply other = []

-- what the client of this number gets in these turns
unfoldable pub replies_from : ℕ → Walk → List Entry → List NumberedReply
replies_from client walk [] = []
replies_from client walk (entry ∷ entries) =
    if same_actor entry.actor (Client client)
    then replied_by walk entry.draw (heard_reply entry.asked entry.side entry.answer) (outcome_now walk entry) ++ replies_from client (walk_after (outcome_now walk entry) walk) entries
    else replies_from client walk entries

-- ---- the history

-- what a client's turn ends
abbrev pub ended_text : ℕ → Walk → LineOutcome → List ℕ
ended_text client walk (Marked mark) = if ends_now (is_open walk) mark walk.left then past_text client (number_in walk) else []
ended_text client walk Broken = if is_open walk then past_text client walk.begun else []
ended_text client walk other = []

-- the walk of the client of this number among those of all clients, which are numbered from 1
abbrev pub walk_at : ℕ → List Walk → Option Walk
walk_at client walks = if client == 0 then None else slice_get walks (client - 1)

abbrev pub client_added : ℕ → Option Walk → Entry → List ℕ
client_added client None entry = []
client_added client (Some walk) entry = ended_text client walk (outcome_now walk entry)

-- the walks after a turn, from the client of this number on
unfoldable pub walks_after : ℕ → Entry → List Walk → List Walk
walks_after client entry [] = []
walks_after client entry (walk ∷ walks) = (if same_actor entry.actor (Client client) then walk_after (outcome_now walk entry) walk else walk) ∷ walks_after (client + 1) entry walks
