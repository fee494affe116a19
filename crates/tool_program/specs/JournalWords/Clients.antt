-- *Clients*: how far a client is in its script, from its turns alone: which line it asks next, what became of each line,
-- and what its open transaction has so far. (This project's rule.)
use Rattle.std.specs.Prelude.{ℕ, ◌+◌, ◌-◌, ◌==◌, Bool, true, false, ◌||◌, if◌then◌else◌, List, [], ◌∷◌, ◌++◌, fold, Option, Some, None, option_to_list, unwrap_or}
use Rattle.std.specs.List.{slice_get}
use Rattle.base_script.specs.declared.actor.Actor.TheVariants.{Client}
use Rattle.base_script.specs.declared.actor.Side.{Side}
use Rattle.base_script.specs.declared.actor.Side.TheVariants.{Before, After}
use Rattle.base_script.specs.declared.script.ScriptLine.{ScriptLine}
use Rattle.base_script.specs.declared.script.ScriptWord.{ScriptWord}
use Rattle.base_script.specs.declared.script.ScriptWord.TheVariants as words
use Rattle.server_model.specs.declared.transaction.Mark.{Mark}
use Rattle.server_model.specs.declared.transaction.Mark.TheVariants as marks
use Rattle.server_model.specs.declared.transaction.Reply.{Reply}
use Rattle.server_model.specs.declared.transaction.TxnEnd.{TxnEnd}
use Rattle.server_model.specs.declared.transaction.TxnEnd.TheVariants as ends
use Rattle.server_model.specs.declared.transaction.TxnLine.{TxnLine}
use Rattle.server_model.specs.declared.request.Request.{Request}
use Rattle.server_model.specs.declared.request.Request.TheVariants as requests
use Rattle.server_model.specs.declared.answer.Answer.{Answer}
use Rattle.server_model.specs.declared.answer.Answer.TheVariants as answers
use Rattle.server_model.specs.declared.entry.Asked.{Asked}
use Rattle.server_model.specs.declared.entry.Asked.TheVariants.{Call, Poll, Cut}
use Rattle.server_model.specs.declared.entry.Entry.{Entry}
use Rattle.server_model.specs.Alone.{reply_of}
use Rattle.server_model.specs.Drawing.{numbered}
use Rattle.server_model.specs.Entries.{same_actor}
use Rattle.plan_data.specs.PlanData.{PlanData}

-- what became of the client's line in a turn: nothing; it waits; it got a mark and maybe a reply; or the session was lost
-- between lines
pub data Became : Type 0 where
  Nothing : Became
  Waits : Became
  Marked : Mark → Option Reply → Became
  Broken : Became

-- the answer of a turn in which no session was lost
abbrev pub became_of : Answer → Became
became_of (answers.Ok count) = Marked marks.Answered (reply_of (answers.Ok count))
became_of (answers.Rows rows) = Marked marks.Answered (reply_of (answers.Rows rows))
became_of (answers.Refused number column) = Marked marks.Answered (reply_of (answers.Refused number column))
became_of (answers.TimedOut waited) = Marked marks.TimedOut (reply_of (answers.TimedOut waited))
became_of (answers.Waits by) = Waits
became_of answer = Nothing

-- a lost call was done where its answer was missed and is neither a wait nor its end
abbrev pub was_done : Option Answer → Bool
was_done None = false
was_done (Some (answers.Waits by)) = false
was_done (Some (answers.TimedOut waited)) = false
was_done (Some answer) = true

abbrev pub lost_side : Option Side → Option Answer → Side
lost_side (Some After) missed = if was_done missed then After else Before
lost_side side missed = Before

-- a loss between calls: of the line that waits, or of none
abbrev pub cut_off : Bool → Became
cut_off true = Marked (marks.Lost Before) None
cut_off false = Broken

abbrev pub became_in : Bool → Asked → Option Side → Answer → Option Answer → Became
became_in waits Cut side answer missed = cut_off waits
became_in waits asked None answer missed = became_of answer
became_in waits asked (Some side) answer missed = Marked (marks.Lost (lost_side (Some side) missed)) None

-- how far a client is in its script
pub record Reached : Type 0 where
  -- the script from the line on that is asked next, or that waits
  pub left : List ScriptLine
  -- how many transactions it began
  pub begun : ℕ
  -- the lines of the open transaction and their replies; there are none where none is open
  pub lines : List TxnLine
  pub replies : List Reply
  pub waits : Bool
  pub is_lost : Bool

abbrev pub new_client : List ScriptLine → Reached
new_client script = record { left = script; begun = 0; lines = []; replies = []; waits = false; is_lost = false }

-- a transaction is open
abbrev pub is_inside : List TxnLine → Bool
is_inside [] = false
is_inside (line ∷ lines) = true

-- how the transaction ends with an answered line, where it does; a statement outside a transaction is one of its own
abbrev pub answered_ends : Bool → ScriptWord → Option TxnEnd
answered_ends inside words.Begin = None
answered_ends inside words.Commit = Some ends.Committed
answered_ends inside words.Rollback = Some ends.RolledBack
answered_ends true (words.Do statement) = None
answered_ends false (words.Do statement) = Some ends.Single

-- how the transaction ends with a line of this mark, where it does
abbrev pub ends_with : Bool → ScriptWord → Mark → Option TxnEnd
ends_with inside word marks.Answered = answered_ends inside word
ends_with inside word marks.TimedOut = Some ends.TimedOut
ends_with inside word (marks.Lost side) = Some ends.Lost

abbrev pub closes : ScriptWord → Bool
closes words.Commit = true
closes words.Rollback = true
closes word = false

-- the script after the open transaction
abbrev pub after_transaction : List ScriptLine → List ScriptLine
after_transaction [] = []
after_transaction (line ∷ lines) = if closes line.word then lines else after_transaction lines

-- the script after a line, with its mark; after a time-out inside a transaction the next one comes
abbrev pub left_after : Bool → Mark → ScriptLine → List ScriptLine → List ScriptLine
left_after true marks.TimedOut line lines = after_transaction (line ∷ lines)
left_after inside mark line lines = lines

abbrev pub is_loss : Mark → Bool
is_loss (marks.Lost side) = true
is_loss mark = false

-- the number of the transaction that the next line is of
abbrev pub number_of : Reached → ℕ
number_of client = if is_inside client.lines then client.begun else client.begun + 1

-- the lines of the open transaction, and the replies, where the transaction ends and where it goes on
abbrev pub kept_unless : {A : Type 0} → Option TxnEnd → List A → List A
kept_unless None all = all
kept_unless (Some ended) all = []

abbrev pub with_line : Reached → ScriptWord → Mark → List TxnLine
with_line client word mark = client.lines ++ record { word = word; mark = mark } ∷ []

abbrev pub with_reply : Reached → Option Reply → List Reply
with_reply client reply = client.replies ++ option_to_list reply

-- the client after a line that got this mark and this reply
abbrev pub marked : Reached → Mark → Option Reply → List ScriptLine → Reached
marked client mark reply [] = client
marked client mark reply (line ∷ lines) =
    record {
      left = left_after (is_inside client.lines) mark line lines;
      begun = number_of client;
      lines = kept_unless (ends_with (is_inside client.lines) line.word mark) (with_line client line.word mark);
      replies = kept_unless (ends_with (is_inside client.lines) line.word mark) (with_reply client reply);
      waits = false;
      is_lost = is_loss mark;
    }

abbrev pub client_after : Became → Reached → Reached
client_after Nothing client = client
client_after Waits client = record client { waits = true }
client_after (Marked mark reply) client = marked client mark reply client.left
client_after Broken client = record client { lines = []; replies = []; is_lost = true }

-- the client with the number that its line drew: the line is done, and stands in its transaction, with that number
abbrev pub word_numbered : Option ℕ → ScriptWord → ScriptWord
word_numbered draw (words.Do statement) = words.Do (numbered draw statement)
word_numbered draw word = word

abbrev pub lines_drawn : ℕ → List ScriptLine → List ScriptLine
lines_drawn number [] = []
lines_drawn number (line ∷ lines) = record line { word = word_numbered (Some number) line.word } ∷ lines

abbrev pub with_draw : Option ℕ → Reached → Reached
with_draw None client = client
with_draw (Some number) client = record client { left = lines_drawn number client.left }

-- what became of the line in a turn of this client
abbrev pub became : Reached → Entry → Became
became client entry = became_in client.waits entry.asked entry.side entry.answer entry.missed

abbrev pub after_turn : ℕ → Reached → Entry → Reached
after_turn number client entry = if same_actor entry.actor (Client number) then client_after (became client entry) (with_draw entry.draw client) else client

-- the script of a client; clients are numbered from 1
abbrev pub script_of : ℕ → PlanData → Option (List ScriptLine)
script_of number plan = if number == 0 then None else slice_get plan.clients (number - 1)

-- *Client at*: how far a client is after the turns of a journal
unfoldable pub client_at : PlanData → List Entry → ℕ → Reached
client_at plan journal number = fold (after_turn number) (new_client (unwrap_or (script_of number plan) [])) journal

-- what a line asks
abbrev pub word_asks : ScriptWord → Request
word_asks words.Begin = requests.Begin
word_asks words.Commit = requests.Commit
word_asks words.Rollback = requests.Rollback
word_asks (words.Do statement) = requests.Do statement

abbrev pub line_asks : Bool → List ScriptLine → Option Asked
line_asks waits [] = None
line_asks true (line ∷ lines) = Some Poll
line_asks false (line ∷ lines) = Some (Call (word_asks line.word))

-- *A client's next*: it polls while its line waits; else it asks the next line; none where it is over
unfoldable pub client_asks : PlanData → List Entry → ℕ → Option Asked
client_asks plan journal number =
    if (client_at plan journal number).is_lost then None else line_asks (client_at plan journal number).waits (client_at plan journal number).left

abbrev pub is_empty : List ScriptLine → Bool
is_empty [] = true
is_empty (line ∷ lines) = false

-- *A client is over* at its script's end or its loss.
abbrev pub client_over : Reached → Bool
client_over client = client.is_lost || is_empty client.left

-- all clients from this number on are over
unfoldable pub all_over : PlanData → List Entry → ℕ → List (List ScriptLine) → Bool
all_over plan journal number [] = true
all_over plan journal number (script ∷ scripts) = if client_over (client_at plan journal number) then all_over plan journal (number + 1) scripts else false

abbrev pub clients_over : PlanData → List Entry → Bool
clients_over plan journal = all_over plan journal 1 plan.clients
