-- *History*: the transactions of clients that ended, in the order in which they ended, with the ALTER at its place; and
-- *replies of a client*. Both are read from the plan and the journal, without the server. (This project's rule.)
use Rattle.std.specs.Prelude.{ℕ, ◌+◌, Bool, true, false, if◌then◌else◌, List, [], ◌∷◌, fold, length, Option, Some, None}
use Rattle.std.specs.List.{list_any}
use Rattle.std.specs.Str.{bytes_eq}
use Rattle.base_script.specs.declared.actor.Actor.{Actor}
use Rattle.base_script.specs.declared.actor.Actor.TheVariants.{Client}
use Rattle.base_script.specs.declared.actor.Side.{Side}
use Rattle.base_script.specs.declared.actor.Side.TheVariants.{Before, After}
use Rattle.base_script.specs.declared.script.ScriptLine.{ScriptLine}
use Rattle.table_store.specs.declared.renames.Pair.{Pair}
use Rattle.server_model.specs.declared.transaction.Mark.{Mark}
use Rattle.server_model.specs.declared.transaction.TxnEnd.{TxnEnd}
use Rattle.server_model.specs.declared.transaction.TxnEnd.TheVariants as ends
use Rattle.server_model.specs.declared.transaction.TxnLine.{TxnLine}
use Rattle.server_model.specs.declared.transaction.EndedTxn.{EndedTxn}
use Rattle.server_model.specs.declared.transaction.Reply.{Reply}
use Rattle.server_model.specs.Along.{gathered}
use Rattle.server_model.specs.declared.request.Request.{Request}
use Rattle.server_model.specs.declared.request.Request.TheVariants as requests
use Rattle.server_model.specs.declared.answer.Answer.{Answer}
use Rattle.server_model.specs.declared.answer.Answer.TheVariants as answers
use Rattle.server_model.specs.declared.entry.Asked.{Asked}
use Rattle.server_model.specs.declared.entry.Asked.TheVariants.{Call, Poll, Command, Cut}
use Rattle.server_model.specs.declared.entry.Entry.{Entry}
use Rattle.server_model.specs.Entries.{same_actor}
use Rattle.plan_data.specs.PlanData.{PlanData}
use Rattle.tool_program.specs.JournalWords.Clients.{with_draw, Reached, Became, Marked, Broken, became, client_at, is_inside, number_of, ends_with, with_line, with_reply}

-- a transaction of a client that ended, and the replies that the client got
pub record Past : Type 0 where
  pub client : ℕ
  -- the number of the transaction in the client's script, from 1
  pub number : ℕ
  pub txn : EndedTxn
  pub replies : List Reply

-- what a history lists: a transaction that ended, or the ALTER
pub data HistoryItem : Type 0 where
  Txn : Past → HistoryItem
  Alter : HistoryItem

abbrev pub past_of : ℕ → ℕ → List TxnLine → List Reply → TxnEnd → HistoryItem
past_of client number lines replies ended = Txn (record { client = client; number = number; txn = record { lines = lines; ended = ended }; replies = replies })

-- a line of this mark ends its transaction, or doesn't
abbrev pub ends_so : ℕ → Reached → ScriptLine → Mark → Option Reply → Option TxnEnd → List HistoryItem
ends_so number client line mark reply None = []
ends_so number client line mark reply (Some ended) = past_of number (number_of client) (with_line client line.word mark) (with_reply client reply) ended ∷ []

abbrev pub line_ends : ℕ → Reached → Mark → Option Reply → List ScriptLine → List HistoryItem
line_ends number client mark reply [] = []
line_ends number client mark reply (line ∷ lines) = ends_so number client line mark reply (ends_with (is_inside client.lines) line.word mark)

-- a loss between lines ends a transaction that is open
abbrev pub breaks : ℕ → Reached → Bool → List HistoryItem
breaks number client false = []
breaks number client true = past_of number client.begun client.lines client.replies ends.Lost ∷ []

-- what a client's turn ends
abbrev pub client_ends : ℕ → Reached → Became → List HistoryItem
client_ends number client (Marked mark reply) = line_ends number client mark reply client.left
client_ends number client Broken = breaks number client (is_inside client.lines)
client_ends number client other = []

-- the request that waits after a turn with this answer, where this one waited before it
abbrev pub waits_after : Asked → Answer → Option Request → Option Request
waits_after (Call request) (answers.Waits by) old = Some request
waits_after Poll (answers.Waits by) old = old
waits_after asked answer old = None

abbrev pub waits_in : Actor → Option Request → Entry → Option Request
waits_in actor old entry = if same_actor entry.actor actor then waits_after entry.asked entry.answer old else old

-- the request that an actor waits with: its last call, where that and every poll since were answered so
unfoldable pub request_waiting : List Entry → Actor → Option Request
request_waiting before actor = fold (waits_in actor) None before

-- what a turn is about: the request that is called, or that the actor waits with
abbrev pub asked_about : Asked → Option Request → Option Request
asked_about (Call request) waiting = Some request
asked_about (Command word) waiting = None
asked_about asked waiting = waiting

abbrev pub about : List Entry → Entry → Option Request
about before entry = asked_about entry.asked (request_waiting before entry.actor)

-- what the server answered in the turn, as the entry has it
abbrev pub answer_in : Asked → Option Side → Answer → Option Answer → Option Answer
answer_in Cut side answer missed = None
answer_in asked None answer missed = Some answer
answer_in asked (Some Before) answer missed = None
answer_in asked (Some After) answer missed = missed

-- the table of this name gives it up
abbrev pub takes_away : List ℕ → List Pair → Bool
takes_away name pairs = list_any (λ pair. bytes_eq pair.old name) pairs

abbrev pub renames_away : List ℕ → Option Request → Bool
renames_away name (Some (requests.Rename pairs)) = takes_away name pairs
renames_away name request = false

-- *The ALTER* is at the turn in which the RENAME of the migrated table was done, also where its answer was missed.
abbrev pub alters : PlanData → Option Request → Option Answer → List HistoryItem
alters plan request (Some (answers.Ok count)) = if renames_away plan.table request then Alter ∷ [] else []
alters plan request answer = []

-- what a turn adds to the history
abbrev pub adds : PlanData → List Entry → Entry → Actor → List HistoryItem
adds plan before entry (Client number) = client_ends number (with_draw entry.draw (client_at plan before number)) (became (client_at plan before number) entry)
adds plan before entry actor = alters plan (about before entry) (answer_in entry.asked entry.side entry.answer entry.missed)

abbrev pub entry_adds : PlanData → List Entry → Entry → List HistoryItem
entry_adds plan before entry = adds plan before entry entry.actor

-- *History*: what ended, in the order of the turns that ended it.
unfoldable pub history : PlanData → List Entry → List HistoryItem
history plan journal = gathered (entry_adds plan) [] journal

abbrev pub is_alter : HistoryItem → Bool
is_alter Alter = true
is_alter (Txn past) = false

-- What a client got for a line, with the number of the transaction in the script and of the line in the transaction,
-- from 1; none where the session was lost at the line.
pub record NumberedReply : Type 0 where
  pub transaction : ℕ
  pub line : ℕ
  pub reply : Option Reply
  -- the number that the line drew
  pub draw : Option ℕ

abbrev pub replied : Reached → Option ℕ → Became → List NumberedReply
replied client draw (Marked mark reply) = record { transaction = number_of client; line = length client.lines + 1; reply = reply; draw = draw } ∷ []
replied client draw other = []

abbrev pub replied_in : PlanData → ℕ → List Entry → Entry → List NumberedReply
replied_in plan number before entry =
    if same_actor entry.actor (Client number) then replied (client_at plan before number) entry.draw (became (client_at plan before number) entry) else []

-- *Replies of a client*: what it got for its lines, in order.
unfoldable pub replies_of : PlanData → List Entry → ℕ → List NumberedReply
replies_of plan journal number = gathered (replied_in plan number) [] journal
