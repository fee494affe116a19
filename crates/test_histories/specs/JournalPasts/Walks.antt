-- What the walk through a journal finds: its history, and how far each client is in its script, as their definitions have it.
use Rattle.std.specs.Prelude.{◌≡◌, ℕ, ◌-◌, ◌==◌, if◌then◌else◌, List, [], ◌∷◌, map, Option, Some, None, option_map}
use Rattle.std.specs.List.{slice_get}
use Rattle.base_script.specs.declared.script.ScriptLine.{ScriptLine}
use Rattle.server_model.specs.declared.entry.Entry.{Entry}
use Rattle.plan_data.specs.PlanData.{PlanData}
use Rattle.tool_program.specs.JournalWords.Clients.{Reached, client_at, script_of}
use Rattle.tool_program.specs.JournalWords.Histories.{HistoryItem, history}
use Rattle.tool_program.specs.JournalWords.Histories as histories
use Rattle.test_histories.specs.declared.journal_pasts.pasts.Past.{Past}
use Rattle.test_histories.specs.declared.journal_pasts.pasts.PastItem.{PastItem}
use Rattle.test_histories.specs.declared.journal_pasts.pasts.PastItem.TheVariants.{Txn, Alter}
use Rattle.test_histories.specs.declared.journal_pasts.walks.Walked.{Walked}

-- what happened, as a history lists it
abbrev pub item_as : PastItem → HistoryItem
item_as (Txn past) = histories.Txn (record { client = past.client; number = past.number; txn = past.txn; replies = past.replies })
item_as Alter = histories.Alter

-- what a turn adds that ends this transaction or none
abbrev pub ended_items : Option Past → List HistoryItem
ended_items None = []
ended_items (Some past) = item_as (Txn past) ∷ []

-- the client of this number among all, which are numbered from 1
abbrev pub client_in : ℕ → List Reached → Option Reached
client_in number clients = if number == 0 then None else slice_get clients (number - 1)

-- *Are reached*: there is one for each of the plan's clients, and each is so far as its turns in the journal tell.
abbrev pub AreReached : PlanData → List Entry → List Reached → Type 0
AreReached plan journal clients = (number : ℕ) → client_in number clients ≡ option_map (λ (script : List ScriptLine). client_at plan journal number) (script_of number plan)

-- *Was walked*: what was found after the turns of a journal is their history, and how far they left each client.
pub record WasWalked (plan : PlanData) (journal : List Entry) (walked : Walked) : Type 0 where
  pub items : map item_as walked.items ≡ history plan journal
  pub clients : AreReached plan journal walked.clients.items
