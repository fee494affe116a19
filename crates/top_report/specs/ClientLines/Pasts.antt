-- The history, as it is printed. This project's rule.
use Rattle.std.specs.Prelude.{codes, ℕ, List, ◌++◌}
use Rattle.std.specs.Fmt.{decimal}
use Rattle.std.specs.List.{flat_map}
use Rattle.server_model.specs.declared.entry.Entry.{Entry}
use Rattle.plan_data.specs.PlanData.{PlanData}
use Rattle.tool_program.specs.JournalWords.Histories.{HistoryItem, Txn, Alter, history}

-- a transaction's client and its number in the client's script, as in ` c2.1`
unfoldable pub past_text : ℕ → ℕ → List ℕ
past_text client number = codes " c" ++ decimal client ++ codes "." ++ decimal number

abbrev pub alter_text : List ℕ
alter_text = codes " ALTER"

-- a transaction that ended, or the ALTER
abbrev pub item_text : HistoryItem → List ℕ
item_text (Txn past) = past_text past.client past.number
item_text Alter = alter_text

-- what ended, in the order of the turns that ended it: `history c1.1 ALTER c2.1`
unfoldable pub history_line : PlanData → List Entry → List ℕ
history_line plan journal = codes "history" ++ flat_map item_text (history plan journal) ++ codes "\n"
