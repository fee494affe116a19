-- *The mark* of a journal: the turn that does the RENAME of the migrated table; and what the log has by then.
use Rattle.std.specs.Prelude.{ℕ, if◌then◌else◌, List, [], ◌∷◌, ◌++◌, Option, Some, None}
use Rattle.std.specs.List.{list_any}
use Rattle.server_model.specs.declared.entry.Entry.{Entry}
use Rattle.server_model.specs.States.{State, unread}
use Rattle.plan_data.specs.PlanData.{PlanData}
use Rattle.tool_program.specs.JournalWords.Histories.{entry_adds, history, is_alter}
use Rattle.tool_program.specs.JournalWords.Journals.{state_at}

-- the turns up to the first that does the RENAME, after those before them; all where none does
unfoldable pub turns_to_mark : PlanData → List Entry → List Entry → List Entry
turns_to_mark plan before [] = before
turns_to_mark plan before (entry ∷ journal) = if list_any is_alter (entry_adds plan before entry) then before ++ entry ∷ [] else turns_to_mark plan (before ++ entry ∷ []) journal

-- *At the mark*: the server right after the RENAME
abbrev pub at_mark : PlanData → List Entry → State
at_mark plan journal = state_at plan (turns_to_mark plan [] journal)

-- *Logged at the mark*: how many events of these tables the log has then; none where the RENAME wasn't done
unfoldable pub logged_at_mark : PlanData → List (List ℕ) → List Entry → Option ℕ
logged_at_mark plan tables journal = if list_any is_alter (history plan journal) then Some (unread (at_mark plan journal) 0 tables) else None

-- the count that was taken, or the one that is taken now where the RENAME is done
abbrev pub counted : PlanData → List Entry → State → List (List ℕ) → Option ℕ → Option ℕ
counted plan journal server tables (Some logged) = Some logged
counted plan journal server tables None = if list_any is_alter (history plan journal) then Some (unread server 0 tables) else None
