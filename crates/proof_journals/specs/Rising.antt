-- *Numbers rise*: the numbers that are drawn from tables of one name, turn by turn, while no turn makes, drops or renames a
-- table of that name.
use Rattle.std.specs.Prelude.{◌≡◌, ◌≤◌, ℕ, false, List, [], ◌∷◌, ◌++◌, Option, Some, None}
use Rattle.std.specs.List.{list_any}
use Rattle.std.specs.Str.{bytes_eq}
use Rattle.server_model.specs.declared.entry.Entry.{Entry}
use Rattle.server_model.specs.declared.request.Request.{Request}
use Rattle.server_model.specs.declared.request.Request.TheVariants as requests
use Rattle.server_model.specs.States.{State, next_of, names_in, after_number}
use Rattle.tool_program.specs.JournalWords.Journals.{IsAnswered, after_entry}
use Rattle.tool_program.specs.JournalWords.Draws.{asked_in, drawn_from}

-- the request makes, drops and renames no table of this name
abbrev pub LeavesName : List ℕ → Option Request → Type 0
LeavesName name (Some (requests.Create schema)) = list_any (bytes_eq name) (names_in (requests.Create schema)) ≡ false
LeavesName name (Some (requests.Drop dropped)) = list_any (bytes_eq name) (names_in (requests.Drop dropped)) ≡ false
LeavesName name (Some (requests.Rename pairs)) = list_any (bytes_eq name) (names_in (requests.Rename pairs)) ≡ false
LeavesName name asks = Unit {0}

-- each turn has the server's answers, and leaves tables of this name
abbrev pub AllLeave : List ℕ → State → List Entry → Type 0
AllLeave name state [] = Unit {0}
AllLeave name state (entry ∷ entries) = (IsAnswered state entry × LeavesName name (asked_in state entry)) × AllLeave name (after_entry state entry) entries

-- the numbers that are drawn, from this state on
unfoldable pub numbers_on : List ℕ → State → List Entry → List ℕ
numbers_on name state [] = []
numbers_on name state (entry ∷ entries) = drawn_from entry.draw name (asked_in state entry) ++ numbers_on name (after_entry state entry) entries

-- each number is past those before it, and the first is at least this one
abbrev pub Rising : ℕ → List ℕ → Type 0
Rising low [] = Unit {0}
Rising low (number ∷ numbers) = (low ≤ number) × Rising (after_number number) numbers

abbrev pub AtLeast : ℕ → Option ℕ → Type 0
AtLeast low None = Unit {0}
AtLeast low (Some next) = low ≤ next

-- *Numbers rise*
abbrev pub NumbersRise : Type 0
NumbersRise = (name : List ℕ) (state : State) (journal : List Entry) (low : ℕ) → AllLeave name state journal → AtLeast low (next_of name state.counters) → Rising low (numbers_on name state journal)
