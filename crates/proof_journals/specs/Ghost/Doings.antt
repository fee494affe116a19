-- The events of the migrated table that a batch has still to apply, and what is done for them.
use Rattle.std.specs.Prelude.{◌≡◌, ℕ, zero, suc, ◌+◌, ◌<◌, ◌≤◌, true, false, if◌then◌else◌, List, [], ◌∷◌, ◌++◌, Option, Some, None}
use Rattle.std.specs.List.{slice_get}
use Rattle.std.specs.Str.{bytes_eq}
use Rattle.base_values.specs.declared.event.RowEvent.{RowEvent}
use Rattle.base_values.specs.declared.event.Change.{Change}
use Rattle.base_values.specs.declared.event.Change.TheVariants.{Write, Update, Delete}
use Rattle.tool_program.specs.EventApplier.Appliers.{Doing}
use Rattle.tool_program.specs.EventApplier.Appliers.Doing.{Putting, Removing, Changing}
use Rattle.proof_journals.specs.Ghost.Rows.Moments.{Row}
use Rattle.proof_journals.specs.Ghost.Rows.Timelines.{Migration, changes_key, kept}

-- the event's change, where it is of the table of this name
abbrev pub own_change : List ℕ → Option RowEvent → List Change
own_change name None = []
own_change name (Some event) = if bytes_eq event.table name then event.change ∷ [] else []

-- the changes of the table of this name, of this many events from a place of the log on
unfoldable pub changes_in : List ℕ → List RowEvent → ℕ → ℕ → List Change
changes_in name log from zero = []
changes_in name log from (suc steps) = own_change name (slice_get log from) ++ changes_in name log (from + 1) steps

-- no event from one place of the log on, this many, is of the table
abbrev pub OthersOnly : List ℕ → List RowEvent → ℕ → ℕ → Type 0
OthersOnly name log from steps = (i : ℕ) (event : RowEvent) → from ≤ i → i < from + steps → slice_get log i ≡ Some event → bytes_eq event.table name ≡ false

-- *The next event of the table*: this many others come before it, and this many places are left after it.
pub record NextDue (name : List ℕ) (log : List RowEvent) (from steps : ℕ) (change : Change) (rest : List Change) : Type 0 where
  pub others : ℕ
  pub left : ℕ
  pub sum : others + 1 + left ≡ steps
  pub only : OthersOnly name log from others
  pub event : RowEvent
  pub there : slice_get log (from + others) ≡ Some event
  pub named : bytes_eq event.table name ≡ true
  pub is : event.change ≡ change
  pub following : rest ≡ changes_in name log (from + others + 1) left

-- what is done for a change of a row: an UPDATE that changes a unique key is a DELETE and a REPLACE
abbrev pub doings : Migration → Change → List Doing
doings m (Write row) = Putting row ∷ []
doings m (Delete row) = Removing row ∷ []
doings m (Update before after) = if changes_key (kept m) before after then Removing before ∷ Putting after ∷ [] else Changing before after ∷ []

-- what is done for changes, in order
unfoldable pub planned : Migration → List Change → List Doing
planned m [] = []
planned m (change ∷ changes) = doings m change ++ planned m changes

-- *Whole*: no event is half applied; what is to be done is what is planned for the events from the place that is reached to
-- the batch's end.
pub record IsWhole (m : Migration) (log : List RowEvent) (reached end next : ℕ) (todo : List Doing) : Type 0 where
  pub steps : ℕ
  pub sum : reached + steps ≡ next
  pub within : next ≤ end
  pub are : todo ≡ planned m (changes_in m.name log reached steps)

-- *half*: of the UPDATE at the place that is reached, the row of the old key is out; after it the rest is to be done.
pub record IsHalf (m : Migration) (log : List RowEvent) (reached end next : ℕ) (before after : Row) (rest : List Doing) : Type 0 where
  pub steps : ℕ
  pub sum : reached + 1 + steps ≡ next
  pub within : next ≤ end
  pub event : RowEvent
  pub there : slice_get log reached ≡ Some event
  pub named : bytes_eq event.table m.name ≡ true
  pub is : event.change ≡ Update before after
  pub are : rest ≡ planned m (changes_in m.name log (reached + 1) steps)
