-- The changes of one table among events, and what ReadLog answered.
use Rattle.std.specs.Prelude.{◌≡◌, ◌+◌, ◌≤◌, ℕ, List, [], ◌∷◌, ◌++◌, length, Some}
use Rattle.base_values.specs.declared.event.RowEvent.{RowEvent}
use Rattle.base_values.specs.declared.event.Change.{Change}
use Rattle.proof_journals.specs.Ghost.Doings.{changes_in, own_change}

-- the events that ReadLog answered, and the place after them
pub record EventsReported : Type 0 where
  pub events : List RowEvent
  pub next : ℕ

-- the changes of one table among events
unfoldable pub own_changes : List ℕ → List RowEvent → List Change
own_changes name [] = []
own_changes name (event ∷ events) = own_change name (Some event) ++ own_changes name events

-- *What is answered lies between the place and the next*: it ends within the log, and the table's changes among it are those
-- between the two places.
pub record IsReported (name : List ℕ) (log : List RowEvent) (place : ℕ) (reported : EventsReported) : Type 0 where
  pub steps : ℕ
  pub sum : place + steps ≡ reported.next
  pub within : reported.next ≤ length log
  pub are : own_changes name reported.events ≡ changes_in name log place steps
