-- What a session has once it was granted what a request needs, and what may be granted.
use Rattle.std.specs.Prelude.{◌≡◌, ℕ, ◌==◌, true, false, List, ◌++◌}
use Rattle.base_values.specs.declared.event.RowEvent.{RowEvent}
use Rattle.table_store.specs.Databases.{Database}
use Rattle.server_model.specs.declared.need.Need.{Need}
use Rattle.server_model.specs.LockedRows.Coverage.{Apart}
use Rattle.proof_journals.specs.Holdings.{Face}
use Rattle.proof_journals.specs.ServerFacts.Invariants.{OwnFits}

-- the session with what it was granted, and with what it wrote then
abbrev pub grown : Face → Need → List RowEvent → Face
grown face need events = record { hold = record { names = face.hold.names ++ need.names; locks = face.hold.locks ++ need.locks; writes = face.hold.writes ++ events }; locked = face.locked; busy = true }

-- *Granted well*: the row locks conflict with nothing that others hold, and all that the session then holds and wrote goes
-- with the tables.
pub record GrowsWell (tables : Database) (faces : ℕ → Face) (number : ℕ) (need : Need) (events : List RowEvent) : Type 0 where
  pub apart : (n : ℕ) → (n == number) ≡ false → Apart need.locks (faces n).hold.locks
  pub own : OwnFits tables (grown (faces number) need events)
