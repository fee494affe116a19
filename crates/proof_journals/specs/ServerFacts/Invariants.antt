-- What holds of the plain server between calls, whoever calls it. (This project's means of proof: why what a session wrote
-- can be committed at any time.)
use Rattle.std.specs.Prelude.{◌≡◌, ◌≢◌, ℕ, ◌==◌, true, false, is_some, List, []}
use Rattle.std.specs.List.{AllByRecursion}
use Rattle.base_values.specs.declared.event.RowEvent.{RowEvent}
use Rattle.table_store.specs.Databases.{Database, find_table}
use Rattle.server_model.specs.declared.session.Session.{Session}
use Rattle.server_model.specs.declared.session.Waiting.{Waiting}
use Rattle.server_model.specs.Conditions.{ComesWell}
use Rattle.server_model.specs.States.{State, session_of, is_in_transaction, holds_tables, names_held, names_in}
use Rattle.server_model.specs.LockedRows.Coverage.{Apart}
use Rattle.server_model.specs.LockedRows.Databases.{IsWellFormedDatabase, EventsCovered}
use Rattle.proof_journals.specs.Scenes.{no_hold}
use Rattle.proof_journals.specs.Holdings.{Face, face_of, OneHolder}
use Rattle.proof_journals.specs.Ghost.FittingEvents.{IsFitting}

-- the table of each event exists
abbrev pub AllExist : Database → List RowEvent → Type 0
AllExist tables events = AllByRecursion (λ event. is_some (find_table event.table tables) ≡ true) events

-- What a session holds and wrote goes with the tables: outside a transaction it holds nothing but tables that it locked; what
-- it wrote fits, whatever others commit under their own locks; its locks cover that; and its tables exist.
pub record OwnFits (tables : Database) (face : Face) : Type 0 where
  pub rests : face.busy ≡ false → face.hold ≡ no_hold
  pub fitting : IsFitting face.hold.names face.hold.locks face.hold.writes tables
  pub covered : EventsCovered face.hold.names face.hold.locks tables face.hold.writes
  pub standing : AllExist tables face.hold.writes

-- a request that waits could come now, and mentions a table
pub record WaitsWell (sessions : List Session) (one : Waiting) : Type 0 where
  pub comes : ComesWell (is_in_transaction (session_of one.session sessions)) (holds_tables (session_of one.session sessions)) one.request
  pub names : names_in one.request ≢ []

-- *Serving*: the tables are tables, what each session holds goes with them, no two hold what conflicts, and requests wait
-- that may.
pub record IsServing (state : State) : Type 0 where
  pub well_formed : IsWellFormedDatabase state.tables
  pub own : (n : ℕ) → OwnFits state.tables (face_of state.sessions n)
  pub apart : (m n : ℕ) → (m == n) ≡ false → Apart (face_of state.sessions m).hold.locks (face_of state.sessions n).hold.locks
  pub alone : OneHolder (names_held state.sessions)
  pub waits : AllByRecursion (WaitsWell state.sessions) state.waiting
