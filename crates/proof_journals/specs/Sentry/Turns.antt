-- *What the server leaves of a turn*, in the words of the server's laws.
use Rattle.std.specs.Prelude.{◌≡◌, ℕ, Bool, true, false, List}
use Rattle.std.specs.List.{list_any}
use Rattle.std.specs.Str.{bytes_eq}
use Rattle.server_locks.specs.MetadataLocks.Grants.{holds}
use Rattle.table_store.specs.Databases.{has_table, without_table}
use Rattle.server_model.specs.declared.answer.Answer.{Answer}
use Rattle.server_model.specs.declared.answer.Answer.TheVariants as answers
use Rattle.server_model.specs.declared.request.Request.{Request}
use Rattle.server_model.specs.declared.request.Request.TheVariants as requests
use Rattle.server_model.specs.States.{State}
use Rattle.proof_journals.specs.ServerTurns.Others.{TurnOf, IsAlone, held_at}

-- the session holds the names exclusively
abbrev pub LocksAreTaken : List (List ℕ) → ℕ → State → Type 0
LocksAreTaken names session after = (name : List ℕ) → list_any (bytes_eq name) names ≡ true → holds (held_at after) session name true ≡ true

-- a turn that commits nothing
abbrev pub LogsNothing : State → State → Type 0
LogsNothing before after = after.log ≡ before.log

-- a turn in which no table comes or goes
abbrev pub Defines : State → State → Type 0
Defines before after = (name : List ℕ) → has_table name after.tables ≡ has_table name before.tables

-- the session holds nothing afterwards: it was lost, or a transaction that held no table lock was rolled back
abbrev pub HoldsNothing : ℕ → State → Type 0
HoldsNothing session after = (name : List ℕ) (exclusive : Bool) → holds (held_at after) session name exclusive ≡ false

-- WHAT THE SERVER LEAVES OF THE LOCKER'S FOUR CALLS, by the answer

pub record LeavesLocked (names : List (List ℕ)) (session : ℕ) (before after : State) : Type 0 where
  pub taken : LocksAreTaken names session after
  pub alone : IsAlone (requests.LockTables names) session before after
  pub defines : Defines before after

pub record LeavesDropped (name : List ℕ) (session : ℕ) (before after : State) : Type 0 where
  pub takes : Bool
  pub turn : TurnOf takes session before after
  pub tables : after.tables ≡ without_table name before.tables
  pub names : held_at after ≡ held_at before
  pub logs : LogsNothing before after

-- it committed nothing, and no table came or went
pub record LeavesTables (session : ℕ) (before after : State) : Type 0 where
  pub takes : Bool
  pub turn : TurnOf takes session before after
  pub logs : LogsNothing before after
  pub defines : Defines before after

pub record LeavesAll (session : ℕ) (before after : State) : Type 0 where
  pub takes : Bool
  pub turn : TurnOf takes session before after
  pub logs : LogsNothing before after
  pub defines : Defines before after
  pub names : held_at after ≡ held_at before

pub record LeavesLog (session : ℕ) (before after : State) : Type 0 where
  pub takes : Bool
  pub turn : TurnOf takes session before after
  pub logs : LogsNothing before after

abbrev pub CreateLeaves : List ℕ → Answer → State → Type 0
CreateLeaves name (answers.Ok count) after = has_table name after.tables ≡ true
CreateLeaves name answer after = Unit {0}

abbrev pub LockLeaves : List (List ℕ) → ℕ → Answer → State → State → Type 0
LockLeaves names session (answers.Ok count) before after = LeavesLocked names session before after
LockLeaves names session answer before after = Defines before after

-- a session that holds the name isn't made to wait for it
abbrev pub DropLeaves : List ℕ → ℕ → Answer → State → State → Type 0
DropLeaves name session (answers.Ok count) before after = LeavesDropped name session before after
DropLeaves name session answers.Lost before after = LeavesLog session before after
DropLeaves name session (answers.TimedOut waited) before after = ⊥
DropLeaves name session answer before after = LeavesAll session before after

abbrev pub UnlockLeaves : ℕ → Answer → State → State → Type 0
UnlockLeaves session (answers.Ok count) before after = LeavesTables session before after
UnlockLeaves session answers.Lost before after = LeavesTables session before after
UnlockLeaves session answer before after = ⊥

abbrev pub CallLeaves : ℕ → Request → Answer → State → State → Type 0
CallLeaves session (requests.Create schema) answer before after = CreateLeaves schema.name answer after
CallLeaves session (requests.LockTables names) answer before after = LockLeaves names session answer before after
CallLeaves session (requests.Drop name) answer before after = DropLeaves name session answer before after
CallLeaves session requests.Unlock answer before after = UnlockLeaves session answer before after
CallLeaves session request answer before after = Unit {0}
