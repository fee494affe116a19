-- *Machines and their sessions*: what each machine's step says of what its actor's session has on the server. (gh-ost's
-- copy, binary log applier and cut-over; the exact steps are this project's rule.)
use Rattle.std.specs.Prelude.{◌≡◌, ◌⊎◌, ◌<◌, ℕ, Bool, true, false, List, [], ◌∷◌, length, Option, Some, None}
use Rattle.base_script.specs.declared.actor.Actor.{Actor}
use Rattle.base_script.specs.declared.actor.Actor.TheVariants.{Insp, Copy, Apply, Lock, Ren}
use Rattle.base_values.specs.declared.event.RowEvent.{RowEvent}
use Rattle.server_model.specs.declared.answer.Answer.TheVariants as answers
use Rattle.server_model.specs.declared.entry.Entry.{Entry}
use Rattle.server_model.specs.declared.request.Request.{Request}
use Rattle.server_model.specs.declared.request.Request.TheVariants as requests
use Rattle.server_model.specs.Entries.{answer_at}
use Rattle.base_values.specs.ToolNames.{old_name}
use Rattle.tool_changelog.specs.ToolTables.{sentry_schema}
use Rattle.tool_program.specs.declared.chunk_copier.copier.CopyStep.{CopyStep}
use Rattle.tool_program.specs.declared.chunk_copier.copier.CopyStep.TheVariants as copying
use Rattle.tool_program.specs.declared.event_applier.applier.Applier.{Applier}
use Rattle.tool_program.specs.declared.event_applier.applier.ApplyStep.{ApplyStep}
use Rattle.tool_program.specs.declared.event_applier.applier.ApplyStep.TheVariants as applying
use Rattle.tool_program.specs.declared.event_applier.applier.Batch.{Batch}
use Rattle.tool_program.specs.EventApplier.Appliers.{planned}
use Rattle.tool_program.specs.declared.cutover_core.cutover.Clearing.TheVariants.{Looking, Drops}
use Rattle.tool_program.specs.declared.cutover_core.cutover.Hold.{Hold}
use Rattle.tool_program.specs.declared.cutover_core.cutover.Hold.TheVariants.{Nothing, WaitsToGuard, WaitsToLock, Locks}
use Rattle.tool_program.specs.declared.cutover_core.cutover.Phase.{Phase}
use Rattle.tool_program.specs.declared.cutover_core.cutover.Phase.TheVariants.{Resting, Attempting, Ending, Finishing, Finished}
use Rattle.tool_program.specs.declared.cutover_core.cutover.Stage.TheVariants.{Guarding, Locking, Hinting, ReadingCounter, SettingCounter, Draining, Drained, Showing, Dropping, Unlocking, Exchanging}
use Rattle.tool_program.specs.CutoverCore.Attempts.{exchange}
use Rattle.tool_program.specs.Tools.{ToolPhase, SettingUp, Migrating, Work}
use Rattle.proof_journals.specs.Machine.Standings.{Standing, free}

-- the request that waits, where one does, is such a one
abbrev pub waits_so : (Request → Bool) → Option Request → Bool
waits_so asks None = true
waits_so asks (Some request) = asks request

-- the session is in a transaction or isn't, has locked these tables, and waits with such a request alone
pub record Stands (asks : Request → Bool) (inside : Bool) (names : List (List ℕ)) (standing : Standing) : Type 0 where
  pub busy : standing.busy ≡ inside
  pub locked : standing.locked ≡ names
  pub waits : waits_so asks standing.waits ≡ true

-- THE INSPECTOR

-- what the inspector asks; and with what of it it may have to wait
abbrev pub inspector_asks : Request → Bool
inspector_asks (requests.Do statement) = true
inspector_asks (requests.Ends table) = true
inspector_asks (requests.Create schema) = true
inspector_asks (requests.Drop name) = true
inspector_asks requests.LogEnd = true
inspector_asks requests.ShowTables = true
inspector_asks requests.ShowWaiting = true
inspector_asks (requests.ShowCounter table) = true
inspector_asks (requests.SetCounter table least) = true
inspector_asks request = false

abbrev pub inspector_waits : Request → Bool
inspector_waits (requests.Do statement) = true
inspector_waits (requests.Ends table) = true
inspector_waits (requests.Create schema) = true
inspector_waits (requests.Drop name) = true
inspector_waits (requests.SetCounter table least) = true
inspector_waits request = false

-- THE COPIER

abbrev pub copier_asks : CopyStep → Request → Bool
copier_asks copying.Choosing (requests.ChunkEnd table low top size) = true
copier_asks (copying.Spanning reported size) (requests.BeginSpan table span most) = true
copier_asks (copying.Copying chunk copied) (requests.CopyRow from into map key) = true
copier_asks (copying.Committing chunk) requests.Commit = true
copier_asks step request = false

-- a transaction is open from the chunk's keys to its commit
abbrev pub copier_busy : CopyStep → Bool
copier_busy copying.Choosing = false
copier_busy (copying.Spanning reported size) = false
copier_busy (copying.Copying chunk copied) = true
copier_busy (copying.Committing chunk) = true

-- THE APPLIER

abbrev pub applier_asks : ApplyStep → Request → Bool
applier_asks applying.Reading (requests.ReadLog position limit tables) = true
applier_asks (applying.Beginning batch) requests.Begin = true
applier_asks (applying.Applying batch done part) (requests.Do statement) = true
applier_asks (applying.Committing batch) requests.Commit = true
applier_asks step request = false

-- a transaction is open from the batch's BEGIN to its commit
abbrev pub applier_busy : ApplyStep → Bool
applier_busy applying.Reading = false
applier_busy (applying.Beginning batch) = false
applier_busy (applying.Applying batch done part) = true
applier_busy (applying.Committing batch) = true

-- the batch's events were read in its turn, and this many statements are planned for them
pub record IsBatch (journal : List Entry) (applier : Applier) (batch : Batch) : Type 0 where
  pub events : List RowEvent
  pub next : ℕ
  pub reported : answer_at journal batch.read ≡ Some (answers.Events events next)
  pub counted : batch.statements ≡ length (planned applier events)

abbrev pub BatchKnown : List Entry → Applier → ApplyStep → Type 0
BatchKnown journal applier applying.Reading = Unit {0}
BatchKnown journal applier (applying.Beginning batch) = IsBatch journal applier batch × (0 < batch.statements)
BatchKnown journal applier (applying.Applying batch done part) = IsBatch journal applier batch × (done < batch.statements)
BatchKnown journal applier (applying.Committing batch) = Unit {0}

pub record ApplierStands (journal : List Entry) (applier : Applier) (standing : Standing) : Type 0 where
  pub stands : Stands (applier_asks applier.step) (applier_busy applier.step) [] standing
  pub known : BatchKnown journal applier applier.step

-- THE LOCKER AND THE RENAMER

-- the names of LOCK TABLES
abbrev pub both_names : List ℕ → List (List ℕ)
both_names table = table ∷ old_name table ∷ []

-- what the locker has, as the cut-over keeps it
abbrev pub held : List ℕ → Hold → Standing
held table Nothing = free
held table WaitsToGuard = record { busy = false; locked = []; waits = Some (requests.Create (sentry_schema table)) }
held table WaitsToLock = record { busy = false; locked = []; waits = Some (requests.LockTables (both_names table)) }
held table Locks = record { busy = false; locked = both_names table; waits = None }

-- what it may have in each phase
abbrev pub PhaseHolds : Phase → Hold → Type 0
PhaseHolds Resting hold = hold ≡ Nothing
PhaseHolds (Attempting Guarding) hold = (hold ≡ Nothing) ⊎ (hold ≡ WaitsToGuard)
PhaseHolds (Attempting Locking) hold = (hold ≡ Nothing) ⊎ (hold ≡ WaitsToLock)
PhaseHolds (Attempting Hinting) hold = hold ≡ Locks
PhaseHolds (Attempting (Draining turns)) hold = hold ≡ Locks
PhaseHolds (Attempting (ReadingCounter drain)) hold = hold ≡ Locks
PhaseHolds (Attempting (SettingCounter number drain)) hold = hold ≡ Locks
PhaseHolds (Attempting Drained) hold = hold ≡ Locks
PhaseHolds (Attempting Showing) hold = hold ≡ Locks
PhaseHolds (Attempting Dropping) hold = hold ≡ Locks
PhaseHolds (Attempting Unlocking) hold = hold ≡ Locks
PhaseHolds (Attempting Exchanging) hold = hold ≡ Nothing
PhaseHolds (Ending Looking) hold = Unit {0}
PhaseHolds (Ending (Drops left)) hold = hold ≡ Nothing
PhaseHolds (Finishing clearing) hold = Unit {0}
PhaseHolds Finished hold = Unit {0}

-- the RENAME waits, or the renamer has nothing
abbrev pub renaming : List ℕ → Bool → Standing
renaming table true = record { busy = false; locked = []; waits = Some (exchange table) }
renaming table false = free

-- ALL OF THEM

-- after the setup; where all is reverted the copier and the applier only roll back
pub record WorkStands (journal : List Entry) (reverting : Bool) (has : Actor → Standing) (work : Work) : Type 0 where
  pub inspector : Stands inspector_waits false [] (has Insp)
  pub copier : (reverting ≡ true) ⊎ Stands (copier_asks work.copier.step) (copier_busy work.copier.step) [] (has Copy)
  pub applier : (reverting ≡ true) ⊎ ApplierStands journal work.applier (has Apply)
  pub locker : has Lock ≡ held work.cutover.table work.cutover.hold
  pub phase : PhaseHolds work.cutover.phase work.cutover.hold
  pub renamer : has Ren ≡ renaming work.cutover.table work.cutover.renamer_waits

-- while the setup goes on only the inspector has anything
pub record SetupStands (has : Actor → Standing) : Type 0 where
  pub inspector : Stands inspector_waits false [] (has Insp)
  pub copier : has Copy ≡ free
  pub applier : has Apply ≡ free
  pub locker : has Lock ≡ free
  pub renamer : has Ren ≡ free

abbrev pub ToolPhaseStands : List Entry → (Actor → Standing) → Bool → ToolPhase → Type 0
ToolPhaseStands journal has reverting (SettingUp setup tries) = SetupStands has
ToolPhaseStands journal has reverting (Migrating work) = WorkStands journal reverting has work
