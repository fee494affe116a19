-- *The sentry relation*: why the RENAME, whenever it runs, exchanges the table for the whole converted table. Stage by stage of
-- an attempt it says what is on the server. Read it as a table; each stage's line implies that where the RENAME waits, the
-- sentry exists (so that the RENAME, run now, is refused), or the tables may be exchanged.
use Rattle.std.specs.Prelude.{◌≡◌, ◌≢◌, ℕ, nat_eq, ◌≤◌, Bool, true, false, ◌&&◌, List, [], ◌∷◌, ◌++◌, take, drop, length, None, ◌⊎◌}
use Rattle.std.specs.List.{list_any}
use Rattle.base_values.specs.declared.event.RowEvent.{RowEvent}
use Rattle.base_values.specs.declared.event.Change.TheVariants.{Write}
use Rattle.table_store.specs.Databases.{Database, has_table}
use Rattle.server_model.specs.declared.answer.Answer.TheVariants as answers
use Rattle.server_locks.specs.MetadataLocks.Grants.{HeldName, has_name, holds, blocker_of_name}
use Rattle.server_locks.specs.declared.metadata_locks.request.Waiter.{Waiter}
use Rattle.tool_program.specs.EventApplier.Appliers as appliers
use Rattle.server_model.specs.declared.answer.Answer.{Answer}
use Rattle.server_model.specs.States.{State, waiters, names_held}
use Rattle.base_values.specs.ToolNames.{log_name, old_name}
use Rattle.tool_changelog.specs.Hints.{hint_row, last_hint}
use Rattle.tool_program.specs.declared.chunk_copier.copier.Copier.{Copier}
use Rattle.tool_program.specs.declared.event_applier.applier.Applier.{Applier}
use Rattle.tool_program.specs.EventApplier.Appliers.{events_of}
use Rattle.tool_program.specs.declared.cutover_core.cutover.CutOver.{CutOver}
use Rattle.tool_program.specs.declared.cutover_core.cutover.Phase.{Phase}
use Rattle.tool_program.specs.declared.cutover_core.cutover.Phase.TheVariants.{Resting, Attempting, Ending, Finishing, Finished}
use Rattle.tool_program.specs.declared.cutover_core.cutover.Stage.TheVariants.{Guarding, Locking, Hinting, ReadingCounter, SettingCounter, Draining, Drained, Showing, Dropping, Unlocking, Exchanging}
use Rattle.tool_program.specs.declared.cutover_core.cutover.Drain.TheVariants.{Turns, Passed}
use Rattle.tool_program.specs.declared.cutover_core.cutover.Stage.{Stage}
use Rattle.tool_program.specs.declared.cutover_core.cutover.Hold.{Hold}
use Rattle.tool_program.specs.declared.cutover_core.cutover.Hold.TheVariants.{Locks, WaitsToLock, WaitsToGuard, Nothing}
use Rattle.tool_program.specs.declared.cutover_core.cutover.Clearing.TheVariants.{Drops, Looking}

-- what of the server bears on the exchange: the tables that exist, the names that are held, the requests that wait for names
-- exclusively, and the log
pub record Scene : Type 0 where
  pub tables : Database
  pub held : List HeldName
  pub waiting : List Waiter
  pub log : List RowEvent

-- that part of the server's state
abbrev pub scene : State → Scene
scene state = record { tables = state.tables; held = names_held state.sessions; waiting = waiters state.waiting; log = state.log }

-- the sentry, or another table of its name, exists: a RENAME to that name is refused
abbrev pub HasSentry : List ℕ → Scene → Type 0
HasSentry table scene = has_table (old_name table) scene.tables ≡ true

-- nobody but this session holds a lock on the table
abbrev pub IsAlone : List ℕ → List HeldName → ℕ → Type 0
IsAlone table held session = (other : ℕ) → other ≢ session → holds held other table false ≡ false

-- what the sessions but this one hold is as before
abbrev pub OthersHold : List ℕ → ℕ → List HeldName → List HeldName → Type 0
OthersHold table session before after = (other : ℕ) (name : List ℕ) (exclusive : Bool) → other ≢ session → holds after other name exclusive ≡ holds before other name exclusive

-- the session holds the table and the sentry's name exclusively, and nobody else holds a lock on the table
pub record IsLocked (table : List ℕ) (held : List HeldName) (session : ℕ) : Type 0 where
  pub own : holds held session table true ≡ true
  pub old : holds held session (old_name table) true ≡ true
  pub alone : IsAlone table held session

-- the hint row of the attempt is logged, no hint row before it is the attempt's, and no event after it is of the table
pub record IsHinted (table : List ℕ) (attempt : ℕ) (log : List RowEvent) : Type 0 where
  pub front : List RowEvent
  pub following : List RowEvent
  pub logged : log ≡ front ++ record { table = log_name table; change = Write (hint_row attempt) } ∷ following
  pub first : (count : ℕ) → last_hint table 0 (take count front) ≢ attempt
  pub last : events_of table following ≡ []

-- the applier knows of the last hint row up to its position
abbrev pub KnowsHint : List ℕ → List RowEvent → Applier → Type 0
KnowsHint table log applier = applier.hint ≡ last_hint table 0 (take applier.position log)

-- the range is copied, every event of the table is applied, and no batch is open
pub record IsDrained (table : List ℕ) (log : List RowEvent) (copier : Copier) (applier : Applier) : Type 0 where
  pub copied : copier.is_copied ≡ true
  pub applied : events_of table (drop applier.position log) ≡ []
  pub within : applier.position ≤ length log
  pub idle : appliers.starts applier ≡ true

-- the RENAME waits for the table
abbrev pub waits_for : List ℕ → ℕ → Waiter → Bool
waits_for table session waiter = nat_eq waiter.session session && has_name waiter.names table

abbrev pub RenameWaits : List ℕ → Scene → ℕ → Type 0
RenameWaits table scene renamer = list_any (waits_for table renamer) scene.waiting ≡ true

-- the tables may be exchanged: nobody but this session holds a lock on the table, and all of it is in the new one
pub record MayExchange (table : List ℕ) (scene : Scene) (copier : Copier) (applier : Applier) (session : ℕ) : Type 0 where
  pub alone : IsAlone table scene.held session
  pub drained : IsDrained table scene.log copier applier

-- once the sentry is made: it exists
pub record AfterSentry (table : List ℕ) (scene : Scene) : Type 0 where
  pub sentry : HasSentry table scene

-- once the tables are locked: the sentry exists, and the table is locked too
pub record AfterLock (table : List ℕ) (scene : Scene) (locker : ℕ) : Type 0 where
  pub sentry : HasSentry table scene
  pub locked : IsLocked table scene.held locker

-- once the hint row is written: nothing is logged of the table after the hint row
pub record AfterHint (table : List ℕ) (scene : Scene) (attempt locker : ℕ) : Type 0 where
  pub sentry : HasSentry table scene
  pub locked : IsLocked table scene.held locker
  pub hinted : IsHinted table attempt scene.log

-- once the applier is past the hint row: all is applied
pub record AfterDrain (table : List ℕ) (scene : Scene) (copier : Copier) (applier : Applier) (locker : ℕ) : Type 0 where
  pub sentry : HasSentry table scene
  pub locked : IsLocked table scene.held locker
  pub drained : IsDrained table scene.log copier applier

-- once the RENAME is asked for: it waits
pub record AfterRename (table : List ℕ) (scene : Scene) (copier : Copier) (applier : Applier) (locker renamer : ℕ) : Type 0 where
  pub sentry : HasSentry table scene
  pub locked : IsLocked table scene.held locker
  pub drained : IsDrained table scene.log copier applier
  pub waits : RenameWaits table scene renamer

-- the name that the RENAME gives the old table is free
abbrev pub IsFree : List ℕ → Scene → Type 0
IsFree table scene = has_table (old_name table) scene.tables ≡ false

-- once the sentry is dropped: it is gone, the lock is held, the RENAME waits
pub record AfterDrop (table : List ℕ) (scene : Scene) (copier : Copier) (applier : Applier) (locker renamer : ℕ) : Type 0 where
  pub gone : IsFree table scene
  pub locked : IsLocked table scene.held locker
  pub drained : IsDrained table scene.log copier applier
  pub waits : RenameWaits table scene renamer

-- once the tables are unlocked, or the lock is lost: the RENAME waits, and may run
pub record AfterUnlock (table : List ℕ) (scene : Scene) (copier : Copier) (applier : Applier) (locker renamer : ℕ) : Type 0 where
  pub gone : IsFree table scene
  pub waits : RenameWaits table scene renamer
  pub may : MayExchange table scene copier applier locker

-- in the end of an attempt that didn't succeed, where the RENAME waits: the sentry exists, or the tables may be exchanged
pub record AfterFailure (table : List ℕ) (scene : Scene) (copier : Copier) (applier : Applier) (locker renamer : ℕ) : Type 0 where
  pub waits : RenameWaits table scene renamer
  pub guarded : HasSentry table scene ⊎ MayExchange table scene copier applier locker

abbrev pub WhereItWaits : Bool → Type 0 → Type 0
WhereItWaits false claim = Unit {0}
WhereItWaits true claim = claim

-- where the locker holds the table lock, as the cut-over knows, the server has it so
abbrev pub HoldsLock : List ℕ → Scene → ℕ → Hold → Type 0
HoldsLock table scene locker Locks = IsLocked table scene.held locker
HoldsLock table scene locker hold = Unit {0}

-- the claim of an attempt's end
pub record AtEnd (table : List ℕ) (scene : Scene) (copier : Copier) (applier : Applier) (locker renamer : ℕ) (hold : Hold) (renamer_waits : Bool) : Type 0 where
  pub lock : HoldsLock table scene locker hold
  pub rename : WhereItWaits renamer_waits (AfterFailure table scene copier applier locker renamer)

-- *The sentry relation*, stage by stage.
abbrev pub Guards : List ℕ → Scene → Copier → Applier → CutOver → ℕ → ℕ → Phase → Type 0
Guards table scene copier applier cutover locker renamer Resting = Unit {0}
Guards table scene copier applier cutover locker renamer (Attempting Guarding) = Unit {0}
Guards table scene copier applier cutover locker renamer (Attempting Locking) = AfterSentry table scene
Guards table scene copier applier cutover locker renamer (Attempting Hinting) = AfterLock table scene locker
Guards table scene copier applier cutover locker renamer (Attempting (Draining turns)) = AfterHint table scene cutover.attempts locker
Guards table scene copier applier cutover locker renamer (Attempting (ReadingCounter (Turns turns))) = AfterHint table scene cutover.attempts locker
Guards table scene copier applier cutover locker renamer (Attempting (SettingCounter number (Turns turns))) = AfterHint table scene cutover.attempts locker
Guards table scene copier applier cutover locker renamer (Attempting Drained) = AfterDrain table scene copier applier locker
Guards table scene copier applier cutover locker renamer (Attempting (ReadingCounter Passed)) = AfterDrain table scene copier applier locker
Guards table scene copier applier cutover locker renamer (Attempting (SettingCounter number Passed)) = AfterDrain table scene copier applier locker
Guards table scene copier applier cutover locker renamer (Attempting Showing) = AfterRename table scene copier applier locker renamer
Guards table scene copier applier cutover locker renamer (Attempting Dropping) = AfterRename table scene copier applier locker renamer
Guards table scene copier applier cutover locker renamer (Attempting Unlocking) = AfterDrop table scene copier applier locker renamer
Guards table scene copier applier cutover locker renamer (Attempting Exchanging) = WhereItWaits cutover.renamer_waits (AfterUnlock table scene copier applier locker renamer)
Guards table scene copier applier cutover locker renamer (Ending clearing) = AtEnd table scene copier applier locker renamer cutover.hold cutover.renamer_waits
Guards table scene copier applier cutover locker renamer (Finishing clearing) = Unit {0}
Guards table scene copier applier cutover locker renamer Finished = Unit {0}

-- STEPS

-- A turn of a session that is neither the locker's nor the renamer's: a client's, the copier's, the applier's, or the
-- inspector's at another table than the sentry. It comes to hold the table only where a shared lock on it is granted; it
-- commits rows of the table only where it holds it; what others hold stays, and their requests go on waiting.
pub record OthersTurn (table : List ℕ) (renamer session : ℕ) (before after : Scene) : Type 0 where
  pub old_stays : has_table (old_name table) after.tables ≡ has_table (old_name table) before.tables
  pub others : OthersHold table session before.held after.held
  pub granted : holds before.held session table false ≡ false → holds after.held session table false ≡ true → blocker_of_name before.held before.waiting session table false ≡ None
  pub waits : RenameWaits table before renamer → RenameWaits table after renamer
  pub events : List RowEvent
  pub log : after.log ≡ before.log ++ events
  pub written : holds before.held session table false ≡ false → (blocker_of_name before.held before.waiting session table false ≡ None → ⊥) → events_of table events ≡ []

-- where the renamer may be answered: its RENAME is asked for in this turn, or waits
abbrev pub MayAnswer : Phase → Bool → Type 0
MayAnswer (Attempting Drained) renamer_waits = Unit {0}
MayAnswer (Attempting Showing) renamer_waits = Unit {0}
MayAnswer (Attempting Dropping) renamer_waits = Unit {0}
MayAnswer (Attempting Unlocking) renamer_waits = Unit {0}
MayAnswer (Attempting Exchanging) renamer_waits = renamer_waits ≡ true
MayAnswer (Ending clearing) renamer_waits = renamer_waits ≡ true
MayAnswer phase renamer_waits = ⊥

-- the sentry's DROP, done
pub record DropsSentry (table : List ℕ) (before after : Scene) : Type 0 where
  pub gone : IsFree table after
  pub held : after.held ≡ before.held
  pub log : after.log ≡ before.log

-- the locker's locks are freed, by Unlock or by the loss of its session; the RENAME goes on waiting
pub record FreesLock (table : List ℕ) (session renamer : ℕ) (before after : Scene) : Type 0 where
  pub others : OthersHold table session before.held after.held
  pub log : after.log ≡ before.log
  pub waits : RenameWaits table before renamer → RenameWaits table after renamer

-- the same, and whether the sentry exists stays
pub record OnlyFreesLock (table : List ℕ) (session renamer : ℕ) (before after : Scene) : Type 0 where
  pub frees : FreesLock table session renamer before after
  pub tables : has_table (old_name table) after.tables ≡ has_table (old_name table) before.tables

-- nothing of it changes, but who else waits
pub record Rests (table : List ℕ) (renamer : ℕ) (before after : Scene) : Type 0 where
  pub tables : has_table (old_name table) after.tables ≡ has_table (old_name table) before.tables
  pub held : after.held ≡ before.held
  pub log : after.log ≡ before.log
  pub waits : RenameWaits table before renamer → RenameWaits table after renamer

-- what the locker has, and whether the RENAME waits, in each phase
abbrev pub Fits : Phase → Hold → Bool → Type 0
Fits Resting hold waits = (hold ≡ Nothing) × (waits ≡ false)
Fits (Attempting Guarding) hold waits = ((hold ≡ Nothing) ⊎ (hold ≡ WaitsToGuard)) × (waits ≡ false)
Fits (Attempting Locking) hold waits = ((hold ≡ Nothing) ⊎ (hold ≡ WaitsToLock)) × (waits ≡ false)
Fits (Attempting Hinting) hold waits = (hold ≡ Locks) × (waits ≡ false)
Fits (Attempting (Draining turns)) hold waits = (hold ≡ Locks) × (waits ≡ false)
Fits (Attempting (ReadingCounter drain)) hold waits = (hold ≡ Locks) × (waits ≡ false)
Fits (Attempting (SettingCounter number drain)) hold waits = (hold ≡ Locks) × (waits ≡ false)
Fits (Attempting Drained) hold waits = (hold ≡ Locks) × (waits ≡ false)
Fits (Attempting Showing) hold waits = (hold ≡ Locks) × (waits ≡ true)
Fits (Attempting Dropping) hold waits = (hold ≡ Locks) × (waits ≡ true)
Fits (Attempting Unlocking) hold waits = (hold ≡ Locks) × (waits ≡ true)
Fits (Attempting Exchanging) hold waits = hold ≡ Nothing
Fits (Ending Looking) WaitsToGuard waits = waits ≡ false
Fits (Ending Looking) WaitsToLock waits = waits ≡ false
Fits (Ending Looking) hold waits = Unit {0}
Fits (Ending (Drops left)) hold waits = (hold ≡ Nothing) × (waits ≡ false)
Fits (Finishing clearing) hold waits = waits ≡ false
Fits Finished hold waits = waits ≡ false

-- where the locker has no call only the loss of its session is seen; Unlock is done at once
abbrev pub LockerMay : Phase → Hold → Answer → Type 0
LockerMay (Attempting Hinting) hold answer = answer ≡ answers.Lost
LockerMay (Attempting (Draining turns)) hold answer = answer ≡ answers.Lost
LockerMay (Attempting (ReadingCounter drain)) hold answer = answer ≡ answers.Lost
LockerMay (Attempting (SettingCounter number drain)) hold answer = answer ≡ answers.Lost
LockerMay (Attempting Drained) hold answer = answer ≡ answers.Lost
LockerMay (Attempting Showing) hold answer = answer ≡ answers.Lost
LockerMay (Attempting Exchanging) hold answer = answer ≡ answers.Lost
LockerMay (Attempting Unlocking) hold (answers.Ok count) = Unit {0}
LockerMay (Attempting Unlocking) hold answers.Lost = Unit {0}
LockerMay (Attempting Unlocking) hold answer = ⊥
LockerMay (Ending clearing) Nothing answer = answer ≡ answers.Lost
LockerMay phase hold answer = Unit {0}

-- LOCK TABLES, done
pub record TakesLock (table : List ℕ) (session : ℕ) (before after : Scene) : Type 0 where
  pub tables : has_table (old_name table) after.tables ≡ has_table (old_name table) before.tables
  pub locked : IsLocked table after.held session

abbrev pub LocksServes : List ℕ → ℕ → Answer → Scene → Scene → Type 0
LocksServes table session (answers.Ok count) before after = TakesLock table session before after
LocksServes table session answers.Lost before after = Unit {0}
LocksServes table session (answers.TimedOut waited) before after = Unit {0}
LocksServes table session answer before after = has_table (old_name table) after.tables ≡ has_table (old_name table) before.tables

abbrev pub DropsServes : List ℕ → ℕ → ℕ → Answer → Scene → Scene → Type 0
DropsServes table session renamer (answers.Ok count) before after = DropsSentry table before after × (RenameWaits table before renamer → RenameWaits table after renamer)
DropsServes table session renamer answers.Lost before after = FreesLock table session renamer before after
DropsServes table session renamer (answers.TimedOut waited) before after = ⊥
DropsServes table session renamer answer before after = Rests table renamer before after

-- What the server leaves of the locker's turn, by the phase and the answer. A session lost at the sentry's DROP may be lost before the
-- drop or after it, so nothing is said of the tables there.
abbrev pub LockerServes : List ℕ → ℕ → ℕ → Phase → Hold → Answer → Scene → Scene → Type 0
LockerServes table session renamer Resting hold (answers.Ok count) before after = HasSentry table after
LockerServes table session renamer Resting hold answer before after = Unit {0}
LockerServes table session renamer (Attempting Guarding) hold (answers.Ok count) before after = HasSentry table after
LockerServes table session renamer (Attempting Guarding) hold answer before after = Unit {0}
LockerServes table session renamer (Attempting Locking) hold answer before after = LocksServes table session answer before after
LockerServes table session renamer (Attempting Dropping) hold answer before after = DropsServes table session renamer answer before after
LockerServes table session renamer (Attempting stage) hold answer before after = OnlyFreesLock table session renamer before after
LockerServes table session renamer (Ending clearing) WaitsToLock (answers.Ok count) before after = IsLocked table after.held session
LockerServes table session renamer (Ending clearing) WaitsToLock answer before after = Unit {0}
LockerServes table session renamer (Ending clearing) WaitsToGuard answer before after = Unit {0}
LockerServes table session renamer (Ending clearing) hold answer before after = OnlyFreesLock table session renamer before after
LockerServes table session renamer phase hold answer before after = Unit {0}

-- the inspector's turn in an attempt that may succeed: where the hint row is written, it is what the turn logged, and no hint row before it is the attempt's
pub record WritesHint (t : List ℕ) (attempt : ℕ) (before after : Scene) : Type 0 where
  pub earlier : (count : ℕ) → last_hint t 0 (take count before.log) ≢ attempt
  pub tables : has_table (old_name t) after.tables ≡ has_table (old_name t) before.tables
  pub held : after.held ≡ before.held
  pub log : after.log ≡ before.log ++ record { table = log_name t; change = Write (hint_row attempt) } ∷ []

abbrev pub InspectorServes : List ℕ → ℕ → Stage → Answer → Scene → Scene → Type 0
InspectorServes t attempt Hinting (answers.Ok count) before after = WritesHint t attempt before after
InspectorServes t attempt stage answer before after = Unit {0}

-- what is known of the applier after its turn: its hint is the last one up to its position; and where it has just passed the
-- hint row, no batch is open
abbrev pub IsDraining : Phase → Type 0
IsDraining (Attempting (Draining turns)) = Unit {0}
IsDraining (Attempting (ReadingCounter (Turns turns))) = Unit {0}
IsDraining (Attempting (SettingCounter number (Turns turns))) = Unit {0}
IsDraining phase = ⊥

pub record HasTurned (t : List ℕ) (scene : Scene) (copier : Copier) (applier next : Applier) (attempt : ℕ) (phase : Phase) : Type 0 where
  pub knows : KnowsHint t scene.log next
  pub within : next.position ≤ length scene.log
  pub idle : IsDraining phase → next.hint ≡ attempt → appliers.starts next ≡ true
  pub stays : IsDrained t scene.log copier applier → IsDrained t scene.log copier next

-- what the server leaves of the renamer's turn
abbrev pub IsGone : List ℕ → ℕ → Scene → Scene → Type 0
IsGone table renamer before after = OthersHold table renamer before.held after.held × (holds after.held renamer table false ≡ false)

pub record RenameRests (table : List ℕ) (renamer : ℕ) (before after : Scene) : Type 0 where
  pub rests : Rests table renamer before after
  pub waits : RenameWaits table after renamer

-- while the locker holds the table the RENAME isn't granted, so it isn't refused with an error either; one that is refused
-- waits no more
abbrev pub RefusesRename : List ℕ → ℕ → Phase → Scene → Scene → Type 0
RefusesRename table renamer (Attempting Drained) before after = ⊥
RefusesRename table renamer (Attempting Showing) before after = ⊥
RefusesRename table renamer (Attempting Dropping) before after = ⊥
RefusesRename table renamer (Attempting Unlocking) before after = ⊥
RefusesRename table renamer phase before after = IsGone table renamer before after

abbrev pub RenamerServes : List ℕ → ℕ → Phase → Answer → Scene → Scene → Type 0
RenamerServes table renamer phase (answers.Ok count) before after = Unit {0}
RenamerServes table renamer phase (answers.Waits by) before after = RenameRests table renamer before after
RenamerServes table renamer phase answers.Lost before after = IsGone table renamer before after
RenamerServes table renamer phase (answers.TimedOut waited) before after = IsGone table renamer before after
RenamerServes table renamer phase answer before after = RefusesRename table renamer phase before after

-- the listing of tables at an attempt's end comes where the locker has nothing and no RENAME waits
abbrev pub InspectorMay : Phase → Hold → Bool → Answer → Type 0
InspectorMay (Ending Looking) hold waits (answers.Tables tables) = (hold ≡ Nothing) × (waits ≡ false)
InspectorMay phase hold waits answer = Unit {0}

-- while an attempt is under way and the inspector doesn't drop, its turn is another session's
abbrev pub InspectorTurns : List ℕ → ℕ → ℕ → Phase → Scene → Scene → Type 0
InspectorTurns table renamer session (Attempting stage) before after = OthersTurn table renamer session before after
InspectorTurns table renamer session (Ending Looking) before after = OthersTurn table renamer session before after
InspectorTurns table renamer session phase before after = Unit {0}

abbrev pub InspectorWrites : List ℕ → ℕ → Phase → Answer → Scene → Scene → Type 0
InspectorWrites table attempt (Attempting stage) answer before after = InspectorServes table attempt stage answer before after
InspectorWrites table attempt phase answer before after = Unit {0}
