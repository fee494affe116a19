-- *What a turn leaves*, actor by actor, for the sentry relation: the premises of one entry, and what holds of the tool and the
-- server after each journal.
use Rattle.std.specs.Prelude.{◌+◌, if◌then◌else◌, ◌≡◌, ◌≢◌, ◌⊎◌, ℕ, ◌≤◌, Bool, true, false, List, [], ◌∷◌, ◌++◌, fold, drop, length, Option, Some, None}
use Rattle.base_script.specs.declared.actor.Actor.{Actor}
use Rattle.base_script.specs.declared.actor.Actor.TheVariants.{Insp, Copy, Apply, Lock, Ren}
use Rattle.server_model.specs.Along.{Along}
use Rattle.table_store.specs.Databases.{has_table}
use Rattle.server_locks.specs.MetadataLocks.Grants.{holds}
use Rattle.server_model.specs.declared.request.Request.TheVariants as requests
use Rattle.server_model.specs.declared.answer.Answer.TheVariants as answers
use Rattle.tool_program.specs.ChunkCopier.Copiers as copiers
use Rattle.tool_program.specs.EventApplier.Appliers as appliers
use Rattle.proof_journals.specs.Sentry.Sentries.{scene, Guards, Fits, MayAnswer, LockerMay, LockerServes, RenamerServes, InspectorMay, InspectorTurns, InspectorWrites, OthersTurn, Rests, HasTurned}
use Rattle.base_values.specs.ToolNames.{old_name}
use Rattle.tool_changelog.specs.ToolTables.{sentry_schema}
use Rattle.server_model.specs.declared.request.Request.{Request}
use Rattle.server_model.specs.declared.answer.Answer.{Answer}
use Rattle.server_model.specs.declared.entry.Entry.{Entry}
use Rattle.server_model.specs.declared.entry.Asked.{Asked}
use Rattle.server_model.specs.declared.entry.Asked.TheVariants.{Command, Cut}
use Rattle.server_model.specs.Entries.{same_actor, is_cut, is_command}
use Rattle.server_model.specs.States.{State, has_work, names_held}
use Rattle.plan_data.specs.PlanData.{PlanData}
use Rattle.tool_program.specs.declared.cutover_core.cutover.Phase.{Phase}
use Rattle.tool_program.specs.declared.cutover_core.cutover.Phase.TheVariants.{Resting, Attempting, Ending, Finishing, Finished}
use Rattle.tool_program.specs.declared.cutover_core.cutover.Stage.TheVariants.{Guarding, Locking, Hinting, ReadingCounter, SettingCounter, Draining, Drained, Unlocking, Dropping}
use Rattle.tool_program.specs.declared.cutover_core.cutover.Hold.{Hold}
use Rattle.tool_program.specs.declared.cutover_core.cutover.Hold.TheVariants.{Locks}
use Rattle.tool_program.specs.CutoverCore.CutOvers.{stands, is_wait}
use Rattle.tool_program.specs.JournalWords.Sessions.{live_session}
use Rattle.tool_program.specs.Programs.{waits, IsFollowed}
use Rattle.tool_program.specs.Tools.{Work, ToolPhase, moment}
use Rattle.tool_program.specs.Tools.ToolPhase.{SettingUp, Migrating}

-- the session of the actor's last turn, live or lost; a command names none
abbrev pub session_after : Asked → ℕ → ℕ → ℕ
session_after (Command word) old session = old
session_after asked old session = session

abbrev pub session_next : Actor → ℕ → Entry → ℕ
session_next actor old entry = if same_actor entry.actor actor then session_after entry.asked old entry.session else old

unfoldable pub last_session : List Entry → Actor → ℕ
last_session journal actor = fold (session_next actor) 0 journal

-- the sentry relation of the tool and the server
pub record Holds (plan : PlanData) (state : State) (locker renamer : ℕ) (work : Work) : Type 0 where
  pub fits : Fits work.cutover.phase work.cutover.hold work.cutover.renamer_waits
  pub copied : stands work.cutover.phase ≡ true → work.copier.is_copied ≡ true
  pub guards : Guards plan.table (scene state) work.copier work.applier work.cutover locker renamer work.cutover.phase

abbrev pub ToolPhaseHolds : PlanData → State → ℕ → ℕ → ToolPhase → Type 0
ToolPhaseHolds plan state locker renamer (SettingUp setup tries) = Unit {0}
ToolPhaseHolds plan state locker renamer (Migrating work) = Holds plan state locker renamer work

-- *The invariant*
pub record IsGuarded (plan : PlanData) (journal : List Entry) : Type 0 where
  pub tool_phase : ToolPhaseHolds plan (moment plan journal).server (last_session journal Lock) (last_session journal Ren) (moment plan journal).tool.tool_phase

-- the line names no session of the locker
abbrev pub IsLockerFree : Phase → Type 0
IsLockerFree Resting = Unit {0}
IsLockerFree (Attempting Guarding) = Unit {0}
IsLockerFree (Attempting Locking) = Unit {0}
IsLockerFree (Finishing clearing) = Unit {0}
IsLockerFree Finished = Unit {0}
IsLockerFree phase = ⊥

-- the line names no session of the renamer
abbrev pub IsRenamerFree : Phase → Type 0
IsRenamerFree (Attempting Hinting) = Unit {0}
IsRenamerFree (Attempting (Draining turns)) = Unit {0}
IsRenamerFree (Attempting (ReadingCounter drain)) = Unit {0}
IsRenamerFree (Attempting (SettingCounter number drain)) = Unit {0}
IsRenamerFree (Attempting Drained) = Unit {0}
IsRenamerFree phase = IsLockerFree phase

-- what is seen of the answer: a loss between calls is seen as Lost where the session had work, and else not at all
abbrev pub reported_if : Bool → Option Answer
reported_if true = Some answers.Lost
reported_if false = None

abbrev pub reported : State → Entry → Asked → Option Answer
reported state entry Cut = reported_if (has_work state entry.session)
reported state entry (Command word) = None
reported state entry asked = Some entry.answer

-- the locker's turn: in its session, or where the line names none; it makes the sentry where the range is copied
pub record LockerSays (plan : PlanData) (before after : State) (locker renamer : ℕ) (work : Work) (answer : Answer) (session : ℕ) : Type 0 where
  pub same : (session ≡ locker) ⊎ IsLockerFree work.cutover.phase
  pub copied : work.cutover.phase ≡ Resting → work.copier.is_copied ≡ true
  pub may : LockerMay work.cutover.phase work.cutover.hold answer
  pub serves : LockerServes plan.table session renamer work.cutover.phase work.cutover.hold answer (scene before) (scene after)

-- a session without work is lost
pub record IsIdle (plan : PlanData) (before after : State) (renamer : ℕ) (same : Type 0) : Type 0 where
  pub rests : Rests plan.table renamer (scene before) (scene after)
  pub is : same

abbrev pub LockerTurn : PlanData → State → State → ℕ → ℕ → Work → Option Answer → ℕ → Type 0
LockerTurn plan before after locker renamer work (Some answer) session = LockerSays plan before after locker renamer work answer session
LockerTurn plan before after locker renamer work None session = IsIdle plan before after renamer ((session ≡ locker) ⊎ IsLockerFree work.cutover.phase)

pub record RenamerSays (plan : PlanData) (before after : State) (locker renamer : ℕ) (work : Work) (answer : Answer) (session : ℕ) : Type 0 where
  pub same : (session ≡ renamer) ⊎ IsRenamerFree work.cutover.phase
  pub apart : locker ≢ session
  pub may : (answer ≡ answers.Lost) ⊎ MayAnswer work.cutover.phase work.cutover.renamer_waits
  pub serves : RenamerServes plan.table session work.cutover.phase answer (scene before) (scene after)

abbrev pub RenamerTurn : PlanData → State → State → ℕ → ℕ → Work → Option Answer → ℕ → Type 0
RenamerTurn plan before after locker renamer work (Some answer) session = RenamerSays plan before after locker renamer work answer session
RenamerTurn plan before after locker renamer work None session = IsIdle plan before after renamer ((session ≡ renamer) ⊎ IsRenamerFree work.cutover.phase)

pub record Apart (locker renamer session : ℕ) : Type 0 where
  pub locks : locker ≢ session
  pub renames : renamer ≢ session

pub record InspectorSays (plan : PlanData) (before after : State) (locker renamer : ℕ) (work : Work) (answer : Answer) (session : ℕ) : Type 0 where
  pub apart : Apart locker renamer session
  pub turn : InspectorTurns plan.table renamer session work.cutover.phase (scene before) (scene after)
  pub writes : InspectorWrites plan.table work.cutover.attempts work.cutover.phase answer (scene before) (scene after)
  pub may : InspectorMay work.cutover.phase work.cutover.hold work.cutover.renamer_waits answer

abbrev pub InspectorTurn : PlanData → State → State → ℕ → ℕ → Work → Option Answer → ℕ → Type 0
InspectorTurn plan before after locker renamer work (Some answer) session = InspectorSays plan before after locker renamer work answer session
InspectorTurn plan before after locker renamer work None session = Rests plan.table renamer (scene before) (scene after)

-- another session's turn
abbrev pub OtherTurn : PlanData → State → State → ℕ → ℕ → ℕ → Type 0
OtherTurn plan before after locker renamer session = (Apart locker renamer session) × (OthersTurn plan.table renamer session (scene before) (scene after))

-- what was copied stays so
abbrev pub CopierTurn : PlanData → State → Work → ℕ → Option Answer → Type 0
CopierTurn plan after work turn None = Unit {0}
CopierTurn plan after work turn (Some answer) = work.copier.is_copied ≡ true → (copiers.took turn work.copier answer).is_copied ≡ true

-- the applier's answer, and the drain after it, which a loss between calls doesn't count for
abbrev pub ApplierTurn : PlanData → State → Work → ℕ → Option Answer → Type 0
ApplierTurn plan after work turn None = Unit {0}
ApplierTurn plan after work turn (Some answer) = HasTurned plan.table (scene after) work.copier work.applier (appliers.took turn work.applier answer) work.cutover.attempts work.cutover.phase × HasTurned plan.table (scene after) work.copier work.applier work.applier work.cutover.attempts work.cutover.phase

abbrev pub WorkTurn : PlanData → State → State → ℕ → ℕ → Work → ℕ → Entry → Actor → Option Answer → Type 0
WorkTurn plan before after locker renamer work turn entry Lock answer = LockerTurn plan before after locker renamer work answer entry.session
WorkTurn plan before after locker renamer work turn entry Ren answer = RenamerTurn plan before after locker renamer work answer entry.session
WorkTurn plan before after locker renamer work turn entry Insp answer = InspectorTurn plan before after locker renamer work answer entry.session
WorkTurn plan before after locker renamer work turn entry Copy answer = OtherTurn plan before after locker renamer entry.session × CopierTurn plan after work turn answer
WorkTurn plan before after locker renamer work turn entry Apply answer = OtherTurn plan before after locker renamer entry.session × ApplierTurn plan after work turn answer
WorkTurn plan before after locker renamer work turn entry actor answer = OtherTurn plan before after locker renamer entry.session

-- a command changes nothing on the server
abbrev pub AskedTurn : PlanData → State → State → ℕ → ℕ → Work → ℕ → Entry → Asked → Type 0
AskedTurn plan before after locker renamer work turn entry (Command word) = after ≡ before
AskedTurn plan before after locker renamer work turn entry asked = WorkTurn plan before after locker renamer work turn entry entry.actor (reported before entry asked)

abbrev pub ToolPhaseTurn : PlanData → State → State → ℕ → ℕ → ToolPhase → ℕ → Entry → Type 0
ToolPhaseTurn plan before after locker renamer (SettingUp setup tries) turn entry = Unit {0}
ToolPhaseTurn plan before after locker renamer (Migrating work) turn entry = AskedTurn plan before after locker renamer work turn entry entry.asked

-- *One entry's premises*
pub record IsTurned (plan : PlanData) (journal : List Entry) (entry : Entry) : Type 0 where
  pub turn : ToolPhaseTurn plan (moment plan journal).server (moment plan (journal ++ entry ∷ [])).server (last_session journal Lock) (last_session journal Ren) (moment plan journal).tool.tool_phase ((moment plan journal).tool.turns + 1) entry

-- *The mark*: what is so before the turn in which the tool's RENAME is done
pub record IsWhole (plan : PlanData) (state : State) (session : ℕ) (work : Work) : Type 0 where
  -- the range is copied
  pub copied : work.copier.is_copied ≡ true
  -- every event of the table is applied, and nothing was committed to it since
  pub within : work.applier.position ≤ length state.log
  pub applied : appliers.events_of plan.table (drop work.applier.position state.log) ≡ []
  -- no batch is open
  pub idle : appliers.starts work.applier ≡ true
  -- nobody else holds a lock on the table
  pub alone : (other : ℕ) → other ≢ session → holds (names_held state.sessions) other plan.table false ≡ false

-- the server's part of it: the RENAME was granted in this state, and the old table's name was free
pub record IsRenamed (plan : PlanData) (state : State) (session : ℕ) : Type 0 where
  pub free : has_table (old_name plan.table) state.tables ≡ false
  pub alone : (other : ℕ) → other ≢ session → holds (names_held state.sessions) other plan.table false ≡ false

abbrev pub WholeIn : PlanData → State → ℕ → ToolPhase → Type 0
WholeIn plan state session (SettingUp setup tries) = ⊥
WholeIn plan state session (Migrating work) = IsWhole plan state session work

abbrev pub MayRename : ToolPhase → Type 0
MayRename (SettingUp setup tries) = ⊥
MayRename (Migrating work) = MayAnswer work.cutover.phase work.cutover.renamer_waits

-- *The statement*: after every journal whose entries are such turns, where the renamer may be answered and the server renames,
-- all of the table is in the new one
abbrev pub RenamesAreWhole : Type 0
RenamesAreWhole = (plan : PlanData) (journal : List Entry) (session : ℕ) → Along (IsTurned plan) [] journal → MayRename (moment plan journal).tool.tool_phase → IsRenamed plan (moment plan journal).server session
    → WholeIn plan (moment plan journal).server session (moment plan journal).tool.tool_phase

-- which calls the locker makes
abbrev pub LockerCalls : List ℕ → Phase → Hold → Request → Type 0
LockerCalls table Resting hold request = request ≡ requests.Create (sentry_schema table)
LockerCalls table (Attempting Locking) hold request = request ≡ requests.LockTables (table ∷ old_name table ∷ [])
LockerCalls table (Attempting Dropping) hold request = request ≡ requests.Drop (old_name table)
LockerCalls table (Attempting Unlocking) hold request = request ≡ requests.Unlock
LockerCalls table (Ending clearing) hold request = (hold ≡ Locks) × (request ≡ requests.Unlock)
LockerCalls table phase hold request = ⊥

-- THE RENAME'S WAIT, on the server and as the tool knows it

abbrev pub renamer_at : PlanData → List Entry → Bool
renamer_at plan journal = waits (moment plan journal).server (live_session journal Ren)

abbrev pub AgreesIn : Bool → ToolPhase → Type 0
AgreesIn does (SettingUp setup tries) = does ≡ false
AgreesIn does (Migrating work) = does ≡ true → work.cutover.renamer_waits ≡ true

-- where the renamer's live session waits on the server, the tool knows that the RENAME waits
pub record Agrees (plan : PlanData) (journal : List Entry) : Type 0 where
  pub tool_phase : AgreesIn (renamer_at plan journal) (moment plan journal).tool.tool_phase

-- what the server gives of it: another actor's turn changes no wait of the renamer's; in its own it waits afterwards only
-- where that was its answer, and a lost session waits no more
pub record WaitsSay (plan : PlanData) (journal : List Entry) (entry : Entry) : Type 0 where
  pub others : same_actor entry.actor Ren ≡ false → renamer_at plan (journal ++ entry ∷ []) ≡ renamer_at plan journal
  pub own : same_actor entry.actor Ren ≡ true → renamer_at plan (journal ++ entry ∷ []) ≡ true → (is_wait entry.answer ≡ true) × (is_cut entry.asked ≡ false)

-- *The statement, with the program*: the renamer's turn that follows the program and in which the server renames
abbrev pub RenamesFollow : Type 0
RenamesFollow = (plan : PlanData) (journal : List Entry) (entry : Entry) (work : Work) → Along (λ before one. IsTurned plan before one × IsFollowed plan before one × WaitsSay plan before one) [] journal → IsFollowed plan journal entry → entry.actor ≡ Ren → is_cut entry.asked ≡ false
    → (moment plan journal).tool.tool_phase ≡ Migrating work → IsRenamed plan (moment plan journal).server entry.session → IsWhole plan (moment plan journal).server entry.session work

-- sessions are numbered from 1
pub record IsNumbered (entry : Entry) : Type 0 where
  pub from : is_command entry.asked ≡ false → entry.session ≢ 0
