-- What the cut-over keeps of the locker and the renamer is what their sessions have.
use Rattle.std.proofs.Common.{◌≡◌, ◌≢◌, ℕ, ◌+◌, ◌==◌, Bool, true, false, cond, not, List, [], Option, None, refl, sym, ap, subst, inl, inr, Some, arith}
use Rattle.std.specs.Prelude.{nat_le}
use Rattle.std.proofs.lemmas.Bool.{eqb-true}
use Rattle.std.proofs.lemmas.Bool.Decides.{nat_tests}
use Rattle.server_model.specs.declared.answer.Answer.{Answer}
use Rattle.server_model.specs.declared.answer.Answer.TheVariants as answers
use Rattle.server_model.specs.declared.listing.TableName.{TableName}
use Rattle.server_model.specs.declared.request.Request.{Request}
use Rattle.server_model.specs.declared.request.Request.TheVariants as requests
use Rattle.base_values.specs.ToolNames.{ghost_name, old_name}
use Rattle.tool_changelog.specs.ToolTables.{sentry_schema}
use Rattle.tool_program.specs.declared.cutover_core.cutover.Clearing.{Clearing}
use Rattle.tool_program.specs.declared.cutover_core.cutover.Clearing.TheVariants.{Looking, Drops}
use Rattle.tool_program.specs.declared.cutover_core.cutover.CutOver.{CutOver}
use Rattle.tool_program.specs.declared.cutover_core.cutover.Hold.{Hold}
use Rattle.tool_program.specs.declared.cutover_core.cutover.Hold.TheVariants.{Nothing, WaitsToGuard, WaitsToLock, Locks}
use Rattle.tool_program.specs.declared.cutover_core.cutover.Leftovers.{Leftovers}
use Rattle.tool_program.specs.declared.cutover_core.cutover.Phase.{Phase}
use Rattle.tool_program.specs.declared.cutover_core.cutover.Phase.TheVariants.{Resting, Attempting, Ending, Finishing, Finished}
use Rattle.tool_program.specs.declared.cutover_core.cutover.Stage.{Stage}
use Rattle.tool_program.specs.declared.cutover_core.cutover.Stage.TheVariants.{Guarding, Locking, Hinting, ReadingCounter, SettingCounter, Draining, Drained, Showing, Dropping, Unlocking, Exchanging}
use Rattle.tool_program.specs.declared.cutover_core.cutover.Drain.TheVariants.{Turns, Passed}
use Rattle.tool_program.specs.CutoverCore.Attempts.{exchange, is_clear, has_name, has_sentry, without_first}
use Rattle.tool_program.specs.CutoverCore.CutOvers.{locker_phase, hold_of_guard, hold_of_lock, hold_after, is_wait, renamer_phase, shows_wait, seen, finishing, left_at_end, sentry_alone, inspector_phase, drained, ended, with_drain, drains_to}
use Rattle.proof_journals.specs.Machine.Standings.{Standing, free, answered, answers_to}
use Rattle.proof_journals.specs.Machine.Machines.{both_names, held, PhaseHolds, renaming}
use Rattle.proof_journals.proofs.Machine.Fitting.{IsPrompt}

-- THE LOCKER

pub record LockerStands (table : List ℕ) (at : Phase) (hold : Hold) (standing : Standing) : Type 0 where
  pub stands : standing ≡ held table hold
  pub phase : PhaseHolds at hold

-- what it asks, by what it has and by the phase
abbrev pub LockerAsks : List ℕ → Hold → Phase → Request → Type 0
LockerAsks table Nothing Resting request = request ≡ requests.Create (sentry_schema table)
LockerAsks table Nothing (Attempting Locking) request = request ≡ requests.LockTables (both_names table)
LockerAsks table Nothing phase request = ⊥
LockerAsks table WaitsToGuard phase request = request ≡ requests.Create (sentry_schema table)
LockerAsks table WaitsToLock phase request = request ≡ requests.LockTables (both_names table)
LockerAsks table Locks (Attempting Dropping) request = request ≡ requests.Drop (old_name table)
LockerAsks table Locks (Attempting Unlocking) request = request ≡ requests.Unlock
LockerAsks table Locks (Ending clearing) request = request ≡ requests.Unlock
LockerAsks table Locks phase request = ⊥

-- the locker without a lock, with what waits
abbrev unlocked : Option Request → Standing
unlocked waits = record { busy = false; locked = []; waits = waits }

guard_has : (table : List ℕ) (waits : Option Request) (answer : Answer) → answered (requests.Create (sentry_schema table)) answer (unlocked waits) ≡ held table (hold_of_guard answer)
guard_has table waits answers.Lost = refl
guard_has table waits (answers.TimedOut waited) = refl
guard_has table waits (answers.Waits by) = refl
guard_has table waits answer = refl

lock_has : (table : List ℕ) (waits : Option Request) (answer : Answer) → answered (requests.LockTables (both_names table)) answer (unlocked waits) ≡ held table (hold_of_lock answer)
lock_has table waits answers.Lost = refl
lock_has table waits (answers.TimedOut waited) = refl
lock_has table waits (answers.Waits by) = refl
lock_has table waits (answers.Ok count) = refl
lock_has table waits answer = refl

begun_holds : (answer : Answer) → PhaseHolds (locker_phase Resting answer) (hold_of_guard answer)
begun_holds (answers.Ok count) = inl refl
begun_holds (answers.Waits by) = inr refl
begun_holds answer = tt

guarding_holds : (answer : Answer) → PhaseHolds (locker_phase (Attempting Guarding) answer) (hold_of_guard answer)
guarding_holds (answers.Ok count) = inl refl
guarding_holds (answers.Waits by) = inr refl
guarding_holds answers.Lost = tt
guarding_holds (answers.TimedOut waited) = tt
guarding_holds answer = inl refl

locking_holds : (answer : Answer) → PhaseHolds (locker_phase (Attempting Locking) answer) (hold_of_lock answer)
locking_holds (answers.Ok count) = refl
locking_holds (answers.Waits by) = inr refl
locking_holds answers.Lost = tt
locking_holds (answers.TimedOut waited) = tt
locking_holds answer = inl refl

-- a wait for the sentry stands in these phases alone
guard_phase : (phase : Phase) (answer : Answer) → PhaseHolds phase WaitsToGuard → PhaseHolds (locker_phase phase answer) (hold_of_guard answer)
guard_phase (Attempting Guarding) answer at = guarding_holds answer
guard_phase (Ending Looking) answer at = tt
guard_phase (Finishing clearing) answer at = tt
guard_phase Finished answer at = tt
guard_phase Resting answer at = absurd (let no : WaitsToGuard ≡ Nothing = at in cc)
guard_phase (Attempting Locking) answer (inl at) = absurd cc
guard_phase (Attempting Locking) answer (inr at) = absurd cc
guard_phase (Attempting Hinting) answer at = absurd (let no : WaitsToGuard ≡ Locks = at in cc)
guard_phase (Attempting (Draining turns)) answer at = absurd (let no : WaitsToGuard ≡ Locks = at in cc)
guard_phase (Attempting (ReadingCounter drain)) answer at = absurd (let no : WaitsToGuard ≡ Locks = at in cc)
guard_phase (Attempting (SettingCounter number drain)) answer at = absurd (let no : WaitsToGuard ≡ Locks = at in cc)
guard_phase (Attempting Drained) answer at = absurd (let no : WaitsToGuard ≡ Locks = at in cc)
guard_phase (Attempting Showing) answer at = absurd (let no : WaitsToGuard ≡ Locks = at in cc)
guard_phase (Attempting Dropping) answer at = absurd (let no : WaitsToGuard ≡ Locks = at in cc)
guard_phase (Attempting Unlocking) answer at = absurd (let no : WaitsToGuard ≡ Locks = at in cc)
guard_phase (Attempting Exchanging) answer at = absurd (let no : WaitsToGuard ≡ Nothing = at in cc)
guard_phase (Ending (Drops left)) answer at = absurd (let no : WaitsToGuard ≡ Nothing = at in cc)

lock_phase : (phase : Phase) (answer : Answer) → PhaseHolds phase WaitsToLock → PhaseHolds (locker_phase phase answer) (hold_of_lock answer)
lock_phase (Attempting Locking) answer at = locking_holds answer
lock_phase (Ending Looking) answer at = tt
lock_phase (Finishing clearing) answer at = tt
lock_phase Finished answer at = tt
lock_phase Resting answer at = absurd (let no : WaitsToLock ≡ Nothing = at in cc)
lock_phase (Attempting Guarding) answer (inl at) = absurd cc
lock_phase (Attempting Guarding) answer (inr at) = absurd cc
lock_phase (Attempting Hinting) answer at = absurd (let no : WaitsToLock ≡ Locks = at in cc)
lock_phase (Attempting (Draining turns)) answer at = absurd (let no : WaitsToLock ≡ Locks = at in cc)
lock_phase (Attempting (ReadingCounter drain)) answer at = absurd (let no : WaitsToLock ≡ Locks = at in cc)
lock_phase (Attempting (SettingCounter number drain)) answer at = absurd (let no : WaitsToLock ≡ Locks = at in cc)
lock_phase (Attempting Drained) answer at = absurd (let no : WaitsToLock ≡ Locks = at in cc)
lock_phase (Attempting Showing) answer at = absurd (let no : WaitsToLock ≡ Locks = at in cc)
lock_phase (Attempting Dropping) answer at = absurd (let no : WaitsToLock ≡ Locks = at in cc)
lock_phase (Attempting Unlocking) answer at = absurd (let no : WaitsToLock ≡ Locks = at in cc)
lock_phase (Attempting Exchanging) answer at = absurd (let no : WaitsToLock ≡ Nothing = at in cc)
lock_phase (Ending (Drops left)) answer at = absurd (let no : WaitsToLock ≡ Nothing = at in cc)

-- the sentry is dropped at once, under the lock
drops : (table : List ℕ) (answer : Answer) → IsPrompt answer → LockerStands table (locker_phase (Attempting Dropping) answer) (hold_after Locks (Attempting Dropping) answer) (answered (requests.Drop (old_name table)) answer (held table Locks))
drops table (answers.Ok count) prompt = record { stands = refl; phase = refl }
drops table answers.Lost prompt = record { stands = refl; phase = tt }
drops table (answers.TimedOut waited) prompt = absurd prompt
drops table (answers.Waits by) prompt = absurd prompt
drops table answer prompt = record { stands = refl; phase = refl }

-- UNLOCK TABLES is done, or its session lost
unlocks : (table : List ℕ) (answer : Answer) → answers_to requests.Unlock answer ≡ true → LockerStands table (locker_phase (Attempting Unlocking) answer) (hold_after Locks (Attempting Unlocking) answer) (answered requests.Unlock answer (held table Locks))
unlocks table (answers.Ok count) fits = record { stands = refl; phase = refl }
unlocks table answers.Lost fits = record { stands = refl; phase = tt }
unlocks table answer fits = absurd cc

frees : (table : List ℕ) (clearing : Clearing) (answer : Answer) → PhaseHolds (Ending clearing) Locks → answers_to requests.Unlock answer ≡ true
    → LockerStands table (locker_phase (Ending clearing) answer) (hold_after Locks (Ending clearing) answer) (answered requests.Unlock answer (held table Locks))
frees table Looking (answers.Ok count) at fits = record { stands = refl; phase = tt }
frees table Looking answers.Lost at fits = record { stands = refl; phase = tt }
frees table (Drops left) answer at fits = absurd (let no : Locks ≡ Nothing = at in cc)
frees table Looking answer at fits = absurd cc

-- *The locker's answer*
pub locker_stands : (table : List ℕ) (hold : Hold) (phase : Phase) (request : Request) (answer : Answer) → PhaseHolds phase hold → LockerAsks table hold phase request → answers_to request answer ≡ true → (request ≡ requests.Drop (old_name table) → IsPrompt answer)
    → LockerStands table (locker_phase phase answer) (hold_after hold phase answer) (answered request answer (held table hold))
locker_stands table hold phase request answer at asks fits prompt = by hold phase at asks where
  Goal : Hold → Phase → Request → Type 0
  Goal hold phase request = LockerStands table (locker_phase phase answer) (hold_after hold phase answer) (answered request answer (held table hold))

  one_of : (hold : Hold) (phase : Phase) (one : Request) → request ≡ one → Goal hold phase one → Goal hold phase request
  one_of hold phase one same goal = subst (Goal hold phase) (sym same) goal

  by : (hold : Hold) (phase : Phase) → PhaseHolds phase hold → LockerAsks table hold phase request → Goal hold phase request
  by Nothing Resting at asks = one_of Nothing Resting _ asks (record { stands = guard_has table None answer; phase = begun_holds answer })
  by Nothing (Attempting Locking) at asks = one_of Nothing (Attempting Locking) _ asks (record { stands = lock_has table None answer; phase = locking_holds answer })
  by Nothing phase at asks = absurd asks
  by WaitsToGuard phase at asks = one_of WaitsToGuard phase _ asks (record { stands = guard_has table _ answer; phase = guard_phase phase answer at })
  by WaitsToLock phase at asks = one_of WaitsToLock phase _ asks (record { stands = lock_has table _ answer; phase = lock_phase phase answer at })
  by Locks (Attempting Dropping) at asks = one_of Locks (Attempting Dropping) _ asks (drops table answer (prompt asks))
  by Locks (Attempting Unlocking) at asks = one_of Locks (Attempting Unlocking) _ asks (unlocks table answer (subst (λ (r : Request). answers_to r answer ≡ true) asks fits))
  by Locks (Ending clearing) at asks = one_of Locks (Ending clearing) _ asks (frees table clearing answer at (subst (λ (r : Request). answers_to r answer ≡ true) asks fits))
  by Locks phase at asks = absurd asks

-- a lost locker holds nothing
pub lost_nothing : (hold : Hold) (phase : Phase) → hold_after hold phase answers.Lost ≡ Nothing
lost_nothing WaitsToGuard phase = refl
lost_nothing WaitsToLock phase = refl
lost_nothing Nothing (Attempting Locking) = refl
lost_nothing Nothing phase = refl
lost_nothing Locks (Attempting Dropping) = refl
lost_nothing Locks phase = refl

-- *The locker's session is lost*
pub locker_lost : (table : List ℕ) (hold : Hold) (phase : Phase) → PhaseHolds phase hold → LockerStands table (locker_phase phase answers.Lost) (hold_after hold phase answers.Lost) free
locker_lost table hold phase at = record { stands = ap (held table) (sym (lost_nothing hold phase)); phase = subst (PhaseHolds (locker_phase phase answers.Lost)) (sym (lost_nothing hold phase)) (rests phase) } where
  rests : (phase : Phase) → PhaseHolds (locker_phase phase answers.Lost) Nothing
  rests Resting = tt
  rests (Attempting stage) = tt
  rests (Ending Looking) = tt
  rests (Ending (Drops left)) = refl
  rests (Finishing clearing) = tt
  rests Finished = tt

-- OTHERS' TURNS

-- a revert
pub ended_holds : (phase : Phase) (hold : Hold) → PhaseHolds phase hold → PhaseHolds (ended phase) hold
ended_holds (Attempting Unlocking) hold at = at
ended_holds (Attempting Exchanging) hold at = at
ended_holds (Attempting Guarding) hold at = tt
ended_holds (Attempting Locking) hold at = tt
ended_holds (Attempting Hinting) hold at = tt
ended_holds (Attempting (Draining turns)) hold at = tt
ended_holds (Attempting (ReadingCounter drain)) hold at = tt
ended_holds (Attempting (SettingCounter number drain)) hold at = tt
ended_holds (Attempting Drained) hold at = tt
ended_holds (Attempting Showing) hold at = tt
ended_holds (Attempting Dropping) hold at = tt
ended_holds Resting hold at = at
ended_holds (Ending clearing) hold at = at
ended_holds (Finishing clearing) hold at = at
ended_holds Finished hold at = at

-- what holds where the applier is past the attempt's hint row, where the attempt fails, and where the applier has one turn more
pub drain_cases_off : (P : Phase → Type 0) (cutover : CutOver) (hint turns : ℕ) (stage : Stage) → (hint ≡ cutover.attempts → P (Attempting (with_drain stage Passed))) → P (Ending Looking) → (hint ≢ cutover.attempts → P (Attempting (with_drain stage (Turns (turns + 1))))) → P (drains_to cutover hint stage (Some (Turns turns)))
drain_cases_off P cutover hint turns stage passed failed more = by (hint == cutover.attempts) refl (nat_le cutover.drain_limit (turns + 1)) where
  by : (b : Bool) → (hint == cutover.attempts) ≡ b → (c : Bool) → P (cond b (Attempting (with_drain stage Passed)) (cond c (Ending Looking) (Attempting (with_drain stage (Turns (turns + 1))))))
  by true same late = passed (eqb-true hint cutover.attempts same)
  by false same true = failed
  by false same false = more (λ one. absurd (grind (arith, nat_tests, same, one)))

pub drain_cases : (P : Phase → Type 0) (cutover : CutOver) (hint turns : ℕ) (stage : Stage) → (hint ≡ cutover.attempts → P (Attempting (with_drain stage Passed))) → P (Ending Looking) → P (Attempting (with_drain stage (Turns (turns + 1)))) → P (drains_to cutover hint stage (Some (Turns turns)))
drain_cases P cutover hint turns stage passed failed more = drain_cases_off P cutover hint turns stage passed failed (λ other. more)

-- an applier's turn
pub drained_holds : (cutover : CutOver) (hint : ℕ) (phase : Phase) (hold : Hold) → PhaseHolds phase hold → PhaseHolds (drained cutover hint phase) hold
drained_holds cutover hint (Attempting (Draining turns)) hold at = by (hint == cutover.attempts) (nat_le cutover.drain_limit (turns + 1)) where
  by : (passed late : Bool) → PhaseHolds (cond passed (Attempting Drained) (cond late (Ending Looking) (Attempting (Draining (turns + 1))))) hold
  by true late = at
  by false true = tt
  by false false = at
drained_holds cutover hint (Attempting (ReadingCounter (Turns turns))) hold at = drain_cases (λ (p : Phase). PhaseHolds p hold) cutover hint turns (ReadingCounter (Turns turns)) (λ same. at) tt at
drained_holds cutover hint (Attempting (SettingCounter number (Turns turns))) hold at = drain_cases (λ (p : Phase). PhaseHolds p hold) cutover hint turns (SettingCounter number (Turns turns)) (λ same. at) tt at
drained_holds cutover hint (Attempting Guarding) hold at = at
drained_holds cutover hint (Attempting Locking) hold at = at
drained_holds cutover hint (Attempting Hinting) hold at = at
drained_holds cutover hint (Attempting Drained) hold at = at
drained_holds cutover hint (Attempting (ReadingCounter Passed)) hold at = at
drained_holds cutover hint (Attempting (SettingCounter number Passed)) hold at = at
drained_holds cutover hint (Attempting Showing) hold at = at
drained_holds cutover hint (Attempting Dropping) hold at = at
drained_holds cutover hint (Attempting Unlocking) hold at = at
drained_holds cutover hint (Attempting Exchanging) hold at = at
drained_holds cutover hint Resting hold at = at
drained_holds cutover hint (Ending clearing) hold at = at
drained_holds cutover hint (Finishing clearing) hold at = at
drained_holds cutover hint Finished hold at = at

-- the renamer's answer
failed_holds : (phase : Phase) (hold : Hold) → PhaseHolds phase hold → PhaseHolds (Rattle.tool_program.specs.CutoverCore.CutOvers.failed phase) hold
failed_holds (Attempting stage) hold at = tt
failed_holds Resting hold at = at
failed_holds (Ending clearing) hold at = at
failed_holds (Finishing clearing) hold at = at
failed_holds Finished hold at = at

waiting_holds : (phase : Phase) (hold : Hold) → PhaseHolds phase hold → PhaseHolds (Rattle.tool_program.specs.CutoverCore.CutOvers.waits_phase phase) hold
waiting_holds (Attempting Drained) hold at = at
waiting_holds (Attempting Guarding) hold at = at
waiting_holds (Attempting Locking) hold at = at
waiting_holds (Attempting Hinting) hold at = at
waiting_holds (Attempting (Draining turns)) hold at = at
waiting_holds (Attempting (ReadingCounter drain)) hold at = at
waiting_holds (Attempting (SettingCounter number drain)) hold at = at
waiting_holds (Attempting Showing) hold at = at
waiting_holds (Attempting Dropping) hold at = at
waiting_holds (Attempting Unlocking) hold at = at
waiting_holds (Attempting Exchanging) hold at = at
waiting_holds Resting hold at = at
waiting_holds (Ending clearing) hold at = at
waiting_holds (Finishing clearing) hold at = at
waiting_holds Finished hold at = at

pub renamer_holds : (phase : Phase) (hold : Hold) (answer : Answer) → PhaseHolds phase hold → PhaseHolds (renamer_phase phase answer) hold
renamer_holds phase hold (answers.Ok count) at = tt
renamer_holds phase hold (answers.Waits by) at = waiting_holds phase hold at
renamer_holds phase hold answers.Lost at = failed_holds phase hold at
renamer_holds phase hold (answers.TimedOut waited) at = failed_holds phase hold at
renamer_holds phase hold answer at = at

-- ... and its session
pub renamer_has : (table : List ℕ) (waits : Bool) (answer : Answer) → answered (exchange table) answer (renaming table waits) ≡ renaming table (is_wait answer)
renamer_has table true answers.Lost = refl
renamer_has table true (answers.TimedOut waited) = refl
renamer_has table true (answers.Waits by) = refl
renamer_has table true answer = refl
renamer_has table false answers.Lost = refl
renamer_has table false (answers.TimedOut waited) = refl
renamer_has table false (answers.Waits by) = refl
renamer_has table false answer = refl

-- the inspector's answer: a listing of the tables in an attempt's end comes where the locker has nothing
abbrev pub ListsFree : Phase → Hold → Answer → Type 0
ListsFree (Ending clearing) hold (answers.Tables tables) = hold ≡ Nothing
ListsFree phase hold answer = Unit {0}

finishing_holds : (left : Leftovers) (hold : Hold) → PhaseHolds (finishing left) hold
finishing_holds left hold = by (is_clear left) where
  by : (b : Bool) → PhaseHolds (cond b Finished (Finishing (Drops left))) hold
  by true = tt
  by false = tt

seen_holds : (cutover : CutOver) (tables : List TableName) (hold : Hold) → hold ≡ Nothing → PhaseHolds (seen cutover tables) hold
seen_holds cutover tables hold none = by (not (has_name (ghost_name cutover.table) tables)) (has_sentry cutover.table tables) where
  by : (a b : Bool) → PhaseHolds (cond a (finishing (left_at_end cutover tables)) (cond b (Ending (Drops sentry_alone)) Resting)) hold
  by true b = finishing_holds (left_at_end cutover tables) hold
  by false true = none
  by false false = none

hinted_holds : (counter : Bool) (hold : Hold) → hold ≡ Locks → PhaseHolds (Attempting (Rattle.tool_program.specs.CutoverCore.CutOvers.hinted counter)) hold
hinted_holds true hold at = at
hinted_holds false hold at = at

stage_holds : (counter : Bool) (stage : Stage) (hold : Hold) (answer : Answer) → PhaseHolds (Attempting stage) hold → PhaseHolds (cond (Rattle.tool_program.specs.CutoverCore.CutOvers.is_bad answer) (Ending Looking) (Attempting (Rattle.tool_program.specs.CutoverCore.CutOvers.inspector_stage counter stage answer))) hold
stage_holds counter stage hold answers.Lost at = tt
stage_holds counter stage hold (answers.TimedOut waited) at = tt
stage_holds counter Hinting hold (answers.Ok count) at = hinted_holds counter hold at
stage_holds counter (ReadingCounter drain) hold (answers.At number) at = at
stage_holds counter (SettingCounter number (Turns turns)) hold (answers.Ok count) at = at
stage_holds counter (SettingCounter number Passed) hold (answers.Ok count) at = at
stage_holds counter Showing hold (answers.Waiting waiters) at = by (shows_wait waiters) where
  by : (b : Bool) → PhaseHolds (Attempting (cond b Dropping Showing)) hold
  by true = at
  by false = at
stage_holds counter Guarding hold answer at = at
stage_holds counter Locking hold answer at = at
stage_holds counter Hinting hold answer at = at
stage_holds counter (Draining looked) hold answer at = at
stage_holds counter (ReadingCounter drain) hold answer at = at
stage_holds counter (SettingCounter number drain) hold answer at = at
stage_holds counter Drained hold answer at = at
stage_holds counter Showing hold answer at = at
stage_holds counter Dropping hold answer at = at
stage_holds counter Unlocking hold answer at = at
stage_holds counter Exchanging hold answer at = at

pub inspector_holds : (cutover : CutOver) (phase : Phase) (hold : Hold) (answer : Answer) → PhaseHolds phase hold → ListsFree phase hold answer → PhaseHolds (inspector_phase cutover phase answer) hold
inspector_holds cutover (Attempting stage) hold answer at may = stage_holds cutover.has_counter stage hold answer at
inspector_holds cutover (Ending Looking) hold answers.Lost at may = tt
inspector_holds cutover (Ending Looking) hold (answers.TimedOut waited) at may = tt
inspector_holds cutover (Ending Looking) hold (answers.Tables tables) at may = seen_holds cutover tables hold may
inspector_holds cutover (Ending Looking) hold answer at may = tt
inspector_holds cutover (Ending (Drops left)) hold answers.Lost at may = tt
inspector_holds cutover (Ending (Drops left)) hold (answers.TimedOut waited) at may = tt
inspector_holds cutover (Ending (Drops left)) hold (answers.Ok count) at may = at
inspector_holds cutover (Ending (Drops left)) hold answer at may = at
inspector_holds cutover (Finishing Looking) hold answers.Lost at may = tt
inspector_holds cutover (Finishing Looking) hold (answers.TimedOut waited) at may = tt
inspector_holds cutover (Finishing Looking) hold (answers.Tables tables) at may = finishing_holds (left_at_end cutover tables) hold
inspector_holds cutover (Finishing Looking) hold answer at may = tt
inspector_holds cutover (Finishing (Drops left)) hold answers.Lost at may = tt
inspector_holds cutover (Finishing (Drops left)) hold (answers.TimedOut waited) at may = tt
inspector_holds cutover (Finishing (Drops left)) hold (answers.Ok count) at may = finishing_holds (without_first left) hold
inspector_holds cutover (Finishing (Drops left)) hold answer at may = tt
inspector_holds cutover Resting hold answer at may = at
inspector_holds cutover Finished hold answer at may = at
