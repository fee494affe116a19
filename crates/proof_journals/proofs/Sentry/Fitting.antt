-- The cut-over's parts fit one another: what the locker has and whether the RENAME waits are those of the stage.
use Rattle.std.proofs.Common.{◌≡◌, Bool, true, false, refl, sym, ap, subst, inl, inr}
use Rattle.std.specs.Prelude.{◌⊎◌}
use Rattle.server_model.specs.declared.answer.Answer.TheVariants as answers
use Rattle.proof_journals.specs.Sentry.Sentries.{Fits, LockerMay}
use Rattle.server_model.specs.declared.answer.Answer.{Answer}
use Rattle.tool_program.specs.declared.cutover_core.cutover.Phase.{Phase}
use Rattle.tool_program.specs.declared.cutover_core.cutover.Phase.TheVariants.{Resting, Attempting, Ending, Finishing, Finished}
use Rattle.tool_program.specs.declared.cutover_core.cutover.Stage.TheVariants.{Guarding, Locking, Hinting, ReadingCounter, SettingCounter, Draining, Drained, Showing, Dropping, Unlocking, Exchanging}
use Rattle.tool_program.specs.declared.cutover_core.cutover.Stage.{Stage}
use Rattle.tool_program.specs.declared.cutover_core.cutover.Hold.{Hold}
use Rattle.tool_program.specs.declared.cutover_core.cutover.Hold.TheVariants.{Nothing, WaitsToGuard, WaitsToLock, Locks}
use Rattle.tool_program.specs.declared.cutover_core.cutover.Clearing.TheVariants.{Looking, Drops}
use Rattle.tool_program.specs.declared.cutover_core.cutover.Clearing.{Clearing}
use Rattle.tool_program.specs.CutoverCore.CutOvers.{locker_phase, hold_after, hold_of_lock, hold_of_guard, ended}

-- in an attempt's end the locker has nothing, or the lock
pub ends_with : (hold has : Hold) (waits : Bool) → hold ≡ has → Fits (Ending Looking) has waits → Fits (Ending Looking) hold waits
ends_with hold has waits is fits = subst (λ h. Fits (Ending Looking) h waits) (sym is) fits

begins : (waits : Bool) (answer : Answer) → waits ≡ false → Fits (locker_phase Resting answer) (hold_of_guard answer) waits
begins waits (answers.Ok count) quiet = (inl refl, quiet)
begins waits (answers.Waits by) quiet = (inr refl, quiet)
begins waits answer quiet = tt

guards : (waits : Bool) (answer : Answer) → waits ≡ false → Fits (locker_phase (Attempting Guarding) answer) (hold_of_guard answer) waits
guards waits (answers.Ok count) quiet = (inl refl, quiet)
guards waits (answers.Waits by) quiet = (inr refl, quiet)
guards waits answers.Lost quiet = tt
guards waits (answers.TimedOut waited) quiet = tt
guards waits answer quiet = (inl refl, quiet)

locks : (waits : Bool) (answer : Answer) → waits ≡ false → Fits (locker_phase (Attempting Locking) answer) (hold_of_lock answer) waits
locks waits (answers.Ok count) quiet = (refl, quiet)
locks waits (answers.Waits by) quiet = (inr refl, quiet)
locks waits answers.Lost quiet = tt
locks waits (answers.TimedOut waited) quiet = tt
locks waits answer quiet = (inl refl, quiet)

drops : (waits : Bool) (answer : Answer) → waits ≡ true → Fits (locker_phase (Attempting Dropping) answer) (hold_after Locks (Attempting Dropping) answer) waits
drops waits (answers.Ok count) so = (refl, so)
drops waits answers.Lost so = tt
drops waits (answers.TimedOut waited) so = tt
drops waits answer so = (refl, so)

pub locks_one : (hold : Hold) (answer : Answer) → (hold ≡ Nothing) ⊎ (hold ≡ WaitsToLock) → hold_after hold (Attempting Locking) answer ≡ hold_of_lock answer
locks_one hold answer (inl is) = ap (λ h. hold_after h (Attempting Locking) answer) is
locks_one hold answer (inr is) = ap (λ h. hold_after h (Attempting Locking) answer) is

pub guards_one : (hold : Hold) (answer : Answer) → (hold ≡ Nothing) ⊎ (hold ≡ WaitsToGuard) → hold_after hold (Attempting Guarding) answer ≡ hold_of_guard answer
guards_one hold answer (inl is) = ap (λ h. hold_after h (Attempting Guarding) answer) is
guards_one hold answer (inr is) = ap (λ h. hold_after h (Attempting Guarding) answer) is

with_hold : (phase : Phase) (hold has : Hold) (waits : Bool) → hold ≡ has → Fits phase has waits → Fits phase hold waits
with_hold phase hold has waits is fits = subst (λ h. Fits phase h waits) (sym is) fits

-- lost in any stage
loses : (stage : Stage) (hold : Hold) (waits : Bool) (answer : Answer) → answer ≡ answers.Lost → hold_after hold (Attempting stage) answers.Lost ≡ Nothing → Fits (locker_phase (Attempting stage) answer) (hold_after hold (Attempting stage) answer) waits
loses stage hold waits answer is none =
    subst (λ a. Fits (locker_phase (Attempting stage) a) (hold_after hold (Attempting stage) a) waits) (sym is) (with_hold (Ending Looking) (hold_after hold (Attempting stage) answers.Lost) Nothing waits none tt)

-- the locker's answer keeps the fit
pub locker_fits : (phase : Phase) (hold : Hold) (waits : Bool) (answer : Answer) → Fits phase hold waits → LockerMay phase hold answer → Fits (locker_phase phase answer) (hold_after hold phase answer) waits
locker_fits Resting hold waits answer fits may = with_hold (locker_phase Resting answer) (hold_after hold Resting answer) (hold_of_guard answer) waits (ap (λ h. hold_after h Resting answer) fits.0) (begins waits answer fits.1)
locker_fits (Attempting Guarding) hold waits answer fits may = with_hold (locker_phase (Attempting Guarding) answer) (hold_after hold (Attempting Guarding) answer) (hold_of_guard answer) waits (guards_one hold answer fits.0) (guards waits answer fits.1)
locker_fits (Attempting Locking) hold waits answer fits may = with_hold (locker_phase (Attempting Locking) answer) (hold_after hold (Attempting Locking) answer) (hold_of_lock answer) waits (locks_one hold answer fits.0) (locks waits answer fits.1)
locker_fits (Attempting Dropping) hold waits answer fits may = with_hold (locker_phase (Attempting Dropping) answer) (hold_after hold (Attempting Dropping) answer) (hold_after Locks (Attempting Dropping) answer) waits (ap (λ h. hold_after h (Attempting Dropping) answer) fits.0) (drops waits answer fits.1)
locker_fits (Attempting Unlocking) hold waits (answers.Ok count) fits may = ap (λ h. hold_after h (Attempting Unlocking) (answers.Ok count)) fits.0
locker_fits (Attempting Unlocking) hold waits answers.Lost fits may = loses Unlocking hold waits answers.Lost refl (ap (λ h. hold_after h (Attempting Unlocking) answers.Lost) fits.0)
locker_fits (Attempting Unlocking) hold waits answer fits may = absurd may
locker_fits (Attempting Hinting) hold waits answer fits may = loses Hinting hold waits answer may (ap (λ h. hold_after h (Attempting Hinting) answers.Lost) fits.0)
locker_fits (Attempting (Draining turns)) hold waits answer fits may = loses (Draining turns) hold waits answer may (ap (λ h. hold_after h (Attempting (Draining turns)) answers.Lost) fits.0)
locker_fits (Attempting (ReadingCounter drain)) hold waits answer fits may = loses (ReadingCounter drain) hold waits answer may (ap (λ h. hold_after h (Attempting (ReadingCounter drain)) answers.Lost) fits.0)
locker_fits (Attempting (SettingCounter number drain)) hold waits answer fits may = loses (SettingCounter number drain) hold waits answer may (ap (λ h. hold_after h (Attempting (SettingCounter number drain)) answers.Lost) fits.0)
locker_fits (Attempting Drained) hold waits answer fits may = loses Drained hold waits answer may (ap (λ h. hold_after h (Attempting Drained) answers.Lost) fits.0)
locker_fits (Attempting Showing) hold waits answer fits may = loses Showing hold waits answer may (ap (λ h. hold_after h (Attempting Showing) answers.Lost) fits.0)
locker_fits (Attempting Exchanging) hold waits answer fits may = loses Exchanging hold waits answer may (ap (λ h. hold_after h (Attempting Exchanging) answers.Lost) fits)
locker_fits (Ending (Drops left)) hold waits answer fits may = (subst (λ h. LockerMay (Ending (Drops left)) h answer → hold_after h (Ending (Drops left)) answer ≡ Nothing) (sym fits.0) (λ is. ap hold_of_guard is) may, fits.1)
locker_fits (Ending Looking) Nothing waits answer fits may = subst (λ a. Fits (Ending Looking) (hold_of_guard a) waits) (sym may) tt
locker_fits (Ending Looking) Locks waits answer fits may = tt
locker_fits (Ending Looking) WaitsToGuard waits (answers.Waits by) fits may = fits
locker_fits (Ending Looking) WaitsToGuard waits answer fits may = tt
locker_fits (Ending Looking) WaitsToLock waits (answers.Waits by) fits may = fits
locker_fits (Ending Looking) WaitsToLock waits (answers.Ok count) fits may = tt
locker_fits (Ending Looking) WaitsToLock waits answer fits may = tt
locker_fits (Finishing clearing) hold waits answer fits may = fits
locker_fits Finished hold waits answer fits may = fits

-- a revert keeps the fit
pub revert_fits : (phase : Phase) (hold : Hold) (waits : Bool) → Fits phase hold waits → Fits (ended phase) hold waits
revert_fits (Attempting Unlocking) hold waits fits = fits
revert_fits (Attempting Exchanging) hold waits fits = fits
revert_fits (Attempting Guarding) hold waits fits = ends fits.0 fits.1
  where
    ends : (hold ≡ Nothing) ⊎ (hold ≡ WaitsToGuard) → waits ≡ false → Fits (Ending Looking) hold waits
    ends (inl is) quiet = ends_with hold Nothing waits is tt
    ends (inr is) quiet = ends_with hold WaitsToGuard waits is quiet
revert_fits (Attempting Locking) hold waits fits = ends fits.0 fits.1
  where
    ends : (hold ≡ Nothing) ⊎ (hold ≡ WaitsToLock) → waits ≡ false → Fits (Ending Looking) hold waits
    ends (inl is) quiet = ends_with hold Nothing waits is tt
    ends (inr is) quiet = ends_with hold WaitsToLock waits is quiet
revert_fits (Attempting Hinting) hold waits fits = ends_with hold Locks waits fits.0 tt
revert_fits (Attempting (Draining turns)) hold waits fits = ends_with hold Locks waits fits.0 tt
revert_fits (Attempting (ReadingCounter drain)) hold waits fits = ends_with hold Locks waits fits.0 tt
revert_fits (Attempting (SettingCounter number drain)) hold waits fits = ends_with hold Locks waits fits.0 tt
revert_fits (Attempting Drained) hold waits fits = ends_with hold Locks waits fits.0 tt
revert_fits (Attempting Showing) hold waits fits = ends_with hold Locks waits fits.0 tt
revert_fits (Attempting Dropping) hold waits fits = ends_with hold Locks waits fits.0 tt
revert_fits Resting hold waits fits = fits
revert_fits (Ending clearing) hold waits fits = fits
revert_fits (Finishing clearing) hold waits fits = fits
revert_fits Finished hold waits fits = fits

-- the same for any attempt that fails by the inspector, the drain or the renamer
pub failed_fits : (stage : Stage) (hold : Hold) (waits : Bool) → Fits (Attempting stage) hold waits → Fits (Ending Looking) hold waits
failed_fits Guarding hold waits fits = revert_fits (Attempting Guarding) hold waits fits
failed_fits Locking hold waits fits = revert_fits (Attempting Locking) hold waits fits
failed_fits Hinting hold waits fits = ends_with hold Locks waits fits.0 tt
failed_fits (Draining turns) hold waits fits = ends_with hold Locks waits fits.0 tt
failed_fits (ReadingCounter drain) hold waits fits = ends_with hold Locks waits fits.0 tt
failed_fits (SettingCounter number drain) hold waits fits = ends_with hold Locks waits fits.0 tt
failed_fits Drained hold waits fits = ends_with hold Locks waits fits.0 tt
failed_fits Showing hold waits fits = ends_with hold Locks waits fits.0 tt
failed_fits Dropping hold waits fits = ends_with hold Locks waits fits.0 tt
failed_fits Unlocking hold waits fits = ends_with hold Locks waits fits.0 tt
failed_fits Exchanging hold waits fits = ends_with hold Nothing waits fits tt

-- once no RENAME waits
pub none_fits : (hold : Hold) (waits : Bool) → Fits (Ending Looking) hold waits → Fits (Ending Looking) hold false
none_fits Nothing waits fits = tt
none_fits Locks waits fits = tt
none_fits WaitsToGuard waits fits = refl
none_fits WaitsToLock waits fits = refl

pub looking_fits : (clearing : Clearing) (hold : Hold) (waits : Bool) → Fits (Ending clearing) hold waits → Fits (Ending Looking) hold waits
looking_fits Looking hold waits fits = fits
looking_fits (Drops left) hold waits fits = ends_with hold Nothing waits fits.0 tt
