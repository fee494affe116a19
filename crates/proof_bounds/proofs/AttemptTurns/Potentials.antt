-- How many turns an attempt may still take, by its phase: each turn of it that isn't a wait leaves fewer, and pays for the turns
-- that its request has waited.
use Rattle.std.proofs.Common.{◌≡◌, ◌≤◌, ◌⊎◌, ℕ, ◌+◌, ◌*◌, Bool, true, false, List, Option, Some, refl, sym, ap, subst, inl, inr, arith}
use Rattle.std.proofs.lemmas.Bool.{true≢false, false≢true}
use Rattle.server_model.specs.declared.answer.Answer.{Answer}
use Rattle.server_model.specs.declared.answer.Answer.TheVariants as answers
use Rattle.server_model.specs.declared.request.Request.{Request}
use Rattle.server_model.specs.declared.request.Request.TheVariants as requests
use Rattle.tool_program.specs.declared.cutover_core.cutover.Clearing.{Clearing as Cleared}
use Rattle.tool_program.specs.declared.cutover_core.cutover.Clearing.TheVariants.{Looking, Drops}
use Rattle.tool_program.specs.declared.cutover_core.cutover.CutOver.{CutOver}
use Rattle.tool_program.specs.declared.cutover_core.cutover.Hold.{Hold}
use Rattle.tool_program.specs.declared.cutover_core.cutover.Hold.TheVariants.{Nothing, WaitsToGuard, WaitsToLock, Locks}
use Rattle.tool_program.specs.declared.cutover_core.cutover.Phase.{Phase}
use Rattle.tool_program.specs.declared.cutover_core.cutover.Phase.TheVariants.{Resting, Attempting, Ending, Finishing, Finished}
use Rattle.tool_program.specs.declared.cutover_core.cutover.Stage.{Stage}
use Rattle.tool_program.specs.declared.cutover_core.cutover.Stage.TheVariants.{Guarding, Locking, Hinting, ReadingCounter, SettingCounter, Draining, Drained, Showing, Dropping, Unlocking, Exchanging}
use Rattle.tool_program.specs.declared.cutover_core.cutover.Drain.{Drain}
use Rattle.tool_program.specs.declared.cutover_core.cutover.Drain.TheVariants.{Turns, Passed}
use Rattle.tool_program.specs.CutoverCore.CutOvers.{is_done, is_wait, ended, failed, drain_of, drained, drains_to, drain_stage, with_drain, inspector_phase, locker_phase, renamer_phase, hold_after}
use Rattle.proof_journals.specs.Machine.Machines.{PhaseHolds}
use Rattle.proof_journals.proofs.Machine.CuttingOver.{LockerAsks, drain_cases, lost_nothing}
use Rattle.proof_migration.proofs.Attempt.RenamerAnswers.{AsksAt}
use Rattle.proof_migration.proofs.Attempt.Stages.{RenamerAt}
use Rattle.proof_bounds.specs.Guards.{WaitsForNoSentry}
use Rattle.proof_bounds.specs.AttemptTurns.Attempts.{IsNotRefused}

-- WHAT IS LEFT

-- the locker unlocks at an attempt's end; where its LOCK TABLES waits that is granted or not first
abbrev pub hold_left : ℕ → Hold → ℕ
hold_left w Nothing = 0
hold_left w WaitsToGuard = 0
hold_left w WaitsToLock = 2 + w
hold_left w Locks = 1

-- the RENAME waits to its answer
abbrev pub rename_left : ℕ → Bool → ℕ
rename_left w true = 1 + w
rename_left w false = 0

-- the inspector looks, and drops the sentry; where its session was lost the look isn't the attempt's
abbrev pub clear_left : Bool → Cleared → ℕ
clear_left true Looking = 2
clear_left false Looking = 1
clear_left live (Drops left) = 1

-- where the table has a counter, to show it and to set it, which may wait
abbrev pub carry_left : ℕ → Bool → ℕ
carry_left w true = w + 2
carry_left w false = 0

abbrev pub stage_left : ℕ → Bool → Hold → Bool → Stage → ℕ
stage_left w counter hold renames Guarding = 2 * w + 9 + carry_left w counter
stage_left w counter hold renames Locking = 2 * w + 9 + carry_left w counter
stage_left w counter hold renames Hinting = w + 7 + hold_left w hold + rename_left w renames + carry_left w counter
stage_left w counter hold renames (ReadingCounter drain) = 2 * w + 8 + hold_left w hold + rename_left w renames
stage_left w counter hold renames (SettingCounter number drain) = 2 * w + 7 + hold_left w hold + rename_left w renames
stage_left w counter hold renames (Draining turns) = w + 6 + hold_left w hold + rename_left w renames
stage_left w counter hold renames Drained = w + 6 + hold_left w hold + rename_left w renames
stage_left w counter hold renames Showing = 5 + hold_left w hold + rename_left w renames
stage_left w counter hold renames Dropping = 4 + hold_left w hold + rename_left w renames
stage_left w counter hold renames Unlocking = 3 + hold_left w hold + rename_left w renames
stage_left w counter hold renames Exchanging = 3 + hold_left w hold + rename_left w renames

-- *Left* in a phase: `w` is how often a wait of the tool's is polled
abbrev pub attempt_left : ℕ → Bool → Bool → Hold → Bool → Phase → ℕ
attempt_left w counter live hold renames Resting = 0
attempt_left w counter live hold renames (Attempting stage) = stage_left w counter hold renames stage
attempt_left w counter live hold renames (Ending cleared) = hold_left w hold + rename_left w renames + clear_left live cleared
attempt_left w counter live hold renames (Finishing cleared) = 0
attempt_left w counter live hold renames Finished = 0

-- where an attempt has failed the inspector's request that sets the counter may wait still
abbrev pub inspect_left : ℕ → Bool → Phase → ℕ
inspect_left w true (Ending cleared) = 1 + w
inspect_left w inspects phase = 0

-- the sentry's CREATE begins an attempt, which has so many
abbrev pub whole_left : ℕ → Bool → ℕ
whole_left w counter = 2 * w + 10 + carry_left w counter

abbrev pub begun_left : ℕ → Bool → Phase → ℕ
begun_left w counter Resting = whole_left w counter
begun_left w counter phase = 0

-- how long a request has waited, after this answer
abbrev pub waits_after : Answer → ℕ → ℕ
waits_after (answers.Waits by) waited = waited + 1
waits_after answer waited = 0

-- the longest that the locker's, and the renamer's, can have waited
abbrev pub hold_waits : ℕ → Hold → ℕ
hold_waits w Nothing = 0
hold_waits w WaitsToGuard = w
hold_waits w WaitsToLock = w
hold_waits w Locks = 0

abbrev pub rename_waits : ℕ → Bool → ℕ
rename_waits w true = w
rename_waits w false = 0

-- BOUNDS

pub clear_two : (live : Bool) (cleared : Cleared) → clear_left live cleared ≤ 2
clear_two true Looking = omega arith
clear_two false Looking = omega arith
clear_two true (Drops left) = omega arith
clear_two false (Drops left) = omega arith

rename_most : (w : ℕ) (renames : Bool) → rename_left w renames ≤ 1 + w
rename_most w true = omega arith
rename_most w false = omega arith

hold_most : (w : ℕ) (hold : Hold) → hold_left w hold ≤ 2 + w
hold_most w Nothing = omega arith
hold_most w WaitsToGuard = omega arith
hold_most w WaitsToLock = omega arith
hold_most w Locks = omega arith

-- an attempt that fails: its end leaves fewer by three than its stage had
pub stage_ends : (w : ℕ) (counter live : Bool) (hold : Hold) (renames : Bool) (stage : Stage) → 1 + attempt_left w counter live hold renames (Ending Looking) ≤ stage_left w counter hold renames stage
stage_ends w counter live hold renames Guarding = let a = clear_two live Looking in let b = rename_most w renames in let c = hold_most w hold in omega (arith, a, b, c)
stage_ends w counter live hold renames Locking = let a = clear_two live Looking in let b = rename_most w renames in let c = hold_most w hold in omega (arith, a, b, c)
stage_ends w counter live hold renames Hinting = let a = clear_two live Looking in omega (arith, a)
stage_ends w counter live hold renames (ReadingCounter drain) = let a = clear_two live Looking in omega (arith, a)
stage_ends w counter live hold renames (SettingCounter number drain) = let a = clear_two live Looking in omega (arith, a)
stage_ends w counter live hold renames (Draining turns) = let a = clear_two live Looking in omega (arith, a)
stage_ends w counter live hold renames Drained = let a = clear_two live Looking in omega (arith, a)
stage_ends w counter live hold renames Showing = let a = clear_two live Looking in omega (arith, a)
stage_ends w counter live hold renames Dropping = let a = clear_two live Looking in omega (arith, a)
stage_ends w counter live hold renames Unlocking = let a = clear_two live Looking in omega (arith, a)
stage_ends w counter live hold renames Exchanging = let a = clear_two live Looking in omega (arith, a)

less_of : (a b : ℕ) → 1 + a ≤ b → a ≤ b
less_of a b less = omega (arith, less)

-- a revert, and the drain, leave no more
pub ended_left : (w : ℕ) (counter live : Bool) (hold : Hold) (renames : Bool) (phase : Phase) → attempt_left w counter live hold renames (ended phase) ≤ attempt_left w counter live hold renames phase
ended_left w counter live hold renames (Attempting Unlocking) = omega arith
ended_left w counter live hold renames (Attempting Exchanging) = omega arith
ended_left w counter live hold renames (Attempting stage) = less_of (attempt_left w counter live hold renames (Ending Looking)) (stage_left w counter hold renames stage) (stage_ends w counter live hold renames stage)
ended_left w counter live hold renames Resting = omega arith
ended_left w counter live hold renames (Ending cleared) = omega arith
ended_left w counter live hold renames (Finishing cleared) = omega arith
ended_left w counter live hold renames Finished = omega arith

-- the applier's turn leaves as much in the stage
drain_same : (w : ℕ) (counter : Bool) (hold : Hold) (renames : Bool) (stage : Stage) (drain : Drain) → stage_left w counter hold renames (with_drain stage drain) ≡ stage_left w counter hold renames stage
drain_same w counter hold renames (ReadingCounter before) drain = refl
drain_same w counter hold renames (SettingCounter number before) drain = refl
drain_same w counter hold renames (Draining turns) (Turns more) = refl
drain_same w counter hold renames (Draining turns) Passed = refl
drain_same w counter hold renames stage drain = refl

pub drained_left : (w : ℕ) (counter live : Bool) (hold : Hold) (renames : Bool) (cutover : CutOver) (hint : ℕ) (phase : Phase) → attempt_left w counter live hold renames (drained cutover hint phase) ≤ attempt_left w counter live hold renames phase
drained_left w counter live hold renames cutover hint (Attempting stage) = by (drain_of stage) where
  same_left : (drain : Drain) → stage_left w counter hold renames (with_drain stage drain) ≤ stage_left w counter hold renames stage
  same_left drain = let same = drain_same w counter hold renames stage drain in omega (arith, same)

  by : (drain : Option Drain) → attempt_left w counter live hold renames (drains_to cutover hint stage drain) ≤ stage_left w counter hold renames stage
  by (Some (Turns turns)) =
      drain_cases (λ (p : Phase). attempt_left w counter live hold renames p ≤ stage_left w counter hold renames stage) cutover hint turns stage (λ same. same_left Passed)
      (less_of (attempt_left w counter live hold renames (Ending Looking)) (stage_left w counter hold renames stage) (stage_ends w counter live hold renames stage)) (same_left (Turns (turns + 1)))
  by drain = omega arith
drained_left w counter live hold renames cutover hint Resting = omega arith
drained_left w counter live hold renames cutover hint (Ending cleared) = omega arith
drained_left w counter live hold renames cutover hint (Finishing cleared) = omega arith
drained_left w counter live hold renames cutover hint Finished = omega arith

-- without a session the inspector has no more
pub unseated_left : (w : ℕ) (counter live : Bool) (hold : Hold) (renames : Bool) (phase : Phase) → attempt_left w counter false hold renames phase ≤ attempt_left w counter live hold renames phase
unseated_left w counter live hold renames Resting = omega arith
unseated_left w counter live hold renames (Attempting stage) = omega arith
unseated_left w counter true hold renames (Ending Looking) = omega arith
unseated_left w counter false hold renames (Ending Looking) = omega arith
unseated_left w counter live hold renames (Ending (Drops left)) = omega arith
unseated_left w counter live hold renames (Finishing cleared) = omega arith
unseated_left w counter live hold renames Finished = omega arith

-- THE LOCKER

module _ (w : ℕ) (counter live : Bool) (renames : Bool) (table : List ℕ) (request : Request) (waited : ℕ) where
  -- one turn of the locker's, heard so
  abbrev pub LockerPays : Hold → Phase → Answer → Type 0
  LockerPays hold phase answer = 1 + attempt_left w counter live (hold_after hold phase answer) renames (locker_phase phase answer) + waited ≤ attempt_left w counter live hold renames phase + begun_left w counter phase + waits_after answer waited

  begins : (answer : Answer) → waited ≤ 0 → LockerPays Nothing Resting answer
  begins (answers.Ok count) none = omega (arith, none)
  begins (answers.Waits by) none = omega (arith, none)
  begins answer none = let a = clear_two live Looking in let b = rename_most w renames in omega (arith, a, b, none)

  locks : (hold : Hold) (answer : Answer) → hold_after hold (Attempting Locking) answer ≡ hold_after Nothing (Attempting Locking) answer → waited ≤ w → renames ≡ false → IsNotRefused answer → LockerPays hold (Attempting Locking) answer
  locks hold answer same most off goes = rw same (rw off (by answer goes)) where
    by : (answer : Answer) → IsNotRefused answer
        → 1 + attempt_left w counter live (hold_after Nothing (Attempting Locking) answer) false (locker_phase (Attempting Locking) answer) + waited ≤ 2 * w + 9 + carry_left w counter + 0 + waits_after answer waited
    by (answers.Ok count) goes = omega (arith, most)
    by (answers.Waits other) goes = omega (arith, most)
    by (answers.TimedOut n) goes = let a = clear_two live Looking in omega (arith, a, most)
    by answers.Lost goes = let a = clear_two live Looking in omega (arith, a, most)
    by answer goes = absurd goes

  waits_end : (cleared : Cleared) (answer : Answer) → waited ≤ w → LockerPays WaitsToLock (Ending cleared) answer
  waits_end cleared (answers.Ok count) most = omega (arith, most)
  waits_end cleared (answers.Waits by) most = omega (arith, most)
  waits_end cleared answer most = omega (arith, most)

  drops : (answer : Answer) → waited ≤ 0 → IsNotRefused answer → LockerPays Locks (Attempting Dropping) answer
  drops (answers.Ok count) none goes = omega (arith, none)
  drops (answers.Waits by) none goes = omega (arith, none)
  drops (answers.TimedOut n) none goes = let a = clear_two live Looking in omega (arith, a, none)
  drops answers.Lost none goes = let a = clear_two live Looking in omega (arith, a, none)
  drops answer none goes = absurd goes

  unlocks : (answer : Answer) → waited ≤ 0 → LockerPays Locks (Attempting Unlocking) answer
  unlocks (answers.Ok count) none = omega (arith, none)
  unlocks (answers.TimedOut n) none = let a = clear_two live Looking in omega (arith, a, none)
  unlocks answers.Lost none = let a = clear_two live Looking in omega (arith, a, none)
  unlocks answer none = omega (arith, none)

  frees : (cleared : Cleared) (answer : Answer) → waited ≤ 0 → LockerPays Locks (Ending cleared) answer
  frees cleared answer none = omega (arith, none)

  no_done : WaitsToLock ≡ Nothing → ⊥
  no_done same = cc

  no_locks : WaitsToLock ≡ Locks → ⊥
  no_locks same = cc

  -- *The locker's turn*
  pub locker_pays : (hold : Hold) (phase : Phase) (answer : Answer) → PhaseHolds phase hold → RenamerAt phase renames → WaitsForNoSentry hold → (is_done phase ≡ true → hold ≡ Nothing) → LockerAsks table hold phase request → waited ≤ hold_waits w hold → (phase ≡ Attempting Locking → IsNotRefused answer)
      → (phase ≡ Attempting Dropping → IsNotRefused answer) → LockerPays hold phase answer
  locker_pays Nothing Resting answer holds renamer guarded done asks most locked dropped = begins answer most
  locker_pays Nothing (Attempting Locking) answer holds renamer guarded done asks most locked dropped = locks Nothing answer refl (omega (arith, most)) renamer (locked refl)
  locker_pays Nothing phase answer holds renamer guarded done asks most locked dropped = absurd asks
  locker_pays WaitsToGuard phase answer holds renamer guarded done asks most locked dropped = absurd guarded
  locker_pays WaitsToLock (Attempting Locking) answer holds renamer guarded done asks most locked dropped = locks WaitsToLock answer refl most renamer (locked refl)
  locker_pays WaitsToLock (Ending cleared) answer holds renamer guarded done asks most locked dropped = waits_end cleared answer most
  locker_pays WaitsToLock (Finishing cleared) answer holds renamer guarded done asks most locked dropped = absurd (no_done (done refl))
  locker_pays WaitsToLock Finished answer holds renamer guarded done asks most locked dropped = absurd (no_done (done refl))
  locker_pays WaitsToLock Resting answer holds renamer guarded done asks most locked dropped = absurd (no_done holds)
  locker_pays WaitsToLock (Attempting Guarding) answer holds renamer guarded done asks most locked dropped = absurd (either holds) where
    either : (WaitsToLock ≡ Nothing) ⊎ (WaitsToLock ≡ WaitsToGuard) → ⊥
    either (inl same) = no_done same
    either (inr same) = cc
  locker_pays WaitsToLock (Attempting Hinting) answer holds renamer guarded done asks most locked dropped = absurd (no_locks holds)
  locker_pays WaitsToLock (Attempting (ReadingCounter drain)) answer holds renamer guarded done asks most locked dropped = absurd (no_locks holds)
  locker_pays WaitsToLock (Attempting (SettingCounter number drain)) answer holds renamer guarded done asks most locked dropped = absurd (no_locks holds)
  locker_pays WaitsToLock (Attempting (Draining turns)) answer holds renamer guarded done asks most locked dropped = absurd (no_locks holds)
  locker_pays WaitsToLock (Attempting Drained) answer holds renamer guarded done asks most locked dropped = absurd (no_locks holds)
  locker_pays WaitsToLock (Attempting Showing) answer holds renamer guarded done asks most locked dropped = absurd (no_locks holds)
  locker_pays WaitsToLock (Attempting Dropping) answer holds renamer guarded done asks most locked dropped = absurd (no_locks holds)
  locker_pays WaitsToLock (Attempting Unlocking) answer holds renamer guarded done asks most locked dropped = absurd (no_locks holds)
  locker_pays WaitsToLock (Attempting Exchanging) answer holds renamer guarded done asks most locked dropped = absurd (no_done holds)
  locker_pays Locks (Attempting Dropping) answer holds renamer guarded done asks most locked dropped = drops answer most (dropped refl)
  locker_pays Locks (Attempting Unlocking) answer holds renamer guarded done asks most locked dropped = unlocks answer most
  locker_pays Locks (Ending cleared) answer holds renamer guarded done asks most locked dropped = frees cleared answer most
  locker_pays Locks phase answer holds renamer guarded done asks most locked dropped = absurd asks

  -- *Its session is lost* between calls
  lost_stage : (hold : Hold) (stage : Stage) → hold_after hold (Attempting stage) answers.Lost ≡ Nothing → WaitsForNoSentry hold → waited ≤ hold_waits w hold → attempt_left w counter live (hold_after hold (Attempting stage) answers.Lost) renames (Ending Looking) + waited ≤ stage_left w counter hold renames stage
  lost_stage hold stage nothing guarded most = rw nothing (by hold guarded most (stage_ends w counter live hold renames stage)) where
    by : (hold : Hold) → WaitsForNoSentry hold → waited ≤ hold_waits w hold → 1 + attempt_left w counter live hold renames (Ending Looking) ≤ stage_left w counter hold renames stage → attempt_left w counter live Nothing renames (Ending Looking) + waited ≤ stage_left w counter hold renames stage
    by Nothing guarded most ends = omega (arith, most, ends)
    by WaitsToGuard guarded most ends = absurd guarded
    by WaitsToLock guarded most ends = omega (arith, most, ends)
    by Locks guarded most ends = omega (arith, most, ends)

  lost_end : (hold : Hold) (cleared : Cleared) → WaitsForNoSentry hold → waited ≤ hold_waits w hold → attempt_left w counter live (hold_after hold (Ending cleared) answers.Lost) renames (Ending cleared) + waited ≤ attempt_left w counter live hold renames (Ending cleared)
  lost_end Nothing cleared guarded most = omega (arith, most)
  lost_end WaitsToGuard cleared guarded most = absurd guarded
  lost_end WaitsToLock cleared guarded most = omega (arith, most)
  lost_end Locks cleared guarded most = omega (arith, most)

  none_done : (hold : Hold) → hold ≡ Nothing → waited ≤ hold_waits w hold → waited ≤ 0
  none_done hold nothing most = subst_most nothing where
    subst_most : hold ≡ Nothing → waited ≤ 0
    subst_most same = subst (λ (h : Hold). waited ≤ hold_waits w h) same most

  pub locker_lost : (hold : Hold) (phase : Phase) → PhaseHolds phase hold → WaitsForNoSentry hold → (is_done phase ≡ true → hold ≡ Nothing) → waited ≤ hold_waits w hold
      → attempt_left w counter live (hold_after hold phase answers.Lost) renames (locker_phase phase answers.Lost) + waited ≤ attempt_left w counter live hold renames phase + begun_left w counter phase
  locker_lost hold Resting holds guarded done most =
      let none = none_done hold holds most in
      let a = clear_two live Looking in
      let b = rename_most w renames in
      let c : hold_left w (hold_after hold Resting answers.Lost) ≤ 0 = nothing_left hold holds in
      omega (arith, a, b, c, none) where
        nothing_left : (hold : Hold) → hold ≡ Nothing → hold_left w (hold_after hold Resting answers.Lost) ≤ 0
        nothing_left hold nothing = rw nothing (omega arith)
  locker_lost hold (Attempting stage) holds guarded done most = let a = lost_stage hold stage (lost_nothing hold (Attempting stage)) guarded most in omega (arith, a)
  locker_lost hold (Ending cleared) holds guarded done most = let a = lost_end hold cleared guarded most in omega (arith, a)
  locker_lost hold (Finishing cleared) holds guarded done most = let a = none_done hold (done refl) most in omega (arith, a)
  locker_lost hold Finished holds guarded done most = let a = none_done hold (done refl) most in omega (arith, a)

-- THE RENAMER

module _ (w : ℕ) (counter live : Bool) (hold : Hold) (waited : ℕ) where
  abbrev pub RenamerPays : Bool → Phase → Answer → Type 0
  RenamerPays renames phase answer = 1 + attempt_left w counter live hold (is_wait answer) (renamer_phase phase answer) + waited ≤ attempt_left w counter live hold renames phase + waits_after answer waited

  -- a poll, in each phase in which the RENAME may wait
  polls_showing : (answer : Answer) → waited ≤ w → RenamerPays true (Attempting Showing) answer
  polls_showing (answers.Ok count) most = omega (arith, most)
  polls_showing (answers.Waits by) most = omega (arith, most)
  polls_showing answers.Lost most = let a = clear_two live Looking in omega (arith, a, most)
  polls_showing (answers.TimedOut n) most = let a = clear_two live Looking in omega (arith, a, most)
  polls_showing answer most = omega (arith, most)

  polls_dropping : (answer : Answer) → waited ≤ w → RenamerPays true (Attempting Dropping) answer
  polls_dropping (answers.Ok count) most = omega (arith, most)
  polls_dropping (answers.Waits by) most = omega (arith, most)
  polls_dropping answers.Lost most = let a = clear_two live Looking in omega (arith, a, most)
  polls_dropping (answers.TimedOut n) most = let a = clear_two live Looking in omega (arith, a, most)
  polls_dropping answer most = omega (arith, most)

  polls_unlocking : (answer : Answer) → waited ≤ w → RenamerPays true (Attempting Unlocking) answer
  polls_unlocking (answers.Ok count) most = omega (arith, most)
  polls_unlocking (answers.Waits by) most = omega (arith, most)
  polls_unlocking answers.Lost most = let a = clear_two live Looking in omega (arith, a, most)
  polls_unlocking (answers.TimedOut n) most = let a = clear_two live Looking in omega (arith, a, most)
  polls_unlocking answer most = omega (arith, most)

  polls_exchanging : (answer : Answer) → waited ≤ w → RenamerPays true (Attempting Exchanging) answer
  polls_exchanging (answers.Ok count) most = omega (arith, most)
  polls_exchanging (answers.Waits by) most = omega (arith, most)
  polls_exchanging answers.Lost most = let a = clear_two live Looking in omega (arith, a, most)
  polls_exchanging (answers.TimedOut n) most = let a = clear_two live Looking in omega (arith, a, most)
  polls_exchanging answer most = omega (arith, most)

  polls_end : (cleared : Cleared) (answer : Answer) → waited ≤ w → RenamerPays true (Ending cleared) answer
  polls_end cleared (answers.Ok count) most = omega (arith, most)
  polls_end cleared (answers.Waits by) most = omega (arith, most)
  polls_end cleared answers.Lost most = omega (arith, most)
  polls_end cleared (answers.TimedOut n) most = omega (arith, most)
  polls_end cleared answer most = omega (arith, most)

  calls : (answer : Answer) → waited ≤ 0 → IsNotRefused answer → RenamerPays false (Attempting Drained) answer
  calls (answers.Ok count) none goes = omega (arith, none)
  calls (answers.Waits by) none goes = omega (arith, none)
  calls answers.Lost none goes = let a = clear_two live Looking in omega (arith, a, none)
  calls (answers.TimedOut n) none goes = let a = clear_two live Looking in omega (arith, a, none)
  calls answer none goes = absurd goes

  -- a call, where nothing waits
  call_drained : (phase : Phase) (answer : Answer) → AsksAt phase false → waited ≤ 0 → (phase ≡ Attempting Drained → IsNotRefused answer) → RenamerPays false phase answer
  call_drained phase answer (inl at) none goes = rw at (calls answer none (goes at))
  call_drained phase answer (inr on) none goes = absurd (false≢true on)

  -- *The renamer's turn*
  pub renamer_pays : (renames : Bool) (phase : Phase) (answer : Answer) → RenamerAt phase renames → AsksAt phase renames → (is_done phase ≡ true → renames ≡ false) → waited ≤ rename_waits w renames → (phase ≡ Attempting Drained → IsNotRefused answer) → RenamerPays renames phase answer
  renamer_pays false phase answer at asks done most goes = call_drained phase answer asks most goes
  renamer_pays true (Attempting Showing) answer at asks done most goes = polls_showing answer most
  renamer_pays true (Attempting Dropping) answer at asks done most goes = polls_dropping answer most
  renamer_pays true (Attempting Unlocking) answer at asks done most goes = polls_unlocking answer most
  renamer_pays true (Attempting Exchanging) answer at asks done most goes = polls_exchanging answer most
  renamer_pays true (Ending cleared) answer at asks done most goes = polls_end cleared answer most
  renamer_pays true (Finishing cleared) answer at asks done most goes = absurd (true≢false (done refl))
  renamer_pays true Finished answer at asks done most goes = absurd (true≢false (done refl))
  renamer_pays true Resting answer at asks done most goes = absurd (true≢false at)
  renamer_pays true (Attempting Guarding) answer at asks done most goes = absurd (true≢false at)
  renamer_pays true (Attempting Locking) answer at asks done most goes = absurd (true≢false at)
  renamer_pays true (Attempting Hinting) answer at asks done most goes = absurd (true≢false at)
  renamer_pays true (Attempting (ReadingCounter drain)) answer at asks done most goes = absurd (true≢false at)
  renamer_pays true (Attempting (SettingCounter number drain)) answer at asks done most goes = absurd (true≢false at)
  renamer_pays true (Attempting (Draining turns)) answer at asks done most goes = absurd (true≢false at)
  renamer_pays true (Attempting Drained) answer at asks done most goes = absurd (true≢false at)

  -- *Its session is lost* between calls
  lost_fails : (renames : Bool) (stage : Stage) → waited ≤ rename_waits w renames → attempt_left w counter live hold false (Ending Looking) + waited ≤ stage_left w counter hold renames stage
  lost_fails true stage most = let a = stage_ends w counter live hold true stage in omega (arith, a, most)
  lost_fails false stage most = let a = stage_ends w counter live hold false stage in omega (arith, a, most)

  lost_ends : (renames : Bool) (cleared : Cleared) → waited ≤ rename_waits w renames → attempt_left w counter live hold false (Ending cleared) + waited ≤ attempt_left w counter live hold renames (Ending cleared)
  lost_ends true cleared most = omega (arith, most)
  lost_ends false cleared most = omega (arith, most)

  none_renames : (renames : Bool) → renames ≡ false → waited ≤ rename_waits w renames → waited ≤ 0
  none_renames true off most = absurd (true≢false off)
  none_renames false off most = most

  pub renamer_lost : (renames : Bool) (phase : Phase) → RenamerAt phase renames → (is_done phase ≡ true → renames ≡ false) → waited ≤ rename_waits w renames → attempt_left w counter live hold false (failed phase) + waited ≤ attempt_left w counter live hold renames phase
  renamer_lost renames (Attempting stage) at done most = lost_fails renames stage most
  renamer_lost renames (Ending cleared) at done most = lost_ends renames cleared most
  renamer_lost renames Resting at done most = let a = none_renames renames at most in omega (arith, a)
  renamer_lost renames (Finishing cleared) at done most = let a = none_renames renames (done refl) most in omega (arith, a)
  renamer_lost renames Finished at done most = let a = none_renames renames (done refl) most in omega (arith, a)

-- WHAT HAS WAITED IS PAID

module _ (w : ℕ) (counter live : Bool) (hold : Hold) (renames : Bool) where
  hold_paid : WaitsForNoSentry hold → hold_waits w hold ≤ hold_left w hold
  hold_paid guarded = by hold guarded where
    by : (hold : Hold) → WaitsForNoSentry hold → hold_waits w hold ≤ hold_left w hold
    by Nothing guarded = omega arith
    by WaitsToGuard guarded = absurd guarded
    by WaitsToLock guarded = omega arith
    by Locks guarded = omega arith

  rename_paid : rename_waits w renames ≤ rename_left w renames
  rename_paid = by renames where
    by : (renames : Bool) → rename_waits w renames ≤ rename_left w renames
    by true = omega arith
    by false = omega arith

  free_paid : hold ≡ Nothing → renames ≡ false → hold_waits w hold + rename_waits w renames ≤ 0
  free_paid nothing off = rw (nothing, off) (omega arith)

  stage_paid : WaitsForNoSentry hold → (stage : Stage) → hold_waits w hold + rename_waits w renames ≤ stage_left w counter hold renames stage
  stage_paid guarded stage = let a = hold_paid guarded in let b = rename_paid in let c = stage_ends w counter live hold renames stage in omega (arith, a, b, c)

  pub waits_left : (phase : Phase) → PhaseHolds phase hold → RenamerAt phase renames → WaitsForNoSentry hold → (is_done phase ≡ true → hold ≡ Nothing) → (is_done phase ≡ true → renames ≡ false) → hold_waits w hold + rename_waits w renames ≤ attempt_left w counter live hold renames phase
  waits_left Resting holds renamer guarded done renamed = free_paid holds renamer
  waits_left (Attempting stage) holds renamer guarded done renamed = stage_paid guarded stage
  waits_left (Ending cleared) holds renamer guarded done renamed = let a = hold_paid guarded in let b = rename_paid in omega (arith, a, b)
  waits_left (Finishing cleared) holds renamer guarded done renamed = free_paid (done refl) (renamed refl)
  waits_left Finished holds renamer guarded done renamed = free_paid (done refl) (renamed refl)

-- WHILE THE INSPECTOR WAITS

-- it waits so that the counter is set, or the attempt has failed meanwhile
abbrev pub WaitsIn : Phase → Type 0
WaitsIn (Attempting (SettingCounter number drain)) = Unit {0}
WaitsIn (Ending Looking) = Unit {0}
WaitsIn phase = ⊥

module _ (w : ℕ) (counter live : Bool) (hold : Hold) (renames : Bool) where
  -- what is left, with the inspector's wait
  abbrev pub all_left : Bool → Phase → ℕ
  all_left inspects phase = attempt_left w counter live hold renames phase + inspect_left w inspects phase

  -- a stage fails: it has paid for the wait
  pub stage_fails : (inspects : Bool) (stage : Stage) → (inspects ≡ true → WaitsIn (Attempting stage)) → 1 + all_left inspects (Ending Looking) ≤ stage_left w counter hold renames stage
  stage_fails false stage waits = let a = stage_ends w counter live hold renames stage in omega (arith, a)
  stage_fails true (SettingCounter number drain) waits = let a = clear_two live Looking in omega (arith, a)
  stage_fails true stage waits = absurd (waits refl)

  pub ends_all : (inspects : Bool) (phase : Phase) → (inspects ≡ true → WaitsIn phase) → all_left inspects (ended phase) ≤ all_left inspects phase
  ends_all inspects (Attempting Unlocking) waits = omega arith
  ends_all inspects (Attempting Exchanging) waits = omega arith
  ends_all inspects (Attempting stage) waits = let a = stage_fails inspects stage waits in omega (arith, a)
  ends_all inspects Resting waits = omega arith
  ends_all inspects (Ending cleared) waits = omega arith
  ends_all inspects (Finishing cleared) waits = omega arith
  ends_all inspects Finished waits = omega arith

  pub drains_all : (inspects : Bool) (cutover : CutOver) (hint : ℕ) (phase : Phase) → (inspects ≡ true → WaitsIn phase) → all_left inspects (drained cutover hint phase) ≤ all_left inspects phase
  drains_all inspects cutover hint (Attempting stage) waits = by (drain_of stage) where
    none_inspects : (b : Bool) (next : Stage) → inspect_left w b (Attempting next) ≡ 0
    none_inspects true next = refl
    none_inspects false next = refl

    same_left : (drain : Drain) → all_left inspects (Attempting (with_drain stage drain)) ≤ all_left inspects (Attempting stage)
    same_left drain =
        let same = drain_same w counter hold renames stage drain in
        let a = none_inspects inspects (with_drain stage drain) in
        let b = none_inspects inspects stage in
        omega (arith, same, a, b)

    by : (drain : Option Drain) → all_left inspects (drains_to cutover hint stage drain) ≤ all_left inspects (Attempting stage)
    by (Some (Turns turns)) =
        drain_cases (λ (p : Phase). all_left inspects p ≤ all_left inspects (Attempting stage)) cutover hint turns stage (λ same. same_left Passed)
        (let a = stage_fails inspects stage waits in let b = none_inspects inspects stage in omega (arith, a, b)) (same_left (Turns (turns + 1)))
    by drain = omega arith
  drains_all inspects cutover hint Resting waits = omega arith
  drains_all inspects cutover hint (Ending cleared) waits = omega arith
  drains_all inspects cutover hint (Finishing cleared) waits = omega arith
  drains_all inspects cutover hint Finished waits = omega arith

  -- what has waited is paid, the inspector's wait with it
  pub waits_all : (inspects : Bool) (phase : Phase) → PhaseHolds phase hold → RenamerAt phase renames → WaitsForNoSentry hold → (is_done phase ≡ true → hold ≡ Nothing) → (is_done phase ≡ true → renames ≡ false) → (inspects ≡ true → WaitsIn phase)
      → hold_waits w hold + rename_waits w renames + rename_waits w inspects ≤ all_left inspects phase
  waits_all false phase holds renamer guarded done renamed waits = let a = waits_left w counter live hold renames phase holds renamer guarded done renamed in omega (arith, a)
  waits_all true (Attempting (SettingCounter number drain)) holds renamer guarded done renamed waits =
      let a : hold_waits w hold ≡ 0 = ap (hold_waits w) holds in
      let b : rename_waits w renames ≡ 0 = ap (rename_waits w) renamer in
      omega (arith, a, b)
  waits_all true (Ending Looking) holds renamer guarded done renamed waits = let a = waits_left w counter live hold renames (Ending Looking) holds renamer guarded done renamed in omega (arith, a)
  waits_all true phase holds renamer guarded done renamed waits = absurd (waits refl)

  -- *The inspector's turn* with the request that sets the counter: one turn, which pays for those that it has waited. After it `now`
  -- says whether the session lives, and `waiting` whether the request waits.
  pub sets_pays : (now waiting : Bool) (cutover : CutOver) (number : ℕ) (drain : Drain) (answer : Answer) (waited : ℕ) → waited ≤ w → IsNotRefused answer
      → 1 + attempt_left w counter now hold renames (inspector_phase cutover (Attempting (SettingCounter number drain)) answer) + inspect_left w waiting (inspector_phase cutover (Attempting (SettingCounter number drain)) answer) + waited
      ≤ stage_left w counter hold renames (SettingCounter number drain) + waits_after answer waited
  sets_pays now waiting cutover number drain answer waited most goes = by answer goes where
    most_inspects : (b : Bool) → inspect_left w b (Ending Looking) ≤ 1 + w
    most_inspects true = omega arith
    most_inspects false = omega arith

    none_inspects : (b : Bool) (stage : Stage) → inspect_left w b (Attempting stage) ≡ 0
    none_inspects true stage = refl
    none_inspects false stage = refl

    set_so : (drain : Drain) → 1 + stage_left w counter hold renames (drain_stage drain) + inspect_left w waiting (Attempting (drain_stage drain)) + waited ≤ stage_left w counter hold renames (SettingCounter number drain) + 0
    set_so (Turns turns) = let a = none_inspects waiting (Draining turns) in omega (arith, a, most)
    set_so Passed = let a = none_inspects waiting Drained in omega (arith, a, most)

    by : (answer : Answer) → IsNotRefused answer
        → 1 + attempt_left w counter now hold renames (inspector_phase cutover (Attempting (SettingCounter number drain)) answer) + inspect_left w waiting (inspector_phase cutover (Attempting (SettingCounter number drain)) answer) + waited
        ≤ stage_left w counter hold renames (SettingCounter number drain) + waits_after answer waited
    by (answers.Ok count) goes = set_so drain
    by (answers.Waits other) goes = let a = none_inspects waiting (SettingCounter number drain) in omega (arith, a)
    by (answers.TimedOut n) goes = let a = clear_two now Looking in let b = most_inspects waiting in omega (arith, a, b, most)
    by answers.Lost goes = let a = clear_two now Looking in let b = most_inspects waiting in omega (arith, a, b, most)
    by answer goes = absurd goes

  -- ... and where the attempt has failed meanwhile
  pub polls_pay : (now waiting : Bool) (answer : Answer) (waited : ℕ) → waited ≤ w → ((other : ℕ) → answer ≡ answers.Waits other → ⊥) ⊎ ((other : ℕ) × (answer ≡ answers.Waits other)) → (((other : ℕ) → answer ≡ answers.Waits other → ⊥) → waiting ≡ false)
      → 1 + attempt_left w counter now hold renames (Ending Looking) + inspect_left w waiting (Ending Looking) + waited ≤ attempt_left w counter true hold renames (Ending Looking) + (1 + w) + waits_after answer waited
  polls_pay now waiting answer waited most (inl never) rests =
      let a = clear_two now Looking in
      let b : inspect_left w waiting (Ending Looking) ≡ 0 = ap (λ (i : Bool). inspect_left w i (Ending Looking)) (rests never) in
      omega (arith, a, b, most)
  polls_pay now waiting answer waited most (inr waits) rests =
      let a = clear_two now Looking in
      let b = most_inspects waiting in
      let c : waits_after answer waited ≡ waited + 1 = ap (λ (one : Answer). waits_after one waited) waits.1 in
      omega (arith, a, b, c) where
        most_inspects : (b : Bool) → inspect_left w b (Ending Looking) ≤ 1 + w
        most_inspects true = omega arith
        most_inspects false = omega arith

  -- *Its session is lost* between calls, while it waits
  pub inspector_gone : (phase : Phase) (waited : ℕ) → WaitsIn phase → waited ≤ w → attempt_left w counter false hold renames (Ending Looking) + waited ≤ all_left true phase
  inspector_gone (Attempting (SettingCounter number drain)) waited waits most = omega (arith, most)
  inspector_gone (Ending Looking) waited waits most = let a = some_clear live in omega (arith, a, most) where
    some_clear : (live : Bool) → 1 ≤ clear_left live Looking
    some_clear true = omega arith
    some_clear false = omega arith
  inspector_gone phase waited waits most = absurd waits

  -- the locker's turn leaves the inspector's wait, and its loss has paid for it
  pub locked_inspects : (inspects : Bool) (table : List ℕ) (request : Request) (phase : Phase) (answer : Answer) → PhaseHolds phase hold → (inspects ≡ true → WaitsIn phase) → LockerAsks table hold phase request → inspect_left w inspects (locker_phase phase answer) ≤ inspect_left w inspects phase
  locked_inspects false table request phase answer holds waits asks = omega arith
  locked_inspects true table request (Attempting (SettingCounter number drain)) answer holds waits asks =
      absurd (subst (λ (h : Hold). LockerAsks table h (Attempting (SettingCounter number drain)) request) holds asks)
  locked_inspects true table request (Ending Looking) answer holds waits asks = omega arith
  locked_inspects true table request phase answer holds waits asks = absurd (waits refl)

  pub locker_gone : (inspects : Bool) (table : List ℕ) (phase : Phase) (waited : ℕ) → PhaseHolds phase hold → WaitsForNoSentry hold → (is_done phase ≡ true → hold ≡ Nothing) → waited ≤ hold_waits w hold → (inspects ≡ true → WaitsIn phase)
      → attempt_left w counter live (hold_after hold phase answers.Lost) renames (locker_phase phase answers.Lost) + inspect_left w inspects (locker_phase phase answers.Lost) + waited ≤ all_left inspects phase + begun_left w counter phase
  locker_gone false table phase waited holds guarded done most waits = let a = locker_lost w counter live renames table requests.Unlock waited hold phase holds guarded done most in omega (arith, a)
  locker_gone true table (Attempting (SettingCounter number drain)) waited holds guarded done most waits =
      subst
      (λ (h : Hold). attempt_left w counter live (hold_after h (Attempting (SettingCounter number drain)) answers.Lost) renames (Ending Looking) + (1 + w) + waited ≤ stage_left w counter h renames (SettingCounter number drain) + 0 + 0)
      (sym holds)
      (let a = clear_two live Looking in let b : waited ≤ 0 = subst (λ (h : Hold). waited ≤ hold_waits w h) holds most in omega (arith, a, b))
  locker_gone true table (Ending Looking) waited holds guarded done most waits = let a = locker_lost w counter live renames table requests.Unlock waited hold (Ending Looking) holds guarded done most in omega (arith, a)
  locker_gone true table phase waited holds guarded done most waits = absurd (waits refl)

  -- so has the renamer's
  pub renamer_gone : (inspects : Bool) (phase : Phase) (waited : ℕ) → RenamerAt phase renames → (is_done phase ≡ true → renames ≡ false) → waited ≤ rename_waits w renames → (inspects ≡ true → WaitsIn phase)
      → attempt_left w counter live hold false (failed phase) + inspect_left w inspects (failed phase) + waited ≤ all_left inspects phase
  renamer_gone false phase waited at done most waits = let a = renamer_lost w counter live hold waited renames phase at done most in omega (arith, a)
  renamer_gone true (Attempting (SettingCounter number drain)) waited at done most waits =
      let a = clear_two live Looking in
      let b : waited ≤ 0 = subst (λ (r : Bool). waited ≤ rename_waits w r) at most in
      omega (arith, a, b)
  renamer_gone true (Ending Looking) waited at done most waits = let a = renamer_lost w counter live hold waited renames (Ending Looking) at done most in omega (arith, a)
  renamer_gone true phase waited at done most waits = absurd (waits refl)
