-- The sentry relation through a turn of the locker, by phase and answer; and through any failure.
use Rattle.std.proofs.Common.{◌≡◌, ℕ, Bool, true, false, List, refl, sym, ap, ◌∙◌, subst, inl, inr}
use Rattle.std.specs.Prelude.{◌⊎◌}
use Rattle.server_model.specs.declared.answer.Answer.TheVariants as answers
use Rattle.proof_journals.specs.Sentry.Sentries.{Scene, HasSentry, MayExchange, IsLocked, AfterRename, AfterFailure, AfterUnlock, WhereItWaits, HoldsLock, AtEnd, Guards, FreesLock, OnlyFreesLock, Rests, Fits, LockerMay, LockerServes, TakesLock, OthersTurn, RenameWaits, OthersHold}
use Rattle.proof_journals.proofs.Sentry.Guarding.{drops_sentry, unlocks, lock_is_freed, may_freed}
use Rattle.proof_journals.proofs.Sentry.Fitting.{locks_one, guards_one, looking_fits}
use Rattle.server_model.specs.declared.answer.Answer.{Answer}
use Rattle.tool_program.specs.declared.chunk_copier.copier.Copier.{Copier}
use Rattle.tool_program.specs.declared.event_applier.applier.Applier.{Applier}
use Rattle.tool_program.specs.declared.cutover_core.cutover.CutOver.{CutOver}
use Rattle.tool_program.specs.declared.cutover_core.cutover.Phase.{Phase}
use Rattle.tool_program.specs.declared.cutover_core.cutover.Phase.TheVariants.{Resting, Attempting, Ending, Finishing, Finished}
use Rattle.tool_program.specs.declared.cutover_core.cutover.Stage.TheVariants.{Guarding, Locking, Hinting, ReadingCounter, SettingCounter, Draining, Drained, Showing, Dropping, Unlocking, Exchanging}
use Rattle.tool_program.specs.declared.cutover_core.cutover.Drain.TheVariants.{Turns, Passed}
use Rattle.tool_program.specs.declared.cutover_core.cutover.Stage.{Stage}
use Rattle.tool_program.specs.declared.cutover_core.cutover.Hold.{Hold}
use Rattle.tool_program.specs.declared.cutover_core.cutover.Hold.TheVariants.{Nothing, WaitsToGuard, WaitsToLock, Locks}
use Rattle.tool_program.specs.declared.cutover_core.cutover.Clearing.TheVariants.{Looking}
use Rattle.tool_program.specs.declared.cutover_core.cutover.Clearing.{Clearing}
use Rattle.tool_program.specs.CutoverCore.CutOvers.{locker_phase, hold_after, hold_of_guard, ended}

-- the claim of an end, by what the locker has and whether the RENAME waits
end_is : (t : List ℕ) (l r : ℕ) (scene : Scene) (copier : Copier) (applier : Applier) (hold has : Hold) (waits does : Bool) → hold ≡ has → waits ≡ does → AtEnd t scene copier applier l r has does → AtEnd t scene copier applier l r hold waits
end_is t l r scene copier applier hold has waits does is so end = subst (λ h. AtEnd t scene copier applier l r h waits) (sym is) (subst (λ w. AtEnd t scene copier applier l r has w) (sym so) end)

pub where_it : (claim : Type 0) (b : Bool) → claim → WhereItWaits b claim
where_it claim true at = at
where_it claim false at = tt

-- an attempt that doesn't succeed ends as it stands
pub ends_guarded : (t : List ℕ) (l r : ℕ) (scene : Scene) (copier : Copier) (applier : Applier) (cutover : CutOver) (stage : Stage) → Fits (Attempting stage) cutover.hold cutover.renamer_waits → Guards t scene copier applier cutover l r (Attempting stage) → AtEnd t scene copier applier l r cutover.hold cutover.renamer_waits
ends_guarded t l r scene copier applier cutover Guarding fits at = by fits.0
  where
    by : (cutover.hold ≡ Nothing) ⊎ (cutover.hold ≡ WaitsToGuard) → AtEnd t scene copier applier l r cutover.hold cutover.renamer_waits
    by (inl is) = end_is t l r scene copier applier cutover.hold Nothing cutover.renamer_waits false is fits.1 (record { lock = tt; rename = tt })
    by (inr is) = end_is t l r scene copier applier cutover.hold WaitsToGuard cutover.renamer_waits false is fits.1 (record { lock = tt; rename = tt })
ends_guarded t l r scene copier applier cutover Locking fits at = by fits.0
  where
    by : (cutover.hold ≡ Nothing) ⊎ (cutover.hold ≡ WaitsToLock) → AtEnd t scene copier applier l r cutover.hold cutover.renamer_waits
    by (inl is) = end_is t l r scene copier applier cutover.hold Nothing cutover.renamer_waits false is fits.1 (record { lock = tt; rename = tt })
    by (inr is) = end_is t l r scene copier applier cutover.hold WaitsToLock cutover.renamer_waits false is fits.1 (record { lock = tt; rename = tt })
ends_guarded t l r scene copier applier cutover Hinting fits at = end_is t l r scene copier applier cutover.hold Locks cutover.renamer_waits false fits.0 fits.1 (record { lock = at.locked; rename = tt })
ends_guarded t l r scene copier applier cutover (Draining turns) fits at = end_is t l r scene copier applier cutover.hold Locks cutover.renamer_waits false fits.0 fits.1 (record { lock = at.locked; rename = tt })
ends_guarded t l r scene copier applier cutover (ReadingCounter (Turns turns)) fits at = end_is t l r scene copier applier cutover.hold Locks cutover.renamer_waits false fits.0 fits.1 (record { lock = at.locked; rename = tt })
ends_guarded t l r scene copier applier cutover (SettingCounter number (Turns turns)) fits at = end_is t l r scene copier applier cutover.hold Locks cutover.renamer_waits false fits.0 fits.1 (record { lock = at.locked; rename = tt })
ends_guarded t l r scene copier applier cutover Drained fits at = end_is t l r scene copier applier cutover.hold Locks cutover.renamer_waits false fits.0 fits.1 (record { lock = at.locked; rename = tt })
ends_guarded t l r scene copier applier cutover (ReadingCounter Passed) fits at = end_is t l r scene copier applier cutover.hold Locks cutover.renamer_waits false fits.0 fits.1 (record { lock = at.locked; rename = tt })
ends_guarded t l r scene copier applier cutover (SettingCounter number Passed) fits at = end_is t l r scene copier applier cutover.hold Locks cutover.renamer_waits false fits.0 fits.1 (record { lock = at.locked; rename = tt })
ends_guarded t l r scene copier applier cutover Showing fits at =
    end_is t l r scene copier applier cutover.hold Locks cutover.renamer_waits true fits.0 fits.1 (record { lock = at.locked; rename = record { waits = at.waits; guarded = inl at.sentry } })
ends_guarded t l r scene copier applier cutover Dropping fits at =
    end_is t l r scene copier applier cutover.hold Locks cutover.renamer_waits true fits.0 fits.1 (record { lock = at.locked; rename = record { waits = at.waits; guarded = inl at.sentry } })
ends_guarded t l r scene copier applier cutover Unlocking fits at =
    end_is t l r scene copier applier cutover.hold Locks cutover.renamer_waits true fits.0 fits.1 (record { lock = at.locked; rename = record { waits = at.waits; guarded = inr (record { alone = at.locked.alone; drained = at.drained }) } })
ends_guarded t l r scene copier applier cutover Exchanging fits at =
    end_is t l r scene copier applier cutover.hold Nothing cutover.renamer_waits cutover.renamer_waits fits refl (record { lock = tt; rename = by cutover.renamer_waits at })
  where
    by : (b : Bool) → WhereItWaits b (AfterUnlock t scene copier applier l r) → WhereItWaits b (AfterFailure t scene copier applier l r)
    by false at = tt
    by true at = record { waits = at.waits; guarded = inr at.may }

-- a revert
pub revert_guards : (t : List ℕ) (l r : ℕ) (scene : Scene) (copier : Copier) (applier : Applier) (cutover : CutOver) (phase : Phase) → Fits phase cutover.hold cutover.renamer_waits → Guards t scene copier applier cutover l r phase → Guards t scene copier applier cutover l r (ended phase)
revert_guards t l r scene copier applier cutover (Attempting Guarding) fits at = ends_guarded t l r scene copier applier cutover Guarding fits at
revert_guards t l r scene copier applier cutover (Attempting Locking) fits at = ends_guarded t l r scene copier applier cutover Locking fits at
revert_guards t l r scene copier applier cutover (Attempting Hinting) fits at = ends_guarded t l r scene copier applier cutover Hinting fits at
revert_guards t l r scene copier applier cutover (Attempting (Draining turns)) fits at = ends_guarded t l r scene copier applier cutover (Draining turns) fits at
revert_guards t l r scene copier applier cutover (Attempting (ReadingCounter drain)) fits at = ends_guarded t l r scene copier applier cutover (ReadingCounter drain) fits at
revert_guards t l r scene copier applier cutover (Attempting (SettingCounter number drain)) fits at = ends_guarded t l r scene copier applier cutover (SettingCounter number drain) fits at
revert_guards t l r scene copier applier cutover (Attempting Drained) fits at = ends_guarded t l r scene copier applier cutover Drained fits at
revert_guards t l r scene copier applier cutover (Attempting Showing) fits at = ends_guarded t l r scene copier applier cutover Showing fits at
revert_guards t l r scene copier applier cutover (Attempting Dropping) fits at = ends_guarded t l r scene copier applier cutover Dropping fits at
revert_guards t l r scene copier applier cutover (Attempting Unlocking) fits at = at
revert_guards t l r scene copier applier cutover (Attempting Exchanging) fits at = at
revert_guards t l r scene copier applier cutover Resting fits at = at
revert_guards t l r scene copier applier cutover (Ending clearing) fits at = at
revert_guards t l r scene copier applier cutover (Finishing clearing) fits at = at
revert_guards t l r scene copier applier cutover Finished fits at = at

-- the locker's session is lost, in any stage, and the sentry stays as it is
loses : (t : List ℕ) (l r : ℕ) (before after : Scene) (copier : Copier) (applier : Applier) (cutover : CutOver) (stage : Stage) (answer : Answer) → Guards t before copier applier cutover l r (Attempting stage) → Fits (Attempting stage) cutover.hold cutover.renamer_waits → answer ≡ answers.Lost
    → hold_after cutover.hold (Attempting stage) answers.Lost ≡ Nothing → OnlyFreesLock t l r before after → Guards t after copier applier (record cutover { hold = hold_after cutover.hold (Attempting stage) answer }) l r (locker_phase (Attempting stage) answer)
loses t l r before after copier applier cutover stage answer at fits is none frees =
    subst (λ a. Guards t after copier applier (record cutover { hold = hold_after cutover.hold (Attempting stage) a }) l r (locker_phase (Attempting stage) a)) (sym is)
    (end_is t l r after copier applier (hold_after cutover.hold (Attempting stage) answers.Lost) Nothing cutover.renamer_waits cutover.renamer_waits none refl
    (lock_is_freed t l r before after copier applier cutover.hold cutover.renamer_waits (ends_guarded t l r before copier applier cutover stage fits at) frees))

-- lost at the sentry's DROP: before the drop or after it, the tables may be exchanged
lost_at_drop : (t : List ℕ) (l r : ℕ) (before after : Scene) (copier : Copier) (applier : Applier) → AfterRename t before copier applier l r → FreesLock t l r before after → AfterFailure t after copier applier l r
lost_at_drop t l r before after copier applier at frees =
    record { waits = frees.waits at.waits; guarded = inr (may_freed t l r before after copier applier frees (record { alone = at.locked.alone; drained = at.drained })) }

-- where nothing changes
pub rests_rename : (t : List ℕ) (l r : ℕ) (before after : Scene) (copier : Copier) (applier : Applier) → AfterRename t before copier applier l r → Rests t r before after → AfterRename t after copier applier l r
rests_rename t l r before after copier applier at rests =
    record {
      sentry = rests.tables ∙ at.sentry;
      locked = subst (λ held. IsLocked t held l) (sym rests.held) at.locked;
      drained = subst (λ log. Rattle.proof_journals.specs.Sentry.Sentries.IsDrained t log copier applier) (sym rests.log) at.drained;
      waits = rests.waits at.waits;
    }

-- the phase and what the locker has after its answer, over a cut-over with these
abbrev pub after_locker : CutOver → Phase → Answer → CutOver
after_locker cutover phase answer = record cutover { hold = hold_after cutover.hold phase answer }

at_locking : (t : List ℕ) (l r : ℕ) (before after : Scene) (copier : Copier) (applier : Applier) (cutover : CutOver) (answer : Answer) → Guards t before copier applier cutover l r (Attempting Locking) → Fits (Attempting Locking) cutover.hold cutover.renamer_waits
    → LockerServes t l r (Attempting Locking) cutover.hold answer before after → Guards t after copier applier (after_locker cutover (Attempting Locking) answer) l r (locker_phase (Attempting Locking) answer)
at_locking t l r before after copier applier cutover (answers.Ok count) at fits served = record { sentry = served.tables ∙ at.sentry; locked = served.locked }
at_locking t l r before after copier applier cutover answers.Lost at fits served =
    end_is t l r after copier applier (hold_after cutover.hold (Attempting Locking) answers.Lost) Nothing cutover.renamer_waits false (locks_one cutover.hold answers.Lost fits.0) fits.1 (record { lock = tt; rename = tt })
at_locking t l r before after copier applier cutover (answers.TimedOut waited) at fits served =
    end_is t l r after copier applier (hold_after cutover.hold (Attempting Locking) (answers.TimedOut waited)) Nothing cutover.renamer_waits false (locks_one cutover.hold (answers.TimedOut waited) fits.0) fits.1 (record { lock = tt; rename = tt })
at_locking t l r before after copier applier cutover answer at fits served = record { sentry = served ∙ at.sentry }

at_guarding : (t : List ℕ) (l r : ℕ) (before after : Scene) (copier : Copier) (applier : Applier) (cutover : CutOver) (answer : Answer) → Fits (Attempting Guarding) cutover.hold cutover.renamer_waits
    → LockerServes t l r (Attempting Guarding) cutover.hold answer before after → Guards t after copier applier (after_locker cutover (Attempting Guarding) answer) l r (locker_phase (Attempting Guarding) answer)
at_guarding t l r before after copier applier cutover (answers.Ok count) fits served = record { sentry = served }
at_guarding t l r before after copier applier cutover answers.Lost fits served =
    end_is t l r after copier applier (hold_after cutover.hold (Attempting Guarding) answers.Lost) Nothing cutover.renamer_waits false (guards_one cutover.hold answers.Lost fits.0) fits.1 (record { lock = tt; rename = tt })
at_guarding t l r before after copier applier cutover (answers.TimedOut waited) fits served =
    end_is t l r after copier applier (hold_after cutover.hold (Attempting Guarding) (answers.TimedOut waited)) Nothing cutover.renamer_waits false (guards_one cutover.hold (answers.TimedOut waited) fits.0) fits.1 (record { lock = tt; rename = tt })
at_guarding t l r before after copier applier cutover answer fits served = tt

at_dropping : (t : List ℕ) (l r : ℕ) (before after : Scene) (copier : Copier) (applier : Applier) (cutover : CutOver) (answer : Answer) → Guards t before copier applier cutover l r (Attempting Dropping) → Fits (Attempting Dropping) cutover.hold cutover.renamer_waits
    → LockerServes t l r (Attempting Dropping) cutover.hold answer before after → Guards t after copier applier (after_locker cutover (Attempting Dropping) answer) l r (locker_phase (Attempting Dropping) answer)
at_dropping t l r before after copier applier cutover (answers.Ok count) at fits served = drops_sentry t l r before after copier applier at served.0 served.1
at_dropping t l r before after copier applier cutover answers.Lost at fits served =
    end_is t l r after copier applier (hold_after cutover.hold (Attempting Dropping) answers.Lost) Nothing cutover.renamer_waits true (ap (λ h. hold_after h (Attempting Dropping) answers.Lost) fits.0) fits.1
    (record { lock = tt; rename = lost_at_drop t l r before after copier applier at served })
at_dropping t l r before after copier applier cutover (answers.TimedOut waited) at fits served = absurd served
at_dropping t l r before after copier applier cutover answer at fits served = rests_rename t l r before after copier applier at served

at_unlocking : (t : List ℕ) (l r : ℕ) (before after : Scene) (copier : Copier) (applier : Applier) (cutover : CutOver) (answer : Answer) → Guards t before copier applier cutover l r (Attempting Unlocking) → Fits (Attempting Unlocking) cutover.hold cutover.renamer_waits → LockerMay (Attempting Unlocking) cutover.hold answer
    → OnlyFreesLock t l r before after → Guards t after copier applier (after_locker cutover (Attempting Unlocking) answer) l r (locker_phase (Attempting Unlocking) answer)
at_unlocking t l r before after copier applier cutover (answers.Ok count) at fits may served = where_it (AfterUnlock t after copier applier l r) cutover.renamer_waits (unlocks t l r before after copier applier at served)
at_unlocking t l r before after copier applier cutover answers.Lost at fits may served = loses t l r before after copier applier cutover Unlocking answers.Lost at fits refl (ap (λ h. hold_after h (Attempting Unlocking) answers.Lost) fits.0) served
at_unlocking t l r before after copier applier cutover answer at fits may served = absurd may

at_resting : (t : List ℕ) (l r : ℕ) (before after : Scene) (copier : Copier) (applier : Applier) (cutover : CutOver) (answer : Answer) → Fits Resting cutover.hold cutover.renamer_waits → LockerServes t l r Resting cutover.hold answer before after
    → Guards t after copier applier (after_locker cutover Resting answer) l r (locker_phase Resting answer)
at_resting t l r before after copier applier cutover (answers.Ok count) fits served = record { sentry = served }
at_resting t l r before after copier applier cutover (answers.Waits by) fits served = tt
at_resting t l r before after copier applier cutover answer fits served =
    end_is t l r after copier applier (hold_after cutover.hold Resting answer) (hold_of_guard answer) cutover.renamer_waits false (ap (λ h. hold_after h Resting answer) fits.0) fits.1 (record { lock = tt; rename = tt })

-- in an attempt's end
at_ending : (t : List ℕ) (l r : ℕ) (before after : Scene) (copier : Copier) (applier : Applier) (waits : Bool) (clearing : Clearing) (hold : Hold) (answer : Answer) → AtEnd t before copier applier l r hold waits → Fits (Ending Looking) hold waits → LockerMay (Ending clearing) hold answer
    → LockerServes t l r (Ending clearing) hold answer before after → AtEnd t after copier applier l r (hold_after hold (Ending clearing) answer) waits
at_ending t l r before after copier applier waits clearing Nothing answer at fits may served =
    subst (λ a. AtEnd t after copier applier l r (hold_of_guard a) waits) (sym may) (lock_is_freed t l r before after copier applier Nothing waits at served)
at_ending t l r before after copier applier waits clearing Locks answer at fits may served = lock_is_freed t l r before after copier applier Locks waits at served
at_ending t l r before after copier applier waits clearing WaitsToLock (answers.Ok count) at fits may served = end_is t l r after copier applier Locks Locks waits false refl fits (record { lock = served; rename = tt })
at_ending t l r before after copier applier waits clearing WaitsToLock (answers.Waits by) at fits may served = end_is t l r after copier applier WaitsToLock WaitsToLock waits false refl fits (record { lock = tt; rename = tt })
at_ending t l r before after copier applier waits clearing WaitsToLock answer at fits may served = end_is t l r after copier applier Nothing Nothing waits false refl fits (record { lock = tt; rename = tt })
at_ending t l r before after copier applier waits clearing WaitsToGuard (answers.Waits by) at fits may served = end_is t l r after copier applier WaitsToGuard WaitsToGuard waits false refl fits (record { lock = tt; rename = tt })
at_ending t l r before after copier applier waits clearing WaitsToGuard answer at fits may served = end_is t l r after copier applier Nothing Nothing waits false refl fits (record { lock = tt; rename = tt })

-- *The locker's turn*
pub locker_guards : (t : List ℕ) (l r : ℕ) (before after : Scene) (copier : Copier) (applier : Applier) (cutover : CutOver) (phase : Phase) (answer : Answer) → Guards t before copier applier cutover l r phase → Fits phase cutover.hold cutover.renamer_waits → LockerMay phase cutover.hold answer
    → LockerServes t l r phase cutover.hold answer before after → Guards t after copier applier (after_locker cutover phase answer) l r (locker_phase phase answer)
locker_guards t l r before after copier applier cutover Resting answer at fits may served = at_resting t l r before after copier applier cutover answer fits served
locker_guards t l r before after copier applier cutover (Attempting Guarding) answer at fits may served = at_guarding t l r before after copier applier cutover answer fits served
locker_guards t l r before after copier applier cutover (Attempting Locking) answer at fits may served = at_locking t l r before after copier applier cutover answer at fits served
locker_guards t l r before after copier applier cutover (Attempting Hinting) answer at fits may served = loses t l r before after copier applier cutover Hinting answer at fits may (ap (λ h. hold_after h (Attempting Hinting) answers.Lost) fits.0) served
locker_guards t l r before after copier applier cutover (Attempting (Draining turns)) answer at fits may served = loses t l r before after copier applier cutover (Draining turns) answer at fits may (ap (λ h. hold_after h (Attempting (Draining turns)) answers.Lost) fits.0) served
locker_guards t l r before after copier applier cutover (Attempting (ReadingCounter drain)) answer at fits may served = loses t l r before after copier applier cutover (ReadingCounter drain) answer at fits may (ap (λ h. hold_after h (Attempting (ReadingCounter drain)) answers.Lost) fits.0) served
locker_guards t l r before after copier applier cutover (Attempting (SettingCounter number drain)) answer at fits may served = loses t l r before after copier applier cutover (SettingCounter number drain) answer at fits may (ap (λ h. hold_after h (Attempting (SettingCounter number drain)) answers.Lost) fits.0) served
locker_guards t l r before after copier applier cutover (Attempting Drained) answer at fits may served = loses t l r before after copier applier cutover Drained answer at fits may (ap (λ h. hold_after h (Attempting Drained) answers.Lost) fits.0) served
locker_guards t l r before after copier applier cutover (Attempting Showing) answer at fits may served = loses t l r before after copier applier cutover Showing answer at fits may (ap (λ h. hold_after h (Attempting Showing) answers.Lost) fits.0) served
locker_guards t l r before after copier applier cutover (Attempting Dropping) answer at fits may served = at_dropping t l r before after copier applier cutover answer at fits served
locker_guards t l r before after copier applier cutover (Attempting Unlocking) answer at fits may served = at_unlocking t l r before after copier applier cutover answer at fits may served
locker_guards t l r before after copier applier cutover (Attempting Exchanging) answer at fits may served = loses t l r before after copier applier cutover Exchanging answer at fits may (ap (λ h. hold_after h (Attempting Exchanging) answers.Lost) fits) served
locker_guards t l r before after copier applier cutover (Ending clearing) answer at fits may served = at_ending t l r before after copier applier cutover.renamer_waits clearing cutover.hold answer at (looking_fits clearing cutover.hold cutover.renamer_waits fits) may served
locker_guards t l r before after copier applier cutover (Finishing clearing) answer at fits may served = tt
locker_guards t l r before after copier applier cutover Finished answer at fits may served = tt
