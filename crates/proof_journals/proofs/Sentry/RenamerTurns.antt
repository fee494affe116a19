-- The sentry relation through a turn of the renamer, through one of the inspector in any phase, and through the loss of a
-- session of these that had no work.
use Rattle.std.proofs.Common.{◌≡◌, ◌≢◌, ℕ, Bool, true, false, List, refl, sym, ◌∙◌, subst, inl, inr}
use Rattle.std.specs.Prelude.{◌⊎◌}
use Rattle.server_model.specs.declared.answer.Answer.TheVariants as answers
use Rattle.proof_journals.specs.Sentry.Sentries.{Scene, HasSentry, MayExchange, IsAlone, IsLocked, IsDrained, IsHinted, AfterFailure, AfterUnlock, WhereItWaits, HoldsLock, AtEnd, Guards, Rests, Fits, MayAnswer, IsGone, RenameRests, RefusesRename, RenamerServes}
use Rattle.proof_journals.proofs.Sentry.Guarding.{rename_is_gone}
use Rattle.proof_journals.proofs.Sentry.Fitting.{failed_fits, none_fits}
use Rattle.proof_journals.proofs.Sentry.LockerTurns.{rests_rename}
use Rattle.proof_journals.proofs.Sentry.OtherTurns.{renamer_fails}
use Rattle.server_model.specs.declared.answer.Answer.{Answer}
use Rattle.tool_program.specs.declared.chunk_copier.copier.Copier.{Copier}
use Rattle.tool_program.specs.declared.event_applier.applier.Applier.{Applier}
use Rattle.tool_program.specs.declared.cutover_core.cutover.CutOver.{CutOver}
use Rattle.tool_program.specs.declared.cutover_core.cutover.Phase.{Phase}
use Rattle.tool_program.specs.declared.cutover_core.cutover.Phase.TheVariants.{Resting, Attempting, Ending, Finishing, Finished}
use Rattle.tool_program.specs.declared.cutover_core.cutover.Stage.TheVariants.{Guarding, Locking, Hinting, ReadingCounter, SettingCounter, Draining, Drained, Showing, Dropping, Unlocking, Exchanging}
use Rattle.tool_program.specs.declared.cutover_core.cutover.Drain.TheVariants.{Turns, Passed}
use Rattle.tool_program.specs.declared.cutover_core.cutover.Hold.{Hold}
use Rattle.tool_program.specs.declared.cutover_core.cutover.Hold.TheVariants.{Nothing, WaitsToGuard, WaitsToLock, Locks}
use Rattle.tool_program.specs.declared.cutover_core.cutover.Clearing.TheVariants.{Looking, Drops}
use Rattle.tool_program.specs.declared.cutover_core.cutover.Clearing.{Clearing}
use Rattle.tool_program.specs.CutoverCore.CutOvers.{renamer_phase, is_wait}

rests_lock : (t : List ℕ) (l r : ℕ) (before after : Scene) → Rests t r before after → IsLocked t before.held l → IsLocked t after.held l
rests_lock t l r before after rests locked = subst (λ held. IsLocked t held l) (sym rests.held) locked

rests_drain : (t : List ℕ) (r : ℕ) (before after : Scene) (copier : Copier) (applier : Applier) → Rests t r before after → IsDrained t before.log copier applier → IsDrained t after.log copier applier
rests_drain t r before after copier applier rests drained = subst (λ log. IsDrained t log copier applier) (sym rests.log) drained

rests_may : (t : List ℕ) (l r : ℕ) (before after : Scene) (copier : Copier) (applier : Applier) → Rests t r before after → MayExchange t before copier applier l → MayExchange t after copier applier l
rests_may t l r before after copier applier rests may = record { alone = subst (λ held. IsAlone t held l) (sym rests.held) may.alone; drained = rests_drain t r before after copier applier rests may.drained }

rests_end : (t : List ℕ) (l r : ℕ) (before after : Scene) (copier : Copier) (applier : Applier) (hold : Hold) (waits : Bool) → Rests t r before after → AtEnd t before copier applier l r hold waits → AtEnd t after copier applier l r hold waits
rests_end t l r before after copier applier hold waits rests at = record { lock = locked hold at.lock; rename = by waits at.rename }
  where
    locked : (hold : Hold) → HoldsLock t before l hold → HoldsLock t after l hold
    locked Locks lock = rests_lock t l r before after rests lock
    locked Nothing lock = tt
    locked WaitsToGuard lock = tt
    locked WaitsToLock lock = tt

    both : HasSentry t before ⊎ MayExchange t before copier applier l → HasSentry t after ⊎ MayExchange t after copier applier l
    both (inl sentry) = inl (rests.tables ∙ sentry)
    both (inr may) = inr (rests_may t l r before after copier applier rests may)

    by : (waits : Bool) → WhereItWaits waits (AfterFailure t before copier applier l r) → WhereItWaits waits (AfterFailure t after copier applier l r)
    by false claim = tt
    by true claim = record { waits = rests.waits claim.waits; guarded = both claim.guarded }

-- where nothing changes, every line stays
pub rests_keep : (t : List ℕ) (l r : ℕ) (before after : Scene) (copier : Copier) (applier : Applier) (cutover : CutOver) (phase : Phase) → Rests t r before after → Guards t before copier applier cutover l r phase → Guards t after copier applier cutover l r phase
rests_keep t l r before after copier applier cutover Resting rests at = tt
rests_keep t l r before after copier applier cutover (Attempting Guarding) rests at = tt
rests_keep t l r before after copier applier cutover (Attempting Locking) rests at = record { sentry = rests.tables ∙ at.sentry }
rests_keep t l r before after copier applier cutover (Attempting Hinting) rests at = record { sentry = rests.tables ∙ at.sentry; locked = rests_lock t l r before after rests at.locked }
rests_keep t l r before after copier applier cutover (Attempting (Draining turns)) rests at =
    record { sentry = rests.tables ∙ at.sentry; locked = rests_lock t l r before after rests at.locked; hinted = subst (λ log. IsHinted t cutover.attempts log) (sym rests.log) at.hinted }
rests_keep t l r before after copier applier cutover (Attempting (ReadingCounter (Turns turns))) rests at =
    record { sentry = rests.tables ∙ at.sentry; locked = rests_lock t l r before after rests at.locked; hinted = subst (λ log. IsHinted t cutover.attempts log) (sym rests.log) at.hinted }
rests_keep t l r before after copier applier cutover (Attempting (SettingCounter number (Turns turns))) rests at =
    record { sentry = rests.tables ∙ at.sentry; locked = rests_lock t l r before after rests at.locked; hinted = subst (λ log. IsHinted t cutover.attempts log) (sym rests.log) at.hinted }
rests_keep t l r before after copier applier cutover (Attempting Drained) rests at =
    record { sentry = rests.tables ∙ at.sentry; locked = rests_lock t l r before after rests at.locked; drained = rests_drain t r before after copier applier rests at.drained }
rests_keep t l r before after copier applier cutover (Attempting (ReadingCounter Passed)) rests at =
    record { sentry = rests.tables ∙ at.sentry; locked = rests_lock t l r before after rests at.locked; drained = rests_drain t r before after copier applier rests at.drained }
rests_keep t l r before after copier applier cutover (Attempting (SettingCounter number Passed)) rests at =
    record { sentry = rests.tables ∙ at.sentry; locked = rests_lock t l r before after rests at.locked; drained = rests_drain t r before after copier applier rests at.drained }
rests_keep t l r before after copier applier cutover (Attempting Showing) rests at = rests_rename t l r before after copier applier at rests
rests_keep t l r before after copier applier cutover (Attempting Dropping) rests at = rests_rename t l r before after copier applier at rests
rests_keep t l r before after copier applier cutover (Attempting Unlocking) rests at =
    record { gone = rests.tables ∙ at.gone; locked = rests_lock t l r before after rests at.locked; drained = rests_drain t r before after copier applier rests at.drained; waits = rests.waits at.waits }
rests_keep t l r before after copier applier cutover (Attempting Exchanging) rests at = by cutover.renamer_waits at
  where
    by : (b : Bool) → WhereItWaits b (AfterUnlock t before copier applier l r) → WhereItWaits b (AfterUnlock t after copier applier l r)
    by false at = tt
    by true at = record { gone = rests.tables ∙ at.gone; waits = rests.waits at.waits; may = rests_may t l r before after copier applier rests at.may }
rests_keep t l r before after copier applier cutover (Ending clearing) rests at = rests_end t l r before after copier applier cutover.hold cutover.renamer_waits rests at
rests_keep t l r before after copier applier cutover (Finishing clearing) rests at = tt
rests_keep t l r before after copier applier cutover Finished rests at = tt

-- THE RENAMER

abbrev pub after_renamer : CutOver → Answer → CutOver
after_renamer cutover answer = record cutover { renamer_waits = is_wait answer }

-- lost, or timed out
renamer_lost : (t : List ℕ) (l r : ℕ) (before after : Scene) (copier : Copier) (applier : Applier) (cutover : CutOver) (phase : Phase) → l ≢ r → IsGone t r before after → Fits phase cutover.hold cutover.renamer_waits → Guards t before copier applier cutover l r phase
    → Guards t after copier applier (record cutover { renamer_waits = false }) l r (renamer_phase phase answers.Lost)
renamer_lost t l r before after copier applier cutover Resting apart gone fits at = tt
renamer_lost t l r before after copier applier cutover (Attempting stage) apart gone fits at = renamer_fails t l r before after copier applier cutover stage apart fits gone.0 gone.1 at
renamer_lost t l r before after copier applier cutover (Ending clearing) apart gone fits at = rename_is_gone t l r before after copier applier cutover.hold cutover.renamer_waits apart at gone.0 gone.1
renamer_lost t l r before after copier applier cutover (Finishing clearing) apart gone fits at = tt
renamer_lost t l r before after copier applier cutover Finished apart gone fits at = tt

-- it waits, still or from now on
renamer_waits : (t : List ℕ) (l r : ℕ) (before after : Scene) (copier : Copier) (applier : Applier) (cutover : CutOver) (phase : Phase) (by : ℕ) → RenameRests t r before after → MayAnswer phase cutover.renamer_waits → Guards t before copier applier cutover l r phase → Fits phase cutover.hold cutover.renamer_waits
    → Guards t after copier applier (record cutover { renamer_waits = true }) l r (renamer_phase phase (answers.Waits by))
renamer_waits t l r before after copier applier cutover (Attempting Drained) n rests may at fits =
    record { sentry = rests.rests.tables ∙ at.sentry; locked = rests_lock t l r before after rests.rests at.locked; drained = rests_drain t r before after copier applier rests.rests at.drained; waits = rests.waits }
renamer_waits t l r before after copier applier cutover (Attempting Showing) n rests may at fits = rests_rename t l r before after copier applier at rests.rests
renamer_waits t l r before after copier applier cutover (Attempting Dropping) n rests may at fits = rests_rename t l r before after copier applier at rests.rests
renamer_waits t l r before after copier applier cutover (Attempting Unlocking) n rests may at fits =
    rests_keep t l r before after copier applier cutover (Attempting Unlocking) rests.rests at
renamer_waits t l r before after copier applier cutover (Attempting Exchanging) n rests may at fits =
    subst (λ b. WhereItWaits b (AfterUnlock t after copier applier l r)) may (rests_keep t l r before after copier applier cutover (Attempting Exchanging) rests.rests at)
renamer_waits t l r before after copier applier cutover (Ending clearing) n rests may at fits =
    subst (λ b. AtEnd t after copier applier l r cutover.hold b) may (rests_end t l r before after copier applier cutover.hold cutover.renamer_waits rests.rests at)
renamer_waits t l r before after copier applier cutover Resting n rests may at fits = absurd may
renamer_waits t l r before after copier applier cutover (Attempting Guarding) n rests may at fits = absurd may
renamer_waits t l r before after copier applier cutover (Attempting Locking) n rests may at fits = absurd may
renamer_waits t l r before after copier applier cutover (Attempting Hinting) n rests may at fits = absurd may
renamer_waits t l r before after copier applier cutover (Attempting (Draining turns)) n rests may at fits = absurd may
renamer_waits t l r before after copier applier cutover (Attempting (ReadingCounter drain)) n rests may at fits = absurd may
renamer_waits t l r before after copier applier cutover (Attempting (SettingCounter number drain)) n rests may at fits = absurd may
renamer_waits t l r before after copier applier cutover (Finishing clearing) n rests may at fits = absurd may
renamer_waits t l r before after copier applier cutover Finished n rests may at fits = absurd may

-- it is refused with an error
renamer_refused : (t : List ℕ) (l r : ℕ) (before after : Scene) (copier : Copier) (applier : Applier) (cutover : CutOver) (phase : Phase) → l ≢ r → RefusesRename t r phase before after → MayAnswer phase cutover.renamer_waits → Guards t before copier applier cutover l r phase
    → Guards t after copier applier (record cutover { renamer_waits = false }) l r phase
renamer_refused t l r before after copier applier cutover (Attempting Drained) apart refused may at = absurd refused
renamer_refused t l r before after copier applier cutover (Attempting Showing) apart refused may at = absurd refused
renamer_refused t l r before after copier applier cutover (Attempting Dropping) apart refused may at = absurd refused
renamer_refused t l r before after copier applier cutover (Attempting Unlocking) apart refused may at = absurd refused
renamer_refused t l r before after copier applier cutover (Attempting Exchanging) apart refused may at = tt
renamer_refused t l r before after copier applier cutover (Ending clearing) apart refused may at = rename_is_gone t l r before after copier applier cutover.hold cutover.renamer_waits apart at refused.0 refused.1
renamer_refused t l r before after copier applier cutover Resting apart refused may at = absurd may
renamer_refused t l r before after copier applier cutover (Attempting Guarding) apart refused may at = absurd may
renamer_refused t l r before after copier applier cutover (Attempting Locking) apart refused may at = absurd may
renamer_refused t l r before after copier applier cutover (Attempting Hinting) apart refused may at = absurd may
renamer_refused t l r before after copier applier cutover (Attempting (Draining turns)) apart refused may at = absurd may
renamer_refused t l r before after copier applier cutover (Attempting (ReadingCounter drain)) apart refused may at = absurd may
renamer_refused t l r before after copier applier cutover (Attempting (SettingCounter number drain)) apart refused may at = absurd may
renamer_refused t l r before after copier applier cutover (Finishing clearing) apart refused may at = absurd may
renamer_refused t l r before after copier applier cutover Finished apart refused may at = absurd may

-- *The renamer's turn*
pub renamer_guards : (t : List ℕ) (l r : ℕ) (before after : Scene) (copier : Copier) (applier : Applier) (cutover : CutOver) (phase : Phase) (answer : Answer) → l ≢ r → Guards t before copier applier cutover l r phase → Fits phase cutover.hold cutover.renamer_waits → (answer ≡ answers.Lost) ⊎ MayAnswer phase cutover.renamer_waits
    → RenamerServes t r phase answer before after → Guards t after copier applier (after_renamer cutover answer) l r (renamer_phase phase answer)
renamer_guards t l r before after copier applier cutover phase (answers.Ok count) apart at fits may served = tt
renamer_guards t l r before after copier applier cutover phase answers.Lost apart at fits may served = renamer_lost t l r before after copier applier cutover phase apart served fits at
renamer_guards t l r before after copier applier cutover phase (answers.TimedOut waited) apart at fits may served = renamer_lost t l r before after copier applier cutover phase apart served fits at
renamer_guards t l r before after copier applier cutover phase (answers.Waits by) apart at fits (inr may) served = renamer_waits t l r before after copier applier cutover phase by served may at fits
renamer_guards t l r before after copier applier cutover phase (answers.Waits by) apart at fits (inl is) served = absurd cc
renamer_guards t l r before after copier applier cutover phase answer apart at fits (inr may) served = renamer_refused t l r before after copier applier cutover phase apart served may at
renamer_guards t l r before after copier applier cutover phase answer apart at fits (inl is) served = absurd cc

-- .. and the fit
waits_fit : (phase : Phase) (hold : Hold) (waits : Bool) (by : ℕ) → Fits phase hold waits → MayAnswer phase waits → Fits (renamer_phase phase (answers.Waits by)) hold true
waits_fit (Attempting Drained) hold waits by fits may = (fits.0, refl)
waits_fit (Attempting Showing) hold waits by fits may = (fits.0, refl)
waits_fit (Attempting Dropping) hold waits by fits may = (fits.0, refl)
waits_fit (Attempting Unlocking) hold waits by fits may = (fits.0, refl)
waits_fit (Attempting Exchanging) hold waits by fits may = fits
waits_fit (Ending clearing) hold waits by fits may = subst (λ b. Fits (Ending clearing) hold b) may fits
waits_fit Resting hold waits by fits may = absurd may
waits_fit (Attempting Guarding) hold waits by fits may = absurd may
waits_fit (Attempting Locking) hold waits by fits may = absurd may
waits_fit (Attempting Hinting) hold waits by fits may = absurd may
waits_fit (Attempting (Draining turns)) hold waits by fits may = absurd may
waits_fit (Attempting (ReadingCounter drain)) hold waits by fits may = absurd may
waits_fit (Attempting (SettingCounter number drain)) hold waits by fits may = absurd may
waits_fit (Finishing clearing) hold waits by fits may = absurd may
waits_fit Finished hold waits by fits may = absurd may

none_ends : (clearing : Clearing) (hold : Hold) (waits : Bool) → Fits (Ending clearing) hold waits → Fits (Ending clearing) hold false
none_ends Looking hold waits fits = none_fits hold waits fits
none_ends (Drops left) hold waits fits = (fits.0, refl)

lost_fit : (phase : Phase) (hold : Hold) (waits : Bool) → Fits phase hold waits → Fits (renamer_phase phase answers.Lost) hold false
lost_fit Resting hold waits fits = (fits.0, refl)
lost_fit (Attempting stage) hold waits fits = none_fits hold waits (failed_fits stage hold waits fits)
lost_fit (Ending clearing) hold waits fits = none_ends clearing hold waits fits
lost_fit (Finishing clearing) hold waits fits = refl
lost_fit Finished hold waits fits = refl

refused_fit : (t : List ℕ) (r : ℕ) (before after : Scene) (phase : Phase) (hold : Hold) (waits : Bool) → Fits phase hold waits → MayAnswer phase waits → RefusesRename t r phase before after → Fits phase hold false
refused_fit t r before after (Attempting Drained) hold waits fits may refused = absurd refused
refused_fit t r before after (Attempting Showing) hold waits fits may refused = absurd refused
refused_fit t r before after (Attempting Dropping) hold waits fits may refused = absurd refused
refused_fit t r before after (Attempting Unlocking) hold waits fits may refused = absurd refused
refused_fit t r before after (Attempting Exchanging) hold waits fits may refused = fits
refused_fit t r before after (Ending clearing) hold waits fits may refused = none_ends clearing hold waits fits
refused_fit t r before after Resting hold waits fits may refused = absurd may
refused_fit t r before after (Attempting Guarding) hold waits fits may refused = absurd may
refused_fit t r before after (Attempting Locking) hold waits fits may refused = absurd may
refused_fit t r before after (Attempting Hinting) hold waits fits may refused = absurd may
refused_fit t r before after (Attempting (Draining turns)) hold waits fits may refused = absurd may
refused_fit t r before after (Attempting (ReadingCounter drain)) hold waits fits may refused = absurd may
refused_fit t r before after (Attempting (SettingCounter number drain)) hold waits fits may refused = absurd may
refused_fit t r before after (Finishing clearing) hold waits fits may refused = absurd may
refused_fit t r before after Finished hold waits fits may refused = absurd may

pub renamer_fits : (t : List ℕ) (r : ℕ) (before after : Scene) (phase : Phase) (hold : Hold) (waits : Bool) (answer : Answer) → Fits phase hold waits → (answer ≡ answers.Lost) ⊎ MayAnswer phase waits → RenamerServes t r phase answer before after → Fits (renamer_phase phase answer) hold (is_wait answer)
renamer_fits t r before after phase hold waits (answers.Ok count) fits may served = refl
renamer_fits t r before after phase hold waits answers.Lost fits may served = lost_fit phase hold waits fits
renamer_fits t r before after phase hold waits (answers.TimedOut waited) fits may served = lost_fit phase hold waits fits
renamer_fits t r before after phase hold waits (answers.Waits by) fits (inr may) served = waits_fit phase hold waits by fits may
renamer_fits t r before after phase hold waits (answers.Waits by) fits (inl is) served = absurd cc
renamer_fits t r before after phase hold waits answer fits (inr may) served = refused_fit t r before after phase hold waits fits may served
renamer_fits t r before after phase hold waits answer fits (inl is) served = absurd cc
