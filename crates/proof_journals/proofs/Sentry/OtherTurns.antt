-- The sentry relation through the turns of the inspector, the applier and the renamer, and through a revert.
use Rattle.std.proofs.Common.{◌≡◌, ◌≢◌, ℕ, ◌+◌, nat_eq, nat_le, Bool, true, false, cond, List, refl, inl, inr}
use Rattle.std.specs.Prelude.{◌⊎◌}
use Rattle.std.proofs.lemmas.Bool.{eqb-true}
use Rattle.server_model.specs.declared.answer.Answer.TheVariants as answers
use Rattle.server_locks.specs.MetadataLocks.Grants.{holds}
use Rattle.proof_journals.specs.Sentry.Sentries.{WritesHint, InspectorServes, HasTurned, Scene, IsDrained, KnowsHint, AfterHint, AfterDrain, AfterRename, AfterFailure, WhereItWaits, HoldsLock, AtEnd, Guards, OthersTurn, OthersHold, AfterUnlock, Fits, MayAnswer, Rests, IsLocked}
use Rattle.proof_journals.proofs.Machine.CuttingOver.{drain_cases}
use Rattle.proof_journals.proofs.Sentry.Guarding.{others_keep, writes_hint, drains, rename_is_gone}
use Rattle.proof_journals.proofs.Sentry.LockerTurns.{ends_guarded}
use Rattle.server_model.specs.declared.answer.Answer.{Answer}
use Rattle.tool_program.specs.declared.chunk_copier.copier.Copier.{Copier}
use Rattle.tool_program.specs.declared.event_applier.applier.Applier.{Applier}
use Rattle.tool_program.specs.declared.cutover_core.cutover.CutOver.{CutOver}
use Rattle.tool_program.specs.declared.cutover_core.cutover.Phase.{Phase}
use Rattle.tool_program.specs.declared.cutover_core.cutover.Phase.TheVariants.{Resting, Attempting, Ending, Finishing, Finished}
use Rattle.tool_program.specs.declared.cutover_core.cutover.Stage.TheVariants.{Guarding, Locking, Hinting, ReadingCounter, SettingCounter, Draining, Drained, Showing, Dropping, Unlocking, Exchanging}
use Rattle.tool_program.specs.declared.cutover_core.cutover.Drain.TheVariants.{Turns, Passed}
use Rattle.tool_program.specs.declared.cutover_core.cutover.Stage.{Stage}
use Rattle.tool_program.specs.declared.cutover_core.cutover.Clearing.TheVariants.{Looking}
use Rattle.tool_program.specs.CutoverCore.CutOvers.{hinted, inspector_phase, inspector_stage, shows_wait, is_bad, drained, stands}

-- THE INSPECTOR, in an attempt that may succeed. Its turn is one of another session than the locker's and the renamer's;
-- where the hint row is written, it is what the turn logged, and no hint row before it is the attempt's.
shown : (t : List ℕ) (l r : ℕ) (scene : Scene) (copier : Copier) (applier : Applier) (cutover : CutOver) (b : Bool) → AfterRename t scene copier applier l r → Guards t scene copier applier cutover l r (Attempting (cond b Dropping Showing))
shown t l r scene copier applier cutover true at = at
shown t l r scene copier applier cutover false at = at

inspector_next : (t : List ℕ) (l r i : ℕ) (before after : Scene) (copier : Copier) (applier : Applier) (cutover : CutOver) (stage : Stage) (answer : Answer) → l ≢ i → r ≢ i → OthersTurn t r i before after → InspectorServes t cutover.attempts stage answer before after
    → Guards t before copier applier cutover l r (Attempting stage) → Guards t after copier applier cutover l r (Attempting (inspector_stage cutover.has_counter stage answer))
inspector_next t l r i before after copier applier cutover Hinting (answers.Ok count) apart other turn served at = by cutover.has_counter where
  by : (counter : Bool) → Guards t after copier applier cutover l r (Attempting (hinted counter))
  by true = writes_hint t cutover.attempts l before after at served.earlier served.tables served.held served.log
  by false = writes_hint t cutover.attempts l before after at served.earlier served.tables served.held served.log
inspector_next t l r i before after copier applier cutover (ReadingCounter (Turns turns)) (answers.At number) apart other turn served at = others_keep t r i l before after turn copier applier cutover apart other (Attempting (ReadingCounter (Turns turns))) at
inspector_next t l r i before after copier applier cutover (ReadingCounter Passed) (answers.At number) apart other turn served at = others_keep t r i l before after turn copier applier cutover apart other (Attempting (ReadingCounter Passed)) at
inspector_next t l r i before after copier applier cutover (SettingCounter number (Turns turns)) (answers.Ok count) apart other turn served at = others_keep t r i l before after turn copier applier cutover apart other (Attempting (SettingCounter number (Turns turns))) at
inspector_next t l r i before after copier applier cutover (SettingCounter number Passed) (answers.Ok count) apart other turn served at = others_keep t r i l before after turn copier applier cutover apart other (Attempting (SettingCounter number Passed)) at
inspector_next t l r i before after copier applier cutover Hinting answer apart other turn served at = others_keep t r i l before after turn copier applier cutover apart other (Attempting Hinting) at
inspector_next t l r i before after copier applier cutover Showing (answers.Waiting waiters) apart other turn served at =
    shown t l r after copier applier cutover (shows_wait waiters) (others_keep t r i l before after turn copier applier cutover apart other (Attempting Showing) at)
inspector_next t l r i before after copier applier cutover Showing answer apart other turn served at = others_keep t r i l before after turn copier applier cutover apart other (Attempting Showing) at
inspector_next t l r i before after copier applier cutover Guarding answer apart other turn served at = others_keep t r i l before after turn copier applier cutover apart other (Attempting Guarding) at
inspector_next t l r i before after copier applier cutover Locking answer apart other turn served at = others_keep t r i l before after turn copier applier cutover apart other (Attempting Locking) at
inspector_next t l r i before after copier applier cutover (Draining turns) answer apart other turn served at = others_keep t r i l before after turn copier applier cutover apart other (Attempting (Draining turns)) at
inspector_next t l r i before after copier applier cutover (ReadingCounter drain) answer apart other turn served at = others_keep t r i l before after turn copier applier cutover apart other (Attempting (ReadingCounter drain)) at
inspector_next t l r i before after copier applier cutover (SettingCounter number drain) answer apart other turn served at = others_keep t r i l before after turn copier applier cutover apart other (Attempting (SettingCounter number drain)) at
inspector_next t l r i before after copier applier cutover Drained answer apart other turn served at = others_keep t r i l before after turn copier applier cutover apart other (Attempting Drained) at
inspector_next t l r i before after copier applier cutover Dropping answer apart other turn served at = others_keep t r i l before after turn copier applier cutover apart other (Attempting Dropping) at
inspector_next t l r i before after copier applier cutover Unlocking answer apart other turn served at = others_keep t r i l before after turn copier applier cutover apart other (Attempting Unlocking) at
inspector_next t l r i before after copier applier cutover Exchanging answer apart other turn served at = others_keep t r i l before after turn copier applier cutover apart other (Attempting Exchanging) at

pub inspector_guards : (t : List ℕ) (l r i : ℕ) (before after : Scene) (copier : Copier) (applier : Applier) (cutover : CutOver) (stage : Stage) (answer : Answer) → l ≢ i → r ≢ i → OthersTurn t r i before after → InspectorServes t cutover.attempts stage answer before after
    → Fits (Attempting stage) cutover.hold cutover.renamer_waits → Guards t before copier applier cutover l r (Attempting stage) → Guards t after copier applier cutover l r (inspector_phase cutover (Attempting stage) answer)
inspector_guards t l r i before after copier applier cutover stage answer apart other turn served fits at = by (is_bad answer)
  where
    by : (b : Bool) → Guards t after copier applier cutover l r (cond b (Ending Looking) (Attempting (inspector_stage cutover.has_counter stage answer)))
    by true = ends_guarded t l r after copier applier cutover stage fits (others_keep t r i l before after turn copier applier cutover apart other (Attempting stage) at)
    by false = inspector_next t l r i before after copier applier cutover stage answer apart other turn served at

-- THE APPLIER

-- what is claimed of an applier is claimed of the next one, where all stays applied
pub next_both : (t : List ℕ) (l r : ℕ) (scene : Scene) (copier later : Copier) (applier next : Applier) (cutover : CutOver) → (IsDrained t scene.log copier applier → IsDrained t scene.log later next) → (phase : Phase) → Guards t scene copier applier cutover l r phase
    → Guards t scene later next cutover l r phase
next_both t l r scene copier later applier next cutover goes Resting at = tt
next_both t l r scene copier later applier next cutover goes (Attempting Guarding) at = tt
next_both t l r scene copier later applier next cutover goes (Attempting Locking) at = at
next_both t l r scene copier later applier next cutover goes (Attempting Hinting) at = at
next_both t l r scene copier later applier next cutover goes (Attempting (Draining turns)) at = at
next_both t l r scene copier later applier next cutover goes (Attempting (ReadingCounter (Turns turns))) at = at
next_both t l r scene copier later applier next cutover goes (Attempting (SettingCounter number (Turns turns))) at = at
next_both t l r scene copier later applier next cutover goes (Attempting Drained) at = record { sentry = at.sentry; locked = at.locked; drained = goes at.drained }
next_both t l r scene copier later applier next cutover goes (Attempting (ReadingCounter Passed)) at = record { sentry = at.sentry; locked = at.locked; drained = goes at.drained }
next_both t l r scene copier later applier next cutover goes (Attempting (SettingCounter number Passed)) at = record { sentry = at.sentry; locked = at.locked; drained = goes at.drained }
next_both t l r scene copier later applier next cutover goes (Attempting Showing) at = record { sentry = at.sentry; locked = at.locked; drained = goes at.drained; waits = at.waits }
next_both t l r scene copier later applier next cutover goes (Attempting Dropping) at = record { sentry = at.sentry; locked = at.locked; drained = goes at.drained; waits = at.waits }
next_both t l r scene copier later applier next cutover goes (Attempting Unlocking) at = record { gone = at.gone; locked = at.locked; drained = goes at.drained; waits = at.waits }
next_both t l r scene copier later applier next cutover goes (Attempting Exchanging) at = by cutover.renamer_waits at
  where
    by : (b : Bool) → WhereItWaits b (AfterUnlock t scene copier applier l r) → WhereItWaits b (AfterUnlock t scene later next l r)
    by false at = tt
    by true at = record { gone = at.gone; waits = at.waits; may = record { alone = at.may.alone; drained = goes at.may.drained } }
next_both t l r scene copier later applier next cutover goes (Ending clearing) at = record { lock = at.lock; rename = by cutover.renamer_waits at.rename }
  where
    by : (waits : Bool) → WhereItWaits waits (AfterFailure t scene copier applier l r) → WhereItWaits waits (AfterFailure t scene later next l r)
    by false claim = tt
    by true claim = record { waits = claim.waits; guarded = both claim.guarded }
      where
        both : Rattle.proof_journals.specs.Sentry.Sentries.HasSentry t scene ⊎ Rattle.proof_journals.specs.Sentry.Sentries.MayExchange t scene copier applier l → Rattle.proof_journals.specs.Sentry.Sentries.HasSentry t scene ⊎ Rattle.proof_journals.specs.Sentry.Sentries.MayExchange t scene later next l
        both (inl sentry) = inl sentry
        both (inr may) = inr (record { alone = may.alone; drained = goes may.drained })
next_both t l r scene copier later applier next cutover goes (Finishing clearing) at = tt
next_both t l r scene copier later applier next cutover goes Finished at = tt

next_applier : (t : List ℕ) (l r : ℕ) (scene : Scene) (copier : Copier) (applier next : Applier) (cutover : CutOver) → (IsDrained t scene.log copier applier → IsDrained t scene.log copier next) → (phase : Phase) → Guards t scene copier applier cutover l r phase → Guards t scene copier next cutover l r phase
next_applier t l r scene copier applier next cutover goes phase at = next_both t l r scene copier copier applier next cutover goes phase at

drained_or_not : (t : List ℕ) (l r : ℕ) (scene : Scene) (copier : Copier) (applier next : Applier) (cutover : CutOver) (turns : ℕ) → HasTurned t scene copier applier next cutover.attempts (Attempting (Draining turns)) → copier.is_copied ≡ true → Fits (Attempting (Draining turns)) cutover.hold cutover.renamer_waits
    → AfterHint t scene cutover.attempts l → Guards t scene copier next cutover l r (drained cutover next.hint (Attempting (Draining turns)))
drained_or_not t l r scene copier applier next cutover turns turned copied fits at = by (nat_eq next.hint cutover.attempts) refl (nat_le cutover.drain_limit (turns + 1))
  where
    by : (b : Bool) → nat_eq next.hint cutover.attempts ≡ b → (c : Bool) → Guards t scene copier next cutover l r (cond b (Attempting Drained) (cond c (Ending Looking) (Attempting (Draining (turns + 1)))))
    by true is c = let same : next.hint ≡ cutover.attempts = eqb-true next.hint cutover.attempts is in drains t cutover.attempts l scene copier next at turned.knows same copied turned.within (turned.idle tt same)
    by false is true = ends_guarded t l r scene copier next cutover (Draining turns) fits at
    by false is false = at

-- the applier's turn: first as another session's turn, then by what it knows now
pub applier_guards : (t : List ℕ) (l r : ℕ) (scene : Scene) (copier : Copier) (applier next : Applier) (cutover : CutOver) (phase : Phase) → HasTurned t scene copier applier next cutover.attempts phase → (stands phase ≡ true → copier.is_copied ≡ true) → Fits phase cutover.hold cutover.renamer_waits → Guards t scene copier applier cutover l r phase
    → Guards t scene copier next cutover l r (drained cutover next.hint phase)
applier_guards t l r scene copier applier next cutover (Attempting (Draining turns)) turned copied fits at = drained_or_not t l r scene copier applier next cutover turns turned (copied refl) fits at
applier_guards t l r scene copier applier next cutover (Attempting (ReadingCounter (Turns turns))) turned copied fits at =
    drain_cases (λ (p : Phase). Guards t scene copier next cutover l r p) cutover next.hint turns (ReadingCounter (Turns turns)) (λ same. drains t cutover.attempts l scene copier next at turned.knows same (copied refl) turned.within (turned.idle tt same))
    (ends_guarded t l r scene copier next cutover (ReadingCounter (Turns turns)) fits at) at
applier_guards t l r scene copier applier next cutover (Attempting (SettingCounter number (Turns turns))) turned copied fits at =
    drain_cases (λ (p : Phase). Guards t scene copier next cutover l r p) cutover next.hint turns (SettingCounter number (Turns turns)) (λ same. drains t cutover.attempts l scene copier next at turned.knows same (copied refl) turned.within (turned.idle tt same))
    (ends_guarded t l r scene copier next cutover (SettingCounter number (Turns turns)) fits at) at
applier_guards t l r scene copier applier next cutover Resting turned copied fits at = tt
applier_guards t l r scene copier applier next cutover (Attempting Guarding) turned copied fits at = tt
applier_guards t l r scene copier applier next cutover (Attempting Locking) turned copied fits at = at
applier_guards t l r scene copier applier next cutover (Attempting Hinting) turned copied fits at = at
applier_guards t l r scene copier applier next cutover (Attempting Drained) turned copied fits at = next_applier t l r scene copier applier next cutover turned.stays (Attempting Drained) at
applier_guards t l r scene copier applier next cutover (Attempting (ReadingCounter Passed)) turned copied fits at = next_applier t l r scene copier applier next cutover turned.stays (Attempting (ReadingCounter Passed)) at
applier_guards t l r scene copier applier next cutover (Attempting (SettingCounter number Passed)) turned copied fits at = next_applier t l r scene copier applier next cutover turned.stays (Attempting (SettingCounter number Passed)) at
applier_guards t l r scene copier applier next cutover (Attempting Showing) turned copied fits at = next_applier t l r scene copier applier next cutover turned.stays (Attempting Showing) at
applier_guards t l r scene copier applier next cutover (Attempting Dropping) turned copied fits at = next_applier t l r scene copier applier next cutover turned.stays (Attempting Dropping) at
applier_guards t l r scene copier applier next cutover (Attempting Unlocking) turned copied fits at = next_applier t l r scene copier applier next cutover turned.stays (Attempting Unlocking) at
applier_guards t l r scene copier applier next cutover (Attempting Exchanging) turned copied fits at = next_applier t l r scene copier applier next cutover turned.stays (Attempting Exchanging) at
applier_guards t l r scene copier applier next cutover (Ending clearing) turned copied fits at = next_applier t l r scene copier applier next cutover turned.stays (Ending clearing) at
applier_guards t l r scene copier applier next cutover (Finishing clearing) turned copied fits at = tt
applier_guards t l r scene copier applier next cutover Finished turned copied fits at = tt

-- THE RENAMER

-- its session is lost, or its wait timed out: the attempt ends, and nothing is claimed of a RENAME any more
pub renamer_fails : (t : List ℕ) (l r : ℕ) (before after : Scene) (copier : Copier) (applier : Applier) (cutover : CutOver) (stage : Stage) → l ≢ r → Fits (Attempting stage) cutover.hold cutover.renamer_waits → OthersHold t r before.held after.held → holds after.held r t false ≡ false
    → Guards t before copier applier cutover l r (Attempting stage) → AtEnd t after copier applier l r cutover.hold false
renamer_fails t l r before after copier applier cutover stage apart fits others gone at =
    rename_is_gone t l r before after copier applier cutover.hold cutover.renamer_waits apart (ends_guarded t l r before copier applier cutover stage fits at) others gone
