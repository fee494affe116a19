-- The sentry relation through one turn of the tool's work.
use Rattle.std.proofs.Common.{◌≡◌, ℕ, Bool, true, false, cond, List, refl, sym, ap, subst, inl, inr}
use Rattle.std.specs.Prelude.{◌⊎◌}
use Rattle.server_model.specs.declared.answer.Answer.TheVariants as answers
use Rattle.proof_journals.specs.Sentry.Sentries.{Scene, scene, Guards, Fits, AtEnd, IsDrained, MayAnswer, LockerMay, LockerServes, RenamerServes, OthersTurn, Rests}
use Rattle.proof_journals.specs.Sentry.TurnResults.{IsLockerFree, IsRenamerFree}
use Rattle.proof_journals.proofs.Sentry.LockerTurns.{locker_guards, after_locker}
use Rattle.server_model.specs.declared.answer.Answer.{Answer}
use Rattle.tool_program.specs.declared.chunk_copier.copier.Copier.{Copier}
use Rattle.tool_program.specs.declared.event_applier.applier.Applier.{Applier}
use Rattle.tool_program.specs.declared.cutover_core.cutover.CutOver.{CutOver}
use Rattle.tool_program.specs.declared.cutover_core.cutover.Phase.{Phase}
use Rattle.tool_program.specs.declared.cutover_core.cutover.Phase.TheVariants.{Resting, Attempting, Ending, Finishing, Finished}
use Rattle.tool_program.specs.declared.cutover_core.cutover.Stage.TheVariants.{Guarding, Locking, Hinting, ReadingCounter, SettingCounter, Draining, Drained, Showing, Dropping, Unlocking, Exchanging}
use Rattle.tool_program.specs.declared.cutover_core.cutover.Drain.TheVariants.{Turns, Passed}
use Rattle.tool_program.specs.declared.cutover_core.cutover.Clearing.TheVariants.{Looking, Drops}
use Rattle.tool_program.specs.declared.cutover_core.cutover.Leftovers.{Leftovers}
use Rattle.tool_program.specs.declared.cutover_core.cutover.Clearing.{Clearing}
use Rattle.tool_program.specs.CutoverCore.Attempts.{is_clear, without_first}
use Rattle.tool_program.specs.CutoverCore.CutOvers.{stands, begun, ended, drained, locker_took, locker_phase, inspector_phase, renamer_phase, hold_after, attempts_after, left_at_end, finishing_after}

-- the relation reads three fields of the cut-over
pub guards_of : (t : List ℕ) (l r : ℕ) (scene : Scene) (copier : Copier) (applier : Applier) (a b : CutOver) (phase : Phase) → a.attempts ≡ b.attempts → a.hold ≡ b.hold → a.renamer_waits ≡ b.renamer_waits → Guards t scene copier applier a l r phase → Guards t scene copier applier b l r phase
guards_of t l r scene copier applier a b Resting e f g at = tt
guards_of t l r scene copier applier a b (Attempting Guarding) e f g at = tt
guards_of t l r scene copier applier a b (Attempting Locking) e f g at = at
guards_of t l r scene copier applier a b (Attempting Hinting) e f g at = at
guards_of t l r scene copier applier a b (Attempting (Draining turns)) e f g at = subst (λ n. Rattle.proof_journals.specs.Sentry.Sentries.AfterHint t scene n l) e at
guards_of t l r scene copier applier a b (Attempting (ReadingCounter (Turns turns))) e f g at = subst (λ n. Rattle.proof_journals.specs.Sentry.Sentries.AfterHint t scene n l) e at
guards_of t l r scene copier applier a b (Attempting (SettingCounter number (Turns turns))) e f g at = subst (λ n. Rattle.proof_journals.specs.Sentry.Sentries.AfterHint t scene n l) e at
guards_of t l r scene copier applier a b (Attempting Drained) e f g at = at
guards_of t l r scene copier applier a b (Attempting (ReadingCounter Passed)) e f g at = at
guards_of t l r scene copier applier a b (Attempting (SettingCounter number Passed)) e f g at = at
guards_of t l r scene copier applier a b (Attempting Showing) e f g at = at
guards_of t l r scene copier applier a b (Attempting Dropping) e f g at = at
guards_of t l r scene copier applier a b (Attempting Unlocking) e f g at = at
guards_of t l r scene copier applier a b (Attempting Exchanging) e f g at = subst (λ w. Rattle.proof_journals.specs.Sentry.Sentries.WhereItWaits w (Rattle.proof_journals.specs.Sentry.Sentries.AfterUnlock t scene copier applier l r)) g at
guards_of t l r scene copier applier a b (Ending clearing) e f g at = subst (λ h. AtEnd t scene copier applier l r h b.renamer_waits) f (subst (λ w. AtEnd t scene copier applier l r a.hold w) g at)
guards_of t l r scene copier applier a b (Finishing clearing) e f g at = tt
guards_of t l r scene copier applier a b Finished e f g at = tt

-- the attempts' number bears on the drain alone
guards_begun : (t : List ℕ) (l r : ℕ) (scene : Scene) (copier : Copier) (applier : Applier) (a b : CutOver) (answer : Answer) → a.hold ≡ b.hold → a.renamer_waits ≡ b.renamer_waits → Guards t scene copier applier a l r (begun answer) → Guards t scene copier applier b l r (begun answer)
guards_begun t l r scene copier applier a b (answers.Ok count) f g at = at
guards_begun t l r scene copier applier a b (answers.Waits by) f g at = tt
guards_begun t l r scene copier applier a b answer f g at = subst (λ h. AtEnd t scene copier applier l r h b.renamer_waits) f (subst (λ w. AtEnd t scene copier applier l r a.hold w) g at)

-- a line that names no session of the locker, or of the renamer, is the same for every one
locker_free : (t : List ℕ) (l k r : ℕ) (scene : Scene) (copier : Copier) (applier : Applier) (cutover : CutOver) (phase : Phase) → IsLockerFree phase → Guards t scene copier applier cutover l r phase → Guards t scene copier applier cutover k r phase
locker_free t l k r scene copier applier cutover Resting free at = tt
locker_free t l k r scene copier applier cutover (Attempting Guarding) free at = tt
locker_free t l k r scene copier applier cutover (Attempting Locking) free at = at
locker_free t l k r scene copier applier cutover (Finishing clearing) free at = tt
locker_free t l k r scene copier applier cutover Finished free at = tt
locker_free t l k r scene copier applier cutover (Attempting Hinting) free at = absurd free
locker_free t l k r scene copier applier cutover (Attempting (Draining turns)) free at = absurd free
locker_free t l k r scene copier applier cutover (Attempting (ReadingCounter drain)) free at = absurd free
locker_free t l k r scene copier applier cutover (Attempting (SettingCounter number drain)) free at = absurd free
locker_free t l k r scene copier applier cutover (Attempting Drained) free at = absurd free
locker_free t l k r scene copier applier cutover (Attempting Showing) free at = absurd free
locker_free t l k r scene copier applier cutover (Attempting Dropping) free at = absurd free
locker_free t l k r scene copier applier cutover (Attempting Unlocking) free at = absurd free
locker_free t l k r scene copier applier cutover (Attempting Exchanging) free at = absurd free
locker_free t l k r scene copier applier cutover (Ending clearing) free at = absurd free

pub locker_is : (t : List ℕ) (l k r : ℕ) (scene : Scene) (copier : Copier) (applier : Applier) (cutover : CutOver) (phase : Phase) → (k ≡ l) ⊎ IsLockerFree phase → Guards t scene copier applier cutover l r phase → Guards t scene copier applier cutover k r phase
locker_is t l k r scene copier applier cutover phase (inl is) at = subst (λ s. Guards t scene copier applier cutover s r phase) (sym is) at
locker_is t l k r scene copier applier cutover phase (inr free) at = locker_free t l k r scene copier applier cutover phase free at

renamer_free : (t : List ℕ) (l r k : ℕ) (scene : Scene) (copier : Copier) (applier : Applier) (cutover : CutOver) (phase : Phase) → IsRenamerFree phase → Guards t scene copier applier cutover l r phase → Guards t scene copier applier cutover l k phase
renamer_free t l r k scene copier applier cutover Resting free at = tt
renamer_free t l r k scene copier applier cutover (Attempting Guarding) free at = tt
renamer_free t l r k scene copier applier cutover (Attempting Locking) free at = at
renamer_free t l r k scene copier applier cutover (Finishing clearing) free at = tt
renamer_free t l r k scene copier applier cutover Finished free at = tt
renamer_free t l r k scene copier applier cutover (Attempting Hinting) free at = at
renamer_free t l r k scene copier applier cutover (Attempting (Draining turns)) free at = at
renamer_free t l r k scene copier applier cutover (Attempting (ReadingCounter (Turns turns))) free at = at
renamer_free t l r k scene copier applier cutover (Attempting (SettingCounter number (Turns turns))) free at = at
renamer_free t l r k scene copier applier cutover (Attempting Drained) free at = at
renamer_free t l r k scene copier applier cutover (Attempting (ReadingCounter Passed)) free at = at
renamer_free t l r k scene copier applier cutover (Attempting (SettingCounter number Passed)) free at = at
renamer_free t l r k scene copier applier cutover (Attempting Showing) free at = absurd free
renamer_free t l r k scene copier applier cutover (Attempting Dropping) free at = absurd free
renamer_free t l r k scene copier applier cutover (Attempting Unlocking) free at = absurd free
renamer_free t l r k scene copier applier cutover (Attempting Exchanging) free at = absurd free
renamer_free t l r k scene copier applier cutover (Ending clearing) free at = absurd free

pub renamer_is : (t : List ℕ) (l r k : ℕ) (scene : Scene) (copier : Copier) (applier : Applier) (cutover : CutOver) (phase : Phase) → (k ≡ r) ⊎ IsRenamerFree phase → Guards t scene copier applier cutover l r phase → Guards t scene copier applier cutover l k phase
renamer_is t l r k scene copier applier cutover phase (inl is) at = subst (λ s. Guards t scene copier applier cutover l s phase) (sym is) at
renamer_is t l r k scene copier applier cutover phase (inr free) at = renamer_free t l r k scene copier applier cutover phase free at

-- the locker's machine: its attempts count where it makes the sentry, and nowhere else
took_locker : (t : List ℕ) (l r : ℕ) (scene : Scene) (copier : Copier) (applier : Applier) (cutover : CutOver) (answer : Answer) (phase : Phase) → cutover.phase ≡ phase → Guards t scene copier applier (after_locker cutover phase answer) l r (locker_phase phase answer)
    → Guards t scene copier applier (locker_took cutover answer) l r (locker_phase phase answer)
took_locker t l r scene copier applier cutover answer Resting is at =
    guards_begun t l r scene copier applier (after_locker cutover Resting answer) (locker_took cutover answer) answer (sym (ap (λ p. hold_after cutover.hold p answer) is)) refl at
took_locker t l r scene copier applier cutover answer (Attempting stage) is at =
    guards_of t l r scene copier applier (after_locker cutover (Attempting stage) answer) (locker_took cutover answer) (locker_phase (Attempting stage) answer) (sym (ap (λ p. attempts_after p cutover.attempts) is)) (sym (ap (λ p. hold_after cutover.hold p answer) is)) refl at
took_locker t l r scene copier applier cutover answer (Ending clearing) is at =
    guards_of t l r scene copier applier (after_locker cutover (Ending clearing) answer) (locker_took cutover answer) (Ending clearing) (sym (ap (λ p. attempts_after p cutover.attempts) is)) (sym (ap (λ p. hold_after cutover.hold p answer) is)) refl at
took_locker t l r scene copier applier cutover answer (Finishing clearing) is at = tt
took_locker t l r scene copier applier cutover answer Finished is at = tt

pub locker_turn : (t : List ℕ) (l r : ℕ) (before after : Scene) (copier : Copier) (applier : Applier) (cutover : CutOver) (answer : Answer) → Guards t before copier applier cutover l r cutover.phase → Fits cutover.phase cutover.hold cutover.renamer_waits → LockerMay cutover.phase cutover.hold answer
    → LockerServes t l r cutover.phase cutover.hold answer before after → Guards t after copier applier (locker_took cutover answer) l r (locker_took cutover answer).phase
locker_turn t l r before after copier applier cutover answer at fits may served =
    took_locker t l r after copier applier cutover answer cutover.phase refl (locker_guards t l r before after copier applier cutover cutover.phase answer at fits may served)

-- WHERE AN ATTEMPT STANDS

pub locker_stands : (phase : Phase) (answer : Answer) → stands (locker_phase phase answer) ≡ true → (stands phase ≡ true) ⊎ (phase ≡ Resting)
locker_stands Resting answer is = inr refl
locker_stands (Attempting stage) answer is = inl refl
locker_stands (Ending clearing) answer is = inl refl
locker_stands (Finishing clearing) answer is = inl is
locker_stands Finished answer is = inl is

pub renamer_stands : (phase : Phase) (answer : Answer) → stands (renamer_phase phase answer) ≡ true → stands phase ≡ true
renamer_stands (Attempting stage) answer is = refl
renamer_stands (Ending clearing) answer is = refl
renamer_stands Resting (answers.Ok count) is = absurd cc
renamer_stands Resting (answers.Waits by) is = is
renamer_stands Resting answers.Lost is = is
renamer_stands Resting (answers.TimedOut waited) is = is
renamer_stands Resting answer is = is
renamer_stands (Finishing clearing) (answers.Ok count) is = absurd cc
renamer_stands (Finishing clearing) (answers.Waits by) is = is
renamer_stands (Finishing clearing) answers.Lost is = is
renamer_stands (Finishing clearing) (answers.TimedOut waited) is = is
renamer_stands (Finishing clearing) answer is = is
renamer_stands Finished (answers.Ok count) is = absurd cc
renamer_stands Finished (answers.Waits by) is = is
renamer_stands Finished answers.Lost is = is
renamer_stands Finished (answers.TimedOut waited) is = is
renamer_stands Finished answer is = is

pub inspector_stands : (cutover : CutOver) (phase : Phase) (answer : Answer) → stands (inspector_phase cutover phase answer) ≡ true → stands phase ≡ true
inspector_stands cutover Resting answer is = is
inspector_stands cutover (Attempting stage) answer is = refl
inspector_stands cutover (Ending clearing) answer is = refl
inspector_stands cutover (Finishing clearing) answer is = absurd (by clearing answer is)
  where
    ends : (left : Leftovers) (b : Bool) → stands (cond b Finished (Finishing (Drops left))) ≡ true → ⊥
    ends left true is = cc
    ends left false is = cc

    by : (clearing : Clearing) (answer : Answer) → stands (finishing_after cutover clearing answer) ≡ true → ⊥
    by clearing answers.Lost is = cc
    by clearing (answers.TimedOut waited) is = cc
    by Looking (answers.Tables tables) is = ends (left_at_end cutover tables) (is_clear (left_at_end cutover tables)) is
    by Looking answer is = cc
    by (Drops left) (answers.Ok count) is = ends (without_first left) (is_clear (without_first left)) is
    by (Drops left) answer is = cc
inspector_stands cutover Finished answer is = is

pub ended_stands : (phase : Phase) → stands (ended phase) ≡ true → stands phase ≡ true
ended_stands (Attempting stage) is = refl
ended_stands (Ending clearing) is = refl
ended_stands Resting is = is
ended_stands (Finishing clearing) is = is
ended_stands Finished is = is

pub drained_stands : (cutover : CutOver) (hint : ℕ) (phase : Phase) → stands (drained cutover hint phase) ≡ true → stands phase ≡ true
drained_stands cutover hint (Attempting stage) is = refl
drained_stands cutover hint (Ending clearing) is = refl
drained_stands cutover hint Resting is = is
drained_stands cutover hint (Finishing clearing) is = is
drained_stands cutover hint Finished is = is
