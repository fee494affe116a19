-- The sentry relation through a turn of the inspector in any phase; the fit through it and through an applier's turn; and
-- the loss of the locker's or the renamer's session that had no work.
use Rattle.std.proofs.Common.{◌≡◌, ◌≢◌, ℕ, ◌+◌, nat_eq, nat_le, Bool, true, false, not, cond, List, sym, subst}
use Rattle.server_model.specs.declared.answer.Answer.TheVariants as answers
use Rattle.proof_journals.specs.Sentry.Sentries.{Scene, AtEnd, Guards, Fits, InspectorMay, InspectorTurns, InspectorWrites}
use Rattle.proof_journals.proofs.Machine.CuttingOver.{drain_cases}
use Rattle.proof_journals.proofs.Sentry.Guarding.{others_keep}
use Rattle.proof_journals.proofs.Sentry.Fitting.{failed_fits, ends_with}
use Rattle.proof_journals.proofs.Sentry.OtherTurns.{inspector_guards}
use Rattle.server_model.specs.declared.answer.Answer.{Answer}
use Rattle.server_model.specs.declared.listing.TableName.{TableName}
use Rattle.base_values.specs.ToolNames.{ghost_name}
use Rattle.tool_program.specs.declared.chunk_copier.copier.Copier.{Copier}
use Rattle.tool_program.specs.declared.event_applier.applier.Applier.{Applier}
use Rattle.tool_program.specs.declared.cutover_core.cutover.CutOver.{CutOver}
use Rattle.tool_program.specs.declared.cutover_core.cutover.Phase.{Phase}
use Rattle.tool_program.specs.declared.cutover_core.cutover.Phase.TheVariants.{Resting, Attempting, Ending, Finishing, Finished}
use Rattle.tool_program.specs.declared.cutover_core.cutover.Stage.TheVariants.{Guarding, Locking, Hinting, ReadingCounter, SettingCounter, Draining, Drained, Showing, Dropping, Unlocking, Exchanging}
use Rattle.tool_program.specs.declared.cutover_core.cutover.Drain.TheVariants.{Turns, Passed}
use Rattle.tool_program.specs.declared.cutover_core.cutover.Stage.{Stage}
use Rattle.tool_program.specs.declared.cutover_core.cutover.Hold.{Hold}
use Rattle.tool_program.specs.declared.cutover_core.cutover.Hold.TheVariants.{Nothing}
use Rattle.tool_program.specs.declared.cutover_core.cutover.Clearing.TheVariants.{Looking, Drops}
use Rattle.tool_program.specs.declared.cutover_core.cutover.Leftovers.{Leftovers}
use Rattle.tool_program.specs.declared.cutover_core.cutover.Clearing.{Clearing}
use Rattle.tool_program.specs.CutoverCore.Attempts.{has_name, has_sentry, is_clear, without_first}
use Rattle.tool_program.specs.CutoverCore.CutOvers.{hinted, inspector_phase, inspector_stage, ending_after, is_bad, seen, finishing, left_at_end, sentry_alone, finishing_after, shows_wait, drained}

free_end : (t : List ℕ) (l r : ℕ) (scene : Scene) (copier : Copier) (applier : Applier) (hold : Hold) (waits : Bool) → hold ≡ Nothing → waits ≡ false → AtEnd t scene copier applier l r hold waits
free_end t l r scene copier applier hold waits is so =
    subst (λ h. AtEnd t scene copier applier l r h waits) (sym is) (subst (λ w. AtEnd t scene copier applier l r Nothing w) (sym so) (record { lock = tt; rename = tt }))

-- behind the listing of tables at an attempt's end
sees : (t : List ℕ) (l r : ℕ) (scene : Scene) (copier : Copier) (applier : Applier) (cutover : CutOver) (tables : List TableName) → cutover.hold ≡ Nothing → cutover.renamer_waits ≡ false → Guards t scene copier applier cutover l r (seen cutover tables)
sees t l r scene copier applier cutover tables is so = by (not (has_name (ghost_name cutover.table) tables)) (has_sentry cutover.table tables)
  where
    ends : (b : Bool) → Guards t scene copier applier cutover l r (cond b Finished (Finishing (Drops (left_at_end cutover tables))))
    ends true = tt
    ends false = tt

    by : (a b : Bool) → Guards t scene copier applier cutover l r (cond a (finishing (left_at_end cutover tables)) (cond b (Ending (Drops sentry_alone)) Resting))
    by true b = ends (is_clear (left_at_end cutover tables))
    by false true = free_end t l r scene copier applier cutover.hold cutover.renamer_waits is so
    by false false = tt

sees_fit : (cutover : CutOver) (tables : List TableName) (hold : Hold) (waits : Bool) → hold ≡ Nothing → waits ≡ false → Fits (seen cutover tables) hold waits
sees_fit cutover tables hold waits is so = by (not (has_name (ghost_name cutover.table) tables)) (has_sentry cutover.table tables)
  where
    ends : (b : Bool) → Fits (cond b Finished (Finishing (Drops (left_at_end cutover tables)))) hold waits
    ends true = so
    ends false = so

    by : (a b : Bool) → Fits (cond a (finishing (left_at_end cutover tables)) (cond b (Ending (Drops sentry_alone)) Resting)) hold waits
    by true b = ends (is_clear (left_at_end cutover tables))
    by false true = (is, so)
    by false false = (is, so)

looking : (t : List ℕ) (l r i : ℕ) (before after : Scene) (copier : Copier) (applier : Applier) (cutover : CutOver) (answer : Answer) → AtEnd t after copier applier l r cutover.hold cutover.renamer_waits → InspectorMay (Ending Looking) cutover.hold cutover.renamer_waits answer
    → Guards t after copier applier cutover l r (ending_after cutover Looking answer)
looking t l r i before after copier applier cutover answers.Lost at may = at
looking t l r i before after copier applier cutover (answers.TimedOut waited) at may = at
looking t l r i before after copier applier cutover (answers.Tables tables) at may = sees t l r after copier applier cutover tables may.0 may.1
looking t l r i before after copier applier cutover answer at may = at

dropping : (t : List ℕ) (l r : ℕ) (after : Scene) (copier : Copier) (applier : Applier) (cutover : CutOver) (left : Leftovers) (answer : Answer) → cutover.hold ≡ Nothing → cutover.renamer_waits ≡ false → Guards t after copier applier cutover l r (ending_after cutover (Drops left) answer)
dropping t l r after copier applier cutover left answers.Lost is so = free_end t l r after copier applier cutover.hold cutover.renamer_waits is so
dropping t l r after copier applier cutover left (answers.TimedOut waited) is so = free_end t l r after copier applier cutover.hold cutover.renamer_waits is so
dropping t l r after copier applier cutover left (answers.Ok count) is so = tt
dropping t l r after copier applier cutover left answer is so = free_end t l r after copier applier cutover.hold cutover.renamer_waits is so

finishing_guards : (t : List ℕ) (l r : ℕ) (scene : Scene) (copier : Copier) (applier : Applier) (cutover : CutOver) (clearing : Clearing) (answer : Answer) → Guards t scene copier applier cutover l r (finishing_after cutover clearing answer)
finishing_guards t l r scene copier applier cutover clearing answer = by clearing answer
  where
    ends : (left : Leftovers) (b : Bool) → Guards t scene copier applier cutover l r (cond b Finished (Finishing (Drops left)))
    ends left true = tt
    ends left false = tt

    by : (clearing : Clearing) (answer : Answer) → Guards t scene copier applier cutover l r (finishing_after cutover clearing answer)
    by clearing answers.Lost = tt
    by clearing (answers.TimedOut waited) = tt
    by Looking (answers.Tables tables) = ends (left_at_end cutover tables) (is_clear (left_at_end cutover tables))
    by Looking answer = tt
    by (Drops left) (answers.Ok count) = ends (without_first left) (is_clear (without_first left))
    by (Drops left) answer = tt

finishing_fits : (cutover : CutOver) (clearing : Clearing) (answer : Answer) (hold : Hold) (waits : Bool) → waits ≡ false → Fits (finishing_after cutover clearing answer) hold waits
finishing_fits cutover clearing answer hold waits so = by clearing answer
  where
    ends : (left : Leftovers) (b : Bool) → Fits (cond b Finished (Finishing (Drops left))) hold waits
    ends left true = so
    ends left false = so

    by : (clearing : Clearing) (answer : Answer) → Fits (finishing_after cutover clearing answer) hold waits
    by clearing answers.Lost = so
    by clearing (answers.TimedOut waited) = so
    by Looking (answers.Tables tables) = ends (left_at_end cutover tables) (is_clear (left_at_end cutover tables))
    by Looking answer = so
    by (Drops left) (answers.Ok count) = ends (without_first left) (is_clear (without_first left))
    by (Drops left) answer = so

-- *The inspector's turn*
pub inspector_turn : (t : List ℕ) (l r i : ℕ) (before after : Scene) (copier : Copier) (applier : Applier) (cutover : CutOver) (phase : Phase) (answer : Answer) → l ≢ i → r ≢ i → InspectorTurns t r i phase before after → InspectorWrites t cutover.attempts phase answer before after
    → Fits phase cutover.hold cutover.renamer_waits → InspectorMay phase cutover.hold cutover.renamer_waits answer → Guards t before copier applier cutover l r phase → Guards t after copier applier cutover l r (inspector_phase cutover phase answer)
inspector_turn t l r i before after copier applier cutover Resting answer apart other turn served fits may at = tt
inspector_turn t l r i before after copier applier cutover (Attempting stage) answer apart other turn served fits may at = inspector_guards t l r i before after copier applier cutover stage answer apart other turn served fits at
inspector_turn t l r i before after copier applier cutover (Ending Looking) answer apart other turn served fits may at =
    looking t l r i before after copier applier cutover answer (others_keep t r i l before after turn copier applier cutover apart other (Ending Looking) at) may
inspector_turn t l r i before after copier applier cutover (Ending (Drops left)) answer apart other turn served fits may at = dropping t l r after copier applier cutover left answer fits.0 fits.1
inspector_turn t l r i before after copier applier cutover (Finishing clearing) answer apart other turn served fits may at = finishing_guards t l r after copier applier cutover clearing answer
inspector_turn t l r i before after copier applier cutover Finished answer apart other turn served fits may at = tt

stage_fits : (counter : Bool) (stage : Stage) (answer : Answer) (hold : Hold) (waits : Bool) → Fits (Attempting stage) hold waits → Fits (Attempting (inspector_stage counter stage answer)) hold waits
stage_fits counter Hinting (answers.Ok count) hold waits fits = by counter
  where
    by : (b : Bool) → Fits (Attempting (hinted b)) hold waits
    by true = fits
    by false = fits
stage_fits counter (ReadingCounter drain) (answers.At number) hold waits fits = fits
stage_fits counter (SettingCounter number (Turns turns)) (answers.Ok count) hold waits fits = fits
stage_fits counter (SettingCounter number Passed) (answers.Ok count) hold waits fits = fits
stage_fits counter Hinting answer hold waits fits = fits
stage_fits counter Showing (answers.Waiting waiters) hold waits fits = by (shows_wait waiters)
  where
    by : (b : Bool) → Fits (Attempting (cond b Dropping Showing)) hold waits
    by true = fits
    by false = fits
stage_fits counter Showing answer hold waits fits = fits
stage_fits counter Guarding answer hold waits fits = fits
stage_fits counter Locking answer hold waits fits = fits
stage_fits counter (Draining turns) answer hold waits fits = fits
stage_fits counter (ReadingCounter drain) answer hold waits fits = fits
stage_fits counter (SettingCounter number drain) answer hold waits fits = fits
stage_fits counter Drained answer hold waits fits = fits
stage_fits counter Dropping answer hold waits fits = fits
stage_fits counter Unlocking answer hold waits fits = fits
stage_fits counter Exchanging answer hold waits fits = fits

looking_fit : (cutover : CutOver) (answer : Answer) (hold : Hold) (waits : Bool) → InspectorMay (Ending Looking) hold waits answer → Fits (Ending Looking) hold waits → Fits (ending_after cutover Looking answer) hold waits
looking_fit cutover answers.Lost hold waits may fits = fits
looking_fit cutover (answers.TimedOut waited) hold waits may fits = fits
looking_fit cutover (answers.Tables tables) hold waits may fits = sees_fit cutover tables hold waits may.0 may.1
looking_fit cutover answer hold waits may fits = fits

dropping_fit : (cutover : CutOver) (left : Leftovers) (answer : Answer) (hold : Hold) (waits : Bool) → hold ≡ Nothing → waits ≡ false → Fits (ending_after cutover (Drops left) answer) hold waits
dropping_fit cutover left answers.Lost hold waits is so = ends_with hold Nothing waits is tt
dropping_fit cutover left (answers.TimedOut waited) hold waits is so = ends_with hold Nothing waits is tt
dropping_fit cutover left (answers.Ok count) hold waits is so = (is, so)
dropping_fit cutover left answer hold waits is so = (is, so)

pub inspector_fits : (cutover : CutOver) (phase : Phase) (answer : Answer) (hold : Hold) (waits : Bool) → InspectorMay phase hold waits answer → Fits phase hold waits → Fits (inspector_phase cutover phase answer) hold waits
inspector_fits cutover Resting answer hold waits may fits = fits
inspector_fits cutover (Attempting stage) answer hold waits may fits = by (is_bad answer)
  where
    by : (b : Bool) → Fits (cond b (Ending Looking) (Attempting (inspector_stage cutover.has_counter stage answer))) hold waits
    by true = failed_fits stage hold waits fits
    by false = stage_fits cutover.has_counter stage answer hold waits fits
inspector_fits cutover (Ending Looking) answer hold waits may fits = looking_fit cutover answer hold waits may fits
inspector_fits cutover (Ending (Drops left)) answer hold waits may fits = dropping_fit cutover left answer hold waits fits.0 fits.1
inspector_fits cutover (Finishing clearing) answer hold waits may fits = finishing_fits cutover clearing answer hold waits fits
inspector_fits cutover Finished answer hold waits may fits = fits

-- the drain
pub drained_fits : (cutover : CutOver) (hint : ℕ) (phase : Phase) (hold : Hold) (waits : Bool) → Fits phase hold waits → Fits (drained cutover hint phase) hold waits
drained_fits cutover hint (Attempting (Draining turns)) hold waits fits = by (nat_eq hint cutover.attempts) (nat_le cutover.drain_limit (turns + 1))
  where
    by : (b c : Bool) → Fits (cond b (Attempting Drained) (cond c (Ending Looking) (Attempting (Draining (turns + 1))))) hold waits
    by true c = fits
    by false true = failed_fits (Draining turns) hold waits fits
    by false false = fits
drained_fits cutover hint (Attempting (ReadingCounter (Turns turns))) hold waits fits = drain_cases (λ (p : Phase). Fits p hold waits) cutover hint turns (ReadingCounter (Turns turns)) (λ same. fits) (failed_fits (ReadingCounter (Turns turns)) hold waits fits) fits
drained_fits cutover hint (Attempting (SettingCounter number (Turns turns))) hold waits fits = drain_cases (λ (p : Phase). Fits p hold waits) cutover hint turns (SettingCounter number (Turns turns)) (λ same. fits) (failed_fits (SettingCounter number (Turns turns)) hold waits fits) fits
drained_fits cutover hint Resting hold waits fits = fits
drained_fits cutover hint (Attempting Guarding) hold waits fits = fits
drained_fits cutover hint (Attempting Locking) hold waits fits = fits
drained_fits cutover hint (Attempting Hinting) hold waits fits = fits
drained_fits cutover hint (Attempting Drained) hold waits fits = fits
drained_fits cutover hint (Attempting (ReadingCounter Passed)) hold waits fits = fits
drained_fits cutover hint (Attempting (SettingCounter number Passed)) hold waits fits = fits
drained_fits cutover hint (Attempting Showing) hold waits fits = fits
drained_fits cutover hint (Attempting Dropping) hold waits fits = fits
drained_fits cutover hint (Attempting Unlocking) hold waits fits = fits
drained_fits cutover hint (Attempting Exchanging) hold waits fits = fits
drained_fits cutover hint (Ending clearing) hold waits fits = fits
drained_fits cutover hint (Finishing clearing) hold waits fits = fits
drained_fits cutover hint Finished hold waits fits = fits
