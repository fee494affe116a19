-- *The applier's premise*, from what it knows of the log and from what the applier's reading told.
use Rattle.std.proofs.Common.{◌≡◌, ◌≢◌, ℕ, true, List, [], refl, sym, ◌∙◌, subst, inl, inr}
use Rattle.std.specs.Prelude.{◌⊎◌}
use Rattle.base_values.specs.declared.event.RowEvent.{RowEvent}
use Rattle.server_model.specs.declared.answer.Answer.TheVariants as answers
use Rattle.proof_journals.specs.Sentry.Sentries.{Scene, IsDrained, IsDraining, HasTurned}
use Rattle.proof_journals.proofs.Sentry.Draining.{Knows, reads_nothing, hint_moves}
use Rattle.proof_journals.proofs.Sentry.Knowing.{Reads, knows_took}
use Rattle.server_model.specs.declared.answer.Answer.{Answer}
use Rattle.tool_program.specs.declared.chunk_copier.copier.Copier.{Copier}
use Rattle.tool_program.specs.declared.event_applier.applier.Applier.{Applier}
use Rattle.tool_program.specs.declared.event_applier.applier.ApplyStep.{ApplyStep}
use Rattle.tool_program.specs.declared.event_applier.applier.ApplyStep.TheVariants.{Reading, Beginning, Applying, Committing}
use Rattle.tool_program.specs.EventApplier.Appliers.{events_of, is_reading, starts, took, after_answer}
use Rattle.tool_program.specs.declared.cutover_core.cutover.Phase.{Phase}

reading_is : (step : ApplyStep) → is_reading step ≡ true → step ≡ Reading
reading_is Reading e = refl
reading_is (Beginning batch) e = absurd cc
reading_is (Applying batch done part) e = absurd cc
reading_is (Committing batch) e = absurd cc

stays : (t : List ℕ) (log : List RowEvent) (turn : ℕ) (copier : Copier) (applier : Applier) (answer : Answer) → applier.table ≡ t → Reads t log applier answer → ((events : List RowEvent) (next : ℕ) → answer ≡ answers.Events events next → events_of t events ≡ []) → IsDrained t log copier applier
    → applier.step ≡ Reading → IsDrained t log copier (took turn applier answer)
unfolding took
stays t log turn copier applier answers.Lost is_t reads none d step = record { copied = d.copied; applied = d.applied; within = d.within; idle = refl }
stays t log turn copier applier (answers.TimedOut waited) is_t reads none d step = record { copied = d.copied; applied = d.applied; within = d.within; idle = refl }
stays t log turn copier applier (answers.Events events next) is_t reads none d step = reads_nothing t log copier applier turn next events is_t step (none events next refl) reads.forward reads.within d
stays t log turn copier applier answer is_t reads none d step = subst (λ s. IsDrained t log copier (after_answer turn applier s answer)) (sym step) d

pub has_turned : (t : List ℕ) (scene : Scene) (turn : ℕ) (copier : Copier) (applier : Applier) (answer : Answer) (attempt : ℕ) (phase : Phase) → applier.table ≡ t → Knows t scene.log applier → Reads t scene.log applier answer → (IsDraining phase → applier.hint ≢ attempt)
    → ((events : List RowEvent) (next : ℕ) → answer ≡ answers.Events events next → IsDrained t scene.log copier applier → events_of t events ≡ []) → HasTurned t scene copier applier (took turn applier answer) attempt phase
has_turned t scene turn copier applier answer attempt phase is_t knows reads following none =
    record {
      knows = (knows_took t scene.log turn applier answer is_t knows reads).hint;
      within = (knows_took t scene.log turn applier answer is_t knows reads).within;
      idle = λ draining same. moved (following draining) same (hint_moves turn applier answer);
      stays = λ d. stays t scene.log turn copier applier answer is_t reads (λ events next is. none events next is d) d (reading_is applier.step d.idle);
    }
  where
    moved : applier.hint ≢ attempt → (took turn applier answer).hint ≡ attempt → ((took turn applier answer).hint ≡ applier.hint) ⊎ (starts (took turn applier answer) ≡ true) → starts (took turn applier answer) ≡ true
    moved other same (inl e) = absurd (other (sym e ∙ same))
    moved other same (inr e) = e
