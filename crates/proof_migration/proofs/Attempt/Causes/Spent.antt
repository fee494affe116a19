-- A try of the cut-over that failed is a failed try, since the sentry's CREATE isn't refused.
use Rattle.std.proofs.Common.{◌≡◌, ℕ, zero, suc, ◌-◌, true, List, [], ◌∷◌, ◌++◌, take, Some, refl, sym, subst, inl, inr, append_assoc}
use Rattle.std.specs.List.{slice_get, AllByRecursion}
use Rattle.std.proofs.lemmas.Bool.{false≢true}
use Rattle.std.proofs.lemmas.List.{append-nil}
use Rattle.server_model.specs.Along.{Along}
use Rattle.server_model.specs.declared.entry.Entry.{Entry}
use Rattle.server_model.specs.declared.outcome.Task.TheVariants as tasks
use Rattle.plan_data.specs.PlanData.{PlanData}
use Rattle.tool_program.specs.Failures.{IsFailedTry, Stands}
use Rattle.tool_program.specs.Programs.{Follows}
use Rattle.tool_program.specs.Tools.{ToolPhase, SettingUp, Migrating, Moment, moment}
use Rattle.proof_journals.specs.Machine.FormedPlans.{IsFitting}
use Rattle.proof_journals.specs.Machine.MigrationTables.{TableExists}
use Rattle.proof_journals.proofs.Machine.Journals.{IsRun, all_runs}
use Rattle.proof_journals.proofs.Machine.Inspecting.{resting_is}
use Rattle.proof_migration.specs.Attempt.Verdicts.{IsRefusedSentry, IsFailedAttempt, IsSpentOn, rests}
use Rattle.proof_migration.proofs.Attempt.Verdicts.Standing.{all_attempts}
use Rattle.proof_migration.proofs.Attempt.Standing.{standing_along}
use Rattle.proof_migration.proofs.Attempt.Causes.Sentry.{sentry_unrefused}
use Rattle.proof_migration.specs.Attempt.Causes.{SpentCutOversStand}

-- what holds of each entry holds of the one at a place
along_at : (P : List Entry → Entry → Type 0) (before journal : List Entry) (place : ℕ) (entry : Entry) → Along P before journal → slice_get journal place ≡ Some entry → P (before ++ take place journal) entry
along_at P before [] place entry along at = absurd cc
along_at P before (first ∷ journal) zero entry along at = let one : first ≡ entry = cc in subst (λ (b : List Entry). P b entry) (sym (append-nil before)) (subst (P before) one along.0)
along_at P before (first ∷ journal) (suc place) entry along at = subst (λ (b : List Entry). P b entry) (append_assoc before (first ∷ []) (take place journal)) (along_at P (before ++ first ∷ []) journal place entry along.1 at)

along_take : (P : List Entry → Entry → Type 0) (before journal : List Entry) (place : ℕ) → Along P before journal → Along P before (take place journal)
along_take P before [] zero along = tt
along_take P before [] (suc place) along = tt
along_take P before (first ∷ journal) zero along = tt
along_take P before (first ∷ journal) (suc place) along = (along.0, along_take P (before ++ first ∷ []) journal place along.1)

module _ (plan : PlanData) (journal : List Entry) (fit : IsFitting plan) (stands : TableExists plan) (runs : Along (IsRun plan) [] journal) where
  -- no sentry is refused
  none_refused : (turn : ℕ) → IsRefusedSentry plan journal turn → ⊥
  none_refused turn is = by (moment plan (take (turn - 1) journal)).tool.tool_phase refl (subst (λ (m : Moment). rests m.tool.tool_phase ≡ true) is.is.moment is.resting) where
    by : (tool_phase : ToolPhase) → (moment plan (take (turn - 1) journal)).tool.tool_phase ≡ tool_phase → rests tool_phase ≡ true → ⊥
    by (SettingUp setup tries) eq resting = false≢true resting
    by (Migrating work) eq resting =
        sentry_unrefused plan (take (turn - 1) journal) is.entry (standing_along plan (take (turn - 1) journal) fit stands (along_take (IsRun plan) [] journal (turn - 1) runs)) (along_at (IsRun plan) [] journal (turn - 1) is.entry runs is.is.stands)
        work eq (resting_is work.cutover.phase resting) is.actor is.number is.column is.refused

  failed_so : (turn : ℕ) → IsFailedAttempt plan journal turn → IsFailedTry plan journal tasks.CutOver turn
  failed_so turn (inl failed) = failed
  failed_so turn (inr refused) = absurd (none_refused turn refused)

  each_so : (turns : List ℕ) → AllByRecursion (IsFailedAttempt plan journal) turns → AllByRecursion (IsFailedTry plan journal tasks.CutOver) turns
  each_so [] all = tt
  each_so (turn ∷ turns) all = (failed_so turn all.0, each_so turns all.1)

-- *Spent cut-overs stand*
pub all_spent_attempts : SpentCutOversStand
unfolding Follows Stands
all_spent_attempts plan journal turns fit stands faithful follows some verdict =
    let on : IsSpentOn plan journal turns = all_attempts plan journal turns faithful follows some verdict in
    record { each = each_so plan journal fit stands (all_runs plan [] journal faithful follows) turns on.each; rises = on.rises; all = on.all }
