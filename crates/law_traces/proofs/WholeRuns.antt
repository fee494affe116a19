-- Whole journals of a plan that was read are serial, and the verdict of a new tool tells whether the ALTER was done.
use Rattle.std.proofs.Common.{◌≡◌, ◌≤◌, Bool, true, false, List, [], ◌∷◌, ◌++◌, length, sym, ◌∙◌, subst, append-nil, arith}
use Rattle.std.specs.Prelude.{min}
use Rattle.std.specs.List.{list_any}
use Rattle.std.proofs.lemmas.List.{length-take, take-append-drop}
use Rattle.server_model.specs.declared.entry.Entry.{Entry}
use Rattle.server_model.specs.declared.outcome.Cause.{Cause}
use Rattle.server_model.specs.declared.outcome.Verdict.TheVariants as verdicts
use Rattle.plan_data.specs.PlanData.{PlanData}
use Rattle.tool_program.specs.JournalWords.Histories.{history, is_alter}
use Rattle.tool_program.specs.JournalWords.Serials.{IsSerial}
use Rattle.tool_finish.specs.Finishes.{finish_verdict}
use Rattle.tool_finish.specs.WholeJournals.{finish_in, run_in}
use Rattle.proof_journals.specs.Ghost.HeldKeys.{Clustered}
use Rattle.proof_journals.specs.Machine.Runnable.{IsRunnable}
use Rattle.proof_journals.specs.Plans.{IsSerialPlan}
use Rattle.proof_journals.specs.Run.Kept.{IsKept}
use Rattle.proof_journals.proofs.Ghost.Keys.{clustered}
use Rattle.proof_migration.specs.Migration.Planning.{migration_of}
use Rattle.proof_migration.specs.Program.Turns.Laws.{IsMigrationOf}
use Rattle.proof_migration.specs.ToolPhase.Runnable.{IsAlterable}
use Rattle.proof_migration.proofs.Program.Follows.{migration}
use Rattle.proof_bounds.specs.AttemptTurns.Attempts.{MayTry}
use Rattle.proof_plain.specs.Plans.{IsShort, PlainPlan}
use Rattle.proof_literals.proofs.Finals.{journal_short, plan_plain}
use Rattle.proof_literals.proofs.ReadLimits.{small_plan}
use Rattle.proof_plans.specs.ReadPlans.Laws.{WasRead}
use Rattle.proof_plans.specs.ReadPlans.Options.{IsAllowed}
use Rattle.proof_resume.proofs.Finish.Verdicts.{done_finishes_altered, reverted_finishes_did_not}
use Rattle.proof_resume.proofs.Starts.Outcomes.{finish_serial as serial_behind_run}
use Rattle.law_traces.specs.AcceptedPlans.{AcceptedPlanLaws}
use Rattle.proof_audit.specs.Laws.{FinishTells, WholesAreSerial}
use Rattle.proof_audit.specs.Wholes.{AreNewTools, HasItsCause, IsWhole, MayGoOn}
use Rattle.proof_audit.proofs.Wholes.{none_unfinished}

module _ (known : AcceptedPlanLaws) (plan : PlanData) (was : WasRead plan) where
  pub runs : IsRunnable plan
  runs = known.runnable plan was

  pub serial : IsSerialPlan plan
  serial = known.serial was.bytes plan was.is

  pub is : IsAlterable plan
  is = known.alterable was.bytes plan was.is

  pub of : IsMigrationOf plan (migration_of is.table.schema is.new) is.table.rows
  of = migration plan is known.again runs serial

  pub at : Clustered is.table.schema
  at = clustered is.table.schema of.planned.old_key

  pub tries : MayTry plan
  tries = let allowed : IsAllowed plan.options = known.allow was.bytes plan was.is in record { some = allowed.tries; few = allowed.few; notes = allowed.notes }

  pub plain : PlainPlan plan
  plain = plan_plain was.bytes plan was.is (known.accepted was.bytes plan was.is) runs

  module _ (run turns : List Entry) (kept : IsKept plan run) (few : length run ≤ plan.options.turn_limit) (are : AreNewTools plan run turns) where
    short : IsShort run
    short = journal_short plan run (small_plan was.bytes plan was.is) kept are.numbered few

    finish_serial : IsSerial plan (run ++ turns)
    finish_serial = serial_behind_run plan is at of tries plain run turns kept short are.checkpoint are.finish are.faithful (known.runs plan run was kept)

  -- ---- a whole journal

  pub few_run : (journal : List Entry) → length (run_in plan journal) ≤ plan.options.turn_limit
  few_run journal = let least : length (run_in plan journal) ≡ min plan.options.turn_limit (length journal) = length-take plan.options.turn_limit journal in omega (arith, least)

  serial_behind : (journal turns : List Entry) → IsKept plan (run_in plan journal) → MayGoOn plan (run_in plan journal) turns → IsSerial plan (run_in plan journal ++ turns)
  serial_behind journal [] kept goes_on = subst (IsSerial plan) (sym (append-nil (run_in plan journal))) (known.serial_runs plan (run_in plan journal) was kept)
  serial_behind journal (entry ∷ turns) kept goes_on = finish_serial (run_in plan journal) (entry ∷ turns) kept (few_run journal) goes_on

  -- *Whole journals are serial*
  pub wholes_serial : WholesAreSerial plan
  wholes_serial journal whole = subst (IsSerial plan) (take-append-drop plan.options.turn_limit journal) (serial_behind journal (finish_in plan journal) whole.kept whole.goes_on)

  -- ---- what the verdict of a new tool tells

  pub finish_tells : (journal : List Entry) → IsWhole plan journal → HasItsCause plan journal → FinishTells plan journal
  finish_tells journal whole stands = record { done = done_so; reverted = reverted_so; stands = stands } where
    run : List Entry
    run = run_in plan journal

    turns : List Entry
    turns = finish_in plan journal

    Altered : Bool → List Entry → Type 0
    Altered b all = list_any is_alter (history plan all) ≡ b

    not_done : verdicts.Unfinished ≡ verdicts.Done → ⊥
    not_done same = cc

    not_reverted : (cause : Cause) → verdicts.Unfinished ≡ verdicts.Reverted cause → ⊥
    not_reverted cause same = cc

    by_done : (behind : List Entry) → MayGoOn plan run behind → finish_verdict plan run behind ≡ verdicts.Done → Altered true (run ++ behind)
    by_done [] goes_on is = absurd (not_done (sym (none_unfinished plan run) ∙ is))
    by_done (entry ∷ behind) goes_on is = done_finishes_altered plan run (entry ∷ behind) runs serial whole.kept goes_on.checkpoint goes_on.finish goes_on.faithful is

    by_reverted : (cause : Cause) (behind : List Entry) → MayGoOn plan run behind → finish_verdict plan run behind ≡ verdicts.Reverted cause → Altered false (run ++ behind)
    by_reverted cause [] goes_on is = absurd (not_reverted cause (sym (none_unfinished plan run) ∙ is))
    by_reverted cause (entry ∷ behind) goes_on is = reverted_finishes_did_not plan run (entry ∷ behind) cause runs serial whole.kept goes_on.finish goes_on.faithful is

    done_so : finish_verdict plan run turns ≡ verdicts.Done → Altered true journal
    done_so is = subst (Altered true) (take-append-drop plan.options.turn_limit journal) (by_done turns whole.goes_on is)

    reverted_so : (cause : Cause) → finish_verdict plan run turns ≡ verdicts.Reverted cause → Altered false journal
    reverted_so cause is = subst (Altered false) (take-append-drop plan.options.turn_limit journal) (by_reverted cause turns whole.goes_on is)
