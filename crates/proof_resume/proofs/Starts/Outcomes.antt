-- How a new tool ends behind a run that has a checkpoint: its history is serial, and its verdict tells whether the table was altered, and by
-- which row it was reverted.
use Rattle.std.proofs.Common.{◌≡◌, ◌⊎◌, Bool, true, false, List, [], ◌∷◌, ◌++◌, length, drop, Some, refl, sym, ap, ◌∙◌, subst, inl, inr, append_assoc, append-nil}
use Rattle.std.specs.List.{list_any}
use Rattle.std.proofs.lemmas.Bool.{true≢false, false≢true}
use Rattle.std.proofs.Math.Seq.{drop-append_seam}
use Rattle.base_values.specs.Laws.{StoresAgain}
use Rattle.base_values.specs.declared.value.Value.{Value}
use Rattle.server_model.specs.Along.{Along}
use Rattle.server_model.specs.declared.entry.Entry.{Entry}
use Rattle.server_model.specs.declared.outcome.Cause.{Cause}
use Rattle.server_model.specs.declared.outcome.Verdict.TheVariants as verdicts
use Rattle.plan_data.specs.PlanData.{PlanData}
use Rattle.tool_program.specs.CutoverCore.Attempts.{exchange}
use Rattle.tool_program.specs.JournalWords.Histories.{history, is_alter}
use Rattle.tool_program.specs.JournalWords.Journals.{IsAnswered, IsFaithful, state_at}
use Rattle.tool_program.specs.JournalWords.Serials.{IsSerial}
use Rattle.tool_program.specs.Verdicts.{new_column_name}
use Rattle.tool_finish.specs.Checkpoints.{has_checkpoint}
use Rattle.tool_finish.specs.declared.stage.Stage.{Stage}
use Rattle.tool_finish.specs.declared.stage.Stage.TheVariants.{Exchanging, Done, Reverted}
use Rattle.tool_finish.specs.declared.stage.UnfitRow.{UnfitRow}
use Rattle.tool_finish.specs.declared.stage.UnfitRow.TheVariants.{Copied, Applied}
use Rattle.tool_finish.specs.Finishes.{IsFinish, IsFinishTurn, cause_of, finish_verdict, is_over, stage_behind, verdict_in}
use Rattle.tool_finish.specs.WholeJournals.{IsUnfitBehind, StandsBehind}
use Rattle.proof_journals.specs.Ghost.HeldKeys.{Clustered}
use Rattle.proof_journals.specs.Plans.{IsPlanRun, scene_of}
use Rattle.proof_journals.specs.Run.Kept.{IsKept}
use Rattle.proof_journals.specs.Turns.{RenamesSo}
use Rattle.proof_migration.specs.Migration.Planning.{migration_of}
use Rattle.proof_migration.specs.Program.Turns.Laws.{IsMigrationOf}
use Rattle.proof_migration.specs.ToolPhase.Runnable.{IsAlterable}
use Rattle.proof_migration.specs.ToolPhase.Unaltered.{IsUnaltered}
use Rattle.proof_migration.proofs.Program.Follows.{own_table}
use Rattle.proof_migration.proofs.ToolPhase.Unaltered.Away.{unaltered_front}
use Rattle.proof_migration.proofs.ToolPhase.Unaltered.Runs.{unaltered_runs}
use Rattle.proof_bounds.specs.AttemptTurns.Attempts.{MayTry}
use Rattle.proof_plain.specs.Plans.{IsShort, PlainPlan}
use Rattle.proof_resume.specs.Finish.Runs.{ExchangesAltered}
use Rattle.proof_resume.proofs.Finish.Marks.{GoesMarked, MarkAt, marked_more, marked_run}
use Rattle.proof_resume.proofs.Finish.Prompt.{finish_turns}
use Rattle.proof_resume.proofs.Finish.Runs.{finishes_are_serial}
use Rattle.proof_resume.proofs.Finish.UnfitRows.{StandsAt, StandsSo, finish_stands, key_told, refusal_of}
use Rattle.proof_resume.proofs.Finish.Verdicts.{done_finishes_altered, migrating_of, reverted_finishes_did_not}
use Rattle.proof_resume.proofs.Starts.Exchanging.{finishes_exchange_altered, finishes_start_right}
use Rattle.proof_resume.proofs.Starts.Finishable.{Migrates, migrates}

module _ (plan : PlanData) (is : IsAlterable plan) (at : Clustered is.table.schema) (of : IsMigrationOf plan (migration_of is.table.schema is.new) is.table.rows) (tries : MayTry plan) (plain : PlainPlan plan) (run turns : List Entry) (kept : IsKept plan run) (short : IsShort run) (has : has_checkpoint plan run ≡ true)
    (finish : IsFinish plan run turns) (faithful : IsFaithful plan (run ++ turns)) where
  migrating : Migrates plan run
  migrating = migrates plan run has

  -- before the RENAME of the run's the new table is the altered one where the tables are exchanged, and all turns together are a run of the plan
  pub altered_runs : IsUnaltered plan run → ExchangesAltered plan run turns × IsPlanRun plan (run ++ turns)
  altered_runs off = finishes_exchange_altered plan is at of tries plain run migrating.work kept off migrating.phase short turns faithful finish

  -- THE HISTORY IS SERIAL

  abbrev Exchanges : List Entry → Entry → Type 0
  Exchanges before entry = stage_behind plan run (drop (length run) before) ≡ Exchanging → RenamesSo (scene_of plan []) (state_at plan before).tables (Some (exchange plan.table))

  abbrev Taken : List Entry → Entry → Type 0
  Taken before entry = IsFinishTurn plan run before entry × IsAnswered (state_at plan before) entry

  -- behind a RENAME of the run's the tables aren't exchanged
  none_exchanged : list_any is_alter (history plan run) ≡ true → (some rest : List Entry) → Along Taken (run ++ some) rest → GoesMarked plan run some → Along Exchanges (run ++ some) rest
  none_exchanged altered some [] taken goes = tt
  none_exchanged altered some (entry ∷ rest) taken goes = (
    λ exchanging. absurd (true≢false (sym altered ∙ unaltered_front plan run some (subst (MarkAt plan (run ++ some)) (sym (ap (stage_behind plan run) (drop-append_seam run some)) ∙ exchanging) goes.marks))),
    subst (λ (all : List Entry). Along Exchanges all rest) (sym (append_assoc run some (entry ∷ [])))
        (none_exchanged altered (some ++ entry ∷ []) rest (subst (λ (all : List Entry). Along Taken all rest) (append_assoc run some (entry ∷ [])) taken.1) (marked_more plan run some entry taken.0 goes)),
  )

  pub finish_serial : IsPlanRun plan run → IsSerial plan (run ++ turns)
  finish_serial plan_run = finishes_are_serial plan run turns of.runs plan_run kept finish faithful (by (list_any is_alter (history plan run)) refl) where
    by : (b : Bool) → list_any is_alter (history plan run) ≡ b → Along Exchanges run turns
    by false off = (altered_runs off).0
    by true altered =
        subst (λ (all : List Entry). Along Exchanges all turns) (append-nil run)
        (none_exchanged altered [] turns (subst (λ (all : List Entry). Along Taken all turns) (sym (append-nil run)) (finish_turns plan run turns finish faithful)) (marked_run plan run of.runs of.serial kept))

  -- WHAT THE VERDICT TELLS

  -- it is done, or it reverted a row
  over_so : is_over (stage_behind plan run turns) ≡ true → (finish_verdict plan run turns ≡ verdicts.Done) ⊎ ((cause : Cause) × (finish_verdict plan run turns ≡ verdicts.Reverted cause))
  unfolding finish_verdict
  over_so over = by (stage_behind plan run turns) over where
    by : (stage : Stage) → is_over stage ≡ true → (verdict_in plan (run ++ turns) stage ≡ verdicts.Done) ⊎ ((cause : Cause) × (verdict_in plan (run ++ turns) stage ≡ verdicts.Reverted cause))
    by Done over = inl refl
    by (Reverted row) over = inr (cause_of plan (run ++ turns) row, refl)
    by stage over = absurd (false≢true over)

  pub done_so : list_any is_alter (history plan (run ++ turns)) ≡ true → is_over (stage_behind plan run turns) ≡ true → finish_verdict plan run turns ≡ verdicts.Done
  done_so altered over = by (over_so over) where
    by : (finish_verdict plan run turns ≡ verdicts.Done) ⊎ ((cause : Cause) × (finish_verdict plan run turns ≡ verdicts.Reverted cause)) → finish_verdict plan run turns ≡ verdicts.Done
    by (inl done) = done
    by (inr reverted) = absurd (true≢false (sym altered ∙ reverted_finishes_did_not plan run turns reverted.0 of.runs of.serial kept finish faithful reverted.1))

  pub reverted_so : list_any is_alter (history plan (run ++ turns)) ≡ false → is_over (stage_behind plan run turns) ≡ true → (cause : Cause) × (finish_verdict plan run turns ≡ verdicts.Reverted cause)
  reverted_so off over = by (over_so over) where
    by : (finish_verdict plan run turns ≡ verdicts.Done) ⊎ ((cause : Cause) × (finish_verdict plan run turns ≡ verdicts.Reverted cause)) → (cause : Cause) × (finish_verdict plan run turns ≡ verdicts.Reverted cause)
    by (inl done) = absurd (true≢false (sym (done_finishes_altered plan run turns of.runs of.serial kept has finish faithful done) ∙ off))
    by (inr reverted) = reverted

  -- WHY IT REVERTS

  -- before the RENAME what was refused stands in the journal
  refused_stands : StoresAgain → IsUnaltered plan run → StandsAt plan run turns (stage_behind plan run turns)
  refused_stands again off =
      finish_stands again plan is at of run (unaltered_runs plan run of.runs of.serial kept off) kept
      (λ some faithful finish. finishes_start_right plan (migration_of is.table.schema is.new) at is.table.rows of tries plain (own_table plan is) run migrating.work kept off migrating.phase short some faithful finish)
      (migrating_of plan run has) turns finish faithful

  row_stands : (row : UnfitRow) → StandsSo plan run turns row → StandsBehind plan run turns (cause_of plan (run ++ turns) row)
  row_stands row stands = by row (subst (λ (key : List Value). IsUnfitBehind plan run turns (refusal_of row).turn key (new_column_name plan (refusal_of row).column) (refusal_of row).number) (sym told) stands.is) where
    told : key_told plan (run ++ turns) row ≡ stands.key
    told = ap (λ (j : List Entry). key_told plan j row) (sym (append-nil (run ++ turns))) ∙ stands.told []

    by : (row : UnfitRow) → IsUnfitBehind plan run turns (refusal_of row).turn (key_told plan (run ++ turns) row) (new_column_name plan (refusal_of row).column) (refusal_of row).number → StandsBehind plan run turns (cause_of plan (run ++ turns) row)
    by (Copied copier refusal) is = is
    by (Applied applier refusal) is = is

  pub stands_so : StoresAgain → (cause : Cause) → finish_verdict plan run turns ≡ verdicts.Reverted cause → StandsBehind plan run turns cause
  unfolding finish_verdict
  stands_so again cause reverted = by (stage_behind plan run turns) (refused_stands again off) reverted where
    off : IsUnaltered plan run
    off = unaltered_front plan run turns (reverted_finishes_did_not plan run turns cause of.runs of.serial kept finish faithful reverted)

    by : (stage : Stage) → StandsAt plan run turns stage → verdict_in plan (run ++ turns) stage ≡ verdicts.Reverted cause → StandsBehind plan run turns cause
    by (Reverted row) stands same = let one : cause_of plan (run ++ turns) row ≡ cause = cc in subst (StandsBehind plan run turns) one (row_stands row stands)
    by Done stands same = absurd (cc)
    by stage stands same = absurd (cc)
