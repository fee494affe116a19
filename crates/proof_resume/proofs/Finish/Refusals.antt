-- A new tool reverts by a row that doesn't fit: its refusal is in the journal.
use Rattle.std.proofs.Common.{◌≡◌, ℕ, ◌+◌, ◌==◌, Bool, true, false, ◌&&◌, List, [], ◌∷◌, ◌++◌, length, cond, Option, Some, None, refl, sym, ap, ◌∙◌, subst, append_assoc, append-nil, arith}
use Rattle.std.specs.Prelude.{is_some}
use Rattle.std.proofs.lemmas.List.{length-append}
use Rattle.base_values.specs.ToolNames.{log_name}
use Rattle.server_model.specs.Entries.{answer_at}
use Rattle.server_model.specs.States.{State, unread}
use Rattle.server_model.specs.declared.answer.Answer.{Answer}
use Rattle.server_model.specs.declared.answer.Answer.TheVariants as answers
use Rattle.server_model.specs.declared.entry.Entry.{Entry}
use Rattle.server_model.specs.declared.outcome.Progress.{Progress}
use Rattle.server_model.specs.declared.outcome.Progress.TheVariants.{Going, TaskDone, TaskFailed, Unfit}
use Rattle.server_model.specs.declared.outcome.Verdict.TheVariants as verdicts
use Rattle.plan_data.specs.PlanData.{PlanData, has_counter, old_schema}
use Rattle.base_values.specs.GhoSchema.Rows.{key_places}
use Rattle.tool_notes.specs.declared.checkpoint.Checkpoint.{Checkpoint}
use Rattle.tool_program.specs.JournalWords.Journals.{state_at}
use Rattle.tool_program.proofs.JournalWords.Answers.{answer_here, answer_more}
use Rattle.tool_program.specs.declared.chunk_copier.copier.Copier.{Copier}
use Rattle.tool_program.specs.declared.chunk_copier.copier.CopyStep.{CopyStep}
use Rattle.tool_program.specs.declared.chunk_copier.copier.CopyStep.TheVariants as chunks
use Rattle.tool_program.specs.ChunkCopier.Copiers as copiers
use Rattle.tool_program.specs.declared.event_applier.applier.Applier.{Applier}
use Rattle.tool_program.specs.declared.event_applier.applier.ApplyStep.{ApplyStep}
use Rattle.tool_program.specs.declared.event_applier.applier.ApplyStep.TheVariants as batches
use Rattle.tool_program.specs.EventApplier.Appliers as appliers
use Rattle.tool_finish.specs.declared.stage.Listed.{Listed}
use Rattle.tool_finish.specs.declared.stage.Listed.TheVariants.{NotRenamed, Renamed}
use Rattle.tool_finish.specs.declared.stage.Refusal.{Refusal}
use Rattle.tool_finish.specs.declared.stage.Stage.{Stage}
use Rattle.tool_finish.specs.declared.stage.Stage.TheVariants.{Losing, Listing, Reading, Clearing, ReadingCounter, SettingCounter, Ranging, Copying, Applying, Exchanging, DroppingLog, DroppingOld, RollingBack, Done, Reverted}
use Rattle.tool_finish.specs.declared.stage.UnfitRow.{UnfitRow}
use Rattle.tool_finish.specs.declared.stage.UnfitRow.TheVariants.{Copied, Applied}
use Rattle.tool_finish.specs.Finishes.{applied, applier_from, applying, cause_of, checkpoint_in, copied, copier_from, copying, counter_read, counting, dropped_log, finish_verdict, first_live, has_read, listed, ranged, stage_behind, took, verdict_in}
use Rattle.tool_finish.proofs.Walking.{stage_more}
use Rattle.proof_resume.specs.Finish.Verdicts.{FinishesRevertByRows, IsCausedBy, IsRefused}

abbrev refusal_of : UnfitRow → Refusal
refusal_of (Copied copier refusal) = refusal
refusal_of (Applied applier refusal) = refusal

-- the row that is rolled back was refused
abbrev RefusedAt : List Entry → List Entry → Stage → Type 0
RefusedAt run turns (RollingBack row) = IsRefused run turns (refusal_of row)
RefusedAt run turns (Reverted row) = IsRefused run turns (refusal_of row)
RefusedAt run turns stage = Unit {0}

-- a row that doesn't fit was refused by its column
copy_refused : (step : CopyStep) (answer : Answer) (column number : ℕ) → copiers.progress_at step answer ≡ Unfit column number → answer ≡ answers.Refused number (Some column)
copy_refused step answers.Lost column number is = absurd (cc)
copy_refused step (answers.TimedOut waited) column number is = absurd (cc)
copy_refused (chunks.Copying chunk copied) (answers.Refused refused (Some place)) column number is = cc
copy_refused (chunks.Committing chunk) (answers.Ok count) column number is = absurd (cc)
copy_refused step answer column number is = absurd (cc)

apply_refused : (applier : Applier) (step : ApplyStep) (answer : Answer) (column number : ℕ) → appliers.progress_at applier step answer ≡ Unfit column number → answer ≡ answers.Refused number (Some column)
apply_refused applier step answers.Lost column number is = absurd (cc)
apply_refused applier step (answers.TimedOut waited) column number is = absurd (cc)
apply_refused applier batches.Reading (answers.Events events following) column number is = absurd (by (length (appliers.planned applier events) == 0) is) where
  by : (b : Bool) → cond b TaskDone Going ≡ Unfit column number → ⊥
  by true is = cc
  by false is = cc
apply_refused applier (batches.Applying batch done part) (answers.Refused refused (Some place)) column number is = cc
apply_refused applier (batches.Committing batch) (answers.Ok count) column number is = absurd (cc)
apply_refused applier step answer column number is = absurd (cc)

module _ (plan : PlanData) (run turns : List Entry) (entry : Entry) where
  abbrev later : List Entry
  later = turns ++ entry ∷ []

  abbrev more : List Entry
  more = (run ++ turns) ++ entry ∷ []

  abbrev after : State
  after = state_at plan more

  all : run ++ later ≡ more
  all = sym (append_assoc run turns (entry ∷ []))

  -- this turn's refusal
  here : (column number : ℕ) → entry.answer ≡ answers.Refused number (Some column) → IsRefused run later (record { turn = length more; column = column; number = number })
  here column number is =
      let last : length more ≡ length (run ++ turns) + 1 = length-append (run ++ turns) (entry ∷ []) in
      let front : length (run ++ turns) ≡ length run + length turns = length-append run turns in
      record {
        own = omega (arith, last, front);
        refused = ap (λ (j : List Entry). answer_at j (length more)) all ∙ ap (answer_at more) last ∙ answer_here (run ++ turns) entry ∙ ap Some is;
      }

  stays : (refusal : Refusal) → IsRefused run turns refusal → IsRefused run later refusal
  stays refusal is = record { own = is.own; refused = ap (λ (j : List Entry). answer_at j refusal.turn) all ∙ answer_more (run ++ turns) (entry ∷ []) refusal.turn _ is.refused }

  counting_at : (found : Checkpoint) → RefusedAt run later (counting plan found)
  counting_at found = by (has_counter plan) where
    by : (b : Bool) → RefusedAt run later (cond b (ReadingCounter found) (Ranging found))
    by true = tt
    by false = tt

  read_at : (seen : Listed) (found : Option Checkpoint) → RefusedAt run later (has_read plan seen found)
  read_at seen None = tt
  read_at (NotRenamed true) (Some found) = tt
  read_at (NotRenamed false) (Some found) = counting_at found
  read_at (Renamed old) (Some found) = tt

  applying_at : (applier : Applier) → RefusedAt run later (applying plan after applier)
  applying_at applier = by (appliers.starts applier && (unread after applier.position (plan.table ∷ log_name plan.table ∷ []) == 0)) where
    by : (b : Bool) → RefusedAt run later (cond b Exchanging (Applying applier))
    by true = tt
    by false = tt

  copying_at : (copier : Copier) (applier : Applier) → RefusedAt run later (copying plan after copier applier)
  copying_at copier applier = by copier.is_copied where
    by : (b : Bool) → RefusedAt run later (cond b (applying plan after applier) (Copying copier applier))
    by true = applying_at applier
    by false = tt

  copied_at : (applier : Applier) (before then : Copier) (progress : Progress) → ((column number : ℕ) → progress ≡ Unfit column number → entry.answer ≡ answers.Refused number (Some column)) → RefusedAt run later (copied plan after (length more) applier before then progress)
  copied_at applier before then (Unfit column number) is = here column number (is column number refl)
  copied_at applier before then Going is = copying_at then applier
  copied_at applier before then TaskDone is = copying_at then applier
  copied_at applier before then TaskFailed is = copying_at then applier

  applied_at : (before then : Applier) (progress : Progress) → ((column number : ℕ) → progress ≡ Unfit column number → entry.answer ≡ answers.Refused number (Some column)) → RefusedAt run later (applied plan after (length more) before then progress)
  applied_at before then (Unfit column number) is = here column number (is column number refl)
  applied_at before then Going is = applying_at then
  applied_at before then TaskDone is = applying_at then
  applied_at before then TaskFailed is = applying_at then

  listed_at : (given : Answer) → RefusedAt run later (listed plan given)
  listed_at (answers.Tables tables) = tt
  listed_at given = tt

  counter_at : (found : Checkpoint) (given : Answer) → RefusedAt run later (counter_read found given)
  counter_at found (answers.At number) = tt
  counter_at found given = tt

  ranged_at : (found : Checkpoint) (given : Answer) → RefusedAt run later (ranged plan after found given)
  ranged_at found (answers.Ends range) = copying_at (copier_from plan found.reach range) (applier_from plan found.position)
  ranged_at found given = tt

  log_at : (old : Bool) → RefusedAt run later (dropped_log old)
  log_at true = tt
  log_at false = tt

  losing_at : (live : Bool) → RefusedAt run later (cond live Losing Listing)
  losing_at true = tt
  losing_at false = tt

  turn_at : (stage : Stage) → RefusedAt run turns stage → RefusedAt run later (took plan more after entry.answer stage)
  unfolding took copiers.progress appliers.progress
  turn_at Losing is = losing_at (is_some (first_live plan more))
  turn_at Listing is = listed_at entry.answer
  turn_at (Reading seen) is = read_at seen (checkpoint_in entry.answer)
  turn_at (Clearing found) is = counting_at found
  turn_at (ReadingCounter found) is = counter_at found entry.answer
  turn_at (SettingCounter found number) is = tt
  turn_at (Ranging found) is = ranged_at found entry.answer
  turn_at (Copying copier applier) is = copied_at applier copier (copiers.took (length more) copier entry.answer) (copiers.progress copier entry.answer) (copy_refused copier.step entry.answer)
  turn_at (Applying applier) is = applied_at applier (appliers.took (length more) applier entry.answer) (appliers.progress applier entry.answer) (apply_refused applier applier.step entry.answer)
  turn_at Exchanging is = tt
  turn_at (DroppingLog old) is = log_at old
  turn_at DroppingOld is = tt
  turn_at (RollingBack row) is = stays (refusal_of row) is
  turn_at Done is = tt
  turn_at (Reverted row) is = stays (refusal_of row) is

all_at : (plan : PlanData) (run turns rest : List Entry) → RefusedAt run turns (stage_behind plan run turns) → RefusedAt run (turns ++ rest) (stage_behind plan run (turns ++ rest))
all_at plan run turns [] is = subst (λ (t : List Entry). RefusedAt run t (stage_behind plan run t)) (sym (append-nil turns)) is
all_at plan run turns (entry ∷ rest) is =
    subst (λ (t : List Entry). RefusedAt run t (stage_behind plan run t)) (append_assoc turns (entry ∷ []) rest)
    (all_at plan run (turns ++ entry ∷ []) rest (subst (RefusedAt run (turns ++ entry ∷ [])) (sym (stage_more plan run turns entry)) (turn_at plan run turns entry (stage_behind plan run turns) is)))

begins_at : (plan : PlanData) (run : List Entry) → RefusedAt run [] (stage_behind plan run [])
unfolding stage_behind
begins_at plan run = by (is_some (first_live plan run)) where
  by : (b : Bool) → RefusedAt run [] (cond b Losing Listing)
  by true = tt
  by false = tt

-- *Finishes revert by a row that doesn't fit*
pub finishes_revert_by_rows : FinishesRevertByRows
unfolding finish_verdict
finishes_revert_by_rows plan run turns cause is = by (stage_behind plan run turns) (all_at plan run [] turns (begins_at plan run)) is where
  caused : (row : UnfitRow) → IsRefused run turns (refusal_of row) → verdicts.Reverted (cause_of plan (run ++ turns) row) ≡ verdicts.Reverted cause → IsCausedBy plan run turns cause
  caused (Copied copier refusal) refused same = record { refusal = refusal; key = copiers.unfit_key (run ++ turns) copier; is_refused = refused; cause_is = cc }
  caused (Applied applier refusal) refused same = record { refusal = refusal; key = appliers.unfit_key (run ++ turns) (key_places (old_schema plan)) applier; is_refused = refused; cause_is = cc }

  by : (stage : Stage) → RefusedAt run turns stage → verdict_in plan (run ++ turns) stage ≡ verdicts.Reverted cause → IsCausedBy plan run turns cause
  by (Reverted row) refused same = caused row refused same
  by Done refused same = absurd (cc)
  by stage refused same = absurd (cc)
