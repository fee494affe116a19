-- What an answer makes of the applier's record, and what it then knows of the journal.
use Rattle.std.proofs.Common.{◌≡◌, ℕ, List, ◌++◌, drop, Option, Some, None, refl, sym, ap, ◌∙◌, subst}
use Rattle.base_values.specs.declared.mysql_errors.TheConstants.{ER_TABLE_NOT_LOCKED}
use Rattle.server_model.specs.declared.answer.Answer.{Answer}
use Rattle.server_model.specs.declared.answer.Answer.TheVariants as answers
use Rattle.server_model.specs.declared.entry.Entry.{Entry}
use Rattle.server_model.specs.declared.outcome.Progress.TheVariants.{Unfit}
use Rattle.server_model.specs.Entries.{answer_at}
use Rattle.server_model.specs.EarlierAnswers.{events_in}
use Rattle.tool_program.specs.declared.event_applier.applier.Applier.{Applier}
use Rattle.tool_program.specs.declared.event_applier.applier.ApplyStep.{ApplyStep}
use Rattle.tool_program.specs.declared.event_applier.applier.ApplyStep.TheVariants.{Reading, Beginning, Applying, Committing}
use Rattle.tool_program.specs.declared.event_applier.applier.Batch.{Batch}
use Rattle.tool_program.specs.declared.event_applier.applier.Part.{Part}
use Rattle.tool_program.specs.declared.event_applier.applier.Part.TheVariants.{Whole}
use Rattle.tool_program.specs.EventApplier.Appliers.{after_answer, call_at, next, progress, progress_at, took}
use Rattle.proof_journals.specs.Ghost.Rows.Timelines.{Migration}
use Rattle.proof_journals.specs.Ghost.Doings.{planned}
use Rattle.proof_journals.specs.Ghost.OwnChanges.{own_changes}
use Rattle.proof_migration.proofs.Migration.Copier.Knowing.{IsBad, IsGood, IsWait}
use Rattle.tool_program.proofs.JournalWords.Answers.{answer_more}
use Rattle.proof_migration.specs.Migration.Applier.ApplierPlace.{IsBatchReported, PartKnows, StepKnows, plan_at, plan_in, todo_of}

-- THE NEXT CALL

pub next_at : (journal : List Entry) (applier : Applier) (step : ApplyStep) → applier.step ≡ step → next journal applier ≡ call_at journal applier step
unfolding next
next_at journal applier step here = ap (call_at journal applier) here

-- ANSWERS

pub bad_took : (turn : ℕ) (applier : Applier) (answer : Answer) → IsBad answer → took turn applier answer ≡ record applier { step = Reading }
unfolding took
bad_took turn applier answers.Lost bad = refl
bad_took turn applier (answers.TimedOut waited) bad = refl
bad_took turn applier answer bad = absurd bad

pub took_at : (turn : ℕ) (applier : Applier) (step : ApplyStep) (answer : Answer) → applier.step ≡ step → IsGood answer → took turn applier answer ≡ after_answer turn applier step answer
unfolding took
took_at turn applier step answers.Lost here good = absurd good
took_at turn applier step (answers.TimedOut waited) here good = absurd good
took_at turn applier step answer here good = ap (λ (s : ApplyStep). after_answer turn applier s answer) here

-- a wait, and a refusal with ER_TABLE_NOT_LOCKED, leave the record as it is
pub waits_took : (turn : ℕ) (applier : Applier) (answer : Answer) → IsWait answer → took turn applier answer ≡ applier
unfolding took
waits_took turn applier (answers.Waits by) waits = at applier.step
  where
    at : (step : ApplyStep) → after_answer turn applier step (answers.Waits by) ≡ applier
    at Reading = refl
    at (Beginning batch) = refl
    at (Applying batch done part) = refl
    at (Committing batch) = refl
waits_took turn applier answer waits = absurd waits

same_step : (applier : Applier) (step : ApplyStep) → applier.step ≡ step → record applier { step = step } ≡ applier
same_step applier step here = ap (λ (s : ApplyStep). record applier { step = s }) (sym here)

pub outside_took : (turn : ℕ) (applier : Applier) → took turn applier (answers.Refused ER_TABLE_NOT_LOCKED None) ≡ applier
unfolding took
outside_took turn applier = at applier.step refl
  where
    at : (step : ApplyStep) → applier.step ≡ step → after_answer turn applier step (answers.Refused ER_TABLE_NOT_LOCKED None) ≡ applier
    at Reading here = refl
    at (Beginning batch) here = refl
    at (Applying batch done part) here = same_step applier (Applying batch done part) here
    at (Committing batch) here = refl

-- a refusal with a column ends the batch
pub unfit_progress : (applier : Applier) (batch : Batch) (done : ℕ) (part : Part) (number column : ℕ) → applier.step ≡ Applying batch done part → progress applier (answers.Refused number (Some column)) ≡ Unfit column number
unfolding progress
unfit_progress applier batch done part number column here = ap (λ (s : ApplyStep). progress_at applier s (answers.Refused number (Some column))) here

-- WHAT STAYS KNOWN

pub same_reported : (m : Migration) (journal more : List Entry) (batch : Batch) → IsBatchReported m journal batch → answer_at (journal ++ more) batch.read ≡ answer_at journal batch.read
same_reported m journal more batch reported = answer_more journal more batch.read _ reported.reported ∙ sym reported.reported

pub reported_more : (m : Migration) (journal more : List Entry) (batch : Batch) → IsBatchReported m journal batch → IsBatchReported m (journal ++ more) batch
reported_more m journal more batch reported = record { events = reported.events; reported = answer_more journal more batch.read _ reported.reported; counted = reported.counted; rows = reported.rows }

pub todo_more : (m : Migration) (journal more : List Entry) (batch : Batch) (done : ℕ) → IsBatchReported m journal batch → todo_of m (journal ++ more) batch done ≡ todo_of m journal batch done
todo_more m journal more batch done reported = ap (λ (answer : Option Answer). drop done (planned m (own_changes m.name (events_in answer)))) (same_reported m journal more batch reported)

pub plan_more : (m : Migration) (journal more : List Entry) (step : ApplyStep) → StepKnows m journal step → plan_at m (journal ++ more) step ≡ plan_at m journal step
plan_more m journal more Reading knows = refl
plan_more m journal more (Beginning batch) knows = ap (plan_in Whole batch.next) (todo_more m journal more batch 0 knows.0)
plan_more m journal more (Applying batch done part) knows = ap (plan_in part batch.next) (todo_more m journal more batch done knows.0)
plan_more m journal more (Committing batch) knows = refl

pub part_more : (m : Migration) (journal more : List Entry) (batch : Batch) (done : ℕ) (part : Part) → IsBatchReported m journal batch → PartKnows part (todo_of m journal batch done) → PartKnows part (todo_of m (journal ++ more) batch done)
part_more m journal more batch done part reported knows = subst (PartKnows part) (sym (todo_more m journal more batch done reported)) knows

pub step_more : (m : Migration) (journal more : List Entry) (step : ApplyStep) → StepKnows m journal step → StepKnows m (journal ++ more) step
step_more m journal more Reading knows = tt
step_more m journal more (Beginning batch) knows = (reported_more m journal more batch knows.0, knows.1)
step_more m journal more (Applying batch done part) knows = (reported_more m journal more batch knows.0, knows.1, part_more m journal more batch done part knows.0 knows.2)
step_more m journal more (Committing batch) knows = tt
