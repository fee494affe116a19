-- What holds of each stage, and is kept by every answer: where the new tool isn't over, a call comes next.
use Rattle.std.proofs.Common.{◌≡◌, ◌≤◌, ℕ, ◌+◌, ◌==◌, Bool, true, false, ◌&&◌, List, [], ◌∷◌, ◌++◌, length, cond, Option, Some, None, refl, sym, ap, ◌∙◌, arith}
use Rattle.std.specs.Prelude.{is_some}
use Rattle.std.proofs.lemmas.Bool.{true≢false, false≢true}
use Rattle.std.proofs.lemmas.List.{length-append}
use Rattle.base_script.specs.declared.actor.Actor.{Actor}
use Rattle.server_model.specs.declared.answer.Answer.{Answer}
use Rattle.server_model.specs.declared.answer.Answer.TheVariants as answers
use Rattle.server_model.specs.declared.answer.KeyRange.{KeyRange}
use Rattle.server_model.specs.declared.entry.Entry.{Entry}
use Rattle.server_model.specs.declared.outcome.Progress.{Progress}
use Rattle.server_model.specs.declared.outcome.Progress.TheVariants.{Going, TaskDone, TaskFailed, Unfit}
use Rattle.server_model.specs.declared.request.Request.{Request}
use Rattle.server_model.specs.States.{State, unread}
use Rattle.base_values.specs.ToolNames.{log_name}
use Rattle.plan_data.specs.PlanData.{PlanData, has_counter}
use Rattle.server_model.specs.declared.outcome.Verdict.TheVariants as verdicts
use Rattle.tool_changelog.specs.declared.checkpoint.Reach.{Reach}
use Rattle.tool_notes.specs.declared.checkpoint.Checkpoint.{Checkpoint}
use Rattle.tool_program.specs.declared.chunk_copier.copier.Copier.{Copier}
use Rattle.tool_program.specs.declared.chunk_copier.copier.CopyRange.{CopyRange}
use Rattle.tool_program.specs.ChunkCopier.Copiers.{is_empty_range}
use Rattle.tool_program.specs.ChunkCopier.Copiers as copiers
use Rattle.tool_program.specs.declared.event_applier.applier.Applier.{Applier}
use Rattle.tool_program.specs.EventApplier.Appliers as appliers
use Rattle.tool_program.specs.EventApplier.BatchPlans as batches
use Rattle.tool_finish.specs.declared.stage.Listed.{Listed}
use Rattle.tool_finish.specs.declared.stage.Listed.TheVariants.{NotRenamed, Renamed}
use Rattle.tool_finish.specs.declared.stage.Stage.{Stage}
use Rattle.tool_finish.specs.declared.stage.Stage.TheVariants.{Losing, Listing, Reading, Clearing, ReadingCounter, SettingCounter, Ranging, Copying, Applying, Exchanging, DroppingLog, DroppingOld, RollingBack, Done, Reverted}
use Rattle.tool_finish.specs.Finishes.{range_from, copier_from, applier_from, Asking, copies, cuts, first_live, next, losing, listed, counting, clearing, checkpoint_in, has_read, counter_read, applying, copying, ranged, copied, applied, dropped_log, took, verdict_in, is_over}
use Rattle.tool_finish.specs.Stages.{FitsStage, wants_memory, ends, verdict_behind}
use Rattle.tool_finish.proofs.Machines.{IsCopying, copier_goes, copier_calls, applier_goes}

-- *What holds of a stage* behind these turns
abbrev pub Holds : PlanData → List Entry → Stage → Type 0
Holds plan journal Losing = is_some (first_live plan journal) ≡ true
Holds plan journal (Copying copier applier) = (copier.is_copied ≡ false) × IsCopying journal copier × batches.StepFits applier.step
Holds plan journal (Applying applier) = batches.StepFits applier.step
Holds plan journal stage = Unit {0}

losing_holds : (plan : PlanData) (journal : List Entry) → Holds plan journal (losing plan journal)
losing_holds plan journal = at (is_some (first_live plan journal)) refl
  where
    at : (b : Bool) → is_some (first_live plan journal) ≡ b → Holds plan journal (cond b Losing Listing)
    at true some = some
    at false none = tt

counting_holds : (plan : PlanData) (journal : List Entry) (found : Checkpoint) → Holds plan journal (counting plan found)
counting_holds plan journal found = at (has_counter plan)
  where
    at : (b : Bool) → Holds plan journal (cond b (ReadingCounter found) (Ranging found))
    at true = tt
    at false = tt

clearing_holds : (plan : PlanData) (journal : List Entry) (seen : Listed) (found : Checkpoint) → Holds plan journal (clearing plan seen found)
clearing_holds plan journal (NotRenamed true) found = tt
clearing_holds plan journal (NotRenamed false) found = counting_holds plan journal found
clearing_holds plan journal (Renamed old) found = tt

read_holds : (plan : PlanData) (journal : List Entry) (seen : Listed) (found : Option Checkpoint) → Holds plan journal (has_read plan seen found)
read_holds plan journal seen None = tt
read_holds plan journal seen (Some found) = clearing_holds plan journal seen found

applying_holds : (plan : PlanData) (journal : List Entry) (state : State) (applier : Applier) → batches.StepFits applier.step → Holds plan journal (applying plan state applier)
applying_holds plan journal state applier fits = at (appliers.starts applier && (unread state applier.position (plan.table ∷ log_name plan.table ∷ []) == 0))
  where
    at : (b : Bool) → Holds plan journal (cond b Exchanging (Applying applier))
    at true = tt
    at false = fits

copying_holds : (plan : PlanData) (journal : List Entry) (state : State) (copier : Copier) (applier : Applier) → (copier.is_copied ≡ false → IsCopying journal copier) → batches.StepFits applier.step → Holds plan journal (copying plan state copier applier)
copying_holds plan journal state copier applier is fits = at copier.is_copied refl
  where
    at : (b : Bool) → copier.is_copied ≡ b → Holds plan journal (cond b (applying plan state applier) (Copying copier applier))
    at true copied = applying_holds plan journal state applier fits
    at false going = (going, is going, fits)

some_range : (range : Option CopyRange) → is_empty_range range ≡ false → is_some range ≡ true
some_range (Some range) is = refl
some_range None is = absurd (true≢false is)

copied_holds : (plan : PlanData) (journal : List Entry) (state : State) (turn : ℕ) (applier : Applier) (before after : Copier) (progress : Progress) → IsCopying journal after → batches.StepFits applier.step → Holds plan journal (copied plan state turn applier before after progress)
copied_holds plan journal state turn applier before after (Unfit column number) is fits = tt
copied_holds plan journal state turn applier before after Going is fits = copying_holds plan journal state after applier (λ going. is) fits
copied_holds plan journal state turn applier before after TaskDone is fits = copying_holds plan journal state after applier (λ going. is) fits
copied_holds plan journal state turn applier before after TaskFailed is fits = copying_holds plan journal state after applier (λ going. is) fits

applied_holds : (plan : PlanData) (journal : List Entry) (state : State) (turn : ℕ) (before after : Applier) (progress : Progress) → batches.StepFits after.step → Holds plan journal (applied plan state turn before after progress)
applied_holds plan journal state turn before after (Unfit column number) fits = tt
applied_holds plan journal state turn before after Going fits = applying_holds plan journal state after fits
applied_holds plan journal state turn before after TaskDone fits = applying_holds plan journal state after fits
applied_holds plan journal state turn before after TaskFailed fits = applying_holds plan journal state after fits

module _ (plan : PlanData) (journal : List Entry) (entry : Entry) (state : State) where
  abbrev more : List Entry
  more = journal ++ entry ∷ []

  turns : length more ≡ length journal + 1
  turns = length-append journal (entry ∷ [])

  listed_holds : (answer : Answer) → Holds plan more (listed plan answer)
  listed_holds (answers.Tables tables) = tt
  listed_holds answer = tt

  counter_holds : (found : Checkpoint) (answer : Answer) → Holds plan more (counter_read found answer)
  counter_holds found (answers.At number) = tt
  counter_holds found answer = tt

  ranged_holds : (found : Checkpoint) (answer : Answer) → Holds plan more (ranged plan state found answer)
  ranged_holds found (answers.Ends range) =
      copying_holds plan more state (copier_from plan found.reach range) (applier_from plan found.position)
      (λ going. record { some = some_range (range_from found.reach range) going; few = omega (arith, turns); fits = tt; keys = tt }) tt
  ranged_holds found answer = tt

  log_holds : (old : Bool) → Holds plan more (dropped_log old)
  log_holds true = tt
  log_holds false = tt

  -- *Every answer keeps it*
  pub took_holds : (stage : Stage) → Holds plan journal stage → Holds plan more (took plan more state entry.answer stage)
  unfolding took
  took_holds Losing is = losing_holds plan more
  took_holds Listing is = listed_holds entry.answer
  took_holds (Reading seen) is = read_holds plan more seen (checkpoint_in entry.answer)
  took_holds (Clearing found) is = counting_holds plan more found
  took_holds (ReadingCounter found) is = counter_holds found entry.answer
  took_holds (SettingCounter found number) is = tt
  took_holds (Ranging found) is = ranged_holds found entry.answer
  took_holds (Copying copier applier) is =
      copied_holds plan more state (length more) applier copier (copiers.took (length more) copier entry.answer) (copiers.progress copier entry.answer)
      (copier_goes journal entry copier (length more) turns is.1) is.2
  took_holds (Applying applier) is =
      applied_holds plan more state (length more) applier (appliers.took (length more) applier entry.answer) (appliers.progress applier entry.answer) (applier_goes (length more) applier entry.answer is)
  took_holds Exchanging is = tt
  took_holds (DroppingLog old) is = log_holds old
  took_holds DroppingOld is = tt
  took_holds (RollingBack row) is = tt
  took_holds Done is = tt
  took_holds (Reverted row) is = tt

pub begins_holding : (plan : PlanData) (journal : List Entry) → Holds plan journal (losing plan journal)
begins_holding plan journal = losing_holds plan journal

-- WHAT IS ASKED

cut_comes : (live : Option Actor) → is_some live ≡ true → is_some (cuts live) ≡ true
cut_comes (Some actor) is = refl
cut_comes None is = absurd (false≢true is)

copy_comes : (request : Option Request) → is_some request ≡ true → is_some (copies request) ≡ true
copy_comes (Some request) is = refl
copy_comes None is = absurd (false≢true is)

-- *A call comes next* where the new tool isn't over
pub next_comes : (plan : PlanData) (journal : List Entry) (stage : Stage) → Holds plan journal stage → is_over stage ≡ false → is_some (next plan journal stage) ≡ true
unfolding next
next_comes plan journal Losing is going = cut_comes (first_live plan journal) is
next_comes plan journal Listing is going = refl
next_comes plan journal (Reading seen) is going = refl
next_comes plan journal (Clearing found) is going = refl
next_comes plan journal (ReadingCounter found) is going = refl
next_comes plan journal (SettingCounter found number) is going = refl
next_comes plan journal (Ranging found) is going = refl
next_comes plan journal (Copying copier applier) is going = copy_comes (copiers.next journal copier) (copier_calls journal copier is.0 is.1)
next_comes plan journal (Applying applier) is going = refl
next_comes plan journal Exchanging is going = refl
next_comes plan journal (DroppingLog old) is going = refl
next_comes plan journal DroppingOld is going = refl
next_comes plan journal (RollingBack row) is going = refl
next_comes plan journal Done is going = absurd (true≢false going)
next_comes plan journal (Reverted row) is going = absurd (true≢false going)

-- none comes where it is
pub over_none : (plan : PlanData) (journal : List Entry) (stage : Stage) (asking : Asking) → next plan journal stage ≡ Some asking → is_over stage ≡ false
unfolding next
over_none plan journal Done asking is = absurd (cc)
over_none plan journal (Reverted row) asking is = absurd (cc)
over_none plan journal Losing asking is = refl
over_none plan journal Listing asking is = refl
over_none plan journal (Reading seen) asking is = refl
over_none plan journal (Clearing found) asking is = refl
over_none plan journal (ReadingCounter found) asking is = refl
over_none plan journal (SettingCounter found number) asking is = refl
over_none plan journal (Ranging found) asking is = refl
over_none plan journal (Copying copier applier) asking is = refl
over_none plan journal (Applying applier) asking is = refl
over_none plan journal Exchanging asking is = refl
over_none plan journal (DroppingLog old) asking is = refl
over_none plan journal DroppingOld asking is = refl
over_none plan journal (RollingBack row) asking is = refl

-- what the code asks of a stage
pub holds_fits : (plan : PlanData) (journal : List Entry) (stage : Stage) → Holds plan journal stage → FitsStage (length journal) stage
holds_fits plan journal (Copying copier applier) is = (is.1.few, is.1.fits, is.2)
holds_fits plan journal (Applying applier) is = is
holds_fits plan journal Losing is = tt
holds_fits plan journal Listing is = tt
holds_fits plan journal (Reading seen) is = tt
holds_fits plan journal (Clearing found) is = tt
holds_fits plan journal (ReadingCounter found) is = tt
holds_fits plan journal (SettingCounter found number) is = tt
holds_fits plan journal (Ranging found) is = tt
holds_fits plan journal Exchanging is = tt
holds_fits plan journal (DroppingLog old) is = tt
holds_fits plan journal DroppingOld is = tt
holds_fits plan journal (RollingBack row) is = tt
holds_fits plan journal Done is = tt
holds_fits plan journal (Reverted row) is = tt

-- WHICH ANSWERS END IT

abbrev Goes : Stage → Type 0
Goes stage = is_over stage ≡ false

counting_goes : (plan : PlanData) (found : Checkpoint) → Goes (counting plan found)
counting_goes plan found = at (has_counter plan)
  where
    at : (b : Bool) → Goes (cond b (ReadingCounter found) (Ranging found))
    at true = refl
    at false = refl

read_goes : (plan : PlanData) (seen : Listed) (found : Option Checkpoint) → Goes (has_read plan seen found)
read_goes plan seen None = refl
read_goes plan (NotRenamed true) (Some found) = refl
read_goes plan (NotRenamed false) (Some found) = counting_goes plan found
read_goes plan (Renamed old) (Some found) = refl

applying_goes : (plan : PlanData) (state : State) (applier : Applier) → Goes (applying plan state applier)
applying_goes plan state applier = at (appliers.starts applier && (unread state applier.position (plan.table ∷ log_name plan.table ∷ []) == 0))
  where
    at : (b : Bool) → Goes (cond b Exchanging (Applying applier))
    at true = refl
    at false = refl

copying_goes : (plan : PlanData) (state : State) (copier : Copier) (applier : Applier) → Goes (copying plan state copier applier)
copying_goes plan state copier applier = at copier.is_copied
  where
    at : (b : Bool) → Goes (cond b (applying plan state applier) (Copying copier applier))
    at true = applying_goes plan state applier
    at false = refl

ranged_goes : (plan : PlanData) (state : State) (found : Checkpoint) (answer : Answer) → Goes (ranged plan state found answer)
ranged_goes plan state found (answers.Ends range) = copying_goes plan state (copier_from plan found.reach range) (applier_from plan found.position)
ranged_goes plan state found answer = refl

copied_goes : (plan : PlanData) (state : State) (turn : ℕ) (applier : Applier) (before after : Copier) (progress : Progress) → Goes (copied plan state turn applier before after progress)
copied_goes plan state turn applier before after (Unfit column number) = refl
copied_goes plan state turn applier before after Going = copying_goes plan state after applier
copied_goes plan state turn applier before after TaskDone = copying_goes plan state after applier
copied_goes plan state turn applier before after TaskFailed = copying_goes plan state after applier

applied_goes : (plan : PlanData) (state : State) (turn : ℕ) (before after : Applier) (progress : Progress) → Goes (applied plan state turn before after progress)
applied_goes plan state turn before after (Unfit column number) = refl
applied_goes plan state turn before after Going = applying_goes plan state after
applied_goes plan state turn before after TaskDone = applying_goes plan state after
applied_goes plan state turn before after TaskFailed = applying_goes plan state after

listed_goes : (plan : PlanData) (answer : Answer) → Goes (listed plan answer)
listed_goes plan (answers.Tables tables) = refl
listed_goes plan answer = refl

counter_goes : (found : Checkpoint) (answer : Answer) → Goes (counter_read found answer)
counter_goes found (answers.At number) = refl
counter_goes found answer = refl

losing_goes : (plan : PlanData) (journal : List Entry) → Goes (losing plan journal)
losing_goes plan journal = at (is_some (first_live plan journal))
  where
    at : (b : Bool) → Goes (cond b Losing Listing)
    at true = refl
    at false = refl

-- *It is over* behind the answer
pub took_ends : (plan : PlanData) (journal : List Entry) (state : State) (answer : Answer) (stage : Stage) → is_over (took plan journal state answer stage) ≡ ends stage
unfolding took
took_ends plan journal state answer Losing = losing_goes plan journal
took_ends plan journal state answer Listing = listed_goes plan answer
took_ends plan journal state answer (Reading seen) = read_goes plan seen (checkpoint_in answer)
took_ends plan journal state answer (Clearing found) = counting_goes plan found
took_ends plan journal state answer (ReadingCounter found) = counter_goes found answer
took_ends plan journal state answer (SettingCounter found number) = refl
took_ends plan journal state answer (Ranging found) = ranged_goes plan state found answer
took_ends plan journal state answer (Copying copier applier) = copied_goes plan state (length journal) applier copier (copiers.took (length journal) copier answer) (copiers.progress copier answer)
took_ends plan journal state answer (Applying applier) = applied_goes plan state (length journal) applier (appliers.took (length journal) applier answer) (appliers.progress applier answer)
took_ends plan journal state answer Exchanging = refl
took_ends plan journal state answer (DroppingLog true) = refl
took_ends plan journal state answer (DroppingLog false) = refl
took_ends plan journal state answer DroppingOld = refl
took_ends plan journal state answer (RollingBack row) = refl
took_ends plan journal state answer Done = refl
took_ends plan journal state answer (Reverted row) = refl

unfinished : (plan : PlanData) (journal : List Entry) (stage : Stage) → is_over stage ≡ false → verdict_in plan journal stage ≡ verdicts.Unfinished
unfinished plan journal Done is = absurd (true≢false is)
unfinished plan journal (Reverted row) is = absurd (true≢false is)
unfinished plan journal Losing is = refl
unfinished plan journal Listing is = refl
unfinished plan journal (Reading seen) is = refl
unfinished plan journal (Clearing found) is = refl
unfinished plan journal (ReadingCounter found) is = refl
unfinished plan journal (SettingCounter found number) is = refl
unfinished plan journal (Ranging found) is = refl
unfinished plan journal (Copying copier applier) is = refl
unfinished plan journal (Applying applier) is = refl
unfinished plan journal Exchanging is = refl
unfinished plan journal (DroppingLog old) is = refl
unfinished plan journal DroppingOld is = refl
unfinished plan journal (RollingBack row) is = refl

-- *Its verdict* behind the answer
pub took_verdict : (plan : PlanData) (journal : List Entry) (state : State) (answer : Answer) (stage : Stage) → verdict_in plan journal (took plan journal state answer stage) ≡ verdict_behind plan journal stage
unfolding took
took_verdict plan journal state answer Losing = unfinished plan journal (losing plan journal) (losing_goes plan journal)
took_verdict plan journal state answer Listing = unfinished plan journal (listed plan answer) (listed_goes plan answer)
took_verdict plan journal state answer (Reading seen) = unfinished plan journal (has_read plan seen (checkpoint_in answer)) (read_goes plan seen (checkpoint_in answer))
took_verdict plan journal state answer (Clearing found) = unfinished plan journal (counting plan found) (counting_goes plan found)
took_verdict plan journal state answer (ReadingCounter found) = unfinished plan journal (counter_read found answer) (counter_goes found answer)
took_verdict plan journal state answer (SettingCounter found number) = refl
took_verdict plan journal state answer (Ranging found) = unfinished plan journal (ranged plan state found answer) (ranged_goes plan state found answer)
took_verdict plan journal state answer (Copying copier applier) =
    unfinished plan journal (copied plan state (length journal) applier copier (copiers.took (length journal) copier answer) (copiers.progress copier answer))
    (copied_goes plan state (length journal) applier copier (copiers.took (length journal) copier answer) (copiers.progress copier answer))
took_verdict plan journal state answer (Applying applier) =
    unfinished plan journal (applied plan state (length journal) applier (appliers.took (length journal) applier answer) (appliers.progress applier answer))
    (applied_goes plan state (length journal) applier (appliers.took (length journal) applier answer) (appliers.progress applier answer))
took_verdict plan journal state answer Exchanging = refl
took_verdict plan journal state answer (DroppingLog true) = refl
took_verdict plan journal state answer (DroppingLog false) = refl
took_verdict plan journal state answer DroppingOld = refl
took_verdict plan journal state answer (RollingBack row) = refl
took_verdict plan journal state answer Done = refl
took_verdict plan journal state answer (Reverted row) = refl

-- HOW MANY SESSIONS WERE MADE DOESN'T MATTER

abbrev pub numbered : ℕ → State → State
numbered made state = record state { made = made }

applying_numbered : (plan : PlanData) (made : ℕ) (state : State) (applier : Applier) → applying plan (numbered made state) applier ≡ applying plan state applier
unfolding unread
applying_numbered plan made state applier = refl

copying_numbered : (plan : PlanData) (made : ℕ) (state : State) (copier : Copier) (applier : Applier) → copying plan (numbered made state) copier applier ≡ copying plan state copier applier
unfolding unread
copying_numbered plan made state copier applier = refl

copied_numbered : (plan : PlanData) (made : ℕ) (state : State) (turn : ℕ) (applier : Applier) (before after : Copier) (progress : Progress) → copied plan (numbered made state) turn applier before after progress ≡ copied plan state turn applier before after progress
copied_numbered plan made state turn applier before after (Unfit column number) = refl
copied_numbered plan made state turn applier before after Going = copying_numbered plan made state after applier
copied_numbered plan made state turn applier before after TaskDone = copying_numbered plan made state after applier
copied_numbered plan made state turn applier before after TaskFailed = copying_numbered plan made state after applier

applied_numbered : (plan : PlanData) (made : ℕ) (state : State) (turn : ℕ) (before after : Applier) (progress : Progress) → applied plan (numbered made state) turn before after progress ≡ applied plan state turn before after progress
applied_numbered plan made state turn before after (Unfit column number) = refl
applied_numbered plan made state turn before after Going = applying_numbered plan made state after
applied_numbered plan made state turn before after TaskDone = applying_numbered plan made state after
applied_numbered plan made state turn before after TaskFailed = applying_numbered plan made state after

ranged_numbered : (plan : PlanData) (made : ℕ) (state : State) (found : Checkpoint) (answer : Answer) → ranged plan (numbered made state) found answer ≡ ranged plan state found answer
ranged_numbered plan made state found (answers.Ends range) = copying_numbered plan made state (copier_from plan found.reach range) (applier_from plan found.position)
ranged_numbered plan made state found answer = refl

pub took_numbered : (plan : PlanData) (journal : List Entry) (made : ℕ) (state : State) (answer : Answer) (stage : Stage) → took plan journal (numbered made state) answer stage ≡ took plan journal state answer stage
unfolding took
took_numbered plan journal made state answer Losing = refl
took_numbered plan journal made state answer Listing = refl
took_numbered plan journal made state answer (Reading seen) = refl
took_numbered plan journal made state answer (Clearing found) = refl
took_numbered plan journal made state answer (ReadingCounter found) = refl
took_numbered plan journal made state answer (SettingCounter found number) = refl
took_numbered plan journal made state answer (Ranging found) = ranged_numbered plan made state found answer
took_numbered plan journal made state answer (Copying copier applier) = copied_numbered plan made state (length journal) applier copier (copiers.took (length journal) copier answer) (copiers.progress copier answer)
took_numbered plan journal made state answer (Applying applier) = applied_numbered plan made state (length journal) applier (appliers.took (length journal) applier answer) (appliers.progress applier answer)
took_numbered plan journal made state answer Exchanging = refl
took_numbered plan journal made state answer (DroppingLog old) = refl
took_numbered plan journal made state answer DroppingOld = refl
took_numbered plan journal made state answer (RollingBack row) = refl
took_numbered plan journal made state answer Done = refl
took_numbered plan journal made state answer (Reverted row) = refl

-- WHAT TAKES NO MEMORY

pub none_wants : (stage : Stage) → ((seen : Listed) → stage ≡ Reading seen → ⊥) → ((found : Checkpoint) → stage ≡ Ranging found → ⊥) → wants_memory stage ≡ false
none_wants (Reading seen) reads ranges = absurd (reads seen refl)
none_wants (Ranging found) reads ranges = absurd (ranges found refl)
none_wants Losing reads ranges = refl
none_wants Listing reads ranges = refl
none_wants (Clearing found) reads ranges = refl
none_wants (ReadingCounter found) reads ranges = refl
none_wants (SettingCounter found number) reads ranges = refl
none_wants (Copying copier applier) reads ranges = refl
none_wants (Applying applier) reads ranges = refl
none_wants Exchanging reads ranges = refl
none_wants (DroppingLog old) reads ranges = refl
none_wants DroppingOld reads ranges = refl
none_wants (RollingBack row) reads ranges = refl
none_wants Done reads ranges = refl
none_wants (Reverted row) reads ranges = refl
