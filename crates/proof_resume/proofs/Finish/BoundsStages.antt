-- How many turns are left at each stage of a new tool for its copier and its applier: as many as the rows and the events allow before the copy
-- begins, and fewer with each turn.
use Rattle.std.proofs.Common.{◌≡◌, ℕ, ◌+◌, ◌*◌, ◌≤◌, ◌==◌, Bool, true, false, ◌&&◌, List, [], cond, Option, Some, None, refl, sym, ◌∙◌, subst, arith}
use Rattle.std.proofs.lemmas.Bool.{true≢false}
use Rattle.std.proofs.lemmas.Bool.Decides.{nat_tests}
use Rattle.table_store.specs.Databases.{TableRows, find_table}
use Rattle.server_model.specs.States.{State, unread}
use Rattle.server_model.specs.declared.answer.Answer.{Answer}
use Rattle.server_model.specs.declared.answer.Answer.TheVariants as answers
use Rattle.server_model.specs.declared.entry.Entry.{Entry}
use Rattle.server_model.specs.declared.outcome.Progress.{Progress}
use Rattle.server_model.specs.declared.outcome.Progress.TheVariants.{Going, TaskDone, TaskFailed, Unfit}
use Rattle.plan_data.specs.PlanData.{PlanData, has_counter}
use Rattle.tool_notes.specs.declared.checkpoint.Checkpoint.{Checkpoint}
use Rattle.tool_program.specs.JournalWords.Journals.{state_at}
use Rattle.tool_program.specs.declared.chunk_copier.copier.Copier.{Copier}
use Rattle.tool_program.specs.EventApplier.Appliers.{Doing}
use Rattle.tool_program.specs.EventApplier.Appliers as appliers
use Rattle.tool_program.specs.declared.event_applier.applier.Applier.{Applier}
use Rattle.tool_program.specs.declared.event_applier.applier.ApplyStep.{ApplyStep}
use Rattle.tool_program.specs.declared.event_applier.applier.ApplyStep.TheVariants as batches
use Rattle.tool_finish.specs.declared.stage.Listed.{Listed}
use Rattle.tool_finish.specs.declared.stage.Listed.TheVariants.{NotRenamed, Renamed}
use Rattle.tool_finish.specs.declared.stage.Stage.{Stage}
use Rattle.tool_finish.specs.declared.stage.Stage.TheVariants.{Losing, Listing, Reading, Clearing, ReadingCounter, SettingCounter, Ranging, Copying, Applying, Exchanging, DroppingLog}
use Rattle.tool_finish.specs.Finishes.{applied, applying, copied, copying, counter_read, counting, dropped_log, has_read, listed}
use Rattle.proof_bounds.specs.TaskTurns.Answers.{left_at}
use Rattle.proof_resume.specs.Finish.Batches.{LeavesTurns, TurnsLeft}
use Rattle.proof_resume.specs.Finish.Chunks.{CopiesLeft, LeavesCopies}
use Rattle.proof_resume.proofs.Finish.BoundsApplier.{batch_doings, AreDoings}

-- so many turns are left at most for these statements of the applier's batch, and for the events that are left
pub record AppliesLeft (plan : PlanData) (journal : List Entry) (turns : ℕ) (applier : Applier) : Type 0 where
  pub doings : List Doing
  pub left : TurnsLeft plan.table (state_at plan journal).log turns applier.position doings applier.step
  pub are : AreDoings (batch_doings journal applier) doings applier.step
  pub some : appliers.starts applier ≡ true → 1 ≤ left_at plan.table (state_at plan journal).log applier.position

-- and so many for the rows that aren't copied, and for the events
pub record WorkLeft (plan : PlanData) (journal : List Entry) (turns : ℕ) (copier : Copier) (applier : Applier) : Type 0 where
  pub table : TableRows
  pub found : find_table plan.table (state_at plan journal).tables ≡ Some table
  pub copies : ℕ
  pub left : CopiesLeft journal table copies copier
  pub uncopied : copier.is_copied ≡ false
  pub within : copies + 6 * left_at plan.table (state_at plan journal).log applier.position ≤ turns

-- where the copy hasn't begun, so many are left in all
module _ (plan : PlanData) (most : ℕ) where
  abbrev pub LeftAt : List Entry → ℕ → Stage → Type 0
  LeftAt journal turns Losing = most ≤ turns
  LeftAt journal turns Listing = most ≤ turns
  LeftAt journal turns (Reading seen) = most ≤ turns
  LeftAt journal turns (Clearing found) = most ≤ turns
  LeftAt journal turns (ReadingCounter found) = most ≤ turns
  LeftAt journal turns (SettingCounter found number) = most ≤ turns
  LeftAt journal turns (Ranging found) = most ≤ turns
  LeftAt journal turns (Copying copier applier) = WorkLeft plan journal turns copier applier
  LeftAt journal turns (Applying applier) = AppliesLeft plan journal turns applier
  LeftAt journal turns stage = Unit {0}

  -- WHAT IS LEFT BEHIND A TURN

  module _ (journal : List Entry) (turns : ℕ) where
    abbrev now : State
    now = state_at plan journal

    some_left : (n : ℕ) → (n == 0) ≡ false → 1 ≤ n
    some_left n other = grind (arith, nat_tests)

    pub applying_left : (applier : Applier) (doings : List Doing) → TurnsLeft plan.table now.log turns applier.position doings applier.step → AreDoings (batch_doings journal applier) doings applier.step → LeftAt journal turns (applying plan now applier)
    unfolding unread
    applying_left applier doings left are = by (appliers.starts applier) refl (left_at plan.table now.log applier.position == 0) refl where
      by : (starts : Bool) → appliers.starts applier ≡ starts → (none : Bool) → (left_at plan.table now.log applier.position == 0) ≡ none → LeftAt journal turns (cond (starts && none) Exchanging (Applying applier))
      by true starts true none = tt
      by true starts false none = record { doings = doings; left = left; are = are; some = λ is. some_left (left_at plan.table now.log applier.position) none }
      by false starts none same = record { doings = doings; left = left; are = are; some = λ is. absurd (true≢false (sym is ∙ starts)) }

    reading_of : (step : ApplyStep) → appliers.is_reading step ≡ true → step ≡ batches.Reading
    reading_of batches.Reading is = refl
    reading_of (batches.Beginning batch) is = absurd (true≢false (sym is))
    reading_of (batches.Applying batch done part) is = absurd (true≢false (sym is))
    reading_of (batches.Committing batch) is = absurd (true≢false (sym is))

    -- an applier that reads next
    starting_left : (applier : Applier) → appliers.starts applier ≡ true → 6 * left_at plan.table now.log applier.position ≤ turns → LeftAt journal turns (applying plan now applier)
    starting_left applier starts few =
        let step : applier.step ≡ batches.Reading = reading_of applier.step starts in
        applying_left applier [] (subst (TurnsLeft plan.table now.log turns applier.position []) (sym step) few) (subst (AreDoings (batch_doings journal applier) []) (sym step) tt)

    pub copying_left : (copier : Copier) (applier : Applier) (table : TableRows) (copies : ℕ) → appliers.starts applier ≡ true → find_table plan.table now.tables ≡ Some table → CopiesLeft journal table copies copier → copies + 6 * left_at plan.table now.log applier.position ≤ turns → LeftAt journal turns (copying plan now copier applier)
    copying_left copier applier table copies starts found left within = by copier.is_copied refl where
      by : (b : Bool) → copier.is_copied ≡ b → LeftAt journal turns (cond b (applying plan now applier) (Copying copier applier))
      by true all = starting_left applier starts (omega (arith, within))
      by false uncopied = record { table = table; found = found; copies = copies; left = left; uncopied = uncopied; within = within }

    -- a copier's turn
    pub copied_left : (turn : ℕ) (before then : Copier) (applier : Applier) (table : TableRows) (copies : ℕ) (progress : Progress) → appliers.starts applier ≡ true → find_table plan.table now.tables ≡ Some table → LeavesCopies journal table copies then progress → copies + 6 * left_at plan.table now.log applier.position ≤ turns
        → LeftAt journal turns (copied plan now turn applier before then progress)
    copied_left turn before then applier table copies (Unfit place number) starts found left within = tt
    copied_left turn before then applier table copies Going starts found left within = copying_left then applier table copies starts found left within
    copied_left turn before then applier table copies TaskDone starts found left within = copying_left then applier table copies starts found left within
    copied_left turn before then applier table copies TaskFailed starts found left within = copying_left then applier table copies starts found left within

    -- an applier's turn
    pub applied_left : (turn : ℕ) (before then : Applier) (doings : List Doing) (progress : Progress) → LeavesTurns plan.table now.log turns doings then progress → AreDoings (batch_doings journal then) doings then.step → LeftAt journal turns (applied plan now turn before then progress)
    applied_left turn before then doings (Unfit place number) left are = tt
    applied_left turn before then doings Going left are = applying_left then doings left are
    applied_left turn before then doings TaskDone left are = applying_left then doings left are
    applied_left turn before then doings TaskFailed left are = applying_left then doings left are

    -- the stages before
    pub losing_left : (live : Bool) → most ≤ turns → LeftAt journal turns (cond live Losing Listing)
    losing_left true few = few
    losing_left false few = few

    pub listed_left : (given : Answer) → most ≤ turns → LeftAt journal turns (listed plan given)
    listed_left (answers.Tables tables) few = few
    listed_left other few = few

    pub counting_left : (found : Checkpoint) → most ≤ turns → LeftAt journal turns (counting plan found)
    counting_left found few = by (has_counter plan) where
      by : (b : Bool) → LeftAt journal turns (cond b (ReadingCounter found) (Ranging found))
      by true = few
      by false = few

    pub read_left : (seen : Listed) (found : Option Checkpoint) → most ≤ turns → LeftAt journal turns (has_read plan seen found)
    read_left seen None few = few
    read_left (NotRenamed true) (Some found) few = few
    read_left (NotRenamed false) (Some found) few = counting_left found few
    read_left (Renamed old) (Some found) few = tt

    pub counter_left : (found : Checkpoint) (given : Answer) → most ≤ turns → LeftAt journal turns (counter_read found given)
    counter_left found (answers.At number) few = few
    counter_left found other few = few

    pub log_left : (old : Bool) → LeftAt journal turns (dropped_log old)
    log_left true = tt
    log_left false = tt
