-- *Resumed run*: where a plan has `resume`, and its run took as many turns as the plan allows, hasn't ended and left a checkpoint, a new
-- tool goes on behind it. Its turns stand in the journal behind the run's. (After gh-ost's `resume.md`; what is promised of it is this
-- project's rule.)
use Rattle.std.specs.Prelude.{◌≡◌, ℕ, ◌≤◌, Bool, true, false, not, ◌&&◌, ◌||◌, List, [], ◌++◌, length}
use Rattle.std.specs.List.{AllByRecursion, list_any}
use Rattle.server_model.specs.declared.entry.Entry.{Entry}
use Rattle.server_model.specs.declared.outcome.Cause.{Cause}
use Rattle.server_model.specs.declared.outcome.Verdict.{Verdict}
use Rattle.server_model.specs.declared.outcome.Verdict.TheVariants as verdicts
use Rattle.server_model.specs.Entries.{is_cut}
use Rattle.server_model.specs.States.{State}
use Rattle.plan_data.specs.PlanData.{PlanData}
use Rattle.tool_program.specs.JournalWords.Draws.{Draws}
use Rattle.tool_program.specs.JournalWords.Histories.{history, is_alter}
use Rattle.tool_program.specs.JournalWords.Journals.{IsFaithful, state_at}
use Rattle.tool_program.specs.JournalWords.Serials.{IsSerial}
use Rattle.tool_program.specs.JournalWords.Sessions.{KeepsSessions}
use Rattle.tool_program.specs.Verdicts.{has_ended}
use Rattle.tool_finish.specs.Callable.{IsFinishable}
use Rattle.tool_finish.specs.Checkpoints.{has_checkpoint}
use Rattle.tool_finish.specs.Finishes.{IsFinish, finish_verdict, stage_behind}
use Rattle.tool_finish.specs.Finishes as finishes
pub use Rattle.tool_finish.specs.WholeJournals.{IsUnfitBehind, StandsAt, StandsBehind, StandsIn, TellsAlterAt, finish_in, has_ended_at, has_finished, row_at, run_in, verdict_at}
use Rattle.proof_resume.specs.Finish.Bounds.{most_turns}
use Rattle.proof_resume.specs.Finish.Prompt.{came_at_once}
use Rattle.proof_plans.specs.ReadPlans.Laws.{WasRead}
use Rattle.run_turns.specs.Runs.{is_over}
use Rattle.top_call.specs.WholeReplays.SoundRuns.{IsSoundRun}

-- WHETHER A NEW TOOL COMES

-- *Is resumed*: a new tool goes on behind this run
unfoldable pub is_resumed : PlanData → List Entry → Bool
is_resumed plan run = plan.options.resume && is_over plan run && not (has_ended plan run) && has_checkpoint plan run

-- WHAT THE NEW TOOL DOES

-- *Sound finish*: each turn is the one that comes next, and the server's answers are in them. After the losses each call is answered at
-- once. What clients got and the tables that are left are those of their ended transactions, one at a time, with the ALTER at one instant
-- or not at all; drawn numbers rise. There are no more turns than a bound. Where memory ran out, the last turns may be missing.
pub record IsSoundFinish (plan : PlanData) (run turns : List Entry) : Type 0 where
  pub finish : IsFinish plan run turns
  pub faithful : IsFaithful plan (run ++ turns)
  pub sessions : KeepsSessions (run ++ turns)
  pub at_once : AllByRecursion (λ entry. is_cut entry.asked ≡ false → came_at_once entry.answer ≡ true) turns
  pub serial : IsSerial plan (run ++ turns)
  pub draws : Draws plan (run ++ turns)
  pub few : length turns ≤ most_turns plan (state_at plan run)

-- a new tool's turns stand behind a run that is resumed, and none behind any other
abbrev pub GoesOn : Bool → PlanData → List Entry → List Entry → Type 0
GoesOn true plan run turns = IsSoundFinish plan run turns
GoesOn false plan run turns = turns ≡ []

abbrev pub Resumes : PlanData → List Entry → Type 0
Resumes plan journal = GoesOn (is_resumed plan (run_in plan journal)) plan (run_in plan journal) (finish_in plan journal)

-- HOW IT ENDS

-- *Over*: the run is, and so is the new tool where it is resumed
abbrev pub is_over_at : PlanData → List Entry → Bool
is_over_at plan journal = is_over plan (run_in plan journal) && (not (is_resumed plan (run_in plan journal)) || has_finished plan journal)

-- A RUN TO ITS END

-- *Finishes the run*: the journal has the run's turns, and behind them so many of the new tool's as there was memory for
pub record FinishesRun (plan : PlanData) (run journal : List Entry) : Type 0 where
  pub turns : List Entry
  pub journal_is : journal ≡ run ++ turns
  pub finish : IsFinish plan run turns
  pub faithful : IsFaithful plan journal
  pub sessions : KeepsSessions journal

-- *Whole run*: the journal has the run's turns, and behind them those of a new tool where one comes
pub record IsWholeRun (plan : PlanData) (run journal : List Entry) : Type 0 where
  pub turns : List Entry
  pub journal_is : journal ≡ run ++ turns
  pub goes_on : GoesOn (is_resumed plan run) plan run turns

-- this verdict, and this server with no more sessions than were counted
pub record IsEndOf (last : Verdict) (left : State) (verdict : Verdict) (server : State) (sessions : ℕ) : Type 0 where
  pub verdict_is : verdict ≡ last
  pub server_is : server ≡ left
  pub made : server.made ≤ sessions

-- The run has ended, or has as many turns as the plan allows, and the new tool is over where it is resumed; the verdict is that of the
-- journal, and the server is the one at its end.
pub record IsEnd (plan : PlanData) (journal : List Entry) (verdict : Verdict) (server : State) (sessions : ℕ) : Type 0 where
  pub over : is_over_at plan journal ≡ true
  pub end : IsEndOf (verdict_at plan journal) (state_at plan journal) verdict server sessions

-- WHAT IS PROMISED OF EVERY NEW TOOL

-- *Finishes may call*: behind a run of an accepted plan with a checkpoint, each call of the new tool may be made.
abbrev pub FinishesMayCall : Type 0
FinishesMayCall = (plan : PlanData) (run : List Entry) → WasRead plan → IsSoundRun plan run → has_checkpoint plan run ≡ true → IsFinishable plan run

-- *Finishes are sound*: so are the new tool's turns behind a run of an accepted plan that is resumed.
unfoldable pub FinishesAreSound : Type 0
FinishesAreSound =
    (plan : PlanData) (run turns : List Entry) → WasRead plan → IsSoundRun plan run → is_resumed plan run ≡ true → IsFinish plan run turns → IsFaithful plan (run ++ turns) → KeepsSessions (run ++ turns) → IsSoundFinish plan run turns

-- how a new tool that is over ended: with the ALTER in the history, or with a row that doesn't fit
pub record EndsBehind (plan : PlanData) (run turns : List Entry) : Type 0 where
  pub done : list_any is_alter (history plan (run ++ turns)) ≡ true → finish_verdict plan run turns ≡ verdicts.Done
  pub reverted : list_any is_alter (history plan (run ++ turns)) ≡ false → (cause : Cause) × (finish_verdict plan run turns ≡ verdicts.Reverted cause)
  pub stands : (cause : Cause) → finish_verdict plan run turns ≡ verdicts.Reverted cause → StandsBehind plan run turns cause

-- *Finishes tell the ALTER*
abbrev pub FinishesTellTheAlter : Type 0
FinishesTellTheAlter = (plan : PlanData) (run turns : List Entry) → WasRead plan → IsSoundRun plan run → is_resumed plan run ≡ true → IsSoundFinish plan run turns → finishes.is_over (stage_behind plan run turns) ≡ true → EndsBehind plan run turns
