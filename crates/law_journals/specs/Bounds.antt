-- How many turns a run of an accepted plan takes, and what follows for its end.
use Rattle.std.specs.Prelude.{◌≡◌, ◌≤◌, ◌<◌, ◌⊎◌, true, false, List, length}
use Rattle.server_model.specs.declared.entry.Entry.{Entry}
use Rattle.server_model.specs.declared.outcome.Verdict.TheVariants.{Done}
use Rattle.plan_data.specs.PlanData.{PlanData}
use Rattle.tool_program.specs.Verdicts.{has_ended, verdict_of}
use Rattle.proof_journals.specs.Run.Kept.{IsKept}
use Rattle.proof_plans.specs.ReadPlans.Laws.{WasRead}
use Rattle.proof_plans.specs.Complete.Laws.{IsSmoothRun}
use Rattle.proof_bounds.specs.Parts.{Part, OfOperator, OfClients, OfSetup, OfChunks, OfBatches, OfAttempts, OfClearing, turns_of_part}
use Rattle.tool_program.specs.JournalWords.Bounds.{measures, bound}
use Rattle.proof_bounds.specs.Terms.{term_of}

-- *A part is bounded*: any journal that a run of an accepted plan keeps has at most as many turns of it as its term
abbrev pub IsBounded : Part → Type 0
IsBounded part = (plan : PlanData) (journal : List Entry) → WasRead plan → IsKept plan journal → turns_of_part part plan journal ≤ term_of part (measures plan)

abbrev pub OperatorIsBounded : Type 0
OperatorIsBounded = IsBounded OfOperator

abbrev pub ClientsAreBounded : Type 0
ClientsAreBounded = IsBounded OfClients

abbrev pub SetupIsBounded : Type 0
SetupIsBounded = IsBounded OfSetup

abbrev pub AttemptsAreBounded : Type 0
AttemptsAreBounded = IsBounded OfAttempts

abbrev pub ClearingIsBounded : Type 0
ClearingIsBounded = IsBounded OfClearing

abbrev pub ChunksAreBounded : Type 0
ChunksAreBounded = IsBounded OfChunks

abbrev pub BatchesAreBounded : Type 0
BatchesAreBounded = IsBounded OfBatches

-- *Runs are bounded*: a run of an accepted plan that hasn't ended has fewer turns than the bound, since each part is bounded and
-- some actor is ready until a run has ended
abbrev pub RunsAreBounded : Type 0
RunsAreBounded = (plan : PlanData) (journal : List Entry) → WasRead plan → IsKept plan journal → has_ended plan journal ≡ false → length journal < bound plan

-- *Smooth runs of accepted plans are done*: in which nothing hinders the tool, whoever else there is, and which have ended
abbrev pub AcceptedSmoothRunsAreDone : Type 0
AcceptedSmoothRunsAreDone = (plan : PlanData) (journal : List Entry) → WasRead plan → IsKept plan journal → IsSmoothRun plan journal → has_ended plan journal ≡ true → verdict_of plan journal ≡ Done

-- *With room*: where a plan allows as many turns as the bound, a run that is over, ended or with all its turns taken, has ended;
-- so it is done, where nothing hinders the tool
abbrev pub RoomyRunsEnd : Type 0
RoomyRunsEnd = (plan : PlanData) (journal : List Entry) → WasRead plan → IsKept plan journal → bound plan ≤ plan.options.turn_limit → (has_ended plan journal ≡ true) ⊎ (length journal ≡ plan.options.turn_limit) → has_ended plan journal ≡ true
