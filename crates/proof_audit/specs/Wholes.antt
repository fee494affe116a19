-- What holds of a whole journal: of the turns of a run, and of those of a new tool behind it. (This project's rule.)
use Rattle.std.specs.Prelude.{◌≡◌, true, false, List, [], ◌++◌}
use Rattle.server_model.specs.declared.entry.Entry.{Entry}
use Rattle.server_model.specs.declared.outcome.Cause.{Cause}
use Rattle.server_model.specs.declared.outcome.Verdict.TheVariants.{Reverted}
use Rattle.plan_data.specs.PlanData.{PlanData}
use Rattle.tool_program.specs.JournalWords.Journals.{IsFaithful}
use Rattle.tool_program.specs.JournalWords.Sessions.{NumbersSessions}
use Rattle.tool_program.specs.Verdicts.{has_ended}
use Rattle.tool_finish.specs.Checkpoints.{has_checkpoint}
use Rattle.tool_finish.specs.Finishes.{IsFinish, finish_verdict}
use Rattle.tool_finish.specs.WholeJournals.{StandsBehind, finish_in, run_in}
use Rattle.proof_journals.specs.Run.Kept.{IsKept}

-- *A new tool's turns*, behind a run that hasn't ended, left a checkpoint and numbers its sessions one by one, as each run of the program
-- does; the answers are the plain server's
pub record AreNewTools (plan : PlanData) (run turns : List Entry) : Type 0 where
  pub unended : has_ended plan run ≡ false
  pub checkpoint : has_checkpoint plan run ≡ true
  pub numbered : NumbersSessions run
  pub finish : IsFinish plan run turns
  pub faithful : IsFaithful plan (run ++ turns)

-- the turns behind a run, where there are any, are a new tool's
abbrev pub MayGoOn : PlanData → List Entry → List Entry → Type 0
MayGoOn plan run [] = Unit {0}
MayGoOn plan run turns = AreNewTools plan run turns

-- *Whole journal*: its first turns, as many as the plan allows, are kept, and those behind them are a new tool's. So is each journal that
-- is kept and has no more turns than that.
pub record IsWhole (plan : PlanData) (journal : List Entry) : Type 0 where
  pub kept : IsKept plan (run_in plan journal)
  pub goes_on : MayGoOn plan (run_in plan journal) (finish_in plan journal)

-- where the new tool reverted, the cause is in the journal
abbrev pub HasItsCause : PlanData → List Entry → Type 0
HasItsCause plan journal = (cause : Cause) → finish_verdict plan (run_in plan journal) (finish_in plan journal) ≡ Reverted cause → StandsBehind plan (run_in plan journal) (finish_in plan journal) cause
