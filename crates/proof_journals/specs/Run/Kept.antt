-- What holds of a journal that a run keeps. (This project's rule.)
use Rattle.std.specs.Prelude.{List}
use Rattle.server_model.specs.declared.entry.Entry.{Entry}
use Rattle.plan_data.specs.PlanData.{PlanData}
use Rattle.tool_program.specs.JournalWords.Journals.{IsFaithful}
use Rattle.tool_program.specs.JournalWords.KeptPlans.{KeepsPlan}
use Rattle.tool_program.specs.JournalWords.Sessions.{KeepsSessions}
use Rattle.tool_program.specs.Programs.{Follows}

-- *Kept*: its answers are the plain server's, its turns are those that the plan allows and that were given, and each is in
-- its actor's session
pub record IsKept (plan : PlanData) (journal : List Entry) : Type 0 where
  pub faithful : IsFaithful plan journal
  pub planned : KeepsPlan plan journal
  pub follows : Follows plan journal
  pub sessions : KeepsSessions journal
