-- What the words and the source come to. (This project's rule.)
use Rattle.std.specs.Prelude.{◌≡◌, List, [], ℕ, Option, Some, None, Ok, ◌⊎◌}
use Rattle.std.specs.Io.KnownBytes.{Consumes}
use Rattle.base_edges.specs.Whole.{ReadsWhole}
use Rattle.tool_program.specs.Orders.{WorkerTurn}
use Rattle.server_model.specs.declared.entry.Entry.{Entry}
use Rattle.plan_data.specs.PlanData.{PlanData}
use Rattle.plan_reader.specs.declared.limits.TheConstants.{PLAN_LIMIT}
use Rattle.plan_reader.specs.Plans.{read}
use Rattle.top_words.specs.Commands.{command}
use Rattle.top_words.specs.declared.command.Command.{Command}
use Rattle.top_words.specs.declared.command.Command.TheVariants.{Check, Replay, Run, Generate, Trace, Audit, Rebuild}
use Rattle.top_endings.specs.declared.command.PlanCommand.{PlanCommand}
use Rattle.top_endings.specs.declared.command.PlanCommand.TheVariants as plans
use Rattle.top_endings.specs.declared.printed.Printed.{Printed}
use Rattle.top_endings.specs.declared.status.Status.{Status}
use Rattle.top_endings.specs.Endings.{Taking, Giving, Gives, IsWorkload, IsUsage, IsReadFault, status_number}
use Rattle.top_call.specs.Audits.{TellsTrace}
use Rattle.top_call.specs.Outcomes.{TakesNone, Comes}

-- the source was read to its end or one byte past the limit, and this comes of its bytes under the command
pub record IsRead (chosen : PlanCommand) (source : Taking) (printed : Option Printed) (turns : List WorkerTurn) (journal : List Entry) : Type 0 where
  pub bytes : List ℕ
  pub whole : ReadsWhole PLAN_LIMIT source.before source.after bytes
  pub comes : Comes chosen bytes (read bytes) printed turns journal

-- what a source comes to under a command that reads a plan: what comes of its bytes; or no turn is taken, and it is said that
-- the source failed, or nothing where memory ran out
abbrev pub TellsPlan : PlanCommand → Taking → Option Printed → List WorkerTurn → List Entry → Type 0
TellsPlan chosen source printed turns journal = IsRead chosen source printed turns journal ⊎ TakesNone (IsReadFault source) printed turns journal

-- *Is accepted*: the source was read whole, and these bytes of its are this plan.
pub record IsAccepted (source : Taking) (bytes : List ℕ) (plan : PlanData) : Type 0 where
  pub whole : ReadsWhole PLAN_LIMIT source.before source.after bytes
  pub accepted : read bytes ≡ Ok plan

-- *Has no plan*: what comes of a source whose bytes are no accepted plan, under each command that reads one
abbrev pub HasNoPlan : Taking → Option Printed → List WorkerTurn → List Entry → Type 0
HasNoPlan source printed turns journal = (chosen : PlanCommand) → TellsPlan chosen source printed turns journal

-- *Leaves the source*, where no plan is read: nothing was taken from it, and no turn; and this is printed, or nothing where memory
-- ran out.
pub record LeavesSource (source : Taking) (Shows : Printed → Type 0) (printed : Option Printed) (turns : List WorkerTurn) (journal : List Entry) : Type 0 where
  pub takes_none : Consumes source.before source.after []
  pub comes : TakesNone Shows printed turns journal

-- *Comes to*: what the words and the source come to
unfoldable pub ComesTo : Option Command → Taking → Option Printed → List WorkerTurn → List Entry → Type 0
ComesTo None source = LeavesSource source (IsUsage source)
ComesTo (Some Check) source = TellsPlan plans.Check source
ComesTo (Some Replay) source = TellsPlan plans.Replay source
ComesTo (Some (Run workers)) source = TellsPlan (plans.Run workers) source
ComesTo (Some (Generate number)) source = LeavesSource source (IsWorkload number source)
ComesTo (Some Trace) source = TellsPlan plans.Trace source
ComesTo (Some Audit) source = TellsTrace source
ComesTo (Some (Rebuild workers)) source = TellsPlan (plans.Rebuild workers) source

-- *Does*: what a call did. Its words and the source come to what is printed, with its turns and its journal; of this so much
-- was given; and the number is that of how it ended.
pub record Does (words : List (List ℕ)) (source : Taking) (sink : Giving) (turns : List WorkerTurn) (journal : List Entry) (number : ℕ) : Type 0 where
  pub printed : Option Printed
  pub status : Status
  pub comes : ComesTo (command words) source printed turns journal
  pub gives : Gives printed sink status
  pub number_is : number ≡ status_number status
