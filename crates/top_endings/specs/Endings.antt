-- How a call of the program ends: the number of its status, what it took from the source and what it gave to the sink.
use Rattle.std.specs.Prelude.{◌≡◌, ◌≤◌, ℕ, Bool, true, false, List, [], Option, Some, None, ◌⊎◌}
use Rattle.std.specs.Io.KnownBytes.{Appends, Consumes}
use Rattle.std.specs.Str.{IsUtf8}
use Rattle.base_edges.specs.Edges.{Rose}
use Rattle.base_edges.specs.Whole.{GivesPart}
use Rattle.top_words.specs.declared.command.Command.{Command}
use Rattle.top_words.specs.declared.command.Command.TheVariants.{Check, Replay, Run, Trace, Audit, Rebuild}
use Rattle.top_endings.specs.declared.command.PlanCommand.{PlanCommand}
use Rattle.top_endings.specs.declared.command.PlanCommand.TheVariants as plans
use Rattle.top_endings.specs.declared.printed.Printed.{Printed}
use Rattle.top_endings.specs.declared.status.Status.{Status}
use Rattle.top_endings.specs.declared.status.Status.TheVariants.{Done, Usage, Refused, Reverted, ReadFault, WriteFault, NoMemory, TurnsSpent, No}
use Rattle.top_endings.specs.Texts.{usage_text, read_fault_text}
use Rattle.top_workload.specs.Workloads.{workload}

-- the number of each status. This project's rule.
abbrev pub status_number : Status → ℕ
status_number Done = 0
status_number Usage = 1
status_number Refused = 2
status_number Reverted = 3
status_number ReadFault = 4
status_number WriteFault = 5
status_number NoMemory = 6
status_number TurnsSpent = 7
status_number No = 8

-- what a call did to the source: the bytes that it had left, where it tells them, and its count of faults
pub record Taking : Type 0 where
  pub before : Option (List ℕ)
  pub after : Option (List ℕ)
  pub faults_before : ℕ
  pub faults_after : ℕ

-- what a call did to the sink: the bytes that it held, where it tells them, and its count of faults
pub record Giving : Type 0 where
  pub before : Option (List ℕ)
  pub after : Option (List ℕ)
  pub faults_before : ℕ
  pub faults_after : ℕ

-- *Took*: what a call did to its source, by the bytes that are left and the count of faults
abbrev pub took : {S : Type 0} → (S → Option (List ℕ)) → (S → ℕ) → S → S → Taking
took left faults old new = record { before = left old; after = left new; faults_before = faults old; faults_after = faults new }

-- *Gave*: what a call did to its sink, by the bytes that it holds and the count of faults
abbrev pub gave : {K : Type 0} → (K → Option (List ℕ)) → (K → ℕ) → K → K → Giving
gave held faults old new = record { before = held old; after = held new; faults_before = faults old; faults_after = faults new }

-- the plan of a number is printed, and nothing is taken
pub record IsWorkload (number : ℕ) (source : Taking) (printed : Printed) : Type 0 where
  pub status_is : printed.status ≡ Done
  pub text_is : printed.text ≡ workload number
  pub takes_none : Consumes source.before source.after []

-- faulty words: nothing is taken, and the usage is printed
pub record IsUsage (source : Taking) (printed : Printed) : Type 0 where
  pub status_is : printed.status ≡ Usage
  pub text_is : printed.text ≡ usage_text
  pub takes_none : Consumes source.before source.after []

-- the source failed, and that is printed
pub record IsReadFault (source : Taking) (printed : Printed) : Type 0 where
  pub status_is : printed.status ≡ ReadFault
  pub text_is : printed.text ≡ read_fault_text
  pub rose : Rose source.faults_before source.faults_after

-- What was given of what is printed, and how the call ended: the whole text, which is UTF-8, or a prefix of it where the sink failed;
-- nothing where memory ran out.
pub record GivesAll (printed : Printed) (sink : Giving) (status : Status) : Type 0 where
  pub status_is : status ≡ printed.status
  pub given : Appends sink.before sink.after printed.text
  pub utf8 : IsUtf8 printed.text

pub record GivesFront (printed : Printed) (sink : Giving) (status : Status) : Type 0 where
  pub status_is : status ≡ WriteFault
  pub given : GivesPart sink.before sink.after printed.text
  pub rose : Rose sink.faults_before sink.faults_after

pub record GivesNone (sink : Giving) (status : Status) : Type 0 where
  pub status_is : status ≡ NoMemory
  pub given : Appends sink.before sink.after []

abbrev pub Gives : Option Printed → Giving → Status → Type 0
Gives None sink status = GivesNone sink status
Gives (Some printed) sink status = GivesAll printed sink status ⊎ GivesFront printed sink status

-- the command of a line that does this with a plan
abbrev pub asked : PlanCommand → Command
asked plans.Check = Check
asked plans.Replay = Replay
asked (plans.Run workers) = Run workers
asked plans.Trace = Trace
asked (plans.Rebuild workers) = Rebuild workers

-- a run and a rebuild have 1 to 16 workers
abbrev pub HasWorkers : Command → Type 0
HasWorkers (Run workers) = (1 ≤ workers) × (workers ≤ 16)
HasWorkers (Rebuild workers) = (1 ≤ workers) × (workers ≤ 16)
HasWorkers chosen = Unit {0}

-- the words are a command that reads the source: a plan, or of `audit` a trace
abbrev pub reads_source : Option Command → Bool
reads_source (Some Check) = true
reads_source (Some Replay) = true
reads_source (Some (Run workers)) = true
reads_source (Some Trace) = true
reads_source (Some Audit) = true
reads_source (Some (Rebuild workers)) = true
reads_source chosen = false

-- the number is 1, 5 or 6
abbrev pub IsUsageOrLost : ℕ → Type 0
IsUsageOrLost number = (number ≡ 1) ⊎ ((number ≡ 5) ⊎ (number ≡ 6))
