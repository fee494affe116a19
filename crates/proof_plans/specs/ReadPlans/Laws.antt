-- What every plan that is read has, so that the laws over journals speak of it.
use Rattle.std.specs.Prelude.{◌≡◌, ◌≤◌, ℕ, List, Ok}
use Rattle.std.specs.Str.{IsUtf8}
use Rattle.plan_data.specs.PlanData.{PlanData}
use Rattle.plan_reader.specs.Plans.{read}
use Rattle.proof_journals.specs.Plans.{IsSerialPlan}
use Rattle.proof_journals.specs.Machine.Runnable.{IsRunnable}
use Rattle.proof_journals.specs.Machine.MigrationTables.{TableExists}
use Rattle.proof_migration.specs.ToolPhase.Ready.{ScriptsEnd}
use Rattle.proof_migration.specs.ToolPhase.Runnable.{IsAlterable, IsWorded}

-- *Was read*: the plan of some bytes, whose table's name is a text, as every `Name` is
pub record WasRead (plan : PlanData) : Type 0 where
  pub bytes : List ℕ
  pub is : read bytes ≡ Ok plan
  pub text : IsUtf8 plan.table

-- *Read plans are serial*: their tables are tables with clustered keys, and their scripts name no table of the tool's.
abbrev pub ReadPlansAreSerial : Type 0
ReadPlansAreSerial = (bytes : List ℕ) (plan : PlanData) → read bytes ≡ Ok plan → IsSerialPlan plan

-- *Read tables stand*: the migrated table is one of the plan's.
abbrev pub ReadTablesExist : Type 0
ReadTablesExist = (bytes : List ℕ) (plan : PlanData) → read bytes ≡ Ok plan → TableExists plan

-- *Read scripts end*: the last line of none leaves a transaction open.
abbrev pub ReadScriptsEnd : Type 0
ReadScriptsEnd = (bytes : List ℕ) (plan : PlanData) → read bytes ≡ Ok plan → ScriptsEnd plan

-- *Read plans are alterable*: the migrated table is one of theirs, and its ALTER is taken and keeps the keys of its rows.
abbrev pub ReadPlansAreAlterable : Type 0
ReadPlansAreAlterable = (bytes : List ℕ) (plan : PlanData) → read bytes ≡ Ok plan → IsAlterable plan

-- *Read plans are worded*: transactions are whole, the tool's names have room, sizes are at least 1 and kinds are kinds.
abbrev pub ReadPlansAreWorded : Type 0
ReadPlansAreWorded = (plan : PlanData) → WasRead plan → IsWorded plan

-- *Read plans are runnable*: all that their programs give may be called, polled and lost.
abbrev pub ReadPlansAreRunnable : Type 0
ReadPlansAreRunnable = (plan : PlanData) → WasRead plan → IsRunnable plan

-- *Read attempts may be drained*: the applier has at least one turn for it.
abbrev pub ReadAttemptsDrain : Type 0
ReadAttemptsDrain = (bytes : List ℕ) (plan : PlanData) → read bytes ≡ Ok plan → 1 ≤ plan.options.drain_limit
