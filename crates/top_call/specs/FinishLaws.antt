-- The laws on which those of new tools stand. (This project's rule.)
use Rattle.base_values.specs.Laws.{StoresAgain}
use Rattle.proof_migration.specs.Laws.{RenamesFindTheAltered}
use Rattle.proof_migration.specs.Once.{RenamesComeOnce}
use Rattle.proof_migration.specs.ToolPhase.Marked.{MarkedJournalsAreRuns}
use Rattle.proof_plans.specs.ReadPlans.Laws.{ReadPlansAreAlterable, ReadPlansAreRunnable, ReadPlansAreSerial, ReadPlansAreWorded}
use Rattle.proof_plans.specs.ReadPlans.Options.{ReadOptionsAllow}

-- what every plan that was read has, and that values are stored again as they are
pub record ReadPlanLaws : Type 0 where
  pub again : StoresAgain
  pub runnable : ReadPlansAreRunnable
  pub serial : ReadPlansAreSerial
  pub alterable : ReadPlansAreAlterable
  pub worded : ReadPlansAreWorded
  pub allow : ReadOptionsAllow

-- those by which each kept journal of such a plan is a run of it
pub record RunLaws : Type 0 where
  pub marked : MarkedJournalsAreRuns
  pub finds : RenamesFindTheAltered
  pub once : RenamesComeOnce
