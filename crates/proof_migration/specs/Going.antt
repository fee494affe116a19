-- Some actor is ready, until the run has ended.
use Rattle.std.specs.Prelude.{◌≡◌, true, false, List}
use Rattle.std.specs.List.{list_any}
use Rattle.server_model.specs.declared.entry.Entry.{Entry}
use Rattle.plan_data.specs.PlanData.{PlanData}
use Rattle.proof_journals.specs.Plans.{IsSerialPlan}
use Rattle.tool_program.specs.Orders.{actors, is_ready}
use Rattle.tool_program.specs.Verdicts.{has_ended}
use Rattle.proof_journals.specs.Run.Kept.{IsKept}
use Rattle.proof_journals.specs.Machine.Runnable.{IsRunnable}
use Rattle.proof_migration.specs.ToolPhase.Ready.{ScriptsEnd}

-- *Someone goes*: while a run of a runnable and serial plan, whose scripts leave no transaction open, hasn't ended some actor
-- is ready.
abbrev pub SomeoneGoes : Type 0
SomeoneGoes = (plan : PlanData) (journal : List Entry) → IsRunnable plan → IsSerialPlan plan → ScriptsEnd plan → IsKept plan journal → has_ended plan journal ≡ false → list_any (is_ready plan journal) (actors plan) ≡ true
