-- The laws over journals, of accepted plans.
use Rattle.std.proofs.Common.{◌≡◌, ℕ, Some, sym, ◌∙◌, ap, subst}
use Rattle.table_store.specs.Databases.{TableRows, Database, find_table}
use Rattle.base_values.proofs.SchemaRules.Steps.{some_is}
use Rattle.server_model.specs.declared.outcome.Cause.TheVariants as causes
use Rattle.server_model.specs.declared.outcome.Task.TheVariants as tasks
use Rattle.plan_data.specs.PlanData.{PlanData, Altered, altered_by}
use Rattle.tool_program.specs.JournalWords.Journals.{state_at}
use Rattle.proof_journals.specs.Ghost.Copies.{IsAltered}
use Rattle.proof_migration.specs.Migration.Planning.{migration_of}
use Rattle.proof_migration.specs.Attempt.Causes.{SpentCutOversStand}
use Rattle.proof_migration.specs.ToolPhase.Chunks.{JournalsAreOnline}
use Rattle.proof_migration.specs.Going.{SomeoneGoes}
use Rattle.proof_migration.specs.Laws.{KeptJournalsAreSerial, RenamesFindTheAltered}
use Rattle.proof_migration.specs.ToolPhase.Runnable.{IsAlterable}
use Rattle.proof_migration.specs.Unfit.{UnfitRowsStand}
use Rattle.proof_migration.specs.Attempt.Verdicts.{PanicsStand, SpentTasksStand}
use Rattle.proof_plans.specs.ReadPlans.Laws.{ReadAttemptsDrain, ReadPlansAreAlterable, ReadPlansAreRunnable, ReadPlansAreSerial, ReadPlansAreWorded, ReadScriptsEnd}
use Rattle.proof_plans.specs.Laws.{AcceptedCausesStand, AcceptedRenamesFindTheAltered, AcceptedRunsAreOnline, AcceptedRunsAreSerial, AcceptedRunsGoOn}

-- *Accepted runs are serial*
pub runs_serial : KeptJournalsAreSerial → ReadPlansAreAlterable → ReadPlansAreWorded → ReadPlansAreSerial → AcceptedRunsAreSerial
runs_serial law alterable worded serial plan journal was kept = law plan (alterable was.bytes plan was.is) journal (worded plan was) (serial was.bytes plan was.is) kept

-- what is so of the migrated table of an alterable plan, and of what the ALTER makes of it, is so of the table that is found
same_table : (plan : PlanData) (is : IsAlterable plan) (table : TableRows) (new : Altered) (tables : Database) → find_table plan.table plan.tables ≡ Some table → altered_by plan table.schema ≡ Some new → IsAltered (migration_of is.table.schema is.new) tables → IsAltered (migration_of table.schema new) tables
same_table plan is table new tables found alters altered =
    let same : is.table ≡ table = some_is is.table table (sym is.found ∙ found) in
    let one : is.new ≡ new = some_is is.new new (sym is.alters ∙ ap (λ (t : TableRows). altered_by plan t.schema) same ∙ alters) in
    subst (λ (t : TableRows). IsAltered (migration_of t.schema new) tables) same (subst (λ (n : Altered). IsAltered (migration_of is.table.schema n) tables) one altered)

-- *Accepted renames find the altered table*
pub renames_altered : RenamesFindTheAltered → ReadPlansAreAlterable → ReadPlansAreWorded → ReadPlansAreSerial → AcceptedRenamesFindTheAltered
renames_altered law alterable worded serial plan table new journal entry was found alters rename =
    let is = alterable was.bytes plan was.is in
    same_table plan is table new (state_at plan journal).tables found alters (law plan is journal entry (worded plan was) (serial was.bytes plan was.is) rename)

-- *Accepted runs are online*
pub runs_online : JournalsAreOnline → ReadPlansAreRunnable → AcceptedRunsAreOnline
runs_online law runnable plan journal was kept = law plan journal (runnable plan was) kept.faithful kept.follows

-- *Accepted runs go on*
pub runs_go_on : SomeoneGoes → ReadPlansAreRunnable → ReadPlansAreSerial → ReadScriptsEnd → AcceptedRunsGoOn
runs_go_on law runnable serial ends plan journal was kept going = law plan journal (runnable plan was) (serial was.bytes plan was.is) (ends was.bytes plan was.is) kept going

setup_differs : tasks.Setup ≡ tasks.CutOver → ⊥
setup_differs same = cc

chunk_differs : (number : ℕ) → tasks.Chunk number ≡ tasks.CutOver → ⊥
chunk_differs number same = cc

batch_differs : (position : ℕ) → tasks.Batch position ≡ tasks.CutOver → ⊥
batch_differs position same = cc

-- *Accepted causes stand*
pub causes_stand : PanicsStand → SpentTasksStand → SpentCutOversStand → UnfitRowsStand → ReadPlansAreRunnable → ReadPlansAreAlterable → ReadPlansAreWorded → ReadPlansAreSerial → ReadAttemptsDrain → AcceptedCausesStand
causes_stand panics spent cuts unfit runnable alterable worded serial drains plan journal (causes.Panic turn) was kept verdict = panics plan journal turn kept.faithful kept.follows verdict
causes_stand panics spent cuts unfit runnable alterable worded serial drains plan journal (causes.Unfit turn key column number) was kept verdict =
    unfit plan (alterable was.bytes plan was.is) (worded plan was) (serial was.bytes plan was.is) journal kept turn key column number verdict
causes_stand panics spent cuts unfit runnable alterable worded serial drains plan journal (causes.Spent tasks.Setup turns) was kept verdict = spent plan journal tasks.Setup turns kept.faithful kept.follows setup_differs verdict
causes_stand panics spent cuts unfit runnable alterable worded serial drains plan journal (causes.Spent (tasks.Chunk number) turns) was kept verdict = spent plan journal (tasks.Chunk number) turns kept.faithful kept.follows (chunk_differs number) verdict
causes_stand panics spent cuts unfit runnable alterable worded serial drains plan journal (causes.Spent (tasks.Batch position) turns) was kept verdict = spent plan journal (tasks.Batch position) turns kept.faithful kept.follows (batch_differs position) verdict
causes_stand panics spent cuts unfit runnable alterable worded serial drains plan journal (causes.Spent tasks.CutOver turns) was kept verdict =
    cuts plan journal turns (runnable plan was).fitting (runnable plan was).stands kept.faithful kept.follows (drains was.bytes plan was.is) verdict
