-- The migrated table stands before each turn, so it is found.
use Rattle.std.proofs.Common.{◌≡◌, Bool, true, false, List, [], ◌∷◌, ◌++◌, sym, ap, ◌∙◌, subst, append_assoc}
use Rattle.std.specs.Prelude.{is_some}
use Rattle.table_store.specs.Databases.{Database, find_table}
use Rattle.server_model.specs.Alone.{Ran, alone, lines_run, nothing_ran, outcome_if, stays}
use Rattle.server_model.specs.Along.{Along}
use Rattle.server_model.specs.declared.entry.Entry.{Entry}
use Rattle.plan_data.specs.PlanData.{PlanData}
use Rattle.tool_program.specs.JournalWords.Histories.{about, answer_in}
use Rattle.tool_program.specs.JournalWords.Journals.{state_at}
use Rattle.proof_journals.specs.Plans.{IsPlanRun, IsSerialPlan, limits_of, scene_of}
use Rattle.proof_journals.specs.Scenes.{Alter, Leads, PlainItem, Scene, Serial, Stored, Txn, is_mine, seen}
use Rattle.proof_journals.specs.Turns.{IsSceneRun, history}
use Rattle.proof_journals.proofs.Journals.{JournalHolds, journal_holds}
use Rattle.proof_journals.proofs.PlanJournals.{plan_runs_are_scene_runs}
use Rattle.proof_journals.specs.Run.Kept.{IsKept}
use Rattle.proof_journals.specs.Machine.Runnable.{IsRunnable}
use Rattle.proof_migration.specs.ToolPhase.Marked.{MarkedJournalsAreRuns}
use Rattle.proof_migration.specs.ToolPhase.Runnable.{IsAlterable, IsWorded}
use Rattle.proof_migration.proofs.ToolPhase.Unaltered.Away.{all_asked}
use Rattle.proof_migration.proofs.Program.Turns.Follows.{kept_front, kept_run}
use Rattle.proof_migration.specs.Laws.{RenamesFindTheAltered}
use Rattle.proof_migration.specs.Once.{RenamesComeOnce}
use Rattle.proof_migration.proofs.Reverted.{all_marked}
use Rattle.proof_plans.specs.ReadPlans.Laws.{ReadPlansAreAlterable, ReadPlansAreRunnable, ReadPlansAreSerial, ReadPlansAreWorded}
use Rattle.proof_plans.specs.Laws.{AcceptedRunsFindTheTable}
use Rattle.proof_plans.specs.Tables.{FindsTable, IsFound}
use Rattle.proof_plans.proofs.Tables.Answering.{Stands, events_stand}
use Rattle.proof_plans.proofs.Tables.Turns.{turn_found}

-- WHAT ENDS LEAVES IT

alone_stands : (scene : Scene) (tables : Database) (b : Bool) (ran : Ran) → Stands scene.migrated tables → Stands scene.migrated (outcome_if b tables ran).tables
alone_stands scene tables true ran stands = events_stand scene.migrated tables ran.writes stands
alone_stands scene tables false ran stands = stands

leads_stands : (scene : Scene) (item : PlainItem) (before after : Stored) → Leads scene item before after → Stands scene.migrated before.tables → Stands scene.migrated after.tables
unfolding alone
leads_stands scene (Txn past) before after leads stands = ap (λ (t : Database). is_some (find_table scene.migrated t)) leads.1 ∙ alone_stands scene before.tables (stays past.txn.lines) (lines_run before.tables nothing_ran past.txn.lines) stands
leads_stands scene Alter before after leads stands = ap is_some leads.1.is

serial_stands : (scene : Scene) (before : Stored) (items : List PlainItem) (after : Stored) → is_mine scene scene.migrated ≡ true → Serial scene before items after → Stands scene.migrated before.tables → Stands scene.migrated after.tables
serial_stands scene before [] after mine alike stands = ap is_some (sym (alike.tables.each scene.migrated mine)) ∙ stands
serial_stands scene before (item ∷ items) after mine serial stands =
    serial_stands scene serial.1 items after mine serial.4 (leads_stands scene item serial.0 serial.1 serial.3 (ap is_some (sym (serial.2.tables.each scene.migrated mine)) ∙ stands))

-- EACH TURN

module _ (marked : MarkedJournalsAreRuns) (finds : RenamesFindTheAltered) (once : RenamesComeOnce) (plan : PlanData) (is : IsAlterable plan) (runs : IsRunnable plan) (worded : IsWorded plan) (serial : IsSerialPlan plan) where
  -- a kept journal is a run of its plan
  pub run_of : (journal : List Entry) → IsKept plan journal → IsPlanRun plan journal
  run_of journal kept = marked plan is worded serial journal kept (all_marked finds plan is worded serial [] journal kept (once plan journal runs serial kept))

  -- *It stands*
  pub stands_at : (journal : List Entry) → IsKept plan journal → Stands plan.table (state_at plan journal).tables
  stands_at journal kept =
      let scene : Scene = scene_of plan journal in
      let scene_run : IsSceneRun (limits_of plan) scene journal = plan_runs_are_scene_runs plan journal (run_of journal kept) in
      let holds : JournalHolds (limits_of plan) scene journal = journal_holds (limits_of plan) scene journal scene_run in
      serial_stands scene (record { tables = plan.tables; log = [] }) (history (limits_of plan) scene journal) (seen scene (Rattle.proof_journals.specs.Holdings.stored (state_at plan journal))) scene_run.migrated holds.holds.kept.serial (ap is_some is.found)

  finds_along : (some journal : List Entry) → IsKept plan (some ++ journal) → Along (λ before entry. IsFound plan.table (about before entry) (answer_in entry.asked entry.side entry.answer entry.missed)) some journal
  finds_along some [] kept = tt
  finds_along some (entry ∷ journal) kept =
      let later : IsKept plan ((some ++ entry ∷ []) ++ journal) = subst (IsKept plan) (sym (append_assoc some (entry ∷ []) journal)) kept in
      let front : IsKept plan (some ++ entry ∷ []) = kept_front plan (some ++ entry ∷ []) journal later in
      let before : IsKept plan some = kept_front plan some (entry ∷ []) front in
      (turn_found plan some entry (all_asked plan some runs before.faithful before.follows) (kept_run plan some entry front) plan.table (stands_at some before), finds_along (some ++ entry ∷ []) journal later)

  finds_table : (journal : List Entry) → IsKept plan journal → FindsTable plan journal
  unfolding FindsTable
  finds_table journal kept = finds_along [] journal kept

-- *Accepted runs find the table*
pub runs_find : MarkedJournalsAreRuns → RenamesFindTheAltered → RenamesComeOnce → ReadPlansAreRunnable → ReadPlansAreAlterable → ReadPlansAreWorded → ReadPlansAreSerial → AcceptedRunsFindTheTable
runs_find marked finds once runnable alterable worded serial plan journal was kept = finds_table marked finds once plan (alterable was.bytes plan was.is) (runnable plan was) (worded plan was) (serial was.bytes plan was.is) journal kept
