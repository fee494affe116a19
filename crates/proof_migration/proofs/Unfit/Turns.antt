-- A turn of the program's copier, or of its applier, in which a value was refused.
use Rattle.std.proofs.Common.{◌≡◌, ℕ, true, false, List, [], ◌∷◌, ◌++◌, Some, refl, sym, ap, ◌∙◌, subst}
use Rattle.base_values.specs.Laws.{StoresAgain}
use Rattle.base_script.specs.declared.actor.Actor.{Actor}
use Rattle.base_script.specs.declared.actor.Actor.TheVariants.{Copy, Apply}
use Rattle.server_model.specs.declared.entry.Asked.TheVariants.{Cut}
use Rattle.server_model.specs.declared.entry.Entry.{Entry}
use Rattle.server_model.specs.declared.outcome.Progress.TheVariants.{Unfit}
use Rattle.server_model.specs.declared.request.Request.{Request}
use Rattle.server_model.specs.Entries.{is_client}
use Rattle.server_model.specs.States.{is_of_tool, session_of}
use Rattle.plan_data.specs.PlanData.{PlanData}
use Rattle.tool_program.specs.JournalWords.Journals.{opens, state_at}
use Rattle.tool_program.specs.ChunkCopier.Copiers as copiers
use Rattle.tool_program.specs.ChunkCopier.Copiers.{resized}
use Rattle.tool_program.specs.EventApplier.Appliers as appliers
use Rattle.tool_program.specs.Programs.{given}
use Rattle.tool_program.specs.Tools.{Migrating, Work, is_reverting, moment}
use Rattle.tool_program.proofs.OnlineCalls.Machines.{ToolPhaseIsNamed, IsNamed, named}
use Rattle.proof_journals.specs.Ghost.HeldKeys.{Clustered}
use Rattle.proof_journals.specs.Ghost.Rows.Moments.{Row}
use Rattle.proof_journals.specs.Ghost.Rows.Timelines.{Migration}
use Rattle.proof_journals.specs.Run.Kept.{IsKept}
use Rattle.proof_journals.specs.Machine.Machines.{ToolPhaseStands, Stands, WorkStands, copier_asks, copier_busy}
use Rattle.proof_journals.specs.Machine.MigrationTables.{ToolPhaseTables, TablesExist}
use Rattle.proof_journals.specs.Machine.Standings.{IsAbout, Standing, standing_of}
use Rattle.proof_journals.proofs.Machine.Journals.{copier_had}
use Rattle.proof_migration.specs.Program.Turns.Goes.{Goes}
use Rattle.proof_migration.specs.Program.Turns.Laws.{IsMigrationOf}
use Rattle.proof_migration.proofs.Migration.Copier.Knowing.{asks_at}
use Rattle.proof_migration.proofs.Program.Turns.Follows.{kept_front}
use Rattle.proof_migration.proofs.Program.Turns.NextCalls.{ApplyAsks, CopyAsks, apply_asked, copy_asked}
use Rattle.proof_migration.proofs.ToolPhase.ToolPhaseTurns.{gives_asked}
use Rattle.proof_migration.proofs.ToolServes.{about_uncommanded, tool_serves}
use Rattle.proof_migration.proofs.Unfit.Applies.{IsRefusedRow, refused_row}
use Rattle.proof_migration.proofs.Unfit.Copies.{IsRefusedCopy, refused_copy}
use Rattle.proof_migration.proofs.Unfit.Known.{IsKnownTurn, known_turn}

module _ (plan : PlanData) (m : Migration) (at : Clustered m.schema) (rows : List Row) (of : IsMigrationOf plan m rows) (journal : List Entry) (entry : Entry) (kept : IsKept plan (journal ++ entry ∷ [])) (work : Work) (tool_phase : (moment plan journal).tool.tool_phase ≡ Migrating work)
    (going : is_reverting (moment plan journal).tool.reason ≡ false) (goes : Goes plan m at rows journal work) (uncut : entry.asked ≡ Cut → ⊥) where
  abbrev has : Actor → Standing
  has = standing_of plan journal

  turn : IsKnownTurn plan journal entry
  turn = known_turn plan of.runs journal entry kept

  gave : (actor : Actor) → entry.actor ≡ actor → given plan journal actor ≡ Some entry.asked
  gave actor same = subst (λ (a : Actor). given plan journal a ≡ Some entry.asked) same (gives_asked plan journal entry entry.asked turn.run.followed.given refl uncut)

  names : IsNamed plan work
  names = subst (ToolPhaseIsNamed plan) tool_phase (named plan journal)

  module _ (again : StoresAgain) (same : entry.actor ≡ Copy) (place number : ℕ) (unfit : copiers.progress work.copier entry.answer ≡ Unfit place number) where
    asks : CopyAsks plan journal entry.asked work.copier
    asks = copy_asked plan m at rows journal entry.asked turn.together work tool_phase going goes (gave Copy same)

    work_stands : WorkStands journal (is_reverting (moment plan journal).tool.reason) has work
    work_stands = subst (ToolPhaseStands journal has (is_reverting (moment plan journal).tool.reason)) tool_phase turn.together.stands

    had : Stands (copier_asks work.copier.step) (copier_busy work.copier.step) [] (has Copy)
    had = copier_had plan journal entry turn.together turn.run work work_stands going

    tables : TablesExist plan (state_at plan journal).tables
    tables =
        ((subst (ToolPhaseTables plan (state_at plan journal).tables has) tool_phase turn.known.marking.tabled.tables).going
        (asks_at journal (resized (asks.waits).size work.copier) asks.request (asks.waits).next).going).tables

    pub copy_refused : IsRefusedCopy plan journal entry work.copier place number
    copy_refused =
        refused_copy again plan m at rows of journal entry turn.together.known turn.served (ap (λ (a : Actor). (has a).locked) same ∙ had.locked) tables work.copier work.applier names.copier (goes.map ∙ of.of.columns) goes.stands same (asks.waits).size asks.request (asks.waits).next
        (subst (λ (a : Actor). IsAbout asks.request (has a) entry.asked) (sym same) asks.is_about) place number unfit

  module _ (same : entry.actor ≡ Apply) (place number : ℕ) (unfit : appliers.progress work.applier entry.answer ≡ Unfit place number) where
    apply_asks : ApplyAsks plan journal entry.asked work.applier
    apply_asks = apply_asked plan m at rows journal entry.asked turn.together work tool_phase going goes (gave Apply same)

    is_about : IsAbout (appliers.next journal work.applier) (has entry.actor) entry.asked
    is_about = subst (λ (a : Actor). IsAbout (appliers.next journal work.applier) (has a) entry.asked) (sym same) (subst (λ (r : Request). IsAbout r (has Apply) entry.asked) (sym apply_asks.next) apply_asks.is_about)

    tool : is_of_tool (session_of entry.session (opens entry (state_at plan journal)).sessions) ≡ true
    tool = tool_serves plan journal entry (kept_front plan journal (entry ∷ []) kept) turn.together turn.run (about_uncommanded apply_asks.request (has Apply) entry.asked apply_asks.is_about) (ap is_client same)

    pub apply_refused : IsRefusedRow plan journal entry work.applier place number
    apply_refused = refused_row plan m at rows of journal entry turn.together.known turn.served tool work.copier work.applier (names.applier ∙ sym of.of.name) goes.schema goes.apply_map goes.stands is_about place number unfit
