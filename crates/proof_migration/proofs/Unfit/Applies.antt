-- A turn of an applier in which a value was refused, the program's or a new tool's: it wrote the row of an event of the migrated table that
-- can't be converted.
use Rattle.std.proofs.Common.{◌≡◌, ℕ, ◌==◌, Bool, true, false, cond, List, [], ◌++◌, length, Option, Some, refl, sym, ap, ◌∙◌, subst}
use Rattle.std.specs.Option.{option_map}
use Rattle.base_values.specs.declared.row_conversion.map.MapColumn.{MapColumn}
use Rattle.base_values.specs.GhoSchema.Rows.{key_of}
use Rattle.table_store.specs.Databases.{TableRows}
use Rattle.server_model.specs.declared.answer.Answer.{Answer}
use Rattle.server_model.specs.declared.answer.Answer.TheVariants as answers
use Rattle.server_model.specs.declared.entry.Entry.{Entry}
use Rattle.server_model.specs.declared.outcome.Progress.TheVariants.{Going, TaskDone, Unfit}
use Rattle.server_model.specs.declared.request.Request.{Request}
use Rattle.server_model.specs.declared.request.Request.TheVariants as requests
use Rattle.server_model.specs.declared.session.Session.{Session}
use Rattle.server_model.specs.States.{is_of_tool, session_of}
use Rattle.plan_data.specs.PlanData.{PlanData, new_map}
use Rattle.tool_program.specs.JournalWords.Journals.{opens, state_at}
use Rattle.tool_program.specs.declared.chunk_copier.copier.Copier.{Copier}
use Rattle.tool_program.specs.declared.event_applier.applier.Applier.{Applier}
use Rattle.tool_program.specs.declared.event_applier.applier.ApplyStep.{ApplyStep}
use Rattle.tool_program.specs.declared.event_applier.applier.ApplyStep.TheVariants.{Reading, Beginning, Applying, Committing}
use Rattle.tool_program.specs.declared.event_applier.applier.Batch.{Batch}
use Rattle.tool_program.specs.declared.event_applier.applier.Part.{Part}
use Rattle.tool_program.specs.EventApplier.Appliers as appliers
use Rattle.tool_program.specs.EventApplier.Appliers.{Doing, doing_at, in_part, progress_at, row_done}
use Rattle.proof_journals.specs.Plans.{limits_of, scene_of}
use Rattle.proof_journals.specs.Ghost.HeldKeys.{Clustered}
use Rattle.proof_journals.specs.Ghost.Rows.Moments.{Row}
use Rattle.proof_journals.specs.Ghost.Rows.Timelines.{Migration}
use Rattle.proof_journals.specs.Machine.MigrationTables.{schema_of}
use Rattle.proof_journals.specs.Machine.Standings.{IsAbout, standing_of}
use Rattle.proof_journals.proofs.Ghost.Running.{any_kept}
use Rattle.proof_journals.proofs.Machine.Seated.{IsKnown, IsServed}
use Rattle.proof_migration.specs.Migration.Machines.{MigrationStands}
use Rattle.proof_migration.specs.Program.Turns.Goes.{StandsFor, machines_of}
use Rattle.proof_migration.specs.Program.Turns.Laws.{IsMigrationOf}
use Rattle.proof_migration.proofs.Migration.Applier.NextStatement.{NextStatement, next_statement}
use Rattle.proof_migration.proofs.Migration.Applier.Planning.{part_rows}
use Rattle.proof_migration.proofs.Migration.Applier.Statements.{said}
use Rattle.proof_migration.proofs.Program.Turns.ActorStates.{SomeActorStates, some_actor_states}
use Rattle.proof_migration.proofs.ToolPhase.Hearing.{opened_tables, own_answer}
use Rattle.proof_migration.proofs.Unfit.Refusals.{HasNoConvertedRow, RowFits, done_fits}

-- THE ANSWER

abbrev pub IsRefusal : ApplyStep → Answer → ℕ → ℕ → Type 0
IsRefusal (Applying batch done part) (answers.Refused one (Some other)) place number = (one ≡ number) × (other ≡ place)
IsRefusal step answer place number = ⊥

planned_fits : (none : Bool) (place number : ℕ) → cond none TaskDone Going ≡ Unfit place number → ⊥
planned_fits true place number is = cc
planned_fits false place number is = cc

pub refusal : (applier : Applier) (step : ApplyStep) (answer : Answer) (place number : ℕ) → progress_at applier step answer ≡ Unfit place number → IsRefusal step answer place number
refusal applier (Applying batch done part) (answers.Refused one (Some other)) place number is = let a : one ≡ number = cc in let b : other ≡ place = cc in (a, b)
refusal applier Reading (answers.Events events following) place number is = absurd (planned_fits (length (appliers.planned applier events) == 0) place number is)
refusal applier (Beginning batch) answers.Lost place number is = absurd cc
refusal applier (Committing batch) answers.Lost place number is = absurd cc
refusal applier step answer place number is = absurd cc

refused : (step : ApplyStep) (answer : Answer) (place number : ℕ) → IsRefusal step answer place number → answer ≡ answers.Refused number (Some place)
refused (Applying batch done part) (answers.Refused one (Some other)) place number is = ap (λ (n : ℕ). answers.Refused n (Some other)) is.0 ∙ ap (λ (p : ℕ). answers.Refused number (Some p)) is.1
refused step answer place number is = absurd is

-- THE TURN

-- *What the applier was refused*: the writing of this row, which every longer journal tells
pub record IsRefusedRow (plan : PlanData) (journal : List Entry) (entry : Entry) (applier : Applier) (place number : ℕ) : Type 0 where
  pub refused : entry.answer ≡ answers.Refused number (Some place)
  pub none : HasNoConvertedRow (new_map plan) (row_done (doing_at journal applier applier.step)) place number
  pub told : (places : List ℕ) (more : List Entry) → appliers.unfit_key (journal ++ more) places applier ≡ appliers.unfit_key journal places applier

module _ (plan : PlanData) (m : Migration) (at : Clustered m.schema) (rows : List Row) (of : IsMigrationOf plan m rows) (journal : List Entry) (entry : Entry) (known : IsKnown plan journal) (served : IsServed plan journal entry) (tool : is_of_tool (session_of entry.session (opens entry (state_at plan journal)).sessions) ≡ true)
    (copier : Copier) (applier : Applier) (table : applier.table ≡ m.name) (schema : applier.new_schema ≡ m.new) (columns : applier.map ≡ m.columns) (stands_for : StandsFor plan m at rows journal copier applier) (is_about : IsAbout (appliers.next journal applier) (standing_of plan journal entry.actor) entry.asked) (place number : ℕ)
    (unfit : appliers.progress applier entry.answer ≡ Unfit place number) where
  is_refusal : IsRefusal applier.step entry.answer place number
  unfolding appliers.progress
  is_refusal = refusal applier applier.step entry.answer place number unfit

  answered : entry.answer ≡ answers.Refused number (Some place)
  answered = refused applier.step entry.answer place number is_refusal

  -- WHERE THE APPLIER STANDS

  some : SomeActorStates journal
  some = some_actor_states journal known.sessions

  stands : MigrationStands m at rows (limits_of plan) (scene_of plan []) journal (machines_of copier some.copier applier some.applier)
  stands = stands_for some.copier some.applier some.actor_states

  ghost_now : schema_of m.new.name (state_at plan journal).tables ≡ Some m.new
  ghost_now = any_kept (schema_of m.new.name (state_at plan journal).tables ≡ Some m.new) m at rows some.copier some.applier _ (λ apply kept. ap (option_map (λ (table : TableRows). table.schema)) kept.tool.kept.new) stands.tool.stands

  -- WHAT WAS REFUSED

  module _ (batch : Batch) (count : ℕ) (part : Part) (next : NextStatement m journal applier batch count part) where
    abbrev doing : Doing
    doing = in_part part next.doing

    abbrev request : Request
    request = requests.Do (said m.new m.columns doing)

    heard : RowFits m.columns (row_done (Some doing)) entry.answer
    heard =
        own_answer (RowFits m.columns (row_done (Some doing))) (record { waits = λ by. tt; timed = λ waited. tt; lost = tt }) plan journal entry known served request (subst (λ (r : Request). IsAbout r (standing_of plan journal entry.actor) entry.asked) next.asks is_about)
        (λ found is. done_fits m rows of.planned of.finds doing (part_rows m.schema.columns part next.doing next.rows) found entry.session (ap (λ (s : List Session). is_of_tool (session_of entry.session s)) is.sessions ∙ tool) (ap (λ tables. schema_of m.new.name tables) (is.tables ∙ opened_tables plan journal entry) ∙ ghost_now))

    at_statement : IsRefusedRow plan journal entry applier place number
    at_statement = record {
      refused = answered;
      none = subst (λ (d : Option Doing). HasNoConvertedRow (new_map plan) (row_done d) place number) (sym next.does)
          (subst (λ (c : List MapColumn). HasNoConvertedRow c (row_done (Some doing)) place number) of.of.columns (subst (RowFits m.columns (row_done (Some doing))) answered heard));
      told = λ places more. ap (λ (d : Option Doing). key_of places (row_done d)) (next.stays more);
    }

  pub refused_row : IsRefusedRow plan journal entry applier place number
  refused_row = by applier.step refl is_refusal where
    by : (step : ApplyStep) → applier.step ≡ step → IsRefusal step entry.answer place number → IsRefusedRow plan journal entry applier place number
    by (Applying batch done part) here is = at_statement batch done part (next_statement m of.finds journal applier table schema columns stands.applier_knows batch done part here)
    by step here is = absurd is
