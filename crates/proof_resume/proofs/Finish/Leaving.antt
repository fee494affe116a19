-- What a run whose setup is over leaves: before the RENAME both tables, with their schemas; behind it no table of the new one's name.
use Rattle.std.proofs.Common.{◌≡◌, ◌⊎◌, List, Some, sym, ap, ◌∙◌, subst, inl, inr}
use Rattle.std.specs.Option.{option_map}
use Rattle.base_values.specs.declared.gho_schema.schema.Schema.{Schema}
use Rattle.table_store.specs.Databases.{find_table, TableRows}
use Rattle.server_model.specs.declared.entry.Entry.{Entry}
use Rattle.plan_data.specs.PlanData.{old_schema, PlanData}
use Rattle.tool_program.specs.JournalWords.Journals.{state_at}
use Rattle.tool_program.specs.Tools.{moment, Migrating, Work}
use Rattle.proof_journals.specs.Ghost.HeldKeys.{Clustered}
use Rattle.proof_journals.specs.Ghost.Rows.Moments.{Row}
use Rattle.proof_journals.specs.Ghost.Rows.Timelines.{Migration}
use Rattle.proof_journals.specs.Machine.MigrationTables.{schema_of, TablesExist}
use Rattle.proof_journals.specs.Machine.Standings.{standing_of}
use Rattle.proof_journals.specs.Run.Kept.{IsKept}
use Rattle.base_script.specs.declared.actor.Actor.TheVariants.{Insp}
use Rattle.proof_migration.specs.Program.Turns.Laws.{IsMigrationOf}
use Rattle.proof_migration.specs.ToolPhase.Unaltered.{IsUnaltered}
use Rattle.proof_migration.proofs.Once.Past.{IsPast, ToolPhasePast}
use Rattle.proof_resume.specs.Settled.Laws.{SettledIn}
use Rattle.proof_resume.proofs.Settled.Reverting.{kept_runs_settle}
use Rattle.proof_resume.specs.Finish.Callable.{KeptRunsLeaveTables, LeavesTables}
use Rattle.proof_resume.proofs.Finish.Marks.{run_past}

module _ (plan : PlanData) (m : Migration) (at : Clustered m.schema) (rows : List Row) (of : IsMigrationOf plan m rows) (opening : find_table m.name plan.tables ≡ Some (record { schema = m.schema; rows = rows })) (run : List Entry) (work : Work) (kept : IsKept plan run) (phase : (moment plan run).tool.tool_phase ≡ Migrating work) where
  own_schema : m.schema ≡ old_schema plan
  own_schema =
      let both : Some m.schema ≡ Some (old_schema plan) = sym (ap (option_map (λ (table : TableRows). table.schema)) opening) ∙ ap (λ (name : List _). schema_of name plan.tables) of.of.name ∙ of.runs.stands in cc

  -- both tables, before the RENAME
  both_exist : IsUnaltered plan run → TablesExist plan (state_at plan run).tables
  both_exist off =
      let settled : SettledIn plan m rows run work = kept_runs_settle plan m at rows of opening run work kept off phase in
      record {
        old = ap (λ (name : List _). schema_of name (state_at plan run).tables) (sym of.of.name) ∙ ap (option_map (λ (table : TableRows). table.schema)) settled.is.old ∙ ap Some own_schema;
        ghost = ap (λ (schema : Schema). schema_of schema.name (state_at plan run).tables) (sym of.of.new) ∙ ap (option_map (λ (table : TableRows). table.schema)) settled.is.new ∙ ap Some of.of.new;
      }

  pub leaves_tables : LeavesTables plan run
  leaves_tables = by (run_past plan of.runs of.serial run kept) where
    by : IsUnaltered plan run ⊎ IsPast plan run → LeavesTables plan run
    by (inl off) = inl (off, both_exist off)
    by (inr past) = inr (subst (ToolPhasePast plan (state_at plan run).tables (standing_of plan run Insp).waits) phase past).0

-- *Kept runs leave their tables*
pub runs_leave_tables : KeptRunsLeaveTables
runs_leave_tables plan m at rows of opening run work kept phase = leaves_tables plan m at rows of opening run work kept phase
