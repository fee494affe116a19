-- Where a new tool exchanges the tables behind a run, the rebuilt table is there too: so far as the log says nothing more of the migrated
-- table than after the run, and it is as it was then.
use Rattle.std.proofs.Common.{◌≡◌, length, List, [], Option, Some, None, refl, sym, ap, ◌∙◌, subst}
use Rattle.std.specs.Option.{option_map}
use Rattle.base_values.specs.declared.event.RowEvent.{RowEvent}
use Rattle.base_values.specs.GhoSchema.Rows.{key_places}
use Rattle.base_values.specs.RowConversion.ConvertedRows.{converted_rows}
use Rattle.base_values.proofs.SchemaRules.Steps.{some_is}
use Rattle.table_store.specs.Databases.{TableRows, find_table}
use Rattle.server_model.specs.declared.entry.Entry.{Entry}
use Rattle.server_model.specs.States.{State}
use Rattle.plan_data.specs.PlanData.{Altered, PlanData, plan_altered}
use Rattle.plan_data.specs.declared.plan.AlteredSchema.{AlteredSchema}
use Rattle.tool_program.specs.EventApplier.Appliers.{events_of}
use Rattle.tool_program.specs.JournalWords.AlteredTables.{altered_table, imaged, plan_altered_table}
use Rattle.tool_program.specs.JournalWords.Journals.{state_at}
use Rattle.proof_journals.specs.Ghost.Rows.Moments.{Row, rows_at}
use Rattle.proof_journals.specs.Machine.Runnable.{IsRunnable}
use Rattle.proof_journals.specs.Plans.{IsSerialPlan, scene_of}
use Rattle.proof_journals.specs.Run.Kept.{IsKept}
use Rattle.proof_journals.specs.Scenes.{AltersTo}
use Rattle.proof_migration.specs.ToolPhase.Runnable.{IsAlterable}
use Rattle.proof_migration.specs.ToolPhase.Unaltered.{IsUnaltered}
use Rattle.run_rebuild.specs.Rebuilds.{changes_of}
use Rattle.law_rebuild.specs.Laws.{IsRebuiltOf}
use Rattle.law_rebuild.specs.Marks.{changes_logged}
use Rattle.law_rebuild.proofs.Rebuilding.{by_schema, rebuilt_from}
use Rattle.law_rebuild.proofs.Standing.{StandsSoFar, stands_so_far}

module _ (plan : PlanData) (table : TableRows) (new : AlteredSchema) (runs : IsRunnable plan) (serial : IsSerialPlan plan) (is : IsAlterable plan) (found : find_table plan.table plan.tables ≡ Some table) (alters : plan_altered plan ≡ Some (new.schema, new.map)) (run : List Entry) (kept : IsKept plan run) (off : IsUnaltered plan run) where
  abbrev run_log : List RowEvent
  run_log = (state_at plan run).log

  abbrev run_rows : List Row
  run_rows = rows_at plan.table (key_places table.schema) table.rows run_log (length run_log)

  -- the migrated table after the run
  abbrev left_table : TableRows
  left_table = record { schema = table.schema; rows = run_rows }

  so_far : StandsSoFar plan table run
  so_far = stands_so_far plan table runs serial found run kept off

  -- what the ALTER makes of its rows
  record Made (then : TableRows) : Type 0 where
    made : List Row
    converted : converted_rows new.map run_rows ≡ Some made
    is_made : then ≡ record { schema = new.schema; rows = made }

  made_of : (then : TableRows) → plan_altered_table plan left_table ≡ Some then → Made then
  unfolding altered_table
  made_of then made = by (converted_rows new.map run_rows) refl (ap (λ (one : Option Altered). imaged one run_rows) (sym (by_schema plan table new serial is found alters)) ∙ made) where
    by : (rows : Option (List Row)) → converted_rows new.map run_rows ≡ rows → option_map (λ made. record { schema = new.schema; rows = made }) rows ≡ Some then → Made then
    by None same none = absurd cc
    by (Some rows) same some = record { made = rows; converted = same; is_made = sym (some_is (record { schema = new.schema; rows = rows }) then some) }

  -- *Exchanged tables are rebuilt*
  pub exchanged_rebuilt : (before after : State) → find_table plan.table before.tables ≡ find_table plan.table (state_at plan run).tables → events_of plan.table after.log ≡ events_of plan.table run_log → AltersTo (scene_of plan []) before.tables after.tables → IsRebuiltOf table new (changes_logged plan.table after.log) (find_table plan.table after.tables)
  exchanged_rebuilt before after stayed logged exchange =
      let old_is : exchange.old ≡ left_table = some_is exchange.old left_table (sym exchange.was ∙ stayed ∙ so_far.stood.found) in
      let makes : Made exchange.new = made_of exchange.new (ap (plan_altered_table plan) (sym old_is) ∙ exchange.made) in
      subst (λ (events : List RowEvent). IsRebuiltOf table new (changes_of events) (find_table plan.table after.tables)) (sym logged)
      (rebuilt_from plan table new serial is found alters run_log so_far.stood.log_fits run_rows makes.made (find_table plan.table after.tables) refl makes.converted (exchange.is ∙ ap (λ (t : TableRows). Some t) makes.is_made))
