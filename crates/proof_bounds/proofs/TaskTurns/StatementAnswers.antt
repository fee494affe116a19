-- What the applier's statements are answered on the new table: they are done, but a value that doesn't fit is refused, and a whole
-- UPDATE that gives its row another row's key.
use Rattle.proof_migration.proofs.ToolServes.{filled_so}
use Rattle.std.proofs.Common.{◌≡◌, ℕ, Bool, true, false, List, Option, Some, None, Result, Ok, Err, refl, sym, ap, ◌∙◌, subst}
use Rattle.std.specs.Option.{option_map}
use Rattle.base_values.specs.GhoSchema.Rows.{key_of, key_places}
use Rattle.base_values.specs.GhoSchema.Tables.{no_null}
use Rattle.base_values.specs.declared.gho_schema.schema.Schema.{Schema}
use Rattle.base_values.specs.declared.row_conversion.conversion_fault.UnfitAt.{UnfitAt}
use Rattle.base_values.specs.RowConversion.ConvertedRows.{converted_row}
use Rattle.table_store.specs.Databases.{Database, TableRows, find_table}
use Rattle.server_model.specs.Answers.{refuses_value}
use Rattle.server_model.specs.Effects.{effect_unless, is_outside}
use Rattle.server_model.specs.LockedRows.Databases.{IsWellFormedDatabase}
use Rattle.server_model.specs.Operations.{Operation, operation_of, operation_result}
use Rattle.server_model.specs.PlainServer.{does, done, did}
use Rattle.server_model.specs.States.{State, is_in_transaction, is_of_tool, session_of, view}
use Rattle.server_model.specs.declared.answer.Answer.{Answer}
use Rattle.server_model.specs.declared.answer.Answer.TheVariants as answers
use Rattle.server_model.specs.declared.request.Request.{Request}
use Rattle.server_model.specs.declared.request.Request.TheVariants as requests
use Rattle.tool_program.specs.EventApplier.Appliers.{Doing, Putting, Removing, Changing, in_part}
use Rattle.tool_program.specs.declared.event_applier.applier.Part.{Part}
use Rattle.tool_program.specs.declared.event_applier.applier.Part.TheVariants.{Whole, Removal, Return}
use Rattle.proof_journals.specs.Ghost.Rows.Moments.{Row}
use Rattle.proof_journals.specs.Ghost.Rows.Timelines.{IsPlanned, Migration}
use Rattle.proof_journals.specs.Machine.MigrationTables.{schema_of}
use Rattle.proof_journals.proofs.Ghost.Keys.{full_key}
use Rattle.proof_migration.specs.Migration.Applier.FoundColumns.{FindsRows}
use Rattle.proof_migration.proofs.Migration.Applier.Answers.{ChangeAnswer, TableSeen, UnfitAnswer, change_answer, counts, clashes, misses, put_answer, refused_answer, refuses_it, remove_answer, table_seen, unfit_answer}
use Rattle.proof_migration.proofs.Migration.Applier.Keys.{new_at}
use Rattle.proof_migration.proofs.Migration.Applier.Planning.{DoesRows}
use Rattle.proof_migration.proofs.Migration.Applier.Statements.{change_unfit, change_work, put_unfit, put_work, remove_work, said, said_of}
use Rattle.proof_migration.proofs.Migration.Copier.Rows.{Counted}
use Rattle.proof_bounds.specs.TaskTurns.Answers.{IsClash}
use Rattle.proof_bounds.proofs.TaskTurns.BatchSteps.{PartFits}

-- what a statement may be answered, where this part of what is planned is done
abbrev pub StatementAnswer : Part → Doing → Answer → Type 0
StatementAnswer part doing (answers.Ok count) = Unit {0}
StatementAnswer part doing (answers.Waits one) = Unit {0}
StatementAnswer part doing (answers.TimedOut waited) = Unit {0}
StatementAnswer part doing answers.Lost = Unit {0}
StatementAnswer part doing (answers.Refused number (Some place)) = Unit {0}
StatementAnswer part doing (answers.Refused number None) = IsClash part (Some doing) number
StatementAnswer part doing answer = ⊥

-- the new table, where its schema stands
pub seen_so : (m : Migration) (seen : Database) → IsWellFormedDatabase seen → schema_of m.new.name seen ≡ Some m.new → TableSeen m seen
seen_so m seen well_formed stands = by (find_table m.new.name seen) refl stands where
  by : (one : Option TableRows) → find_table m.new.name seen ≡ one → option_map (λ table. table.schema) one ≡ Some m.new → TableSeen m seen
  by None none is = absurd cc
  by (Some table) there is =
      let same : table.schema ≡ m.new = cc in
      table_seen m seen table.rows well_formed (there ∙ ap (λ (s : Schema). Some (record { schema = s; rows = table.rows })) same)

module _ (m : Migration) (rows : List Row) (plan : IsPlanned m rows) (finds : FindsRows m) (seen : Database) (there : TableSeen m seen) where
  abbrev operation : Doing → Operation
  operation doing = operation_of (said m.new m.columns doing)

  abbrev Says : Part → Doing → Doing → Type 0
  Says part whole doing = StatementAnswer part whole (operation_result seen (operation doing)).answer

  counted : (part : Part) (whole doing : Doing) → Counted seen (operation doing) → Says part whole doing
  counted part whole doing is = subst (StatementAnswer part whole) (sym is.is) tt

  unfit : (part : Part) (whole doing : Doing) (fault : UnfitAt) → (operation_result seen (operation doing)).answer ≡ refuses_value fault → Says part whole doing
  unfit part whole doing fault is = subst (StatementAnswer part whole) (sym is) tt

  puts : (part : Part) (whole : Doing) (row : Row) → Says part whole (Putting row)
  puts part whole row = by (converted_row m.columns row) refl where
    by : (made : Result Row UnfitAt) → converted_row m.columns row ≡ made → Says part whole (Putting row)
    by (Ok made) converted = counted part whole (Putting row) (put_answer m seen there (operation (Putting row)) (said_of m (Putting row)) made (put_work m rows plan finds row made converted))
    by (Err fault) converted = unfit part whole (Putting row) fault (refused_answer m seen there (operation (Putting row)) (said_of m (Putting row)) (refuses_value fault) (put_unfit m rows plan finds row fault converted))

  removes : (part : Part) (whole : Doing) (row : Row) → DoesRows m.schema.columns (Removing row) → Says part whole (Removing row)
  removes part whole row fits = counted part whole (Removing row) (remove_answer m seen there (operation (Removing row)) (said_of m (Removing row)) (new_at m rows plan finds).place (key_of (key_places m.schema) row) (remove_work m rows plan finds row fits))

  changes : (old new : Row) → DoesRows m.schema.columns (Changing old new) → Says Whole (Changing old new) (Changing old new)
  changes old new fits = by (converted_row m.columns new) refl where
    key : Row
    key = key_of (key_places m.schema) old

    full : no_null (key_of (key_places m.schema) old) ≡ true
    full = full_key m.schema plan.old_key old fits.0

    changed : (made : Row) → ChangeAnswer seen (operation (Changing old new)) → Says Whole (Changing old new) (Changing old new)
    changed made (counts is) = counted Whole (Changing old new) (Changing old new) is
    changed made (clashes is) = subst (StatementAnswer Whole (Changing old new)) (sym is) (refl, tt)

    refused : (fault : UnfitAt) → UnfitAnswer m seen there.rows (operation (Changing old new)) (key_of (key_places m.schema) old) fault → Says Whole (Changing old new) (Changing old new)
    refused fault (misses none is) = counted Whole (Changing old new) (Changing old new) is
    refused fault (refuses_it is) = unfit Whole (Changing old new) (Changing old new) fault is

    by : (made : Result Row UnfitAt) → converted_row m.columns new ≡ made → Says Whole (Changing old new) (Changing old new)
    by (Ok made) converted =
        changed made
        (change_answer m seen there (operation (Changing old new)) (said_of m (Changing old new)) (new_at m rows plan finds) (key_of (key_places m.schema) old) made full (plan.fits new made fits.1 converted) (change_work m rows plan finds old new made fits.0 converted))
    by (Err fault) converted =
        refused fault
        (unfit_answer m seen there (operation (Changing old new)) (said_of m (Changing old new)) (new_at m rows plan finds) (key_of (key_places m.schema) old) fault full (change_unfit m rows plan finds old new fault fits.0 converted))

  -- *What is done in this part*
  pub says_so : (part : Part) (doing : Doing) → DoesRows m.schema.columns doing → PartFits part (Some doing) → StatementAnswer part doing (operation_result seen (operation_of (said m.new m.columns (in_part part doing)))).answer
  says_so Whole (Putting row) fits parted = puts Whole (Putting row) row
  says_so Whole (Removing row) fits parted = removes Whole (Removing row) row fits
  says_so Whole (Changing old new) fits parted = changes old new fits
  says_so Removal (Changing old new) fits parted = removes Removal (Changing old new) old fits.0
  says_so Return (Changing old new) fits parted = puts Return (Changing old new) new
  says_so Removal (Putting row) fits parted = absurd parted
  says_so Removal (Removing row) fits parted = absurd parted
  says_so Return (Putting row) fits parted = absurd parted
  says_so Return (Removing row) fits parted = absurd parted

-- *What is done of it*, where its session is the tool's and locked no table
pub done_so : (m : Migration) (rows : List Row) → IsPlanned m rows → FindsRows m → (found : State) (number : ℕ) → is_of_tool (session_of number found.sessions) ≡ true → TableSeen m (view number found) → (part : Part) (doing : Doing) → DoesRows m.schema.columns doing → PartFits part (Some doing)
    → is_outside (session_of number found.sessions) (requests.Do (said m.new m.columns (in_part part doing))) ≡ false → StatementAnswer part doing (done found number (requests.Do (said m.new m.columns (in_part part doing)))).answer
unfolding did
done_so m rows plan finds found number tool there part doing fits parted inside =
    subst (λ (r : Request). StatementAnswer part doing (did found number r).answer) (sym (filled_so found number (requests.Do (said m.new m.columns (in_part part doing))) tool))
    (subst (λ (b : Bool). StatementAnswer part doing (does (effect_unless b (is_in_transaction (session_of number found.sessions)) (view number found) found (requests.Do (said m.new m.columns (in_part part doing)))) found number).answer) (sym inside)
    (by (is_in_transaction (session_of number found.sessions)))) where
      by : (busy : Bool) → StatementAnswer part doing (does (effect_unless false busy (view number found) found (requests.Do (said m.new m.columns (in_part part doing)))) found number).answer
      by true = says_so m rows plan finds (view number found) there part doing fits parted
      by false = says_so m rows plan finds (view number found) there part doing fits parted
