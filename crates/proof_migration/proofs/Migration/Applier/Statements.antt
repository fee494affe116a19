-- What the applier's statements are to do.
use Rattle.std.proofs.Common.{◌≡◌, ℕ, suc, List, [], ◌∷◌, length, Some, None, Result, Ok, Err, refl, sym, ap, ◌∙◌}
use Rattle.base_values.specs.declared.gho_schema.schema.Column.{Column}
use Rattle.base_values.specs.declared.gho_schema.schema.Schema.{Schema}
use Rattle.base_values.specs.GhoSchema.ClusteredKey.{clustered_place}
use Rattle.base_values.specs.GhoSchema.Rows.{key_of, key_places}
use Rattle.base_values.specs.GhoSchema.Tables.{IsRow}
use Rattle.base_values.specs.declared.row_conversion.conversion_fault.UnfitAt.{UnfitAt}
use Rattle.base_values.specs.declared.row_conversion.map.MapColumn.{MapColumn}
use Rattle.base_values.specs.RowConversion.ConvertedRows.{converted_row}
use Rattle.proof_schemas.proofs.Alters.Apart.{names-apart}
use Rattle.base_script.specs.declared.statement.Statement.{Statement}
use Rattle.base_script.specs.declared.statement.Statement.TheVariants as statements
use Rattle.server_model.specs.declared.work.Work.{Work}
use Rattle.server_model.specs.declared.work.Work.TheVariants as works
use Rattle.server_model.specs.Answers.{refuses_value}
use Rattle.server_model.specs.Checks.{work_of}
use Rattle.server_model.specs.Operations.{table_of}
use Rattle.tool_program.specs.declared.event_applier.applier.Applier.{Applier}
use Rattle.tool_program.specs.EventApplier.Appliers.{Doing, by_key, given_values, sets, statement_of}
use Rattle.tool_program.specs.EventApplier.Appliers.Doing.{Putting, Removing, Changing}
use Rattle.tool_program.specs.EventApplier.BatchPlans.{key_sets}
use Rattle.proof_journals.specs.Ghost.Rows.Moments.{Row}
use Rattle.proof_journals.specs.Ghost.Rows.Timelines.{IsPlanned, Migration}
use Rattle.proof_journals.specs.Ghost.HeldKeys.{Clustered}
use Rattle.proof_journals.specs.Ghost.Statements.{SameColumns, delete_at, unfit_at, update_at}
use Rattle.proof_journals.proofs.Ghost.Texts.{delete_text, replace_refused, replace_work, sets_or, update_text}
use Rattle.proof_migration.specs.Migration.Applier.FoundColumns.{FindsRows}
use Rattle.proof_migration.proofs.Migration.Applier.Keys.{compared, finds_key, key_is, key_is_wanted, named, new_at}
use Rattle.proof_migration.proofs.Migration.Applier.Names.{all_distinct, all_values, columns_named}

-- the statement that does it, by the altered schema and its columns' map
abbrev pub said : Schema → List MapColumn → Doing → Statement
said schema cs (Putting row) = statements.Replace schema.name None (given_values cs row) None
said schema cs (Removing row) = statements.Delete schema.name (by_key schema cs row)
said schema cs (Changing before after) = statements.Update schema.name (sets schema.columns (given_values cs after)) (by_key schema cs before)

said_by : (applier : Applier) (doing : Doing) → statement_of applier doing ≡ said applier.new_schema applier.map doing
said_by applier (Putting row) = refl
said_by applier (Removing row) = refl
said_by applier (Changing before after) = refl

pub said_is : (m : Migration) (applier : Applier) (doing : Doing) → applier.new_schema ≡ m.new → applier.map ≡ m.columns → statement_of applier doing ≡ said m.new m.columns doing
said_is m applier doing schema cs = said_by applier doing ∙ ap (λ (s : Schema). said s applier.map doing) schema ∙ ap (λ (c : List MapColumn). said m.new c doing) cs

pub said_of : (m : Migration) (doing : Doing) → table_of (said m.new m.columns doing) ≡ m.new.name
said_of m (Putting row) = refl
said_of m (Removing row) = refl
said_of m (Changing before after) = refl

same_length : (columns : List Column) (cs : List MapColumn) (row : Row) → SameColumns columns cs → length (given_values cs row) ≡ length columns
same_length [] [] row same = refl
same_length [] (c ∷ cs) row same = absurd same
same_length (column ∷ columns) [] row same = absurd same
same_length (column ∷ columns) (c ∷ cs) row same = ap suc (same_length columns cs row same.2)

module _ (m : Migration) (rows : List Row) (plan : IsPlanned m rows) (finds : FindsRows m) where
  abbrev work_for : Doing → Work
  work_for doing = work_of m.new (said m.new m.columns doing)

  abbrev here : Clustered m.new
  here = new_at m rows plan finds

  -- REPLACE
  pub put_work : (row made : Row) → converted_row m.columns row ≡ Ok made → work_for (Putting row) ≡ works.Replace made
  put_work row made imaged = replace_work m.new m.columns m.new.name row made finds.columns imaged

  pub put_unfit : (row : Row) (fault : UnfitAt) → converted_row m.columns row ≡ Err fault → work_for (Putting row) ≡ works.Refuse (refuses_value fault)
  put_unfit row fault imaged = replace_refused m.new m.columns m.new.name row fault finds.columns imaged

  -- DELETE
  pub remove_work : (row : Row) → IsRow m.schema.columns row → work_for (Removing row) ≡ delete_at here.place (key_of (key_places m.schema) row)
  remove_work row fits =
      delete_text m.new here (named m rows plan finds) m.new.name (key_sets m.new m.columns row (named m rows plan finds)) (compared m rows plan finds row) (key_of (key_places m.schema) row) (finds_key m rows plan finds row) (key_is_wanted m rows plan finds row fits) (key_is m rows plan finds row fits)

  -- UPDATE
  long : (row : Row) → length (given_values m.columns row) ≡ length m.new.columns
  long row = same_length m.new.columns m.columns row finds.columns

  change_text : (old new : Row) → IsRow m.schema.columns old → work_for (Changing old new) ≡ works.Update (record { key = here.place; span = Rattle.base_values.specs.Spans.point (key_of (key_places m.schema) old) }) (sets_or (converted_row m.columns new))
  change_text old new fits =
      update_text m.new here (named m rows plan finds) m.columns m.new.name new (sets m.new.columns (given_values m.columns new)) (key_sets m.new m.columns old (named m rows plan finds)) (compared m rows plan finds old) (key_of (key_places m.schema) old) finds.columns
      (columns_named m.new (given_values m.columns new) (names-apart m.new.columns finds.names) (long new)) (all_distinct 0 m.new.columns) (all_values m.new.columns (given_values m.columns new) (long new))
      (finds_key m rows plan finds old) (key_is_wanted m rows plan finds old fits) (key_is m rows plan finds old fits)

  pub change_work : (old new made : Row) → IsRow m.schema.columns old → converted_row m.columns new ≡ Ok made → work_for (Changing old new) ≡ update_at here.place (key_of (key_places m.schema) old) made
  change_work old new made fits imaged = change_text old new fits ∙ ap (λ (i : Result Row UnfitAt). works.Update (record { key = here.place; span = Rattle.base_values.specs.Spans.point (key_of (key_places m.schema) old) }) (sets_or i)) imaged

  pub change_unfit : (old new : Row) (fault : UnfitAt) → IsRow m.schema.columns old → converted_row m.columns new ≡ Err fault → work_for (Changing old new) ≡ unfit_at here.place (key_of (key_places m.schema) old) fault
  change_unfit old new fault fits imaged = change_text old new fits ∙ ap (λ (i : Result Row UnfitAt). works.Update (record { key = here.place; span = Rattle.base_values.specs.Spans.point (key_of (key_places m.schema) old) }) (sets_or i)) imaged

  -- the place of the clustered key is this one
  pub one_place : (place : ℕ) → clustered_place m.new ≡ Some place → here.place ≡ place
  one_place place is = let both : Some here.place ≡ Some place = sym here.at ∙ is in cc
