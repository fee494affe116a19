-- *Whole journal*: the turns of a run, as many as its plan allows at most, and behind them those of a new tool where one came; how it
-- ended, and why it reverts. (After gh-ost's `resume.md`; the words are this project's.)
use Rattle.std.specs.Prelude.{◌≡◌, ℕ, ◌+◌, Bool, true, false, ◌||◌, if◌then◌else◌, List, ◌∷◌, ◌++◌, take, drop, length, Option, Some, None, Err}
use Rattle.std.specs.List.{list_any}
use Rattle.base_values.specs.declared.unfit.Unfit.{Unfit}
use Rattle.base_values.specs.declared.value.Value.{Value}
use Rattle.base_values.specs.GhoSchema.Rows.{key_of, key_places}
use Rattle.base_values.specs.RowConversion.ConvertedRows.{converted_row}
use Rattle.base_values.specs.StoredValues.{error_number}
use Rattle.table_store.specs.Databases.{find_table}
use Rattle.server_model.specs.declared.answer.Answer.TheVariants as answers
use Rattle.server_model.specs.declared.entry.Entry.{Entry}
use Rattle.server_model.specs.declared.outcome.Cause.{Cause}
use Rattle.server_model.specs.declared.outcome.Cause.TheVariants as causes
use Rattle.server_model.specs.declared.outcome.Verdict.{Verdict}
use Rattle.server_model.specs.declared.outcome.Verdict.TheVariants as verdicts
use Rattle.plan_data.specs.PlanData.{PlanData, new_map, old_schema}
use Rattle.tool_program.specs.EventApplier.Appliers as appliers
use Rattle.tool_program.specs.Failures.{Stands, row_in}
use Rattle.tool_program.specs.JournalWords.Histories.{history, is_alter}
use Rattle.tool_program.specs.JournalWords.Journals.{state_at}
use Rattle.tool_program.specs.Verdicts.{has_ended, new_column_name, verdict_of}
use Rattle.tool_finish.specs.declared.stage.Stage.{Stage}
use Rattle.tool_finish.specs.declared.stage.Stage.TheVariants.{Copying, Applying}
use Rattle.tool_finish.specs.Finishes.{finish_verdict, is_over, stage_behind}

-- WHOSE TURNS THEY ARE

-- the run's turns in a journal: as many as the plan allows
abbrev pub run_in : PlanData → List Entry → List Entry
run_in plan journal = take plan.options.turn_limit journal

-- the new tool's, behind them
abbrev pub finish_in : PlanData → List Entry → List Entry
finish_in plan journal = drop plan.options.turn_limit journal

-- HOW IT ENDED

-- the new tool is over
abbrev pub has_finished : PlanData → List Entry → Bool
has_finished plan journal = is_over (stage_behind plan (run_in plan journal) (finish_in plan journal))

-- *Ended*: the run has, or the new tool behind it
abbrev pub has_ended_at : PlanData → List Entry → Bool
has_ended_at plan journal = has_ended plan (run_in plan journal) || has_finished plan journal

-- *The verdict*: the run's where it has ended, else the new tool's, which is unfinished where there is none
abbrev pub verdict_at : PlanData → List Entry → Verdict
verdict_at plan journal = if has_ended plan (run_in plan journal) then verdict_of plan (run_in plan journal) else finish_verdict plan (run_in plan journal) (finish_in plan journal)

-- where it has ended, it is *done* where the history has the ALTER, and else *reverted*
pub record TellsAlterAt (plan : PlanData) (journal : List Entry) : Type 0 where
  pub done : list_any is_alter (history plan journal) ≡ true → verdict_at plan journal ≡ verdicts.Done
  pub reverted : list_any is_alter (history plan journal) ≡ false → (cause : Cause) × (verdict_at plan journal ≡ verdicts.Reverted cause)

-- WHY IT REVERTS

-- the row that is converted at this stage: the copier's is that of this key in the table as it is, the applier's that after the change
abbrev pub row_at : PlanData → List Entry → Stage → List Value → Option (List Value)
row_at plan journal (Copying copier applier) key = row_in (find_table plan.table (state_at plan journal).tables) key
row_at plan journal (Applying applier) key = Some (appliers.row_done (appliers.doing_at journal applier applier.step))
row_at plan journal stage key = None

-- *Unfit behind the run*: in this turn of the new tool a value was refused with this number for this column, and the row of this key
-- can't be converted there
pub record IsUnfitBehind (plan : PlanData) (run turns : List Entry) (turn : ℕ) (key : List Value) (column : List ℕ) (number : ℕ) : Type 0 where
  pub before : List Entry
  pub entry : Entry
  pub following : List Entry
  pub turns_are : turns ≡ before ++ entry ∷ following
  pub turn_is : turn ≡ length (run ++ before) + 1
  pub place : ℕ
  pub refused : entry.answer ≡ answers.Refused number (Some place)
  pub name : new_column_name plan place ≡ column
  pub row : List Value
  pub concerned : row_at plan (run ++ before) (stage_behind plan run before) key ≡ Some row
  pub keyed : key_of (key_places (old_schema plan)) row ≡ key
  pub unfit : Unfit
  pub refuses : converted_row (new_map plan) row ≡ Err (record { column = place; unfit = unfit })
  pub numbered : error_number unfit ≡ number

-- a new tool reverts for a row that doesn't fit alone
abbrev pub StandsBehind : PlanData → List Entry → List Entry → Cause → Type 0
StandsBehind plan run turns (causes.Unfit turn key column number) = IsUnfitBehind plan run turns turn key column number
StandsBehind plan run turns cause = ⊥

abbrev pub StandsIn : Bool → PlanData → List Entry → List Entry → Cause → Type 0
StandsIn true plan run turns cause = Stands plan run cause
StandsIn false plan run turns cause = StandsBehind plan run turns cause

-- *The cause is in the journal*: in the run's turns where the run has ended, else in the new tool's
abbrev pub StandsAt : PlanData → List Entry → Cause → Type 0
StandsAt plan journal cause = StandsIn (has_ended plan (run_in plan journal)) plan (run_in plan journal) (finish_in plan journal) cause
