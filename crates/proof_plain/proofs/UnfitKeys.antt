-- The key of a row that a verdict of revert names has a value.
use Rattle.std.proofs.Common.{◌≡◌, ◌<◌, ℕ, ◌-◌, true, false, List, [], ◌∷◌, ◌++◌, length, take, Option, Some, None, refl, sym, ap, ◌∙◌, subst, arith}
use Rattle.std.specs.Prelude.{find, unwrap_or}
use Rattle.std.specs.List.{AllByRecursion, slice_get}
use Rattle.std.specs.Option.{option_map, option_to_list}
use Rattle.base_script.specs.declared.actor.Actor.{Actor}
use Rattle.base_script.specs.declared.actor.Actor.TheVariants.{Copy, Apply}
use Rattle.base_values.specs.Laws.{StoresAgain}
use Rattle.base_values.specs.declared.gho_schema.schema.Column.{Column}
use Rattle.base_values.specs.declared.value.Value.{Value}
use Rattle.base_values.specs.GhoSchema.ClusteredKey.{is_not_null}
use Rattle.base_values.specs.GhoSchema.Rows.{key_of, key_places}
use Rattle.base_values.specs.GhoSchema.Tables.{IsRow}
use Rattle.table_store.specs.Databases.{TableRows, find_table}
use Rattle.table_store.specs.RowLists.{is_at}
use Rattle.server_model.specs.declared.answer.Answer.{Answer}
use Rattle.server_model.specs.declared.entry.Entry.{Entry}
use Rattle.server_model.specs.declared.outcome.Cause.TheVariants as causes
use Rattle.server_model.specs.declared.outcome.Progress.TheVariants.{Unfit}
use Rattle.server_model.specs.declared.outcome.Verdict.TheVariants as verdicts
use Rattle.server_model.specs.LockedRows.Coverage.{IsWellFormedTable}
use Rattle.server_model.specs.LockedRows.Databases.{WhereFound}
use Rattle.server_model.specs.States.{State}
use Rattle.plan_data.specs.PlanData.{PlanData, no_schema, old_schema}
use Rattle.tool_program.specs.declared.event_applier.applier.Applier.{Applier}
use Rattle.tool_program.specs.declared.event_applier.applier.ApplyStep.{ApplyStep}
use Rattle.tool_program.specs.declared.event_applier.applier.ApplyStep.TheVariants.{Applying}
use Rattle.tool_program.specs.declared.event_applier.applier.Batch.{Batch}
use Rattle.tool_program.specs.declared.event_applier.applier.Part.{Part}
use Rattle.tool_program.specs.EventApplier.Appliers.{Doing, doing_at, in_part, row_done}
use Rattle.tool_program.specs.EventApplier.Appliers as appliers
use Rattle.tool_program.specs.Failures.{IsUnfit, applied_row, concerned, row_in}
use Rattle.tool_program.specs.JournalWords.Journals.{state_at}
use Rattle.tool_program.specs.Programs.{Follows}
use Rattle.tool_program.specs.Tools.{Moment, Reason, CopyUnfit, ApplyUnfit, Spent, Panicked, Migrating, Work, is_reverting, moment}
use Rattle.tool_program.specs.Verdicts.{cause_of, verdict_of}
use Rattle.tool_program.proofs.OnlineCalls.Machines.{IsNamed, ToolPhaseIsNamed, named}
use Rattle.proof_journals.specs.Ghost.HeldKeys.{Clustered}
use Rattle.proof_journals.specs.Ghost.Rows.Timelines.{Migration}
use Rattle.proof_journals.specs.Machine.Runnable.{IsRunnable}
use Rattle.proof_journals.specs.Plans.{IsSerialPlan}
use Rattle.proof_journals.specs.Run.Kept.{IsKept}
use Rattle.proof_journals.proofs.Ghost.Keys.{clustered}
use Rattle.proof_journals.proofs.Machine.Journals.{all_runs, all_together}
use Rattle.proof_migration.specs.Migration.Planning.{migration_of}
use Rattle.proof_migration.specs.Program.Turns.Goes.{Goes}
use Rattle.proof_migration.specs.Program.Turns.Laws.{GoesSomehow, IsMigrationOf}
use Rattle.proof_migration.specs.ToolPhase.Runnable.{IsAlterable}
use Rattle.proof_migration.specs.ToolPhase.Unaltered.{IsUnaltered}
use Rattle.proof_migration.proofs.Attempt.Verdicts.Standing.{IsGround, ground}
use Rattle.proof_migration.proofs.HeldNames.Holders.{all_held_well}
use Rattle.proof_migration.proofs.Migration.Applier.Keys.{ValueAt, value_of}
use Rattle.proof_migration.proofs.Migration.Applier.NextStatement.{NextStatement, next_statement}
use Rattle.proof_migration.proofs.Migration.Applier.Planning.{done_row, part_rows}
use Rattle.proof_migration.proofs.Program.Follows.{migration, own_table}
use Rattle.proof_migration.proofs.Program.Starts.{followers_go}
use Rattle.proof_migration.proofs.Program.Turns.ActorStates.{SomeActorStates, some_actor_states}
use Rattle.proof_migration.proofs.Program.Turns.Follows.{kept_front}
use Rattle.proof_migration.proofs.ToolPhase.Unaltered.Away.{unaltered_front}
use Rattle.proof_migration.proofs.Unfit.Grounds.{GroundStands, IsGrounded, IsUnfitTurn, all_grounded, stood_in}
use Rattle.proof_migration.proofs.Unfit.Applies.{IsRefusal, refusal}
use Rattle.proof_migration.proofs.Unfit.Rows.{front_is, stands_there, unaltered_so}

-- ---- keys of rows

-- the key of a row that fits has a value where the key has columns, none of which may be null
pub row_keyed : (columns : List Column) (row : List Value) → IsRow columns row → (places : List ℕ) → 0 < length places → AllByRecursion (λ place. is_not_null (slice_get columns place) ≡ true) places → 0 < length (key_of places row)
unfolding key_of
row_keyed columns row fits [] some full = absurd (let no : ⊥ = omega (arith, some) in no)
row_keyed columns row fits (place ∷ places) some full = by (slice_get columns place) refl full.0 where
  by : (column : Option Column) → slice_get columns place ≡ column → is_not_null column ≡ true → 0 < length (option_to_list (slice_get row place) ++ key_of places row)
  by None there is = absurd (let no : false ≡ true = is in cc)
  by (Some column) there is =
      let has : ValueAt column row place = value_of columns row place column fits there in
      subst (λ (v : Option Value). 0 < length (option_to_list v ++ key_of places row)) (sym has.here) (omega (arith))

-- no row has a key without values
none_at : (places : List ℕ) (row : List Value) → 0 < length (key_of places row) → is_at places [] row ≡ false
none_at places row some = by (key_of places row) refl some where
  by : (key : List Value) → key_of places row ≡ key → 0 < length key → is_at places [] row ≡ false
  by [] is some = absurd (let no : ⊥ = omega (arith, some) in no)
  by (value ∷ key) is some = rw (is) refl

none_found : (table : TableRows) → IsWellFormedTable table → (rows : List (List Value)) → AllByRecursion (IsRow table.schema.columns) rows → find (is_at (key_places table.schema) []) rows ≡ None
none_found table well [] fit = refl
none_found table well (row ∷ rows) fit =
    rw (none_at (key_places table.schema) row (row_keyed table.schema.columns row fit.0 (key_places table.schema) well.keyed.some well.keyed.not_null)) (none_found table well rows fit.1)

pub found_keyed : (found : Option TableRows) (key row : List Value) → WhereFound IsWellFormedTable found → row_in found key ≡ Some row → 0 < length key
found_keyed None key row well is = absurd cc
found_keyed (Some table) (value ∷ key) row well is = omega (arith)
found_keyed (Some table) [] row well is = absurd (no (sym (none_found table well table.rows well.is_table.rows_fit) ∙ is)) where
  no : None ≡ Some row → ⊥
  no same = cc

-- ---- what the applier does

-- the row of its next statement fits the migrated table
pub statement_row : (m : Migration) (journal : List Entry) (applier : Applier) (batch : Batch) (count : ℕ) (part : Part) → NextStatement m journal applier batch count part → IsRow m.schema.columns (row_done (doing_at journal applier applier.step))
statement_row m journal applier batch count part next =
    subst (λ (d : Option Doing). IsRow m.schema.columns (row_done d)) (sym next.does) (done_row m.schema.columns (in_part part next.doing) (part_rows m.schema.columns part next.doing next.rows))

module _ (plan : PlanData) (is : IsAlterable plan) (again : StoresAgain) (runs : IsRunnable plan) (serial : IsSerialPlan plan) where
  abbrev m : Migration
  m = migration_of is.table.schema is.new

  of : IsMigrationOf plan m is.table.rows
  of = migration plan is again runs serial

  at : Clustered m.schema
  at = clustered m.schema of.planned.old_key

  same_work : (one other : Work) → Migrating one ≡ Migrating other → one ≡ other
  same_work one other same = cc

  -- ---- the applier's row

  applied_fits : (journal : List Entry) → IsKept plan journal → IsUnaltered plan journal → (work : Work) → (moment plan journal).tool.tool_phase ≡ Migrating work → is_reverting (moment plan journal).tool.reason ≡ false
      → (answer : Answer) (place number : ℕ) → appliers.progress work.applier answer ≡ Unfit place number → IsRow m.schema.columns (row_done (doing_at journal work.applier work.applier.step))
  unfolding appliers.progress
  applied_fits journal kept off work phase going answer place number unfit = by work.applier.step refl (refusal work.applier work.applier.step answer place number unfit) where
    by : (step : ApplyStep) → work.applier.step ≡ step → IsRefusal step answer place number → IsRow m.schema.columns (row_done (doing_at journal work.applier work.applier.step))
    by (Applying batch count part) here is_refusal =
        let somehow : GoesSomehow plan m at is.table.rows journal = followers_go plan m at is.table.rows of (own_table plan is) journal work kept off going phase in
        let goes : Goes plan m at is.table.rows journal work = subst (Goes plan m at is.table.rows journal) (same_work somehow.work work (sym somehow.tool_phase ∙ phase)) somehow.goes in
        let some : SomeActorStates journal = some_actor_states journal (all_together plan journal kept.faithful kept.follows).known.sessions in
        let names : IsNamed plan work = subst (ToolPhaseIsNamed plan) phase (named plan journal) in
        statement_row m journal work.applier batch count part
        (next_statement m of.finds journal work.applier (names.applier ∙ sym of.of.name) goes.schema goes.apply_map (goes.stands some.copier some.applier some.actor_states).applier_knows batch count part here)
    by step here is_refusal = absurd is_refusal

  old_is : old_schema plan ≡ m.schema
  old_is = ap (λ (found : Option TableRows). unwrap_or (option_map (λ table. table.schema) found) no_schema) is.found

  applied_keyed : (row : List Value) → IsRow m.schema.columns row → 0 < length (key_of (key_places (old_schema plan)) row)
  applied_keyed row fits = rw (old_is) (row_keyed m.schema.columns row fits (key_places m.schema) of.planned.old_key.some of.planned.old_key.not_null)

  -- ---- the verdict's key

  module _ (journal : List Entry) (kept : IsKept plan journal) (turn : ℕ) (key : List Value) (column : List ℕ) (number : ℕ) (off : IsUnaltered plan journal) (unfit : IsUnfit plan journal turn key column number) where
    abbrev Turn : Actor → ℕ → ℕ → Type 0
    Turn who place reported = IsUnfitTurn plan journal (stood_in (moment plan journal).tool.tool_phase) who turn place reported

    same_entry : (one other : Entry) → Some one ≡ Some other → one ≡ other
    same_entry one other same = cc

    module _ (who : Actor) (place reported : ℕ) (here : Turn who place reported) where
      front_kept : IsKept plan here.front
      front_kept = kept_front plan here.front (here.entry ∷ here.has.rest) (subst (IsKept plan) here.has.whole kept)

      actor : unfit.entry.actor ≡ who
      actor = ap (λ (e : Entry). e.actor) (same_entry unfit.entry here.entry (sym unfit.is.stands ∙ stands_there journal turn here.front here.entry here.has)) ∙ here.actor

      concerns : concerned plan here.front (moment plan here.front) who key ≡ Some unfit.row
      concerns =
          let front : here.front ≡ take (turn - 1) journal = sym (front_is journal turn here.front here.entry here.has) in
          ap (λ (j : List Entry). concerned plan j (moment plan j) who key) front
          ∙ ap (λ (a : Actor). concerned plan (take (turn - 1) journal) (moment plan (take (turn - 1) journal)) a key) (sym actor)
          ∙ ap (λ (b : Moment). concerned plan (take (turn - 1) journal) b unfit.entry.actor key) (sym unfit.is.moment)
          ∙ unfit.concerned

    copied : (place reported : ℕ) → Turn Copy place reported → 0 < length key
    copied place reported here =
        let front_kept : IsKept plan here.front = front_kept Copy place reported here in
        let server = (all_together plan here.front front_kept.faithful front_kept.follows).server in
        found_keyed (find_table plan.table (state_at plan here.front).tables) key unfit.row ((all_held_well plan here.front runs serial front_kept).serving.well_formed.each plan.table)
        (ap (λ (s : State). row_in (find_table plan.table s.tables) key) (sym server) ∙ concerns Copy place reported here)

    applied : (place reported : ℕ) → Turn Apply place reported → 0 < length key
    applied place reported here =
        let front_kept : IsKept plan here.front = front_kept Apply place reported here in
        let front_off : IsUnaltered plan here.front = unaltered_front plan here.front (here.entry ∷ here.has.rest) (subst (IsUnaltered plan) here.has.whole off) in
        let fits : IsRow m.schema.columns (row_done (doing_at here.front here.work.applier here.work.applier.step)) =
        applied_fits here.front front_kept front_off here.work here.tool_phase (ap is_reverting here.going) here.entry.answer place reported here.unfit in
        let done : row_done (doing_at here.front here.work.applier here.work.applier.step) ≡ unfit.row =
        same_row _ unfit.row (ap (applied_row here.front) (sym here.tool_phase) ∙ concerns Apply place reported here) in
        subst (λ (k : List Value). 0 < length k) (ap (key_of (key_places (old_schema plan))) done ∙ unfit.keyed) (applied_keyed (row_done (doing_at here.front here.work.applier here.work.applier.step)) fits) where
          same_row : (one other : List Value) → Some one ≡ Some other → one ≡ other
          same_row one other same = cc

  -- *The key of an unfit row has a value*
  pub unfit_keyed : (journal : List Entry) → IsKept plan journal → (turn : ℕ) (key : List Value) (column : List ℕ) (number : ℕ) → verdict_of plan journal ≡ verdicts.Reverted (causes.Unfit turn key column number) → IsUnfit plan journal turn key column number → 0 < length key
  unfolding Follows
  unfit_keyed journal kept turn key column number verdict unfit = by one.reason one.same (subst (GroundStands plan journal (stood_in (moment plan journal).tool.tool_phase)) one.is grounded.ground) where
    one : IsGround plan journal (causes.Unfit turn key column number)
    one = ground plan journal (causes.Unfit turn key column number) verdict

    grounded : IsGrounded plan journal
    grounded = all_grounded plan journal (all_runs plan [] journal kept.faithful kept.follows)

    off : IsUnaltered plan journal
    off = unaltered_so plan journal (causes.Unfit turn key column number) verdict

    by : (reason : Reason) → cause_of plan journal (moment plan journal).tool reason ≡ causes.Unfit turn key column number → GroundStands plan journal (stood_in (moment plan journal).tool.tool_phase) (Some reason) → 0 < length key
    by (CopyUnfit other place reported) same here =
        let a : other ≡ turn = cc in copied journal kept turn key column number off unfit place reported (subst (λ (t : ℕ). IsUnfitTurn plan journal (stood_in (moment plan journal).tool.tool_phase) Copy t place reported) a here)
    by (ApplyUnfit other place reported) same here =
        let a : other ≡ turn = cc in applied journal kept turn key column number off unfit place reported (subst (λ (t : ℕ). IsUnfitTurn plan journal (stood_in (moment plan journal).tool.tool_phase) Apply t place reported) a here)
    by (Spent spent tries) same here = absurd cc
    by (Panicked other) same here = absurd cc
