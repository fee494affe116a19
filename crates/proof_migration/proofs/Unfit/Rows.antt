-- *Unfit rows stand.*
use Rattle.std.proofs.Common.{◌≡◌, ℕ, ◌+◌, ◌-◌, Bool, true, false, cond, List, [], ◌∷◌, ◌++◌, length, take, Some, refl, sym, ap, ◌∙◌, subst, arith, append_assoc}
use Rattle.std.specs.Prelude.{unwrap_or}
use Rattle.std.specs.List.{list_any, slice_get}
use Rattle.std.proofs.Math.Seq.{take-append_seam}
use Rattle.base_values.specs.Laws.{StoresAgain}
use Rattle.base_values.specs.declared.value.Value.{Value}
use Rattle.base_values.specs.GhoSchema.Rows.{key_of, key_places}
use Rattle.table_store.specs.Databases.{find_table}
use Rattle.base_script.specs.declared.actor.Actor.{Actor}
use Rattle.base_script.specs.declared.actor.Actor.TheVariants.{Copy, Apply}
use Rattle.server_model.specs.declared.answer.Answer.TheVariants as answers
use Rattle.server_model.specs.declared.entry.Entry.{Entry}
use Rattle.server_model.specs.declared.outcome.Cause.{Cause}
use Rattle.server_model.specs.declared.outcome.Cause.TheVariants as causes
use Rattle.server_model.specs.declared.outcome.Progress.TheVariants.{Unfit}
use Rattle.server_model.specs.declared.outcome.Verdict.TheVariants as verdicts
use Rattle.server_model.specs.States.{State}
use Rattle.plan_data.specs.PlanData.{PlanData, new_map, old_schema}
use Rattle.tool_program.specs.JournalWords.Histories.{history, is_alter}
use Rattle.tool_program.specs.JournalWords.Journals.{state_at}
use Rattle.tool_program.specs.ChunkCopier.Copiers as copiers
use Rattle.tool_program.specs.ChunkCopier.Copiers.{key_at}
use Rattle.tool_program.specs.EventApplier.Appliers as appliers
use Rattle.tool_program.specs.EventApplier.Appliers.{doing_at, row_done, unfit_key}
use Rattle.tool_program.specs.Failures.{IsUnfit, Stands, applied_row, concerned, row_in}
use Rattle.tool_program.specs.Programs.{Follows}
use Rattle.tool_program.specs.Tools.{ToolPhase, SettingUp, Migrating, Reason, CopyUnfit, ApplyUnfit, Spent, Panicked, Work, is_reverting, moment}
use Rattle.tool_program.specs.Verdicts.{apply_key, cause_of, new_column_name, copy_key, ended_so, has_ended, reverted_by, verdict_of}
use Rattle.proof_journals.specs.Ghost.Rows.Moments.{Row}
use Rattle.proof_journals.specs.Ghost.Rows.Timelines.{Migration}
use Rattle.proof_journals.specs.Ghost.HeldKeys.{Clustered}
use Rattle.proof_journals.proofs.Ghost.Keys.{clustered}
use Rattle.proof_migration.specs.Migration.Planning.{migration_of}
use Rattle.proof_journals.specs.Run.Kept.{IsKept}
use Rattle.proof_migration.specs.ToolPhase.Runnable.{AlterablePlansAreRunnable}
use Rattle.proof_journals.proofs.Machine.Journals.{all_runs}
use Rattle.proof_migration.specs.ToolPhase.Unaltered.{IsUnaltered}
use Rattle.proof_migration.proofs.ToolPhase.Unaltered.Away.{all_asked, unaltered_front}
use Rattle.proof_migration.specs.Program.Turns.Goes.{Goes}
use Rattle.proof_migration.specs.Program.Turns.Laws.{GoesSomehow, IsMigrationOf}
use Rattle.proof_migration.proofs.Program.Turns.Follows.{kept_front}
use Rattle.proof_migration.proofs.Program.Follows.{migration, own_table}
use Rattle.proof_migration.proofs.Program.Starts.{followers_go}
use Rattle.proof_migration.proofs.Attempt.Verdicts.Standing.{IsGround, ground}
use Rattle.proof_migration.specs.Unfit.{UnfitRowsStand}
use Rattle.proof_migration.proofs.Unfit.Applies.{IsRefusedRow}
use Rattle.proof_migration.proofs.Unfit.Copies.{IsRefusedCopy}
use Rattle.proof_migration.proofs.Unfit.Grounds.{GroundStands, HasTurn, IsGrounded, IsUnfitTurn, Stood, all_grounded, stood_at, stood_in}
use Rattle.proof_migration.proofs.Unfit.Refusals.{HasNoConvertedRow}
use Rattle.proof_migration.proofs.Unfit.Turns.{apply_refused, copy_refused}

-- THE JOURNAL'S TURN

got_front : (front : List Entry) (entry : Entry) (rest : List Entry) → slice_get (front ++ entry ∷ rest) (length front) ≡ Some entry
got_front [] entry rest = refl
got_front (first ∷ front) entry rest = got_front front entry rest

module _ (journal : List Entry) (turn : ℕ) (front : List Entry) (entry : Entry) (has : HasTurn journal turn front entry) where
  place : turn - 1 ≡ length front
  place = let numbered : turn ≡ length front + 1 = has.numbered in omega (arith, numbered)

  -- the entry stands at its turn, behind the front
  pub stands_there : slice_get journal (turn - 1) ≡ Some entry
  stands_there = ap (slice_get journal) place ∙ ap (λ (j : List Entry). slice_get j (length front)) has.whole ∙ got_front front entry has.rest

  pub front_is : take (turn - 1) journal ≡ front
  front_is = ap (λ (n : ℕ). take n journal) place ∙ ap (take (length front)) has.whole ∙ take-append_seam front (entry ∷ has.rest)

copy_key_is : (journal : List Entry) (tool_phase : ToolPhase) (stood : Stood) → stood_in tool_phase ≡ Some stood → copy_key journal tool_phase ≡ unwrap_or (key_at journal stood.step) []
copy_key_is journal (SettingUp setup tries) stood here = absurd cc
copy_key_is journal (Migrating work) stood here = let one : stood_at work ≡ stood = cc in ap (λ (s : Stood). unwrap_or (key_at journal s.step) []) one

apply_key_is : (plan : PlanData) (journal : List Entry) (tool_phase : ToolPhase) (stood : Stood) → stood_in tool_phase ≡ Some stood → apply_key plan journal tool_phase ≡ unfit_key journal (key_places (old_schema plan)) stood.applier
apply_key_is plan journal (SettingUp setup tries) stood here = absurd cc
apply_key_is plan journal (Migrating work) stood here = let one : stood_at work ≡ stood = cc in ap (λ (s : Stood). unfit_key journal (key_places (old_schema plan)) s.applier) one

-- what is reverted has no ALTER in its history
pub unaltered_so : (plan : PlanData) (journal : List Entry) (cause : Cause) → verdict_of plan journal ≡ verdicts.Reverted cause → IsUnaltered plan journal
unfolding verdict_of
unaltered_so plan journal cause is = ended (has_ended plan journal) is where
  altered : (b : Bool) → cond b verdicts.Done (reverted_by plan journal (moment plan journal).tool (moment plan journal).tool.reason) ≡ verdicts.Reverted cause → b ≡ false
  altered true same = absurd (no same) where
    no : verdicts.Done ≡ verdicts.Reverted cause → ⊥
    no same = cc
  altered false same = refl

  ended : (b : Bool) → cond b (ended_so plan journal (moment plan journal).tool) verdicts.Unfinished ≡ verdicts.Reverted cause → IsUnaltered plan journal
  ended false same = absurd (no same) where
    no : verdicts.Unfinished ≡ verdicts.Reverted cause → ⊥
    no same = cc
  ended true same = altered (list_any is_alter (history plan journal)) same

-- THE TURN

-- in this turn the row of this key, which has no image, was refused
record IsRefused (plan : PlanData) (front : List Entry) (entry : Entry) (key : List Value) (place number : ℕ) : Type 0 where
  refused : entry.answer ≡ answers.Refused number (Some place)
  row : List Value
  concerned : concerned plan front (moment plan front) entry.actor key ≡ Some row
  keyed : key_of (key_places (old_schema plan)) row ≡ key
  none : HasNoConvertedRow (new_map plan) row place number

module _ (plan : PlanData) (m : Migration) (at : Clustered m.schema) (rows : List Row) (of : IsMigrationOf plan m rows) (found : find_table m.name plan.tables ≡ Some (record { schema = m.schema; rows = rows })) (journal : List Entry) (kept : IsKept plan journal) (off : IsUnaltered plan journal)
    (who : Actor) (turn place number : ℕ) (is : IsUnfitTurn plan journal (stood_in (moment plan journal).tool.tool_phase) who turn place number) where
  abbrev more : List Entry
  more = is.entry ∷ is.has.rest

  whole_kept : IsKept plan ((is.front ++ is.entry ∷ []) ++ is.has.rest)
  whole_kept = subst (IsKept plan) (is.has.whole ∙ sym (append_assoc is.front (is.entry ∷ []) is.has.rest)) kept

  turn_kept : IsKept plan (is.front ++ is.entry ∷ [])
  turn_kept = kept_front plan (is.front ++ is.entry ∷ []) is.has.rest whole_kept

  front_kept : IsKept plan is.front
  front_kept = kept_front plan is.front (is.entry ∷ []) turn_kept

  front_off : IsUnaltered plan is.front
  front_off = unaltered_front plan is.front more (subst (IsUnaltered plan) is.has.whole off)

  going : is_reverting (moment plan is.front).tool.reason ≡ false
  going = ap is_reverting is.going

  somehow : GoesSomehow plan m at rows is.front
  somehow = followers_go plan m at rows of found is.front is.work front_kept front_off going is.tool_phase

  same_work : (one other : Work) → Migrating one ≡ Migrating other → one ≡ other
  same_work one other same = cc

  goes : Goes plan m at rows is.front is.work
  goes = subst (Goes plan m at rows is.front) (same_work somehow.work is.work (sym somehow.tool_phase ∙ is.tool_phase)) somehow.goes

  front_server : (moment plan is.front).server ≡ state_at plan is.front
  front_server = (all_asked plan is.front of.runs front_kept.faithful front_kept.follows).marking.tabled.all.tool.server

  -- what was refused in this turn stands in the journal
  stands_so : (key : List Value) → IsRefused plan is.front is.entry key place number → IsUnfit plan journal turn key (new_column_name plan place) number
  stands_so key was = record {
    entry = is.entry;
    before = moment plan is.front;
    is = record {
      from_one = let numbered : turn ≡ length is.front + 1 = is.has.numbered in omega (arith, numbered);
      stands = stands_there journal turn is.front is.entry is.has;
      moment = ap (moment plan) (sym (front_is journal turn is.front is.entry is.has));
    };
    place = place;
    refused = was.refused;
    name = refl;
    row = was.row;
    concerned = ap (λ (j : List Entry). concerned plan j (moment plan is.front) is.entry.actor key) (front_is journal turn is.front is.entry is.has) ∙ was.concerned;
    keyed = was.keyed;
    unfit = was.none.fault;
    refuses = was.none.refuses;
    numbered = was.none.numbered;
  }

  -- THE COPIER'S

  module _ (again : StoresAgain) (same : is.entry.actor ≡ Copy) (unfit : copiers.progress is.work.copier is.entry.answer ≡ Unfit place number) where
    copied : IsRefusedCopy plan is.front is.entry is.work.copier place number
    copied = copy_refused plan m at rows of is.front is.entry turn_kept is.work is.tool_phase going goes is.uncut again same place number unfit

    copy_key_now : copy_key journal (moment plan journal).tool.tool_phase ≡ copied.key
    copy_key_now = copy_key_is journal (moment plan journal).tool.tool_phase (stood_at is.work) is.stays ∙ ap (λ (j : List Entry). unwrap_or (key_at j is.work.copier.step) []) is.has.whole ∙ copied.told more

    pub copy_stands : IsUnfit plan journal turn (copy_key journal (moment plan journal).tool.tool_phase) (new_column_name plan place) number
    copy_stands =
        subst (λ (k : List Value). IsUnfit plan journal turn k (new_column_name plan place) number) (sym copy_key_now)
        (stands_so copied.key
        (record {
          refused = copied.refused;
          row = copied.row.row;
          concerned = ap (λ (a : Actor). concerned plan is.front (moment plan is.front) a copied.key) same ∙ ap (λ (s : State). row_in (find_table plan.table s.tables) copied.key) front_server ∙ copied.row.concerned;
          keyed = copied.row.keyed;
          none = copied.row.none;
        }))

  -- THE APPLIER'S

  module _ (same : is.entry.actor ≡ Apply) (unfit : appliers.progress is.work.applier is.entry.answer ≡ Unfit place number) where
    applied : IsRefusedRow plan is.front is.entry is.work.applier place number
    applied = apply_refused plan m at rows of is.front is.entry turn_kept is.work is.tool_phase going goes is.uncut same place number unfit

    abbrev applied_key : List Value
    applied_key = unfit_key is.front (key_places (old_schema plan)) is.work.applier

    apply_key_now : apply_key plan journal (moment plan journal).tool.tool_phase ≡ applied_key
    apply_key_now =
        apply_key_is plan journal (moment plan journal).tool.tool_phase (stood_at is.work) is.stays ∙ ap (λ (j : List Entry). unfit_key j (key_places (old_schema plan)) is.work.applier) is.has.whole ∙ applied.told (key_places (old_schema plan)) more

    pub apply_stands : IsUnfit plan journal turn (apply_key plan journal (moment plan journal).tool.tool_phase) (new_column_name plan place) number
    apply_stands =
        subst (λ (k : List Value). IsUnfit plan journal turn k (new_column_name plan place) number) (sym apply_key_now)
        (stands_so applied_key
        (record {
          refused = applied.refused;
          row = row_done (doing_at is.front is.work.applier is.work.applier.step);
          concerned = ap (λ (a : Actor). concerned plan is.front (moment plan is.front) a applied_key) same ∙ ap (applied_row is.front) is.tool_phase;
          keyed = refl;
          none = applied.none;
        }))

-- such a turn, where the work is as behind the whole journal
abbrev Turn : PlanData → List Entry → Actor → ℕ → ℕ → ℕ → Type 0
Turn plan journal who turn place number = IsUnfitTurn plan journal (stood_in (moment plan journal).tool.tool_phase) who turn place number

-- *Unfit rows stand*
pub rows_stand : StoresAgain → AlterablePlansAreRunnable → UnfitRowsStand
unfolding Stands Follows
rows_stand again runnable plan alterable worded serial journal kept turn key column number verdict = by one.reason one.same (subst (GroundStands plan journal (stood_in (moment plan journal).tool.tool_phase)) one.is grounded.ground) where
  one : IsGround plan journal (causes.Unfit turn key column number)
  one = ground plan journal (causes.Unfit turn key column number) verdict

  grounded : IsGrounded plan journal
  grounded = all_grounded plan journal (all_runs plan [] journal kept.faithful kept.follows)

  of : IsMigrationOf plan (migration_of alterable.table.schema alterable.new) alterable.table.rows
  of = migration plan alterable again (runnable plan alterable worded) serial

  at : Clustered alterable.table.schema
  at = clustered alterable.table.schema of.planned.old_key

  off : IsUnaltered plan journal
  off = unaltered_so plan journal (causes.Unfit turn key column number) verdict

  copied : (place : ℕ) → Turn plan journal Copy turn place number → IsUnfit plan journal turn (copy_key journal (moment plan journal).tool.tool_phase) (new_column_name plan place) number
  copied place is = copy_stands plan (migration_of alterable.table.schema alterable.new) at alterable.table.rows of (own_table plan alterable) journal kept off Copy turn place number is again is.actor is.unfit

  applied : (place : ℕ) → Turn plan journal Apply turn place number → IsUnfit plan journal turn (apply_key plan journal (moment plan journal).tool.tool_phase) (new_column_name plan place) number
  applied place is = apply_stands plan (migration_of alterable.table.schema alterable.new) at alterable.table.rows of (own_table plan alterable) journal kept off Apply turn place number is is.actor is.unfit

  -- the verdict's turn, key, column and number are those of the ground
  named : (who : Actor) (other place reported : ℕ) (own : List Value) → causes.Unfit other own (new_column_name plan place) reported ≡ causes.Unfit turn key column number → (Turn plan journal who turn place number → IsUnfit plan journal turn own (new_column_name plan place) number) → Turn plan journal who other place reported → IsUnfit plan journal turn key column number
  named who other place reported own same stands is =
      let a : other ≡ turn = cc in
      let b : own ≡ key = cc in
      let c : new_column_name plan place ≡ column = cc in
      let d : reported ≡ number = cc in
      subst (λ (k : List Value). IsUnfit plan journal turn k column number) b
      (subst (λ (n : List ℕ). IsUnfit plan journal turn own n number) c (stands (subst (λ (n : ℕ). Turn plan journal who turn place n) d (subst (λ (t : ℕ). Turn plan journal who t place reported) a is))))

  by : (reason : Reason) → cause_of plan journal (moment plan journal).tool reason ≡ causes.Unfit turn key column number → GroundStands plan journal (stood_in (moment plan journal).tool.tool_phase) (Some reason) → IsUnfit plan journal turn key column number
  by (CopyUnfit other place reported) same is = named Copy other place reported (copy_key journal (moment plan journal).tool.tool_phase) same (copied place) is
  by (ApplyUnfit other place reported) same is = named Apply other place reported (apply_key plan journal (moment plan journal).tool.tool_phase) same (applied place) is
  by (Spent spent tries) same is = absurd cc
  by (Panicked other) same is = absurd cc
