-- Where each row of the migrated table has an image no value is refused.
use Rattle.std.proofs.Common.{◌≡◌, ℕ, Bool, true, false, not, List, [], Some, None, Ok, Err, refl, sym, ap, ◌∙◌, subst}
use Rattle.std.specs.List.{AllByRecursion}
use Rattle.std.proofs.lemmas.Bool.{true≢false, false≢true}
use Rattle.base_values.specs.Laws.{StoresAgain}
use Rattle.base_values.specs.declared.value.Value.{Value}
use Rattle.base_values.specs.GhoSchema.Rows.{key_places}
use Rattle.base_values.specs.declared.row_conversion.conversion_fault.UnfitAt.{UnfitAt}
use Rattle.base_values.specs.declared.row_conversion.map.MapColumn.{MapColumn}
use Rattle.table_store.specs.Databases.{Database, find_table}
use Rattle.table_store.specs.RowLists.{is_at}
use Rattle.base_script.specs.declared.actor.Actor.{Actor}
use Rattle.base_script.specs.declared.actor.Actor.TheVariants.{Op, Insp, Copy, Apply, Lock, Ren, Client}
use Rattle.server_model.specs.declared.answer.Answer.{Answer}
use Rattle.server_model.specs.declared.answer.Answer.TheVariants as answers
use Rattle.server_model.specs.declared.entry.Entry.{Entry}
use Rattle.server_model.specs.declared.request.Request.{Request}
use Rattle.server_model.specs.declared.request.Request.TheVariants as requests
use Rattle.server_model.specs.Entries.{is_client, is_command}
use Rattle.server_model.specs.Operations.{after_events}
use Rattle.server_model.specs.States.{State, session_of, view, writes_of}
use Rattle.plan_data.specs.PlanData.{PlanData, new_map}
use Rattle.base_values.specs.ToolNames.{ghost_name}
use Rattle.tool_program.specs.JournalWords.Journals.{opens, state_at}
use Rattle.tool_program.specs.declared.chunk_copier.copier.CopyStep.{CopyStep}
use Rattle.tool_program.specs.declared.chunk_copier.copier.CopyStep.TheVariants.{Copying}
use Rattle.tool_program.specs.declared.event_applier.applier.ApplyStep.{ApplyStep}
use Rattle.tool_program.specs.declared.event_applier.applier.ApplyStep.TheVariants as applying
use Rattle.tool_program.specs.EventApplier.Appliers as appliers
use Rattle.tool_program.specs.Programs.{tool_call}
use Rattle.tool_program.specs.Tools.{ToolPhase, SettingUp, Migrating, Work, is_reverting, moment}
use Rattle.proof_journals.specs.Holdings.{Face, face_of}
use Rattle.proof_journals.proofs.Faces.{faces_opened, writes_face}
use Rattle.proof_migration.proofs.Migration.Copier.Rows.{found_all}
use Rattle.proof_journals.specs.Machine.TableKeys.{IsKeyed}
use Rattle.proof_journals.specs.Machine.Laws.{has_keys}
use Rattle.proof_journals.specs.Machine.Machines.{ToolPhaseStands, WorkStands, copier_asks}
use Rattle.proof_journals.specs.Machine.Runnable.{IsRunnable}
use Rattle.proof_journals.specs.Machine.Standings.{IsAbout, Standing, is_called, is_polled, standing_of}
use Rattle.proof_journals.specs.Machine.MigrationTables.{ToolPhaseTables}
use Rattle.proof_journals.proofs.Machine.Journals.{Asking, IsRun, IsTogether, calls_so, copy_about, copier_had, polls_so}
use Rattle.proof_journals.proofs.Machine.Keyed.{IsKeyedAll, copy_called, copy_uncopied}
use Rattle.proof_journals.proofs.Machine.Seated.{IsServed}
use Rattle.proof_migration.proofs.ToolPhase.CopyAnswers.{CopyFits, UnfitRow, own_copy}
use Rattle.proof_migration.proofs.ToolPhase.Hearing.{opened_tables}
use Rattle.proof_plans.specs.Complete.Laws.{has_row, is_applying, is_copying, is_unfit}
use Rattle.proof_plans.specs.Complete.Quiet.{AllHaveConvertedRows, HasConvertedRow, RowsHaveConvertedRows}
use Rattle.proof_plans.proofs.Complete.ReadingOn.{ReadsOn}
use Rattle.proof_plans.proofs.Complete.Untouched.{IsUntouched}

imaged : (plan : PlanData) (seen : Database) (key : List Value) (place number : ℕ) → find_table plan.table seen ≡ find_table plan.table plan.tables → RowsHaveConvertedRows plan → UnfitRow seen plan.table (new_map plan) key place number → ⊥
imaged plan seen key place number same converted_rows is =
    let found : find_table plan.table plan.tables ≡ Some is.old = sym same ∙ is.found in
    let all : AllByRecursion (HasConvertedRow plan) is.old.rows = subst (AllHaveConvertedRows plan) found converted_rows in
    let has : HasConvertedRow plan is.row = found_all (HasConvertedRow plan) (is_at (key_places is.old.schema) key) is.old.rows is.row all is.stands in
    no has.0 (record { column = place; unfit = is.unfit }) (sym has.1 ∙ is.refuses) where
      no : (made : List Value) (fault : UnfitAt) → Ok made ≡ Err fault → ⊥
      no made fault same = cc

copy_fits : (plan : PlanData) (seen : Database) (key : List Value) (answer : Answer) → ((place number : ℕ) → UnfitRow seen plan.table (new_map plan) key place number → ⊥) → CopyFits seen plan.table (new_map plan) key answer → is_unfit answer ≡ false
copy_fits plan seen key (answers.Refused number None) never fits = absurd fits
copy_fits plan seen key (answers.Refused number (Some place)) never fits = absurd (never place number fits)
copy_fits plan seen key (answers.Ok count) never fits = refl
copy_fits plan seen key (answers.Waits by) never fits = refl
copy_fits plan seen key (answers.TimedOut waited) never fits = refl
copy_fits plan seen key answers.Lost never fits = refl
copy_fits plan seen key answer never fits = absurd fits

reading_says : (step : ApplyStep) → appliers.is_reading step ≡ true → is_applying step ≡ false
reading_says applying.Reading is = refl
reading_says (applying.Beginning batch) is = absurd (false≢true is)
reading_says (applying.Applying batch done part) is = absurd (false≢true is)
reading_says (applying.Committing batch) is = absurd (false≢true is)

module _ (again : StoresAgain) (plan : PlanData) (converted_rows : RowsHaveConvertedRows plan) (runs : IsRunnable plan) (journal : List Entry) (entry : Entry) (keyed : IsKeyedAll plan journal) (together : IsTogether plan journal) (run : IsRun plan journal entry) (none : (moment plan journal).tool.reason ≡ None)
    (asks : Asking plan journal entry.actor entry.asked) (is : IsUntouched plan journal) (reads : ReadsOn (moment plan journal).tool.tool_phase) where
  abbrev now : State
  now = state_at plan journal

  abbrev has : Actor → Standing
  has = standing_of plan journal

  going : is_reverting (moment plan journal).tool.reason ≡ false
  going = ap is_reverting none

  served : IsServed plan journal entry
  served = record { answered = run.answered; seated = record { session = run.followed.session } }

  module _ (work : Work) (eq : (moment plan journal).tool.tool_phase ≡ Migrating work) (who : entry.actor ≡ Copy) (copies : is_copying work.copier.step ≡ true) where
    -- the request, of the migrated table and the new one
    record Copies : Type 0 where
      request : Request
      is_about : IsAbout request (has Copy) entry.asked
      kind : copier_asks work.copier.step request ≡ true
      keys : IsKeyed plan request
      left : has_keys request ≡ true → work.copier.is_copied ≡ false

    stands : WorkStands journal (is_reverting (moment plan journal).tool.reason) has work
    stands = subst (ToolPhaseStands journal has (is_reverting (moment plan journal).tool.reason)) eq together.stands

    asked : Copies
    asked = by (subst (λ (a : Actor). Asking plan journal a entry.asked) who asks) where
      kind_of : (request : Request) → IsAbout request (has Copy) entry.asked → ((other : Request) → IsAbout other (has Copy) entry.asked → other ≡ request) → copier_asks work.copier.step request ≡ true
      kind_of request about one = copy_about plan journal entry together run work eq stands going (subst (λ (a : Actor). Asking plan journal a entry.asked) who asks) (copier_asks work.copier.step request ≡ true) (λ other about_other kind. ap (copier_asks work.copier.step) (sym (one other about_other)) ∙ kind)

      by : Asking plan journal Copy entry.asked → Copies
      by (calls_so request called idle call) = record {
        request = request;
        is_about = is_called called idle;
        kind = kind_of request (is_called called idle) (λ other about_other. same other about_other);
        keys = copy_called plan journal request (moment plan journal).tool.tool_phase keyed.tool_phase call;
        left = λ keys. copy_uncopied plan journal request work keys (ap (λ (c : ToolPhase). tool_call plan (moment plan journal).server journal (moment plan journal).tool c Copy) (sym eq) ∙ call);
      } where
        same : (other : Request) → IsAbout other (has Copy) entry.asked → other ≡ request
        same other (is_called asks_other none_other) = one (sym asks_other ∙ called) where
          one : Rattle.server_model.specs.declared.entry.Asked.TheVariants.Call other ≡ Rattle.server_model.specs.declared.entry.Asked.TheVariants.Call request → other ≡ request
          one both = cc
        same other (is_polled asks_other some_other) = absurd (no (sym some_other ∙ idle)) where
          no : Some other ≡ None → ⊥
          no both = cc
      by (polls_so request polled some) = record {
        request = request;
        is_about = is_polled polled some;
        kind = kind_of request (is_polled polled some) (λ other about_other. same other about_other);
        keys = keyed.waits Copy request some refl;
        left = λ keys. uncopied (work.copier.is_copied) refl;
      } where
        same : (other : Request) → IsAbout other (has Copy) entry.asked → other ≡ request
        same other (is_polled asks_other some_other) = one (sym some_other ∙ some) where
          one : Some other ≡ Some request → other ≡ request
          one both = cc
        same other (is_called asks_other none_other) = absurd (no (sym none_other ∙ some)) where
          no : None ≡ Some request → ⊥
          no both = cc

        uncopied : (b : Bool) → work.copier.is_copied ≡ b → work.copier.is_copied ≡ false
        uncopied false copied = copied
        uncopied true copied = absurd (no (sym ((subst (ToolPhaseTables plan now.tables has) eq keyed.tabled.tables).copied copied) ∙ some)) where
          no : None ≡ Some request → ⊥
          no both = cc

    abbrev Own : List Value → Request
    Own key = requests.CopyRow plan.table (ghost_name plan.table) (new_map plan) key

    abbrev seen : Database
    seen = view entry.session (opens entry now)

    seen_is : seen ≡ after_events now.tables (face_of now.sessions entry.session).hold.writes
    seen_is =
        ap (λ (d : Database). after_events d (writes_of (session_of entry.session (opens entry now).sessions))) (opened_tables plan journal entry)
        ∙ ap (after_events now.tables) (writes_face (session_of entry.session (opens entry now).sessions) ∙ ap (λ (f : Face). f.hold.writes) (faces_opened (is_command entry.asked) (not (is_client entry.actor)) entry.session entry.session now))

    table_seen : find_table plan.table seen ≡ find_table plan.table plan.tables
    table_seen = ap (find_table plan.table) seen_is ∙ is.views entry.session ∙ is.table

    locked : (has entry.actor).locked ≡ []
    locked = ap (λ (a : Actor). (has a).locked) who ∙ (copier_had plan journal entry together run work stands going).locked

    own_fits_so : (key : List Value) → IsAbout (Own key) (has Copy) entry.asked → work.copier.is_copied ≡ false → is_unfit entry.answer ≡ false
    own_fits_so key about left =
        copy_fits plan seen key entry.answer (λ place number. imaged plan seen key place number table_seen converted_rows)
        (own_copy again plan runs.mapped journal entry together.known served key (subst (λ (a : Actor). IsAbout (Own key) (has a) entry.asked) (sym who) about) locked ((subst (ToolPhaseTables plan now.tables has) eq keyed.tabled.tables).going left).tables)

    copied_fits : is_unfit entry.answer ≡ false
    copied_fits = by work.copier.step copies asked.request asked.kind asked.keys asked.is_about asked.left where
      by : (step : CopyStep) → is_copying step ≡ true → (request : Request) → copier_asks step request ≡ true → IsKeyed plan request → IsAbout request (has Copy) entry.asked → (has_keys request ≡ true → work.copier.is_copied ≡ false) → is_unfit entry.answer ≡ false
      by (Copying chunk copied) copies (requests.CopyRow from into map key) kind keys about left =
          own_fits_so key
          (subst (λ (m : List MapColumn). IsAbout (requests.CopyRow plan.table (ghost_name plan.table) m key) (has Copy) entry.asked) keys.2
          (subst (λ (n : List ℕ). IsAbout (requests.CopyRow plan.table n map key) (has Copy) entry.asked) keys.1 (subst (λ (n : List ℕ). IsAbout (requests.CopyRow n into map key) (has Copy) entry.asked) keys.0 about))) (left refl)
      by (Copying chunk copied) copies request kind keys about left = absurd cc
      by step copies request kind keys about left = absurd (false≢true copies)

  -- *No value is refused of a row*
  pub fits_so : has_row entry.actor (moment plan journal).tool.tool_phase ≡ true → is_unfit entry.answer ≡ false
  fits_so rows = by entry.actor refl (moment plan journal).tool.tool_phase refl rows where
    by : (actor : Actor) → entry.actor ≡ actor → (tool_phase : ToolPhase) → (moment plan journal).tool.tool_phase ≡ tool_phase → has_row actor tool_phase ≡ true → is_unfit entry.answer ≡ false
    by Copy who (Migrating work) eq rows = copied_fits work eq who rows
    by Apply who (Migrating work) eq rows = absurd (true≢false (sym rows ∙ reading_says work.applier.step (subst ReadsOn eq reads)))
    by Copy who (SettingUp setup tries) eq rows = absurd (false≢true rows)
    by Apply who (SettingUp setup tries) eq rows = absurd (false≢true rows)
    by Op who tool_phase eq rows = absurd (false≢true rows)
    by Insp who tool_phase eq rows = absurd (false≢true rows)
    by Lock who tool_phase eq rows = absurd (false≢true rows)
    by Ren who tool_phase eq rows = absurd (false≢true rows)
    by (Client c) who tool_phase eq rows = absurd (false≢true rows)
