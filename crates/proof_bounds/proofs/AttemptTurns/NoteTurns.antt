-- A note's row goes on: it comes in its turn, and is written where the inspector's session isn't lost.
use Rattle.std.proofs.Common.{◌≡◌, ◌≤◌, ℕ, Bool, true, false, cond, List, [], ◌∷◌, Option, Some, None, refl, sym, ap, ◌∙◌, subst}
use Rattle.std.specs.List.{list_any}
use Rattle.std.proofs.lemmas.Bool.{true≢false}
use Rattle.base_script.specs.declared.actor.Actor.{Actor}
use Rattle.base_script.specs.declared.actor.Actor.TheVariants.{Insp}
use Rattle.base_script.specs.declared.actor.Side.{Side}
use Rattle.base_script.specs.declared.statement.Statement.TheVariants as statements
use Rattle.base_values.specs.declared.value.Value.{Value}
use Rattle.base_values.specs.ToolNames.{log_name}
use Rattle.table_store.specs.Databases.{TableRows, find_table}
use Rattle.server_model.specs.Along.{Along}
use Rattle.server_model.specs.declared.entry.Asked.TheVariants.{Call, Poll, Cut}
use Rattle.server_model.specs.declared.entry.Entry.{Entry}
use Rattle.server_model.specs.declared.request.Request.{Request}
use Rattle.server_model.specs.declared.request.Request.TheVariants as requests
use Rattle.plan_data.specs.PlanData.{PlanData}
use Rattle.tool_changelog.specs.ToolTables.{log_schema}
use Rattle.tool_program.specs.JournalWords.Histories as histories
use Rattle.tool_program.specs.JournalWords.Histories.{is_alter}
use Rattle.tool_program.specs.JournalWords.Journals.{state_at}
use Rattle.tool_program.specs.NoteWriter.Notes.{is_checkpoint, notes_of, writes}
use Rattle.tool_program.specs.declared.cutover_core.cutover.Clearing.{Clearing as Cleared}
use Rattle.tool_program.specs.declared.cutover_core.cutover.Clearing.TheVariants.{Looking, Drops}
use Rattle.tool_program.specs.declared.cutover_core.cutover.CutOver.{CutOver}
use Rattle.tool_program.specs.declared.cutover_core.cutover.Phase.{Phase}
use Rattle.tool_program.specs.declared.cutover_core.cutover.Phase.TheVariants.{Resting, Attempting, Ending, Finishing, Finished}
use Rattle.tool_program.specs.declared.cutover_core.cutover.Role.TheVariants.{Inspector}
use Rattle.tool_program.specs.declared.cutover_core.cutover.Stage.TheVariants.{Hinting, ReadingCounter, SettingCounter, Showing}
use Rattle.tool_program.specs.CutoverCore.Attempts as attempts
use Rattle.tool_program.specs.CutoverCore.Attempts.{clears, is_free}
use Rattle.tool_program.specs.Programs.{given, reach_in, tool_call}
use Rattle.tool_program.specs.Setups.{Setup, Listing, Clearing, MakingLog, MakingGhost, Marking, Reaching, Ready, setup_call}
use Rattle.tool_program.specs.Tools.{Work, ToolPhase, SettingUp, Migrating, is_reverting, moment}
use Rattle.proof_journals.specs.Plans.{IsSerialPlan}
use Rattle.proof_journals.specs.Run.Kept.{IsKept}
use Rattle.proof_journals.specs.Machine.Runnable.{IsRunnable}
use Rattle.proof_journals.proofs.Machine.Asking.{some_request, unless_called}
use Rattle.proof_journals.proofs.Machine.Inspecting.{Inspects, inspects, notes_so, cuts_so}
use Rattle.proof_journals.proofs.Machine.Journals.{IsRun, Asking, calls_so, polls_so, asking}
use Rattle.proof_journals.proofs.Machine.Seated.{own_missed}
use Rattle.proof_migration.specs.Attempt.Renamed.{IsRenamedAt, ToolPhaseRenamed}
use Rattle.proof_migration.specs.ToolPhase.Unaltered.{IsUnaltered}
use Rattle.proof_migration.proofs.Attempt.Renamed.Seen.{all_seen}
use Rattle.proof_migration.proofs.Program.Turns.Follows.{kept_front, kept_run}
use Rattle.proof_migration.proofs.ToolPhase.ToolPhaseTurns.{gives_asked}
use Rattle.proof_migration.proofs.KeptJournals.{along_of}
use Rattle.proof_bounds.specs.AttemptTurns.Attempts.{most_notes}
use Rattle.proof_bounds.specs.Notes.{Comes, IsWritten, NoteGoes, NotesGoOn, RowGoes}
use Rattle.proof_bounds.proofs.Going.{IsGoing, all_going}
use Rattle.proof_bounds.proofs.AttemptTurns.LogWrites.{done_ok, log_found}
use Rattle.proof_bounds.proofs.AttemptTurns.NextNotes.{NextRow, next_row}
use Rattle.proof_bounds.proofs.AttemptTurns.NoteRows.{note_result, note_said, note_write}

-- neither the setup nor the cut-over writes by REPLACE

abbrev replaces_row : Request → Bool
replaces_row (requests.Do (statements.Replace table columns row drawn)) = true
replaces_row request = false

-- a row is written by REPLACE
abbrev row_request : List ℕ → Option (List (List ℕ)) → List Value → Option ℕ → Request
row_request table columns row drawn = requests.Do (statements.Replace table columns row drawn)

same_call : (one other : Request) → Call one ≡ Call other → one ≡ other
same_call one other both = cc

no_setup : (plan : PlanData) (setup : Setup) (request : Request) → setup_call plan setup ≡ Some request → replaces_row request ≡ true → ⊥
no_setup plan setup request call is = true≢false (sym is ∙ by setup call) where
  by : (setup : Setup) → setup_call plan setup ≡ Some request → replaces_row request ≡ false
  by Listing call = some_request (λ (r : Request). replaces_row r ≡ false) _ request call refl
  by (Clearing left) call = some_request (λ (r : Request). replaces_row r ≡ false) _ request call refl
  by MakingLog call = some_request (λ (r : Request). replaces_row r ≡ false) _ request call refl
  by MakingGhost call = some_request (λ (r : Request). replaces_row r ≡ false) _ request call refl
  by Marking call = some_request (λ (r : Request). replaces_row r ≡ false) _ request call refl
  by (Reaching position) call = some_request (λ (r : Request). replaces_row r ≡ false) _ request call refl
  by (Ready position range) call = absurd cc

no_row : (cutover : CutOver) (request : Request) → attempts.next Inspector cutover ≡ Some request → replaces_row request ≡ true → ⊥
unfolding attempts.next
no_row cutover request call is = true≢false (sym is ∙ by cutover.phase call) where
  cleared : (one : Cleared) → clears cutover.table one ≡ Some request → replaces_row request ≡ false
  cleared Looking call = some_request (λ (r : Request). replaces_row r ≡ false) _ request call refl
  cleared (Drops left) call = some_request (λ (r : Request). replaces_row r ≡ false) _ request call refl

  ends : (b : Bool) (one : Cleared) → cond b (clears cutover.table one) None ≡ Some request → replaces_row request ≡ false
  ends true one call = cleared one call
  ends false one call = absurd cc

  by : (phase : Phase) → attempts.inspector_call cutover phase ≡ Some request → replaces_row request ≡ false
  by (Attempting Hinting) call = some_request (λ (r : Request). replaces_row r ≡ false) _ request call refl
  by (Attempting (ReadingCounter drain)) call = some_request (λ (r : Request). replaces_row r ≡ false) _ request call refl
  by (Attempting (SettingCounter number drain)) call = some_request (λ (r : Request). replaces_row r ≡ false) _ request call refl
  by (Attempting Showing) call = some_request (λ (r : Request). replaces_row r ≡ false) _ request call refl
  by (Attempting stage) call = absurd cc
  by (Ending one) call = ends (is_free cutover.hold cutover.renamer_waits) one call
  by (Finishing one) call = cleared one call
  by Resting call = absurd cc
  by Finished call = absurd cc

-- while no attempt stands, or one may succeed, the RENAME isn't done
pub unrenamed : (plan : PlanData) (journal : List Entry) (work : Work) (phase : Phase) → IsRunnable plan → IsSerialPlan plan → IsKept plan journal → (moment plan journal).tool.tool_phase ≡ Migrating work → work.cutover.phase ≡ phase → (IsRenamedAt plan (state_at plan journal).tables phase → ⊥) → IsUnaltered plan journal
unrenamed plan journal work phase runs serial kept eq at_phase never = by (list_any is_alter (histories.history plan journal)) refl where
  by : (b : Bool) → list_any is_alter (histories.history plan journal) ≡ b → b ≡ false
  by false off = refl
  by true marked = absurd (never (subst (IsRenamedAt plan (state_at plan journal).tables) at_phase (subst (ToolPhaseRenamed plan (state_at plan journal).tables) eq (all_seen plan journal runs serial kept.faithful kept.follows marked))))

-- *Notes go on*
pub notes_go : NotesGoOn
unfolding given
notes_go plan before entry most runs serial kept table columns row drawn same asks = by (moment plan before).tool.tool_phase refl (asking plan before Insp entry.asked going.standing.tabled.all.tool.server gives) where
  front : IsKept plan before
  front = kept_front plan before (entry ∷ []) kept

  run : IsRun plan before entry
  run = kept_run plan before entry kept

  going : IsGoing plan before
  going = all_going plan before runs serial front

  gives : given plan before Insp ≡ Some entry.asked
  gives = subst (λ (a : Actor). given plan before a ≡ Some entry.asked) same (gives_asked plan before entry entry.asked run.followed.given refl (λ cut. no (sym asks ∙ cut))) where
    no : Call (row_request table columns row drawn) ≡ Cut → ⊥
    no both = cc

  same_row : (other : List Value) → writes plan.table other ≡ row_request table columns row drawn → other ≡ row
  same_row other both = cc

  goes_so : (work : Work) → (moment plan before).tool.tool_phase ≡ Migrating work → Inspects plan before (moment plan before).tool work (row_request table columns row drawn) → RowGoes plan before entry row
  goes_so work eq (cuts_so off next) = absurd (no_row work.cutover (row_request table columns row drawn) next refl)
  goes_so work eq (notes_so note resting onward next) = record { comes = subst (λ (r : List Value). Comes plan (notes_of before) (is_checkpoint r)) is_row one.comes; written = by entry.side refl } where
    one : NextRow plan (notes_of before) (row_request table columns row drawn)
    one = next_row plan work.applier.position (reach_in before work.copier) (notes_of before) (row_request table columns row drawn) next

    is_row : one.row ≡ row
    is_row = same_row one.row (sym one.is)

    off : IsUnaltered plan before
    off = unrenamed plan before work Resting runs serial front eq resting (λ never. never)

    found : (stored : TableRows) × (find_table (log_name plan.table) (state_at plan before).tables ≡ Some stored) × (stored.schema ≡ log_schema plan.table)
    found = log_found plan runs serial before entry kept off work eq

    by : (side : Option Side) → entry.side ≡ side → IsWritten side entry.answer
    by None none =
        done_ok plan runs serial before entry kept same (note_write plan.table one.row) (asks ∙ ap Call one.is) (note_said plan.table one.row found.0.rows) (note_result plan.table one.row (state_at plan before).tables found.0 (one.fits most) found.1 found.2) tt none
    by (Some side) some = own_missed plan before entry going.standing.tabled.all.tool.known (record { answered = run.answered; seated = record { session = run.followed.session } }) side some

  by : (tool_phase : ToolPhase) → (moment plan before).tool.tool_phase ≡ tool_phase → Asking plan before Insp entry.asked → RowGoes plan before entry row
  by tool_phase eq (polls_so other asks_it waits) = absurd (no_poll (sym asks_it ∙ asks)) where
    no_poll : Poll ≡ Call (row_request table columns row drawn) → ⊥
    no_poll both = cc
  by (SettingUp setup tries) eq (calls_so other asks_it idle call) =
      absurd (no_setup plan setup (row_request table columns row drawn) (unless_called (is_reverting (moment plan before).tool.reason) (setup_call plan setup) (row_request table columns row drawn)
      (ap (λ (c : ToolPhase). tool_call plan (moment plan before).server before (moment plan before).tool c Insp) (sym eq) ∙ call ∙ ap Some (same_call other (row_request table columns row drawn) (sym asks_it ∙ asks)))) refl)
  by (Migrating work) eq (calls_so other asks_it idle call) =
      goes_so work eq (inspects plan before (moment plan before).tool work (row_request table columns row drawn)
      (ap (λ (c : ToolPhase). tool_call plan (moment plan before).server before (moment plan before).tool c Insp) (sym eq) ∙ call ∙ ap Some (same_call other (row_request table columns row drawn) (sym asks_it ∙ asks))))

-- ... and along it
pub notes_go_along : (plan : PlanData) (journal : List Entry) → plan.options.notes ≤ most_notes → IsRunnable plan → IsSerialPlan plan → IsKept plan journal → Along (NoteGoes plan) [] journal
notes_go_along plan journal most runs serial kept = along_of plan (NoteGoes plan) (λ before entry one. notes_go plan before entry most runs serial one) [] journal kept
