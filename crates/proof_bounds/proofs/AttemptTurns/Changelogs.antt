-- The number of an attempt's hint row is new: after every kept journal, until the RENAME is done, the changelog's rows have the
-- numbers of hint rows that are logged, and of notes.
use Rattle.proof_migration.proofs.Unfit.Known.{known_turn}
use Rattle.std.proofs.Common.{◌≡◌, ◌⊎◌, ◌≤◌, ◌<◌, ℕ, ◌+◌, Bool, true, false, cond, List, [], ◌∷◌, ◌++◌, length, take, Option, Some, None, refl, sym, ap, ◌∙◌, subst, inl, inr, arith}
use Rattle.std.specs.Prelude.{is_some}
use Rattle.std.specs.Option.{option_map}
use Rattle.std.specs.Str.{bytes_eq}
use Rattle.std.proofs.Math.Seq.{take-length}
use Rattle.std.proofs.lemmas.Bool.{true≢false, false≢true}
use Rattle.std.proofs.lemmas.List.Sums.{fold-append}
use Rattle.std.proofs.lemmas.Option.{none-some}
use Rattle.base_script.specs.declared.actor.Actor.{Actor}
use Rattle.base_script.specs.declared.statement.Statement.{Statement}
use Rattle.base_script.specs.declared.actor.Actor.TheVariants.{Op, Insp, Copy, Apply, Lock, Ren, Client}
use Rattle.base_values.specs.declared.event.RowEvent.{RowEvent}
use Rattle.base_values.specs.declared.value.Value.{Value}
use Rattle.base_values.specs.ToolNames.{log_name}
use Rattle.table_store.specs.Databases.{TableRows, find_table}
use Rattle.server_model.specs.declared.answer.Answer.{Answer}
use Rattle.server_model.specs.declared.answer.Answer.TheVariants as answers
use Rattle.server_model.specs.declared.entry.Asked.{Asked}
use Rattle.server_model.specs.declared.entry.Asked.TheVariants.{Call, Poll, Command, Cut}
use Rattle.server_model.specs.declared.entry.Entry.{Entry}
use Rattle.server_model.specs.declared.request.Request.{Request}
use Rattle.server_model.specs.declared.request.Request.TheVariants as requests
use Rattle.server_model.specs.Entries.{same_actor, is_command}
use Rattle.server_model.specs.declared.work.StatementResult.{StatementResult}
use Rattle.server_model.specs.Operations.{after_events, events_of, statement_result}
use Rattle.server_model.specs.StatementResults.{displaced}
use Rattle.server_model.specs.States.{State}
use Rattle.plan_data.specs.PlanData.{PlanData}
use Rattle.tool_changelog.specs.Hints.{hint_in, last_hint}
use Rattle.tool_changelog.specs.ToolTables.{log_schema}
use Rattle.tool_program.specs.JournalWords.Journals.{opens, state_at}
use Rattle.tool_program.specs.NoteWriter.Notes.{notes_of, writes}
use Rattle.tool_program.specs.declared.cutover_core.cutover.Clearing.{Clearing as Cleared}
use Rattle.tool_program.specs.declared.cutover_core.cutover.Clearing.TheVariants.{Looking, Drops}
use Rattle.tool_program.specs.declared.cutover_core.cutover.CutOver.{CutOver}
use Rattle.tool_program.specs.declared.cutover_core.cutover.Leftovers.{Leftovers}
use Rattle.tool_program.specs.declared.cutover_core.cutover.Phase.{Phase}
use Rattle.tool_program.specs.declared.cutover_core.cutover.Phase.TheVariants.{Resting, Attempting, Ending, Finishing, Finished}
use Rattle.tool_program.specs.declared.cutover_core.cutover.Role.TheVariants.{Inspector}
use Rattle.tool_program.specs.declared.cutover_core.cutover.Stage.TheVariants.{Hinting, ReadingCounter, SettingCounter, Showing}
use Rattle.tool_program.specs.CutoverCore.Attempts as attempts
use Rattle.tool_program.specs.CutoverCore.Attempts.{clears, is_clear, is_free, without_first, writes_hint}
use Rattle.tool_program.specs.CutoverCore.CutOvers.{applier_turn, is_resting}
use Rattle.tool_program.specs.Programs.{reach_in, tool_call}
use Rattle.tool_program.specs.Setups.{Setup, Listing, Clearing, MakingLog, MakingGhost, Marking, Reaching, Ready, clearing, listed, setup_call, setup_after, setup_step}
use Rattle.tool_program.specs.Tools.{Work, ToolPhase, SettingUp, Migrating, Tool, Moment, stopped, is_reverting, tool_phase_of, moment}
use Rattle.tool_program.proofs.OnlineCalls.Machines.{ToolPhaseIsNamed, named}
use Rattle.proof_journals.specs.Plans.{IsSerialPlan, limits_of, scene_of}
use Rattle.proof_journals.specs.Turns.{IsSceneRun, about}
use Rattle.proof_journals.specs.Run.Kept.{IsKept}
use Rattle.proof_journals.specs.Machine.Runnable.{IsRunnable}
use Rattle.proof_journals.specs.Machine.Standings.{Standing, standing_of}
use Rattle.proof_journals.proofs.Actors.{same_actor_is}
use Rattle.proof_journals.proofs.Machine.Asking.{some_request, unless_called}
use Rattle.proof_journals.proofs.Machine.Inspecting.{Inspects, inspects, notes_so, cuts_so}
use Rattle.proof_journals.proofs.Machine.Journals.{IsRun, IsTogether}
use Rattle.proof_migration.specs.Program.Hints.{IsBegun, is_unhinted}
use Rattle.proof_migration.specs.ToolPhase.Unaltered.{IsUnaltered}
use Rattle.proof_migration.proofs.Attempt.Leaving.{has_is}
use Rattle.proof_migration.proofs.Migration.Leaves.{WritesAway}
use Rattle.proof_migration.proofs.Program.Hints.Asked.{insp_from, known, scene_run, setup_away}
use Rattle.proof_migration.proofs.Program.Hints.Known.{hints_go, hints_known}
use Rattle.proof_migration.proofs.Program.Hints.Logging.{NoneWrote, watched}
use Rattle.proof_migration.proofs.Program.Hints.Writes.{away_hint}
use Rattle.proof_migration.proofs.Program.InspectorTurns.Hints.{hint_event, hint_insert}
use Rattle.proof_migration.proofs.Program.InspectorTurns.Keeping.{past_log}
use Rattle.proof_migration.proofs.Program.Turns.Asked.{asked_as, waits_with}
use Rattle.proof_migration.proofs.ToolPhase.Unaltered.Asking.{AskedAs}
use Rattle.proof_migration.proofs.Program.Turns.Follows.{kept_front, kept_run}
use Rattle.proof_migration.proofs.Program.Turns.NextCalls.{insp_called}
use Rattle.proof_migration.proofs.ToolPhase.ToolPhaseTurns.{Kept, SetupKeeps, AnswerKeeps, ResizeKeeps, turn_kept}
use Rattle.proof_migration.proofs.ToolPhase.Unaltered.Away.{unaltered_front}
use Rattle.proof_migration.proofs.KeptJournals.{each_kept}
use Rattle.proof_bounds.proofs.Attempts.{attempts_few}
use Rattle.proof_bounds.proofs.Going.{IsGoing, ToolPhaseFits, all_going, waits_to_set}
use Rattle.proof_bounds.proofs.Inspecting.{setting_is}
use Rattle.proof_bounds.proofs.Leftovers.{SetupFits}
use Rattle.proof_bounds.specs.AttemptTurns.Attempts.{IsOk, MayTry, most_notes, most_tries}
use Rattle.proof_bounds.proofs.AttemptTurns.ChangelogTurns.{left_rows, log_left, logs_left, others_away}
use Rattle.proof_bounds.proofs.AttemptTurns.HintInserts.{AllNumbered, hint_numbered, hint_result}
use Rattle.proof_bounds.proofs.AttemptTurns.HintRows.{AllBelow, more_below}
use Rattle.proof_bounds.proofs.AttemptTurns.LogWrites.{done_ok, leaves_so, log_found}
use Rattle.proof_bounds.proofs.AttemptTurns.NextNotes.{next_row}
use Rattle.proof_bounds.proofs.AttemptTurns.NoteRows.{IsFitNote, note_changes, note_hint, note_numbered, note_result, note_said, note_write}
use Rattle.proof_bounds.proofs.AttemptTurns.NoteTurns.{unrenamed}

-- THE CHANGELOG WAS MADE

abbrev pub is_past : ToolPhase → Bool
is_past (SettingUp setup tries) = past_log setup
is_past (Migrating work) = true

abbrev IsNumbered : PlanData → List Entry → Type 0
IsNumbered plan journal = is_past (moment plan journal).tool.tool_phase ≡ true → AllNumbered plan.table (state_at plan journal).tables (state_at plan journal).log

pub none_found : (found : Option TableRows) → is_some (option_map (λ (table : TableRows). table.schema) found) ≡ false → found ≡ None
none_found None none = refl
none_found (Some table) none = absurd (true≢false none)

-- while the tables are cleared it isn't
pub clearing_not : (left : Leftovers) → past_log (clearing left) ≡ true → ⊥
clearing_not left = by (is_clear left) where
  by : (b : Bool) → past_log (cond b MakingLog (Clearing left)) ≡ true → ⊥
  by true past = false≢true past
  by false past = false≢true past

pub step_past : (table : List ℕ) (setup : Setup) (answer : Answer) → past_log (setup_step table setup answer) ≡ true → (past_log setup ≡ true) ⊎ (setup ≡ MakingLog)
step_past table Listing (answers.Tables tables) past = absurd (clearing_not (listed table tables) past)
step_past table Listing answer past = absurd (false≢true past)
step_past table (Clearing left) (answers.Ok count) past = absurd (clearing_not (without_first left) past)
step_past table (Clearing left) answer past = absurd (false≢true past)
step_past table MakingLog answer past = inr refl
step_past table MakingGhost answer past = inl refl
step_past table Marking answer past = inl refl
step_past table (Reaching position) answer past = inl refl
step_past table (Ready position range) answer past = inl refl

-- a row of the changelog comes next: a note's, or the hint row

abbrev pub writes_log : Phase → Bool
writes_log Resting = true
writes_log (Attempting Hinting) = true
writes_log phase = false

abbrev pub is_writing : ToolPhase → Bool
is_writing (SettingUp setup tries) = false
is_writing (Migrating work) = writes_log work.cutover.phase

pub writes_so : (phase : Phase) → writes_log phase ≡ true → (phase ≡ Resting) ⊎ (phase ≡ Attempting Hinting)
writes_so Resting writes = inl refl
writes_so (Attempting Hinting) writes = inr refl
writes_so (Attempting stage) writes = absurd (false≢true writes)
writes_so (Ending cleared) writes = absurd (false≢true writes)
writes_so (Finishing cleared) writes = absurd (false≢true writes)
writes_so Finished writes = absurd (false≢true writes)

-- the row of a note that comes next
note_fits : (plan : PlanData) (journal : List Entry) (tool : Tool) (work : Work) (request : Request) → plan.options.notes ≤ most_notes → Inspects plan journal tool work request → work.cutover.phase ≡ Resting → (row : List Value) × IsFitNote row × (request ≡ writes plan.table row)
note_fits plan journal tool work request most (cuts_so off next) resting = absurd (true≢false (sym (ap is_resting resting) ∙ off))
note_fits plan journal tool work request most (notes_so note at onward next) resting = let one = next_row plan work.applier.position (reach_in journal work.copier) (notes_of journal) request next in (one.row, one.fits most, one.is)

-- the cut-over's request writes no row but the hint
pub call_away : (t : List ℕ) (cutover : CutOver) → (cutover.phase ≡ Attempting Hinting → ⊥) → (request : Request) → attempts.next Inspector cutover ≡ Some request → WritesAway (watched t) request
unfolding attempts.next
call_away t cutover unhinted request call = by cutover.phase refl call where
  cleared : (one : Cleared) → clears cutover.table one ≡ Some request → WritesAway (watched t) request
  cleared Looking call = some_request (WritesAway (watched t)) _ request call tt
  cleared (Drops left) call = some_request (WritesAway (watched t)) _ request call tt

  ends : (b : Bool) (one : Cleared) → cond b (clears cutover.table one) None ≡ Some request → WritesAway (watched t) request
  ends true one call = cleared one call
  ends false one call = absurd cc

  by : (phase : Phase) → cutover.phase ≡ phase → attempts.inspector_call cutover phase ≡ Some request → WritesAway (watched t) request
  by (Attempting Hinting) at call = absurd (unhinted at)
  by (Attempting (ReadingCounter drain)) at call = some_request (WritesAway (watched t)) _ request call tt
  by (Attempting (SettingCounter number drain)) at call = some_request (WritesAway (watched t)) _ request call tt
  by (Attempting Showing) at call = some_request (WritesAway (watched t)) _ request call tt
  by (Attempting stage) at call = absurd cc
  by (Ending one) at call = ends (is_free cutover.hold cutover.renamer_waits) one call
  by (Finishing one) at call = cleared one call
  by Resting at call = absurd cc
  by Finished at call = absurd cc

-- the hint row is what it calls for where it is next
pub asked_hint : (t : List ℕ) (cutover : CutOver) (request : Request) → cutover.table ≡ t → cutover.phase ≡ Attempting Hinting → attempts.next Inspector cutover ≡ Some request → request ≡ writes_hint t cutover.attempts
unfolding attempts.next
asked_hint t cutover request own hinting next =
    some_request (λ (r : Request). r ≡ writes_hint t cutover.attempts) (writes_hint cutover.table cutover.attempts) request (ap (attempts.inspector_call cutover) (sym hinting) ∙ next) (ap (λ (name : List ℕ). writes_hint name cutover.attempts) own)

-- ONE TURN

module _ (plan : PlanData) (runs : IsRunnable plan) (serial : IsSerialPlan plan) (some : 1 ≤ plan.options.default_retries) (few : plan.options.default_retries ≤ most_tries) (notes : plan.options.notes ≤ most_notes) (journal : List Entry) (entry : Entry) (kept_more : IsKept plan (journal ++ entry ∷ [])) where
  abbrev t : List ℕ
  t = plan.table

  abbrev more : List Entry
  more = journal ++ entry ∷ []

  abbrev now : Moment
  now = moment plan journal

  abbrev tool : Tool
  tool = record now.tool { turns = now.tool.turns + 1 }

  abbrev before : State
  before = state_at plan journal

  abbrev after : State
  after = state_at plan more

  abbrev open_now : State
  open_now = opens entry before

  abbrev has : Actor → Standing
  has = standing_of plan journal

  kept : IsKept plan journal
  kept = kept_front plan journal (entry ∷ []) kept_more

  run : IsRun plan journal entry
  run = kept_run plan journal entry kept_more

  together : IsTogether plan journal
  together = (known_turn plan runs journal entry kept_more).together

  going : IsGoing plan journal
  going = all_going plan journal runs serial kept

  -- WHETHER IT WAS MADE BEFORE

  abbrev Was : Type 0
  Was = (is_past now.tool.tool_phase ≡ true) ⊎ (find_table (log_name t) before.tables ≡ None)

  abbrev New : Kept
  New = λ b tool_phase. is_past tool_phase ≡ true → Was

  same_past : (tool_phase : ToolPhase) → now.tool.tool_phase ≡ tool_phase → is_past tool_phase ≡ true → Was
  same_past tool_phase eq past = inl (ap is_past eq ∙ past)

  back : (b : Bool) (tool_phase : ToolPhase) → New b tool_phase → New true (stopped tool_phase)
  back b (SettingUp setup tries) one = one
  back b (Migrating work) one = one

  drain : (b : Bool) (work : Work) (tries : List ℕ) → New b (Migrating work) → New b (Migrating (record work { cutover = applier_turn work.applier.hint work.cutover; attempt_tries = tries }))
  drain b work tries one = one

  none_yet : (setup : Setup) (tries : List ℕ) → now.tool.tool_phase ≡ SettingUp setup tries → setup ≡ MakingLog → find_table (log_name t) before.tables ≡ None
  none_yet setup tries eq making =
      let fits : SetupFits plan before.tables MakingLog = subst (SetupFits plan before.tables) making (subst (ToolPhaseFits plan before.tables) eq going.fits) in
      none_found (find_table (log_name t) before.tables) (sym (has_is (log_name t) before.tables) ∙ fits.0)

  begins : (size : ℕ) (tries : List ℕ) (setup next : Setup) (old : List ℕ) → now.tool.tool_phase ≡ SettingUp setup old → (past_log next ≡ true → (past_log setup ≡ true) ⊎ (setup ≡ MakingLog)) → New false (tool_phase_of plan size next tries)
  begins size tries setup next old eq from = by next from where
    either : (past_log setup ≡ true) ⊎ (setup ≡ MakingLog) → Was
    either (inl past) = inl (ap is_past eq ∙ past)
    either (inr making) = inr (none_yet setup old eq making)

    by : (next : Setup) → (past_log next ≡ true → (past_log setup ≡ true) ⊎ (setup ≡ MakingLog)) → New false (tool_phase_of plan size next tries)
    by (Ready position range) from past = either (from refl)
    by Listing from past = either (from past)
    by (Clearing left) from past = either (from past)
    by MakingLog from past = either (from past)
    by MakingGhost from past = either (from past)
    by Marking from past = either (from past)
    by (Reaching position) from past = either (from past)

  setup_so : (answer : Answer) (setup : Setup) (tries : List ℕ) → now.tool.tool_phase ≡ SettingUp setup tries → SetupKeeps plan New answer tool setup tries
  setup_so answer setup tries eq = record {
    reverting = λ reverting. same_past (SettingUp setup tries) eq;
    again = λ onward bad more_tries past. absurd (false≢true past);
    goes = λ onward good. begins tool.operator.size tries setup (setup_after t setup answer) tries eq (λ past. step_past t setup answer (subst (λ (b : Bool). past_log (cond b Listing (setup_step t setup answer)) ≡ true) good past));
  }

  answer_so : (answer : Answer) (actor : Actor) (tool_phase : ToolPhase) → now.tool.tool_phase ≡ tool_phase → AnswerKeeps plan New answer tool actor tool_phase
  answer_so answer Insp (SettingUp setup tries) eq = setup_so answer setup tries eq
  answer_so answer Insp (Migrating work) eq = λ tries past. inl (ap is_past eq)
  answer_so answer Lock (Migrating work) eq = λ tries past. inl (ap is_past eq)
  answer_so answer Ren (Migrating work) eq = λ tries past. inl (ap is_past eq)
  answer_so answer Copy (Migrating work) eq = record { reverting = λ reverting past. inl (ap is_past eq); unfit = λ onward place number unfit. record { renamed = λ renamed past. inl (ap is_past eq); reverts = λ past. inl (ap is_past eq) }; took = λ onward fits tries past. inl (ap is_past eq) }
  answer_so answer Apply (Migrating work) eq = record { reverting = λ reverting past. inl (ap is_past eq); unfit = λ onward place number unfit. record { renamed = λ renamed past. inl (ap is_past eq); reverts = λ past. inl (ap is_past eq) }; took = λ onward fits tries past. inl (ap is_past eq) }
  answer_so answer Op (Migrating work) eq = same_past (Migrating work) eq
  answer_so answer (Client c) (Migrating work) eq = same_past (Migrating work) eq
  answer_so answer Lock (SettingUp setup tries) eq = same_past (SettingUp setup tries) eq
  answer_so answer Ren (SettingUp setup tries) eq = same_past (SettingUp setup tries) eq
  answer_so answer Copy (SettingUp setup tries) eq = same_past (SettingUp setup tries) eq
  answer_so answer Apply (SettingUp setup tries) eq = same_past (SettingUp setup tries) eq
  answer_so answer Op (SettingUp setup tries) eq = same_past (SettingUp setup tries) eq
  answer_so answer (Client c) (SettingUp setup tries) eq = same_past (SettingUp setup tries) eq

  resize_so : (size : ℕ) (tool_phase : ToolPhase) → now.tool.tool_phase ≡ tool_phase → ResizeKeeps New tool size tool_phase
  resize_so size (SettingUp setup tries) eq = same_past (SettingUp setup tries) eq
  resize_so size (Migrating work) eq = λ past. inl (ap is_past eq)

  pub was_made : is_past (moment plan more).tool.tool_phase ≡ true → Was
  was_made =
      turn_kept plan New back journal entry drain
      (record {
        commanded = λ word asks unsized. same_past now.tool.tool_phase refl;
        resized = λ size asks. resize_so size now.tool.tool_phase refl;
        idle = λ asks none. same_past now.tool.tool_phase refl;
        lost = λ asks worked. answer_so answers.Lost entry.actor now.tool.tool_phase refl;
        heard = λ called commanded. answer_so entry.answer entry.actor now.tool.tool_phase refl;
      })

  -- A TURN THAT WRITES NO HINT ROW

  module _ (off : IsUnaltered plan more) where
    none : NoneWrote t before
    none = (hints_go plan journal runs serial kept (unaltered_front plan journal (entry ∷ []) off)).none

    abbrev About : Request → Type 0
    About request = about open_now entry.session entry.asked ≡ Some request

    asks_as : (request : Request) → About request → AskedAs plan entry.actor request
    asks_as request is = asked_as plan serial runs.fitting journal entry (known plan runs serial journal entry kept_more off) run off request is

    in_scene : IsSceneRun (limits_of plan) (scene_of plan more) more
    in_scene = scene_run plan runs serial journal entry kept_more off

    quiet : IsNumbered plan journal → ((request : Request) → About request → WritesAway (watched t) request) → IsNumbered plan more
    quiet is writes past table found = by (left_rows t (λ schema. About (requests.Create schema)) before.tables after.tables (log_left plan serial journal entry in_scene asks_as run.answered.sides none writes) table found) where
      same_hint : last_hint t 0 after.log ≡ last_hint t 0 before.log
      same_hint =
          let logs = logs_left plan serial journal entry in_scene asks_as run.answered.sides none writes in
          ap (last_hint t 0) logs.log ∙ fold-append (λ (old : ℕ) (event : RowEvent). cond (bytes_eq event.table (log_name t)) (hint_in old event.change) old) 0 before.log logs.events ∙ away_hint t (last_hint t 0 before.log) logs.events logs.away

      old : find_table (log_name t) before.tables ≡ Some table → Was → AllBelow (last_hint t 0 after.log + 1) table.rows
      old there (inl past_before) = subst (λ (n : ℕ). AllBelow (n + 1) table.rows) (sym same_hint) (is past_before table there)
      old there (inr gone) = absurd (none-some table (sym gone ∙ there))

      by : (find_table (log_name t) before.tables ≡ Some table) ⊎ (table.rows ≡ []) → AllBelow (last_hint t 0 after.log + 1) table.rows
      by (inl there) = old there (was_made past)
      by (inr empty) = subst (AllBelow (last_hint t 0 after.log + 1)) (sym empty) refl

    -- the inspector's request that waits sets the counter, and writes no row
    insp_waits : entry.actor ≡ Insp → (request : Request) → (has entry.actor).waits ≡ Some request → WritesAway (watched t) request
    insp_waits same request waits = setting_is plan (WritesAway (watched t)) (λ number. tt) (moment plan journal).tool.tool_phase request (waits_to_set plan journal request runs serial kept (ap (λ (a : Actor). (has a).waits) (sym same) ∙ waits))

    pub uncalled : entry.actor ≡ Insp → is_command entry.asked ≡ false → (request : Request) → about open_now entry.session Poll ≡ Some request → WritesAway (watched t) request
    uncalled same called request is_about = insp_waits same request (waits_with plan serial runs.fitting journal entry (known plan runs serial journal entry kept_more off) run off called request is_about)

    -- where no row of the changelog comes next it writes none
    pub insp_away : entry.actor ≡ Insp → ((work : Work) → now.tool.tool_phase ≡ Migrating work → writes_log work.cutover.phase ≡ false) → (request : Request) → About request → WritesAway (watched t) request
    insp_away same away request is_about =
        insp_from plan runs serial journal entry kept_more off (WritesAway (watched t) request) request same is_about (λ call. by now.tool.tool_phase refl call) (λ waits. insp_waits same request (ap (λ (a : Actor). (has a).waits) same ∙ waits)) where
          inspected : (work : Work) → writes_log work.cutover.phase ≡ false → Inspects plan journal now.tool work request → WritesAway (watched t) request
          inspected work none (cuts_so off_rest next) = call_away t work.cutover (λ hinting. true≢false (sym (ap writes_log hinting) ∙ none)) request next
          inspected work none (notes_so note resting onward next) = absurd (true≢false (sym (ap writes_log resting) ∙ none))

          by : (tool_phase : ToolPhase) → now.tool.tool_phase ≡ tool_phase → tool_call plan now.server journal now.tool tool_phase Insp ≡ Some request → WritesAway (watched t) request
          by (SettingUp setup tries) eq call = setup_away plan t setup request (unless_called (is_reverting now.tool.reason) (setup_call plan setup) request call)
          by (Migrating work) eq call = inspected work (away work eq) (inspects plan journal now.tool work request call)

  -- A ROW OF THE CHANGELOG

  -- the rows' numbers are known behind a statement on the changelog, where they are where it is done
  row_more : IsNumbered plan journal → (work : Work) → now.tool.tool_phase ≡ Migrating work → entry.actor ≡ Insp → (statement : Statement) → entry.asked ≡ Call (requests.Do statement) → (result : StatementResult) → statement_result before.tables statement ≡ result
      → AllNumbered t (after_events before.tables result.events) (before.log ++ result.events) → IsNumbered plan more
  row_more is work eq same statement asks result gives new past = leaves_so plan runs serial journal entry kept_more same statement asks result gives (AllNumbered t) (is (ap is_past eq)) new

  -- a note's
  note_more : IsUnaltered plan journal → IsNumbered plan journal → (work : Work) → now.tool.tool_phase ≡ Migrating work → entry.actor ≡ Insp → (row : List Value) → IsFitNote row → entry.asked ≡ Call (writes t row) → IsNumbered plan more
  note_more off_now is work eq same row note asks =
      row_more is work eq same (note_write t row) asks (note_said t row found.0.rows) (note_result t row before.tables found.0 note found.1 found.2)
      (λ table there. subst (λ (last : ℕ). AllBelow (last + 1) table.rows) (sym same_hint)
      (note_numbered t (last_hint t 0 before.log) row gone before.tables found.0 note found.1 found.2 (is (ap is_past eq) found.0 found.1) table there)) where
        found : (table : TableRows) × (find_table (log_name t) before.tables ≡ Some table) × (table.schema ≡ log_schema t)
        found = log_found plan runs serial journal entry kept_more off_now work eq

        gone : List (List Value)
        gone = displaced (log_schema t) row found.0.rows

        same_hint : last_hint t 0 (before.log ++ events_of (log_name t) (note_changes t row found.0.rows)) ≡ last_hint t 0 before.log
        same_hint =
            fold-append (λ (old : ℕ) (event : RowEvent). cond (bytes_eq event.table (log_name t)) (hint_in old event.change) old) 0 before.log (events_of (log_name t) (note_changes t row found.0.rows))
            ∙ note_hint t row gone (last_hint t 0 before.log) note

  -- the hint row
  module _ (off_now : IsUnaltered plan journal) (is : IsNumbered plan journal) (work : Work) (eq : now.tool.tool_phase ≡ Migrating work) (hinting : work.cutover.phase ≡ Attempting Hinting) (same : entry.actor ≡ Insp) (asks : entry.asked ≡ Call (writes_hint t work.cutover.attempts)) where
    abbrev n : ℕ
    n = work.cutover.attempts

    begun : last_hint t 0 before.log < n
    begun = subst (λ (l : List RowEvent). last_hint t 0 l < n) (take-length before.log) (subst (λ (phase : Phase). IsBegun (is_unhinted phase) n (last_hint t 0 (take (length before.log) before.log))) hinting ((hints_known plan journal work runs serial kept off_now eq).begun (length before.log)))

    found : (table : TableRows) × (find_table (log_name t) before.tables ≡ Some table) × (table.schema ≡ log_schema t)
    found = log_found plan runs serial journal entry kept_more off_now work eq

    most : n ≤ most_tries
    most = let less = attempts_few plan journal work some kept.faithful kept.follows eq in omega (arith, less, few)

    least : 1 ≤ n
    least = let less = begun in omega (arith, less)

    below : AllBelow n found.0.rows
    below = more_below (last_hint t 0 before.log + 1) n found.0.rows (let less = begun in omega (arith, less)) (is (ap is_past eq) found.0 found.1)

    abbrev said : StatementResult
    said = record { answer = answers.Ok 1; events = hint_event t n ∷ [] }

    gives : statement_result before.tables (hint_insert t n) ≡ said
    gives = hint_result t n before.tables found.0 found.1 found.2 most below

    -- so the next attempt's number is new
    hint_more : IsNumbered plan more
    hint_more = row_more is work eq same (hint_insert t n) asks said gives (hint_numbered t n before.tables before.log found.0 found.1 found.2 least below)

    -- *The hint row is written*
    hint_ok : entry.side ≡ None → IsOk entry.answer
    hint_ok no_side = done_ok plan runs serial journal entry kept_more same (hint_insert t n) asks said gives tt no_side

  -- EVERY TURN

  hinted : (work : Work) → work.cutover.table ≡ t → work.cutover.phase ≡ Attempting Hinting → (request : Request) → Inspects plan journal now.tool work request → request ≡ writes_hint t work.cutover.attempts
  hinted work own hinting request (cuts_so off next) = asked_hint t work.cutover request own hinting next
  hinted work own hinting request (notes_so note resting onward next) = absurd (resting_hints (sym resting ∙ hinting)) where
    resting_hints : Resting ≡ Attempting Hinting → ⊥
    resting_hints both = cc

  numbered_more : IsUnaltered plan more → IsNumbered plan journal → IsNumbered plan more
  numbered_more off is = by (same_actor entry.actor Insp) refl where
    off_now : IsUnaltered plan journal
    off_now = unaltered_front plan journal (entry ∷ []) off

    away : is_writing now.tool.tool_phase ≡ false → (work : Work) → now.tool.tool_phase ≡ Migrating work → writes_log work.cutover.phase ≡ false
    away none work eq = sym (ap is_writing eq) ∙ none

    polled : entry.actor ≡ Insp → is_command entry.asked ≡ false → ((request : Request) → about open_now entry.session entry.asked ≡ Some request → about open_now entry.session Poll ≡ Some request) → IsNumbered plan more
    polled same called waits = quiet off is (λ request is_about. uncalled off same called request (waits request is_about))

    written : entry.actor ≡ Insp → (request : Request) → entry.asked ≡ Call request → (tool_phase : ToolPhase) → now.tool.tool_phase ≡ tool_phase → is_writing tool_phase ≡ true → IsNumbered plan more
    written same request asks (SettingUp setup tries) eq none = absurd (false≢true none)
    written same request asks (Migrating work) eq some_row =
        by_phase (inspects plan journal now.tool work request (ap (λ (c : ToolPhase). tool_call plan now.server journal now.tool c Insp) (sym eq) ∙ insp_called plan journal entry together run same request asks)) (writes_so work.cutover.phase some_row) where
          by_phase : Inspects plan journal now.tool work request → (work.cutover.phase ≡ Resting) ⊎ (work.cutover.phase ≡ Attempting Hinting) → IsNumbered plan more
          by_phase call (inl resting) = let note = note_fits plan journal now.tool work request notes call resting in note_more off_now is work eq same note.0 note.1 (asks ∙ ap Call note.2)
          by_phase call (inr hinting) = hint_more off_now is work eq hinting same (asks ∙ ap Call (hinted work (subst (ToolPhaseIsNamed plan) eq (named plan journal)).cutover hinting request call))

    called_so : entry.actor ≡ Insp → (request : Request) → entry.asked ≡ Call request → (b : Bool) → is_writing now.tool.tool_phase ≡ b → IsNumbered plan more
    called_so same request asks false none = quiet off is (insp_away off same (away none))
    called_so same request asks true some_row = written same request asks now.tool.tool_phase refl some_row

    own : entry.actor ≡ Insp → (asked : Asked) → entry.asked ≡ asked → IsNumbered plan more
    own same (Call request) asks = called_so same request asks (is_writing now.tool.tool_phase) refl
    own same Poll asks = polled same (ap is_command asks) (λ request is_about. subst (λ (a : Asked). about open_now entry.session a ≡ Some request) asks is_about)
    own same Cut asks = polled same (ap is_command asks) (λ request is_about. subst (λ (a : Asked). about open_now entry.session a ≡ Some request) asks is_about)
    own same (Command word) asks = quiet off is (λ request is_about. absurd (none-some request (subst (λ (a : Asked). about open_now entry.session a ≡ Some request) asks is_about)))

    by : (b : Bool) → same_actor entry.actor Insp ≡ b → IsNumbered plan more
    by false differ = quiet off is (others_away plan serial journal entry (in_scene off) (asks_as off) differ)
    by true same = own (same_actor_is entry.actor Insp same) entry.asked refl

-- EVERY JOURNAL

numbered_begins : (plan : PlanData) → IsNumbered plan []
unfolding moment
numbered_begins plan past = absurd (false≢true past)

all_numbered : (plan : PlanData) (journal : List Entry) → IsRunnable plan → IsSerialPlan plan → 1 ≤ plan.options.default_retries → plan.options.default_retries ≤ most_tries → plan.options.notes ≤ most_notes → IsKept plan journal → IsUnaltered plan journal → IsNumbered plan journal
all_numbered plan journal runs serial some few notes kept =
    each_kept plan (λ before. IsUnaltered plan before → IsNumbered plan before) (λ before entry one is off. numbered_more plan runs serial some few notes before entry one off (is (unaltered_front plan before (entry ∷ []) off))) journal kept (λ off. numbered_begins plan)

-- *The hint row goes on*
pub hint_goes : (plan : PlanData) (before : List Entry) (entry : Entry) (work : Work) → IsRunnable plan → IsSerialPlan plan → MayTry plan → IsKept plan (before ++ entry ∷ []) → (moment plan before).tool.tool_phase ≡ Migrating work → work.cutover.phase ≡ Attempting Hinting → entry.actor ≡ Insp
    → entry.asked ≡ Call (writes_hint plan.table work.cutover.attempts) → entry.side ≡ None → IsOk entry.answer
hint_goes plan before entry work runs serial tries kept eq hinting same asks none =
    let front : IsKept plan before = kept_front plan before (entry ∷ []) kept in
    let off : IsUnaltered plan before = unrenamed plan before work (Attempting Hinting) runs serial front eq hinting (λ never. never) in
    hint_ok plan runs serial tries.some tries.few tries.notes before entry kept off (all_numbered plan before runs serial tries.some tries.few tries.notes front off) work eq hinting same asks none
