-- The changelog has the last checkpoint that was written, after every kept journal until the RENAME is done.
use Rattle.std.proofs.Common.{◌≡◌, ◌⊎◌, ◌≤◌, ◌<◌, ◌+◌, ℕ, pos, codes, Bool, true, false, cond, List, [], ◌∷◌, ◌++◌, take, length, Option, Some, None, refl, sym, ap, ◌∙◌, subst, inl, inr, arith}
use Rattle.std.specs.Prelude.{◌==◌}
use Rattle.std.specs.Fmt.{signed_decimal}
use Rattle.std.specs.List.{list_any}
use Rattle.std.specs.Option.{option_map}
use Rattle.std.proofs.lemmas.Bool.{true≢false, false≢true}
use Rattle.std.proofs.lemmas.Bool.Decides.{nat_tests}
use Rattle.std.proofs.lemmas.Option.{same_Some}
use Rattle.base_script.specs.declared.actor.Actor.{Actor}
use Rattle.base_script.specs.declared.actor.Actor.TheVariants.{Op, Insp, Copy, Apply, Lock, Ren, Client}
use Rattle.base_values.specs.ToolNames.{log_name}
use Rattle.base_values.specs.GhoSchema.Tables.{clash}
use Rattle.base_values.specs.declared.gho_schema.schema.Schema.{Schema}
use Rattle.base_values.specs.declared.value.Value.{Value}
use Rattle.base_values.specs.declared.value.Value.TheVariants.{Num, Text}
use Rattle.table_store.specs.Databases.{Database, TableRows, find_table}
use Rattle.server_model.specs.declared.answer.Answer.{Answer}
use Rattle.server_model.specs.declared.answer.Answer.TheVariants as answers
use Rattle.server_model.specs.declared.entry.Asked.{Asked}
use Rattle.server_model.specs.declared.entry.Asked.TheVariants.{Call, Poll, Command, Cut}
use Rattle.server_model.specs.declared.entry.Entry.{Entry}
use Rattle.server_model.specs.declared.request.Request.{Request}
use Rattle.server_model.specs.declared.request.Request.TheVariants as requests
use Rattle.server_model.specs.Entries.{is_command, same_actor}
use Rattle.server_model.specs.States.{State}
use Rattle.plan_data.specs.PlanData.{PlanData}
use Rattle.tool_changelog.specs.Checkpoints.{checkpoint_row, checkpoint_value}
use Rattle.tool_changelog.specs.Heartbeats.{heartbeat_row}
use Rattle.tool_changelog.specs.Hints.{hint_row, last_hint}
use Rattle.tool_changelog.specs.ToolTables.{first_is_primary, log_schema}
use Rattle.tool_program.specs.JournalWords.Journals.{opens, state_at}
use Rattle.tool_program.specs.NoteWriter.Notes.{is_checkpoint, notes_of, writes}
use Rattle.tool_program.specs.declared.cutover_core.cutover.Phase.{Phase}
use Rattle.tool_program.specs.declared.cutover_core.cutover.Phase.TheVariants.{Resting, Attempting}
use Rattle.tool_program.specs.declared.cutover_core.cutover.Stage.TheVariants.{Hinting}
use Rattle.tool_program.specs.CutoverCore.Attempts as attempts
use Rattle.tool_program.specs.CutoverCore.CutOvers.{is_resting}
use Rattle.tool_program.specs.CutoverCore.Attempts.{writes_hint}
use Rattle.tool_program.specs.Programs.{reach_in, tool_call}
use Rattle.tool_program.specs.Setups.{Setup}
use Rattle.tool_program.specs.Tools.{ToolPhase, SettingUp, Migrating, Moment, Tool, Work, is_reverting, moment}
use Rattle.tool_program.proofs.OnlineCalls.Machines.{ToolPhaseIsNamed, named}
use Rattle.proof_journals.specs.Plans.{IsSerialPlan}
use Rattle.proof_journals.specs.Turns.{about, reported_at}
use Rattle.proof_journals.specs.Ghost.Rows.Moments.{Row}
use Rattle.proof_journals.specs.Run.Kept.{IsKept}
use Rattle.proof_journals.specs.Machine.Runnable.{IsRunnable}
use Rattle.proof_journals.specs.Machine.Standings.{standing_of}
use Rattle.proof_journals.proofs.Actors.{same_actor_is}
use Rattle.proof_journals.proofs.Machine.Inspecting.{Inspects, inspects, notes_so, cuts_so}
use Rattle.proof_journals.proofs.Machine.Journals.{IsRun, IsTogether}
use Rattle.proof_migration.specs.Program.Hints.{IsBegun, is_unhinted}
use Rattle.proof_migration.specs.ToolPhase.Unaltered.{IsUnaltered}
use Rattle.proof_migration.proofs.KeptJournals.{each_kept}
use Rattle.proof_migration.proofs.Migration.Leaves.{WritesAway}
use Rattle.proof_migration.proofs.Program.Hints.Asked.{known, scene_run}
use Rattle.proof_migration.proofs.Program.Hints.Known.{hints_go, hints_known}
use Rattle.proof_migration.proofs.Program.Hints.Logging.{NoneWrote, watched}
use Rattle.proof_migration.proofs.Program.InspectorTurns.Hints.{hint_insert}
use Rattle.proof_migration.proofs.Program.InspectorTurns.Keeping.{LogStands, ToolPhaseFits as LogFits, all_fit, past_log}
use Rattle.proof_migration.proofs.Program.Turns.Asked.{asked_as}
use Rattle.proof_migration.proofs.Program.Turns.Follows.{kept_front, kept_run}
use Rattle.proof_migration.proofs.Program.Turns.NextCalls.{insp_called}
use Rattle.proof_migration.proofs.ToolPhase.Unaltered.Asking.{AskedAs}
use Rattle.proof_migration.proofs.ToolPhase.Unaltered.Away.{unaltered_front}
use Rattle.proof_bounds.specs.AttemptTurns.Attempts.{MayTry, most_tries}
use Rattle.proof_bounds.proofs.Attempts.{attempts_few}
use Rattle.proof_bounds.proofs.Going.{IsGoing, all_going}
use Rattle.proof_bounds.proofs.AttemptTurns.LogWrites.{log_found}
use Rattle.proof_bounds.proofs.AttemptTurns.NextNotes.{NextRow, next_row}
use Rattle.proof_bounds.proofs.AttemptTurns.NoteRows.{IsFitNote, beat_fits, check_fits, note_result, note_said, note_write}
use Rattle.proof_resume.specs.Reached.Checkpoints.{checkpoint_among, checkpoint_asked, checkpoint_stored, checkpoint_written, if_done, last_checkpoint, or_earlier}
use Rattle.proof_resume.specs.Reached.Laws.{CheckpointsExist, StoredCheckpointsAreBehind}
use Rattle.proof_bounds.proofs.AttemptTurns.Changelogs.{asked_hint, insp_away, is_past, is_writing, uncalled, was_made, writes_log, writes_so}
use Rattle.proof_bounds.proofs.AttemptTurns.ChangelogTurns.{LogLeft, log_gone, log_left, log_new, log_stays, others_away}
use Rattle.proof_resume.proofs.Reached.LastCheckpoints.{Past, checkpoints_are_behind, setup_writes_none, stays_past}
use Rattle.proof_resume.proofs.Reached.Statements.{IsUndone, StatementLeaves, is_done, statement_leaves, undone}
use Rattle.proof_resume.proofs.Reached.StoredRows.{HasNumber, hint_given, hint_said, hint_stored, note_stored}
use Rattle.proof_resume.proofs.Reached.Written.{cutover_unasked, last_more, unasked}

-- A NOTE'S ROW HAS A NUMBER

note_number : (row : Row) → IsFitNote row → HasNumber row
unfolding heartbeat_row checkpoint_row
note_number row (beat_fits number some few is) = record { number = 1000000 + number; rest = Text (codes "heartbeat") ∷ Text (signed_decimal (pos number)) ∷ []; is = is }
note_number row (check_fits position reach is) = by (checkpoint_value position reach) is where
  by : (value : Option Value) → option_map (λ (v : Value). Num (pos 0) ∷ Text (codes "checkpoint") ∷ v ∷ []) value ≡ Some row → HasNumber row
  by None none = absurd cc
  by (Some value) some = record { number = 0; rest = Text (codes "checkpoint") ∷ value ∷ []; is = sym (same_Some (Num (pos 0) ∷ Text (codes "checkpoint") ∷ value ∷ []) row some) }

-- where there was none, it has no checkpoint
none_among : (found : Option TableRows) → ((table : TableRows) → found ≡ Some table → table.rows ≡ []) → checkpoint_among found ≡ None
none_among None empty = refl
none_among (Some table) empty = ap (λ (rows : List _). checkpoint_among (Some (record { schema = table.schema; rows = rows }))) (empty table refl)

pub none_left : (t : List ℕ) (makes : Schema → Type 0) (before after : Database) → LogLeft t makes before after → checkpoint_stored t before ≡ None → checkpoint_stored t after ≡ None
none_left t makes before after (log_stays same) none = ap checkpoint_among same ∙ none
none_left t makes before after (log_gone gone) none = ap checkpoint_among gone
none_left t makes before after (log_new schema made named was empty) none = none_among (find_table (log_name t) after) empty

-- WHERE IT EXISTS BEFORE AND AFTER, IT STAYS

some_schema : (found : Option TableRows) → found ≡ None → option_map (λ (table : TableRows). table.schema) found ≡ None
some_schema found none = ap (option_map (λ (table : TableRows). table.schema)) none

exists_stays : (plan : PlanData) (makes : Schema → Type 0) (before after : Database) → LogStands plan before → LogStands plan after → LogLeft plan.table makes before after → find_table (log_name plan.table) after ≡ find_table (log_name plan.table) before
exists_stays plan makes before after was is (log_stays same) = same
exists_stays plan makes before after was is (log_gone gone) = absurd (let no : None ≡ Some (log_schema plan.table) = sym (some_schema (find_table (log_name plan.table) after) gone) ∙ is in cc)
exists_stays plan makes before after was is (log_new schema made named none empty) = absurd (let no : None ≡ Some (log_schema plan.table) = sym (some_schema (find_table (log_name plan.table) before) none) ∙ was in cc)

-- WHAT IS KNOWN

abbrev PhaseExists : PlanData → List Entry → ToolPhase → Type 0
PhaseExists plan journal (SettingUp setup tries) = (last_checkpoint journal ≡ None) × (past_log setup ≡ true → checkpoint_stored plan.table (state_at plan journal).tables ≡ None)
PhaseExists plan journal (Migrating work) = checkpoint_stored plan.table (state_at plan journal).tables ≡ last_checkpoint journal

-- where nothing was done, no checkpoint was written; and else the row that was asked for
undone_none : (reported : Option Answer) (row : Option Row) → IsUndone reported → if_done reported row ≡ None
undone_none None row none = refl
undone_none (Some (answers.Ok count)) row none = absurd none
undone_none (Some answer) row none = refl

-- nobody but the inspector asks for a checkpoint
pub other_unasked : (actor : Actor) (asked : Asked) → same_actor actor Insp ≡ false → checkpoint_asked actor asked ≡ None
other_unasked Insp asked other = absurd (true≢false other)
other_unasked Op asked other = refl
other_unasked Copy asked other = refl
other_unasked Apply asked other = refl
other_unasked Lock asked other = refl
other_unasked Ren asked other = refl
other_unasked (Client client) asked other = refl

-- ONE TURN

module _ (plan : PlanData) (runs : IsRunnable plan) (serial : IsSerialPlan plan) (tries : MayTry plan) (journal : List Entry) (entry : Entry) (kept_more : IsKept plan (journal ++ entry ∷ [])) (off : IsUnaltered plan (journal ++ entry ∷ [])) where
  abbrev t : List ℕ
  t = plan.table

  abbrev more : List Entry
  more = journal ++ entry ∷ []

  abbrev now : Moment
  now = moment plan journal

  abbrev tool : Tool
  tool = record now.tool { turns = now.tool.turns + 1 }

  abbrev before : State
  before = state_at plan journal

  abbrev after : State
  after = state_at plan more

  abbrev About : Request → Type 0
  About request = about (opens entry before) entry.session entry.asked ≡ Some request

  abbrev Makes : Schema → Type 0
  Makes schema = About (requests.Create schema)

  kept : IsKept plan journal
  kept = kept_front plan journal (entry ∷ []) kept_more

  off_now : IsUnaltered plan journal
  off_now = unaltered_front plan journal (entry ∷ []) off

  run : IsRun plan journal entry
  run = kept_run plan journal entry kept_more

  going : IsGoing plan journal
  going = all_going plan journal runs serial kept

  together : IsTogether plan journal
  together = going.standing.tabled.all.tool

  none : NoneWrote t before
  none = (hints_go plan journal runs serial kept off_now).none

  asks_as : (request : Request) → About request → AskedAs plan entry.actor request
  asks_as request is = asked_as plan serial runs.fitting journal entry (known plan runs serial journal entry kept_more off) run off request is

  left : ((request : Request) → About request → WritesAway (watched t) request) → LogLeft t Makes before.tables after.tables
  left writes = log_left plan serial journal entry (scene_run plan runs serial journal entry kept_more off) asks_as run.answered.sides none writes

  others : same_actor entry.actor Insp ≡ false → (request : Request) → About request → WritesAway (watched t) request
  others other = others_away plan serial journal entry (scene_run plan runs serial journal entry kept_more off) asks_as other

  -- the inspector's turn writes none where no row of the changelog comes next, nor where it calls nothing
  insp_unwritten : entry.actor ≡ Insp → ((work : Work) → now.tool.tool_phase ≡ Migrating work → writes_log work.cutover.phase ≡ false) → (request : Request) → About request → WritesAway (watched t) request
  insp_unwritten = insp_away plan runs serial tries.some tries.few tries.notes journal entry kept_more off

  insp_uncalled : entry.actor ≡ Insp → is_command entry.asked ≡ false → (request : Request) → about (opens entry before) entry.session Poll ≡ Some request → WritesAway (watched t) request
  insp_uncalled = uncalled plan runs serial tries.some tries.few tries.notes journal entry kept_more off

  insp_or : (b : Bool) → same_actor entry.actor Insp ≡ b → (entry.actor ≡ Insp) ⊎ (same_actor entry.actor Insp ≡ false)
  insp_or true is = inl (same_actor_is entry.actor Insp is)
  insp_or false is = inr is

  -- WHILE THE TOOL SETS UP

  module _ (setup : Setup) (old : List ℕ) (eq : now.tool.tool_phase ≡ SettingUp setup old) (was : PhaseExists plan journal (SettingUp setup old)) where
    no_work : (work : Work) → now.tool.tool_phase ≡ Migrating work → writes_log work.cutover.phase ≡ false
    no_work work other = absurd (let no : SettingUp setup old ≡ Migrating work = sym eq ∙ other in cc)

    setup_left : LogLeft t Makes before.tables after.tables
    setup_left = by (insp_or (same_actor entry.actor Insp) refl) where
      by : (entry.actor ≡ Insp) ⊎ (same_actor entry.actor Insp ≡ false) → LogLeft t Makes before.tables after.tables
      by (inr other) = left (others other)
      by (inl same) = left (insp_unwritten same no_work)

    stored_then : is_past (moment plan more).tool.tool_phase ≡ true → checkpoint_stored t after.tables ≡ None
    stored_then past = none_left t Makes before.tables after.tables setup_left (by (was_made plan runs serial tries.some tries.few tries.notes journal entry kept_more past)) where
      by : (is_past now.tool.tool_phase ≡ true) ⊎ (find_table (log_name t) before.tables ≡ None) → checkpoint_stored t before.tables ≡ None
      by (inl made) = was.1 (sym (ap is_past eq) ∙ made)
      by (inr none) = ap checkpoint_among none

    none_then : last_checkpoint more ≡ None
    none_then = last_more journal entry ∙ ap (λ (one : Option Row). or_earlier one (checkpoint_written entry)) was.0 ∙ ap (or_earlier None) (setup_writes_none plan journal entry setup old together run eq)

    set_up : PhaseExists plan more (moment plan more).tool.tool_phase
    set_up = by (moment plan more).tool.tool_phase stored_then where
      by : (tool_phase : ToolPhase) → (is_past tool_phase ≡ true → checkpoint_stored t after.tables ≡ None) → PhaseExists plan more tool_phase
      by (SettingUp next more_tries) stored = (none_then, stored)
      by (Migrating work) stored = stored refl ∙ sym none_then

  -- WHILE IT MIGRATES

  module _ (work then_work : Work) (eq : now.tool.tool_phase ≡ Migrating work) (then_eq : (moment plan more).tool.tool_phase ≡ Migrating then_work) (was : PhaseExists plan journal (Migrating work)) where
    abbrev Goal : Type 0
    Goal = checkpoint_stored t after.tables ≡ last_checkpoint more

    log_now : LogStands plan before.tables
    log_now = (subst (LogFits plan before.tables (standing_of plan journal Insp).waits) eq (all_fit plan journal runs serial kept off_now)).log

    log_then : LogStands plan after.tables
    log_then = (subst (LogFits plan after.tables (standing_of plan more Insp).waits) then_eq (all_fit plan more runs serial kept_more off)).log

    -- nothing is written
    unwritten : checkpoint_stored t after.tables ≡ checkpoint_stored t before.tables → checkpoint_written entry ≡ None → Goal
    unwritten same unwrote = same ∙ was ∙ sym (last_more journal entry ∙ ap (or_earlier (last_checkpoint journal)) unwrote)

    quiet : ((request : Request) → About request → WritesAway (watched t) request) → checkpoint_asked entry.actor entry.asked ≡ None → Goal
    quiet writes unasks = unwritten (ap checkpoint_among (exists_stays plan Makes before.tables after.tables log_now log_then (left writes))) (unasked entry unasks)

    found : (table : TableRows) × (find_table (log_name t) before.tables ≡ Some table) × (table.schema ≡ log_schema t)
    found = log_found plan runs serial journal entry kept_more off_now work eq

    -- a note's row is written
    note_goal : entry.actor ≡ Insp → (request : Request) → entry.asked ≡ Call request → NextRow plan (notes_of journal) request → Goal
    note_goal same request asks next = by (statement_leaves plan runs serial journal entry kept_more same (note_write t next.row) asks_it (note_said t next.row found.0.rows) (note_result t next.row before.tables found.0 fits found.1 found.2)) where
      fits : IsFitNote next.row
      fits = next.fits tries.notes

      asks_it : entry.asked ≡ Call (writes t next.row)
      asks_it = asks ∙ ap Call next.is

      asks_row : checkpoint_asked entry.actor entry.asked ≡ cond (is_checkpoint next.row) (Some next.row) None
      asks_row = ap (λ (a : Actor). checkpoint_asked a entry.asked) same ∙ ap (checkpoint_asked Insp) asks_it

      reported_now : Option Answer
      reported_now = reported_at entry.side entry.answer entry.missed

      by : StatementLeaves (note_said t next.row found.0.rows) reported_now before.tables after.tables → Goal
      by (undone not_done same_tables) = unwritten (ap (checkpoint_stored t) same_tables) (undone_none reported_now (checkpoint_asked entry.actor entry.asked) not_done)
      by (is_done reported made) =
          ap (checkpoint_stored t) made ∙ note_stored t before.tables found.0 found.1 found.2 next.row (note_number next.row fits) ∙ joined (is_checkpoint next.row)
          ∙ ap (or_earlier (last_checkpoint journal)) (sym (ap (λ (r : Option Answer). if_done r (checkpoint_asked entry.actor entry.asked)) reported ∙ asks_row)) ∙ sym (last_more journal entry) where
            joined : (b : Bool) → cond b (Some next.row) (checkpoint_stored t before.tables) ≡ or_earlier (last_checkpoint journal) (cond b (Some next.row) None)
            joined true = refl
            joined false = was

    -- the hint row is
    hint_goal : entry.actor ≡ Insp → work.cutover.phase ≡ Attempting Hinting → entry.asked ≡ Call (writes_hint t work.cutover.attempts) → Goal
    hint_goal same hinting asks = by (statement_leaves plan runs serial journal entry kept_more same (hint_insert t n) asks (hint_said t before.tables found.0 found.1 found.2 clashes n) (hint_given t before.tables found.0 found.1 found.2 n most)) where
      n : ℕ
      n = work.cutover.attempts

      clashes : Bool
      clashes = list_any (clash first_is_primary (hint_row n)) found.0.rows

      most : n ≤ most_tries
      most = let less = attempts_few plan journal work tries.some kept.faithful kept.follows eq in let few = tries.few in omega (arith, less, few)

      begun : last_hint t 0 (take (length before.log) before.log) < n
      begun = subst (λ (phase : Phase). IsBegun (is_unhinted phase) n (last_hint t 0 (take (length before.log) before.log))) hinting ((hints_known plan journal work runs serial kept off_now eq).begun (length before.log))

      counted : (n == 0) ≡ false
      counted = let less = begun in grind (arith, nat_tests, less)

      unasks : checkpoint_asked entry.actor entry.asked ≡ None
      unasks = ap (λ (a : Actor). checkpoint_asked a entry.asked) same ∙ ap (checkpoint_asked Insp) asks

      by : StatementLeaves (hint_said t before.tables found.0 found.1 found.2 clashes n) (reported_at entry.side entry.answer entry.missed) before.tables after.tables → Goal
      by (undone not_done same_tables) = unwritten (ap (checkpoint_stored t) same_tables) (unasked entry unasks)
      by (is_done reported made) = unwritten (ap (checkpoint_stored t) made ∙ hint_stored t before.tables found.0 found.1 found.2 clashes n counted) (unasked entry unasks)

    inspected : entry.actor ≡ Insp → (request : Request) → entry.asked ≡ Call request → Inspects plan journal now.tool work request → Goal
    inspected same request asks (notes_so note resting onward next) = note_goal same request asks (next_row plan work.applier.position (reach_in journal work.copier) (notes_of journal) request next)
    inspected same request asks (cuts_so off_rest next) = by (writes_log work.cutover.phase) refl where
      hints : (work.cutover.phase ≡ Resting) ⊎ (work.cutover.phase ≡ Attempting Hinting) → Goal
      hints (inl resting) = absurd (true≢false (sym (ap is_resting resting) ∙ off_rest))
      hints (inr at) = hint_goal same at (asks ∙ ap Call (asked_hint t work.cutover request (subst (ToolPhaseIsNamed plan) eq (named plan journal)).cutover at next))

      by : (b : Bool) → writes_log work.cutover.phase ≡ b → Goal
      by true writes = hints (writes_so work.cutover.phase writes)
      by false none_written =
          quiet (insp_unwritten same (λ other at. sym (ap is_writing at) ∙ ap is_writing eq ∙ none_written)) (ap (λ (a : Actor). checkpoint_asked a entry.asked) same ∙ ap (checkpoint_asked Insp) asks ∙ cutover_unasked work.cutover request next)

    own : entry.actor ≡ Insp → (asked : Asked) → entry.asked ≡ asked → Goal
    own same (Call request) asks =
        inspected same request asks (inspects plan journal now.tool work request (ap (λ (c : ToolPhase). tool_call plan now.server journal now.tool c Insp) (sym eq) ∙ insp_called plan journal entry together run same request asks))
    own same Poll asks = quiet (λ request is. insp_uncalled same (ap is_command asks) request (sym (ap (about (opens entry before) entry.session) asks) ∙ is)) (ap (λ (a : Actor). checkpoint_asked a entry.asked) same ∙ ap (checkpoint_asked Insp) asks)
    own same Cut asks = quiet (λ request is. insp_uncalled same (ap is_command asks) request (sym (ap (about (opens entry before) entry.session) asks) ∙ is)) (ap (λ (a : Actor). checkpoint_asked a entry.asked) same ∙ ap (checkpoint_asked Insp) asks)
    own same (Command word) asks =
        quiet (λ request is. absurd (let no : None ≡ Some request = sym (ap (about (opens entry before) entry.session) asks) ∙ is in cc)) (ap (λ (a : Actor). checkpoint_asked a entry.asked) same ∙ ap (checkpoint_asked Insp) asks)

    works_on : Goal
    works_on = by (insp_or (same_actor entry.actor Insp) refl) where
      by : (entry.actor ≡ Insp) ⊎ (same_actor entry.actor Insp ≡ false) → Goal
      by (inl same) = own same entry.asked refl
      by (inr other) = quiet (others other) (other_unasked entry.actor entry.asked other)

  pub exists_more : PhaseExists plan journal now.tool.tool_phase → PhaseExists plan more (moment plan more).tool.tool_phase
  exists_more was = by now.tool.tool_phase refl was where
    works : (work : Work) → now.tool.tool_phase ≡ Migrating work → PhaseExists plan journal (Migrating work) → (tool_phase : ToolPhase) → (moment plan more).tool.tool_phase ≡ tool_phase → PhaseExists plan more tool_phase
    works work eq was (SettingUp setup old) then_eq = absurd (subst (λ (c : ToolPhase). Past plan journal entry (is_reverting (moment plan more).tool.reason) c) then_eq (stays_past plan journal entry work eq))
    works work eq was (Migrating then_work) then_eq = works_on work then_work eq then_eq was

    by : (tool_phase : ToolPhase) → now.tool.tool_phase ≡ tool_phase → PhaseExists plan journal tool_phase → PhaseExists plan more (moment plan more).tool.tool_phase
    by (SettingUp setup old) eq was = set_up setup old eq was
    by (Migrating work) eq was = works work eq was (moment plan more).tool.tool_phase refl

-- EVERY JOURNAL

exists_begins : (plan : PlanData) → PhaseExists plan [] (moment plan []).tool.tool_phase
unfolding moment last_checkpoint
exists_begins plan = (refl, λ past. absurd (false≢true past))

all_exist : (plan : PlanData) (journal : List Entry) → IsRunnable plan → IsSerialPlan plan → MayTry plan → IsKept plan journal → IsUnaltered plan journal → PhaseExists plan journal (moment plan journal).tool.tool_phase
all_exist plan journal runs serial tries kept =
    each_kept plan (λ before. IsUnaltered plan before → PhaseExists plan before (moment plan before).tool.tool_phase) (λ before entry one is off. exists_more plan runs serial tries before entry one off (is (unaltered_front plan before (entry ∷ []) off))) journal kept (λ off. exists_begins plan)

-- *Checkpoints exist.*
pub checkpoints_exist : CheckpointsExist
checkpoints_exist plan journal work runs serial tries kept off eq = subst (PhaseExists plan journal) eq (all_exist plan journal runs serial tries kept off)

-- *Stored checkpoints are behind.*
pub stored_behind : StoredCheckpointsAreBehind
stored_behind plan m at rows of tries opening journal work kept off eq row is = checkpoints_are_behind plan m at rows of opening journal work kept off eq row (sym (checkpoints_exist plan journal work of.runs of.serial tries kept off eq) ∙ is)
