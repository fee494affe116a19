-- What a kept run with a checkpoint leaves in the changelog is read back by the new tool: the row with id 0 is stored there, also after the
-- RENAME, and the losses and the listing leave the changelog as it is.
use Rattle.std.proofs.Common.{◌≡◌, ℕ, ◌==◌, Bool, true, false, cond, not, ◌&&◌, ◌||◌, List, [], ◌∷◌, ◌++◌, length, Option, Some, None, refl, sym, ap, ◌∙◌, subst, append_assoc, append-nil}
use Rattle.std.specs.Prelude.{drop, is_some}
use Rattle.std.specs.List.{list_any, AllByRecursion}
use Rattle.std.specs.Option.{option_map}
use Rattle.std.proofs.lemmas.Bool.{and_parts, false≢true}
use Rattle.std.proofs.lemmas.List.Folds.{list_any-append}
use Rattle.std.proofs.Math.Seq.{drop-append_seam}
use Rattle.base_values.specs.ToolNames.{log_name}
use Rattle.base_script.specs.declared.actor.Actor.{Actor}
use Rattle.base_script.specs.declared.actor.Actor.TheVariants.{Insp}
use Rattle.base_script.specs.declared.actor.Side.{Side}
use Rattle.base_script.specs.declared.actor.Side.TheVariants.{Before, After}
use Rattle.base_script.specs.declared.statement.Statement.TheVariants as statements
use Rattle.table_store.specs.Databases.{TableRows, find_table, has_table}
use Rattle.server_model.specs.Along.{Along}
use Rattle.server_model.specs.Blockers.{need_within}
use Rattle.server_model.specs.Effects.{effect_unless, is_outside, result_effect}
use Rattle.server_model.specs.Entries.{is_client, is_command, is_cut}
use Rattle.server_model.specs.Operations.{after_events, statement_result}
use Rattle.server_model.specs.PlainServer.{did, does, done}
use Rattle.server_model.specs.States.{State, is_in_transaction, is_of_tool, session_of, unread, view, writes_of}
use Rattle.server_model.specs.declared.answer.Answer.{Answer}
use Rattle.server_model.specs.declared.answer.Answer.TheVariants as answers
use Rattle.server_model.specs.declared.entry.Asked.{Asked}
use Rattle.server_model.specs.declared.entry.Asked.TheVariants.{Call, Command, Cut, Poll}
use Rattle.server_model.specs.declared.entry.Entry.{Entry}
use Rattle.server_model.specs.declared.outcome.Progress.{Progress}
use Rattle.server_model.specs.declared.outcome.Progress.TheVariants.{Unfit}
use Rattle.server_model.specs.declared.request.Request.{Request}
use Rattle.server_model.specs.declared.request.Request.TheVariants as requests
use Rattle.server_model.specs.declared.session.Session.{Session}
use Rattle.server_model.specs.declared.work.StatementResult.{StatementResult}
use Rattle.plan_data.specs.PlanData.{PlanData, has_counter}
use Rattle.tool_changelog.specs.ToolTables.{log_schema}
use Rattle.tool_notes.specs.declared.checkpoint.Checkpoint.{Checkpoint}
use Rattle.tool_notes.specs.Readings.{checkpoint_of}
use Rattle.tool_program.specs.JournalWords.Histories as histories
use Rattle.tool_program.specs.JournalWords.Histories.{is_alter}
use Rattle.tool_program.specs.JournalWords.Journals.{heard, inner_answer, missed, opens, state_at, IsAnswered}
use Rattle.tool_program.specs.JournalWords.Sessions.{IsSeated}
use Rattle.tool_program.specs.NoteWriter.Notes.{is_checkpoint}
use Rattle.tool_program.specs.Tools.{Migrating, SettingUp, ToolPhase, Work, moment}
use Rattle.tool_program.specs.declared.chunk_copier.copier.Copier.{Copier}
use Rattle.tool_program.specs.ChunkCopier.Copiers as copiers
use Rattle.tool_program.specs.declared.event_applier.applier.Applier.{Applier}
use Rattle.tool_program.specs.EventApplier.Appliers as appliers
use Rattle.tool_finish.specs.declared.stage.Listed.{Listed}
use Rattle.tool_finish.specs.declared.stage.Listed.TheVariants.{NotRenamed, Renamed}
use Rattle.tool_finish.specs.declared.stage.Stage.{Stage}
use Rattle.tool_finish.specs.declared.stage.Stage.TheVariants.{Losing, Listing, Reading, Clearing, ReadingCounter, SettingCounter, Ranging, Copying, Applying, Exchanging, DroppingLog, DroppingOld, RollingBack, Done, Reverted}
use Rattle.tool_finish.specs.Checkpoints.{asks_checkpoint, has_checkpoint, is_migrating, was_done, writes_checkpoint}
use Rattle.tool_finish.specs.Finishes.{checkpoint_in, first_live, has_read, listed, losing, next, reads_checkpoint, stage_behind, took, IsFinishTurn}
use Rattle.tool_finish.specs.Finishes as finishes
use Rattle.tool_finish.proofs.Walking.{stage_more}
use Rattle.proof_journals.specs.Ghost.HeldKeys.{Clustered}
use Rattle.proof_journals.specs.Ghost.Rows.Moments.{Row}
use Rattle.proof_journals.specs.Ghost.Rows.Timelines.{Migration}
use Rattle.proof_journals.specs.Machine.Standings.{standing_of}
use Rattle.proof_journals.specs.Plans.{IsPlanRun}
use Rattle.proof_journals.specs.Run.Kept.{IsKept}
use Rattle.proof_journals.specs.Scenes.{Stored}
use Rattle.proof_journals.specs.Turns.{reported_at}
use Rattle.proof_journals.proofs.Actors.{placed}
use Rattle.proof_journals.proofs.Journals.{stored_opened}
use Rattle.proof_migration.specs.Program.Turns.Laws.{IsMigrationOf}
use Rattle.proof_migration.specs.ToolPhase.Unaltered.{IsUnaltered}
use Rattle.proof_migration.proofs.ToolServes.{session_of_tool, filled_so}
use Rattle.proof_migration.proofs.Attempt.Leaving.{has_is}
use Rattle.proof_migration.proofs.KeptJournals.{each_kept}
use Rattle.proof_migration.proofs.Program.InspectorTurns.Keeping.{LogStands, ToolPhaseFits, all_fit}
use Rattle.proof_migration.proofs.Program.Turns.Follows.{kept_run}
use Rattle.proof_migration.proofs.ToolPhase.CopyAnswers.{not_outside}
use Rattle.proof_bounds.specs.AttemptTurns.Attempts.{MayTry}
use Rattle.proof_bounds.proofs.AttemptTurns.LogWrites.{found_some}
use Rattle.proof_plain.specs.Plans.{IsShort, PlainPlan}
use Rattle.proof_plain.proofs.Journals.{short_front}
use Rattle.proof_resume.specs.Finish.Readings.{FinishesReadCheckpoints}
use Rattle.proof_resume.specs.Reached.Checkpoints.{checkpoint_asked, checkpoint_stored, checkpoint_written, if_done, last_checkpoint, or_earlier}
use Rattle.proof_resume.proofs.Finish.Holders.{any_own, opened_held, IsFreeBut, IsHeldBy}
use Rattle.proof_resume.proofs.Finish.Owners.{Owners}
use Rattle.proof_resume.proofs.Finish.Prompt.{after_is, alone_begins, alone_more, answer_is, finish_turns, its_actor, its_request, lost_cut, GoesAlone, StandsAlone}
use Rattle.proof_resume.proofs.Finish.Verdicts.{none_locked}
use Rattle.proof_resume.proofs.Reached.Existing.{checkpoints_exist}
use Rattle.proof_resume.proofs.Reached.Lasting.{log_lasts}
use Rattle.proof_resume.proofs.Reached.Written.{last_more}
use Rattle.proof_resume.proofs.Starts.Checkpoints.{first_of, rows_found, select, select_says, stored_first}
use Rattle.proof_resume.proofs.Starts.Losses.{cut_keeps}
use Rattle.proof_resume.proofs.Starts.Reading.{checkpoints_are_read}

-- A CHECKPOINT THAT WAS WRITTEN IS THE LAST ONE, OR ANOTHER IS

asked_some : (actor : Actor) (asked : Asked) → asks_checkpoint actor asked ≡ true → is_some (checkpoint_asked actor asked) ≡ true
asked_some Insp (Call (requests.Do (statements.Replace table columns row drawn))) is = by (is_checkpoint row) is where
  by : (b : Bool) → b ≡ true → is_some (cond b (Some row) None) ≡ true
  by true is = refl
  by false is = absurd (false≢true is)
asked_some actor asked is = absurd (false≢true is)

done_some : (side : Option Side) (inner : Option Answer) (row : Option Row) → was_done (heard side inner) (missed side inner) ≡ true → is_some row ≡ true → is_some (if_done (reported_at side (heard side inner) (missed side inner)) row) ≡ true
done_some None None row done some = absurd (false≢true done)
done_some None (Some (answers.Ok count)) row done some = some
done_some None (Some answer) row done some = absurd (false≢true done)
done_some (Some Before) inner row done some = absurd (false≢true done)
done_some (Some After) (Some (answers.Ok count)) row done some = some
done_some (Some After) (Some answer) row done some = absurd (false≢true done)
done_some (Some After) None row done some = absurd (false≢true done)

written_some : (state : State) (entry : Entry) → IsAnswered state entry → writes_checkpoint entry ≡ true → is_some (checkpoint_written entry) ≡ true
written_some state entry answered is =
    let parts = and_parts (asks_checkpoint entry.actor entry.asked) (was_done entry.answer entry.missed) is in
    subst (λ (a : Answer). is_some (if_done (reported_at entry.side a entry.missed) (checkpoint_asked entry.actor entry.asked)) ≡ true) (sym answered.answer)
    (subst (λ (m : Option Answer). is_some (if_done (reported_at entry.side (heard entry.side (inner_answer state entry)) m) (checkpoint_asked entry.actor entry.asked)) ≡ true) (sym answered.missed)
    (done_some entry.side (inner_answer state entry) (checkpoint_asked entry.actor entry.asked) (subst (λ (m : Option Answer). was_done (heard entry.side (inner_answer state entry)) m ≡ true) answered.missed (subst (λ (a : Answer). was_done a entry.missed ≡ true) answered.answer parts.1))
    (asked_some entry.actor entry.asked parts.0)))

last_some : (plan : PlanData) (run : List Entry) → IsKept plan run → list_any writes_checkpoint run ≡ true → is_some (last_checkpoint run) ≡ true
last_some plan run kept = each_kept plan (λ some. list_any writes_checkpoint some ≡ true → is_some (last_checkpoint some) ≡ true) more run kept (λ none. absurd (false≢true none)) where
  or_some : (earlier one : Option Row) → is_some one ≡ true → is_some (or_earlier earlier one) ≡ true
  or_some earlier None is = absurd (false≢true is)
  or_some earlier (Some row) is = refl

  or_was : (earlier one : Option Row) → is_some earlier ≡ true → is_some (or_earlier earlier one) ≡ true
  or_was earlier None is = is
  or_was earlier (Some row) is = refl

  more : (before : List Entry) (entry : Entry) → IsKept plan (before ++ entry ∷ []) → (list_any writes_checkpoint before ≡ true → is_some (last_checkpoint before) ≡ true) → list_any writes_checkpoint (before ++ entry ∷ []) ≡ true → is_some (last_checkpoint (before ++ entry ∷ [])) ≡ true
  more before entry one was is = ap is_some (last_more before entry) ∙ by (list_any writes_checkpoint before) (writes_checkpoint entry) refl refl (sym (list_any-append writes_checkpoint before (entry ∷ [])) ∙ is) where
    by : (a b : Bool) → list_any writes_checkpoint before ≡ a → writes_checkpoint entry ≡ b → (a || (b || false)) ≡ true → is_some (or_earlier (last_checkpoint before) (checkpoint_written entry)) ≡ true
    by true b was_so is_so some = or_was (last_checkpoint before) (checkpoint_written entry) (was was_so)
    by false true was_so is_so some = or_some (last_checkpoint before) (checkpoint_written entry) (written_some (state_at plan before) entry (kept_run plan before entry one).answered is_so)
    by false false was_so is_so none = absurd (false≢true none)

-- WHAT THE RUN LEAVES

some_of : (last : Option Row) → is_some last ≡ true → (row : Row) × (last ≡ Some row)
some_of None is = absurd (false≢true is)
some_of (Some row) is = (row, refl)

-- the changelog has its schema, and the last checkpoint's row is read
abbrev Reads : List ℕ → Option TableRows → Option Row → Type 0
Reads t log last = (option_map (λ (table : TableRows). table.schema) log ≡ Some (log_schema t)) × ((row : Row) → last ≡ Some row → is_some (checkpoint_of row) ≡ true)

-- *The checkpoint is stored and read*
record LogReads (plan : PlanData) (run : List Entry) : Type 0 where
  table : TableRows
  found : find_table (log_name plan.table) (state_at plan run).tables ≡ Some table
  schema : table.schema ≡ log_schema plan.table
  row : Row
  stored : checkpoint_stored plan.table (state_at plan run).tables ≡ Some row
  reads : is_some (checkpoint_of row) ≡ true

record HasCheckpoint (plan : PlanData) (run : List Entry) : Type 0 where
  work : Work
  phase : (moment plan run).tool.tool_phase ≡ Migrating work
  written : list_any writes_checkpoint run ≡ true
  exists : has_table (log_name plan.table) (state_at plan run).tables ≡ true

has_so : (plan : PlanData) (run : List Entry) → has_checkpoint plan run ≡ true → HasCheckpoint plan run
unfolding has_checkpoint
has_so plan run has = by (moment plan run).tool.tool_phase refl (list_any writes_checkpoint run) refl (has_table (log_name plan.table) (state_at plan run).tables) refl has where
  by : (phase : ToolPhase) → (moment plan run).tool.tool_phase ≡ phase → (a : Bool) → list_any writes_checkpoint run ≡ a → (b : Bool) → has_table (log_name plan.table) (state_at plan run).tables ≡ b → (is_migrating phase && a && b) ≡ true → HasCheckpoint plan run
  by (SettingUp setup tries) same a written b exists has = absurd (false≢true has)
  by (Migrating work) same true written true exists has = record { work = work; phase = same; written = written; exists = exists }
  by (Migrating work) same true written false exists has = absurd (false≢true has)
  by (Migrating work) same false written b exists has = absurd (false≢true has)

module _ (plan : PlanData) (m : Migration) (at : Clustered m.schema) (rows : List Row) (of : IsMigrationOf plan m rows) (tries : MayTry plan) (plain : PlainPlan plan) (opening : find_table m.name plan.tables ≡ Some (record { schema = m.schema; rows = rows }))
    (are_runs : (before : List Entry) → IsKept plan before → IsPlanRun plan before) where
  abbrev t : List ℕ
  t = plan.table

  -- before the RENAME
  reads_before : (journal : List Entry) → IsKept plan journal → IsShort journal → IsUnaltered plan journal → (work : Work) → (moment plan journal).tool.tool_phase ≡ Migrating work → Reads t (find_table (log_name t) (state_at plan journal).tables) (last_checkpoint journal)
  reads_before journal kept short off work phase = (
    stands,
    λ row last. ap is_some (checkpoints_are_read plan m at rows of tries plain opening journal work kept off phase short row (checkpoints_exist plan journal work of.runs of.serial tries kept off phase ∙ last)).read,
  ) where
    stands : LogStands plan (state_at plan journal).tables
    stands = (subst (ToolPhaseFits plan (state_at plan journal).tables (standing_of plan journal Insp).waits) phase (all_fit plan journal of.runs of.serial kept off)).log

  run_reads : (run : List Entry) → IsKept plan run → IsShort run → has_checkpoint plan run ≡ true → LogReads plan run
  run_reads run kept short has = by (list_any is_alter (histories.history plan run)) refl where
    checkpoint : HasCheckpoint plan run
    checkpoint = has_so plan run has

    left : (checkpoint_stored t (state_at plan run).tables ≡ last_checkpoint run) × Reads t (find_table (log_name t) (state_at plan run).tables) (last_checkpoint run) → LogReads plan run
    left is =
        let table = found_some (find_table (log_name t) (state_at plan run).tables) (log_schema t) is.1.0 in
        let last = some_of (last_checkpoint run) (last_some plan run kept checkpoint.written) in
        record { table = table.0; found = table.1; schema = table.2; row = last.0; stored = is.0 ∙ last.1; reads = is.1.1 last.0 last.1 }

    exists : find_table (log_name t) (state_at plan run).tables ≡ None → ⊥
    exists none = false≢true (sym (ap (λ (found : Option TableRows). is_some (option_map (λ (table : TableRows). table.schema) found)) none) ∙ sym (has_is (log_name t) (state_at plan run).tables) ∙ checkpoint.exists)

    by : (b : Bool) → list_any is_alter (histories.history plan run) ≡ b → LogReads plan run
    by false off = left (checkpoints_exist plan run checkpoint.work of.runs of.serial tries kept off checkpoint.phase, reads_before run kept short off checkpoint.work checkpoint.phase)
    by true marked = left (log_lasts plan of.runs of.serial tries are_runs (Reads t) IsShort (λ before entry short. short_front before (entry ∷ []) short) reads_before run kept short marked exists)

-- WHAT IS DONE

done_shows : (state : State) (number : ℕ) → (done state number requests.ShowTables).after.tables ≡ state.tables
unfolding did
done_shows state number = by (is_outside (session_of number state.sessions) requests.ShowTables) where
  by : (b : Bool) → (does (effect_unless b (is_in_transaction (session_of number state.sessions)) (view number state) state requests.ShowTables) state number).after.tables ≡ state.tables
  by true = refl
  by false = refl

-- a session that holds nothing wrote nothing
writes_free : (number : ℕ) (sessions : List Session) → AllByRecursion (IsFreeBut None) sessions → writes_of (session_of number sessions) ≡ []
writes_free number [] all = refl
writes_free number (first ∷ sessions) all = by (first.number == number) (writes_free number sessions all.1) where
  by : (b : Bool) → writes_of (session_of number sessions) ≡ [] → writes_of (cond b (Some first) (session_of number sessions)) ≡ []
  by true rest = (all.0.free refl).writes
  by false rest = rest

done_selects : (plan : PlanData) (state : State) (number : ℕ) → is_of_tool (session_of number state.sessions) ≡ true → is_outside (session_of number state.sessions) (reads_checkpoint plan) ≡ false → writes_of (session_of number state.sessions) ≡ [] → (table : TableRows) → find_table (log_name plan.table) state.tables ≡ Some table → table.schema ≡ log_schema plan.table
    → (done state number (reads_checkpoint plan)).answer ≡ answers.Rows (rows_found plan.table table.rows)
unfolding did after_events
done_selects plan state number tool inside none table found schema =
    ap (λ (request : Request). (did state number request).answer) (filled_so state number (reads_checkpoint plan) tool)
    ∙ ap (λ (b : Bool). (does (effect_unless b (is_in_transaction (session_of number state.sessions)) (view number state) state (reads_checkpoint plan)) state number).answer) inside
    ∙ by (is_in_transaction (session_of number state.sessions))
    ∙ ap (λ (result : StatementResult). result.answer) (select_says plan.table (view number state) table (seen ∙ found) schema) where
      seen : find_table (log_name plan.table) (view number state) ≡ find_table (log_name plan.table) state.tables
      seen = ap (λ events. find_table (log_name plan.table) (after_events state.tables events)) none

      by : (busy : Bool) → (does (result_effect busy (need_within (view number state) (reads_checkpoint plan)) (statement_result (view number state) (select plan.table))) state number).answer ≡ (statement_result (view number state) (select plan.table)).answer
      by true = refl
      by false = refl

-- WHAT STAYS

-- the changelog is as after the run
abbrev Same : PlanData → List Entry → List Entry → Type 0
Same plan run journal = find_table (log_name plan.table) (state_at plan journal).tables ≡ find_table (log_name plan.table) (state_at plan run).tables

abbrev LogAt : PlanData → List Entry → List Entry → Stage → Type 0
LogAt plan run journal Losing = Same plan run journal
LogAt plan run journal Listing = Same plan run journal
LogAt plan run journal (Reading seen) = Same plan run journal
LogAt plan run journal stage = Unit {0}

-- ONE TURN

module _ (plan : PlanData) (run : List Entry) (leaves : LogReads plan run) (journal : List Entry) (entry : Entry) (in_own : IsSeated journal entry) (unlost : entry.side ≡ None) (answered : IsAnswered (state_at plan journal) entry) (owners : Owners plan journal) where
  abbrev more : List Entry
  more = journal ++ entry ∷ []

  abbrev now : State
  now = state_at plan journal

  abbrev open_now : State
  open_now = opens entry now

  abbrev n : ℕ
  n = entry.session

  opened_tables : open_now.tables ≡ now.tables
  opened_tables = ap (λ (s : Stored). s.tables) (stored_opened (is_command entry.asked) (not (is_client entry.actor)) n now)

  abbrev Here : Stage → Type 0
  Here stage = LogAt plan run more stage

  cut_so : (asked : Asked) → is_cut asked ≡ true → asked ≡ Cut
  cut_so Cut cut = refl
  cut_so (Call request) cut = absurd (false≢true cut)
  cut_so Poll cut = absurd (false≢true cut)
  cut_so (Command word) cut = absurd (false≢true cut)

  losing_log : (live : Bool) → Same plan run more → Here (cond live Losing Listing)
  losing_log true same = same
  losing_log false same = same

  cut_same : is_cut entry.asked ≡ true → Same plan run journal → Same plan run more
  cut_same cut same = ap (λ (s : Stored). find_table (log_name plan.table) s.tables) (cut_keeps plan journal entry unlost (cut_so entry.asked cut)) ∙ same

  listed_log : (given : Answer) → Same plan run more → Here (listed plan given)
  listed_log (answers.Tables tables) same = same
  listed_log given same = same

  listing_same : entry.asked ≡ Call requests.ShowTables → IsHeldBy None now → Same plan run journal → Same plan run more
  listing_same called held same =
      ap (λ (s : State). find_table (log_name plan.table) s.tables) (after_is plan journal entry in_own.session unlost answered owners requests.ShowTables called (any_own (Some n) now held))
      ∙ ap (find_table (log_name plan.table)) (done_shows open_now n ∙ opened_tables) ∙ same

  -- THE CHECKPOINT IS READ

  of_tool : is_command entry.asked ≡ false → is_client entry.actor ≡ false → is_of_tool (session_of n open_now.sessions) ≡ true
  of_tool = session_of_tool journal now entry owners.both.living owners.both.known (placed journal entry in_own) answered

  first_read : (found : List Row) (row : Row) → first_of found ≡ Some row → is_some (checkpoint_of row) ≡ true → is_some (checkpoint_in (answers.Rows found)) ≡ true
  first_read [] row first reads = absurd (cc)
  first_read (one ∷ others) row first reads = let same : one ≡ row = cc in ap (λ (r : Row). is_some (checkpoint_of r)) same ∙ reads

  reading_reads : finishes.calls Insp (reads_checkpoint plan) ≡ Some (entry.actor, entry.asked) → IsHeldBy None now → Same plan run journal → is_some (checkpoint_in entry.answer) ≡ true
  reading_reads given held same =
      ap (λ (a : Answer). is_some (checkpoint_in a)) (answer_is plan journal entry in_own.session unlost answered owners (reads_checkpoint plan) called (any_own (Some n) now held) ∙ selected)
      ∙ first_read (rows_found plan.table leaves.table.rows) leaves.row (sym (stored_first plan.table (state_at plan run).tables leaves.table leaves.found leaves.schema) ∙ leaves.stored) leaves.reads where
        called : entry.asked ≡ Call (reads_checkpoint plan)
        called = its_request entry Insp (reads_checkpoint plan) given

        free : IsHeldBy None open_now
        free = opened_held None (is_command entry.asked) (not (is_client entry.actor)) n now held

        selected : (done open_now n (reads_checkpoint plan)).answer ≡ answers.Rows (rows_found plan.table leaves.table.rows)
        selected =
            done_selects plan open_now n (of_tool (ap is_command called) (ap is_client (its_actor entry Insp (reads_checkpoint plan) given)))
            (not_outside (session_of n open_now.sessions) (reads_checkpoint plan) (none_locked None n open_now.sessions free.sessions)) (writes_free n open_now.sessions free.sessions) leaves.table
            (ap (find_table (log_name plan.table)) opened_tables ∙ same ∙ leaves.found) leaves.schema

  counting_log : (found : Checkpoint) → Here (finishes.counting plan found)
  counting_log found = by (has_counter plan) where
    by : (b : Bool) → Here (cond b (ReadingCounter found) (Ranging found))
    by true = tt
    by false = tt

  read_log : (seen : Listed) (found : Option Checkpoint) → is_some found ≡ true → Here (has_read plan seen found)
  read_log seen None some = absurd (false≢true some)
  read_log (NotRenamed true) (Some found) some = tt
  read_log (NotRenamed false) (Some found) some = counting_log found
  read_log (Renamed old) (Some found) some = tt

  -- THE STAGES BEHIND

  counter_log : (found : Checkpoint) (given : Answer) → Here (finishes.counter_read found given)
  counter_log found (answers.At number) = tt
  counter_log found given = tt

  applying_log : (state : State) (applier : Applier) → Here (finishes.applying plan state applier)
  applying_log state applier = by (appliers.starts applier && (unread state applier.position (plan.table ∷ log_name plan.table ∷ []) == 0)) where
    by : (b : Bool) → Here (cond b Exchanging (Applying applier))
    by true = tt
    by false = tt

  copying_log : (state : State) (copier : Copier) (applier : Applier) → Here (finishes.copying plan state copier applier)
  copying_log state copier applier = by copier.is_copied where
    by : (b : Bool) → Here (cond b (finishes.applying plan state applier) (Copying copier applier))
    by true = applying_log state applier
    by false = tt

  copied_log : (state : State) (turn : ℕ) (applier : Applier) (before then : Copier) (progress : Progress) → Here (finishes.copied plan state turn applier before then progress)
  copied_log state turn applier before then (Unfit column number) = tt
  copied_log state turn applier before then progress = copying_log state then applier

  applied_log : (state : State) (turn : ℕ) (before then : Applier) (progress : Progress) → Here (finishes.applied plan state turn before then progress)
  applied_log state turn before then (Unfit column number) = tt
  applied_log state turn before then progress = applying_log state then

  ranged_log : (state : State) (found : Checkpoint) (given : Answer) → Here (finishes.ranged plan state found given)
  ranged_log state found (answers.Ends range) = copying_log state (finishes.copier_from plan found.reach range) (finishes.applier_from plan found.position)
  ranged_log state found given = tt

  dropped_log : (old : Bool) → Here (finishes.dropped_log old)
  dropped_log true = tt
  dropped_log false = tt

  -- what the turn reads, and what it leaves
  record Goes (stage then : Stage) : Type 0 where
    reads : (seen : Listed) → stage ≡ Reading seen → is_some (checkpoint_in entry.answer) ≡ true
    log : Here then

  none_seen : (stage then : Stage) → ((seen : Listed) → stage ≡ Reading seen → ⊥) → Here then → Goes stage then
  none_seen stage then other log = record { reads = λ seen same. absurd (other seen same); log = log }

  turn_goes : (stage : Stage) → next plan journal stage ≡ Some (entry.actor, entry.asked) → StandsAlone journal now stage → LogAt plan run journal stage → Goes stage (took plan more (state_at plan more) entry.answer stage)
  unfolding next took
  turn_goes Losing is held log = none_seen Losing _ (λ seen same. cc) (losing_log (is_some (first_live plan more)) (cut_same (lost_cut entry (first_live plan journal) is) log))
  turn_goes Listing is held log = none_seen Listing _ (λ seen same. cc) (listed_log entry.answer (listing_same (its_request entry Insp requests.ShowTables is) held log))
  turn_goes (Reading seen) is held log = let some : is_some (checkpoint_in entry.answer) ≡ true = reading_reads is held log in record { reads = λ one same. some; log = read_log seen (checkpoint_in entry.answer) some }
  turn_goes (Clearing found) is held log = none_seen (Clearing found) _ (λ seen same. cc) (counting_log found)
  turn_goes (ReadingCounter found) is held log = none_seen (ReadingCounter found) _ (λ seen same. cc) (counter_log found entry.answer)
  turn_goes (SettingCounter found number) is held log = none_seen (SettingCounter found number) _ (λ seen same. cc) tt
  turn_goes (Ranging found) is held log = none_seen (Ranging found) _ (λ seen same. cc) (ranged_log (state_at plan more) found entry.answer)
  turn_goes (Copying copier applier) is held log =
      none_seen (Copying copier applier) _ (λ seen same. cc) (copied_log (state_at plan more) (length more) applier copier (copiers.took (length more) copier entry.answer) (copiers.progress copier entry.answer))
  turn_goes (Applying applier) is held log = none_seen (Applying applier) _ (λ seen same. cc) (applied_log (state_at plan more) (length more) applier (appliers.took (length more) applier entry.answer) (appliers.progress applier entry.answer))
  turn_goes Exchanging is held log = none_seen Exchanging _ (λ seen same. cc) tt
  turn_goes (DroppingLog old) is held log = none_seen (DroppingLog old) _ (λ seen same. cc) (dropped_log old)
  turn_goes DroppingOld is held log = none_seen DroppingOld _ (λ seen same. cc) tt
  turn_goes (RollingBack row) is held log = none_seen (RollingBack row) _ (λ seen same. cc) tt
  turn_goes Done is held log = absurd (cc)
  turn_goes (Reverted row) is held log = absurd (cc)

-- ALONG THE TURNS

abbrev ReadsNow : PlanData → List Entry → List Entry → Entry → Type 0
ReadsNow plan run before entry = (seen : Listed) → stage_behind plan run (drop (length run) before) ≡ Reading seen → is_some (checkpoint_in entry.answer) ≡ true

abbrev Turn : PlanData → List Entry → List Entry → Entry → Type 0
Turn plan run before entry = IsFinishTurn plan run before entry × IsAnswered (state_at plan before) entry

all_read : (plan : PlanData) (run : List Entry) → LogReads plan run → (turns rest : List Entry) → Along (Turn plan run) (run ++ turns) rest → GoesAlone plan run turns → LogAt plan run (run ++ turns) (stage_behind plan run turns) → Along (ReadsNow plan run) (run ++ turns) rest
all_read plan run leaves turns [] kept alone log = tt
all_read plan run leaves turns (entry ∷ rest) kept alone log =
    let journal : List Entry = run ++ turns in
    let more : List Entry = journal ++ entry ∷ [] in
    let stage : Stage = stage_behind plan run turns in
    let all : run ++ (turns ++ entry ∷ []) ≡ more = sym (append_assoc run turns (entry ∷ [])) in
    let seam : drop (length run) journal ≡ turns = drop-append_seam run turns in
    let given : next plan journal stage ≡ Some (entry.actor, entry.asked) = ap (λ (some : List Entry). next plan journal (stage_behind plan run some)) (sym seam) ∙ kept.0.0.given in
    let goes = turn_goes plan run leaves journal entry (record { session = kept.0.0.session }) kept.0.0.side kept.0.1 alone.owners stage given alone.stands log in
    let later : Along (ReadsNow plan run) (run ++ (turns ++ entry ∷ [])) rest =
    all_read plan run leaves (turns ++ entry ∷ []) rest (subst (λ (j : List Entry). Along (Turn plan run) j rest) (append_assoc run turns (entry ∷ [])) kept.1) (alone_more plan run turns entry kept.0.0 kept.0.1 alone).goes
    (subst (λ (j : List Entry). LogAt plan run j (stage_behind plan run (turns ++ entry ∷ []))) (sym all) (subst (LogAt plan run more) (sym (stage_more plan run turns entry)) goes.log)) in
    ((λ seen same. goes.reads seen (ap (stage_behind plan run) (sym seam) ∙ same)), subst (λ (j : List Entry). Along (ReadsNow plan run) j rest) all later)

-- *Finishes read the checkpoint*
pub finishes_read_checkpoints : FinishesReadCheckpoints
unfolding stage_behind
finishes_read_checkpoints plan m at rows of tries plain opening are_runs run turns kept short has finish faithful =
    subst (λ (j : List Entry). Along (ReadsNow plan run) j turns) (append-nil run)
    (all_read plan run (run_reads plan m at rows of tries plain opening are_runs run kept short has) [] turns (subst (λ (all : List Entry). Along (Turn plan run) all turns) (sym (append-nil run)) (finish_turns plan run turns finish faithful)) (alone_begins plan run kept)
    (subst (λ (j : List Entry). LogAt plan run j (losing plan run)) (sym (append-nil run)) (by (is_some (first_live plan run))))) where
      by : (live : Bool) → LogAt plan run run (cond live Losing Listing)
      by true = refl
      by false = refl
