-- The copy goes on: each call of the copier's is done, but what waits, and a row that doesn't fit.
use Rattle.std.proofs.Common.{◌≡◌, ◌≤◌, ℕ, zero, suc, Bool, true, false, cond, List, [], ◌∷◌, ◌++◌, length, take, Option, Some, None, refl, sym, ap, ◌∙◌, subst, arith}
use Rattle.std.specs.Option.{option_map}
use Rattle.std.proofs.lemmas.Bool.{true≢false, false≢true}
use Rattle.std.proofs.lemmas.Option.{none-some}
use Rattle.std.proofs.lemmas.List.{length-map}
use Rattle.base_script.specs.declared.actor.Actor.{Actor}
use Rattle.base_script.specs.declared.actor.Actor.TheVariants.{Copy}
use Rattle.base_values.specs.Laws.{StoresAgain}
use Rattle.base_values.specs.GhoSchema.Rows.{key_of, key_places}
use Rattle.base_values.specs.Spans.{has as in_span}
use Rattle.base_values.specs.ToolNames.{ghost_name}
use Rattle.base_values.specs.declared.span.Bound.{Bound}
use Rattle.base_values.specs.declared.span.Span.{Span}
use Rattle.base_values.specs.declared.value.Value.{Value}
use Rattle.base_values.specs.declared.row_conversion.map.MapColumn.{MapColumn}
use Rattle.table_store.specs.Databases.{Database, TableRows, find_table, rows_in}
use Rattle.server_model.specs.Chunks.{keys_in, span_keys}
use Rattle.server_model.specs.Blockers.{need_within}
use Rattle.server_model.specs.Effects.{begins, effect_unless, is_outside}
use Rattle.server_model.specs.Entries.{is_command, is_cut}
use Rattle.server_model.specs.PlainServer.{does, done, did}
use Rattle.server_model.specs.States.{State, is_in_transaction, session_of, view}
use Rattle.server_model.specs.declared.answer.Answer.{Answer}
use Rattle.server_model.specs.declared.answer.Answer.TheVariants as answers
use Rattle.server_model.specs.declared.entry.Entry.{Entry}
use Rattle.server_model.specs.declared.request.Request.{Request}
use Rattle.server_model.specs.declared.request.Request.TheVariants as requests
use Rattle.plan_data.specs.PlanData.{PlanData, new_map, old_schema}
use Rattle.tool_program.specs.CutoverCore.CutOvers.{is_wait}
use Rattle.tool_program.specs.JournalWords.Bounds.{keys, measures}
use Rattle.tool_program.specs.JournalWords.Journals.{opens, state_at}
use Rattle.tool_program.specs.Programs.{given, tool_asks}
use Rattle.tool_program.specs.Tools.{Migrating, Work, is_reverting, moment}
use Rattle.tool_program.specs.declared.chunk_copier.copier.CopyStep.{CopyStep}
use Rattle.tool_program.specs.declared.chunk_copier.copier.CopyStep.TheVariants.{Choosing, Spanning, Copying, Committing}
use Rattle.proof_journals.specs.Holdings.{face_in}
use Rattle.proof_journals.specs.Machine.Machines.{Stands, ToolPhaseStands, WorkStands, copier_asks, copier_busy}
use Rattle.proof_journals.specs.Machine.MigrationTables.{ToolPhaseTables, Uncopied}
use Rattle.proof_journals.specs.Machine.Runnable.{IsRunnable}
use Rattle.proof_journals.specs.Machine.Standings.{IsAbout, Standing, answers_to, is_called, is_polled, standing_of}
use Rattle.proof_journals.specs.Machine.TableKeys.{IsKeyed}
use Rattle.proof_journals.specs.Plans.{IsSerialPlan}
use Rattle.proof_journals.specs.Run.Kept.{IsKept}
use Rattle.proof_journals.specs.ServerTurns.Others.{DefinitionsAreDone}
use Rattle.proof_journals.proofs.Machine.Asking.{copier_next, waits_asks}
use Rattle.proof_journals.proofs.Machine.Journals.{Asking, IsRun, IsTogether, calls_so, copier_had, polls_so}
use Rattle.proof_journals.proofs.Machine.Keyed.{IsKeyedAll, all_keyed, copy_called}
use Rattle.proof_journals.proofs.Machine.Seated.{IsOpen, IsServed, is_open, own_fits}
use Rattle.proof_journals.proofs.Machine.Staying.{tables_stay}
use Rattle.proof_migration.proofs.Program.Turns.Follows.{kept_front, kept_run}
use Rattle.proof_migration.proofs.Program.Turns.NextCalls.{copy_next}
use Rattle.proof_migration.proofs.ToolPhase.Chunks.Onlines.{all_untouched, ends_turn}
use Rattle.proof_migration.proofs.ToolPhase.Chunks.Uncopied.{IsUntouched}
use Rattle.proof_migration.proofs.ToolPhase.CopyAnswers.{CopyFits, not_outside, own_copy}
use Rattle.proof_migration.proofs.ToolPhase.Hearing.{IsFoundBy, opened_tables, own_answer}
use Rattle.proof_bounds.specs.TaskTurns.Answers.{ChunkAnswer}
use Rattle.proof_bounds.specs.TaskTurns.Chunks.{ChunksGoOn, RowsStayFew}
use Rattle.proof_bounds.proofs.TaskTurns.OwnTurns.{own_asking}
use Rattle.proof_bounds.proofs.TaskTurns.Past.{uncopied_unaltered}

-- WHAT IS DONE

taken_less : {A : Type 0} (n : ℕ) (xs : List A) → length (take n xs) ≤ length xs
taken_less zero xs = omega arith
taken_less (suc n) [] = omega arith
taken_less (suc n) (x ∷ xs) = let rest = taken_less n xs in omega (arith, rest)

filtered_less : {A : Type 0} (test : A → Bool) (xs : List A) → length (Rattle.std.specs.Prelude.filter test xs) ≤ length xs
filtered_less test [] = omega arith
filtered_less test (x ∷ xs) = by (test x) (filtered_less test xs) where
  by : (b : Bool) → length (Rattle.std.specs.Prelude.filter test xs) ≤ length xs → length (cond b (x ∷ Rattle.std.specs.Prelude.filter test xs) (Rattle.std.specs.Prelude.filter test xs)) ≤ length (x ∷ xs)
  by true rest = omega (arith, rest)
  by false rest = omega (arith, rest)

module _ (most : ℕ) where
  -- where a chunk ends
  end_answered : (found : State) (number : ℕ) (table : List ℕ) (low : Bound) (top : List Value) (size : ℕ) (one : TableRows) → find_table table found.tables ≡ Some one → is_outside (session_of number found.sessions) (requests.ChunkEnd table low top size) ≡ false
      → ChunkAnswer most Choosing (done found number (requests.ChunkEnd table low top size)).answer
  unfolding did
  end_answered found number table low top size one there inside =
      subst (λ (b : Bool). ChunkAnswer most Choosing (does (effect_unless b (is_in_transaction (session_of number found.sessions)) (view number found) found (requests.ChunkEnd table low top size)) found number).answer) (sym inside)
      (subst (λ (o : Option TableRows). ChunkAnswer most Choosing (Rattle.server_model.specs.Effects.of_table o (λ t. answers.End (Rattle.server_model.specs.Chunks.chunk_end low top size t)))) (sym there) tt)

  -- a chunk's keys
  span_answered : (found : State) (number : ℕ) (table : List ℕ) (span : Span) (size reported limit : ℕ) (one : TableRows) → find_table table found.tables ≡ Some one → length one.rows ≤ most → is_outside (session_of number found.sessions) (requests.BeginSpan table span size) ≡ false
      → ChunkAnswer most (Spanning reported limit) (done found number (requests.BeginSpan table span size)).answer
  unfolding did span_keys
  span_answered found number table span size reported limit one there few inside =
      subst (λ (b : Bool). ChunkAnswer most (Spanning reported limit) (does (effect_unless b (is_in_transaction (session_of number found.sessions)) (view number found) found (requests.BeginSpan table span size)) found number).answer) (sym inside)
      (subst (λ (o : Option TableRows). ChunkAnswer most (Spanning reported limit) (does (begins o span size (need_within (view number found) (requests.BeginSpan table span size))) found number).answer) (sym there) keys_less) where
        keys_less : length (take size (keys_in span one)) ≤ most
        keys_less =
            let taken = taken_less size (keys_in span one) in
            let mapped : length (keys_in span one) ≡ length (rows_in one span) = length-map (rows_in one span) (key_of (key_places one.schema)) in
            let kept : length (rows_in one span) ≤ length one.rows = filtered_less (λ (row : List Value). in_span span (key_of (key_places one.schema) row)) one.rows in
            omega (arith, taken, mapped, kept, few)

-- what a copy is answered
copy_answered : (most : ℕ) (seen : Database) (from into : List ℕ) (columns : List MapColumn) (key : List Value) (chunk : _) (copied : ℕ) (answer : Answer) → CopyFits seen from columns key answer → ChunkAnswer most (Copying chunk copied) answer
copy_answered most seen from into columns key chunk copied (answers.Refused number None) fits = fits
copy_answered most seen from into columns key chunk copied (answers.Refused number (Some place)) fits = tt
copy_answered most seen from into columns key chunk copied (answers.Ok count) fits = tt
copy_answered most seen from into columns key chunk copied (answers.Waits by) fits = tt
copy_answered most seen from into columns key chunk copied (answers.TimedOut waited) fits = tt
copy_answered most seen from into columns key chunk copied answers.Lost fits = tt
copy_answered most seen from into columns key chunk copied answer fits = absurd fits

commit_answered : (most : ℕ) (chunk : _) (answer : Answer) → answers_to requests.Commit answer ≡ true → ChunkAnswer most (Committing chunk) answer
commit_answered most chunk (answers.Ok count) fits = tt
commit_answered most chunk answers.Lost fits = tt
commit_answered most chunk answer fits = absurd (false≢true fits)

-- THE TURN

module _ (again : StoresAgain) (defined : DefinitionsAreDone) (plan : PlanData) (runs : IsRunnable plan) (serial : IsSerialPlan plan) (rows_few : RowsStayFew plan) (journal : List Entry) (entry : Entry) (kept_more : IsKept plan (journal ++ entry ∷ [])) (work : Work) (eq : (moment plan journal).tool.tool_phase ≡ Migrating work)
    (going : is_reverting (moment plan journal).tool.reason ≡ false) (off : work.copier.is_copied ≡ false) (idle_choosing : work.copier.step ≡ Choosing → (standing_of plan journal Copy).waits ≡ None) (who : entry.actor ≡ Copy) (called : is_command entry.asked ≡ false) (uncut : is_cut entry.asked ≡ false) where
  abbrev now : State
  now = state_at plan journal

  abbrev has : Actor → Standing
  has = standing_of plan journal

  abbrev most_rows : ℕ
  most_rows = keys (measures plan)

  kept : IsKept plan journal
  kept = kept_front plan journal (entry ∷ []) kept_more

  run : IsRun plan journal entry
  run = kept_run plan journal entry kept_more

  untouched : IsUntouched plan journal
  untouched = all_untouched plan journal runs.fitting runs.stands kept.faithful kept.follows

  together : IsTogether plan journal
  together = untouched.tabled.all.tool

  served : IsServed plan journal entry
  served = record { answered = run.answered; seated = record { session = run.followed.session } }

  keyed : IsKeyedAll plan journal
  keyed = all_keyed plan journal runs.fitting runs.stands (tables_stay plan journal runs.fitting runs.tables kept.faithful kept.follows) kept.faithful kept.follows

  uncopied : Uncopied plan now.tables has work
  uncopied = (subst (ToolPhaseTables plan now.tables has) eq untouched.tabled.tables).going off

  work_stands : WorkStands journal (is_reverting (moment plan journal).tool.reason) has work
  work_stands = subst (ToolPhaseStands journal has (is_reverting (moment plan journal).tool.reason)) eq together.stands

  stood : Stands (copier_asks work.copier.step) (copier_busy work.copier.step) [] (has Copy)
  stood = copier_had plan journal entry together run work work_stands going

  copy_given : given plan journal Copy ≡ tool_asks plan journal (moment plan journal) Copy
  unfolding given
  copy_given = refl

  -- WHAT IS ASKED

  record CopyAsks : Type 0 where
    request : Request
    is_about : IsAbout request (has Copy) entry.asked
    kind : copier_asks work.copier.step request ≡ true
    keys_so : IsKeyed plan request

  copy_asks : CopyAsks
  copy_asks = by (own_asking plan journal entry together run Copy copy_given who uncut) where
    by : Asking plan journal Copy entry.asked → CopyAsks
    by (calls_so request asks idle call) = record {
      request = request;
      is_about = is_called asks idle;
      kind = copier_next journal work.copier request (copy_next plan journal work eq going request call);
      keys_so = copy_called plan journal request (moment plan journal).tool.tool_phase keyed.tool_phase call;
    }
    by (polls_so request asks some) = record { request = request; is_about = is_polled asks some; kind = waits_asks (copier_asks work.copier.step) (has Copy).waits request stood.waits some; keys_so = keyed.waits Copy request some refl }

  about_own : (request : Request) → IsAbout request (has Copy) entry.asked → IsAbout request (has entry.actor) entry.asked
  about_own request is_about = subst (λ (a : Actor). IsAbout request (has a) entry.asked) (sym who) is_about

  -- WHERE IT IS DONE

  opened_one : IsOpen plan journal entry together.known served
  opened_one = is_open plan journal entry together.known served called

  inside : (request : Request) (found : State) → IsFoundBy found (opens entry now) → is_outside (session_of entry.session found.sessions) request ≡ false
  inside request found is =
      ap (λ sessions. is_outside (session_of entry.session sessions) request) is.sessions
      ∙ not_outside (session_of entry.session (opens entry now).sessions) request (ap (λ o. (face_in o).locked) opened_one.is ∙ ap (λ (s : Standing). s.locked) (sym opened_one.stands) ∙ ap (λ (a : Actor). (has a).locked) who ∙ stood.locked)

  -- the migrated table
  record Own : Type 0 where
    table : TableRows
    there : find_table plan.table now.tables ≡ Some table
    few : length table.rows ≤ most_rows

  own : Own
  own = by (find_table plan.table now.tables) refl uncopied.tables.old where
    by : (found : Option TableRows) → find_table plan.table now.tables ≡ found → option_map (λ table. table.schema) found ≡ Some (old_schema plan) → Own
    by None none is = absurd cc
    by (Some table) there is = record { table = table; there = there; few = rows_few journal kept (uncopied_unaltered defined plan runs serial journal kept work eq off) table there }

  found_there : (found : State) → IsFoundBy found (opens entry now) → find_table plan.table found.tables ≡ Some own.table
  found_there found is = ap (find_table plan.table) (is.tables ∙ opened_tables plan journal entry) ∙ own.there

  -- WHAT IS ANSWERED

  -- a chunk's end doesn't wait
  ends : (low : Bound) (top : List Value) (size : ℕ) → IsAbout (requests.ChunkEnd plan.table low top size) (has Copy) entry.asked → (has Copy).waits ≡ None → ChunkAnswer most_rows Choosing entry.answer
  ends low top size (is_polled asks some) idle = absurd (none-some _ (sym idle ∙ some))
  ends low top size (is_called asks none) idle =
      own_answer (λ (a : Answer). is_wait a ≡ false → ChunkAnswer most_rows Choosing a) (record { waits = λ by waits. absurd (true≢false waits); timed = λ waited unwaited. tt; lost = λ unwaited. tt }) plan journal entry together.known served request (about_own request (is_called asks none))
      (λ found is unwaited. end_answered most_rows found entry.session plan.table low top size own.table (found_there found is) (inside request found is)) (ends_turn plan journal entry untouched run plan.table low top size who asks) where
        request : Request
        request = requests.ChunkEnd plan.table low top size

  spans : (reported limit : ℕ) (span : Span) (size : ℕ) → IsAbout (requests.BeginSpan plan.table span size) (has Copy) entry.asked → ChunkAnswer most_rows (Spanning reported limit) entry.answer
  spans reported limit span size is_about =
      own_answer (ChunkAnswer most_rows (Spanning reported limit)) (record { waits = λ by. tt; timed = λ waited. tt; lost = tt }) plan journal entry together.known served request (about_own request is_about)
      (λ found is. span_answered most_rows found entry.session plan.table span size reported limit own.table (found_there found is) own.few (inside request found is)) where
        request : Request
        request = requests.BeginSpan plan.table span size

  copies : (chunk : _) (copied : ℕ) (key : List Value) → IsAbout (requests.CopyRow plan.table (ghost_name plan.table) (new_map plan) key) (has Copy) entry.asked → ChunkAnswer most_rows (Copying chunk copied) entry.answer
  copies chunk copied key is_about =
      copy_answered most_rows (view entry.session (opens entry now)) plan.table (ghost_name plan.table) (new_map plan) key chunk copied entry.answer
      (own_copy again plan runs.mapped journal entry together.known served key (about_own _ is_about) (ap (λ (a : Actor). (has a).locked) who ∙ stood.locked) uncopied.tables)

  by_step : (step : CopyStep) → work.copier.step ≡ step → (request : Request) → copier_asks step request ≡ true → IsKeyed plan request → IsAbout request (has Copy) entry.asked → ChunkAnswer most_rows step entry.answer
  by_step Choosing at (requests.ChunkEnd table low top size) kind keys_so is_about = ends low top size (subst (λ (t : List ℕ). IsAbout (requests.ChunkEnd t low top size) (has Copy) entry.asked) keys_so.0 is_about) (idle_choosing at)
  by_step (Spanning reported limit) at (requests.BeginSpan table span size) kind keys_so is_about = spans reported limit span size (subst (λ (t : List ℕ). IsAbout (requests.BeginSpan t span size) (has Copy) entry.asked) keys_so.0 is_about)
  by_step (Copying chunk copied) at (requests.CopyRow from into columns key) kind keys_so is_about =
      copies chunk copied key
      (subst (λ (m : List MapColumn). IsAbout (requests.CopyRow plan.table (ghost_name plan.table) m key) (has Copy) entry.asked) keys_so.2
      (subst (λ (n : List ℕ). IsAbout (requests.CopyRow plan.table n columns key) (has Copy) entry.asked) keys_so.1 (subst (λ (n : List ℕ). IsAbout (requests.CopyRow n into columns key) (has Copy) entry.asked) keys_so.0 is_about)))
  by_step (Committing chunk) at requests.Commit kind keys_so is_about = commit_answered most_rows chunk entry.answer (own_fits plan journal entry together.known served requests.Commit (about_own requests.Commit is_about))
  by_step step at request kind keys_so is_about = absurd cc

  answered_so : ChunkAnswer most_rows work.copier.step entry.answer
  answered_so = by_step work.copier.step refl copy_asks.request copy_asks.kind copy_asks.keys_so copy_asks.is_about

-- *The copy goes on*
pub chunks_go : StoresAgain → DefinitionsAreDone → (plan : PlanData) → IsRunnable plan → IsSerialPlan plan → RowsStayFew plan → ChunksGoOn plan
chunks_go again defined plan runs serial rows_few journal entry kept_more work eq going off idle_choosing who called uncut = answered_so again defined plan runs serial rows_few journal entry kept_more work eq going off idle_choosing who called uncut
