-- The new tool's applier goes on: it reads some event, its transactions begin and are committed, and no statement is refused but by a column
-- that a value doesn't fit, or an UPDATE by another row's key.
use Rattle.std.proofs.Common.{◌≡◌, ℕ, zero, suc, ◌+◌, ◌≤◌, ◌==◌, Bool, true, false, not, List, [], ◌∷◌, ◌++◌, length, map, take, cond, Option, Some, None, refl, sym, ap, ◌∙◌, subst, arith}
use Rattle.std.specs.Prelude.{count_by, drop}
use Rattle.std.specs.List.{slice_get}
use Rattle.std.specs.Option.{option_map}
use Rattle.std.proofs.lemmas.Bool.{false≢true}
use Rattle.base_values.specs.ToolNames.{log_name}
use Rattle.base_values.specs.declared.event.RowEvent.{RowEvent}
use Rattle.base_script.specs.declared.actor.Actor.TheVariants.{Apply}
use Rattle.table_store.specs.Databases.{Database, TableRows}
use Rattle.server_model.specs.Answers.{ok}
use Rattle.server_model.specs.EarlierAnswers.{events_in}
use Rattle.server_model.specs.Effects.{is_outside}
use Rattle.server_model.specs.Entries.{answer_at, is_client, is_command}
use Rattle.server_model.specs.Listings.{ReadEvent, after_last, events_read, read_from}
use Rattle.server_model.specs.LockedRows.Databases.{IsWellFormedDatabase}
use Rattle.server_model.specs.Operations.{after_events}
use Rattle.server_model.specs.PlainServer.{did, done}
use Rattle.server_model.specs.States.{State, is_of, is_of_tool, session_of, view, writes_of}
use Rattle.server_model.specs.declared.answer.Answer.{Answer}
use Rattle.server_model.specs.declared.answer.Answer.TheVariants as answers
use Rattle.server_model.specs.declared.entry.Asked.{Asked}
use Rattle.server_model.specs.declared.entry.Asked.TheVariants.{Call}
use Rattle.server_model.specs.declared.entry.Entry.{Entry}
use Rattle.server_model.specs.declared.request.Request.{Request}
use Rattle.server_model.specs.declared.request.Request.TheVariants as requests
use Rattle.plan_data.specs.PlanData.{PlanData}
use Rattle.tool_program.specs.JournalWords.Journals.{opens, state_at, IsAnswered}
use Rattle.tool_program.specs.JournalWords.Sessions.{IsSeated}
use Rattle.tool_program.specs.EventApplier.Appliers.{Doing, in_part, planned}
use Rattle.tool_program.specs.EventApplier.Appliers as appliers
use Rattle.tool_program.specs.declared.chunk_copier.copier.Copier.{Copier}
use Rattle.tool_program.specs.declared.event_applier.applier.Applier.{Applier}
use Rattle.tool_program.specs.declared.event_applier.applier.ApplyStep.{ApplyStep}
use Rattle.tool_program.specs.declared.event_applier.applier.ApplyStep.TheVariants as batches
use Rattle.tool_program.specs.declared.event_applier.applier.Batch.{Batch}
use Rattle.tool_program.specs.declared.event_applier.applier.Part.{Part}
use Rattle.proof_journals.specs.Ghost.HeldKeys.{Clustered}
use Rattle.proof_journals.specs.Ghost.Rows.Moments.{Row}
use Rattle.proof_journals.specs.Ghost.Rows.Timelines.{Migration}
use Rattle.proof_journals.specs.Holdings.{Face, face_of}
use Rattle.proof_journals.specs.Machine.MigrationTables.{schema_of}
use Rattle.proof_journals.specs.Plans.{limits_of, scene_of, IsPlanRun}
use Rattle.proof_journals.specs.Scenes.{Stored}
use Rattle.proof_journals.specs.ServerFacts.Invariants.{IsServing}
use Rattle.proof_journals.specs.Turns.{about, IsReported, IsSceneRun}
use Rattle.proof_journals.proofs.Actors.{placed}
use Rattle.proof_journals.proofs.Faces.{faces_opened, writes_face}
use Rattle.proof_journals.proofs.Ghost.Fitting.{fitting_end, well_formed_events}
use Rattle.proof_journals.proofs.Ghost.Reading.{read_is}
use Rattle.proof_journals.proofs.Ghost.Running.{any_kept}
use Rattle.proof_journals.proofs.Ghost.Turns.{along_next, run_front}
use Rattle.proof_journals.proofs.Journals.{stored_opened}
use Rattle.proof_journals.proofs.Machine.Schemas.{schema_events}
use Rattle.proof_journals.proofs.Machine.Seated.{IsKnown}
use Rattle.proof_journals.proofs.PlanJournals.{plan_runs_are_scene_runs}
use Rattle.proof_journals.proofs.Sentry.Draining.{IsRead}
use Rattle.proof_migration.specs.Migration.Applier.ApplierPlace.{StepKnows}
use Rattle.proof_migration.specs.Migration.Machines.{MigrationStands}
use Rattle.proof_migration.specs.Program.Turns.Laws.{IsMigrationOf}
use Rattle.proof_migration.proofs.Migration.Applier.NextStatement.{NextStatement, next_statement}
use Rattle.proof_bounds.proofs.TaskTurns.BatchesGo.{part_so}
use Rattle.proof_migration.proofs.ToolServes.{session_of_tool}
use Rattle.proof_migration.proofs.Migration.Applier.Answers.{TableSeen}
use Rattle.proof_migration.proofs.Migration.Applier.Knowing.{next_at}
use Rattle.proof_migration.proofs.Migration.Applier.Statements.{said}
use Rattle.proof_migration.proofs.Program.Hints.Telling.{both_tables, reading_said}
use Rattle.proof_migration.proofs.ToolPhase.CopyAnswers.{not_outside}
use Rattle.proof_bounds.specs.TaskTurns.Answers.{left_at, IsClash}
use Rattle.proof_bounds.proofs.TaskTurns.BatchSteps.{PartFits}
use Rattle.proof_bounds.proofs.TaskTurns.ReadLogs.{reads_some, ReadsSome}
use Rattle.proof_bounds.proofs.TaskTurns.StatementAnswers.{done_so, seen_so, StatementAnswer}
use Rattle.proof_resume.specs.Finish.Batches.{LetsGoOn}
use Rattle.proof_resume.specs.Finish.Prompt.{came_at_once}
use Rattle.proof_migration.specs.Program.Turns.Goes.{machines_of, StandsFor}
use Rattle.proof_resume.proofs.Finish.Batches.{reads_let_go_on}
use Rattle.proof_resume.proofs.Finish.BoundsLogs.{applies_here, some_sessions}
use Rattle.proof_resume.proofs.Finish.Holders.{opened_held, IsHeldBy}
use Rattle.proof_resume.proofs.Finish.Machines.{IsApplierOf}
use Rattle.proof_resume.proofs.Finish.Owners.{Owners}
use Rattle.proof_resume.proofs.Finish.Prompt.{answer_is}
use Rattle.proof_resume.proofs.Finish.Verdicts.{none_locked}

-- WHAT IS DONE

done_reads : (position limit : ℕ) (tables : List (List ℕ)) (state : State) (number : ℕ) → is_outside (session_of number state.sessions) (requests.ReadLog position limit tables) ≡ false → (done state number (requests.ReadLog position limit tables)).answer ≡ events_read position limit tables state.log
unfolding did
done_reads position limit tables state number inside = rw inside refl

done_begins : (state : State) (number : ℕ) → is_outside (session_of number state.sessions) requests.Begin ≡ false → (done state number requests.Begin).answer ≡ ok
unfolding did
done_begins state number inside = rw inside refl

done_commits : (state : State) (number : ℕ) → is_outside (session_of number state.sessions) requests.Commit ≡ false → (done state number requests.Commit).answer ≡ ok
unfolding did
done_commits state number inside = rw inside refl

-- where some are left the position is in the log
within_log : (test : RowEvent → Bool) (position : ℕ) (log : List RowEvent) → 1 ≤ count_by test (drop position log) → position ≤ length log
within_log test zero log some = omega arith
within_log test (suc position) [] some = absurd (no some) where
  no : 1 ≤ 0 → ⊥
  no less = omega (arith, less)
within_log test (suc position) (event ∷ log) some = let less = within_log test position log some in omega (arith, less)

-- what was planned for the batch whose events were read
abbrev pub batch_doings : List Entry → Applier → Batch → List Doing
batch_doings journal applier batch = planned applier (events_in (answer_at journal batch.read))

-- these are the statements of the batch at this step
abbrev pub AreDoings : (Batch → List Doing) → List Doing → ApplyStep → Type 0
AreDoings doings_of doings (batches.Beginning batch) = doings_of batch ≡ doings
AreDoings doings_of doings (batches.Applying batch done part) = doings_of batch ≡ doings
AreDoings doings_of doings step = Unit {0}

-- THE TURN

module _ (plan : PlanData) (m : Migration) (at : Clustered m.schema) (rows : List Row) (of : IsMigrationOf plan m rows) (journal : List Entry) (entry : Entry) (in_own : IsSeated journal entry) (unlost : entry.side ≡ None) (answered : IsAnswered (state_at plan journal) entry) (owners : Owners plan journal) (known : IsKnown plan journal)
    (known_more : IsKnown plan (journal ++ entry ∷ [])) (serving : IsServing (state_at plan journal)) (run : IsPlanRun plan (journal ++ entry ∷ [])) (copier : Copier) (applier : Applier) (stands : StandsFor plan m at rows journal copier applier) (of_plan : IsApplierOf plan applier) (sized : applier.batch ≡ plan.options.dml_batch_size)
    (who : entry.actor ≡ Apply) (called : entry.asked ≡ Call (appliers.next journal applier)) (held : IsHeldBy (Some entry.session) (state_at plan journal)) (at_once : came_at_once entry.answer ≡ true) where
  abbrev more : List Entry
  more = journal ++ entry ∷ []

  abbrev now : State
  now = state_at plan journal

  abbrev n : ℕ
  n = entry.session

  abbrev open_now : State
  open_now = opens entry now

  abbrev Goes : List Doing → ApplyStep → Answer → Type 0
  Goes doings step answer = LetsGoOn plan.table now.log (planned applier) applier.position doings step answer

  abbrev copier_session : ℕ
  copier_session = (some_sessions plan m at rows of.of journal entry in_own unlost answered owners known known_more copier applier stands (appliers.next journal applier) called held).copier

  here : MigrationStands m at rows (limits_of plan) (scene_of plan []) journal (machines_of copier copier_session applier n)
  here = applies_here plan m at rows of.of journal entry in_own unlost answered owners known known_more copier applier stands (appliers.next journal applier) called held who

  answer_so : entry.answer ≡ (done open_now n (appliers.next journal applier)).answer
  answer_so = answer_is plan journal entry in_own.session unlost answered owners (appliers.next journal applier) called held

  unlocked : (request : Request) → is_outside (session_of n open_now.sessions) request ≡ false
  unlocked request = not_outside (session_of n open_now.sessions) request (none_locked (Some n) n open_now.sessions (opened_held (Some n) (is_command entry.asked) (not (is_client entry.actor)) n now held).sessions)

  tool_now : is_of_tool (session_of n open_now.sessions) ≡ true
  tool_now = session_of_tool journal now entry owners.both.living owners.both.known (placed journal entry in_own) answered (ap is_command called) (ap is_client who)

  opened_tables : open_now.tables ≡ now.tables
  opened_tables = ap (λ (s : Stored). s.tables) (stored_opened (is_command entry.asked) (not (is_client entry.actor)) n now)

  -- THE LOG IS READ

  module _ (reading : applier.step ≡ batches.Reading) (left : 1 ≤ left_at plan.table now.log applier.position) where
    abbrev given : List ReadEvent
    given = take applier.batch (read_from (both_tables plan.table) applier.position (drop applier.position now.log))

    abbrev events : List RowEvent
    events = map (λ (read : ReadEvent). read.event) given

    abbrev following : ℕ
    following = cond (length given == applier.batch) (after_last 0 given) (length now.log)

    next_is : appliers.next journal applier ≡ requests.ReadLog applier.position applier.batch (both_tables plan.table)
    next_is = next_at journal applier batches.Reading reading ∙ ap (λ (t : List ℕ). requests.ReadLog applier.position applier.batch (t ∷ log_name t ∷ [])) of_plan.table

    reads : entry.answer ≡ events_read applier.position applier.batch (both_tables plan.table) now.log
    reads =
        answer_so ∙ ap (λ (r : Request). (done open_now n r).answer) next_is ∙ done_reads applier.position applier.batch (both_tables plan.table) open_now n (unlocked (requests.ReadLog applier.position applier.batch (both_tables plan.table)))
        ∙ ap (λ (s : Stored). events_read applier.position applier.batch (both_tables plan.table) s.log) (stored_opened (is_command entry.asked) (not (is_client entry.actor)) n now)

    reads_so : entry.answer ≡ answers.Events events following
    reads_so = reads ∙ read_is applier.position applier.batch (both_tables plan.table) now.log

    some_size : 1 ≤ applier.batch
    some_size = let size = sized in let fits = of.runs.fitting.batch in omega (arith, size, fits)

    some_read : ReadsSome applier.batch events
    some_read = reads_some plan.table now.log applier.position applier.batch events following some_size left (sym reads_so ∙ reads)

    scene_run : IsSceneRun (limits_of plan) (scene_of plan more) more
    scene_run = plan_runs_are_scene_runs plan more run

    is_read : IsRead plan.table now.log applier.position events following
    is_read =
        reading_said plan.table (limits_of plan) (scene_of plan more) journal entry applier.batch applier.position events following (run_front (limits_of plan) (scene_of plan more) journal (entry ∷ []) scene_run)
        (along_next (IsReported (limits_of plan) (scene_of plan more)) [] journal entry [] scene_run.reported) unlost (ap (λ (asked : Asked). about open_now n asked) (called ∙ ap Call next_is)) reads_so some_size
        (within_log (is_of (both_tables plan.table)) applier.position now.log left)

    reads_go : (doings : List Doing) → Goes doings batches.Reading entry.answer
    reads_go doings = subst (Goes doings batches.Reading) (sym reads_so) (reads_let_go_on plan.table now.log applier.position following events applier doings some_read.some is_read)

  -- A TRANSACTION BEGINS, AND IS COMMITTED

  begins_go : (batch : Batch) (doings : List Doing) → applier.step ≡ batches.Beginning batch → Goes doings (batches.Beginning batch) entry.answer
  begins_go batch doings is = subst (Goes doings (batches.Beginning batch)) (sym (answer_so ∙ ap (λ (r : Request). (done open_now n r).answer) (next_at journal applier (batches.Beginning batch) is) ∙ done_begins open_now n (unlocked requests.Begin))) tt

  commits_go : (batch : Batch) (doings : List Doing) → applier.step ≡ batches.Committing batch → Goes doings (batches.Committing batch) entry.answer
  commits_go batch doings is = subst (Goes doings (batches.Committing batch)) (sym (answer_so ∙ ap (λ (r : Request). (done open_now n r).answer) (next_at journal applier (batches.Committing batch) is) ∙ done_commits open_now n (unlocked requests.Commit))) tt

  -- A STATEMENT IS SAID

  statement_goes : (batch : Batch) (count : ℕ) (part : Part) (doing : Doing) (doings : List Doing) (answer : Answer) → came_at_once answer ≡ true → slice_get doings count ≡ Some doing → StatementAnswer part doing answer → Goes doings (batches.Applying batch count part) answer
  statement_goes batch count part doing doings (answers.Ok changed) once there fits = tt
  statement_goes batch count part doing doings (answers.Refused number (Some place)) once there fits = tt
  statement_goes batch count part doing doings (answers.Refused number None) once there fits = subst (λ (d : Option Doing). IsClash part d number) (sym there) fits
  statement_goes batch count part doing doings (answers.Waits other) once there fits = absurd (false≢true once)
  statement_goes batch count part doing doings (answers.TimedOut waited) once there fits = absurd (false≢true once)
  statement_goes batch count part doing doings answers.Lost once there fits = absurd (false≢true once)
  statement_goes batch count part doing doings answer once there fits = absurd fits

  module _ (batch : Batch) (count : ℕ) (part : Part) (is : applier.step ≡ batches.Applying batch count part) where
    next_one : NextStatement m journal applier batch count part
    next_one = next_statement m of.finds journal applier (of_plan.table ∙ sym of.of.name) (of_plan.schema ∙ sym of.of.new) (of_plan.map ∙ sym of.of.columns) here.applier_knows batch count part is

    ghost_now : schema_of m.new.name now.tables ≡ Some m.new
    ghost_now = any_kept (schema_of m.new.name now.tables ≡ Some m.new) m at rows copier_session n _ (λ apply kept. ap (option_map (λ (table : TableRows). table.schema)) kept.tool.kept.new) here.tool.stands

    parted : PartFits part (Some next_one.doing)
    parted = part_so part next_one.doing _ next_one.knows

    abbrev statement : Request
    statement = requests.Do (said m.new m.columns (in_part part next_one.doing))

    -- the new table, as the session sees it
    abbrev own_writes : List RowEvent
    own_writes = (face_of now.sessions n).hold.writes

    seen_is : view n open_now ≡ after_events now.tables own_writes
    seen_is =
        ap (λ (d : Database). after_events d (writes_of (session_of n open_now.sessions))) opened_tables
        ∙ ap (after_events now.tables) (writes_face (session_of n open_now.sessions) ∙ ap (λ (f : Face). f.hold.writes) (faces_opened (is_command entry.asked) (not (is_client entry.actor)) n n now))

    well_seen : IsWellFormedDatabase (after_events now.tables own_writes)
    well_seen = well_formed_events now.tables own_writes serving.well_formed (fitting_end (face_of now.sessions n).hold.names (face_of now.sessions n).hold.locks own_writes now.tables serving.well_formed (serving.own n).fitting)

    seen_table : TableSeen m (view n open_now)
    seen_table = subst (TableSeen m) (sym seen_is) (seen_so m (after_events now.tables own_writes) well_seen (schema_events m.new.name now.tables own_writes ∙ ghost_now))

    said_so : StatementAnswer part next_one.doing entry.answer
    said_so =
        subst (StatementAnswer part next_one.doing) (sym (answer_so ∙ ap (λ (r : Request). (done open_now n r).answer) next_one.asks))
        (done_so m rows of.planned of.finds open_now n tool_now seen_table part next_one.doing next_one.rows parted (unlocked statement))

    applies_go : (doings : List Doing) → batch_doings journal applier batch ≡ doings → Goes doings (batches.Applying batch count part) entry.answer
    applies_go doings are = statement_goes batch count part next_one.doing doings entry.answer at_once (ap (λ (l : List Doing). slice_get l count) (sym are) ∙ next_one.planned_so) said_so

  -- *The applier goes on*
  pub applier_goes : (doings : List Doing) → AreDoings (batch_doings journal applier) doings applier.step → (appliers.starts applier ≡ true → 1 ≤ left_at plan.table now.log applier.position) → Goes doings applier.step entry.answer
  applier_goes doings are left = by applier.step refl are left where
    by : (step : ApplyStep) → applier.step ≡ step → AreDoings (batch_doings journal applier) doings step → (appliers.is_reading step ≡ true → 1 ≤ left_at plan.table now.log applier.position) → Goes doings step entry.answer
    by batches.Reading is are left = reads_go is (left refl) doings
    by (batches.Beginning batch) is are left = begins_go batch doings is
    by (batches.Applying batch count part) is are left = applies_go batch count part is doings are
    by (batches.Committing batch) is are left = commits_go batch doings is

  -- the batch's answer is known
  pub batch_answered : (batch : Batch) → applier.step ≡ batches.Beginning batch → (answer : Answer) × (answer_at journal batch.read ≡ Some answer)
  batch_answered batch is = let knows : StepKnows m journal (batches.Beginning batch) = subst (StepKnows m journal) is here.applier_knows.step in (_, knows.0.reported)

  pub statement_answered : (batch : Batch) (count : ℕ) (part : Part) → applier.step ≡ batches.Applying batch count part → (answer : Answer) × (answer_at journal batch.read ≡ Some answer)
  statement_answered batch count part is = (_, (next_one batch count part is).reported.reported)
