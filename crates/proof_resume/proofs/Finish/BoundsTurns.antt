-- Each turn of a new tool's copier and of its applier leaves one turn fewer of those that the run's rows and events allow.
use Rattle.std.proofs.Common.{◌≡◌, ℕ, zero, suc, ◌+◌, ◌*◌, ◌≤◌, Bool, true, false, List, [], ◌∷◌, ◌++◌, length, drop, cond, Option, Some, None, refl, sym, ap, ◌∙◌, subst, append_assoc, append-nil, arith}
use Rattle.std.specs.Prelude.{is_some}
use Rattle.std.proofs.Math.Seq.{drop-append_seam}
use Rattle.base_values.specs.ToolNames.{log_name}
use Rattle.base_values.specs.GhoSchema.Rows.{key_places}
use Rattle.base_values.specs.GhoSchema.Tables.{Ascends}
use Rattle.base_values.specs.declared.event.RowEvent.{RowEvent}
use Rattle.base_script.specs.declared.actor.Actor.{Actor}
use Rattle.base_script.specs.declared.actor.Actor.TheVariants.{Copy, Apply}
use Rattle.table_store.specs.Databases.{TableRows, find_table}
use Rattle.server_model.specs.Along.{Along}
use Rattle.server_model.specs.Entries.{is_command, is_cut}
use Rattle.server_model.specs.LockedRows.Coverage.{IsWellFormedTable}
use Rattle.server_model.specs.LockedRows.Databases.{WhereFound}
use Rattle.server_model.specs.States.{State, is_in_transaction, session_of, unread}
use Rattle.server_model.specs.declared.answer.Answer.{Answer}
use Rattle.server_model.specs.declared.entry.Asked.TheVariants.{Call}
use Rattle.server_model.specs.declared.entry.Entry.{Entry}
use Rattle.server_model.specs.declared.outcome.Progress.{Progress}
use Rattle.server_model.specs.declared.outcome.Progress.TheVariants.{Going, TaskDone, TaskFailed, Unfit}
use Rattle.server_model.specs.declared.request.Request.{Request}
use Rattle.server_model.specs.declared.request.Request.TheVariants as requests
use Rattle.server_model.specs.declared.session.Session.{Session}
use Rattle.plan_data.specs.PlanData.{PlanData}
use Rattle.tool_notes.specs.declared.checkpoint.Checkpoint.{Checkpoint}
use Rattle.tool_program.specs.JournalWords.Journals.{opens, state_at, IsAnswered, IsFaithful}
use Rattle.tool_program.specs.JournalWords.Sessions.{live_session, IsSeated}
use Rattle.tool_program.specs.Tools.{Migrating, Work, moment}
use Rattle.tool_program.specs.ChunkCopier.Copiers as copiers
use Rattle.tool_program.specs.EventApplier.Appliers.{Doing}
use Rattle.tool_program.specs.EventApplier.Appliers as appliers
use Rattle.tool_program.specs.declared.chunk_copier.copier.Copier.{Copier}
use Rattle.tool_program.specs.declared.chunk_copier.copier.CopyStep.{CopyStep}
use Rattle.tool_program.specs.declared.chunk_copier.copier.CopyStep.TheVariants as chunks
use Rattle.tool_program.specs.declared.event_applier.applier.Applier.{Applier}
use Rattle.tool_program.specs.declared.event_applier.applier.ApplyStep.{ApplyStep}
use Rattle.tool_program.specs.declared.event_applier.applier.ApplyStep.TheVariants as batches
use Rattle.tool_finish.specs.declared.stage.Stage.{Stage}
use Rattle.tool_finish.specs.declared.stage.Stage.TheVariants.{Losing, Listing, Reading, Clearing, ReadingCounter, SettingCounter, Ranging, Copying, Applying, Exchanging, DroppingLog, DroppingOld, RollingBack, Done, Reverted}
use Rattle.tool_finish.specs.Checkpoints.{has_checkpoint}
use Rattle.tool_finish.specs.Finishes.{applier_from, checkpoint_in, copier_from, first_live, next, ranged, stage_behind, took, IsFinish, IsFinishTurn}
use Rattle.tool_finish.specs.Finishes as finishes
use Rattle.tool_finish.proofs.Walking.{stage_more}
use Rattle.proof_journals.specs.Ghost.HeldKeys.{Clustered}
use Rattle.proof_journals.specs.Ghost.Rows.Moments.{Row}
use Rattle.proof_journals.specs.Ghost.Rows.Timelines.{Migration}
use Rattle.proof_journals.specs.Holdings.{face_in, stored}
use Rattle.proof_journals.specs.Machine.Machines.{applier_asks, applier_busy, copier_asks, copier_busy}
use Rattle.proof_journals.specs.Machine.Standings.{standing_of, Standing}
use Rattle.proof_journals.specs.Plans.{IsPlanRun}
use Rattle.proof_journals.specs.Run.Kept.{IsKept}
use Rattle.proof_journals.proofs.Faces.{busy_face}
use Rattle.proof_journals.proofs.Ghost.Turns.{along_next}
use Rattle.proof_journals.proofs.Machine.Asking.{applier_next, copier_next}
use Rattle.proof_journals.proofs.Machine.Forming.{next_call}
use Rattle.proof_journals.proofs.Machine.Seated.{is_open, IsKnown, IsOpen, IsServed}
use Rattle.proof_journals.proofs.ServerTurns.Agreements.{along_front}
use Rattle.proof_migration.specs.Migration.Planning.{migration_of}
use Rattle.proof_migration.specs.Program.Turns.Laws.{IsMigrationOf}
use Rattle.proof_migration.specs.ToolPhase.Runnable.{IsAlterable}
use Rattle.proof_migration.specs.ToolPhase.Unaltered.{IsUnaltered}
use Rattle.proof_migration.proofs.Program.Follows.{own_table}
use Rattle.proof_migration.proofs.ToolPhase.Unaltered.Runs.{unaltered_runs}
use Rattle.proof_bounds.specs.AttemptTurns.Attempts.{MayTry}
use Rattle.proof_bounds.specs.TaskTurns.Answers.{left_at}
use Rattle.proof_plain.specs.Plans.{IsShort, PlainPlan}
use Rattle.proof_resume.specs.Finish.Batches.{planned_after, LeavesTurns, LetsGoOn, TurnsLeft}
use Rattle.proof_resume.specs.Finish.Bounds.{count_of, events_left, position_in, position_of}
use Rattle.proof_resume.specs.Finish.Chunks.{CopiesLeft, LeavesCopies, LetsCopyGoOn}
use Rattle.proof_resume.specs.Finish.Counts.{is_working}
use Rattle.proof_resume.specs.Finish.Prompt.{came_at_once}
use Rattle.proof_migration.specs.Program.Turns.Goes.{StandsFor}
use Rattle.proof_resume.specs.Reached.Checkpoints.{checkpoint_stored}
use Rattle.proof_resume.specs.Settled.Laws.{SettledIn}
use Rattle.proof_resume.specs.Settled.Ranges.{rows_now}
use Rattle.proof_resume.specs.Starts.Beginnings.{IsCleared, StageFinds, StartsFrom}
use Rattle.proof_resume.proofs.Finish.Batches.{applier_turns_are_few}
use Rattle.proof_resume.proofs.Finish.BoundsApplier.{applier_goes, batch_answered, batch_doings, statement_answered, AreDoings}
use Rattle.proof_resume.proofs.Finish.BoundsBatches.{are_more, left_more, now_read, took_are, turns_some}
use Rattle.proof_resume.proofs.Finish.BoundsLogs.{applier_writes, copier_writes, left_stays, table_stays, OwnAsks, WritesNew}
use Rattle.proof_resume.proofs.Finish.BoundsStages.{applied_left, copied_left, copying_left, counter_left, counting_left, listed_left, log_left, losing_left, read_left, AppliesLeft, LeftAt, WorkLeft}
use Rattle.proof_resume.proofs.Finish.Callable.{finish_called, GoesCalled}
use Rattle.proof_resume.proofs.Finish.Calls.{Applies, CallsAt, Copies}
use Rattle.proof_resume.proofs.Finish.Chunks.{copier_turns_are_few, new_copiers_have_few, some_left}
use Rattle.proof_resume.proofs.Finish.CopyAnswers.{copiers_go_on}
use Rattle.proof_resume.proofs.Finish.Holders.{any_own, IsHeldBy}
use Rattle.proof_resume.proofs.Finish.Leaving.{runs_leave_tables}
use Rattle.proof_resume.proofs.Finish.Machines.{applier_of, IsApplierOf}
use Rattle.proof_resume.proofs.Finish.Owners.{Owners}
use Rattle.proof_resume.proofs.Finish.Prompt.{alone_more, finish_turns, its_actor, its_request, own_held, StandsAlone}
use Rattle.proof_resume.proofs.Finish.Runs.{Knows}
use Rattle.proof_resume.proofs.Finish.Verdicts.{all_guard, guard_begins, migrating_of, Guards}
use Rattle.proof_resume.proofs.Finish.Walks.{finish_walks, Walks, WalksAt}
use Rattle.proof_resume.proofs.Settled.Reverting.{kept_runs_settle}
use Rattle.proof_resume.proofs.Starts.Exchanging.{finishes_start_right}
use Rattle.proof_resume.proofs.Starts.Finishable.{finds_keys}
use Rattle.proof_resume.proofs.Starts.Stages.{last_turn, IsLast}
use Rattle.proof_resume.proofs.Starts.Starting.{ranges_start}

-- WHAT IS ASKED

copier_own : (busy : Bool) (step : CopyStep) (request : Request) → busy ≡ copier_busy step → copier_asks step request ≡ true → OwnAsks busy request
copier_own busy chunks.Choosing (requests.ChunkEnd table low top size) is asks = tt
copier_own busy (chunks.Spanning reported size) (requests.BeginSpan table span most) is asks = tt
copier_own busy (chunks.Copying chunk copied) (requests.CopyRow from into map key) is asks = is
copier_own busy (chunks.Committing chunk) requests.Commit is asks = tt
copier_own busy step request is asks = absurd cc

applier_own : (busy : Bool) (step : ApplyStep) (request : Request) → busy ≡ applier_busy step → applier_asks step request ≡ true → OwnAsks busy request
applier_own busy batches.Reading (requests.ReadLog position limit tables) is asks = tt
applier_own busy (batches.Beginning batch) requests.Begin is asks = tt
applier_own busy (batches.Applying batch done part) (requests.Do statement) is asks = is
applier_own busy (batches.Committing batch) requests.Commit is asks = tt
applier_own busy step request is asks = absurd cc

-- the turn of a stage at work
abbrev pub work_turn : Stage → ℕ
work_turn stage = cond (is_working stage) 1 0

-- ALONG THE TURNS

-- *What stands behind these turns*, of a run with a checkpoint
pub all_guards : (plan : PlanData) (m : Migration) (rows : List Row) → IsMigrationOf plan m rows → (run turns : List Entry) → IsKept plan run → has_checkpoint plan run ≡ true → IsFinish plan run turns → IsFaithful plan (run ++ turns) → Guards plan run turns
all_guards plan m rows of run turns kept has finish faithful =
    all_guard plan run [] turns (subst (λ (all : List Entry). Along (λ before entry. IsFinishTurn plan run before entry × IsAnswered (state_at plan before) entry) all turns) (sym (append-nil run)) (finish_turns plan run turns finish faithful))
    (guard_begins plan run of.runs of.serial kept (migrating_of plan run has))

module _ (plan : PlanData) (is : IsAlterable plan) (at : Clustered is.table.schema) (of : IsMigrationOf plan (migration_of is.table.schema is.new) is.table.rows) (tries : MayTry plan) (plain : PlainPlan plan)
    (run : List Entry) (work : Work) (kept : IsKept plan run) (off : IsUnaltered plan run) (phase : (moment plan run).tool.tool_phase ≡ Migrating work) (short : IsShort run) (has : has_checkpoint plan run ≡ true) where
  abbrev m : Migration
  m = migration_of is.table.schema is.new

  abbrev rows : List Row
  rows = is.table.rows

  abbrev before_all : State
  before_all = state_at plan run

  -- the turns that its rows and its events allow
  abbrev pub most : ℕ
  most = 4 * count_of (find_table plan.table before_all.tables) + 3 + 6 * events_left plan before_all

  walks_so : (turns : List Entry) → IsFinish plan run turns → IsFaithful plan (run ++ turns) → Walks plan is at rows of run turns
  walks_so turns finish faithful =
      finish_walks plan is at rows of run turns (unaltered_runs plan run of.runs of.serial kept off) kept finish faithful (finishes_start_right plan m at rows of tries plain (own_table plan is) run work kept off phase short turns faithful finish)

  -- ONE TURN

  module _ (turns : List Entry) (entry : Entry) (finish_more : IsFinish plan run (turns ++ entry ∷ [])) (faithful_more : IsFaithful plan (run ++ (turns ++ entry ∷ []))) where
    abbrev journal : List Entry
    journal = run ++ turns

    abbrev more : List Entry
    more = journal ++ entry ∷ []

    abbrev now : State
    now = state_at plan journal

    abbrev after : State
    after = state_at plan more

    abbrev n : ℕ
    n = entry.session

    all : run ++ (turns ++ entry ∷ []) ≡ more
    all = sym (append_assoc run turns (entry ∷ []))

    faithful : IsFaithful plan journal
    faithful = along_front (λ before one. IsAnswered (state_at plan before) one) [] journal (entry ∷ []) (subst (IsFaithful plan) all faithful_more)

    finish : IsFinish plan run turns
    unfolding IsFinish
    finish = along_front (IsFinishTurn plan run) run turns (entry ∷ []) finish_more

    turn : IsFinishTurn plan run journal entry
    unfolding IsFinish
    turn = along_next (IsFinishTurn plan run) run turns entry [] finish_more

    last : IsLast plan m rows of run work kept off phase turns entry
    last = last_turn plan m rows of run work kept off phase turns entry faithful_more finish_more

    in_own : IsSeated journal entry
    in_own = record { session = turn.session }

    guards : Guards plan run turns
    guards = all_guards plan m rows of run turns kept has finish faithful

    guards_then : Guards plan run (turns ++ entry ∷ [])
    guards_then = all_guards plan m rows of run (turns ++ entry ∷ []) kept has finish_more faithful_more

    owners : Owners plan journal
    owners = guards.marked.alone.owners

    known : IsKnown plan journal
    known = guards.marked.known

    known_more : IsKnown plan more
    known_more = subst (IsKnown plan) all guards_then.marked.known

    called_so : GoesCalled plan of.runs run kept (finds_keys plan m at rows of tries (own_table plan is) run work kept phase) turns
    called_so = finish_called plan of.runs run kept (finds_keys plan m at rows of tries (own_table plan is) run work kept phase) of.serial (runs_leave_tables plan m at rows of (own_table plan is) run work kept phase) turns finish faithful

    walks : Walks plan is at rows of run turns
    walks = walks_so turns finish faithful

    walks_then : Walks plan is at rows of run (turns ++ entry ∷ [])
    walks_then = walks_so (turns ++ entry ∷ []) finish_more faithful_more

    run_more : IsPlanRun plan more
    run_more = subst (IsPlanRun plan) all walks_then.is_run

    served : IsServed plan journal entry
    served = record { answered = last.answered; seated = in_own }

    once : is_cut entry.asked ≡ false → came_at_once entry.answer ≡ true
    once = (alone_more plan run turns entry turn last.answered guards.marked.alone).at_once

    -- its session is in a transaction where its actor is
    busy_now : (actor : Actor) → entry.actor ≡ actor → is_command entry.asked ≡ false → is_in_transaction (session_of n (opens entry now).sessions) ≡ (standing_of plan journal actor).busy
    busy_now actor same called =
        let opened : IsOpen plan journal entry known served = is_open plan journal entry known served called in
        busy_face (session_of n (opens entry now).sessions) ∙ ap (λ (o : Option Session). (face_in o).busy) opened.is ∙ ap (λ (s : Standing). s.busy) (sym opened.stands) ∙ ap (λ (a : Actor). (standing_of plan journal a).busy) same

    held_so : (actor : Actor) (request : Request) → entry.actor ≡ actor → entry.asked ≡ Call request → IsHeldBy (live_session journal actor) now → IsHeldBy (Some n) now
    held_so actor request same called held = own_held plan journal entry turn.session turn.side last.answered owners request called (live_session journal actor) (ap (live_session journal) (sym same)) held

    -- what is left behind it
    record Fewer (count : ℕ) (stage : Stage) : Type 0 where
      pub left : ℕ
      pub fewer : work_turn stage + left ≤ count
      pub then : LeftAt plan most more left (took plan more after entry.answer stage)

    -- THE COPY BEGINS

    events_from : (row : Option Row) (position : ℕ) → position_in row ≡ position → unread before_all (position_in row) (plan.table ∷ log_name plan.table ∷ []) ≡ left_at plan.table before_all.log position
    unfolding unread
    events_from row position same = ap (λ (p : ℕ). left_at plan.table before_all.log p) same

    start_left : (found : Checkpoint) (turns_left : ℕ) → stage_behind plan run turns ≡ Ranging found → most ≤ turns_left → LeftAt plan most more turns_left (ranged plan after found entry.answer)
    start_left found turns_left stage few =
        subst (λ (a : Answer). LeftAt plan most more turns_left (ranged plan after found a)) (sym start.answered)
        (copying_left plan most more turns_left (copier_from plan found.reach start.range) (applier_from plan found.position) table (4 * length table.rows + 3) refl there (new_copiers_have_few plan more table found.reach start.range (let sized = of.runs.fitting.chunk in omega (arith, sized)))
        (let rows_are = rows_count in let events_are = events_count in omega (arith, few, rows_are, events_are))) where
          start : StartsFrom plan m rows run more entry.answer
          start = ranges_start plan m at rows of (own_table plan is) run work kept off phase turns entry found stage faithful_more finish_more

          cleared : IsCleared plan m run journal found
          cleared = subst (StageFinds plan m run journal) stage last.finds

          settled : SettledIn plan m rows run work
          settled = kept_runs_settle plan m at rows of (own_table plan is) run work kept off phase

          table : TableRows
          table = record { schema = m.schema; rows = rows_now m rows (stored before_all) }

          found_run : find_table plan.table before_all.tables ≡ Some table
          found_run = ap (λ (name : List ℕ). find_table name before_all.tables) (sym of.of.name) ∙ settled.is.old

          there : find_table plan.table after.tables ≡ Some table
          there = ap (λ (name : List ℕ). find_table name after.tables) (sym of.of.name) ∙ start.keeps.old ∙ settled.is.old

          rows_count : count_of (find_table plan.table before_all.tables) ≡ length table.rows
          rows_count = ap count_of found_run

          position : position_in (checkpoint_stored plan.table before_all.tables) ≡ found.position
          position = ap position_in cleared.stored.stored ∙ ap position_of cleared.stored.read

          events_count : events_left plan before_all ≡ left_at plan.table after.log found.position
          events_count = events_from (checkpoint_stored plan.table before_all.tables) found.position position ∙ ap (λ (log : List RowEvent). left_at plan.table log found.position) (sym start.keeps.log)

    -- THE COPIER'S TURN

    module _ (copier : Copier) (applier : Applier) (stage : stage_behind plan run turns ≡ Copying copier applier) where
      stands : (appliers.starts applier ≡ true) × StandsFor plan m at rows journal copier applier
      stands = subst (WalksAt plan is at rows of journal) stage walks.walks

      copies : Copies plan of.runs run journal copier applier
      copies = subst (CallsAt plan of.runs run journal) stage called_so.at

      lets : (table : TableRows) → find_table plan.table now.tables ≡ Some table → LetsCopyGoOn journal table copier copier.range entry.answer
      lets table found =
          along_next (λ before one. (c : Copier) (a : Applier) (t : TableRows) → stage_behind plan run (drop (length run) before) ≡ Copying c a → find_table plan.table (state_at plan before).tables ≡ Some t → LetsCopyGoOn before t c c.range one.answer) run turns entry []
          (copiers_go_on plan run (turns ++ entry ∷ []) of.runs of.serial kept has finish_more faithful_more) copier applier table (ap (stage_behind plan run) (drop-append_seam run turns) ∙ stage) found

      ascends : (table : TableRows) → find_table plan.table now.tables ≡ Some table → Ascends (key_places table.schema) table.rows
      ascends table found = (subst (WhereFound IsWellFormedTable) found (called_so.serving.well_formed.each plan.table)).is_table.ascends

      writes : (request : Request) → copiers.next journal copier ≡ Some request → finishes.calls Copy request ≡ Some (entry.actor, entry.asked) → WritesNew plan.table now after
      writes request given is_so =
          let who : entry.actor ≡ Copy = its_actor entry Copy request is_so in
          let called : entry.asked ≡ Call request = its_request entry Copy request is_so in
          let held : IsHeldBy (Some n) now = held_so Copy request who called (subst (StandsAlone journal now) stage guards.marked.alone.stands) in
          copier_writes plan m at rows of.of journal entry in_own turn.side last.answered owners known known_more copier applier stands.1 request called held who
          (subst (λ (busy : Bool). OwnAsks busy request) (sym (busy_now Copy who (ap is_command called) ∙ copies.stands.busy)) (copier_own (copier_busy copier.step) copier.step request refl (copier_next journal copier request given)))

      writes_by : (request : Option Request) → copiers.next journal copier ≡ request → finishes.copies request ≡ Some (entry.actor, entry.asked) → WritesNew plan.table now after
      writes_by None given is_so = absurd (cc)
      writes_by (Some request) given is_so = writes request given is_so

      copied_by : (count : ℕ) (table : TableRows) (turns_left : ℕ) → find_table plan.table now.tables ≡ Some table → copier.is_copied ≡ false → CopiesLeft journal table count copier → count + 6 * left_at plan.table now.log applier.position ≤ turns_left → WritesNew plan.table now after → Fewer turns_left (Copying copier applier)
      unfolding took
      copied_by zero table turns_left found uncopied left within written = absurd (some_left journal table copier uncopied left)
      copied_by (suc count) table turns_left found uncopied left within written =
          let one_more : suc count ≡ count + 1 = omega arith in
          let leaves : LeavesCopies more table count (copiers.took (length more) copier entry.answer) (copiers.progress copier entry.answer) =
          copier_turns_are_few journal entry table count copier (ascends table found) uncopied (subst (λ (k : ℕ). CopiesLeft journal table k copier) one_more left) (lets table found) in
          let events : left_at plan.table after.log applier.position ≡ left_at plan.table now.log applier.position = left_stays plan.table now after written applier.position in
          record {
            left = count + 6 * left_at plan.table after.log applier.position;
            fewer = omega (arith, within, events);
            then =
                copied_left plan most more (count + 6 * left_at plan.table after.log applier.position) (length more) copier (copiers.took (length more) copier entry.answer) applier table count (copiers.progress copier entry.answer) stands.0 (table_stays plan.table now after written ∙ found) leaves (omega arith);
          }

      copied : next plan journal (Copying copier applier) ≡ Some (entry.actor, entry.asked) → (turns_left : ℕ) → WorkLeft plan journal turns_left copier applier → Fewer turns_left (Copying copier applier)
      unfolding next
      copied given turns_left left = copied_by left.copies left.table turns_left left.found left.uncopied left.left left.within (writes_by (copiers.next journal copier) refl given)

    -- THE APPLIER'S

    module _ (applier : Applier) (stage : stage_behind plan run turns ≡ Applying applier) (given : finishes.calls Apply (appliers.next journal applier) ≡ Some (entry.actor, entry.asked)) where
      who : entry.actor ≡ Apply
      who = its_actor entry Apply (appliers.next journal applier) given

      called : entry.asked ≡ Call (appliers.next journal applier)
      called = its_request entry Apply (appliers.next journal applier) given

      walking : (copier : Copier) × (copier.is_copied ≡ true) × StandsFor plan m at rows journal copier applier
      walking = subst (WalksAt plan is at rows of journal) stage walks.walks

      applies : Applies plan of.runs run journal applier
      applies = subst (CallsAt plan of.runs run journal) stage called_so.at

      of_plan : IsApplierOf plan applier
      of_plan = subst (Knows plan journal) stage walks.away.knows

      held : IsHeldBy (Some n) now
      held = by (appliers.starts applier) (subst (StandsAlone journal now) stage guards.marked.alone.stands) where
        by : (b : Bool) → IsHeldBy (cond b None (live_session journal Apply)) now → IsHeldBy (Some n) now
        by true held = any_own (Some n) now held
        by false held = held_so Apply (appliers.next journal applier) who called held

      asks : applier_asks applier.step (appliers.next journal applier) ≡ true
      asks = ap (applier_asks applier.step) (next_call journal applier) ∙ applier_next journal applier applier.step applies.stands.known

      written : WritesNew plan.table now after
      written =
          applier_writes plan m at rows of.of journal entry in_own turn.side last.answered owners known known_more walking.0 applier walking.2 (appliers.next journal applier) called held who
          (subst (λ (busy : Bool). OwnAsks busy (appliers.next journal applier)) (sym (busy_now Apply who (ap is_command called) ∙ applies.stands.stands.busy)) (applier_own (applier_busy applier.step) applier.step (appliers.next journal applier) refl asks))

      abbrev later : Applier
      later = appliers.took (length more) applier entry.answer

      of_later : IsApplierOf plan later
      of_later = applier_of plan (length more) applier entry.answer of_plan

      same_events : (position : ℕ) → left_at plan.table after.log position ≡ left_at plan.table now.log position
      same_events position = left_stays plan.table now after written position

      goes : (doings : List Doing) → AreDoings (batch_doings journal applier) doings applier.step → (appliers.starts applier ≡ true → 1 ≤ left_at plan.table now.log applier.position) → LetsGoOn plan.table now.log (appliers.planned applier) applier.position doings applier.step entry.answer
      goes doings are some =
          applier_goes plan m at rows of journal entry in_own turn.side last.answered owners known known_more called_so.serving run_more walking.0 applier walking.2 of_plan applies.batch who called held (once (ap is_cut called)) doings are some

      still_are : (doings : List Doing) → AreDoings (batch_doings journal applier) doings applier.step → AreDoings (batch_doings more later) doings applier.step
      still_are doings are =
          are_more plan journal entry applier later of_plan of_later doings applier.step
          (λ batch step. batch_answered plan m at rows of journal entry in_own turn.side last.answered owners known known_more called_so.serving run_more walking.0 applier walking.2 of_plan applies.batch who called held (once (ap is_cut called)) batch step)
          (λ batch count part step. statement_answered plan m at rows of journal entry in_own turn.side last.answered owners known known_more called_so.serving run_more walking.0 applier walking.2 of_plan applies.batch who called held (once (ap is_cut called)) batch count part step) are

      leaves_more : (count : ℕ) (doings : List Doing) (then : Applier) (progress : Progress) → LeavesTurns plan.table now.log count doings then progress → LeavesTurns plan.table after.log count doings then progress
      leaves_more count doings then (Unfit place number) is_so = tt
      leaves_more count doings then Going is_so = left_more plan.table now.log after.log same_events count then.position doings then.step is_so
      leaves_more count doings then TaskDone is_so = left_more plan.table now.log after.log same_events count then.position doings then.step is_so
      leaves_more count doings then TaskFailed is_so = left_more plan.table now.log after.log same_events count then.position doings then.step is_so

      applied_by : (count : ℕ) (doings : List Doing) → TurnsLeft plan.table now.log count applier.position doings applier.step → AreDoings (batch_doings journal applier) doings applier.step → (appliers.starts applier ≡ true → 1 ≤ left_at plan.table now.log applier.position) → Fewer count (Applying applier)
      unfolding took
      applied_by zero doings left are some = absurd (no (turns_some plan.table now.log 0 applier.position doings applier.step some left)) where
        no : 1 ≤ 0 → ⊥
        no less = omega (arith, less)
      applied_by (suc count) doings left are some =
          let one_more : suc count ≡ count + 1 = omega arith in
          let leaves : LeavesTurns plan.table now.log count (planned_after applier entry.answer doings) later (appliers.progress applier entry.answer) =
          applier_turns_are_few plan.table now.log (length more) count applier doings entry.answer (subst (λ (k : ℕ). TurnsLeft plan.table now.log k applier.position doings applier.step) one_more left) (goes doings are some) in
          record {
            left = count;
            fewer = omega arith;
            then =
                applied_left plan most more count (length more) applier later (planned_after applier entry.answer doings) (appliers.progress applier entry.answer) (leaves_more count (planned_after applier entry.answer doings) later (appliers.progress applier entry.answer) leaves)
                (took_are (batch_doings more later) plan.table now.log (length more) applier.position applier doings applier.step entry.answer (λ events following same. now_read plan journal entry applier later of_plan of_later events following same) (still_are doings are) (goes doings are some));
          }

      applied : (turns_left : ℕ) → AppliesLeft plan journal turns_left applier → Fewer turns_left (Applying applier)
      applied turns_left left = applied_by turns_left left.doings left.left left.are left.some

    -- EACH STAGE

    still : (turns_left : ℕ) (stage : Stage) → work_turn stage ≡ 0 → LeftAt plan most more turns_left (took plan more after entry.answer stage) → Fewer turns_left stage
    still turns_left stage rests then = record { left = turns_left; fewer = omega (arith, rests); then = then }

    fewer_at : (turns_left : ℕ) (stage : Stage) → stage_behind plan run turns ≡ stage → next plan journal stage ≡ Some (entry.actor, entry.asked) → LeftAt plan most journal turns_left stage → Fewer turns_left stage
    unfolding next took
    fewer_at turns_left Losing stage given left = still turns_left Losing refl (losing_left plan most more turns_left (is_some (first_live plan more)) left)
    fewer_at turns_left Listing stage given left = still turns_left Listing refl (listed_left plan most more turns_left entry.answer left)
    fewer_at turns_left (Reading seen) stage given left = still turns_left (Reading seen) refl (read_left plan most more turns_left seen (checkpoint_in entry.answer) left)
    fewer_at turns_left (Clearing found) stage given left = still turns_left (Clearing found) refl (counting_left plan most more turns_left found left)
    fewer_at turns_left (ReadingCounter found) stage given left = still turns_left (ReadingCounter found) refl (counter_left plan most more turns_left found entry.answer left)
    fewer_at turns_left (SettingCounter found number) stage given left = still turns_left (SettingCounter found number) refl left
    fewer_at turns_left (Ranging found) stage given left = still turns_left (Ranging found) refl (start_left found turns_left stage left)
    fewer_at turns_left (Copying copier applier) stage given left = copied copier applier stage given turns_left left
    fewer_at turns_left (Applying applier) stage given left = applied applier stage given turns_left left
    fewer_at turns_left Exchanging stage given left = still turns_left Exchanging refl tt
    fewer_at turns_left (DroppingLog old) stage given left = still turns_left (DroppingLog old) refl (log_left plan most more turns_left old)
    fewer_at turns_left DroppingOld stage given left = still turns_left DroppingOld refl tt
    fewer_at turns_left (RollingBack row) stage given left = still turns_left (RollingBack row) refl tt
    fewer_at turns_left Done stage given left = absurd (cc)
    fewer_at turns_left (Reverted row) stage given left = absurd (cc)

    -- *A turn at work leaves one turn fewer*
    pub record LeavesFewer (turns_left : ℕ) : Type 0 where
      pub left : ℕ
      pub fewer : work_turn (stage_behind plan run turns) + left ≤ turns_left
      pub then : LeftAt plan most (run ++ (turns ++ entry ∷ [])) left (stage_behind plan run (turns ++ entry ∷ []))

    pub leaves_fewer : (turns_left : ℕ) → LeftAt plan most journal turns_left (stage_behind plan run turns) → LeavesFewer turns_left
    leaves_fewer turns_left left =
        let fewer : Fewer turns_left (stage_behind plan run turns) = fewer_at turns_left (stage_behind plan run turns) refl last.given left in
        record {
          left = fewer.left;
          fewer = fewer.fewer;
          then = subst (λ (j : List Entry). LeftAt plan most j fewer.left (stage_behind plan run (turns ++ entry ∷ []))) (sym all) (subst (LeftAt plan most more fewer.left) (sym (stage_more plan run turns entry)) fewer.then);
        }
