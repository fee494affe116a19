-- A new tool is done exactly where the table was altered: until its RENAME both tables exist and the old one's name is free, so that it isn't
-- refused.
use Rattle.std.proofs.Common.{◌≡◌, ◌⊎◌, ℕ, ◌==◌, Bool, true, false, ◌&&◌, not, List, [], ◌∷◌, ◌++◌, length, cond, Option, Some, None, refl, sym, ap, ◌∙◌, subst, inl, inr, append_assoc, append-nil}
use Rattle.std.specs.Prelude.{is_some, map}
use Rattle.std.specs.List.{list_any, AllByRecursion}
use Rattle.std.specs.Option.{option_map}
use Rattle.std.proofs.lemmas.Bool.{true≢false, false≢true, or_left, or_right}
use Rattle.std.proofs.Math.Seq.{drop-append_seam}
use Rattle.base_values.specs.ToolNames.{ghost_name, log_name, old_name}
use Rattle.base_script.specs.declared.actor.Actor.{Actor}
use Rattle.base_script.specs.declared.actor.Actor.TheVariants.{Insp, Copy, Apply, Ren}
use Rattle.base_script.specs.declared.actor.Side.{Side}
use Rattle.table_store.specs.Databases.{Database, TableRows, has_table}
use Rattle.base_values.specs.declared.gho_schema.schema.Schema.{Schema}
use Rattle.server_model.specs.Along.{Along}
use Rattle.server_model.specs.Entries.{is_client, is_command, is_cut}
use Rattle.server_model.specs.Effects.{defined, dropped, is_outside}
use Rattle.server_model.specs.Listings.{tables_shown}
use Rattle.server_model.specs.PlainServer.{did, does, done}
use Rattle.server_model.specs.States.{State, session_of, unread, waiting_of}
use Rattle.server_model.specs.declared.answer.Answer.{Answer}
use Rattle.server_model.specs.declared.answer.Answer.TheVariants as answers
use Rattle.server_model.specs.declared.entry.Asked.{Asked}
use Rattle.server_model.specs.declared.entry.Asked.TheVariants.{Call, Poll, Command, Cut}
use Rattle.server_model.specs.declared.entry.Entry.{Entry}
use Rattle.server_model.specs.declared.outcome.Progress.{Progress}
use Rattle.server_model.specs.declared.outcome.Progress.TheVariants.{Going, TaskDone, TaskFailed, Unfit}
use Rattle.server_model.specs.declared.outcome.Verdict.TheVariants as verdicts
use Rattle.server_model.specs.declared.request.Request.{Request}
use Rattle.server_model.specs.declared.request.Request.TheVariants as requests
use Rattle.server_model.specs.declared.session.HeldName.{HeldName}
use Rattle.server_model.specs.declared.session.Session.{Session}
use Rattle.server_model.specs.declared.session.Waiting.{Waiting}
use Rattle.plan_data.specs.PlanData.{PlanData, has_counter}
use Rattle.tool_notes.specs.declared.checkpoint.Checkpoint.{Checkpoint}
use Rattle.tool_program.specs.CutoverCore.Attempts.{exchange, has_name}
use Rattle.tool_program.specs.CutoverCore.CutOvers.{is_done}
use Rattle.tool_program.specs.JournalWords.Histories.{Alter, adds, alters, answer_in, asked_about, entry_adds, is_alter, request_waiting}
use Rattle.tool_program.specs.JournalWords.Journals.{may_lose, opens, state_at, IsAnswered}
use Rattle.tool_program.specs.JournalWords.Sessions.{live_session, IsSeated}
use Rattle.tool_program.specs.Tools.{Migrating, SettingUp, ToolPhase, moment}
use Rattle.tool_program.specs.declared.chunk_copier.copier.Copier.{Copier}
use Rattle.tool_program.specs.ChunkCopier.Copiers as copiers
use Rattle.tool_program.specs.declared.cutover_core.cutover.Clearing.TheVariants.{Looking, Drops}
use Rattle.tool_program.specs.declared.cutover_core.cutover.Phase.{Phase}
use Rattle.tool_program.specs.declared.cutover_core.cutover.Phase.TheVariants as phases
use Rattle.tool_program.specs.declared.event_applier.applier.Applier.{Applier}
use Rattle.tool_program.specs.EventApplier.Appliers as appliers
use Rattle.tool_program.proofs.OnlineCalls.Naming.{not_old}
use Rattle.tool_finish.specs.declared.stage.Listed.{Listed}
use Rattle.tool_finish.specs.declared.stage.Listed.TheVariants.{NotRenamed, Renamed}
use Rattle.tool_finish.specs.declared.stage.Stage.{Stage}
use Rattle.tool_finish.specs.declared.stage.Stage.TheVariants.{Losing, Listing, Reading, Clearing, ReadingCounter, SettingCounter, Ranging, Copying, Applying, Exchanging, DroppingLog, DroppingOld, RollingBack, Done, Reverted}
use Rattle.tool_finish.specs.Checkpoints.{has_checkpoint, is_migrating, writes_checkpoint}
use Rattle.tool_finish.specs.Finishes.{applied, applier_from, applying, checkpoint_in, copied, copier_from, copying, counter_read, counting, dropped_log, finish_verdict, first_live, has_read, listed, listed_in, losing, next, ranged, stage_behind, took, verdict_in, IsFinishTurn}
use Rattle.tool_finish.specs.Finishes as finishes
use Rattle.tool_finish.proofs.Walking.{stage_more}
use Rattle.proof_journals.specs.Holdings.{face_in, face_of}
use Rattle.proof_journals.specs.Machine.MigrationTables.{ghost_schema, schema_of, TablesExist}
use Rattle.proof_journals.specs.Machine.Runnable.{IsRunnable}
use Rattle.proof_journals.specs.Machine.Standings.{is_called, standing_in, standing_of, IsAbout, Standing}
use Rattle.proof_journals.specs.Plans.{IsSerialPlan}
use Rattle.proof_journals.specs.Run.Kept.{IsKept}
use Rattle.proof_journals.specs.Scenes.{Stored}
use Rattle.proof_journals.specs.Turns.{request_of}
use Rattle.proof_journals.proofs.Journals.{stored_opened}
use Rattle.proof_journals.proofs.Moves.{gone_none}
use Rattle.proof_journals.proofs.Machine.Marks.{ghost_not_old, history_more, is_marked, Unmarked}
use Rattle.proof_journals.proofs.Machine.Schemas.{is_quiet, keeps_table, quiet_keeps, schema_rests, schema_stays}
use Rattle.proof_journals.proofs.Machine.Seated.{own_waiting, IsKnown, IsServed}
use Rattle.proof_migration.specs.ToolPhase.Unaltered.{IsUnaltered}
use Rattle.proof_migration.proofs.Attempt.InspectorAnswers.{listed_is}
use Rattle.proof_migration.proofs.Attempt.Leaving.{exchange_left, has_is, heard, lost, missed, AllStay, ExchangeLeaves, Left, MayExchange}
use Rattle.proof_migration.proofs.Attempt.Stages.{free_guards, free_stay, guarded_in, guarded_stay, stand_stay, FreeTables, GuardedTables, IsFree, TablesAt}
use Rattle.proof_migration.proofs.Attempt.Standing.{all_standing, IsStanding, ToolPhaseAt}
use Rattle.proof_migration.proofs.Program.Turns.Follows.{unmarked_now}
use Rattle.proof_migration.proofs.ToolPhase.CopyAnswers.{not_outside}
use Rattle.proof_migration.proofs.ToolPhase.Unaltered.Asking.{exchange_takes}
use Rattle.proof_migration.proofs.ToolPhase.Unaltered.Away.{all_asked}
use Rattle.proof_resume.specs.Finish.Prompt.{came_at_once}
use Rattle.proof_resume.specs.Finish.Verdicts.{was_altered, DoneFinishesAltered, RevertedFinishesDidNot}
use Rattle.proof_resume.proofs.Finish.Holders.{any_own, opened_held, IsFreeBut, IsHeldBy}
use Rattle.proof_resume.proofs.Finish.Marks.{applier_quiet, copier_quiet, done_lists, finish_marked, is_quiet_if, marked_more, marked_run, GoesMarked, MarkAt, lists_new, lists_new_is, lists_sentry, lists_sentry_is}
use Rattle.proof_resume.proofs.Finish.Owners.{Owners}
use Rattle.proof_resume.proofs.Finish.Sentries.{unlisted_free}
use Rattle.proof_resume.proofs.Finish.Prompt.{after_is, alone_more, answer_is, finish_turns, its_actor, its_request, lost_cut, StandsAlone}

-- WHAT A SESSION STANDS AT

-- who locked no table, and waits with nothing
pub none_locked : (own : Option ℕ) (number : ℕ) (sessions : List Session) → AllByRecursion (IsFreeBut own) sessions → (face_of sessions number).locked ≡ []
none_locked own number [] all = refl
none_locked own number (first ∷ sessions) all = by (first.number == number) (none_locked own number sessions all.1) where
  by : (b : Bool) → (face_of sessions number).locked ≡ [] → (face_in (cond b (Some first) (session_of number sessions))).locked ≡ []
  by true rest = ap (map (λ (one : HeldName). one.name)) all.0.unlocked
  by false rest = rest

pub record IsIdle (standing : Standing) : Type 0 where
  pub unlocked : standing.locked ≡ []
  pub idle : standing.waits ≡ None

pub idle_in : (own live : Option ℕ) (state : State) → IsHeldBy own state → IsIdle (standing_in state live)
idle_in own None state held = record { unlocked = refl; idle = refl }
idle_in own (Some number) state held = record { unlocked = none_locked own number state.sessions held.sessions; idle = ap (λ (w : List Waiting). request_of (waiting_of number w)) held.waits }

-- THE TABLES THAT A RUN LEAVES

guarded_of : (plan : PlanData) (tables : Database) (phase : Phase) → is_done phase ≡ false → schema_of (ghost_name plan.table) tables ≡ Some (ghost_schema plan) → TablesAt plan tables phase → GuardedTables plan tables
guarded_of plan tables phases.Resting undone ghost at = free_guards plan tables at
guarded_of plan tables (phases.Attempting stage) undone ghost at = guarded_in plan tables stage at
guarded_of plan tables (phases.Ending Looking) undone ghost (inl at) = at
guarded_of plan tables (phases.Ending Looking) undone ghost (inr renamed) = absurd (no (sym ghost ∙ renamed)) where
  no : Some (ghost_schema plan) ≡ None → ⊥
  no same = cc
guarded_of plan tables (phases.Ending (Drops left)) undone ghost at = at
guarded_of plan tables (phases.Finishing clearing) undone ghost at = absurd (true≢false undone)
guarded_of plan tables phases.Finished undone ghost at = absurd (true≢false undone)

-- *Until the RENAME* both tables exist, and none but the sentry has the old one's name
run_guarded : (plan : PlanData) (run : List Entry) → IsRunnable plan → IsKept plan run → IsUnaltered plan run → is_migrating (moment plan run).tool.tool_phase ≡ true → GuardedTables plan (state_at plan run).tables
run_guarded plan run runs kept off migrating = by (moment plan run).tool.tool_phase refl migrating standing.tool_phase where
  standing : IsStanding plan run
  standing = all_standing plan run runs.fitting runs.stands kept.faithful kept.follows

  by : (tool_phase : ToolPhase) → (moment plan run).tool.tool_phase ≡ tool_phase → is_migrating tool_phase ≡ true → ToolPhaseAt plan (state_at plan run).tables (standing_of plan run Insp).waits tool_phase → GuardedTables plan (state_at plan run).tables
  by (SettingUp setup tries) same migrating at = absurd (false≢true migrating)
  by (Migrating work) same migrating at =
      let unmarked : Unmarked plan run work = unmarked_now plan run work (all_asked plan run runs kept.faithful kept.follows) off same in guarded_of plan (state_at plan run).tables work.cutover.phase unmarked.undone.undone unmarked.ghost at.tables

-- WHAT EXISTS AT EACH STAGE

-- the tables as they were listed
pub record SeenTables (plan : PlanData) (tables : Database) (seen : Listed) : Type 0 where
  exist : TablesExist plan tables
  new : lists_new seen ≡ true
  free : lists_sentry seen ≡ false → IsFree plan tables

abbrev pub GuardAt : PlanData → List Entry → Stage → Type 0
GuardAt plan journal Losing = GuardedTables plan (state_at plan journal).tables ⊎ (was_altered plan journal ≡ true)
GuardAt plan journal Listing = GuardedTables plan (state_at plan journal).tables ⊎ (was_altered plan journal ≡ true)
GuardAt plan journal (Reading seen) = SeenTables plan (state_at plan journal).tables seen ⊎ (was_altered plan journal ≡ true)
GuardAt plan journal (Clearing found) = TablesExist plan (state_at plan journal).tables
GuardAt plan journal (ReadingCounter found) = FreeTables plan (state_at plan journal).tables
GuardAt plan journal (SettingCounter found number) = FreeTables plan (state_at plan journal).tables
GuardAt plan journal (Ranging found) = FreeTables plan (state_at plan journal).tables
GuardAt plan journal (Copying copier applier) = FreeTables plan (state_at plan journal).tables
GuardAt plan journal (Applying applier) = FreeTables plan (state_at plan journal).tables
GuardAt plan journal Exchanging = FreeTables plan (state_at plan journal).tables
GuardAt plan journal (RollingBack row) = Unit {0}
GuardAt plan journal (Reverted row) = Unit {0}
GuardAt plan journal stage = was_altered plan journal ≡ true

-- a table that is dropped is gone, also where it wasn't there
done_drops : (name : List ℕ) (state : State) (number : ℕ) → is_outside (session_of number state.sessions) (requests.Drop name) ≡ false → schema_of name (done state number (requests.Drop name)).after.tables ≡ None
unfolding did
done_drops name state number inside = rw inside (by (has_table name state.tables) (has_is name state.tables)) where
  none : (found : Option Schema) → false ≡ is_some found → found ≡ None
  none None is = refl
  none (Some schema) is = absurd (false≢true is)

  by : (b : Bool) → b ≡ is_some (schema_of name state.tables) → schema_of name (does (defined (dropped b name state.tables)) state number).after.tables ≡ None
  by true is = ap (option_map (λ (t : TableRows). t.schema)) (gone_none name state.tables)
  by false is = none (schema_of name state.tables) is

module _ (plan : PlanData) (journal : List Entry) (entry : Entry) (in_own : IsSeated journal entry) (unlost : entry.side ≡ None) (answered : IsAnswered (state_at plan journal) entry) (owners : Owners plan journal) (known : IsKnown plan journal) (at_once : is_cut entry.asked ≡ false → came_at_once entry.answer ≡ true) where
  abbrev more : List Entry
  more = journal ++ entry ∷ []

  abbrev now : State
  now = state_at plan journal

  abbrev after : State
  after = state_at plan more

  abbrev open_now : State
  open_now = opens entry now

  served : IsServed plan journal entry
  served = record { answered = answered; seated = in_own }

  opened_tables : open_now.tables ≡ now.tables
  opened_tables = ap (λ (s : Stored). s.tables) (stored_opened (is_command entry.asked) (not (is_client entry.actor)) entry.session now)

  stays_marked : was_altered plan journal ≡ true → was_altered plan more ≡ true
  stays_marked marked = history_more plan journal entry ∙ or_left (is_marked plan journal) (list_any is_alter (entry_adds plan journal entry)) marked

  module _ (own : Option ℕ) (held : IsHeldBy own now) where
    idle : IsIdle (standing_of plan journal entry.actor)
    idle = idle_in own (live_session journal entry.actor) now held

    about_call : (request : Request) → entry.asked ≡ Call request → IsAbout request (standing_of plan journal entry.actor) entry.asked
    about_call request called = is_called called idle.idle

    keeps_schema : (name : List ℕ) (request : Request) → entry.asked ≡ Call request → keeps_table name request ≡ true → schema_of name after.tables ≡ schema_of name now.tables
    keeps_schema name request called keeps = schema_stays plan journal entry served (own_waiting plan journal entry known served) name request (about_call request called) keeps

    all_stay : (request : Request) → entry.asked ≡ Call request → is_quiet request ≡ true → AllStay now.tables after.tables
    all_stay request called quiet name = keeps_schema name request called (quiet_keeps name request quiet)

    free_more : (request : Request) → entry.asked ≡ Call request → is_quiet request ≡ true → FreeTables plan now.tables → FreeTables plan after.tables
    free_more request called quiet at = free_stay plan now.tables after.tables (all_stay request called quiet) at

  -- SESSIONS ARE LOST

  quiet_cut : (asked : Asked) → is_cut asked ≡ true → may_lose asked ≡ false
  quiet_cut Cut cut = refl
  quiet_cut (Call request) cut = absurd (true≢false (sym cut))
  quiet_cut Poll cut = absurd (true≢false (sym cut))
  quiet_cut (Command word) cut = absurd (true≢false (sym cut))

  cut_stay : is_cut entry.asked ≡ true → AllStay now.tables after.tables
  cut_stay cut name = schema_rests plan journal entry served (own_waiting plan journal entry known served) name (quiet_cut entry.asked cut)

  losing_guard : (live : Bool) → is_cut entry.asked ≡ true → GuardedTables plan now.tables ⊎ (was_altered plan journal ≡ true) → GuardAt plan more (cond live Losing Listing)
  losing_guard true cut (inl at) = inl (guarded_stay plan now.tables after.tables (cut_stay cut) at)
  losing_guard false cut (inl at) = inl (guarded_stay plan now.tables after.tables (cut_stay cut) at)
  losing_guard true cut (inr marked) = inr (stays_marked marked)
  losing_guard false cut (inr marked) = inr (stays_marked marked)

  -- THE TABLES ARE LISTED

  listed_guard : entry.asked ≡ Call requests.ShowTables → IsHeldBy None now → GuardedTables plan now.tables ⊎ (was_altered plan journal ≡ true) → GuardAt plan more (listed plan entry.answer)
  listed_guard called held at =
      subst (λ (a : Answer). GuardAt plan more (listed plan a))
      (sym (answer_is plan journal entry in_own.session unlost answered owners requests.ShowTables called (any_own (Some entry.session) now held) ∙ done_lists open_now entry.session ∙ ap (λ (t : Database). answers.Tables (tables_shown t)) opened_tables)) (by at) where
        stay : AllStay now.tables after.tables
        stay = all_stay None held requests.ShowTables called refl

        by : GuardedTables plan now.tables ⊎ (was_altered plan journal ≡ true) → SeenTables plan after.tables (listed_in plan (tables_shown now.tables)) ⊎ (was_altered plan more ≡ true)
        by (inr marked) = inr (stays_marked marked)
        by (inl at) =
            let new : has_name (ghost_name plan.table) (tables_shown now.tables) ≡ true = listed_is (ghost_name plan.table) now.tables ∙ ap is_some at.stand.ghost in
            inl (record {
              exist = stand_stay plan now.tables after.tables stay at.stand;
              new = lists_new_is plan (tables_shown now.tables) ∙ new;
              free = λ none. stay (old_name plan.table) ∙ unlisted_free plan now.tables at.sentry (sym (lists_sentry_is plan (tables_shown now.tables) new) ∙ none);
            })

  -- THE CHECKPOINT IS READ

  counting_guard : (found : Checkpoint) → FreeTables plan after.tables → GuardAt plan more (counting plan found)
  counting_guard found at = by (has_counter plan) where
    by : (b : Bool) → GuardAt plan more (cond b (ReadingCounter found) (Ranging found))
    by true = at
    by false = at

  counting_off : (found : Checkpoint) → MarkAt plan more (counting plan found) → IsUnaltered plan more
  counting_off found marks = by (has_counter plan) marks where
    by : (b : Bool) → MarkAt plan more (cond b (ReadingCounter found) (Ranging found)) → IsUnaltered plan more
    by true off = off
    by false off = off

  read_guard : (seen : Listed) (found : Option Checkpoint) → MarkAt plan more (has_read plan seen found) → SeenTables plan after.tables seen ⊎ (was_altered plan more ≡ true) → GuardAt plan more (has_read plan seen found)
  read_guard seen None marks at = at
  read_guard (NotRenamed true) (Some found) marks (inl at) = at.exist
  read_guard (NotRenamed false) (Some found) marks (inl at) = counting_guard found (record { stand = at.exist; free = at.free refl })
  read_guard (Renamed old) (Some found) marks (inl at) = absurd (true≢false (sym at.new))
  read_guard (NotRenamed true) (Some found) off (inr marked) = absurd (true≢false (sym marked ∙ off))
  read_guard (NotRenamed false) (Some found) off (inr marked) = absurd (true≢false (sym marked ∙ counting_off found off))
  read_guard (Renamed old) (Some found) marks (inr marked) = marked

  seen_more : (seen : Listed) (request : Request) → entry.asked ≡ Call request → is_quiet request ≡ true → IsHeldBy None now → SeenTables plan now.tables seen ⊎ (was_altered plan journal ≡ true) → SeenTables plan after.tables seen ⊎ (was_altered plan more ≡ true)
  seen_more seen request called quiet held (inr marked) = inr (stays_marked marked)
  seen_more seen request called quiet held (inl at) =
      let stay : AllStay now.tables after.tables = all_stay None held request called quiet in
      inl (record { exist = stand_stay plan now.tables after.tables stay at.exist; new = at.new; free = λ none. stay (old_name plan.table) ∙ at.free none })

  -- THE SENTRY IS DROPPED

  cleared_guard : (found : Checkpoint) → entry.asked ≡ Call (requests.Drop (old_name plan.table)) → IsHeldBy None now → TablesExist plan now.tables → GuardAt plan more (counting plan found)
  cleared_guard found called held at =
      counting_guard found (record {
        stand = record {
          old = keeps_schema None held plan.table (requests.Drop (old_name plan.table)) called (ap not (not_old plan.table)) ∙ at.old;
          ghost = keeps_schema None held (ghost_name plan.table) (requests.Drop (old_name plan.table)) called (ap not (ghost_not_old plan.table)) ∙ at.ghost;
        };
        free = ap (λ (s : State). schema_of (old_name plan.table) s.tables) (after_is plan journal entry in_own.session unlost answered owners (requests.Drop (old_name plan.table)) called (any_own (Some entry.session) now held))
            ∙ done_drops (old_name plan.table) open_now entry.session
            (not_outside (session_of entry.session open_now.sessions) (requests.Drop (old_name plan.table))
            (none_locked None entry.session open_now.sessions (opened_held None (is_command entry.asked) (not (is_client entry.actor)) entry.session now held).sessions));
      })

  -- THE COPY AND THE EVENTS

  counter_guard : (found : Checkpoint) (given : Answer) → FreeTables plan after.tables → GuardAt plan more (counter_read found given)
  counter_guard found (answers.At number) at = at
  counter_guard found given at = at

  applying_guard : (applier : Applier) → FreeTables plan after.tables → GuardAt plan more (applying plan after applier)
  applying_guard applier at = by (appliers.starts applier && (unread after applier.position (plan.table ∷ log_name plan.table ∷ []) == 0)) where
    by : (b : Bool) → GuardAt plan more (cond b Exchanging (Applying applier))
    by true = at
    by false = at

  copying_guard : (copier : Copier) (applier : Applier) → FreeTables plan after.tables → GuardAt plan more (copying plan after copier applier)
  copying_guard copier applier at = by copier.is_copied where
    by : (b : Bool) → GuardAt plan more (cond b (applying plan after applier) (Copying copier applier))
    by true = applying_guard applier at
    by false = at

  copied_guard : (turn : ℕ) (applier : Applier) (before then : Copier) (progress : Progress) → FreeTables plan after.tables → GuardAt plan more (copied plan after turn applier before then progress)
  copied_guard turn applier before then (Unfit column number) at = tt
  copied_guard turn applier before then Going at = copying_guard then applier at
  copied_guard turn applier before then TaskDone at = copying_guard then applier at
  copied_guard turn applier before then TaskFailed at = copying_guard then applier at

  applied_guard : (turn : ℕ) (before then : Applier) (progress : Progress) → FreeTables plan after.tables → GuardAt plan more (applied plan after turn before then progress)
  applied_guard turn before then (Unfit column number) at = tt
  applied_guard turn before then Going at = applying_guard then at
  applied_guard turn before then TaskDone at = applying_guard then at
  applied_guard turn before then TaskFailed at = applying_guard then at

  ranged_guard : (found : Checkpoint) (given : Answer) → FreeTables plan after.tables → GuardAt plan more (ranged plan after found given)
  ranged_guard found (answers.Ends range) at = copying_guard (copier_from plan found.reach range) (applier_from plan found.position) at
  ranged_guard found given at = at

  copier_more : (own : Option ℕ) → IsHeldBy own now → (request : Option Request) → is_quiet_if request ≡ true → finishes.copies request ≡ Some (entry.actor, entry.asked) → FreeTables plan now.tables → FreeTables plan after.tables
  copier_more own held None quiet is at = absurd (cc)
  copier_more own held (Some request) quiet is at = free_more own held request (its_request entry Copy request is) quiet at

  -- THE TABLES ARE EXCHANGED

  done_here : IsHeldBy None now → entry.asked ≡ Call (exchange plan.table) → FreeTables plan now.tables → (count : ℕ) × (entry.answer ≡ answers.Ok count)
  done_here held called at = by (exchange_left plan journal entry known served plan.table (about_call None held (exchange plan.table) called) (idle None held).unlocked) where
    once : came_at_once entry.answer ≡ true
    once = at_once (ap is_cut called)

    may : MayExchange plan.table now.tables
    may = record {
      old = has_is plan.table now.tables ∙ ap is_some at.stand.old;
      ghost = has_is (ghost_name plan.table) now.tables ∙ ap is_some at.stand.ghost;
      free = has_is (old_name plan.table) now.tables ∙ ap is_some at.free;
    }

    answer_ok : (answer : Answer) → entry.answer ≡ answer → came_at_once answer ≡ true → ExchangeLeaves plan.table now.tables answer after.tables → (count : ℕ) × (entry.answer ≡ answers.Ok count)
    answer_ok (answers.Ok count) is once left = (count, is)
    answer_ok (answers.Waits by) is once left = absurd (false≢true once)
    answer_ok (answers.TimedOut waited) is once left = absurd (false≢true once)
    answer_ok (answers.Refused number column) is once left = absurd (left.1 may)
    answer_ok answer is once left = absurd left

    by : Left (ExchangeLeaves plan.table now.tables) now.tables entry.answer after.tables → (count : ℕ) × (entry.answer ≡ answers.Ok count)
    by (heard left) = answer_ok entry.answer refl once left
    by (lost is stay) = absurd (false≢true (sym (ap came_at_once is) ∙ once))
    by (missed inner is left) = absurd (false≢true (sym (ap came_at_once is) ∙ once))

  exchanged : entry.actor ≡ Ren → entry.asked ≡ Call (exchange plan.table) → (count : ℕ) → entry.answer ≡ answers.Ok count → was_altered plan more ≡ true
  exchanged actor called count ok =
      history_more plan journal entry ∙ or_right (is_marked plan journal) (list_any is_alter (entry_adds plan journal entry))
      (ap (λ (a : Actor). list_any is_alter (adds plan journal entry a)) actor
      ∙ ap (λ (asked : Asked). list_any is_alter (alters plan (asked_about asked (request_waiting journal entry.actor)) (answer_in asked entry.side entry.answer entry.missed))) called
      ∙ ap (λ (side : Option Side). list_any is_alter (alters plan (Some (exchange plan.table)) (answer_in (Call (exchange plan.table)) side entry.answer entry.missed))) unlost
      ∙ ap (λ (a : Answer). list_any is_alter (alters plan (Some (exchange plan.table)) (Some a))) ok
      ∙ ap (λ (b : Bool). list_any is_alter (cond b (Alter ∷ []) [])) (exchange_takes plan.table _ refl))

  log_guard : (old : Bool) → was_altered plan more ≡ true → GuardAt plan more (dropped_log old)
  log_guard true marked = marked
  log_guard false marked = marked

  -- EACH STAGE

  turn_guard : (stage : Stage) → next plan journal stage ≡ Some (entry.actor, entry.asked) → StandsAlone journal now stage → MarkAt plan more (took plan more after entry.answer stage) → GuardAt plan journal stage → GuardAt plan more (took plan more after entry.answer stage)
  unfolding next took
  turn_guard Losing is held marks at = losing_guard (is_some (first_live plan more)) (lost_cut entry (first_live plan journal) is) at
  turn_guard Listing is held marks at = listed_guard (its_request entry Insp requests.ShowTables is) held at
  turn_guard (Reading seen) is held marks at =
      read_guard seen (checkpoint_in entry.answer) marks (seen_more seen _ (its_request entry Insp _ is) refl held at)
  turn_guard (Clearing found) is held marks at = cleared_guard found (its_request entry Insp _ is) held at
  turn_guard (ReadingCounter found) is held marks at = counter_guard found entry.answer (free_more None held _ (its_request entry Insp _ is) refl at)
  turn_guard (SettingCounter found number) is held marks at = free_more None held _ (its_request entry Insp _ is) refl at
  turn_guard (Ranging found) is held marks at = ranged_guard found entry.answer (free_more None held _ (its_request entry Insp _ is) refl at)
  turn_guard (Copying copier applier) is held marks at =
      copied_guard (length more) applier copier (copiers.took (length more) copier entry.answer) (copiers.progress copier entry.answer) (copier_more _ held (copiers.next journal copier) (copier_quiet journal copier) is at)
  turn_guard (Applying applier) is held marks at =
      applied_guard (length more) applier (appliers.took (length more) applier entry.answer) (appliers.progress applier entry.answer) (free_more _ held _ (its_request entry Apply _ is) (applier_quiet journal applier) at)
  turn_guard Exchanging is held marks at = let one = done_here held (its_request entry Ren (exchange plan.table) is) at in exchanged (its_actor entry Ren (exchange plan.table) is) (its_request entry Ren (exchange plan.table) is) one.0 one.1
  turn_guard (DroppingLog old) is held marks at = log_guard old (stays_marked at)
  turn_guard DroppingOld is held marks at = stays_marked at
  turn_guard (RollingBack row) is held marks at = tt
  turn_guard Done is held marks at = absurd (cc)
  turn_guard (Reverted row) is held marks at = absurd (cc)

-- ALONG THE TURNS

-- *What exists* behind these turns
pub record Guards (plan : PlanData) (run turns : List Entry) : Type 0 where
  pub marked : GoesMarked plan run turns
  pub guard : GuardAt plan (run ++ turns) (stage_behind plan run turns)

abbrev Turn : PlanData → List Entry → List Entry → Entry → Type 0
Turn plan run before entry = IsFinishTurn plan run before entry × IsAnswered (state_at plan before) entry

pub guards_more : (plan : PlanData) (run turns : List Entry) (entry : Entry) → Turn plan run (run ++ turns) entry → Guards plan run turns → Guards plan run (turns ++ entry ∷ [])
guards_more plan run turns entry turn guards =
    let journal : List Entry = run ++ turns in
    let more : List Entry = journal ++ entry ∷ [] in
    let all : run ++ (turns ++ entry ∷ []) ≡ more = sym (append_assoc run turns (entry ∷ [])) in
    let stage : Stage = stage_behind plan run turns in
    let given : next plan journal stage ≡ Some (entry.actor, entry.asked) = ap (λ (some : List Entry). next plan journal (stage_behind plan run some)) (sym (drop-append_seam run turns)) ∙ turn.0.given in
    let marked : GoesMarked plan run (turns ++ entry ∷ []) = marked_more plan run turns entry turn guards.marked in
    let alone = guards.marked.alone in
    record {
      marked = marked;
      guard = subst (λ (j : List Entry). GuardAt plan j (stage_behind plan run (turns ++ entry ∷ []))) (sym all)
          (subst (GuardAt plan more) (sym (stage_more plan run turns entry))
          (turn_guard plan journal entry (record { session = turn.0.session }) turn.0.side turn.1 alone.owners guards.marked.known (alone_more plan run turns entry turn.0 turn.1 alone).at_once stage given alone.stands
          (subst (MarkAt plan more) (stage_more plan run turns entry) (subst (λ (j : List Entry). MarkAt plan j (stage_behind plan run (turns ++ entry ∷ []))) all marked.marks)) guards.guard));
    }

pub all_guard : (plan : PlanData) (run turns rest : List Entry) → Along (Turn plan run) (run ++ turns) rest → Guards plan run turns → Guards plan run (turns ++ rest)
all_guard plan run turns [] kept guards = subst (Guards plan run) (sym (append-nil turns)) guards
all_guard plan run turns (entry ∷ rest) kept guards =
    subst (Guards plan run) (append_assoc turns (entry ∷ []) rest)
    (all_guard plan run (turns ++ entry ∷ []) rest (subst (λ (all : List Entry). Along (Turn plan run) all rest) (append_assoc run turns (entry ∷ [])) kept.1) (guards_more plan run turns entry kept.0 guards))

pub guard_begins : (plan : PlanData) (run : List Entry) → IsRunnable plan → IsSerialPlan plan → IsKept plan run → is_migrating (moment plan run).tool.tool_phase ≡ true → Guards plan run []
unfolding stage_behind
guard_begins plan run runs serial kept migrating = record {
  marked = marked_run plan run runs serial kept;
  guard = subst (λ (j : List Entry). GuardAt plan j (losing plan run)) (sym (append-nil run)) (by (is_some (first_live plan run)) (first (was_altered plan run) refl));
} where
  first : (b : Bool) → was_altered plan run ≡ b → GuardedTables plan (state_at plan run).tables ⊎ (was_altered plan run ≡ true)
  first true is = inr is
  first false is = inl (run_guarded plan run runs kept is migrating)

  by : (b : Bool) → GuardedTables plan (state_at plan run).tables ⊎ (was_altered plan run ≡ true) → GuardAt plan run (cond b Losing Listing)
  by true at = at
  by false at = at

-- a run that wrote a checkpoint is migrating
pub migrating_of : (plan : PlanData) (run : List Entry) → has_checkpoint plan run ≡ true → is_migrating (moment plan run).tool.tool_phase ≡ true
unfolding has_checkpoint
migrating_of plan run has = by (is_migrating (moment plan run).tool.tool_phase) (list_any writes_checkpoint run) (has_table (log_name plan.table) (state_at plan run).tables) has where
  by : (a b c : Bool) → (a && b && c) ≡ true → a ≡ true
  by true b c is = refl
  by false b c is = absurd (false≢true is)

-- *Done finishes altered*
pub done_finishes_altered : DoneFinishesAltered
unfolding finish_verdict
done_finishes_altered plan run turns runs serial kept has finish faithful is =
    let guards : Guards plan run turns = all_guard plan run [] turns (subst (λ (all : List Entry). Along (Turn plan run) all turns) (sym (append-nil run)) (finish_turns plan run turns finish faithful)) (guard_begins plan run runs serial kept (migrating_of plan run has)) in
    by (stage_behind plan run turns) guards.guard is where
      by : (stage : Stage) → GuardAt plan (run ++ turns) stage → verdict_in plan (run ++ turns) stage ≡ verdicts.Done → was_altered plan (run ++ turns) ≡ true
      by Done guard same = guard
      by (Reverted row) guard same = absurd (cc)
      by stage guard same = absurd (cc)

-- *Reverted finishes didn't*
pub reverted_finishes_did_not : RevertedFinishesDidNot
unfolding finish_verdict
reverted_finishes_did_not plan run turns cause runs serial kept finish faithful is = by (stage_behind plan run turns) (finish_marked plan run turns runs serial kept finish faithful).marks is where
  by : (stage : Stage) → MarkAt plan (run ++ turns) stage → verdict_in plan (run ++ turns) stage ≡ verdicts.Reverted cause → was_altered plan (run ++ turns) ≡ false
  by Done marks same = absurd (cc)
  by (Reverted row) marks same = marks
  by stage marks same = absurd (cc)
