-- Over the copier's and the applier's turns the migration stands, so that the new table is the altered one when the tables are exchanged.
use Rattle.std.proofs.Common.{◌≡◌, ℕ, ◌+◌, ◌==◌, Bool, true, false, ◌&&◌, ◌||◌, List, [], ◌∷◌, ◌++◌, length, drop, cond, Option, Some, None, refl, sym, ap, ◌∙◌, subst, append_assoc, append-nil, arith}
use Rattle.std.specs.Prelude.{count_by, is_some}
use Rattle.std.specs.Str.{bytes_eq}
use Rattle.std.proofs.lemmas.Bool.{false≢true}
use Rattle.std.proofs.lemmas.Bool.Decides.{nat_tests}
use Rattle.std.proofs.lemmas.List.{length-append}
use Rattle.std.proofs.lemmas.List.Sums.{sum_by-cons}
use Rattle.std.proofs.Math.Seq.{drop-append_seam}
use Rattle.base_values.specs.ToolNames.{ghost_name, log_name}
use Rattle.base_values.specs.declared.event.RowEvent.{RowEvent}
use Rattle.base_script.specs.declared.actor.Actor.{Actor}
use Rattle.base_script.specs.declared.actor.Actor.TheVariants.{Copy, Apply}
use Rattle.server_model.specs.Along.{Along, Along-both, Along-more}
use Rattle.server_model.specs.declared.answer.Answer.{Answer}
use Rattle.server_model.specs.declared.answer.Answer.TheVariants as answers
use Rattle.server_model.specs.declared.answer.KeyRange.{KeyRange}
use Rattle.server_model.specs.declared.entry.Asked.{Asked}
use Rattle.server_model.specs.declared.entry.Asked.TheVariants.{Call}
use Rattle.server_model.specs.declared.entry.Entry.{Entry}
use Rattle.server_model.specs.declared.outcome.Progress.{Progress}
use Rattle.server_model.specs.declared.outcome.Progress.TheVariants.{Going, TaskDone, TaskFailed, Unfit}
use Rattle.server_model.specs.declared.request.Request.{Request}
use Rattle.server_model.specs.Entries.{is_client, is_command, is_cut, same_actor}
use Rattle.server_model.specs.States.{State, is_of, is_of_tool, session_of, unread}
use Rattle.server_model.proofs.LockedRows.Tests.{turned}
use Rattle.plan_data.specs.PlanData.{PlanData, has_counter}
use Rattle.tool_notes.specs.declared.checkpoint.Checkpoint.{Checkpoint}
use Rattle.tool_program.specs.CutoverCore.Attempts.{exchange}
use Rattle.tool_program.specs.JournalWords.Journals.{opens, state_at, IsAnswered, IsFaithful}
use Rattle.tool_program.specs.JournalWords.KeptPlans.{TakesNext}
use Rattle.tool_program.specs.JournalWords.Sessions.{live_session, session_left, IsSeated, KeepsSessions}
use Rattle.tool_program.specs.declared.chunk_copier.copier.Copier.{Copier}
use Rattle.tool_program.specs.ChunkCopier.Copiers as copiers
use Rattle.tool_program.specs.declared.event_applier.applier.Applier.{Applier}
use Rattle.tool_program.specs.declared.event_applier.applier.ApplyStep.{ApplyStep}
use Rattle.tool_program.specs.declared.event_applier.applier.ApplyStep.TheVariants as batches
use Rattle.tool_program.specs.EventApplier.Appliers as appliers
use Rattle.tool_finish.specs.declared.stage.Stage.{Stage}
use Rattle.tool_finish.specs.declared.stage.Stage.TheVariants.{Losing, Listing, Reading, Clearing, ReadingCounter, SettingCounter, Ranging, Copying, Applying, Exchanging, DroppingLog, DroppingOld, RollingBack, Done, Reverted}
use Rattle.tool_finish.specs.declared.stage.Listed.{Listed}
use Rattle.tool_finish.specs.declared.stage.Listed.TheVariants.{NotRenamed, Renamed}
use Rattle.tool_finish.specs.Finishes.{applied, applier_from, applying, checkpoint_in, copied, copier_from, copying, counter_read, counting, dropped_log, has_read, listed, next, ranged, stage_behind, took, IsFinish, IsFinishTurn}
use Rattle.tool_finish.specs.Finishes as finishes
use Rattle.tool_finish.proofs.Walking.{stage_more}
use Rattle.proof_journals.specs.Ghost.Copies.{IsAltered}
use Rattle.proof_journals.specs.Ghost.HeldKeys.{Clustered}
use Rattle.proof_journals.specs.Ghost.Rows.Moments.{Row}
use Rattle.proof_journals.specs.Ghost.Rows.Timelines.{Migration}
use Rattle.proof_journals.specs.Machine.Standings.{MayTake}
use Rattle.proof_journals.specs.Plans.{limits_of, scene_of, IsPlanRun, KeepsAway, TakesLines}
use Rattle.proof_journals.specs.Run.Kept.{IsKept}
use Rattle.proof_journals.specs.Turns.{about, RenamesSo, IsSceneRun}
use Rattle.proof_journals.proofs.Actors.{live_more, placed, same_actor_itself, Placed}
use Rattle.proof_journals.proofs.Machine.Calling.{served_along}
use Rattle.proof_journals.proofs.Machine.Seated.{all_known, IsKnown}
use Rattle.proof_journals.proofs.PlanJournals.{plan_runs_are_scene_runs}
use Rattle.proof_migration.specs.Migration.Machines.{MigrationStands, applier_turns, copier_turns}
use Rattle.proof_migration.specs.Migration.Planning.{migration_of}
use Rattle.proof_migration.specs.Program.Turns.Laws.{IsMigrationOf}
use Rattle.proof_migration.specs.ToolPhase.Runnable.{IsAlterable}
use Rattle.proof_migration.proofs.ToolServes.{session_of_tool}
use Rattle.proof_migration.proofs.Migration.Migrating.{ends, turns_keep}
use Rattle.proof_migration.proofs.Program.Turns.ActorStates.{actor_state_apart, actor_state_before, actor_state_own, some_actor_states, SomeActorStates}
use Rattle.proof_migration.proofs.Program.Turns.Takes.{in_scene}
use Rattle.proof_migration.proofs.Program.Turns.Others.{ghost_named}
use Rattle.proof_migration.proofs.ToolPhase.Marked.{renames_so}
use Rattle.proof_resume.specs.Finish.Prompt.{came_at_once}
use Rattle.proof_migration.specs.Program.Turns.Goes.{machines_of, StandsFor}
use Rattle.proof_resume.specs.Finish.Walks.{FinishesAlter, StartsRight}
use Rattle.proof_resume.proofs.Finish.Machines.{IsApplierOf, IsCopierOf}
use Rattle.proof_resume.proofs.Finish.Owners.{heard_left, IsHeard, Owners}
use Rattle.proof_resume.proofs.Finish.Prompt.{alone_more, finish_turns, its_actor, its_request}
use Rattle.proof_resume.proofs.Finish.Runs.{away_begins, away_more, GoesAway, IsAwayTurn, Knows}

-- NOTHING IS UNREAD

none_of_both : (a b : Bool) (n : ℕ) → cond (a || b) 1 0 + n ≡ 0 → (a ≡ false) × (n ≡ 0)
none_of_both true b n none = absurd (omega (arith, none))
none_of_both false true n none = absurd (omega (arith, none))
none_of_both false false n none = (refl, omega (arith, none))

none_unread : (table log : List ℕ) (events : List RowEvent) → count_by (is_of (table ∷ log ∷ [])) events ≡ 0 → appliers.events_of table events ≡ []
none_unread table log [] none = refl
none_unread table log (event ∷ events) none =
    let parts = none_of_both (bytes_eq event.table table) (bytes_eq event.table log || false) (count_by (is_of (table ∷ log ∷ [])) events) (sym (sum_by-cons (λ (e : RowEvent). cond (is_of (table ∷ log ∷ []) e) 1 0) event events) ∙ none) in
    rw parts.0 (none_unread table log events parts.1)

zero_of : (n : ℕ) → (n == 0) ≡ true → n ≡ 0
zero_of n is = grind (arith, nat_tests)

reading_of : (step : ApplyStep) → appliers.is_reading step ≡ true → step ≡ batches.Reading
reading_of batches.Reading is = refl
reading_of (batches.Beginning batch) is = absurd (false≢true is)
reading_of (batches.Applying batch done part) is = absurd (false≢true is)
reading_of (batches.Committing batch) is = absurd (false≢true is)

at_once_heard : (answer : Answer) → came_at_once answer ≡ true → IsHeard answer
at_once_heard answers.Lost is = false≢true is
at_once_heard other is = tt

module _ (plan : PlanData) (is : IsAlterable plan) (at : Clustered is.table.schema) (rows : List Row) (of : IsMigrationOf plan (migration_of is.table.schema is.new) rows) where
  abbrev m : Migration
  m = migration_of is.table.schema is.new

  named_new : m.new.name ≡ ghost_name m.name
  named_new = ghost_named plan m of.of ∙ ap ghost_name (sym of.of.name)

  -- WHAT STANDS AT EACH STAGE

  abbrev pub WalksAt : List Entry → Stage → Type 0
  WalksAt journal (Copying copier applier) = (appliers.starts applier ≡ true) × StandsFor plan m at rows journal copier applier
  WalksAt journal (Applying applier) = (copier : Copier) × (copier.is_copied ≡ true) × StandsFor plan m at rows journal copier applier
  WalksAt journal Exchanging = IsAltered m (state_at plan journal).tables
  WalksAt journal stage = Unit {0}

  run_known : (journal : List Entry) → IsPlanRun plan journal → IsKnown plan journal
  unfolding KeepsSessions
  run_known journal run = all_known plan journal (served_along plan [] journal run.faithful run.seated)

  -- ONE TURN

  module _ (journal : List Entry) (entry : Entry) (run : IsPlanRun plan journal) (more_run : IsPlanRun plan (journal ++ entry ∷ [])) (owners : Owners plan journal) (in_own : IsSeated journal entry) (answered : IsAnswered (state_at plan journal) entry) (at_once : is_cut entry.asked ≡ false → came_at_once entry.answer ≡ true) where
    abbrev more : List Entry
    more = journal ++ entry ∷ []

    abbrev n : ℕ
    n = entry.session

    known : IsKnown plan journal
    known = run_known journal run

    where_placed : Placed journal entry
    where_placed = placed journal entry in_own

    scene_run : IsSceneRun (limits_of plan) (scene_of plan more) more
    scene_run = plan_runs_are_scene_runs plan more more_run

    live_after : (request : Request) → entry.asked ≡ Call request → (actor : Actor) → entry.actor ≡ actor → live_session more actor ≡ Some n
    live_after request called actor same =
        live_more journal entry actor
        ∙ ap (λ (b : Bool). cond b (session_left entry.asked entry.answer n) (live_session journal actor)) (ap (λ (a : Actor). same_actor a actor) same ∙ same_actor_itself actor)
        ∙ heard_left entry.asked entry.answer n (ap is_command called) (at_once_heard entry.answer (at_once (ap is_cut called)))

    its_session : (request : Request) → entry.asked ≡ Call request → (actor : Actor) → entry.actor ≡ actor → (session : ℕ) → MayTake more session (live_session more actor) → session ≡ n
    its_session request called actor same session may = subst (MayTake more session) (live_after request called actor same) may

    of_tool : (request : Request) → entry.asked ≡ Call request → is_client entry.actor ≡ false → is_of_tool (session_of n (opens entry (state_at plan journal)).sessions) ≡ true
    of_tool request called tool = session_of_tool journal (state_at plan journal) entry owners.both.living owners.both.known where_placed answered (ap is_command called) tool

    copier_takes : (copier : Copier) (applier : Applier) (request : Request) → IsCopierOf plan copier → entry.actor ≡ Copy → entry.asked ≡ Call request → copiers.next journal copier ≡ Some request → ((place number : ℕ) → copiers.progress copier entry.answer ≡ Unfit place number → ⊥)
        → StandsFor plan m at rows journal copier applier → StandsFor plan m at rows more (copiers.took (length journal + 1) copier entry.answer) applier
    copier_takes copier applier request of_plan actor called given fits stands copies applies states =
        subst (λ (c : ℕ). MigrationStands m at rows (limits_of plan) (scene_of plan []) more (machines_of (copiers.took (length journal + 1) copier entry.answer) c applier applies)) (sym (its_session request called Copy actor copies states.copy))
        (in_scene plan m at rows more [] more _
        (turns_keep m at rows of.place of.planned of.is_place of.finds named_new (limits_of plan) (scene_of plan more) journal entry (machines_of copier n applier applies) _ scene_run
        (copier_turns (record {
          its = refl;
          table = of_plan.table ∙ sym of.of.name;
          map = of_plan.map ∙ sym of.of.columns;
          request = request;
          asked = ap (λ (asked : Asked). about (opens entry (state_at plan journal)) n asked) called;
          tool = of_tool request called (ap is_client actor);
          given = given;
          uncut = ap is_cut called;
          fits = fits;
        }) refl)
        (in_scene plan m at rows [] more journal (machines_of copier n applier applies) (stands n applies (record {
          copy = subst (λ (a : Actor). MayTake journal n (live_session journal a)) actor (actor_state_own plan journal entry known where_placed (ap is_command called));
          apply = actor_state_before plan journal entry known where_placed Apply applies (ap (λ (a : Actor). same_actor a Apply) actor) states.apply;
          two = turned applies n (actor_state_apart plan journal entry known where_placed Apply applies (ap (λ (a : Actor). same_actor a Apply) actor) states.apply);
        })))))

    applier_takes : (copier : Copier) (applier : Applier) (request : Request) → IsApplierOf plan applier → entry.actor ≡ Apply → entry.asked ≡ Call request → appliers.next journal applier ≡ request → ((place number : ℕ) → appliers.progress applier entry.answer ≡ Unfit place number → ⊥)
        → StandsFor plan m at rows journal copier applier → StandsFor plan m at rows more copier (appliers.took (length journal + 1) applier entry.answer)
    applier_takes copier applier request of_plan actor called given fits stands copies applies states =
        subst (λ (a : ℕ). MigrationStands m at rows (limits_of plan) (scene_of plan []) more (machines_of copier copies (appliers.took (length journal + 1) applier entry.answer) a)) (sym (its_session request called Apply actor applies states.apply))
        (in_scene plan m at rows more [] more _
        (turns_keep m at rows of.place of.planned of.is_place of.finds named_new (limits_of plan) (scene_of plan more) journal entry (machines_of copier copies applier n) _ scene_run
        (applier_turns (record {
          its = refl;
          table = of_plan.table ∙ sym of.of.name;
          schema = of_plan.schema ∙ sym of.of.new;
          map = of_plan.map ∙ sym of.of.columns;
          request = request;
          asked = ap (λ (asked : Asked). about (opens entry (state_at plan journal)) n asked) called;
          tool = of_tool request called (ap is_client actor);
          given = given;
          uncut = ap is_cut called;
          fits = fits;
        }) refl)
        (in_scene plan m at rows [] more journal (machines_of copier copies applier n) (stands copies n (record {
          copy = actor_state_before plan journal entry known where_placed Copy copies (ap (λ (a : Actor). same_actor a Copy) actor) states.copy;
          apply = subst (λ (a : Actor). MayTake journal n (live_session journal a)) actor (actor_state_own plan journal entry known where_placed (ap is_command called));
          two = actor_state_apart plan journal entry known where_placed Copy copies (ap (λ (a : Actor). same_actor a Copy) actor) states.copy;
        })))))

    -- WHAT FOLLOWS

    abbrev after : State
    after = state_at plan more

    altered : (copier : Copier) (applier : Applier) → copier.is_copied ≡ true → appliers.starts applier ≡ true → (unread after applier.position (plan.table ∷ log_name plan.table ∷ []) == 0) ≡ true → StandsFor plan m at rows more copier applier → IsAltered m after.tables
    unfolding unread
    altered copier applier all starts none stands =
        let some : SomeActorStates more = some_actor_states more (run_known more more_run).sessions in
        ends m at rows of.place of.planned of.is_place (limits_of plan) (scene_of plan more) more (machines_of copier some.copier applier some.applier) scene_run
        (record {
          copied = all;
          idle = reading_of applier.step starts;
          applied = ap (λ (name : List ℕ). appliers.events_of name (drop applier.position after.log)) of.of.name ∙ none_unread plan.table (log_name plan.table) (drop applier.position after.log) (zero_of _ none);
        })
        (in_scene plan m at rows [] more more (machines_of copier some.copier applier some.applier) (stands some.copier some.applier some.actor_states))

    applying_walks : (copier : Copier) (applier : Applier) → copier.is_copied ≡ true → StandsFor plan m at rows more copier applier → WalksAt more (applying plan after applier)
    applying_walks copier applier all stands = by (appliers.starts applier) refl (unread after applier.position (plan.table ∷ log_name plan.table ∷ []) == 0) refl where
      by : (starts : Bool) → appliers.starts applier ≡ starts → (none : Bool) → (unread after applier.position (plan.table ∷ log_name plan.table ∷ []) == 0) ≡ none → WalksAt more (cond (starts && none) Exchanging (Applying applier))
      by true starts true none = altered copier applier all starts none stands
      by true starts false none = (copier, all, stands)
      by false starts none same = (copier, all, stands)

    copying_walks : (copier : Copier) (applier : Applier) → appliers.starts applier ≡ true → StandsFor plan m at rows more copier applier → WalksAt more (copying plan after copier applier)
    copying_walks copier applier starts stands = by copier.is_copied refl where
      by : (b : Bool) → copier.is_copied ≡ b → WalksAt more (cond b (applying plan after applier) (Copying copier applier))
      by true all = applying_walks copier applier all stands
      by false left = (starts, stands)

    abbrev turn : ℕ
    turn = length more

    turn_is : turn ≡ length journal + 1
    turn_is = length-append journal (entry ∷ [])

    copied_walks : (before : Copier) (applier : Applier) (progress : Progress) → copiers.progress before entry.answer ≡ progress → appliers.starts applier ≡ true → (((place number : ℕ) → copiers.progress before entry.answer ≡ Unfit place number → ⊥) → StandsFor plan m at rows more (copiers.took (length journal + 1) before entry.answer) applier)
        → WalksAt more (copied plan after turn applier before (copiers.took turn before entry.answer) progress)
    copied_walks before applier (Unfit column number) same starts stands = tt
    copied_walks before applier Going same starts stands = copying_walks (copiers.took turn before entry.answer) applier starts (subst (λ (t : ℕ). StandsFor plan m at rows more (copiers.took t before entry.answer) applier) (sym turn_is) (stands (λ place number unfit. absurd (no place number (sym same ∙ unfit))))) where
      no : (place number : ℕ) → Going ≡ Unfit place number → ⊥
      no place number is = cc
    copied_walks before applier TaskDone same starts stands = copying_walks (copiers.took turn before entry.answer) applier starts (subst (λ (t : ℕ). StandsFor plan m at rows more (copiers.took t before entry.answer) applier) (sym turn_is) (stands (λ place number unfit. absurd (no place number (sym same ∙ unfit))))) where
      no : (place number : ℕ) → TaskDone ≡ Unfit place number → ⊥
      no place number is = cc
    copied_walks before applier TaskFailed same starts stands = copying_walks (copiers.took turn before entry.answer) applier starts (subst (λ (t : ℕ). StandsFor plan m at rows more (copiers.took t before entry.answer) applier) (sym turn_is) (stands (λ place number unfit. absurd (no place number (sym same ∙ unfit))))) where
      no : (place number : ℕ) → TaskFailed ≡ Unfit place number → ⊥
      no place number is = cc

    applied_walks : (copier : Copier) (before : Applier) (progress : Progress) → appliers.progress before entry.answer ≡ progress → copier.is_copied ≡ true → (((place number : ℕ) → appliers.progress before entry.answer ≡ Unfit place number → ⊥) → StandsFor plan m at rows more copier (appliers.took (length journal + 1) before entry.answer))
        → WalksAt more (applied plan after turn before (appliers.took turn before entry.answer) progress)
    applied_walks copier before (Unfit column number) same all stands = tt
    applied_walks copier before Going same all stands = applying_walks copier (appliers.took turn before entry.answer) all (subst (λ (t : ℕ). StandsFor plan m at rows more copier (appliers.took t before entry.answer)) (sym turn_is) (stands (λ place number unfit. absurd (no place number (sym same ∙ unfit))))) where
      no : (place number : ℕ) → Going ≡ Unfit place number → ⊥
      no place number is = cc
    applied_walks copier before TaskDone same all stands = applying_walks copier (appliers.took turn before entry.answer) all (subst (λ (t : ℕ). StandsFor plan m at rows more copier (appliers.took t before entry.answer)) (sym turn_is) (stands (λ place number unfit. absurd (no place number (sym same ∙ unfit))))) where
      no : (place number : ℕ) → TaskDone ≡ Unfit place number → ⊥
      no place number is = cc
    applied_walks copier before TaskFailed same all stands = applying_walks copier (appliers.took turn before entry.answer) all (subst (λ (t : ℕ). StandsFor plan m at rows more copier (appliers.took t before entry.answer)) (sym turn_is) (stands (λ place number unfit. absurd (no place number (sym same ∙ unfit))))) where
      no : (place number : ℕ) → TaskFailed ≡ Unfit place number → ⊥
      no place number is = cc

    copier_walks : (copier : Copier) (applier : Applier) (request : Option Request) → copiers.next journal copier ≡ request → finishes.copies request ≡ Some (entry.actor, entry.asked) → IsCopierOf plan copier → appliers.starts applier ≡ true → StandsFor plan m at rows journal copier applier
        → WalksAt more (copied plan after turn applier copier (copiers.took turn copier entry.answer) (copiers.progress copier entry.answer))
    copier_walks copier applier None given is of_plan starts stands = absurd (cc)
    copier_walks copier applier (Some request) given is of_plan starts stands =
        copied_walks copier applier (copiers.progress copier entry.answer) refl starts
        (λ fits. copier_takes copier applier request of_plan (its_actor entry Copy request is) (its_request entry Copy request is) given fits stands)

    -- what stays at rest
    counting_walks : (found : Checkpoint) → WalksAt more (counting plan found)
    counting_walks found = by (has_counter plan) where
      by : (b : Bool) → WalksAt more (cond b (ReadingCounter found) (Ranging found))
      by true = tt
      by false = tt

    read_walks : (seen : Listed) (found : Option Checkpoint) → WalksAt more (has_read plan seen found)
    read_walks seen None = tt
    read_walks (NotRenamed true) (Some found) = tt
    read_walks (NotRenamed false) (Some found) = counting_walks found
    read_walks (Renamed old) (Some found) = tt

    listed_walks : (given : Answer) → WalksAt more (listed plan given)
    listed_walks (answers.Tables tables) = tt
    listed_walks other = tt

    counter_walks : (found : Checkpoint) (given : Answer) → WalksAt more (counter_read found given)
    counter_walks found (answers.At number) = tt
    counter_walks found other = tt

    log_walks : (old : Bool) → WalksAt more (dropped_log old)
    log_walks true = tt
    log_walks false = tt

    losing_walks : (live : Bool) → WalksAt more (cond live Losing Listing)
    losing_walks true = tt
    losing_walks false = tt

    ranged_walks : (found : Checkpoint) (given : Answer) → entry.answer ≡ given → ((range : Option KeyRange) → entry.answer ≡ answers.Ends range → StandsFor plan m at rows more (copier_from plan found.reach range) (applier_from plan found.position)) → WalksAt more (ranged plan after found given)
    ranged_walks found (answers.Ends range) same start = copying_walks (copier_from plan found.reach range) (applier_from plan found.position) refl (start range same)
    ranged_walks found other same start = tt

    turn_walks : (stage : Stage) → next plan journal stage ≡ Some (entry.actor, entry.asked) → Knows plan journal stage → ((found : Checkpoint) (range : Option KeyRange) → stage ≡ Ranging found → entry.answer ≡ answers.Ends range → StandsFor plan m at rows more (copier_from plan found.reach range) (applier_from plan found.position)) → WalksAt journal stage
        → WalksAt more (took plan more after entry.answer stage)
    unfolding next took
    turn_walks Losing is knows start walks = losing_walks (is_some (finishes.first_live plan more))
    turn_walks Listing is knows start walks = listed_walks entry.answer
    turn_walks (Reading seen) is knows start walks = read_walks seen (checkpoint_in entry.answer)
    turn_walks (Clearing found) is knows start walks = counting_walks found
    turn_walks (ReadingCounter found) is knows start walks = counter_walks found entry.answer
    turn_walks (SettingCounter found number) is knows start walks = tt
    turn_walks (Ranging found) is knows start walks = ranged_walks found entry.answer refl (λ range same. start found range refl same)
    turn_walks (Copying copier applier) is knows start walks = copier_walks copier applier (copiers.next journal copier) refl is knows.0 walks.0 walks.1
    turn_walks (Applying applier) is knows start walks =
        applied_walks walks.0 applier (appliers.progress applier entry.answer) refl walks.1
        (λ fits. applier_takes walks.0 applier (appliers.next journal applier) knows (its_actor entry Apply (appliers.next journal applier) is) (its_request entry Apply (appliers.next journal applier) is) refl fits walks.2)
    turn_walks Exchanging is knows start walks = tt
    turn_walks (DroppingLog old) is knows start walks = log_walks old
    turn_walks DroppingOld is knows start walks = tt
    turn_walks (RollingBack row) is knows start walks = tt
    turn_walks Done is knows start walks = tt
    turn_walks (Reverted row) is knows start walks = tt

  -- ALONG THE TURNS

  pub record Walks (run turns : List Entry) : Type 0 where
    pub away : GoesAway plan run turns
    pub is_run : IsPlanRun plan (run ++ turns)
    pub walks : WalksAt (run ++ turns) (stage_behind plan run turns)

  abbrev Renames : List Entry → Type 0
  Renames journal = RenamesSo (scene_of plan []) (state_at plan journal).tables (Some (exchange plan.table))

  abbrev Starts : List Entry → List Entry → Entry → Type 0
  Starts run before entry = (found : Checkpoint) (range : Option KeyRange) → stage_behind plan run (drop (length run) before) ≡ Ranging found → entry.answer ≡ answers.Ends range → StandsFor plan m at rows (before ++ entry ∷ []) (copier_from plan found.reach range) (applier_from plan found.position)

  abbrev Turn : List Entry → List Entry → Entry → Type 0
  Turn run before entry = (IsFinishTurn plan run before entry × IsAnswered (state_at plan before) entry) × Starts run before entry

  renames_at : (journal : List Entry) (stage : Stage) → WalksAt journal stage → stage ≡ Exchanging → Renames journal
  renames_at journal stage walks same = renames_so plan is of.serial (state_at plan journal).tables (subst (WalksAt journal) same walks) _ refl

  run_more : (journal : List Entry) (entry : Entry) → IsPlanRun plan journal → IsAnswered (state_at plan journal) entry → IsSeated journal entry → IsAwayTurn plan journal entry → IsPlanRun plan (journal ++ entry ∷ [])
  unfolding KeepsSessions TakesLines
  run_more journal entry run answered in_own away = record {
    serial = run.serial;
    faithful = Along-more (λ before one. IsAnswered (state_at plan before) one) [] journal entry run.faithful answered;
    lines = Along-more (λ before one. TakesNext plan before one.actor one.asked) [] journal entry run.lines away.next;
    seated = Along-more IsSeated [] journal entry run.seated in_own;
    away = Along-more (λ before one. KeepsAway plan before one one.actor) [] journal entry run.away away.away;
  }

  walks_more : (run turns : List Entry) (entry : Entry) → Turn run (run ++ turns) entry → Walks run turns → (stage_behind plan run turns ≡ Exchanging → Renames (run ++ turns)) × Walks run (turns ++ entry ∷ [])
  walks_more run turns entry turn walks =
      let journal : List Entry = run ++ turns in
      let more : List Entry = journal ++ entry ∷ [] in
      let stage : Stage = stage_behind plan run turns in
      let all : run ++ (turns ++ entry ∷ []) ≡ more = sym (append_assoc run turns (entry ∷ [])) in
      let seam : drop (length run) journal ≡ turns = drop-append_seam run turns in
      let so : stage ≡ Exchanging → Renames journal = renames_at journal stage walks.walks in
      let one = away_more plan of.runs of.serial run turns entry turn.0.0 turn.0.1 so walks.away in
      let in_own : IsSeated journal entry = record { session = turn.0.0.session } in
      let more_run : IsPlanRun plan more = run_more journal entry walks.is_run turn.0.1 in_own one.turn in
      let given : next plan journal stage ≡ Some (entry.actor, entry.asked) = ap (λ (some : List Entry). next plan journal (stage_behind plan run some)) (sym seam) ∙ turn.0.0.given in
      let alone = alone_more plan run turns entry turn.0.0 turn.0.1 walks.away.alone in (
        so,
        record {
          away = one.goes;
          is_run = subst (IsPlanRun plan) (sym all) more_run;
          walks = subst (λ (j : List Entry). WalksAt j (stage_behind plan run (turns ++ entry ∷ []))) (sym all)
              (subst (WalksAt more) (sym (stage_more plan run turns entry))
              (turn_walks journal entry walks.is_run more_run walks.away.alone.owners in_own turn.0.1 alone.at_once stage given walks.away.knows
              (λ found range same ends. turn.1 found range (ap (stage_behind plan run) seam ∙ same) ends) walks.walks));
        },
      )

  record Whole (run turns rest : List Entry) : Type 0 where
    exchanges : Along (λ before entry. stage_behind plan run (drop (length run) before) ≡ Exchanging → Renames before) (run ++ turns) rest
    is_run : IsPlanRun plan ((run ++ turns) ++ rest)

  all_walk : (run turns rest : List Entry) → Along (Turn run) (run ++ turns) rest → Walks run turns → Whole run turns rest
  all_walk run turns [] kept walks = record { exchanges = tt; is_run = subst (IsPlanRun plan) (sym (append-nil (run ++ turns))) walks.is_run }
  all_walk run turns (entry ∷ rest) kept walks =
      let one = walks_more run turns entry kept.0 walks in
      let others = all_walk run (turns ++ entry ∷ []) rest (subst (λ (all : List Entry). Along (Turn run) all rest) (append_assoc run turns (entry ∷ [])) kept.1) one.1 in
      record {
        exchanges = (
          (λ same. one.0 (ap (stage_behind plan run) (sym (drop-append_seam run turns)) ∙ same)),
          subst (λ (all : List Entry). Along (λ before entry. stage_behind plan run (drop (length run) before) ≡ Exchanging → Renames before) all rest) (sym (append_assoc run turns (entry ∷ []))) others.exchanges,
        );
        is_run = subst (IsPlanRun plan) (ap (λ (j : List Entry). j ++ rest) (sym (append_assoc run turns (entry ∷ []))) ∙ append_assoc (run ++ turns) (entry ∷ []) rest) others.is_run;
      }

  all_walks : (run turns rest : List Entry) → Along (Turn run) (run ++ turns) rest → Walks run turns → Walks run (turns ++ rest)
  all_walks run turns [] kept walks = subst (Walks run) (sym (append-nil turns)) walks
  all_walks run turns (entry ∷ rest) kept walks =
      subst (Walks run) (append_assoc turns (entry ∷ []) rest)
      (all_walks run (turns ++ entry ∷ []) rest (subst (λ (all : List Entry). Along (Turn run) all rest) (append_assoc run turns (entry ∷ [])) kept.1) (walks_more run turns entry kept.0 walks).1)

  walk_begins : (run : List Entry) → IsPlanRun plan run → IsKept plan run → Walks run []
  unfolding stage_behind
  walk_begins run is_run kept = record {
    away = away_begins plan run of.runs kept;
    is_run = subst (IsPlanRun plan) (sym (append-nil run)) is_run;
    walks = by (is_some (finishes.first_live plan run));
  } where
    by : (b : Bool) → WalksAt (run ++ []) (cond b Losing Listing)
    by true = tt
    by false = tt

-- *Over the turns the migration stands*
pub finish_walks : (plan : PlanData) (is : IsAlterable plan) (at : Clustered is.table.schema) (rows : List Row) (of : IsMigrationOf plan (migration_of is.table.schema is.new) rows) (run turns : List Entry) → IsPlanRun plan run → IsKept plan run → IsFinish plan run turns → IsFaithful plan (run ++ turns) → StartsRight plan (migration_of is.table.schema is.new) at rows run turns
    → Walks plan is at rows of run turns
finish_walks plan is at rows of run turns is_run kept finish faithful starts =
    all_walks plan is at rows of run [] turns
    (subst (λ (all : List Entry). Along (Turn plan is at rows of run) all turns) (sym (append-nil run)) (Along-both _ _ run turns (finish_turns plan run turns finish faithful) starts))
    (walk_begins plan is at rows of run is_run kept)

-- *Finished copies alter the table*
pub finishes_alter : FinishesAlter
finishes_alter plan is at rows of run turns is_run kept finish faithful starts =
    let whole = all_walk plan is at rows of run [] turns
    (subst (λ (all : List Entry). Along (Turn plan is at rows of run) all turns) (sym (append-nil run)) (Along-both _ _ run turns (finish_turns plan run turns finish faithful) starts))
    (walk_begins plan is at rows of run is_run kept) in (
      subst (λ (all : List Entry). Along (λ before entry. stage_behind plan run (drop (length run) before) ≡ Exchanging → RenamesSo (scene_of plan []) (state_at plan before).tables (Some (exchange plan.table))) all turns) (append-nil run) whole.exchanges,
      subst (λ (j : List Entry). IsPlanRun plan (j ++ turns)) (append-nil run) whole.is_run,
    )
