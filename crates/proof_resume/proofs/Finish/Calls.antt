-- Each call of the new tool may be made: along its turns the copier keeps keys of the migrated table, the copier's and the applier's
-- sessions are in a transaction exactly where their steps say so, and the tables have the schemas that the calls are for.
use Rattle.std.proofs.Common.{◌≡◌, ◌⊎◌, ℕ, ◌+◌, ◌==◌, Bool, true, false, ◌&&◌, ◌||◌, not, List, [], ◌∷◌, ◌++◌, length, cond, Option, Some, None, refl, sym, ap, ◌∙◌, subst, inl, inr}
use Rattle.std.specs.Prelude.{is_some}
use Rattle.std.proofs.lemmas.Bool.{true≢false}
use Rattle.std.proofs.lemmas.List.{length_push}
use Rattle.base_values.specs.ToolNames.{ghost_name, log_name, old_name}
use Rattle.base_script.specs.declared.actor.Actor.{Actor}
use Rattle.base_script.specs.declared.actor.Actor.TheVariants.{Insp, Copy, Apply, Ren}
use Rattle.base_script.specs.declared.actor.Side.{Side}
use Rattle.table_store.specs.Databases.{Database}
use Rattle.server_model.specs.declared.answer.Answer.{Answer}
use Rattle.server_model.specs.declared.answer.Answer.TheVariants as answers
use Rattle.server_model.specs.declared.answer.KeyRange.{KeyRange}
use Rattle.server_model.specs.declared.counter.Counter.{Counter}
use Rattle.server_model.specs.declared.entry.Asked.{Asked}
use Rattle.server_model.specs.declared.entry.Asked.TheVariants.{Call, Cut}
use Rattle.server_model.specs.declared.entry.Entry.{Entry}
use Rattle.server_model.specs.declared.outcome.Progress.{Progress}
use Rattle.server_model.specs.declared.outcome.Progress.TheVariants.{Going, TaskDone, TaskFailed, Unfit}
use Rattle.server_model.specs.declared.request.Request.{Request}
use Rattle.server_model.specs.declared.request.Request.TheVariants as requests
use Rattle.server_model.specs.Conditions.{IsWellFormed, MayCall}
use Rattle.server_model.specs.Entries.{is_client, is_command, same_actor}
use Rattle.server_model.specs.Listings.{tables_shown}
use Rattle.server_model.specs.PlainServer.{leaves, recounted, serves, Served}
use Rattle.server_model.specs.States.{State, connected, session_of, unread}
use Rattle.plan_data.specs.PlanData.{PlanData, has_counter}
use Rattle.tool_changelog.specs.declared.checkpoint.Reach.{Reach}
use Rattle.tool_changelog.specs.declared.checkpoint.Reach.TheVariants as reaches
use Rattle.tool_notes.specs.declared.checkpoint.Checkpoint.{Checkpoint}
use Rattle.tool_program.specs.CutoverCore.Attempts.{has_name}
use Rattle.tool_program.specs.JournalWords.Journals.{may_lose, opens, opens_if, state_at, IsAnswered}
use Rattle.tool_program.specs.JournalWords.Sessions.{live_session, IsSeated}
use Rattle.tool_program.specs.declared.chunk_copier.copier.Copier.{Copier}
use Rattle.tool_program.specs.declared.chunk_copier.copier.CopyStep.{CopyStep}
use Rattle.tool_program.specs.declared.chunk_copier.copier.CopyStep.TheVariants as chunks
use Rattle.tool_program.specs.ChunkCopier.Copiers as copiers
use Rattle.tool_program.specs.declared.event_applier.applier.Applier.{Applier}
use Rattle.tool_program.specs.declared.event_applier.applier.ApplyStep.{ApplyStep}
use Rattle.tool_program.specs.declared.event_applier.applier.ApplyStep.TheVariants as batches
use Rattle.tool_program.specs.EventApplier.Appliers as appliers
use Rattle.tool_finish.specs.declared.stage.Listed.{Listed}
use Rattle.tool_finish.specs.declared.stage.Listed.TheVariants.{NotRenamed, Renamed}
use Rattle.tool_finish.specs.declared.stage.Stage.{Stage}
use Rattle.tool_finish.specs.declared.stage.Stage.TheVariants.{Losing, Listing, Reading, Clearing, ReadingCounter, SettingCounter, Ranging, Copying, Applying, Exchanging, DroppingLog, DroppingOld, RollingBack, Done, Reverted}
use Rattle.tool_finish.specs.Finishes.{applied, applier_from, applying, checkpoint_in, clearing, copied, copier_from, copying, counter_read, counting, dropped_log, first_live, has_read, listed, losing, next, range_from, ranged, rolls_back, took}
use Rattle.tool_finish.specs.Finishes as finishes
use Rattle.proof_journals.specs.Machine.Machines.{applier_asks, applier_busy, copier_asks, copier_busy, ApplierStands, Stands}
use Rattle.proof_journals.specs.Machine.MigrationTables.{schema_of, TablesExist}
use Rattle.proof_journals.specs.Machine.Runnable.{IsRunnable}
use Rattle.proof_journals.specs.Machine.Standings.{answered, standing_of, IsAbout, is_called, Standing}
use Rattle.proof_journals.specs.Machine.TableKeys.{AnswersKeys, CopierKeyed, RangeKeyed}
use Rattle.proof_journals.specs.Scenes.{Stored}
use Rattle.proof_journals.specs.ServerFacts.Invariants.{IsServing}
use Rattle.proof_journals.proofs.Faces.{opened_live}
use Rattle.proof_journals.proofs.Journals.{stored_opened}
use Rattle.proof_journals.proofs.Machine.Answering.{own_keys}
use Rattle.proof_journals.proofs.Machine.Applying.{applier_rests, applier_stands, applier_unfit}
use Rattle.proof_journals.proofs.Machine.Asking.{applier_next, copier_next}
use Rattle.proof_journals.proofs.Machine.Copying.{copier_stands, copier_unfit}
use Rattle.proof_journals.proofs.Machine.Forming.{applier_formed, copier_formed, exchange_formed, next_call, took_batch}
use Rattle.proof_journals.proofs.Machine.Keyed.{copier_keyed, next_keyed}
use Rattle.proof_journals.proofs.Machine.Marks.{ghost_not_old}
use Rattle.proof_journals.proofs.Machine.Schemas.{keeps_table, quiet_keeps, schema_rests, schema_stays}
use Rattle.proof_journals.proofs.Machine.Seated.{others_stand, own_given, own_stands, own_waiting, state_more, IsKnown, IsServed}
use Rattle.proof_journals.proofs.ServerFacts.Calls.{calls_serve, connected_serves, losses_serve}
use Rattle.proof_migration.specs.ToolPhase.Unaltered.{IsUnaltered}
use Rattle.proof_migration.proofs.Attempt.InspectorAnswers.{listed_is}
use Rattle.proof_resume.proofs.Settled.Alone.{calls_are_done_alone}
use Rattle.tool_program.proofs.OnlineCalls.Naming.{not_old}
use Rattle.proof_resume.specs.Finish.Callable.{ReachKeyed}
use Rattle.proof_resume.proofs.Finish.Asks.{applier_comes, copier_comes, copier_quiet, cut_is, keyed_formed, may_call, Asks}
use Rattle.proof_resume.proofs.Finish.Asks.Asks.{asks_call, asks_cut}
use Rattle.proof_resume.proofs.Finish.Holders.{any_own, holds_alone, opened_held, IsHeldBy}
use Rattle.proof_resume.proofs.Finish.Marks.{done_lists, lists_new, lists_new_is}
use Rattle.proof_resume.proofs.Finish.Prompt.{its_actor, its_request, lost_cut, StandsAlone}
use Rattle.proof_resume.proofs.Finish.Standing.{free_rests, held_locked, held_waits}

-- WHAT A NEW COPIER KEEPS

range_keyed : (plan : PlanData) (reach : Reach) (range : Option KeyRange) → ReachKeyed plan reach → AnswersKeys plan (requests.Ends plan.table) (answers.Ends range) → RangeKeyed plan (range_from reach range)
range_keyed plan reach None reached keys = tt
range_keyed plan reaches.Nothing (Some range) reached keys = keys
range_keyed plan (reaches.To key) (Some range) reached keys = (reached, keys.1)
range_keyed plan reaches.All (Some range) reached keys = tt

-- a row that doesn't fit is refused within a transaction
unfit_copies : (copier : Copier) (answer : Answer) (place number : ℕ) → copiers.progress copier answer ≡ Unfit place number → copier_busy copier.step ≡ true
unfolding copiers.progress
unfit_copies copier answer place number unfit = by copier.step answer unfit where
  by : (step : CopyStep) (answer : Answer) → copiers.progress_at step answer ≡ Unfit place number → copier_busy step ≡ true
  by (chunks.Copying chunk done) (answers.Refused error (Some one)) unfit = refl
  by step answers.Lost unfit = absurd cc
  by step (answers.TimedOut waited) unfit = absurd cc
  by step answer unfit = absurd cc

unfit_applies : (applier : Applier) (answer : Answer) (place number : ℕ) → appliers.progress applier answer ≡ Unfit place number → applier_busy applier.step ≡ true
unfolding appliers.progress
unfit_applies applier answer place number unfit = by applier.step answer unfit where
  none : (statements : ℕ) → appliers.nothing_planned statements ≡ Unfit place number → ⊥
  none statements e = at (statements == 0) e where
    at : (b : Bool) → cond b TaskDone Going ≡ Unfit place number → ⊥
    at true e = cc
    at false e = cc

  by : (step : ApplyStep) (answer : Answer) → appliers.progress_at applier step answer ≡ Unfit place number → applier_busy step ≡ true
  by (batches.Applying batch done part) (answers.Refused error (Some one)) unfit = refl
  by batches.Reading (answers.Events events next) unfit = absurd (none (length (appliers.planned applier events)) unfit)
  by step answers.Lost unfit = absurd cc
  by step (answers.TimedOut waited) unfit = absurd cc
  by step answer unfit = absurd cc

-- WHAT STANDS AT EACH STAGE

module _ (plan : PlanData) (runs : IsRunnable plan) (run : List Entry) where
  -- both tables exist, and the RENAME wasn't done in the run
  pub record Both (journal : List Entry) : Type 0 where
    pub unaltered : IsUnaltered plan run
    pub exist : TablesExist plan (state_at plan journal).tables

  abbrev pub Tables : List Entry → Type 0
  Tables journal = (IsUnaltered plan run × TablesExist plan (state_at plan journal).tables) ⊎ (schema_of (ghost_name plan.table) (state_at plan journal).tables ≡ None)

  pub record Applies (journal : List Entry) (applier : Applier) : Type 0 where
    pub stands : ApplierStands journal applier (standing_of plan journal Apply)
    pub batch : applier.batch ≡ plan.options.dml_batch_size

  pub record Copies (journal : List Entry) (copier : Copier) (applier : Applier) : Type 0 where
    pub exist : TablesExist plan (state_at plan journal).tables
    pub keyed : CopierKeyed plan journal copier
    pub stands : Stands (copier_asks copier.step) (copier_busy copier.step) [] (standing_of plan journal Copy)
    pub applies : Applies journal applier

  abbrev pub CallsAt : List Entry → Stage → Type 0
  CallsAt journal Losing = Tables journal
  CallsAt journal Listing = Tables journal
  CallsAt journal (Reading seen) = lists_new seen ≡ true → Both journal
  CallsAt journal (Clearing found) = Both journal
  CallsAt journal (ReadingCounter found) = Both journal
  CallsAt journal (SettingCounter found number) = Both journal
  CallsAt journal (Ranging found) = Both journal
  CallsAt journal (Copying copier applier) = Copies journal copier applier
  CallsAt journal (Applying applier) = Applies journal applier
  CallsAt journal (RollingBack row) = (standing_of plan journal (rolls_back row)).busy ≡ true
  CallsAt journal stage = Unit {0}

  module _ (journal : List Entry) (entry : Entry) (known : IsKnown plan journal) (in_own : IsSeated journal entry) where
    abbrev now : State
    now = state_at plan journal

    abbrev May : Type 0
    May = Asks plan journal entry known in_own

    may : (own : Option ℕ) (actor : Actor) (request : Request) → finishes.calls actor request ≡ Some (entry.actor, entry.asked) → IsHeldBy own now → Rattle.server_model.specs.Conditions.ComesWell (standing_of plan journal actor).busy false request → IsWellFormed now.tables request → May
    may own actor request is held comes formed = may_call plan journal entry known in_own own actor request held is comes formed

    -- WHAT IS ASKED AT EACH STAGE

    copier_may : (own : Option ℕ) (copier : Copier) (applier : Applier) (request : Option Request) → copiers.next journal copier ≡ request → finishes.copies request ≡ Some (entry.actor, entry.asked) → IsHeldBy own now → Copies journal copier applier → May
    copier_may own copier applier None given is held at = absurd (cc)
    copier_may own copier applier (Some request) given is held at =
        let asks : copier_asks copier.step request ≡ true = copier_next journal copier request given in
        may own Copy request is held (copier_comes (standing_of plan journal Copy).busy copier.step request at.stands.busy asks)
        (copier_formed now.tables copier.step request asks (keyed_formed plan now.tables request at.exist runs.mapped (next_keyed plan journal copier request at.keyed given)))

    applier_may : (own : Option ℕ) (applier : Applier) → finishes.calls Apply (appliers.next journal applier) ≡ Some (entry.actor, entry.asked) → IsHeldBy own now → Applies journal applier → May
    unfolding appliers.next
    applier_may own applier is held at =
        may own Apply (appliers.call_at journal applier applier.step) is held
        (applier_comes (standing_of plan journal Apply).busy applier.step (appliers.call_at journal applier applier.step) at.stands.stands.busy (applier_next journal applier applier.step at.stands.known))
        (applier_formed plan now.tables journal applier applier.step runs.fitting at.batch)

    lost_may : (live : Option Actor) → finishes.cuts live ≡ Some (entry.actor, entry.asked) → May
    lost_may live is = asks_cut (cut_is entry.asked (lost_cut entry live is))

    pub stage_may : (stage : Stage) → next plan journal stage ≡ Some (entry.actor, entry.asked) → StandsAlone journal now stage → CallsAt journal stage → May
    unfolding next
    stage_may Losing is held at = lost_may (first_live plan journal) is
    stage_may Listing is held at = may _ Insp _ is held tt tt
    stage_may (Reading seen) is held at = may _ Insp _ is held tt tt
    stage_may (Clearing found) is held at = may _ Insp _ is held (free_rests now (live_session journal Insp) held) tt
    stage_may (ReadingCounter found) is held at = may _ Insp _ is held tt tt
    stage_may (SettingCounter found number) is held at = may _ Insp _ is held (free_rests now (live_session journal Insp) held) tt
    stage_may (Ranging found) is held at = may _ Insp _ is held tt tt
    stage_may (Copying copier applier) is held at = copier_may _ copier applier (copiers.next journal copier) refl is held at
    stage_may (Applying applier) is held at = applier_may _ applier is held at
    stage_may Exchanging is held at = may _ Ren _ is held (free_rests now (live_session journal Ren) held) (exchange_formed plan now.tables plan.table runs.fitting refl)
    stage_may (DroppingLog old) is held at = may _ Insp _ is held (free_rests now (live_session journal Insp) held) tt
    stage_may DroppingOld is held at = may _ Insp _ is held (free_rests now (live_session journal Insp) held) tt
    stage_may (RollingBack row) is held at = may _ (rolls_back row) requests.Rollback is held at tt
    stage_may Done is held at = absurd (cc)
    stage_may (Reverted row) is held at = absurd (cc)

  -- WHAT A TURN LEAVES

  module _ (journal : List Entry) (entry : Entry) (known : IsKnown plan journal) (in_own : IsSeated journal entry) (faithful : IsAnswered (state_at plan journal) entry) (unlost : entry.side ≡ None) (serving : IsServing (state_at plan journal)) where
    abbrev before : State
    before = state_at plan journal

    abbrev more : List Entry
    more = journal ++ entry ∷ []

    abbrev after : State
    after = state_at plan more

    abbrev n : ℕ
    n = entry.session

    served : IsServed plan journal entry
    served = record { answered = faithful; seated = in_own }

    -- the server serves on
    opened_serving : (nothing : Bool) → IsServing (opens_if nothing (not (is_client entry.actor)) n before)
    unfolding opens_if
    opened_serving nothing = by (nothing || is_some (session_of n before.sessions)) where
      by : (b : Bool) → IsServing (cond b before (connected n (not (is_client entry.actor)) before))
      by true = serving
      by false = connected_serves n (not (is_client entry.actor)) before serving

    pub serving_more : Asks plan journal entry known in_own → IsServing after
    serving_more asks = subst IsServing (sym (state_more plan journal entry)) (recount (subst (λ (side : Option Side). IsServing (leaves side (opens entry before) n entry.asked)) (sym unlost) (by asks))) where
      recount : {state : State} {counters : List Counter} → IsServing state → IsServing (recounted counters state)
      recount is = record { well_formed = is.well_formed; own = is.own; apart = is.apart; alone = is.alone; waits = is.waits }

      by : Asks plan journal entry known in_own → IsServing (leaves None (opens entry before) n entry.asked)
      by (asks_call request called may) = subst (λ (asked : Asked). IsServing (leaves None (opens entry before) n asked)) (sym called) (calls_serve (opens entry before) n request (opened_serving (is_command entry.asked)) may)
      by (asks_cut cut) =
          subst (λ (asked : Asked). IsServing (leaves None (opens entry before) n asked)) (sym cut)
          (losses_serve (opens entry before) n None Cut (opened_serving (is_command entry.asked)) (record { live = opened_live (is_command entry.asked) (not (is_client entry.actor)) n before (ap is_command cut); well = refl }))

    -- WHAT A CALL LEAVES

    record Called (actor : Actor) (request : Request) : Type 0 where
      same : entry.actor ≡ actor
      called : entry.asked ≡ Call request
      about : IsAbout request (standing_of plan journal entry.actor) entry.asked

    called_so : (own : Option ℕ) (actor : Actor) (request : Request) → finishes.calls actor request ≡ Some (entry.actor, entry.asked) → IsHeldBy own before → Called actor request
    called_so own actor request is held = record {
      same = its_actor entry actor request is;
      called = its_request entry actor request is;
      about = is_called (its_request entry actor request is) (held_waits own before (live_session journal entry.actor) held);
    }

    own_now : (actor : Actor) (request : Request) → Called actor request → standing_of plan more actor ≡ answered request entry.answer (standing_of plan journal actor)
    own_now actor request one = subst (λ (a : Actor). standing_of plan more a ≡ answered request entry.answer (standing_of plan journal a)) one.same (own_stands plan journal entry known served request one.about)

    other_now : (actor : Actor) (request : Request) → Called actor request → (a : Actor) → same_actor actor a ≡ false → standing_of plan more a ≡ standing_of plan journal a
    other_now actor request one a differ = others_stand plan journal entry known served a (ap (λ (b : Actor). same_actor b a) one.same ∙ differ)

    schema_more : (actor : Actor) (request : Request) → Called actor request → (name : List ℕ) → keeps_table name request ≡ true → schema_of name after.tables ≡ schema_of name before.tables
    schema_more actor request one name keeps = schema_stays plan journal entry served (own_waiting plan journal entry known served) name request one.about keeps

    exist_more : (actor : Actor) (request : Request) → Called actor request → keeps_table plan.table request ≡ true → keeps_table (ghost_name plan.table) request ≡ true → TablesExist plan before.tables → TablesExist plan after.tables
    exist_more actor request one old ghost exist = record { old = schema_more actor request one plan.table old ∙ exist.old; ghost = schema_more actor request one (ghost_name plan.table) ghost ∙ exist.ghost }

    both_more : (actor : Actor) (request : Request) → Called actor request → keeps_table plan.table request ≡ true → keeps_table (ghost_name plan.table) request ≡ true → Both journal → Both more
    both_more actor request one old ghost both = record { unaltered = both.unaltered; exist = exist_more actor request one old ghost both.exist }

    tables_more : (actor : Actor) (request : Request) → Called actor request → keeps_table plan.table request ≡ true → keeps_table (ghost_name plan.table) request ≡ true → Tables journal → Tables more
    tables_more actor request one old ghost (inl both) = inl (both.0, exist_more actor request one old ghost both.1)
    tables_more actor request one old ghost (inr none) = inr (schema_more actor request one (ghost_name plan.table) ghost ∙ none)

    tables_rest : entry.asked ≡ Cut → Tables journal → Tables more
    tables_rest cut = by where
      rests : (name : List ℕ) → schema_of name after.tables ≡ schema_of name before.tables
      rests name = schema_rests plan journal entry served (own_waiting plan journal entry known served) name (ap may_lose cut)

      by : Tables journal → Tables more
      by (inl both) = inl (both.0, record { old = rests plan.table ∙ both.1.old; ghost = rests (ghost_name plan.table) ∙ both.1.ghost })
      by (inr none) = inr (rests (ghost_name plan.table) ∙ none)

    -- who isn't there has nothing
    rests_now : (asks : Request → Bool) (a : Actor) (request : Request) → Called Insp request → same_actor Insp a ≡ false → IsHeldBy None before → Stands asks false [] (standing_of plan more a)
    rests_now asks a request one differ held =
        subst (Stands asks false []) (sym (other_now Insp request one a differ))
        (record {
          busy = free_rests before (live_session journal a) held;
          locked = held_locked None before (live_session journal a) held;
          waits = ap (Rattle.proof_journals.specs.Machine.Machines.waits_so asks) (held_waits None before (live_session journal a) held);
        })

    -- WHAT STANDS BEHIND IT

    counting_at : (found : Checkpoint) → Both more → CallsAt more (counting plan found)
    counting_at found both = by (has_counter plan) where
      by : (b : Bool) → CallsAt more (cond b (ReadingCounter found) (Ranging found))
      by true = both
      by false = both

    read_at : (seen : Listed) (found : Option Checkpoint) → (lists_new seen ≡ true → Both more) → CallsAt more (has_read plan seen found)
    read_at seen None at = at
    read_at (NotRenamed true) (Some found) at = at refl
    read_at (NotRenamed false) (Some found) at = counting_at found (at refl)
    read_at (Renamed old) (Some found) at = tt

    -- the new table is listed where it exists
    lists : IsHeldBy None before → entry.asked ≡ Call requests.ShowTables → entry.answer ≡ answers.Tables (tables_shown before.tables)
    lists held called =
        sym (own_given plan journal entry known served unlost)
        ∙ ap (λ (asked : Asked). (serves (opens entry before) n asked).answer) called
        ∙ ap (λ (s : Served). s.answer) (calls_are_done_alone (opens entry before) n requests.ShowTables (holds_alone (opens entry before) n (opened_held (Some n) (is_command entry.asked) (not (is_client entry.actor)) n before (any_own (Some n) before held))))
        ∙ done_lists (opens entry before) n
        ∙ ap (λ (d : Database). answers.Tables (tables_shown d)) (ap (λ (s : Stored). s.tables) (stored_opened (is_command entry.asked) (not (is_client entry.actor)) n before))

    listed_at : (given : Answer) → given ≡ answers.Tables (tables_shown before.tables) → Called Insp requests.ShowTables → Tables journal → CallsAt more (listed plan given)
    listed_at (answers.Tables tables) is one was = λ new. by (sym (lists_new_is plan tables) ∙ new) was where
      shown : tables ≡ tables_shown before.tables
      shown = cc

      by : has_name (ghost_name plan.table) tables ≡ true → Tables journal → Both more
      by new (inl both) = record { unaltered = both.0; exist = exist_more Insp requests.ShowTables one refl refl both.1 }
      by new (inr none) = absurd (true≢false (sym new ∙ ap (has_name (ghost_name plan.table)) shown ∙ listed_is (ghost_name plan.table) before.tables ∙ ap is_some none))
    listed_at other is one was = tables_more Insp requests.ShowTables one refl refl was

    counter_at : (found : Checkpoint) (given : Answer) → Both more → CallsAt more (counter_read found given)
    counter_at found (answers.At number) both = both
    counter_at found other both = both

    applying_at : (applier : Applier) → Applies more applier → CallsAt more (applying plan after applier)
    applying_at applier at = by (appliers.starts applier && (unread after applier.position (plan.table ∷ log_name plan.table ∷ []) == 0)) where
      by : (b : Bool) → CallsAt more (cond b Exchanging (Applying applier))
      by true = tt
      by false = at

    copying_at : (copier : Copier) (applier : Applier) → Copies more copier applier → CallsAt more (copying plan after copier applier)
    copying_at copier applier at = by copier.is_copied where
      by : (b : Bool) → CallsAt more (cond b (applying plan after applier) (Copying copier applier))
      by true = applying_at applier at.applies
      by false = at

    ranged_at : (found : Checkpoint) (given : Answer) → Both more → ReachKeyed plan found.reach → AnswersKeys plan (requests.Ends plan.table) given → Called Insp (requests.Ends plan.table) → IsHeldBy None before → CallsAt more (ranged plan after found given)
    ranged_at found (answers.Ends range) both reached keys one held =
        copying_at (copier_from plan found.reach range) (applier_from plan found.position)
        (record {
          exist = both.exist;
          keyed = record { table = refl; map = refl; sized = runs.fitting.chunk; range = range_keyed plan found.reach range reached keys; following = tt; step = tt };
          stands = rests_now (copier_asks chunks.Choosing) Copy (requests.Ends plan.table) one refl held;
          applies = record { stands = record { stands = rests_now (applier_asks batches.Reading) Apply (requests.Ends plan.table) one refl held; known = tt }; batch = refl };
        })
    ranged_at found other both reached keys one held = both

    -- THE COPIER'S TURN

    abbrev turn : ℕ
    turn = length more

    turn_is : turn ≡ length journal + 1
    turn_is = length_push journal entry

    copies_more : (copier : Copier) (applier : Applier) (request : Request) → copiers.next journal copier ≡ Some request → Called Copy request → Copies journal copier applier → Copies more (copiers.took turn copier entry.answer) applier
    copies_more copier applier request given one at =
        let asks : copier_asks copier.step request ≡ true = copier_next journal copier request given in
        let quiet = copier_quiet copier.step request asks in
        record {
          exist = exist_more Copy request one (quiet_keeps plan.table request quiet) (quiet_keeps (ghost_name plan.table) request quiet) at.exist;
          keyed = copier_keyed plan journal entry copier turn request turn_is at.keyed asks (own_keys plan journal entry known served request one.about at.exist.old serving.well_formed (next_keyed plan journal copier request at.keyed given));
          stands = subst (Stands (copier_asks (copiers.took turn copier entry.answer).step) (copier_busy (copiers.took turn copier entry.answer).step) []) (sym (own_now Copy request one)) (copier_stands turn copier request entry.answer (standing_of plan journal Copy) at.stands asks);
          applies = record { stands = subst (ApplierStands more applier) (sym (other_now Copy request one Apply refl)) (applier_rests journal entry applier (standing_of plan journal Apply) at.applies.stands); batch = at.applies.batch };
        }

    copied_at : (copier : Copier) (applier : Applier) (request : Request) (progress : Progress) → copiers.progress copier entry.answer ≡ progress → copiers.next journal copier ≡ Some request → Called Copy request → Copies journal copier applier
        → CallsAt more (copied plan after turn applier copier (copiers.took turn copier entry.answer) progress)
    copied_at copier applier request (Unfit place number) same given one at =
        ap (λ (s : Standing). s.busy) (own_now Copy request one)
        ∙ (copier_unfit copier request entry.answer (standing_of plan journal Copy) place number at.stands (copier_next journal copier request given) same).busy
        ∙ unfit_copies copier entry.answer place number same
    copied_at copier applier request Going same given one at = copying_at (copiers.took turn copier entry.answer) applier (copies_more copier applier request given one at)
    copied_at copier applier request TaskDone same given one at = copying_at (copiers.took turn copier entry.answer) applier (copies_more copier applier request given one at)
    copied_at copier applier request TaskFailed same given one at = copying_at (copiers.took turn copier entry.answer) applier (copies_more copier applier request given one at)

    copier_at : (own : Option ℕ) (copier : Copier) (applier : Applier) (request : Option Request) → copiers.next journal copier ≡ request → finishes.copies request ≡ Some (entry.actor, entry.asked) → IsHeldBy own before → Copies journal copier applier
        → CallsAt more (copied plan after turn applier copier (copiers.took turn copier entry.answer) (copiers.progress copier entry.answer))
    copier_at own copier applier None given is held at = absurd (cc)
    copier_at own copier applier (Some request) given is held at = copied_at copier applier request (copiers.progress copier entry.answer) refl given (called_so own Copy request is held) at

    -- THE APPLIER'S

    applier_at : (own : Option ℕ) (applier : Applier) → finishes.calls Apply (appliers.next journal applier) ≡ Some (entry.actor, entry.asked) → IsHeldBy own before → Applies journal applier
        → CallsAt more (applied plan after turn applier (appliers.took turn applier entry.answer) (appliers.progress applier entry.answer))
    applier_at own applier is held at = by (appliers.progress applier entry.answer) refl where
      request : Request
      request = appliers.next journal applier

      one : Called Apply request
      one = called_so own Apply request is held

      asks : applier_asks applier.step request ≡ true
      asks = ap (applier_asks applier.step) (next_call journal applier) ∙ applier_next journal applier applier.step at.stands.known

      applies : Applies more (appliers.took turn applier entry.answer)
      applies = record {
        stands = subst (ApplierStands more (appliers.took turn applier entry.answer)) (sym (own_now Apply request one)) (applier_stands journal entry applier turn request (standing_of plan journal Apply) turn_is at.stands asks);
        batch = took_batch turn applier entry.answer ∙ at.batch;
      }

      by : (progress : Progress) → appliers.progress applier entry.answer ≡ progress → CallsAt more (applied plan after turn applier (appliers.took turn applier entry.answer) progress)
      by (Unfit place number) same =
          ap (λ (s : Standing). s.busy) (own_now Apply request one)
          ∙ (applier_unfit journal entry applier request (standing_of plan journal Apply) place number at.stands asks same).stands.busy
          ∙ unfit_applies applier entry.answer place number same
      by Going same = applying_at (appliers.took turn applier entry.answer) applies
      by TaskDone same = applying_at (appliers.took turn applier entry.answer) applies
      by TaskFailed same = applying_at (appliers.took turn applier entry.answer) applies

    -- EACH STAGE

    log_at : (old : Bool) → CallsAt more (dropped_log old)
    log_at true = tt
    log_at false = tt

    losing_at : (live : Bool) → Tables more → CallsAt more (cond live Losing Listing)
    losing_at true at = at
    losing_at false at = at

    own_kept : keeps_table plan.table (requests.Drop (old_name plan.table)) ≡ true
    own_kept = rw (not_old plan.table) refl

    ghost_kept : keeps_table (ghost_name plan.table) (requests.Drop (old_name plan.table)) ≡ true
    ghost_kept = rw (ghost_not_old plan.table) refl

    lost_at : (live : Option Actor) → finishes.cuts live ≡ Some (entry.actor, entry.asked) → Tables journal → Tables more
    lost_at live is at = tables_rest (cut_is entry.asked (lost_cut entry live is)) at

    pub stage_at : (stage : Stage) → next plan journal stage ≡ Some (entry.actor, entry.asked) → StandsAlone journal before stage → ((found : Checkpoint) → stage ≡ Ranging found → IsUnaltered plan run → ReachKeyed plan found.reach) → CallsAt journal stage
        → CallsAt more (took plan more after entry.answer stage)
    unfolding next took
    stage_at Losing is held reached at = losing_at (is_some (first_live plan more)) (lost_at (first_live plan journal) is at)
    stage_at Listing is held reached at =
        let one : Called Insp requests.ShowTables = called_so _ Insp _ is held in
        listed_at entry.answer (lists held one.called) one at
    stage_at (Reading seen) is held reached at = read_at seen (checkpoint_in entry.answer) (λ new. both_more Insp _ (called_so _ Insp _ is held) refl refl (at new))
    stage_at (Clearing found) is held reached at = counting_at found (both_more Insp _ (called_so _ Insp _ is held) own_kept ghost_kept at)
    stage_at (ReadingCounter found) is held reached at = counter_at found entry.answer (both_more Insp _ (called_so _ Insp _ is held) refl refl at)
    stage_at (SettingCounter found number) is held reached at = both_more Insp _ (called_so _ Insp _ is held) refl refl at
    stage_at (Ranging found) is held reached at =
        let one : Called Insp (requests.Ends plan.table) = called_so _ Insp _ is held in
        ranged_at found entry.answer (both_more Insp _ one refl refl at) (reached found refl at.unaltered) (own_keys plan journal entry known served (requests.Ends plan.table) one.about at.exist.old serving.well_formed refl) one held
    stage_at (Copying copier applier) is held reached at = copier_at _ copier applier (copiers.next journal copier) refl is held at
    stage_at (Applying applier) is held reached at = applier_at _ applier is held at
    stage_at Exchanging is held reached at = tt
    stage_at (DroppingLog old) is held reached at = log_at old
    stage_at DroppingOld is held reached at = tt
    stage_at (RollingBack row) is held reached at = tt
    stage_at Done is held reached at = absurd (cc)
    stage_at (Reverted row) is held reached at = absurd (cc)
