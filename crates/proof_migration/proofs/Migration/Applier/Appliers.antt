-- Each turn of the applier keeps the tool standing.
use Rattle.proof_migration.proofs.ToolServes.{filled_so}
use Rattle.std.proofs.Common.{◌≡◌, ◌<◌, ◌≤◌, ℕ, zero, suc, ◌+◌, Bool, true, false, cond, List, [], ◌∷◌, ◌++◌, length, map, take, drop, find, Option, Some, None, Result, Ok, Err, refl, sym, ap, ◌∙◌, subst, arith}
use Rattle.std.specs.Prelude.{◌==◌}
use Rattle.std.specs.List.{AllByRecursion, list_any, slice_get}
use Rattle.std.specs.Str.{bytes_eq}
use Rattle.std.proofs.lemmas.Bool.Decides.{nat_tests}
use Rattle.std.proofs.lemmas.List.{append-nil, nil_from_length}
use Rattle.base_values.specs.StoredValues.{error_number}
use Rattle.base_values.specs.GhoSchema.ClusteredKey.{clustered_place}
use Rattle.base_values.specs.GhoSchema.Rows.{key_of, key_places}
use Rattle.base_values.specs.GhoSchema.Tables.{IsRow}
use Rattle.base_values.proofs.SchemaRules.Lists.{All-at}
use Rattle.base_values.specs.declared.row_conversion.conversion_fault.UnfitAt.{UnfitAt}
use Rattle.base_values.specs.RowConversion.ConvertedRows.{converted_row}
use Rattle.base_values.specs.declared.event.RowEvent.{RowEvent}
use Rattle.server_locks.specs.declared.row_locks.lock.Lock.{Lock}
use Rattle.table_store.specs.Databases.{Database, TableRows, find_table}
use Rattle.table_store.specs.RowLists.{is_at}
use Rattle.base_script.specs.declared.statement.Statement.{Statement}
use Rattle.server_model.specs.declared.answer.Answer.{Answer}
use Rattle.server_model.specs.declared.answer.Answer.TheVariants as answers
use Rattle.server_model.specs.declared.entry.Entry.{Entry}
use Rattle.server_model.specs.declared.need.Need.{Need}
use Rattle.server_model.specs.declared.request.Request.{Request}
use Rattle.server_model.specs.declared.request.Request.TheVariants as requests
use Rattle.server_model.specs.declared.session.Limits.{Limits}
use Rattle.server_model.specs.declared.work.Work.TheVariants as works
use Rattle.server_model.specs.Answers.{ok, refuses, refuses_value}
use Rattle.server_model.specs.Effects.{Effect, effect, effect_within, nothing_needed, result_effect}
use Rattle.server_model.specs.Effects.Effect.{Rests, Grows, Writes}
use Rattle.server_model.specs.Entries.{answer_at}
use Rattle.server_model.specs.Operations.{Operation, after_events, operation_needs, operation_of, operation_result}
use Rattle.server_model.specs.Blockers.{need_within}
use Rattle.server_model.specs.EarlierAnswers.{events_in}
use Rattle.server_model.specs.Listings.{ReadEvent, after_last, events_read, read_from}
use Rattle.server_model.specs.States.{State}
use Rattle.base_values.specs.ToolNames.{log_name}
use Rattle.base_values.specs.declared.mysql_errors.TheConstants.{ER_TABLE_NOT_LOCKED, ER_DUP_ENTRY}
use Rattle.tool_program.specs.JournalWords.Journals.{opens}
use Rattle.tool_program.proofs.JournalWords.Answers.{answer_here}
use Rattle.tool_program.specs.declared.event_applier.applier.Applier.{Applier}
use Rattle.tool_program.specs.declared.event_applier.applier.ApplyStep.{ApplyStep}
use Rattle.tool_program.specs.declared.event_applier.applier.ApplyStep.TheVariants.{Reading, Beginning, Applying, Committing}
use Rattle.tool_program.specs.declared.event_applier.applier.Batch.{Batch}
use Rattle.tool_program.specs.declared.event_applier.applier.Part.{Part}
use Rattle.tool_program.specs.declared.event_applier.applier.Part.TheVariants.{Whole, Removal, Return}
use Rattle.tool_program.specs.EventApplier.Appliers.{Doing, after_statements, batch_of, call_at, doing_in, in_part, moved, progress, read_batch, statement_result, took}
use Rattle.tool_program.specs.EventApplier.Appliers.Doing.{Putting, Removing, Changing}
use Rattle.tool_program.specs.EventApplier.Appliers as appliers
use Rattle.server_model.specs.LockedRows.Coverage.{Apart}
use Rattle.server_model.proofs.LockedRows.Points.{within-itself, within-left, within-right}
use Rattle.server_model.proofs.LockedRows.Tests.{are_one, same_bytes}
use Rattle.proof_journals.proofs.Answering.{apart_both}
use Rattle.proof_journals.proofs.Kept.{apart-turn}
use Rattle.proof_journals.specs.Scenes.{Besides, Scene, SessionHold, no_hold}
use Rattle.proof_journals.specs.Holdings.{face_of, stored}
use Rattle.proof_journals.specs.Turns.{inner, scene_state, reported_at}
use Rattle.proof_journals.specs.Ghost.Rows.Moments.{LogFits, Row}
use Rattle.proof_journals.specs.Ghost.Rows.Timelines.{IsPlanned, Migration}
use Rattle.proof_journals.specs.Ghost.Doings.{planned}
use Rattle.proof_journals.specs.Ghost.FittingEvents.{EventsFit}
use Rattle.proof_journals.specs.Ghost.Given.{IsGiven}
use Rattle.proof_journals.specs.Ghost.HeldKeys.{Clustered}
use Rattle.proof_journals.specs.Ghost.Invariant.{IsServed}
use Rattle.proof_journals.specs.Ghost.EffectStates.{EffectLeaves, effect_answer, is_lost, reported_done, undone_hold, unless_lost, was_done, where_done, with_grant}
use Rattle.proof_journals.specs.Ghost.OwnChanges.{EventsReported, IsReported, own_changes}
use Rattle.proof_journals.specs.Ghost.ToolTurns.{ApplyPlan, DoesOperation, ToolMoment, ToolStands, ToolTurn}
use Rattle.proof_journals.specs.Ghost.ToolTurns.ApplyPlan.{Resting, Planned, Returning}
use Rattle.proof_journals.specs.Ghost.ToolTurns.ToolTurn.{batch_is_read, batch_is_passed, row_is_put, row_is_removed, row_is_changed, unfit_row_is_missed, change_is_refused, refused_row_is_removed, row_returns, batch_commits, batch_repeats, batch_is_lost}
use Rattle.proof_journals.specs.Ghost.Statements.{DoesWork, delete_at, unfit_at, update_at}
use Rattle.proof_journals.specs.Ghost.Tool.{CopyState}
use Rattle.proof_journals.proofs.Ghost.Fitting.{well_formed_events}
use Rattle.proof_journals.proofs.Ghost.Keeping.{view_found}
use Rattle.proof_journals.proofs.Ghost.Keys.{full_key}
use Rattle.proof_journals.proofs.Ghost.Leaving.{effects_are_done, holds_of}
use Rattle.proof_journals.proofs.Ghost.Reading.{reads, read_is}
use Rattle.proof_journals.proofs.Ghost.Running.{any_kept, turn_keeps}
use Rattle.proof_journals.proofs.Ghost.Turns.{writes_fit}
use Rattle.proof_journals.proofs.Ghost.Undone.{effects_answer, undone_is_left}
use Rattle.proof_migration.specs.Migration.Copier.CopierPlace.{moment_of}
use Rattle.proof_migration.proofs.Migration.Copier.Knowing.{Heard, IsBad, Undone, heard_as, undone_as}
use Rattle.proof_migration.proofs.Migration.Copier.Knowing.Heard.{heard_so, lost_so}
use Rattle.proof_migration.proofs.Migration.Copier.Knowing.Undone.{waits_so, ends_so}
use Rattle.proof_migration.proofs.Migration.Copier.Rows.{Counted}
use Rattle.proof_migration.proofs.Migration.Copier.Served.{Deeded, besides_same, deeded, seen_of, stands_same}
use Rattle.proof_migration.proofs.Migration.Copier.Served.Deeded.{outside_so, within_so}
use Rattle.proof_migration.specs.Migration.Applier.ApplierPlace.{ApplierKnows, ChangesRows, IsBatchReported, PartKnows, StepIsBusy, StepKnows, apply_plan, plan_at, plan_in, todo_of}
use Rattle.proof_migration.specs.Migration.Applier.FoundColumns.{FindsRows}
use Rattle.proof_migration.specs.Migration.Applier.Laws.{ApplierStands, AppliersKeep, IsApplierTurn}
use Rattle.proof_migration.proofs.Migration.Applier.Answers.{ChangeAnswer, TableSeen, UnfitAnswer, change_answer, put_answer, refused_answer, remove_answer, table_seen, unfit_answer}
use Rattle.proof_migration.proofs.Migration.Applier.Answers.ChangeAnswer.{counts, clashes}
use Rattle.proof_migration.proofs.Migration.Applier.Answers.UnfitAnswer.{misses, refuses_it}
use Rattle.proof_migration.proofs.Migration.Applier.Busy.{busy_after, busy_done, busy_of, busy_waits}
use Rattle.proof_migration.proofs.Migration.Applier.Keys.{new_at}
use Rattle.proof_migration.proofs.Migration.Applier.Knowing.{bad_took, next_at, outside_took, plan_more, step_more, todo_more, reported_more, took_at, unfit_progress, waits_took}
use Rattle.proof_migration.proofs.Migration.Applier.Planning.{DoesRows, NextDoing, changes_of_rows, next_doing, none_left, planned_alike, planned_rows}
use Rattle.proof_migration.proofs.Migration.Applier.Statements.{change_unfit, change_work, one_place, put_unfit, put_work, remove_work, said, said_is, said_of}

-- the rows of a table that is found
abbrev rows_in : Option TableRows → List Row
rows_in None = []
rows_in (Some table) = table.rows

some_left : (n : ℕ) → (n == 0) ≡ false → 0 < n
some_left zero none = absurd cc
some_left (suc n) none = omega arith

-- not all are done yet
not_all : (done all : ℕ) → done < all → ((done + 1) == all) ≡ false → done + 1 < all
not_all done all less differ = grind (arith, nat_tests)

-- the turn of the applier, and where it stands before it
module _ (m : Migration) (at : Clustered m.schema) (rows : List Row) (place : ℕ) (plan : IsPlanned m rows) (is_place : clustered_place m.new ≡ Some place) (finds : FindsRows m) (limits : Limits) (scene : Scene) (journal : List Entry) (entry : Entry) (applier : Applier) (request : Request) (copy : CopyState) (copier : ℕ)
    (turn : IsApplierTurn m limits scene journal entry applier request) (was : ApplierStands m at rows limits scene journal applier copy copier entry.session) where
  abbrev before : State
  before = scene_state limits scene journal

  abbrev after : State
  after = scene_state limits scene (journal ++ entry ∷ [])

  abbrev number : ℕ
  number = entry.session

  abbrev longer : List Entry
  longer = journal ++ entry ∷ []

  abbrev following : Applier
  following = took (length journal + 1) applier entry.answer

  abbrev Goal : Applier → Type 0
  Goal one = ApplierStands m at rows limits scene longer one copy copier number

  abbrev own : SessionHold
  own = holds_of before number

  abbrev now : ToolMoment
  now = moment_of before copy (apply_plan m journal applier) applier.position

  -- the server behind the turn, with this to do
  abbrev then : ApplyPlan → ℕ → ToolMoment
  then todo position = moment_of after copy todo position

  -- WHAT IS KNOWN

  known : (step : ApplyStep) → applier.step ≡ step → StepKnows m journal step
  known step here = subst (StepKnows m journal) here was.knows.step

  plan_here : (step : ApplyStep) → applier.step ≡ step → apply_plan m journal applier ≡ plan_at m journal step
  plan_here step here = ap (plan_at m journal) here

  asked_as : (step : ApplyStep) → applier.step ≡ step → request ≡ call_at journal applier step
  asked_as step here = sym turn.given ∙ next_at journal applier step here

  knows_step : (step : ApplyStep) → StepKnows m longer step → ApplierKnows m longer (record applier { step = step })
  knows_step step knows = record { step = knows; sized = was.knows.sized }

  served : IsServed (stored before) (holds_of before)
  served = writes_fit limits scene journal turn.run

  -- a turn of the tool's leads to where the applier has this to do
  leads : (todo : ApplyPlan) (position : ℕ) → ToolTurn m at rows place copier number now (then todo position) → ToolStands m at rows copier number (then todo position)
  leads todo position one = turn_keeps m at rows place copier number plan is_place now (then todo position) served was.stands one

  -- the applier's record with this step
  goal_at : (step : ApplyStep) → following ≡ record applier { step = step } → ToolStands m at rows copier number (then (plan_at m longer step) applier.position) → StepKnows m longer step → StepIsBusy step (busy_of after number) → Goal following
  goal_at step is stands knows busy = subst Goal (sym is) (record { stands = stands; knows = knows_step step knows; busy = busy })

  -- NOTHING MOVES

  -- the record stays, and so does what the session holds
  stays : (held : SessionHold) → stored after ≡ stored before → Besides number (holds_of before) (holds_of after) held → held ≡ own → busy_of after number ≡ busy_of before number → following ≡ applier → Goal following
  stays held same besides keeps busy is =
      subst Goal (sym is)
      (record {
        stands =
            subst (λ (todo : ApplyPlan). ToolStands m at rows copier number (then todo applier.position)) (sym (plan_more m journal (entry ∷ []) applier.step was.knows.step))
            (stands_same m at rows copier number before after copy copy (apply_plan m journal applier) applier.position number held same besides keeps refl was.stands);
        knows = record { step = step_more m journal (entry ∷ []) applier.step was.knows.step; sized = was.knows.sized };
        busy = subst (StepIsBusy applier.step) (sym busy) was.busy;
      })

  -- THE SESSION ENDS

  ends : stored after ≡ stored before → Besides number (holds_of before) (holds_of after) no_hold → IsBad entry.answer → Goal following
  ends same besides bad = goal_at Reading (bad_took (length journal + 1) applier entry.answer bad) (leads Resting applier.position (batch_is_lost besides same refl refl refl)) tt tt

  -- WHAT WAS NOT DONE

  undone : reported_done (reported_at entry.side entry.answer entry.missed) ≡ false → Goal following
  undone none = by (undone_as entry.side entry.answer (inner before entry) entry.missed turn.reported.answer none)
    where
      left : (stored after ≡ stored before) × Besides number (holds_of before) (holds_of after) (undone_hold entry.side entry.answer own)
      left = undone_is_left limits scene journal entry request turn.run turn.reported turn.uncut turn.asked none

      by : Undone entry.side entry.answer → Goal following
      by (waits_so keeps quiet heard waits) =
          stays (undone_hold entry.side entry.answer own) left.0 left.1 (keeps own) (busy_waits limits scene journal entry request turn.reported heard turn.asked waits) (waits_took (length journal + 1) applier entry.answer waits)
      by (ends_so nothing bad) = ends left.0 (subst (Besides number (holds_of before) (holds_of after)) (nothing own) left.1) bad

  -- WHAT WAS DONE

  abbrev effect_now : Effect
  effect_now = effect (where_done entry.asked number (opens entry before)) number request

  abbrev lost : Bool
  lost = is_lost entry.side

  -- the locks are apart from another session's
  all_apart : (need : List Lock) (n : ℕ) → (n == number) ≡ false → Apart need (holds_of before n).locks → Apart (own.locks ++ need) (holds_of before n).locks
  all_apart need n differ free = apart_both own.locks need (holds_of before n).locks (apart-turn (holds_of before n).locks own.locks (served.apart n number differ)) free

  module _ (given : Answer) (reported : reported_at entry.side entry.answer entry.missed ≡ Some given) (done : was_done given ≡ true) where
    left : EffectLeaves effect_now lost number (stored before) (stored after) (holds_of before) (holds_of after)
    left =
        subst (λ (r : Request). EffectLeaves (effect (where_done entry.asked number (opens entry before)) number r) lost number (stored before) (stored after) (holds_of before) (holds_of after)) (filled_so (opens entry before) number request turn.tool)
        (effects_are_done limits scene journal entry request given turn.run turn.reported turn.asked reported done)

    says_so : given ≡ effect_answer effect_now
    says_so =
        effects_answer limits scene journal entry request given turn.run turn.reported turn.asked reported done
        ∙ ap (λ (r : Request). effect_answer (effect (where_done entry.asked number (opens entry before)) number r)) (filled_so (opens entry before) number request turn.tool)

    heard : Heard entry.side entry.answer given
    heard = heard_as entry.side entry.answer (inner before entry) given entry.missed turn.reported.answer reported

    lost_own : (held : SessionHold) → lost ≡ true → Besides number (holds_of before) (holds_of after) (unless_lost lost held) → Besides number (holds_of before) (holds_of after) no_hold
    lost_own held is besides = subst (λ (b : Bool). Besides number (holds_of before) (holds_of after) (unless_lost b held)) is besides

    kept_own : (held : SessionHold) → lost ≡ false → Besides number (holds_of before) (holds_of after) (unless_lost lost held) → Besides number (holds_of before) (holds_of after) held
    kept_own held is besides = subst (λ (b : Bool). Besides number (holds_of before) (holds_of after) (unless_lost b held)) is besides

    -- the session is lost behind a deed that commits nothing
    lost_goal : (held : SessionHold) → lost ≡ true → entry.answer ≡ answers.Lost → stored after ≡ stored before → Besides number (holds_of before) (holds_of after) (unless_lost lost held) → Goal following
    lost_goal held is answer same besides = ends same (lost_own held is besides) (subst IsBad (sym answer) tt)

    busy_now : (one : Effect) → effect_now ≡ one → entry.side ≡ None → given ≡ entry.answer → busy_of after number ≡ busy_after one (busy_of before number)
    busy_now one is side same = busy_done limits scene journal entry request turn.reported side turn.asked (ap was_done (sym same) ∙ done)
        ∙ ap (λ (r : Request). busy_after (effect (where_done entry.asked number (opens entry before)) number r) (busy_of before number)) (filled_so (opens entry before) number request turn.tool) ∙ ap (λ (d : Effect). busy_after d (busy_of before number)) is

    rests_left : (x : Answer) → effect_now ≡ Rests x → (stored after ≡ stored before) × Besides number (holds_of before) (holds_of after) (unless_lost lost own)
    rests_left x is = subst (λ (d : Effect). EffectLeaves d lost number (stored before) (stored after) (holds_of before) (holds_of after)) is left

    -- what is answered
    answered : (one : Effect) → effect_now ≡ one → given ≡ entry.answer → entry.answer ≡ effect_answer one
    answered one is same = sym same ∙ says_so ∙ ap effect_answer is

    -- outside the locked tables
    outside_goal : effect_now ≡ Rests (refuses ER_TABLE_NOT_LOCKED) → Goal following
    outside_goal is = by heard
      where
        by : Heard entry.side entry.answer given → Goal following
        by (heard_so side unlost same) =
            stays own (rests_left (refuses ER_TABLE_NOT_LOCKED) is).0 (kept_own own unlost (rests_left (refuses ER_TABLE_NOT_LOCKED) is).1) refl (busy_now (Rests (refuses ER_TABLE_NOT_LOCKED)) is side same)
            (ap (λ (a : Answer). took (length journal + 1) applier a) (answered (Rests (refuses ER_TABLE_NOT_LOCKED)) is same) ∙ outside_took (length journal + 1) applier)
        by (lost_so is_so answer) = lost_goal own is_so answer (rests_left (refuses ER_TABLE_NOT_LOCKED) is).0 (rests_left (refuses ER_TABLE_NOT_LOCKED) is).1

    -- ReadLog
    module _ (here : applier.step ≡ Reading) where
      abbrev tables : List (List ℕ)
      tables = applier.table ∷ log_name applier.table ∷ []

      named : list_any (bytes_eq m.name) tables ≡ true
      named = rw turn.table (rw (same_bytes m.name) refl)

      resting : apply_plan m journal applier ≡ Resting
      resting = plan_here Reading here

      within : applier.position ≤ length before.log
      within =
          any_kept (applier.position ≤ length before.log) m at rows copier number now
          (λ apply kept.
          let follows = kept.tool.kept.joined.under_way.are in
          let from = follows.from in
          let to = follows.to in
          let end = kept.tool.kept.joined.under_way.end in
          let position = kept.here in
          omega (arith, from, to, end, position)) was.stands

      log_fits : LogFits m.name m.schema rows before.log
      log_fits = any_kept (LogFits m.name m.schema rows before.log) m at rows copier number now (λ apply kept. kept.tool.kept.joined.under_way.log_fits) was.stands

      module _ (n : ℕ) (is_size : applier.batch ≡ suc n) where
        abbrev reading : List ReadEvent
        reading = take (suc n) (read_from tables applier.position (drop applier.position before.log))

        abbrev given_now : EventsReported
        given_now = record { events = map (λ (read : ReadEvent). read.event) reading; next = cond (length reading == suc n) (after_last 0 reading) (length before.log) }

        is_reported : IsReported m.name before.log applier.position given_now
        is_reported = reads m.name tables before.log n applier.position named within

        of_rows : AllByRecursion (ChangesRows m.schema.columns) (own_changes m.name given_now.events)
        of_rows = subst (AllByRecursion (ChangesRows m.schema.columns)) (sym is_reported.are) (changes_of_rows m rows plan before.log log_fits applier.position is_reported.steps)

        alike : appliers.planned applier given_now.events ≡ planned m (own_changes m.name given_now.events)
        alike = planned_alike m applier given_now.events finds turn.table turn.schema turn.map of_rows

        abbrev batch : Batch
        batch = batch_of (length journal + 1) applier given_now.events given_now.next

        module _ (answer : entry.answer ≡ answers.Events given_now.events given_now.next) (same : stored after ≡ stored before) (besides : Besides number (holds_of before) (holds_of after) own) where
          same_hold : holds_of after ≡ holds_of before
          same_hold = besides_same number (holds_of before) (holds_of after) own besides refl

          took_so : following ≡ read_batch applier batch
          took_so = ap (λ (a : Answer). took (length journal + 1) applier a) answer ∙ took_at (length journal + 1) applier Reading (answers.Events given_now.events given_now.next) here tt

          reported_here : answer_at longer (length journal + 1) ≡ Some (answers.Events given_now.events given_now.next)
          reported_here = answer_here journal entry ∙ ap (λ (a : Answer). Some a) answer

          batch_reported : IsBatchReported m longer batch
          batch_reported = record { events = given_now.events; reported = reported_here; counted = ap (λ (l : List Doing). length l) alike; rows = of_rows }

          todo_so : todo_of m longer batch 0 ≡ planned m (own_changes m.name given_now.events)
          todo_so = ap (λ (a : Option Answer). planned m (own_changes m.name (events_in a))) reported_here

          read_by : (none : Bool) → (batch.statements == 0) ≡ none → Goal (cond none (moved applier batch) (record applier { step = Beginning batch }))
          read_by true none =
              record {
                stands =
                    leads Resting given_now.next
                    (batch_is_passed given_now resting is_reported (nil_from_length (planned m (own_changes m.name given_now.events)) (ap (λ (l : List Doing). length l) (sym alike) ∙ are_one batch.statements 0 none)) same same_hold refl refl refl);
                knows = record { step = tt; sized = was.knows.sized };
                busy = tt;
              }
          read_by false some =
              record {
                stands =
                    subst (λ (todo : List Doing). ToolStands m at rows copier number (then (Planned given_now.next todo) applier.position)) (sym todo_so)
                    (leads (Planned given_now.next (planned m (own_changes m.name given_now.events))) applier.position (batch_is_read given_now resting is_reported same same_hold refl refl refl));
                knows = knows_step (Beginning batch) (batch_reported, some_left batch.statements some);
                busy = tt;
              }

          read_goal : Goal following
          read_goal = subst Goal (sym took_so) (read_by (batch.statements == 0) refl)

      with_size : (s : ℕ) → applier.batch ≡ s → 0 < s → (there : List RowEvent) → there ≡ before.log → effect_now ≡ Rests (events_read applier.position applier.batch tables there) → Goal following
      with_size zero is_size some there log is = absurd (let none : 0 < 0 = some in omega (arith, none))
      with_size (suc n) is_size some there log is = by heard
        where
          is_so : effect_now ≡ Rests (answers.Events (given_now n is_size).events (given_now n is_size).next)
          is_so = is ∙ ap (λ (l : List RowEvent). Rests (events_read applier.position applier.batch tables l)) log ∙ ap (λ (s : ℕ). Rests (events_read applier.position s tables before.log)) is_size ∙ ap (λ (a : Answer). Rests a) (read_is applier.position (suc n) tables before.log)

          by : Heard entry.side entry.answer given → Goal following
          by (heard_so side unlost same) = read_goal n is_size (answered _ is_so same) (rests_left _ is_so).0 (kept_own own unlost (rests_left _ is_so).1)
          by (lost_so is_lost_so answer) = lost_goal own is_lost_so answer (rests_left _ is_so).0 (rests_left _ is_so).1

      reads_log : Goal following
      reads_log = by (deeded entry before request)
        where
          by : Deeded before number request effect_now → Goal following
          by (outside_so is) = outside_goal is
          by (within_so there same log is) = with_size applier.batch refl was.knows.sized there.log log (is ∙ ap (effect_within (face_of before.sessions number).busy (seen_of before number) there) (asked_as Reading here))

    -- Begin
    module _ (batch : Batch) (here : applier.step ≡ Beginning batch) where
      abbrev begun : SessionHold
      begun = with_grant own nothing_needed []

      begun_own : begun ≡ own
      begun_own =
          ap (λ (n : List (List ℕ)). let h : SessionHold = record { names = n; locks = own.locks ++ []; writes = own.writes ++ [] } in h) (append-nil own.names)
          ∙ ap (λ (l : List Lock). let h : SessionHold = record { names = own.names; locks = l; writes = own.writes ++ [] } in h) (append-nil own.locks)
          ∙ ap (λ (w : List RowEvent). let h : SessionHold = record { names = own.names; locks = own.locks; writes = w } in h) (append-nil own.writes)

      begin_goal : effect_now ≡ Grows ok nothing_needed [] → Goal following
      begin_goal is = by heard
        where
          all : (stored after ≡ stored before) × Besides number (holds_of before) (holds_of after) (unless_lost lost begun) × ((n : ℕ) → (n == number) ≡ false → Apart [] (holds_of before n).locks)
          all = subst (λ (d : Effect). EffectLeaves d lost number (stored before) (stored after) (holds_of before) (holds_of after)) is left

          by : Heard entry.side entry.answer given → Goal following
          by (heard_so side unlost same) =
              goal_at (Applying batch 0 Whole) (ap (λ (a : Answer). took (length journal + 1) applier a) (answered (Grows ok nothing_needed []) is same) ∙ took_at (length journal + 1) applier (Beginning batch) ok here tt)
              (subst (λ (todo : ApplyPlan). ToolStands m at rows copier number (then todo applier.position)) (plan_here (Beginning batch) here ∙ sym (plan_more m journal (entry ∷ []) (Beginning batch) (known (Beginning batch) here)))
              (stands_same m at rows copier number before after copy copy (apply_plan m journal applier) applier.position number begun all.0 (kept_own begun unlost all.1) begun_own refl was.stands))
              (reported_more m journal (entry ∷ []) batch (known (Beginning batch) here).0, (known (Beginning batch) here).1, tt) (busy_now (Grows ok nothing_needed []) is side same)
          by (lost_so is_so answer) = lost_goal begun is_so answer all.0 all.1

      begins : Goal following
      begins = by (deeded entry before request)
        where
          by : Deeded before number request effect_now → Goal following
          by (outside_so is) = outside_goal is
          by (within_so there same log is) = begin_goal (is ∙ ap (effect_within (face_of before.sessions number).busy (seen_of before number) there) (asked_as (Beginning batch) here))

    -- Commit
    module _ (batch : Batch) (here : applier.step ≡ Committing batch) where
      nothing_left : apply_plan m journal applier ≡ Planned batch.next []
      nothing_left = plan_here (Committing batch) here

      writes_goal : effect_now ≡ Writes ok [] → Goal following
      writes_goal is = by heard
        where
          all : ((stored after).tables ≡ after_events before.tables (own.writes ++ [])) × ((stored after).log ≡ before.log ++ (own.writes ++ [])) × Besides number (holds_of before) (holds_of after) no_hold
          all = subst (λ (d : Effect). EffectLeaves d lost number (stored before) (stored after) (holds_of before) (holds_of after)) is left

          commit_tables : (stored after).tables ≡ after_events before.tables own.writes
          commit_tables = all.0 ∙ ap (λ (w : List RowEvent). after_events before.tables w) (append-nil own.writes)

          commit_log : (stored after).log ≡ before.log ++ own.writes
          commit_log = all.1 ∙ ap (λ (w : List RowEvent). before.log ++ w) (append-nil own.writes)

          by : Heard entry.side entry.answer given → Goal following
          by (heard_so side unlost same) =
              subst Goal (sym (ap (λ (a : Answer). took (length journal + 1) applier a) (answered (Writes ok []) is same) ∙ took_at (length journal + 1) applier (Committing batch) ok here tt))
              (record {
                stands = leads Resting batch.next (batch_commits batch.next nothing_left (record { besides = all.2; tables = commit_tables; log = commit_log }) refl refl refl);
                knows = record { step = tt; sized = was.knows.sized };
                busy = tt;
              })
          by (lost_so is_so answer) =
              goal_at Reading (bad_took (length journal + 1) applier entry.answer (subst IsBad (sym answer) tt))
              (leads Resting applier.position (batch_repeats batch.next nothing_left (record { besides = all.2; tables = commit_tables; log = commit_log }) refl refl refl)) tt tt

      commits : Goal following
      commits = by (deeded entry before request)
        where
          by : Deeded before number request effect_now → Goal following
          by (outside_so is) = outside_goal is
          by (within_so there same log is) = writes_goal (is ∙ ap (effect_within (face_of before.sessions number).busy (seen_of before number) there) (asked_as (Committing batch) here))

    -- a statement
    module _ (batch : Batch) (count : ℕ) (part : Part) (here : applier.step ≡ Applying batch count part) where
      batch_known : IsBatchReported m journal batch
      batch_known = (known (Applying batch count part) here).0

      less : count < batch.statements
      less = (known (Applying batch count part) here).1

      is_busy : (face_of before.sessions number).busy ≡ true
      is_busy = subst (λ (s : ApplyStep). StepIsBusy s (busy_of before number)) here was.busy

      abbrev all_doings : List Doing
      all_doings = planned m (own_changes m.name batch_known.events)

      abbrev rest : List Doing
      rest = drop (count + 1) all_doings

      events_are : events_in (answer_at journal batch.read) ≡ batch_known.events
      events_are = ap events_in batch_known.reported

      todo_all : (more : ℕ) → todo_of m journal batch more ≡ drop more all_doings
      todo_all more = ap (λ (e : List RowEvent). drop more (planned m (own_changes m.name e))) events_are

      seen_table : TableSeen m (seen_of before number)
      seen_table =
          any_kept (TableSeen m (seen_of before number)) m at rows copier number now
          (λ apply kept.
          table_seen m (seen_of before number) _ (well_formed_events before.tables own.writes served.well_formed (served.fits number))
          (ap (λ (w : List RowEvent). find_table m.new.name (after_events before.tables w)) kept.tool.kept.batch ∙ view_found m.new kept.ghost.committed kept.ghost.batch before.tables served.well_formed (subst (EventsFit before.tables) kept.tool.kept.batch (served.fits number)) kept.tool.kept.new)) was.stands

      -- one statement more is done
      advance : following ≡ record applier { step = after_statements batch (count + 1) } → ToolStands m at rows copier number (then (Planned batch.next rest) applier.position) → busy_of after number ≡ true → Goal following
      advance is stands busy = subst Goal (sym is) (by ((count + 1) == batch.statements) refl)
        where
          todo_then : todo_of m longer batch (count + 1) ≡ rest
          todo_then = todo_more m journal (entry ∷ []) batch (count + 1) batch_known ∙ todo_all (count + 1)

          by : (full : Bool) → ((count + 1) == batch.statements) ≡ full → Goal (record applier { step = cond ((count + 1) == batch.statements) (Committing batch) (Applying batch (count + 1) Whole) })
          by true full =
              rw full
              (record {
                stands = subst (λ (todo : List Doing). ToolStands m at rows copier number (then (Planned batch.next todo) applier.position)) (none_left all_doings (count + 1) (are_one (count + 1) batch.statements full ∙ batch_known.counted)) stands;
                knows = knows_step (Committing batch) tt;
                busy = tt;
              })
          by false full =
              rw full
              (record {
                stands = subst (λ (todo : List Doing). ToolStands m at rows copier number (then (Planned batch.next todo) applier.position)) (sym todo_then) stands;
                knows = knows_step (Applying batch (count + 1) Whole) (reported_more m journal (entry ∷ []) batch batch_known, not_all count batch.statements less full, tt);
                busy = busy;
              })

      module _ (doing : Doing) (asked_so : request ≡ requests.Do (said m.new m.columns doing)) where
        abbrev statement : Statement
        statement = said m.new m.columns doing

        abbrev operation : Operation
        operation = operation_of statement

        abbrev seen : Database
        seen = seen_of before number

        abbrev row_need : Need
        row_need = need_within seen (requests.Do statement)

        abbrev granted : SessionHold
        granted = with_grant own row_need (operation_result seen operation).events

        -- how the statement's turn goes on once it is heard
        abbrev Goes : Type 0
        Goes = stored after ≡ stored before → Besides number (holds_of before) (holds_of after) granted → DoesOperation m number operation granted now (then Resting applier.position) → entry.answer ≡ (operation_result seen operation).answer → busy_of after number ≡ true → Goal following

        grows : Goes → effect_now ≡ Grows (operation_result seen operation).answer row_need (operation_result seen operation).events → Goal following
        grows goes is = by heard
          where
            all : (stored after ≡ stored before) × Besides number (holds_of before) (holds_of after) (unless_lost lost granted) × ((n : ℕ) → (n == number) ≡ false → Apart row_need.locks (holds_of before n).locks)
            all = subst (λ (d : Effect). EffectLeaves d lost number (stored before) (stored after) (holds_of before) (holds_of after)) is left

            gives : IsGiven (stored before) (holds_of before) number operation granted
            gives =
                record {
                  kept = within-left own.locks own.locks row_need.locks (within-itself own.locks);
                  needed = within-right (operation_needs seen operation) own.locks row_need.locks (within-itself row_need.locks);
                  apart = λ n differ. all_apart row_need.locks n differ (all.2 n differ);
                  wrote = refl;
                }

            by : Heard entry.side entry.answer given → Goal following
            by (heard_so side unlost same) =
                goes all.0 (kept_own granted unlost all.1) (record { given = gives; besides = kept_own granted unlost all.1; stored = all.0 }) (answered _ is same) (busy_now _ is side same)
            by (lost_so is_so answer) = lost_goal granted is_so answer all.0 all.1

        does_statement : Goes → Goal following
        does_statement goes = by (deeded entry before request)
          where
            by : Deeded before number request effect_now → Goal following
            by (outside_so is) = outside_goal is
            by (within_so there same log is) =
                grows goes (is ∙ ap (effect_within (face_of before.sessions number).busy seen there) asked_so ∙ ap (λ (b : Bool). result_effect b row_need (operation_result seen operation)) is_busy)

        -- the statement's place and its work
        of_new : operation.table ≡ m.new.name
        of_new = said_of m doing

        -- a refusal with a column isn't heard
        unfit : (fault : UnfitAt) → (operation_result seen operation).answer ≡ refuses_value fault → entry.answer ≡ (operation_result seen operation).answer → Goal following
        unfit fault statement_result answer = absurd (turn.fits fault.column (error_number fault.unfit) (ap (progress applier) (answer ∙ statement_result) ∙ unfit_progress applier batch count part (error_number fault.unfit) fault.column here))

      -- REPLACE
      module _ (row : Row) (asked_so : request ≡ requests.Do (said m.new m.columns (Putting row))) (puts : (made : Row) → converted_row m.columns row ≡ Ok made → DoesWork m (operation (Putting row) asked_so) (works.Replace made) → DoesOperation m number (operation (Putting row) asked_so) (granted (Putting row) asked_so) now (then (Planned batch.next rest) applier.position) → ToolTurn m at rows place copier number now (then (Planned batch.next rest) applier.position))
          (took_so : (n : ℕ) → took (length journal + 1) applier (answers.Ok n) ≡ record applier { step = after_statements batch (count + 1) }) where
        put_goes : (said_row : Result Row UnfitAt) → converted_row m.columns row ≡ said_row → Goes (Putting row) asked_so
        put_goes (Ok made) imaged same besides does_operation answer busy =
            let work : (operation (Putting row) asked_so).work m.new ≡ works.Replace made = put_work m rows plan finds row made imaged in
            let said_so : Counted (seen (Putting row) asked_so) (operation (Putting row) asked_so) = put_answer m (seen (Putting row) asked_so) seen_table (operation (Putting row) asked_so) (of_new (Putting row) asked_so) made work in
            advance (ap (λ (a : Answer). took (length journal + 1) applier a) (answer ∙ said_so.is) ∙ took_so said_so.count)
            (leads (Planned batch.next rest) applier.position (puts made imaged (record { table = of_new (Putting row) asked_so; does = work }) (record { given = does_operation.given; besides = besides; stored = same }))) busy
        put_goes (Err fault) imaged same besides does_operation answer busy =
            unfit (Putting row) asked_so fault (refused_answer m (seen (Putting row) asked_so) seen_table (operation (Putting row) asked_so) (of_new (Putting row) asked_so) (refuses_value fault) (put_unfit m rows plan finds row fault imaged)) answer

        puts_row : Goal following
        puts_row = does_statement (Putting row) asked_so (put_goes (converted_row m.columns row) refl)

      -- DELETE
      module _ (row : Row) (fits : IsRow m.schema.columns row) (asked_so : request ≡ requests.Do (said m.new m.columns (Removing row))) (next_plan : ApplyPlan)
          (removes : DoesWork m (operation (Removing row) asked_so) (delete_at place (key_of (key_places m.schema) row)) → DoesOperation m number (operation (Removing row) asked_so) (granted (Removing row) asked_so) now (then next_plan applier.position) → ToolTurn m at rows place copier number now (then next_plan applier.position))
          (finish : (n : ℕ) → following ≡ took (length journal + 1) applier (answers.Ok n) → ToolStands m at rows copier number (then next_plan applier.position) → busy_of after number ≡ true → Goal following) where
        remove_goes : Goes (Removing row) asked_so
        remove_goes same besides does_operation answer busy =
            let work = remove_work m rows plan finds row fits in
            let said_so : Counted (seen (Removing row) asked_so) (operation (Removing row) asked_so) =
            remove_answer m (seen (Removing row) asked_so) seen_table (operation (Removing row) asked_so) (of_new (Removing row) asked_so) (new_at m rows plan finds).place (key_of (key_places m.schema) row) work in
            finish said_so.count (ap (λ (a : Answer). took (length journal + 1) applier a) (answer ∙ said_so.is))
            (leads next_plan applier.position
            (removes (record { table = of_new (Removing row) asked_so; does = work ∙ ap (λ (p : ℕ). delete_at p (key_of (key_places m.schema) row)) (one_place m rows plan finds place is_place) }) (record { given = does_operation.given; besides = besides; stored = same }))) busy

        removes_row : Goal following
        removes_row = does_statement (Removing row) asked_so remove_goes

      -- UPDATE
      module _ (old new : Row) (fits : IsRow m.schema.columns old) (fits_new : IsRow m.schema.columns new) (asked_so : request ≡ requests.Do (said m.new m.columns (Changing old new))) (whole : part ≡ Whole) (is_todo : apply_plan m journal applier ≡ Planned batch.next (Changing old new ∷ rest)) (todo_then : todo_of m longer batch count ≡ Changing old new ∷ rest) where
        abbrev key : Row
        key = key_of (key_places m.schema) old

        abbrev change_operation : Operation
        change_operation = operation (Changing old new) asked_so

        here_whole : applier.step ≡ Applying batch count Whole
        here_whole = here ∙ ap (λ (p : Part). Applying batch count p) whole

        moves_on : (n : ℕ) → took (length journal + 1) applier (answers.Ok n) ≡ record applier { step = after_statements batch (count + 1) }
        moves_on n = took_at (length journal + 1) applier (Applying batch count Whole) (answers.Ok n) here_whole tt

        full : Rattle.base_values.specs.GhoSchema.Tables.no_null key ≡ true
        full = full_key m.schema plan.old_key old fits

        to_place : (new_at m rows plan finds).place ≡ place
        to_place = one_place m rows plan finds place is_place

        not_refused : (n : ℕ) → answers.Ok n ≡ refuses ER_DUP_ENTRY → ⊥
        not_refused n is = absurd cc

        change_by : (made : Row) → converted_row m.columns new ≡ Ok made → change_operation.work m.new ≡ update_at (new_at m rows plan finds).place key made → ChangeAnswer (seen (Changing old new) asked_so) change_operation → Goes (Changing old new) asked_so
        change_by made imaged work (counts said_so) same besides does_operation answer busy =
            advance (ap (λ (a : Answer). took (length journal + 1) applier a) (answer ∙ said_so.is) ∙ moves_on said_so.count)
            (leads (Planned batch.next rest) applier.position
            (row_is_changed (granted (Changing old new) asked_so) change_operation batch.next old new made rest is_todo imaged (record { table = of_new (Changing old new) asked_so; does = work ∙ ap (λ (p : ℕ). update_at p key made) to_place }) (λ refused_so. not_refused said_so.count (sym said_so.is ∙ refused_so))
            (record { given = does_operation.given; besides = besides; stored = same }) refl refl refl)) busy
        change_by made imaged work (clashes refused_so) same besides does_operation answer busy =
            goal_at (Applying batch count Removal) (ap (λ (a : Answer). took (length journal + 1) applier a) (answer ∙ refused_so) ∙ took_at (length journal + 1) applier (Applying batch count Whole) (refuses ER_DUP_ENTRY) here_whole tt)
            (subst (λ (todo : List Doing). ToolStands m at rows copier number (then (Planned batch.next todo) applier.position)) (sym todo_then)
            (leads (Planned batch.next (Changing old new ∷ rest)) applier.position
            (change_is_refused (granted (Changing old new) asked_so) change_operation batch.next old new made rest is_todo (record { table = of_new (Changing old new) asked_so; does = work ∙ ap (λ (p : ℕ). update_at p key made) to_place }) refused_so
            (record { given = does_operation.given; besides = besides; stored = same }) refl (sym is_todo, refl))))
            (reported_more m journal (entry ∷ []) batch batch_known, less, record { old = old; new = new; rest = rest; is = todo_then }) busy

        unfit_by : (fault : UnfitAt) → change_operation.work m.new ≡ unfit_at (new_at m rows plan finds).place key fault → UnfitAnswer m (seen (Changing old new) asked_so) seen_table.rows change_operation key fault → Goes (Changing old new) asked_so
        unfit_by fault work (misses none said_so) same besides does_operation answer busy =
            advance (ap (λ (a : Answer). took (length journal + 1) applier a) (answer ∙ said_so.is) ∙ moves_on said_so.count)
            (leads (Planned batch.next rest) applier.position
            (unfit_row_is_missed (granted (Changing old new) asked_so) change_operation batch.next old new fault rest is_todo (record { table = of_new (Changing old new) asked_so; does = work ∙ ap (λ (p : ℕ). unfit_at p key fault) to_place })
            (λ view is. ap (λ (all : List Row). find (is_at (key_places m.new) key) all) (ap rows_in (sym is ∙ seen_table.is)) ∙ none) (record { given = does_operation.given; besides = besides; stored = same }) refl refl refl)) busy
        unfit_by fault work (refuses_it statement_result) same besides does_operation answer busy = unfit (Changing old new) asked_so fault statement_result answer

        change_goes : (made : Result Row UnfitAt) → converted_row m.columns new ≡ made → Goes (Changing old new) asked_so
        change_goes (Ok made) imaged =
            let work = change_work m rows plan finds old new made fits imaged in
            change_by made imaged work (change_answer m (seen (Changing old new) asked_so) seen_table change_operation (of_new (Changing old new) asked_so) (new_at m rows plan finds) key made full (plan.fits new made fits_new imaged) work)
        change_goes (Err fault) imaged =
            let work = change_unfit m rows plan finds old new fault fits imaged in unfit_by fault work (unfit_answer m (seen (Changing old new) asked_so) seen_table change_operation (of_new (Changing old new) asked_so) (new_at m rows plan finds) key fault full work)

        changes_row : Goal following
        changes_row = does_statement (Changing old new) asked_so (change_goes (converted_row m.columns new) refl)

      -- by the statement that comes next, and by its part
      next_one : NextDoing all_doings count
      next_one = next_doing all_doings count (subst (λ (n : ℕ). count < n) batch_known.counted less)

      next_rows : DoesRows m.schema.columns next_one.doing
      next_rows = All-at (DoesRows m.schema.columns) all_doings count next_one.doing (planned_rows m (own_changes m.name batch_known.events) batch_known.rows) next_one.there

      code_plan : appliers.planned applier (events_in (answer_at journal batch.read)) ≡ all_doings
      code_plan = ap (λ (e : List RowEvent). appliers.planned applier e) events_are ∙ planned_alike m applier batch_known.events finds turn.table turn.schema turn.map batch_known.rows

      asked_now : request ≡ requests.Do (said m.new m.columns (in_part part next_one.doing))
      asked_now =
          asked_as (Applying batch count part) here ∙ ap (statement_result applier) (ap (λ (l : List Doing). doing_in part (slice_get l count)) code_plan ∙ ap (doing_in part) next_one.there) ∙ ap (λ (s : Statement). requests.Do s) (said_is m applier (in_part part next_one.doing) turn.schema turn.map)

      todo_now : todo_of m journal batch count ≡ next_one.doing ∷ rest
      todo_now = todo_all count ∙ next_one.is

      plan_now : apply_plan m journal applier ≡ plan_in part batch.next (next_one.doing ∷ rest)
      plan_now = plan_here (Applying batch count part) here ∙ ap (plan_in part batch.next) todo_now

      todo_longer : todo_of m longer batch count ≡ next_one.doing ∷ rest
      todo_longer = todo_more m journal (entry ∷ []) batch count batch_known ∙ todo_now

      part_knows : PartKnows part (next_one.doing ∷ rest)
      part_knows = subst (PartKnows part) todo_now (known (Applying batch count part) here).2

    -- the step, where the statement and its part are known
    by_part : (batch : Batch) (count : ℕ) (part : Part) (here : applier.step ≡ Applying batch count part) (doing : Doing) → DoesRows m.schema.columns doing → request ≡ requests.Do (said m.new m.columns (in_part part doing)) → apply_plan m journal applier ≡ plan_in part batch.next (doing ∷ rest batch count part here)
        → todo_of m longer batch count ≡ doing ∷ rest batch count part here → PartKnows part (doing ∷ rest batch count part here) → Goal following
    by_part batch count Whole here (Putting row) fits asked is todo knows =
        puts_row batch count Whole here row asked (λ made imaged does does_operation. row_is_put _ _ batch.next row made (rest batch count Whole here) is imaged does does_operation refl refl refl)
        (λ n. took_at (length journal + 1) applier (Applying batch count Whole) (answers.Ok n) here tt)
    by_part batch count Whole here (Removing row) fits asked is todo knows =
        removes_row batch count Whole here row fits asked (Planned batch.next (rest batch count Whole here)) (λ does does_operation. row_is_removed _ _ batch.next row (rest batch count Whole here) is does does_operation refl refl refl)
        (λ n took_so stands busy. advance batch count Whole here (took_so ∙ took_at (length journal + 1) applier (Applying batch count Whole) (answers.Ok n) here tt) stands busy)
    by_part batch count Whole here (Changing old new) fits asked is todo knows = changes_row batch count Whole here old new fits.0 fits.1 asked refl is todo
    by_part batch count Removal here (Changing old new) fits asked is todo knows =
        removes_row batch count Removal here old fits.0 asked (Returning batch.next old new (rest batch count Removal here))
        (λ does does_operation. refused_row_is_removed _ _ batch.next old new (rest batch count Removal here) is does does_operation refl refl refl)
        (λ n took_so stands busy.
        goal_at (Applying batch count Return) (took_so ∙ took_at (length journal + 1) applier (Applying batch count Removal) (answers.Ok n) here tt)
        (subst (λ (todo : List Doing). ToolStands m at rows copier number (then (plan_in Return batch.next todo) applier.position)) (sym todo) stands)
        (reported_more m journal (entry ∷ []) batch (batch_known batch count Removal here), less batch count Removal here, record { old = old; new = new; rest = rest batch count Removal here; is = todo }) busy)
    by_part batch count Return here (Changing old new) fits asked is todo knows =
        puts_row batch count Return here new asked (λ made imaged does does_operation. row_returns _ _ batch.next old new made (rest batch count Return here) is imaged does does_operation refl refl refl)
        (λ n. took_at (length journal + 1) applier (Applying batch count Return) (answers.Ok n) here tt)
    by_part batch count Removal here (Putting row) fits asked is todo knows = absurd (let no : Putting row ∷ rest batch count Removal here ≡ Changing knows.old knows.new ∷ knows.rest = knows.is in cc)
    by_part batch count Removal here (Removing row) fits asked is todo knows = absurd (let no : Removing row ∷ rest batch count Removal here ≡ Changing knows.old knows.new ∷ knows.rest = knows.is in cc)
    by_part batch count Return here (Putting row) fits asked is todo knows = absurd (let no : Putting row ∷ rest batch count Return here ≡ Changing knows.old knows.new ∷ knows.rest = knows.is in cc)
    by_part batch count Return here (Removing row) fits asked is todo knows = absurd (let no : Removing row ∷ rest batch count Return here ≡ Changing knows.old knows.new ∷ knows.rest = knows.is in cc)

    by_step : (step : ApplyStep) → applier.step ≡ step → Goal following
    by_step Reading here = reads_log here
    by_step (Beginning batch) here = begins batch here
    by_step (Applying batch count part) here =
        by_part batch count part here (next_one batch count part here).doing (next_rows batch count part here) (asked_now batch count part here) (plan_now batch count part here) (todo_longer batch count part here) (part_knows batch count part here)
    by_step (Committing batch) here = commits batch here

  done_goal : (given : Option Answer) → reported_at entry.side entry.answer entry.missed ≡ given → reported_done given ≡ true → Goal following
  done_goal None reported done = absurd (let no : false ≡ true = done in cc)
  done_goal (Some given) reported done = by_step given reported done applier.step refl

  goal : (b : Bool) → reported_done (reported_at entry.side entry.answer entry.missed) ≡ b → Goal following
  goal true is = done_goal (reported_at entry.side entry.answer entry.missed) refl is
  goal false is = undone is

-- *Appliers keep the relation*
pub appliers_keep : AppliersKeep
appliers_keep m at rows place plan is_place finds limits scene journal entry applier request copy copier turn was =
    goal m at rows place plan is_place finds limits scene journal entry applier request copy copier turn was (reported_done (reported_at entry.side entry.answer entry.missed)) refl
