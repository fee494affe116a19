-- The key of a row for which a new tool reverts has a value.
use Rattle.std.proofs.Common.{◌≡◌, ◌<◌, ℕ, Bool, true, false, List, [], ◌∷◌, ◌++◌, length, Option, Some, None, refl, sym, ap, ◌∙◌, subst, append_assoc}
use Rattle.std.specs.Prelude.{unwrap_or}
use Rattle.std.specs.Option.{option_map}
use Rattle.std.proofs.Math.Seq.{drop-append_seam}
use Rattle.base_script.specs.declared.actor.Actor.TheVariants.{Apply}
use Rattle.base_script.specs.declared.actor.Side.{Side}
use Rattle.base_values.specs.Laws.{StoresAgain}
use Rattle.base_values.specs.declared.value.Value.{Value}
use Rattle.base_values.specs.GhoSchema.Rows.{key_of, key_places}
use Rattle.base_values.specs.GhoSchema.Tables.{IsRow}
use Rattle.table_store.specs.Databases.{Database, TableRows, find_table}
use Rattle.server_model.specs.declared.answer.Answer.{Answer}
use Rattle.server_model.specs.declared.answer.Answer.TheVariants as answers
use Rattle.server_model.specs.declared.entry.Asked.{Asked}
use Rattle.server_model.specs.declared.entry.Asked.TheVariants.{Call}
use Rattle.server_model.specs.declared.entry.Entry.{Entry}
use Rattle.server_model.specs.declared.request.Request.{Request}
use Rattle.server_model.specs.declared.request.Request.TheVariants as requests
use Rattle.server_model.specs.Blockers.{blocker, need}
use Rattle.server_model.specs.Drawing.{filled}
use Rattle.server_model.specs.Effects.{effect_unless, is_outside}
use Rattle.server_model.specs.Listings.{events_read}
use Rattle.server_model.specs.LockedRows.Databases.{IsWellFormedDatabase}
use Rattle.server_model.specs.PlainServer.{called_unless, calls, did, does, given_at, serves}
use Rattle.server_model.specs.States.{State, is_in_transaction, session_of, view}
use Rattle.plan_data.specs.PlanData.{PlanData, no_schema, old_schema}
use Rattle.tool_program.specs.declared.event_applier.applier.Applier.{Applier}
use Rattle.tool_program.specs.declared.event_applier.applier.ApplyStep.{ApplyStep}
use Rattle.tool_program.specs.declared.event_applier.applier.ApplyStep.TheVariants as batches
use Rattle.tool_program.specs.declared.event_applier.applier.Batch.{Batch}
use Rattle.tool_program.specs.declared.event_applier.applier.Part.{Part}
use Rattle.tool_program.specs.declared.chunk_copier.copier.Copier.{Copier}
use Rattle.tool_program.specs.EventApplier.Appliers.{doing_at, row_done}
use Rattle.tool_program.specs.EventApplier.Appliers as appliers
use Rattle.tool_program.specs.JournalWords.Journals.{IsAnswered, IsFaithful, heard, inner_answer, opens, state_at}
use Rattle.tool_program.specs.JournalWords.Sessions.{KeepsSessions}
use Rattle.tool_finish.specs.Checkpoints.{has_checkpoint}
use Rattle.tool_finish.specs.Finishes.{IsFinish, IsFinishTurn, next, stage_behind}
use Rattle.tool_finish.specs.Finishes as finishes
use Rattle.tool_finish.specs.WholeJournals.{IsUnfitBehind, row_at}
use Rattle.tool_finish.specs.declared.stage.Stage.{Stage}
use Rattle.tool_finish.specs.declared.stage.Stage.TheVariants.{Applying, Copying}
use Rattle.proof_journals.specs.Ghost.HeldKeys.{Clustered}
use Rattle.proof_journals.specs.Ghost.Rows.Timelines.{Migration}
use Rattle.proof_journals.specs.Machine.Runnable.{IsRunnable}
use Rattle.proof_journals.specs.Plans.{IsSerialPlan}
use Rattle.proof_journals.specs.Run.Kept.{IsKept}
use Rattle.proof_journals.proofs.Ghost.Keys.{clustered}
use Rattle.proof_journals.proofs.Ghost.Turns.{along_next}
use Rattle.proof_journals.proofs.Machine.Calling.{served_along}
use Rattle.proof_journals.proofs.Machine.Seated.{IsKnown, all_known}
use Rattle.proof_journals.proofs.ServerTurns.Agreements.{along_front}
use Rattle.proof_migration.specs.Migration.Planning.{migration_of}
use Rattle.proof_migration.specs.Program.Turns.Laws.{IsMigrationOf}
use Rattle.proof_migration.specs.ToolPhase.Runnable.{IsAlterable}
use Rattle.proof_migration.specs.ToolPhase.Unaltered.{IsUnaltered}
use Rattle.proof_migration.proofs.Migration.Applier.Knowing.{next_at}
use Rattle.proof_migration.proofs.Migration.Applier.NextStatement.{next_statement}
use Rattle.proof_migration.proofs.Program.Follows.{migration, own_table}
use Rattle.proof_migration.proofs.Program.Turns.ActorStates.{SomeActorStates, some_actor_states}
use Rattle.proof_migration.proofs.ToolPhase.Unaltered.Runs.{unaltered_runs}
use Rattle.proof_bounds.specs.AttemptTurns.Attempts.{MayTry}
use Rattle.proof_plain.specs.Plans.{IsShort, PlainPlan}
use Rattle.proof_plain.proofs.UnfitKeys.{found_keyed, row_keyed, statement_row}
use Rattle.proof_migration.specs.Program.Turns.Goes.{StandsFor}
use Rattle.proof_resume.proofs.Finish.Machines.{IsApplierOf}
use Rattle.proof_resume.proofs.Finish.Prompt.{its_request}
use Rattle.proof_resume.proofs.Finish.Runs.{Knows}
use Rattle.proof_resume.proofs.Finish.Walks.{Walks, WalksAt, finish_walks}
use Rattle.proof_resume.proofs.Starts.Exchanging.{finishes_start_right}
use Rattle.proof_resume.proofs.Starts.Finishable.{Migrates, migrates}

-- ---- which requests are refused for a value

-- no value was refused
abbrev NoValue : Answer → Type 0
NoValue (answers.Refused number (Some place)) = ⊥
NoValue answer = Unit {0}

-- what the applier calls beside its statements
abbrev IsBracket : Request → Type 0
IsBracket requests.Begin = Unit {0}
IsBracket requests.Commit = Unit {0}
IsBracket (requests.ReadLog position limit tables) = Unit {0}
IsBracket request = ⊥

bracket_filled : (state : State) (number : ℕ) (request : Request) → IsBracket request → filled state number request ≡ request
bracket_filled state number requests.Begin is = refl
bracket_filled state number requests.Commit is = refl
bracket_filled state number (requests.ReadLog position limit tables) is = refl
bracket_filled state number request is = absurd is

bracket_done : (state : State) (number : ℕ) (outside busy : Bool) (seen : Database) (request : Request) → IsBracket request → NoValue (does (effect_unless outside busy seen state request) state number).answer
unfolding events_read
bracket_done state number true busy seen request is = tt
bracket_done state number false busy seen requests.Begin is = tt
bracket_done state number false busy seen requests.Commit is = tt
bracket_done state number false busy seen (requests.ReadLog position limit tables) is = tt
bracket_done state number false busy seen request is = absurd is

bracket_called : (state : State) (number : ℕ) (request : Request) → IsBracket request → NoValue (calls state number request).answer
unfolding calls did
bracket_called state number request is = by (blocker state number (need state number request)) where
  by : (waits : Option ℕ) → NoValue (called_unless waits state number request).answer
  by None =
      subst (λ (one : Request). NoValue (did state number one).answer) (sym (bracket_filled state number request is))
      (bracket_done state number (is_outside (session_of number state.sessions) request) (is_in_transaction (session_of number state.sessions)) (view number state) request is)
  by (Some other) = tt

-- ---- a turn of the new tool's

module _ (plan : PlanData) (is : IsAlterable plan) (again : StoresAgain) (runs : IsRunnable plan) (serial : IsSerialPlan plan) (tries : MayTry plan) (plainly : PlainPlan plan) (run : List Entry) (kept : IsKept plan run) (short : IsShort run) (has : has_checkpoint plan run ≡ true) (off : IsUnaltered plan run) where
  abbrev m : Migration
  m = migration_of is.table.schema is.new

  of : IsMigrationOf plan m is.table.rows
  of = migration plan is again runs serial

  at : Clustered is.table.schema
  at = clustered is.table.schema of.planned.old_key

  old_is : old_schema plan ≡ m.schema
  old_is = ap (λ (found : Option TableRows). unwrap_or (option_map (λ table. table.schema) found) no_schema) is.found

  applied_keyed : (row : List Value) → IsRow m.schema.columns row → 0 < length (key_of (key_places (old_schema plan)) row)
  applied_keyed row fits = rw (old_is) (row_keyed m.schema.columns row fits (key_places m.schema) of.planned.old_key.some of.planned.old_key.not_null)

  module _ (before : List Entry) (entry : Entry) (following : List Entry) (finish : IsFinish plan run (before ++ entry ∷ following)) (faithful : IsFaithful plan (run ++ (before ++ entry ∷ following))) where
    abbrev journal : List Entry
    journal = run ++ before

    all : IsFaithful plan (journal ++ entry ∷ following)
    all = subst (IsFaithful plan) (sym (append_assoc run before (entry ∷ following))) faithful

    taken : IsFinishTurn plan run journal entry
    unfolding IsFinish
    taken = along_next (IsFinishTurn plan run) run before entry following finish

    answered : IsAnswered (state_at plan journal) entry
    answered = along_next (λ some one. IsAnswered (state_at plan some) one) [] journal entry following all

    front : IsFaithful plan journal
    front = along_front (λ some one. IsAnswered (state_at plan some) one) [] journal (entry ∷ following) all

    begun : IsFinish plan run before
    unfolding IsFinish
    begun = along_front (IsFinishTurn plan run) run before (entry ∷ following) finish

    migrating : Migrates plan run
    migrating = migrates plan run has

    walks : Walks plan is at is.table.rows of run before
    walks =
        finish_walks plan is at is.table.rows of run before (unaltered_runs plan run runs serial kept off) kept begun front
        (finishes_start_right plan m at is.table.rows of tries plainly (own_table plan is) run migrating.work kept off migrating.phase short before front begun)

    known : IsKnown plan journal
    unfolding KeepsSessions
    known = all_known plan journal (served_along plan [] journal walks.is_run.faithful walks.is_run.seated)

    given : next plan journal (stage_behind plan run before) ≡ Some (entry.actor, entry.asked)
    given = ap (λ (some : List Entry). next plan journal (stage_behind plan run some)) (sym (drop-append_seam run before)) ∙ taken.given

    abbrev opened : State
    opened = opens entry (state_at plan journal)

    -- a call of it that brackets its statements isn't refused for a value
    bracket_heard : (request : Request) → IsBracket request → entry.asked ≡ Call request → NoValue entry.answer
    unfolding inner_answer
    bracket_heard request bracket called =
        subst NoValue
        (sym
        (answered.answer ∙ ap (λ (side : Option Side). heard side (given_at side entry.asked (serves opened entry.session entry.asked).answer)) taken.side
        ∙ ap (λ (asked : Asked). heard None (given_at None asked (serves opened entry.session asked).answer)) called))
        (bracket_called opened entry.session request bracket)

    -- the row of a statement fits the migrated table
    statement_fits : (copier : Copier) (applier : Applier) → IsApplierOf plan applier → StandsFor plan m at is.table.rows journal copier applier → (batch : Batch) (count : ℕ) (part : Part) → applier.step ≡ batches.Applying batch count part → IsRow m.schema.columns (row_done (doing_at journal applier applier.step))
    statement_fits copier applier its stands_for batch count part here =
        let some : SomeActorStates journal = some_actor_states journal known.sessions in
        statement_row m journal applier batch count part
        (next_statement m of.finds journal applier (its.table ∙ sym of.of.name) (its.schema ∙ sym of.of.new) (its.map ∙ sym of.of.columns) (stands_for some.copier some.applier some.actor_states).applier_knows batch count part here)

    applied_fits : (copier : Copier) (applier : Applier) → IsApplierOf plan applier → StandsFor plan m at is.table.rows journal copier applier → finishes.calls Apply (appliers.next journal applier) ≡ Some (entry.actor, entry.asked) → (NoValue entry.answer → ⊥) → IsRow m.schema.columns (row_done (doing_at journal applier applier.step))
    applied_fits copier applier its stands asks refused = by applier.step refl where
      asked : (step : ApplyStep) → applier.step ≡ step → entry.asked ≡ Call (appliers.call_at journal applier step)
      asked step here = its_request entry Apply (appliers.next journal applier) asks ∙ ap Call (next_at journal applier step here)

      by : (step : ApplyStep) → applier.step ≡ step → IsRow m.schema.columns (row_done (doing_at journal applier applier.step))
      by (batches.Applying batch count part) here = statement_fits copier applier its stands batch count part here
      by batches.Reading here = absurd (refused (bracket_heard _ tt (asked batches.Reading here)))
      by (batches.Beginning batch) here = absurd (refused (bracket_heard _ tt (asked (batches.Beginning batch) here)))
      by (batches.Committing batch) here = absurd (refused (bracket_heard _ tt (asked (batches.Committing batch) here)))

    turn_keyed : IsWellFormedDatabase (state_at plan journal).tables → (key row : List Value) (number place : ℕ) → entry.answer ≡ answers.Refused number (Some place) → row_at plan journal (stage_behind plan run before) key ≡ Some row → key_of (key_places (old_schema plan)) row ≡ key → 0 < length key
    unfolding next
    turn_keyed formed key row number place refused concerned keyed = by (stage_behind plan run before) walks.walks walks.away.knows given concerned where
      by : (stage : Stage) → WalksAt plan is at is.table.rows of journal stage → Knows plan journal stage → next plan journal stage ≡ Some (entry.actor, entry.asked) → row_at plan journal stage key ≡ Some row → 0 < length key
      by (Copying copier applier) walked knows asks found = found_keyed (find_table plan.table (state_at plan journal).tables) key row (formed.each plan.table) found
      by (Applying applier) walked knows asks found =
          let same : row_done (doing_at journal applier applier.step) ≡ row = cc in
          subst (λ (k : List Value). 0 < length k) (ap (key_of (key_places (old_schema plan))) same ∙ keyed)
          (applied_keyed (row_done (doing_at journal applier applier.step)) (applied_fits walked.0 applier knows walked.2 asks (λ none. subst NoValue refused none)))
      by stage walked knows asks found = absurd cc

  -- *The key of an unfit row has a value*
  pub behind_keyed : (turns : List Entry) → IsFinish plan run turns → IsFaithful plan (run ++ turns) → (turn : ℕ) (key : List Value) (column : List ℕ) (number : ℕ) → (unfit : IsUnfitBehind plan run turns turn key column number) → IsWellFormedDatabase (state_at plan (run ++ unfit.before)).tables → 0 < length key
  behind_keyed turns finish faithful turn key column number unfit formed =
      turn_keyed unfit.before unfit.entry unfit.following (subst (IsFinish plan run) unfit.turns_are finish) (subst (λ (t : List Entry). IsFaithful plan (run ++ t)) unfit.turns_are faithful) formed key unfit.row number unfit.place unfit.refused unfit.concerned unfit.keyed
