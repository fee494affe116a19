-- The applying goes on: each call of the applier's is done, but what waits, a row that doesn't fit, and an UPDATE that another row's key
-- refuses.
use Rattle.proof_migration.proofs.ToolServes.{tool_serves}
use Rattle.std.proofs.Common.{◌≡◌, ◌≤◌, ℕ, ◌+◌, ◌*◌, Bool, true, false, not, List, [], ◌∷◌, ◌++◌, Option, Some, None, refl, sym, ap, ◌∙◌, subst, arith}
use Rattle.std.specs.List.{list_any, slice_get}
use Rattle.std.proofs.lemmas.Bool.{true≢false, false≢true}
use Rattle.std.proofs.lemmas.Option.{none-some}
use Rattle.base_script.specs.declared.actor.Actor.{Actor}
use Rattle.base_script.specs.declared.actor.Actor.TheVariants.{Apply}
use Rattle.base_script.specs.declared.actor.Side.{Side}
use Rattle.base_values.specs.Laws.{StoresAgain}
use Rattle.base_values.specs.ToolNames.{log_name}
use Rattle.base_values.specs.declared.event.RowEvent.{RowEvent}
use Rattle.table_store.specs.Databases.{Database, TableRows}
use Rattle.server_model.specs.Blockers.{blocker, need}
use Rattle.server_model.specs.EarlierAnswers.{events_in}
use Rattle.server_model.specs.Effects.{effect_unless, is_outside}
use Rattle.server_model.specs.Entries.{answer_at, is_client, is_command, is_cut, same_actor}
use Rattle.server_model.specs.Listings.{events_read}
use Rattle.server_model.specs.LockedRows.Databases.{IsWellFormedDatabase}
use Rattle.server_model.specs.Operations.{after_events}
use Rattle.server_model.specs.PlainServer.{called_unless, calls, does, done, did, serves}
use Rattle.server_model.specs.States.{State, is_in_transaction, is_of_tool, session_of, view, writes_of}
use Rattle.server_model.specs.declared.answer.Answer.{Answer}
use Rattle.server_model.specs.declared.answer.Answer.TheVariants as answers
use Rattle.server_model.specs.declared.entry.Asked.{Asked}
use Rattle.server_model.specs.declared.entry.Asked.TheVariants.{Call, Cut}
use Rattle.server_model.specs.declared.entry.Entry.{Entry}
use Rattle.server_model.specs.declared.request.Request.{Request}
use Rattle.server_model.specs.declared.request.Request.TheVariants as requests
use Rattle.plan_data.specs.PlanData.{PlanData}
use Rattle.tool_program.specs.JournalWords.Bounds.{measures}
use Rattle.tool_program.specs.JournalWords.Histories.{history, is_alter}
use Rattle.tool_program.specs.JournalWords.Journals.{opens, state_at}
use Rattle.tool_program.specs.EventApplier.Appliers.{Doing, Changing, call_at, in_part, planned}
use Rattle.tool_program.specs.EventApplier.Appliers as appliers
use Rattle.tool_program.specs.Programs.{apply_call, given, tool_asks, tool_call}
use Rattle.tool_program.specs.Tools.{Migrating, Work, is_reverting, moment}
use Rattle.tool_program.specs.declared.event_applier.applier.ApplyStep.{ApplyStep}
use Rattle.tool_program.specs.declared.event_applier.applier.ApplyStep.TheVariants.{Reading, Beginning, Applying, Committing}
use Rattle.tool_program.specs.declared.event_applier.applier.Batch.{Batch}
use Rattle.tool_program.specs.declared.event_applier.applier.Part.{Part}
use Rattle.tool_program.specs.declared.event_applier.applier.Part.TheVariants.{Whole, Removal, Return}
use Rattle.tool_program.proofs.OnlineCalls.Machines.{IsNamed, ToolPhaseIsNamed, named}
use Rattle.proof_journals.specs.Ghost.HeldKeys.{Clustered}
use Rattle.proof_journals.specs.Ghost.Rows.Moments.{Row}
use Rattle.proof_journals.specs.Ghost.Rows.Timelines.{Migration}
use Rattle.proof_journals.specs.Holdings.{Face, face_in, face_of}
use Rattle.proof_journals.specs.Machine.Machines.{ApplierStands, ToolPhaseStands, WorkStands}
use Rattle.proof_journals.specs.Machine.MigrationTables.{schema_of}
use Rattle.proof_journals.specs.Machine.Runnable.{IsRunnable}
use Rattle.proof_journals.specs.Machine.Standings.{IsAbout, Standing, answers_to, is_called, standing_of}
use Rattle.proof_journals.specs.Plans.{IsSerialPlan, limits_of, scene_of}
use Rattle.proof_journals.specs.Run.Kept.{IsKept}
use Rattle.proof_journals.specs.Scenes.{Stored}
use Rattle.proof_journals.specs.ServerTurns.Others.{DefinitionsAreDone, ExclusiveIsAlone}
use Rattle.proof_journals.proofs.Faces.{faces_opened, writes_face}
use Rattle.proof_journals.proofs.Ghost.Keys.{clustered}
use Rattle.proof_journals.proofs.Ghost.Fitting.{fitting_end, well_formed_events}
use Rattle.proof_journals.proofs.Ghost.Running.{any_kept}
use Rattle.proof_journals.proofs.Journals.{stored_opened}
use Rattle.proof_journals.proofs.Machine.Journals.{Asking, IsTogether, apply_called, applier_had, calls_so, polls_so}
use Rattle.proof_journals.proofs.Machine.Schemas.{schema_events}
use Rattle.proof_journals.proofs.Machine.Seated.{IsOpen, IsServed, is_open, own_fits, own_given, own_missed}
use Rattle.proof_journals.proofs.Sentry.Draining.{IsRead}
use Rattle.proof_journals.proofs.Sentry.Knowing.{Reads}
use Rattle.proof_migration.specs.CutOver.{JournalsAreTurned}
use Rattle.proof_migration.specs.Migration.Applier.ApplierPlace.{IsUpdate, PartKnows}
use Rattle.proof_migration.specs.Migration.Machines.{MigrationStands}
use Rattle.proof_migration.specs.Program.Turns.Goes.{Goes, machines_in}
use Rattle.proof_migration.specs.Migration.Planning.{migration_of}
use Rattle.proof_migration.specs.Program.Turns.Laws.{GoesSomehow, IsMigrationOf}
use Rattle.proof_migration.specs.ToolPhase.Runnable.{IsAlterable}
use Rattle.proof_migration.specs.ToolPhase.Unaltered.{IsUnaltered}
use Rattle.proof_migration.specs.ToolPhase.Waits.{WaitsAreReported}
use Rattle.proof_migration.proofs.Migration.Applier.Answers.{TableSeen}
use Rattle.proof_migration.proofs.Migration.Applier.Statements.{said}
use Rattle.proof_migration.proofs.Program.Follows.{migration, own_table}
use Rattle.proof_migration.proofs.Program.Starts.{followers_go}
use Rattle.proof_migration.proofs.Program.Hints.Courses.{applier_reads}
use Rattle.proof_migration.proofs.Program.Hints.Known.{hints_go}
use Rattle.proof_migration.proofs.Program.Hints.States.{BatchIs, HintsGo, batch_is}
use Rattle.proof_migration.proofs.Program.Turns.ActorStates.{SomeActorStates, some_actor_states}
use Rattle.proof_migration.proofs.Program.Turns.Asked.{gave}
use Rattle.proof_migration.proofs.Program.Turns.Follows.{kept_front}
use Rattle.proof_migration.proofs.Program.Turns.NextCalls.{ApplyAsks, apply_asked, apply_calls}
use Rattle.proof_migration.proofs.Migration.Applier.NextStatement.{NextStatement, next_statement}
use Rattle.proof_migration.proofs.ToolPhase.CopyAnswers.{not_outside}
use Rattle.proof_migration.proofs.ToolPhase.Hearing.{IsFoundBy, opened_tables, own_answer}
use Rattle.proof_migration.proofs.Unfit.Known.{IsKnownTurn, known_turn}
use Rattle.proof_migration.proofs.HeldNames.Holders.{IsHeldWell, all_held_well}
use Rattle.proof_bounds.specs.TaskTurns.Answers.{BatchAnswer, IsChange, IsClash, left_at}
use Rattle.proof_bounds.specs.TaskTurns.Batches.{BatchesGoOn, doings_at, statements_most}
use Rattle.proof_bounds.proofs.TaskTurns.BatchSteps.{PartFits, plans_of}
use Rattle.proof_bounds.proofs.TaskTurns.Growing.{unaltered_so}
use Rattle.proof_bounds.proofs.TaskTurns.OwnTurns.{own_asking}
use Rattle.proof_bounds.proofs.TaskTurns.ReadLogs.{ReadsSome, called_reads, planned_most, read_passes, reads_some}
use Rattle.proof_bounds.proofs.TaskTurns.Rested.{no_turns, reads_none}
use Rattle.proof_bounds.proofs.TaskTurns.StatementAnswers.{StatementAnswer, done_so, seen_so}

-- ANSWERS AT A STEP

begin_answered : (most : ℕ) (table : List ℕ) (log : List RowEvent) (position : ℕ) (plans : List RowEvent → List Doing) (doings : List Doing) (batch : Batch) (answer : Answer) → answers_to requests.Begin answer ≡ true → BatchAnswer most table log position plans doings (Beginning batch) answer
begin_answered most table log position plans doings batch (answers.Ok count) fits = tt
begin_answered most table log position plans doings batch answers.Lost fits = tt
begin_answered most table log position plans doings batch answer fits = absurd (false≢true fits)

commit_answered : (most : ℕ) (table : List ℕ) (log : List RowEvent) (position : ℕ) (plans : List RowEvent → List Doing) (doings : List Doing) (batch : Batch) (answer : Answer) → answers_to requests.Commit answer ≡ true → BatchAnswer most table log position plans doings (Committing batch) answer
commit_answered most table log position plans doings batch (answers.Ok count) fits = tt
commit_answered most table log position plans doings batch answers.Lost fits = tt
commit_answered most table log position plans doings batch answer fits = absurd (false≢true fits)

-- of the statement that comes next
statement_answered : (most : ℕ) (table : List ℕ) (log : List RowEvent) (position : ℕ) (plans : List RowEvent → List Doing) (doings : List Doing) (batch : Batch) (count : ℕ) (part : Part) (doing : Doing) (answer : Answer) → slice_get doings count ≡ Some doing → StatementAnswer part doing answer
    → BatchAnswer most table log position plans doings (Applying batch count part) answer
statement_answered most table log position plans doings batch count part doing (answers.Ok changed) there fits = tt
statement_answered most table log position plans doings batch count part doing (answers.Waits other) there fits = tt
statement_answered most table log position plans doings batch count part doing (answers.TimedOut waited) there fits = tt
statement_answered most table log position plans doings batch count part doing answers.Lost there fits = tt
statement_answered most table log position plans doings batch count part doing (answers.Refused number (Some place)) there fits = tt
statement_answered most table log position plans doings batch count part doing (answers.Refused number None) there fits = subst (λ (d : Option Doing). IsClash part d number) (sym there) fits
statement_answered most table log position plans doings batch count part doing answer there fits = absurd fits

-- the log's reading is no refusal
never_refused : (position limit : ℕ) (tables : List (List ℕ)) (log : List RowEvent) (number : ℕ) (column : Option ℕ) → events_read position limit tables log ≡ answers.Refused number column → ⊥
unfolding events_read
never_refused position limit tables log number column same = cc

-- what goes in parts is the UPDATE that comes first
is_change : (doing : Doing) (rest : List Doing) → IsUpdate (doing ∷ rest) → IsChange (Some doing)
is_change doing rest update = let same : doing ≡ Changing update.old update.new = first doing rest update.old update.new update.rest update.is in subst (λ (d : Doing). IsChange (Some d)) (sym same) tt where
  first : (doing : Doing) (rest : List Doing) (old new : Row) (more : List Doing) → doing ∷ rest ≡ Changing old new ∷ more → doing ≡ Changing old new
  first doing rest old new more same = cc

pub part_so : (part : Part) (doing : Doing) (rest : List Doing) → PartKnows part (doing ∷ rest) → PartFits part (Some doing)
part_so Whole doing rest knows = tt
part_so Removal doing rest knows = is_change doing rest knows
part_so Return doing rest knows = is_change doing rest knows

-- THE TURN

module _ (defined : DefinitionsAreDone) (plan : PlanData) (m : Migration) (at : Clustered m.schema) (rows : List Row) (of : IsMigrationOf plan m rows) (journal : List Entry) (entry : Entry) (kept_more : IsKept plan (journal ++ entry ∷ [])) (work : Work)
    (eq : (moment plan journal).tool.tool_phase ≡ Migrating work) (going : is_reverting (moment plan journal).tool.reason ≡ false) (off : IsUnaltered plan journal) (goes : Goes plan m at rows journal work) (who : entry.actor ≡ Apply) (called : is_command entry.asked ≡ false) (uncut : is_cut entry.asked ≡ false) where
  abbrev more : List Entry
  more = journal ++ entry ∷ []

  abbrev now : State
  now = state_at plan journal

  abbrev has : Actor → Standing
  has = standing_of plan journal

  abbrev log_now : List RowEvent
  log_now = (state_at plan more).log

  runs : IsRunnable plan
  runs = of.runs

  kept : IsKept plan journal
  kept = kept_front plan journal (entry ∷ []) kept_more

  turn : IsKnownTurn plan journal entry
  turn = known_turn plan runs journal entry kept_more

  together : IsTogether plan journal
  together = turn.together

  served : IsServed plan journal entry
  served = turn.served

  tool_now : is_of_tool (session_of entry.session (opens entry now).sessions) ≡ true
  tool_now = tool_serves plan journal entry kept together turn.run called (ap is_client who)

  off_more : IsUnaltered plan more
  off_more = unaltered_so defined plan journal entry runs of.serial kept_more off (λ ren. true≢false (sym (ap (λ (a : Actor). same_actor a Apply) who) ∙ ap (λ (a : Actor). same_actor a Apply) ren))

  hints : HintsGo plan journal
  hints = hints_go plan journal runs of.serial kept off

  names : IsNamed plan work
  names = subst (ToolPhaseIsNamed plan) eq (named plan journal)

  work_stands : WorkStands journal (is_reverting (moment plan journal).tool.reason) has work
  work_stands = subst (ToolPhaseStands journal has (is_reverting (moment plan journal).tool.reason)) eq together.stands

  stood : ApplierStands journal work.applier (has Apply)
  stood = applier_had plan journal entry together turn.run work work_stands going

  apply_given : given plan journal Apply ≡ tool_asks plan journal (moment plan journal) Apply
  unfolding given
  apply_given = refl

  asks : Asking plan journal Apply entry.asked
  asks = own_asking plan journal entry together turn.run Apply apply_given who uncut

  -- WHAT IS ASKED

  call_here : (request : Request) → tool_call plan (moment plan journal).server journal (moment plan journal).tool (moment plan journal).tool.tool_phase Apply ≡ Some request → apply_call plan (moment plan journal).server journal (moment plan journal).tool work ≡ Some request
  call_here = apply_calls plan journal work eq going

  apply_asks : ApplyAsks plan journal entry.asked work.applier
  apply_asks = apply_asked plan m at rows journal entry.asked together work eq going goes (gave plan of.serial runs.fitting journal entry turn.known turn.run off_more Apply who uncut)

  about_own : (request : Request) → IsAbout request (has Apply) entry.asked → IsAbout request (has entry.actor) entry.asked
  about_own request is_about = subst (λ (a : Actor). IsAbout request (has a) entry.asked) (sym who) is_about

  opened_one : IsOpen plan journal entry together.known served
  opened_one = is_open plan journal entry together.known served called

  unlocked : (request : Request) → is_outside (session_of entry.session (opens entry now).sessions) request ≡ false
  unlocked request = not_outside (session_of entry.session (opens entry now).sessions) request (ap (λ o. (face_in o).locked) opened_one.is ∙ ap (λ (s : Standing). s.locked) (sym opened_one.stands) ∙ ap (λ (a : Actor). (has a).locked) who ∙ stood.stands.locked)

  fits_so : (request : Request) → IsAbout request (has Apply) entry.asked → answers_to request entry.answer ≡ true
  fits_so request is_about = own_fits plan journal entry together.known served request (about_own request is_about)

  -- THE LOG IS READ

  module _ (reading : work.applier.step ≡ Reading) where
    abbrev request : Request
    request = requests.ReadLog work.applier.position work.applier.batch (plan.table ∷ log_name plan.table ∷ [])

    record Read : Type 0 where
      asked : entry.asked ≡ Call (requests.ReadLog work.applier.position work.applier.batch (plan.table ∷ log_name plan.table ∷ []))
      idle : (has Apply).waits ≡ None
      left : 1 ≤ left_at plan.table now.log work.applier.position

    read_so : Read
    unfolding appliers.next
    read_so = by asks where
      by : Asking plan journal Apply entry.asked → Read
      by (calls_so other asks_so idle call) = record {
        asked =
            asks_so ∙ ap Call (apply_called plan journal work other (call_here other call)) ∙ ap (λ (s : ApplyStep). Call (call_at journal work.applier s)) reading
            ∙ ap (λ (t : List ℕ). Call (requests.ReadLog work.applier.position work.applier.batch (t ∷ log_name t ∷ []))) names.applier;
        idle = idle;
        left = called_reads plan journal together work eq (ap appliers.is_reading reading) other (call_here other call);
      }
      by (polls_so other asks_so waits) = absurd (none-some other (sym (reads_none work.applier.step (has Apply).waits reading stood.stands.waits hints.names) ∙ waits))

    about_read : IsAbout request (has Apply) entry.asked
    about_read = is_called read_so.asked read_so.idle

    -- it is done at once, and isn't refused
    at_once : entry.side ≡ None → entry.answer ≡ events_read work.applier.position work.applier.batch (plan.table ∷ log_name plan.table ∷ []) now.log
    unfolding calls did
    at_once no_side = by (blocker (opens entry now) entry.session (need (opens entry now) entry.session request)) refl where
      answer_is : entry.answer ≡ (called_unless (blocker (opens entry now) entry.session (need (opens entry now) entry.session request)) (opens entry now) entry.session request).answer
      answer_is = sym (own_given plan journal entry together.known served no_side) ∙ ap (λ (a : Asked). (serves (opens entry now) entry.session a).answer) read_so.asked

      by : (blocked : Option ℕ) → blocker (opens entry now) entry.session (need (opens entry now) entry.session request) ≡ blocked → entry.answer ≡ events_read work.applier.position work.applier.batch (plan.table ∷ log_name plan.table ∷ []) now.log
      by (Some other) blocked = absurd (false≢true (sym (ap (answers_to request) (answer_is ∙ ap (λ (b : Option ℕ). (called_unless b (opens entry now) entry.session request).answer) blocked)) ∙ fits_so request about_read))
      by None free_now =
          answer_is ∙ ap (λ (b : Option ℕ). (called_unless b (opens entry now) entry.session request).answer) free_now
          ∙ ap (λ (b : Bool). (does (effect_unless b (is_in_transaction (session_of entry.session (opens entry now).sessions)) (view entry.session (opens entry now)) (opens entry now) request) (opens entry now) entry.session).answer) (unlocked request)
          ∙ ap (λ (s : Stored). events_read work.applier.position work.applier.batch (plan.table ∷ log_name plan.table ∷ []) s.log) (stored_opened (is_command entry.asked) (not (is_client entry.actor)) entry.session now)

    batch_so : work.applier.batch ≡ plan.options.dml_batch_size
    batch_so = subst (BatchIs plan) eq (batch_is plan journal)

    most_is : 3 * plan.options.dml_batch_size ≡ statements_most plan
    unfolding measures
    most_is = refl

    read_answered : (answer : Answer) → entry.answer ≡ answer → BatchAnswer (statements_most plan) plan.table log_now work.applier.position (plans_of work.applier) [] Reading answer
    read_answered (answers.Events read following) is = by entry.side refl where
      uncut_so : entry.asked ≡ Cut → ⊥
      uncut_so cut = true≢false (sym (ap is_cut cut) ∙ uncut)

      no_lost : answers.Lost ≡ answers.Events read following → ⊥
      no_lost same = cc

      heard : entry.side ≡ None → BatchAnswer (statements_most plan) plan.table log_now work.applier.position (plans_of work.applier) [] Reading (answers.Events read following)
      heard no_side = (
        read_passes plan.table log_now work.applier.position following read some.some is_read,
        let most = some.most in
            let all = planned_most work.applier read in
            let size = batch_so in
            let whole = most_is in
            omega (arith, most, all, size, whole),
      ) where
        sized : 1 ≤ work.applier.batch
        sized = let size = batch_so in let fits = runs.fitting.batch in omega (arith, size, fits)

        some : ReadsSome work.applier.batch read
        some = reads_some plan.table now.log work.applier.position work.applier.batch read following sized read_so.left (sym is ∙ at_once no_side)

        is_read : IsRead plan.table log_now work.applier.position read following
        is_read = subst (Reads plan.table log_now work.applier) is (applier_reads plan runs of.serial journal entry kept_more off_more hints work eq who uncut_so going)

      by : (side : Option Side) → entry.side ≡ side → BatchAnswer (statements_most plan) plan.table log_now work.applier.position (plans_of work.applier) [] Reading (answers.Events read following)
      by None no_side = heard no_side
      by (Some side) at_side = absurd (no_lost (sym (own_missed plan journal entry together.known served side at_side) ∙ is))
    read_answered answers.Lost is = tt
    read_answered (answers.TimedOut waited) is = tt
    read_answered (answers.Refused number column) is = absurd (by entry.side refl) where
      no_lost : answers.Lost ≡ answers.Refused number column → ⊥
      no_lost same = cc

      by : (side : Option Side) → entry.side ≡ side → ⊥
      by None no_side = never_refused work.applier.position work.applier.batch (plan.table ∷ log_name plan.table ∷ []) now.log number column (sym (at_once no_side) ∙ is)
      by (Some side) at_side = no_lost (sym (own_missed plan journal entry together.known served side at_side) ∙ is)
    read_answered answer is = absurd (false≢true (unfit answer is)) where
      unfit : (answer : Answer) → entry.answer ≡ answer → answers_to request answer ≡ true
      unfit answer is = ap (answers_to request) (sym is) ∙ fits_so request about_read

  -- A STATEMENT IS SAID

  module _ (batch : Batch) (count : ℕ) (part : Part) (here : work.applier.step ≡ Applying batch count part) where
    some : SomeActorStates journal
    some = some_actor_states journal together.known.sessions

    stands : MigrationStands m at rows (limits_of plan) (scene_of plan []) journal (machines_in work some.copier some.applier)
    stands = goes.stands some.copier some.applier some.actor_states

    ghost_now : schema_of m.new.name now.tables ≡ Some m.new
    ghost_now = any_kept (schema_of m.new.name now.tables ≡ Some m.new) m at rows some.copier some.applier _ (λ apply kept. ap (Rattle.std.specs.Option.option_map (λ (table : TableRows). table.schema)) kept.tool.kept.new) stands.tool.stands

    next_one : NextStatement m journal work.applier batch count part
    next_one = next_statement m of.finds journal work.applier (names.applier ∙ sym of.of.name) goes.schema goes.apply_map stands.applier_knows batch count part here

    parted : PartFits part (Some next_one.doing)
    parted = part_so part next_one.doing _ next_one.knows

    about_statement : IsAbout (requests.Do (said m.new m.columns (in_part part next_one.doing))) (has Apply) entry.asked
    about_statement = subst (λ (r : Request). IsAbout r (has Apply) entry.asked) (sym apply_asks.next ∙ next_one.asks) apply_asks.is_about

    -- the new table, as the session sees it
    well : IsHeldWell plan journal
    well = all_held_well plan journal runs of.serial kept

    abbrev own_writes : List RowEvent
    own_writes = (face_of now.sessions entry.session).hold.writes

    seen_is : view entry.session (opens entry now) ≡ after_events now.tables own_writes
    seen_is =
        ap (λ (d : Database). after_events d (writes_of (session_of entry.session (opens entry now).sessions))) (opened_tables plan journal entry)
        ∙ ap (after_events now.tables) (writes_face (session_of entry.session (opens entry now).sessions) ∙ ap (λ (f : Face). f.hold.writes) (faces_opened (is_command entry.asked) (not (is_client entry.actor)) entry.session entry.session now))

    well_seen : IsWellFormedDatabase (after_events now.tables own_writes)
    well_seen =
        well_formed_events now.tables own_writes well.serving.well_formed
        (fitting_end (face_of now.sessions entry.session).hold.names (face_of now.sessions entry.session).hold.locks own_writes now.tables well.serving.well_formed (well.serving.own entry.session).fitting)

    seen_table : TableSeen m (view entry.session (opens entry now))
    seen_table = subst (TableSeen m) (sym seen_is) (seen_so m (after_events now.tables own_writes) well_seen (schema_events m.new.name now.tables own_writes ∙ ghost_now))

    same_view : (found : State) → IsFoundBy found (opens entry now) → view entry.session found ≡ view entry.session (opens entry now)
    same_view found is = ap (λ tables. after_events tables (writes_of (session_of entry.session found.sessions))) is.tables ∙ ap (λ sessions. after_events (opens entry now).tables (writes_of (session_of entry.session sessions))) is.sessions

    said_so : StatementAnswer part next_one.doing entry.answer
    said_so =
        own_answer (StatementAnswer part next_one.doing) (record { waits = λ by. tt; timed = λ waited. tt; lost = tt }) plan journal entry together.known served (requests.Do (said m.new m.columns (in_part part next_one.doing))) (about_own (requests.Do (said m.new m.columns (in_part part next_one.doing))) about_statement)
        (λ found is. done_so m rows of.planned of.finds found entry.session (ap (λ sessions. is_of_tool (session_of entry.session sessions)) is.sessions ∙ tool_now) (subst (TableSeen m) (sym (same_view found is)) seen_table) part next_one.doing next_one.rows parted
        (ap (λ sessions. is_outside (session_of entry.session sessions) (requests.Do (said m.new m.columns (in_part part next_one.doing)))) is.sessions ∙ unlocked (requests.Do (said m.new m.columns (in_part part next_one.doing)))))

    applied : BatchAnswer (statements_most plan) plan.table log_now work.applier.position (plans_of work.applier) (planned work.applier (events_in (answer_at journal batch.read))) (Applying batch count part) entry.answer
    applied =
        statement_answered (statements_most plan) plan.table log_now work.applier.position (plans_of work.applier) (planned work.applier (events_in (answer_at journal batch.read))) batch count part next_one.doing entry.answer
        next_one.planned_so said_so

  answered_by : (step : ApplyStep) → work.applier.step ≡ step → BatchAnswer (statements_most plan) plan.table log_now work.applier.position (plans_of work.applier) (doings_at journal work.applier step) step entry.answer
  unfolding appliers.next
  answered_by Reading here = read_answered here entry.answer refl
  answered_by (Beginning batch) here =
      begin_answered (statements_most plan) plan.table log_now work.applier.position (plans_of work.applier) [] batch entry.answer
      (subst (λ (r : Request). answers_to r entry.answer ≡ true) (sym apply_asks.next ∙ ap (call_at journal work.applier) here) (fits_so apply_asks.request apply_asks.is_about))
  answered_by (Applying batch count part) here = applied batch count part here
  answered_by (Committing batch) here =
      commit_answered (statements_most plan) plan.table log_now work.applier.position (plans_of work.applier) [] batch entry.answer
      (subst (λ (r : Request). answers_to r entry.answer ≡ true) (sym apply_asks.next ∙ ap (call_at journal work.applier) here) (fits_so apply_asks.request apply_asks.is_about))

  pub answered_so : BatchAnswer (statements_most plan) plan.table log_now work.applier.position (plans_of work.applier) (doings_at journal work.applier work.applier.step) work.applier.step entry.answer
  answered_so = answered_by work.applier.step refl

-- ALL JOURNALS

-- what all of it rests on, of the server and of the program
pub record ServerLaws : Type 0 where
  pub again : StoresAgain
  pub alone : ExclusiveIsAlone
  pub defined : DefinitionsAreDone
  pub reported : WaitsAreReported
  pub turned : JournalsAreTurned

-- *The applying goes on*
pub batches_go : ServerLaws → (plan : PlanData) (alterable : IsAlterable plan) → IsRunnable plan → IsSerialPlan plan → BatchesGoOn plan
batches_go laws plan alterable runs serial journal entry kept_more = record { answered = answered; over = over } where
  of : IsMigrationOf plan (migration_of alterable.table.schema alterable.new) alterable.table.rows
  of = migration plan alterable laws.again runs serial

  kept : IsKept plan journal
  kept = kept_front plan journal (entry ∷ []) kept_more

  same_work : (one other : Work) → Migrating one ≡ Migrating other → one ≡ other
  same_work one other same = cc

  going_so : (work : Work) → (moment plan journal).tool.tool_phase ≡ Migrating work → is_reverting (moment plan journal).tool.reason ≡ false → IsUnaltered plan journal → Goes plan (migration_of alterable.table.schema alterable.new) (clustered alterable.table.schema of.planned.old_key) alterable.table.rows journal work
  going_so work eq going off = subst (Goes plan (migration_of alterable.table.schema alterable.new) (clustered alterable.table.schema of.planned.old_key) alterable.table.rows journal) (same_work somehow.work work (sym somehow.tool_phase ∙ eq)) somehow.goes where
    somehow : GoesSomehow plan (migration_of alterable.table.schema alterable.new) (clustered alterable.table.schema of.planned.old_key) alterable.table.rows journal
    somehow = followers_go plan (migration_of alterable.table.schema alterable.new) (clustered alterable.table.schema of.planned.old_key) alterable.table.rows of (own_table plan alterable) journal work kept off going eq

  answered : (work : Work) → (moment plan journal).tool.tool_phase ≡ Migrating work → is_reverting (moment plan journal).tool.reason ≡ false → IsUnaltered plan journal → entry.actor ≡ Apply → is_command entry.asked ≡ false → is_cut entry.asked ≡ false
      → BatchAnswer (statements_most plan) plan.table (state_at plan (journal ++ entry ∷ [])).log work.applier.position (λ read. planned work.applier read) (doings_at journal work.applier work.applier.step) work.applier.step entry.answer
  answered work eq going off who called uncut =
      answered_so laws.defined plan (migration_of alterable.table.schema alterable.new) (clustered alterable.table.schema of.planned.old_key) alterable.table.rows of journal entry kept_more work eq going off (going_so work eq going off) who called uncut

  over : (work : Work) → (moment plan journal).tool.tool_phase ≡ Migrating work → is_reverting (moment plan journal).tool.reason ≡ false → list_any is_alter (history plan journal) ≡ true → entry.actor ≡ Apply → is_command entry.asked ≡ false → is_cut entry.asked ≡ false → ⊥
  over work eq going done who called uncut = no_turns laws.alone laws.defined laws.reported laws.turned plan runs serial journal entry kept_more work eq going done who uncut
