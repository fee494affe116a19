-- What the program asks is well formed: names are names of tables, schemas are lawful, and batches aren't empty.
use Rattle.std.proofs.Common.{◌≡◌, ◌≤◌, ℕ, ◌==◌, Bool, true, false, cond, List, Option, Some, None, refl, sym, ◌∙◌, subst, arith}
use Rattle.base_script.specs.declared.script.ScriptWord.{ScriptWord}
use Rattle.base_script.specs.declared.script.ScriptWord.TheVariants as words
use Rattle.base_values.specs.GhoSchema.ClusteredKey.{clustered_among}
use Rattle.base_values.specs.GhoSchema.Names.{same_name}
use Rattle.table_store.specs.Databases.{Database}
use Rattle.base_values.specs.SchemaRules.Valid.{IsValid}
use Rattle.base_values.specs.SchemaRules.Names.{is_among, differ_from}
use Rattle.server_model.specs.Conditions.{IsTableName, IsNewSchema, IsWellFormed}
use Rattle.server_model.specs.declared.answer.Answer.{Answer}
use Rattle.server_model.specs.declared.answer.Answer.TheVariants as answers
use Rattle.server_model.specs.declared.entry.Entry.{Entry}
use Rattle.server_model.specs.declared.request.Request.{Request}
use Rattle.server_model.specs.declared.request.Request.TheVariants as requests
use Rattle.plan_data.specs.PlanData.{PlanData}
use Rattle.base_values.specs.ToolNames.{log_name, old_name}
use Rattle.tool_changelog.specs.ToolTables.{log_schema, sentry_schema}
use Rattle.tool_program.specs.JournalWords.Clients.{word_asks}
use Rattle.tool_program.specs.declared.chunk_copier.copier.CopyStep.{CopyStep}
use Rattle.tool_program.specs.declared.chunk_copier.copier.CopyStep.TheVariants as copying
use Rattle.tool_program.specs.declared.event_applier.applier.Applier.{Applier}
use Rattle.tool_program.specs.declared.event_applier.applier.ApplyStep.{ApplyStep}
use Rattle.tool_program.specs.declared.event_applier.applier.ApplyStep.TheVariants as applying
use Rattle.tool_program.specs.declared.event_applier.applier.Batch.{Batch}
use Rattle.tool_program.specs.EventApplier.Appliers as appliers
use Rattle.tool_program.specs.EventApplier.Appliers.{Doing, statement_result, doing_at}
use Rattle.tool_program.specs.declared.cutover_core.cutover.Clearing.{Clearing as Cleared}
use Rattle.tool_program.specs.declared.cutover_core.cutover.Clearing.TheVariants.{Looking, Drops}
use Rattle.tool_program.specs.declared.cutover_core.cutover.CutOver.{CutOver}
use Rattle.tool_program.specs.declared.cutover_core.cutover.Hold.{Hold}
use Rattle.tool_program.specs.declared.cutover_core.cutover.Hold.TheVariants.{Nothing, WaitsToGuard, WaitsToLock, Locks}
use Rattle.tool_program.specs.declared.cutover_core.cutover.Phase.{Phase}
use Rattle.tool_program.specs.declared.cutover_core.cutover.Phase.TheVariants.{Resting, Attempting, Ending, Finishing, Finished}
use Rattle.tool_program.specs.declared.cutover_core.cutover.Role.TheVariants.{Inspector, Locker}
use Rattle.tool_program.specs.declared.cutover_core.cutover.Stage.TheVariants.{Locking, Hinting, ReadingCounter, SettingCounter, Showing, Dropping, Unlocking}
use Rattle.tool_program.specs.CutoverCore.Attempts as cutovers
use Rattle.tool_program.specs.CutoverCore.Attempts.{exchange, clears, is_free, unlocks}
use Rattle.tool_program.specs.Setups.{Setup, Listing, Clearing, MakingLog, MakingGhost, Marking, Reaching, Ready, setup_call}
use Rattle.tool_program.specs.Tools.{ToolPhase, SettingUp, Migrating, stopped, moment}
use Rattle.tool_program.proofs.OnlineCalls.Keeping.{Keeps, always}
use Rattle.proof_journals.specs.Machine.FormedPlans.{IsFitting}
use Rattle.proof_journals.specs.Machine.Laws.{has_keys}
use Rattle.proof_journals.specs.Machine.Machines.{copier_asks}
use Rattle.proof_journals.proofs.Machine.Asking.{some_request, unless_called}

-- THE TOOL'S OWN TABLES

log_valid : (table : List ℕ) → IsValid (log_schema table)
unfolding log_schema clustered_among differ_from is_among same_name
log_valid table = record {
  some = omega arith;
  few = omega arith;
  names = refl;
  columns = (record { kind = refl; default = tt }, (record { kind = refl; default = tt }, (record { kind = refl; default = tt }, tt)));
  uniques = (record { some = omega arith; within = (omega arith, tt) }, tt);
  indexes = tt;
  clustered = refl;
}

sentry_valid : (table : List ℕ) → IsValid (sentry_schema table)
unfolding sentry_schema clustered_among differ_from is_among same_name
sentry_valid table = record {
  some = omega arith;
  few = omega arith;
  names = refl;
  columns = (record { kind = refl; default = tt }, tt);
  uniques = (record { some = omega arith; within = (omega arith, tt) }, tt);
  indexes = tt;
  clustered = refl;
}

log_new : (table : List ℕ) → IsTableName (log_name table) → IsNewSchema (log_schema table)
unfolding log_schema
log_new table named = record { named = named; valid = log_valid table }

sentry_new : (table : List ℕ) → IsTableName (old_name table) → IsNewSchema (sentry_schema table)
unfolding sentry_schema
sentry_new table named = record { named = named; valid = sentry_valid table }

-- THE INSPECTOR

setup_in : (plan : PlanData) (tables : Database) (setup : Setup) (request : Request) → IsFitting plan → setup_call plan setup ≡ Some request → IsWellFormed tables request
setup_in plan tables Listing request fit is = some_request (IsWellFormed tables) _ request is tt
setup_in plan tables (Clearing left) request fit is = some_request (IsWellFormed tables) _ request is tt
setup_in plan tables MakingLog request fit is = some_request (IsWellFormed tables) _ request is (log_new plan.table fit.names.1.1.0)
setup_in plan tables MakingGhost request fit is =
    some_request (IsWellFormed tables) _ request is
    (record { named = fit.names.1.0; valid = record { some = fit.valid.some; few = fit.valid.few; names = fit.valid.names; columns = fit.valid.columns; uniques = fit.valid.uniques; indexes = fit.valid.indexes; clustered = fit.valid.clustered } })
setup_in plan tables Marking request fit is = some_request (IsWellFormed tables) _ request is tt
setup_in plan tables (Reaching position) request fit is = some_request (IsWellFormed tables) _ request is tt
setup_in plan tables (Ready position range) request fit is = absurd cc

pub setup_formed : (plan : PlanData) (tables : Database) (reverting : Bool) (setup : Setup) (request : Request) → IsFitting plan → cond reverting None (setup_call plan setup) ≡ Some request → IsWellFormed tables request
setup_formed plan tables reverting setup request fit is = setup_in plan tables setup request fit (unless_called reverting (setup_call plan setup) request is)

clears_formed : (tables : Database) (table : List ℕ) (clearing : Cleared) (request : Request) → clears table clearing ≡ Some request → IsWellFormed tables request
clears_formed tables table Looking request is = some_request (IsWellFormed tables) _ request is tt
clears_formed tables table (Drops left) request is = some_request (IsWellFormed tables) _ request is tt

pub inspector_formed : (tables : Database) (cutover : CutOver) (request : Request) → cutovers.next Inspector cutover ≡ Some request → IsWellFormed tables request
unfolding cutovers.next
inspector_formed tables cutover request is = by cutover.phase is where
  by : (phase : Phase) → cutovers.inspector_call cutover phase ≡ Some request → IsWellFormed tables request
  by (Attempting Hinting) is = some_request (IsWellFormed tables) _ request is tt
  by (Attempting (ReadingCounter drain)) is = some_request (IsWellFormed tables) _ request is tt
  by (Attempting (SettingCounter number drain)) is = some_request (IsWellFormed tables) _ request is tt
  by (Attempting Showing) is = some_request (IsWellFormed tables) _ request is tt
  by (Attempting stage) is = absurd cc
  by (Ending clearing) is = clears_formed tables cutover.table clearing request (at (is_free cutover.hold cutover.renamer_waits) is) where
    at : (b : Bool) → cond b (clears cutover.table clearing) None ≡ Some request → clears cutover.table clearing ≡ Some request
    at true is = is
    at false is = absurd cc
  by (Finishing clearing) is = clears_formed tables cutover.table clearing request is
  by Resting is = absurd cc
  by Finished is = absurd cc

-- THE LOCKER AND THE RENAMER

pub locker_formed : (plan : PlanData) (tables : Database) (cutover : CutOver) (request : Request) → IsFitting plan → cutover.table ≡ plan.table → cutovers.next Locker cutover ≡ Some request → IsWellFormed tables request
unfolding cutovers.next
locker_formed plan tables cutover request fit same is = by cutover.phase is where
  sentry : IsWellFormed tables (requests.Create (sentry_schema cutover.table))
  sentry = sentry_new cutover.table (subst (λ (t : List ℕ). IsTableName (old_name t)) (sym same) fit.names.1.1.1.0)

  frees : (hold : Hold) → unlocks hold ≡ Some request → IsWellFormed tables request
  frees Locks is = some_request (IsWellFormed tables) _ request is tt
  frees Nothing is = absurd cc
  frees WaitsToGuard is = absurd cc
  frees WaitsToLock is = absurd cc

  by : (phase : Phase) → cutovers.locker_call cutover phase ≡ Some request → IsWellFormed tables request
  by Resting is = some_request (IsWellFormed tables) _ request (unless_called cutover.is_stopped (Some (requests.Create (sentry_schema cutover.table))) request is) sentry
  by (Attempting Locking) is = some_request (IsWellFormed tables) _ request is tt
  by (Attempting Dropping) is = some_request (IsWellFormed tables) _ request is tt
  by (Attempting Unlocking) is = some_request (IsWellFormed tables) _ request is tt
  by (Attempting stage) is = absurd cc
  by (Ending clearing) is = frees cutover.hold is
  by (Finishing clearing) is = absurd cc
  by Finished is = absurd cc

pub exchange_formed : (plan : PlanData) (tables : Database) (table : List ℕ) → IsFitting plan → table ≡ plan.table → IsWellFormed tables (exchange table)
exchange_formed plan tables table fit same = subst (λ (t : List ℕ). IsWellFormed tables (exchange t)) (sym same) (fit.names.1.1.1.0, (fit.names.0, tt))

-- THE APPLIER

abbrev pub ToolPhaseBatched : PlanData → ToolPhase → Type 0
ToolPhaseBatched plan (SettingUp setup tries) = Unit {0}
ToolPhaseBatched plan (Migrating work) = work.applier.batch ≡ plan.options.dml_batch_size

pub read_batch_same : (applier : Applier) (batch : Batch) → (appliers.read_batch applier batch).batch ≡ applier.batch
read_batch_same applier batch = by (batch.statements == 0) where
  by : (none : Bool) → (cond none (appliers.moved applier batch) (record applier { step = applying.Beginning batch })).batch ≡ applier.batch
  by true = refl
  by false = refl

pub took_at : (turn : ℕ) (applier : Applier) (step : ApplyStep) (answer : Answer) → (appliers.after_answer turn applier step answer).batch ≡ applier.batch
took_at turn applier applying.Reading (answers.Events events next) = read_batch_same applier (appliers.batch_of turn applier events next)
took_at turn applier (applying.Beginning batch) (answers.Ok count) = refl
took_at turn applier (applying.Applying batch done part) (answers.Ok count) = refl
took_at turn applier (applying.Applying batch done part) (answers.Refused number column) = refl
took_at turn applier (applying.Committing batch) (answers.Ok count) = refl
took_at turn applier step answer = refl

pub took_batch : (turn : ℕ) (applier : Applier) (answer : Answer) → (appliers.took turn applier answer).batch ≡ applier.batch
unfolding appliers.took
took_batch turn applier answers.Lost = refl
took_batch turn applier (answers.TimedOut waited) = refl
took_batch turn applier answer = took_at turn applier applier.step answer

batched_stops : (plan : PlanData) (tool_phase : ToolPhase) → ToolPhaseBatched plan tool_phase → ToolPhaseBatched plan (stopped tool_phase)
batched_stops plan (SettingUp setup tries) at = tt
batched_stops plan (Migrating work) at = at

batched_keeps : (plan : PlanData) → Keeps plan (ToolPhaseBatched plan)
batched_keeps plan = record {
  stops = batched_stops plan;
  sets = λ setup tries. tt;
  begins = λ size position range. refl;
  copies = λ turn answer work tries at. at;
  applies = λ turn answer work tries at. took_batch turn work.applier answer ∙ at;
  cuts = λ role answer work tries at. at;
  drained = λ work tries at. at;
  resized = λ size work at. at;
}

pub batched : (plan : PlanData) (journal : List Entry) → ToolPhaseBatched plan (moment plan journal).tool.tool_phase
batched plan journal = always plan (ToolPhaseBatched plan) (batched_keeps plan) journal

pub applier_formed : (plan : PlanData) (tables : Database) (journal : List Entry) (applier : Applier) (step : ApplyStep) → IsFitting plan → applier.batch ≡ plan.options.dml_batch_size → IsWellFormed tables (appliers.call_at journal applier step)
applier_formed plan tables journal applier applying.Reading fit same = subst (λ (n : ℕ). 1 ≤ n) (sym same) fit.batch
applier_formed plan tables journal applier (applying.Beginning batch) fit same = tt
applier_formed plan tables journal applier (applying.Applying batch done part) fit same = at (doing_at journal applier (applying.Applying batch done part)) where
  at : (doing : Option Doing) → IsWellFormed tables (statement_result applier doing)
  at None = tt
  at (Some doing) = tt
applier_formed plan tables journal applier (applying.Committing batch) fit same = tt

pub next_call : (journal : List Entry) (applier : Applier) → appliers.next journal applier ≡ appliers.call_at journal applier applier.step
unfolding appliers.next
next_call journal applier = refl

-- THE OTHERS

pub copier_formed : (tables : Database) (step : CopyStep) (request : Request) → copier_asks step request ≡ true → (has_keys request ≡ true → IsWellFormed tables request) → IsWellFormed tables request
copier_formed tables (copying.Committing chunk) requests.Commit kind keyed = tt
copier_formed tables copying.Choosing (requests.ChunkEnd table low top size) kind keyed = keyed refl
copier_formed tables (copying.Spanning reported most) (requests.BeginSpan table span size) kind keyed = keyed refl
copier_formed tables (copying.Copying chunk copied) (requests.CopyRow from into map key) kind keyed = keyed refl
copier_formed tables step request kind keyed = absurd cc

pub word_formed : (tables : Database) (word : ScriptWord) → IsWellFormed tables (word_asks word)
word_formed tables words.Begin = tt
word_formed tables words.Commit = tt
word_formed tables words.Rollback = tt
word_formed tables (words.Do statement) = tt
