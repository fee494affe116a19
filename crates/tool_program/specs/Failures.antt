-- *Causes*: what a verdict of revert names is in the journal, by the turn's entry and by how far the server and the tool were
-- before it.
use Rattle.std.specs.Prelude.{◌≡◌, ◌≢◌, ℕ, zero, suc, ◌+◌, ◌-◌, ◌<◌, ◌==◌, Bool, true, false, ◌||◌, ◌&&◌, List, [], ◌∷◌, take, length, filter, reverse, Option, Some, None, ◌⊎◌, AllPairs, Err}
use Rattle.std.specs.List.{slice_get, AllByRecursion}
use Rattle.base_values.specs.declared.value.Value.{Value}
use Rattle.base_values.specs.declared.unfit.Unfit.{Unfit}
use Rattle.base_values.specs.StoredValues.{error_number}
use Rattle.base_values.specs.GhoSchema.Rows.{key_of, key_places}
use Rattle.base_values.specs.RowConversion.ConvertedRows.{converted_row}
use Rattle.table_store.specs.Databases.{TableRows, find_table, row_at_key}
use Rattle.base_script.specs.declared.actor.Actor.{Actor}
use Rattle.base_script.specs.declared.actor.Actor.TheVariants.{Insp, Copy, Apply, Lock, Ren}
use Rattle.base_script.specs.declared.operator.OperatorWord.TheVariants.{Panic}
use Rattle.server_model.specs.declared.answer.Answer.TheVariants as answers
use Rattle.server_model.specs.declared.entry.Entry.{Entry}
use Rattle.server_model.specs.declared.entry.Asked.{Asked}
use Rattle.server_model.specs.declared.entry.Asked.TheVariants.{Call, Poll, Command, Cut}
use Rattle.server_model.specs.declared.outcome.Task.{Task}
use Rattle.server_model.specs.declared.outcome.Cause.{Cause}
use Rattle.server_model.specs.declared.outcome.Cause.TheVariants as causes
use Rattle.server_model.specs.declared.outcome.Task.TheVariants as tasks
use Rattle.server_model.specs.States.{has_work}
use Rattle.plan_data.specs.PlanData.{PlanData, old_schema, new_map}
use Rattle.tool_program.specs.EventApplier.Appliers as appliers
use Rattle.tool_program.specs.declared.cutover_core.cutover.Phase.{Phase}
use Rattle.tool_program.specs.declared.cutover_core.cutover.Phase.TheVariants.{Attempting}
use Rattle.tool_program.specs.declared.cutover_core.cutover.Drain.{Drain}
use Rattle.tool_program.specs.declared.cutover_core.cutover.Drain.TheVariants.{Turns}
use Rattle.tool_program.specs.CutoverCore.CutOvers.{drain_of, is_wait, may_succeed, is_resting}
use Rattle.tool_program.specs.Tools.{ToolPhase, SettingUp, Migrating, Moment, moment}
use Rattle.tool_program.specs.Verdicts.{new_column_name}

-- the actors whose calls the task consists of
abbrev pub is_actor_of : Task → Actor → Bool
is_actor_of tasks.Setup Insp = true
is_actor_of (tasks.Chunk number) Copy = true
is_actor_of (tasks.Batch position) Apply = true
is_actor_of tasks.CutOver Insp = true
is_actor_of tasks.CutOver Lock = true
is_actor_of tasks.CutOver Ren = true
is_actor_of task actor = false

-- an attempt that may yet succeed, or the one that this very turn of the locker's begins: while none stands the inspector writes
-- notes, which are no task
abbrev pub is_tried : Actor → Phase → Bool
is_tried Lock phase = may_succeed phase || is_resting phase
is_tried actor phase = may_succeed phase

-- the task is the one at hand: a chunk by its number, a batch by its position
abbrev pub is_at : Task → Actor → ToolPhase → Bool
is_at tasks.Setup actor (SettingUp setup tries) = true
is_at (tasks.Chunk number) actor (Migrating work) = work.copier.number == number
is_at (tasks.Batch position) actor (Migrating work) = work.applier.position == position
is_at tasks.CutOver actor (Migrating work) = is_tried actor work.cutover.phase
is_at task actor tool_phase = false

-- the turn's entry, and the moment before it
pub record IsTurn (plan : PlanData) (journal : List Entry) (turn : ℕ) (entry : Entry) (before : Moment) : Type 0 where
  pub from_one : 0 < turn
  pub stands : slice_get journal (turn - 1) ≡ Some entry
  pub moment : before ≡ moment plan (take (turn - 1) journal)

abbrev pub is_call : Asked → Bool
is_call (Call request) = true
is_call asked = false

abbrev pub is_poll : Asked → Bool
is_poll Poll = true
is_poll asked = false

-- this many polls answered Waits, and before them a call that was: read from the last entry back
unfoldable pub waited_for : ℕ → List Entry → Bool
waited_for polls [] = false
waited_for zero (entry ∷ earlier) = is_call entry.asked && is_wait entry.answer
waited_for (suc polls) (entry ∷ earlier) = is_poll entry.asked && is_wait entry.answer && waited_for polls earlier

-- *Waited*: the wait was over after as many polls as the plan lets the tool wait, and these are in the journal
pub record IsWaited (plan : PlanData) (journal : List Entry) (turn : ℕ) (entry : Entry) : Type 0 where
  pub over : entry.answer ≡ answers.TimedOut plan.options.tool_wait
  pub polls : waited_for (plan.options.tool_wait - 1) (reverse (filter (λ other. other.session == entry.session) (take (turn - 1) journal))) ≡ true

-- *Lost*: the call was lost, or its session between calls, where that had an open transaction, a table lock or a wait
pub record IsLost (entry : Entry) (before : Moment) : Type 0 where
  pub lost : entry.answer ≡ answers.Lost
  pub work : entry.asked ≡ Cut → has_work before.server entry.session ≡ true

abbrev pub turns_of : Option Drain → Option ℕ
turns_of (Some (Turns turns)) = Some turns
turns_of drain = None

abbrev pub turns_in : Phase → Option ℕ
turns_in (Attempting stage) = turns_of (drain_of stage)
turns_in phase = None

abbrev pub drained_for : ToolPhase → Option ℕ
drained_for (SettingUp setup tries) = None
drained_for (Migrating work) = turns_in work.cutover.phase

-- the attempt whose hint row the applier's position has passed last, and how many attempts were begun
abbrev pub has_passed : ToolPhase → Bool
has_passed (SettingUp setup tries) = false
has_passed (Migrating work) = work.applier.hint == work.cutover.attempts

-- *Undrained*: it is the applier's `drain_limit`-th turn since the hint row was written, and after it the applier's position
-- hasn't passed the hint
pub record IsUndrained (plan : PlanData) (journal : List Entry) (turn : ℕ) (entry : Entry) (before : Moment) : Type 0 where
  pub actor : entry.actor ≡ Apply
  pub called : entry.asked ≢ Cut
  pub turns : ℕ
  pub drained : drained_for before.tool.tool_phase ≡ Some turns
  pub last : turns + 1 ≡ plan.options.drain_limit
  pub following : has_passed (moment plan (take turn journal)).tool.tool_phase ≡ false

abbrev pub IsBad : PlanData → List Entry → ℕ → Entry → Moment → Type 0
IsBad plan journal turn entry before = IsLost entry before ⊎ IsWaited plan journal turn entry

-- a failed try of the task in this turn
pub record IsFailedTry (plan : PlanData) (journal : List Entry) (task : Task) (turn : ℕ) : Type 0 where
  pub entry : Entry
  pub before : Moment
  pub is : IsTurn plan journal turn entry before
  pub at : is_at task entry.actor before.tool.tool_phase ≡ true
  pub why : ((is_actor_of task entry.actor ≡ true) × IsBad plan journal turn entry before) ⊎ ((task ≡ tasks.CutOver) × IsUndrained plan journal turn entry before)

-- *Panic*: it was commanded in this turn
pub record IsPanic (plan : PlanData) (journal : List Entry) (turn : ℕ) : Type 0 where
  pub entry : Entry
  pub before : Moment
  pub is : IsTurn plan journal turn entry before
  pub asked : entry.asked ≡ Command Panic

-- *Spent*: as many failed tries of one task as the plan allows, in rising order
pub record IsSpent (plan : PlanData) (journal : List Entry) (task : Task) (turns : List ℕ) : Type 0 where
  pub each : AllByRecursion (IsFailedTry plan journal task) turns
  pub rises : AllPairs (λ a b. a < b) turns
  pub all : length turns ≡ plan.options.default_retries

-- the row concerned: of the copier that of this key in the table as it is, of the applier that after the change in the
-- event that is applied
abbrev pub row_in : Option TableRows → List Value → Option (List Value)
row_in None key = None
row_in (Some table) key = row_at_key table key

abbrev pub applied_row : List Entry → ToolPhase → Option (List Value)
applied_row journal (SettingUp setup tries) = None
applied_row journal (Migrating work) = Some (appliers.row_done (appliers.doing_at journal work.applier work.applier.step))

abbrev pub concerned : PlanData → List Entry → Moment → Actor → List Value → Option (List Value)
concerned plan earlier before Copy key = row_in (find_table plan.table before.server.tables) key
concerned plan earlier before Apply key = applied_row earlier before.tool.tool_phase
concerned plan earlier before actor key = None

-- *Unfit*: in this turn a value was refused with this number for this column, and the row of this key can't be converted there
pub record IsUnfit (plan : PlanData) (journal : List Entry) (turn : ℕ) (key : List Value) (column : List ℕ) (number : ℕ) : Type 0 where
  pub entry : Entry
  pub before : Moment
  pub is : IsTurn plan journal turn entry before
  pub place : ℕ
  pub refused : entry.answer ≡ answers.Refused number (Some place)
  pub name : new_column_name plan place ≡ column
  pub row : List Value
  pub concerned : concerned plan (take (turn - 1) journal) before entry.actor key ≡ Some row
  pub keyed : key_of (key_places (old_schema plan)) row ≡ key
  pub unfit : Unfit
  pub refuses : converted_row (new_map plan) row ≡ Err (record { column = place; unfit = unfit })
  pub numbered : error_number unfit ≡ number

-- *Cause*: it is in the journal
unfoldable pub Stands : PlanData → List Entry → Cause → Type 0
Stands plan journal (causes.Unfit turn key column number) = IsUnfit plan journal turn key column number
Stands plan journal (causes.Spent task turns) = IsSpent plan journal task turns
Stands plan journal (causes.Panic turn) = IsPanic plan journal turn
