-- *Held back*: whom a replica that lags holds back. It holds the first events of the log, as many as it has taken over
-- (`Orders.antt` says how many those are after each turn).
-- (After gh-ost, "Throttle", which reads the log of a replica and throttles on its lag; the exact steps are this project's rule.)
use Rattle.std.specs.Prelude.{ℕ, ◌-◌, ◌==◌, nat_lt, Bool, false, ◌&&◌, not, if◌then◌else◌, List, [], ◌∷◌, length, drop, take, count_by, Option, Some}
use Rattle.base_values.specs.ToolNames.{log_name}
use Rattle.base_values.specs.declared.event.RowEvent.{RowEvent}
use Rattle.base_script.specs.declared.actor.Actor.{Actor}
use Rattle.base_script.specs.declared.actor.Actor.TheVariants.{Copy, Apply, Lock}
use Rattle.server_model.specs.declared.request.Request.TheVariants as requests
use Rattle.server_model.specs.declared.entry.Asked.{Asked}
use Rattle.server_model.specs.declared.entry.Asked.TheVariants.{Call}
use Rattle.server_model.specs.declared.entry.Entry.{Entry}
use Rattle.server_model.specs.States.{State, is_of, unread}
use Rattle.plan_data.specs.PlanData.{PlanData}
use Rattle.tool_program.specs.JournalWords.Journals.{state_at}
use Rattle.tool_program.specs.Programs.{given}

-- the two tables whose events the applier reads
abbrev pub read_tables : PlanData → List (List ℕ)
read_tables plan = plan.table ∷ log_name plan.table ∷ []

-- how many events of these tables stand from one place of a log to another
unfoldable pub events_between : List (List ℕ) → ℕ → ℕ → List RowEvent → ℕ
events_between tables from to log = count_by (is_of tables) (take (to - from) (drop from log))

-- *Lag*: how many events of the changelog the replica doesn't hold
abbrev pub lag : PlanData → State → ℕ → ℕ
lag plan state held = unread state held (log_name plan.table ∷ [])

-- the applier reads on only where the replica holds a whole batch from there, or all of the log
abbrev pub holds_read : PlanData → State → ℕ → ℕ → ℕ → Bool
holds_read plan state held position limit = not (held == length state.log) && nat_lt (events_between (read_tables plan) position held state.log) limit

abbrev pub lags : PlanData → State → ℕ → Bool
lags plan state held = nat_lt plan.options.max_lag (lag plan state held)

-- whether this is held back of this actor: the applier's read of the log; the copier's question where a chunk ends, and the
-- locker's making of the sentry, while the replica lags
abbrev pub holds_call : PlanData → State → ℕ → Actor → Option Asked → Bool
holds_call plan state held Apply (Some (Call (requests.ReadLog position limit tables))) = holds_read plan state held position limit
holds_call plan state held Copy (Some (Call (requests.ChunkEnd table low top size))) = lags plan state held
holds_call plan state held Lock (Some (Call (requests.Create schema))) = lags plan state held
holds_call plan state held actor asked = false

-- *Held back*, by a replica that holds so much
unfoldable pub is_held_back : PlanData → List Entry → ℕ → Actor → Bool
is_held_back plan journal held actor = if plan.options.replica_step == 0 then false else holds_call plan (state_at plan journal) held actor (given plan journal actor)
