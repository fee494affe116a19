-- What holds of runs with a lagging replica.
use Rattle.std.specs.Prelude.{◌≡◌, ◌≤◌, ◌<◌, ℕ, true, false, List, [], ◌∷◌, ◌++◌, length, Some}
use Rattle.std.specs.List.{list_any}
use Rattle.base_values.specs.declared.value.Value.{Value}
use Rattle.base_values.specs.declared.span.Bound.{Bound}
use Rattle.base_values.specs.declared.gho_schema.schema.Schema.{Schema}
use Rattle.base_values.specs.declared.event.RowEvent.{RowEvent}
use Rattle.base_script.specs.declared.actor.Actor.{Actor}
use Rattle.base_script.specs.declared.actor.Actor.TheVariants.{Copy, Apply, Lock}
use Rattle.server_model.specs.Along.{Along}
use Rattle.server_model.specs.declared.answer.Answer.TheVariants as answers
use Rattle.server_model.specs.declared.request.Request.TheVariants as requests
use Rattle.server_model.specs.declared.entry.Asked.TheVariants.{Call, Poll}
use Rattle.server_model.specs.declared.entry.Entry.{Entry}
use Rattle.server_model.specs.Entries.{is_cut}
use Rattle.server_model.specs.Listings.{events_read}
use Rattle.plan_data.specs.PlanData.{PlanData}
use Rattle.tool_program.specs.Feeds.{lag}
use Rattle.tool_program.specs.JournalWords.Journals.{state_at}
use Rattle.tool_program.specs.Orders.{actors, is_ready, may_go, next_actor, replica_length, ReplayOrder, RunOrder, WorkerTurn}
use Rattle.tool_program.specs.Programs.{given, Follows}

-- *Never ahead*: the replica holds no more than the log has, where the log only grows
abbrev pub FeedsAreBounded : Type 0
FeedsAreBounded =
    (plan : PlanData) (journal : List Entry) → Along (λ before entry. length (state_at plan before).log ≤ length (state_at plan (before ++ entry ∷ [])).log) [] journal → replica_length plan journal ≤ length (state_at plan journal).log

-- *Without a replica* nobody is held back: who may go is who is ready
abbrev pub NobodyIsHeldWithout : Type 0
NobodyIsHeldWithout = (plan : PlanData) (journal : List Entry) (actor : Actor) → plan.options.replica_step ≡ 0 → may_go plan journal actor ≡ is_ready plan journal actor

-- *Someone may go* where someone is ready
abbrev pub SomeoneMayGo : Type 0
SomeoneMayGo = (plan : PlanData) (journal : List Entry) → list_any (is_ready plan journal) (actors plan) ≡ true → list_any (may_go plan journal) (actors plan) ≡ true

-- *Ready runs go on*: where some actor is ready, a replay has a next one.
abbrev pub ReadyRunsGoOn : Type 0
ReadyRunsGoOn = (plan : PlanData) (journal : List Entry) → list_any (is_ready plan journal) (actors plan) ≡ true → (actor : Actor) × (next_actor plan journal ≡ Some actor)

-- *Who waits may go*: no poll is held back, so the limits of waits run all the same
abbrev pub WaitingActorsMayGo : Type 0
WaitingActorsMayGo = (plan : PlanData) (journal : List Entry) (actor : Actor) → given plan journal actor ≡ Some Poll → may_go plan journal actor ≡ true

-- what the log answers to the applier's read ends at or before what the replica holds
pub record ReadsWithin (plan : PlanData) (journal : List Entry) (position limit : ℕ) (tables : List (List ℕ)) : Type 0 where
  pub events : List RowEvent
  pub next : ℕ
  pub reported : events_read position limit tables (state_at plan journal).log ≡ answers.Events events next
  pub within : next ≤ replica_length plan journal

-- *Reads stay behind*: where the applier may go and its call is a read of the log, what the log then answers ends at or before what
-- the replica holds
abbrev pub ReadsStayBehind : Type 0
ReadsStayBehind =
    (plan : PlanData) (journal : List Entry) (position limit : ℕ) (tables : List (List ℕ)) → 0 < plan.options.replica_step → given plan journal Apply ≡ Some (Call (requests.ReadLog position limit tables)) → may_go plan journal Apply ≡ true → ReadsWithin plan journal position limit tables

-- *The lag is small* where the copier, or the locker, may go and begins a chunk, or an attempt
abbrev pub LagIsSmall : Type 0
LagIsSmall =
    (plan : PlanData) (journal : List Entry) → 0 < plan.options.replica_step
    → ((table : List ℕ) (low : Bound) (top : List Value) (size : ℕ) → given plan journal Copy ≡ Some (Call (requests.ChunkEnd table low top size)) → may_go plan journal Copy ≡ true → lag plan (state_at plan journal) (replica_length plan journal) ≤ plan.options.max_lag)
    × ((schema : Schema) → given plan journal Lock ≡ Some (Call (requests.Create schema)) → may_go plan journal Lock ≡ true → lag plan (state_at plan journal) (replica_length plan journal) ≤ plan.options.max_lag)

-- what a turn keeps of a replica that lags: a read of the log ends at or before what the replica holds, and where a chunk begins, or
-- an attempt, the lag is at most the plan's
pub record KeepsBehind (plan : PlanData) (before : List Entry) (entry : Entry) : Type 0 where
  pub reads : (position limit : ℕ) (tables : List (List ℕ)) → entry.actor ≡ Apply → entry.asked ≡ Call (requests.ReadLog position limit tables) → ReadsWithin plan before position limit tables
  pub chunks : (table : List ℕ) (low : Bound) (top : List Value) (size : ℕ) → entry.actor ≡ Copy → entry.asked ≡ Call (requests.ChunkEnd table low top size) → lag plan (state_at plan before) (replica_length plan before) ≤ plan.options.max_lag
  pub attempts : (schema : Schema) → entry.actor ≡ Lock → entry.asked ≡ Call (requests.Create schema) → lag plan (state_at plan before) (replica_length plan before) ≤ plan.options.max_lag

-- *Stays behind its replica*, where the plan has one: each turn keeps to it
abbrev pub StaysBehind : PlanData → List Entry → Type 0
StaysBehind plan journal = 0 < plan.options.replica_step → Along (KeepsBehind plan) [] journal

-- *Turns may go*: each turn but a loss between calls is of an actor that may go
abbrev pub TurnsMayGo : PlanData → List Entry → Type 0
TurnsMayGo plan journal = Along (λ before entry. is_cut entry.asked ≡ false → may_go plan before entry.actor ≡ true) [] journal

-- so it is of replays, and of runs by workers
abbrev pub ReplayTurnsMayGo : Type 0
ReplayTurnsMayGo = (plan : PlanData) (journal : List Entry) → ReplayOrder plan journal → TurnsMayGo plan journal

abbrev pub RunTurnsMayGo : Type 0
RunTurnsMayGo = (plan : PlanData) (journal : List Entry) (turns : List WorkerTurn) (count : ℕ) → RunOrder plan journal turns count → TurnsMayGo plan journal

-- *Turns that may go stay behind* the replica
abbrev pub TurnsStayBehind : Type 0
TurnsStayBehind = (plan : PlanData) (journal : List Entry) → Follows plan journal → TurnsMayGo plan journal → StaysBehind plan journal
