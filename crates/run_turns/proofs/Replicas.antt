-- What a replica holds of the log, and whom it holds back, as the code counts it.
use Rattle.std.proofs.Common.{◌≡◌, ◌≤◌, ℕ, ◌+◌, ◌-◌, Bool, true, false, cond, List, drop, take, length, Option, Some, None, refl, sym, ap, ◌∙◌, arith}
use Rattle.std.specs.Prelude.{◌==◌, is_some, max, count_by}
use Rattle.std.specs.Option.{option_map}
use Rattle.std.proofs.lemmas.List.{drop-drop}
use Rattle.std.proofs.lemmas.List.Sums.{sum_by-take-drop}
use Rattle.base_values.specs.declared.event.RowEvent.{RowEvent}
use Rattle.base_script.specs.declared.actor.Actor.{Actor}
use Rattle.base_script.specs.declared.actor.Actor.TheVariants.{Copy, Apply, Lock}
use Rattle.server_model.specs.declared.request.Request.TheVariants as requests
use Rattle.server_model.specs.declared.entry.Asked.{Asked}
use Rattle.server_model.specs.declared.entry.Asked.TheVariants.{Call}
use Rattle.server_model.specs.declared.entry.Entry.{Entry}
use Rattle.server_model.specs.States.{State, is_of, unread}
use Rattle.plan_data.specs.PlanData.{PlanData}
use Rattle.tool_program.specs.JournalWords.Journals.{state_at}
use Rattle.tool_program.specs.Feeds.{events_between, holds_call, holds_read, is_held_back, lag, lags, read_tables}
use Rattle.tool_program.specs.Orders.{is_ready}
use Rattle.tool_program.specs.Programs.{given}
use Rattle.proof_journals.specs.Run.Counts.{IsAfter}
use Rattle.tool_state.specs.Feeds.{feed_call}
use Rattle.tool_state.specs.declared.feed_call.FeedCall.{FeedCall}
use Rattle.tool_state.specs.declared.feed_call.FeedCall.TheVariants.{Free, Read, Start}
use Rattle.run_turns.specs.declared.replica.Replica.{Replica}
use Rattle.run_turns.specs.Replicas.{IsReplicaOf}

-- THE SERVER'S LOG IS THAT OF THE STATE AFTER THE TURNS

-- how long it is
pub log_after : (reported server : State) → IsAfter reported server → length server.log ≡ length reported.log
log_after reported server is = ap (λ (state : State). length state.log) is.same

-- how many events of these tables are left in it
pub unread_after : (reported server : State) (position : ℕ) (tables : List (List ℕ)) → IsAfter reported server → unread server position tables ≡ unread reported position tables
unfolding unread
unread_after reported server position tables is = ap (λ (state : State). count_by (is_of tables) (drop position state.log)) is.same

-- THE LAG

pub lag_is : (plan : PlanData) (state server : State) (held : ℕ) (tables : List (List ℕ)) (replica : Replica) → IsReplicaOf plan replica → tables ≡ replica.log → IsAfter state server → unread server held tables ≡ lag plan state held
lag_is plan state server held tables replica of names is = unread_after state server held tables is ∙ ap (unread state held) (names ∙ of.log)

-- EVENTS BETWEEN TWO PLACES

greater : (from to : ℕ) → max from to ≡ from + (to - from)
greater from to = omega arith

-- those behind the second place are among those behind the first
parts : (tables : List (List ℕ)) (from to : ℕ) (log : List RowEvent) → events_between tables from to log + count_by (is_of tables) (drop (max from to) log) ≡ count_by (is_of tables) (drop from log)
unfolding events_between
parts tables from to log =
    ap (λ (rest : List RowEvent). count_by (is_of tables) (take (to - from) (drop from log)) + count_by (is_of tables) rest) (ap (λ (n : ℕ). drop n log) (greater from to) ∙ sym (drop-drop (to - from) from log))
    ∙ sum_by-take-drop (λ (event : RowEvent). cond (is_of tables event) 1 0) (drop from log) (to - from)

state_parts : (state : State) (tables : List (List ℕ)) (from to : ℕ) → events_between tables from to state.log + unread state (max from to) tables ≡ unread state from tables
unfolding unread
state_parts state tables from to = parts tables from to state.log

module _ (plan : PlanData) (state server : State) (replica : Replica) (position : ℕ) (of : IsReplicaOf plan replica) (is : IsAfter state server) (all : ℕ) (rest : ℕ) (all_is : all ≡ unread server position replica.read) (rest_is : rest ≡ unread server (max position replica.held) replica.read) where
  counted : events_between (read_tables plan) position replica.held state.log + rest ≡ all
  counted =
      ap (λ (n : ℕ). events_between (read_tables plan) position replica.held state.log + n) (rest_is ∙ unread_after state server (max position replica.held) replica.read is ∙ ap (unread state (max position replica.held)) of.read)
      ∙ state_parts state (read_tables plan) position replica.held
      ∙ sym (all_is ∙ unread_after state server position replica.read is ∙ ap (unread state position) of.read)

  -- no more are left behind the replica than behind the position
  pub fewer_left : rest ≤ all
  fewer_left = omega (arith, counted)

  -- the difference stands between them
  pub difference_is : all - rest ≡ events_between (read_tables plan) position replica.held state.log
  difference_is = omega (arith, counted)

-- WHO IS HELD BACK

held_by : (plan : PlanData) (journal : List Entry) (held : ℕ) (actor : Actor) (b : Bool) → (plan.options.replica_step == 0) ≡ b → is_held_back plan journal held actor ≡ cond b false (holds_call plan (state_at plan journal) held actor (given plan journal actor))
unfolding is_held_back
held_by plan journal held actor b is = ap (λ (c : Bool). cond c false (holds_call plan (state_at plan journal) held actor (given plan journal actor))) is

-- without a replica nobody
pub none_held : (plan : PlanData) (journal : List Entry) (held : ℕ) (actor : Actor) → (plan.options.replica_step == 0) ≡ true → false ≡ is_held_back plan journal held actor
none_held plan journal held actor none = sym (held_by plan journal held actor true none)

-- as the code looks at a call
abbrev held_in : PlanData → State → ℕ → Option FeedCall → Bool
held_in plan state held (Some (Read position limit)) = holds_read plan state held position limit
held_in plan state held (Some Start) = lags plan state held
held_in plan state held call = false

module _ (plan : PlanData) (state : State) (held : ℕ) where
  held_as_asked : (actor : Actor) (asked : Asked) → held_in plan state held (Some (feed_call actor asked)) ≡ holds_call plan state held actor (Some asked)
  held_as_asked Apply (Call (requests.ReadLog position limit tables)) = refl
  held_as_asked Copy (Call (requests.ChunkEnd table low top size)) = refl
  held_as_asked Lock (Call (requests.Create schema)) = refl
  held_as_asked actor asked = refl

  held_as_given : (actor : Actor) (asked : Option Asked) → held_in plan state held (option_map (feed_call actor) asked) ≡ holds_call plan state held actor asked
  held_as_given actor (Some asked) = held_as_asked actor asked
  held_as_given Copy None = refl
  held_as_given Apply None = refl
  held_as_given Lock None = refl
  held_as_given actor None = refl

module _ (plan : PlanData) (journal : List Entry) (held : ℕ) (some : (plan.options.replica_step == 0) ≡ false) (actor : Actor) where
  call_held : (call : Option FeedCall) → call ≡ option_map (feed_call actor) (given plan journal actor) → held_in plan (state_at plan journal) held call ≡ is_held_back plan journal held actor
  call_held call is = ap (held_in plan (state_at plan journal) held) is ∙ held_as_given plan (state_at plan journal) held actor (given plan journal actor) ∙ sym (held_by plan journal held actor false some)

  pub read_held : (position limit : ℕ) → Some (Read position limit) ≡ option_map (feed_call actor) (given plan journal actor) → holds_read plan (state_at plan journal) held position limit ≡ is_held_back plan journal held actor
  read_held position limit is = call_held (Some (Read position limit)) is

  pub start_held : Some Start ≡ option_map (feed_call actor) (given plan journal actor) → lags plan (state_at plan journal) held ≡ is_held_back plan journal held actor
  start_held is = call_held (Some Start) is

  pub free_held : Some Free ≡ option_map (feed_call actor) (given plan journal actor) → false ≡ is_held_back plan journal held actor
  free_held is = call_held (Some Free) is

  pub unasked_held : None ≡ option_map (feed_call actor) (given plan journal actor) → false ≡ is_held_back plan journal held actor
  unasked_held is = call_held None is

-- WHO IS READY

mapped_some : {A B : Type 0} (f : A → B) (one : Option A) → is_some (option_map f one) ≡ is_some one
mapped_some f None = refl
mapped_some f (Some x) = refl

pub asks_ready : (plan : PlanData) (journal : List Entry) (actor : Actor) (call : Option FeedCall) → call ≡ option_map (feed_call actor) (given plan journal actor) → is_some call ≡ is_ready plan journal actor
asks_ready plan journal actor call is = ap is_some is ∙ mapped_some (feed_call actor) (given plan journal actor)
