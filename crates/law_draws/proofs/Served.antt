-- What the server answers to a request, and leaves of the tables, whether it is called or polled.
use Rattle.std.proofs.Common.{◌≡◌, ℕ, Bool, true, false, List, Option, Some, None, sym, subst}
use Rattle.table_store.specs.Databases.{Database}
use Rattle.server_model.specs.declared.answer.Answer.{Answer}
use Rattle.server_model.specs.declared.answer.Answer.TheVariants as answers
use Rattle.server_model.specs.declared.counter.Counter.{Counter}
use Rattle.server_model.specs.declared.entry.Asked.{Asked}
use Rattle.server_model.specs.declared.entry.Asked.TheVariants.{Call, Poll, Command, Cut}
use Rattle.server_model.specs.declared.request.Request.{Request}
use Rattle.server_model.specs.declared.session.Waiting.{Waiting}
use Rattle.server_model.specs.Blockers.{blocker, need}
use Rattle.server_model.specs.PlainServer.{asks_for, called_unless, calls, done, is_over, polled_of, polled_over, polled_unless, polls, request_waiting, serves, without_waiting}
use Rattle.server_model.specs.States.{State, waiting_of}

-- of tables and counters before, the answer, and the tables after
abbrev pub Saying : Type 1
Saying = Database → List Counter → Answer → Database → Type 0

-- what holds where the request waits, where it waited in vain, and where it is done
pub record Says (P : Saying) (number : ℕ) (request : Request) : Type 0 where
  pub waits : (tables : Database) (counters : List Counter) (by : ℕ) → P tables counters (answers.Waits by) tables
  pub timed : (tables : Database) (counters : List Counter) (waited : ℕ) → P tables counters (answers.TimedOut waited) tables
  pub each : (state : State) → P state.tables state.counters (done state number request).answer (done state number request).after.tables

module _ (P : Saying) (number : ℕ) (request : Request) (says : Says P number request) where
  called_so : (state : State) → P state.tables state.counters (calls state number request).answer (calls state number request).after.tables
  unfolding calls
  called_so state = by (blocker state number (need state number request)) where
    by : (other : Option ℕ) → P state.tables state.counters (called_unless other state number request).answer (called_unless other state number request).after.tables
    by None = says.each state
    by (Some other) = says.waits state.tables state.counters other

  polled_so : (state : State) → request_waiting (waiting_of number state.waiting) ≡ Some request → P state.tables state.counters (polls state number).answer (polls state number).after.tables
  unfolding polls
  polled_so state some = by (waiting_of number state.waiting) some where
    over : (b : Bool) (other : ℕ) → P state.tables state.counters (polled_over b other state number).answer (polled_over b other state number).after.tables
    over true other = says.timed state.tables state.counters _
    over false other = says.waits state.tables state.counters other

    unless : (other : Option ℕ) → P state.tables state.counters (polled_unless other state number request).answer (polled_unless other state number request).after.tables
    unless None = says.each (without_waiting number state)
    unless (Some other) = over (is_over state number) other

    by : (waiting : Option Waiting) → request_waiting waiting ≡ Some request → P state.tables state.counters (polled_of waiting state number).answer (polled_of waiting state number).after.tables
    by None none = absurd cc
    by (Some waiting) same =
        let one : waiting.request ≡ request = cc in
        subst (λ (r : Request). P state.tables state.counters (polled_unless (blocker state number (need state number r)) state number r).answer (polled_unless (blocker state number (need state number r)) state number r).after.tables) (sym one) (unless (blocker state number (need state number request)))

  pub served_so : (state : State) (asked : Asked) → asks_for state number asked ≡ Some request → P state.tables state.counters (serves state number asked).answer (serves state number asked).after.tables
  served_so state (Call other) asks = let one : other ≡ request = cc in subst (λ (r : Request). P state.tables state.counters (calls state number r).answer (calls state number r).after.tables) (sym one) (called_so state)
  served_so state Poll asks = polled_so state asks
  served_so state (Command word) asks = absurd cc
  served_so state Cut asks = absurd cc
