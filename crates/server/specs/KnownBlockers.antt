-- Who blocks requests that wait, as far as it is known.
use Rattle.std.specs.Prelude.{◌≡◌, ℕ, Bool, true, false, List, Some}
use Rattle.std.specs.List.{AllByRecursion}
use Rattle.base_values.specs.declared.event.RowEvent.{RowEvent}
use Rattle.table_store.specs.Databases.{Database}
use Rattle.server_model.specs.declared.answer.Answer.{Answer}
use Rattle.server_model.specs.declared.answer.Answer.TheVariants as answers
use Rattle.server_model.specs.declared.session.Waiting.{Waiting}
use Rattle.server_model.specs.Blockers.{blocker, need}
use Rattle.server_model.specs.States.{State, waiting_of}
use Rattle.server.specs.declared.known_blockers.KnownBlocker.{KnownBlocker}
use Rattle.server.specs.Parts.{state_of, GoTogether}

-- the least session that blocks the request of this one, where it waits, is this
pub record IsBlockedBy (state : State) (session by : ℕ) : Type 0 where
  pub blocks : (one : Waiting) → waiting_of session state.waiting ≡ Some one → blocker state session (need state session one.request) ≡ Some by

-- what is known is so
abbrev pub AreBlocked : State → List KnownBlocker → Type 0
AreBlocked state known = AllByRecursion (λ one. IsBlockedBy state one.session one.by) known

-- the answer says that the request waits
abbrev pub is_wait : Answer → Bool
is_wait (answers.Waits by) = true
is_wait answer = false

-- The parts of a server go together, and what is known of requests that wait is so.
pub record IsServer (tables : Database) (written : ℕ → List RowEvent) (all_sessions : State) (known : List KnownBlocker) : Type 0 where
  pub together : GoTogether tables written all_sessions
  pub blocked : AreBlocked (state_of tables all_sessions) known
