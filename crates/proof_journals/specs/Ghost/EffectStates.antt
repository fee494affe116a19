-- What an effect leaves of the tables, the log and of what sessions hold.
use Rattle.std.specs.Prelude.{◌≡◌, ℕ, ◌==◌, Bool, true, false, ◌++◌, List, Option, Some, None}
use Rattle.base_values.specs.declared.event.RowEvent.{RowEvent}
use Rattle.base_script.specs.declared.actor.Side.{Side}
use Rattle.server_model.specs.declared.answer.Answer.{Answer}
use Rattle.server_model.specs.declared.answer.Answer.TheVariants as answers
use Rattle.server_model.specs.declared.entry.Asked.{Asked}
use Rattle.server_model.specs.declared.entry.Asked.TheVariants.{Poll}
use Rattle.server_model.specs.declared.need.Need.{Need}
use Rattle.server_model.specs.Effects.{Effect}
use Rattle.server_model.specs.Effects.Effect.{Rests, Grows, Writes, Forgets, Moves, Locks, Unlocks}
use Rattle.server_model.specs.Operations.{after_events}
use Rattle.server_model.specs.PlainServer.{without_waiting}
use Rattle.server_model.specs.States.{State}
use Rattle.server_model.specs.LockedRows.Coverage.{Apart}
use Rattle.proof_journals.specs.Scenes.{Besides, SessionHold, Stored, no_hold}

-- with what was granted, and what it wrote with it
abbrev pub with_grant : SessionHold → Need → List RowEvent → SessionHold
with_grant own need events = record { names = own.names ++ need.names; locks = own.locks ++ need.locks; writes = own.writes ++ events }

-- nothing, where the session is lost after its effect
abbrev pub unless_lost : Bool → SessionHold → SessionHold
unless_lost true own = no_hold
unless_lost false own = own

-- *What an effect leaves*: the tables and the log, and what its session holds; other sessions hold what they held.
abbrev pub EffectLeaves : Effect → Bool → ℕ → Stored → Stored → (ℕ → SessionHold) → (ℕ → SessionHold) → Type 0
EffectLeaves (Rests answer) lost number now after hold holds = (after ≡ now) × Besides number hold holds (unless_lost lost (hold number))
EffectLeaves (Grows answer need events) lost number now after hold holds =
    (after ≡ now) × Besides number hold holds (unless_lost lost (with_grant (hold number) need events)) × ((n : ℕ) → (n == number) ≡ false → Apart need.locks (hold n).locks)
EffectLeaves (Writes answer events) lost number now after hold holds =
    (after.tables ≡ after_events now.tables ((hold number).writes ++ events)) × (after.log ≡ now.log ++ ((hold number).writes ++ events)) × Besides number hold holds no_hold
EffectLeaves (Forgets answer) lost number now after hold holds = (after ≡ now) × Besides number hold holds no_hold
EffectLeaves (Moves answer tables) lost number now after hold holds = (after.tables ≡ tables) × (after.log ≡ now.log) × Besides number hold holds (unless_lost lost (hold number))
EffectLeaves (Locks answer names) lost number now after hold holds = (after ≡ now) × Besides number hold holds (unless_lost lost (hold number))
EffectLeaves (Unlocks answer) lost number now after hold holds = (after ≡ now) × Besides number hold holds (unless_lost lost (hold number))

-- the request was done: it doesn't wait, nor did its wait time out, nor was its session lost before
abbrev pub was_done : Answer → Bool
was_done (answers.Waits by) = false
was_done (answers.TimedOut waited) = false
was_done answers.Lost = false
was_done answer = true

-- the server where the request is done: a poll's request waits no more
abbrev pub where_done : Asked → ℕ → State → State
where_done Poll number state = without_waiting number state
where_done asked number state = state

abbrev pub is_lost : Option Side → Bool
is_lost None = false
is_lost (Some side) = true

-- what is answered, heard or missed, says that the request was done
abbrev pub reported_done : Option Answer → Bool
reported_done None = false
reported_done (Some given) = was_done given

-- what an entry leaves its session whose request was not done: a wait keeps what it holds; a time-out and a loss end it
abbrev pub undone_hold : Option Side → Answer → SessionHold → SessionHold
undone_hold None (answers.Waits by) own = own
undone_hold side answer own = no_hold

-- what an effect answers
abbrev pub effect_answer : Effect → Answer
effect_answer (Rests answer) = answer
effect_answer (Grows answer need events) = answer
effect_answer (Writes answer events) = answer
effect_answer (Forgets answer) = answer
effect_answer (Moves answer tables) = answer
effect_answer (Locks answer names) = answer
effect_answer (Unlocks answer) = answer
