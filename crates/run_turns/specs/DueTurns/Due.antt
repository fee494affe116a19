-- *What is due*: the turn that a run takes where an actor is to take one. (This project's rule.)
use Rattle.std.specs.Prelude.{◌≡◌, ℕ, false, List, Option, Some, None}
use Rattle.base_script.specs.declared.actor.Actor.{Actor}
use Rattle.server_model.specs.declared.entry.Asked.{Asked}
use Rattle.server_model.specs.declared.entry.Asked.TheVariants.{Command, Cut}
use Rattle.server_model.specs.declared.entry.Entry.{Entry}
use Rattle.server_model.specs.States.{State}
use Rattle.plan_data.specs.PlanData.{PlanData}
use Rattle.tool_program.specs.JournalWords.KeptPlans.{cut_due, side_due}
use Rattle.tool_program.specs.JournalWords.Sessions.{live_session}
use Rattle.tool_program.specs.Programs.{given}
use Rattle.run_turns.specs.declared.due_turns.migration_run.turn.Turn.{Turn}
use Rattle.run_turns.specs.DueTurns.MigrationRun.FreeTurns.{is_free_turn}
use Rattle.run_turns.specs.DueTurns.MigrationRun.ServerTurns.{session_for, entry_on}

-- an actor's turn in which it asks this; its session is lost in it where a loss strikes
abbrev pub own_turn : PlanData → List Entry → Actor → Asked → Turn
own_turn plan journal actor asked = record { actor = actor; side = side_due plan journal actor; asked = asked }

abbrev pub given_turn : PlanData → List Entry → Actor → Option Asked → Option Turn
given_turn plan journal actor None = None
given_turn plan journal actor (Some asked) = Some (own_turn plan journal actor asked)

-- the turn in which an actor's session is lost between calls
abbrev pub cut_turn : Actor → Turn
cut_turn actor = record { actor = actor; side = None; asked = Cut }

abbrev pub due_by : PlanData → List Entry → Actor → Option Actor → Option Turn
due_by plan journal actor (Some other) = Some (cut_turn other)
due_by plan journal actor None = given_turn plan journal actor (given plan journal actor)

-- *Due*: the loss between calls that is due, whosever session it takes; else the actor's turn with what is given to it
unfoldable pub due : PlanData → List Entry → Actor → Option Turn
due plan journal actor = due_by plan journal actor (cut_due plan journal)

-- *May cost*: a turn is due that may take memory, since it isn't free
pub record MayCost (plan : PlanData) (journal : List Entry) (server : State) (actor : Actor) : Type 0 where
  pub turn : Turn
  pub is_due : due plan journal actor ≡ Some turn
  pub costs : is_free_turn server (live_session journal turn.actor) turn ≡ false

-- the session of what is asked: the actor's own, else the next one after those that were made; a command is in none
abbrev pub session_at : Asked → Option ℕ → ℕ → ℕ
session_at (Command word) own made = 0
session_at asked own made = session_for own made

-- *Next entry*: that of a turn on the server as it is
abbrev pub next_entry : List Entry → State → Turn → Entry
next_entry journal server turn = entry_on server (session_at turn.asked (live_session journal turn.actor) server.made) turn
