-- What is kept of each actor, so that no turn reads the journal anew. (This project's rule.)
use Rattle.std.specs.Prelude.{ℕ, ◌+◌, Bool, false, if◌then◌else◌, List, Some}
use Rattle.base_script.specs.declared.actor.Actor.{Actor}
use Rattle.server_model.specs.declared.answer.Answer.{Answer}
use Rattle.server_model.specs.declared.answer.Answer.TheVariants as answers
use Rattle.server_model.specs.declared.entry.Asked.{Asked}
use Rattle.server_model.specs.declared.entry.Asked.TheVariants.{Call, Poll}
use Rattle.server_model.specs.declared.entry.Entry.{Entry}
use Rattle.server_model.specs.Entries.{same_actor, is_cut}
use Rattle.tool_program.specs.JournalWords.Journals.{turns_of}
use Rattle.tool_program.specs.JournalWords.Sessions.{live_session, session_left}
use Rattle.tool_program.specs.JournalWords.Histories.{request_waiting, renames_away}
use Rattle.run_actors.specs.declared.actor_state.ActorState.{ActorState}

-- *Actor state*: what is kept of an actor after the turns of a journal
abbrev pub actor_state_at : List ℕ → List Entry → Actor → ActorState
actor_state_at table journal actor =
    record { actor = actor; session = live_session journal actor; turns = turns_of actor journal; renames = renames_away table (request_waiting journal actor) }

-- whether the actor's request, which waits after a turn, takes the table's name away
abbrev pub renames_after : List ℕ → Asked → Answer → Bool → Bool
renames_after table (Call request) (answers.Waits by) old = renames_away table (Some request)
renames_after table Poll (answers.Waits by) old = old
renames_after table asked answer old = false

abbrev pub counted : Bool → ℕ → ℕ
counted cut turns = if cut then turns else turns + 1

-- the state of the turn's actor after it
abbrev pub turned : List ℕ → Entry → ActorState → ActorState
turned table entry actor_state =
    record actor_state {
      session = session_left entry.asked entry.answer entry.session;
      turns = counted (is_cut entry.asked) actor_state.turns;
      renames = renames_after table entry.asked entry.answer actor_state.renames;
    }

-- every actor state after a turn
abbrev pub actor_state_after : List ℕ → Entry → ActorState → ActorState
actor_state_after table entry actor_state = if same_actor entry.actor actor_state.actor then turned table entry actor_state else actor_state
