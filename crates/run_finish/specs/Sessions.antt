-- The live sessions of the actors, in the actors' fixed order. (This project's rule.)
use Rattle.std.specs.Prelude.{ℕ, if◌then◌else◌, is_some, List, [], ◌∷◌, map, find, Option, None}
use Rattle.std.specs.Option.{option_map}
use Rattle.base_script.specs.declared.actor.Actor.{Actor}
use Rattle.server_model.specs.declared.entry.Entry.{Entry}
use Rattle.server_model.specs.Entries.{same_actor}
use Rattle.plan_data.specs.PlanData.{PlanData}
use Rattle.tool_program.specs.JournalWords.Sessions.{live_session, session_left}
use Rattle.tool_program.specs.Orders.{actors}
use Rattle.tool_finish.specs.declared.stage.Stage.{Stage}
use Rattle.tool_finish.specs.declared.stage.Stage.TheVariants.{Losing, Listing}
use Rattle.run_actors.specs.declared.actor_state.ActorState.{ActorState}
use Rattle.run_finish.specs.declared.sessions.LiveSession.{LiveSession}

abbrev pub live_at : List Entry → Actor → LiveSession
live_at journal actor = record { actor = actor; session = live_session journal actor }

-- *The live sessions* behind a journal
abbrev pub sessions_at : PlanData → List Entry → List LiveSession
sessions_at plan journal = map (live_at journal) (actors plan)

abbrev pub live_in : ActorState → LiveSession
live_in actor_state = record { actor = actor_state.actor; session = actor_state.session }

-- the first actor that has one
abbrev pub first_actor : List LiveSession → Option Actor
first_actor sessions = option_map (λ one. one.actor) (find (λ one. is_some one.session) sessions)

-- where the new tool begins
abbrev pub first_stage : List LiveSession → Stage
first_stage sessions = if is_some (first_actor sessions) then Losing else Listing

-- an actor's
unfoldable pub session_of : List LiveSession → Actor → Option ℕ
session_of [] actor = None
session_of (one ∷ others) actor = if same_actor one.actor actor then one.session else session_of others actor

-- each after a turn
abbrev pub session_after : Entry → LiveSession → LiveSession
session_after entry one = if same_actor entry.actor one.actor then record one { session = session_left entry.asked entry.answer entry.session } else one
