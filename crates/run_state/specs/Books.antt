-- The journal of a run, with what is kept of it so that no turn reads it anew. (This project's rule.)
use Rattle.std.specs.Prelude.{◌≡◌, ℕ, ◌+◌, ◌<◌, ◌≤◌, ◌^◌, Bool, true, false, if◌then◌else◌, is_some, List, [], ◌∷◌, map, length, Option, Some, None, vec_len, vec_capacity}
use Rattle.std.specs.List.{list_any, slice_get}
use Rattle.base_script.specs.declared.actor.Actor.{Actor}
use Rattle.base_script.specs.declared.actor.Actor.TheVariants.{Op, Insp, Copy, Apply, Lock, Ren, Client}
use Rattle.base_script.specs.declared.script.ScriptLine.{ScriptLine}
use Rattle.server_model.specs.declared.entry.Entry.{Entry}
use Rattle.server_model.specs.Entries.{same_actor}
use Rattle.server_model.specs.States.{load}
use Rattle.base_values.specs.ToolNames.{log_name}
use Rattle.plan_data.specs.PlanData.{PlanData}
use Rattle.tool_program.specs.JournalWords.Sessions.{live_session}
use Rattle.tool_program.specs.JournalWords.Clients.{script_of, client_at}
use Rattle.tool_program.specs.JournalWords.Histories.{history, is_alter}
use Rattle.tool_program.specs.NoteWriter.Notes.{notes_of}
use Rattle.tool_program.specs.Tools.{moment}
use Rattle.tool_program.specs.Orders.{actors}
use Rattle.tool_state.specs.ToolState.Meanings.{tool_of}
use Rattle.tool_state.specs.ToolState.Sound.{IsSound, HasSpace}
use Rattle.run_actors.specs.declared.actor_state.ActorState.{ActorState}
use Rattle.run_actors.specs.ActorStates.{actor_state_at}
use Rattle.run_actors.specs.declared.client_turns.actor_state.ClientState.{ClientState}
use Rattle.run_actors.specs.ClientTurns.ActorStates.{IsReached}
use Rattle.proof_journals.specs.Run.Counts.{busy_count}
use Rattle.run_state.specs.declared.run_state.RunState.{RunState}

-- the actor's place in the fixed order
abbrev pub place_of : Actor → ℕ
place_of Op = 0
place_of Insp = 1
place_of Copy = 2
place_of Apply = 3
place_of Lock = 4
place_of Ren = 5
place_of (Client client) = client + 5

-- whether the plan has the actor: it has all of the tool's, and a client that has a script
abbrev pub is_planned : PlanData → Actor → Bool
is_planned plan (Client client) = is_some (script_of client plan)
is_planned plan actor = true

-- what is kept of an actor before the first turn
abbrev pub free_actor_state : Actor → ActorState
free_actor_state actor = record { actor = actor; session = None; turns = 0; renames = false }

-- what is kept of an actor of the plan's
abbrev pub actor_state_of : PlanData → List Entry → Actor → Option ActorState
actor_state_of plan journal actor = if is_planned plan actor then Some (actor_state_at plan.table journal actor) else None

-- the actor state at an actor's place, where it is the actor's
abbrev pub own_actor_state : Actor → Option ActorState → Option ActorState
own_actor_state actor None = None
own_actor_state actor (Some actor_state) = if same_actor actor_state.actor actor then Some actor_state else None

abbrev pub actor_state_in : List ActorState → Actor → Option ActorState
actor_state_in actor_states actor = own_actor_state actor (slice_get actor_states (place_of actor))

abbrev pub session_of : Option ActorState → Option ℕ
session_of None = None
session_of (Some actor_state) = actor_state.session

abbrev pub turns_in : Option ActorState → ℕ
turns_in None = 0
turns_in (Some actor_state) = actor_state.turns

abbrev pub renames_of : Option ActorState → Bool
renames_of None = false
renames_of (Some actor_state) = actor_state.renames

-- what is kept of a client before the first turn
abbrev pub free_client : List ScriptLine → ClientState
free_client script = record { place = 0; is_inside = false; waits = false; is_lost = false }

-- the states are those of the clients from this number on
unfoldable pub AreReached : PlanData → List Entry → ℕ → List (List ScriptLine) → List ClientState → Type 0
AreReached plan journal number [] [] = Unit {0}
AreReached plan journal number (script ∷ scripts) (actor_state ∷ actor_states) = IsReached script actor_state (client_at plan journal number) × AreReached plan journal (number + 1) scripts actor_states
AreReached plan journal number scripts actor_states = ⊥

-- *Room*: for all turns that the plan allows, and for a failed try of each task in each of them
pub record HasRoomFor (plan : PlanData) (journal : List Entry) (run_state : RunState) : Type 0 where
  pub turns : plan.options.turn_limit ≤ vec_capacity run_state.journal
  pub count : vec_len run_state.journal ≡ length journal
  pub tool : HasSpace plan.options.turn_limit (length journal) run_state.tool

-- *Book*: what is kept is what the journal says
pub record IsRunState (plan : PlanData) (journal : List Entry) (run_state : RunState) : Type 0 where
  pub few : length journal < 2 ^ 32
  pub tool : tool_of run_state.tool ≡ (moment plan journal).tool
  pub sound : IsSound plan run_state.tool
  pub notes : run_state.notes ≡ notes_of journal
  pub names : run_state.names ≡ plan.table ∷ log_name plan.table ∷ []
  pub actor_states : run_state.actor_states.items ≡ map (actor_state_at plan.table journal) (actors plan)
  pub clients : AreReached plan journal 1 plan.clients run_state.clients.items
  pub strangers : (client : ℕ) → script_of client plan ≡ None → live_session journal (Client client) ≡ None
  pub load : run_state.load ≡ load (moment plan journal).server
  pub busy : run_state.busy ≡ busy_count (moment plan journal).server
  pub altered : run_state.is_altered ≡ list_any is_alter (history plan journal)
