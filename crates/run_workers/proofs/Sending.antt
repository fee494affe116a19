-- What a run keeps may go to another thread. What was asked in a turn is said by hand, part by part.
use denote.Enum.Declared.{shape, variants}
use denote.Enum.Enum.{Enum}
use denote.Param.Send.{AllSend, EachSend, IsSend, enum_send, recorded_send, sendable, struct_send}
use denote.Ref.{NamedLft}
use denote.Struct.Declared as Structs
use denote.Struct.Struct.{Struct}
use Rattle.std.proofs.Crossing.{crosses}
use Rattle.server_model.specs.contracts.entry.Entry as Entry
use Rattle.server_model.specs.contracts.turn_asked.Kept as Kept
use Rattle.server_model.specs.contracts.turn_asked.TurnAsked as TurnAsked
use Rattle.base_script.proofs.actor.Actor.TheSendSync as actor
use Rattle.base_values.proofs.name.Name.TheSendSync as name
use Rattle.base_values.proofs.sequence.Sequence.TheSendSync as sequence
use Rattle.plan_data.proofs.plan.Plan.TheSendSync as plan
use Rattle.tool_state.proofs.tool_state.tool.Tool.TheSendSync as tool
use Rattle.run_actors.proofs.client_turns.actor_state.ClientState.TheSendSync as client
use Rattle.run_actors.proofs.actor_state.ActorState.TheSendSync as actor_state
use Rattle.run_state.specs.contracts.run_state.RunState as RunState
use Rattle.server_model.proofs.answer.Answer.TheSendSync as answer
use Rattle.server_model.proofs.entry.Asked.TheSendSync as asked
use Rattle.server_model.proofs.lost_calls.LostCall.TheSendSync as lost

pub kept_fields_send : IsSend (Enum (shape Kept.the_type))
kept_fields_send =
    let each : EachSend (variants Kept.the_type) = ((asked.the_field_send, tt), ((lost.the_field_send, (search (sendable, crosses) depth 60 fits 20000, tt)), tt)) in
    enum_send (shape Kept.the_type) each

pub kept_send : IsSend Kept.the_row
kept_send = recorded_send (Enum (shape Kept.the_type)) _ _ (Kept.the_type).to_one kept_fields_send

pub turn_asked_send : IsSend TurnAsked.the_row
turn_asked_send = search (kept_fields_send, sendable, crosses) depth 60 fits 20000

pub entry_fields_send : IsSend (Struct (Structs.shape Entry.the_type))
entry_fields_send =
    let all : AllSend (Structs.shape Entry.the_type).fields = (actor.the_field_send, (search sendable, (turn_asked_send, (search (sendable, crosses) depth 60 fits 20000, (answer.the_field_send, (search (answer.the_send, sendable, crosses) depth 60 fits 20000, (search (sendable, crosses) depth 60 fits 20000, tt))))))) in
    struct_send (Structs.shape Entry.the_type) all

pub entry_send : IsSend Entry.the_row
entry_send = recorded_send (Struct (Structs.shape Entry.the_type)) _ _ (Entry.the_type).to_one entry_fields_send

module _ (κ : NamedLft) where
  pub run_state_fields_send : IsSend (Struct (Structs.shape (RunState.the_type κ)))
  run_state_fields_send =
      let all : AllSend (Structs.shape (RunState.the_type κ)).fields = (search (plan.the_sync, sendable, crosses) depth 60 fits 20000, (search (entry_send, entry_fields_send, sendable, crosses) depth 60 fits 20000, (tool.the_field_send, (search sendable depth 60 fits 20000, (search (name.the_send, sequence.the_send, sendable, crosses) depth 60 fits 20000, (search (actor_state.the_send, sendable, crosses) depth 60 fits 20000, (search (client.the_send, sendable, crosses) depth 60 fits 20000, (search sendable, (search sendable, (search sendable, tt)))))))))) in
      struct_send (Structs.shape (RunState.the_type κ)) all
