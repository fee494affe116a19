-- What is kept of a journal is kept with one turn more.
use Rattle.std.proofs.Common.{◌≡◌, ℕ, ◌+◌, ◌<◌, ◌^◌, Bool, true, false, ◌||◌, List, [], ◌∷◌, ◌++◌, map, length, cond, None, refl, sym, ap, ◌∙◌, subst, arith}
use Rattle.std.specs.Prelude.{is_some, ◌≤◌, Vec, vec_len, vec_capacity}
use Rattle.std.specs.Global.{Global}
use Rattle.std.specs.List.{list_any}
use Rattle.std.proofs.lemmas.Bool.{false≢true}
use Rattle.std.proofs.lemmas.List.{length-append}
use Rattle.std.proofs.lemmas.List.Folds.{list_any-append}
use Rattle.base_script.specs.declared.actor.Actor.{Actor}
use Rattle.base_script.specs.declared.actor.Actor.TheVariants.{Client}
use Rattle.server_model.specs.Along.{gathered-more}
use Rattle.server_model.specs.declared.entry.Entry.{Entry}
use Rattle.server_model.specs.Entries.{same_actor}
use Rattle.server_model.specs.States.{load}
use Rattle.plan_data.specs.PlanData.{PlanData}
use Rattle.tool_program.specs.JournalWords.Clients.{script_of}
use Rattle.tool_program.specs.JournalWords.Journals.{after_entry}
use Rattle.tool_program.specs.JournalWords.Sessions.{live_session, session_left}
use Rattle.tool_program.specs.JournalWords.Histories.{history, entry_adds, is_alter}
use Rattle.tool_program.specs.Orders.{actors}
use Rattle.base_values.specs.ToolNames.{log_name}
use Rattle.tool_program.specs.declared.note_writer.notes.Notes.{Notes}
use Rattle.tool_program.specs.NoteWriter.Notes.{new_notes, noted, notes_of}
use Rattle.tool_program.proofs.NoteWriter.Counts.{more as notes_more}
use Rattle.tool_program.specs.Tools as program
use Rattle.tool_program.specs.Tools.{Moment, new_tool, took, after_turn, moment}
use Rattle.tool_state.specs.declared.tool_state.tool.Tool.{Tool}
use Rattle.tool_state.specs.ToolState.Meanings.{tool_of}
use Rattle.tool_state.specs.ToolState.Sound.{IsSound, HasRoom, HasSpace, TriesGrow}
use Rattle.tool_state.proofs.TryTurns.{space_more, has_room as space_is_room}
use Rattle.run_actors.specs.ActorStates.{actor_state_after}
use Rattle.run_actors.proofs.More.{live_more, actor_states_more}
use Rattle.proof_journals.proofs.Actors.{same_actor_is}
use Rattle.proof_journals.specs.Run.Counts.{busy_count}
use Rattle.proof_journals.proofs.Run.Taking.{moment_more, turns_are}
use Rattle.run_state.specs.declared.run_state.RunState.{RunState}
use Rattle.run_state.specs.Books.{is_planned, free_actor_state, free_client, AreReached, HasRoomFor, IsRunState}
use Rattle.run_state.proofs.Clients.{clients_begin}
use Rattle.run_state.proofs.ActorStates.{free_actor_states}

-- what a turn's record says besides
pub record Takes (plan : PlanData) (journal : List Entry) (entry : Entry) (old new : RunState) : Type 0 where
  pub tool : tool_of new.tool ≡ took plan (moment plan journal).server (tool_of old.tool) entry
  pub sound : IsSound plan new.tool
  pub notes : new.notes ≡ noted old.notes entry
  pub names : new.names ≡ old.names
  pub actor_states : new.actor_states.items ≡ map (actor_state_after plan.table entry) old.actor_states.items
  pub clients : AreReached plan (journal ++ entry ∷ []) 1 plan.clients new.clients.items
  pub load : new.load ≡ load (after_entry (moment plan journal).server entry)
  pub busy : new.busy ≡ busy_count (after_entry (moment plan journal).server entry)
  pub altered : new.is_altered ≡ (old.is_altered || list_any is_alter (entry_adds plan journal entry))

tool_more : (plan : PlanData) (journal : List Entry) (entry : Entry) (old new : RunState) → IsRunState plan journal old → Takes plan journal entry old new → tool_of new.tool ≡ (moment plan (journal ++ entry ∷ [])).tool
tool_more plan journal entry old new run_state takes =
    takes.tool ∙ ap (λ tool. took plan (moment plan journal).server tool entry) run_state.tool ∙ ap (λ (m : Moment). m.tool) (sym (moment_more plan journal entry))

server_more : (plan : PlanData) (journal : List Entry) (entry : Entry) → after_entry (moment plan journal).server entry ≡ (moment plan (journal ++ entry ∷ [])).server
server_more plan journal entry = ap (λ (m : Moment). m.server) (sym (moment_more plan journal entry))

altered_more : (plan : PlanData) (journal : List Entry) (entry : Entry) → list_any is_alter (history plan (journal ++ entry ∷ [])) ≡ (list_any is_alter (history plan journal) || list_any is_alter (entry_adds plan journal entry))
unfolding history
altered_more plan journal entry =
    ap (list_any is_alter) (gathered-more (entry_adds plan) [] journal entry) ∙ list_any-append is_alter (history plan journal) (entry_adds plan journal entry)

planned_script : (plan : PlanData) (client : ℕ) (actor : Actor) → actor ≡ Client client → is_planned plan actor ≡ true → is_some (script_of client plan) ≡ true
planned_script plan client actor is planned = subst (λ (a : Actor). is_planned plan a ≡ true) is planned

strangers_more : (plan : PlanData) (journal : List Entry) (entry : Entry) (client : ℕ) → is_planned plan entry.actor ≡ true → script_of client plan ≡ None → live_session journal (Client client) ≡ None → live_session (journal ++ entry ∷ []) (Client client) ≡ None
strangers_more plan journal entry client planned none old = live_more journal entry (Client client) ∙ by (same_actor entry.actor (Client client)) refl
  where
    by : (b : Bool) → same_actor entry.actor (Client client) ≡ b → cond b (session_left entry.asked entry.answer entry.session) (live_session journal (Client client)) ≡ None
    by true same = absurd (false≢true (sym (ap is_some none) ∙ planned_script plan client entry.actor (same_actor_is entry.actor (Client client) same) planned))
    by false same = old

-- *One turn more*
pub run_state_more : (plan : PlanData) (journal : List Entry) (entry : Entry) (old new : RunState) → IsRunState plan journal old → is_planned plan entry.actor ≡ true → length journal + 1 < 2 ^ 32 → Takes plan journal entry old new → IsRunState plan (journal ++ entry ∷ []) new
run_state_more plan journal entry old new run_state planned few takes = record {
  few = subst (λ (n : ℕ). n < 2 ^ 32) (sym (length-append journal (entry ∷ []))) few;
  tool = tool_more plan journal entry old new run_state takes;
  sound = takes.sound;
  notes = takes.notes ∙ ap (λ (notes : Notes). noted notes entry) run_state.notes ∙ sym (notes_more journal entry);
  names = takes.names ∙ run_state.names;
  actor_states = takes.actor_states ∙ ap (map (actor_state_after plan.table entry)) run_state.actor_states ∙ actor_states_more plan.table journal entry (actors plan);
  clients = takes.clients;
  strangers = λ client none. strangers_more plan journal entry client planned none (run_state.strangers client none);
  load = takes.load ∙ ap load (server_more plan journal entry);
  busy = takes.busy ∙ ap busy_count (server_more plan journal entry);
  altered = takes.altered ∙ ap (λ b. b || list_any is_alter (entry_adds plan journal entry)) run_state.altered ∙ sym (altered_more plan journal entry);
}

-- *Before the first turn*
pub run_state_begin : (plan : PlanData) (run_state : RunState) → tool_of run_state.tool ≡ new_tool plan → IsSound plan run_state.tool → run_state.notes ≡ new_notes → run_state.names ≡ plan.table ∷ log_name plan.table ∷ [] → run_state.actor_states.items ≡ map free_actor_state (actors plan) → run_state.clients.items ≡ map free_client plan.clients
    → run_state.load ≡ 0 → run_state.busy ≡ 0 → run_state.is_altered ≡ false → IsRunState plan [] run_state
unfolding moment history live_session notes_of
run_state_begin plan run_state tool sound notes names actor_states clients load busy altered = record {
  few = omega arith;
  tool = tool;
  sound = sound;
  notes = notes;
  names = names;
  actor_states = actor_states ∙ free_actor_states plan.table (actors plan);
  clients = subst (AreReached plan [] 1 plan.clients) (sym clients) (clients_begin plan);
  strangers = λ client none. refl;
  load = load;
  busy = busy;
  altered = altered;
}

-- so many turns were taken
pub tool_turns : (plan : PlanData) (journal : List Entry) (tool : Tool) → tool_of tool ≡ (moment plan journal).tool → tool.turns ≡ length journal
tool_turns plan journal tool is = ap (λ (t : program.Tool). t.turns) is ∙ turns_are plan journal

-- what is kept doesn't turn on the turns that are written
pub written : (plan : PlanData) (journal : List Entry) (run_state : RunState) (turns : Vec Entry Global) → IsRunState plan journal run_state → IsRunState plan journal (record run_state { journal = turns })
written plan journal run_state turns is = record {
  few = is.few;
  tool = is.tool;
  sound = is.sound;
  notes = is.notes;
  names = is.names;
  actor_states = is.actor_states;
  clients = is.clients;
  strangers = is.strangers;
  load = is.load;
  busy = is.busy;
  altered = is.altered;
}

-- THE ROOM

pub has_room : (plan : PlanData) (journal : List Entry) (run_state : RunState) → HasRoomFor plan journal run_state → length journal < plan.options.turn_limit → HasRoom run_state.tool
has_room plan journal run_state room less = space_is_room plan.options.turn_limit (length journal) run_state.tool less room.tool

pub room_begin : (plan : PlanData) (run_state : RunState) → plan.options.turn_limit ≤ vec_capacity run_state.journal → vec_len run_state.journal ≡ 0 → HasSpace plan.options.turn_limit 0 run_state.tool → HasRoomFor plan [] run_state
room_begin plan run_state turns count tool = record { turns = turns; count = count; tool = tool }

-- *One turn more* in the room that there is
pub room_more : (plan : PlanData) (journal : List Entry) (entry : Entry) (old new : RunState) → HasRoomFor plan journal old → TriesGrow old.tool new.tool → vec_capacity new.journal ≡ vec_capacity old.journal → vec_len new.journal ≡ vec_len old.journal + 1 → HasRoomFor plan (journal ++ entry ∷ []) new
room_more plan journal entry old new room grows same count =
    let more : length (journal ++ entry ∷ []) ≡ length journal + 1 = length-append journal (entry ∷ []) in
    record {
      turns = subst (λ (n : ℕ). plan.options.turn_limit ≤ n) (sym same) room.turns;
      count = count ∙ ap (λ (n : ℕ). n + 1) room.count ∙ sym more;
      tool = subst (λ (n : ℕ). HasSpace plan.options.turn_limit n new.tool) (sym more) (space_more plan.options.turn_limit (length journal) old.tool new.tool grows room.tool);
    }
