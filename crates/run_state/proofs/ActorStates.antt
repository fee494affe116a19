-- The seats of the actors, found by their places.
use Rattle.std.proofs.Common.{◌≡◌, ◌≤◌, not, ◌&&◌, length, ℕ, zero, suc, ◌+◌, ◌-◌, ◌==◌, Bool, true, false, List, [], ◌∷◌, map, cond, Option, Some, None, refl, sym, ap, ◌∙◌, arith}
use Rattle.std.specs.Prelude.{is_some}
use Rattle.std.specs.List.{slice_get}
use Rattle.std.specs.Option.{option_map}
use Rattle.std.proofs.lemmas.Bool.{ne_eqb, true≢false}
use Rattle.std.proofs.lemmas.Bool.Decides.{nat_tests}
use Rattle.std.proofs.lemmas.List.Sums.{count_by-le-length}
use Rattle.std.proofs.lemmas.Option.{slice_get-map}
use Rattle.base_script.specs.declared.actor.Actor.{Actor}
use Rattle.base_script.specs.declared.actor.Actor.TheVariants.{Op, Insp, Copy, Apply, Lock, Ren, Client}
use Rattle.base_script.specs.declared.script.ScriptLine.{ScriptLine}
use Rattle.server_model.specs.declared.entry.Entry.{Entry}
use Rattle.server_model.specs.Entries.{same_actor, is_cut}
use Rattle.plan_data.specs.PlanData.{PlanData}
use Rattle.tool_program.specs.JournalWords.Clients.{script_of}
use Rattle.tool_program.specs.JournalWords.Journals.{turns_of}
use Rattle.tool_program.specs.JournalWords.Histories.{request_waiting, renames_away}
use Rattle.tool_program.specs.JournalWords.Sessions.{live_session}
use Rattle.tool_program.specs.Orders.{actors, clients_from}
use Rattle.run_actors.specs.ActorStates.{actor_state_at}
use Rattle.run_state.specs.Books.{is_planned, free_actor_state, actor_state_of, own_actor_state, actor_state_in, session_of, renames_of}

-- the client at a place
abbrev client_if : Bool → ℕ → Option Actor
client_if true number = Some (Client number)
client_if false number = None

clients_place : (first i : ℕ) (scripts : List (List ScriptLine)) → slice_get (clients_from first scripts) i ≡ client_if (is_some (slice_get scripts i)) (first + i)
unfolding clients_from
clients_place first i [] = refl
clients_place first zero (script ∷ scripts) = let same : first + zero ≡ first = omega arith in rw same refl
clients_place first (suc i) (script ∷ scripts) = let next : first + suc i ≡ first + 1 + i = omega arith in rw next (clients_place (first + 1) i scripts)

actor_state_if : (table : List ℕ) (journal : List Entry) (number client : ℕ) (planned : Bool) → number ≡ client → own_actor_state (Client client) (option_map (actor_state_at table journal) (client_if planned number)) ≡ cond planned (Some (actor_state_at table journal (Client client))) None
actor_state_if table journal number client true is = rw is (let same : (client == client) ≡ true = grind (arith, nat_tests) in rw same refl)
actor_state_if table journal number client false is = refl

of_client : (plan : PlanData) (journal : List Entry) (client : ℕ) → own_actor_state (Client client) (slice_get (map (actor_state_at plan.table journal) (actors plan)) (client + 5)) ≡ actor_state_of plan journal (Client client)
unfolding actors
of_client plan journal zero = refl
of_client plan journal (suc client) =
    let place : suc client + 5 ≡ suc (suc (suc (suc (suc (suc client))))) = omega arith in
    let one : (suc client == 0) ≡ false = ne_eqb (suc client) 0 (λ e. omega (arith, e)) in
    let at : suc client - 1 ≡ client = omega arith in
    let number : 1 + client ≡ suc client = omega arith in
    rw (place, slice_get-map (actor_state_at plan.table journal) (clients_from 1 plan.clients) client, clients_place 1 client plan.clients, one, at)
    (actor_state_if plan.table journal (1 + client) (suc client) (is_some (slice_get plan.clients client)) number)

-- *The seat of an actor*
pub actor_state_is : (plan : PlanData) (journal : List Entry) (actor : Actor) → actor_state_in (map (actor_state_at plan.table journal) (actors plan)) actor ≡ actor_state_of plan journal actor
unfolding actors
actor_state_is plan journal Op = refl
actor_state_is plan journal Insp = refl
actor_state_is plan journal Copy = refl
actor_state_is plan journal Apply = refl
actor_state_is plan journal Lock = refl
actor_state_is plan journal Ren = refl
actor_state_is plan journal (Client client) = of_client plan journal client

-- the session of an actor
session_if : (plan : PlanData) (journal : List Entry) (actor : Actor) (planned : Bool) → is_planned plan actor ≡ planned → (planned ≡ false → live_session journal actor ≡ None) → session_of (cond planned (Some (actor_state_at plan.table journal actor)) None) ≡ live_session journal actor
session_if plan journal actor true is strangers = refl
session_if plan journal actor false is strangers = sym (strangers refl)

none_script : (script : Option (List ScriptLine)) → is_some script ≡ false → script ≡ None
none_script None is = refl
none_script (Some script) is = absurd (true≢false is)

stranger : (plan : PlanData) (journal : List Entry) → ((client : ℕ) → script_of client plan ≡ None → live_session journal (Client client) ≡ None) → (actor : Actor) → is_planned plan actor ≡ false → live_session journal actor ≡ None
stranger plan journal strangers Op is = absurd (true≢false is)
stranger plan journal strangers Insp is = absurd (true≢false is)
stranger plan journal strangers Copy is = absurd (true≢false is)
stranger plan journal strangers Apply is = absurd (true≢false is)
stranger plan journal strangers Lock is = absurd (true≢false is)
stranger plan journal strangers Ren is = absurd (true≢false is)
stranger plan journal strangers (Client client) is = strangers client (none_script (script_of client plan) is)

-- *The live session of an actor*
pub session_is : (plan : PlanData) (journal : List Entry) (actor : Actor) → ((client : ℕ) → script_of client plan ≡ None → live_session journal (Client client) ≡ None)
    → session_of (actor_state_in (map (actor_state_at plan.table journal) (actors plan)) actor) ≡ live_session journal actor
session_is plan journal actor strangers =
    ap session_of (actor_state_is plan journal actor) ∙ session_if plan journal actor (is_planned plan actor) refl (stranger plan journal strangers actor)

-- *The seat of an actor that the plan has*
pub planned_actor_state : (plan : PlanData) (journal : List Entry) (actor : Actor) → is_planned plan actor ≡ true → actor_state_in (map (actor_state_at plan.table journal) (actors plan)) actor ≡ Some (actor_state_at plan.table journal actor)
planned_actor_state plan journal actor planned = actor_state_is plan journal actor ∙ rw planned refl

-- whether its request takes the migrated table's name away
pub renames_is : (plan : PlanData) (journal : List Entry) (actor : Actor) → is_planned plan actor ≡ true → renames_of (actor_state_in (map (actor_state_at plan.table journal) (actors plan)) actor) ≡ renames_away plan.table (request_waiting journal actor)
renames_is plan journal actor planned = ap renames_of (planned_actor_state plan journal actor planned)

-- no actor took more turns than the journal has
pub turns_few : (actor : Actor) (journal : List Entry) → turns_of actor journal ≤ length journal
turns_few actor journal = count_by-le-length (λ (e : Entry). same_actor e.actor actor && not (is_cut e.asked)) journal

-- before the first turn
pub free_actor_states : (table : List ℕ) (all : List Actor) → map free_actor_state all ≡ map (actor_state_at table []) all
unfolding live_session request_waiting
free_actor_states table [] = refl
free_actor_states table (actor ∷ all) = ap (λ actor_states. free_actor_state actor ∷ actor_states) (free_actor_states table all)
