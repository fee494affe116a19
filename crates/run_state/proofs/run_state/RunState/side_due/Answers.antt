use Rattle.std.proofs.Common.{rules, ◌≡◌, ◌≤◌, ℕ, ◌+◌, ◌∙◌, ap, length, List, arith}
use Rattle.run_actors.specs.declared.actor_state.ActorState.{ActorState}
use Rattle.tool_program.specs.JournalWords.Journals.{turns_of}
use Rattle.tool_program.specs.JournalWords.KeptPlans.{struck_among}
use Rattle.run_state.specs.Books.{actor_state_in, turns_in}
use Rattle.run_state.proofs.ActorStates.{planned_actor_state, turns_few}
use Rattle.run_state.proofs.run_state.RunState.side_due.Goals as goal

turns_are : (c : goal.After-turns_kept-number) → c.turns_kept-number.result ≡ turns_of c.args.actor c.args.self.now.journal.items
turns_are c =
    c.turns_kept-number.ensures
    ∙ ap (λ (actor_states : List ActorState). turns_in (actor_state_in actor_states c.args.actor)) c.requires.run_state.actor_states
    ∙ ap turns_in (planned_actor_state c.args.self.now.plan.now c.args.self.now.journal.items c.args.actor c.requires.planned)

pub overflow_add-number : goal.overflow_add-number
overflow_add-number c =
    let few : turns_of c.args.actor c.args.self.now.journal.items ≤ length c.args.self.now.journal.items = turns_few c.args.actor c.args.self.now.journal.items in
    omega (arith, turns_are c, few, c.requires.run_state.few)

pub returns : goal.returns
returns c =
    let turns : c.turns_kept-number.result ≡ turns_of c.args.actor c.args.self.now.journal.items =
    c.turns_kept-number.ensures
    ∙ ap (λ (actor_states : List ActorState). turns_in (actor_state_in actor_states c.args.actor)) c.requires.run_state.actor_states
    ∙ ap turns_in (planned_actor_state c.args.self.now.plan.now c.args.self.now.journal.items c.args.actor c.requires.planned) in
    let struck : c.struck_among.result ≡ struck_among c.args.actor (c.turns_kept-number.result + 1) c.args.self.now.plan.now.faults = search rules in
    struck ∙ ap (λ (n : ℕ). struck_among c.args.actor (n + 1) c.args.self.now.plan.now.faults) turns
