use Rattle.std.proofs.Common.{◌∙◌, ap, List}
use Rattle.run_actors.specs.declared.actor_state.ActorState.{ActorState}
use Rattle.run_state.specs.Books.{actor_state_in, session_of}
use Rattle.run_state.proofs.ActorStates.{session_is}
use Rattle.run_state.proofs.run_state.RunState.session.Goals as goal

pub returns : goal.returns
returns c =
    c.session_kept.ensures
    ∙ ap (λ (actor_states : List ActorState). session_of (actor_state_in actor_states c.args.actor)) c.requires.actor_states
    ∙ session_is c.args.self.now.plan.now c.args.self.now.journal.items c.args.actor c.requires.strangers
