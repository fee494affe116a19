use Rattle.run_turns.proofs.InHand.{left_after}
use Rattle.run_turns.proofs.Steps.{after_moment}
use Rattle.run_turns.proofs.run.Run.step.Goals as goal

pub next_turn-requires-clause-state : goal.next_turn-requires-clause-state
next_turn-requires-clause-state g c = after_moment c.self.inside.run_state.plan.now c.self.inside.run_state.journal.items (g.V.Serve.state c.self.inside.server) c.self.invariant.0.server

pub invariant_of-self-2 : goal.invariant_of-self-2
invariant_of-self-2 g c =
    let before = c.self.inside in
    let after = c.take.new.run_state in
    (c.take.ensures.run, left_after before.run_state.plan.now after.plan.now before.run_state.journal.items after.journal.items (g.V.Serve.state before.server) c.in-Ok.turn c.turn_of.new.renames.items c.in-Ok.ensures.left c.take.ensures.plan c.in-Ok-take.ensures.journal)
