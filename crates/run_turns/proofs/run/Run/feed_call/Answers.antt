use Rattle.run_turns.proofs.Steps.{after_moment}
use Rattle.run_turns.proofs.run.Run.feed_call.Goals as goal

pub feed_call-requires-clause-state : goal.feed_call-requires-clause-state
feed_call-requires-clause-state g c = after_moment c.self.inside.run_state.plan.now c.self.inside.run_state.journal.items (g.V.Serve.state c.self.inside.server) c.self.invariant.0.server
