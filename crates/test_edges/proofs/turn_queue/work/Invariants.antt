-- The pass stays the desk's.
use Rattle.run_desk.specs.Turns.{IsPassOf}
use Rattle.test_edges.proofs.turn_queue.work.Given as goal

abbrev pub invariant-loop : goal.invariant-loop
invariant-loop g l = IsPassOf l.turn_queue l.pass
