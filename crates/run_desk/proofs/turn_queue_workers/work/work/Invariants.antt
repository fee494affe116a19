-- The pass stays the worker's.
use Rattle.run_desk.specs.Turns.{IsSamePass}
use Rattle.run_desk.proofs.turn_queue_workers.work.work.Given as goal

abbrev pub invariant-loop : goal.invariant-loop
invariant-loop g l = IsSamePass l.fn.pass l.pass
