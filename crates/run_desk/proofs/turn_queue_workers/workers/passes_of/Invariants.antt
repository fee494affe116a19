-- The passes so far are those of the workers so far.
use Rattle.std.proofs.Common.{◌≡◌, ◌≤◌, length, map, vec_len, vec_capacity}
use Rattle.run_desk.proofs.turn_queue_workers.workers.passes_of.Given as goal

abbrev pub invariant-loop-worker : goal.invariant-loop-worker
invariant-loop-worker g l = record {
  passes : l.passes.items ≡ map (λ worker. worker.pass) l.yielded;
  count : vec_len l.passes ≡ length l.yielded;
  room : length l.fn.workers.items ≤ vec_capacity l.passes;
}
