-- The workers so far have the passes so far.
use Rattle.std.proofs.Common.{◌≡◌, ◌≤◌, length, map, vec_len, vec_capacity}
use Rattle.run_desk.proofs.turn_queue_workers.workers.workers_of.Given as goal

abbrev pub invariant-loop-pass : goal.invariant-loop-pass
invariant-loop-pass g l = record {
  passes : map (λ worker. worker.pass) l.workers.items ≡ l.yielded;
  count : vec_len l.workers ≡ length l.yielded;
  room : length l.fn.passes.items ≤ vec_capacity l.workers;
}
