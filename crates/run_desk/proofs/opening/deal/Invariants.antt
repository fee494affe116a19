-- The passes so far, and the seat with the hands of the others.
use Rattle.std.proofs.Common.{◌≡◌, ◌-◌, ◌≤◌, [], ◌++◌, map, vec_len, vec_capacity}
use Rattle.run_desk.specs.Rule.{newcomer}
use Rattle.run_desk.specs.Turns.{TurnQueueView, numbers_from, first_pass, first_passes}
use Rattle.run_desk.proofs.opening.deal.Given as goal

abbrev pub invariant-loop-number : goal.invariant-loop-number
invariant-loop-number g l =
    let o = g.B.SharedState.opening l.board.key.shared_state.value in
    let turn_queue : TurnQueueView g.row.B-Opening.Denot = record { table = l.board.table_id; opening = o; workers = l.workers } in
    record {
      same : l.seat.table_id ≡ l.board.table_id;
      hands : l.seat.me ≡ (map (newcomer o) (numbers_from l.number (l.workers - l.number)), []);
      dealt : l.passes.items ++ map (first_pass turn_queue) (numbers_from l.number (l.workers - l.number)) ≡ first_passes turn_queue;
      count : vec_len l.passes ≡ l.number;
      room : l.workers ≤ vec_capacity l.passes;
    }
