-- The passes that are left, with the hands of those that are gathered behind them, are all.
use Rattle.std.proofs.Common.{◌≡◌, [], ◌++◌, map, vec_len}
use Rattle.std.specs.Prelude.{All}
use Rattle.run_desk.specs.Turns.{IsOurs}
use Rattle.run_desk.specs.Views.{hand_of}
use Rattle.run_desk.proofs.close.gather.Given as goal

abbrev pub invariant-loop-pass : goal.invariant-loop-pass
invariant-loop-pass g l = record {
  same : l.seat.table_id ≡ l.board.table_id;
  hands : (map (hand_of (g.B.SharedState.opening l.board.key.shared_state.value)) l.passes.items ++ l.seat.me.0 ≡ map (hand_of (g.B.SharedState.opening l.board.key.shared_state.value)) l.fn.passes.items) × (l.seat.me.1 ≡ []);
  ours : All (IsOurs l.board.table_id (g.B.SharedState.opening l.board.key.shared_state.value)) l.passes.items;
}

abbrev pub decreases-loop-pass : goal.decreases-loop-pass
decreases-loop-pass g l = vec_len l.passes
