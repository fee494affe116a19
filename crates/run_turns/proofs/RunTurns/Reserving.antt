-- A run with more room in its journal.
use Rattle.std.proofs.Common.{◌≡◌, ◌≤◌, ℕ, List, length, sym, ap, ◌∙◌, subst, arith}
use Rattle.std.specs.Prelude.{Vec, vec_len, vec_capacity}
use Rattle.std.specs.Global.{Global}
use Rattle.server_model.specs.declared.entry.Entry.{Entry}
use Rattle.server_model.specs.States.{State}
use Rattle.plan_data.specs.PlanData.{PlanData}
use Rattle.run_state.specs.declared.run_state.RunState.{RunState}
use Rattle.run_state.proofs.Keeping.{written}
use Rattle.run_turns.specs.RunTurns.Invariants.{IsRun}

pub reserved : (plan : PlanData) (journal : List Entry) (run_state : RunState) (turns : Vec Entry Global) (sessions : ℕ) (server : State) → IsRun plan journal run_state sessions server → vec_len turns ≡ vec_len run_state.journal → vec_capacity run_state.journal ≤ vec_capacity turns
    → IsRun plan journal (record run_state { journal = turns }) sessions server
reserved plan journal run_state turns sessions server run same more = record {
  runs = run.runs;
  kept = run.kept;
  bound = run.bound;
  run_state = written plan journal run_state turns run.run_state;
  room = record { turns = let room : plan.options.turn_limit ≤ vec_capacity run_state.journal = run.room.turns in omega (arith, room, more); count = same ∙ run.room.count; tool = run.room.tool };
  server = run.server;
  made = run.made;
}
