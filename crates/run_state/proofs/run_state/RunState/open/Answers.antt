use Rattle.std.proofs.Common.{rules, refl}
use Rattle.run_state.proofs.Keeping.{run_state_begin, room_begin}
use Rattle.run_state.proofs.run_state.RunState.open.Goals as goal

pub returns-clause-run_state : goal.returns-clause-run_state
returns-clause-run_state c = run_state_begin c.args.plan.now _ c.in_ok-new.ensures.new c.in_ok-new.ensures.sound (search rules) (search rules) (search rules) (search rules) refl refl refl

pub returns-clause-room : goal.returns-clause-room
returns-clause-room c = room_begin c.args.plan.now _ (search rules) (search rules) c.in_ok-new.ensures.space
