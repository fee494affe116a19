use Rattle.run_turns.proofs.DueTurns.DueCalls.Telling.{ranges_ahead}
use Rattle.run_turns.proofs.due_turns.due_calls.ranges_are_ahead.Goals as goal

pub returns : goal.returns
returns c = ranges_ahead
