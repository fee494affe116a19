use Rattle.run_turns.proofs.DueTurns.DueCalls.Asking.{turns_may_be}
use Rattle.run_turns.proofs.due_turns.due_calls.due_turns_may_be.Goals as goal

pub returns : goal.returns
returns c = turns_may_be
