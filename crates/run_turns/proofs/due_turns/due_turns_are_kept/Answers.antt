use Rattle.run_turns.proofs.DueTurns.Keeping.{turns_kept, turns_numbered}
use Rattle.run_turns.proofs.due_turns.due_turns_are_kept.Goals as goal

pub returns-clause-kept : goal.returns-clause-kept
returns-clause-kept c = turns_kept

pub returns-clause-numbered : goal.returns-clause-numbered
returns-clause-numbered c = turns_numbered
