use Rattle.proof_journals.proofs.ServerTurns.Locking.{locks_are_taken}
use Rattle.law_journals.proofs.server_turns.locks_are_taken.Goals as goal

pub returns : goal.returns
returns c = locks_are_taken
