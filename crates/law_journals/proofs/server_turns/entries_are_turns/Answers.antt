use Rattle.proof_journals.proofs.ServerTurns.Others.{entries_are_turns}
use Rattle.law_journals.proofs.server_turns.entries_are_turns.Goals as goal

pub returns : goal.returns
returns c = entries_are_turns
