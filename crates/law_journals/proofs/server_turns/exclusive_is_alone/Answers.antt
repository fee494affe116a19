use Rattle.proof_journals.proofs.ServerTurns.Alone.{exclusive_is_alone}
use Rattle.law_journals.proofs.server_turns.exclusive_is_alone.Goals as goal

pub returns : goal.returns
returns c = exclusive_is_alone
