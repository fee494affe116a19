use Rattle.proof_journals.proofs.ServerTurns.Holding.{states_hold}
use Rattle.law_journals.proofs.server_turns.states_hold.Goals as goal

pub returns : goal.returns
returns c = states_hold
