use Rattle.proof_journals.proofs.ServerTurns.Agreements.{others_stay_law}
use Rattle.law_journals.proofs.server_turns.others_stay.Goals as goal

pub returns : goal.returns
returns c = others_stay_law
