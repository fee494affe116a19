use Rattle.proof_journals.proofs.ServerTurns.Agreements.{others_agree_law}
use Rattle.law_journals.proofs.server_turns.others_agree.Goals as goal

pub returns : goal.returns
returns c = others_agree_law
