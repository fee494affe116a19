use Rattle.proof_journals.proofs.ServerTurns.Agreements.{rows_stay}
use Rattle.law_journals.proofs.server_turns.rows_stay.Goals as goal

pub returns : goal.returns
returns c = rows_stay
