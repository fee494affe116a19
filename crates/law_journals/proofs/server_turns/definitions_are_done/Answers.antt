use Rattle.proof_journals.proofs.ServerTurns.Defining.{definitions_are_done}
use Rattle.law_journals.proofs.server_turns.definitions_are_done.Goals as goal

pub returns : goal.returns
returns c = definitions_are_done
