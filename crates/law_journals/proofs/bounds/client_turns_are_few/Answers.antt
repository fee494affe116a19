use Rattle.proof_bounds.proofs.Clients.{client_few}
use Rattle.law_journals.proofs.bounds.client_turns_are_few.Goals as goal

pub returns : goal.returns
returns c = client_few
