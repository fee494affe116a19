use Rattle.proof_journals.proofs.ServerFacts.Calls.{opened_serves, connected_serves}
use Rattle.law_journals.proofs.server_states.servers_open.Goals as goal

pub returns-clause-opened : goal.returns-clause-opened
returns-clause-opened c = opened_serves

pub returns-clause-connected : goal.returns-clause-connected
returns-clause-connected c = connected_serves
