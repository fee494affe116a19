use Rattle.proof_journals.proofs.ServerFacts.Calls.{calls_serve, polls_serve, losses_serve}
use Rattle.law_journals.proofs.server_states.servers_serve.Goals as goal

pub returns-clause-calls : goal.returns-clause-calls
returns-clause-calls c = calls_serve

pub returns-clause-polls : goal.returns-clause-polls
returns-clause-polls c = polls_serve

pub returns-clause-losses : goal.returns-clause-losses
returns-clause-losses c = losses_serve
