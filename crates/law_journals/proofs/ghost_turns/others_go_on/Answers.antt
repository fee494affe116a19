use Rattle.proof_journals.proofs.Ghost.Tooling.{client_commits, tool_rests, tool_moves}
use Rattle.law_journals.proofs.ghost_turns.others_go_on.Goals as goal

pub returns-clause-committed : goal.returns-clause-committed
returns-clause-committed c = client_commits

pub returns-clause-goes_on : goal.returns-clause-goes_on
returns-clause-goes_on c = tool_rests

pub returns-clause-moved : goal.returns-clause-moved
returns-clause-moved c = tool_moves
