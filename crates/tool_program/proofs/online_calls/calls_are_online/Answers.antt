use Rattle.tool_program.proofs.OnlineCalls.Given.{given_calls, followed_calls}
use Rattle.tool_program.proofs.online_calls.calls_are_online.Goals as goal

pub returns-clause-given : goal.returns-clause-given
returns-clause-given c = given_calls

pub returns-clause-followed : goal.returns-clause-followed
returns-clause-followed c = followed_calls
