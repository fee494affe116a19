use Rattle.proof_journals.proofs.ServerTurns.Beginning.{spans_are_held}
use Rattle.law_journals.proofs.server_turns.spans_are_held.Goals as goal

pub returns : goal.returns
returns c = spans_are_held
