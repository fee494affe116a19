use Rattle.proof_journals.proofs.Ghost.Starting.{tool_ends}
use Rattle.law_journals.proofs.ghost_turns.copies_end.Goals as goal

pub returns : goal.returns
returns c = tool_ends
