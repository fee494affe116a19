use Rattle.proof_journals.proofs.Ghost.Starting.{tool_starts, tool_starts_empty}
use Rattle.law_journals.proofs.ghost_turns.copies_start.Goals as goal

pub returns-clause-started : goal.returns-clause-started
returns-clause-started c = tool_starts

pub returns-clause-empty : goal.returns-clause-empty
returns-clause-empty c = tool_starts_empty
