use Rattle.proof_journals.proofs.Ghost.Starting.{chunk_reported, key_reported}
use Rattle.proof_journals.proofs.Ghost.Tooling.{tool_begins, tool_copies}
use Rattle.law_journals.proofs.ghost_turns.rows_are_copied.Goals as goal

pub returns-clause-reported : goal.returns-clause-reported
returns-clause-reported c = chunk_reported

pub returns-clause-begun : goal.returns-clause-begun
returns-clause-begun c = tool_begins

pub returns-clause-stands : goal.returns-clause-stands
returns-clause-stands c = key_reported

pub returns-clause-copied : goal.returns-clause-copied
returns-clause-copied c = tool_copies
