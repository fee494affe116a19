use Rattle.proof_journals.proofs.Ghost.Tooling.{tool_commits_chunk, tool_copied, tool_loses_chunk, tool_repeats_chunk}
use Rattle.law_journals.proofs.ghost_turns.chunks_end.Goals as goal

pub returns-clause-committed : goal.returns-clause-committed
returns-clause-committed c = tool_commits_chunk

pub returns-clause-last : goal.returns-clause-last
returns-clause-last c = tool_copied

pub returns-clause-lost : goal.returns-clause-lost
returns-clause-lost c = tool_loses_chunk

pub returns-clause-repeated : goal.returns-clause-repeated
returns-clause-repeated c = tool_repeats_chunk
