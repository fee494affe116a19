use Rattle.proof_journals.proofs.Ghost.Tooling.{tool_commits_batch, tool_repeats_batch, tool_loses_batch}
use Rattle.law_journals.proofs.ghost_turns.batches_end.Goals as goal

pub returns-clause-committed : goal.returns-clause-committed
returns-clause-committed c = tool_commits_batch

pub returns-clause-repeated : goal.returns-clause-repeated
returns-clause-repeated c = tool_repeats_batch

pub returns-clause-lost : goal.returns-clause-lost
returns-clause-lost c = tool_loses_batch
