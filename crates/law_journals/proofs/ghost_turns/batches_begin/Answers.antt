use Rattle.proof_journals.proofs.Ghost.Tooling.{tool_reads, tool_passes}
use Rattle.law_journals.proofs.ghost_turns.batches_begin.Goals as goal

pub returns-clause-read : goal.returns-clause-read
returns-clause-read c = tool_reads

pub returns-clause-passed : goal.returns-clause-passed
returns-clause-passed c = tool_passes
