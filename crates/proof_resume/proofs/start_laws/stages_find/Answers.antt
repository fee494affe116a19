use Rattle.proof_resume.proofs.Starts.Stages.{reads_answer, stages_find}
use Rattle.proof_resume.proofs.start_laws.stages_find.Goals as goal

pub returns : goal.returns
returns c = record { find = stages_find; reads = reads_answer }
