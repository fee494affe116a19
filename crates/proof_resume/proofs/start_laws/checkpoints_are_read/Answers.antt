use Rattle.proof_resume.proofs.Starts.Reading.{checkpoints_are_read, found_is_behind}
use Rattle.proof_resume.proofs.start_laws.checkpoints_are_read.Goals as goal

pub returns : goal.returns
returns c = record { read = checkpoints_are_read; found = found_is_behind }
