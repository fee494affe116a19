use Rattle.server_log.proofs.ReadBack.{reads_back}
use Rattle.server_log.proofs.laws.what_is_written_is_read.Goals as goal

pub returns : goal.returns
returns c = reads_back
