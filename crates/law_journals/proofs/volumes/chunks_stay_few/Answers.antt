use Rattle.proof_bounds.proofs.Volumes.LaterChunks.{stay_few}
use Rattle.law_journals.proofs.volumes.chunks_stay_few.Goals as goal

pub returns : goal.returns
returns c = stay_few c.exclusive_is_alone.ensures c.definitions_are_done.ensures c.waits_are_reported.ensures.reported c.journals_are_turned.ensures
