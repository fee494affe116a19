use Rattle.server_locks.proofs.MetadataLocks.WholeGrants.{grants_whole}
use Rattle.server_locks.proofs.metadata_locks.laws.names_are_granted_whole.Goals as goal

pub returns : goal.returns
returns c = grants_whole
