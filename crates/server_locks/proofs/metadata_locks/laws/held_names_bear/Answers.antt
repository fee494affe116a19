use Rattle.server_locks.proofs.MetadataLocks.HeldNames.{held_names_bear}
use Rattle.server_locks.proofs.metadata_locks.laws.held_names_bear.Goals as goal

pub returns : goal.returns
returns c = held_names_bear
