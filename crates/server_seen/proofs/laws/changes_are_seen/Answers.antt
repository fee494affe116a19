use Rattle.server_seen.proofs.SeenChanges.{changes_seen}
use Rattle.server_seen.proofs.laws.changes_are_seen.Goals as goal

pub returns : goal.returns
returns c = changes_seen
